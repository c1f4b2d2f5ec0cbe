use Rattle.std.proofs.Common.{◌≡◌, ◌+◌, ◌-◌, suc, length, drop, take, ap, sym, subst, ◌∙◌, arith, rules}
use Rattle.stream_arrays.specs.Answers.{IsArrayCause}
use Rattle.stream_arrays.specs.Reading.{known, adding}
use Rattle.stream_arrays.specs.Written as spec
use Rattle.stream_arrays.proofs.Arguments.{argument_fault, last_argument, next_argument}
use Rattle.tapa_parse_expression.proofs.Turns.{one_more}
use Rattle.stream_arrays.proofs.counted.push_arguments.Goals as goal

pub loop-turn-init : goal.loop-turn-init
loop-turn-init c =
    ap (λ n. spec.pieces_from c.args.text.now (known c.args.scope.now) c.args.count n c.args.pieces.now.items c.args.inside.now)
    (let e : suc (length c.args.inside.now) ≡ length c.args.inside.now + 1 - 0 = omega arith in e)

pub returns-in_err-push_argument : goal.returns-in_err-push_argument
returns-in_err-push_argument c =
    let text = c.args.text.now in
    let s = known c.args.scope.now in
    let e = one_more (λ n. spec.pieces_from text s c.args.count n c.loop-turn.pieces.items c.loop-turn.rest.now) _ c.loop-turn.turn c.loop-turn-test.true c.loop-turn.invariant in
    let h : IsArrayCause c.in_err-push_argument.field-0.0 (adding c.loop-turn.pieces.items (spec.argument_pieces text s c.args.count (take c.argument_size-size.result c.loop-turn.rest.now))) =
    subst (λ z. IsArrayCause c.in_err-push_argument.field-0.0 (adding c.loop-turn.pieces.items (spec.argument_pieces text s c.args.count z))) c.front.ensures c.in_err-push_argument.ensures in
    let k : IsArrayCause c.in_err-push_argument.field-0.0 (spec.pieces_from text s c.args.count (suc (length c.args.inside.now)) c.args.pieces.now.items c.args.inside.now) =
    subst (λ o. IsArrayCause c.in_err-push_argument.field-0.0 o) (sym e)
    (argument_fault text s c.args.count (length c.args.inside.now + 1 - (c.loop-turn.turn + 1)) c.loop-turn.pieces.items c.loop-turn.rest.now c.argument_size-size.result c.in_err-push_argument.field-0.0 c.argument_size-size.ensures h) in
    search rules

pub returns-then-size-rest : goal.returns-then-size-rest
returns-then-size-rest c =
    let text = c.args.text.now in
    let s = known c.args.scope.now in
    let e = one_more (λ n. spec.pieces_from text s c.args.count n c.loop-turn.pieces.items c.loop-turn.rest.now) _ c.loop-turn.turn c.loop-turn-test.true c.loop-turn.invariant in
    e
    ∙ last_argument text s c.args.count _ c.loop-turn.pieces.items c.loop-turn.rest.now c.argument_size-size.result _ c.argument_size-size.ensures (omega arith)
    (ap (λ z. adding c.loop-turn.pieces.items (spec.argument_pieces text s c.args.count z)) (sym c.front.ensures) ∙ c.in_ok-push_argument.ensures)

pub loop-turn-preserved : goal.loop-turn-preserved
loop-turn-preserved c =
    let text = c.args.text.now in
    let s = known c.args.scope.now in
    let e = one_more (λ n. spec.pieces_from text s c.args.count n c.loop-turn.pieces.items c.loop-turn.rest.now) _ c.loop-turn.turn c.loop-turn-test.true c.loop-turn.invariant in
    e
    ∙ next_argument text s c.args.count _ c.loop-turn.pieces.items c.loop-turn.rest.now c.argument_size-size.result _ c.argument_size-size.ensures (omega arith)
    (ap (λ z. adding c.loop-turn.pieces.items (spec.argument_pieces text s c.args.count z)) (sym c.front.ensures) ∙ c.in_ok-push_argument.ensures)
    ∙ ap (λ z. spec.pieces_from text s c.args.count (length c.args.inside.now + 1 - (c.loop-turn.turn + 1)) z (drop (c.argument_size-size.result + 1) c.loop-turn.rest.now)) (sym c.in_ok-push.ensures.items)
    ∙ ap (λ z. spec.pieces_from text s c.args.count (length c.args.inside.now + 1 - (c.loop-turn.turn + 1)) c.push.new.self.items z) (sym c.behind-rest.ensures)
