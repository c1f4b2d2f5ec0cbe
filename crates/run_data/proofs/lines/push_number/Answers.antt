use Rattle.std.proofs.Common.{◌≡◌, ◌+◌, ◌-◌, ◌++◌, ◌∷◌, drop, set, take_all, length-drop, ap, ◌∙◌, arith, rules, append-nil}
use Rattle.std.specs.Fmt.{decimal}
use Rattle.std.proofs.lemmas.Fmt.{length-decimal-le}
use Rattle.std.proofs.lemmas.List.{drop-set, drop_all, length-set}
use Rattle.run_data.proofs.lines.push_number.Goals as goal

pub write_digits-start-requires : goal.write_digits-start-requires
write_digits-start-requires c = let long = length-decimal-le 20 c.args.number (omega arith) (omega arith) c.ranges.number.fits in (omega arith, search rules)

pub overflow_sub-start : goal.overflow_sub-start
overflow_sub-start c = omega (arith, length-decimal-le 20 c.args.number (omega arith) (omega arith) c.ranges.number.fits)

pub returns : goal.returns
returns c =
    let w = c.write_digits-start in
    let long = length-decimal-le 20 c.args.number (omega arith) (omega arith) c.ranges.number.fits in
    let e : w.result - 1 + 1 ≡ w.result = omega arith in
    let digits : drop w.result w.new.buf ≡ decimal c.args.number = w.ensures.written ∙ ap (λ l. decimal c.args.number ++ l) (drop_all 21 c.args.buffer.now (omega arith)) ∙ append-nil (decimal c.args.number) in
    let text : drop (w.result - 1) (set w.new.buf (w.result - 1) 32) ≡ 32 ∷ decimal c.args.number = drop-set w.new.buf (w.result - 1) 32 (omega arith) ∙ ap (λ k. 32 ∷ drop k w.new.buf) e ∙ ap (λ l. 32 ∷ l) digits in
    let all = take_all (21 - (w.result - 1)) (drop (w.result - 1) (set w.new.buf (w.result - 1) 32)) (omega (arith, length-drop (w.result - 1) (set w.new.buf (w.result - 1) 32), length-set w.new.buf (w.result - 1) 32)) in
    c.in_ok-extend_from_slice.ensures.items ∙ ap (λ l. c.args.line.now.items ++ l) (all ∙ text)
