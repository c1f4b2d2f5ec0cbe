use Rattle.std.proofs.Common.{◌+◌, ◌-◌, ◌∷◌, drop, ℕ, sym, ap, refl, ◌∙◌, subst, arith}
use Rattle.std.specs.Prelude.{◌≢◌, Vec}
use Rattle.std.specs.declared.alloc.Global.{Global}
use Rattle.std.proofs.lemmas.Result.{IfOk-weaker, IfErr-weaker, err_from_is_err_and}
use Rattle.std.proofs.lemmas.List.{drop_more}
use Rattle.tapa_syntax.specs.LeafKinds.{kinds_of}
use Rattle.kahn_reference.specs.declared.slow.Flow.TheVariants.{Next, Out, Again, Stopped as StoppedFlow}
use Rattle.kahn_reference.specs.declared.slow.Turn.TheVariants.{On, Over, Stopped as StoppedTurn}
use Rattle.kahn_reference.specs.Slow.{point, numbers, feed, state_of, GivesFlow, turn_of, loop_of, turn_left}
use Rattle.kahn_model.specs.Trace.{statements, stmt}
use Rattle.kahn_reference.proofs.SlowFlows.{turn_begins, turn_stops, turn_out, turn_next, turn_again, turn_at, flow_at, flow_after, if_begins, code_at_zero, code_not_zero, block_step, block_leaves, loop_on, loop_over, loop_stops}
use Rattle.kahn_reference.proofs.SlowStatements.{clear_goes}
use Rattle.tapa_syntax.specs.Typed.{IsTyped, IsTypedCode}
use Rattle.kahn_reference.specs.declared.slow.Fault.{Fault}
use Rattle.kahn_reference.specs.declared.slow.Fault.TheVariants.{NotOfItsKind}
use Rattle.kahn_reference.specs.Kept.{StandsFit, FlowFits}
use Rattle.kahn_reference.proofs.Kept.{flow_fits, turn_fits, turn_of_flow, still, stands, typed_if, typed_loop, typed_next}
use Rattle.kahn_reference.proofs.slow.+statements.Goals as goal

pub run_stmt-returns-in_ok-clear-in-Clear-clause-flow : goal.run_stmt-returns-in_ok-clear-in-Clear-clause-flow
run_stmt-returns-in_ok-clear-in-Clear-clause-flow t c =
    clear_goes (numbers c.args.streams.now) (kinds_of c.args.leaf.now) c.args.n c.args.s.now c.in-Clear.a (point c.args.lists.now c.args.run.now) (point c.args.lists.now c.clear.new.run) c.in-Clear.is c.in_ok-clear-in-Clear.ensures.ticks (ap (λ (v : Vec ℕ Global). feed c.args.lists.now v.items) c.in_ok-clear-in-Clear.ensures.heads) c.in_ok-clear-in-Clear.ensures.state

pub run_stmt-returns-then-v-eq0-clause-flow : goal.run_stmt-returns-then-v-eq0-clause-flow
run_stmt-returns-then-v-eq0-clause-flow t c =
    IfOk-weaker c.run_block.result
    (λ x. GivesFlow (numbers c.args.streams.now) x (point c.args.lists.now c.note-in-Given.new.run) (statements (kinds_of c.args.leaf.now) c.args.n c.deref.result.now (state_of c.note-in-Given.new.run.state)) (point c.args.lists.now c.run_block.new.run))
    (λ x. GivesFlow (numbers c.args.streams.now) x (point c.args.lists.now c.args.run.now) (stmt (kinds_of c.args.leaf.now) c.args.n c.args.s.now (state_of c.args.run.now.state)) (point c.args.lists.now c.run_block.new.run))
    (λ x h. flow_after (numbers c.args.streams.now) x (point c.args.lists.now c.args.run.now) (point c.args.lists.now c.note-in-Given.new.run) (point c.args.lists.now c.run_block.new.run) (stmt (kinds_of c.args.leaf.now) c.args.n c.args.s.now (state_of c.args.run.now.state)) (statements (kinds_of c.args.leaf.now) c.args.n c.deref.result.now (state_of c.note-in-Given.new.run.state))
    (if_begins (numbers c.args.streams.now) (kinds_of c.args.leaf.now) c.args.n c.args.s.now c.in-If.e c.in-If.left c.in-If.right c.deref.result.now (point c.args.lists.now c.args.run.now) (point c.args.lists.now c.run_expr.new.run) (point c.args.lists.now c.note-in-Given.new.run) c.in_ok-m-in-If.field-0 c.in-Given.v c.in-If.is c.in-Given.is c.in_ok-m-in-If.ensures.value c.in_ok-note-in-Given.ensures.ticks (ap (λ (v : Vec ℕ Global). feed c.args.lists.now v.items) c.in_ok-note-in-Given.ensures.heads) (ap state_of (sym (c.in_ok-note-in-Given.ensures.state ∙ c.in_ok-m-in-If.ensures.state))) (code_at_zero c.in-Given.v c.in-If.right.items c.in-If.left.items c.if-v-eq0.true ∙ sym c.deref.ensures.value))
    h)
    c.run_block.ensures.flow

pub run_stmt-returns-else-v-eq0-clause-flow : goal.run_stmt-returns-else-v-eq0-clause-flow
run_stmt-returns-else-v-eq0-clause-flow t c =
    IfOk-weaker c.run_block-else-v-eq0.result
    (λ x. GivesFlow (numbers c.args.streams.now) x (point c.args.lists.now c.note-in-Given.new.run) (statements (kinds_of c.args.leaf.now) c.args.n c.deref-else-v-eq0.result.now (state_of c.note-in-Given.new.run.state)) (point c.args.lists.now c.run_block-else-v-eq0.new.run))
    (λ x. GivesFlow (numbers c.args.streams.now) x (point c.args.lists.now c.args.run.now) (stmt (kinds_of c.args.leaf.now) c.args.n c.args.s.now (state_of c.args.run.now.state)) (point c.args.lists.now c.run_block-else-v-eq0.new.run))
    (λ x h. flow_after (numbers c.args.streams.now) x (point c.args.lists.now c.args.run.now) (point c.args.lists.now c.note-in-Given.new.run) (point c.args.lists.now c.run_block-else-v-eq0.new.run) (stmt (kinds_of c.args.leaf.now) c.args.n c.args.s.now (state_of c.args.run.now.state)) (statements (kinds_of c.args.leaf.now) c.args.n c.deref-else-v-eq0.result.now (state_of c.note-in-Given.new.run.state))
    (if_begins (numbers c.args.streams.now) (kinds_of c.args.leaf.now) c.args.n c.args.s.now c.in-If.e c.in-If.left c.in-If.right c.deref-else-v-eq0.result.now (point c.args.lists.now c.args.run.now) (point c.args.lists.now c.run_expr.new.run) (point c.args.lists.now c.note-in-Given.new.run) c.in_ok-m-in-If.field-0 c.in-Given.v c.in-If.is c.in-Given.is c.in_ok-m-in-If.ensures.value c.in_ok-note-in-Given.ensures.ticks (ap (λ (v : Vec ℕ Global). feed c.args.lists.now v.items) c.in_ok-note-in-Given.ensures.heads) (ap state_of (sym (c.in_ok-note-in-Given.ensures.state ∙ c.in_ok-m-in-If.ensures.state))) (code_not_zero c.in-Given.v c.in-If.right.items c.in-If.left.items c.if-v-eq0.false ∙ sym c.deref-else-v-eq0.ensures.value))
    h)
    c.run_block-else-v-eq0.ensures.flow

pub run_turn-returns-in-Stopped-2-clause-turn : goal.run_turn-returns-in-Stopped-2-clause-turn
run_turn-returns-in-Stopped-2-clause-turn t c =
    turn_stops (numbers c.args.streams.now) (kinds_of c.args.leaf.now) c.args.n c.deref.result.now c.in-Loop.step.items (turn_of (kinds_of c.args.leaf.now) c.args.n c.args.s.now (state_of c.args.run.now.state)) c.in-Stopped-2.m (point c.args.lists.now c.args.run.now) (point c.args.lists.now c.note.new.run) (point c.args.lists.now c.run_block.new.run)
    (turn_begins (numbers c.args.streams.now) (kinds_of c.args.leaf.now) c.args.n c.args.s.now c.in-Loop.test c.in-Loop.body c.in-Loop.step c.deref.result.now c.in-Loop.step.items (point c.args.lists.now c.args.run.now) (point c.args.lists.now c.run_expr.new.run) (point c.args.lists.now c.note.new.run) c.in_ok-m-in-Loop.field-0 c.in-Given.v c.in-Loop.is c.in-Given.is c.in_ok-m-in-Loop.ensures.value c.in_ok-note-in-Given.ensures.ticks (ap (λ (v : Vec ℕ Global). feed c.args.lists.now v.items) c.in_ok-note-in-Given.ensures.heads) (ap state_of (sym (c.in_ok-note-in-Given.ensures.state ∙ c.in_ok-m-in-Loop.ensures.state))) (sym c.deref.ensures.value) refl c.if-v-eq0.false)
    (flow_at (numbers c.args.streams.now) c.in_ok-m-in-Given.field-0 (StoppedFlow c.in-Stopped-2.m) (point c.args.lists.now c.note.new.run) (point c.args.lists.now c.run_block.new.run) (statements (kinds_of c.args.leaf.now) c.args.n c.deref.result.now (state_of c.note.new.run.state)) c.in-Stopped-2.is c.in_ok-m-in-Given.ensures.flow)

pub run_turn-returns-in-Out-clause-turn : goal.run_turn-returns-in-Out-clause-turn
run_turn-returns-in-Out-clause-turn t c =
    turn_out (numbers c.args.streams.now) (kinds_of c.args.leaf.now) c.args.n c.deref.result.now c.in-Loop.step.items (turn_of (kinds_of c.args.leaf.now) c.args.n c.args.s.now (state_of c.args.run.now.state)) (point c.args.lists.now c.args.run.now) (point c.args.lists.now c.note.new.run) (point c.args.lists.now c.run_block.new.run)
    (turn_begins (numbers c.args.streams.now) (kinds_of c.args.leaf.now) c.args.n c.args.s.now c.in-Loop.test c.in-Loop.body c.in-Loop.step c.deref.result.now c.in-Loop.step.items (point c.args.lists.now c.args.run.now) (point c.args.lists.now c.run_expr.new.run) (point c.args.lists.now c.note.new.run) c.in_ok-m-in-Loop.field-0 c.in-Given.v c.in-Loop.is c.in-Given.is c.in_ok-m-in-Loop.ensures.value c.in_ok-note-in-Given.ensures.ticks (ap (λ (v : Vec ℕ Global). feed c.args.lists.now v.items) c.in_ok-note-in-Given.ensures.heads) (ap state_of (sym (c.in_ok-note-in-Given.ensures.state ∙ c.in_ok-m-in-Loop.ensures.state))) (sym c.deref.ensures.value) refl c.if-v-eq0.false)
    (flow_at (numbers c.args.streams.now) c.in_ok-m-in-Given.field-0 Out (point c.args.lists.now c.note.new.run) (point c.args.lists.now c.run_block.new.run) (statements (kinds_of c.args.leaf.now) c.args.n c.deref.result.now (state_of c.note.new.run.state)) c.in-Out.is c.in_ok-m-in-Given.ensures.flow)

pub run_turn-returns-in_ok-run_block-in-Next-clause-turn : goal.run_turn-returns-in_ok-run_block-in-Next-clause-turn
run_turn-returns-in_ok-run_block-in-Next-clause-turn t c =
    turn_at (numbers c.args.streams.now) (turn_left c.in_ok-run_block-in-Next.field-0) _ (point c.args.lists.now c.args.run.now) (point c.args.lists.now c.run_block-in-Next.new.run) (turn_of (kinds_of c.args.leaf.now) c.args.n c.args.s.now (state_of c.args.run.now.state)) (sym c.turn_after.ensures)
    (turn_next (numbers c.args.streams.now) (kinds_of c.args.leaf.now) c.args.n c.deref.result.now c.deref-in-Next.result.now (turn_of (kinds_of c.args.leaf.now) c.args.n c.args.s.now (state_of c.args.run.now.state)) (point c.args.lists.now c.args.run.now) (point c.args.lists.now c.note.new.run) (point c.args.lists.now c.run_block.new.run) (point c.args.lists.now c.run_block-in-Next.new.run) c.in_ok-run_block-in-Next.field-0
    (turn_begins (numbers c.args.streams.now) (kinds_of c.args.leaf.now) c.args.n c.args.s.now c.in-Loop.test c.in-Loop.body c.in-Loop.step c.deref.result.now c.deref-in-Next.result.now (point c.args.lists.now c.args.run.now) (point c.args.lists.now c.run_expr.new.run) (point c.args.lists.now c.note.new.run) c.in_ok-m-in-Loop.field-0 c.in-Given.v c.in-Loop.is c.in-Given.is c.in_ok-m-in-Loop.ensures.value c.in_ok-note-in-Given.ensures.ticks (ap (λ (v : Vec ℕ Global). feed c.args.lists.now v.items) c.in_ok-note-in-Given.ensures.heads) (ap state_of (sym (c.in_ok-note-in-Given.ensures.state ∙ c.in_ok-m-in-Loop.ensures.state))) (sym c.deref.ensures.value) (sym c.deref-in-Next.ensures.value) c.if-v-eq0.false)
    (flow_at (numbers c.args.streams.now) c.in_ok-m-in-Given.field-0 Next (point c.args.lists.now c.note.new.run) (point c.args.lists.now c.run_block.new.run) (statements (kinds_of c.args.leaf.now) c.args.n c.deref.result.now (state_of c.note.new.run.state)) c.in-Next.is c.in_ok-m-in-Given.ensures.flow)
    c.in_ok-run_block-in-Next.ensures.flow)

pub run_turn-returns-in_ok-run_block-in-Again-clause-turn : goal.run_turn-returns-in_ok-run_block-in-Again-clause-turn
run_turn-returns-in_ok-run_block-in-Again-clause-turn t c =
    turn_at (numbers c.args.streams.now) (turn_left c.in_ok-run_block-in-Again.field-0) _ (point c.args.lists.now c.args.run.now) (point c.args.lists.now c.run_block-in-Again.new.run) (turn_of (kinds_of c.args.leaf.now) c.args.n c.args.s.now (state_of c.args.run.now.state)) (sym c.turn_after-in-Again.ensures)
    (turn_again (numbers c.args.streams.now) (kinds_of c.args.leaf.now) c.args.n c.deref.result.now c.deref-in-Again.result.now (turn_of (kinds_of c.args.leaf.now) c.args.n c.args.s.now (state_of c.args.run.now.state)) (point c.args.lists.now c.args.run.now) (point c.args.lists.now c.note.new.run) (point c.args.lists.now c.run_block.new.run) (point c.args.lists.now c.run_block-in-Again.new.run) c.in_ok-run_block-in-Again.field-0
    (turn_begins (numbers c.args.streams.now) (kinds_of c.args.leaf.now) c.args.n c.args.s.now c.in-Loop.test c.in-Loop.body c.in-Loop.step c.deref.result.now c.deref-in-Again.result.now (point c.args.lists.now c.args.run.now) (point c.args.lists.now c.run_expr.new.run) (point c.args.lists.now c.note.new.run) c.in_ok-m-in-Loop.field-0 c.in-Given.v c.in-Loop.is c.in-Given.is c.in_ok-m-in-Loop.ensures.value c.in_ok-note-in-Given.ensures.ticks (ap (λ (v : Vec ℕ Global). feed c.args.lists.now v.items) c.in_ok-note-in-Given.ensures.heads) (ap state_of (sym (c.in_ok-note-in-Given.ensures.state ∙ c.in_ok-m-in-Loop.ensures.state))) (sym c.deref.ensures.value) (sym c.deref-in-Again.ensures.value) c.if-v-eq0.false)
    (flow_at (numbers c.args.streams.now) c.in_ok-m-in-Given.field-0 Again (point c.args.lists.now c.note.new.run) (point c.args.lists.now c.run_block.new.run) (statements (kinds_of c.args.leaf.now) c.args.n c.deref.result.now (state_of c.note.new.run.state)) c.in-Again.is c.in_ok-m-in-Given.ensures.flow)
    c.in_ok-run_block-in-Again.ensures.flow)

pub run_block-loop-s-preserved : goal.run_block-loop-s-preserved
run_block-loop-s-preserved t c =
    record {
      heads = c.in_ok-flow.ensures.heads;
      goes = λ go out again. block_step (numbers c.args.streams.now) (kinds_of c.args.leaf.now) c.args.n (statements (kinds_of c.args.leaf.now) c.args.n c.args.code.now (state_of c.args.run.now.state) go out again) (drop c.loop-s.s-index c.args.code.now) (drop (c.loop-s.s-index + 1) c.args.code.now) c.s-item.result (point c.args.lists.now c.args.run.now) (point c.args.lists.now c.loop-s.run) (point c.args.lists.now c.run_stmt.new.run) go out again (c.loop-s.invariant.goes go out again) (drop_more c.args.code.now c.loop-s.s-index c.s-item.result c.loop-s-test.true ∙ ap (λ x. x ∷ drop (c.loop-s.s-index + 1) c.args.code.now) (sym c.s-item.is))
          (flow_at (numbers c.args.streams.now) c.in_ok-flow.flow Next (point c.args.lists.now c.loop-s.run) (point c.args.lists.now c.run_stmt.new.run) (stmt (kinds_of c.args.leaf.now) c.args.n c.s-item.result (state_of c.loop-s.run.state)) c.in-Next.is c.in_ok-flow.ensures.flow);
      fits = λ w g.
          let i = c.loop-s.invariant.fits w g in
          let n = typed_next (kinds_of c.args.leaf.now) (drop c.loop-s.s-index c.args.code.now) (drop (c.loop-s.s-index + 1) c.args.code.now) c.s-item.result (drop_more c.args.code.now c.loop-s.s-index c.s-item.result c.loop-s-test.true ∙ ap (λ x. x ∷ drop (c.loop-s.s-index + 1) c.args.code.now) (sym c.s-item.is)) i.0 in
          let s = stands (kinds_of c.args.leaf.now) c.args.streams.now c.args.lists.now (state_of c.args.run.now.state) (state_of c.loop-s.run.state) g i.1 in
          (n.1, flow_fits (kinds_of c.args.leaf.now) (state_of c.run_stmt.new.run.state) c.in_ok-flow.flow Next c.in-Next.is (c.in_ok-flow.ensures.fits n.0 s));
    }

pub run_block-returns-in_default : goal.run_block-returns-in_default
run_block-returns-in_default t c =
    record {
      heads = c.in_ok-flow.ensures.heads;
      flow = block_leaves (numbers c.args.streams.now) (kinds_of c.args.leaf.now) c.args.n c.args.code.now (drop c.loop-s.s-index c.args.code.now) (drop (c.loop-s.s-index + 1) c.args.code.now) c.s-item.result (point c.args.lists.now c.args.run.now) (point c.args.lists.now c.loop-s.run) (point c.args.lists.now c.run_stmt.new.run) c.in_ok-flow.flow c.in_default.not-Next c.loop-s.invariant.goes (drop_more c.args.code.now c.loop-s.s-index c.s-item.result c.loop-s-test.true ∙ ap (λ x. x ∷ drop (c.loop-s.s-index + 1) c.args.code.now) (sym c.s-item.is)) c.in_ok-flow.ensures.flow;
      fits = λ w g.
          let i = c.loop-s.invariant.fits w g in
          let n = typed_next (kinds_of c.args.leaf.now) (drop c.loop-s.s-index c.args.code.now) (drop (c.loop-s.s-index + 1) c.args.code.now) c.s-item.result (drop_more c.args.code.now c.loop-s.s-index c.s-item.result c.loop-s-test.true ∙ ap (λ x. x ∷ drop (c.loop-s.s-index + 1) c.args.code.now) (sym c.s-item.is)) i.0 in
          let s = stands (kinds_of c.args.leaf.now) c.args.streams.now c.args.lists.now (state_of c.args.run.now.state) (state_of c.loop-s.run.state) g i.1 in
          c.in_ok-flow.ensures.fits n.0 s;
      cause = tt;
    }

pub run_loop-loop-turn-preserved : goal.run_loop-loop-turn-preserved
run_loop-loop-turn-preserved t c =
    record {
      heads = c.in_ok-run_turn.ensures.heads;
      goes = λ go out again. loop_on (numbers c.args.streams.now) (kinds_of c.args.leaf.now) c.args.n (c.args.n - c.loop-turn._turn) (c.args.n - (c.loop-turn._turn + 1)) (loop_of (kinds_of c.args.leaf.now) c.args.n c.args.n c.args.s.now (state_of c.args.run.now.state) go out again) c.args.s.now (point c.args.lists.now c.args.run.now) (point c.args.lists.now c.loop-turn.run) (point c.args.lists.now c.run_turn.new.run) go out again (c.loop-turn.invariant.goes go out again) (omega arith) (turn_at (numbers c.args.streams.now) c.in_ok-run_turn.field-0 On (point c.args.lists.now c.loop-turn.run) (point c.args.lists.now c.run_turn.new.run) (turn_of (kinds_of c.args.leaf.now) c.args.n c.args.s.now (state_of c.loop-turn.run.state)) c.in-On.is c.in_ok-run_turn.ensures.turn);
      fits = λ w g. turn_fits (kinds_of c.args.leaf.now) (state_of c.run_turn.new.run.state) c.in_ok-run_turn.field-0 On c.in-On.is (c.in_ok-run_turn.ensures.fits w (stands (kinds_of c.args.leaf.now) c.args.streams.now c.args.lists.now (state_of c.args.run.now.state) (state_of c.loop-turn.run.state) g (c.loop-turn.invariant.fits w g)));
    }

pub run_loop-returns-in-Over-clause-flow : goal.run_loop-returns-in-Over-clause-flow
run_loop-returns-in-Over-clause-flow t c =
    λ go out again. loop_over (numbers c.args.streams.now) (kinds_of c.args.leaf.now) c.args.n (c.args.n - c.loop-turn._turn) (c.args.n - (c.loop-turn._turn + 1)) (loop_of (kinds_of c.args.leaf.now) c.args.n c.args.n c.args.s.now (state_of c.args.run.now.state) go out again) c.args.s.now (point c.args.lists.now c.args.run.now) (point c.args.lists.now c.loop-turn.run) (point c.args.lists.now c.run_turn.new.run) go out again (c.loop-turn.invariant.goes go out again) (omega arith) (turn_at (numbers c.args.streams.now) c.in_ok-run_turn.field-0 Over (point c.args.lists.now c.loop-turn.run) (point c.args.lists.now c.run_turn.new.run) (turn_of (kinds_of c.args.leaf.now) c.args.n c.args.s.now (state_of c.loop-turn.run.state)) c.in-Over.is c.in_ok-run_turn.ensures.turn)

pub run_loop-returns-in-Stopped-clause-flow : goal.run_loop-returns-in-Stopped-clause-flow
run_loop-returns-in-Stopped-clause-flow t c =
    λ go out again. loop_stops (numbers c.args.streams.now) (kinds_of c.args.leaf.now) c.args.n (c.args.n - c.loop-turn._turn) (c.args.n - (c.loop-turn._turn + 1)) (loop_of (kinds_of c.args.leaf.now) c.args.n c.args.n c.args.s.now (state_of c.args.run.now.state) go out again) c.args.s.now c.in-Stopped.m (point c.args.lists.now c.args.run.now) (point c.args.lists.now c.loop-turn.run) (point c.args.lists.now c.run_turn.new.run) go out again (c.loop-turn.invariant.goes go out again) (omega arith) (turn_at (numbers c.args.streams.now) c.in_ok-run_turn.field-0 (StoppedTurn c.in-Stopped.m) (point c.args.lists.now c.loop-turn.run) (point c.args.lists.now c.run_turn.new.run) (turn_of (kinds_of c.args.leaf.now) c.args.n c.args.s.now (state_of c.loop-turn.run.state)) c.in-Stopped.is c.in_ok-run_turn.ensures.turn)

pub run_block-returns-in_err-flow-clause-cause : goal.run_block-returns-in_err-flow-clause-cause
run_block-returns-in_err-flow-clause-cause t c =
    let p = err_from_is_err_and c.from_residual.result c.from_residual.ensures.1 in rw (p.1, p.2) (λ w g.
    let i = c.loop-s.invariant.fits w g in
    let n = typed_next (kinds_of c.args.leaf.now) (drop c.loop-s.s-index c.args.code.now) (drop (c.loop-s.s-index + 1) c.args.code.now) c.s-item.result (drop_more c.args.code.now c.loop-s.s-index c.s-item.result c.loop-s-test.true ∙ ap (λ x. x ∷ drop (c.loop-s.s-index + 1) c.args.code.now) (sym c.s-item.is)) i.0 in
    let s = stands (kinds_of c.args.leaf.now) c.args.streams.now c.args.lists.now (state_of c.args.run.now.state) (state_of c.loop-s.run.state) g i.1 in
    c.in_err-flow.ensures.cause n.0 s)

pub run_block-returns-clause-fits : goal.run_block-returns-clause-fits
run_block-returns-clause-fits t c =
    λ w g. (c.loop-s.invariant.fits w g).1

pub run_loop-returns-in_err-run_turn-clause-cause : goal.run_loop-returns-in_err-run_turn-clause-cause
run_loop-returns-in_err-run_turn-clause-cause t c =
    let p = err_from_is_err_and c.from_residual.result c.from_residual.ensures.1 in rw (p.1, p.2) (λ w g. c.in_err-run_turn.ensures.cause w (stands (kinds_of c.args.leaf.now) c.args.streams.now c.args.lists.now (state_of c.args.run.now.state) (state_of c.loop-turn.run.state) g (c.loop-turn.invariant.fits w g)))

pub run_loop-returns-in-Over-clause-fits : goal.run_loop-returns-in-Over-clause-fits
run_loop-returns-in-Over-clause-fits t c =
    λ w g. turn_fits (kinds_of c.args.leaf.now) (state_of c.run_turn.new.run.state) c.in_ok-run_turn.field-0 Over c.in-Over.is (c.in_ok-run_turn.ensures.fits w (stands (kinds_of c.args.leaf.now) c.args.streams.now c.args.lists.now (state_of c.args.run.now.state) (state_of c.loop-turn.run.state) g (c.loop-turn.invariant.fits w g)))

pub run_stmt-returns-then-v-eq0-clause-fits : goal.run_stmt-returns-then-v-eq0-clause-fits
run_stmt-returns-then-v-eq0-clause-fits t c =
    IfOk-weaker c.run_block.result (λ x. IsTypedCode (kinds_of c.args.leaf.now) c.deref.result.now → StandsFit (kinds_of c.args.leaf.now) c.args.streams.now c.args.lists.now (state_of c.note-in-Given.new.run.state) → FlowFits (kinds_of c.args.leaf.now) (state_of c.run_block.new.run.state) x) (λ x. IsTyped (kinds_of c.args.leaf.now) c.args.s.now → StandsFit (kinds_of c.args.leaf.now) c.args.streams.now c.args.lists.now (state_of c.args.run.now.state) → FlowFits (kinds_of c.args.leaf.now) (state_of c.run_block.new.run.state) x)
    (λ x h w g. h (subst (IsTypedCode (kinds_of c.args.leaf.now)) (sym c.deref.ensures.value) (typed_if (kinds_of c.args.leaf.now) c.in-If.e c.in-If.left c.in-If.right (subst (IsTyped (kinds_of c.args.leaf.now)) c.in-If.is w)).2) (still (kinds_of c.args.leaf.now) c.args.streams.now c.args.lists.now c.args.run.now.state c.note-in-Given.new.run.state (c.in_ok-note-in-Given.ensures.state ∙ c.in_ok-m-in-If.ensures.state) g))
    c.run_block.ensures.fits

pub run_stmt-returns-then-v-eq0-clause-cause : goal.run_stmt-returns-then-v-eq0-clause-cause
run_stmt-returns-then-v-eq0-clause-cause t c =
    IfErr-weaker c.run_block.result (λ (y : Fault). IsTypedCode (kinds_of c.args.leaf.now) c.deref.result.now → StandsFit (kinds_of c.args.leaf.now) c.args.streams.now c.args.lists.now (state_of c.note-in-Given.new.run.state) → y ≢ NotOfItsKind) (λ (y : Fault). IsTyped (kinds_of c.args.leaf.now) c.args.s.now → StandsFit (kinds_of c.args.leaf.now) c.args.streams.now c.args.lists.now (state_of c.args.run.now.state) → y ≢ NotOfItsKind)
    (λ y h w g. h (subst (IsTypedCode (kinds_of c.args.leaf.now)) (sym c.deref.ensures.value) (typed_if (kinds_of c.args.leaf.now) c.in-If.e c.in-If.left c.in-If.right (subst (IsTyped (kinds_of c.args.leaf.now)) c.in-If.is w)).2) (still (kinds_of c.args.leaf.now) c.args.streams.now c.args.lists.now c.args.run.now.state c.note-in-Given.new.run.state (c.in_ok-note-in-Given.ensures.state ∙ c.in_ok-m-in-If.ensures.state) g))
    c.run_block.ensures.cause

pub run_stmt-returns-else-v-eq0-clause-fits : goal.run_stmt-returns-else-v-eq0-clause-fits
run_stmt-returns-else-v-eq0-clause-fits t c =
    IfOk-weaker c.run_block-else-v-eq0.result (λ x. IsTypedCode (kinds_of c.args.leaf.now) c.deref-else-v-eq0.result.now → StandsFit (kinds_of c.args.leaf.now) c.args.streams.now c.args.lists.now (state_of c.note-in-Given.new.run.state) → FlowFits (kinds_of c.args.leaf.now) (state_of c.run_block-else-v-eq0.new.run.state) x) (λ x. IsTyped (kinds_of c.args.leaf.now) c.args.s.now → StandsFit (kinds_of c.args.leaf.now) c.args.streams.now c.args.lists.now (state_of c.args.run.now.state) → FlowFits (kinds_of c.args.leaf.now) (state_of c.run_block-else-v-eq0.new.run.state) x)
    (λ x h w g. h (subst (IsTypedCode (kinds_of c.args.leaf.now)) (sym c.deref-else-v-eq0.ensures.value) (typed_if (kinds_of c.args.leaf.now) c.in-If.e c.in-If.left c.in-If.right (subst (IsTyped (kinds_of c.args.leaf.now)) c.in-If.is w)).1) (still (kinds_of c.args.leaf.now) c.args.streams.now c.args.lists.now c.args.run.now.state c.note-in-Given.new.run.state (c.in_ok-note-in-Given.ensures.state ∙ c.in_ok-m-in-If.ensures.state) g))
    c.run_block-else-v-eq0.ensures.fits

pub run_stmt-returns-else-v-eq0-clause-cause : goal.run_stmt-returns-else-v-eq0-clause-cause
run_stmt-returns-else-v-eq0-clause-cause t c =
    IfErr-weaker c.run_block-else-v-eq0.result (λ (y : Fault). IsTypedCode (kinds_of c.args.leaf.now) c.deref-else-v-eq0.result.now → StandsFit (kinds_of c.args.leaf.now) c.args.streams.now c.args.lists.now (state_of c.note-in-Given.new.run.state) → y ≢ NotOfItsKind) (λ (y : Fault). IsTyped (kinds_of c.args.leaf.now) c.args.s.now → StandsFit (kinds_of c.args.leaf.now) c.args.streams.now c.args.lists.now (state_of c.args.run.now.state) → y ≢ NotOfItsKind)
    (λ y h w g. h (subst (IsTypedCode (kinds_of c.args.leaf.now)) (sym c.deref-else-v-eq0.ensures.value) (typed_if (kinds_of c.args.leaf.now) c.in-If.e c.in-If.left c.in-If.right (subst (IsTyped (kinds_of c.args.leaf.now)) c.in-If.is w)).1) (still (kinds_of c.args.leaf.now) c.args.streams.now c.args.lists.now c.args.run.now.state c.note-in-Given.new.run.state (c.in_ok-note-in-Given.ensures.state ∙ c.in_ok-m-in-If.ensures.state) g))
    c.run_block-else-v-eq0.ensures.cause

pub run_turn-returns-in_err-m-in-Given-clause-cause : goal.run_turn-returns-in_err-m-in-Given-clause-cause
run_turn-returns-in_err-m-in-Given-clause-cause t c =
    let p = err_from_is_err_and c.from_residual-in_err-m-in-Given.result c.from_residual-in_err-m-in-Given.ensures.1 in rw (p.1, p.2) (λ w g.
    let ty = typed_loop (kinds_of c.args.leaf.now) c.in-Loop.test c.in-Loop.body c.in-Loop.step (subst (IsTyped (kinds_of c.args.leaf.now)) c.in-Loop.is w) in
    let body = subst (IsTypedCode (kinds_of c.args.leaf.now)) (sym c.deref.ensures.value) ty.1 in
    let g1 = still (kinds_of c.args.leaf.now) c.args.streams.now c.args.lists.now c.args.run.now.state c.note.new.run.state (c.in_ok-note-in-Given.ensures.state ∙ c.in_ok-m-in-Loop.ensures.state) g in
    c.in_err-m-in-Given.ensures.cause body g1)

pub run_turn-returns-in-Out-clause-fits : goal.run_turn-returns-in-Out-clause-fits
run_turn-returns-in-Out-clause-fits t c =
    λ w g.
    let ty = typed_loop (kinds_of c.args.leaf.now) c.in-Loop.test c.in-Loop.body c.in-Loop.step (subst (IsTyped (kinds_of c.args.leaf.now)) c.in-Loop.is w) in
    let body = subst (IsTypedCode (kinds_of c.args.leaf.now)) (sym c.deref.ensures.value) ty.1 in
    let g1 = still (kinds_of c.args.leaf.now) c.args.streams.now c.args.lists.now c.args.run.now.state c.note.new.run.state (c.in_ok-note-in-Given.ensures.state ∙ c.in_ok-m-in-Loop.ensures.state) g in
    flow_fits (kinds_of c.args.leaf.now) (state_of c.run_block.new.run.state) c.in_ok-m-in-Given.field-0 Out c.in-Out.is (c.in_ok-m-in-Given.ensures.fits body g1)

pub run_turn-returns-in_err-run_block-in-Next-clause-cause : goal.run_turn-returns-in_err-run_block-in-Next-clause-cause
run_turn-returns-in_err-run_block-in-Next-clause-cause t c =
    let p = err_from_is_err_and c.from_residual-in_err-run_block-in-Next.result c.from_residual-in_err-run_block-in-Next.ensures.1 in rw (p.1, p.2) (λ w g.
    let ty = typed_loop (kinds_of c.args.leaf.now) c.in-Loop.test c.in-Loop.body c.in-Loop.step (subst (IsTyped (kinds_of c.args.leaf.now)) c.in-Loop.is w) in
    let body = subst (IsTypedCode (kinds_of c.args.leaf.now)) (sym c.deref.ensures.value) ty.1 in
    let g1 = still (kinds_of c.args.leaf.now) c.args.streams.now c.args.lists.now c.args.run.now.state c.note.new.run.state (c.in_ok-note-in-Given.ensures.state ∙ c.in_ok-m-in-Loop.ensures.state) g in
    let f1 = flow_fits (kinds_of c.args.leaf.now) (state_of c.run_block.new.run.state) c.in_ok-m-in-Given.field-0 Next c.in-Next.is (c.in_ok-m-in-Given.ensures.fits body g1) in
    let g2 = stands (kinds_of c.args.leaf.now) c.args.streams.now c.args.lists.now (state_of c.args.run.now.state) (state_of c.run_block.new.run.state) g f1 in
    let step = subst (IsTypedCode (kinds_of c.args.leaf.now)) (sym c.deref-in-Next.ensures.value) ty.2 in
    c.in_err-run_block-in-Next.ensures.cause step g2)

pub run_turn-returns-in_ok-run_block-in-Next-clause-fits : goal.run_turn-returns-in_ok-run_block-in-Next-clause-fits
run_turn-returns-in_ok-run_block-in-Next-clause-fits t c =
    λ w g.
    let ty = typed_loop (kinds_of c.args.leaf.now) c.in-Loop.test c.in-Loop.body c.in-Loop.step (subst (IsTyped (kinds_of c.args.leaf.now)) c.in-Loop.is w) in
    let body = subst (IsTypedCode (kinds_of c.args.leaf.now)) (sym c.deref.ensures.value) ty.1 in
    let g1 = still (kinds_of c.args.leaf.now) c.args.streams.now c.args.lists.now c.args.run.now.state c.note.new.run.state (c.in_ok-note-in-Given.ensures.state ∙ c.in_ok-m-in-Loop.ensures.state) g in
    let f1 = flow_fits (kinds_of c.args.leaf.now) (state_of c.run_block.new.run.state) c.in_ok-m-in-Given.field-0 Next c.in-Next.is (c.in_ok-m-in-Given.ensures.fits body g1) in
    let g2 = stands (kinds_of c.args.leaf.now) c.args.streams.now c.args.lists.now (state_of c.args.run.now.state) (state_of c.run_block.new.run.state) g f1 in
    let step = subst (IsTypedCode (kinds_of c.args.leaf.now)) (sym c.deref-in-Next.ensures.value) ty.2 in
    turn_fits (kinds_of c.args.leaf.now) (state_of c.run_block-in-Next.new.run.state) (turn_left c.in_ok-run_block-in-Next.field-0) c.turn_after.result (sym c.turn_after.ensures) (turn_of_flow (kinds_of c.args.leaf.now) (state_of c.run_block-in-Next.new.run.state) c.in_ok-run_block-in-Next.field-0 (c.in_ok-run_block-in-Next.ensures.fits step g2))

pub run_turn-returns-in_err-run_block-in-Again-clause-cause : goal.run_turn-returns-in_err-run_block-in-Again-clause-cause
run_turn-returns-in_err-run_block-in-Again-clause-cause t c =
    let p = err_from_is_err_and c.from_residual-in_err-run_block-in-Again.result c.from_residual-in_err-run_block-in-Again.ensures.1 in rw (p.1, p.2) (λ w g.
    let ty = typed_loop (kinds_of c.args.leaf.now) c.in-Loop.test c.in-Loop.body c.in-Loop.step (subst (IsTyped (kinds_of c.args.leaf.now)) c.in-Loop.is w) in
    let body = subst (IsTypedCode (kinds_of c.args.leaf.now)) (sym c.deref.ensures.value) ty.1 in
    let g1 = still (kinds_of c.args.leaf.now) c.args.streams.now c.args.lists.now c.args.run.now.state c.note.new.run.state (c.in_ok-note-in-Given.ensures.state ∙ c.in_ok-m-in-Loop.ensures.state) g in
    let f1 = flow_fits (kinds_of c.args.leaf.now) (state_of c.run_block.new.run.state) c.in_ok-m-in-Given.field-0 Again c.in-Again.is (c.in_ok-m-in-Given.ensures.fits body g1) in
    let g2 = stands (kinds_of c.args.leaf.now) c.args.streams.now c.args.lists.now (state_of c.args.run.now.state) (state_of c.run_block.new.run.state) g f1 in
    let step = subst (IsTypedCode (kinds_of c.args.leaf.now)) (sym c.deref-in-Again.ensures.value) ty.2 in
    c.in_err-run_block-in-Again.ensures.cause step g2)

pub run_turn-returns-in_ok-run_block-in-Again-clause-fits : goal.run_turn-returns-in_ok-run_block-in-Again-clause-fits
run_turn-returns-in_ok-run_block-in-Again-clause-fits t c =
    λ w g.
    let ty = typed_loop (kinds_of c.args.leaf.now) c.in-Loop.test c.in-Loop.body c.in-Loop.step (subst (IsTyped (kinds_of c.args.leaf.now)) c.in-Loop.is w) in
    let body = subst (IsTypedCode (kinds_of c.args.leaf.now)) (sym c.deref.ensures.value) ty.1 in
    let g1 = still (kinds_of c.args.leaf.now) c.args.streams.now c.args.lists.now c.args.run.now.state c.note.new.run.state (c.in_ok-note-in-Given.ensures.state ∙ c.in_ok-m-in-Loop.ensures.state) g in
    let f1 = flow_fits (kinds_of c.args.leaf.now) (state_of c.run_block.new.run.state) c.in_ok-m-in-Given.field-0 Again c.in-Again.is (c.in_ok-m-in-Given.ensures.fits body g1) in
    let g2 = stands (kinds_of c.args.leaf.now) c.args.streams.now c.args.lists.now (state_of c.args.run.now.state) (state_of c.run_block.new.run.state) g f1 in
    let step = subst (IsTypedCode (kinds_of c.args.leaf.now)) (sym c.deref-in-Again.ensures.value) ty.2 in
    turn_fits (kinds_of c.args.leaf.now) (state_of c.run_block-in-Again.new.run.state) (turn_left c.in_ok-run_block-in-Again.field-0) c.turn_after-in-Again.result (sym c.turn_after-in-Again.ensures) (turn_of_flow (kinds_of c.args.leaf.now) (state_of c.run_block-in-Again.new.run.state) c.in_ok-run_block-in-Again.field-0 (c.in_ok-run_block-in-Again.ensures.fits step g2))
