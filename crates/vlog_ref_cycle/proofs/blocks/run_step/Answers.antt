use Rattle.std.proofs.Common.{◌≡◌, cond, [], ◌∷◌, reverse, ap, subst, sym, ◌∙◌}
use Rattle.std.specs.List.{list_all}
use Rattle.std.proofs.lemmas.Result.{IfOk-weaker}
use Rattle.vlog_tree.specs.Cycle.{run_steps, step_next}
use Rattle.vlog_ref_cycle.specs.Next.{Shows, StepLeaves}
use Rattle.vlog_ref_cycle.proofs.Turns.{leaves}
use Rattle.vlog_ref_cycle.proofs.blocks.run_step.Goals as goal
use Rattle.vlog_ref_cycle.proofs.blocks.run_step.Goals.{then-are_on+in_ok-write, else-are_on}

pub returns-clause-value : goal.returns-clause-value
returns-clause-value c = λ s old rest next reads fits shows.
    let h = c.if-are_on.after in
    let on = c.args.on.now.items in
    let step = c.args.step.now in
    let now = step_next s old (reverse on) step next in
    let all_on : list_all (λ b. b) on ≡ c.are_on.result = sym (c.are_on.ensures ∙ ap (λ l. list_all (λ b. b) l) c.deref.ensures.value) in
    let written : Shows h (cond c.are_on.result (step_next s old [] step next) next) =
    elim c.if-are_on.branch [
      | then-are_on+in_ok-write w ↦
          subst (λ k. Shows k (cond c.are_on.result (step_next s old [] step next) next)) (sym w.after-is)
          (subst (λ t. Shows w.write.new.after (cond t (step_next s old [] step next) next)) (sym w.if-are_on.true) (w.in_ok-write.ensures.value s old next reads fits shows))
      | else-are_on w ↦
          subst (λ k. Shows k (cond c.are_on.result (step_next s old [] step next) next)) (sym w.after-is)
          (subst (λ t. Shows c.args.after.now (cond t (step_next s old [] step next) next)) (sym w.if-are_on.false) shows)
    ] in
    IfOk-weaker c.turn.result
    (λ goes. run_steps s old (reverse on) (step ∷ rest) next ≡ cond goes (run_steps s old (reverse c.turn.new.on.items) rest now) now)
    (λ goes. StepLeaves s old (reverse on) step rest next goes (reverse c.turn.new.on.items) h)
    (λ goes same. leaves s old on (reverse c.turn.new.on.items) step rest next goes h c.are_on.result all_on written same)
    (c.turn.ensures s old rest next reads)
