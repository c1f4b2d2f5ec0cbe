use Rattle.std.proofs.Common.{◌≡◌, ◌++◌, ℕ, List, Bool, ap, subst, sym, ◌∙◌, append_assoc}
use Rattle.std.specs.Prelude.{◌==◌}
use Rattle.std.proofs.lemmas.Result.{on_ok_weaker}
use Rattle.vcd_text.specs.Dump.{cycle_line}
use Rattle.cycle_sim.specs.Simulators.{sim_of}
use Rattle.sim_output.specs.Dumped.{nets_of}
use Rattle.sim_output.specs.Turns.{told_at, turn_lines}
use Rattle.sim_output.proofs.dump_changes.push_turn.Goals as goal

pub returns-clause-lines : goal.returns-clause-lines
returns-clause-lines c =
    let s = sim_of c.args.sim.now in
    let is = c.cycle-cycle.ensures in
    on_ok_weaker c.push_changes.result (λ h m at are fit.
    let turn = turn_lines (s.told.cycle == 0) c.args.values.now.items (told_at s m) (nets_of m) in
    h m at are fit ∙ ap (λ (n : ℕ). c.push_cycle.new.text.items ++ turn_lines (n == 0) c.args.values.now.items (told_at s m) (nets_of m)) is
    ∙ ap (λ (l : List ℕ). l ++ turn) (c.in_ok-push_cycle.ensures ∙ ap (λ (n : ℕ). c.args.text.now.items ++ cycle_line n) is) ∙ append_assoc c.args.text.now.items (cycle_line s.told.cycle) turn)
    c.push_changes.ensures.lines
