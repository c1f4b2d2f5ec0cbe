use Rattle.std.proofs.Common.{ℕ, Bool, None, get_or, ap, ◌∙◌}
use Rattle.vlog_tree.specs.Cycle.{and_then}
use Rattle.sim_gates.proofs.nets.pair_at.Goals as goal

pub returns-in-Some : goal.returns-in-Some
returns-in-Some c = c.pair_of_place.ensures ∙ ap (λ o. and_then o (λ (p : ℕ × Bool). get_or c.args.pairs.now p.0 None)) c.in-Some.ensures
