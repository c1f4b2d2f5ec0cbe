use Rattle.std.proofs.Common.{ap, inl, sym, ◌∙◌, arith}
use Rattle.std.proofs.Math.Path.{fun_ext}
use Rattle.kahn_model.specs.Outcome.{joined_ticks}
use Rattle.net_core.specs.State.{network}
use Rattle.net_core.proofs.Constructed.{zero_joined}
use Rattle.net_case.proofs.case.Case.new.Goals as goal

pub of-requires-clause-capped : goal.of-requires-clause-capped
of-requires-clause-capped g c = λ i. let z = c.requires.new.none_made i in omega arith

pub of-requires-clause-joined : goal.of-requires-clause-joined
of-requires-clause-joined g c = let net = network c.args.net in sym (ap (joined_ticks net) (fun_ext c.requires.new.none_made) ∙ zero_joined net)

pub of-requires-clause-answered : goal.of-requires-clause-answered
of-requires-clause-answered g c = inl c.requires.new
