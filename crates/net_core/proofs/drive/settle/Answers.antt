use Rattle.std.proofs.Common.{ap, ◌∙◌, arith}
use Rattle.std.proofs.Math.Path.{fun_ext}
use Rattle.kahn_model.specs.Outcome.{joined_ticks}
use Rattle.net_core.specs.State.{network}
use Rattle.net_core.proofs.Constructed.{zero_joined}
use Rattle.net_core.proofs.drive.settle.Goals as goal

pub settle_on-driven-requires-clause-within : goal.settle_on-driven-requires-clause-within
settle_on-driven-requires-clause-within g c =
    let net = network c.args.net.now in
    let none = ap (joined_ticks net) (fun_ext c.requires.new.none_made) ∙ zero_joined net in
    record {
      capped = λ i. let z = c.requires.new.none_made i in omega arith;
      joined = omega arith;
    }
