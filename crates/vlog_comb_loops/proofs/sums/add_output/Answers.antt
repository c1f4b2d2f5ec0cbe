use Rattle.std.proofs.Common.{◌≡◌, true}
use Rattle.vlog_comb_loops.proofs.Gathering.{not_output}
use Rattle.vlog_comb_loops.proofs.sums.add_output.Goals as goal

pub returns-clause-gathers : goal.returns-clause-gathers
returns-clause-gathers c = λ edges g.
    not_output edges c.args.ports.now c.args.x.now c.args.pairs.now.items
    (λ out. let yes : c.is_output.result ≡ true = c.is_output.ensures.1 out in cc (yes, c.if-is_output.false))
