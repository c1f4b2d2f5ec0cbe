use Rattle.cross_pipe.proofs.Rows.{behind}
use Rattle.cross_pipe.proofs.modules.relayed_modules.Goals as goal

pub returns : goal.returns
returns c = behind c.args.bits c.args.depth c.args.latency c.in_ok-modules.modules.items c.add_relays.new.modules.items c.in_ok-modules.ensures c.in_ok-add_relays.ensures
