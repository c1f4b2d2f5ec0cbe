use Rattle.std.proofs.Common.{refl}
use Rattle.std.proofs.lemmas.Option.{slice_get_read}
use Rattle.net_core.proofs.Tokens.{writes_here}
use Rattle.net_core.proofs.ports.Ports.writes.Goals as goal

pub returns : goal.returns
returns c = writes_here c.args.self.now c.args.s c.index.result.now (slice_get_read c.args.self.now.ports.items _ c.args.s c.index.result.now refl c.requires c.index.ensures)
