use Rattle.std.proofs.Common.{refl, sym, ap, ◌∙◌, arith}
use Rattle.std.proofs.lemmas.Option.{slice_get_read}
use Rattle.net_core.specs.Ports.{waiting_in, room_in}
use Rattle.net_core.proofs.Moves.{adjust, get_set_same, space_grows}
use Rattle.net_core.proofs.ports.Ports.shut.Goals as goal

pub returns-clause-adjusted : goal.returns-clause-adjusted
returns-clause-adjusted c = adjust c.args.self.now _ c.args.s c.index_mut-port.result.now _ (slice_get_read c.args.self.now.ports.items _ c.args.s c.index_mut-port.result.now refl c.requires c.index_mut-port.ensures.value) refl refl refl

pub returns-clause-waits : goal.returns-clause-waits
returns-clause-waits c = ap waiting_in (get_set_same c.args.self.now.ports.items c.args.s _ c.requires) ∙ sym (ap waiting_in (slice_get_read c.args.self.now.ports.items _ c.args.s c.index_mut-port.result.now refl c.requires c.index_mut-port.ensures.value))

pub returns-clause-room : goal.returns-clause-room
returns-clause-room c = ap room_in (get_set_same c.args.self.now.ports.items c.args.s _ c.requires)

pub returns-clause-space : goal.returns-clause-space
returns-clause-space c = space_grows c.args.self.now.ports.items c.args.s c.index_mut-port.result.now _ (slice_get_read c.args.self.now.ports.items _ c.args.s c.index_mut-port.result.now refl c.requires c.index_mut-port.ensures.value) (omega arith)
