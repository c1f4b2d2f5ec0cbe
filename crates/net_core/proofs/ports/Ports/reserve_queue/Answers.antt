use Rattle.std.specs.Prelude.{◌≤◌, vec_capacity}
use Rattle.std.proofs.Common.{refl, sym, ap, ◌∙◌, drop, arith}
use Rattle.std.proofs.lemmas.Option.{slice_get_read}
use Rattle.net_core.specs.Ports.{waiting_in}
use Rattle.net_core.proofs.Moves.{adjust, get_set_same, space_at_least}
use Rattle.net_core.proofs.ports.Ports.reserve_queue.Goals as goal

pub returns-in_err-reserve-clause-adjusted : goal.returns-in_err-reserve-clause-adjusted
returns-in_err-reserve-clause-adjusted c = adjust c.args.self.now _ c.args.s c.index_mut-port.result.now _ (slice_get_read c.args.self.now.ports.items _ c.args.s c.index_mut-port.result.now refl c.requires c.index_mut-port.ensures.value) refl refl refl

pub returns-in_err-reserve-clause-waits : goal.returns-in_err-reserve-clause-waits
returns-in_err-reserve-clause-waits c =
    let q = c.index_mut-port.result.now in
    ap waiting_in (get_set_same c.args.self.now.ports.items c.args.s _ c.requires) ∙ ap (drop q.head) c.reserve.ensures.items ∙ sym (ap waiting_in (slice_get_read c.args.self.now.ports.items _ c.args.s c.index_mut-port.result.now refl c.requires c.index_mut-port.ensures.value))

pub returns-clause-adjusted : goal.returns-clause-adjusted
returns-clause-adjusted c = adjust c.args.self.now _ c.args.s c.index_mut-port.result.now _ (slice_get_read c.args.self.now.ports.items _ c.args.s c.index_mut-port.result.now refl c.requires c.index_mut-port.ensures.value) refl refl refl

pub returns-clause-waits : goal.returns-clause-waits
returns-clause-waits c =
    let q = c.index_mut-port.result.now in
    ap waiting_in (get_set_same c.args.self.now.ports.items c.args.s _ c.requires) ∙ ap (drop q.head) c.reserve.ensures.items ∙ sym (ap waiting_in (slice_get_read c.args.self.now.ports.items _ c.args.s c.index_mut-port.result.now refl c.requires c.index_mut-port.ensures.value))

pub returns-clause-space : goal.returns-clause-space
returns-clause-space c =
    let enough = c.in_ok-reserve.ensures.ok in
    let at = slice_get_read c.args.self.now.ports.items _ c.args.s c.index_mut-port.result.now refl c.requires c.index_mut-port.ensures.value in
    let there : c.args.space ≤ vec_capacity c.reserve.new.self = omega arith in
    space_at_least c.args.self.now.ports.items c.args.s c.index_mut-port.result.now _ c.args.space at there
