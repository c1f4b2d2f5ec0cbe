use Rattle.std.proofs.Common.{◌≡◌, ◌⊎◌, ℕ, ◌<◌, length, sym, ap, ◌∙◌, subst, arith}
use Rattle.tapa_syntax.specs.declared.program.Program.{Program}
use Rattle.kahn_model.specs.Outcome.{IsCapped}
use Rattle.net_core.specs.declared.net_state.NetState.{NetState}
use Rattle.net_core.specs.Ports.{ends_in}
use Rattle.net_core.specs.Bindings.{IsConnected, ends_at}
use Rattle.net_core.specs.State.{network, count, joined_total, IsNew, AreAnswered}
use Rattle.net_case.specs.Make.{AreReserved, IsSpare, AreEmptyQueues, CanFill, AreFilled}
use Rattle.net_case.proofs.Made.{reserved_net, can_fill, case_of}
use Rattle.net_case.proofs.Outs.{none_out}
use Rattle.net_case.proofs.case.Case.of.Goals as goal

pub reserve-requires-clause-ends : goal.reserve-requires-clause-ends
reserve-requires-clause-ends g c =
    let ports = c.net.inside.streams.ports.items in
    subst (λ (P : Program). (i : ℕ) → i < length P.instances.items → ends_in ports i ≡ ends_at P i) (sym c.deref.ensures) c.net.invariant.ends

pub invariant_of-net : goal.invariant_of-net
invariant_of-net g c = reserved_net g.B.Body.stands _ _ _ _ c.reserve.new.ports _ _ _ c.reserve.ensures.len c.reserve.ensures.kept c.net.invariant

pub fill-requires-clause-connected : goal.fill-requires-clause-connected
fill-requires-clause-connected g c = subst IsConnected (sym c.deref-2.ensures) c.net.invariant.connected

pub fill-requires-clause-empty : goal.fill-requires-clause-empty
fill-requires-clause-empty g c =
    let queues = c.in-Ok.spare.queues.items in
    subst (λ (P : Program). AreEmptyQueues P (length P.streams.items) queues) (c.deref.ensures ∙ sym c.deref-2.ensures) c.in-Ok.ensures.spare.queues_are

pub fill-requires-clause-can : goal.fill-requires-clause-can
fill-requires-clause-can g c =
    let net = reserved_net g.B.Body.stands _ _ _ _ c.reserve.new.ports _ _ _ c.reserve.ensures.len c.reserve.ensures.kept c.net.invariant in
    let capped = subst (λ (z : NetState). IsCapped (network z) c.args.budget (count z)) (sym c.net.view_is) c.requires.capped in
    subst (λ (P : Program). CanFill P (record c.net.inside.streams { ports = c.reserve.new.ports })) (sym c.deref-2.ensures)
    (can_fill g.B.Body.stands _ _ _ _ _ _ _ net c.args.budget c.requires.budget capped)

pub invariant_of-result : goal.invariant_of-result
invariant_of-result g c =
    let net = reserved_net g.B.Body.stands _ _ _ _ c.reserve.new.ports _ _ _ c.reserve.ensures.len c.reserve.ensures.kept c.net.invariant in
    let capped = subst (λ (z : NetState). IsCapped (network z) c.args.budget (count z)) (sym c.net.view_is) c.requires.capped in
    let joined = c.requires.joined ∙ ap joined_total (sym c.net.view_is) in
    let told = subst (λ (z : NetState). IsNew z ⊎ AreAnswered z) (sym c.net.view_is) c.requires.answered in
    let x = c.in-Ok.spare in
    let reserved = subst (λ (P : Program). AreReserved P c.reserve.new.ports.items) c.deref.ensures c.in-Ok.ensures.spaces in
    let spare = subst (λ (P : Program). IsSpare P x.homes.items x.limits.items x.queues.items x.listed.items) c.deref.ensures c.in-Ok.ensures.spare in
    let filled = subst (λ (P : Program). AreFilled P (record c.net.inside.streams { ports = c.reserve.new.ports }) c.fill.new.queues.items) c.deref-2.ensures c.fill.ensures in
    let h = c.bring_home.ensures in
    let many = spare.homes_len in
    let body_room = h.body_room in
    let port_room = h.port_room in (
      case_of g.B.Body.stands _ _ _ _ _ _ _ net c.args.budget c.requires.budget capped reserved x.homes.items x.limits.items x.queues.items x.listed.items spare c.fill.new.queues.items filled c.bring_home.new.homes.items h.len h.homes c.args.joined joined told,
      record {
        no_body = ap length h.bodies;
        no_port = ap length h.ports;
        bodies_fit = omega arith;
        ports_fit = omega arith;
      },
    )

pub returns-clause-home : goal.returns-clause-home
returns-clause-home g c = none_out c.bring_home.new.homes.items (λ i l. c.bring_home.ensures.homes.home i (omega arith) l)
