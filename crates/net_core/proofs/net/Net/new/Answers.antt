use Rattle.std.proofs.Common.{◌≡◌, ℕ, ◌<◌, length, sym, ap, ◌∙◌, subst, arith, None}
use Rattle.std.specs.Prelude.{slice_get, slice_index}
use Rattle.std.specs.Arc.{arc_value}
use Rattle.std.proofs.lemmas.List.{length-replicate}
use Rattle.std.proofs.lemmas.Option.{slice_get_within}
use Rattle.tapa_syntax.specs.declared.program.Program.{Program}
use Rattle.net_core.specs.Ports.{ends_in}
use Rattle.net_core.specs.Bindings.{IsConnected, IsWriter, TellsFedBySelf, producer_of, ends_at}
use Rattle.net_core.specs.Bounded.{count_of, AreBound}
use Rattle.net_core.specs.Load.{HasTables}
use Rattle.net_core.specs.declared.streams.Streams.{Streams}
use Rattle.net_core.proofs.Constructed.{first_net, zero_at, none_at, not_some, zero_count}
use Rattle.net_core.proofs.Connected.{well_connected, program_is}
use Rattle.net_core.proofs.net.Net.new.Goals as goal

pub all_ports-requires : goal.all_ports-requires
all_ports-requires g c = subst IsConnected (sym c.deref.ensures) (well_connected (arc_value c.args.program) c.requires.well_formed)

pub writers-requires : goal.writers-requires
writers-requires g c = record { connected = subst IsConnected (sym c.deref-2.ensures) (well_connected (arc_value c.args.program) c.requires.well_formed) }

pub invariant_of-result : goal.invariant_of-result
invariant_of-result g c =
    let P = arc_value c.args.program in
    let I = arc_value c.args.input in
    let w = c.requires.well_formed in
    let ec = c.in_ok-counts.ensures in
    let eo = c.in_ok-offered.ensures in
    let et = c.in_ok-taken.ensures in
    let eu = c.in_ok-pauses.ensures in
    let lc = ap length ec ∙ length-replicate _ 0 in
    let lo = ap length eo ∙ length-replicate _ 0 in
    let lt = ap length et ∙ length-replicate _ 0 in
    let lu = ap length eu ∙ length-replicate _ None in
    let a1 = c.len.ensures in
    let a2 = c.len-2.ensures in
    let a3 = c.len-3.ensures in
    let a4 = c.len-4.ensures in
    let b1 = ap (λ (p : Program). length p.streams.items) c.deref-3.ensures in
    let b2 = ap (λ (p : Program). length p.streams.items) c.deref-4.ensures in
    let df = c.deref-5.ensures in
    let bf = ap (λ (p : Program). length p.instances.items) df in
    let b3 = ap (λ (p : Program). length p.instances.items) c.deref-6.ensures in
    let b4 = ap (λ (p : Program). length p.instances.items) c.deref-7.ensures in
    let o1 = c.deref-3.result.now.streams.ok.0 in
    let o2 = c.deref-4.result.now.streams.ok.0 in
    let o3 = c.deref-6.result.now.instances.ok.0 in
    let o4 = c.deref-7.result.now.instances.ok.0 in
    let streams : Streams = record { ports = c.in_ok-ports.ports; writers = c.in_ok-writers.writers; offered = c.in_ok-offered.offered; taken = c.in_ok-taken.taken } in
    let tables : HasTables P streams = record {
      ports_len = c.in_ok-ports.ensures.len ∙ ap (λ (p : Program). length p.instances.items) c.deref.ensures;
      offered_len = omega arith;
      taken_len = omega arith;
      ends = subst (λ (p : Program). (i : ℕ) → i < length p.instances.items → ends_in c.in_ok-ports.ports.items i ≡ ends_at p i) c.deref.ensures c.in_ok-ports.ensures.ends;
    }
    in
    let bound : AreBound P streams.writers.items c.in_ok-fed_by_self.fed_by_self.items = record {
      writers_len = c.in_ok-writers.ensures.len ∙ ap (λ (p : Program). length p.streams.items) c.deref-2.ensures;
      writer_is = subst (λ (p : Program). (s : ℕ) → s < length p.streams.items → IsWriter p s (producer_of p s) (slice_index c.in_ok-writers.writers.items s)) c.deref-2.ensures c.in_ok-writers.ensures.writes;
      fed_len = c.in_ok-fed_by_self.ensures.len ∙ bf;
      fed = λ i b at. subst (λ (p : Program). TellsFedBySelf p i b) df (c.in_ok-fed_by_self.ensures.each i b (slice_get_within _ i b at) at);
    }
    in
    first_net g.B.Body.stands P I (record { connected = well_connected P w; network = program_is P I w; well_formed = w; fits = c.requires.fits })
    c.args.bodies.items streams c.in_ok-fed_by_self.fed_by_self.items c.in_ok-counts.counts.items c.in_ok-pauses.pauses.items c.requires.as_many
    tables bound (omega arith) (omega arith) c.requires.first c.in_ok-ports.ensures.carried c.in_ok-ports.ensures.waiting
    (λ s. ap (λ l. slice_index l s) et ∙ zero_at _ s) (λ s. ap (λ l. slice_index l s) eo ∙ zero_at _ s)
    (λ i x at. not_some _ i x (ap (λ l. slice_get l i) (sym eu) ∙ at)) (zero_count _ ∙ ap count_of (sym ec))

pub fed_by_self-requires : goal.fed_by_self-requires
fed_by_self-requires g c = subst IsConnected (sym c.deref-5.ensures) (well_connected (arc_value c.args.program) c.requires.well_formed)

pub returns-clause-new : goal.returns-clause-new
returns-clause-new g c =
    let e = ap (λ (p : Program). length p.instances.items) c.deref-7.ensures in
    let a = c.len-4.ensures in
    let o = c.deref-7.result.now.instances.ok.0 in
    record {
      none_made = λ i. ap (λ l. slice_index l i) c.in_ok-counts.ensures ∙ zero_at _ i;
      none_resumed = λ i l. ap (λ l. slice_get l i) c.in_ok-pauses.ensures ∙ none_at _ i (omega arith);
    }
