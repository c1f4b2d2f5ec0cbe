-- The facts of a call, from the net's invariant to what it stands for after the call.
use Rattle.std.proofs.Common.{◌≡◌, ◌+◌, ◌<◌, ◌^◌, length, Some, refl, sym, ap, ◌∙◌, subst, arith}
use Rattle.std.specs.Prelude.{slice_set}
use Rattle.std.specs.Arc.{arc_value}
use Rattle.std.proofs.lemmas.Option.{slice_get_read, get_or_from_slice_get}
use Rattle.tapa_syntax.specs.declared.program.Program.{Program}
use Rattle.net_core.specs.Bindings.{arity}
use Rattle.net_core.specs.Bounded.{count_of, IsNetAt}
use Rattle.net_core.specs.Load.{HasPorts}
use Rattle.net_core.specs.State.{count, HasResumed}
use Rattle.net_core.specs.Ties.{AreTies}
use Rattle.net_core.specs.declared.net_state.NetState.{NetState}
use Rattle.net_core.proofs.Resuming.{IsCalled, loaded_net, has_ports, can_resume, by_call, counted, tables_back, enough_back, net_is, has_resumed}
use Rattle.net_core.proofs.resume.resume_instance.Given.{Over}
use Rattle.net_core.proofs.resume.resume_instance.Goals.{After-deref-program, After-index_mut-2}
use Rattle.net_core.proofs.resume.resume_instance.Goals as goal

module _ (g : Over) (c : After-deref-program g) where
  same : c.deref-program.result.now ≡ c.args.net.now.program
  same = c.deref-program.ensures ∙ ap (λ (z : NetState). z.program) c.net.view_is

  as_many : length c.args.ties.now.items ≡ arity c.deref-program.result.now c.args.i
  as_many = subst (λ (p : Program). length c.args.ties.now.items ≡ arity p c.args.i) (sym same) c.requires.as_many

  ties : AreTies c.deref-program.result.now c.args.i c.args.ties.now.items
  ties = subst (λ (p : Program). AreTies p c.args.i c.args.ties.now.items) (sym same) c.requires.ties

  net_at : IsNetAt g.B.Body.stands c.deref-program.result.now (arc_value c.net.inside.input) c.net.inside.bodies.items c.net.inside.streams c.net.inside.fed_by_self.items c.net.inside.counts.items c.net.inside.pauses.items
  net_at = subst (λ (p : Program). IsNetAt g.B.Body.stands p (arc_value c.net.inside.input) c.net.inside.bodies.items c.net.inside.streams c.net.inside.fed_by_self.items c.net.inside.counts.items c.net.inside.pauses.items) (sym c.deref-program.ensures) c.net.invariant

  fits : count_of c.net.inside.counts.items c.args.i + c.args.fuel < 2 ^ 64
  fits = subst (λ (v : NetState). count v c.args.i + c.args.fuel < 2 ^ 64) (sym c.net.view_is) c.requires.fits

-- the body is called with its loaded ports
called : (g : Over) (c : After-index_mut-2 g) → IsCalled c.deref-program.result.now c.net.inside.bodies.items c.net.inside.streams c.args.i c.load_ports.new.self c.index_mut-2.result.now c.index_mut.result.now
called g c =
    let n = c.net.invariant in
    let k = c.in_ok-load_ports.ensures in
    let lb = n.bodies_len in
    let lp = n.ports_len in
    let lk = k.kept.len in
    let e = ap (λ (p : Program). length p.instances.items) c.deref-program.ensures in
    let inside : c.args.i < length (arc_value c.net.inside.program).instances.items = subst (λ (v : NetState). c.args.i < length v.program.instances.items) (sym c.net.view_is) c.requires.instance in
    record {
      inside = omega arith;
      kept = k.kept;
      ready = k.ports;
      loaded = k.loaded;
      ports_at = slice_get_read c.load_ports.new.self.ports.items _ c.args.i c.index_mut-2.result.now refl (omega arith) c.index_mut-2.ensures.value;
      body_at = slice_get_read c.net.inside.bodies.items _ c.args.i c.index_mut.result.now refl (omega arith) c.index_mut.ensures.value;
    }

pub load_ports-requires-clause-ports : goal.load_ports-requires-clause-ports
load_ports-requires-clause-ports g c = has_ports (net_at g (goal.at.load_ports-requires-clause-ports g c).After-deref-program)

pub load_ports-requires-clause-as_many : goal.load_ports-requires-clause-as_many
load_ports-requires-clause-as_many g c = as_many g (goal.at.load_ports-requires-clause-as_many g c).After-deref-program

pub load_ports-requires-clause-ties : goal.load_ports-requires-clause-ties
load_ports-requires-clause-ties g c = ties g (goal.at.load_ports-requires-clause-ties g c).After-deref-program

pub count_taken-requires-clause-as_many : goal.count_taken-requires-clause-as_many
count_taken-requires-clause-as_many g c = as_many g (goal.at.count_taken-requires-clause-as_many g c).After-deref-program

pub count_taken-requires-clause-ties : goal.count_taken-requires-clause-ties
count_taken-requires-clause-ties g c = ties g (goal.at.count_taken-requires-clause-ties g c).After-deref-program

pub resume_body-pause-requires : goal.resume_body-pause-requires
resume_body-pause-requires g c =
    let k = goal.at.resume_body-pause-requires g c in
    can_resume (net_at g k.After-deref-program) (called g k.After-index_mut-2) c.args.fuel (fits g k.After-deref-program)

pub count_taken-requires-clause-tables : goal.count_taken-requires-clause-tables
count_taken-requires-clause-tables g c =
    let k = goal.at.count_taken-requires-clause-tables g c in
    let n = net_at g k.After-deref-program in
    let r = called g k.After-index_mut-2 in
    tables_back n r (by_call n r c.resume_body-pause.ensures).0 (record { ports = refl; writers = refl; offered = refl; taken = refl })

pub count_taken-requires-clause-enough : goal.count_taken-requires-clause-enough
count_taken-requires-clause-enough g c =
    let k = goal.at.count_taken-requires-clause-enough g c in
    let n = net_at g k.After-deref-program in
    let r = called g k.After-index_mut-2 in
    enough_back n r (by_call n r c.resume_body-pause.ensures).0

pub overflow_add-index_mut : goal.overflow_add-index_mut
overflow_add-index_mut g c =
    let k = goal.at.overflow_add-index_mut g c in
    let n = net_at g k.After-deref-program in
    let r = called g k.After-index_mut-2 in
    let h = by_call n r c.resume_body-pause.ensures in
    let fits = fits g k.After-deref-program in
    let lc = n.counts_len in
    let l = r.inside in
    let q = get_or_from_slice_get c.net.inside.counts.items c.args.i c.index_mut-3.result.now 0 (slice_get_read c.net.inside.counts.items _ c.args.i c.index_mut-3.result.now refl (omega arith) c.index_mut-3.ensures.value) in
    let a = h.0.within in
    let m = h.1 in
    omega arith

pub invariant_of-net-2 : goal.invariant_of-net-2
invariant_of-net-2 g c =
    let k = goal.at.invariant_of-net-2 g c in
    let n = net_at g k.After-deref-program in
    let r = called g k.After-index_mut-2 in
    let h = by_call n r c.resume_body-pause.ensures in
    let t = counted n r (record { ports = refl; writers = refl; offered = refl; taken = refl }) h.1 c.index_mut-3.ensures.value c.index.ensures c.told.ensures c.count_taken.ensures.same c.count_taken.ensures.took c.count_taken.ensures.others in
    let counts = slice_set c.net.inside.counts.items c.args.i (c.index_mut-3.result.now + c.resume_body-pause.result.1) in
    let pauses = slice_set c.net.inside.pauses.items c.args.i (Some c.told.result) in
    subst (λ (p : Program). IsNetAt g.B.Body.stands p (arc_value c.net.inside.input) (slice_set c.net.inside.bodies.items c.args.i c.resume_body-pause.new.body) c.count_taken.new.self c.net.inside.fed_by_self.items counts pauses) c.deref-program.ensures (net_is n r h.0 t)

pub returns-clause-resumed : goal.returns-clause-resumed
returns-clause-resumed g c =
    let k = goal.at.returns-clause-resumed g c in
    let n = net_at g k.After-deref-program in
    let r = called g k.After-index_mut-2 in
    let h = by_call n r c.resume_body-pause.ensures in
    let t = counted n r (record { ports = refl; writers = refl; offered = refl; taken = refl }) h.1 c.index_mut-3.ensures.value c.index.ensures c.told.ensures c.count_taken.ensures.same c.count_taken.ensures.took c.count_taken.ensures.others in
    let counts = slice_set c.net.inside.counts.items c.args.i (c.index_mut-3.result.now + c.resume_body-pause.result.1) in
    let pauses = slice_set c.net.inside.pauses.items c.args.i (Some c.told.result) in
    subst (λ (v : NetState). HasResumed v (record { program = arc_value c.net.inside.program; input = arc_value c.net.inside.input; counts = counts; pauses = pauses }) c.args.i c.args.fuel c.resume_body-pause.result.0 c.resume_body-pause.result.1) c.net.view_is
    (subst (λ (p : Program). HasResumed (record { program = p; input = arc_value c.net.inside.input; counts = c.net.inside.counts.items; pauses = c.net.inside.pauses.items }) (record { program = p; input = arc_value c.net.inside.input; counts = counts; pauses = pauses }) c.args.i c.args.fuel c.resume_body-pause.result.0 c.resume_body-pause.result.1) c.deref-program.ensures
    (has_resumed n r h.0 t _ h.1))

pub invariant_of-net : goal.invariant_of-net
invariant_of-net g c =
    loaded_net c.net.invariant c.load_ports.ensures.kept
    (subst (λ (p : Program). HasPorts p c.load_ports.new.self) c.deref-program.ensures c.load_ports.ensures.ports)
