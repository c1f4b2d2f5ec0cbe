use Rattle.std.proofs.Common.{List, length, map, refl, sym, ap, subst, ◌∙◌, ℕ, arith}
use Rattle.std.specs.Prelude.{[], Vec, slice_index_or}
use Rattle.std.specs.declared.alloc.Global.{Global}
use Rattle.std.specs.Arc.{arc_value}
use Rattle.std.proofs.lemmas.Option.{slice_get_read, slice_get_within}
use Rattle.kahn_model.specs.Start.{bound_value, kinds_in}
use Rattle.net_core.specs.Bounded.{instance_job}
use Rattle.coro_machine.specs.declared.machine.Machine.{Machine}
use Rattle.coro_machine.specs.Coro.{IsMachineOf}
use Rattle.kahn_model.specs.Rows.{rows_of}
use Rattle.run_program.proofs.Starting.{job_is, leaf_fits, started}
use Rattle.run_program.proofs.start.start_one.Goals as goal

pub returns : goal.returns
returns c =
    let program = c.args.program.now in
    let input = c.args.input.now in
    let items = program.instances.items in
    let x = c.index-instance.result.now in
    let at = slice_get_read items (length items) c.args.i x refl c.requires.instance c.index-instance.ensures in
    let h = c.requires.well_formed.instances c.args.i x at in
    let inside = slice_get_within program.bodies.items x.body h.0 h.1.body in
    let is_leaf = c.requires.well_formed.leaves x.body h.0 h.1.body in
    let original = c.index-machines-instance.result in
    let at_machine = slice_get_read c.args.machines.now (length c.args.machines.now) x.body original refl (omega (arith, inside, c.requires.as_many)) c.index-machines-instance.is in
    let lowered : IsMachineOf h.0 (arc_value c.in_ok-machine.machine) = subst (λ (m : Machine). IsMachineOf h.0 m) (sym c.in_ok-machine.ensures.cases) (c.requires.lowered x.body h.0 original inside h.1.body at_machine is_leaf) in
    let values = c.deref-4.ensures.value ∙ c.in_ok-scalars.ensures ∙ ap (λ (l : List ℕ). map (bound_value (kinds_in program) l) x.scalars.items) c.deref.ensures.value in
    let rows = c.in_ok-memories.ensures ∙ ap (λ (l : List (Vec ℕ Global)). map (λ m. slice_index_or (rows_of l) m []) c.deref-3.result.now) c.deref-2.ensures.value ∙ ap (map (λ m. slice_index_or (rows_of input.memories.items) m [])) c.deref-3.ensures.value in
    started c.in_ok-coroutine.coroutine h.0 (arc_value c.in_ok-machine.machine) c.deref-4.result.now _ (rows_of c.in_ok-memories.memories.items) _ (instance_job program input c.args.i)
    is_leaf lowered values rows (leaf_fits program input c.requires.fits c.args.i x h.0 h.1) (job_is program input c.requires.fits c.args.i x h.0 at h.1) c.in_ok-coroutine.ensures
