use Rattle.std.proofs.Common.{◌≡◌, ◌<◌, true, false, map, get_or, sym, subst, ◌∙◌}
use Rattle.std.specs.Prelude.{slice_get}
use Rattle.check_upper.specs.Views.{task_view}
use Rattle.stream_check.specs.Programs.{ends_of}
use Rattle.stream_check.proofs.Bound.{same_ports, instances_next}
use Rattle.stream_check.proofs.bindings.stream_users.Goals as goal

pub loop-number-preserved : goal.loop-number-preserved
loop-number-preserved c =
    let tasks = map task_view c.args.tasks.now in
    let n = c.loop-number.number in
    let x = c.index-instances-number.result in
    let number : c.in_ok-number_of.field-0 ≡ n = c.in_ok-number_of.ensures.1 in
    let writers = c.loop-number.users.writers.rows.items in
    let readers = c.loop-number.users.readers.rows.items in
    record {
      writers = c.add_ports.ensures.writers ∙ c.loop-number.invariant.writers;
      readers = c.add_ports.ensures.readers ∙ c.loop-number.invariant.readers;
      written = λ s d h.
          instances_next tasks s true n c.args.instances.now x (get_or writers s d) (get_or c.add_ports.new.self.writers.rows.items s d) c.loop-number-test.true c.index-instances-number.is
          (c.add_ports.ensures.written s d (subst (λ m. s < m) (sym c.loop-number.invariant.writers) h) ∙ same_ports (get_or writers s d) _ n s true _ x.streams.items _ (ends_of (slice_get tasks x.body)) number c.deref.ensures.value c.ends_at-ends.ensures)
          ∙ c.loop-number.invariant.written s d h;
      read = λ s d h.
          instances_next tasks s false n c.args.instances.now x (get_or readers s d) (get_or c.add_ports.new.self.readers.rows.items s d) c.loop-number-test.true c.index-instances-number.is
          (c.add_ports.ensures.read s d (subst (λ m. s < m) (sym c.loop-number.invariant.readers) h) ∙ same_ports (get_or readers s d) _ n s false _ x.streams.items _ (ends_of (slice_get tasks x.body)) number c.deref.ensures.value c.ends_at-ends.ensures)
          ∙ c.loop-number.invariant.read s d h;
    }
