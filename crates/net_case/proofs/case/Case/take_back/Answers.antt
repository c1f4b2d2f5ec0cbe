use Rattle.std.proofs.Common.{◌≡◌, length, Some, refl, ap, sym, subst, ◌∙◌, arith}
use Rattle.std.specs.Prelude.{◌+◌, slice_get, slice_set}
use Rattle.std.specs.Arc.{arc_value}
use Rattle.std.proofs.lemmas.Option.{slice_get_read}
use Rattle.tapa_syntax.specs.declared.program.Program.{Program}
use Rattle.net_case.specs.Home.{IsCaseAt, outs}
use Rattle.net_case.proofs.Returned.{IsOfRun, of_run, commits_by, can_take_written, can_take_taken, sum_fits_back, came_back, commits_view}
use Rattle.net_case.proofs.case.Case.take_back.Given.{Over}
use Rattle.net_case.proofs.case.Case.take_back.Goals.{After-deref-program, After-index}
use Rattle.net_case.proofs.case.Case.take_back.Goals as goal

-- the case by the program that is read, and the batch, which is of its run
module _ (g : Over) (c : After-deref-program g) where
  case_at : IsCaseAt g.B.Body.stands c.deref-program.result.now (arc_value c.self.inside.input) c.self.inside.budget c.self.inside.homes.items c.self.inside.queues.items c.self.inside.taken.items c.self.inside.offered.items c.self.inside.counts.items c.self.inside.pauses.items c.self.inside.listed.items c.self.inside.joined c.self.inside.writers.items c.self.inside.fed_by_self.items
  case_at = subst (λ (p : Program). IsCaseAt g.B.Body.stands p (arc_value c.self.inside.input) c.self.inside.budget c.self.inside.homes.items c.self.inside.queues.items c.self.inside.taken.items c.self.inside.offered.items c.self.inside.counts.items c.self.inside.pauses.items c.self.inside.listed.items c.self.inside.joined c.self.inside.writers.items c.self.inside.fed_by_self.items) (sym c.deref-program.ensures) c.self.invariant.0

  run : IsOfRun (record { program = c.deref-program.result.now; input = arc_value c.self.inside.input; budget = c.self.inside.budget; counts = c.self.inside.counts.items; out = outs c.self.inside.homes.items; pauses = c.self.inside.pauses.items }) (record { program = c.batch.inside.program.value; input = c.batch.inside.input.value; budget = c.batch.inside.budget; instance = c.batch.inside.instance; at = c.batch.inside.at.value.items; from = c.batch.inside.from; fuel = c.batch.inside.fuel; made = c.batch.inside.made; pause = c.batch.inside.pause; ready = c.batch.inside.ready })
  run =
      of_run _ _ _ _ (ap (λ (p : Program). record { program = p; input = arc_value c.self.inside.input; budget = c.self.inside.budget; counts = c.self.inside.counts.items; out = outs c.self.inside.homes.items; pauses = c.self.inside.pauses.items }) c.deref-program.ensures ∙ c.self.view_is) c.batch.view_is
      c.requires.program c.requires.input c.requires.budget c.requires.fresh c.requires.may

before : (g : Over) (c : After-index g) → slice_get c.self.inside.pauses.items c.batch.inside.instance ≡ Some c.index.result.now
before g c =
    let k = (goal.at.After-index g c).After-deref-program in
    let inside = c.batch.invariant.inside in
    let many = (case_at g k).pauses_len in
    let same = ap (λ (p : Program). length p.instances.items) (run g k).program in
    slice_get_read c.self.inside.pauses.items _ c.batch.inside.instance c.index.result.now refl (omega arith) c.index.ensures

pub take_over_written-requires-clause-small : goal.take_over_written-requires-clause-small
take_over_written-requires-clause-small g c = let k = (goal.at.take_over_written-requires-clause-small g c).After-deref-program in (can_take_written (case_at g k) c.batch.inside.process c.batch.invariant (run g k)).small

pub take_over_written-requires-clause-there : goal.take_over_written-requires-clause-there
take_over_written-requires-clause-there g c = let k = (goal.at.take_over_written-requires-clause-there g c).After-deref-program in (can_take_written (case_at g k) c.batch.inside.process c.batch.invariant (run g k)).there

pub take_over_written-requires-clause-space : goal.take_over_written-requires-clause-space
take_over_written-requires-clause-space g c = let k = (goal.at.take_over_written-requires-clause-space g c).After-deref-program in (can_take_written (case_at g k) c.batch.inside.process c.batch.invariant (run g k)).space

pub take_over_taken-requires-clause-more : goal.take_over_taken-requires-clause-more
take_over_taken-requires-clause-more g c = let k = (goal.at.take_over_taken-requires-clause-more g c).After-deref-program in let w = c.take_over_written.ensures in (can_take_taken (case_at g k) c.batch.inside.process c.batch.invariant (run g k) (record { joined = w.joined; others = w.others })).more

pub take_over_taken-requires-clause-there : goal.take_over_taken-requires-clause-there
take_over_taken-requires-clause-there g c = let k = (goal.at.take_over_taken-requires-clause-there g c).After-deref-program in let w = c.take_over_written.ensures in (can_take_taken (case_at g k) c.batch.inside.process c.batch.invariant (run g k) (record { joined = w.joined; others = w.others })).there

pub sum_after-self-inside-requires-clause-fits : goal.sum_after-self-inside-requires-clause-fits
sum_after-self-inside-requires-clause-fits g c = let k = (goal.at.sum_after-self-inside-requires-clause-fits g c).After-deref-program in sum_fits_back (case_at g k) c.batch.inside.process c.batch.invariant (run g k)

pub invariant_of-self : goal.invariant_of-self
invariant_of-self g c =
    let j = goal.at.invariant_of-self g c in
    let k = j.After-deref-program in
    let w = c.take_over_written.ensures in
    let t = c.take_over_taken.ensures in
    let l = c.list.ensures in
    let s = c.sum_after-self-inside.ensures in (
      subst (λ (p : Program). IsCaseAt g.B.Body.stands p (arc_value c.self.inside.input) c.self.inside.budget (slice_set c.self.inside.homes.items c.batch.inside.instance (Some c.batch.inside.process)) c.take_over_taken.new.queues.items c.take_over_taken.new.taken.items c.take_over_taken.new.offered.items (slice_set c.self.inside.counts.items c.batch.inside.instance (c.batch.inside.from + c.batch.inside.made)) (slice_set c.self.inside.pauses.items c.batch.inside.instance c.kept.result) c.list.new.listed.items c.sum_after-self-inside.result c.self.inside.writers.items c.self.inside.fed_by_self.items) c.deref-program.ensures
          (came_back (case_at g k) c.batch.inside.process c.batch.invariant (run g k) (before g j.After-index) (record { joined = w.joined; others = w.others }) (t.queues_len ∙ w.len) t.taken_len t.offered_len
          (record { took = t.took; gave = t.gave; rest = t.rest; others_taken = t.others_taken; others_given = t.others_given; others_wait = t.others_wait })
          w.spaces t.spaces l.len (record { kept = l.kept; far = l.far }) (record { detached = s.detached; joined_more = s.joined }) c.kept.ensures),
      c.self.invariant.1,
    )

pub returns : goal.returns
returns g c =
    let I = c.self.inside in
    let j = goal.at.returns g c in
    commits_by _ _ _ _ _ c.self.view_is c.batch.view_is
    (commits_view (arc_value I.program) (arc_value I.input) I.budget I.homes.items I.counts.items I.pauses.items _ c.batch.inside.process c.index.result.now c.kept.result (run g j.After-deref-program).fresh (before g j.After-index) c.kept.ensures)
