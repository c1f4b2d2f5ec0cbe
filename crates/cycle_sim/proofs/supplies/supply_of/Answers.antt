use Rattle.std.proofs.Common.{sym, subst, ◌∙◌}
use Rattle.std.specs.Prelude.{IfSome}
use Rattle.std.specs.Cmp.Lexicographic.{bytes_decides}
use Rattle.tapa_base.specs.Lists.{Has}
use Rattle.vlog_tree.specs.Labels.{rst}
use Rattle.vlog_run_laws.proofs.runs.Labelled.{scalar_label, ack_label}
use Rattle.cycle_sim.specs.Machines.{IsSuppliedBy}
use Rattle.cycle_sim.proofs.Supplying.{scalar_there, ack_there, no_supply}
use Rattle.cycle_sim.proofs.supplies.supply_of.Goals as goal

pub returns-then-is_reset-clause-is : goal.returns-then-is_reset-clause-is
returns-then-is_reset-clause-is c = λ top are and. (bytes_decides c.args.name.now rst).0 (sym c.is_reset.ensures ∙ c.if-is_reset.true)

pub returns-in-Some-clause-is : goal.returns-in-Some-clause-is
returns-in-Some-clause-is c = λ top are and.
    let name = c.args.name.now in
    let label = c.in-Some.label.now in
    subst (λ x. IfSome c.scalar_supply.result (λ s. IsSuppliedBy top c.args.scalars.now x s)) (sym (scalar_label name label (sym c.in-Some.ensures.value)).0) (c.scalar_supply.ensures.is top (c.deref.ensures.value ∙ are))

pub returns-in-Some-clause-some : goal.returns-in-Some-clause-some
returns-in-Some-clause-some c = λ top are and has.
    let name = c.args.name.now in
    let t = scalar_there top name has (sym c.is_reset.ensures ∙ c.if-is_reset.false) c.in-Some.label.now (sym c.in-Some.ensures.value) in
    c.scalar_supply.ensures.some t.0 (subst (λ ls. Has ls t.0) (sym (c.deref.ensures.value ∙ are)) t.1) t.2

pub returns-in-Some-ack_of-clause-is : goal.returns-in-Some-ack_of-clause-is
returns-in-Some-ack_of-clause-is c = λ top are and.
    let name = c.args.name.now in
    let label = c.in-Some-ack_of.label.now in
    subst (λ x. IfSome c.ready_supply.result (λ s. IsSuppliedBy top c.args.scalars.now x s)) (sym (ack_label name label (sym c.in-Some-ack_of.ensures.value)).0) (c.ready_supply.ensures.is top c.args.scalars.now (c.deref-in-Some-ack_of.ensures.value ∙ and))

pub returns-in-Some-ack_of-clause-some : goal.returns-in-Some-ack_of-clause-some
returns-in-Some-ack_of-clause-some c = λ top are and has.
    let name = c.args.name.now in
    let t = ack_there top name has (sym c.is_reset.ensures ∙ c.if-is_reset.false) (sym c.in_default.ensures.value) c.in-Some-ack_of.label.now (sym c.in-Some-ack_of.ensures.value) in
    c.ready_supply.ensures.some t.0 (subst (λ ls. Has ls t.0) (sym (c.deref-in-Some-ack_of.ensures.value ∙ and)) t.1) t.2

pub returns-clause-some : goal.returns-clause-some
returns-clause-some c = λ top are and has.
    absurd (no_supply top c.args.name.now has (sym c.is_reset.ensures ∙ c.if-is_reset.false) (sym c.in_default.ensures.value) (sym c.in_default-ack_of.ensures.value))
