use Rattle.std.proofs.Common.{◌≡◌, Some, refl, sym, ap, ◌∙◌}
use Rattle.std.specs.Prelude.{slice_get}
use Rattle.vlog_tree.specs.Table.{declared, net_kind_is_input}
use Rattle.vlog_run_laws.proofs.runs.Sound.{input_is}
use Rattle.cycle_sim.proofs.Naming.{top_number, declared_kind}
use Rattle.cycle_sim.proofs.Supplying.{none_of, some_clash, given_something}
use Rattle.tapa_base.proofs.Tests.{true_not_false}
use Rattle.cycle_sim.proofs.supplies.input_at.Goals as goal

pub returns-then-not-is_input-clause-all : goal.returns-then-not-is_input-clause-all
returns-then-not-is_input-clause-all c = λ ms top f t names p here are and got e input silent.
    absurd (true_not_false (sym (c.is_input.ensures ∙ ap net_kind_is_input input) ∙ c.if-not-is_input.true))

pub returns-then-is_some-clause-all : goal.returns-then-is_some-clause-all
returns-then-is_some-clause-all c = λ ms top f t names p here are and got e input silent.
    absurd (some_clash (λ x. x.now) c.rdata_of.result (sym c.is_some.ensures ∙ c.if-is_some.true) (c.rdata_of.ensures.value ∙ silent))

pub returns-in_default-clause-all : goal.returns-in_default-clause-all
returns-in_default-clause-all c = λ ms top f t names p here are and got e input silent. cc

pub returns-in_default-supply_of-clause-all : goal.returns-in_default-supply_of-clause-all
returns-in_default-supply_of-clause-all c = λ ms top f t names p here are and got e input silent.
    c.in_default-supply_of.ensures.some top are and (given_something ms top f c.args.pairs.now t names here c.args.scalars.now c.args.place c.args.d.now p got e input silent)

pub returns-clause-is : goal.returns-clause-is
returns-clause-is c = λ ms top f t names here are and got.
    let d = c.args.d.now in
    let place = c.args.place in
    let pairs = c.args.pairs.now in
    let at : slice_get (declared top) place ≡ Some d = ap (λ ds. slice_get ds place) (sym here.are_names) ∙ got in
    record {
      name = d.name;
      has_number = top_number ms top f pairs t names here place d.name (d, at, refl);
      net_kind = declared_kind ms top f pairs t names here place d at ∙ input_is d.net_kind (sym c.is_input.ensures ∙ c.if-not-is_input.false);
      no_answer = sym c.rdata_of.ensures.value ∙ none_of (λ x. x.now) c.rdata_of.result (sym c.is_some.ensures ∙ c.if-is_some.false);
      placed = sym c.in-Some.ensures.value;
      supplied = c.in-Some-supply_of.ensures.is top are and;
    }
