use Rattle.std.proofs.Common.{Some, refl, sym, ap, ◌∙◌}
use Rattle.std.proofs.lemmas.Option.{same_Some}
use Rattle.vlog_tree.specs.declared.table.Declaration.{Declaration}
use Rattle.vlog_tree.specs.Table.{net_kind_is_register}
use Rattle.cycle_sim.proofs.Filling.{register_is}
use Rattle.tapa_base.proofs.Tests.{true_not_false}
use Rattle.tapa_base.proofs.Got.{clash}
use Rattle.cycle_sim.proofs.registers.held_at.Goals as goal

pub returns-in_default-clause-some : goal.returns-in_default-clause-some
returns-in_default-clause-some c = λ bits p h. absurd (clash _ h.declaration (sym c.in_default.ensures) h.named)

pub returns-then-not-is_register-clause-some : goal.returns-then-not-is_register-clause-some
returns-then-not-is_register-clause-some c = λ bits p h.
    let same = same_Some c.in-Some.d.now h.declaration (c.in-Some.ensures ∙ h.named) in
    absurd (true_not_false (sym (c.is_register.ensures ∙ ap net_kind_is_register (ap (λ (d : Declaration). d.net_kind) same ∙ h.is_register)) ∙ c.if-not-is_register.true))

pub returns-in_default-pair_of-clause-some : goal.returns-in_default-pair_of-clause-some
returns-in_default-pair_of-clause-some c = λ bits p h. absurd (clash _ p (sym c.in_default-pair_of.ensures.value) h.placed)

pub returns-clause-is : goal.returns-clause-is
returns-clause-is c = record {
  declaration = c.in-Some.d.now;
  named = sym c.in-Some.ensures;
  is_register = register_is c.in-Some.d.now.net_kind (sym c.is_register.ensures ∙ c.if-not-is_register.false);
  wide = refl;
  placed = sym c.in-Some-pair_of.ensures.value;
}

pub returns-clause-some : goal.returns-clause-some
returns-clause-some c = λ bits p h.
    let same = same_Some c.in-Some.d.now h.declaration (c.in-Some.ensures ∙ h.named) in
    let pair = same_Some c.in-Some-pair_of.pair p (c.in-Some-pair_of.ensures.value ∙ h.placed) in
    ap (λ q. Some (q, c.in-Some.d.now.bits)) pair ∙ ap (λ b. Some (p, b)) (ap (λ (d : Declaration). d.bits) same ∙ h.wide)
