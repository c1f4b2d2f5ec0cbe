use Rattle.std.proofs.Common.{◌≡◌, ◌+◌, ◌*◌, ◌<◌, ◌^◌, ℕ, arith, ap, subst, ◌∙◌, sym}
use Rattle.std.proofs.lemmas.List.{drop_all}
use Rattle.tapa_syntax.specs.Literals.{value_behind}
use Rattle.tapa_lex.proofs.Values.{too_great}
use Rattle.tapa_lex.proofs.literal.value_of.Goals as goal

pub returns-in-None : goal.returns-in-None
returns-in-None c = too_great c.args.base c.loop-b.value c.loop-b.b-index c.args.digits.now c.requires (omega arith) c.loop-b.invariant.0 (λ h. c.in-None.ensures {u = tt} (subst (λ (x : ℕ). c.loop-b.value * c.args.base + x < 2 ^ 64) (sym c.worth.ensures) h))

pub returns : goal.returns
unfolding value_behind
returns c =
    let is : value_behind c.args.base 0 c.args.digits.now ≡ c.loop-b.value = c.loop-b.invariant.0 ∙ ap (value_behind c.args.base c.loop-b.value) (drop_all c.loop-b.b-index c.args.digits.now (omega arith)) in
    (omega (arith, is, c.loop-b.invariant.1), sym is)
