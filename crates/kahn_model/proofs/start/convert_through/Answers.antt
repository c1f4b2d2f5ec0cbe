use Rattle.std.proofs.Common.{◌≡◌, ◌<◌, ◌+◌, ℕ, List, drop, length, get_or, sym, ap, subst, ◌∙◌}
use Rattle.std.proofs.lemmas.List.{drop_more}
use Rattle.tapa_base.specs.declared.kind.Kind.{Kind}
use Rattle.tapa_base.specs.declared.kind.Kind.TheVariants.{Bool}
use Rattle.tapa_base.specs.Kinds.{converted, values_of}
use Rattle.kahn_model.specs.Start.{through}
use Rattle.tapa_syntax.proofs.Values.{converted_fits}
use Rattle.kahn_model.proofs.start.convert_through.Goals as goal

one_more : (kinds : List Kind) (i : ℕ) (d last : Kind) (value next : ℕ) → i < length kinds → next ≡ converted last (get_or kinds i d) value → through (get_or kinds i d) (drop (i + 1) kinds) next ≡ through last (drop i kinds) value
one_more kinds i d last value next inside is =
    ap (through (get_or kinds i d) (drop (i + 1) kinds)) is ∙ sym (ap (λ (l : List Kind). through last l value) (drop_more kinds i d inside))

pub loop-kind-preserved : goal.loop-kind-preserved
loop-kind-preserved c = (
  one_more c.args.kinds.now c.loop-kind.kind-index Bool c.loop-kind.last c.loop-kind.value c.convert-value.result c.loop-kind-test.true c.convert-value.ensures ∙ c.loop-kind.invariant.0,
  subst (λ (n : ℕ). n < values_of (get_or c.args.kinds.now c.loop-kind.kind-index Bool)) (sym c.convert-value.ensures) (converted_fits c.loop-kind.last (get_or c.args.kinds.now c.loop-kind.kind-index Bool) c.loop-kind.value),
)
