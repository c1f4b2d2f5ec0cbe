use Rattle.std.proofs.Common.{◌≡◌, ◌<◌, ◌^◌, ℕ, List, Option, Some, None, refl, sym, ap, subst, ◌∙◌}
use Rattle.std.specs.Prelude.{slice_get, slice_index, unwrap_or, option_map}
use Rattle.std.proofs.lemmas.Option.{unwrap_or-slice_get, slice_get-map}
use Rattle.tapa_base.specs.declared.kind.Kind.{Kind}
use Rattle.tapa_base.specs.declared.kind.Kind.TheVariants.{U64}
use Rattle.tapa_base.specs.Kinds.{values_of}
use Rattle.tapa_syntax.specs.declared.program.Program.{Program}
use Rattle.tapa_syntax.specs.declared.program.Scalar.{Scalar}
use Rattle.kahn_model.specs.Fits.{ScalarsFit}
use Rattle.kahn_model.specs.Start.{kinds_in}
use Rattle.kahn_model.proofs.start.value_of_bound.Goals as goal

-- the value of a scalar has its kind, and where there is no such scalar every number of 64 bits fits
fits_kind : (program : Program) (scalars : List ℕ) → ScalarsFit program scalars → (x v : ℕ) → v ≡ slice_index scalars x → v < 2 ^ 64 → (o : Option Scalar) → slice_get program.scalars.items x ≡ o → v < values_of (unwrap_or (option_map (λ (c : Scalar). c.kind) o) U64)
fits_kind program scalars fit x v is few None at = few
fits_kind program scalars fit x v is few (Some c) at = subst (λ (n : ℕ). n < values_of c.kind) (sym is) (fit x c at)

pub convert_through-requires : goal.convert_through-requires
convert_through-requires c =
    let kinds = kinds_in c.args.program.now in
    let x = c.in-Top.scalar in
    let kind : c.scalar_kind.result ≡ unwrap_or (option_map (λ (s : Scalar). s.kind) (slice_get c.args.program.now.scalars.items x)) U64 =
    c.scalar_kind.ensures ∙ sym (unwrap_or-slice_get kinds x U64) ∙ ap (λ (o : Option Kind). unwrap_or o U64) (slice_get-map (λ (s : Scalar). s.kind) c.args.program.now.scalars.items x) in
    subst (λ (k : Kind). c.value_at.result < values_of k) (sym kind) (fits_kind c.args.program.now c.args.scalars.now c.requires x c.value_at.result c.value_at.ensures c.value_at.type_inv (slice_get c.args.program.now.scalars.items x) refl)
