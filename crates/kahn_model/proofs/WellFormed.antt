-- A well-formed program is wired: each leaf uses its streams as it declares them, and each stream is bound to the two
-- instances that write and read it.
use Rattle.std.proofs.Common.{◌≡◌, ℕ, List, length, Bool, true, false, Option, Some, None, get_or, refl, sym, ap, ◌∙◌, subst, arith}
use Rattle.std.specs.Prelude.{slice_get, option_map, unwrap_or}
use Rattle.std.proofs.lemmas.Option.{slice_get_within, slice_get-get_or}
use Rattle.tapa_syntax.specs.declared.program.End.{End}
use Rattle.tapa_syntax.specs.declared.program.Instance.{Instance}
use Rattle.tapa_syntax.specs.declared.program.Leaf.{Leaf}
use Rattle.tapa_syntax.specs.declared.program.Program.{Program}
use Rattle.tapa_syntax.specs.declared.program.Stream.{Stream}
use Rattle.tapa_syntax.specs.LeafKinds.{kinds_of, writes_of}
use Rattle.tapa_syntax.specs.WellFormed.{IsEndOf, IsInstance, IsWellFormed}
use Rattle.kahn_model.specs.Network.{IsNetwork}
use Rattle.kahn_model.specs.ProgramNetwork.{stream_at, end_of, IsBound, IsWired}
use Rattle.tapa_base.specs.declared.kind.Kind.TheVariants.{U64}
use Rattle.kahn_model.specs.Fits.{stream_kind}
use Rattle.kahn_model.specs.Start.{network_of, first_state}
use Rattle.kahn_model.proofs.Wired.{wired_network}

-- the parameter at a position that w names
pub end_there : (o : Option End) (b : Bool) → option_map (λ (e : End). e.writes) o ≡ Some b → (e : End) × (o ≡ Some e) × (e.writes ≡ b)
end_there None b h = absurd (cc)
end_there (Some e) b h = (e, refl, cc)

-- a list as long as another has an element where the other has one
pub get_there : {A B : Type 0} (xs : List A) (ys : List B) (p : ℕ) (y : B) → length xs ≡ length ys → slice_get ys p ≡ Some y → (x : A) → slice_get xs p ≡ Some (get_or xs p x)
get_there xs ys p y e h x = let l = slice_get_within ys p y h in slice_get-get_or xs p x (omega arith)

-- the stream at a position, for either end
pub bound_end : (program : Program) (i : ℕ) (x : Instance) (leaf : Leaf) → IsInstance program i x leaf → (p : ℕ) (b : Bool) → writes_of leaf.streams.items p ≡ Some b → (r : Stream) × (slice_get program.streams.items (stream_at x p) ≡ Some r) × IsEndOf i b r
bound_end program i x leaf h p b w =
    let (e, is, ew) = end_there (slice_get leaf.streams.items p) b w in
    let at = h.streams p (stream_at x p) e (get_there x.streams.items leaf.streams.items p e h.streams_len is 0) is in
    (at.stream, at.is, subst (λ c. IsEndOf i c at.stream) ew at.end)

pub stream_kind_at : (program : Program) (i : ℕ) (x : Instance) (leaf : Leaf) → IsInstance program i x leaf → (p : ℕ) (b : Bool) → writes_of leaf.streams.items p ≡ Some b → (kinds_of leaf).streams p ≡ stream_kind program (stream_at x p)
stream_kind_at program i x leaf h p b w =
    let (e, is, ew) = end_there (slice_get leaf.streams.items p) b w in
    let at = h.streams p (stream_at x p) e (get_there x.streams.items leaf.streams.items p e h.streams_len is 0) is in
    ap (λ o. unwrap_or (option_map (λ (e : End). e.kind) o) U64) is ∙ sym at.kind ∙ sym (ap (λ o. unwrap_or (option_map (λ (r : Stream). r.kind) o) U64) at.is)

pub same_leaf : (a b : Leaf) (o : Option Leaf) → o ≡ Some a → o ≡ Some b → a ≡ b
same_leaf a b o e f = cc

leaf_bound : (program : Program) → IsWellFormed program → (i : ℕ) (x : Instance) (leaf : Leaf) → slice_get program.bodies.items x.body ≡ Some leaf → IsInstance program i x leaf → IsBound (λ s. end_of (λ (r : Stream). r.producer) (slice_get program.streams.items s)) (λ s. end_of (λ (r : Stream). r.consumer) (slice_get program.streams.items s)) i x leaf
leaf_bound program w i x leaf is h = record {
  uses = (w.leaves x.body leaf is).uses;
  writer = λ p e. let b = bound_end program i x leaf h p true e in ap (end_of (λ (r : Stream). r.producer)) b.1 ∙ b.2;
  reader = λ p e. let b = bound_end program i x leaf h p false e in ap (end_of (λ (r : Stream). r.consumer)) b.1 ∙ b.2;
}

pub well_formed_wired : (program : Program) → IsWellFormed program → IsWired program
well_formed_wired program w = record {
  bound = λ first i x leaf ex el.
      let h = w.instances i x ex in
      leaf_bound program w i x leaf el (subst (λ l. IsInstance program i x l) (same_leaf h.0 leaf _ h.1.body el) h.1);
}

pub program_network : (program : Program) → IsWellFormed program → (scalars : List ℕ) (memories : List (List ℕ)) → IsNetwork (network_of program scalars memories)
unfolding network_of
program_network program w scalars memories = wired_network program (well_formed_wired program w) (first_state program scalars memories)
