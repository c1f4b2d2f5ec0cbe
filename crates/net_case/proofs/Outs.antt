-- Which instances are out, by the homes.
use Rattle.std.proofs.Common.{◌≡◌, ℕ, zero, suc, ◌<◌, ◌≤◌, List, [], ◌∷◌, length, true, false, Option, Some, None, refl, sym, ap, ◌∙◌, subst, ⊎_elim, arith}
use Rattle.std.specs.Prelude.{slice_get, slice_index_or, slice_set, is_none}
use Rattle.std.specs.Option.{is_some}
use Rattle.std.proofs.lemmas.Bool.{cases_lt}
use Rattle.std.proofs.lemmas.List.{map-set, length-map, get_or_past}
use Rattle.std.proofs.lemmas.Option.{get_or_from_slice_get}
use Rattle.net_case.specs.declared.batch.Process.{Process}
use Rattle.net_case.specs.Home.{outs}
use Rattle.tapa_base.proofs.Got.{some_at as has_item, got_map as map_get}

pub out_at : {B : Type 0} (homes : List (Option (Process B))) (i : ℕ) (h : Option (Process B)) → slice_get homes i ≡ Some h → slice_index_or (outs homes) i false ≡ is_none h
out_at homes i h e = get_or_from_slice_get (outs homes) i (is_none h) false (map_get is_none homes i h e)

pub outs_set : {B : Type 0} (homes : List (Option (Process B))) (i : ℕ) (h : Option (Process B)) → outs (slice_set homes i h) ≡ slice_set (outs homes) i (is_none h)
outs_set homes i h = map-set is_none homes i h

-- an element that is set to what it was
pub set_back : {A : Type 0} (xs : List A) (i : ℕ) (x : A) → slice_get xs i ≡ Some x → slice_set xs i x ≡ xs
set_back [] i x e = refl
set_back (y ∷ ys) zero x e = let q : y ≡ x = cc in ap (λ z. z ∷ ys) (sym q)
set_back (y ∷ ys) (suc i) x e = ap (λ l. y ∷ l) (set_back ys i x e)

home_by : {B : Type 0} (homes : List (Option (Process B))) (i : ℕ) → slice_index_or (outs homes) i false ≡ false → (h : Option (Process B)) → slice_get homes i ≡ Some h → (x : Process B) × (slice_get homes i ≡ Some (Some x))
home_by homes i out None e = let q = sym (out_at homes i None e) ∙ out in absurd (cc)
home_by homes i out (Some x) e = (x, e)

-- who is not out is at home
pub home_of : {B : Type 0} (homes : List (Option (Process B))) (i : ℕ) → i < length homes → slice_index_or (outs homes) i false ≡ false → (x : Process B) × (slice_get homes i ≡ Some (Some x))
home_of homes i l out = let h = has_item homes i l in home_by homes i out h.0 h.1

none_by : {A : Type 0} (x : Option A) → is_some x ≡ true → is_none x ≡ false
none_by None e = absurd (cc)
none_by (Some x) e = refl

-- a home that was read and has its instance
pub not_out : {B : Type 0} (homes : List (Option (Process B))) (i : ℕ) (x : Option (Process B)) → x ≡ slice_index_or homes i x → i < length homes → is_some x ≡ true → slice_index_or (outs homes) i false ≡ false
not_out homes i x e l s =
    let h = has_item homes i l in
    let q : x ≡ h.0 = e ∙ get_or_from_slice_get homes i h.0 x h.1 in
    out_at homes i h.0 h.1 ∙ none_by h.0 (subst (λ (y : Option _). is_some y ≡ true) q s)

-- a home that was read and has this instance
pub home_at : {B : Type 0} (homes : List (Option (Process B))) (i : ℕ) (x : Option (Process B)) (y : Process B) → x ≡ slice_index_or homes i x → i < length homes → x ≡ Some y → slice_get homes i ≡ Some (Some y)
home_at homes i x y e l q =
    let h = has_item homes i l in
    let z : x ≡ h.0 = e ∙ get_or_from_slice_get homes i h.0 x h.1 in
    h.1 ∙ ap Some (sym z ∙ q)

-- a home that was read and has none
pub away_at : {B : Type 0} (homes : List (Option (Process B))) (i : ℕ) (x : Option (Process B)) → x ≡ slice_index_or homes i x → i < length homes → x ≡ None → slice_get homes i ≡ Some None
away_at homes i x e l q =
    let h = has_item homes i l in
    let z : x ≡ h.0 = e ∙ get_or_from_slice_get homes i h.0 x h.1 in
    h.1 ∙ ap Some (sym z ∙ q)

-- where each home has its instance, none is out
pub none_out : {B : Type 0} (homes : List (Option (Process B))) → ((i : ℕ) → i < length homes → (x : Process B) × (slice_get homes i ≡ Some (Some x))) → (i : ℕ) → slice_index_or (outs homes) i false ≡ false
none_out homes home i =
    ⊎_elim
    (λ (l : i < length homes). let x = home i l in out_at homes i (Some x.0) x.1)
    (λ (l : length homes ≤ i). get_or_past (outs homes) i false (let e : length (outs homes) ≡ length homes = length-map homes is_none in omega arith))
    (cases_lt i (length homes))
