-- Elements of lists by their places.
use Rattle.std.proofs.Common.{◌≡◌, ℕ, zero, suc, ◌+◌, ◌<◌, List, [], ◌∷◌, ◌++◌, length, take, Option, Some, None, inl, inr, refl, sym, ap, subst, ◌∙◌, map, arith}
use Rattle.std.specs.Prelude.{◌⊎◌, slice_get, replicate, unwrap_or, option_to_list, option_map}
use Rattle.std.specs.List.{flat_map}
use Rattle.std.proofs.lemmas.List.{length-append}
use Rattle.vlog_tree.specs.declared.tree.Connection.{Connection}
use Rattle.vlog_tree.specs.declared.tree.Item.{Item}
use Rattle.vlog_tree.specs.declared.tree.Item.TheVariants.{Instance}
use Rattle.tapa_base.specs.Lists.{Has}
use Rattle.vlog_tree.specs.Table.{Name}
use Rattle.vlog_tree.specs.Loops.{item_instances}

pub got_left : {A : Type 0} (xs ys : List A) (n : ℕ) → n < length xs → slice_get (xs ++ ys) n ≡ slice_get xs n
got_left [] ys n h = absurd (omega arith)
got_left (x ∷ xs) ys zero h = refl
got_left (x ∷ xs) ys (suc n) h = got_left xs ys n (omega arith)

pub got_behind : {A : Type 0} (xs ys : List A) (n : ℕ) → slice_get (xs ++ ys) (length xs + n) ≡ slice_get ys n
got_behind [] ys n = let e : 0 + n ≡ n = omega arith in ap (λ k. slice_get ys k) e
got_behind (x ∷ xs) ys n = let e : suc (length xs) + n ≡ suc (length xs + n) = omega arith in ap (λ k. slice_get (x ∷ (xs ++ ys)) k) e ∙ got_behind xs ys n

pub got_split : {A : Type 0} (xs ys : List A) (n : ℕ) (y : A) → slice_get (xs ++ ys) n ≡ Some y → (slice_get xs n ≡ Some y) ⊎ ((j : ℕ) × (n ≡ length xs + j) × (slice_get ys j ≡ Some y))
got_split [] ys n y e = inr (n, (let z : n ≡ 0 + n = omega arith in z), e)
got_split (x ∷ xs) ys zero y e = inl e
got_split (x ∷ xs) ys (suc n) y e = elim (got_split xs ys n y e) [
  | inl l ↦ inl l
  | inr r ↦ (let is : n ≡ length xs + r.0 = r.1 in let z : suc n ≡ suc (length xs) + r.0 = omega arith in inr (r.0, z, r.2))
]

pub got_replicate : {A : Type 0} (c : ℕ) (x : A) (j : ℕ) → j < c → slice_get (replicate c x) j ≡ Some x
got_replicate zero x j h = absurd (omega arith)
got_replicate (suc c) x zero h = refl
got_replicate (suc c) x (suc j) h = got_replicate c x j (omega arith)

pub of_replicate : {A : Type 0} (c : ℕ) (x : A) (j : ℕ) (y : A) → slice_get (replicate c x) j ≡ Some y → (j < c) × (x ≡ y)
of_replicate zero x j y e = cc
of_replicate (suc c) x zero y e = (omega arith, cc)
of_replicate (suc c) x (suc j) y e = let r = of_replicate c x j y e in let low : j < c = r.0 in let z : suc j < suc c = omega arith in (z, r.1)

-- the parts of two pairs that are one
pub pair_parts : {A B : Type 0} (a c : A) (b d : B) → ◌≡◌ {A = Option (A × B)} (Some (a, b)) (Some (c, d)) → (a ≡ c) × (b ≡ d)
pair_parts {A} {B} a c b d e = (ap (λ (o : Option (A × B)). (unwrap_or o (a, b)).0) e, ap (λ (o : Option (A × B)). (unwrap_or o (a, b)).1) e)

-- what an option has
pub of_option : {A B : Type 0} (f : A → B) (o : Option A) (y : B) → Has (option_to_list (option_map f o)) y → (x : A) × (o ≡ Some x) × (f x ≡ y)
of_option f None y h = absurd h
of_option f (Some x) y (inl e) = (x, refl, e)
of_option f (Some x) y (inr h) = absurd h

pub has_option : {A B : Type 0} (f : A → B) (o : Option A) (x : A) → o ≡ Some x → Has (option_to_list (option_map f o)) (f x)
has_option f o x e = subst (λ p. Has (option_to_list (option_map f p)) (f x)) (sym e) (inl refl)

-- the instance of a line has the place of all that stand in the lines before
pub instance_got : (items : List Item) (k : ℕ) (kn i : Name) (connections : List Connection) → slice_get items k ≡ Some (Instance kn i connections)
    → slice_get (flat_map item_instances items) (length (flat_map item_instances (take k items))) ≡ Some (kn, i)
instance_got [] k kn i connections e = cc
instance_got (it ∷ items) zero kn i connections e =
    let same : it ≡ Instance kn i connections = cc in
    subst (λ (z : Item). slice_get (item_instances z ++ flat_map item_instances items) 0 ≡ Some (kn, i)) (sym same) refl
instance_got (it ∷ items) (suc k) kn i connections e =
    ap (λ n. slice_get (item_instances it ++ flat_map item_instances items) n) (length-append (item_instances it) (flat_map item_instances (take k items)))
    ∙ got_behind (item_instances it) (flat_map item_instances items) (length (flat_map item_instances (take k items)))
    ∙ instance_got items k kn i connections e
