-- Graphs of names as they grow.
use Rattle.std.proofs.Common.{◌≡◌, ℕ, zero, suc, ◌+◌, ◌<◌, Bool, true, false, cond, List, [], ◌∷◌, ◌++◌, length, get_or, take, Option, Some, None, inl, inr, refl, sym, ap, subst, ◌∙◌, arith}
use Rattle.std.specs.Prelude.{bytes_eq, ◌⊎◌, ◌↔◌, slice_get, Vec}
use Rattle.std.specs.Cmp.Lexicographic.{bytes_decides}
use Rattle.tapa_base.specs.Lists.{Has, Chain, one, more}
use Rattle.vlog_tree.specs.Table.{Name}
use Rattle.vlog_tree.specs.Loops.{Edges, Reaches}
use Rattle.tapa_base.proofs.Lists.{has_left, has_right, has_split, taken_mapped}
use Rattle.vlog_net_graph.specs.Names.{IsNumbered, AreListed, texts}

-- a number that no name has yet is given to a name
module _ (edges : Edges) (old new : Name → Option ℕ) (R : ℕ → ℕ → Type 0) (n : ℕ) (name : Name)
    (g : IsNumbered edges old R n) (fresh : old name ≡ None)
    (step : (x : Name) → new x ≡ cond (bytes_eq name x) (Some n) (old x)) where
  case_of : (b : Bool) (x : Name) (j : ℕ) → bytes_eq name x ≡ b → cond b (Some n) (old x) ≡ Some j → ((name ≡ x) × (n ≡ j)) ⊎ (old x ≡ Some j)
  case_of true x j e h = inl ((bytes_decides name x).0 e, cc)
  case_of false x j e h = inr h

  cases : (x : Name) (j : ℕ) → new x ≡ Some j → ((name ≡ x) × (n ≡ j)) ⊎ (old x ≡ Some j)
  cases x j h = case_of _ x j refl (sym (step x) ∙ h)

  keep_of : (b : Bool) (x : Name) (j : ℕ) → bytes_eq name x ≡ b → old x ≡ Some j → cond b (Some n) (old x) ≡ Some j
  keep_of true x j e h = let same_name : name ≡ x = (bytes_decides name x).0 e in let clash : old x ≡ None = subst (λ y. old y ≡ None) same_name fresh in cc
  keep_of false x j e h = h

  pub keeps : (x : Name) (j : ℕ) → old x ≡ Some j → new x ≡ Some j
  keeps x j h = step x ∙ keep_of _ x j refl h

  distinct_of : (a b : Name) (j : ℕ) → ((name ≡ a) × (n ≡ j)) ⊎ (old a ≡ Some j) → ((name ≡ b) × (n ≡ j)) ⊎ (old b ≡ Some j) → a ≡ b
  distinct_of a b j (inl p) (inl q) = sym p.0 ∙ q.0
  distinct_of a b j (inl p) (inr q) = let l : j < n = g.below b j q in absurd (omega (arith, p.1))
  distinct_of a b j (inr p) (inl q) = let l : j < n = g.below a j p in absurd (omega (arith, q.1))
  distinct_of a b j (inr p) (inr q) = g.distinct a b j p q

  below_of : (x : Name) (j : ℕ) → ((name ≡ x) × (n ≡ j)) ⊎ (old x ≡ Some j) → j < n + 1
  below_of x j (inl p) = omega (arith, p.1)
  below_of x j (inr p) = let l : j < n = g.below x j p in omega arith

  pub numbered_more : IsNumbered edges new R (n + 1)
  numbered_more = record {
    below = λ a j h. below_of a j (cases a j h);
    distinct = λ a b j h k. distinct_of a b j (cases a j h) (cases b j k);
    there = λ a b h. let t = g.there a b h in (t.0, t.1, keeps a t.0 t.2, keeps b t.1 t.3, t.4);
    only = λ j k h. let t = g.only j k h in (t.0, t.1, keeps t.0 j t.2, keeps t.1 k t.3, t.4);
  }

-- one more edge
module _ (edges : Edges) (number : Name → Option ℕ) (pairs : List (ℕ × ℕ)) (n : ℕ) (a b : Name) (j k : ℕ)
    (g : IsNumbered edges number (λ i m. Has pairs (i, m)) n) (is_a : number a ≡ Some j) (is_b : number b ≡ Some k) where
  there_of : (x y : Name) → Has edges (x, y) ⊎ Has {N = Name × Name} ((a, b) ∷ []) (x, y)
      → (i : ℕ) × (m : ℕ) × (number x ≡ Some i) × (number y ≡ Some m) × Has {N = ℕ × ℕ} (pairs ++ (j, k) ∷ []) (i, m)
  there_of x y (inl h) = let t = g.there x y h in (t.0, t.1, t.2, t.3, has_left pairs ((j, k) ∷ []) (t.0, t.1) t.4)
  there_of x y (inr (inl e)) = (
    j,
    k,
    subst (λ z. number z ≡ Some j) (ap (λ (p : Name × Name). p.0) e) is_a,
    subst (λ z. number z ≡ Some k) (ap (λ (p : Name × Name). p.1) e) is_b,
    has_right pairs ((j, k) ∷ []) (j, k) (inl refl),
  )
  there_of x y (inr (inr h)) = absurd h

  only_of : (i m : ℕ) → Has pairs (i, m) ⊎ Has {N = ℕ × ℕ} ((j, k) ∷ []) (i, m)
      → (x : Name) × (y : Name) × (number x ≡ Some i) × (number y ≡ Some m) × Has {N = Name × Name} (edges ++ (a, b) ∷ []) (x, y)
  only_of i m (inl h) = let t = g.only i m h in (t.0, t.1, t.2, t.3, has_left edges ((a, b) ∷ []) (t.0, t.1) t.4)
  only_of i m (inr (inl e)) = (
    a,
    b,
    is_a ∙ ap (λ z. Some z) (ap (λ (p : ℕ × ℕ). p.0) e),
    is_b ∙ ap (λ z. Some z) (ap (λ (p : ℕ × ℕ). p.1) e),
    has_right edges ((a, b) ∷ []) (a, b) (inl refl),
  )
  only_of i m (inr (inr h)) = absurd h

  pub numbered_edge : IsNumbered (edges ++ (a, b) ∷ []) number (λ i m. Has {N = ℕ × ℕ} (pairs ++ (j, k) ∷ []) (i, m)) n
  numbered_edge = record {
    below = g.below;
    distinct = g.distinct;
    there = λ x y h. there_of x y (has_split edges ((a, b) ∷ []) (x, y) h);
    only = λ i m h. only_of i m (has_split pairs ((j, k) ∷ []) (i, m) h);
  }

-- the same steps by another relation and another count
pub numbered_same : (edges : Edges) (number : Name → Option ℕ) (R S : ℕ → ℕ → Type 0) (n m : ℕ) → n ≡ m → ((j k : ℕ) → S j k ↔ R j k) → IsNumbered edges number R n → IsNumbered edges number S m
numbered_same edges number R S n m e both g = record {
  below = λ a j h. subst (λ c. j < c) e (g.below a j h);
  distinct = g.distinct;
  there = λ a b h. let t = g.there a b h in (t.0, t.1, t.2, t.3, (both t.0 t.1).1 t.4);
  only = λ j k h. g.only j k ((both j k).0 h);
}

-- the steps of a draft are between its numbers
pub pairs_low : (edges : Edges) (number : Name → Option ℕ) (R : ℕ → ℕ → Type 0) (n : ℕ) → IsNumbered edges number R n → (j k : ℕ) → R j k → (j < n) × (k < n)
pairs_low edges number R n g j k h = let t = g.only j k h in (g.below t.0 j t.2, g.below t.1 k t.3)

-- chains along edges and along numbers are one
module _ (edges : Edges) (number : Name → Option ℕ) (R : ℕ → ℕ → Type 0) (n : ℕ) (g : IsNumbered edges number R n) where
  abbrev pub Goes : ℕ → ℕ → Type 0
  Goes j k = Chain R j k

  pub down : {a b : Name} → Reaches edges a b → (j : ℕ) × (k : ℕ) × (number a ≡ Some j) × (number b ≡ Some k) × Goes j k
  down (one {a = a} {b = b} h) = let t = g.there a b h in (t.0, t.1, t.2, t.3, one t.4)
  down (more {a = a} {c = c} b h r) =
      let t = g.there a b h in
      let d = down r in
      let joined : t.1 ≡ d.0 = cc (t.3, d.2) in
      (t.0, d.1, t.2, d.3, more t.1 t.4 (subst (λ i. Goes i d.1) (sym joined) d.4))

  pub up : {j k : ℕ} → Goes j k → (a : Name) × (b : Name) × (number a ≡ Some j) × (number b ≡ Some k) × Reaches edges a b
  up (one {a = j} {b = k} h) = let t = g.only j k h in (t.0, t.1, t.2, t.3, one t.4)
  up (more {a = j} {c = k} m h r) =
      let t = g.only j m h in
      let u = up r in
      let joined : t.1 ≡ u.0 = g.distinct t.1 u.0 m t.3 u.2 in
      (t.0, u.1, t.2, u.3, more t.1 t.4 (subst (λ x. Reaches edges x u.1) (sym joined) u.4))

  -- a name without a number reaches nothing
  pub reached_by_none : (x y : Name) → number x ≡ None → Reaches edges x y → ⊥
  reached_by_none x y e r = let d = down r in cc (e, d.2)

  pub returned : (x : Name) → Reaches edges x x → (j : ℕ) × (number x ≡ Some j) × Goes j j
  returned x r =
      let d = down r in
      let same : d.1 ≡ d.0 = cc (d.2, d.3) in
      (d.0, d.2, subst (λ k. Goes d.0 k) same d.4)

  -- a name that reaches itself, by its number
  pub returns_both : (x : Name) (j : ℕ) → number x ≡ Some j → Goes j j ↔ Reaches edges x x
  returns_both x j at = (
    λ c.
        let u = up c in
        let first : u.0 ≡ x = g.distinct u.0 x j u.2 at in
        let last : u.1 ≡ x = g.distinct u.1 x j u.3 at in
        subst (λ z. Reaches edges z x) first (subst (λ z. Reaches edges u.0 z) last u.4),
    λ r. let w = returned x r in let same : w.0 ≡ j = cc (w.1, at) in subst (λ k. Goes k k) same w.2,
  )

  -- a number that reaches itself is that of a name
  pub some_loop : (k : ℕ) → Goes k k → (x : Name) × Reaches edges x x
  some_loop k c = let u = up c in let same : u.1 ≡ u.0 = g.distinct u.1 u.0 k u.3 u.2 in (u.0, subst (λ z. Reaches edges u.0 z) same u.4)

-- what has a number, since it reaches something
pub numbered_start : (edges : Edges) (number : Name → Option ℕ) (R : ℕ → ℕ → Type 0) (n : ℕ) → IsNumbered edges number R n → (x y : Name) → Reaches edges x y → (j : ℕ) × (number x ≡ Some j)
numbered_start edges number R n g x y r = let d = down edges number R n g r in (d.0, d.2)

pub texts_taken : {A : Type 0} (names : List (Vec ℕ A)) (i : ℕ) (v : Vec ℕ A) (x : Name) → i < length names → v ≡ get_or names i v → Has (texts (take (i + 1) names)) x → Has (texts (take i names)) x ⊎ (v.items ≡ x)
texts_taken names i v x low is h = taken_mapped (λ v. v.items) names i v x low is h

-- one more name is listed
pushed_here : {A : Type 0} (names : List (Vec ℕ A)) (v : Vec ℕ A) → slice_get (texts (names ++ v ∷ [])) (length names) ≡ Some v.items
pushed_here [] v = refl
pushed_here (u ∷ names) v = pushed_here names v

pushed_kept : {A : Type 0} (names : List (Vec ℕ A)) (v : Vec ℕ A) (k : ℕ) (x : Name) → slice_get (texts names) k ≡ Some x → slice_get (texts (names ++ v ∷ [])) k ≡ Some x
pushed_kept [] v k x h = cc
pushed_kept (u ∷ names) v zero x h = h
pushed_kept (u ∷ names) v (suc k) x h = pushed_kept names v k x h

module _ {A : Type 0} (names : List (Vec ℕ A)) (v : Vec ℕ A) (old new : Name → Option ℕ) (name : Name) (is : v.items ≡ name) (step : (x : Name) → new x ≡ cond (bytes_eq name x) (Some (length names)) (old x)) (listed : AreListed old (texts names)) where
  listed_of : (x : Name) (k : ℕ) (b : Bool) → bytes_eq name x ≡ b → cond b (Some (length names)) (old x) ≡ Some k → slice_get (texts (names ++ v ∷ [])) k ≡ Some x
  listed_of x k true e h =
      let at : length names ≡ k = cc in
      subst (λ n. slice_get (texts (names ++ v ∷ [])) n ≡ Some x) at (pushed_here names v ∙ ap (λ z. Some z) (is ∙ (bytes_decides name x).0 e))
  listed_of x k false e h = pushed_kept names v k x (listed x k h)

  pub listed_more : AreListed new (texts (names ++ v ∷ []))
  listed_more x k h = listed_of x k _ refl (sym (step x) ∙ h)
