-- What registers take over, and their slots.
use Rattle.std.proofs.Common.{◌≡◌, ℕ, zero, suc, ◌<◌, Bool, true, false, cond, List, [], ◌∷◌, ◌++◌, Option, Some, None, get_or, inl, inr, refl, sym, ap, subst, ◌∙◌, arith}
use Rattle.std.specs.Prelude.{◌⊎◌, ◌≢◌, ◌==◌, slice_get}
use Rattle.std.proofs.lemmas.Bool.{cases_lt, eqb-true, eq-eqb, false≢true}
use Rattle.vlog_tree.specs.declared.table.Declaration.{Declaration}
use Rattle.tapa_base.specs.Lists.{Has}
use Rattle.vlog_tree.specs.Table.{net_kind_is_register}
use Rattle.tapa_base.proofs.Lists.{has_got, has_left, has_right, has_split}
use Rattle.sim_tape.specs.declared.gates.Pair.{Pair}
use Rattle.sim_design.specs.declared.drafts.Commit.{Commit}
use Rattle.sim_design.specs.Commits.{commits_of, commits_at, commits_for, commits_below}
use Rattle.sim_design.specs.Drafts.{IsCommitted}
use Rattle.sim_design.specs.Below.{AreOnce}

-- a slot is one of a pair, and not slot 0 for its high half
abbrev pub IsSlot : Pair → ℕ → Type 0
IsSlot p slot = (slot ≡ p.low) ⊎ ((slot ≡ p.high) × (p.high ≢ 0))

high_there : (a c : Commit) (n : ℕ) (b : Bool) → (n == 0) ≡ b → (n ≡ 0) ⊎ Has {N = Commit} (a ∷ cond b [] (c ∷ [])) c
high_there a c n true e = inl (eqb-true n 0 e)
high_there a c n false e = inr (inr (inl refl))

-- the commits of one pair bring its numbers into it
pub committed : (p q : Pair) → IsCommitted (commits_of p q) p q
committed p q = (inl refl, high_there (record { slot = p.low; next = q.low }) (record { slot = p.high; next = q.high }) p.high (p.high == 0) refl)

pub committed_by : (commits more : List Commit) (p q : Pair) → ((a : Commit) → Has commits a → Has more a) → IsCommitted commits p q → IsCommitted more p q
committed_by commits more p q f h = (f (record { slot = p.low; next = q.low }) h.0, elim h.1 [ inl z ↦ inl z | inr s ↦ inr (f (record { slot = p.high; next = q.high }) s) ])

slot_high : (p q : Pair) (a : Commit) (b : Bool) → (p.high == 0) ≡ b → Has {N = Commit} (cond b [] (record { slot = p.high; next = q.high } ∷ [])) a → (a.slot ≡ p.high) × (p.high ≢ 0)
slot_high p q a true e h = absurd h
slot_high p q a false e (inl same) = (ap (λ (a : Commit). a.slot) (sym same), λ z. false≢true (sym e ∙ eq-eqb p.high 0 z))
slot_high p q a false e (inr h) = absurd h

slot_of : (p q : Pair) (a : Commit) → Has (commits_of p q) a → IsSlot p a.slot
slot_of p q a (inl same) = inl (ap (λ (a : Commit). a.slot) (sym same))
slot_of p q a (inr h) = inr (slot_high p q a (p.high == 0) refl h)

-- the commits of a register that has a pair
pub is_for : (o : Option Declaration) (x y : Option Pair) (d : Declaration) (p q : Pair) → o ≡ Some d → net_kind_is_register d.net_kind ≡ true → x ≡ Some p → y ≡ Some q → commits_for o x y ≡ commits_of p q
is_for o x y d p q e kind f g =
    ap (λ (o : Option Declaration). commits_for o x y) e
    ∙ ap (λ b. cond b (commits_at x y) []) kind
    ∙ ap (λ (x : Option Pair). commits_at x y) f
    ∙ ap (λ (y : Option Pair). commits_at (Some p) y) g

-- what a commit is of
abbrev IsFor : Option Declaration → Option Pair → Commit → Type 0
IsFor o x a = (d : Declaration) × (o ≡ Some d) × (net_kind_is_register d.net_kind ≡ true) × (p : Pair) × (x ≡ Some p) × IsSlot p a.slot

of_kind : (d : Declaration) (x y : Option Pair) (a : Commit) (b : Bool) → net_kind_is_register d.net_kind ≡ b → Has (cond b (commits_at x y) []) a → IsFor (Some d) x a
of_kind d (Some p) (Some q) a true e h = (d, refl, e, p, refl, slot_of p q a h)
of_kind d (Some p) None a true e h = absurd h
of_kind d None y a true e h = absurd h
of_kind d x y a false e h = absurd h

of_for : (o : Option Declaration) (x y : Option Pair) (a : Commit) → Has (commits_for o x y) a → IsFor o x a
of_for None x y a h = absurd h
of_for (Some d) x y a h = of_kind d x y a (net_kind_is_register d.net_kind) refl h

pub once_both : (xs ys : List Commit) → AreOnce xs → AreOnce ys → ((a b : Commit) → Has xs a → Has ys b → a.slot ≢ b.slot) → AreOnce (xs ++ ys)
once_both [] ys h k apart = k
once_both (x ∷ xs) ys h k apart = (
  (λ b has. elim (has_split xs ys b has) [ inl l ↦ h.0 b l | inr r ↦ apart x b (inl refl) r ]),
  once_both xs ys h.1 k (λ a b l r. apart a b (inr l) r),
)

once_by : (a c : Commit) (b : Bool) → (b ≡ false → a.slot ≢ c.slot) → AreOnce (a ∷ cond b [] (c ∷ []))
once_by a c true ne = ((λ d h. absurd h), tt)
once_by a c false ne = ((λ d h. elim h [ inl e ↦ (λ same. ne refl (same ∙ ap (λ (k : Commit). k.slot) (sym e))) | inr n ↦ absurd n ]), ((λ d h. absurd h), tt))

once_of : (p q : Pair) → (p.high ≡ 0) ⊎ (p.low ≢ p.high) → AreOnce (commits_of p q)
once_of p q ok =
    once_by (record { slot = p.low; next = q.low }) (record { slot = p.high; next = q.high }) (p.high == 0)
    (λ e same. elim ok [ inl z ↦ false≢true (sym e ∙ eq-eqb p.high 0 z) | inr ne ↦ ne same ])

once_kind : (x y : Option Pair) (b : Bool) → ((p : Pair) → b ≡ true → x ≡ Some p → (p.high ≡ 0) ⊎ (p.low ≢ p.high)) → AreOnce (cond b (commits_at x y) [])
once_kind x y false ok = tt
once_kind None y true ok = tt
once_kind (Some p) None true ok = tt
once_kind (Some p) (Some q) true ok = once_of p q (ok p refl refl)

once_for : (o : Option Declaration) (x y : Option Pair) → ((d : Declaration) (p : Pair) → o ≡ Some d → net_kind_is_register d.net_kind ≡ true → x ≡ Some p → (p.high ≡ 0) ⊎ (p.low ≢ p.high)) → AreOnce (commits_for o x y)
once_for None x y ok = tt
once_for (Some d) x y ok = once_kind x y (net_kind_is_register d.net_kind) (λ p e f. ok d p refl e f)

-- no slot is that of two commits, wherever they stand
pub once_index : (commits : List Commit) → AreOnce commits → (i j : ℕ) (a b : Commit) → slice_get commits i ≡ Some a → slice_get commits j ≡ Some b → a.slot ≡ b.slot → i ≡ j
once_index [] h i j a b e f same = cc
once_index (c ∷ commits) h zero zero a b e f same = refl
once_index (c ∷ commits) h zero (suc j) a b e f same = let is : c ≡ a = cc in absurd (h.0 b (has_got commits j b f) (ap (λ (k : Commit). k.slot) is ∙ same))
once_index (c ∷ commits) h (suc i) zero a b e f same = let is : c ≡ b = cc in absurd (h.0 a (has_got commits i a e) (ap (λ (k : Commit). k.slot) is ∙ sym same))
once_index (c ∷ commits) h (suc i) (suc j) a b e f same = ap suc (once_index commits h.1 i j a b e f same)

module _ (ds : List Declaration) (pairs next : List (Option Pair)) where
  -- the commits of the name at a place
  abbrev pub at_place : ℕ → List Commit
  at_place j = commits_for (slice_get ds j) (get_or pairs j None) (get_or next j None)

  pub has_below : (n j : ℕ) (a : Commit) → j < n → Has (at_place j) a → Has (commits_below ds pairs next n) a
  has_below zero j a low h = absurd (omega (arith, low))
  has_below (suc n) j a low h = elim (cases_lt j n) [
    | inl lt ↦ has_left (commits_below ds pairs next n) (at_place n) a (has_below n j a lt h)
    | inr ge ↦ (let same : j ≡ n = omega (arith, low, ge) in has_right (commits_below ds pairs next n) (at_place n) a (subst (λ i. Has (at_place i) a) same h))
  ]

  pub of_below : (n : ℕ) (a : Commit) → Has (commits_below ds pairs next n) a → (j : ℕ) × (j < n) × Has (at_place j) a
  of_below zero a h = absurd h
  of_below (suc n) a h = elim (has_split (commits_below ds pairs next n) (at_place n) a h) [
    | inl l ↦ (let r = of_below n a l in let low : r.0 < n = r.1 in let more : r.0 < suc n = omega (arith, low) in (r.0, more, r.2))
    | inr r ↦ (let low : n < suc n = omega arith in (n, low, r))
  ]

  -- a commit is of the register at a place
  pub record IsOf (j : ℕ) (a : Commit) : Type 0 where
    pub declaration : Declaration
    pub declared_at : slice_get ds j ≡ Some declaration
    pub kind : net_kind_is_register declaration.net_kind ≡ true
    pub pair : Pair
    pub placed : get_or pairs j None ≡ Some pair
    pub is : IsSlot pair a.slot

  pub is_of : (j : ℕ) (a : Commit) → Has (at_place j) a → IsOf j a
  is_of j a h =
      let r = of_for (slice_get ds j) (get_or pairs j None) (get_or next j None) a h in
      record { declaration = r.0; declared_at = r.1; kind = r.2; pair = r.3; placed = r.4; is = r.5 }

  -- so all commits have slots of their own, where registers have
  pub once_below : ((j : ℕ) (d : Declaration) (p : Pair) → slice_get ds j ≡ Some d → net_kind_is_register d.net_kind ≡ true → get_or pairs j None ≡ Some p → (p.high ≡ 0) ⊎ (p.low ≢ p.high))
      → ((i j : ℕ) (a b : Commit) → IsOf i a → IsOf j b → i ≢ j → a.slot ≢ b.slot) → (n : ℕ) → AreOnce (commits_below ds pairs next n)
  once_below alone apart zero = tt
  once_below alone apart (suc n) =
      once_both (commits_below ds pairs next n) (at_place n) (once_below alone apart n) (once_for (slice_get ds n) (get_or pairs n None) (get_or next n None) (alone n))
      (λ a b l r. let o = of_below n a l in let low : o.0 < n = o.1 in apart o.0 n a b (is_of o.0 a o.2) (is_of n b r) (λ e. let same : o.0 ≡ n = e in absurd (omega (arith, low, same))))
