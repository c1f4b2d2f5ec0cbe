-- What is marked and noted.
use Rattle.std.proofs.Common.{◌≡◌, ℕ, zero, suc, ◌+◌, ◌<◌, Bool, true, false, List, [], ◌∷◌, ◌++◌, length, get_or, take, drop, inl, inr, refl, sym, ap, subst, ◌∙◌, append_assoc, arith}
use Rattle.std.specs.Prelude.{◌⊎◌, ◌≢◌, slice_set}
use Rattle.std.proofs.lemmas.Bool.{cases_eq}
use Rattle.std.proofs.lemmas.List.{get_or-set_same, get_or-set_other, get_or_append_left, append-nil, length_push, length-set, take_more, drop_more}
use Rattle.tapa_base.specs.Lists.{Has, Chain, one, more}
use Rattle.number_graph.specs.Graphs.{Adjacency, Steps, IsReached}
use Rattle.number_graph.specs.Marks.{IsMarked, unset, Grows}
use Rattle.tapa_base.proofs.Lists.{has_left, has_right, has_split}
use Rattle.number_graph.proofs.Reached.{snoc}

pub unset_set : (marks : List Bool) (n : ℕ) → n < length marks → get_or marks n false ≡ false → suc (unset (slice_set marks n true)) ≡ unset marks
unset_set [] n low e = absurd (omega arith)
unset_set (true ∷ marks) zero low e = cc
unset_set (false ∷ marks) zero low e = refl
unset_set (true ∷ marks) (suc n) low e = unset_set marks n (omega arith) e
unset_set (false ∷ marks) (suc n) low e = ap suc (unset_set marks n (omega arith) e)

-- where nothing is noted no mark is set
pub none_set : (marks : List Bool) → ((m : ℕ) → get_or marks m false ≡ true → ⊥) → unset marks ≡ length marks
none_set [] none = refl
none_set (true ∷ marks) none = absurd (none 0 refl)
none_set (false ∷ marks) none = ap suc (none_set marks (λ m h. none (suc m) h))

-- one more number is marked and noted
module _ (marks : List Bool) (found : List ℕ) (n : ℕ) (m : IsMarked marks found) (low : n < length marks) where
  noted_of : (k : ℕ) → (k ≡ n) ⊎ (k ≢ n) → get_or (slice_set marks n true) k false ≡ true → Has (found ++ n ∷ []) k
  noted_of k (inl e) h = has_right found (n ∷ []) k (inl (sym e))
  noted_of k (inr ne) h = has_left found (n ∷ []) k ((m k).0 (sym (get_or-set_other marks n k true false ne) ∙ h))

  here : (k : ℕ) → k ≡ n → get_or (slice_set marks n true) k false ≡ true
  here k e = ap (λ i. get_or (slice_set marks n true) i false) e ∙ get_or-set_same marks n true false low

  kept_of : (k : ℕ) → (k ≡ n) ⊎ (k ≢ n) → get_or marks k false ≡ true → get_or (slice_set marks n true) k false ≡ true
  kept_of k (inl e) h = here k e
  kept_of k (inr ne) h = get_or-set_other marks n k true false ne ∙ h

  marked_of : (k : ℕ) → Has found k ⊎ Has (n ∷ []) k → get_or (slice_set marks n true) k false ≡ true
  marked_of k (inl h) = kept_of k (cases_eq k n) ((m k).1 h)
  marked_of k (inr (inl e)) = here k (sym e)
  marked_of k (inr (inr h)) = absurd h

  pub marked_more : IsMarked (slice_set marks n true) (found ++ n ∷ [])
  marked_more k = (λ h. noted_of k (cases_eq k n) h, λ h. marked_of k (has_split found (n ∷ []) k h))

  only_n : (k : ℕ) → Has (n ∷ []) k → k ≡ n
  only_n k (inl e) = sym e
  only_n k (inr h) = absurd h

  pub grows_one : get_or marks n false ≡ false → Grows marks (slice_set marks n true) found (found ++ n ∷ []) (λ k. k ≡ n)
  grows_one e = record {
    len = length-set marks n true;
    marked = marked_more;
    count = (let a : suc (unset (slice_set marks n true)) ≡ unset marks = unset_set marks n low e in let b : length (found ++ n ∷ []) ≡ length found + 1 = length_push found n in omega arith);
    extra = n ∷ [];
    grown = refl;
    only = only_n;
  }

pub grows_not : (marks : List Bool) (found : List ℕ) (P : ℕ → Type 0) → IsMarked marks found → Grows marks marks found found P
grows_not marks found P m = record { len = refl; marked = m; count = refl; extra = []; grown = sym (append-nil found); only = λ k h. absurd h }

only_both : (xs ys : List ℕ) (P Q R : ℕ → Type 0) → ((k : ℕ) → Has xs k → P k) → ((k : ℕ) → Has ys k → Q k) → ((k : ℕ) → P k → R k) → ((k : ℕ) → Q k → R k) → (k : ℕ) → Has xs k ⊎ Has ys k → R k
only_both xs ys P Q R p q pr qr k (inl h) = pr k (p k h)
only_both xs ys P Q R p q pr qr k (inr h) = qr k (q k h)

pub grows_both : (a b c : List Bool) (x y z : List ℕ) (P Q R : ℕ → Type 0) → ((k : ℕ) → P k → R k) → ((k : ℕ) → Q k → R k) → Grows a b x y P → Grows b c y z Q → Grows a c x z R
grows_both a b c x y z P Q R pr qr f s = record {
  len = s.len ∙ f.len;
  marked = s.marked;
  count = s.count ∙ f.count;
  extra = f.extra ++ s.extra;
  grown = s.grown ∙ ap (λ l. l ++ s.extra) f.grown ∙ append_assoc x f.extra s.extra;
  only = λ k h. only_both f.extra s.extra P Q R f.only s.only pr qr k (has_split f.extra s.extra k h);
}

pub kept : (marks marks_new : List Bool) (found found_new : List ℕ) (P : ℕ → Type 0) → Grows marks marks_new found found_new P → (k : ℕ) → Has found k → Has found_new k
kept marks marks_new found found_new P g k h = subst (λ l. Has l k) (sym g.grown) (has_left found g.extra k h)

-- one more of a list was gone over
pub taken_of : (xs : List ℕ) (i : ℕ) (P : ℕ → Type 0) → i < length xs → ((m : ℕ) → Has (take i xs) m → P m) → P (get_or xs i 0) → (m : ℕ) → Has (take (i + 1) xs) m → P m
taken_of xs i P low before this m h =
    elim (has_split (take i xs) (get_or xs i 0 ∷ []) m (subst (λ l. Has l m) (take_more xs i 0 low) h)) [
      | inl l ↦ before m l
      | inr r ↦ (elim r [ inl e ↦ subst P e this | inr n ↦ absurd n ])
    ]

-- what is noted is closed up to a place
module _ (R : ℕ → ℕ → Type 0) (found extra : List ℕ) (next : ℕ) (low : next < length found) where
  front : (i : ℕ) → i < length found → get_or (found ++ extra) i 0 ≡ get_or found i 0
  front i h = get_or_append_left found extra 0 i h

  closed_of : (i : ℕ) → ((i : ℕ) → i < next → i < length found → (m : ℕ) → R (get_or found i 0) m → Has found m) → ((m : ℕ) → R (get_or found next 0) m → Has (found ++ extra) m)
      → i < next + 1 → (i ≡ next) ⊎ (i ≢ next) → (m : ℕ) → R (get_or (found ++ extra) i 0) m → Has (found ++ extra) m
  closed_of i closed there lt (inl e) m s = there m (subst (λ x. R x m) (ap (λ j. get_or (found ++ extra) j 0) e ∙ front next low) s)
  closed_of i closed there lt (inr ne) m s =
      let less : i < next = omega (arith, ne) in
      let below : i < length found = omega arith in
      has_left found extra m (closed i less below m (subst (λ x. R x m) (front i below) s))

  pub closed_on : ((i : ℕ) → i < next → i < length found → (m : ℕ) → R (get_or found i 0) m → Has found m) → ((m : ℕ) → R (get_or found next 0) m → Has (found ++ extra) m)
      → (i : ℕ) → i < next + 1 → i < length (found ++ extra) → (m : ℕ) → R (get_or (found ++ extra) i 0) m → Has (found ++ extra) m
  closed_on closed there i lt le m s = closed_of i closed there lt (cases_eq i next) m s

-- a target of what is noted is reached from what was noted first
pub reached_on : (g : Adjacency) (first extra : List ℕ) (n m : ℕ) → ((m : ℕ) → Has extra m → (j : ℕ) × Has first j × Chain (Steps g) j m) → Has first n ⊎ Has extra n → Steps g n m
    → (j : ℕ) × Has first j × Chain (Steps g) j m
reached_on g first extra n m sound (inl h) s = (n, h, one s)
reached_on g first extra n m sound (inr h) s = let w = sound n h in (w.0, w.1, snoc (Steps g) w.0 n m w.2 s)

-- what has the targets of some nodes, and the targets of all that it has, has all that they reach
module _ (g : Adjacency) (sources found : List ℕ) (closed : (i m : ℕ) → Has found i → Steps g i m → Has found m) where
  goes : (i m : ℕ) → Has found i → Chain (Steps g) i m → Has found m
  goes i m h (one s) = closed i m h s
  goes i m h (more b s r) = goes b m (closed i b h s) r

  complete_of : ((j m : ℕ) → Has sources j → Steps g j m → Has found m) → (j k : ℕ) → Has sources j → Chain (Steps g) j k → Has found k
  complete_of start j k h (one s) = start j k h s
  complete_of start j k h (more b s r) = goes b k (start j b h s) r

  pub complete : ((j m : ℕ) → Has sources j → Steps g j m → Has found m) → (k : ℕ) → IsReached g sources k → Has found k
  complete start k w = complete_of start w.0 k w.1 w.2

-- what was marked first and what it reaches is reached
pub reached_all : (g : Adjacency) (sources first extra : List ℕ) → ((m : ℕ) → Has first m → (j : ℕ) × Has sources j × Steps g j m) → ((m : ℕ) → Has extra m → (j : ℕ) × Has first j × Chain (Steps g) j m)
    → (k : ℕ) → Has first k ⊎ Has extra k → IsReached g sources k
reached_all g sources first extra start on k (inl h) = let w = start k h in (w.0, w.1, one w.2)
reached_all g sources first extra start on k (inr h) = let w = on k h in let u = start w.0 w.1 in (u.0, u.1, more w.0 u.2 w.2)

-- from one node alone
pub from_one : (g : Adjacency) (from k : ℕ) → IsReached g (from ∷ []) k → Chain (Steps g) from k
from_one g from k w = elim w.1 [ inl e ↦ subst (λ n. Chain (Steps g) n k) (sym e) w.2 | inr h ↦ absurd h ]

pub of_one : (g : Adjacency) (from k : ℕ) → Chain (Steps g) from k → IsReached g (from ∷ []) k
of_one g from k c = (from, inl refl, c)

pub differ : false ≡ true → ⊥
differ e = cc

pub skipped : (found : List ℕ) (i k : ℕ) → i < length found → k ≢ get_or found i 0 → Has (drop i found) k → Has (drop (i + 1) found) k
skipped found i k low ne h = elim (subst (λ l. Has l k) (drop_more found i 0 low) h) [ inl e ↦ absurd (ne (sym e)) | inr r ↦ r ]

-- marks that are taken away one by one
pub cleared : (marks : List Bool) (found : List ℕ) (i : ℕ) → i < length found → get_or found i 0 < length marks → ((k : ℕ) → get_or marks k false ≡ true → Has (drop i found) k)
    → (k : ℕ) → get_or (slice_set marks (get_or found i 0) false) k false ≡ true → Has (drop (i + 1) found) k
cleared marks found i low at before k h = elim (cases_eq k (get_or found i 0)) [
  | inl e ↦ (let gone : get_or (slice_set marks (get_or found i 0) false) k false ≡ false = ap (λ n. get_or (slice_set marks (get_or found i 0) false) n false) e ∙ get_or-set_same marks (get_or found i 0) false false at in absurd (differ (sym gone ∙ h)))
  | inr ne ↦ skipped found i k low ne (before k (sym (get_or-set_other marks (get_or found i 0) k false false ne) ∙ h))
]
