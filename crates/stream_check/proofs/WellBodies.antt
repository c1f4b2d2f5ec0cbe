-- The bodies of a program are the leaves of its instances.
use Rattle.std.proofs.Common.{◌≡◌, ◌<◌, ◌+◌, ℕ, zero, suc, List, [], ◌∷◌, ◌++◌, Bool, true, false, ◌||◌, Some, refl, sym, ap, subst, ◌∙◌, arith}
use Rattle.std.specs.Prelude.{slice_get, ◌==◌, if◌then◌else◌}
use Rattle.std.proofs.lemmas.Bool.{eqb-true, eq-eqb, or_right as or_true}
use Rattle.tapa_syntax.specs.Flat.{FlatInstance, FlatLeaf}
use Rattle.check_upper.specs.Tasks.{Body, leaf_body, upper_body, Task}
use Rattle.stream_check.specs.Programs.{is_used, body_numbers, leaf_in, is_among, bodies_of, position_among}
use Rattle.stream_check.proofs.WellLists.{nothing, Each, each_append}
use Rattle.stream_check.proofs.WellPorts.{Ports, ports_of, LeafFits}
use Rattle.stream_check.proofs.WellTasks.{BodyFits, TaskFits}
use Rattle.tapa_base.proofs.Got.{the_same}

same_number : (n : ℕ) → (n == n) ≡ true
same_number n = eq-eqb n n refl

differ_by : (m n : ℕ) (b : Bool) → (m == n) ≡ b → (m ≡ n → ⊥) → b ≡ false
differ_by m n true e h = absurd (h (eqb-true m n e))
differ_by m n false e h = refl

differ : (m n : ℕ) → (m ≡ n → ⊥) → (m == n) ≡ false
differ m n h = differ_by m n (m == n) refl h

pub is_used_by : (xs : List FlatInstance) (i : ℕ) (x : FlatInstance) → slice_get xs i ≡ Some x → is_used xs x.body ≡ true
is_used_by [] i x h = absurd (nothing x h)
is_used_by (y ∷ xs) zero x h = let e = the_same y x h in ap (λ b. b || is_used xs x.body) (eq-eqb y.body x.body (ap (λ (z : FlatInstance). z.body) e))
is_used_by (y ∷ xs) (suc i) x h = or_true (y.body == x.body) (is_used xs x.body) (is_used_by xs i x h)

module _ (xs : List FlatInstance) where
  -- a number before the first is none of them
  not_before : (b : Bool) (k n : ℕ) (ts : List Task) → k < n → is_among k (body_numbers xs (n + 1) ts) ≡ false → is_among k ((if b then n ∷ [] else []) ++ body_numbers xs (n + 1) ts) ≡ false
  not_before true k n ts l h = ap (λ c. c || is_among k (body_numbers xs (n + 1) ts)) (differ n k (λ e. omega arith)) ∙ h
  not_before false k n ts l h = h

  among_past : (k n : ℕ) (ts : List Task) → k < n → is_among k (body_numbers xs n ts) ≡ false
  among_past k n [] l = refl
  among_past k n (t ∷ ts) l = not_before (is_used xs n) k n ts l (among_past k (n + 1) ts (omega arith))

  first_among : (b : Bool) (n : ℕ) (ts : List Task) → is_among n ((if b then n ∷ [] else []) ++ body_numbers xs (n + 1) ts) ≡ b
  first_among true n ts = ap (λ c. c || is_among n (body_numbers xs (n + 1) ts)) (same_number n)
  first_among false n ts = among_past n (n + 1) ts (omega arith)

  later_among : (b : Bool) (k n : ℕ) (ts : List Task) → n < k → is_among k ((if b then n ∷ [] else []) ++ body_numbers xs (n + 1) ts) ≡ is_among k (body_numbers xs (n + 1) ts)
  later_among true k n ts l = ap (λ c. c || is_among k (body_numbers xs (n + 1) ts)) (differ n k (λ e. omega arith))
  later_among false k n ts l = refl

  -- the numbers among them are those that are used
  among : (n i : ℕ) (ts : List Task) (t : Task) → slice_get ts i ≡ Some t → is_among (n + i) (body_numbers xs n ts) ≡ is_used xs (n + i)
  among n i [] t h = absurd (nothing t h)
  among n zero (u ∷ ts) t h = let z : n + 0 ≡ n = omega arith in subst (λ k. is_among k (body_numbers xs n (u ∷ ts)) ≡ is_used xs k) (sym z) (first_among (is_used xs n) n ts)
  among n (suc i) (u ∷ ts) t h =
      let z : n + 1 + i ≡ n + suc i = omega arith in
      later_among (is_used xs n) (n + suc i) n ts (omega arith)
      ∙ subst (λ k. is_among k (body_numbers xs (n + 1) ts) ≡ is_used xs k) z (among (n + 1) i ts t h)

  -- each task that is used is a leaf
  abbrev UsesLeaves : ℕ → List Task → Type 0
  UsesLeaves n ts = (i : ℕ) (t : Task) → slice_get ts i ≡ Some t → is_used xs (n + i) ≡ true → (l : FlatLeaf) × (t.body ≡ leaf_body l)

  pub record BodyAt (p n k : ℕ) (numbers : List ℕ) (ts : List Task) (l : FlatLeaf) : Type 0 where
    pub at : ℕ
    pub is : position_among p k (body_numbers xs n ts) ≡ p + at
    pub there : slice_get (bodies_of numbers n ts) at ≡ Some l

  after_one : (n : ℕ) → n + 1 + 0 ≡ n + 1
  after_one n = omega arith

  abbrev Among : List ℕ → ℕ → List Task → Type 0
  Among numbers n ts = (i : ℕ) (t : Task) → slice_get ts i ≡ Some t → is_among (n + i) numbers ≡ is_used xs (n + i)

  among_next : (numbers : List ℕ) (n : ℕ) (u : Task) (ts : List Task) → Among numbers n (u ∷ ts) → Among numbers (n + 1) ts
  among_next numbers n u ts a i t h = let z : n + suc i ≡ n + 1 + i = omega arith in subst (λ k. is_among k numbers ≡ is_used xs k) z (a (suc i) t h)

  uses_next : (n : ℕ) (u : Task) (ts : List Task) → UsesLeaves n (u ∷ ts) → UsesLeaves (n + 1) ts
  uses_next n u ts a i t h e = let z : n + 1 + i ≡ n + suc i = omega arith in a (suc i) t h (subst (λ k. is_used xs k ≡ true) z e)

  here_by : (p n : ℕ) (numbers : List ℕ) (u : Task) (ts : List Task) (l : FlatLeaf) → u.body ≡ leaf_body l → is_used xs n ≡ true → is_among n numbers ≡ true → BodyAt p n n numbers (u ∷ ts) l
  here_by p n numbers u ts l e used a = record {
    at = 0;
    is = ap (λ b. position_among p n ((if b then n ∷ [] else []) ++ body_numbers xs (n + 1) ts)) used ∙ ap (λ b. if b then p else position_among (p + 1) n (body_numbers xs (n + 1) ts)) (same_number n) ∙ omega arith;
    there = ap (λ b. slice_get ((if b then leaf_in u.body else []) ++ bodies_of numbers (n + 1) ts) 0) a ∙ ap (λ b. slice_get (leaf_in b ++ bodies_of numbers (n + 1) ts) 0) e;
  }

  later_used : (p n k : ℕ) (numbers : List ℕ) (u : Task) (ts : List Task) (l m : FlatLeaf) → n < k → u.body ≡ leaf_body m → is_used xs n ≡ true → is_among n numbers ≡ true → BodyAt (p + 1) (n + 1) k numbers ts l → BodyAt p n k numbers (u ∷ ts) l
  later_used p n k numbers u ts l m less e used a r = record {
    at = suc r.at;
    is = ap (λ b. position_among p k ((if b then n ∷ [] else []) ++ body_numbers xs (n + 1) ts)) used ∙ ap (λ b. if b then p else position_among (p + 1) k (body_numbers xs (n + 1) ts)) (differ n k (λ e. omega arith)) ∙ r.is ∙ omega arith;
    there = ap (λ b. slice_get ((if b then leaf_in u.body else []) ++ bodies_of numbers (n + 1) ts) (suc r.at)) a ∙ ap (λ b. slice_get (leaf_in b ++ bodies_of numbers (n + 1) ts) (suc r.at)) e ∙ r.there;
  }

  later_unused : (p n k : ℕ) (numbers : List ℕ) (u : Task) (ts : List Task) (l : FlatLeaf) → is_used xs n ≡ false → is_among n numbers ≡ false → BodyAt p (n + 1) k numbers ts l → BodyAt p n k numbers (u ∷ ts) l
  later_unused p n k numbers u ts l used a r = record {
    at = r.at;
    is = ap (λ b. position_among p k ((if b then n ∷ [] else []) ++ body_numbers xs (n + 1) ts)) used ∙ r.is;
    there = ap (λ b. slice_get ((if b then leaf_in u.body else []) ++ bodies_of numbers (n + 1) ts) r.at) a ∙ r.there;
  }

  at_first : (n : ℕ) → n + 0 ≡ n
  at_first n = omega arith

  body_by : (b : Bool) (p n i : ℕ) (numbers : List ℕ) (u : Task) (ts : List Task) (l : FlatLeaf) → is_used xs n ≡ b → is_among n numbers ≡ b → UsesLeaves n (u ∷ ts) → ((q : ℕ) → BodyAt q (n + 1) (n + 1 + i) numbers ts l) → BodyAt p n (n + suc i) numbers (u ∷ ts) l
  body_by true p n i numbers u ts l used a leaves f =
      let m = leaves 0 u refl (subst (λ k. is_used xs k ≡ true) (sym (at_first n)) used) in
      let z : n + 1 + i ≡ n + suc i = omega arith in
      later_used p n (n + suc i) numbers u ts l m.0 (omega arith) m.1 used a (subst (λ k. BodyAt (p + 1) (n + 1) k numbers ts l) z (f (p + 1)))
  body_by false p n i numbers u ts l used a leaves f =
      let z : n + 1 + i ≡ n + suc i = omega arith in
      later_unused p n (n + suc i) numbers u ts l used a (subst (λ k. BodyAt p (n + 1) k numbers ts l) z (f p))

  body_at : (p n i : ℕ) (numbers : List ℕ) (ts : List Task) (t : Task) (l : FlatLeaf) → Among numbers n ts → UsesLeaves n ts → slice_get ts i ≡ Some t → t.body ≡ leaf_body l → is_used xs (n + i) ≡ true → BodyAt p n (n + i) numbers ts l
  body_at p n i numbers [] t l a leaves h e used = absurd (nothing t h)
  body_at p n zero numbers (u ∷ ts) t l a leaves h e used =
      let z = at_first n in
      let used' = subst (λ k. is_used xs k ≡ true) z used in
      subst (λ k. BodyAt p n k numbers (u ∷ ts) l) (sym z)
      (here_by p n numbers u ts l (ap (λ (v : Task). v.body) (the_same u t h) ∙ e) used' (subst (λ k. is_among k numbers ≡ is_used xs k) z (a 0 u refl) ∙ used'))
  body_at p n (suc i) numbers (u ∷ ts) t l a leaves h e used =
      let z : n + suc i ≡ n + 1 + i = omega arith in
      body_by (is_used xs n) p n i numbers u ts l refl (subst (λ k. is_among k numbers ≡ is_used xs k) (at_first n) (a 0 u refl)) leaves
      (λ q. body_at q (n + 1) i numbers ts t l (among_next numbers n u ts a) (uses_next n u ts leaves) h e (subst (λ k. is_used xs k ≡ true) z used))

  from_zero : (k : ℕ) → 0 + k ≡ k
  from_zero k = omega arith

  pub body_there : (tasks : List Task) (k : ℕ) (t : Task) (l : FlatLeaf) → ((i : ℕ) (u : Task) → slice_get tasks i ≡ Some u → is_used xs i ≡ true → (m : FlatLeaf) × (u.body ≡ leaf_body m)) → slice_get tasks k ≡ Some t → t.body ≡ leaf_body l → is_used xs k ≡ true → slice_get (bodies_of (body_numbers xs 0 tasks) 0 tasks) (position_among 0 k (body_numbers xs 0 tasks)) ≡ Some l
  body_there tasks k t l leaves h e used =
      let z = from_zero k in
      let r = body_at 0 0 k (body_numbers xs 0 tasks) tasks t l (λ i u a. among 0 i tasks u a) (λ i u a b. leaves i u a (subst (λ j. is_used xs j ≡ true) (from_zero i) b)) h e (subst (λ j. is_used xs j ≡ true) (sym z) used) in
      let place : position_among 0 k (body_numbers xs 0 tasks) ≡ r.at = subst (λ j. position_among 0 j (body_numbers xs 0 tasks) ≡ r.at) z (r.is ∙ from_zero r.at) in
      subst (λ j. slice_get (bodies_of (body_numbers xs 0 tasks) 0 tasks) j ≡ Some l) (sym place) r.there

-- ---- each body is the leaf of a legal task

abbrev pub IsLegal : FlatLeaf → Type 0
IsLegal l = (q : Ports) × LeafFits q l

leaf_legal : (tasks : List Task) (q : Ports) (b : Body) → BodyFits tasks q b → Each IsLegal (leaf_in b)
leaf_legal tasks q (leaf_body l) f = ((q, f), tt)
leaf_legal tasks q (upper_body cs is) f = tt

if_legal : (b : Bool) (ls : List FlatLeaf) → Each IsLegal ls → Each IsLegal (if b then ls else [])
if_legal true ls h = h
if_legal false ls h = tt

pub bodies_legal : (tasks : List Task) (numbers : List ℕ) (n : ℕ) (ts : List Task) → Each (TaskFits tasks) ts → Each IsLegal (bodies_of numbers n ts)
bodies_legal tasks numbers n [] h = tt
bodies_legal tasks numbers n (t ∷ ts) (f, h) = each_append IsLegal (if is_among n numbers then leaf_in t.body else []) (bodies_of numbers (n + 1) ts) (if_legal (is_among n numbers) (leaf_in t.body) (leaf_legal tasks (ports_of t.declared.parameters) t.body f)) (bodies_legal tasks numbers (n + 1) ts h)
