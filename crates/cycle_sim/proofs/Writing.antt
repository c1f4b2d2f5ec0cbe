-- Writes to slots and to cells, one after another.
use Rattle.std.proofs.Common.{◌≡◌, ◌≢◌, ℕ, zero, suc, ◌+◌, ◌<◌, ◌≤◌, Bool, cond, List, [], ◌∷◌, Some, length, get_or, inl, inr, refl, sym, ap, subst, ◌∙◌, arith, eq-eqb}
use Rattle.std.specs.Prelude.{◌⊎◌, ◌==◌, slice_get, slice_set, Vec}
use Rattle.std.specs.declared.alloc.Global.{Global}
use Rattle.std.proofs.lemmas.Bool.{cases_eq, ne_eqb}
use Rattle.std.proofs.lemmas.List.{get_or-set_other}
use Rattle.std.proofs.lemmas.Grind.{get_or-set_at}
use Rattle.sim_pass.proofs.Reading.{cells_got, cells_set, cells_long}
use Rattle.vlog_tree.specs.Environment.{set_cell}
use Rattle.sim_tape.specs.declared.gates.Pair.{Pair}
use Rattle.sim_tape.specs.Tape.{number_at}
use Rattle.sim_tape.specs.Operators.{cells_of}
use Rattle.cycle_sim.specs.declared.inputs.Input.{Input}
use Rattle.cycle_sim.specs.declared.cells.Outside.{Outside}
use Rattle.cycle_sim.specs.Steps.{IsAway, PairHas, HaveSlots, supplied, put_list, outside_list}

pub cond_here : {A : Type 0} (m i : ℕ) (x y : A) → m ≡ i → cond (m == i) x y ≡ x
cond_here m i x y e = ap (λ b. cond b x y) (eq-eqb m i e)

pub cond_away : {A : Type 0} (m i : ℕ) (x y : A) → (m ≡ i → ⊥) → cond (m == i) x y ≡ y
cond_away m i x y h = ap (λ b. cond b x y) (ne_eqb m i h)

-- a write to one cell of one memory
pub cell_put : (vs : List (Vec ℕ Global)) (memory at n : ℕ) (d new : Vec ℕ Global) → memory < length vs → new.items ≡ set_cell (get_or vs memory d).items at n
    → (m : ℕ) → get_or (cells_of (slice_set vs memory new)) m [] ≡ put_list memory at n m (get_or (cells_of vs) m [])
cell_put vs memory at n d new low e m = ap (λ z. get_or z m []) (cells_set vs memory new) ∙ by_case (cases_eq m memory) where
  by_case : (m ≡ memory) ⊎ (m ≢ memory) → get_or (slice_set (cells_of vs) memory new.items) m [] ≡ put_list memory at n m (get_or (cells_of vs) m [])
  by_case (inl s) =
      let long : memory < length (cells_of vs) = subst (λ z. memory < z) (sym (cells_long vs)) low in
      let held : get_or (cells_of vs) m [] ≡ (get_or vs memory d).items = ap (λ z. get_or (cells_of vs) z []) s ∙ cells_got vs memory d low in
      get_or-set_at (cells_of vs) memory m new.items [] s long ∙ e ∙ ap (λ z. set_cell z at n) (sym held) ∙ sym (cond_here m memory (set_cell (get_or (cells_of vs) m []) at n) (get_or (cells_of vs) m []) s)
  by_case (inr ne) =
      get_or-set_other (cells_of vs) memory m new.items [] ne ∙ sym (cond_away m memory (set_cell (get_or (cells_of vs) m []) at n) (get_or (cells_of vs) m []) ne)

module _ (ns : List ℕ) (outside : List Outside) (old now new : ℕ → List ℕ) (i : ℕ) (x : Outside) (got : slice_get outside i ≡ Some x) (is : (m : ℕ) → new m ≡ cond (m == i) (outside_list ns x (now m)) (now m))
    (asked : (j : ℕ) (o : Outside) → j < i → slice_get outside j ≡ Some o → now j ≡ outside_list ns o (old j)) (kept : (m : ℕ) → i ≤ m → now m ≡ old m) where
  asked_at : (j : ℕ) (o : Outside) → j < i + 1 → slice_get outside j ≡ Some o → (j ≡ i) ⊎ (j ≢ i) → new j ≡ outside_list ns o (old j)
  asked_at j o low g (inl s) =
      let same : x ≡ o = cc (subst (λ z. slice_get outside z ≡ Some x) (sym s) got, g) in
      is j ∙ cond_here j i (outside_list ns x (now j)) (now j) s ∙ ap (λ (z : Outside). outside_list ns z (now j)) same ∙ ap (outside_list ns o) (kept j (omega arith))
  asked_at j o low g (inr ne) = is j ∙ cond_away j i (outside_list ns x (now j)) (now j) ne ∙ asked j o (omega arith) g

  -- one more memory around is asked
  pub asked_more : (j : ℕ) (o : Outside) → j < i + 1 → slice_get outside j ≡ Some o → new j ≡ outside_list ns o (old j)
  asked_more j o low g = asked_at j o low g (cases_eq j i)

  pub kept_more : (m : ℕ) → i + 1 ≤ m → new m ≡ old m
  kept_more m high = is m ∙ cond_away m i (outside_list ns x (now m)) (now m) (λ e. absurd (omega arith)) ∙ kept m (omega arith)

-- a pair keeps its number where its slots keep theirs
pub pair_stays : (old new : List ℕ) (p q : Pair) (v : ℕ) → ((k : ℕ) → IsAway k q → number_at new k ≡ number_at old k) → IsAway p.low q → (p.high ≡ 0) ⊎ IsAway p.high q → PairHas old p v → PairHas new p v
pair_stays old new p q v same low high h = (same p.low low ∙ h.0, by_high high h.1) where
  by_high : (p.high ≡ 0) ⊎ IsAway p.high q → (p.high ≡ 0) ⊎ (number_at old p.high ≡ 0) → (p.high ≡ 0) ⊎ (number_at new p.high ≡ 0)
  by_high (inl z) h = inl z
  by_high (inr a) (inl z) = inl z
  by_high (inr a) (inr e) = inr (same p.high a ∙ e)

module _ (ready : List (List Bool)) (cycle room : ℕ) (inputs : List Input) (slots : HaveSlots room inputs) (old now new : List ℕ) (i : ℕ) (x : Input) (got : slice_get inputs i ≡ Some x)
    (v : ℕ) (v_is : v ≡ supplied ready cycle x.supply) (has : PairHas new x.pair v) (same : (k : ℕ) → IsAway k x.pair → number_at new k ≡ number_at now k)
    (given : (j : ℕ) (a : Input) → j < i → slice_get inputs j ≡ Some a → PairHas now a.pair (supplied ready cycle a.supply))
    (kept : (k : ℕ) → ((j : ℕ) (a : Input) → slice_get inputs j ≡ Some a → IsAway k a.pair) → number_at now k ≡ number_at old k) where
  given_at : (j : ℕ) (a : Input) → j < i + 1 → slice_get inputs j ≡ Some a → (j ≡ i) ⊎ (j ≢ i) → PairHas new a.pair (supplied ready cycle a.supply)
  given_at j a low g (inl s) =
      let one : x ≡ a = cc (subst (λ z. slice_get inputs z ≡ Some x) (sym s) got, g) in
      subst (λ (z : Input). PairHas new z.pair (supplied ready cycle z.supply)) one (subst (λ z. PairHas new x.pair z) v_is has)
  given_at j a low g (inr ne) =
      let own = slots.own j i a x (omega arith) g got in
      pair_stays now new a.pair x.pair (supplied ready cycle a.supply) same own.0 own.1 (given j a (omega arith) g)

  -- one more input is given its number
  pub given_more : (j : ℕ) (a : Input) → j < i + 1 → slice_get inputs j ≡ Some a → PairHas new a.pair (supplied ready cycle a.supply)
  given_more j a low g = given_at j a low g (cases_eq j i)

  pub away_more : (k : ℕ) → ((j : ℕ) (a : Input) → slice_get inputs j ≡ Some a → IsAway k a.pair) → number_at new k ≡ number_at old k
  away_more k away = same k (away i x got) ∙ kept k away

-- one more input has what it is given
pub held_more : (ready : List (List Bool)) (cycle : ℕ) (inputs : List Input) (ns : List ℕ) (i : ℕ) (x : Input) → slice_get inputs i ≡ Some x → (v : ℕ) → v ≡ supplied ready cycle x.supply → PairHas ns x.pair v
    → ((j : ℕ) (a : Input) → j < i → slice_get inputs j ≡ Some a → PairHas ns a.pair (supplied ready cycle a.supply)) → (j : ℕ) (a : Input) → j < i + 1 → slice_get inputs j ≡ Some a → PairHas ns a.pair (supplied ready cycle a.supply)
held_more ready cycle inputs ns i x got v v_is has before j a low g = by_case (cases_eq j i) where
  by_case : (j ≡ i) ⊎ (j ≢ i) → PairHas ns a.pair (supplied ready cycle a.supply)
  by_case (inl s) =
      let one : x ≡ a = cc (subst (λ z. slice_get inputs z ≡ Some x) (sym s) got, g) in
      subst (λ (z : Input). PairHas ns z.pair (supplied ready cycle z.supply)) one (subst (λ z. PairHas ns x.pair z) v_is has)
  by_case (inr ne) = before j a (omega arith) g
