-- Walks along streams, and chains of steps.
use Rattle.std.proofs.Common.{◌≡◌, ℕ, zero, suc, ◌+◌, ◌<◌, ◌≤◌, List, [], ◌∷◌, ◌++◌, Bool, true, false, length, get_or, map, inl, inr, refl, sym, ap, subst, ◌∙◌, arith}
use Rattle.std.specs.Prelude.{◌⊎◌, ◌↔◌, Option, Vec}
use Rattle.std.specs.Option.{option_map_or}
use Rattle.std.proofs.lemmas.Bool.{cases_lt}
use Rattle.std.proofs.lemmas.List.{length_push}
use Rattle.tapa_base.specs.Lists.{Has, Chain, one, more}
use Rattle.tapa_base.proofs.Lists.{of_map, got_has}
use Rattle.number_graph.specs.Graphs.{Adjacency, Steps, IsReached, targets_of}
use Rattle.task_graph.specs.declared.Edge.{Edge}
use Rattle.task_graph.specs.Streams.{from_of, to_of, Walk, Reaches}
use Rattle.task_graph.specs.Edges.{EndBelow}
use Rattle.task_graph.specs.Reach.{mark, Marks, MarkReached, AreTransitive}

-- ---- rows of marks as they grow

row_kept : {A : Type 0} (rows : List (Vec Bool A)) (v : Vec Bool A) (j : ℕ) → j < length rows → targets_of (rows ++ v ∷ []) j ≡ targets_of rows j
row_kept [] v j l = absurd (omega arith)
row_kept (x ∷ xs) v zero l = refl
row_kept (x ∷ xs) v (suc j) l = row_kept xs v j (omega arith)

row_last : {A : Type 0} (rows : List (Vec Bool A)) (v : Vec Bool A) → targets_of (rows ++ v ∷ []) (length rows) ≡ v.items
row_last [] v = refl
row_last (x ∷ xs) v = row_last xs v

-- one row more
module _ {A : Type 0} (g : Adjacency) (n : ℕ) (rows : List (Vec Bool A)) (v : Vec Bool A) (new : List (Vec Bool A)) (len : length rows ≡ n)
    (marks : (i k : ℕ) → i < n → (mark rows i k ≡ true) ↔ IsReached g (i ∷ []) k) (row : (k : ℕ) → (get_or v.items k false ≡ true) ↔ IsReached g (n ∷ []) k) (is : new ≡ rows ++ v ∷ []) where
  at_place : (i k : ℕ) → (i < n) ⊎ (i ≡ n) → (mark new i k ≡ true) ↔ IsReached g (i ∷ []) k
  at_place i k (inl l) =
      let e : mark new i k ≡ mark rows i k = ap (λ rs. mark rs i k) is ∙ ap (λ xs. get_or xs k false) (row_kept rows v i (omega arith)) in
      (λ m. (marks i k l).0 (sym e ∙ m), λ r. e ∙ (marks i k l).1 r)
  at_place i k (inr same) =
      let at : i ≡ length rows = same ∙ sym len in
      let e : mark new i k ≡ get_or v.items k false = ap (λ rs. mark rs i k) is ∙ ap (λ (j : ℕ). get_or (targets_of (rows ++ v ∷ []) j) k false) at ∙ ap (λ xs. get_or xs k false) (row_last rows v) in
      (λ m. subst (λ j. IsReached g (j ∷ []) k) (sym same) ((row k).0 (sym e ∙ m)), λ r. e ∙ (row k).1 (subst (λ j. IsReached g (j ∷ []) k) same r))

  last_or_before : (i : ℕ) → i < n + 1 → (i < n) ⊎ (n ≤ i) → (i < n) ⊎ (i ≡ n)
  last_or_before i l (inl h) = inl h
  last_or_before i l (inr h) = inr (omega arith)

  pub rows_more : (length new ≡ n + 1) × ((i k : ℕ) → i < n + 1 → (mark new i k ≡ true) ↔ IsReached g (i ∷ []) k)
  rows_more = (let e = ap length is in let p = length_push rows v in omega arith, λ i k l. at_place i k (last_or_before i l (cases_lt i n)))

-- ---- walks one after another

walk_on : (edges : List Edge) (a b c n m : ℕ) → Walk edges a b n → Walk edges b c m → Reaches edges a c
walk_on edges a b c zero m w x = (m, subst (λ v. Walk edges v c m) (sym w) x)
walk_on edges a b c (suc n) m (e, l, f, w) x = let r = walk_on edges (to_of edges e) b c n m w x in (suc r.0, (e, l, f, r.1))

pub reach_on : (edges : List Edge) (a b c : ℕ) → Reaches edges a b → Reaches edges b c → Reaches edges a c
reach_on edges a b c p q = walk_on edges a b c p.0 q.0 p.1 q.1

-- ---- the two ends of edges

abbrev pub ends : Edge → ℕ × ℕ
ends e = (e.from, e.to)

pub edge_step : (edges : List Edge) (e : ℕ) → e < length edges → Has {N = ℕ × ℕ} (map ends edges) (from_of edges e, to_of edges e)
edge_step [] e l = absurd (omega arith)
edge_step (x ∷ xs) zero l = inl refl
edge_step (x ∷ xs) (suc e) l = inr (edge_step xs e (omega arith))

pub step_edge : (edges : List Edge) (a b : ℕ) → Has {N = ℕ × ℕ} (map ends edges) (a, b) → (e : ℕ) × (e < length edges) × (from_of edges e ≡ a) × (to_of edges e ≡ b)
step_edge edges a b h =
    let m = of_map ends edges (a, b) h in
    let g = got_has edges m.0 m.1 in (
      g.0,
      g.1,
      ap (λ (o : Option Edge). option_map_or (λ (x : Edge). x.from) o 0) g.2 ∙ ap (λ (p : ℕ × ℕ). p.0) m.2,
      ap (λ (o : Option Edge). option_map_or (λ (x : Edge). x.to) o 0) g.2 ∙ ap (λ (p : ℕ × ℕ). p.1) m.2,
    )

pub ends_below : (n : ℕ) (edges : List Edge) → EndBelow n edges → (j k : ℕ) → Has {N = ℕ × ℕ} (map ends edges) (j, k) → (j < n) × (k < n)
ends_below n edges below j k h =
    let s = step_edge edges j k h in
    let b = below s.0 s.1 in
    (subst (λ v. v < n) s.2 b.0, subst (λ v. v < n) s.3 b.1)

-- ---- chains of steps are walks of one stream or more

module _ (edges : List Edge) (g : Adjacency) (steps : (j k : ℕ) → Steps g j k ↔ Has {N = ℕ × ℕ} (map ends edges) (j, k)) where
  chain_walk : (a b : ℕ) → Chain (Steps g) a b → (n : ℕ) × Walk edges a b (suc n)
  chain_walk a b (one h) = let e = step_edge edges a b ((steps a b).0 h) in (zero, (e.0, e.1, e.2, e.3))
  chain_walk a b (more c h r) =
      let e = step_edge edges a c ((steps a c).0 h) in
      let w = chain_walk c b r in
      (suc w.0, (e.0, e.1, e.2, subst (λ v. Walk edges v b (suc w.0)) (sym e.3) w.1))

  walk_chain : (n a b : ℕ) → Walk edges a b (suc n) → Chain (Steps g) a b
  walk_chain zero a b (e, l, f, t) =
      subst (λ v. Chain (Steps g) v b) f (subst (λ v. Chain (Steps g) (from_of edges e) v) t (one ((steps (from_of edges e) (to_of edges e)).1 (edge_step edges e l))))
  walk_chain (suc n) a b (e, l, f, w) =
      subst (λ v. Chain (Steps g) v b) f (more (to_of edges e) ((steps (from_of edges e) (to_of edges e)).1 (edge_step edges e l)) (walk_chain n (to_of edges e) b w))

  module _ {A : Type 0} (rows : List (Vec Bool A)) (marks : (i k : ℕ) → i < length rows → (mark rows i k ≡ true) ↔ IsReached g (i ∷ []) k) where
    from_source : (i j k : ℕ) → (i ≡ j) ⊎ ⊥ → Chain (Steps g) j k → Reaches edges i k
    from_source i j k (inl e) c = let w = chain_walk i k (subst (λ v. Chain (Steps g) v k) (sym e) c) in (suc w.0, w.1)
    from_source i j k (inr h) c = absurd h

    reached : (i j : ℕ) → i < length rows → Marks rows i j → Reaches edges i j
    reached i j l (inl e) = (zero, e)
    reached i j l (inr m) = let r = (marks i j l).0 m in from_source i r.0 j r.1 r.2

    marked : (i j n : ℕ) → i < length rows → Walk edges i j n → Marks rows i j
    marked i j zero l w = inl w
    marked i j (suc n) l w = inr ((marks i j l).1 (i, inl refl, walk_chain n i j w))

    pub mark_reached : MarkReached rows edges
    mark_reached i j li lj = (reached i j li, λ (r : Reaches edges i j). marked i j r.0 li r.1)

pub transitive : {A : Type 0} (rows : List (Vec Bool A)) (edges : List Edge) → MarkReached rows edges → AreTransitive rows
transitive rows edges h i j k li lj lk p q = (h i k li lk).1 (reach_on edges i j k ((h i j li lj).0 p) ((h j k lj lk).0 q))
