-- With sums that are sound and closed, edges reach just what rests.
use Rattle.std.proofs.Common.{◌≡◌, ℕ, suc, ◌-◌, ◌<◌, ◌≤◌, Bool, true, false, cond, List, [], ◌∷◌, length, get_or, Option, Some, None, inl, inr, refl, sym, ap, subst, ◌∙◌, arith, map}
use Rattle.std.specs.Prelude.{bytes_eq, slice_get, ◌⊎◌, ◌↔◌, ◌≢◌, slice_set, is_some, unwrap_or}
use Rattle.std.specs.List.{flat_map}
use Rattle.std.proofs.lemmas.Bool.{cases_eq}
use Rattle.std.proofs.lemmas.List.{get_or-set_other, length-set}
use Rattle.std.proofs.lemmas.Grind.{get_or-set_at}
use Rattle.tapa_base.specs.Lists.{Has, one, more}
use Rattle.vlog_tree.specs.Form.{ModuleTree}
use Rattle.vlog_scope.specs.NameTable.{places_from}
use Rattle.vlog_tree.specs.declared.table.NetKind.TheVariants.{Input, Output}
use Rattle.vlog_tree.specs.Table.{Name, port_declared, declaration_name, module_declared, module_named, net_kind_of}
use Rattle.vlog_tree.specs.Loops.{Edges, Reaches, Rests, directly, through, after, port_of, direct_edges, instances}
use Rattle.vlog_comb_loops.specs.Summaries.{sum_named, port_pair, through_edges, module_edges, IsPair, IsSoundSum, IsUsed, IsClosedSum, AreSums, AreRight}
use Rattle.vlog_scope.proofs.Found.{module_found}
use Rattle.vlog_net_graph.proofs.Covering.{found}
use Rattle.tapa_base.proofs.Lists.{has_flat, of_flat, has_map, of_map, has_left, has_right, has_split, chains}

-- the sum of a module that a name finds
named_of : (P : ModuleTree → Edges → Type 0) (m : ModuleTree) (ms : List ModuleTree) (s : Edges) (sums : List Edges) (x : Name) (k : ModuleTree) (b : Bool)
    → P m s → (module_named ms x ≡ Some k → P k (sum_named ms sums x)) → cond b (Some m) (module_named ms x) ≡ Some k → P k (cond b s (sum_named ms sums x))
named_of P m ms s sums x k true here rest e = let same : m ≡ k = cc in subst (λ w. P w s) same here
named_of P m ms s sums x k false here rest e = rest e

module _ (P : ModuleTree → Edges → Type 0) where
  pub sum_found : (ms : List ModuleTree) (sums : List Edges) → AreSums P ms sums → (x : Name) (k : ModuleTree) → module_named ms x ≡ Some k → P k (sum_named ms sums x)
  sum_found [] sums a x k e = cc
  sum_found (m ∷ ms) [] a x k e = absurd (omega (arith, a.len))
  sum_found (m ∷ ms) (s ∷ sums) a x k e =
      named_of P m ms s sums x k (bytes_eq m.name x) (a.each 0 m refl)
      (sum_found ms sums (record { len = omega (arith, a.len); each = λ at n h. a.each (suc at) n h }) x k) e

none_of : (m : ModuleTree) (ms : List ModuleTree) (s : Edges) (sums : List Edges) (x : Name) (b : Bool)
    → (module_named ms x ≡ None → sum_named ms sums x ≡ []) → cond b (Some m) (module_named ms x) ≡ None → cond b s (sum_named ms sums x) ≡ []
none_of m ms s sums x true rest e = cc
none_of m ms s sums x false rest e = rest e

-- a name without a module has no sum
pub sum_none : (ms : List ModuleTree) (sums : List Edges) (x : Name) → module_named ms x ≡ None → sum_named ms sums x ≡ []
sum_none [] sums x e = refl
sum_none (m ∷ ms) [] x e = refl
sum_none (m ∷ ms) (s ∷ sums) x e = none_of m ms s sums x (bytes_eq m.name x) (sum_none ms sums x) e

module _ (ms : List ModuleTree) (is_top : Name → Bool) (sums : List Edges) where
  pub rests_reaches : AreSums (IsClosedSum ms is_top sums) ms sums → {m : ModuleTree} {a b : Name} → Has ms m → Rests ms is_top m a b → Reaches (module_edges ms is_top sums m) a b
  rests_reaches closed in_ms (directly {m = m} {x = x} {y = y} h) = one (has_left (direct_edges ms is_top m) _ (x, y) h)
  rests_reaches closed in_ms (through {m = m} {a = a} {b = b} k kn i x y inst named out into inside ea eb) =
      let f = found ms kn k named in
      let used : IsUsed ms k.name = (m, i, in_ms, subst (λ z. Has (instances m) (z, i)) (sym f.1) inst) in
      let pair : Has (sum_named ms sums kn) (x, y) = sum_found (IsClosedSum ms is_top sums) ms sums closed kn k named used x y (out, into, rests_reaches closed f.0 inside) in
      let edge : Has (flat_map (through_edges ms sums) (instances m)) (port_of i x, port_of i y) =
      has_flat (through_edges ms sums) (instances m) (kn, i) (port_of i x, port_of i y) inst (has_map (port_pair i) (sum_named ms sums kn) (x, y) pair) in
      let same : (port_of i x, port_of i y) ≡ (a, b) = cc (ea, eb) in
      one (has_right (direct_edges ms is_top m) _ (a, b) (subst (λ (p : Name × Name). Has (flat_map (through_edges ms sums) (instances m)) p) same edge))
  rests_reaches closed in_ms (after y r s) = chains _ _ y _ (rests_reaches closed in_ms r) (rests_reaches closed in_ms s)

  module _ (sound : AreSums (IsSoundSum ms is_top) ms sums) (m : ModuleTree) where
    through_of : (a b kn i : Name) (p : Name × Name) (o : Option ModuleTree) → module_named ms kn ≡ o → Has (instances m) (kn, i) → Has (sum_named ms sums kn) p → port_pair i p ≡ (a, b) → Rests ms is_top m a b
    through_of a b kn i p None e inst has same = absurd (subst (λ s. Has s p) (sum_none ms sums kn e) has)
    through_of a b kn i p (Some k) e inst has same =
        let right = sum_found (IsSoundSum ms is_top) ms sums sound kn k e p.0 p.1 has in
        through k kn i p.0 p.1 inst e right.0 right.1 right.2 (sym (ap (λ (q : Name × Name). q.0) same)) (sym (ap (λ (q : Name × Name). q.1) same))

    edge_of : (a b : Name) → Has (direct_edges ms is_top m) (a, b) ⊎ Has (flat_map (through_edges ms sums) (instances m)) (a, b) → Rests ms is_top m a b
    edge_of a b (inl h) = directly h
    edge_of a b (inr h) =
        let t = of_flat (through_edges ms sums) (instances m) (a, b) h in
        let q = of_map (port_pair t.0.1) (sum_named ms sums t.0.0) (a, b) t.2 in
        through_of a b t.0.0 t.0.1 q.0 (module_named ms t.0.0) refl t.1 q.1 q.2

    pub reaches_rests : {a b : Name} → Reaches (module_edges ms is_top sums m) a b → Rests ms is_top m a b
    reaches_rests (one {a = a} {b = b} h) = edge_of a b (has_split (direct_edges ms is_top m) _ (a, b) h)
    reaches_rests (more {a = a} b h r) = after b (edge_of a b (has_split (direct_edges ms is_top m) _ (a, b) h)) (reaches_rests r)

  pub rests_is_reaches : AreRight ms is_top sums → (m : ModuleTree) → Has ms m → (x y : Name) → Rests ms is_top m x y ↔ Reaches (module_edges ms is_top sums m) x y
  rests_is_reaches r m in_ms x y = (rests_reaches r.closed in_ms, reaches_rests r.sound m)

-- the sum at the place that a table of the modules' names gives
abbrev names : List ModuleTree → List Name
names ms = map declaration_name (map module_declared ms)

sum_here : (start : ℕ) (m : ModuleTree) (ms : List ModuleTree) (s : Edges) (sums : List Edges) (x : Name) (place : ℕ) (again : Bool) (b : Bool)
    → (places_from (suc start) (names ms) x ≡ Some (place, again) → sum_named ms sums x ≡ get_or sums (place - suc start) [])
    → cond b (Some (start, is_some (places_from (suc start) (names ms) m.name))) (places_from (suc start) (names ms) x) ≡ Some (place, again)
    → cond b s (sum_named ms sums x) ≡ get_or (s ∷ sums) (place - start) []
sum_here start m ms s sums x place again true ih h =
    let at : start ≡ place = ap (λ (o : Option (ℕ × Bool)). (unwrap_or o (0, false)).0) h in
    let z : 0 ≡ place - start = omega arith in
    ap (λ n. get_or (s ∷ sums) n []) z
sum_here start m ms s sums x place again false ih h =
    let low : suc start ≤ place = (module_found (suc start) ms x place again h).after in
    let next : suc (place - suc start) ≡ place - start = omega arith in
    ih h ∙ ap (λ n. get_or (s ∷ sums) n []) next

empty_at : (n : ℕ) → [] ≡ get_or {A = Edges} [] n []
empty_at n = refl

pub sum_there : (start : ℕ) (ms : List ModuleTree) (sums : List Edges) (x : Name) (place : ℕ) (again : Bool) → places_from start (names ms) x ≡ Some (place, again)
    → sum_named ms sums x ≡ get_or sums (place - start) []
sum_there start [] sums x place again e = cc
sum_there start (m ∷ ms) [] x place again e = empty_at (place - start)
sum_there start (m ∷ ms) (s ∷ sums) x place again e = sum_here start m ms s sums x place again (bytes_eq m.name x) (sum_there (suc start) ms sums x place again) e

missing_here : (m : ModuleTree) (ms : List ModuleTree) (s : Edges) (sums : List Edges) (start : ℕ) (x : Name) (b : Bool) → (places_from (suc start) (names ms) x ≡ None → sum_named ms sums x ≡ [])
    → cond b (Some (start, is_some (places_from (suc start) (names ms) m.name))) (places_from (suc start) (names ms) x) ≡ None → cond b s (sum_named ms sums x) ≡ []
missing_here m ms s sums start x true ih h = cc
missing_here m ms s sums start x false ih h = ih h

pub sum_missing : (start : ℕ) (ms : List ModuleTree) (sums : List Edges) (x : Name) → places_from start (names ms) x ≡ None → sum_named ms sums x ≡ []
sum_missing start [] sums x e = refl
sum_missing start (m ∷ ms) [] x e = refl
sum_missing start (m ∷ ms) (s ∷ sums) x e = missing_here m ms s sums start x (bytes_eq m.name x) (sum_missing (suc start) ms sums x) e

pub sum_at : (ms : List ModuleTree) (sums : List Edges) (x : Name) (place : ℕ) (again : Bool) → places_from 0 (names ms) x ≡ Some (place, again) → sum_named ms sums x ≡ get_or sums place []
sum_at ms sums x place again e = let z : place - 0 ≡ place = omega arith in sum_there 0 ms sums x place again e ∙ ap (λ n. get_or sums n []) z

-- one sum made anew
set_same : (sums : List Edges) (at : ℕ) (s : Edges) → at < length sums → get_or (slice_set sums at s) at [] ≡ s
set_same sums at s h = get_or-set_at sums at at s [] refl h

set_of : (P : ModuleTree → Edges → Type 0) (ms : List ModuleTree) (sums : List Edges) (at j : ℕ) (m k : ModuleTree) (s : Edges) → at < length sums → slice_get ms at ≡ Some m → P m s
    → slice_get ms j ≡ Some k → P k (get_or sums j []) → (j ≡ at) ⊎ (j ≢ at) → P k (get_or (slice_set sums at s) j [])
set_of P ms sums at j m k s h is p e old (inl same) =
    let tree : m ≡ k = cc (is, e, same) in
    subst (λ t. P t (get_or (slice_set sums at s) j [])) tree (subst (λ v. P m v) (sym (ap (λ n. get_or (slice_set sums at s) n []) same ∙ set_same sums at s h)) p)
set_of P ms sums at j m k s h is p e old (inr other) = subst (λ v. P k v) (sym (get_or-set_other sums at j s [] other)) old

pub sums_set : (P : ModuleTree → Edges → Type 0) (ms : List ModuleTree) (sums : List Edges) (at : ℕ) (m : ModuleTree) (s : Edges) → at < length sums → slice_get ms at ≡ Some m → P m s
    → AreSums P ms sums → AreSums P ms (slice_set sums at s)
sums_set P ms sums at m s h is p a = record {
  len = length-set sums at s ∙ a.len;
  each = λ j k e. set_of P ms sums at j m k s h is p e (a.each j k e) (cases_eq j at);
}

-- a pair that the edges give is right, where the sums are
pub sound_of : (ms : List ModuleTree) (is_top : Name → Bool) (sums : List Edges) (m : ModuleTree) → AreSums (IsSoundSum ms is_top) ms sums
    → (x y : Name) → IsPair (module_edges ms is_top sums m) (map port_declared m.ports) x y
    → (net_kind_of (map port_declared m.ports) x ≡ Output) × (net_kind_of (map port_declared m.ports) y ≡ Input) × Rests ms is_top m x y
sound_of ms is_top sums m sound x y p = (p.0, p.1, reaches_rests ms is_top sums sound m p.2)
