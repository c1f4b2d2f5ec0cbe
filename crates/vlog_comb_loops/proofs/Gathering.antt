-- Lists of pairs as they are gathered.
use Rattle.std.proofs.Common.{◌≡◌, ℕ, ◌+◌, ◌<◌, ◌≤◌, List, [], ◌++◌, length, get_or, take, map, Option, Some, None, inl, inr, refl, sym, ap, subst, ◌∙◌}
use Rattle.std.specs.Prelude.{◌⊎◌, ◌↔◌}
use Rattle.std.specs.List.{flat_map}
use Rattle.std.proofs.lemmas.List.{take_all}
use Rattle.vlog_tree.specs.declared.table.Declaration.{Declaration}
use Rattle.vlog_tree.specs.declared.table.NetKind.TheVariants.{Unknown, Input, Output}
use Rattle.tapa_base.specs.Lists.{Has, Chain}
use Rattle.vlog_tree.specs.Table.{Name, declaration_name, net_kind_of}
use Rattle.vlog_tree.specs.Loops.{Edges, Reaches}
use Rattle.vlog_net_graph.specs.Names.{IsNumbered}
use Rattle.vlog_comb_loops.specs.Growth.{Gathers}
use Rattle.vlog_comb_loops.specs.Places.{ArePlaces, picked, paired}
use Rattle.vlog_comb_loops.specs.Summaries.{IsPair, IsSumOf}
use Rattle.vlog_tree.proofs.Lists.{known}
use Rattle.tapa_base.proofs.Lists.{taken_mapped, has_flat, of_flat, has_left, has_right, has_split}
use Rattle.vlog_net_graph.proofs.Numbered.{down, up, reached_by_none}

module _ (P : Name → Name → Type 0) where
  pub gathers_nothing : (Q : Name → Name → Type 0) (s : Edges) → ((x y : Name) → P x y → Q x y → ⊥) → Gathers P Q s s
  gathers_nothing Q s none = record { right = λ all. all; kept = λ x y h. h; there = λ x y p q. absurd (none x y p q) }

  pub gathers_both : (Q L R : Name → Name → Type 0) (a b c : Edges) → ((x y : Name) → Q x y → L x y ⊎ R x y) → Gathers P L a b → Gathers P R b c → Gathers P Q a c
  gathers_both Q L R a b c split l r = record {
    right = λ all. r.right (l.right all);
    kept = λ x y h. r.kept x y (l.kept x y h);
    there = λ x y p q. elim (split x y q) [ inl h ↦ r.kept x y (l.there x y p h) | inr h ↦ r.there x y p h ];
  }

-- one more name was gone over
module _ (P : Name → Name → Type 0) (xs : List Declaration) (i : ℕ) (d : Declaration) (low : i < length xs) (is : d ≡ get_or xs i d) (a b c : Edges) where
  pub next_output : Gathers P (λ u v. Has (map declaration_name (take i xs)) u) a b → Gathers P (λ u v. u ≡ d.name) b c
      → Gathers P (λ u v. Has (map declaration_name (take (i + 1) xs)) u) a c
  next_output = gathers_both P _ _ _ a b c (λ u v q. elim (taken_mapped declaration_name xs i d u low is q) [ inl h ↦ inl h | inr e ↦ inr (sym e) ])

no_output : Unknown ≡ Output → ⊥
no_output e = cc

module _ (edges : Edges) (ports xs : List Declaration) (i : ℕ) (over : length xs ≤ i) (is : xs ≡ ports) (a b : Edges) where
  all_names : (v : Name) → Has (map declaration_name ports) v → Has (map declaration_name (take i xs)) v
  all_names v h = subst (λ (l : List Declaration). Has (map declaration_name l) v) (sym (take_all i xs over ∙ is)) h

  pub all_outputs : a ≡ [] → Gathers (IsPair edges ports) (λ u v. Has (map declaration_name (take i xs)) u) a b → IsSumOf edges ports b
  all_outputs none g x y = (
    λ h. g.right (λ u v k. absurd (subst (λ l. Has l (u, v)) none k)) x y h,
    λ p. g.there x y p (all_names x (known ports x Output no_output p.0)),
  )

-- a name that is no output has no pairs
pub not_output : (edges : Edges) (ports : List Declaration) (x : Name) (s : Edges) → (net_kind_of ports x ≡ Output → ⊥) → Gathers (IsPair edges ports) (λ a b. a ≡ x) s s
not_output edges ports x s never = gathers_nothing (IsPair edges ports) (λ a b. a ≡ x) s (λ a b p e. never (subst (λ z. net_kind_of ports z ≡ Output) e p.0))

module _ (edges : Edges) (ports : List Declaration) (number : Name → Option ℕ) (R : ℕ → ℕ → Type 0) (n : ℕ) (g : IsNumbered edges number R n) (x : Name) where
  -- a name without a number reaches nothing
  pub not_numbered : number x ≡ None → (s : Edges) → Gathers (IsPair edges ports) (λ a b. a ≡ x) s s
  not_numbered none s = gathers_nothing (IsPair edges ports) (λ a b. a ≡ x) s (λ a b p e. reached_by_none edges number R n g x b none (subst (λ z. Reaches edges z b) e p.2))

  -- what a search from an output finds
  module _ (places : List (Option ℕ)) (p : ArePlaces ports number places) (output : net_kind_of ports x ≡ Output) (j : ℕ) (at : number x ≡ Some j) (found : List ℕ) (all : (k : ℕ) → Has found k ↔ Chain R j k) where
    abbrev pairs_of : ℕ → Edges
    pairs_of k = picked x ports (get_or places k None)

    pair_of : (k : ℕ) → Has found k → (d : Declaration) → net_kind_of ports d.name ≡ Input → number d.name ≡ Some k → IsPair edges ports x d.name
    pair_of k h d into num =
        let u = up edges number R n g ((all k).0 h) in
        let first : u.0 ≡ x = g.distinct u.0 x j u.2 at in
        let last : u.1 ≡ d.name = g.distinct u.1 d.name k u.3 num in
        (output, into, subst (λ z. Reaches edges z d.name) first (subst (λ z. Reaches edges u.0 z) last u.4))

    right_of : (k : ℕ) → Has found k → (o : Option ℕ) → get_or places k None ≡ o → (a b : Name) → Has (picked x ports o) (a, b) → IsPair edges ports a b
    right_of k h None e a b has = absurd has
    right_of k h (Some i) e a b has =
        let t = p.right k i e in
        let here : Has (paired x (Some t.0)) (a, b) = subst (λ o. Has (paired x o) (a, b)) t.1 has in
        elim here [ inl same ↦ subst (λ (q : Name × Name). IsPair edges ports q.0 q.1) same (pair_of k h t.0 t.2 t.3) | inr none ↦ absurd none ]

    there_of : (b : Name) → IsPair edges ports x b → Has (flat_map pairs_of found) (x, b)
    there_of b pair =
        let d = down edges number R n g pair.2 in
        let start : d.0 ≡ j = cc (d.2, at) in
        let here : Has found d.1 = (all d.1).1 (subst (λ i. Chain R i d.1) start d.4) in
        let place = p.there b d.1 pair.1 d.3 in
        let t = p.right d.1 place.0 place.1 in
        let same : t.0.name ≡ b = g.distinct t.0.name b d.1 t.3 d.3 in
        has_flat pairs_of found d.1 (x, b) here
        (subst (λ o. Has (picked x ports o) (x, b)) (sym place.1) (subst (λ o. Has (paired x o) (x, b)) (sym t.1) (inl (ap (λ z. (x, z)) same))))

    pub found_gathers : (s : Edges) → Gathers (IsPair edges ports) (λ a b. a ≡ x) s (s ++ flat_map pairs_of found)
    found_gathers s = record {
      right = λ old a b h. elim (has_split s (flat_map pairs_of found) (a, b) h) [
        | inl l ↦ old a b l
        | inr r ↦ (let t = of_flat pairs_of found (a, b) r in right_of t.0 t.1 (get_or places t.0 None) refl a b t.2)
      ];
      kept = λ a b h. has_left s (flat_map pairs_of found) (a, b) h;
      there = λ a b pair e. has_right s (flat_map pairs_of found) (a, b) (subst (λ z. Has (flat_map pairs_of found) (z, b)) (sym e) (there_of b (subst (λ z. IsPair edges ports z b) e pair)));
    }
