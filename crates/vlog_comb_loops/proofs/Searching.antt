-- The first place with a property.
use Rattle.std.proofs.Common.{◌≡◌, ℕ, zero, suc, get_or, ◌+◌, ◌<◌, ◌≤◌, Bool, List, [], ◌∷◌, ◌++◌, length, arith, Option, Some, None, inl, inr, refl, sym, ap, subst, ◌∙◌, append_assoc}
use Rattle.std.specs.Prelude.{◌⊎◌, ◌≢◌, slice_get}
use Rattle.std.proofs.lemmas.Bool.{cases_eq}
use Rattle.tapa_base.specs.Lists.{Has}
use Rattle.vlog_tree.specs.Form.{ModuleTree}
use Rattle.vlog_tree.specs.Table.{Name}
use Rattle.vlog_tree.specs.Loops.{Edges, Reaches, Rests, port_of, instances, TextPlace, place_name, IsFirstIn, LiesOnLoop}
use Rattle.vlog_comb_loops.specs.declared.suspects.Suspect.{Suspect}
use Rattle.vlog_comb_loops.specs.declared.suspects.Loops.{Loops}
use Rattle.vlog_comb_loops.specs.Search.{IsSearched, LoopsIn, IsSuspect, IsEvidence, IsJudged, AreJudged}
use Rattle.vlog_comb_loops.specs.Summaries.{module_edges, IsSoundSum, IsClosedSum, AreSums, AreRight}
use Rattle.vlog_net_graph.specs.Names.{IsGraphOf, IsGraphListed}
use Rattle.vlog_comb_loops.proofs.Resting.{rests_is_reaches}
use Rattle.tapa_base.proofs.Lists.{has_got, got_has, has_left, has_right, has_split}

module _ (P : TextPlace → Type 0) where
  pub hits : (s : TextPlace) (xs : List TextPlace) → P s → IsSearched P (s ∷ xs) (Some (place_name s))
  hits s xs p = (s, record { before = []; after = xs; split = refl; none_before = λ y h. absurd h; this = p }, refl)

  not_first : (s : TextPlace) (xs : List TextPlace) → (P s → ⊥) → (t : TextPlace) → IsFirstIn P xs t → IsFirstIn P (s ∷ xs) t
  not_first s xs miss t f = record {
    before = s ∷ f.before;
    after = f.after;
    split = ap (λ l. s ∷ l) f.split;
    none_before = λ y h p. elim h [ inl e ↦ miss (subst P (sym e) p) | inr r ↦ f.none_before y r p ];
    this = f.this;
  }

  pub misses : (s : TextPlace) (xs : List TextPlace) (o : Option Name) → (P s → ⊥) → IsSearched P xs o → IsSearched P (s ∷ xs) o
  misses s xs None miss r = λ t h p. elim h [ inl e ↦ miss (subst P (sym e) p) | inr k ↦ r t k p ]
  misses s xs (Some x) miss r = (r.0, not_first s xs miss r.0 r.1, r.2)

  pub goes_over : (xs ys : List TextPlace) (o : Option Name) → IsSearched P xs None → IsSearched P ys o → IsSearched P (xs ++ ys) o
  goes_over [] ys o none r = r
  goes_over (x ∷ xs) ys o none r = misses x (xs ++ ys) o (λ p. none x (inl refl) p) (goes_over xs ys o (λ t h p. none t (inr h) p) r)

  pub stays_first : (xs ys : List TextPlace) (n : Name) → IsSearched P xs (Some n) → IsSearched P (xs ++ ys) (Some n)
  stays_first xs ys n r =
      let f : IsFirstIn P xs r.0 = r.1 in (
        r.0,
        record {
          before = f.before;
          after = f.after ++ ys;
          split = ap (λ l. l ++ ys) f.split ∙ append_assoc f.before (r.0 ∷ f.after) ys;
          none_before = f.none_before;
          this = f.this;
        },
        r.2,
      )

module _ (ms : List ModuleTree) (is_top : Name → Bool) (m x : Name) where
  pub loops_lie : (s : Suspect) (v : IsSuspect ms is_top s) → LoopsIn v.edges v.tree m x → LiesOnLoop ms is_top (m, Some x)
  loops_lie s v (inl h) = inl (v.tree, has_got ms s.place v.tree v.at, h.0, (v.reaches x x).1 h.1)
  loops_lie s v (inr h) = inr (v.tree, h.0, has_got ms s.place v.tree v.at, h.1, (v.reaches (port_of h.0 x) (port_of h.0 x)).1 h.2)

  same_tree : (k t : ModuleTree) (place : ℕ) → slice_get ms place ≡ Some k → slice_get ms place ≡ Some t → k ≡ t
  same_tree k t place a b = cc (a, b)

  module _ (loops : Loops) (ev : IsEvidence ms is_top loops) (none : (s : Suspect) → Has loops.suspects.items s → (v : IsSuspect ms is_top s) → LoopsIn v.edges v.tree m x → ⊥) where
    found_of : (k : ModuleTree) → ((x : Name) → Rests ms is_top k x x → ⊥) ⊎ ((s : Suspect) × Has loops.suspects.items s × (slice_get ms s.place ≡ Some k)) → (y : Name) → Rests ms is_top k y y
        → ((s : Suspect) (v : IsSuspect ms is_top s) → Has loops.suspects.items s → (v.tree ≡ k) → Reaches v.edges y y → ⊥) → ⊥
    found_of k (inl n) y r f = n y r
    found_of k (inr t) y r f =
        let v : IsSuspect ms is_top t.0 = ev.found.right t.0 t.1 in
        let same : v.tree ≡ k = same_tree v.tree k t.0.place v.at t.2 in
        f t.0 v t.1 same ((v.reaches y y).0 (subst (λ w. Rests ms is_top w y y) (sym same) r))

    pub lies_not : LiesOnLoop ms is_top (m, Some x) → ⊥
    lies_not (inl h) =
        found_of h.0 (ev.found.others h.0 h.1) x h.3 (λ s v has same r. none s has v (inl (ap (λ (w : ModuleTree). w.name) same ∙ h.2, r)))
    lies_not (inr h) =
        found_of h.0 (ev.found.others h.0 h.2) (port_of h.1 x) h.4
        (λ s v has same r. none s has v (inr (h.1, subst (λ (w : ModuleTree). Has (instances w) (m, h.1)) (sym same) h.3, r)))

-- a graph that was put to the others
pub judged_pushed : (edges : Edges) (place : ℕ) (old : List Suspect) (s : Suspect) → s.place ≡ place → IsGraphOf edges s.graph → IsGraphListed s.graph → IsJudged edges place old (old ++ s ∷ [])
judged_pushed edges place old s at g names = record {
  right = λ t h. elim (has_split old (s ∷ []) t h) [
    | inl l ↦ inl l
    | inr r ↦ (elim r [ inl e ↦ inr (sym (ap (λ (v : Suspect). v.place) e) ∙ at, subst (λ (v : Suspect). IsGraphOf edges v.graph) e g, subst (λ (v : Suspect). IsGraphListed v.graph) e names) | inr n ↦ absurd n ])
  ];
  kept = λ t h. has_left old (s ∷ []) t h;
  judged = inr (s, has_right old (s ∷ []) s (inl refl), at);
}

pub none_judged : (ms : List ModuleTree) (is_top : Name → Bool) (sums : List Edges) (suspects : List Suspect) → suspects ≡ [] → AreJudged ms is_top sums 0 suspects
none_judged ms is_top sums suspects e = record {
  right = λ s h. absurd (subst (λ l. Has l s) e h);
  others = λ j m low h. absurd (omega (arith, low));
}

module _ (ms : List ModuleTree) (is_top : Name → Bool) (sums : List Edges) (place : ℕ) (m : ModuleTree) (at : slice_get ms place ≡ Some m)
    (old new : List Suspect) (j : IsJudged (module_edges ms is_top sums m) place old new) (before : AreJudged ms is_top sums place old) where
  right_of : (s : Suspect) → Has old s ⊎ ((s.place ≡ place) × IsGraphOf (module_edges ms is_top sums m) s.graph × IsGraphListed s.graph)
      → (k : ModuleTree) × (slice_get ms s.place ≡ Some k) × IsGraphOf (module_edges ms is_top sums k) s.graph × IsGraphListed s.graph
  right_of s (inl h) = before.right s h
  right_of s (inr p) = (m, ap (λ n. slice_get ms n) p.0 ∙ at, p.1, p.2)

  judged_of : (k : ModuleTree) → m ≡ k → ((x : Name) → Reaches (module_edges ms is_top sums m) x x → ⊥) ⊎ ((s : Suspect) × Has new s × (s.place ≡ place))
      → ((x : Name) → Reaches (module_edges ms is_top sums k) x x → ⊥) ⊎ ((s : Suspect) × Has new s × (slice_get ms s.place ≡ Some k))
  judged_of k same (inl none) = inl (subst (λ (t : ModuleTree). (x : Name) → Reaches (module_edges ms is_top sums t) x x → ⊥) same none)
  judged_of k same (inr t) = inr (t.0, t.1, ap (λ n. slice_get ms n) t.2 ∙ at ∙ ap (λ z. Some z) same)

  kept_of : (k : ModuleTree) → ((x : Name) → Reaches (module_edges ms is_top sums k) x x → ⊥) ⊎ ((s : Suspect) × Has old s × (slice_get ms s.place ≡ Some k))
      → ((x : Name) → Reaches (module_edges ms is_top sums k) x x → ⊥) ⊎ ((s : Suspect) × Has new s × (slice_get ms s.place ≡ Some k))
  kept_of k (inl none) = inl none
  kept_of k (inr t) = inr (t.0, j.kept t.0 t.1, t.2)

  others_of : (i : ℕ) (k : ModuleTree) → i < place + 1 → slice_get ms i ≡ Some k → (i ≡ place) ⊎ (i ≢ place)
      → ((x : Name) → Reaches (module_edges ms is_top sums k) x x → ⊥) ⊎ ((s : Suspect) × Has new s × (slice_get ms s.place ≡ Some k))
  others_of i k low e (inl same) = let tree : m ≡ k = cc (at, e, same) in judged_of k tree j.judged
  others_of i k low e (inr other) = kept_of k (before.others i k (omega (arith, other)) e)

  pub next_judged : AreJudged ms is_top sums (place + 1) new
  next_judged = record {
    right = λ s h. right_of s (j.right s h);
    others = λ i k low e. others_of i k low e (cases_eq i place);
  }

-- all modules judged by right sums
module _ (ms : List ModuleTree) (is_top : Name → Bool) (sums : List Edges) (r : AreRight ms is_top sums) (suspects : List Suspect) (all : AreJudged ms is_top sums (length ms) suspects) where
  pub all_right : (s : Suspect) → Has suspects s → IsSuspect ms is_top s
  all_right s h =
      let t = all.right s h in
      record {
        tree = t.0;
        at = t.1;
        edges = module_edges ms is_top sums t.0;
        graph = t.2;
        listed = t.3;
        reaches = rests_is_reaches ms is_top sums r t.0 (has_got ms s.place t.0 t.1);
      }

  loopless_of : (m : ModuleTree) → Has ms m → ((x : Name) → Reaches (module_edges ms is_top sums m) x x → ⊥) ⊎ ((s : Suspect) × Has suspects s × (slice_get ms s.place ≡ Some m))
      → ((x : Name) → Rests ms is_top m x x → ⊥) ⊎ ((s : Suspect) × Has suspects s × (slice_get ms s.place ≡ Some m))
  loopless_of m h (inl none) = inl (λ x k. none x ((rests_is_reaches ms is_top sums r m h x x).0 k))
  loopless_of m h (inr t) = inr t

  pub all_others : (m : ModuleTree) → Has ms m → ((x : Name) → Rests ms is_top m x x → ⊥) ⊎ ((s : Suspect) × Has suspects s × (slice_get ms s.place ≡ Some m))
  all_others m h = let g = got_has ms m h in loopless_of m h (all.others g.0 m g.1 g.2)

got_low : {B : Type 0} (xs : List B) (i : ℕ) (x : B) → slice_get xs i ≡ Some x → i < length xs
got_low [] i x e = cc
got_low (y ∷ ys) zero x e = omega arith
got_low (y ∷ ys) (suc i) x e = let low : i < length ys = got_low ys i x e in omega arith

pub judged_end : (ms : List ModuleTree) (is_top : Name → Bool) (sums : List Edges) (place : ℕ) (suspects : List Suspect) → length ms ≤ place → AreJudged ms is_top sums place suspects → AreJudged ms is_top sums (length ms) suspects
judged_end ms is_top sums place suspects over j = record { right = j.right; others = λ i m low e. j.others i m (omega arith) e }

-- one more sum is closed, where no sum was changed
module _ (ms : List ModuleTree) (is_top : Name → Bool) (old new : List Edges) (same : new ≡ old) (place : ℕ) where
  pub next_closed : ((m : ModuleTree) → slice_get ms place ≡ Some m → IsClosedSum ms is_top old m (get_or old place []))
      → ((j : ℕ) (m : ModuleTree) → j < place → slice_get ms j ≡ Some m → IsClosedSum ms is_top old m (get_or old j []))
      → (j : ℕ) (m : ModuleTree) → j < place + 1 → slice_get ms j ≡ Some m → IsClosedSum ms is_top new m (get_or new j [])
  next_closed here before j m low e =
      subst (λ (s : List Edges). IsClosedSum ms is_top s m (get_or s j [])) (sym same)
      (elim (cases_eq j place) [
        | inl at ↦ subst (λ n. IsClosedSum ms is_top old m (get_or old n [])) (sym at) (here m (ap (λ n. slice_get ms n) (sym at) ∙ e))
        | inr other ↦ before j m (omega (arith, other)) e
      ])

  pub all_closed : AreSums (IsSoundSum ms is_top) ms old → length ms ≤ place → ((j : ℕ) (m : ModuleTree) → j < place → slice_get ms j ≡ Some m → IsClosedSum ms is_top new m (get_or new j [])) → AreSums (IsClosedSum ms is_top new) ms new
  all_closed sound over before = record {
    len = ap (λ (s : List Edges). length s) same ∙ sound.len;
    each = λ j m e. let low : j < length ms = got_low ms j m e in before j m (omega (arith, over)) e;
  }

pub got_at : {A : Type 0} (xs : List A) (i : ℕ) → i < length xs → (x : A) × (slice_get xs i ≡ Some x)
got_at [] i low = absurd (omega arith)
got_at (x ∷ xs) zero low = (x, refl)
got_at (x ∷ xs) (suc i) low = got_at xs i (omega arith)
