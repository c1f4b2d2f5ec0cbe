-- Questions as they are asked, and what their answers say.
use Rattle.std.proofs.Common.{◌≡◌, ℕ, zero, suc, ◌+◌, ◌<◌, ◌≤◌, Bool, true, false, cond, List, [], ◌∷◌, ◌++◌, length, take, drop, Option, Some, None, inl, inr, refl, sym, ap, subst, ◌∙◌, arith}
use Rattle.std.specs.Prelude.{bytes_eq, slice_get, ◌⊎◌, ◌≢◌, ◌↔◌, Vec}
use Rattle.std.specs.Option.{option_map_or}
use Rattle.std.specs.Cmp.Lexicographic.{bytes_decides}
use Rattle.std.proofs.lemmas.Bool.{cases_eq}
use Rattle.vlog_tree.specs.declared.tree.Item.{Item}
use Rattle.tapa_base.specs.Lists.{Has}
use Rattle.vlog_tree.specs.Form.{ModuleTree}
use Rattle.vlog_tree.specs.Table.{Name}
use Rattle.vlog_tree.specs.Loops.{Edges, Reaches, port_of, item_instances}
use Rattle.vlog_scope.specs.NameTable.{value_in}
use Rattle.number_graph.specs.Graphs.{Steps, targets_of}
use Rattle.number_graph.proofs.Rows.{row_push as targets_push}
use Rattle.vlog_comb_loops.specs.declared.suspects.Suspect.{Suspect}
use Rattle.vlog_comb_loops.specs.declared.suspects.Loops.{Loops}
use Rattle.vlog_comb_loops.specs.declared.questions.Questions.{Questions}
use Rattle.vlog_net_graph.specs.Names.{texts}
use Rattle.vlog_comb_loops.specs.Summaries.{IsUsed}
use Rattle.vlog_comb_loops.specs.Questions.{Question, asked_of, Keeps, AsksLines, AreUses, AsksPort, Asks}
use Rattle.vlog_comb_loops.specs.Search.{LoopsIn, LoopsAt, LoopsBy, IsSuspect, IsEvidence}
use Rattle.tapa_base.proofs.Lists.{has_flat, of_flat, has_got, got_has, has_left, has_right}
use Rattle.vlog_net_graph.proofs.Numbered.{numbered_start}

module _ {X A : Type 0} where
  abbrev pub list_of : List (Vec X A) → Option ℕ → List X
  list_of lists o = option_map_or (λ n. targets_of lists n) o []

  pub nothing_past : (xs : List (Vec X A)) (i : ℕ) → length xs ≤ i → targets_of xs i ≡ []
  nothing_past [] i h = refl
  nothing_past (x ∷ xs) zero h = absurd (omega arith)
  nothing_past (x ∷ xs) (suc i) h = nothing_past xs i (omega arith)

  -- one more element of one list
  module _ (old new : List (Vec X A)) (n : ℕ) (x : X) (at : targets_of new n ≡ targets_of old n ++ x ∷ []) (others : (i : ℕ) → i ≢ n → targets_of new i ≡ targets_of old i) where
    kept_at : (i : ℕ) (y : X) → (i ≡ n) ⊎ (i ≢ n) → Has (targets_of old i) y → Has (targets_of new i) y
    kept_at i y (inl e) h =
        subst (λ j. Has (targets_of old j) y → Has (targets_of new j) y) (sym e) (λ (k : Has (targets_of old n) y). subst (λ l. Has l y) (sym at) (has_left (targets_of old n) (x ∷ []) y k)) h
    kept_at i y (inr ne) h = subst (λ l. Has l y) (sym (others i ne)) h

    pub pushed_kept : (o : Option ℕ) (y : X) → Has (list_of old o) y → Has (list_of new o) y
    pushed_kept None y h = h
    pushed_kept (Some i) y h = kept_at i y (cases_eq i n) h

    pub pushed_there : (o : Option ℕ) → o ≡ Some n → Has (list_of new o) x
    pushed_there o e =
        subst (λ p. Has (list_of new p) x) (sym e) (subst (λ l. Has l x) (sym at) (has_right (targets_of old n) (x ∷ []) x (inl refl)))

  -- a list is begun for a name that has none
  pushed_same : (lists : List (Vec X A)) (v : Vec X A) → v.items ≡ [] → (o : Option ℕ) → list_of (lists ++ v ∷ []) o ≡ list_of lists o
  pushed_same lists v e None = refl
  pushed_same lists v e (Some i) = targets_push lists v e i

  pub begun_same : (lists : List (Vec X A)) (v : Vec X A) → v.items ≡ [] → (number : Name → Option ℕ) (name : Name) → list_of lists (number name) ≡ [] → (x : Name) (b : Bool) → bytes_eq name x ≡ b
      → list_of (lists ++ v ∷ []) (cond b (Some (length lists)) (number x)) ≡ list_of lists (number x)
  begun_same lists v e number name none x true h =
      pushed_same lists v e (Some (length lists)) ∙ nothing_past lists (length lists) (omega arith) ∙ sym (subst (λ y. list_of lists (number y) ≡ []) ((bytes_decides name x).0 h) none)
  begun_same lists v e number name none x false h = pushed_same lists v e (number x)

pub got_low : {B : Type 0} (xs : List B) (i : ℕ) (x : B) → slice_get xs i ≡ Some x → i < length xs
got_low [] i x e = cc
got_low (y ∷ ys) zero x e = omega arith
got_low (y ∷ ys) (suc i) x e = let low : i < length ys = got_low ys i x e in omega arith

-- one more line
pub lines_more : (key : Name → Name → Name) (old new : Questions) (at : ℕ) (items : List Item) (line : ℕ) (x : Item) → Keeps old new → slice_get items line ≡ Some x
    → ((m i : Name) → Has (item_instances x) (m, i) → Has (asked_of new (key m i)) (at, Some line))
    → ((j : ℕ) (item : Item) (m i : Name) → j < line → slice_get items j ≡ Some item → Has (item_instances item) (m, i) → Has (asked_of old (key m i)) (at, Some j))
    → (j : ℕ) (item : Item) (m i : Name) → j < line + 1 → slice_get items j ≡ Some item → Has (item_instances item) (m, i) → Has (asked_of new (key m i)) (at, Some j)
lines_more key old new at items line x kept is here before j item m i low e h =
    elim (cases_eq j line) [
      | inl same ↦ (let this : x ≡ item = cc (is, e, same) in
          subst (λ n. Has (asked_of new (key m i)) (at, Some n)) (sym same) (here m i (subst (λ t. Has (item_instances t) (m, i)) (sym this) h)))
      | inr other ↦ kept (key m i) (at, Some j) (before j item m i (omega (arith, other)) e h)
    ]

-- the lines of one more module
pub uses_more : (old new : Questions) (ms : List ModuleTree) (at : ℕ) (x : ModuleTree) → Keeps old new → slice_get ms at ≡ Some x → AsksLines new at x.items
    → ((a : ℕ) (k : ModuleTree) → a < at → slice_get ms a ≡ Some k → AsksLines old a k.items)
    → (a : ℕ) (k : ModuleTree) → a < at + 1 → slice_get ms a ≡ Some k → AsksLines new a k.items
uses_more old new ms at x kept is here before a k low e =
    elim (cases_eq a at) [
      | inl same ↦ (let this : x ≡ k = cc (is, e, same) in subst (λ n. AsksLines new n k.items) (sym same) (subst (λ (t : ModuleTree). AsksLines new at t.items) this here))
      | inr other ↦ (λ j item m i f h. kept m (a, Some j) (before a k (omega (arith, other)) e j item m i f h))
    ]

-- what another module contains is noted
pub used_asked : (ms : List ModuleTree) (q : Questions) → AreUses ms q → (x : Name) → IsUsed ms x → (e : Question) × Has (asked_of q x) e
used_asked ms q all x u =
    let p = got_has ms u.0 u.2 in
    let t = of_flat item_instances u.0.items (x, u.1) u.3 in
    let l = got_has u.0.items t.0 t.1 in
    ((p.0, Some l.0), all p.0 u.0 p.2 l.0 t.0 x u.1 l.2 t.2)

-- one more name of a graph
pub port_kept : (old new : Questions) (k : ModuleTree) (lines : List Question) (x : Name) → Keeps old new → AsksPort old k lines x → AsksPort new k lines x
port_kept old new k lines x kept a e j item m i h f g n = kept (port_of m x) e (a e j item m i h f g n)

-- where the dots of a name stand
pub dot_at : (i x : Name) → (slice_get (i ++ 46 ∷ x) (length i) ≡ Some 46) × (take (length i) (i ++ 46 ∷ x) ≡ i) × (drop (length i + 1) (i ++ 46 ∷ x) ≡ x)
dot_at [] x = (refl, refl, refl)
dot_at (c ∷ i) x =
    let r = dot_at i x in
    let next : suc (length i) + 1 ≡ suc (length i + 1) = omega arith in
    (r.0, ap (λ l. c ∷ l) r.1, ap (λ n. drop n (c ∷ (i ++ 46 ∷ x))) next ∙ r.2)

split_at : (name i x : Name) → name ≡ port_of i x → (slice_get name (length i) ≡ Some 46) × (take (length i) name ≡ i) × (drop (length i + 1) name ≡ x)
unfolding port_of
split_at name i x e = subst (λ (l : Name). (slice_get l (length i) ≡ Some 46) × (take (length i) l ≡ i) × (drop (length i + 1) l ≡ x)) (sym e) (dot_at i x)

module _ (old new named : Questions) (k : ModuleTree) (name : Name) (dot : ℕ) (kept : Keeps old new)
    (before : (i x : Name) → length i < dot → name ≡ port_of i x → AsksPort old k (asked_of named i) x) where
  pub wire_more : ((i x : Name) → length i ≡ dot → name ≡ port_of i x → AsksPort new k (asked_of named i) x) → (i x : Name) → length i < dot + 1 → name ≡ port_of i x → AsksPort new k (asked_of named i) x
  wire_more here i x low e = elim (cases_eq (length i) dot) [
    | inl at ↦ here i x at e
    | inr other ↦ port_kept old new k (asked_of named i) x kept (before i x (omega (arith, other)) e)
  ]

-- a dot at this place
pub at_dot : (new named : Questions) (k : ModuleTree) (name : Name) (dot : ℕ) → AsksPort new k (asked_of named (take dot name)) (drop (dot + 1) name)
    → (i x : Name) → length i ≡ dot → name ≡ port_of i x → AsksPort new k (asked_of named i) x
at_dot new named k name dot here i x at e =
    let t = split_at name i x e in
    let first : take dot name ≡ i = ap (λ n. take n name) (sym at) ∙ t.1 in
    let second : drop (dot + 1) name ≡ x = ap (λ n. drop (n + 1) name) (sym at) ∙ t.2 in
    subst (λ z. AsksPort new k (asked_of named z) x) first (subst (λ z. AsksPort new k (asked_of named (take dot name)) z) second here)

-- and no dot
pub no_dot_at : (name : Name) (dot : ℕ) → (slice_get name dot ≡ Some 46 → ⊥) → (i x : Name) → length i ≡ dot → name ≡ port_of i x → ⊥
no_dot_at name dot none i x at e = none (ap (λ n. slice_get name n) (sym at) ∙ (split_at name i x e).0)

-- a dot stands within a name
pub dot_low : (name i x : Name) → name ≡ port_of i x → length i < length name
dot_low name i x e = got_low name (length i) 46 (split_at name i x e).0

pub asks_kept : (old new : Questions) (at : ℕ) (k : ModuleTree) (names : List Name) → Keeps old new → Asks old at k names → Asks new at k names
asks_kept old new at k names kept a = record {
  own = λ x h. kept (port_of k.name x) (at, None) (a.own x h);
  wires = λ j item m i x e h n. kept (port_of m x) (at, Some j) (a.wires j item m i x e h n);
}

pub suspects_more : (old new : Questions) (ms : List ModuleTree) (suspects : List Suspect) (at : ℕ) (x : Suspect) → Keeps old new → slice_get suspects at ≡ Some x
    → ((k : ModuleTree) → slice_get ms x.place ≡ Some k → Asks new at k (texts x.graph.names.items))
    → ((a : ℕ) (s : Suspect) (k : ModuleTree) → a < at → slice_get suspects a ≡ Some s → slice_get ms s.place ≡ Some k → Asks old a k (texts s.graph.names.items))
    → (a : ℕ) (s : Suspect) (k : ModuleTree) → a < at + 1 → slice_get suspects a ≡ Some s → slice_get ms s.place ≡ Some k → Asks new a k (texts s.graph.names.items)
suspects_more old new ms suspects at x kept is here before a s k low e f =
    elim (cases_eq a at) [
      | inl same ↦ (let this : x ≡ s = cc (is, e, same) in
          subst (λ n. Asks new n k (texts s.graph.names.items)) (sym same)
          (subst (λ (t : Suspect). Asks new at k (texts t.graph.names.items)) this (here k (subst (λ (t : Suspect). slice_get ms t.place ≡ Some k) (sym this) f))))
      | inr other ↦ asks_kept old new a k (texts s.graph.names.items) kept (before a s k (omega (arith, other)) e f)
    ]

-- what loops by a line loops in the module
pub at_in : (edges : Edges) (k : ModuleTree) (line : Option ℕ) (m x : Name) → LoopsAt edges k line m x → LoopsIn edges k m x
at_in edges k None m x h = inl h
at_in edges k (Some j) m x h = inr (h.2.0, has_flat item_instances k.items h.0 (m, h.2.0) (has_got k.items j h.0 h.1) h.2.1, h.2.2)

-- what a line that is there loops, and one that is not
pub line_loops : (edges : Edges) (k : ModuleTree) (line : Option ℕ) (j : ℕ) (m x : Name) (item : Item) (b : Bool) → line ≡ Some j → slice_get k.items j ≡ Some item
    → ((b ≡ true) ↔ ((i : Name) × Has (item_instances item) (m, i) × Reaches edges (port_of i x) (port_of i x))) → (b ≡ true) ↔ LoopsAt edges k line m x
line_loops edges k line j m x item b e at f =
    subst (λ o. (b ≡ true) ↔ LoopsAt edges k o m x) (sym e) (
      λ yes. (item, at, f.0 yes),
      λ (h : LoopsAt edges k (Some j) m x).
          let same : h.0 ≡ item = cc (h.1, at) in
          f.1 (subst (λ (t : Item). (i : Name) × Has (item_instances t) (m, i) × Reaches edges (port_of i x) (port_of i x)) same h.2),
    )

pub no_line : (edges : Edges) (k : ModuleTree) (line : Option ℕ) (j : ℕ) (m x : Name) → line ≡ Some j → slice_get k.items j ≡ None → LoopsAt edges k line m x → ⊥
no_line edges k line j m x e none h = let t : LoopsAt edges k (Some j) m x = subst (λ o. LoopsAt edges k o m x) e h in cc (t.1, none)

-- where each question that is asked is answered by no, no suspect has a loop
module _ (ms : List ModuleTree) (is_top : Name → Bool) (m x : Name) (loops : Loops) (ev : IsEvidence ms is_top loops)
    (none : (e : Question) → Has (asked_of loops.questions (port_of m x)) e → LoopsBy ms is_top loops.suspects.items m x e → ⊥) where
  -- a name on a loop is listed
  listed_loop : (s : Suspect) (v : IsSuspect ms is_top s) (y : Name) → Reaches v.edges y y → Has (texts s.graph.names.items) y
  listed_loop s v y r = let n = numbered_start v.edges (value_in s.graph.numbers) (Steps s.graph.graph) (length s.graph.graph) v.graph y y r in has_got (texts s.graph.names.items) n.0 y (v.listed y n.0 n.1)

  pub no_suspect : (s : Suspect) → Has loops.suspects.items s → (v : IsSuspect ms is_top s) → LoopsIn v.edges v.tree m x → ⊥
  no_suspect s has v (inl h) =
      let g = got_has loops.suspects.items s has in
      let a : Asks loops.questions g.0 v.tree (texts s.graph.names.items) = ev.questions g.0 s v.tree g.2 v.at in
      none (g.0, None) (subst (λ n. Has (asked_of loops.questions (port_of n x)) (g.0, None)) h.0 (a.own x (listed_loop s v x h.1))) (s, g.2, (v, h))
  no_suspect s has v (inr h) =
      let g = got_has loops.suspects.items s has in
      let a : Asks loops.questions g.0 v.tree (texts s.graph.names.items) = ev.questions g.0 s v.tree g.2 v.at in
      let t = of_flat item_instances v.tree.items (m, h.0) h.1 in
      let l = got_has v.tree.items t.0 t.1 in
      none (g.0, Some l.0) (a.wires l.0 t.0 m h.0 x l.2 t.2 (listed_loop s v (port_of h.0 x) h.2)) (s, g.2, (v, (t.0, l.2, (h.0, t.2, h.2))))
