-- Sums that grow leave less room.
use Rattle.std.proofs.Common.{◌≡◌, ℕ, zero, suc, ◌<◌, ◌≤◌, Bool, true, false, cond, ◌&&◌, ◌||◌, List, [], ◌∷◌, ◌++◌, length, get_or, Some, inl, inr, refl, sym, ap, subst, ◌∙◌, arith, map}
use Rattle.std.specs.Prelude.{bytes_eq, slice_get, slice_set, nat_lt, ◌⊎◌}
use Rattle.std.proofs.lemmas.Bool.Decides.{nat_tests}
use Rattle.std.specs.Cmp.Lexicographic.{bytes_decides}
use Rattle.vlog_tree.specs.declared.table.Declaration.{Declaration}
use Rattle.vlog_tree.specs.declared.table.NetKind.TheVariants.{Unknown, Input, Output}
use Rattle.tapa_base.specs.Lists.{Has}
use Rattle.vlog_tree.specs.Form.{ModuleTree}
use Rattle.vlog_tree.specs.Table.{Name, port_declared, declaration_name, net_kind_of}
use Rattle.vlog_tree.specs.Loops.{Edges}
use Rattle.vlog_tree.proofs.Lists.{known}
use Rattle.tapa_base.proofs.Lists.{has_flat, has_map, has_left, has_right, has_split}
use Rattle.vlog_comb_loops.specs.Rooms.{is_pair_in, missing, candidates, room}
use Rattle.vlog_comb_loops.specs.Merges.{IsMerged, IsGrown}
use Rattle.vlog_comb_loops.specs.Questions.{Question}
use Rattle.vlog_comb_loops.specs.Summaries.{IsSumOf}
use Rattle.tapa_base.proofs.Tests.{both_true as and_both}
use Rattle.std.proofs.lemmas.Bool.{or_left, and_from as both_and, or_right}
use Rattle.vlog_net_graph.proofs.Covering.{no_input, no_output}

or_one : (a b : Bool) → (a || b) ≡ true → (a ≡ true) ⊎ (b ≡ true)
or_one true b e = inl refl
or_one false b e = inr e

in_has : (s : Edges) (p : Name × Name) → is_pair_in s p ≡ true → Has s p
in_has [] p e = absurd (off e)
  where
    off : false ≡ true → ⊥
    off e = cc
in_has (q ∷ s) p e = elim (or_one (bytes_eq q.0 p.0 && bytes_eq q.1 p.1) (is_pair_in s p) e) [
  | inl h ↦ (
      let both = and_both (bytes_eq q.0 p.0) (bytes_eq q.1 p.1) h in
      let first : q.0 ≡ p.0 = (bytes_decides q.0 p.0).0 both.0 in
      let second : q.1 ≡ p.1 = (bytes_decides q.1 p.1).0 both.1 in
      let same : (q.0, q.1) ≡ (p.0, p.1) = cc (first, second) in
      inl same)
  | inr h ↦ inr (in_has s p h)
]

has_in : (s : Edges) (p : Name × Name) → Has s p → is_pair_in s p ≡ true
has_in [] p h = absurd h
has_in (q ∷ s) p (inl e) =
    or_left (bytes_eq q.0 p.0 && bytes_eq q.1 p.1) (is_pair_in s p)
    (both_and (bytes_eq q.0 p.0) (bytes_eq q.1 p.1) ((bytes_decides q.0 p.0).1 (ap (λ (r : Name × Name). r.0) e)) ((bytes_decides q.1 p.1).1 (ap (λ (r : Name × Name). r.1) e)))
has_in (q ∷ s) p (inr h) = or_right (bytes_eq q.0 p.0 && bytes_eq q.1 p.1) (is_pair_in s p) (has_in s p h)

flag_le : (a b : Bool) → (a ≡ true → b ≡ true) → cond b 0 1 ≤ cond a 0 1
flag_le true true h = omega arith
flag_le true false h = absurd (off (h refl))
  where
    off : false ≡ true → ⊥
    off e = cc
flag_le false true h = omega arith
flag_le false false h = omega arith

flag_less : (a b : Bool) → (a ≡ true → ⊥) → b ≡ true → cond b 0 1 < cond a 0 1
flag_less true b absent h = absurd (absent refl)
flag_less false true absent h = omega arith
flag_less false false absent h = cc

missing_le : (ps s t : Edges) → ((p : Name × Name) → Has s p → Has t p) → missing ps t ≤ missing ps s
missing_le [] s t kept = omega arith
missing_le (p ∷ ps) s t kept =
    let here : cond (is_pair_in t p) 0 1 ≤ cond (is_pair_in s p) 0 1 = flag_le (is_pair_in s p) (is_pair_in t p) (λ e. has_in t p (kept p (in_has s p e))) in
    let rest : missing ps t ≤ missing ps s = missing_le ps s t kept in
    omega arith

pub missing_less : (ps s t : Edges) (q : Name × Name) → ((p : Name × Name) → Has s p → Has t p) → Has ps q → (Has s q → ⊥) → Has t q → missing ps t < missing ps s
missing_less [] s t q kept h absent there = absurd h
missing_less (p ∷ ps) s t q kept (inl e) absent there =
    let here : cond (is_pair_in t p) 0 1 < cond (is_pair_in s p) 0 1 =
    flag_less (is_pair_in s p) (is_pair_in t p) (λ h. absent (subst (λ r. Has s r) e (in_has s p h))) (has_in t p (subst (λ r. Has t r) (sym e) there)) in
    let rest : missing ps t ≤ missing ps s = missing_le ps s t kept in
    omega arith
missing_less (p ∷ ps) s t q kept (inr h) absent there =
    let here : cond (is_pair_in t p) 0 1 ≤ cond (is_pair_in s p) 0 1 = flag_le (is_pair_in s p) (is_pair_in t p) (λ e. has_in t p (kept p (in_has s p e))) in
    let rest : missing ps t < missing ps s = missing_less ps s t q kept h absent there in
    omega arith

-- an output and an input are among all pairs
pub candidate_has : (ports : List Declaration) (x y : Name) → net_kind_of ports x ≡ Output → net_kind_of ports y ≡ Input → Has (candidates ports) (x, y)
candidate_has ports x y out into =
    has_flat (λ (a : Name). map (λ (b : Name). (a, b)) (map declaration_name ports)) (map declaration_name ports) x (x, y) (known ports x Output no_output out)
    (has_map (λ (b : Name). (x, b)) (map declaration_name ports) y (known ports y Input no_input into))

-- one sum with less room
pub room_less : (ms : List ModuleTree) (sums : List Edges) (at : ℕ) (m : ModuleTree) (s : Edges) → at < length sums → slice_get ms at ≡ Some m
    → missing (candidates (map port_declared m.ports)) s < missing (candidates (map port_declared m.ports)) (get_or sums at []) → room ms (slice_set sums at s) < room ms sums
room_less [] sums at m s low e h = cc
room_less (k ∷ ms) [] at m s low e h = absurd (omega arith)
room_less (k ∷ ms) (t ∷ sums) zero m s low e h =
    let same : m ≡ k = cc in
    let less : missing (candidates (map port_declared k.ports)) s < missing (candidates (map port_declared k.ports)) t = subst (λ (r : ModuleTree). missing (candidates (map port_declared r.ports)) s < missing (candidates (map port_declared r.ports)) t) same h in
    omega arith
room_less (k ∷ ms) (t ∷ sums) (suc at) m s low e h =
    let rest : room ms (slice_set sums at s) < room ms sums = room_less ms sums at m s (omega arith) e h in
    omega arith

-- sums as they take in others
pub merged_start : (s : Edges) → IsMerged s [] s false
merged_start s = record { kept = λ x y h. h; right = λ x y h. inl h; there = λ x y h. absurd h; same = λ e. refl; one_more = λ e. absurd (off e) }
  where
    off : false ≡ true → ⊥
    off e = cc

module _ (old pairs new : Edges) (b : Bool) (p : Name × Name) (m : IsMerged old pairs new b) where
  there_too : (x y : Name) → Has new p → (p ≡ (x, y)) ⊎ Has pairs (x, y) → Has new (x, y)
  there_too x y h (inl e) = subst (λ r. Has new r) e h
  there_too x y h (inr k) = m.there x y k

  right_too : (x y : Name) → Has old (x, y) ⊎ Has pairs (x, y) → Has old (x, y) ⊎ Has (p ∷ pairs) (x, y)
  right_too x y (inl h) = inl h
  right_too x y (inr h) = inr (inr h)

  pub merged_has : Has new p → IsMerged old (p ∷ pairs) new b
  merged_has h = record {
    kept = m.kept;
    right = λ x y k. right_too x y (m.right x y k);
    there = λ x y k. there_too x y h k;
    same = m.same;
    one_more = λ e. let w = m.one_more e in (w.0, w.1, inr w.2, w.3, w.4);
  }

  right_new : (x y : Name) → Has new (x, y) ⊎ Has (p ∷ []) (x, y) → Has old (x, y) ⊎ Has (p ∷ pairs) (x, y)
  right_new x y (inl h) = right_too x y (m.right x y h)
  right_new x y (inr (inl e)) = inr (inl e)
  right_new x y (inr (inr h)) = absurd h

  there_new : (x y : Name) → (p ≡ (x, y)) ⊎ Has pairs (x, y) → Has (new ++ p ∷ []) (x, y)
  there_new x y (inl e) = has_right new (p ∷ []) (x, y) (inl e)
  there_new x y (inr k) = has_left new (p ∷ []) (x, y) (m.there x y k)

  pub merged_more : (Has new p → ⊥) → IsMerged old (p ∷ pairs) (new ++ p ∷ []) true
  merged_more absent = record {
    kept = λ x y h. has_left new (p ∷ []) (x, y) (m.kept x y h);
    right = λ x y k. right_new x y (has_split new (p ∷ []) (x, y) k);
    there = there_new;
    same = λ e. absurd (on e);
    one_more = λ e. (p.0, p.1, inl refl, λ h. absent (m.kept p.0 p.1 h), has_right new (p ∷ []) p (inl refl));
  }
    where
      on : true ≡ false → ⊥
      on e = cc

not_less : (n : ℕ) → nat_lt 0 n ≡ false → n ≤ 0
not_less n h = grind (arith, nat_tests)

is_less : (n : ℕ) → nat_lt 0 n ≡ true → 0 < n
is_less n h = grind (arith, nat_tests)

pub empty_of : (p : Edges) (n : ℕ) → n ≡ length p → nat_lt 0 n ≡ false → p ≡ []
empty_of [] n e h = refl
empty_of (q ∷ p) n e h = let none : n ≤ 0 = not_less n h in absurd (omega (arith, e, none))

pub some_of : (p : Edges) (n : ℕ) → n ≡ length p → nat_lt 0 n ≡ true → (q : Name × Name) × Has p q
some_of [] n e h = let some : 0 < n = is_less n h in absurd (omega (arith, e, some))
some_of (q ∷ p) n e h = (q, inl refl)

-- pairs that are taken over where there were none
pub merged_all : (old others : Edges) (b : Bool) → old ≡ [] → (b ≡ false → others ≡ []) → (b ≡ true → (p : Name × Name) × Has others p) → IsMerged old others others b
merged_all old others b none empty some = record {
  kept = λ x y h. absurd (subst (λ l. Has l (x, y)) none h);
  right = λ x y h. inr h;
  there = λ x y h. h;
  same = λ e. empty e ∙ sym none;
  one_more = λ e. let p = some e in (p.0.0, p.0.1, p.1, λ h. absurd (subst (λ l. Has l (p.0.0, p.0.1)) none h), p.1);
}

pub grown_merged : (edges : Edges) (ports : List Declaration) (asked : List Question) (old pairs new : Edges) (b : Bool) → IsMerged old pairs new b → IsSumOf edges ports pairs → IsGrown edges ports asked old new b
grown_merged edges ports asked old pairs new b m all = record {
  kept = m.kept;
  right = λ x y h. elim (m.right x y h) [ inl o ↦ inl o | inr p ↦ inr ((all x y).0 p) ];
  there = λ e h x y p. m.there x y ((all x y).1 p);
  same = m.same;
  one_more = λ e. let w = m.one_more e in (w.0, w.1, (all w.0 w.1).0 w.2, w.3, w.4);
}

pub grown_not : (edges : Edges) (ports : List Declaration) (asked : List Question) (s : Edges) → asked ≡ [] → IsGrown edges ports asked s s false
grown_not edges ports asked s none = record {
  kept = λ x y h. h;
  right = λ x y h. inl h;
  there = λ e h x y p. absurd (subst (λ l. Has l e) none h);
  same = λ e. refl;
  one_more = λ e. absurd (off e);
} where
  off : false ≡ true → ⊥
  off e = cc
