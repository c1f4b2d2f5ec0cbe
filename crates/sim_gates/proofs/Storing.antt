-- What memories have in the next cycle, after one more store.
use Rattle.std.proofs.Common.{◌≡◌, ℕ, Bool, true, false, cond, ◌&&◌, List, [], ◌∷◌, ◌++◌, Option, Some, inl, inr, refl, sym, ap, subst, ◌∙◌}
use Rattle.std.specs.Prelude.{◌==◌, bytes_eq, nat_lt}
use Rattle.std.specs.List.{list_all}
use Rattle.std.specs.Cmp.Lexicographic.{bytes_decides}
use Rattle.std.proofs.lemmas.Bool.{eq-eqb, ne_eqb, false≢true}
use Rattle.std.proofs.lemmas.Option.{same_Some}
use Rattle.vlog_tree.specs.declared.tree.Atom.{Atom}
use Rattle.vlog_tree.specs.declared.tree.Step.TheVariants.{MemoryAssign}
use Rattle.vlog_tree.specs.declared.table.Declaration.{Declaration}
use Rattle.vlog_tree.specs.Table.{Name, one_if}
use Rattle.vlog_tree.specs.Cycle.{Cycle, Sizes, atom_value, store, step_next}
use Rattle.tapa_base.proofs.Lists.{has_split}
use Rattle.sim_tape.specs.declared.gates.Pair.{Pair}
use Rattle.sim_tape.specs.Tape.{number_at, pair_value}
use Rattle.sim_gates.specs.Nets.{pair_in}
use Rattle.sim_gates.specs.declared.writes.Store.{Store}
use Rattle.sim_gates.specs.Next.{hits, cell_after, CellsNext, AreApart, AreKnown}
use Rattle.sim_gates.proofs.Putting.{on_is}

pub cell_pushed : (ns : List ℕ) (count : ℕ) (q : Pair) (a : ℕ) (stores : List Store) (t : Store) (n : ℕ)
    → cell_after ns count q a (stores ++ t ∷ []) n ≡ cond (hits ns count q a t) (pair_value ns t.value) (cell_after ns count q a stores n)
cell_pushed ns count q a [] t n = refl
cell_pushed ns count q a (u ∷ stores) t n = cell_pushed ns count q a stores t (cond (hits ns count q a u) (pair_value ns u.value) n)

cell_stored : (b : Bool) (s : Sizes) (m k : Name) (at n a : ℕ) (now : Cycle) → (cond b (store s m at n now) now).cell k a ≡ cond (b && (bytes_eq k m && (a == at) && nat_lt at (s.cells m))) n (now.cell k a)
cell_stored true s m k at n a now = refl
cell_stored false s m k at n a now = refl

pub net_stored : (b : Bool) (s : Sizes) (m x : Name) (at n : ℕ) (now : Cycle) → (cond b (store s m at n now) now).net x ≡ now.net x
net_stored true s m x at n now = refl
net_stored false s m x at n now = refl

module _ (ds : List Declaration) (memories : List (Option Pair)) (apart : AreApart ds memories) (s : Sizes) (m k : Name) (p q : Pair) (at_m : pair_in ds memories m ≡ Some p) (at_k : pair_in ds memories k ≡ Some q) where
  one_memory : k ≡ m → p ≡ q
  one_memory e = same_Some p q (sym at_m ∙ ap (λ z. pair_in ds memories z) (sym e) ∙ at_k)

  hit_by : (t : Bool) → bytes_eq k m ≡ t → (a at : ℕ) → (t && (a == at) && nat_lt at (s.cells m)) ≡ ((p.low == q.low) && (a == at) && nat_lt at (s.cells k))
  hit_by true e a at =
      let same : k ≡ m = (bytes_decides k m).0 e in
      let low : (p.low == q.low) ≡ true = eq-eqb p.low q.low (ap (λ (z : Pair). z.low) (one_memory same)) in
      ap (λ z. (a == at) && nat_lt at (s.cells z)) (sym same) ∙ ap (λ t. t && (a == at) && nat_lt at (s.cells k)) (sym low)
  hit_by false e a at =
      let low : (p.low == q.low) ≡ false = ne_eqb p.low q.low (λ h. false≢true (sym e ∙ (bytes_decides k m).1 (sym (apart m k p q at_m at_k h)))) in
      ap (λ t. t && (a == at) && nat_lt at (s.cells k)) (sym low)

  hit_same : (a at : ℕ) → (bytes_eq k m && (a == at) && nat_lt at (s.cells m)) ≡ ((p.low == q.low) && (a == at) && nat_lt at (s.cells k))
  hit_same a at = hit_by (bytes_eq k m) refl a at

module _ (ds : List Declaration) (memories : List (Option Pair)) (apart : AreApart ds memories) (s : Sizes) (c first now : Cycle) (ns : List ℕ) (m x : Name) (v : Atom) (bs : List Bool) (stores : List Store) (t : Store)
    (at_m : pair_in ds memories m ≡ Some t.memory) (place : c.net x ≡ pair_value ns t.at) (is : atom_value c v ≡ pair_value ns t.value) (runs : number_at ns t.on ≡ one_if (list_all (λ b. b) bs))
    (shows : CellsNext ds memories stores s first now ns) where
  pub cells_stored : CellsNext ds memories (stores ++ t ∷ []) s first (step_next s c bs (MemoryAssign m x v) now) ns
  cells_stored k q e a =
      let all_run : Bool = list_all (λ b. b) bs in
      let at : ℕ = pair_value ns t.at in
      cell_stored all_run s m k (c.net x) (atom_value c v) a now
      ∙ ap (λ n. cond (all_run && (bytes_eq k m && (a == n) && nat_lt n (s.cells m))) (atom_value c v) (now.cell k a)) place
      ∙ ap (λ n. cond (all_run && (bytes_eq k m && (a == at) && nat_lt at (s.cells m))) n (now.cell k a)) is
      ∙ ap (λ n. cond (all_run && (bytes_eq k m && (a == at) && nat_lt at (s.cells m))) (pair_value ns t.value) n) (shows k q e a)
      ∙ ap (λ b. cond (b && (bytes_eq k m && (a == at) && nat_lt at (s.cells m))) (pair_value ns t.value) (cell_after ns (s.cells k) q a stores (first.cell k a))) (sym (on_is (number_at ns t.on) all_run runs))
      ∙ ap (λ b. cond ((number_at ns t.on == 1) && b) (pair_value ns t.value) (cell_after ns (s.cells k) q a stores (first.cell k a))) (hit_same ds memories apart s m k t.memory q at_m e a at)
      ∙ sym (cell_pushed ns (s.cells k) q a stores t (first.cell k a))

pub known_pushed : (ds : List Declaration) (memories : List (Option Pair)) (stores : List Store) (t : Store) (m : Name) → pair_in ds memories m ≡ Some t.memory → AreKnown ds memories stores → AreKnown ds memories (stores ++ t ∷ [])
known_pushed ds memories stores t m e h u has = elim (has_split stores (t ∷ []) u has) [
  | inl l ↦ h u l
  | inr r ↦ (elim r [
    | inl same ↦ (m, subst (λ (z : Store). pair_in ds memories m ≡ Some z.memory) same e)
    | inr none ↦ absurd none
  ])
]
