-- Concatenations as they grow.
use Rattle.std.proofs.Common.{◌≡◌, ℕ, ◌+◌, ◌*◌, ◌^◌, ◌<◌, ◌≤◌, true, ◌&&◌, List, [], ◌∷◌, Option, length, get_or, drop, sym, ap, subst, ◌∙◌, arith, map, sum, eqb-true}
use Rattle.std.specs.Prelude.{◌==◌}
use Rattle.std.specs.List.{list_all, flat_map}
use Rattle.std.proofs.Math.Pow.{pow_pos}
use Rattle.std.proofs.lemmas.Bool.{and_parts}
use Rattle.std.proofs.lemmas.List.Sums.{sum_by-cons}
use Rattle.vlog_tree.specs.declared.table.Declaration.{Declaration}
use Rattle.vlog_tree.specs.declared.tree.Atom.{Atom}
use Rattle.vlog_tree.specs.declared.tree.Value.TheVariants.{Concat}
use Rattle.vlog_tree.specs.Cycle.{Cycle, Sizes, atom_value, atom_width, joined}
use Rattle.tapa_base.specs.Lists.{Has}
use Rattle.vlog_tree.specs.Loops.{atom_nets}
use Rattle.vlog_tree.specs.Table.{Name}
use Rattle.vlog_tree.specs.V3.{atom_bits, atom_fits}
use Rattle.tapa_base.proofs.Lists.{has_left, has_right}
use Rattle.vlog_tree.proofs.Walks.{opened, over}
use Rattle.sim_tape.specs.declared.gates.Pair.{Pair}
use Rattle.sim_tape.specs.Tape.{TapeTree, IsTape, Extends, PairBefore, pair_value}
use Rattle.sim_tape.proofs.Growing.{extends_refl, extends_twice, solved_on}
use Rattle.sim_gates.specs.Nets.{HavePairs, IsAtom, Told}
use Rattle.sim_gates.proofs.Pairs.{nothing}
use Rattle.sim_gates.specs.declared.joining.Front.{Front}
use Rattle.sim_gates.specs.Drivers.{IsDriven}
use Rattle.tapa_base.proofs.Tests.{join_fits}

-- a number with an atom's below it
pub put_told : (ds : List Declaration) (s : Sizes) (c : Cycle) (ns : List ℕ) (a : Atom) (k n : ℕ) (above below r : Pair) → atom_fits ds a ≡ true → IsAtom ds a s c ns below → n ≡ atom_bits ds a
    → (pair_value ns above < 2 ^ k → pair_value ns below < 2 ^ n → pair_value ns r ≡ pair_value ns above * 2 ^ n + pair_value ns below)
    → pair_value ns above < 2 ^ k → (pair_value ns r ≡ pair_value ns above * 2 ^ atom_width s a + atom_value c a) × (pair_value ns r < 2 ^ (k + n))
put_told ds s c ns a k n above below r fit h e says high =
    let low : pair_value ns below < 2 ^ n = subst (λ j. pair_value ns below < 2 ^ j) (sym e) (h.below fit) in
    let is = says high low in (
      is ∙ ap (λ j. pair_value ns above * 2 ^ j + pair_value ns below) (e ∙ sym h.width) ∙ ap (λ v. pair_value ns above * 2 ^ atom_width s a + v) (sym h.value),
      subst (λ v. v < 2 ^ (k + n)) (sym is) (join_fits (pair_value ns above) (pair_value ns below) k n high low),
    )

-- What is put together of a list of atoms, some of which are left.
pub record Fronts (ds : List Declaration) (pairs : List (Option Pair)) (old t : TapeTree) (f : Front) (rest atoms : List Atom) : Type 0 where
  pub extends : Extends old t
  pub slots : PairBefore (length t.gates) f.pair
  pub most : f.bits ≤ 128
  pub bits : f.bits + sum (map (atom_bits ds) rest) ≡ sum (map (atom_bits ds) atoms)
  pub fit : list_all (atom_fits ds) atoms ≡ true → list_all (atom_fits ds) rest ≡ true
  pub nets : (x : Name) → Has (flat_map atom_nets rest) x → Has (flat_map atom_nets atoms) x
  pub told : list_all (atom_fits ds) atoms ≡ true → Told ds pairs t (λ s c ns. (joined s c (pair_value ns f.pair) rest ≡ joined s c 0 atoms) × (pair_value ns f.pair < 2 ^ f.bits))

module _ (ds : List Declaration) (pairs : List (Option Pair)) where
  pub front_start : (t : TapeTree) → IsTape t → (atoms : List Atom) → Fronts ds pairs t t (record { pair = record { low = 0; high = 0 }; bits = 0 }) atoms atoms
  front_start t tape atoms = record {
    extends = extends_refl t tape;
    slots = (tape.some, tape.some);
    most = omega arith;
    bits = omega arith;
    fit = λ fit. fit;
    nets = λ x h. h;
    told = λ fit cells ns s c solved shows. let none = nothing t tape cells ns solved in (ap (λ n. joined s c n atoms) none, subst (λ n. n < 2 ^ 0) (sym none) (pow_pos 0));
  }

  module _ (old t : TapeTree) (f : Front) (atoms : List Atom) where
    -- what is left begins with an atom
    pub front_opened : (i : ℕ) (a : Atom) → i < length atoms → a ≡ get_or atoms i a → Fronts ds pairs old t f (drop i atoms) atoms → Fronts ds pairs old t f (a ∷ drop (i + 1) atoms) atoms
    front_opened i a low is h = subst (λ l. Fronts ds pairs old t f l atoms) (opened atoms i a low is) h

    module _ (a : Atom) (rest : List Atom) (h : Fronts ds pairs old t f (a ∷ rest) atoms) where
      sum_more : f.bits + atom_bits ds a + sum (map (atom_bits ds) rest) ≡ sum (map (atom_bits ds) atoms)
      sum_more =
          let more : sum (map (atom_bits ds) (a ∷ rest)) ≡ atom_bits ds a + sum (map (atom_bits ds) rest) = sum_by-cons (λ n. n) (atom_bits ds a) (map (atom_bits ds) rest) in
          let all : f.bits + sum (map (atom_bits ds) (a ∷ rest)) ≡ sum (map (atom_bits ds) atoms) = h.bits in
          omega arith

      atom_fit : list_all (atom_fits ds) atoms ≡ true → (atom_fits ds a ≡ true) × (list_all (atom_fits ds) rest ≡ true)
      atom_fit fit = and_parts (atom_fits ds a) (list_all (atom_fits ds) rest) (h.fit fit)

      pub front_next : (new : TapeTree) (g : Front) → Extends t new → PairBefore (length new.gates) g.pair → g.bits ≡ f.bits + atom_bits ds a → g.bits ≤ 128
          → (atom_fits ds a ≡ true → Told ds pairs new (λ s c ns. pair_value ns f.pair < 2 ^ f.bits → (pair_value ns g.pair ≡ pair_value ns f.pair * 2 ^ atom_width s a + atom_value c a) × (pair_value ns g.pair < 2 ^ g.bits)))
          → Fronts ds pairs old new g rest atoms
      front_next new g grown slots bits most told = record {
        extends = extends_twice old t new h.extends grown;
        slots = slots;
        most = most;
        bits = ap (λ n. n + sum (map (atom_bits ds) rest)) bits ∙ sum_more;
        fit = λ fit. (atom_fit fit).1;
        nets = λ x k. h.nets x (has_right (atom_nets a) (flat_map atom_nets rest) x k);
        told = λ fit cells ns s c solved shows.
            let before = h.told fit cells ns s c (solved_on t new grown cells ns solved) shows in
            let next = told (atom_fit fit).0 cells ns s c solved shows before.1 in
            (ap (λ n. joined s c n rest) next.0 ∙ before.0, next.1);
      }

      -- the atom is taken, and there is room for it
      pub front_fits : (w : ℕ) → w ≤ 128 → (list_all (atom_fits ds) atoms && (sum (map (atom_bits ds) atoms) == w)) ≡ true → (atom_fits ds a ≡ true) × (f.bits + atom_bits ds a ≤ 128)
      front_fits w le fit =
          let p = and_parts (list_all (atom_fits ds) atoms) (sum (map (atom_bits ds) atoms) == w) fit in
          let all : sum (map (atom_bits ds) atoms) ≡ w = eqb-true (sum (map (atom_bits ds) atoms)) w p.1 in
          let more : f.bits + atom_bits ds a + sum (map (atom_bits ds) rest) ≡ sum (map (atom_bits ds) atoms) = sum_more in
          let room : f.bits + atom_bits ds a ≤ 128 = omega arith in
          ((atom_fit p.0).0, room)

      pub front_nets : HavePairs ds pairs (flat_map atom_nets atoms) → HavePairs ds pairs (atom_nets a)
      front_nets have x k = have x (h.nets x (has_left (atom_nets a) (flat_map atom_nets rest) x k))

    -- nothing is left
    pub front_done : (memories : List (Option Pair)) (i w : ℕ) → length atoms ≤ i → (list_all (atom_fits ds) atoms && (sum (map (atom_bits ds) atoms) == w)) ≡ true → Fronts ds pairs old t f (drop i atoms) atoms
        → IsDriven ds pairs memories w (Concat atoms) t f.pair
    front_done memories i w all fit h = λ cells ns s c solved shows cells_shown.
        let l : Fronts ds pairs old t f [] atoms = subst (λ l. Fronts ds pairs old t f l atoms) (over atoms i all) h in
        sym (l.told (and_parts (list_all (atom_fits ds) atoms) (sum (map (atom_bits ds) atoms) == w) fit).0 cells ns s c solved shows).0
