-- Atoms on a tape, from the slots of their nets.
use Rattle.std.proofs.Common.{◌≡◌, ℕ, ◌+◌, ◌-◌, ◌/◌, ◌%◌, ◌^◌, ◌<◌, ◌≤◌, Bool, true, ◌&&◌, List, Option, Some, None, length, get_or, refl, sym, ap, subst, ◌∙◌, map, arith, mod-lt, ltb-true, leb-true}
use Rattle.std.specs.Prelude.{IfSome, IsSome, nat_le, nat_lt}
use Rattle.std.proofs.Math.Pow.{pow_pos}
use Rattle.std.proofs.lemmas.Bool.{and_parts}
use Rattle.vlog_tree.specs.declared.table.Declaration.{Declaration}
use Rattle.vlog_tree.specs.declared.tree.Atom.{Atom}
use Rattle.vlog_tree.specs.declared.tree.Atom.TheVariants.{Net, Part, Literal}
use Rattle.vlog_tree.specs.Cycle.{Cycle, Sizes, and_then}
use Rattle.vlog_tree.specs.Table.{Name, declaration_name, bits_of}
use Rattle.vlog_tree.specs.V3.{is_width, net_fits, atom_bits, atom_fits}
use Rattle.vlog_scope.specs.NameTable.{places_from}
use Rattle.sim_tape.specs.declared.gates.Pair.{Pair}
use Rattle.sim_tape.specs.Tape.{TapeTree, Extends, PairBefore, pair_value}
use Rattle.sim_tape.proofs.Growing.{pair_later}
use Rattle.sim_gates.specs.Nets.{IsAtom, ShowsNets, SlotsBefore, pair_in}

-- a value that is there has what is said of it
pub some_is : {A : Type 0} (P : A → Type 0) (o : Option A) (x : A) → o ≡ Some x → IfSome o P → P x
some_is P None x e h = cc
some_is P (Some y) x e h = let same : y ≡ x = cc in subst P same h

-- what is said of each value that may be there
pub each_is : {A : Type 0} (P : A → Type 0) (o q : Option A) → o ≡ q → ((x : A) → q ≡ Some x → P x) → IfSome o P
each_is P None q e f = tt
each_is P (Some x) q e f = f x (sym e)

pub not_missing : {A : Type 0} (o : Option A) → None ≡ o → IsSome o → ⊥
not_missing None e h = cc
not_missing (Some x) e h = cc

-- slots that come before a place come before each later one
pub slots_later : (pairs : List (Option Pair)) (m n : ℕ) → m ≤ n → SlotsBefore pairs m → SlotsBefore pairs n
slots_later pairs m n h before i p e = pair_later m n p h (before i p e)

pub slots_on : (s t : TapeTree) (pairs : List (Option Pair)) → Extends s t → SlotsBefore pairs (length s.gates) → SlotsBefore pairs (length t.gates)
slots_on s t pairs g before = slots_later pairs (length s.gates) (length t.gates) g.grows.gates before

placed_before : (pairs : List (Option Pair)) (n : ℕ) → SlotsBefore pairs n → (p : Pair) (o : Option (ℕ × Bool)) → and_then o (λ (q : ℕ × Bool). get_or pairs q.0 None) ≡ Some p → PairBefore n p
placed_before pairs n before p None e = cc
placed_before pairs n before p (Some q) e = before q.0 p e

-- the slots of a net
pub found_before : (ds : List Declaration) (pairs : List (Option Pair)) (n : ℕ) → SlotsBefore pairs n → (x : Name) (p : Pair) → pair_in ds pairs x ≡ Some p → PairBefore n p
found_before ds pairs n before x p e = placed_before pairs n before p (places_from 0 (map declaration_name ds) x) e

pub width_range : (w : ℕ) → is_width w ≡ true → (1 ≤ w) × (w ≤ 128)
width_range w h = let p = and_parts (nat_le 1 w) (nat_le w 128) h in (leb-true 1 w p.0, leb-true w 128 p.1)

module _ (ds : List Declaration) where
  -- the bits of a part that the rule on widths takes
  pub part_fits : (x : Name) (high low : ℕ) → atom_fits ds (Part x high low) ≡ true → (low ≤ high) × (high < 128)
  part_fits x high low h =
      let p = and_parts (net_fits ds x && nat_le 2 (bits_of ds x) && nat_le low high) (nat_lt high (bits_of ds x)) h in
      let q = and_parts (net_fits ds x && nat_le 2 (bits_of ds x)) (nat_le low high) p.0 in
      let r = and_parts (net_fits ds x) (nat_le 2 (bits_of ds x)) q.0 in
      let most : bits_of ds x ≤ 128 = (width_range (bits_of ds x) r.0).1 in
      let top : high < bits_of ds x = ltb-true high (bits_of ds x) p.1 in
      let below : high < 128 = omega arith in
      (leb-true low high q.1, below)

  pub atom_range : (a : Atom) → atom_fits ds a ≡ true → (1 ≤ atom_bits ds a) × (atom_bits ds a ≤ 128)
  atom_range (Net x) h = width_range (bits_of ds x) h
  atom_range (Part x high low) h =
      let p = part_fits x high low h in
      let order : low ≤ high = p.0 in
      let top : high < 128 = p.1 in
      let least : 1 ≤ high + 1 - low = omega arith in
      let most : high + 1 - low ≤ 128 = omega arith in
      (least, most)
  atom_range (Literal w n) h = width_range w (and_parts (is_width w) (nat_lt n (2 ^ w)) h).0

  module _ (s : Sizes) (c : Cycle) (ns : List ℕ) where
    pub net_atom : (pairs : List (Option Pair)) (x : Name) (p : Pair) → ShowsNets ds pairs s c ns → pair_in ds pairs x ≡ Some p → IsAtom ds (Net x) s c ns p
    net_atom pairs x p h e = record {
      value = h.value x p e;
      below = λ f. subst (λ v. v < 2 ^ bits_of ds x) (h.value x p e) (h.fits x p e);
      width = h.width x p e;
    }

    pub part_atom : (pairs : List (Option Pair)) (x : Name) (p : Pair) (high low : ℕ) (q : Pair) → ShowsNets ds pairs s c ns → pair_in ds pairs x ≡ Some p
        → pair_value ns q ≡ pair_value ns p / 2 ^ low % 2 ^ (high + 1 - low) → IsAtom ds (Part x high low) s c ns q
    part_atom pairs x p high low q h e is = record {
      value = ap (λ v. v / 2 ^ low % 2 ^ (high + 1 - low)) (h.value x p e) ∙ sym is;
      below = λ f. subst (λ v. v < 2 ^ (high + 1 - low)) (sym is) (mod-lt (pair_value ns p / 2 ^ low) (pow_pos (high + 1 - low)));
      width = refl;
    }

    pub literal_atom : (w n : ℕ) (q : Pair) → pair_value ns q ≡ n → IsAtom ds (Literal w n) s c ns q
    literal_atom w n q is = record {
      value = sym is;
      below = λ f. subst (λ v. v < 2 ^ w) (sym is) (ltb-true n (2 ^ w) (and_parts (is_width w) (nat_lt n (2 ^ w)) f).1);
      width = refl;
    }
