-- Nets that are placed one after another.
use Rattle.std.proofs.Common.{◌≡◌, ℕ, ◌<◌, ◌≤◌, false, List, Option, Some, None, length, get_or, inl, inr, refl, sym, ap, subst, ◌∙◌}
use Rattle.std.specs.Prelude.{is_some, slice_set, IfSome, IsSome, IsTrue}
use Rattle.std.proofs.lemmas.Bool.{cases_eq}
use Rattle.std.proofs.lemmas.Grind.{get_or-set_at}
use Rattle.std.proofs.lemmas.List.{get_or-set_other, length-set}
use Rattle.vlog_tree.specs.Form.{ModuleTree}
use Rattle.vlog_tree.specs.Flattened.{FlatNet}
use Rattle.vlog_tree.specs.Cycle.{module_at}
use Rattle.vlog_tree.specs.Table.{is_clk, declared, net_kind_of, net_kind_is_read}
use Rattle.sim_tape.specs.declared.gates.Pair.{Pair}
use Rattle.sim_tape.specs.Tape.{TapeTree, Extends, PairBefore}
use Rattle.sim_tape.proofs.Growing.{solved_on, pair_later}
use Rattle.sim_gates.specs.Nets.{SlotsBefore}
use Rattle.sim_gates.proofs.AtomSlots.{some_is}
use Rattle.sim_flat.specs.declared.flat.Flat.{Flat}
use Rattle.sim_flat.specs.Flat.{HasNumber}
use Rattle.sim_design.specs.States.{HasNumbersOf, AreRead, TellsNumbers}
use Rattle.sim_design.specs.Placed.{AreFree, AllFree, AreKept, ArePlacedMore}
use Rattle.tapa_base.proofs.Lists.{some_of}
use Rattle.tapa_base.proofs.Tests.{true_not_false}

none_of : {A : Type 0} (o : Option A) → is_some o ≡ false → o ≡ None
none_of None e = refl
none_of (Some x) e = cc

pub kept_same : (pairs : List (Option Pair)) → AreKept pairs pairs
kept_same pairs number p e = e

pub kept_twice : (a b c : List (Option Pair)) → AreKept a b → AreKept b c → AreKept a c
kept_twice a b c h k number p e = k number p (h number p e)

-- what has a pair keeps one
pub kept_some : (old new : List (Option Pair)) → AreKept old new → (number : ℕ) → IsSome (get_or old number None) → IsSome (get_or new number None)
kept_some old new kept number is = let q = some_of (get_or old number None) is in ap is_some (kept number q.0 q.1)

pub all_kept : (ms : List ModuleTree) (top : ModuleTree) (f : Flat) (old new : List (Option Pair)) → AreKept old new → AllFree ms top f old → AllFree ms top f new
all_kept ms top f old new kept all number n h free clock = kept_some old new kept number (all number n h free clock)

module _ (old : List (Option Pair)) (f : ℕ) (pair : Option Pair) (low : f < length old) (none : is_some (get_or old f None) ≡ false) where
  abbrev pub new : List (Option Pair)
  new = slice_set old f pair

  at_it : (i : ℕ) → i ≡ f → get_or new i None ≡ pair
  at_it i e = get_or-set_at old f i pair None e low

  away : (i : ℕ) → (i ≡ f → ⊥) → get_or new i None ≡ get_or old i None
  away i ne = get_or-set_other old f i pair None ne

  no_old : (i : ℕ) (p : Pair) → i ≡ f → get_or old i None ≡ Some p → ⊥
  no_old i p e h = let clash : None ≡ Some p = sym (none_of (get_or old f None) none) ∙ ap (λ k. get_or old k None) (sym e) ∙ h in cc

  pub kept : AreKept old new
  kept i p h = elim (cases_eq i f) [ inl e ↦ absurd (no_old i p e h) | inr ne ↦ away i ne ∙ h ]

  pub not_placed : IsSome (get_or old f None) → ⊥
  not_placed is = true_not_false (sym is ∙ none)

  pub put_some : IsSome pair → IsSome (get_or new f None)
  put_some is = ap is_some (at_it f refl) ∙ is

  pub slots_put : (m n : ℕ) → m ≤ n → SlotsBefore old m → IfSome pair (λ p. PairBefore n p) → SlotsBefore new n
  slots_put m n le slots here i p h = elim (cases_eq i f) [
    | inl e ↦ some_is (λ p. PairBefore n p) pair p (sym (at_it i e) ∙ h) here
    | inr ne ↦ pair_later m n p le (slots i p (sym (away i ne) ∙ h))
  ]

  module _ (ms : List ModuleTree) (top : ModuleTree) (flat : Flat) (memories : List (Option Pair)) (s t : TapeTree) (g : Extends s t) where
    abbrev Told : Type 0
    Told = (n : FlatNet) → HasNumber ms flat f n → length old ≡ length flat.owners.items → AreRead ms top flat old → IfSome pair (λ p. HasNumbersOf ms top flat memories old t n p)

    abbrev Read : Type 0
    Read = (n : FlatNet) (m : ModuleTree) → HasNumber ms flat f n → module_at ms top n.0 ≡ Some m → IfSome pair (λ p. IsTrue (net_kind_is_read (net_kind_of (declared m) n.1)) × (is_clk n.1 ≡ false))

    read_put : Read → AreRead ms top flat old → AreRead ms top flat new
    read_put read was i n m p h at got = elim (cases_eq i f) [
      | inl e ↦ some_is (λ p. IsTrue (net_kind_is_read (net_kind_of (declared m) n.1)) × (is_clk n.1 ≡ false)) pair p (sym (at_it i e) ∙ got) (read n m (subst (λ k. HasNumber ms flat k n) e h) at)
      | inr ne ↦ was i n m p h at (sym (away i ne) ∙ got)
    ]

    tells_put : Told → length old ≡ length flat.owners.items → AreRead ms top flat old → TellsNumbers ms top flat old memories s → TellsNumbers ms top flat new memories t
    tells_put told count was tells cells ns c solved v shows_cells free i n p h got =
        let shows = tells cells ns c (solved_on s t g cells ns solved) v shows_cells (λ j b q k fr e. free j b q k fr (kept j q e)) in
        elim (cases_eq i f) [
          | inl e ↦ some_is (λ p. HasNumbersOf ms top flat memories old t n p) pair p (sym (at_it i e) ∙ got) (told n (subst (λ k. HasNumber ms flat k n) e h) count was) cells ns c solved v shows_cells shows
          | inr ne ↦ shows i n p h (sym (away i ne) ∙ got)
        ]

    pub placed_more : Told → Read → ArePlacedMore ms top flat memories old s new t
    placed_more told read = record { count = length-set old f pair; read = λ count was. read_put read was; tells = tells_put told }

-- nothing more
pub same_placed : (ms : List ModuleTree) (top : ModuleTree) (flat : Flat) (memories pairs : List (Option Pair)) (s : TapeTree) → ArePlacedMore ms top flat memories pairs s pairs s
same_placed ms top flat memories pairs s = record { count = refl; read = λ count was. was; tells = λ count was h. h }

pub placed_twice : (ms : List ModuleTree) (top : ModuleTree) (flat : Flat) (memories a b c : List (Option Pair)) (s t u : TapeTree) → ArePlacedMore ms top flat memories a s b t → ArePlacedMore ms top flat memories b t c u → ArePlacedMore ms top flat memories a s c u
placed_twice ms top flat memories a b c s t u h k = record {
  count = k.count ∙ h.count;
  read = λ count was. k.read (h.count ∙ count) (h.read count was);
  tells = λ count was tells. k.tells (h.count ∙ count) (h.read count was) (h.tells count was tells);
}

-- pairs of free nets alone are told by any tape
pub free_told : (ms : List ModuleTree) (top : ModuleTree) (flat : Flat) (memories pairs : List (Option Pair)) (s : TapeTree) → AreFree ms top flat pairs → TellsNumbers ms top flat pairs memories s
free_told ms top flat memories pairs s are cells ns c solved v shows_cells free i n p h got = free i n p h (are i n p h got) got
