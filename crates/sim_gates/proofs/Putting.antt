-- What registers have in the next cycle, after one more of them takes over a number.
use Rattle.std.proofs.Common.{◌≡◌, ℕ, suc, ◌<◌, ◌≤◌, Bool, true, false, cond, ◌&&◌, List, [], ◌∷◌, Option, Some, None, length, get_or, inl, inr, refl, sym, ap, subst, ◌∙◌, map, arith}
use Rattle.std.specs.Prelude.{◌==◌, bytes_eq, is_some, slice_set, unwrap_or}
use Rattle.std.specs.List.{list_all}
use Rattle.std.specs.Cmp.Lexicographic.{bytes_decides}
use Rattle.std.proofs.Math.Bool.{and_comm}
use Rattle.std.proofs.lemmas.Bool.{eq-eqb, ne_eqb, false≢true, cases_eq, cases_lt}
use Rattle.std.proofs.lemmas.Grind.{get_or-set_at}
use Rattle.std.proofs.lemmas.List.{get_or-set_other, get_or_past}
use Rattle.std.proofs.lemmas.Option.{same_Some}
use Rattle.vlog_tree.specs.declared.tree.Atom.{Atom}
use Rattle.vlog_tree.specs.declared.tree.Step.TheVariants.{NonblockingAssign}
use Rattle.vlog_tree.specs.declared.table.Declaration.{Declaration}
use Rattle.vlog_tree.specs.Table.{Name, declaration_name, find_name, one_if}
use Rattle.vlog_tree.specs.Cycle.{Cycle, Sizes, and_then, atom_value, put, step_next}
use Rattle.vlog_scope.specs.NameTable.{places_from}
use Rattle.vlog_scope.proofs.Found.{found}
use Rattle.sim_tape.specs.declared.gates.Pair.{Pair}
use Rattle.sim_tape.specs.Tape.{number_at, pair_value, PairBefore}
use Rattle.sim_tape.proofs.Growing.{pair_later}
use Rattle.sim_gates.specs.Nets.{SlotsBefore}
use Rattle.sim_gates.specs.Next.{NetsNext, IsPut, SamePlaces}

abbrev names : List Declaration → List Name
names ds = map declaration_name ds

named_here : (start : ℕ) (d : Declaration) (ds : List Declaration) (x : Name) (place : ℕ) (again : Bool) (b : Bool) → bytes_eq d.name x ≡ b
    → (places_from (suc start) (names ds) x ≡ Some (place, again) → (find_name ds x).name ≡ x)
    → cond b (Some (start, is_some (places_from (suc start) (names ds) d.name))) (places_from (suc start) (names ds) x) ≡ Some (place, again) → (cond b d (find_name ds x)).name ≡ x
named_here start d ds x place again true e ih h = (bytes_decides d.name x).0 e
named_here start d ds x place again false e ih h = ih h

-- what stands at a name's place has the name
pub named : (start : ℕ) (ds : List Declaration) (x : Name) (place : ℕ) (again : Bool) → places_from start (names ds) x ≡ Some (place, again) → (find_name ds x).name ≡ x
named start [] x place again e = cc
named start (d ∷ ds) x place again e = named_here start d ds x place again _ refl (named (suc start) ds x place again) e

-- names with one place are one
pub one_name : (ds : List Declaration) (x y : Name) (place : ℕ) (a b : Bool) → places_from 0 (names ds) x ≡ Some (place, a) → places_from 0 (names ds) y ≡ Some (place, b) → x ≡ y
one_name ds x y place a b e f =
    sym (named 0 ds x place a e) ∙ ap (λ (d : Declaration). d.name) ((found 0 ds x place a e).here ∙ sym (found 0 ds y place b f).here) ∙ named 0 ds y place b f

one_place : (ds : List Declaration) (x y : Name) (j k : ℕ) (a b : Bool) → places_from 0 (names ds) x ≡ Some (j, a) → places_from 0 (names ds) y ≡ Some (k, b) → y ≡ x → k ≡ j
one_place ds x y j k a b e f same = ap (λ (o : Option (ℕ × Bool)). (unwrap_or o (0, false)).0) (sym f ∙ ap (λ z. places_from 0 (names ds) z) same ∙ e)

place_by : (ds : List Declaration) (x y : Name) (j k : ℕ) (a b : Bool) → places_from 0 (names ds) x ≡ Some (j, a) → places_from 0 (names ds) y ≡ Some (k, b) → (t : Bool) → bytes_eq y x ≡ t → t ≡ (k == j)
place_by ds x y j k a b e f true q = sym (eq-eqb k j (one_place ds x y j k a b e f ((bytes_decides y x).0 q)))
place_by ds x y j k a b e f false q =
    sym (ne_eqb k j (λ h. false≢true (sym q ∙ (bytes_decides y x).1 (one_name ds y x j b a (subst (λ n. places_from 0 (names ds) y ≡ Some (n, b)) h f) e))))

-- names are the same just where their places are
pub place_test : (ds : List Declaration) (x y : Name) (j k : ℕ) (a b : Bool) → places_from 0 (names ds) x ≡ Some (j, a) → places_from 0 (names ds) y ≡ Some (k, b) → bytes_eq y x ≡ (k == j)
place_test ds x y j k a b e f = place_by ds x y j k a b e f (bytes_eq y x) refl

-- a slot that says whether something holds
pub on_is : (n : ℕ) (b : Bool) → n ≡ one_if b → (n == 1) ≡ b
on_is n true e = eq-eqb n 1 e
on_is n false e = let z : n ≡ 0 = e in ne_eqb n 1 (λ h. let one : n ≡ 1 = h in absurd (omega arith))

net_put : (b : Bool) (x y : Name) (v : ℕ) (now : Cycle) → (cond b (put x v now) now).net y ≡ cond (b && bytes_eq y x) v (now.net y)
net_put true x y v now = refl
net_put false x y v now = refl

pub cell_put : (b : Bool) (x m : Name) (v a : ℕ) (now : Cycle) → (cond b (put x v now) now).cell m a ≡ now.cell m a
cell_put true x m v a now = refl
cell_put false x m v a now = refl

module _ (ds : List Declaration) (s : Sizes) (c now : Cycle) (ns : List ℕ) (x : Name) (a : Atom) (bs : List Bool) (on place : ℕ) (again : Bool) (value : Pair) (old new : List (Option Pair))
    (at : places_from 0 (names ds) x ≡ Some (place, again)) (is : atom_value c a ≡ pair_value ns value) (runs : number_at ns on ≡ one_if (list_all (λ b. b) bs))
    (puts : IsPut ns on value place old new) (shows : NetsNext ds old now ns) where
  abbrev all_run : Bool
  all_run = list_all (λ b. b) bs

  same_test : (y : Name) (k : ℕ) (b : Bool) → places_from 0 (names ds) y ≡ Some (k, b) → (all_run && bytes_eq y x) ≡ ((k == place) && (number_at ns on == 1))
  same_test y k b e =
      and_comm all_run (bytes_eq y x) ∙ ap (λ t. t && all_run) (place_test ds x y place k again b at e) ∙ ap (λ t. (k == place) && t) (sym (on_is (number_at ns on) all_run runs))

  at_place : (y : Name) (p : Pair) (o : Option (ℕ × Bool)) → places_from 0 (names ds) y ≡ o → and_then o (λ (k : ℕ × Bool). get_or new k.0 None) ≡ Some p
      → (step_next s c bs (NonblockingAssign x a) now).net y ≡ pair_value ns p
  at_place y p None e h = cc
  at_place y p (Some k) e h =
      let w = puts k.0 p h in
      let was : now.net y ≡ pair_value ns w.0 = shows y w.0 (ap (λ (o : Option (ℕ × Bool)). and_then o (λ (k : ℕ × Bool). get_or old k.0 None)) e ∙ w.1) in
      net_put all_run x y (atom_value c a) now
      ∙ ap (λ v. cond (all_run && bytes_eq y x) v (now.net y)) is
      ∙ ap (λ v. cond (all_run && bytes_eq y x) (pair_value ns value) v) was
      ∙ ap (λ t. cond t (pair_value ns value) (pair_value ns w.0)) (same_test y k.0 k.1 e)
      ∙ sym w.2

  pub nets_put : NetsNext ds new (step_next s c bs (NonblockingAssign x a) now) ns
  nets_put y p h = at_place y p (places_from 0 (names ds) y) refl h

-- the pair of one place is another
module _ (before : List (Option Pair)) (place : ℕ) (old chosen : Pair) (got : get_or before place None ≡ Some old) where
  missing : length before ≤ place → ⊥
  missing h = let none : None ≡ Some old = sym (get_or_past before place None h) ∙ got in cc

  low : place < length before
  low = elim (cases_lt place (length before)) [ inl lt ↦ lt | inr ge ↦ absurd (missing ge) ]

  abbrev after : List (Option Pair)
  after = slice_set before place (Some chosen)

  at_it : (i : ℕ) → i ≡ place → get_or after i None ≡ Some chosen
  at_it i e = get_or-set_at before place i (Some chosen) None e low

  away : (i : ℕ) → (i ≡ place → ⊥) → get_or after i None ≡ get_or before i None
  away i ne = get_or-set_other before place i (Some chosen) None ne

  pub same_places : SamePlaces before after
  same_places i = elim (cases_eq i place) [
    | inl e ↦ ap is_some (at_it i e) ∙ sym (ap is_some (ap (λ k. get_or before k None) e ∙ got))
    | inr ne ↦ ap is_some (away i ne)
  ]

  pub slots_put : (m n : ℕ) → m ≤ n → SlotsBefore before m → PairBefore n chosen → SlotsBefore after n
  slots_put m n le slots here i p h = elim (cases_eq i place) [
    | inl e ↦ subst (λ q. PairBefore n q) (same_Some chosen p (sym (at_it i e) ∙ h)) here
    | inr ne ↦ pair_later m n p le (slots i p (sym (away i ne) ∙ h))
  ]

  module _ (ns : List ℕ) (on : ℕ) (value : Pair) (says : pair_value ns chosen ≡ cond (number_at ns on == 1) (pair_value ns value) (pair_value ns old)) where
    pub is_put : IsPut ns on value place before after
    is_put i p h = elim (cases_eq i place) [
      | inl e ↦ (
        old,
        ap (λ k. get_or before k None) e ∙ got,
        ap (λ q. pair_value ns q) (same_Some p chosen (sym h ∙ at_it i e)) ∙ says
            ∙ ap (λ t. cond (t && (number_at ns on == 1)) (pair_value ns value) (pair_value ns old)) (sym (eq-eqb i place e)),
      )
      | inr ne ↦ (
        p,
        sym (away i ne) ∙ h,
        ap (λ t. cond (t && (number_at ns on == 1)) (pair_value ns value) (pair_value ns p)) (sym (ne_eqb i place ne)),
      )
    ]

pub places_same : (pairs : List (Option Pair)) → SamePlaces pairs pairs
places_same pairs i = refl

pub places_twice : (a b c : List (Option Pair)) → SamePlaces a b → SamePlaces b c → SamePlaces a c
places_twice a b c h k i = k i ∙ h i
