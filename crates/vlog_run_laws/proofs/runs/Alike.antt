-- From numbers that are alike a module's blocks leave numbers that are alike.
use Rattle.std.proofs.Common.{◌≡◌, ℕ, ◌<◌, None, Bool, true, false, cond, ◌&&◌, List, [], ◌∷◌, inl, inr, refl, ap, subst, ◌∙◌}
use Rattle.std.specs.Prelude.{◌==◌, bytes_eq, nat_lt, not}
use Rattle.std.specs.List.{list_all}
use Rattle.vlog_tree.specs.declared.tree.Atom.{Atom}
use Rattle.vlog_tree.specs.declared.tree.Step.{Step}
use Rattle.vlog_tree.specs.declared.tree.Step.TheVariants.{If, Else, End, NonblockingAssign, MemoryAssign}
use Rattle.vlog_tree.specs.declared.tree.Item.{Item}
use Rattle.vlog_tree.specs.declared.tree.Item.TheVariants.{Wire, Reg, Memory, Assign, Always, Instance}
use Rattle.vlog_tree.specs.declared.table.NetKind.{NetKind}
use Rattle.vlog_tree.specs.declared.table.NetKind.TheVariants.{Unknown, Input, Output, WireNet, Register, MemoryArray, ChildInstance}
use Rattle.vlog_tree.specs.Form.{ModuleTree}
use Rattle.tapa_base.specs.Lists.{Has}
use Rattle.vlog_tree.specs.Cycle.{Cycle, Sizes, atom_value, put, store, run_steps, run_items}
use Rattle.vlog_tree.specs.Table.{Name, NameUse, declared, net_kind_of, net_kind_is_read, net_kind_is_memory, is_clk, first_violation}
use Rattle.vlog_tree.specs.V2.{v2_uses, item_uses, step_uses, atom_uses, read_use, memory_use}
use Rattle.tapa_base.proofs.Lists.{has_flat}
use Rattle.vlog_run_laws.proofs.runs.Sound.{item_right, atom_read}
use Rattle.vlog_run_laws.proofs.runs.Values.{atom_same}
use Rattle.tapa_base.proofs.Tests.{not_no}
use Rattle.std.proofs.lemmas.Bool.{or_parts as both_false}

-- the same numbers at the nets that can be read, and at the cells that are there
pub record Alike (m : ModuleTree) (s : Sizes) (c d : Cycle) : Type 0 where
  pub nets : (x : Name) → net_kind_is_read (net_kind_of (declared m) x) ≡ true → is_clk x ≡ false → c.net x ≡ d.net x
  pub cells : (x : Name) → net_kind_of (declared m) x ≡ MemoryArray → (a : ℕ) → a < s.cells x → c.cell x a ≡ d.cell x a

pub memory_is : (s : NetKind) → net_kind_is_memory s ≡ true → s ≡ MemoryArray
memory_is Unknown h = cc
memory_is Input h = cc
memory_is Output h = cc
memory_is WireNet h = cc
memory_is Register h = cc
memory_is MemoryArray h = refl
memory_is ChildInstance h = cc

both_ways : (b : Bool) (n k p q : ℕ) → n ≡ k → p ≡ q → cond b n p ≡ cond b k q
both_ways true n k p q e f = e
both_ways false n k p q e f = f

module _ (m : ModuleTree) (s t : Sizes) (same_cells : (x : Name) → net_kind_of (declared m) x ≡ MemoryArray → s.cells x ≡ t.cells x) where
  put_alike : (c d : Cycle) (x : Name) (n k : ℕ) → n ≡ k → Alike m s c d → Alike m s (put x n c) (put x k d)
  put_alike c d x n k e a = record { nets = λ y r f. both_ways (bytes_eq y x) n k (c.net y) (d.net y) e (a.nets y r f); cells = a.cells }

  abbrev hits : Name → Name → ℕ → ℕ → ℕ → Bool
  hits y x e a n = bytes_eq y x && (e == a) && nat_lt a n

  store_alike : (c d : Cycle) (x : Name) (a b n k : ℕ) → net_kind_of (declared m) x ≡ MemoryArray → a ≡ b → n ≡ k → Alike m s c d → Alike m s (store s x a n c) (store t x b k d)
  store_alike c d x a b n k memory same e al = record {
    nets = al.nets;
    cells = λ y r i low.
        both_ways (hits y x i a (s.cells x)) n k (c.cell y i) (d.cell y i) e (al.cells y r i low)
        ∙ ap (λ z. cond (hits y x i z (s.cells x)) k (d.cell y i)) same
        ∙ ap (λ z. cond (hits y x i b z) k (d.cell y i)) (same_cells x memory);
  }

  either_alike : (b : Bool) (c d c' d' : Cycle) → Alike m s c d → Alike m s c' d' → Alike m s (cond b c c') (cond b d d')
  either_alike true c d c' d' h k = h
  either_alike false c d c' d' h k = k

  module _ (old old' : Cycle) (alike : (x : Name) → net_kind_is_read (net_kind_of (declared m) x) ≡ true → is_clk x ≡ false → old.net x ≡ old'.net x) where
    abbrev IsRight : List NameUse → Type 0
    IsRight us = (u : NameUse) → Has us u → u.1 ≡ false

    read_same : (x : Name) → (read_use (declared m) x).1 ≡ false → old.net x ≡ old'.net x
    read_same x h = let p = both_false (not (net_kind_is_read (net_kind_of (declared m) x))) (is_clk x) h in alike x (not_no _ p.0) p.1

    atom_alike : (a : Atom) → IsRight (atom_uses (declared m) a) → atom_value old a ≡ atom_value old' a
    atom_alike a f = atom_same old old' a (λ z h. read_same z (f (read_use (declared m) z) (atom_read (declared m) a z h)))

    abbrev StepsRight : List Step → Type 0
    StepsRight steps = (st : Step) → Has steps st → IsRight (step_uses (declared m) st)

    steps_alike : (steps : List Step) → StepsRight steps → (on : List Bool) (c d : Cycle) → Alike m s c d → Alike m s (run_steps s old on steps c) (run_steps t old' on steps d)
    steps_alike [] f on c d a = a
    steps_alike (If x ∷ steps) f on c d a =
        subst (λ n. Alike m s (run_steps s old ((old.net x == 1) ∷ on) steps c) (run_steps t old' ((n == 1) ∷ on) steps d)) (read_same x (f (If x) (inl refl) (read_use (declared m) x) (inl refl)))
        (steps_alike steps (λ st h. f st (inr h)) ((old.net x == 1) ∷ on) c d a)
    steps_alike (Else ∷ steps) f [] c d a = a
    steps_alike (Else ∷ steps) f (b ∷ on) c d a = steps_alike steps (λ st h. f st (inr h)) ((not b) ∷ on) c d a
    steps_alike (End ∷ steps) f [] c d a = a
    steps_alike (End ∷ steps) f (b ∷ on) c d a = steps_alike steps (λ st h. f st (inr h)) on c d a
    steps_alike (NonblockingAssign x v ∷ steps) f on c d a =
        steps_alike steps (λ st h. f st (inr h)) on (cond (list_all (λ b. b) on) (put x (atom_value old v) c) c) (cond (list_all (λ b. b) on) (put x (atom_value old' v) d) d)
        (either_alike (list_all (λ b. b) on) (put x (atom_value old v) c) (put x (atom_value old' v) d) c d
        (put_alike c d x (atom_value old v) (atom_value old' v) (atom_alike v (λ u h. f (NonblockingAssign x v) (inl refl) u (inr h))) a) a)
    steps_alike (MemoryAssign k x v ∷ steps) f on c d a =
        steps_alike steps (λ st h. f st (inr h)) on (cond (list_all (λ b. b) on) (store s k (old.net x) (atom_value old v) c) c) (cond (list_all (λ b. b) on) (store t k (old'.net x) (atom_value old' v) d) d)
        (either_alike (list_all (λ b. b) on) (store s k (old.net x) (atom_value old v) c) (store t k (old'.net x) (atom_value old' v) d) c d
        (store_alike c d k (old.net x) (old'.net x) (atom_value old v) (atom_value old' v)
        (memory_is _ (not_no _ (f (MemoryAssign k x v) (inl refl) (memory_use (declared m) k) (inl refl))))
        (read_same x (f (MemoryAssign k x v) (inl refl) (read_use (declared m) x) (inr (inl refl))))
        (atom_alike v (λ u h. f (MemoryAssign k x v) (inl refl) u (inr (inr h)))) a) a)

    module _ (ms : List ModuleTree) (names : first_violation (v2_uses ms) ≡ None) (in_ms : Has ms m) where
      block_right : (b : List Step) → Has m.items (Always b) → StepsRight b
      unfolding item_uses
      block_right b has st h u k = item_right ms names m in_ms (Always b) has u (inr (has_flat (step_uses (declared m)) b st u h k))

      lines_alike : (items : List Item) → ((it : Item) → Has items it → Has m.items it) → (c d : Cycle) → Alike m s c d → Alike m s (run_items s old items c) (run_items t old' items d)
      lines_alike [] f c d a = a
      lines_alike (Always b ∷ items) f c d a =
          lines_alike items (λ it h. f it (inr h)) (run_steps s old [] b c) (run_steps t old' [] b d) (steps_alike b (block_right b (f (Always b) (inl refl))) [] c d a)
      lines_alike (Wire w x ∷ items) f c d a = lines_alike items (λ it h. f it (inr h)) c d a
      lines_alike (Reg w x ∷ items) f c d a = lines_alike items (λ it h. f it (inr h)) c d a
      lines_alike (Memory w x n ∷ items) f c d a = lines_alike items (λ it h. f it (inr h)) c d a
      lines_alike (Assign x e ∷ items) f c d a = lines_alike items (λ it h. f it (inr h)) c d a
      lines_alike (Instance k i connections ∷ items) f c d a = lines_alike items (λ it h. f it (inr h)) c d a

      pub items_alike : Alike m s old old' → Alike m s (run_items s old m.items old) (run_items t old' m.items old')
      items_alike a = lines_alike m.items (λ it h. h) old old' a
