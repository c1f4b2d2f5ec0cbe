-- What the blocks of a module leave for the next cycle fits, where the old numbers do.
use Rattle.std.proofs.Common.{◌≡◌, ℕ, ◌^◌, ◌<◌, Bool, true, false, cond, ◌&&◌, List, [], ◌∷◌, None, inl, inr, refl, sym, ap, subst, ◌∙◌}
use Rattle.std.specs.Prelude.{◌==◌, bytes_eq, nat_lt, not}
use Rattle.std.specs.List.{list_all}
use Rattle.std.specs.Cmp.Lexicographic.{bytes_decides}
use Rattle.vlog_tree.specs.declared.tree.Step.{Step}
use Rattle.vlog_tree.specs.declared.tree.Step.TheVariants.{If, Else, End, NonblockingAssign, MemoryAssign}
use Rattle.vlog_tree.specs.declared.tree.Item.{Item}
use Rattle.vlog_tree.specs.declared.tree.Item.TheVariants.{Wire, Reg, Memory, Assign, Always, Instance}
use Rattle.vlog_tree.specs.declared.table.NetKind.TheVariants.{Register, MemoryArray}
use Rattle.vlog_tree.specs.Form.{ModuleTree}
use Rattle.tapa_base.specs.Lists.{Has}
use Rattle.vlog_tree.specs.Table.{Name, declared, bits_of, first_violation}
use Rattle.vlog_tree.specs.V2.{v2_uses}
use Rattle.vlog_tree.specs.Cycle.{Cycle, Sizes, atom_value, put, store, run_steps, run_items}
use Rattle.vlog_run_laws.proofs.runs.Sizes.{declared_bits, has_line}
use Rattle.vlog_run_laws.specs.widths.Widths.{NumbersFit}
use Rattle.vlog_run_laws.proofs.widths.Bits.{sized_below}
use Rattle.vlog_run_laws.proofs.widths.Ruled.{StepFits}

module _ (ms : List ModuleTree) (names : first_violation (v2_uses ms) ≡ None) (m : ModuleTree) (in_ms : Has ms m) where
  -- a memory's line declares its cells' width
  pub memory_bits : (w : ℕ) (y : Name) (k : ℕ) → Has m.items (Memory w y k) → bits_of (declared m) y ≡ w
  memory_bits w y k has = declared_bits m ms names in_ms _ (has_line m ms names in_ms (Memory w y k) has (record { name = y; net_kind = MemoryArray; bits = w; cells = k }) (inl refl))

  pub register_bits : (w : ℕ) (x : Name) → Has m.items (Reg w x) → bits_of (declared m) x ≡ w
  register_bits w x has = declared_bits m ms names in_ms _ (has_line m ms names in_ms (Reg w x) has (record { name = x; net_kind = Register; bits = w; cells = 0 }) (inl refl))

  either_fits : (b : Bool) (p q : Cycle) → NumbersFit m p → NumbersFit m q → NumbersFit m (cond b p q)
  either_fits true p q f g = f
  either_fits false p q f g = g

  number_put : (x y : Name) (v u : ℕ) (b : Bool) → bytes_eq y x ≡ b → v < 2 ^ bits_of (declared m) x → u < 2 ^ bits_of (declared m) y → cond b v u < 2 ^ bits_of (declared m) y
  number_put x y v u true e h k = subst (λ z. v < 2 ^ bits_of (declared m) z) (sym ((bytes_decides y x).0 e)) h
  number_put x y v u false e h k = k

  put_fits : (x : Name) (v : ℕ) (next : Cycle) → v < 2 ^ bits_of (declared m) x → NumbersFit m next → NumbersFit m (put x v next)
  put_fits x v next h f = record { nets = λ y r n. number_put x y v (next.net y) (bytes_eq y x) refl h (f.nets y r n); cells = f.cells }

  cell_put : (x y : Name) (w v u : ℕ) (b p q : Bool) → bytes_eq y x ≡ b → bits_of (declared m) y ≡ w → v < 2 ^ bits_of (declared m) x → u < 2 ^ w → cond (b && p && q) v u < 2 ^ w
  cell_put x y w v u true true true e s h k = subst (λ n. v < 2 ^ n) (ap (λ z. bits_of (declared m) z) (sym ((bytes_decides y x).0 e)) ∙ s) h
  cell_put x y w v u true true false e s h k = k
  cell_put x y w v u true false q e s h k = k
  cell_put x y w v u false p q e s h k = k

  store_fits : (s : Sizes) (x : Name) (at v : ℕ) (next : Cycle) → v < 2 ^ bits_of (declared m) x → NumbersFit m next → NumbersFit m (store s x at v next)
  store_fits s x at v next h f = record {
    nets = f.nets;
    cells = λ w y k has a low. cell_put x y w v (next.cell y a) (bytes_eq y x) (a == at) (nat_lt at (s.cells x)) refl (memory_bits w y k has) h (f.cells w y k has a low);
  }

  module _ (s : Sizes) (old : Cycle) (fits : NumbersFit m old) where
    steps_fit : (steps : List Step) → ((st : Step) → Has steps st → StepFits (declared m) st) → (on : List Bool) (next : Cycle) → NumbersFit m next → NumbersFit m (run_steps s old on steps next)
    steps_fit [] f on next g = g
    steps_fit (If c ∷ steps) f on next g = steps_fit steps (λ st h. f st (inr h)) ((old.net c == 1) ∷ on) next g
    steps_fit (Else ∷ steps) f [] next g = g
    steps_fit (Else ∷ steps) f (b ∷ on) next g = steps_fit steps (λ st h. f st (inr h)) (not b ∷ on) next g
    steps_fit (End ∷ steps) f [] next g = g
    steps_fit (End ∷ steps) f (b ∷ on) next g = steps_fit steps (λ st h. f st (inr h)) on next g
    steps_fit (NonblockingAssign x a ∷ steps) f on next g =
        let r = f (NonblockingAssign x a) (inl refl) in
        let v = sized_below (declared m) s.cells old (bits_of (declared m) x) a r.0 (λ z h. fits.nets z (r.1 z h).0 (r.1 z h).1) in
        steps_fit steps (λ st h. f st (inr h)) on _ (either_fits (list_all (λ b. b) on) (put x (atom_value old a) next) next (put_fits x (atom_value old a) next v g) g)
    steps_fit (MemoryAssign y x a ∷ steps) f on next g =
        let r = f (MemoryAssign y x a) (inl refl) in
        let v = sized_below (declared m) s.cells old (bits_of (declared m) y) a r.0 (λ z h. fits.nets z (r.1 z h).0 (r.1 z h).1) in
        steps_fit steps (λ st h. f st (inr h)) on _ (either_fits (list_all (λ b. b) on) (store s y (old.net x) (atom_value old a) next) next (store_fits s y (old.net x) (atom_value old a) next v g) g)

    pub items_fit : (items : List Item) → ((b : List Step) → Has items (Always b) → (st : Step) → Has b st → StepFits (declared m) st) → (next : Cycle) → NumbersFit m next → NumbersFit m (run_items s old items next)
    items_fit [] f next g = g
    items_fit (Always b ∷ items) f next g = items_fit items (λ b h. f b (inr h)) (run_steps s old [] b next) (steps_fit b (f b (inl refl)) [] next g)
    items_fit (Wire w x ∷ items) f next g = items_fit items (λ b h. f b (inr h)) next g
    items_fit (Reg w x ∷ items) f next g = items_fit items (λ b h. f b (inr h)) next g
    items_fit (Memory w x n ∷ items) f next g = items_fit items (λ b h. f b (inr h)) next g
    items_fit (Assign x e ∷ items) f next g = items_fit items (λ b h. f b (inr h)) next g
    items_fit (Instance kn i connections ∷ items) f next g = items_fit items (λ b h. f b (inr h)) next g
