-- What the lines and the blocks of a module do in a run.
use Rattle.std.proofs.Common.{◌≡◌, ℕ, suc, ◌<◌, Bool, true, false, cond, eqb, ltb, ◌&&◌, List, [], ◌∷◌, Some, inl, inr, refl, ap, ◌∙◌, zero}
use Rattle.std.specs.Prelude.{bytes_eq, slice_get}
use Rattle.std.specs.Cmp.Lexicographic.{bytes_decides}
use Rattle.vlog_tree.specs.declared.tree.Atom.{Atom}
use Rattle.vlog_tree.specs.declared.tree.Value.{Value}
use Rattle.vlog_tree.specs.declared.tree.Step.TheVariants.{If, Else, End, NonblockingAssign, MemoryAssign}
use Rattle.vlog_tree.specs.declared.tree.Item.TheVariants.{Wire, Reg, Memory, Assign}
use Rattle.vlog_tree.specs.Form.{ModuleTree}
use Rattle.tapa_base.specs.Lists.{Has}
use Rattle.vlog_tree.specs.Labels.{rst}
use Rattle.vlog_tree.specs.Table.{Name}
use Rattle.vlog_tree.specs.Cycle.{Cycle, Sizes, Follows, put, run_steps, atom_value, driven}
use Rattle.vlog_module_laws.specs.Blocks.{IsOwnBlock}
use Rattle.vlog_module_laws.proofs.Lines.{line, register_takes, cell_takes}
use Rattle.hw_build.specs.Elements.{copied, reset_or, reset_or_set, stored}
use Rattle.vlog_module_laws.proofs.Forms.{itself as same_name}
use Rattle.tapa_base.proofs.Lists.{has_got}

module _ (s : Sizes) (old : Cycle) (x : Name) where
  put_here : (n : ℕ) (c : Cycle) → (put x n c).net x ≡ n
  put_here n c = ap (λ b. cond b n (c.net x)) (same_name x)

  reset_net : (first next : Atom) (b : Bool) → (run_steps s old (b ∷ []) (NonblockingAssign x first ∷ Else ∷ NonblockingAssign x next ∷ End ∷ []) old).net x ≡ cond b (atom_value old first) (atom_value old next)
  reset_net first next true = put_here (atom_value old first) old
  reset_net first next false = put_here (atom_value old next) old

  set_net : (next : Atom) (t b : Bool) (c : Cycle) → (run_steps s old (t ∷ b ∷ []) (NonblockingAssign x next ∷ End ∷ End ∷ []) c).net x ≡ cond b (cond t (atom_value old next) (c.net x)) (c.net x)
  set_net next true true c = put_here (atom_value old next) c
  set_net next true false c = refl
  set_net next false true c = refl
  set_net next false false c = refl

  reset_set_net : (first : Atom) (set : Name) (next : Atom) (b : Bool) → (run_steps s old (b ∷ []) (NonblockingAssign x first ∷ Else ∷ If set ∷ NonblockingAssign x next ∷ End ∷ End ∷ []) old).net x
      ≡ cond b (atom_value old first) (cond (eqb (old.net set) 1) (atom_value old next) (old.net x))
  reset_set_net first set next true = set_net next (eqb (old.net set) 1) false (put x (atom_value old first) old) ∙ put_here (atom_value old first) old
  reset_set_net first set next false = set_net next (eqb (old.net set) 1) true old

  store_cell : (index : Name) (value : Atom) (a : ℕ) (b : Bool) → (run_steps s old (b ∷ []) (MemoryAssign x index value ∷ End ∷ []) old).cell x a
      ≡ cond (b && eqb a (old.net index) && ltb (old.net index) (s.cells x)) (atom_value old value) (old.cell x a)
  store_cell index value a true = ap (λ b. cond (b && eqb a (old.net index) && ltb (old.net index) (s.cells x)) (atom_value old value) (old.cell x a)) (same_name x)
  store_cell index value a false = refl

module _ (m : ModuleTree) (run : ℕ → Cycle) (f : Follows m run) where
  -- by its place in the text, a driven net has its driver's number
  pub driven_is : (i : ℕ) (x : Name) (v : Value) → slice_get m.items i ≡ Some (Assign x v) → (n : ℕ) → (run n).net x ≡ driven f.sizes (f.sizes.width x) (run n) v
  driven_is i x v e n = (line m run f (Assign x v) (has_got m.items i (Assign x v) e)).holds n

  pub wire_width : (i w : ℕ) (x : Name) → slice_get m.items i ≡ Some (Wire w x) → f.sizes.width x ≡ w
  wire_width i w x e = (line m run f (Wire w x) (has_got m.items i (Wire w x) e)).holds 0

  pub memory_cells : (i w : ℕ) (x : Name) (k : ℕ) → slice_get m.items i ≡ Some (Memory w x k) → f.sizes.cells x ≡ k
  memory_cells i w x k e = ((line m run f (Memory w x k) (has_got m.items i (Memory w x k) e)).holds 0).1

  -- what a register with a block of its own has in the next cycle
  pub copied_is : (w : ℕ) (x : Name) (next : Atom) → Has m.items (Reg w x) → IsOwnBlock m.items x (copied x next) → (n : ℕ) → (run (suc n)).net x ≡ atom_value (run n) next
  copied_is w x next has own n = register_takes m run f w x (copied x next) has own n ∙ put_here f.sizes (run n) x (atom_value (run n) next) (run n)

  pub reset_is : (w : ℕ) (x : Name) (first next : Atom) → Has m.items (Reg w x) → IsOwnBlock m.items x (reset_or x first next) → (n : ℕ)
      → (run (suc n)).net x ≡ cond (eqb ((run n).net rst) 1) (atom_value (run n) first) (atom_value (run n) next)
  reset_is w x first next has own n = register_takes m run f w x (reset_or x first next) has own n ∙ reset_net f.sizes (run n) x first next (eqb ((run n).net rst) 1)

  pub reset_set_is : (w : ℕ) (x : Name) (first : Atom) (set : Name) (next : Atom) → Has m.items (Reg w x) → IsOwnBlock m.items x (reset_or_set x first set next) → (n : ℕ)
      → (run (suc n)).net x ≡ cond (eqb ((run n).net rst) 1) (atom_value (run n) first) (cond (eqb ((run n).net set) 1) (atom_value (run n) next) ((run n).net x))
  reset_set_is w x first set next has own n = register_takes m run f w x (reset_or_set x first set next) has own n ∙ reset_set_net f.sizes (run n) x first set next (eqb ((run n).net rst) 1)

  -- what a cell of a memory has in the next cycle
  pub stored_is : (w : ℕ) (x : Name) (k : ℕ) (write index : Name) (value : Atom) → Has m.items (Memory w x k) → IsOwnBlock m.items x (stored x write index value) → (n a : ℕ) → a < k
      → (run (suc n)).cell x a ≡ cond (eqb ((run n).net write) 1 && eqb a ((run n).net index) && ltb ((run n).net index) (f.sizes.cells x)) (atom_value (run n) value) ((run n).cell x a)
  stored_is w x k write index value has own n a h = cell_takes m run f w x k (stored x write index value) has own n a h ∙ store_cell f.sizes (run n) x index value a (eqb ((run n).net write) 1)
