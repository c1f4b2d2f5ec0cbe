-- What the block of a register or a memory makes of it, in a run of its module.
use Rattle.std.specs.Prelude.{◌≡◌, ℕ, suc, ◌<◌, nat_lt, ◌==◌, ◌&&◌, if◌then◌else◌}
use Rattle.vlog_tree.specs.declared.tree.Atom.{Atom}
use Rattle.vlog_tree.specs.declared.tree.Item.TheVariants.{Reg, Memory}
use Rattle.vlog_tree.specs.Form.{ModuleTree}
use Rattle.tapa_base.specs.Lists.{Has}
use Rattle.vlog_tree.specs.Labels.{rst}
use Rattle.vlog_tree.specs.Table.{Name}
use Rattle.vlog_tree.specs.Cycle.{Cycle, Follows, atom_value}
use Rattle.vlog_module_laws.specs.Blocks.{IsOwnBlock}
use Rattle.hw_build.specs.Elements.{copied, reset_or, reset_or_set, stored}

abbrev pub CopiesGoOn : Type 0
CopiesGoOn =
    (m : ModuleTree) (run : ℕ → Cycle) → Follows m run → (w : ℕ) (x : Name) (next : Atom) → Has m.items (Reg w x) → IsOwnBlock m.items x (copied x next) → (n : ℕ)
    → (run (suc n)).net x ≡ atom_value (run n) next

abbrev pub ResetsGoOn : Type 0
ResetsGoOn =
    (m : ModuleTree) (run : ℕ → Cycle) → Follows m run → (w : ℕ) (x : Name) (first next : Atom) → Has m.items (Reg w x) → IsOwnBlock m.items x (reset_or x first next) → (n : ℕ)
    → (run (suc n)).net x ≡ (if (run n).net rst == 1 then atom_value (run n) first else atom_value (run n) next)

abbrev pub ResetsAndSetsGoOn : Type 0
ResetsAndSetsGoOn =
    (m : ModuleTree) (run : ℕ → Cycle) → Follows m run → (w : ℕ) (x : Name) (first : Atom) (set : Name) (next : Atom) → Has m.items (Reg w x)
    → IsOwnBlock m.items x (reset_or_set x first set next) → (n : ℕ)
    → (run (suc n)).net x ≡ (if (run n).net rst == 1 then atom_value (run n) first else if (run n).net set == 1 then atom_value (run n) next else (run n).net x)

abbrev pub StoresGoOn : Type 0
StoresGoOn =
    (m : ModuleTree) (run : ℕ → Cycle) (f : Follows m run) (w : ℕ) (x : Name) (k : ℕ) (write index : Name) (value : Atom) → Has m.items (Memory w x k)
    → IsOwnBlock m.items x (stored x write index value) → (n a : ℕ) → a < k
    → (run (suc n)).cell x a
    ≡ (if ((run n).net write == 1) && (a == (run n).net index) && nat_lt ((run n).net index) (f.sizes.cells x) then atom_value (run n) value else (run n).cell x a)
