-- What a run of a module that is made says at each of its elements.
use Rattle.std.specs.Prelude.{◌≡◌, ℕ, true, List}
use Rattle.std.specs.List.{list_any, flat_map}
use Rattle.vlog_tree.specs.declared.tree.Value.{Value}
use Rattle.vlog_tree.specs.declared.tree.Step.{Step}
use Rattle.vlog_tree.specs.declared.tree.Item.{Item}
use Rattle.vlog_tree.specs.declared.table.Declaration.{Declaration}
use Rattle.vlog_tree.specs.declared.table.NetKind.TheVariants.{ChildInstance}
use Rattle.vlog_tree.specs.Form.{ModuleTree}
use Rattle.tapa_base.specs.Lists.{Has}
use Rattle.vlog_tree.specs.Table.{Name}
use Rattle.vlog_tree.specs.Cycle.{Cycle, Follows, driven}
use Rattle.vlog_tree.specs.V4.{step_assigns}
use Rattle.vlog_module_laws.specs.Blocks.{IsOwnBlock}
use Rattle.hw_build.specs.Elements.{Element, Output, Wire, Memory, Block, element_items, built}
use Rattle.hw_build.specs.Fitting.{declarations, stored_names, AreFitting}

-- the lines of each element are lines of the module
abbrev pub LinesAreThere : Type 0
LinesAreThere = (name : Name) (elements : List Element) (e : Element) (it : Item) → Has elements e → Has (element_items e) it → Has (built name elements).items it

-- in each cycle a wire has its driver's value
abbrev pub WiresAreDriven : Type 0
WiresAreDriven =
    (name : Name) (elements : List Element) (run : ℕ → Cycle) (f : Follows (built name elements) run) (w : ℕ) (x : Name) (v : Value) → Has elements (Wire w x v) → (n : ℕ)
    → (run n).net x ≡ driven f.sizes w (run n) v

-- and so has an output
abbrev pub OutputsAreDriven : Type 0
OutputsAreDriven =
    (name : Name) (elements : List Element) (run : ℕ → Cycle) (f : Follows (built name elements) run) (w : ℕ) (x : Name) (v : Value) → Has elements (Output w x v) → (n : ℕ)
    → (run n).net x ≡ driven f.sizes w (run n) v

-- what is declared has its width
abbrev pub WidthsAreDeclared : Type 0
WidthsAreDeclared =
    (name : Name) (elements : List Element) (run : ℕ → Cycle) (f : Follows (built name elements) run) (e : Element) (d : Declaration) → Has elements e → Has (declarations e) d
    → (d.net_kind ≡ ChildInstance → ⊥) → f.sizes.width d.name ≡ d.bits

abbrev pub CellsAreDeclared : Type 0
CellsAreDeclared =
    (name : Name) (elements : List Element) (run : ℕ → Cycle) (f : Follows (built name elements) run) (w : ℕ) (x : Name) (n : ℕ) → Has elements (Memory w x n) → f.sizes.cells x ≡ n

-- of fitting elements, the block that assigns a register or a memory is its own
abbrev pub BlocksAreOwn : Type 0
BlocksAreOwn =
    (ms : List ModuleTree) (name : Name) (elements : List Element) → AreFitting ms elements → (b : List Step) (x : Name) → Has elements (Block b) → Has (flat_map stored_names elements) x
    → list_any (step_assigns x) b ≡ true → IsOwnBlock (built name elements).items x b
