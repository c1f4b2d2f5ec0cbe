-- What the modules of a channel keep by themselves, beside the contract of a channel.
use Rattle.std.specs.Prelude.{◌≡◌, ℕ, ◌+◌, ◌*◌, ◌^◌, ◌<◌, ◌≤◌, Bool, List, [], ◌∷◌, ◌++◌, map, codes}
use Rattle.vlog_tree.specs.declared.tree.Connection.{Connection}
use Rattle.vlog_tree.specs.declared.tree.Direction.TheVariants.{Input as Inward, Output as Outward}
use Rattle.vlog_tree.specs.declared.tree.Item.TheVariants.{Instance}
use Rattle.vlog_tree.specs.declared.tree.PortDecl.{PortDecl}
use Rattle.vlog_tree.specs.declared.table.NetKind.TheVariants.{Input, Output}
use Rattle.vlog_tree.specs.Form.{ModuleTree}
use Rattle.tapa_base.specs.Lists.{Has}
use Rattle.vlog_tree.specs.Loops.{Rests, IsLoopless}
use Rattle.vlog_tree.specs.Refused.{IsSound}
use Rattle.vlog_tree.specs.Table.{Name, clk, port_declared, net_kind_of}
use Rattle.vlog_tree.specs.Labels.{rst}
use Rattle.hw_channel_lines.specs.Names.{channel_name}
use Rattle.hw_channel_lines.specs.Texts.{AreModules}

abbrev pub OfFirst : (ModuleTree → Type 0) → List ModuleTree → Type 0
OfFirst P [] = ⊥
OfFirst P (m ∷ ms) = P m

-- the ports of a channel whose tokens have `bits` bits
abbrev pub outer_ports : ℕ → List PortDecl
outer_ports bits =
    record { direction = Inward; width = 1; name = clk } ∷ record { direction = Inward; width = 1; name = rst } ∷ record { direction = Inward; width = bits; name = codes "din" }
    ∷ record { direction = Inward; width = 1; name = codes "wr" } ∷ record { direction = Inward; width = 1; name = codes "take" } ∷ record { direction = Outward; width = 1; name = codes "rdy" }
    ∷ record { direction = Outward; width = 1; name = codes "has" } ∷ record { direction = Outward; width = bits; name = codes "dout" } ∷ []

-- its outermost module, by its name and its ports
abbrev pub IsOutermost : (bits depth late : ℕ) → ModuleTree → Type 0
IsOutermost bits depth late m = (m.name ≡ channel_name bits depth late) × (m.ports ≡ outer_ports bits)

-- among these modules no output of this one depends on an input within a cycle, whichever module is the top
abbrev pub HasNoWayThrough : List ModuleTree → ModuleTree → Type 0
HasNoWayThrough ms m =
    (is_top : Name → Bool) (x y : Name) → net_kind_of (map port_declared m.ports) x ≡ Output → net_kind_of (map port_declared m.ports) y ≡ Input → Rests ms is_top m x y → ⊥

-- no name is on a loop, whichever module is the top
abbrev pub HaveNoLoop : List ModuleTree → Type 0
HaveNoLoop ms = (is_top : Name → Bool) → IsLoopless ms is_top

-- the clock of an instance is the clock of the module
abbrev pub JoinClocks : List ModuleTree → Type 0
JoinClocks ms =
    (m : ModuleTree) → Has ms m → (k i : Name) (connections : List Connection) → Has m.items (Instance k i connections) → (l : Connection) → Has connections l → l.port ≡ clk
    → l.net ≡ clk

-- no module has a name like a task's
abbrev pub AreNoTasks : List ModuleTree → Type 0
AreNoTasks ms = (m : ModuleTree) → Has ms m → (x : Name) → m.name ≡ codes "t_" ++ x → ⊥

-- among the modules of channels for any numbers, those of one name are one module
abbrev pub NamesTellModules : Type 0
NamesTellModules =
    (bits depth late bits_too depth_too late_too : ℕ) (ms ns : List ModuleTree) → AreModules bits depth late ms → AreModules bits_too depth_too late_too ns
    → bits < 2 ^ 32 → depth + 2 * late < 2 ^ 32 → bits_too < 2 ^ 32 → depth_too + 2 * late_too < 2 ^ 32
    → (m n : ModuleTree) → Has ms m → Has ns n → m.name ≡ n.name → m ≡ n

-- what the modules of a channel keep
pub record AreClear (bits depth late : ℕ) (ms : List ModuleTree) : Type 0 where
  pub outermost : OfFirst (IsOutermost bits depth late) ms
  pub sound : IsSound ms
  pub loopless : HaveNoLoop ms
  pub registered : OfFirst (HasNoWayThrough ms) ms
  pub clocks : JoinClocks ms
  pub names : AreNoTasks ms

abbrev pub ModulesAreClear : Type 0
ModulesAreClear =
    (bits depth late : ℕ) (ms : List ModuleTree) → AreModules bits depth late ms → 2 ≤ bits → bits ≤ 65 → 0 < depth → depth + 2 * late ≤ 1048576 → AreClear bits depth late ms
