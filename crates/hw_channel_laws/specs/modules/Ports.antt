-- The signals at the ports of the modules, and what a channel does.
use Rattle.std.specs.Prelude.{◌≡◌, ℕ, ◌+◌, ◌<◌, ◌*◌, ◌^◌, List, [], ◌∷◌, Some, codes}
use Rattle.vlog_tree.specs.Form.{ModuleTree}
use Rattle.tapa_base.specs.Lists.{Has}
use Rattle.vlog_tree.specs.Table.{module_named}
use Rattle.vlog_tree.specs.Labels.{rst}
use Rattle.vlog_tree.specs.Cycle.{Cycle, Path, Runs, module_at}
use Rattle.hw_channel_laws.specs.signals.Signals.{Resets}
use Rattle.hw_channel_laws.specs.signals.Contract.{ChannelPorts, MeetsContract}
use Rattle.hw_channel_laws.specs.signals.Fifo.{FifoPorts}
use Rattle.hw_channel_laws.specs.signals.Relay.{RelayPorts}
use Rattle.hw_channel_lines.specs.Texts.{AreModules}

abbrev pub fifo_ports : (ℕ → Cycle) → FifoPorts
fifo_ports run = record {
  put = λ n. (run n).net (codes "put");
  din = λ n. (run n).net (codes "din");
  rdy = λ n. (run n).net (codes "rdy");
  has = λ n. (run n).net (codes "has");
  dout = λ n. (run n).net (codes "dout");
  take = λ n. (run n).net (codes "take");
}

abbrev pub relay_ports : (ℕ → Cycle) → RelayPorts
relay_ports run = record {
  put = λ n. (run n).net (codes "put");
  din = λ n. (run n).net (codes "din");
  rdy = λ n. (run n).net (codes "rdy");
  put_late = λ n. (run n).net (codes "put_late");
  din_late = λ n. (run n).net (codes "din_late");
  rdy_early = λ n. (run n).net (codes "rdy_early");
}

abbrev pub channel_ports : (ℕ → Cycle) → ChannelPorts
channel_ports run = record {
  din = λ n. (run n).net (codes "din");
  wr = λ n. (run n).net (codes "wr");
  rdy = λ n. (run n).net (codes "rdy");
  has = λ n. (run n).net (codes "has");
  dout = λ n. (run n).net (codes "dout");
  take = λ n. (run n).net (codes "take");
}

-- each of these modules is the one among all that has its name
abbrev pub AreFoundIn : List ModuleTree → List ModuleTree → Type 0
AreFoundIn all ms = (m : ModuleTree) → Has ms m → module_named all m.name ≡ Some m

-- In a run of any design that has these modules, an instance of the first of them is a channel, whatever its registers
-- and memories hold at power-up, as long as its inputs of one bit have numbers of one bit.
abbrev pub ActsAsChannel : (depth late : ℕ) → List ModuleTree → Type 0
ActsAsChannel depth late [] = ⊥
ActsAsChannel depth late (top ∷ ms) =
    (all : List ModuleTree) (root : ModuleTree) (nets : ℕ → Path → Cycle) → Runs all root nets → AreFoundIn all (top ∷ ms)
    → (path : Path) → module_at all root path ≡ Some top → Resets (λ n. (nets n path).net rst)
    → ((n : ℕ) → (nets n path).net (codes "wr") < 2) → ((n : ℕ) → (nets n path).net (codes "take") < 2)
    → MeetsContract depth late (channel_ports (λ n. nets n path))

abbrev pub ChannelsAct : Type 0
ChannelsAct = (bits depth late : ℕ) (ms : List ModuleTree) → 0 < depth → depth + 2 * late < 2 ^ 32 → AreModules bits depth late ms → ActsAsChannel depth late ms
