-- What `vcd` shows of a dump that `cosim --vcd` wrote.
use Rattle.std.specs.Prelude.{◌≡◌, ℕ, List, [], Option}
use Rattle.tapa_base.specs.Lists.{Has}
use Rattle.vlog_tree.specs.declared.table.Declaration.{Declaration}
use Rattle.cycle_sim.specs.ShownNets.{shown_nets}
use Rattle.cycle_sim.specs.Sims.{last_cycle}
use Rattle.vcd_text.specs.NetLines.{IsNetShown, value_lines}
use Rattle.tapa_words.specs.declared.command.CosimAim.TheVariants.{Dump}
use Rattle.command_cosim.specs.Designs.{HasSimulated}

-- the numbers of the net in the run of the text's design in the environment that the data give
abbrev pub DumpsShowTheirRun : Type 0
DumpsShowTheirRun =
    (text bytes dump name told : List ℕ) (limit : ℕ) (at : Option ℕ) (h : HasSimulated Dump text bytes limit at dump) → IsNetShown dump name told
    → (d : Declaration) × Has (shown_nets h.is.top) d × (d.name ≡ name) × (told ≡ value_lines (λ n. (h.is.nets n []).net name) (last_cycle limit at))
