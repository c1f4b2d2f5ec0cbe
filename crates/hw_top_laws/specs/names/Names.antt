-- Each name of the top of a circuit occurs once.
use Rattle.std.specs.Prelude.{◌≡◌, ℕ, true, List, ◌∷◌}
use Rattle.std.specs.List.{list_all, flat_map}
use Rattle.tapa_syntax.specs.declared.program.Program.{Program}
use Rattle.tapa_syntax.specs.WellFormed.{IsWellFormed}
use Rattle.vlog_tree.specs.Labels.{rst}
use Rattle.vlog_tree.specs.Names.{is_name}
use Rattle.vlog_tree.specs.Table.{clk}
use Rattle.hw_build.specs.Fits.{AreOnce, declared_names}
use Rattle.hw_top_lines.specs.Legal.{IsCountable}
use Rattle.tapa_syntax.specs.OwnNames.{HasOwnNames}
use Rattle.hw_top_lines.specs.Texts.{top_elements}

-- no name is declared twice
abbrev pub TopNamesAreOnce : Type 0
TopNamesAreOnce =
    (program : Program) (added : List ℕ) → IsWellFormed program → HasOwnNames program → IsCountable program added
    → AreOnce (clk ∷ rst ∷ flat_map declared_names (top_elements program added))

-- and each is a name
abbrev pub TopNetsAreNamed : Type 0
TopNetsAreNamed =
    (program : Program) (added : List ℕ) → IsWellFormed program → HasOwnNames program → IsCountable program added
    → list_all is_name (flat_map declared_names (top_elements program added)) ≡ true
