-- What the text of a circuit gives in each of its runs.
use Rattle.std.proofs.Common.{◌≡◌, ℕ, Bool, List, [], sym, subst, ◌∙◌}
use Rattle.std.proofs.lemmas.Option.{same_Some}
use Rattle.tapa_syntax.specs.WellFormed.{IsWellFormed}
use Rattle.tapa_syntax.specs.declared.program.Program.{Program}
use Rattle.vlog_tree.specs.Cycle.{Cycle, Path}
use Rattle.vlog_tree.specs.Environment.{Environment, FitsShape, RunsIn, shape_of}
use Rattle.vlog_tree.specs.Form.{ModuleTree}
use Rattle.vlog_design.specs.Designs.{DesignTree, TopOf}
use Rattle.vlog_run_laws.specs.Beside.{RunsBeside, answers_in}
use Rattle.circuit_meaning.specs.Gives.{Gives}
use Rattle.hw_top_laws.proofs.kahn.Gives.{carrying_gives}
use Rattle.command_build.specs.Built.{IsCircuitText}
use Rattle.tapa_laws.proofs.simulations.BuiltRuns.{design_is, well}
use Rattle.tapa_laws.specs.circuits.Given.{GivesInEachRun, CircuitsGive, PlannedCircuitsGive}

module _ (program : Program) (w : IsWellFormed program) (added told : List ℕ) (h : IsCircuitText program added told) where
  abbrev Runs : DesignTree → ModuleTree → Type 0
  Runs design top =
      (env : Environment) → FitsShape env (shape_of top) → (nets : ℕ → Path → Cycle) → RunsIn design.modules top env nets → Gives program added env (answers_in env) nets

  abbrev Beside : DesignTree → ModuleTree → Type 0
  Beside design top =
      (env : Environment) → FitsShape env (shape_of top) → (answers : ℕ → ℕ → Bool) (nets : ℕ → Path → Cycle) → RunsBeside design.modules top env answers nets
      → Gives program added env answers nets

  same_top : (top : ModuleTree) → TopOf h.design top → h.circuit.top ≡ top
  same_top top is = same_Some h.circuit.top top (sym h.circuit.is_top ∙ is)

  gives_in_each_run : GivesInEachRun program added told
  gives_in_each_run = record {
    runs = λ design tree legal.
        subst (λ (d : DesignTree). (top : ModuleTree) → TopOf d top → Runs d top) (sym (design_is program added told h design tree legal))
        (λ top is.
        subst (Runs h.design) (same_top top is) (λ env fits nets run. carrying_gives program w added env (answers_in env) nets (h.circuit.carries env fits nets run)));
    beside = λ design tree legal.
        subst (λ (d : DesignTree). (top : ModuleTree) → TopOf d top → Beside d top) (sym (design_is program added told h design tree legal))
        (λ top is.
        subst (Beside h.design) (same_top top is) (λ env fits answers nets run. carrying_gives program w added env answers nets (h.circuit.beside env fits answers nets run)));
  }

pub circuits_give : CircuitsGive
circuits_give source top told h = gives_in_each_run h.program (well source top h.program h.means) [] told h.is

pub planned_circuits_give : PlannedCircuitsGive
planned_circuits_give source top device told mode balanced h = gives_in_each_run h.program (well source top h.program h.asked.means) h.is.added told h.is.is
