-- The top fits, is right, and has the form of a module.
use Rattle.std.proofs.Common.{◌≡◌, ℕ, ◌++◌, true, List, refl, ap}
use Rattle.std.specs.Prelude.{count_by, nat_le}
use Rattle.std.specs.List.{list_all}
use Rattle.tapa_syntax.specs.declared.program.Program.{Program}
use Rattle.task_fsm.specs.declared.machine.Fsm.{Fsm}
use Rattle.hw_build.specs.Fitting.{stored_names, assigns, have_own_blocks}
use Rattle.hw_build.proofs.Forms.{built_form}
use Rattle.hw_build.proofs.Right.{built_right}
use Rattle.hw_lines.specs.Texts.{task_name}
use Rattle.hw_task_laws.proofs.names.Empty.{GiveNone, both_none}
use Rattle.hw_task_laws.proofs.names.Lined.{titles_are_names}
use Rattle.hw_top_laws.proofs.names.Written.{label_goes_on}
use Rattle.hw_top_laws.specs.joins.Joins.{FitTogether}
use Rattle.hw_top_laws.proofs.joins.Together.{together_fits}
use Rattle.hw_top_lines.specs.Legal.{IsReady}
use Rattle.hw_top_lines.specs.Texts.{ports, wires, doneness, instances, top_elements}
use Rattle.hw_top_laws.specs.modules.Lower.{lower_modules, KeepPromises}
use Rattle.hw_top_laws.proofs.modules.Lower.{lower_ports, top_new}
use Rattle.hw_top_laws.proofs.names.Top.{top_once}
use Rattle.hw_top_laws.specs.form.Form.{TopsAreFitting, TopsAreRight, TopsAreModules}
use Rattle.hw_top_laws.proofs.form.Drives.{standing_none, instances_none}
use Rattle.hw_top_laws.proofs.form.Form.{elements_form}
use Rattle.hw_top_laws.proofs.form.Once.{driven_once}
use Rattle.hw_top_laws.proofs.form.Order.{top_stands}
use Rattle.hw_top_laws.proofs.form.Reached.{all_reached}

-- the top has neither registers nor memories
nothing_stored : (program : Program) (added : List ℕ) → GiveNone stored_names (top_elements program added)
nothing_stored program added =
    both_none stored_names (ports program ++ wires program ++ doneness program) (instances program added) (standing_none stored_names program (λ w x v. refl) (λ w x. refl) (λ v. refl) (λ w x. refl) (λ w x. refl))
    (instances_none stored_names (λ k i ls. refl) program added)

no_blocks : (program : Program) (added : List ℕ) → have_own_blocks (top_elements program added) ≡ true
no_blocks program added = ap (λ l. list_all (λ x. nat_le (count_by (assigns x) (top_elements program added)) 1) l) (nothing_stored program added)

fits_together : (program : Program) (machines : List Fsm) (added : List ℕ) → IsReady program machines added → KeepPromises program machines → FitTogether (lower_modules program machines added) (top_elements program added)
fits_together program machines added ready kept = record {
  ports = lower_ports program machines added ready kept;
  order = top_stands program machines added ready kept;
  names = top_once program added ready.well_formed ready.told_apart ready.countable;
  blocks = no_blocks program added;
  driven = driven_once program machines added ready kept;
  all_driven = all_reached program machines added ready kept;
}

pub tops_are_fitting : TopsAreFitting
tops_are_fitting program machines added ready kept = together_fits (lower_modules program machines added) (top_elements program added) (fits_together program machines added ready kept)

pub tops_are_right : TopsAreRight
tops_are_right program machines added ready kept =
    built_right (lower_modules program machines added) (task_name program.top) (top_elements program added) (tops_are_fitting program machines added ready kept) (top_new program machines added ready kept)

pub tops_are_modules : TopsAreModules
tops_are_modules program machines added ready kept =
    built_form (task_name program.top) (top_elements program added) (titles_are_names program.top (label_goes_on program.top (ready.told_apart.tasks_written 0 program.top refl).0)) (elements_form program machines added ready kept)
