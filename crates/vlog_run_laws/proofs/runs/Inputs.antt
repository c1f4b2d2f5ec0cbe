-- A design has one run from each power-up with each inputs.
use Rattle.std.proofs.Common.{◌≡◌, ℕ, zero, suc, true, List, Some, refl, sym, ap, ◌∙◌}
use Rattle.std.specs.Prelude.{slice_get}
use Rattle.vlog_tree.specs.Form.{ModuleTree}
use Rattle.vlog_tree.specs.Grounded.{IsGrounded}
use Rattle.vlog_tree.specs.Cycle.{Cycle, Path}
use Rattle.vlog_tree.specs.Table.{Name}
use Rattle.vlog_tree.specs.Flattened.{FlatNet, parts}
use Rattle.vlog_tree.specs.Refused.{IsDesign}
use Rattle.vlog_run_laws.specs.runs.OneRun.{FitsPowerUp, IsRunOf, IsOnly}
use Rattle.vlog_run_laws.proofs.runs.Settled.{design_settles, top_tree, IsTopTree}
use Rattle.vlog_run_laws.proofs.runs.Run.{World, worlds, run, runs, begins, inputs as run_inputs}
use Rattle.vlog_run_laws.proofs.runs.Same.{IsRunIn, same_from}

-- a clock that counts the cycles, and a number for each input in each of them
abbrev counted_world : (ℕ → Name → ℕ) → World ℕ
counted_world inputs = record { first = 0; next = λ n c. suc n; give = λ n x asked. inputs n x }

cycle_number : (inputs : ℕ → Name → ℕ) (nets : ℕ → Path → Cycle) (n : ℕ) → worlds ℕ (counted_world inputs) nets n ≡ n
cycle_number inputs nets zero = refl
cycle_number inputs nets (suc n) = ap suc (cycle_number inputs nets n)

module _ (ms : List ModuleTree) (top : ℕ) (m : ModuleTree) (d : IsDesign ms top) (at : slice_get ms top ≡ Some m) (inputs : ℕ → Name → ℕ) (contents : Path → Cycle) where
  settled : (n : FlatNet) → IsGrounded (parts ms m true) n
  settled = design_settles ms top d m at

  tree : IsTopTree ms m
  tree = top_tree ms top d m at

  in_world : (nets : ℕ → Path → Cycle) → IsRunOf ms m inputs contents nets → IsRunIn ms m ℕ (counted_world inputs) nets
  in_world nets r = record {
    runs = r.runs;
    inputs = λ n x s c. r.inputs_are n x s ∙ ap (λ k. inputs k x) (sym (cycle_number inputs nets n));
  }

  the_run : ℕ → Path → Cycle
  the_run = run ms m d.sound.names d.sound.drivers tree.has settled ℕ (counted_world inputs) contents

  is_run : FitsPowerUp ms m contents → IsRunOf ms m inputs contents the_run
  unfolding the_run
  is_run fits = record {
    runs = runs ms m d.sound.names d.sound.drivers tree.has settled ℕ (counted_world inputs) contents fits;
    inputs_are = λ n x s. run_inputs ms m d.sound.names d.sound.drivers tree.has settled ℕ (counted_world inputs) contents n x s ∙ ap (λ k. inputs k x) (cycle_number inputs the_run n);
    begins = begins ms m d.sound.names d.sound.drivers tree.has settled ℕ (counted_world inputs) contents;
  }

  pub one_run : FitsPowerUp ms m contents → IsOnly ms m (IsRunOf ms m inputs contents)
  one_run fits = record {
    run = the_run;
    is = is_run fits;
    only = λ other r.
        same_from ms m d.sound.names d.sound.drivers d.outside tree.has tree.is_top settled ℕ (counted_world inputs) (λ w c e f. refl) the_run other (in_world the_run (is_run fits)) (in_world other r)
        contents (is_run fits).begins r.begins;
  }
