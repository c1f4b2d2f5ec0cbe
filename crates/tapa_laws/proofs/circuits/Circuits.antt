-- A circuit of a program has one run beside memories that answer by its outputs, and carries the program's streams in it.
use Rattle.std.proofs.Common.{◌≡◌, ℕ, Bool, true, false, cond, List, [], Some, refl, ap, arith}
use Rattle.std.specs.Prelude.{slice_get, map}
use Rattle.std.proofs.Math.Path.{fun_ext}
use Rattle.tapa_base.specs.declared.shape.Port.{Port}
use Rattle.tapa_syntax.specs.declared.program.Program.{Program}
use Rattle.vlog_tree.specs.Table.{Name, port_declared, net_kind_of}
use Rattle.vlog_tree.specs.Labels.{m_we}
use Rattle.vlog_tree.specs.Cycle.{Cycle, Path}
use Rattle.vlog_tree.specs.Environment.{Environment, FitsShape, shape_of}
use Rattle.vlog_design.specs.Designs.{DesignTree}
use Rattle.vlog_run_laws.specs.Beside.{RunsBeside}
use Rattle.vlog_run_laws.specs.runs.OneRun.{FitsPowerUp}
use Rattle.vlog_run_laws.proofs.widths.Beside.{among_is_beside}
use Rattle.circuit_meaning.specs.Circuits.{IsCircuitOf}
use Rattle.tapa_laws.specs.circuits.Reactive.{Seen, net_kind_is_output, outputs_of_top, IsCausal, IsReactiveRun}
use Rattle.tapa_laws.specs.circuits.Circuits.{AreMemoryRules, RunsByRules}
use Rattle.tapa_laws.proofs.circuits.OneRun.{one_reactive_run}

pub same_cycle : {A : Type 0} (f : (Name → ℕ) → ℕ → ℕ → A) → IsCausal (λ h i n. f (h n) i n)
same_cycle f h k i n same = ap (λ s. f s i n) (fun_ext {f = h n} {g = k n} (λ x. same n (omega arith) x))

-- where a net is 0, so is what is seen of it
seen_zero : (b : Bool) (v : ℕ) → v ≡ 0 → cond b v 0 ≡ 0
seen_zero true v e = e
seen_zero false v e = refl

module _ (program : Program) (added : List ℕ) (design : DesignTree) (circuit : IsCircuitOf program added design)
    (env : Environment) (answers shows : Seen → ℕ → ℕ → Bool) (others : Seen → ℕ → ℕ → ℕ) (contents : Path → Cycle)
    (fits : FitsShape env (shape_of circuit.top)) (rules : AreMemoryRules circuit.top answers shows others) (power_up : FitsPowerUp design.modules circuit.top contents) where
  runs_beside : (nets : ℕ → Path → Cycle) → IsReactiveRun design.modules circuit.top env answers shows others contents nets
      → RunsBeside design.modules circuit.top env (answers (outputs_of_top circuit.top (λ n. nets n []))) nets
  runs_beside nets r =
      let seen : Seen = outputs_of_top circuit.top (λ n. nets n []) in
      let shown : (i n : ℕ) (l : Port) → slice_get (shape_of circuit.top).memories i ≡ Some l → answers seen i n ≡ true → (nets n []).net (m_we l.name) ≡ 0 → shows seen i n ≡ true =
      λ i n l got ok still. rules.shown seen i n l got ok (seen_zero (net_kind_is_output (net_kind_of (map port_declared circuit.top.ports) (m_we l.name))) ((nets n []).net (m_we l.name)) still) in
      among_is_beside design.modules design.top circuit.top circuit.legal circuit.is_top env fits (answers seen) (shows seen) (others seen) (rules.quiet seen) (rules.width seen) contents nets shown r

  pub circuit_runs : RunsByRules program added design circuit.top env answers shows others contents
  circuit_runs = record {
    one =
        one_reactive_run design.modules design.top circuit.top env answers shows others contents circuit.legal circuit.is_top circuit.rests rules.causal rules.causal_shows rules.causal_others
        power_up;
    beside = runs_beside;
    carries = λ nets r. circuit.beside env fits (answers (outputs_of_top circuit.top (λ n. nets n []))) nets (runs_beside nets r);
  }
