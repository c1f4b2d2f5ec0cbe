-- Nothing fits every program and its circuit.
use Rattle.std.proofs.Common.{◌≡◌, ℕ, zero, suc, ◌^◌, ◌<◌, ◌≤◌, arith, List, [], length, get_or, Some, refl, sym, ◌∙◌, ap, subst}
use Rattle.std.specs.Prelude.{◌↔◌, replicate, All}
use Rattle.std.proofs.lemmas.List.{length-map, length-replicate}
use Rattle.std.proofs.lemmas.List.Elements.{All-nil}
use Rattle.std.proofs.lemmas.Nat.{pow_pos}
use Rattle.tapa_base.specs.Kinds.{bits_of, values_of as values_of_kind}
use Rattle.tapa_base.specs.declared.shape.Port.{Port}
use Rattle.tapa_syntax.specs.declared.program.Program.{Program}
use Rattle.kahn_model.specs.Fits.{FitsInput}
use Rattle.kahn_model.specs.Outcome.{HaveJoinedEnded}
use Rattle.kahn_model.specs.Start.{network_of}
use Rattle.net_core.specs.Bounded.{scalars_of, memories_of, Values, values_of}
use Rattle.net_core.specs.declared.input.Input.{Input}
use Rattle.run_program.specs.Run.{network}
use Rattle.sim_output.specs.Reports.{IsSimulatedSo}
use Rattle.tapa_words.specs.Words.{default_cycles}
use Rattle.vlog_design.specs.Designs.{DesignTree, TopOf}
use Rattle.vlog_tree.specs.Cycle.{Cycle, Path}
use Rattle.vlog_tree.specs.Environment.{Environment, ShapeTree, FitsShape, RunsIn, RaisesDone, shape_of}
use Rattle.vlog_tree.specs.Form.{ModuleTree}
use Rattle.circuit_meaning.specs.Ports.{scalar_ports, memory_ports}
use Rattle.circuit_meaning.specs.Circuits.{IsCircuitOf}
use Rattle.circuit_meaning.specs.Carries.{Carries}
use Rattle.circuit_meaning.specs.Clock.{clock_of, counts}
use Rattle.vlog_run_laws.specs.Beside.{answers_in}
use Rattle.command_gen.specs.Network.{IsCircuitDoneIn}
use Rattle.command_gen.specs.Nothing.{no_values, no_environment}

-- every element of a list of equal ones
same_at : {A : Type 0} (n i : ℕ) (x : A) → get_or (replicate n x) i x ≡ x
same_at zero i x = refl
same_at (suc n) zero x = refl
same_at (suc n) (suc i) x = same_at n i x

no_cells : (P : ℕ → Type 0) (n m : ℕ) → All P (get_or (replicate n []) m [])
no_cells P n m = subst (All P) (sym (same_at n m [])) (All-nil P)

-- an input without a value
pub input_fits : (program : Program) (input : Input) → values_of input ≡ no_values program → FitsInput program (scalars_of input) (memories_of input)
input_fits program input same =
    let fits : FitsInput program (no_values program).scalars (no_values program).memories =
    record {
      as_many_scalars = length-replicate (length program.scalars.items) 0;
      as_many_memories = length-replicate (length program.memories.items) [];
      scalars_fit = λ x c at. subst (λ (n : ℕ). n < values_of_kind c.kind) (sym (same_at (length program.scalars.items) x 0)) (pow_pos (bits_of c.kind));
      cells_fit = λ m c at. no_cells (λ v. v < values_of_kind c.kind) (length program.memories.items) m;
    } in
    subst (λ (v : Values). FitsInput program v.scalars v.memories) (sym same) fits

-- the same around a top that asks for what the program does
shape_fits : (program : Program) (shape : ShapeTree) → shape.scalars ≡ scalar_ports program → shape.memories ≡ memory_ports program → FitsShape (no_environment program) shape
shape_fits program shape scalars memories =
    let as_many_scalars : length shape.scalars ≡ length program.scalars.items = ap (λ (l : List Port). length l) scalars ∙ length-map program.scalars.items _ in
    let as_many_memories : length shape.memories ≡ length program.memories.items = ap (λ (l : List Port). length l) memories ∙ length-map program.memories.items _ in
    record {
      numbers = record {
        as_many_scalars = length-replicate (length program.scalars.items) 0 ∙ sym (length-map shape.scalars (λ (l : Port). l.bits) ∙ as_many_scalars);
        as_many_memories = length-replicate (length program.memories.items) [] ∙ sym (length-map shape.memories (λ (l : Port). l.bits) ∙ as_many_memories);
        scalars_fit = λ i bits at. subst (λ (n : ℕ). n < 2 ^ bits) (sym (same_at (length program.scalars.items) i 0)) (pow_pos bits);
        cells_fit = λ m bits at. no_cells (λ cell. cell < 2 ^ bits) (length program.memories.items) m;
      };
      as_many_ready = length-replicate (length program.memories.items) [] ∙ sym as_many_memories;
    }

pub circuit_fits : (program : Program) (design : DesignTree) (env : Environment) → IsCircuitOf program [] design → env ≡ no_environment program → (m : ModuleTree) → TopOf design m → FitsShape env (shape_of m)
circuit_fits program design env circuit is m at =
    let top : TopOf design circuit.top = circuit.is_top in
    let same : circuit.top ≡ m = cc in
    subst (λ (e : Environment). FitsShape e (shape_of m)) (sym is)
    (subst (λ (t : ModuleTree). FitsShape (no_environment program) (shape_of t)) same (shape_fits program (shape_of circuit.top) circuit.scalars circuit.memories))

-- done is raised in just the cycles before which by the timed counts every joined instance has ended
by_cycle : (program : Program) (env : Environment) (nets : ℕ → Path → Cycle) → Carries program env (clock_of program [] (answers_in env)) nets → (n : ℕ) → 1 ≤ n → RaisesDone (λ k. nets k []) n ↔ HaveJoinedEnded (network_of program env.scalars env.memories) (counts program [] env (answers_in env) n)
by_cycle program env nets carries zero some = absurd (omega arith)
by_cycle program env nets carries (suc n) some = carries.done n

-- a circuit that is done first in a cycle is so by the timed counts
pub done_in : (program : Program) (design : DesignTree) (cycle : ℕ) → IsCircuitOf program [] design → IsSimulatedSo design (no_environment program) default_cycles (Some cycle) → IsCircuitDoneIn program cycle
done_in program design cycle circuit (report, is) =
    let env = no_environment program in
    let top : TopOf design circuit.top = circuit.is_top in
    let at : TopOf design is.top = is.is_top in
    let same : is.top ≡ circuit.top = cc in
    let carries : Carries program env (clock_of program [] (answers_in env)) is.nets =
    circuit.carries env (shape_fits program (shape_of circuit.top) circuit.scalars circuit.memories) is.nets (subst (λ (m : ModuleTree). RunsIn design.modules m env is.nets) same is.run.runs_in) in
    let by_counts : (n : ℕ) → 1 ≤ n → RaisesDone (λ k. is.nets k []) n ↔ HaveJoinedEnded (network program (no_values program)) (counts program [] env (answers_in env) n) =
    λ n some. by_cycle program env is.nets carries n some in
    record {
      simulated = (design, circuit, (report, is));
      ended = (by_counts cycle is.done.1.0).0 is.done.1;
      first = λ n some before h. is.done.2 n before ((by_counts n some).1 h);
    }
