-- A step keeps a simulator, and goes to the next cycle of each run that it tells of.
use Rattle.std.proofs.Common.{◌≡◌, ℕ, zero, suc, ◌+◌, ◌^◌, ◌<◌, ◌≤◌, List, [], ◌∷◌, true, Some, length, get_or, refl, sym, subst, ◌∙◌, arith}
use Rattle.std.specs.Prelude.{slice_get, Vec}
use Rattle.std.specs.declared.alloc.Global.{Global}
use Rattle.vlog_tree.specs.Form.{ModuleTree}
use Rattle.vlog_tree.specs.Cycle.{Cycle, Path}
use Rattle.vlog_tree.specs.Environment.{Environment, FitsShape, RunsIn, shape_of}
use Rattle.vlog_run_laws.proofs.runs.Settled.{IsTopTree, top_tree}
use Rattle.vlog_design.specs.Environments.{lists_of}
use Rattle.cycle_sim.specs.Told.{IsToldOf}
use Rattle.sim_tape.specs.Operators.{cells_of}
use Rattle.sim_tape.specs.Tape.{number_at}
use Rattle.sim_tape.specs.Solved.{IsSolved, SameGiven}
use Rattle.sim_design.specs.declared.drafts.Commit.{Commit}
use Rattle.cycle_sim.specs.declared.inputs.Input.{Input}
use Rattle.cycle_sim.specs.declared.cells.Outside.{Outside}
use Rattle.cycle_sim.specs.declared.parts.Parts.{Parts}
use Rattle.cycle_sim.specs.declared.parts.State.{State}
use Rattle.cycle_sim.specs.Sims.{InRuns, IsNext}
use Rattle.cycle_sim.specs.Steps.{IsAway, PairHas, supplied, stored_all, outside_list}
use Rattle.cycle_sim.specs.Machines.{IsShown}
use Rattle.cycle_sim.specs.Wholes.{IsSim, IsStill, sim_tree}
use Rattle.cycle_sim.proofs.Telling.{shown_of, told_of}
use Rattle.cycle_sim.proofs.Stepping.{has_next, given_next, fits, shown_next}
use Rattle.cycle_sim.proofs.Asking.{data_low}

-- a list of cells is shorter than the highest number of 64 bits
pub cells_short : (vs : List (Vec ℕ Global)) (i : ℕ) → length (get_or (cells_of vs) i []) < 2 ^ 64
cells_short [] i = omega arith
cells_short (v ∷ vs) zero = let o = v.ok in let a = o.0 in let b = o.1 in let c = v.small in omega arith
cells_short (v ∷ vs) (suc i) = cells_short vs i

module _ (p : Parts) (s : State) (sim : IsSim p s) where
  tree : IsTopTree p.design.modules sim.parts.top
  tree = top_tree p.design.modules sim.parts.machine.flat.top_place sim.parts.machine.flat.design sim.parts.top sim.parts.machine.flat.top_at

  -- what holds of the runs of the top holds of those of each top, which is the same
  pub in_runs : (P : ModuleTree → Environment → (ℕ → Path → Cycle) → Type 0)
      → ((env : Environment) (nets : ℕ → Path → Cycle) → FitsShape env (shape_of sim.parts.top) → env.ready ≡ lists_of p.ready.items → RunsIn p.design.modules sim.parts.top env nets
      → IsShown p.design.modules sim.parts.top p.flat p.machine.pairs.items p.machine.memories.items env nets s.cycle (cells_of s.cells.items) s.numbers.items → P sim.parts.top env nets)
      → InRuns (sim_tree p s) P
  in_runs P h m env nets at env_fits ready r told =
      let same : sim.parts.top ≡ m = cc (sim.parts.at, at) in
      subst (λ (q : ModuleTree). FitsShape env (shape_of q) → RunsIn p.design.modules q env nets → IsToldOf p.design.modules q env nets (sim_tree p s).told → P q env nets) same
      (λ f r told. h env nets f ready r (shown_of p sim.parts env nets s.cycle (cells_of s.cells.items) s.numbers.items told sim.cells))
      env_fits r told

  module _ (t : State) (taken_ns given_ns : List ℕ) (cycle : t.cycle ≡ s.cycle + 1) (size : length t.numbers.items ≡ length s.numbers.items) (room : length t.given.items ≡ length s.given.items)
      (asked : (i : ℕ) (o : Outside) → slice_get p.around.outside.items i ≡ Some o → get_or (cells_of t.cells.items) i [] ≡ outside_list s.numbers.items o (stored_all s.numbers.items i (get_or (cells_of s.cells.items) i []) p.machine.stores.items))
      (behind : (m : ℕ) → length p.around.outside.items ≤ m → get_or (cells_of t.cells.items) m [] ≡ stored_all s.numbers.items m (get_or (cells_of s.cells.items) m []) p.machine.stores.items)
      (taken : (i : ℕ) (a : Commit) → slice_get p.machine.commits.items i ≡ Some a → number_at taken_ns a.slot ≡ number_at s.numbers.items a.next)
      (values : (i : ℕ) (a : Input) → slice_get p.around.inputs.items i ≡ Some a → PairHas given_ns a.pair (supplied (lists_of p.ready.items) t.cycle a.supply))
      (kept : (k : ℕ) → ((i : ℕ) (a : Input) → slice_get p.around.inputs.items i ≡ Some a → IsAway k a.pair) → number_at given_ns k ≡ number_at taken_ns k)
      (solved : IsSolved p.machine.program (cells_of t.cells.items) t.numbers.items) (same : SameGiven p.machine.program.gates given_ns t.numbers.items) (still : t.is_still ≡ true → IsStill p t) where
    later : t.cycle ≡ suc s.cycle
    later = omega (arith, cycle)

    values_later : (i : ℕ) (a : Input) → slice_get p.around.inputs.items i ≡ Some a → PairHas given_ns a.pair (supplied (lists_of p.ready.items) (suc s.cycle) a.supply)
    values_later i a got = subst (λ n. PairHas given_ns a.pair (supplied (lists_of p.ready.items) n a.supply)) later (values i a got)

    -- a simulator stays one
    pub sim_next : IsSim p t
    sim_next = record {
      parts = sim.parts;
      size = size ∙ sim.size;
      room = room ∙ sim.room;
      solved = solved;
      cells = has_next p sim.parts
          (cells_of s.cells.items) (cells_of t.cells.items) s.numbers.items sim.cells behind;
      given = given_next p sim.parts
          (cells_of t.cells.items) given_ns t.numbers.items (lists_of p.ready.items) t.cycle solved same values;
      still = still;
    }

    shown_later : (env : Environment) (nets : ℕ → Path → Cycle) → FitsShape env (shape_of sim.parts.top) → env.ready ≡ lists_of p.ready.items → RunsIn p.design.modules sim.parts.top env nets
        → IsShown p.design.modules sim.parts.top p.flat p.machine.pairs.items p.machine.memories.items env nets s.cycle (cells_of s.cells.items) s.numbers.items
        → IsShown p.design.modules sim.parts.top p.flat p.machine.pairs.items p.machine.memories.items env nets (suc s.cycle) (cells_of t.cells.items) t.numbers.items
    shown_later env nets env_fits ready r now =
        let d = sim.parts.machine.flat.design in
        let run_fits = fits p sim.parts env env_fits nets r in
        shown_next p sim.parts
        env env_fits nets r s.cycle (cells_of s.cells.items) (cells_of t.cells.items) s.numbers.items taken_ns given_ns t.numbers.items now sim.solved (lists_of p.ready.items) ready sim.given sim.cells (cells_short s.cells.items)
        taken values_later kept solved same asked behind
        (λ l has. data_low p.design.modules d.sound.names d.outside sim.parts.top tree.has tree.is_top (nets s.cycle []) (run_fits.modules s.cycle [] sim.parts.top refl) l has)

    -- it tells of the next cycle
    pub next_told : IsNext (sim_tree p s) (sim_tree p t)
    next_told = record {
      same = refl;
      cycle = cycle;
      ready = refl;
      told = in_runs (λ m env nets. IsToldOf p.design.modules m env nets (sim_tree p t).told) (λ env nets f ready r now.
          told_of p sim.parts env nets t.cycle (cells_of t.cells.items) t.numbers.items
          (subst (λ n. IsShown p.design.modules sim.parts.top p.flat p.machine.pairs.items p.machine.memories.items env nets n (cells_of t.cells.items) t.numbers.items) (sym later) (shown_later env nets f ready r now)));
    }
