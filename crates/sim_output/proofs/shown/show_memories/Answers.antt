use Rattle.std.proofs.Common.{◌≡◌, ◌<◌, ℕ, List, length, take, get_or, ◌∙◌, ap, add-one, arith}
use Rattle.tapa_base.specs.declared.shape.Port.{Port}
use Rattle.tapa_files.proofs.Known.{part_so_far, part_of_next, appends_both}
use Rattle.run_data.specs.Report.{memory_line}
use Rattle.run_data.proofs.Showing.{first_so_far, first_next, first_more}
use Rattle.cycle_sim.specs.Simulators.{sim_of}
use Rattle.sim_output.specs.Reports.{memory_lines}
use Rattle.tapa_base.proofs.Got.{on_err}
use Rattle.sim_output.proofs.shown.show_memories.Goals as goal

-- the line that a turn writes is that of its memory
line_is : (name cells : List ℕ) (xs : List Port) (i : ℕ) (x : Port) (t : ℕ → List ℕ) → name ≡ (get_or xs i x).name → cells ≡ t i → memory_line name cells ≡ memory_line (get_or xs i x).name (t i)
line_is name cells xs i x t a e = ap (λ (l : List ℕ). memory_line l cells) a ∙ ap (λ (cs : List ℕ). memory_line (get_or xs i x).name cs) e

pub returns-in_default-clause-part : goal.returns-in_default-clause-part
returns-in_default-clause-part g c =
    let t = (sim_of c.args.sim.now).told.outside in
    let xs = c.args.memories.now in
    part_so_far (g.O.Sink.contents c.args.out.now) (g.O.Sink.contents c.loop-m.out) (memory_lines t xs) (memory_lines t (take c.loop-m.m xs)) _ (first_so_far (λ (r : Port) n. memory_line r.name (t n)) xs c.loop-m.m) c.loop-m.invariant.0

pub returns-in_err-report_memory-clause-part : goal.returns-in_err-report_memory-clause-part
returns-in_err-report_memory-clause-part g c =
    let t = (sim_of c.args.sim.now).told.outside in
    let xs = c.args.memories.now in
    let within : c.loop-m.m < length xs = omega (arith, c.loop-m-test.true) in
    let place : c.in-Ok.place ≡ c.loop-m.m = omega (arith, c.in-Ok.ensures) in
    let line = line_is c.bytes-name.result.now c.memory.result.now xs c.loop-m.m c.index-memories-m.result t c.bytes-name.ensures.value (c.memory.ensures ∙ ap t place) in
    on_err c.from_residual.result
    (part_of_next (g.O.Sink.contents c.args.out.now) (g.O.Sink.contents c.loop-m.out) (g.O.Sink.contents c.report_memory.new.out) (memory_lines t xs) (memory_lines t (take c.loop-m.m xs)) (memory_line (get_or xs c.loop-m.m c.index-memories-m.result).name (t c.loop-m.m)) _
    (first_next (λ (r : Port) n. memory_line r.name (t n)) xs c.loop-m.m c.index-memories-m.result within) c.loop-m.invariant.0 (rw line at c.in_err-report_memory.ensures.part))

pub loop-m-preserved : goal.loop-m-preserved
loop-m-preserved g c =
    let t = (sim_of c.args.sim.now).told.outside in
    let xs = c.args.memories.now in
    let within : c.loop-m.m < length xs = omega (arith, c.loop-m-test.true) in
    let place : c.in-Ok.place ≡ c.loop-m.m = omega (arith, c.in-Ok.ensures) in
    let line = line_is c.bytes-name.result.now c.memory.result.now xs c.loop-m.m c.index-memories-m.result t c.bytes-name.ensures.value (c.memory.ensures ∙ ap t place) in (
      rw (add-one c.loop-m.m, first_more (λ (r : Port) n. memory_line r.name (t n)) xs c.loop-m.m c.index-memories-m.result within)
          (appends_both (g.O.Sink.contents c.args.out.now) (g.O.Sink.contents c.loop-m.out) (g.O.Sink.contents c.report_memory.new.out) (memory_lines t (take c.loop-m.m xs)) (memory_line (get_or xs c.loop-m.m c.index-memories-m.result).name (t c.loop-m.m)) c.loop-m.invariant.0 (rw line at c.in_ok-report_memory.ensures.whole)),
      omega (arith, c.loop-m.invariant.1, c.in_ok-report_memory.ensures.later),
    )
