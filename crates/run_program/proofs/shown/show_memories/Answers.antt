use Rattle.std.proofs.Common.{◌≡◌, ◌<◌, ℕ, List, length, take, drop, suc, get_or, ◌∙◌, ap, add-one, arith}
use Rattle.tapa_files.proofs.Known.{part_so_far, part_of_next, appends_both}
use Rattle.tapa_syntax.specs.declared.program.Memory.{Memory}
use Rattle.net_core.specs.State.{count}
use Rattle.run_data.specs.Report.{memory_line}
use Rattle.run_program.specs.Run.{cells_shown, memory_lines}
use Rattle.net_core.specs.Bounded.{values_of}
use Rattle.run_data.proofs.Showing.{first_so_far, first_next, first_more}
use Rattle.tapa_base.proofs.Got.{on_err}
use Rattle.run_program.proofs.shown.show_memories.Goals as goal

-- the line that a turn writes is that of its memory
line_is : (name cells : List ℕ) (xs : List Memory) (i : ℕ) (x : Memory) (t : ℕ → List ℕ) → name ≡ x.name → x ≡ get_or xs i x → cells ≡ t i → memory_line name cells ≡ memory_line (get_or xs i x).name (t i)
line_is name cells xs i x t a b e = ap (λ (l : List ℕ). memory_line l cells) (a ∙ ap (λ (r : Memory). r.name) b) ∙ ap (λ (cs : List ℕ). memory_line (get_or xs i x).name cs) e

pub returns-in_err-cells-clause-part : goal.returns-in_err-cells-clause-part
returns-in_err-cells-clause-part g c =
    let t = cells_shown c.args.program.now (values_of c.args.input.now) (count c.args.net.now) c.args.last in
    let xs = c.args.program.now.memories.items in
    on_err c.from_residual.result
    (part_so_far (g.O.Sink.contents c.args.out.now) (g.O.Sink.contents c.loop-m.out) (memory_lines t 0 xs) (memory_lines t 0 (take c.loop-m.m xs)) _ (first_so_far (λ (r : Memory) n. memory_line r.name (t n)) xs c.loop-m.m) c.loop-m.invariant.0)

pub returns-in_err-cells-clause-later : goal.returns-in_err-cells-clause-later
returns-in_err-cells-clause-later g c = c.loop-m.invariant.1

pub returns-in_err-report_memory-clause-part : goal.returns-in_err-report_memory-clause-part
returns-in_err-report_memory-clause-part g c =
    let t = cells_shown c.args.program.now (values_of c.args.input.now) (count c.args.net.now) c.args.last in
    let xs = c.args.program.now.memories.items in
    let within : c.loop-m.m < length xs = omega (arith, c.loop-m-test.true, c.len-m-end.ensures) in
    let line = line_is c.bytes-name.result.now c.in_ok-cells.cells.now xs c.loop-m.m c.index.result.now t c.bytes-name.ensures.value c.index.ensures c.in_ok-cells.ensures in
    on_err c.from_residual-in_err-report_memory.result
    (part_of_next (g.O.Sink.contents c.args.out.now) (g.O.Sink.contents c.loop-m.out) (g.O.Sink.contents c.report_memory.new.out) (memory_lines t 0 xs) (memory_lines t 0 (take c.loop-m.m xs)) (memory_line (get_or xs c.loop-m.m c.index.result.now).name (t c.loop-m.m)) (memory_lines t (suc c.loop-m.m) (drop (suc c.loop-m.m) xs)) (first_next (λ (r : Memory) n. memory_line r.name (t n)) xs c.loop-m.m c.index.result.now within) c.loop-m.invariant.0 (rw line at c.in_err-report_memory.ensures.part))

pub loop-m-preserved : goal.loop-m-preserved
loop-m-preserved g c =
    let t = cells_shown c.args.program.now (values_of c.args.input.now) (count c.args.net.now) c.args.last in
    let xs = c.args.program.now.memories.items in
    let within : c.loop-m.m < length xs = omega (arith, c.loop-m-test.true, c.len-m-end.ensures) in
    let line = line_is c.bytes-name.result.now c.in_ok-cells.cells.now xs c.loop-m.m c.index.result.now t c.bytes-name.ensures.value c.index.ensures c.in_ok-cells.ensures in (
      rw (add-one c.loop-m.m, first_more (λ (r : Memory) n. memory_line r.name (t n)) xs c.loop-m.m c.index.result.now within) (appends_both (g.O.Sink.contents c.args.out.now) (g.O.Sink.contents c.loop-m.out) (g.O.Sink.contents c.report_memory.new.out) (memory_lines t 0 (take c.loop-m.m xs)) (memory_line (get_or xs c.loop-m.m c.index.result.now).name (t c.loop-m.m)) c.loop-m.invariant.0 (rw line at c.in_ok-report_memory.ensures.whole)),
      omega (arith, c.loop-m.invariant.1, c.in_ok-report_memory.ensures.later),
    )
