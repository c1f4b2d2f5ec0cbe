use Rattle.std.proofs.Common.{◌≡◌, ℕ, ◌++◌, max, length, sym, ap, ◌∙◌, arith}
use Rattle.task_fsm.specs.Machine.{StateForm}
use Rattle.hw_lines.specs.Shape.{state_count}
use Rattle.hw_lines.specs.States.{reads_at, index_of, value_of}
use Rattle.hw_lines.specs.Wires.{read_count, reads_in}
use Rattle.hw_lines.specs.Texts.{most}
use Rattle.hw_nets.specs.Shapes.{form}
use Rattle.hw_task.proofs.ReadPorts.{most_more}
use Rattle.hw_task.proofs.reads.most_reads.Goals as goal

pub loop-k-preserved : goal.loop-k-preserved
loop-k-preserved c =
    let f = λ (k : ℕ). length (reads_at (form c.args.shape.now) k) in
    let reads : c.in_ok-reads.reads ≡ f c.loop-k.k =
    c.in_ok-reads.ensures ∙ ap (λ (F : StateForm). length (reads_in 0 (index_of F) ++ reads_in (read_count (index_of F)) (value_of F))) c.state.ensures in
    c.larger-most.ensures ∙ ap (λ m. max m c.in_ok-reads.reads) c.loop-k.invariant ∙ ap (λ r. max (most f c.loop-k.k) r) reads ∙ sym (most_more f c.loop-k.k)

pub returns : goal.returns
returns c =
    let S = form c.args.shape.now in
    let all : c.loop-k.k ≡ state_count S = omega (arith, c.in_ok-count.ensures) in
    c.loop-k.invariant ∙ ap (most (λ k. length (reads_at S k))) all
