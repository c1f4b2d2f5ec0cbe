use Rattle.std.proofs.Common.{◌≡◌, ℕ, length, arith}
use Rattle.std.specs.Prelude.{slice_get}
use Rattle.hw_top_lines.specs.Texts.{scalar_port}
use Rattle.hw_nets.proofs.Grows.{each_more, each_end}
use Rattle.hw_top.proofs.ports.add_scalars.Goals as goal

pub loop-x-preserved : goal.loop-x-preserved
loop-x-preserved c =
    let f = λ (x : ℕ). scalar_port (slice_get c.args.program.now.scalars.items x) in
    each_more c.args.draft.now c.loop-x.draft c.add_scalar.new.draft f c.loop-x.x c.loop-x.invariant c.in_ok-add_scalar.ensures

pub returns : goal.returns
returns c =
    let f = λ (x : ℕ). scalar_port (slice_get c.args.program.now.scalars.items x) in
    let all : c.loop-x.x ≡ length c.args.program.now.scalars.items = omega (arith, c.in_ok-count.ensures, c.args.program.now.scalars.ok.0) in
    each_end c.args.draft.now c.loop-x.draft f c.loop-x.x (length c.args.program.now.scalars.items) all c.loop-x.invariant
