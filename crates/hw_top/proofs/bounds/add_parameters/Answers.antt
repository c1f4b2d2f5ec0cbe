use Rattle.std.proofs.Common.{◌≡◌, ℕ, length, arith}
use Rattle.std.specs.Prelude.{slice_get}
use Rattle.hw_top_lines.specs.Bounds.{parameter_kind, bound_elements}
use Rattle.hw_nets.proofs.Grows.{each_more, each_end}
use Rattle.hw_top.proofs.bounds.add_parameters.Goals as goal

pub loop-p-preserved : goal.loop-p-preserved
loop-p-preserved c =
    let f = λ (p : ℕ). bound_elements c.args.program.now c.args.i p (parameter_kind c.args.leaf.now p) (slice_get c.args.x.now.scalars.items p) in
    each_more c.args.draft.now c.loop-p.draft c.add_parameter.new.draft f c.loop-p.p c.loop-p.invariant c.in_ok-add_parameter.ensures

pub returns : goal.returns
returns c =
    let f = λ (p : ℕ). bound_elements c.args.program.now c.args.i p (parameter_kind c.args.leaf.now p) (slice_get c.args.x.now.scalars.items p) in
    let all : c.loop-p.p ≡ length c.args.leaf.now.scalars.items = omega (arith, c.in_ok-count.ensures, c.args.leaf.now.scalars.ok.0) in
    each_end c.args.draft.now c.loop-p.draft f c.loop-p.p (length c.args.leaf.now.scalars.items) all c.loop-p.invariant
