use Rattle.std.proofs.Common.{sym, ap, ◌∙◌, length, arith, length-append, [], ◌∷◌}
use Rattle.std.specs.Prelude.{slice_get}
use Rattle.hw_top.proofs.Lowering.{one_more}
use Rattle.hw_top.proofs.machines.machines_of.Goals as goal

pub loop-b-preserved : goal.loop-b-preserved
loop-b-preserved c =
    let is = c.in_ok-push.ensures.items in
    let before = c.loop-b.invariant.as_many in
    let long = ap length is ∙ length-append c.loop-b.machines.items (c.in_ok-machine.machine ∷ []) in
    record {
      as_many = omega (arith, before, long);
      each = one_more c.args.program.now.bodies.items c.loop-b.machines.items c.push.new.self.items c.in_ok-machine.machine c.loop-b.invariant.each is
          (λ leaf at.
          let there = ap (slice_get c.args.program.now.bodies.items) (sym before) ∙ at in
          c.in_ok-machine.ensures leaf there (c.requires.leaves c.loop-b.b leaf there));
    }
