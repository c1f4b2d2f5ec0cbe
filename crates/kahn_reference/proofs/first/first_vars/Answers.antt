use Rattle.std.proofs.Common.{◌+◌, ℕ, List, drop, sym, ap, ◌∙◌, arith}
use Rattle.std.specs.Prelude.{Vec}
use Rattle.std.specs.declared.alloc.Global.{Global}
use Rattle.kahn_model.specs.Start.{with_values}
use Rattle.kahn_reference.proofs.RoundLists.{with_next, with_fewer}
use Rattle.kahn_reference.proofs.first.first_vars.Goals as goal
use Rattle.kahn_reference.proofs.first.first_vars.Goals.{then-p-values, else-p-values}

pub loop-p-preserved : goal.loop-p-preserved
loop-p-preserved c =
    let xs = c.args.leaf.now.scalars.items in
    let vs = c.args.values.now in
    let p = c.loop-p.p in
    let rest = λ (l : List ℕ). with_values (drop (p + 1) xs) (drop (p + 1) vs) l in
    elim c.if-p-values.branch [
      | then-p-values w ↦
          ap (λ (v : Vec ℕ Global). rest v.items) w.vars-is
          ∙ ap rest w.set_in.ensures
          ∙ sym (with_next xs c.deref-params.result.now vs p c.loop-p.vars.items c.deref-params.ensures.value c.loop-p-test.true w.if-p-values.true)
          ∙ c.loop-p.invariant
      | else-p-values w ↦
          ap (λ (v : Vec ℕ Global). rest v.items) w.vars-is
          ∙ sym (with_fewer xs vs p (p + 1) c.loop-p.vars.items w.if-p-values.false (omega arith))
          ∙ c.loop-p.invariant
    ]
