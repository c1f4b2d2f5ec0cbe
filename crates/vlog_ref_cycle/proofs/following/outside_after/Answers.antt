use Rattle.std.proofs.Common.{◌≡◌, Option, [], subst, ℕ, rules}
use Rattle.std.specs.Option.{IfSome}
use Rattle.std.specs.Prelude.{Vec}
use Rattle.std.specs.declared.alloc.Global.{Global}
use Rattle.vlog_ref_cycle.specs.Moments.{InEachRun}
use Rattle.vlog_ref_cycle.specs.Next.{stored_cells}
use Rattle.vlog_ref_cycle.proofs.following.outside_after.Goals as goal

pub returns-in_ok-ready-in-Some-clause-value : goal.returns-in_ok-ready-in-Some-clause-value
returns-in_ok-ready-in-Some-clause-value c =
    let design = c.args.design.now in
    let now = c.args.now.now in
    let m = c.args.m.now in
    let ready : c.in_ok-ready-in-Some.ready.items ≡ m.ready.items = search rules in
    let cells = subst (λ (o : Option (Vec ℕ Global)). IfSome o (λ v. InEachRun design now (λ env nets. v.items ≡ stored_cells (nets now.cycle []) m.name m.cells.items))) c.in-Some.is c.in_ok-cells.ensures.value in
    λ env nets q. (c.in_ok-name-in-Some.ensures, ready, cells env nets q)
