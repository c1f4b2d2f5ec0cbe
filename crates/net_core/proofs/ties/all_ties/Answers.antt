use Rattle.std.proofs.Common.{length, [], ◌∷◌, ap, ◌∙◌, subst, sym, arith, length-append}
use Rattle.net_core.specs.declared.ties.Ties.{Ties}
use Rattle.net_core.specs.Ties.{AreTiesOf}
use Rattle.net_core.proofs.Loaded.{each_push}
use Rattle.net_core.proofs.ties.all_ties.Goals as goal

pub loop-i-preserved : goal.loop-i-preserved
loop-i-preserved c =
    let program = c.args.program.now in
    let all = c.loop-i.all.items in
    let ties : Ties = record { ports = c.in_ok-ports.ports; near = c.in_ok-near.near } in
    let len = c.loop-i.invariant.len in
    let more = ap length c.in_ok-push.ensures.items ∙ length-append all (ties ∷ []) in
    let here : AreTiesOf program c.loop-i.i ties = record { as_many = c.in_ok-ports.ensures.as_many; each = c.in_ok-ports.ensures.each; near = c.in_ok-near.ensures } in
    record {
      len = omega arith;
      each = each_push all _ ties (AreTiesOf program) c.in_ok-push.ensures.items c.loop-i.invariant.each (subst (λ i. AreTiesOf program i ties) (sym len) here);
    }
