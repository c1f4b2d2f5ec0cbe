use Rattle.std.proofs.Common.{◌≡◌, ◌<◌, [], subst, sym, arith}
use Rattle.std.specs.Prelude.{slice_get, length}
use Rattle.std.proofs.lemmas.Option.{slice_get-get_or}
use Rattle.net_core.specs.Ports.{carried_in, waiting_in}
use Rattle.net_core.proofs.Constructed.{ends_push, get_push_all}
use Rattle.net_core.proofs.construct.empty_ports.Goals as goal

pub loop-end-preserved : goal.loop-end-preserved
loop-end-preserved c = record {
  ends = ends_push c.loop-end.ports.items _ _ c.args.ends.now c.loop-end.end-index c.in_ok-push.ensures.items c.loop-end.invariant.ends (let l : c.loop-end.end-index < length c.args.ends.now = (let t = c.loop-end-test.true in omega arith) in slice_get-get_or c.args.ends.now c.loop-end.end-index _ l);
  none = λ p. subst (λ l. carried_in (slice_get l p) ≡ []) (sym c.in_ok-push.ensures.items) (get_push_all carried_in [] c.loop-end.ports.items _ c.loop-end.invariant.none c.new-in-loop-end.ensures.items p);
  none_wait = λ p. subst (λ l. waiting_in (slice_get l p) ≡ []) (sym c.in_ok-push.ensures.items) (get_push_all waiting_in [] c.loop-end.ports.items _ c.loop-end.invariant.none_wait c.new.ensures.items p);
}
