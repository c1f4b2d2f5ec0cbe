use Rattle.std.proofs.Common.{◌≡◌, ◌∙◌, ℕ, ◌<◌, List, length, true, slice_get, slice_index_or, Some, sym, ap, subst, arith}
use Rattle.net_core.specs.declared.body.Pause.{Pause}
use Rattle.net_case.specs.declared.lot.Lot.{Lot}
use Rattle.net_case.specs.Batch.{Ran}
use Rattle.coro_threads.specs.Out.{AreOut}
use Rattle.coro_threads.proofs.Lots.{all_ready, ran_same, ran_some}
use Rattle.coro_threads.proofs.Outs.{out_later}
use Rattle.coro_threads.proofs.Slices.{whole}
use Rattle.tapa_base.proofs.Got.{some_at as has_item}
use Rattle.coro_threads.proofs.round.run_ready.Goals as goal

pub run_all-requires-clause-ready : goal.run_all-requires-clause-ready
run_all-requires-clause-ready g c κs within = λ i d.
    subst (λ (xs : List Lot). i < length xs → (slice_index_or xs i d).ready ≡ true) (sym c.as_mut_slice.ensures.value) (all_ready c.args.batches.now.items c.requires.ready i d)

pub commit_all-requires : goal.commit_all-requires
commit_all-requires g c =
    let xs = c.args.batches.now.items in
    let ys = c.run_all.new.batches in
    let is = c.as_mut_slice.ensures.value in
    let len = c.run_all.ensures.len ∙ ap length is in
    let ran = subst (λ (zs : List Lot). (i : ℕ) (d : Lot) → i < length zs → (pause : Pause) × Ran (slice_index_or zs i d) (slice_index_or ys i d) pause) is c.run_all.ensures.ran in
    subst (AreOut c.args.case.now) (sym (whole c.args.batches.now.len xs ys _ c.args.batches.now.ok.0 len)) (out_later c.args.case.now xs ys (ran_same xs ys len ran) c.requires.out)

pub returns-clause-progress : goal.returns-clause-progress
returns-clause-progress g c =
    let xs = c.args.batches.now.items in
    let ys = c.run_all.new.batches in
    let is = c.as_mut_slice.ensures.value in
    let len = c.run_all.ensures.len ∙ ap length is in
    let ran = subst (λ (zs : List Lot). (i : ℕ) (d : Lot) → i < length zs → (pause : Pause) × Ran (slice_index_or zs i d) (slice_index_or ys i d) pause) is c.run_all.ensures.ran in
    let some = c.requires.some in
    let first = has_item ys 0 (omega arith) in
    c.commit_all.ensures.progress 0 first.0
    (subst (λ zs. slice_get zs 0 ≡ Some first.0) (sym (whole c.args.batches.now.len xs ys _ c.args.batches.now.ok.0 len)) first.1)
    (ran_some xs ys len ran c.args.case.now c.requires.out 0 first.0 first.1)
