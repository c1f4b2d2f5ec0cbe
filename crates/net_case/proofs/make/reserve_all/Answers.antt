use Rattle.std.proofs.Common.{◌≡◌, ◌<◌, Some, length, refl, ◌∙◌, arith}
use Rattle.std.specs.Prelude.{slice_get}
use Rattle.std.proofs.lemmas.List.{length-set}
use Rattle.std.proofs.lemmas.Option.{slice_get_read, slice_get_within}
use Rattle.net_case.proofs.Reserved.{kept_more, spaces_more}
use Rattle.net_case.proofs.make.reserve_all.Goals.{After-index_mut}
use Rattle.net_case.proofs.make.reserve_all.Goals as goal

module _ (c : After-index_mut) where
  inside : c.loop-i.i < length c.loop-i.all.items
  inside = let len = c.loop-i.invariant.len in let test = c.loop-i-test.true in let end = c.len-i-end.ensures in let ok = c.args.all.now.ok in omega arith

  at : slice_get c.loop-i.all.items c.loop-i.i ≡ Some c.index_mut.result.now
  at = slice_get_read c.loop-i.all.items _ c.loop-i.i c.index_mut.result.now refl inside c.index_mut.ensures.value

pub returns-in_err-reserve_at-clause-kept : goal.returns-in_err-reserve_at-clause-kept
returns-in_err-reserve_at-clause-kept c =
    let k = (goal.at.returns-in_err-reserve_at-clause-kept c).After-index_mut in
    kept_more c.loop-i.all.items c.loop-i.i c.index_mut.result.now c.reserve_at.new.ports (inside k) (at k) c.args.all.now.items c.loop-i.invariant.kept c.reserve_at.ensures.kept

pub loop-i-preserved : goal.loop-i-preserved
loop-i-preserved c =
    let inv = c.loop-i.invariant in
    let all = c.loop-i.all.items in
    let k = (goal.at.loop-i-preserved c).After-index_mut in
    record {
      len = length-set all c.loop-i.i c.reserve_at.new.ports ∙ inv.len;
      kept = kept_more all c.loop-i.i c.index_mut.result.now c.reserve_at.new.ports (inside k) (at k) c.args.all.now.items inv.kept c.reserve_at.ensures.kept;
      spaces = spaces_more all c.loop-i.i c.index_mut.result.now c.reserve_at.new.ports (inside k) (at k) c.args.program.now inv.spaces c.in_ok-reserve_at.ensures.spaces;
    }

pub returns-clause-spaces : goal.returns-clause-spaces
returns-clause-spaces c = λ i x e.
    let inv = c.loop-i.invariant in
    let len = inv.len in
    let w = slice_get_within c.loop-i.all.items i x e in
    let past = c.loop-i-test.false in
    let end = c.len-i-end.ensures in
    let ok = c.args.all.now.ok in
    inv.spaces i x (omega arith) e
