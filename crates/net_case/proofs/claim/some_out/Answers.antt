use Rattle.std.proofs.Common.{◌≡◌, ℕ, ◌<◌, length, false, sym, subst, ⊎_elim, arith}
use Rattle.std.specs.Prelude.{slice_index_or}
use Rattle.std.proofs.lemmas.Bool.{cases_eq}
use Rattle.net_case.specs.Home.{outs}
use Rattle.net_case.proofs.Outs.{not_out}
use Rattle.net_case.proofs.claim.some_out.Goals as goal

pub loop-j-preserved : goal.loop-j-preserved
loop-j-preserved g c = λ k l.
    let homes = c.args.homes.now.items in
    let j = c.loop-j.j in
    let inside : j < length homes = let t = c.loop-j-test.true in let e = c.len-j-end.ensures in omega arith in
    ⊎_elim
    (λ (e : k ≡ j). subst (λ (n : ℕ). slice_index_or (outs homes) n false ≡ false) (sym e) (not_out homes j c.index.result.now c.index.ensures inside c.if-is_none.ensures))
    (λ (d : k ≡ j → ⊥). c.loop-j.invariant k (omega arith))
    (cases_eq k j)
