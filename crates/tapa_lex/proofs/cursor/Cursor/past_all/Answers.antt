use Rattle.std.proofs.Common.{◌++◌, take, arith, subst, sym}
use Rattle.std.proofs.lemmas.List.{take_all, append-nil}
use Rattle.tapa_base.specs.Gaps.{Bytes}
use Rattle.tapa_lex.specs.Standing.{IsBehind}
use Rattle.tapa_lex.proofs.Places.{behind_more}
use Rattle.tapa_lex.proofs.cursor.Cursor.past_all.Goals as goal

pub loop-b-init : goal.loop-b-init
loop-b-init c = (omega arith, omega arith, omega arith, λ before h. subst (λ (z : Bytes). IsBehind z c.args.self) (sym (append-nil before)) h)

pub loop-b-preserved : goal.loop-b-preserved
loop-b-preserved c = (
  omega arith,
  omega arith,
  omega arith,
  λ before h. subst (λ (z : Bytes). IsBehind z c.past-cursor.result) (behind_more before c.args.bytes.now c.loop-b.b-index (omega arith)) (c.past-cursor.ensures.behind (before ++ take c.loop-b.b-index c.args.bytes.now) (c.loop-b.invariant.3 before h)),
)

pub returns : goal.returns
returns c = λ before h. subst (λ (z : Bytes). IsBehind (before ++ z) c.loop-b.cursor) (take_all c.loop-b.b-index c.args.bytes.now (omega arith)) (c.loop-b.invariant.3 before h)
