use Rattle.std.proofs.Common.{◌+◌, ap, ◌∙◌, arith}
use Rattle.std.specs.Prelude.{List, Vec, Err}
use Rattle.kahn_reference.specs.declared.slow.Fault.{Fault}
use Rattle.kahn_reference.proofs.Kept.{refused}
use Rattle.kahn_reference.proofs.KeptRounds.{round_tokens}
use Rattle.std.specs.declared.alloc.Global.{Global}
use Rattle.tapa_base.specs.declared.token.Token.{Token}
use Rattle.kahn_reference.specs.Slow.{whole}
use Rattle.kahn_model.specs.Rows.{rows_of}
use Rattle.kahn_reference.proofs.RoundLists.{round_is}
use Rattle.kahn_reference.proofs.rounds.streams.Goals as goal

pub loop-round-preserved : goal.loop-round-preserved
loop-round-preserved c = λ w.
    round_is c.args.program.now w c.args.scalars.now (rows_of c.args.memories.now) c.loop-round.round (c.loop-round.round + 1) c.deref.result.now c.in_ok-lists-2.lists.items (omega arith)
    (λ s. ap (λ (l : List (Vec Token Global)). whole l s) c.deref.ensures.value ∙ c.loop-round.invariant w s)
    c.in_ok-lists-2.ensures.many c.in_ok-lists-2.ensures.each

pub returns-in_err-lists-2-clause-fault : goal.returns-in_err-lists-2-clause-fault
returns-in_err-lists-2-clause-fault c = λ w f h.
    let tokens = round_tokens c.args.program.now w c.args.scalars.now (rows_of c.args.memories.now) f c.loop-round.round c.deref.result.now (λ s. ap (λ (l : List (Vec Token Global)). whole l s) c.deref.ensures.value ∙ c.loop-round.invariant w s) in
    refused c.from_residual-in_err-lists-2.result c.in_err-lists-2.field-0.0 c.from_residual-in_err-lists-2.ensures.1
    (λ q. c.in_err-lists-2.ensures.fault w f tokens (ap (λ (y : Fault). Err y) q)) h
