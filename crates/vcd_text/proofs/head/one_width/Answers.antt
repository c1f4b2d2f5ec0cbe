use Rattle.std.proofs.Common.{◌≡◌, ◌∷◌, ◌++◌, [], ℕ, subst}
use Rattle.std.specs.Prelude.{decimal}
use Rattle.vcd_text.specs.Along.{StopsBefore}
use Rattle.vcd_text.proofs.Common.{exit_err, then_err}
use Rattle.vcd_text.proofs.Sequences.{two_first, two_next}
use Rattle.vcd_text.proofs.head.one_width.Goals as goal

pub returns-in_err-rest-clause-stop : goal.returns-in_err-rest-clause-stop
returns-in_err-rest-clause-stop c = exit_err _ c.from_residual.result c.in_err-rest.field-0.0 c.from_residual.ensures.1
    (subst (λ (n : ℕ). StopsBefore (λ w. w ≡ decimal n ++ 32 ∷ []) c.args.text.now c.in_err-rest.field-0.0) c.from.ensures (two_first (decimal c.from.result) (32 ∷ []) c.args.text.now c.in_err-rest.field-0.0 c.in_err-rest.ensures.stop))

pub returns-clause-stop : goal.returns-clause-stop
returns-clause-stop c = then_err _ _ c.expect.result
    (λ left p. subst (λ (n : ℕ). StopsBefore (λ w. w ≡ decimal n ++ 32 ∷ []) c.args.text.now left) c.from.ensures (two_next (decimal c.from.result) (32 ∷ []) c.in_ok-rest.rest.now c.args.text.now left c.in_ok-rest.ensures.found p))
    c.expect.ensures.stop
