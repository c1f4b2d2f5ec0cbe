use Rattle.std.proofs.Common.{◌≡◌, ◌+◌, ◌%◌, ◌∙◌, length, ap, sym, subst, arith}
use Rattle.tapa_base.specs.Gaps.{Bytes}
use Rattle.vcd_text.specs.Along.{Stops}
use Rattle.vcd_text.specs.Dump.{identifier}
use Rattle.vcd_text.proofs.Common.{then_err, before_byte}
use Rattle.vcd_text.proofs.Identifiers.{identifier_none, identifier_stop, identifier_next, found_last, found_more}
use Rattle.tapa_base.proofs.Got.{map_if_ok as then_ok}
use Rattle.vcd_text.proofs.identifier.+identifier_at.Goals as goal

pub returns-in_default-clause-stop : goal.returns-in_default-clause-stop
returns-in_default-clause-stop t c =
    (0, ap (λ (l : Bytes). length l) (sym c.in_default.ensures), subst (λ (z : Bytes). Stops (λ w. w ≡ identifier c.args.number) z 0) (sym c.in_default.ensures) (identifier_none c.args.number))

pub returns-then-from-number-clause-stop : goal.returns-then-from-number-clause-stop
returns-then-from-number-clause-stop t c =
    let other : c.in-Some.byte ≡ 33 + c.args.number % 94 → ⊥ = λ e. c.if-from-number.true (c.from.ensures ∙ e) in
    (0, omega arith, subst (λ (z : Bytes). Stops (λ w. w ≡ identifier c.args.number) z 0) (sym c.in-Some.ensures) (identifier_stop c.args.number c.in-Some.byte c.in-Some.rest.now other))

pub returns-then-number-lt94-clause-found : goal.returns-then-number-lt94-clause-found
returns-then-number-lt94-clause-found t c = found_last c.args.number c.in-Some.byte c.in-Some.rest.now c.args.text.now c.if-number-lt94.true (sym c.from.ensures ∙ c.if-from-number.false) c.in-Some.ensures

pub returns-else-number-lt94-clause-found : goal.returns-else-number-lt94-clause-found
returns-else-number-lt94-clause-found t c = then_ok _ _ c.identifier_at.result
    (λ r p. found_more c.args.number c.in-Some.byte c.in-Some.rest.now r.now c.args.text.now c.if-number-lt94.false (sym c.from.ensures ∙ c.if-from-number.false) p c.in-Some.ensures)
    c.identifier_at.ensures.found

pub returns-else-number-lt94-clause-stop : goal.returns-else-number-lt94-clause-stop
returns-else-number-lt94-clause-stop t c = then_err _ _ c.identifier_at.result
    (λ left p. before_byte (λ w. w ≡ identifier c.args.number) _ c.in-Some.byte c.in-Some.rest.now c.args.text.now left c.in-Some.ensures
    (λ n s. identifier_next c.args.number c.in-Some.byte c.in-Some.rest.now n c.if-number-lt94.false (sym c.from.ensures ∙ c.if-from-number.false) s) p) c.identifier_at.ensures.stop
