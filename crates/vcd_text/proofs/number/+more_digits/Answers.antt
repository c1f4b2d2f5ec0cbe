use Rattle.std.proofs.Common.{length, ap, sym, subst, arith}
use Rattle.tapa_base.specs.Gaps.{Bytes}
use Rattle.vcd_text.specs.Along.{Stops}
use Rattle.vcd_text.specs.Digits.{AreDigits}
use Rattle.vcd_text.proofs.Common.{then_err, before_byte}
use Rattle.vcd_text.proofs.Digits.{digits_none, digits_stop, digits_next, found_end, found_more, call_more, room_next}
use Rattle.tapa_base.proofs.Got.{map_if_ok as then_ok}
use Rattle.vcd_text.proofs.number.+more_digits.Goals as goal

pub judge-requires : goal.judge-requires
judge-requires t c = λ up. room_next c.args.number c.args.room _ c.requires.few up

pub more_digits-requires : goal.more_digits-requires
more_digits-requires t c =
    let r = call_more c.args.before c.args.number c.args.room c.in-Some.byte c.in-More.next _ c.requires.some c.requires.few c.in-More.ensures in
    (omega (arith, c.decreases, c.in-More.ensures.4), (r.0, (r.1, r.2)))

pub returns-in_default-clause-stop : goal.returns-in_default-clause-stop
returns-in_default-clause-stop t c =
    (0, ap (λ (l : Bytes). length l) (sym c.in_default.ensures), subst (λ (z : Bytes). Stops (AreDigits c.args.before c.args.number c.args.room) z 0) (sym c.in_default.ensures) (digits_none c.args.before c.args.number c.args.room c.requires.some c.requires.can))

pub returns-in-End-clause-found : goal.returns-in-End-clause-found
returns-in-End-clause-found t c = found_end c.args.before c.args.number c.args.room c.in-Some.byte c.in-Some.rest.now c.args.text.now c.in-End.ensures.0 c.in-End.ensures.1 c.in-Some.ensures

pub returns-in-More-clause-found : goal.returns-in-More-clause-found
returns-in-More-clause-found t c = then_ok _ _ c.more_digits.result (λ r p. found_more c.args.before c.args.number c.args.room c.in-Some.byte c.in-More.next r.0 c.in-Some.rest.now c.args.text.now r.1.now p.0 c.in-More.ensures p.1 p.2 c.in-Some.ensures) c.more_digits.ensures.found

pub returns-in-More-clause-stop : goal.returns-in-More-clause-stop
returns-in-More-clause-stop t c = then_err _ _ c.more_digits.result
    (λ left p. before_byte (AreDigits c.args.before c.args.number c.args.room) _ c.in-Some.byte c.in-Some.rest.now c.args.text.now left c.in-Some.ensures
    (λ n s. digits_next c.args.before c.args.number c.args.room c.in-Some.byte c.in-More.next c.in-Some.rest.now n c.in-More.ensures s) p) c.more_digits.ensures.stop

pub returns-in-Stop-clause-stop : goal.returns-in-Stop-clause-stop
returns-in-Stop-clause-stop t c =
    (0, omega arith, subst (λ (z : Bytes). Stops (AreDigits c.args.before c.args.number c.args.room) z 0) (sym c.in-Some.ensures) (digits_stop c.args.before c.args.number c.args.room c.in-Some.byte c.in-Some.rest.now c.requires.some c.requires.can c.in-Stop.ensures.0 c.in-Stop.ensures.1))
