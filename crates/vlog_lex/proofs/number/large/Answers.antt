use Rattle.std.proofs.Common.{◌≡◌, ◌∙◌, sym, arith}
use Rattle.std.specs.Str.Parse.{digits_value, digits_value_after}
use Rattle.std.proofs.lemmas.List.{at_drop_all}
use Rattle.vlog_lex.proofs.Capped.{one_more, too_great}
use Rattle.vlog_lex.proofs.number.large.Goals as goal

pub returns-in-None : goal.returns-in-None
returns-in-None c =
    too_great c.args.base c.loop-b.value c.worth.result c.loop-b.b-index c.args.digits.now (omega arith) c.loop-b.invariant.same c.worth.ensures.value c.worth.ensures.least (λ h. c.in-None.ensures {u = tt} h)

pub loop-b-preserved : goal.loop-b-preserved
loop-b-preserved c =
    let next = c.in-Some.ensures {u = tt} in record {
      same = c.loop-b.invariant.same ∙ one_more c.args.base c.loop-b.value c.in-Some.next c.worth.result c.loop-b.b-index c.args.digits.now (omega arith) c.worth.ensures.value next.1;
      fits = omega (arith, next);
    }

pub returns : goal.returns
returns c =
    let is : digits_value c.args.base c.args.digits.now ≡ c.loop-b.value = c.loop-b.invariant.same ∙ at_drop_all (digits_value_after c.args.base c.loop-b.value) c.args.digits.now c.loop-b.b-index (omega arith) in
    (omega (arith, is, c.loop-b.invariant.fits), sym is)
