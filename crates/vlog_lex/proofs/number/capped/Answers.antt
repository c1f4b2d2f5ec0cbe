use Rattle.std.proofs.Common.{◌∙◌, arith}
use Rattle.std.specs.Str.Parse.{digits_value}
use Rattle.vlog_lex.proofs.Capped.{cut_more, cut_all}
use Rattle.vlog_lex.proofs.number.capped.Goals as goal

pub loop-b-preserved : goal.loop-b-preserved
loop-b-preserved c = record {
  same = c.loop-b.invariant.same ∙ cut_more c.args.most c.loop-b.value c.min-value.result c.worth.result c.loop-b.b-index c.args.digits.now (omega arith) c.worth.ensures.value c.min-value.ensures;
  least = omega (arith, c.min-value.ensures);
}

pub returns-clause-value : goal.returns-clause-value
returns-clause-value c = cut_all c.args.most c.loop-b.value c.loop-b.b-index (digits_value 10 c.args.digits.now) c.args.digits.now (omega arith) c.loop-b.invariant.same c.loop-b.invariant.least
