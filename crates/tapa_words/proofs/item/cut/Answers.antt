use Rattle.std.proofs.Common.{Some, None, arith, ap, sym, ◌∙◌}
use Rattle.std.proofs.lemmas.Str.Pattern.{split_parts}
use Rattle.tapa_words.specs.Reading.{name_in, value_in}
use Rattle.tapa_words.proofs.Cuts.{name_at, value_at, name_whole, value_none}
use Rattle.tapa_words.proofs.item.cut.Goals as goal

pub returns-in-Some-clause-name : goal.returns-in-Some-clause-name
returns-in-Some-clause-name c =
    let parts = split_parts 61 c.args.word.now (Some (c.in-Some.name, c.in-Some.value)) c.in-Some.ensures.cases (omega arith) in
    sym (ap name_in parts.0 ∙ name_at c.in-Some.name.now c.in-Some.value.now parts.1)

pub returns-in-Some-clause-value : goal.returns-in-Some-clause-value
returns-in-Some-clause-value c =
    let parts = split_parts 61 c.args.word.now (Some (c.in-Some.name, c.in-Some.value)) c.in-Some.ensures.cases (omega arith) in
    sym (ap value_in parts.0 ∙ value_at c.in-Some.name.now c.in-Some.value.now parts.1)

pub returns-in-None-clause-name : goal.returns-in-None-clause-name
returns-in-None-clause-name c = sym (name_whole c.args.word.now (split_parts 61 c.args.word.now None c.in-None.ensures.cases (omega arith)))

pub returns-in-None-clause-value : goal.returns-in-None-clause-value
returns-in-None-clause-value c = sym (value_none c.args.word.now (split_parts 61 c.args.word.now None c.in-None.ensures.cases (omega arith)))
