use Rattle.std.proofs.Common.{ap, sym, ◌∙◌, arith}
use Rattle.tapa_syntax.specs.Symbols.{text_of}
use Rattle.stream_arrays.specs.Words.{element_name}
use Rattle.stream_arrays.specs.Writing.{writing, said_word}
use Rattle.stream_arrays.proofs.Writers.{said_elements, full_elements}
use Rattle.stream_arrays.proofs.declaration.write_elements.Goals as goal

pub loop-i-preserved : goal.loop-i-preserved
loop-i-preserved c = record {
  written =
      said_elements (text_of c.args.text.now c.args.name.now) c.loop-i.i (writing c.args.out.now) (writing c.loop-i.out) (writing c.word.new.self) (writing c.element-in-loop-i.new.self) (omega arith) c.loop-i.invariant.written c.in_ok-word.ensures
      (c.in_ok-element-2.ensures ∙ ap (λ z. said_word (writing c.word.new.self) (element_name z c.loop-i.i)) c.text_of-word.ensures);
  within = omega arith;
}

pub returns-then-is_full-clause-ok : goal.returns-then-is_full-clause-ok
returns-then-is_full-clause-ok c =
    full_elements (text_of c.args.text.now c.args.name.now) c.loop-i.i c.args.count (writing c.args.out.now) (writing c.loop-i.out) c.loop-i.invariant.within c.loop-i.invariant.written (sym c.is_full.ensures ∙ c.if-is_full.true)
