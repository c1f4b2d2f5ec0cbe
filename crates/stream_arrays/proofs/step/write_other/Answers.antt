use Rattle.std.proofs.Common.{◌≡◌, [], refl, ap, sym, ◌∙◌, arith}
use Rattle.std.specs.Prelude.{is_some}
use Rattle.stream_arrays.specs.Reading.{known}
use Rattle.stream_arrays.specs.Written as spec
use Rattle.stream_arrays.specs.Writing.{Writing, writing}
use Rattle.stream_arrays.proofs.Steps.{other_done}
use Rattle.stream_arrays.proofs.Writers.{fits}
use Rattle.tapa_base.proofs.Got.{empty_of as nil_of}
use Rattle.stream_arrays.proofs.step.write_other.Goals as goal

pub returns-in_default-clause-steps : goal.returns-in_default-clause-steps
returns-in_default-clause-steps c =
    let e : c.args.lexemes.now ≡ [] = nil_of c.args.lexemes.now (omega arith) in (
      record { written = []; scope = known c.args.scope.now; more = 0 },
      ap (spec.other_step c.args.text.now (known c.args.scope.now) c.args.before.now) e,
      record { scope = refl; sized = refl; text = sym (fits c.args.out.now) },
    )

pub returns-clause-steps : goal.returns-clause-steps
returns-clause-steps c =
    other_done c.args.text.now (known c.args.scope.now) c.args.before.now c.args.lexemes.now _ (known c.pass.new.self) c.text_of.result.now (writing c.args.out.now).text (writing c.put.new.self).text (omega arith)
    (sym (c.is_some.ensures ∙ ap is_some c.array_at.ensures) ∙ c.if-is_some.false)
    c.text_of.ensures c.in_ok-pass.ensures.ok (ap (λ (z : Writing). z.text) c.in_ok-put.ensures)
