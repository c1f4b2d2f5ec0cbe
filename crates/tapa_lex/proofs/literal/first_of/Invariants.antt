use Rattle.std.proofs.Common.{◌≡◌, drop}
use Rattle.tapa_syntax.specs.Literals as literals
use Rattle.tapa_lex.proofs.literal.first_of.Given as goal

abbrev pub invariant-loop-kind : goal.invariant-loop-kind
invariant-loop-kind l = literals.first_that_holds l.value l.kinds ≡ literals.first_that_holds l.value (drop l.kind-index l.kinds)
