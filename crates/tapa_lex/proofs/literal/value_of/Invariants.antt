use Rattle.std.proofs.Common.{◌≡◌, ◌<◌, ◌^◌, drop}
use Rattle.tapa_syntax.specs.Literals as literals
use Rattle.tapa_lex.proofs.literal.value_of.Given as goal

abbrev pub invariant-loop-b : goal.invariant-loop-b
invariant-loop-b l = (literals.value_behind l.base 0 l.digits ≡ literals.value_behind l.base l.value (drop l.b-index l.digits)) × (l.value < 2 ^ 64)
