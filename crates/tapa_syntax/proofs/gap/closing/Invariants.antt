use Rattle.std.proofs.Common.{◌≡◌, ◌+◌, length}
use Rattle.std.specs.Prelude.{option_map}
use Rattle.tapa_syntax.specs.Comments as comments
use Rattle.tapa_syntax.proofs.gap.closing.Given as goal

abbrev pub invariant-loop-rest : goal.invariant-loop-rest
invariant-loop-rest l = (comments.closing l.text ≡ option_map (λ n. l.passed + n) (comments.closing l.rest)) × (l.passed + length l.rest ≡ length l.text)

abbrev pub decreases-loop-rest : goal.decreases-loop-rest
decreases-loop-rest l = length l.rest
