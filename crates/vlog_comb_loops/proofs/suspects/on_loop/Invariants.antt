use Rattle.std.proofs.Common.{Bool, take}
use Rattle.tapa_base.specs.Lists.{Has}
use Rattle.vlog_tree.specs.Table.{Name}
use Rattle.vlog_comb_loops.specs.Questions.{Question}
use Rattle.vlog_comb_loops.specs.Search.{LoopsBy, IsEvidence}
use Rattle.vlog_comb_loops.proofs.suspects.on_loop.Given as goal

abbrev pub invariant-loop-question : goal.invariant-loop-question
invariant-loop-question l =
    (is_top : Name → Bool) → IsEvidence l.library is_top l.loops → (e : Question) → Has (take l.question-index l.question-items) e
    → LoopsBy l.library is_top l.loops.suspects.items l.owner l.name e → ⊥
