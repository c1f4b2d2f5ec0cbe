use Rattle.vlog_ref_start.proofs.Kept.{whole_kept, no_more_kept}
use Rattle.vlog_ref_start.proofs.cycle_laws.law_next_moment_is_whole.Goals as goal

pub returns-clause-whole : goal.returns-clause-whole
returns-clause-whole c = λ ms top now after whole kept. whole_kept ms top now after kept whole

pub returns-clause-no_more : goal.returns-clause-no_more
returns-clause-no_more c = λ ms top now after none kept. no_more_kept ms top now after kept none
