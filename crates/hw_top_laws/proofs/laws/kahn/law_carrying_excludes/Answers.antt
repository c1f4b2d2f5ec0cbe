use Rattle.hw_top_laws.proofs.kahn.Excluded.{still, before_an_end, before_the_whole, too_late, other_tokens, ready_too_long}
use Rattle.hw_top_laws.proofs.laws.kahn.law_carrying_excludes.Goals as goal

pub returns : goal.returns
returns c = record { still = still; end = before_an_end; whole = before_the_whole; late = too_late; other = other_tokens; ready = ready_too_long }
