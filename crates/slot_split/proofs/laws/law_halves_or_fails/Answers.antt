use Rattle.slot_split.proofs.Single.{halves_or_fails, fails_at_one_level}
use Rattle.slot_split.proofs.laws.law_halves_or_fails.Goals as goal

pub returns : goal.returns
returns c = record { plan = halves_or_fails; level = fails_at_one_level }
