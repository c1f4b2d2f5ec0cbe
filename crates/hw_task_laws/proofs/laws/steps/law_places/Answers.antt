use Rattle.hw_task_laws.proofs.steps.Places.{place_goes_on}
use Rattle.hw_task_laws.proofs.laws.steps.law_places.Goals as goal

pub returns : goal.returns
returns c = record { places = place_goes_on }
