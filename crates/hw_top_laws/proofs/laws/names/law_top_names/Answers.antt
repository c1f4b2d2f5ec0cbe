use Rattle.hw_top_laws.proofs.names.Top.{top_once, top_named}
use Rattle.hw_top_laws.proofs.laws.names.law_top_names.Goals as goal

pub returns : goal.returns
returns c = record { once = top_once; named = top_named }
