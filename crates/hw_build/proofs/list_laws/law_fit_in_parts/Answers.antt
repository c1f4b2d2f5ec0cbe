use Rattle.hw_build.proofs.Parts.{in_order_more, parts_fit, each_fits, each_part_fits, tree_fits}
use Rattle.hw_build.proofs.list_laws.law_fit_in_parts.Goals as goal

pub returns : goal.returns
returns c = record { more = in_order_more; parts = parts_fit; each = each_fits; each_part = each_part_fits; trees = λ before width front leaves m wide has few. tree_fits before width front leaves wide has m few }
