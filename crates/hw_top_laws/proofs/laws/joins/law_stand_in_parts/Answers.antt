use Rattle.hw_top_laws.proofs.joins.Parts.{alone_stands, stands_more, parts_stand, each_part_stands}
use Rattle.hw_top_laws.proofs.laws.joins.law_stand_in_parts.Goals as goal

pub returns : goal.returns
returns c = record { alone = alone_stands; more = stands_more; parts = parts_stand; each_part = each_part_stands }
