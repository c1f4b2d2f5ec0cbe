use Rattle.std.proofs.Common.{subst}
use Rattle.vlog_lex.specs.declared.coming.Coming.TheVariants.{Nothing}
use Rattle.vlog_read.specs.declared.state.State.{State}
use Rattle.vlog_read.specs.ValueReading.{behind}
use Rattle.vlog_read.specs.Finishing.{IsFormed}
use Rattle.vlog_read.proofs.design.state_next.Goals as goal

pub item_next-requires : goal.item_next-requires
item_next-requires c = subst (λ (s : State). IsFormed (behind Nothing s)) c.in-Item.is c.requires
