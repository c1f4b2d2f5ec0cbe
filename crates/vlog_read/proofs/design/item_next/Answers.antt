use Rattle.std.proofs.Common.{subst}
use Rattle.vlog_lex.specs.declared.coming.Coming.TheVariants.{Nothing}
use Rattle.vlog_read.specs.declared.state.ItemState.{ItemState}
use Rattle.vlog_read.specs.declared.state.State.TheVariants.{Item}
use Rattle.vlog_read.specs.ValueReading.{behind}
use Rattle.vlog_read.specs.Finishing.{IsFormed}
use Rattle.vlog_read.proofs.Formed.{item_formed}
use Rattle.vlog_read.proofs.design.item_next.Goals as goal

pub item_start-requires : goal.item_start-requires
item_start-requires c = item_formed c.in-ItemStart.draft (subst (λ (s : ItemState). IsFormed (behind Nothing (Item s))) c.in-ItemStart.is c.requires)
