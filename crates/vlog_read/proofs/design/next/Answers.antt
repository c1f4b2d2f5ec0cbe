use Rattle.std.proofs.Common.{◌≡◌, true}
use Rattle.vlog_lex.specs.Coming.{is_nothing}
use Rattle.vlog_read.proofs.Formed.{nothing_formed}
use Rattle.vlog_read.proofs.design.next.Goals as goal

pub state_next-requires : goal.state_next-requires
state_next-requires c = let e : is_nothing c.args.reader.coming ≡ true = cc in nothing_formed c.args.reader e c.requires
