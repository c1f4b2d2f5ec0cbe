use Rattle.hw_build.proofs.Meaning.{copied_is, reset_is, reset_set_is, stored_is}
use Rattle.hw_build.proofs.laws.law_blocks.Goals as goal

pub returns : goal.returns
returns c = record { copies = copied_is; resets = reset_is; sets = reset_set_is; stores = stored_is }
