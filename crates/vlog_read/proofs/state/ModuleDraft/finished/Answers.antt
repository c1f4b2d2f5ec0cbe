use Rattle.vlog_read.proofs.state.ModuleDraft.finished.Goals as goal

pub of-requires : goal.of-requires
of-requires c = rw (c.into_vec.ensures, c.into_vec-2.ensures) c.requires
