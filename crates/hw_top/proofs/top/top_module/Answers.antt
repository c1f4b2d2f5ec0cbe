use Rattle.std.proofs.Common.{sym, subst, ◌∙◌}
use Rattle.vlog_tree.specs.Form.{IsModule}
use Rattle.hw_top.proofs.Tops.{counted}
use Rattle.hw_top.proofs.top.top_module.Goals as goal

pub module-requires : goal.module-requires
module-requires c = subst IsModule (sym c.in_ok-draft.ensures) (c.requires.form (counted c.args.program.now c.args.added.now c.in_ok-draft.draft c.in_ok-draft.ensures c.in_ok-count.ensures))

pub returns : goal.returns
returns c = record { tree = c.module.ensures ∙ c.in_ok-draft.ensures; countable = counted c.args.program.now c.args.added.now c.in_ok-draft.draft c.in_ok-draft.ensures c.in_ok-count.ensures }
