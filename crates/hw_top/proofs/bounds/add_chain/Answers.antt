use Rattle.std.proofs.Common.{[], ◌∷◌, length, ap, ◌∙◌}
use Rattle.tapa_base.specs.Kinds.{bits_of}
use Rattle.vlog_tree.specs.declared.tree.Atom.TheVariants.{Net}
use Rattle.vlog_tree.specs.declared.tree.Value.TheVariants.{Plain}
use Rattle.vlog_tree.specs.Labels.{scalar}
use Rattle.hw_build.specs.Elements.{Wire, with_all}
use Rattle.hw_build.specs.Scope.{each}
use Rattle.hw_nets.proofs.Grows.{both}
use Rattle.hw_top_lines.specs.Names.{bound_net}
use Rattle.hw_top_lines.specs.Bounds.{scalar_kind, scalar_name, conversion_step}
use Rattle.hw_top.proofs.bounds.add_chain.Goals as goal

pub returns : goal.returns
returns c =
    let program = c.args.program.now in
    let i = c.args.i in
    let p = c.args.p in
    let k = scalar_kind program c.args.x in
    let kinds = c.args.kinds.now in
    let n = length kinds in
    both c.args.draft.now c.add_scalar.new.draft c.add_steps.new.draft (Wire (bits_of k) (bound_net i p 0) (Plain (Net (scalar (scalar_name program c.args.x)))) ∷ []) (each (conversion_step i p k kinds) n) c.in_ok-add_scalar.ensures
    (c.in_ok-add_steps.ensures ∙ ap (λ z. with_all c.add_scalar.new.draft (each (conversion_step i p z kinds) n)) c.scalar_kind-first.ensures)
