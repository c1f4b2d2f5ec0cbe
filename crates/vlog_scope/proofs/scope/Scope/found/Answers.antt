use Rattle.std.proofs.Common.{refl, ◌∙◌, ap, get_or, List}
use Rattle.vlog_tree.specs.declared.table.Declaration.{Declaration}
use Rattle.vlog_scope.proofs.Found.{is_there, missing}
use Rattle.vlog_scope.proofs.scope.Scope.found.Goals as goal

pub returns-in-Some-clause-some : goal.returns-in-Some-clause-some
returns-in-Some-clause-some c =
    is_there c.args.self.now c.args.name.now c.in-Some.place _ c.declaration_at.result.now c.in-Some.ensures.found
    (c.declaration_at.ensures ∙ ap (λ (ds : List Declaration). get_or ds c.in-Some.place c.declaration_at.result.now) c.declarations-declarations.ensures)

pub returns-in-None-clause-none : goal.returns-in-None-clause-none
returns-in-None-clause-none c = λ e. (missing 0 c.args.self.now c.args.name.now (c.in-None.ensures.none refl)).here
