use Rattle.std.proofs.Common.{ap, ◌∙◌, sym, subst, rules}
use Rattle.std.specs.Prelude.{IfSome, Vec}
use Rattle.std.specs.Map.{lookup}
use Rattle.std.specs.Str.{bytes_eq}
use Rattle.std.specs.declared.alloc.Global.{Global}
use Rattle.check_scope.specs.Scopes.{IsSound, declared_in, in_block}
use Rattle.check_scope.proofs.Scopes.{sound_in}
use Rattle.check_scope.proofs.Tables.{lookup_is}
use Rattle.check_scope.proofs.names.Names.get.Goals as goal

pub returns-clause-value : goal.returns-clause-value
returns-clause-value c =
    c.copied.ensures ∙ c.get.ensures.value
    ∙ ap (λ x. lookup (λ (k : Vec _ Global). bytes_eq x k.items) c.self.inside.declared.entries) c.bytes.ensures.value
    ∙ lookup_is c.args.name.now c.self.inside.declared.entries
    ∙ ap (in_block c.args.name.now) (search rules)

pub returns-clause-sound : goal.returns-clause-sound
returns-clause-sound c =
    subst (λ o. IfSome o IsSound) (sym (c.copied.ensures ∙ c.get.ensures.value
    ∙ ap (λ x. lookup (λ (k : Vec _ Global). bytes_eq x k.items) c.self.inside.declared.entries) c.bytes.ensures.value
    ∙ lookup_is c.args.name.now c.self.inside.declared.entries))
    (sound_in c.args.name.now (declared_in c.self.inside.declared.entries) c.self.invariant)
