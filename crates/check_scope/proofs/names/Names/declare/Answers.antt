use Rattle.std.proofs.Common.{◌≡◌, ◌∷◌, ◌++◌, [], None, ap, ◌∙◌, sym, subst}
use Rattle.check_scope.specs.Scopes.{declared_in, in_block, AreSound}
use Rattle.check_scope.specs.Faults.{fault, is_there, where_so}
use Rattle.check_scope.specs.declared.fault.CheckCode.TheVariants.{C2}
use Rattle.check_scope.proofs.Tables.{declared_last, sound_declared, is_none}
use Rattle.check_scope.proofs.names.Names.declare.Goals as goal

module _ (c : goal.In_ok-insert) where
  spelled : c.in_ok-key.key.items ≡ c.args.name.now.text
  spelled = c.in_ok-key.ensures.items_if_clones_equal (λ x y e. e) ∙ c.bytes.ensures.value

  absent : in_block c.args.name.now.text c.args.self.now ≡ None
  absent = sym c.get.ensures.value ∙ is_none c.get.result (sym c.is_some.ensures ∙ c.if-is_some.false)

  new : in_block c.in_ok-key.key.items (declared_in c.self.inside.declared.entries) ≡ None
  new = ap (λ x. in_block x (declared_in c.self.inside.declared.entries)) spelled ∙ ap (in_block c.args.name.now.text) c.self.view_is ∙ absent

  last : declared_in c.insert.new.self.entries ≡ declared_in c.self.inside.declared.entries ++ (c.in_ok-key.key.items, c.args.entity) ∷ []
  last = ap declared_in c.in_ok-insert.ensures.entries ∙ declared_last c.in_ok-key.key c.args.entity c.self.inside.declared.entries new

pub invariant_of-self-2 : goal.invariant_of-self-2
invariant_of-self-2 c = subst AreSound (sym (last c)) (sound_declared c.in_ok-key.key c.args.entity c.self.inside.declared.entries c.self.invariant c.requires)

pub returns : goal.returns
returns c = (
  ap (λ o. where_so (is_there o) (fault C2 c.args.name.now.place)) (absent c),
  last c
      ∙ ap (λ k. declared_in c.self.inside.declared.entries ++ (k, c.args.entity) ∷ []) (spelled c)
      ∙ ap (λ b. b ++ (c.args.name.now.text, c.args.entity) ∷ []) c.self.view_is,
)
