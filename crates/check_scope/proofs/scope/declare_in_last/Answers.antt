use Rattle.std.proofs.Common.{◌≡◌, ◌+◌, ◌-◌, ◌∷◌, ◌++◌, [], length, slice_set, ap, ◌∙◌, sym, arith}
use Rattle.check_scope.specs.Scopes.{in_block}
use Rattle.check_scope.specs.Faults.{fault, is_there, where_so}
use Rattle.check_scope.specs.declared.fault.CheckCode.TheVariants.{C2}
use Rattle.check_scope.proofs.Order.{meant}
use Rattle.check_scope.proofs.Scopes.{declaring-set, here_in_last}
use Rattle.check_scope.proofs.scope.declare_in_last.Goals as goal

pub returns-clause-value : goal.returns-clause-value
returns-clause-value c =
    let n = length c.args.blocks.now - 1 in
    let x = c.args.name.now.text in
    let z : n + 1 ≡ length c.args.blocks.now = omega arith in
    let here = here_in_last c.args.name.now.text c.args.blocks.now c.index-blocks-last.result n z c.index-blocks-last.is in
    meant c.declare.result _ _ _ _ _ _ c.declare.ensures (ap (λ b. where_so (is_there (in_block x b)) (fault C2 c.args.name.now.place)) (sym c.index-blocks-last.is) ∙ ap (λ o. where_so (is_there o) (fault C2 c.args.name.now.place)) (sym here))
    (λ h. ap (slice_set c.args.blocks.now n) (h ∙ ap (λ b. b ++ (x, c.args.entity) ∷ []) (sym c.index-blocks-last.is)) ∙ sym (declaring-set x c.args.entity c.args.blocks.now n c.index-blocks-last.result z c.index-blocks-last.is))
