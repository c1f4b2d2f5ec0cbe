use Rattle.std.proofs.Common.{◌+◌, ◌≤◌, ◌∷◌, [], length, ap, sym, subst, ◌∙◌, arith, length-append}
use Rattle.tapa_syntax.specs.declared.program.Array.{Array}
use Rattle.check_leaf.specs.Statements.{Frame, all_cells}
use Rattle.check_leaf.proofs.Sums.{all_cells-more}
use Rattle.check_leaf.proofs.frame.Frame.add_array.Goals as goal

pub invariant_of-self-2 : goal.invariant_of-self-2
invariant_of-self-2 c =
    let new : Array = record { kind = c.args.kind; cells = c.args.cells } in
    let sum = ap all_cells c.in_ok-push.ensures.items ∙ all_cells-more c.self.inside.arrays.items new in
    let count = ap length c.in_ok-push.ensures.items ∙ length-append c.self.inside.arrays.items (new ∷ []) in
    let deep = c.self.invariant.0 in
    let cells = c.self.invariant.1 in
    let few = c.self.invariant.2 in
    let room = subst (λ (f : Frame). all_cells f.arrays + c.args.cells ≤ 65536) (sym c.self.view_is) c.requires.room in
    (omega arith, omega arith, omega arith, omega arith)
