use Rattle.std.proofs.Common.{◌<◌, ◌≤◌, inl, refl, sym, length, arith}
use Rattle.sim_tape.specs.Trees.{tree_of}
use Rattle.sim_gates.proofs.AtomSlots.{found_before, not_missing, part_atom, part_fits}
use Rattle.sim_gates.proofs.atoms.pair_of_part.Goals as goal

pub returns-in_default-clause-some : goal.returns-in_default-clause-some
returns-in_default-clause-some c = λ fits have. absurd (not_missing _ c.in_default.ensures (have c.args.name.now (inl refl)))

pub returns-then-low-high-clause-some : goal.returns-then-low-high-clause-some
returns-then-low-high-clause-some c = λ fits have. let f = part_fits c.args.nets.now.scope.now c.args.name.now c.args.high c.args.low fits in let order : c.args.low ≤ c.args.high = f.0 in absurd (omega arith)

pub returns-then-high-ge128-clause-some : goal.returns-then-high-ge128-clause-some
returns-then-high-ge128-clause-some c = λ fits have. let f = part_fits c.args.nets.now.scope.now c.args.name.now c.args.high c.args.low fits in let top : c.args.high < 128 = f.1 in absurd (omega arith)

pub part-requires-clause-pair : goal.part-requires-clause-pair
part-requires-clause-pair c =
    found_before c.args.nets.now.scope.now c.args.nets.now.pairs.now (length (tree_of c.args.tape.now).gates) c.requires.nets c.args.name.now c.in-Some.whole (sym c.in-Some.ensures)

pub returns-clause-says : goal.returns-clause-says
returns-clause-says c = λ cells ns s d h shows.
    part_atom c.args.nets.now.scope.now s d ns c.args.nets.now.pairs.now c.args.name.now c.in-Some.whole c.args.high c.args.low c.in_ok-cut.cut shows (sym c.in-Some.ensures) (c.in_ok-cut.ensures.says cells ns h)
