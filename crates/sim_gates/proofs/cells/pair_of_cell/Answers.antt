use Rattle.std.proofs.Common.{◌+◌, ◌*◌, leb-true, ◌^◌, ◌≤◌, length, inl, refl, sym, ap, subst, ◌∙◌}
use Rattle.vlog_tree.specs.Cycle.{read_cell}
use Rattle.sim_tape.specs.Tape.{number_at, pair_value}
use Rattle.sim_tape.specs.Trees.{tree_of}
use Rattle.sim_tape.proofs.Growing.{pair_on, solved_on}
use Rattle.sim_gates.proofs.AtomSlots.{found_before, not_missing}
use Rattle.sim_gates.proofs.Pairs.{single}
use Rattle.sim_gates.specs.Drivers.{cell_at}
use Rattle.sim_gates.proofs.Halves.{cell_fits, halves_told, index_below, low_told}
use Rattle.sim_gates.proofs.cells.pair_of_cell.Goals as goal

pub returns-in_default-clause-some : goal.returns-in_default-clause-some
returns-in_default-clause-some c = λ fit have. absurd (not_missing _ c.in_default.ensures (have.1 c.args.memory.now (inl refl)))

pub returns-in_default-pair-clause-some : goal.returns-in_default-pair-clause-some
returns-in_default-pair-clause-some c = λ fit have. absurd (not_missing _ c.in_default-pair.ensures (have.0 c.args.index.now (inl refl)))

pub half_of_cell-requires-clause-at : goal.half_of_cell-requires-clause-at
half_of_cell-requires-clause-at c = found_before c.args.nets.now.scope.now c.args.nets.now.pairs.now (length (tree_of c.args.tape.now).gates) c.requires.nets c.args.index.now c.in-Some-pair.at (sym c.in-Some-pair.ensures)

pub half_of_cell-requires-2-clause-at : goal.half_of_cell-requires-2-clause-at
half_of_cell-requires-2-clause-at c = pair_on _ _ c.in-Some-pair.at c.in_ok-low.ensures.extends (found_before c.args.nets.now.scope.now c.args.nets.now.pairs.now (length (tree_of c.args.tape.now).gates) c.requires.nets c.args.index.now c.in-Some-pair.at (sym c.in-Some-pair.ensures))

pub returns-then-bits-le64-clause-says : goal.returns-then-bits-le64-clause-says
returns-then-bits-le64-clause-says c = λ fit cells ns s d h shows mem.
    let at = shows.value c.args.index.now c.in-Some-pair.at (sym c.in-Some-pair.ensures) in
    let v = pair_value ns c.in-Some-pair.at in
    let m = c.args.memory.now in
    let q = c.in-Some.halves in
    let fits = cell_fits c.args.nets.now.scope.now c.args.bits m c.args.index.now fit in
    let low = c.in_ok-low.ensures.says cells ns h (λ n. index_below c.args.nets.now.scope.now c.args.nets.now.pairs.now s d ns shows c.args.index.now c.in-Some-pair.at (sym c.in-Some-pair.ensures) (subst (λ k. k ≤ 64) c.bits-width.ensures (leb-true c.bits-width.result 64 n))) in
    ap (λ k. read_cell s d m k) at ∙ low_told c.args.nets.now.scope.now c.args.nets.now.memories.now s d cells mem m q (sym c.in-Some.ensures) fits (subst (λ k. k ≤ 64) c.bits.ensures c.if-bits-le64.true) v
    ∙ sym low ∙ sym (single _ c.in_ok-low.ensures.extends.new_tape cells ns h c.in_ok-low.low)

pub returns-clause-says : goal.returns-clause-says
returns-clause-says c = λ fit cells ns s d h shows mem.
    let at = shows.value c.args.index.now c.in-Some-pair.at (sym c.in-Some-pair.ensures) in
    let v = pair_value ns c.in-Some-pair.at in
    let m = c.args.memory.now in
    let q = c.in-Some.halves in
    let fits = cell_fits c.args.nets.now.scope.now c.args.bits m c.args.index.now fit in
    let before = solved_on _ _ c.in_ok-high.ensures.extends cells ns h in
    let low = c.in_ok-low.ensures.says cells ns before (λ n. index_below c.args.nets.now.scope.now c.args.nets.now.pairs.now s d ns shows c.args.index.now c.in-Some-pair.at (sym c.in-Some-pair.ensures) (subst (λ k. k ≤ 64) c.bits-width.ensures (leb-true c.bits-width.result 64 n))) in
    let high = c.in_ok-high.ensures.says cells ns h (λ n. index_below c.args.nets.now.scope.now c.args.nets.now.pairs.now s d ns shows c.args.index.now c.in-Some-pair.at (sym c.in-Some-pair.ensures) (subst (λ k. k ≤ 64) c.bits-width.ensures (leb-true c.bits-width.result 64 n))) in
    ap (λ k. read_cell s d m k) at ∙ halves_told c.args.nets.now.scope.now c.args.nets.now.memories.now s d cells mem m q (sym c.in-Some.ensures) fits v
    ∙ ap (λ k. k * 2 ^ 64 + cell_at cells q.low v) (sym high) ∙ ap (λ k. number_at ns c.in_ok-high.high * 2 ^ 64 + k) (sym low)
