use Rattle.std.proofs.Common.{◌≡◌, ◌+◌, add-one, arith, below_more, refl, rules, sym, ◌∙◌}
use Rattle.latency_balance.specs.Moves.{IsMove, end_of, start_of, move_at, place}
use Rattle.latency_balance.proofs.cycle_test.leads_back.Goals as goal

pub loop-one-preserved : goal.loop-one-preserved
loop-one-preserved c =
    let g = c.args.graph.now in
    let base = c.args.base in
    let moves = c.args.moves.now in
    let i = c.loop-one.one-index in
    let inv = c.loop-one.invariant in
    let possible : IsMove g c.args.flow.now (move_at moves i) = search rules in
    let end = c.end_group.ensures.value in
    let same = c.if-end_group-at.false in
    let here = inv.here in
    let next : place g base moves (i + 1) ≡ start_of g (move_at moves i) = rw add-one refl in
    record {
      each = below_more (λ j. IsMove g c.args.flow.now (move_at moves j)) i inv.each possible;
      ends = below_more (λ j. end_of g (move_at moves j) ≡ place g base moves j) i inv.ends (first_of (omega arith, cc));
      here = next ∙ sym c.start_group-at.ensures.value;
    }
