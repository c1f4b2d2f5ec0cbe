use Rattle.std.specs.Option.{option_copied}
use Rattle.vlog_comb_loops.specs.Summaries.{is_named, AreRight}
use Rattle.vlog_comb_loops.proofs.Searching.{all_right, all_others}
use Rattle.vlog_comb_loops.proofs.search.suspects_of.Goals as goal

pub returns : goal.returns
returns c =
    let is_top = is_named (option_copied c.args.root) in
    let v = c.loop-steady.invariant in
    let done = c.loop-steady-test.false in
    let right : AreRight c.args.library.now is_top c.loop-steady.sums.items = record { sound = v.sound; closed = v.closed done } in
    record {
      right = all_right c.args.library.now is_top c.loop-steady.sums.items right c.loop-steady.suspects.items (v.judged done);
      others = all_others c.args.library.now is_top c.loop-steady.sums.items right c.loop-steady.suspects.items (v.judged done);
    }
