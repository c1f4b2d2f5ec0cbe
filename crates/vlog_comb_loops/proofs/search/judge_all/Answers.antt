use Rattle.std.proofs.Common.{◌≡◌, ◌+◌, ◌<◌, ◌≤◌, ◌∙◌, List, true, length, refl, sym, ap, subst, rules, arith}
use Rattle.std.specs.Option.{option_copied}
use Rattle.vlog_tree.specs.Loops.{Edges}
use Rattle.vlog_comb_loops.specs.Rooms.{room}
use Rattle.vlog_comb_loops.specs.Search.{AreJudged}
use Rattle.vlog_comb_loops.specs.Summaries.{is_named, module_edges}
use Rattle.vlog_comb_loops.proofs.Searching.{none_judged, next_judged, next_closed, judged_end, all_closed, got_at}
use Rattle.vlog_comb_loops.proofs.search.judge_all.Goals as goal

pub loop-place-init : goal.loop-place-init
loop-place-init c = record {
  same = refl;
  closed = λ j m low e. absurd (omega (arith, low));
  judged = none_judged c.args.library.now (is_named (option_copied c.args.root)) c.args.sums.now.items c.args.suspects.now.items c.requires.none;
}

pub loop-place-preserved : goal.loop-place-preserved
loop-place-preserved c =
    let ms = c.args.library.now in
    let is_top = is_named (option_copied c.args.root) in
    let place = c.loop-place.place in
    let old = c.loop-place.sums.items in
    let new = c.renew.new.sums.items in
    let made = c.in_ok-made.made in
    let e = c.in_ok-made.ensures in
    let yes : made.steady ≡ true = search rules in
    let low : place < length ms = search rules in
    let same : new ≡ old = e.same yes in
    let m = got_at ms place low in
    record {
      same = same ∙ c.loop-place.invariant.same;
      closed = next_closed ms is_top old new same place (e.closed yes) c.loop-place.invariant.closed;
      judged =
          subst (λ (s : List Edges). AreJudged ms is_top s (place + 1) c.judge.new.suspects.items) (sym same)
          (next_judged ms is_top old place m.0 m.1 c.loop-place.suspects.items c.judge.new.suspects.items
          (c.in_ok-judge.ensures (module_edges ms is_top old m.0) (e.graph m.0 m.1)) c.loop-place.invariant.judged);
    }

pub returns-clause-closed : goal.returns-clause-closed
returns-clause-closed c = λ _.
    let ms = c.args.library.now in
    let is_top = is_named (option_copied c.args.root) in
    let over : length ms ≤ c.loop-place.place = search rules in
    all_closed ms is_top c.args.sums.now.items c.loop-place.sums.items c.loop-place.invariant.same c.loop-place.place c.requires.sound over c.loop-place.invariant.closed

pub returns-clause-judged : goal.returns-clause-judged
returns-clause-judged c = λ _.
    let ms = c.args.library.now in
    let is_top = is_named (option_copied c.args.root) in
    let over : length ms ≤ c.loop-place.place = search rules in
    judged_end ms is_top c.loop-place.sums.items c.loop-place.place c.loop-place.suspects.items over c.loop-place.invariant.judged

pub returns-clause-more : goal.returns-clause-more
returns-clause-more c =
    let e = ap (λ (s : List Edges). room c.args.library.now s) c.loop-place.invariant.same in
    omega (arith, e)
