use Rattle.std.proofs.Common.{drop, Option}
use Rattle.std.specs.Option.{option_copied}
use Rattle.vlog_tree.specs.Table.{Name}
use Rattle.vlog_tree.specs.Loops.{LiesOnLoop, text_places}
use Rattle.vlog_comb_loops.specs.Search.{IsSearched}
use Rattle.vlog_comb_loops.specs.Summaries.{is_named}
use Rattle.vlog_comb_loops.proofs.search.first_on_loop.Given as goal

abbrev pub invariant-loop-at : goal.invariant-loop-at
invariant-loop-at l =
    (o : Option Name) → IsSearched (LiesOnLoop l.library (is_named (option_copied l.root))) (text_places (drop l.at l.modules)) o
    → IsSearched (LiesOnLoop l.library (is_named (option_copied l.root))) (text_places l.library) o
