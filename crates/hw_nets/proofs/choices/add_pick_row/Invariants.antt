use Rattle.std.proofs.Common.{◌≡◌, drop}
use Rattle.hw_build.specs.Elements.{with_all}
use Rattle.hw_build.specs.Choices.{row_of, pick_driver, pick_elements}
use Rattle.hw_nets.specs.Entries.{entry_forms}
use Rattle.hw_nets.proofs.choices.add_pick_row.Given as goal

abbrev pub invariant-loop-j : goal.invariant-loop-j
invariant-loop-j l =
    with_all l.draft (row_of l.width l.front (pick_driver l.front) l.j (entry_forms (drop l.j l.entries))) ≡ with_all l.initial.draft (pick_elements l.width l.front (entry_forms l.entries))
