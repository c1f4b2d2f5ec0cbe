use Rattle.std.proofs.Common.{◌≡◌, drop}
use Rattle.hw_build.specs.Elements.{with_all}
use Rattle.hw_build.specs.Choices.{row_of, any_driver, any_elements}
use Rattle.hw_nets.specs.Entries.{entry_forms}
use Rattle.hw_nets.proofs.choices.add_any_row.Given as goal

abbrev pub invariant-loop-j : goal.invariant-loop-j
invariant-loop-j l =
    with_all l.draft (row_of 1 l.front (any_driver l.front) l.j (entry_forms (drop l.j l.entries))) ≡ with_all l.initial.draft (any_elements l.front (entry_forms l.entries))
