-- Entries of choices, without where they lie in memory.
use Rattle.std.specs.Prelude.{List, [], ◌∷◌, map, Option, Some, None}
use Rattle.hw_build.specs.Choices.{Entry as EntryForm}
use Rattle.hw_nets.specs.declared.entries.Entry.{Entry}

abbrev pub entry_form : Entry → EntryForm
entry_form e = record { condition = e.condition; value = e.value }

abbrev pub entry_forms : List Entry → List EntryForm
entry_forms entries = map entry_form entries

-- at most one
abbrev pub entries_in : Option Entry → List EntryForm
entries_in None = []
entries_in (Some e) = entry_form e ∷ []
