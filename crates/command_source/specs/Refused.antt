-- Why a source has no program.
use Rattle.std.specs.Prelude.{ℕ, List}
use Rattle.tapa_base.specs.declared.text.Place.{Place}
use Rattle.command_source.specs.declared.program.SourceFault.{SourceFault}
use Rattle.command_source.specs.declared.program.SourceFault.TheVariants.{At, OutOfMemory}
use Rattle.command_answers.specs.declared.source.SourceCode.{SourceCode}
use Rattle.command_source.specs.Source.{IsUnlexed, IsUnwritten, IsRefusedWrittenOut, IsRefusedSource}

-- the rule that is reported is broken where it is reported, unless memory ran out
abbrev pub IsBroken : (Place → SourceCode → Type 0) → SourceFault → Type 0
IsBroken breaks (At code place) = breaks place code
IsBroken breaks OutOfMemory = Unit {0}

-- the text has no lexemes by that rule
abbrev pub IsLexicalCause : List ℕ → SourceFault → Type 0
IsLexicalCause text fault = IsBroken (IsUnlexed text) fault

-- the source has no written-out text by that rule
abbrev pub IsUnwrittenCause : List ℕ → SourceFault → Type 0
IsUnwrittenCause text fault = IsBroken (IsUnwritten text) fault

-- the text whose arrays are written out breaks it
abbrev pub IsTextCause : List ℕ → List ℕ → SourceFault → Type 0
IsTextCause text top fault = IsBroken (IsRefusedWrittenOut text top) fault

-- the source breaks it
abbrev pub IsSourceCause : List ℕ → List ℕ → SourceFault → Type 0
IsSourceCause text top fault = IsBroken (IsRefusedSource text top) fault
