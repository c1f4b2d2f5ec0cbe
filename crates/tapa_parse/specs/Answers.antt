-- What the parser answers, and what follows from its grammar.
use Rattle.std.specs.Prelude.{◌≡◌, ◌⊎◌, List, [], ◌∷◌, Result, Ok, Err}
use Rattle.tapa_base.specs.declared.text.Place.{Place}
use Rattle.tapa_syntax.specs.declared.tree.File.{File}
use Rattle.tapa_base.specs.Gaps.{Bytes}
use Rattle.tapa_syntax.specs.Characters.{place_of}
use Rattle.tapa_syntax.specs.Grammar.{IsTreeOf}
use Rattle.tapa_syntax.specs.Limits.{IsWithinLimits}
use Rattle.tapa_syntax.specs.Symbols.{Symbol}
use Rattle.tapa_syntax.specs.Trees.{ItemTree, file_of}
use Rattle.tapa_parse.specs.declared.fault.ParseFault.{ParseFault}
use Rattle.tapa_parse.specs.declared.fault.ParseFault.TheVariants.{At, OutOfMemory}
use Rattle.tapa_parse_expression.specs.declared.fault.ParseCode.{ParseCode}
use Rattle.tapa_parse_expression.specs.declared.fault.ParseCode.TheVariants.{P1, P2}
use Rattle.tapa_parse.specs.Begins.{IsUnexpected, IsTooDeep}

-- the place of the first symbol that is left of a text, and the place after its last byte where none is
abbrev pub stopped_at : Bytes → List Symbol → Place
stopped_at text [] = place_of text
stopped_at text (x ∷ rest) = x.place

-- a file with this tree, unless memory ran out
abbrev pub ParserAnswers : Result File ParseFault → List ItemTree → Type 0
ParserAnswers (Ok file) items = file_of file ≡ items
ParserAnswers (Err fault) items = fault ≡ OutOfMemory

-- by which rule symbols are refused before those that are left
abbrev pub IsRefused : ParseCode → List Symbol → List Symbol → Type 0
IsRefused P1 symbols left = IsUnexpected symbols left
IsRefused P2 symbols left = IsTooDeep symbols left

-- the symbols of a text are refused there, unless memory ran out
abbrev pub Refuses : Bytes → List Symbol → ParseFault → Type 0
Refuses text symbols OutOfMemory = Unit {0}
Refuses text symbols (At code place) = (left : List Symbol) × (place ≡ stopped_at text left) × IsRefused code symbols left

-- ---- what follows

-- symbols are refused at one place and by one rule
abbrev pub RefusedOnce : Type 0
RefusedOnce = (symbols left other : List Symbol) (c d : ParseCode) → IsRefused c symbols left → IsRefused d symbols other → (c ≡ d) × (left ≡ other)

-- the symbols are a file within the limits
abbrev pub IsFile : List Symbol → Type 0
IsFile symbols = (items : List ItemTree) × IsTreeOf symbols items × IsWithinLimits items

-- or are refused
abbrev pub IsRefusedSomewhere : List Symbol → Type 0
IsRefusedSomewhere symbols = (c : ParseCode) × (left : List Symbol) × IsRefused c symbols left

-- all symbols are one of the two, and none are both
abbrev pub FileOrRefused : Type 0
FileOrRefused = (symbols : List Symbol) → (IsFile symbols ⊎ IsRefusedSomewhere symbols) × (IsFile symbols → IsRefusedSomewhere symbols → ⊥)
