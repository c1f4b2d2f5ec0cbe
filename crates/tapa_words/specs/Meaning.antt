-- What values of the code denote.
use Rattle.std.specs.Prelude.{◌≡◌, ℕ, List, Option, Some, None, option_map, Result, Ok, Err}
use Rattle.tapa_words.specs.Words as words
use Rattle.tapa_words.specs.Reading as reading
use Rattle.tapa_words.specs.declared.command.Command.{Command}
use Rattle.tapa_words.specs.declared.command.Command.TheVariants.{Run, Build, Plan, Cosim, Vcd, Gen}
use Rattle.tapa_words.specs.declared.command.WordsFault.{WordsFault}
use Rattle.tapa_words.specs.declared.command.WordsFault.TheVariants.{Usage, OutOfMemory}
use Rattle.tapa_words.specs.declared.item.Item.{Item}
use Rattle.tapa_words.specs.declared.item.Item.TheVariants.{Positional, Valued}
use Rattle.tapa_words.specs.declared.item.Next.{Next}
use Rattle.tapa_words.specs.declared.item.Next.TheVariants.{AnyWord, ValueOf, OnlyPositionals}
use Rattle.tapa_words.specs.declared.item.Step.{Step}
use Rattle.tapa_words.specs.declared.item.Step.TheVariants.{Gives, Moves, Breaks}

abbrev pub command : Command → words.Command
command (Run source top input workers limit) = words.Run source.now top.now (option_map (λ file. file.now) input) workers limit
command (Build source top) = words.Build source.now top.now
command (Plan source top device mode aim) = words.Plan source.now top.now device.now mode aim
command (Cosim text input limit aim) = words.Cosim text.now (option_map (λ file. file.now) input) limit aim
command (Vcd file net) = words.Vcd file.now net.now
command (Gen layers workers) = words.Gen layers workers

abbrev pub item : Item → words.Item
item (Positional word) = words.Positional word.now
item (Valued name value) = words.Valued name.now value.now

abbrev pub next : Next → reading.Next
next AnyWord = reading.AnyWord
next (ValueOf name) = reading.ValueOf name.now
next OnlyPositionals = reading.OnlyPositionals

abbrev pub step : Step → reading.Step
step (Gives one later) = reading.Gives (item one) (next later)
step (Moves later) = reading.Moves (next later)
step Breaks = reading.Breaks

-- an answer denotes what the words say, and they are refused where they say nothing; want of memory says nothing of them
abbrev pub WordsAnswer : {A B : Type 0} → (A → B) → Result A WordsFault → Option B → Type 0
WordsAnswer view (Ok x) said = said ≡ Some (view x)
WordsAnswer view (Err Usage) said = said ≡ None
WordsAnswer view (Err OutOfMemory) said = Unit {0}

-- words that are refused are no command, unless memory ran out
abbrev pub IsRefusedBy : List (List ℕ) → WordsFault → Type 0
IsRefusedBy given Usage = words.AskNothing given
IsRefusedBy given OutOfMemory = Unit {0}
