-- How the reader takes words from left to right, one at a time. What words are a command is said without it (`Words`): the clauses of
-- `read_words` speak of that alone, so that the reader keeps the rules is proved.
use Rattle.std.specs.Prelude.{List, [], ◌∷◌, Option, Some, None, ◌==◌, if◌then◌else◌, option_map, option_and_then}
use Rattle.std.specs.Str.{bytes_eq}
use Rattle.tapa_words.specs.declared.verb.Verb.{Verb}
use Rattle.tapa_words.specs.declared.verb.OptionKind.{OptionKind}
use Rattle.tapa_words.specs.declared.verb.OptionKind.TheVariants as kind
use Rattle.tapa_words.specs.Words.{Word, Command, Item, Positional, Valued, verb_of, option_kind, is_option, end_of_options, is_each_once, command_by}

-- the part before the first `=`, or the whole word where there is none
abbrev pub name_in : Word → Word
name_in [] = []
name_in (b ∷ rest) = if b == 61 then [] else (b ∷ name_in rest)

-- the part after the first `=`
abbrev pub value_in : Word → Option Word
value_in [] = None
value_in (b ∷ rest) = if b == 61 then Some rest else value_in rest

-- what the next word may be
pub data Next : Type 0 where
  AnyWord : Next
  -- the value of the option before it
  ValueOf : (name : Word) → Next
  -- a positional, since `--` came before it
  OnlyPositionals : Next

-- what a word says
pub data Step : Type 0 where
  -- an item, and what the word after it may be
  Gives : Item → Next → Step
  -- no item by itself
  Moves : Next → Step
  -- nothing, since it breaks a rule
  Breaks : Step

-- an option by its name, which the command has or has not, and the part after its `=`
abbrev pub option_step : Option OptionKind → Word → Option Word → Step
option_step None name value = Breaks
option_step (Some kind.Valued) name None = Moves (ValueOf name)
option_step (Some kind.Valued) name (Some []) = Breaks
option_step (Some kind.Valued) name (Some (b ∷ value)) = Gives (Valued name (b ∷ value)) AnyWord
option_step (Some kind.Bare) name None = Gives (Valued name []) AnyWord
option_step (Some kind.Bare) name (Some value) = Breaks

-- a word by what it may be
abbrev pub step_of : Verb → Next → Word → Step
step_of verb AnyWord word =
    if bytes_eq word end_of_options then Moves OnlyPositionals
    else if is_option word then option_step (option_kind verb (name_in word)) (name_in word) (value_in word)
    else Gives (Positional word) AnyWord
step_of verb (ValueOf name) word = if is_option word then Breaks else Gives (Valued name word) AnyWord
step_of verb OnlyPositionals word = Gives (Positional word) OnlyPositionals

-- no value is missing after the last word
abbrev pub at_end : Next → Option (List Item)
at_end AnyWord = Some []
at_end (ValueOf name) = None
at_end OnlyPositionals = Some []

-- the items of a word's step and of the words after it
abbrev pub then_items : Step → (Next → Option (List Item)) → Option (List Item)
then_items (Gives item next) rest = option_map (λ items. item ∷ items) (rest next)
then_items (Moves next) rest = rest next
then_items Breaks rest = None

-- the items of words, where the first may be `next`
abbrev pub items_from : Verb → Next → List Word → Option (List Item)
items_from verb next [] = at_end next
items_from verb next (word ∷ words) = then_items (step_of verb next word) (λ later. items_from verb later words)

-- the items of the words after the command's name
abbrev pub items_of : Verb → List Word → Option (List Item)
items_of verb words = items_from verb AnyWord words

-- the command that the items are, unless an option is given twice
abbrev pub of_items : Verb → List Item → Option Command
of_items verb items = if is_each_once items then command_by verb items else None

abbrev pub of_verb : List Word → Verb → Option Command
of_verb words verb = option_and_then (of_items verb) (items_of verb words)

-- the command that words are read as, without the program's name
abbrev pub command_of : List Word → Option Command
command_of [] = None
command_of (name ∷ words) = option_and_then (of_verb words) (verb_of name)
