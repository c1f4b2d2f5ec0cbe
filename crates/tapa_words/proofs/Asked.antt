-- The words ask for what they are read as, and for one command at most.
use Rattle.std.proofs.Common.{◌≡◌, List, [], ◌∷◌, Option, Some, None, Bool, true, false, refl, sym, ap, ◌∙◌}
use Rattle.std.specs.Prelude.{if◌then◌else◌, option_and_then, Result, Ok, Err, IfOk, IfErr}
use Rattle.tapa_words.specs.declared.verb.Verb.{Verb}
use Rattle.tapa_words.specs.declared.command.Command.{Command as CodeCommand}
use Rattle.tapa_words.specs.declared.command.WordsFault.{WordsFault}
use Rattle.tapa_words.specs.declared.command.WordsFault.TheVariants.{Usage, OutOfMemory}
use Rattle.tapa_words.specs.Meaning.{command, WordsAnswer, IsRefusedBy}
use Rattle.tapa_words.specs.Words.{Word, Command, Item, verb_of, is_each_once, command_by, IsAsked, Asks, AskNothing, WordsAskOneThing}
use Rattle.tapa_words.specs.Reading.{items_of, of_items, of_verb, command_of}
use Rattle.tapa_words.proofs.Written.{are_read, are_written}

once_by : (o : Option Command) (b : Bool) (asked : Command) → (if b then o else None) ≡ Some asked → (b ≡ true) × (o ≡ Some asked)
once_by o true asked h = (refl, h)
once_by o false asked h = absurd cc

asked_by_items : (name : Word) (words : List Word) (verb : Verb) (asked : Command) (items : Option (List Item)) → verb_of name ≡ Some verb → items_of verb words ≡ items → option_and_then (of_items verb) items ≡ Some asked → IsAsked name words asked
asked_by_items name words verb asked None named read h = absurd cc
asked_by_items name words verb asked (Some items) named read h =
    let t = once_by (command_by verb items) (is_each_once items) asked h in
    record { verb = verb; items = items; named = named; read = are_written verb words items read; once = t.0; says = t.1 }

asked_by_verb : (name : Word) (words : List Word) (asked : Command) (verb : Option Verb) → verb_of name ≡ verb → option_and_then (of_verb words) verb ≡ Some asked → IsAsked name words asked
asked_by_verb name words asked None named h = absurd cc
asked_by_verb name words asked (Some verb) named h = asked_by_items name words verb asked (items_of verb words) named refl h

-- the words ask for the command that they are read as
pub asks : (words : List Word) (asked : Command) → command_of words ≡ Some asked → Asks words asked
asks [] asked h = absurd cc
asks (name ∷ words) asked h = asked_by_verb name words asked (verb_of name) refl h

-- they are read as the command that they ask for
pub reads_as : (words : List Word) (asked : Command) → Asks words asked → command_of words ≡ Some asked
reads_as [] asked h = absurd h
reads_as (name ∷ words) asked h =
    ap (λ (v : Option Verb). option_and_then (of_verb words) v) h.named
    ∙ (ap (λ (i : Option (List Item)). option_and_then (of_items h.verb) i) (are_read h.verb words h.items h.read)
    ∙ (ap (λ (b : Bool). if b then command_by h.verb h.items else None) h.once ∙ h.says))

pub asks_none : (words : List Word) → command_of words ≡ None → AskNothing words
asks_none words none asked h = let both : None ≡ Some asked = sym none ∙ reads_as words asked h in cc

pub asks_one : WordsAskOneThing
asks_one words one other h k = let both : Some one ≡ Some other = sym (reads_as words one h) ∙ reads_as words other k in cc

-- ---- what an answer says

pub asked_in : (words : List Word) (result : Result CodeCommand WordsFault) → WordsAnswer command result (command_of words) → IfOk result (λ asked. Asks words (command asked))
asked_in words (Ok x) h = asks words (command x) h
asked_in words (Err fault) h = tt

pub refused_in : (words : List Word) (result : Result CodeCommand WordsFault) → WordsAnswer command result (command_of words) → IfErr result (IsRefusedBy words)
refused_in words (Ok x) h = tt
refused_in words (Err Usage) h = asks_none words h
refused_in words (Err OutOfMemory) h = tt
