use Rattle.std.proofs.Common.{◌≡◌, ◌++◌, map, drop, option_map}
use Rattle.tapa_words.specs.Words.{texts}
use Rattle.tapa_words.specs.Reading.{AnyWord, items_from}
use Rattle.tapa_words.specs.Meaning.{item, next}
use Rattle.tapa_words.proofs.item.read_items.Given as goal

abbrev pub invariant-loop-word : goal.invariant-loop-word
invariant-loop-word l = items_from l.verb AnyWord (texts l.words) ≡ option_map (λ z. map item l.items.items ++ z) (items_from l.verb (next l.expected) (texts (drop l.word-index l.words)))
