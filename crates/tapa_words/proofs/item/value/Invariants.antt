use Rattle.std.proofs.Common.{◌≡◌, map, drop}
use Rattle.tapa_words.specs.Words.{value_of}
use Rattle.tapa_words.specs.Meaning.{item}
use Rattle.tapa_words.proofs.item.value.Given as goal

abbrev pub invariant-loop-given : goal.invariant-loop-given
invariant-loop-given l = value_of l.name (map item l.items) ≡ value_of l.name (map item (drop l.given-index l.items))
