use Rattle.std.proofs.Common.{◌≡◌, map, drop}
use Rattle.tapa_words.specs.Words.{is_each_once}
use Rattle.tapa_words.specs.Meaning.{item}
use Rattle.tapa_words.proofs.item.are_each_once.Given as goal

abbrev pub invariant-loop-index : goal.invariant-loop-index
invariant-loop-index l = is_each_once (map item l.items) ≡ is_each_once (map item (drop l.index l.items))
