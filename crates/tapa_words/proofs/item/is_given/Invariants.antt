use Rattle.std.proofs.Common.{◌≡◌, map, drop}
use Rattle.std.specs.List.{list_any}
use Rattle.tapa_words.specs.Words.{is_named}
use Rattle.tapa_words.specs.Meaning.{item}
use Rattle.tapa_words.proofs.item.is_given.Given as goal

abbrev pub invariant-loop-given : goal.invariant-loop-given
invariant-loop-given l = list_any (is_named l.name) (map item l.items) ≡ list_any (is_named l.name) (map item (drop l.given-index l.items))
