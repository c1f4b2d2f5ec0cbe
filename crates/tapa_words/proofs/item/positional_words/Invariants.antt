use Rattle.std.proofs.Common.{◌≡◌, ◌++◌, map, drop}
use Rattle.tapa_words.specs.Words.{positionals}
use Rattle.tapa_words.specs.Meaning.{item}
use Rattle.tapa_words.proofs.item.positional_words.Given as goal

abbrev pub invariant-loop-given : goal.invariant-loop-given
invariant-loop-given l = positionals (map item l.items) ≡ map (λ word. word.now) l.words.items ++ positionals (map item (drop l.given-index l.items))
