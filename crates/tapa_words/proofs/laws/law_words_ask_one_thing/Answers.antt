use Rattle.tapa_words.proofs.Asked.{asks_one}
use Rattle.tapa_words.proofs.laws.law_words_ask_one_thing.Goals as goal

pub returns : goal.returns
returns c = asks_one
