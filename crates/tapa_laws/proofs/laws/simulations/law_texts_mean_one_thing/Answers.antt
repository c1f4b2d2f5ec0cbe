use Rattle.tapa_laws.proofs.simulations.OneText.{one_meaning, some_meaning, refused_has_none}
use Rattle.tapa_laws.proofs.laws.simulations.law_texts_mean_one_thing.Goals as goal

pub returns : goal.returns
returns c = record {
  one = one_meaning c.law_one_fault.ensures.once c.law_one_fault.ensures.taken;
  some = some_meaning;
  refused = refused_has_none c.law_one_fault.ensures.once c.law_one_fault.ensures.taken;
}
