use Rattle.std.proofs.lemmas.Str.{IsUtf8-from_ascii}
use Rattle.run_data.proofs.json.text_of.Goals as goal

-- ASCII is UTF-8
pub returns-in-Err : goal.returns-in-Err
returns-in-Err c = absurd (c.in-Err.ensures.cases.0 (IsUtf8-from_ascii c.args.name.now c.requires))
