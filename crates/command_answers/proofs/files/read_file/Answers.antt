use Rattle.std.proofs.Common.{refl, ap, Err, subst}
use Rattle.std.specs.Prelude.{◌≤◌, ℕ, length}
use Rattle.command_answers.specs.Files.{Bytes, Unread}
use Rattle.command_answers.proofs.files.read_file.Goals as goal

pub returns-in-Ok-clause-took : goal.returns-in-Ok-clause-took
returns-in-Ok-clause-took g c = (Bytes c.in-Ok.text.items, (c.in-Ok.ensures.whole, subst (λ (n : ℕ). length c.in-Ok.text.items ≤ n) c.most_bytes.ensures.is c.in-Ok.ensures.within), refl)

pub returns-in-Err-ReadFault-clause-took : goal.returns-in-Err-ReadFault-clause-took
returns-in-Err-ReadFault-clause-took g c = (Unread, c.in-Err-ReadFault.ensures.fault (ap Err c.in-Err-ReadFault.field-0-is), refl)
