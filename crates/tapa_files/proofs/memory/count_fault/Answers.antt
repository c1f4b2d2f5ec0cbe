use Rattle.tapa_files.proofs.Files.{counts_push}
use Rattle.tapa_files.proofs.memory.count_fault.Goals as goal

pub returns-clause-ok : goal.returns-clause-ok
returns-clause-ok c = counts_push c.args.failed.now.items c.push.new.self.items c.in_ok-from_str.field-0 c.args.name.now c.in_ok-from_str.ensures.ok c.in_ok-push.ensures.items
