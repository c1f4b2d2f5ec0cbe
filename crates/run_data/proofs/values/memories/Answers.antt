use Rattle.std.proofs.Common.{map, ap, ◌∙◌, arith}
use Rattle.std.proofs.lemmas.List.{take_all}
use Rattle.serde_json.specs.Find.{get_member}
use Rattle.serde_json.specs.View.{view}
use Rattle.tapa_base.specs.declared.shape.Port.{Port}
use Rattle.run_data.specs.Data.{bits_or_zero, items_at, members_at}
use Rattle.run_data.specs.Seen.{seen}
use Rattle.run_data.proofs.Given.{memories_by}
use Rattle.run_data.proofs.values.memories.Goals as goal

pub returns : goal.returns
returns c =
    let ports = c.deref-port-items.result.now in
    c.loop-port.invariant
    ∙ ap (map (λ (port : Port). map (bits_or_zero port.bits) (items_at (get_member port.name (members_at (seen c.group_in-found.result)))))) (take_all c.loop-port.port-index ports (omega arith))
    ∙ memories_by c.args.shape.now (view c.args.file.now) (seen c.group_in-found.result) ports c.group_in-found.ensures c.deref-port-items.ensures.value
