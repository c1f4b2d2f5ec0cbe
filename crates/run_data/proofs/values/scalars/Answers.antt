use Rattle.std.proofs.Common.{map, option_and_then, unwrap_or, ap, ◌∙◌, arith}
use Rattle.std.proofs.lemmas.List.{take_all}
use Rattle.serde_json.specs.Find.{get_member}
use Rattle.serde_json.specs.View.{view}
use Rattle.tapa_base.specs.declared.shape.Port.{Port}
use Rattle.run_data.specs.Data.{bits_of, members_at}
use Rattle.run_data.specs.Seen.{seen}
use Rattle.run_data.proofs.Given.{scalars_by}
use Rattle.run_data.proofs.values.scalars.Goals as goal

pub returns : goal.returns
returns c =
    let ports = c.deref-port-items.result.now in
    c.loop-port.invariant
    ∙ ap (map (λ (port : Port). unwrap_or (option_and_then (bits_of port.bits) (get_member port.name (members_at (seen c.group_in-found.result)))) 0)) (take_all c.loop-port.port-index ports (omega arith))
    ∙ scalars_by c.args.shape.now (view c.args.file.now) (seen c.group_in-found.result) ports c.group_in-found.ensures c.deref-port-items.ensures.value
