use Rattle.std.proofs.Common.{Some, None, refl, ap, ◌∙◌}
use Rattle.serde_json.specs.View.{view}
use Rattle.run_data.specs.Data.{key_in, passing_from}
use Rattle.run_data.specs.Seen.{first}
use Rattle.run_data.specs.declared.group.Group.TheVariants.{Memories}
use Rattle.run_data.proofs.Faults.{oversized_by}
use Rattle.run_data.proofs.oversized.find_oversized.Goals as goal

pub returns-in-Some : goal.returns-in-Some
returns-in-Some c =
    let file = view c.args.file.now in
    let ports = c.as_slice-ports.result.now in
    ap Some (c.in_ok-key_of.ensures ∙ ap (key_in Memories) c.bytes.ensures.value)
    ∙ oversized_by c.args.shape.now file ports (Some c.in-Some.port.now) (first (passing_from 0 file ports)) c.as_slice-ports.ensures.value c.in-Some.ensures refl

pub returns-in_ok-key_of-in-Some-find_passing : goal.returns-in_ok-key_of-in-Some-find_passing
returns-in_ok-key_of-in-Some-find_passing c =
    let file = view c.args.file.now in
    let ports = c.as_slice-ports.result.now in
    ap Some (c.in_ok-key_of-in-Some-find_passing.ensures ∙ ap (key_in Memories) c.bytes-in-Some-find_passing.ensures.value)
    ∙ oversized_by c.args.shape.now file ports None (Some c.in-Some-find_passing.port.now) c.as_slice-ports.ensures.value c.in_default.ensures c.in-Some-find_passing.ensures

pub returns-in-None : goal.returns-in-None
returns-in-None c =
    oversized_by c.args.shape.now (view c.args.file.now) c.as_slice-ports.result.now None None c.as_slice-ports.ensures.value c.in_default.ensures c.in-None.ensures
