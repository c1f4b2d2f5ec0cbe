use Rattle.std.proofs.Common.{map, sym, ap, ◌∙◌}
use Rattle.serde_json.specs.View.{view}
use Rattle.run_data.proofs.Views.{items_at-view}
use Rattle.run_data.proofs.json.items.Goals as goal

pub returns-in-Some-as_array : goal.returns-in-Some-as_array
returns-in-Some-as_array c =
    ap (map view) c.as_slice.ensures.value
    ∙ sym (items_at-view c.args.found c.in-Some.value c.in-Some-as_array.list.now.items c.in-Some.is (sym c.in-Some-as_array.ensures))
