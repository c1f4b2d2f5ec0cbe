use Rattle.std.proofs.Common.{sym, ap, ◌∙◌}
use Rattle.std.specs.List.{list_all}
use Rattle.serde_json.specs.View.{view}
use Rattle.serde_json.specs.declared.value.Value.{Value}
use Rattle.run_data.specs.Data.{is_number}
use Rattle.plan_device.proofs.Entries.{is_list_of_view}
use Rattle.plan_device.proofs.passes.is_list_of_numbers.Goals as goal

pub returns-in-Some : goal.returns-in-Some
returns-in-Some c =
    c.are_numbers.ensures ∙ ap (list_all (λ (value : Value). is_number (view value))) c.as_slice.ensures.value
    ∙ sym (is_list_of_view is_number (view c.args.value.now) c.in-Some.list.now.items (sym c.in-Some.ensures))
