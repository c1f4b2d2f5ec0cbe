-- What is asked of a member of an object of amounts.
use Rattle.std.specs.Prelude.{ℕ, List, Bool, not, ◌&&◌, ◌||◌}
use Rattle.serde_json.specs.Data.{Data as Json}
use Rattle.run_data.specs.Data.{is_number, is_among}
use Rattle.plan_device.specs.declared.amounts.Asked.{Asked}
use Rattle.plan_device.specs.declared.amounts.Asked.TheVariants.{Number, Amount}
use Rattle.plan_device.specs.Json.{resource_names, is_in, past_amounts}

abbrev pub is_right : Asked → List ℕ → Json → Bool
is_right Number name json = is_among resource_names name && is_number json
is_right Amount name json = not (is_among resource_names name) || is_in 0 past_amounts json
