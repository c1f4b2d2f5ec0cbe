-- The amounts of resources that a file gives.
use Rattle.std.specs.Prelude.{ℕ, List, codes}
use Rattle.serde_json.specs.Data.{Data as Json}
use Rattle.serde_json.specs.Find.{get}
use Rattle.task_graph.specs.declared.Use.{Use}
use Rattle.plan_device.specs.Json.{number_or, past_amounts}

abbrev pub amount_in : List ℕ → Json → ℕ
amount_in name json = number_or 0 0 past_amounts (get name json)

-- 0 of a resource that is not named
abbrev pub amounts_of : Json → Use
amounts_of json = record {
  lut = amount_in (codes "LUT") json;
  ff = amount_in (codes "FF") json;
  bram = amount_in (codes "BRAM") json;
  dsp = amount_in
      (codes "DSP") json;
  uram = amount_in (codes "URAM") json;
}
