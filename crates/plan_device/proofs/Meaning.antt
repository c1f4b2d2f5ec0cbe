-- A file without faults gives a device.
use Rattle.std.proofs.Common.{◌≡◌, ℕ, ◌+◌, ◌*◌, ◌^◌, ◌<◌, ◌≤◌, List, length, get_or, All, None, Some, Option, Bool, false, ◌↔◌, codes, sym, ap, subst, ◌∙◌, lit<, arith}
use Rattle.std.proofs.lemmas.List.{length-map}
use Rattle.std.proofs.lemmas.Option.{get_or_from_slice_get}
use Rattle.serde_json.specs.Data.{Data as Json}
use Rattle.serde_json.specs.Find.{get}
use Rattle.tapa_syntax.specs.declared.program.Program.{Program}
use Rattle.tapa_syntax.specs.declared.program.Instance.{Instance}
use Rattle.task_graph.specs.declared.Graph.{Graph}
use Rattle.task_graph.specs.declared.Use.{Use}
use Rattle.task_graph.specs.Programs.{IsGraphOf}
use Rattle.task_graph.specs.Streams.{amount_at}
use Rattle.run_data.specs.Data.{IsJson}
use Rattle.plan_device.specs.Answer.{IsMeaning, IsFirstOf, IsDeviceCause}
use Rattle.plan_device.specs.Checked.{AreKeysRight, IsPlaced}
use Rattle.plan_device.specs.Contents.{borders, percent_of, slots_of, uses_of}
use Rattle.plan_device.specs.Devices.{IsDevice}
use Rattle.plan_device.specs.Keys.{names_of, format_of}
use Rattle.plan_device.specs.Pins.{IsPinned, pins_of}
use Rattle.plan_device.specs.Tests.{grid_of}
use Rattle.plan_device.specs.declared.device.Device.{Device}
use Rattle.plan_device.specs.declared.fault.DeviceFault.{DeviceFault}
use Rattle.plan_device.specs.declared.fault.DeviceFault.TheVariants.{J1, J2, J3, K1, K2, K3, K4, OutOfMemory}
use Rattle.plan_device.specs.declared.grid.Grid.{Grid}
use Rattle.plan_device.specs.declared.key.Format.{Format}
use Rattle.plan_device.specs.declared.key.Key.{Key}
use Rattle.plan_device.specs.declared.read.Placed.{Placed}
use Rattle.plan_device.specs.declared.key.Key.TheVariants.{LevelsRows, LevelsCols}
use Rattle.plan_device.proofs.Ranges.{number_there, number_below, rows_right, cols_right, slots_right, row_borders, col_borders, as_many_slots}
use Rattle.plan_device.proofs.Uses.{uses_small, as_many_uses}

-- as many instances as groups are told of
pub as_many_instances : (program : Program) (graph : Graph) → IsGraphOf program graph → length program.instances.items ≡ length graph.group.items
as_many_instances program graph is = sym (length-map program.instances.items (λ (x : Instance). x.label)) ∙ sym (ap length is.labels) ∙ graph.labelled

module _ (program : Program) (graph : Graph) (file : Json) (device : Device) (of_program : IsGraphOf program graph) (right : AreKeysRight program file) (m : IsMeaning program graph file device) where
  some_of_rows : 0 < (grid_of file).rows
  some_of_rows = let h = number_there 1 9 0 (get (codes "rows") file) (rows_right (names_of program) file (grid_of file) (format_of file) right.inside) in omega (arith, h.0)

  few_of_rows : (grid_of file).rows ≤ 8
  few_of_rows = let h = number_below 1 9 0 (get (codes "rows") file) (lit< tt) in omega (arith, h)

  some_of_cols : 0 < (grid_of file).cols
  some_of_cols = let h = number_there 1 5 0 (get (codes "cols") file) (cols_right (names_of program) file (grid_of file) (format_of file) right.inside) in omega (arith, h.0)

  few_of_cols : (grid_of file).cols ≤ 4
  few_of_cols = let h = number_below 1 5 0 (get (codes "cols") file) (lit< tt) in omega (arith, h)

  as_many_slots_of : length device.slots.items ≡ device.rows * device.cols
  as_many_slots_of =
      ap length m.slots ∙ as_many_slots file ((grid_of file).rows * (grid_of file).cols) (slots_right (names_of program) file (grid_of file) (format_of file) right.inside)
      ∙ ap (λ r. r * (grid_of file).cols) (sym m.rows) ∙ ap (λ c. device.rows * c) (sym m.cols)

  pub is_device : ((g s : ℕ) → get_or device.pins.items g None ≡ Some s → s < (grid_of file).rows * (grid_of file).cols)
      → All (λ n. n ≤ 16) device.levels_rows.items → All (λ n. n ≤ 16) device.levels_cols.items → 0 < device.percent → device.percent ≤ 100
      → ((s k : ℕ) → amount_at device.slots.items s k < 2 ^ 32) → IsDevice graph device
  is_device inside few_rows few_cols some_percent most_percent small = record {
    some_rows = subst (λ n. 0 < n) (sym m.rows) some_of_rows;
    few_rows = subst (λ n. n ≤ 8) (sym m.rows) few_of_rows;
    some_cols = subst (λ n. 0 < n) (sym m.cols) some_of_cols;
    few_cols = subst (λ n. n ≤ 4) (sym m.cols) few_of_cols;
    row_borders = ap (λ (l : List ℕ). length l + 1) m.levels_rows ∙ row_borders (names_of program) file (grid_of file) (format_of file) right.inside some_of_rows ∙ sym m.rows;
    col_borders = ap (λ (l : List ℕ). length l + 1) m.levels_cols ∙ col_borders (names_of program) file (grid_of file) (format_of file) right.inside some_of_cols ∙ sym m.cols;
    few_row_levels = λ b less. few_rows b 0 less;
    few_col_levels = λ b less. few_cols b 0 less;
    some_percent = some_percent;
    percent = most_percent;
    slots = as_many_slots_of;
    forbidden = m.each_slot;
    pins = m.each_group;
    pins_inside = λ v s at.
        let pinned = get_or_from_slice_get device.pins.items v (Some s) None at in
        subst (λ n. s < n) (ap (λ r. r * (grid_of file).cols) (sym m.rows) ∙ ap (λ c. device.rows * c) (sym m.cols) ∙ sym as_many_slots_of) (inside v s pinned);
    uses = ap length m.uses ∙ as_many_uses program file ∙ as_many_instances program graph of_program;
    capacities = small;
    amounts = λ i k. subst (λ (uses : List Use). amount_at uses i k < 2 ^ 40) (sym m.uses) (uses_small program graph file of_program.uses graph.amounts i k);
  }

-- a first fault is a cause
pub cause_of : (text : List ℕ) (program : Program) (graph : Graph) (file : Json) (fault : DeviceFault) → IsJson text file → IsFirstOf program graph file fault → IsDeviceCause text program graph fault
cause_of text program graph file J1 is_json never = absurd never
cause_of text program graph file (J2 key) is_json is = record { file = file; is_json = is_json; first = is }
cause_of text program graph file (J3 key) is_json is = record { file = file; is_json = is_json; first = is }
cause_of text program graph file (K1 key) is_json is = record { file = file; is_json = is_json; first = is }
cause_of text program graph file (K2 name) is_json is = record { file = file; is_json = is_json; first = is }
cause_of text program graph file (K3 label) is_json is = record { file = file; is_json = is_json; first = is }
cause_of text program graph file (K4 label) is_json is = record { file = file; is_json = is_json; first = is }
cause_of text program graph file OutOfMemory is_json is = is

-- ---- the parts of a device together

pub as_many_marks : (program : Program) (file : Json) → AreKeysRight program file → length (slots_of file) ≡ (grid_of file).rows * (grid_of file).cols
as_many_marks program file right = as_many_slots file ((grid_of file).rows * (grid_of file).cols) (slots_right (names_of program) file (grid_of file) (format_of file) right.inside)

pub borders_by : (format : Format) (grid : Grid) (file : Json) (k : Key) (count : Grid → ℕ) (levels : List ℕ) → format ≡ format_of file → grid ≡ grid_of file → levels ≡ borders format k (count grid) file → levels ≡ borders (format_of file) k (count (grid_of file)) file
borders_by format grid file k count levels is_format is_grid is = is ∙ ap (λ (f : Format). borders f k (count grid) file) is_format ∙ ap (λ (g : Grid). borders (format_of file) k (count g) file) is_grid

module _ (program : Program) (graph : Graph) (file : Json) (device : Device) (placed : Placed) (format : Format) (grid : Grid) (is_format : format ≡ format_of file) (is_grid : grid ≡ grid_of file) (right : AreKeysRight program file) (of_placed : IsPlaced program graph file placed) where
  marks_of : device.slots.items ≡ slots_of file → length device.slots.items ≡ length placed.forbidden.items
  marks_of slots = ap length slots ∙ as_many_marks program file right ∙ sym of_placed.slots

  pub meaning_of : device.rows ≡ grid.rows → device.cols ≡ grid.cols → device.levels_rows.items ≡ borders format LevelsRows grid.rows file → device.levels_cols.items ≡ borders format LevelsCols grid.cols file → device.percent ≡ percent_of file
      → device.slots.items ≡ slots_of file → device.uses.items ≡ uses_of program file → device.pins.items ≡ placed.groups.items → device.forbidden.items ≡ placed.forbidden.items → IsMeaning program graph file device
  meaning_of rows cols row_levels col_levels percent slots uses pins marks = record {
    rows = rows ∙ ap (λ (g : Grid). g.rows) is_grid;
    cols = cols ∙ ap (λ (g : Grid). g.cols) is_grid;
    levels_rows = borders_by format grid file LevelsRows (λ g. g.rows) device.levels_rows.items is_format is_grid row_levels;
    levels_cols = borders_by format grid file LevelsCols (λ g. g.cols) device.levels_cols.items is_format is_grid col_levels;
    percent = percent;
    slots = slots;
    uses = uses;
    each_group = ap length pins ∙ of_placed.as_many;
    pins = λ g s inside. subst (λ (l : List (Option ℕ)). (get_or l g None ≡ Some s) ↔ IsPinned (pins_of (grid_of file) program file) graph.group.items g s) (sym pins) (of_placed.pinned g s inside);
    each_slot = ap length marks ∙ sym (marks_of slots);
    forbidden = λ s less. ap (λ (l : List Bool). get_or l s false) marks ∙ of_placed.forbidden s (subst (λ n. s < n) (marks_of slots) less);
  }
