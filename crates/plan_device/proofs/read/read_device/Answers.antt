use Rattle.std.proofs.Common.{refl}
use Rattle.std.proofs.lemmas.Result.{err_from_is_err_and}
use Rattle.serde_json.specs.View.{view}
use Rattle.plan_device.specs.declared.device.Device.{Device}
use Rattle.plan_device.proofs.Faults.{without_faults}
use Rattle.plan_device.proofs.Meaning.{cause_of, meaning_of, is_device}
use Rattle.plan_device.proofs.read.read_device.Goals as goal

pub returns-in_err-file-clause-cause : goal.returns-in_err-file-clause-cause
returns-in_err-file-clause-cause c =
    let p = err_from_is_err_and c.from_residual.result c.from_residual.ensures.1 in
    rw (p.1, p.2) (c.in_err-file.ensures.cause c.args.program.now c.args.graph.now)

pub returns-in_err-check_keys-clause-cause : goal.returns-in_err-check_keys-clause-cause
returns-in_err-check_keys-clause-cause c =
    let p = err_from_is_err_and c.from_residual-in_err-check_keys.result c.from_residual-in_err-check_keys.ensures.1 in
    rw (p.1, p.2) (cause_of c.args.text.now c.args.program.now c.args.graph.now (view c.in_ok-file.file) c.in_err-check_keys.field-0.0 c.in_ok-file.ensures.value (c.in_err-check_keys.ensures.cause c.args.graph.now))

pub returns-clause-value : goal.returns-clause-value
returns-clause-value c =
    let program = c.args.program.now in
    let graph = c.args.graph.now in
    let file = view c.in_ok-file.file in
    let grid = c.grid_of-grid.result in
    let placed = c.in_ok-placed.placed in
    let of_placed = c.in_ok-placed.ensures.placed in
    let right = c.in_ok-check_keys.ensures.right in
    let device : Device = record {
      rows = grid.rows;
      cols = grid.cols;
      levels_rows = c.in_ok-levels_rows.levels_rows;
      levels_cols = c.in_ok-levels_cols.levels_cols;
      percent = c.percent_of.result;
      slots = c.in_ok-slots.slots;
      uses = c.in_ok-uses.uses;
      pins = placed.groups;
      forbidden = placed.forbidden;
    } in
    let meaning = meaning_of program graph file device placed c.of-format.result grid c.of-format.ensures c.grid_of-grid.ensures.value right of_placed
    refl refl c.in_ok-levels_rows.ensures.value c.in_ok-levels_cols.ensures.value c.percent_of.ensures.value c.in_ok-slots.ensures.value c.in_ok-uses.ensures refl refl in
    record {
      file = file;
      is_json = c.in_ok-file.ensures.value;
      faultless = without_faults program graph file right of_placed.together of_placed.free;
      meaning = meaning;
    }

pub returns-clause-device : goal.returns-clause-device
returns-clause-device c =
    let program = c.args.program.now in
    let graph = c.args.graph.now in
    let file = view c.in_ok-file.file in
    let grid = c.grid_of-grid.result in
    let placed = c.in_ok-placed.placed in
    let of_placed = c.in_ok-placed.ensures.placed in
    let right = c.in_ok-check_keys.ensures.right in
    let device : Device = record {
      rows = grid.rows;
      cols = grid.cols;
      levels_rows = c.in_ok-levels_rows.levels_rows;
      levels_cols = c.in_ok-levels_cols.levels_cols;
      percent = c.percent_of.result;
      slots = c.in_ok-slots.slots;
      uses = c.in_ok-uses.uses;
      pins = placed.groups;
      forbidden = placed.forbidden;
    } in
    let meaning = meaning_of program graph file device placed c.of-format.result grid c.of-format.ensures c.grid_of-grid.ensures.value right of_placed
    refl refl c.in_ok-levels_rows.ensures.value c.in_ok-levels_cols.ensures.value c.percent_of.ensures.value c.in_ok-slots.ensures.value c.in_ok-uses.ensures refl refl in
    is_device program graph file device c.requires.graph right meaning of_placed.inside
    c.in_ok-levels_rows.ensures.few c.in_ok-levels_cols.ensures.few c.percent_of.ensures.some c.percent_of.ensures.most c.in_ok-slots.ensures.below
