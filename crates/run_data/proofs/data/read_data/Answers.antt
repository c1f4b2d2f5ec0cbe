use Rattle.std.proofs.lemmas.Result.{err_from_is_err_and}
use Rattle.serde_json.specs.View.{view}
use Rattle.run_data.proofs.Faults.{tells_misshapen, tells_misfit, tells_oversized, without_faults}
use Rattle.run_data.proofs.Fits.{fits, as_many_waits}
use Rattle.run_data.proofs.data.read_data.Goals as goal

pub returns-in_err-file-clause-cause : goal.returns-in_err-file-clause-cause
returns-in_err-file-clause-cause c =
    let p = err_from_is_err_and c.from_residual.result c.from_residual.ensures.1 in
    rw (p.1, p.2) (c.in_err-file.ensures.cause c.args.shape.now)

pub returns-in-Some-clause-cause : goal.returns-in-Some-clause-cause
returns-in-Some-clause-cause c =
    let told = rw c.in-Some.is at c.in_ok-key.ensures in
    tells_misshapen c.args.text.now c.args.shape.now (view c.in_ok-file.file) c.in_ok-file.ensures.value c.in-Some.key.items told

pub returns-in-Some-2-clause-cause : goal.returns-in-Some-2-clause-cause
returns-in-Some-2-clause-cause c =
    let shaped = rw c.in_default.is at c.in_ok-key.ensures in
    let told = rw c.in-Some-2.is at c.in_ok-key-2.ensures in
    tells_misfit c.args.text.now c.args.shape.now (view c.in_ok-file.file) c.in_ok-file.ensures.value c.in-Some-2.key.items shaped told

pub returns-in-Some-3-clause-cause : goal.returns-in-Some-3-clause-cause
returns-in-Some-3-clause-cause c =
    let shaped = rw c.in_default.is at c.in_ok-key.ensures in
    let fit = rw c.in_default-2.is at c.in_ok-key-2.ensures in
    let told = rw c.in-Some-3.is at c.in_ok-key-3.ensures in
    tells_oversized c.args.text.now c.args.shape.now (view c.in_ok-file.file) c.in_ok-file.ensures.value c.in-Some-3.key.items shaped fit told

pub returns-clause-value : goal.returns-clause-value
returns-clause-value c =
    let shaped = rw c.in_default.is at c.in_ok-key.ensures in
    let fit = rw c.in_default-2.is at c.in_ok-key-2.ensures in
    let small = rw c.in_default-3.is at c.in_ok-key-3.ensures in
    record {
      file = view c.in_ok-file.file;
      is_json = c.in_ok-file.ensures.value;
      faultless = without_faults c.args.shape.now (view c.in_ok-file.file) shaped fit small;
      scalars = c.in_ok-data.ensures.scalars;
      memories = c.in_ok-data.ensures.memories;
      waits = c.in_ok-data.ensures.waits;
    }

pub returns-clause-fits : goal.returns-clause-fits
returns-clause-fits c = fits c.args.shape.now (view c.in_ok-file.file) c.in_ok-data.data c.in_ok-data.ensures.scalars c.in_ok-data.ensures.memories

pub returns-clause-waits : goal.returns-clause-waits
returns-clause-waits c = as_many_waits c.args.shape.now (view c.in_ok-file.file) c.in_ok-data.data c.in_ok-data.ensures.waits
