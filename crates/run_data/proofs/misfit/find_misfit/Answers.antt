use Rattle.run_data.proofs.Faults.{first-misfits}
use Rattle.run_data.proofs.misfit.find_misfit.Goals as goal

pub returns-in-Some : goal.returns-in-Some
returns-in-Some c =
    let first_fault = rw c.in-Some.is at c.in_ok-key.ensures in
    rw (first-misfits, ← first_fault)

pub returns-in-Some-2 : goal.returns-in-Some-2
returns-in-Some-2 c =
    let none = rw c.in_default.is at c.in_ok-key.ensures in
    let first_fault = rw c.in-Some-2.is at c.in_ok-key-2.ensures in
    rw (first-misfits, ← none, ← first_fault)

pub returns : goal.returns
returns c =
    let none = rw c.in_default.is at c.in_ok-key.ensures in
    let none_either = rw c.in_default-2.is at c.in_ok-key-2.ensures in
    rw (first-misfits, ← none, ← none_either) c.find_misfit_in-3.ensures
