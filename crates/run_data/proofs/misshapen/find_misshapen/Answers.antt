use Rattle.std.proofs.Common.{◌≡◌, true, false, Some, is_some, sym, ap, ◌∙◌}
use Rattle.serde_json.specs.View.{view}
use Rattle.run_data.specs.Data.{is_object}
use Rattle.run_data.proofs.Faults.{misshapen_file, first-misshapen}
use Rattle.run_data.proofs.Views.{members_at-view}
use Rattle.run_data.proofs.misshapen.find_misshapen.Goals as goal

pub returns-in_default : goal.returns-in_default
returns-in_default c =
    let bad : is_object (view c.args.file.now) ≡ false = ap is_some (sym c.in_default.ensures) in
    ap Some c.in_ok-from_slice.ensures.items ∙ sym (misshapen_file c.args.shape.now (view c.args.file.now) bad)

pub returns-in-Some-2 : goal.returns-in-Some-2
returns-in-Some-2 c =
    let good : is_object (view c.args.file.now) ≡ true = ap is_some (sym c.in-Some.ensures) in
    let told = rw c.in-Some-2.is at c.in_ok-key.ensures in
    rw (first-misshapen c.args.shape.now (view c.args.file.now) good, ← told)

pub returns-in-Some-3 : goal.returns-in-Some-3
returns-in-Some-3 c =
    let good : is_object (view c.args.file.now) ≡ true = ap is_some (sym c.in-Some.ensures) in
    let none = rw c.in_default-2.is at c.in_ok-key.ensures in
    let told = rw c.in-Some-3.is at c.in_ok-key-2.ensures in
    rw (first-misshapen c.args.shape.now (view c.args.file.now) good, ← none, ← told)

pub returns-in-Some-4 : goal.returns-in-Some-4
returns-in-Some-4 c =
    let good : is_object (view c.args.file.now) ≡ true = ap is_some (sym c.in-Some.ensures) in
    let none = rw c.in_default-2.is at c.in_ok-key.ensures in
    let neither = rw c.in_default-3.is at c.in_ok-key-2.ensures in
    let told = rw c.in-Some-4.is at c.in_ok-key-3.ensures in
    rw (first-misshapen c.args.shape.now (view c.args.file.now) good, ← none, ← neither, ← told)

pub returns-in_ok-from_slice-in-Some-find_unknown_group : goal.returns-in_ok-from_slice-in-Some-find_unknown_group
returns-in_ok-from_slice-in-Some-find_unknown_group c =
    let file = view c.args.file.now in
    let good : is_object file ≡ true = ap is_some (sym c.in-Some.ensures) in
    let none = rw c.in_default-2.is at c.in_ok-key.ensures in
    let neither = rw c.in_default-3.is at c.in_ok-key-2.ensures in
    let nor = rw c.in_default-4.is at c.in_ok-key-3.ensures in
    let keys = members_at-view file c.in-Some.members.now.entries (sym c.in-Some.ensures) in
    rw (first-misshapen c.args.shape.now file good, ← none, ← neither, ← nor, keys) (ap Some c.in_ok-from_slice-in-Some-find_unknown_group.ensures.items ∙ c.in-Some-find_unknown_group.ensures)

pub returns-in-None : goal.returns-in-None
returns-in-None c =
    let file = view c.args.file.now in
    let good : is_object file ≡ true = ap is_some (sym c.in-Some.ensures) in
    let none = rw c.in_default-2.is at c.in_ok-key.ensures in
    let neither = rw c.in_default-3.is at c.in_ok-key-2.ensures in
    let nor = rw c.in_default-4.is at c.in_ok-key-3.ensures in
    let keys = members_at-view file c.in-Some.members.now.entries (sym c.in-Some.ensures) in
    rw (first-misshapen c.args.shape.now file good, ← none, ← neither, ← nor, keys) c.in-None.ensures
