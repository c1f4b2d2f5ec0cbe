use Rattle.std.proofs.Common.{◌≡◌, true, false, Some, is_some, sym, ap, ◌∙◌}
use Rattle.serde_json.specs.View.{view}
use Rattle.run_data.specs.Data.{is_object}
use Rattle.run_data.proofs.Views.{members_at-view}
use Rattle.plan_device.specs.Known.{names_known}
use Rattle.plan_device.proofs.Faults.{misshapen_file, first_misshapen}
use Rattle.plan_device.proofs.misshapen.find_misshapen.Goals as goal

pub returns-in_default : goal.returns-in_default
returns-in_default c =
    let bad : is_object (view c.args.file.now) ≡ false = ap is_some (sym c.in_default.ensures) in
    ap Some c.in_ok-from_slice.ensures.items ∙ sym (misshapen_file (names_known c.args.known.now) (view c.args.file.now) bad)

pub returns-in-Some-2 : goal.returns-in-Some-2
returns-in-Some-2 c =
    let file = view c.args.file.now in
    let good : is_object file ≡ true = ap is_some (sym c.in-Some.ensures) in
    let told = rw c.in-Some-2.is at c.in_ok-told.ensures in
    rw (first_misshapen (names_known c.args.known.now) file c.of-format.result c.of-format.ensures good, ← told)

pub returns-in_ok-from_slice-in-Some-find_unknown_key : goal.returns-in_ok-from_slice-in-Some-find_unknown_key
returns-in_ok-from_slice-in-Some-find_unknown_key c =
    let file = view c.args.file.now in
    let good : is_object file ≡ true = ap is_some (sym c.in-Some.ensures) in
    let none = rw c.in_default-2.is at c.in_ok-told.ensures in
    let keys = members_at-view file c.in-Some.members.now.entries (sym c.in-Some.ensures) in
    rw (first_misshapen (names_known c.args.known.now) file c.of-format.result c.of-format.ensures good, ← none, keys) (ap Some c.in_ok-from_slice-in-Some-find_unknown_key.ensures.items ∙ c.in-Some-find_unknown_key.ensures)

pub returns-in-None : goal.returns-in-None
returns-in-None c =
    let file = view c.args.file.now in
    let good : is_object file ≡ true = ap is_some (sym c.in-Some.ensures) in
    let none = rw c.in_default-2.is at c.in_ok-told.ensures in
    let keys = members_at-view file c.in-Some.members.now.entries (sym c.in-Some.ensures) in
    rw (first_misshapen (names_known c.args.known.now) file c.of-format.result c.of-format.ensures good, ← none, keys) c.in-None.ensures
