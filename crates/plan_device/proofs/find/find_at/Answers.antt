use Rattle.std.proofs.Common.{◌≡◌, ℕ, List, true, false, Some, refl, sym, ap, ◌∙◌}
use Rattle.serde_json.specs.Find.{get}
use Rattle.serde_json.specs.View.{view}
use Rattle.run_data.specs.Seen.{seen}
use Rattle.plan_device.specs.Keys.{key_name}
use Rattle.plan_device.specs.Known.{names_known}
use Rattle.plan_device.specs.Tests.{passes}
use Rattle.plan_device.proofs.Faults.{faulty_key, right_key}
use Rattle.plan_device.proofs.find.find_at.Goals as goal

pub returns-then-not-passes : goal.returns-then-not-passes
returns-then-not-passes c =
    let file = view c.args.file.now in
    let found : seen c.get.result ≡ get (key_name c.args.key) file = c.get.ensures ∙ ap (λ (name : List ℕ). get name file) c.name-name.ensures in
    let bad : passes c.args.check c.args.key (get (key_name c.args.key) file) ≡ false = ap (passes c.args.check c.args.key) (sym found) ∙ sym c.passes.ensures ∙ c.if-not-passes.true in
    ap Some (c.in_ok-from_slice.ensures.items ∙ c.as_bytes.ensures.value ∙ c.name-name.ensures)
    ∙ sym (faulty_key c.args.check (names_known c.args.known.now) file c.args.key bad)

pub returns-in-Some : goal.returns-in-Some
returns-in-Some c =
    let file = view c.args.file.now in
    let found : seen c.get.result ≡ get (key_name c.args.key) file = c.get.ensures ∙ ap (λ (name : List ℕ). get name file) c.name-name.ensures in
    let good : passes c.args.check c.args.key (get (key_name c.args.key) file) ≡ true = ap (passes c.args.check c.args.key) (sym found) ∙ sym c.passes.ensures ∙ c.if-not-passes.false in
    rw (right_key c.args.check (names_known c.args.known.now) file c.args.key good, ← c.in-Some.ensures) c.find_member.ensures

pub returns-in-None : goal.returns-in-None
returns-in-None c =
    let file = view c.args.file.now in
    let found : seen c.get.result ≡ get (key_name c.args.key) file = c.get.ensures ∙ ap (λ (name : List ℕ). get name file) c.name-name.ensures in
    let good : passes c.args.check c.args.key (get (key_name c.args.key) file) ≡ true = ap (passes c.args.check c.args.key) (sym found) ∙ sym c.passes.ensures ∙ c.if-not-passes.false in
    rw (right_key c.args.check (names_known c.args.known.now) file c.args.key good, ← c.in-None.ensures) refl
