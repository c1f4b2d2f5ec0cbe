use Rattle.std.proofs.Common.{◌≡◌, true, false, Some, None, filter, not, refl, sym, ap, ◌∙◌}
use Rattle.std.specs.List.{list_any}
use Rattle.serde_json.specs.View.{view}
use Rattle.run_data.specs.Data.{is_object, is_absent_or, is_name_of, members_at, keys_of, key_in}
use Rattle.run_data.specs.Seen.{seen, first}
use Rattle.run_data.proofs.Faults.{misshapen_group, misshapen_by}
use Rattle.run_data.proofs.Names.{unknown_same}
use Rattle.run_data.proofs.misshapen.find_misshapen_in.Goals as goal

pub returns-then-not-is_group : goal.returns-then-not-is_group
returns-then-not-is_group c =
    let found = seen c.group_in-found.result in
    let bad : is_absent_or is_object found ≡ false = sym c.is_group.ensures ∙ c.if-not-is_group.true in
    ap Some (c.in_ok-from_slice.ensures.items ∙ c.as_bytes.ensures.value ∙ c.key.ensures)
    ∙ sym (misshapen_group c.args.group c.args.shape.now (view c.args.file.now) found c.group_in-found.ensures bad)

pub returns-in-Some : goal.returns-in-Some
returns-in-Some c =
    let group = c.args.group in
    let found = seen c.group_in-found.result in
    let ports = c.ports-ports.result.now in
    let good : is_absent_or is_object found ≡ true = sym c.is_group.ensures ∙ c.if-not-is_group.false in
    ap Some (c.in_ok-key_of.ensures ∙ ap (key_in group) c.bytes.ensures.value)
    ∙ misshapen_by group c.args.shape.now (view c.args.file.now) found ports (Some c.in-Some.port.now) (first (filter (λ k. not (list_any (is_name_of k) ports)) (keys_of (members_at found)))) c.group_in-found.ensures c.ports-ports.ensures good c.in-Some.ensures refl

pub returns-in-Some-find_unknown : goal.returns-in-Some-find_unknown
returns-in-Some-find_unknown c =
    let group = c.args.group in
    let found = seen c.group_in-found.result in
    let ports = c.ports-ports.result.now in
    let good : is_absent_or is_object found ≡ true = sym c.is_group.ensures ∙ c.if-not-is_group.false in
    ap Some c.in_ok-key_of-in-Some-find_unknown.ensures
    ∙ misshapen_by group c.args.shape.now (view c.args.file.now) found ports None (Some c.in-Some-find_unknown.name.now) c.group_in-found.ensures c.ports-ports.ensures good c.in_default.ensures
    (c.in-Some-find_unknown.ensures ∙ ap first (unknown_same c.in_ok-names.names ports c.in_ok-names.ensures (keys_of (members_at found))))

pub returns : goal.returns
returns c =
    let group = c.args.group in
    let found = seen c.group_in-found.result in
    let ports = c.ports-ports.result.now in
    let good : is_absent_or is_object found ≡ true = sym c.is_group.ensures ∙ c.if-not-is_group.false in
    misshapen_by group c.args.shape.now (view c.args.file.now) found ports None None c.group_in-found.ensures c.ports-ports.ensures good c.in_default.ensures
    (c.in-None.ensures ∙ ap first (unknown_same c.in_ok-names.names ports c.in_ok-names.ensures (keys_of (members_at found))))
