use Rattle.std.proofs.Common.{◌≡◌, ◌&&◌, ℕ, List, true, false, not, Some, option_map, string_bytes, sym, ap, ◌∙◌}
use Rattle.std.proofs.lemmas.Map.Iter.{rest_more, rest_all}
use Rattle.std.specs.Map.Iter.{deref_pair}
use Rattle.serde_json.specs.Data.{Data as Json}
use Rattle.serde_json.specs.View.{view}
use Rattle.run_data.specs.Seen.{has_name}
use Rattle.plan_device.specs.Tests.{member_passes}
use Rattle.plan_device.proofs.Entries.{entry_here, entry_nowhere}
use Rattle.plan_device.proofs.find.find_unknown_member.Goals as goal

pub returns-then-not-contains_key : goal.returns-then-not-contains_key
returns-then-not-contains_key c =
    let table = c.args.table.now in
    let faulty = λ (m : List ℕ × Json). not (has_name table m.0) && not (member_passes c.args.check c.args.group false m.1) in
    let key = c.in-Some.key.now in
    let value = c.in-Some.value.now in
    let left = rest_more deref_pair c.loop-key.key-iterator c.next.new.self c.next.result (c.in-Some.key, c.in-Some.value) c.in-Some.is c.next.ensures.steps in
    let unknown : has_name table (string_bytes key) ≡ false = sym (c.contains_key.ensures ∙ ap (λ (name : List ℕ). has_name table name) c.as_str.ensures.value) ∙ c.if-not-contains_key.true in
    let fails : member_passes c.args.check c.args.group false (view value) ≡ false = sym c.member_passes.ensures ∙ c.if-not-member_passes.true in
    let both : faulty (string_bytes key, view value) ≡ true = rw (unknown, fails) in
    ap Some c.as_bytes.ensures.value
    ∙ sym (ap (option_map (λ (m : List ℕ × Json). m.0)) (entry_here faulty c.args.members.now.entries c.loop-key.key-iterator c.loop-key.invariant.2 (key, value) c.next.new.self left both))

pub returns : goal.returns
returns c =
    let faulty = λ (m : List ℕ × Json). not (has_name c.args.table.now m.0) && not (member_passes c.args.check c.args.group false m.1) in
    let left = rest_all deref_pair c.loop-key.key-iterator c.next.new.self c.next.result c.in-None.is c.next.ensures.steps in
    sym (ap (option_map (λ (m : List ℕ × Json). m.0)) (entry_nowhere faulty c.args.members.now.entries c.loop-key.key-iterator c.loop-key.invariant.2 left))
