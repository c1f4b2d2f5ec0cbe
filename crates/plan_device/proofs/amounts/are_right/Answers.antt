use Rattle.std.proofs.Common.{◌≡◌, ℕ, List, false, string_bytes, sym, ap, ◌∙◌}
use Rattle.std.proofs.lemmas.Map.Iter.{rest_more, rest_all}
use Rattle.std.specs.Map.Iter.{deref_pair}
use Rattle.serde_json.specs.Data.{Data as Json}
use Rattle.serde_json.specs.View.{view}
use Rattle.plan_device.specs.Asked.{is_right}
use Rattle.plan_device.proofs.Entries.{entry_fails, entries_pass}
use Rattle.plan_device.proofs.amounts.are_right.Goals as goal

pub returns-then-not-is_right-clause-value : goal.returns-then-not-is_right-clause-value
returns-then-not-is_right-clause-value c =
    let right = λ (m : List ℕ × Json). is_right c.args.asked m.0 m.1 in
    let key = c.in-Some.name.now in
    let value = c.in-Some.value.now in
    let left = rest_more deref_pair c.loop-name.name-iterator c.next.new.self c.next.result (c.in-Some.name, c.in-Some.value) c.in-Some.is c.next.ensures.steps in
    let fails : right (string_bytes key, view value) ≡ false = sym (c.is_right.ensures ∙ ap (λ (name : List ℕ). is_right c.args.asked name (view value)) c.as_str.ensures.value) ∙ c.if-not-is_right.true in
    sym (entry_fails right c.args.members.now.entries c.loop-name.name-iterator c.loop-name.invariant.2 (key, value) c.next.new.self left fails)

pub returns-clause-value : goal.returns-clause-value
returns-clause-value c =
    let right = λ (m : List ℕ × Json). is_right c.args.asked m.0 m.1 in
    let left = rest_all deref_pair c.loop-name.name-iterator c.next.new.self c.next.result c.in-None.is c.next.ensures.steps in
    sym (entries_pass right c.args.members.now.entries c.loop-name.name-iterator c.loop-name.invariant.2 left)
