use Rattle.std.proofs.Common.{◌≡◌, true, not, Some, string_bytes, sym, ap, ◌∙◌}
use Rattle.std.proofs.lemmas.Map.Iter.{rest_more, rest_all}
use Rattle.std.specs.Map.Iter.{deref}
use Rattle.run_data.proofs.Views.{key_here, key_nowhere}
use Rattle.plan_device.specs.Faults.{is_key_in}
use Rattle.plan_device.proofs.misshapen.find_unknown_key.Goals as goal

pub returns-then-not-has_key : goal.returns-then-not-has_key
returns-then-not-has_key c =
    let format = c.args.format in
    let key = c.in-Some.key.now in
    let left = rest_more deref c.loop-key.key-iterator c.next.new.self c.next.result c.in-Some.key c.in-Some.is c.next.ensures.steps in
    let unknown : not (is_key_in format (string_bytes key)) ≡ true = ap not (sym (c.has_key.ensures ∙ ap (is_key_in format) c.as_str.ensures.value) ∙ c.if-not-has_key.true) in
    ap Some c.as_bytes.ensures.value
    ∙ key_here (λ name. not (is_key_in format name)) c.args.members.now.entries c.loop-key.key-iterator c.loop-key.invariant.2 key c.next.new.self left unknown

pub returns : goal.returns
returns c =
    let format = c.args.format in
    let left = rest_all deref c.loop-key.key-iterator c.next.new.self c.next.result c.in-None.is c.next.ensures.steps in
    key_nowhere (λ name. not (is_key_in format name)) c.args.members.now.entries c.loop-key.key-iterator c.loop-key.invariant.2 left
