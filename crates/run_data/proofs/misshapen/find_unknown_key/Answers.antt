use Rattle.std.proofs.Common.{◌≡◌, ℕ, List, true, not, Some, string_bytes, sym, ap, ◌∙◌}
use Rattle.std.proofs.lemmas.Map.Iter.{rest_more, rest_all}
use Rattle.std.specs.Map.Iter.{deref}
use Rattle.run_data.specs.Seen.{has_name}
use Rattle.run_data.proofs.Views.{key_here, key_nowhere}
use Rattle.run_data.proofs.misshapen.find_unknown_key.Goals as goal

pub returns-then-not-contains_key : goal.returns-then-not-contains_key
returns-then-not-contains_key c =
    let names = c.args.names.now in
    let key = c.in-Some.key.now in
    let left = rest_more deref c.loop-key.key-iterator c.next.new.self c.next.result c.in-Some.key c.in-Some.is c.next.ensures.steps in
    let unknown : not (has_name names (string_bytes key)) ≡ true = ap not (sym (c.contains_key.ensures ∙ ap (λ (name : List ℕ). has_name names name) c.as_str.ensures.value) ∙ c.if-not-contains_key.true) in
    ap Some c.as_bytes.ensures.value
    ∙ key_here (λ name. not (has_name names name)) c.args.members.now.entries c.loop-key.key-iterator c.loop-key.invariant.2 key c.next.new.self left unknown

pub returns : goal.returns
returns c =
    let names = c.args.names.now in
    let left = rest_all deref c.loop-key.key-iterator c.next.new.self c.next.result c.in-None.is c.next.ensures.steps in
    key_nowhere (λ name. not (has_name names name)) c.args.members.now.entries c.loop-key.key-iterator c.loop-key.invariant.2 left
