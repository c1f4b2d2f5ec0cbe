use Rattle.std.proofs.Common.{◌≡◌, List, ℕ, not, true, Some, option_map, sym, ap, ◌∙◌, arith}
use Rattle.serde_json.specs.Find.{get_member}
use Rattle.serde_json.specs.View.{view}
use Rattle.tapa_base.specs.declared.shape.Port.{Port}
use Rattle.run_data.specs.Data.{has_right_bits, members_at, key_of, key_in}
use Rattle.run_data.specs.Seen.{seen}
use Rattle.run_data.proofs.Faults.{first-misfits_in}
use Rattle.run_data.proofs.Lists.{filter_here, filter_over}
use Rattle.run_data.proofs.misfit.find_misfit_in.Goals as goal

pub returns-then-not-has_right_bits : goal.returns-then-not-has_right_bits
returns-then-not-has_right_bits c =
    let group = c.args.group in
    let found = seen c.group_in-found.result in
    let ports = c.ports-port-items.result.now in
    let port = c.port-item.result in
    let bad = λ (p : Port). not (has_right_bits group p (get_member p.name (members_at found))) in
    let looked = c.member.ensures ∙ ap (λ (name : List ℕ). get_member name (members_at found)) c.bytes-name.ensures.value in
    let is : bad port ≡ true = ap not (sym (c.has_right_bits.ensures ∙ ap (has_right_bits group port) looked) ∙ c.if-not-has_right_bits.true) in
    let told : c.in_ok-key_of.field-0.items ≡ key_of group port = c.in_ok-key_of.ensures ∙ ap (key_in group) c.bytes-name.ensures.value in
    let there = filter_here bad ports c.loop-port.port-index port (omega arith) c.port-item.is is in
    ap Some told ∙ sym (first-misfits_in group c.args.shape.now (view c.args.file.now) found ports c.group_in-found.ensures c.ports-port-items.ensures
    ∙ ap (option_map (key_of group)) (c.loop-port.invariant ∙ there))

pub returns : goal.returns
returns c =
    let group = c.args.group in
    let found = seen c.group_in-found.result in
    let ports = c.ports-port-items.result.now in
    let bad = λ (p : Port). not (has_right_bits group p (get_member p.name (members_at found))) in
    sym (first-misfits_in group c.args.shape.now (view c.args.file.now) found ports c.group_in-found.ensures c.ports-port-items.ensures
    ∙ ap (option_map (key_of group)) (c.loop-port.invariant ∙ filter_over bad ports c.loop-port.port-index (omega arith)))
