use Rattle.std.proofs.Common.{None, get_or, sym, ap, ◌∙◌, ◌≤◌, length, arith}
use Rattle.sim_gates.proofs.Putting.{same_places, slots_put, is_put}
use Rattle.sim_gates.proofs.AtomSlots.{not_missing}
use Rattle.sim_gates.proofs.Readying.{past_some}
use Rattle.sim_gates.proofs.writes.put_at.Goals as goal

pub choose-requires-clause-no : goal.choose-requires-clause-no
choose-requires-clause-no c = c.requires.next c.args.place c.in-Some.old (sym (c.in-Some.ensures ∙ ap (λ l. get_or l c.args.place None) c.deref.ensures.value))

pub returns-clause-slots : goal.returns-clause-slots
returns-clause-slots c =
    slots_put c.args.next.now.items c.args.place c.in-Some.old c.in_ok-chosen.chosen (sym (c.in-Some.ensures ∙ ap (λ l. get_or l c.args.place None) c.deref.ensures.value)) _ _ c.in_ok-chosen.ensures.extends.grows.gates c.requires.next c.in_ok-chosen.ensures.slots

pub returns-clause-same : goal.returns-clause-same
returns-clause-same c = same_places c.args.next.now.items c.args.place c.in-Some.old c.in_ok-chosen.chosen (sym (c.in-Some.ensures ∙ ap (λ l. get_or l c.args.place None) c.deref.ensures.value))

pub returns-clause-says : goal.returns-clause-says
returns-clause-says c = λ cells ns h.
    is_put c.args.next.now.items c.args.place c.in-Some.old c.in_ok-chosen.chosen (sym (c.in-Some.ensures ∙ ap (λ l. get_or l c.args.place None) c.deref.ensures.value)) ns c.args.on c.args.value (c.in_ok-chosen.ensures.says cells ns h)

pub returns-then-place-len-clause-some : goal.returns-then-place-len-clause-some
returns-then-place-len-clause-some c = λ have.
    let past : length c.args.next.now.items ≤ c.args.place = omega (arith, c.args.next.now.ok.0) in
    absurd (past_some c.args.next.now.items c.args.place past have)

pub returns-in_default-clause-some : goal.returns-in_default-clause-some
returns-in_default-clause-some c = λ have. absurd (not_missing _ (c.in_default.ensures ∙ ap (λ l. get_or l c.args.place None) c.deref.ensures.value) have)
