use Rattle.std.proofs.Common.{◌≡◌, ◌+◌, List, [], length, sym, ap, subst, ◌∙◌, arith}
use Rattle.std.specs.Vec.{with_items}
use Rattle.std.proofs.lemmas.List.{with_items_is}
use Rattle.tapa_base.specs.declared.token.Token.{Token}
use Rattle.vlog_tree.specs.Environment.{tokens}
use Rattle.vlog_design.specs.Environments.{lists_of}
use Rattle.cycle_sim.specs.Simulators.{sim_of}
use Rattle.cycle_sim.specs.Sims.{IsNext, IsLater, AreTokensAdded, IsRunTo}
use Rattle.cycle_sim.proofs.Adding.{tokens_next, later_next, later_none, run_on}
use Rattle.tapa_base.proofs.Tests.{true_not_false}
use Rattle.tapa_base.proofs.Got.{on_err}
use Rattle.cycle_sim.proofs.sim.run_cycles.Goals as goal

pub returns-then-done-clause-tokens : goal.returns-then-done-clause-tokens
returns-then-done-clause-tokens c =
    let first = sim_of c.args.sim.now in
    let now = sim_of c.loop-cycle.sim in
    let next = sim_of c.go_on.new.sim in
    let v = c.loop-cycle.tokens in
    let long : length c.go_on.new.tokens ≡ v.len = c.go_on.auto.tokens ∙ ap length c.deref_mut.ensures.value ∙ sym v.ok.0 in
    let w : (with_items v c.go_on.new.tokens).items ≡ c.go_on.new.tokens = with_items_is v c.go_on.new.tokens long in
    let old : List (List Token) = lists_of v.items in
    let new : List (List Token) = lists_of (with_items v c.go_on.new.tokens).items in
    let added : AreTokensAdded next old new = subst (λ l. AreTokensAdded next old (lists_of l)) (sym w) (subst (λ l. AreTokensAdded next (lists_of l) (lists_of c.go_on.new.tokens)) c.deref_mut.ensures.value c.in_ok-go_on.ensures.added) in
    let step : IsNext now next = c.in_ok-go_on.ensures.next in
    let run : IsRunTo first now old = c.loop-cycle.invariant.1 in
    let cycle : next.told.cycle ≡ c.loop-cycle.cycle + 1 = step.cycle ∙ ap (λ n. n + 1) c.loop-cycle.invariant.0 in
    λ m env nets at f r u told place l got. ap (λ n. tokens l.bits (λ n. nets n []) l.name n) (sym cycle) ∙ tokens_next first now next old new run step added m env nets at f r u told place l got

pub loop-cycle-preserved : goal.loop-cycle-preserved
loop-cycle-preserved c =
    let first = sim_of c.args.sim.now in
    let now = sim_of c.loop-cycle.sim in
    let next = sim_of c.go_on.new.sim in
    let v = c.loop-cycle.tokens in
    let long : length c.go_on.new.tokens ≡ v.len = c.go_on.auto.tokens ∙ ap length c.deref_mut.ensures.value ∙ sym v.ok.0 in
    let w : (with_items v c.go_on.new.tokens).items ≡ c.go_on.new.tokens = with_items_is v c.go_on.new.tokens long in
    let old : List (List Token) = lists_of v.items in
    let new : List (List Token) = lists_of (with_items v c.go_on.new.tokens).items in
    let added : AreTokensAdded next old new = subst (λ l. AreTokensAdded next old (lists_of l)) (sym w) (subst (λ l. AreTokensAdded next (lists_of l) (lists_of c.go_on.new.tokens)) c.deref_mut.ensures.value c.in_ok-go_on.ensures.added) in
    let step : IsNext now next = c.in_ok-go_on.ensures.next in
    let run : IsRunTo first now old = c.loop-cycle.invariant.1 in
    let cycle : next.told.cycle ≡ c.loop-cycle.cycle + 1 = step.cycle ∙ ap (λ n. n + 1) c.loop-cycle.invariant.0 in
    (cycle, run_on first now next old new run step added (λ m env nets at f r u told d. true_not_false (sym ((c.done.ensures m env nets at f r u told).1 d) ∙ c.if-done.false)))

pub returns-then-done-clause-later : goal.returns-then-done-clause-later
returns-then-done-clause-later c =
    let first = sim_of c.args.sim.now in
    let now = sim_of c.loop-cycle.sim in
    let next = sim_of c.go_on.new.sim in
    let old : List (List Token) = lists_of c.loop-cycle.tokens.items in
    let step : IsNext now next = c.in_ok-go_on.ensures.next in
    let run : IsRunTo first now old = c.loop-cycle.invariant.1 in
    let cycle : next.told.cycle ≡ c.loop-cycle.cycle + 1 = step.cycle ∙ ap (λ n. n + 1) c.loop-cycle.invariant.0 in
    subst (λ n. IsLater first next n) cycle (later_next first now next old run step)

pub returns-in_err-tokens-clause-short : goal.returns-in_err-tokens-clause-short
returns-in_err-tokens-clause-short c = on_err c.from_residual.result (0, omega arith, later_none (sim_of c.args.sim.now) c.requires)

pub returns-in_err-go_on-clause-short : goal.returns-in_err-go_on-clause-short
returns-in_err-go_on-clause-short c =
    let first = sim_of c.args.sim.now in
    let now = sim_of c.loop-cycle.sim in
    let next = sim_of c.go_on.new.sim in
    let old : List (List Token) = lists_of c.loop-cycle.tokens.items in
    let step : IsNext now next = c.go_on.ensures.next in
    let run : IsRunTo first now old = c.loop-cycle.invariant.1 in
    let cycle : next.told.cycle ≡ c.loop-cycle.cycle + 1 = step.cycle ∙ ap (λ n. n + 1) c.loop-cycle.invariant.0 in
    on_err c.from_residual-in_err-go_on.result (c.loop-cycle.cycle + 1, omega (arith, c.loop-cycle-test.true), subst (λ n. IsLater first next n) cycle (later_next first now next old run step))
