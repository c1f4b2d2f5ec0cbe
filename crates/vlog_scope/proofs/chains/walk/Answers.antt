use Rattle.std.proofs.Common.{◌≡◌, ◌<◌, true, false, length, get_or, sym, ap, subst, ◌∙◌, arith}
use Rattle.std.specs.Cmp.Lexicographic.{bytes_decides}
use Rattle.std.proofs.lemmas.List.{get_or_default}
use Rattle.vlog_tree.specs.declared.table.Declaration.{Declaration}
use Rattle.vlog_tree.specs.Table.{unknown}
use Rattle.vlog_scope.specs.Chains.{chain_of, name_at}
use Rattle.vlog_scope.proofs.Chaining.{from_place, some_at, to_next}
use Rattle.tapa_base.proofs.Tests.{true_not_false}
use Rattle.vlog_scope.proofs.chains.walk.Goals as goal

pub returns-then-eq-clause-found : goal.returns-then-eq-clause-found
returns-then-eq-clause-found c =
    let ds = c.args.declarations.now in
    let at : name_at ds c.loop-at.at ≡ c.args.name.now =
    sym (ap (λ (d : Declaration). d.name) (get_or_default ds c.loop-at.at c.index-declarations-at.result unknown c.loop-at-test.true))
    ∙ sym c.bytes.ensures.value ∙ (bytes_decides c.bytes.result.now c.args.name.now).0 (sym c.eq.ensures ∙ c.if-eq.true) in
    c.loop-at.invariant.same ∙ some_at ds c.args.name.now c.loop-at.at c.loop-at-test.true at

pub loop-at-preserved : goal.loop-at-preserved
loop-at-preserved c =
    let ds = c.args.declarations.now in
    let heads = c.args.chains.now.heads.items in
    let nexts = c.args.chains.now.nexts.items in
    let p = c.loop-at.at in
    let t = c.requires.chained in
    let low : p < length ds = c.loop-at-test.true in
    let long : p < length nexts = (let e = t.len in omega arith) in
    let named : name_at ds p ≡ c.bytes.result.now =
    sym (ap (λ (d : Declaration). d.name) (get_or_default ds p c.index-declarations-at.result unknown low)) ∙ sym c.bytes.ensures.value in
    let other : name_at ds p ≡ c.args.name.now → ⊥ = λ e. true_not_false (sym ((bytes_decides c.bytes.result.now c.args.name.now).1 (sym named ∙ e)) ∙ sym c.eq.ensures ∙ c.if-eq.false) in
    let n : c.index-at.result.now ≡ get_or nexts p 0 = c.index-at.ensures ∙ get_or_default nexts p c.index-at.result.now 0 long in
    let on = c.loop-at.invariant.on low in
    record {
      on = λ h. ap (λ k. chain_of (length heads) (name_at ds k)) n ∙ t.next p (omega arith) low (subst (λ k. k < length ds) n h) ∙ on;
      same = c.loop-at.invariant.same ∙ to_next ds heads nexts t c.args.name.now p low on other ∙ ap (λ k. from_place ds c.args.name.now k) (sym n);
    }
