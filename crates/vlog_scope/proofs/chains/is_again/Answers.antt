use Rattle.std.proofs.Common.{refl, ◌≡◌, ◌<◌, ℕ, suc, List, length, get_or, sym, ap, ◌∙◌, arith}
use Rattle.std.specs.Prelude.{is_some}
use Rattle.std.proofs.lemmas.List.{get_or_default}
use Rattle.vlog_tree.specs.declared.table.Declaration.{Declaration}
use Rattle.vlog_tree.specs.Table.{Name}
use Rattle.vlog_scope.specs.Chains.{chain_of, name_at, IsChained}
use Rattle.vlog_scope.proofs.Chaining.{from_place, from_next}
use Rattle.vlog_scope.proofs.chains.is_again.Goals as goal

next : (ds : List Declaration) (heads nexts : List ℕ) → IsChained 0 ds heads nexts → (x : Name) (p to : ℕ) → p < length ds → name_at ds p ≡ x → to ≡ get_or nexts p to → from_place ds x (suc p) ≡ from_place ds x to
next ds heads nexts t x p to within named is =
    let low : p < length nexts = (let e = t.len in omega arith) in
    let at : to ≡ get_or nexts p 0 = is ∙ get_or_default nexts p to 0 low in
    from_next ds heads nexts t x p within (ap (λ (y : Name). chain_of (length heads) y) named) ∙ ap (λ k. from_place ds x k) (sym at)

pub returns-in-Some : goal.returns-in-Some
returns-in-Some c =
    let r = c.requires in
    sym (ap is_some (next c.args.declarations.now c.args.chains.now.heads.items c.args.chains.now.nexts.items r.chained c.args.name.now c.args.place c.index.result.now r.within r.named c.index.ensures ∙ c.in-Some.ensures.found))

pub returns-in-None : goal.returns-in-None
returns-in-None c =
    let r = c.requires in
    sym (ap is_some (next c.args.declarations.now c.args.chains.now.heads.items c.args.chains.now.nexts.items r.chained c.args.name.now c.args.place c.index.result.now r.within r.named c.index.ensures ∙ c.in-None.ensures.none refl))
