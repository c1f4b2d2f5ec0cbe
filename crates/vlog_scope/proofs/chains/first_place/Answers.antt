use Rattle.std.proofs.Common.{◌≡◌, ◌<◌, ℕ, suc, Bool, Option, Some, length, get_or, sym, ap, subst, ◌∙◌, arith, rules}
use Rattle.std.specs.Prelude.{IfSome, is_some}
use Rattle.std.proofs.lemmas.List.{get_or_default}
use Rattle.vlog_scope.specs.Chains.{chain_of}
use Rattle.vlog_scope.proofs.Chaining.{from_place, from_head}
use Rattle.vlog_scope.proofs.chains.first_place.Goals as goal

head : (c : goal.After-walk) → from_place c.args.declarations.now c.args.name.now 0 ≡ from_place c.args.declarations.now c.args.name.now c.index.result.now
head c =
    let ds = c.args.declarations.now in
    let heads = c.args.chains.now.heads.items in
    let x = c.args.name.now in
    let b = c.chain_at-chain.result in
    let len : c.len.result ≡ length heads = search rules in
    let low : b < length heads = (let w = c.chain_at-chain.ensures.within in omega arith) in
    let is : b ≡ chain_of (length heads) x = c.chain_at-chain.ensures.value ∙ ap (λ n. chain_of n x) len in
    let at : c.index.result.now ≡ get_or heads b 0 = c.index.ensures ∙ get_or_default heads b c.index.result.now 0 low in
    from_head ds heads c.args.chains.now.nexts.items c.requires x b is low ∙ ap (λ k. from_place ds x k) (sym at)

pub returns-clause-found : goal.returns-clause-found
returns-clause-found c =
    subst (λ (o : Option (ℕ × Bool)). IfSome c.walk.result (λ p. o ≡ Some (p, is_some (from_place c.args.declarations.now c.args.name.now (suc p))))) (sym (head c)) c.walk.ensures.found

pub returns-clause-none : goal.returns-clause-none
returns-clause-none c = λ e. head c ∙ c.walk.ensures.none e
