use Rattle.std.proofs.Common.{◌≡◌, refl, sym, ap, ◌∙◌, subst, arith}
use Rattle.std.specs.Prelude.{slice_set, is_ok}
use Rattle.std.proofs.lemmas.List.{length-set}
use Rattle.std.proofs.lemmas.Option.{slice_get_read}
use Rattle.net_core.specs.Kinds.{AreTokensOf, kind_in}
use Rattle.net_core.specs.Ports.{kind_at, ends_by, carried_by, waiting_by}
use Rattle.net_core.proofs.Tokens.{tokens_extended}
use Rattle.net_core.proofs.Moves.{get_set_same, reloaded, reloaded_twice}
use Rattle.net_core.proofs.Queued.{waits_extended}
use Rattle.net_core.proofs.load.offer_own.Goals as goal

pub offer-requires-clause-kind : goal.offer-requires-clause-kind
offer-requires-clause-kind c =
    let all = c.args.all.now.items in
    let i = c.args.i in
    let p = c.args.p in
    let x = c.index_mut.result.now in
    let L = c.lift-tokens.new.self in
    let len = length-set all i L in
    let li = c.requires.reader in
    let lj = c.requires.reader in
    let ex = slice_get_read all _ i x refl li c.index_mut.ensures.value in
    let same = get_set_same all i L li in
    let e2 = slice_get_read (slice_set all i L) _ i c.index_mut-2.result.now refl (omega arith) c.index_mut-2.ensures.value in
    let is : L ≡ c.index_mut-2.result.now = cc in
    let r = reloaded all (slice_set all i L) i p x L ex refl c.lift-tokens.ensures.adjusted in
    let ey = slice_get_read (slice_set all i L) _ c.args.i c.index.result.now refl (omega arith) c.index.ensures in
    let kx : kind_at L p ≡ kind_at x p = ap (λ ends. kind_in ends p) c.lift-tokens.ensures.adjusted.ends in
    let ky : kind_at c.index.result.now c.args.q ≡ kind_at x c.args.q = ap (λ ends. kind_in ends c.args.q) (ap ends_by (sym ey) ∙ r.ends c.args.i ∙ ap ends_by ex) in
    subst (λ z. AreTokensOf (kind_at z p) c.extended-grown.new.tokens.items) is
    (subst (λ k. AreTokensOf k c.extended-grown.new.tokens.items) (sym kx)
    (tokens_extended (is_ok c.extended-grown.result) (kind_at x p) c.lift-tokens.result.0.items c.extended-grown.new.tokens.items c.carried.result.now c.args.from c.extended-grown.ensures.items c.lift-tokens.ensures.kind
    (subst (λ k. AreTokensOf k c.carried.result.now) (ky ∙ c.requires.kind x ex) c.carried.ensures.kind)))

pub returns : goal.returns
returns c =
    let all = c.args.all.now.items in
    let i = c.args.i in
    let x = c.index_mut.result.now in
    let L = c.lift-tokens.new.self in
    let len = length-set all i L in
    let li = c.requires.reader in
    let ex = slice_get_read all _ i x refl li c.index_mut.ensures.value in
    let e2 = slice_get_read (slice_set all i L) _ i c.index_mut-2.result.now refl (omega arith) c.index_mut-2.ensures.value in
    let r = reloaded all (slice_set all i L) i c.args.p x L ex refl c.lift-tokens.ensures.adjusted in
    let ey = slice_get_read (slice_set all i L) _ c.args.i c.index.result.now refl (omega arith) c.index.ensures in
    record {
      reloaded = reloaded_twice all (slice_set all i L) _ i c.args.p r (reloaded (slice_set all i L) (slice_set (slice_set all i L) i c.offer.new.self) i c.args.p c.index_mut-2.result.now c.offer.new.self e2 refl c.offer.ensures.adjusted);
      waits =
          ap (λ o. waiting_by o c.args.p) (get_set_same (slice_set all i L) i c.offer.new.self (omega arith))
          ∙ c.offer.ensures.waits
          ∙ waits_extended (is_ok c.extended-grown.result) c.lift-tokens.result.0.items c.extended-grown.new.tokens.items c.carried.result.now _ _ c.lift-tokens.result.1 c.args.from c.extended-grown.ensures.items c.lift-tokens.ensures.within (c.lift-tokens.ensures.tokens ∙ sym (ap (λ o. waiting_by o c.args.p) ex))
          (c.carried.ensures.tokens ∙ sym (ap (λ o. carried_by o c.args.q) ey) ∙ r.carries c.args.i c.args.q);
    }
