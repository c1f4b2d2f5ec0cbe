use Rattle.std.proofs.Common.{drop, refl, sym, ap, ◌∙◌, subst}
use Rattle.std.specs.Prelude.{Vec}
use Rattle.std.specs.declared.alloc.Global.{Global}
use Rattle.std.proofs.lemmas.Option.{slice_get_read}
use Rattle.tapa_base.specs.declared.token.Token.{Token}
use Rattle.net_core.specs.Kinds.{AreTokensOf}
use Rattle.net_core.specs.Ports.{waiting_in, kind_at}
use Rattle.net_core.proofs.Tokens.{kind_here, tokens_drop}
use Rattle.net_core.proofs.Moves.{adjust}
use Rattle.net_core.proofs.ports.Ports.lift.Goals as goal

pub returns-then-head-len-clause-adjusted : goal.returns-then-head-len-clause-adjusted
returns-then-head-len-clause-adjusted c = adjust c.args.self.now _ c.args.s c.index_mut-port.result.now _ (slice_get_read c.args.self.now.ports.items _ c.args.s c.index_mut-port.result.now refl c.requires.port c.index_mut-port.ensures.value) refl refl refl

pub returns-then-head-len-clause-tokens : goal.returns-then-head-len-clause-tokens
returns-then-head-len-clause-tokens c =
    let q = c.index_mut-port.result.now in
    let at = slice_get_read c.args.self.now.ports.items _ c.args.s q refl c.requires.port c.index_mut-port.ensures.value in
    ap (λ (v : Vec Token Global). drop q.head v.items) c.replace-tokens.ensures.value ∙ sym (ap waiting_in at)

pub returns-then-head-len-clause-kind : goal.returns-then-head-len-clause-kind
returns-then-head-len-clause-kind c =
    let q = c.index_mut-port.result.now in
    let at = slice_get_read c.args.self.now.ports.items _ c.args.s q refl c.requires.port c.index_mut-port.ensures.value in
    subst (λ (v : Vec Token Global). AreTokensOf (kind_at c.args.self.now c.args.s) v.items) (sym c.replace-tokens.ensures.value)
    (subst (λ k. AreTokensOf k q.tokens.items) (sym (kind_here c.args.self.now c.args.s q at)) q.tokens_fit)

pub returns-else-head-len-clause-adjusted : goal.returns-else-head-len-clause-adjusted
returns-else-head-len-clause-adjusted c = adjust c.args.self.now _ c.args.s c.index_mut-port.result.now _ (slice_get_read c.args.self.now.ports.items _ c.args.s c.index_mut-port.result.now refl c.requires.port c.index_mut-port.ensures.value) refl refl refl

pub returns-else-head-len-clause-tokens : goal.returns-else-head-len-clause-tokens
returns-else-head-len-clause-tokens c =
    let q = c.index_mut-port.result.now in
    let at = slice_get_read c.args.self.now.ports.items _ c.args.s q refl c.requires.port c.index_mut-port.ensures.value in
    c.without_front.ensures ∙ ap (λ (v : Vec Token Global). drop q.head v.items) c.replace-tokens.ensures.value ∙ sym (ap waiting_in at)

pub returns-else-head-len-clause-kind : goal.returns-else-head-len-clause-kind
returns-else-head-len-clause-kind c =
    let q = c.index_mut-port.result.now in
    let at = slice_get_read c.args.self.now.ports.items _ c.args.s q refl c.requires.port c.index_mut-port.ensures.value in
    subst (AreTokensOf (kind_at c.args.self.now c.args.s)) (sym c.without_front.ensures)
    (tokens_drop (kind_at c.args.self.now c.args.s) q.head c.replace-tokens.result.items
    (subst (λ (v : Vec Token Global). AreTokensOf (kind_at c.args.self.now c.args.s) v.items) (sym c.replace-tokens.ensures.value)
    (subst (λ k. AreTokensOf k q.tokens.items) (sym (kind_here c.args.self.now c.args.s q at)) q.tokens_fit)))
