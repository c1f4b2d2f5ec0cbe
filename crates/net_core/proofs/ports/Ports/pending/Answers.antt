use Rattle.std.proofs.Common.{drop, refl, sym, ap, ◌∙◌, subst}
use Rattle.std.proofs.lemmas.Option.{slice_get_read}
use Rattle.net_core.specs.Kinds.{AreTokensOf}
use Rattle.net_core.specs.Ports.{waiting_in, kind_at}
use Rattle.net_core.proofs.Tokens.{kind_here, tokens_drop}
use Rattle.net_core.proofs.ports.Ports.pending.Goals as goal

pub returns-clause-tokens : goal.returns-clause-tokens
returns-clause-tokens c =
    let q = c.index-port.result.now in
    let at = slice_get_read c.args.self.now.ports.items _ c.args.s q refl c.requires c.index-port.ensures in
    c.from_place.ensures ∙ sym (ap waiting_in at)

pub returns-clause-kind : goal.returns-clause-kind
returns-clause-kind c =
    let q = c.index-port.result.now in
    let at = slice_get_read c.args.self.now.ports.items _ c.args.s q refl c.requires c.index-port.ensures in
    subst (AreTokensOf (kind_at c.args.self.now c.args.s)) (sym c.from_place.ensures)
    (subst (λ k. AreTokensOf k (drop q.head q.tokens.items)) (sym (kind_here c.args.self.now c.args.s q at)) (tokens_drop q.end.kind q.head q.tokens.items q.tokens_fit))
