use Rattle.std.proofs.Common.{refl, ap, subst}
use Rattle.std.proofs.lemmas.Option.{slice_get_read}
use Rattle.net_core.specs.Kinds.{AreTokensOf}
use Rattle.net_core.specs.Ports.{waiting_in}
use Rattle.net_core.proofs.Tokens.{kind_here}
use Rattle.net_core.proofs.Moves.{adjust, get_set_same}
use Rattle.net_core.proofs.ports.Ports.offer.Goals as goal

pub returns-clause-adjusted : goal.returns-clause-adjusted
returns-clause-adjusted c = adjust c.args.self.now _ c.args.s c.index_mut-port.result.now _ (slice_get_read c.args.self.now.ports.items _ c.args.s c.index_mut-port.result.now refl c.requires.port c.index_mut-port.ensures.value) refl refl refl

pub returns-clause-waits : goal.returns-clause-waits
returns-clause-waits c = ap waiting_in (get_set_same c.args.self.now.ports.items c.args.s _ c.requires.port)

pub invariant_of-port-clause-tokens_fit : goal.invariant_of-port-clause-tokens_fit
invariant_of-port-clause-tokens_fit c =
    let at = slice_get_read c.args.self.now.ports.items _ c.args.s c.index_mut-port.result.now refl c.requires.port c.index_mut-port.ensures.value in
    subst (λ k. AreTokensOf k c.args.tokens.items) (kind_here c.args.self.now c.args.s c.index_mut-port.result.now at) c.requires.kind
