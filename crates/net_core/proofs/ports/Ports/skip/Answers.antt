use Rattle.std.proofs.Common.{◌+◌, drop, refl, sym, ap, ◌∙◌, arith}
use Rattle.std.proofs.lemmas.Option.{slice_get_read}
use Rattle.net_core.specs.Ports.{waiting_in}
use Rattle.net_core.proofs.Moves.{adjust, drop_sum, get_set_same, space_grows}
use Rattle.net_core.proofs.ports.Ports.skip.Goals as goal

pub returns-clause-adjusted : goal.returns-clause-adjusted
returns-clause-adjusted c = adjust c.args.self.now _ c.args.s c.index_mut-port.result.now _ (slice_get_read c.args.self.now.ports.items _ c.args.s c.index_mut-port.result.now refl c.requires.port c.index_mut-port.ensures.value) refl refl refl

pub returns-clause-waits : goal.returns-clause-waits
returns-clause-waits c =
    let q = c.index_mut-port.result.now in
    let at = slice_get_read c.args.self.now.ports.items _ c.args.s c.index_mut-port.result.now refl c.requires.port c.index_mut-port.ensures.value in
    ap waiting_in (get_set_same c.args.self.now.ports.items c.args.s _ c.requires.port)
    ∙ sym (drop_sum q.head c.args.count (q.head + c.args.count) q.tokens.items refl)
    ∙ ap (λ l. drop c.args.count l) (sym (ap waiting_in at))

pub returns-clause-space : goal.returns-clause-space
returns-clause-space c = space_grows c.args.self.now.ports.items c.args.s c.index_mut-port.result.now _ (slice_get_read c.args.self.now.ports.items _ c.args.s c.index_mut-port.result.now refl c.requires.port c.index_mut-port.ensures.value) (omega arith)
