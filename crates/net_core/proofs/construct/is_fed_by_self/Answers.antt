use Rattle.std.proofs.Common.{◌≡◌, ℕ, sym, ◌∙◌, subst}
use Rattle.net_core.specs.Bindings.{IsReader, consumer_of}
use Rattle.net_core.proofs.construct.is_fed_by_self.Goals as goal

pub returns-then-consumer-i : goal.returns-then-consumer-i
returns-then-consumer-i c =
    let s = c.stream_at.result in
    let at : consumer_of c.args.program.now s ≡ c.args.i = sym c.consumer.ensures.is ∙ c.if-consumer-i.true in
    let r = subst (λ z. (q : ℕ) × IsReader c.args.program.now s z q) at (c.requires.connected.read_at s c.stream_at.ensures.inside) in
    record { writes_at = c.loop-p.p; reads_at = r.0; writes = c.if-writes_at.ensures; reads = r.1.0; same = sym c.stream_at.ensures.is ∙ sym r.1.1 }
