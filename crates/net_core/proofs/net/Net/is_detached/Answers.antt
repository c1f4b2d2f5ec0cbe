use Rattle.std.proofs.Common.{sym, ap, ◌∙◌}
use Rattle.tapa_syntax.specs.declared.program.Program.{Program}
use Rattle.net_core.specs.declared.net_state.NetState.{NetState}
use Rattle.net_core.specs.Bindings.{detached_at}
use Rattle.net_core.proofs.Shown.{detached_is}
use Rattle.net_core.proofs.net.Net.is_detached.Goals as goal

pub returns : goal.returns
returns g c =
    let now = c.args.self.now in
    c.is_detached.ensures ∙ ap (λ (p : Program). detached_at p c.args.i) (c.deref.ensures ∙ ap (λ (z : NetState). z.program) c.self.view_is) ∙ sym (detached_is now.program now.input c.args.i)
