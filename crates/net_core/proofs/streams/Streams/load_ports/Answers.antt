use Rattle.std.proofs.Common.{◌≡◌, ◌<◌, length, refl, subst, arith}
use Rattle.std.proofs.lemmas.Option.{slice_get_read}
use Rattle.net_core.specs.Bindings.{arity}
use Rattle.net_core.specs.Load.{AreLoaded}
use Rattle.net_core.proofs.Loaded.{kept_more, loaded_more}
use Rattle.net_core.proofs.streams.Streams.load_ports.Goals as goal

pub load_port-requires-clause-tie : goal.load_port-requires-clause-tie
load_port-requires-clause-tie c =
    let l : c.loop-p.p < length c.args.ties.now.items = let e = c.len-p-end.ensures in let t = c.loop-p-test.true in let o = c.args.ties.now.ok.0 in omega arith in
    c.requires.ties c.loop-p.p c.index.result.now (slice_get_read c.args.ties.now.items _ c.loop-p.p c.index.result.now refl l c.index.ensures)

pub loop-p-preserved : goal.loop-p-preserved
loop-p-preserved c =
    let inv = c.loop-p.invariant in
    let e = c.in_ok-load_port.ensures in
    record {
      kept = kept_more c.args.program.now _ _ _ c.args.i c.loop-p.p inv.kept e.reloaded;
      ports = e.ports;
      loaded = loaded_more c.args.program.now c.requires.connected c.args.i c.loop-p.p c.requires.instance _ _ _ inv.kept inv.loaded e.reloaded e.loaded;
    }

pub returns-clause-loaded : goal.returns-clause-loaded
returns-clause-loaded c =
    let e = c.len-p-end.ensures in
    let t = c.loop-p-test.false in
    let u = c.loop-p.auto.p-end in
    let o = c.args.ties.now.ok.0 in
    let n = c.requires.as_many in
    let all : c.loop-p.p ≡ arity c.args.program.now c.args.i = omega arith in
    subst (λ m. AreLoaded c.args.program.now m c.args.i c.args.self.now c.loop-p.self) all c.loop-p.invariant.loaded
