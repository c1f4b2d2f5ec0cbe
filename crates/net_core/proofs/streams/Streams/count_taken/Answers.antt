use Rattle.std.proofs.Common.{◌<◌, length, refl, sym, ap, ◌∙◌, arith}
use Rattle.std.specs.Prelude.{slice_index}
use Rattle.std.proofs.lemmas.Option.{slice_get_read}
use Rattle.net_core.specs.Bindings.{stream_at}
use Rattle.net_core.specs.Ports.{waiting_of}
use Rattle.net_core.proofs.Loaded.{tables_same, took_more}
use Rattle.net_core.proofs.streams.Streams.count_taken.Goals as goal

pub count_taken_at-requires-clause-tables : goal.count_taken_at-requires-clause-tables
count_taken_at-requires-clause-tables c = tables_same c.args.program.now c.args.self.now c.loop-p.self c.requires.tables c.loop-p.invariant.same

pub count_taken_at-requires-clause-tie : goal.count_taken_at-requires-clause-tie
count_taken_at-requires-clause-tie c =
    let l : c.loop-p.p < length c.args.ties.now.items = let e = c.len-p-end.ensures in let t = c.loop-p-test.true in let o = c.args.ties.now.ok.0 in omega arith in
    c.requires.ties c.loop-p.p c.index.result.now (slice_get_read c.args.ties.now.items _ c.loop-p.p c.index.result.now refl l c.index.ensures)

pub count_taken_at-requires-clause-enough : goal.count_taken_at-requires-clause-enough
count_taken_at-requires-clause-enough c = λ d.
    let same = c.loop-p.invariant.same in
    let o = ap (λ o. slice_index o (stream_at c.args.program.now c.args.i c.loop-p.p)) same.offered in
    let w = ap (λ ps. length (waiting_of ps c.args.i c.loop-p.p)) same.ports in
    let enough = c.requires.enough c.loop-p.p d in
    omega arith

pub loop-p-preserved : goal.loop-p-preserved
loop-p-preserved c =
    let inv = c.loop-p.invariant in
    let e = c.count_taken_at.ensures in
    record {
      same = record { ports = e.same.ports ∙ inv.same.ports; writers = e.same.writers ∙ inv.same.writers; offered = e.same.offered ∙ inv.same.offered; taken_len = e.same.taken_len ∙ inv.same.taken_len };
      took = took_more c.args.program.now c.requires.connected c.args.i c.loop-p.p c.args.self.now c.loop-p.self c.count_taken_at.new.self inv.same inv.took e.took e.others;
      others = λ s h. e.others s (λ d q. h c.loop-p.p d (sym q)) ∙ inv.others s h;
    }
