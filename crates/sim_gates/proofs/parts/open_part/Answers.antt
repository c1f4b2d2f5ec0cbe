use Rattle.std.proofs.Common.{length, sym, refl, ap}
use Rattle.std.specs.Prelude.{reverse}
use Rattle.vlog_tree.specs.Table.{bits_of}
use Rattle.sim_tape.specs.Tape.{number_at}
use Rattle.sim_tape.specs.Trees.{tree_of}
use Rattle.sim_gates.proofs.AtomSlots.{found_before, not_missing}
use Rattle.sim_gates.proofs.Walking.{on_before, one_bit, if_turned}
use Rattle.sim_gates.specs.Ready.{elses}
use Rattle.sim_gates.proofs.parts.open_part.Goals as goal

pub enter-requires-clause-around : goal.enter-requires-clause-around
enter-requires-clause-around c = on_before (length (tree_of c.args.tape.now).gates) c.args.walk.now.on (reverse c.args.walk.now.parts.items) c.requires.walk

pub enter-requires-clause-test : goal.enter-requires-clause-test
enter-requires-clause-test c =
    (found_before c.args.nets.now.scope.now c.args.nets.now.pairs.now (length (tree_of c.args.tape.now).gates) c.requires.nets c.args.test.now c.in-Some.pair (sym c.in-Some.ensures)).0

pub returns-clause-value : goal.returns-clause-value
returns-clause-value c = λ cells ns s k h shows bit walk.
    let ds = c.args.nets.now.scope.now in
    let x = c.args.test.now in
    let p = c.in-Some.pair in
    let got = sym c.in-Some.ensures in
    if_turned s k ns x p.low c.args.walk.now.on c.enter.new.walk.on (reverse c.args.walk.now.parts.items) (reverse c.enter.new.walk.parts.items)
    (one_bit (k.net x) (number_at ns p.high) (number_at ns p.low) (bits_of ds x) (shows.value x p got) (shows.fits x p got) bit) c.in_ok-enter.ensures.parts (c.in_ok-enter.ensures.says cells ns h) walk

pub returns-in_default-clause-some : goal.returns-in_default-clause-some
returns-in_default-clause-some c = λ have. absurd (not_missing _ c.in_default.ensures have)

pub returns-clause-some : goal.returns-clause-some
returns-clause-some c = λ have. (refl, ap elses c.in_ok-enter.ensures.parts)
