use Rattle.std.proofs.Common.{◌-◌, length, take, drop, arith}
use Rattle.stream_arrays.specs.Writing.{writing}
use Rattle.stream_arrays.proofs.Writers.{said_name, names_done}
use Rattle.stream_arrays.proofs.declaration.write_names.Goals as goal

pub loop-name-preserved : goal.loop-name-preserved
loop-name-preserved c =
    said_name c.args.text.now c.args.count (take (length c.args.names.now - 1) (drop 1 c.args.names.now)) c.loop-name.name-index _ (writing c.write_elements.new.out) (writing c.loop-name.out) (writing c.word.new.self)
    (writing c.write_elements-in-loop-name.new.out) c.loop-name-test.true c.loop-name.invariant c.in_ok-word.ensures c.in_ok-write_elements-2.ensures.ok

pub returns-clause-ok : goal.returns-clause-ok
returns-clause-ok c =
    names_done c.args.text.now c.args.count c.args.names.now c.loop-name.name-index _ (writing c.args.out.now) (writing c.write_elements.new.out) (writing c.loop-name.out) (omega arith) c.loop-name-test.false c.in_ok-write_elements.ensures.ok
    c.loop-name.invariant
