use Rattle.sim_tape.specs.Trees.{tree_of}
use Rattle.sim_tape.proofs.Growing.{or_says}
use Rattle.sim_tape.proofs.tape.Tape.operate.Goals as goal

pub returns-in-Some-clause-says : goal.returns-in-Some-clause-says
returns-in-Some-clause-says c = or_says (tree_of c.args.self.now) c.requires.tape c.args.operator c.args.a c.args.b c.args.c c.in-Some.slot c.in-Some.ensures
