use Rattle.std.proofs.Common.{◌≡◌, ◌<◌, ◌+◌, ◌++◌, drop, map, length, sym, ap, subst, ◌∙◌, arith}
use Rattle.std.proofs.lemmas.Result.{err_from_is_err_and}
use Rattle.tapa_syntax.specs.Flat.{flat_instance}
use Rattle.check_scope.specs.declared.users.Users.TheVariants.{Nobody}
use Rattle.stream_check.specs.Programs as program
use Rattle.check_scope.specs.Users.{users_of}
use Rattle.check_scope.proofs.Order.{refuses}
use Rattle.stream_check.proofs.Bound.{few_memories}
use Rattle.tapa_base.proofs.Got.{next_of as begins}
use Rattle.stream_check.proofs.bindings.check_writers.Goals as goal

pub returns-in_err-after : goal.returns-in_err-after
returns-in_err-after c =
    let p = err_from_is_err_and c.from_residual.result c.from_residual.ensures.1 in
    let i = c.loop-parameter.parameter-index in
    let instances = map flat_instance c.args.instances.now in
    let k = c.loop-parameter.number in
    let few = c.loop-parameter.invariant.few in
    let least : k < length c.args.parameters.now = omega arith in
    let within : k < length c.args.owners.now.rows.items = subst (λ m. k < m) (sym c.requires.count) least in
    let owner : c.at-next.result ≡ users_of (program.instances_with k 0 instances) = c.at-next.ensures Nobody within ∙ c.requires.owned k Nobody least in
    let first = c.parameter-item.result in
    let e = c.loop-parameter.invariant.faults ∙ ap (program.writers_faults instances k) (begins c.args.parameters.now i first c.loop-parameter-test.true c.parameter-item.is) in
    rw (p.1, p.2) (refuses c.in_err-after.field-0.0 _ (program.writer_faults instances k first) (program.writers_faults instances (k + length (program.memory_of instances k first)) (drop (i + 1) c.args.parameters.now)) _ _ (c.in_err-after.ensures owner) e)

pub loop-parameter-preserved : goal.loop-parameter-preserved
loop-parameter-preserved c =
    let i = c.loop-parameter.parameter-index in
    let instances = map flat_instance c.args.instances.now in
    let k = c.loop-parameter.number in
    let few = c.loop-parameter.invariant.few in
    let least : k < length c.args.parameters.now = omega arith in
    let within : k < length c.args.owners.now.rows.items = subst (λ m. k < m) (sym c.requires.count) least in
    let owner : c.at-next.result ≡ users_of (program.instances_with k 0 instances) = c.at-next.ensures Nobody within ∙ c.requires.owned k Nobody least in
    let first = c.parameter-item.result in
    let new = program.memory_of instances k first in
    let rest = drop (i + 1) c.args.parameters.now in
    let told = c.in_ok-after.ensures owner in
    let count = told.1 in
    let from = begins c.args.parameters.now i first c.loop-parameter-test.true c.parameter-item.is in
    let one = few_memories instances k first in
    record {
      few = omega arith;
      faults = c.loop-parameter.invariant.faults ∙ ap (program.writers_faults instances k) from
          ∙ ap (λ fs. fs ++ program.writers_faults instances (k + length new) rest) told.0
          ∙ ap (λ n. program.writers_faults instances n rest) (sym count);
    }
