use Rattle.std.proofs.Common.{◌≡◌, ◌<◌, ◌+◌, [], ◌++◌, drop, get_or, map, length, sym, ap, subst, ◌∙◌, append_assoc, length-append, arith, rules, vec_len}
use Rattle.std.proofs.lemmas.List.{append-nil}
use Rattle.std.proofs.lemmas.Result.{err_from_is_err_and}
use Rattle.tapa_syntax.specs.Flat.{flat_instance}
use Rattle.check_scope.specs.declared.users.Users.TheVariants.{Nobody}
use Rattle.stream_check.specs.Programs as program
use Rattle.check_scope.specs.Users.{users_of}
use Rattle.check_scope.proofs.Order.{refuses}
use Rattle.stream_check.proofs.Bound.{few_memories, none_left}
use Rattle.tapa_base.proofs.Got.{next_of as begins}
use Rattle.stream_check.proofs.bindings.memories.Goals as goal

pub returns-in_err-memory : goal.returns-in_err-memory
returns-in_err-memory c =
    let p = err_from_is_err_and c.from_residual-in_err-memory.result c.from_residual-in_err-memory.ensures.1 in
    let i = c.loop-parameter.parameter-index in
    let instances = map flat_instance c.args.instances.now in
    let k = length c.loop-parameter.made.items in
    let rows = c.in_ok-owners.owners.rows.items in
    let same : vec_len c.loop-parameter.made ≡ length c.loop-parameter.made.items = search rules in
    let counted : c.len.result ≡ length c.loop-parameter.made.items = c.len.ensures ∙ same in
    let few = c.loop-parameter.invariant.few in
    let least : k < length c.args.parameters.now = omega arith in
    let within : k < length rows = subst (λ m. k < m) (sym c.in_ok-owners.ensures.count.1) least in
    let owner : c.at-next.result ≡ users_of (program.instances_with k 0 instances) = c.at-next.ensures Nobody (subst (λ n. n < length rows) (sym counted) within) ∙ ap (λ n. get_or rows n Nobody) counted ∙ c.in_ok-owners.ensures.owned k Nobody least in
    let first = c.parameter-item.result in
    let e = c.loop-parameter.invariant.faults ∙ ap (program.memories_faults instances k) (begins c.args.parameters.now i first c.loop-parameter-test.true c.parameter-item.is) in
    let here = program.memory_faults instances k first in
    let more = program.memories_faults instances (k + length (program.memory_of instances k first)) (drop (i + 1) c.args.parameters.now) in
    let writers = program.writers_faults instances 0 c.args.parameters.now in
    rw (p.1, p.2) (refuses c.in_err-memory.field-0.0 _ here (more ++ writers) _ _ (c.in_err-memory.ensures instances owner) (ap (λ fs. fs ++ writers) e ∙ append_assoc here more writers))

pub returns-in_err-check_writers : goal.returns-in_err-check_writers
returns-in_err-check_writers c =
    let p = err_from_is_err_and c.from_residual-in_err-check_writers.result c.from_residual-in_err-check_writers.ensures.1 in
    let instances = map flat_instance c.args.instances.now in
    let writers = program.writers_faults instances 0 c.args.parameters.now in
    let clean = c.loop-parameter.invariant.faults ∙ ap (program.memories_faults instances (length c.loop-parameter.made.items)) (none_left c.loop-parameter.parameter-index c.args.parameters.now c.loop-parameter-test.false) in
    rw (p.1, p.2) (refuses c.in_err-check_writers.field-0.0 _ writers [] _ _ c.in_err-check_writers.ensures (ap (λ fs. fs ++ writers) clean ∙ sym (append-nil writers)))

pub returns : goal.returns
returns c =
    let instances = map flat_instance c.args.instances.now in
    let writers = program.writers_faults instances 0 c.args.parameters.now in
    let made = c.loop-parameter.made.items in
    let k = length c.loop-parameter.made.items in
    let none = none_left c.loop-parameter.parameter-index c.args.parameters.now c.loop-parameter-test.false in
    let clean = c.loop-parameter.invariant.faults ∙ ap (program.memories_faults instances k) none in (
      ap (λ fs. fs ++ writers) clean ∙ c.in_ok-check_writers.ensures.0,
      sym (c.loop-parameter.invariant.made ∙ ap (λ ps. made ++ program.memories_of instances k ps) none ∙ append-nil made),
    )

pub loop-parameter-preserved : goal.loop-parameter-preserved
loop-parameter-preserved c =
    let i = c.loop-parameter.parameter-index in
    let instances = map flat_instance c.args.instances.now in
    let made = c.loop-parameter.made.items in
    let k = length c.loop-parameter.made.items in
    let rows = c.in_ok-owners.owners.rows.items in
    let same : vec_len c.loop-parameter.made ≡ length c.loop-parameter.made.items = search rules in
    let counted : c.len.result ≡ length c.loop-parameter.made.items = c.len.ensures ∙ same in
    let few = c.loop-parameter.invariant.few in
    let least : k < length c.args.parameters.now = omega arith in
    let within : k < length rows = subst (λ m. k < m) (sym c.in_ok-owners.ensures.count.1) least in
    let owner : c.at-next.result ≡ users_of (program.instances_with k 0 instances) = c.at-next.ensures Nobody (subst (λ n. n < length rows) (sym counted) within) ∙ ap (λ n. get_or rows n Nobody) counted ∙ c.in_ok-owners.ensures.owned k Nobody least in
    let first = c.parameter-item.result in
    let new = program.memory_of instances k first in
    let rest = drop (i + 1) c.args.parameters.now in
    let told = c.in_ok-memory.ensures instances owner in
    let from = begins c.args.parameters.now i first c.loop-parameter-test.true c.parameter-item.is in
    let count : k + length new ≡ length c.memory.new.memories.items = sym (ap length told.1 ∙ length-append made new) in
    let one = few_memories instances k first in
    record {
      few = omega arith;
      faults = c.loop-parameter.invariant.faults ∙ ap (program.memories_faults instances k) from
          ∙ ap (λ fs. fs ++ program.memories_faults instances (k + length new) rest) told.0
          ∙ ap (λ n. program.memories_faults instances n rest) count;
      made = c.loop-parameter.invariant.made
          ∙ ap (λ ps. made ++ program.memories_of instances k ps) from
          ∙ sym (append_assoc made new (program.memories_of instances (k + length new) rest))
          ∙ ap (λ ms. ms ++ program.memories_of instances (k + length new) rest) (sym told.1)
          ∙ ap (λ n. c.memory.new.memories.items ++ program.memories_of instances n rest) count;
    }
