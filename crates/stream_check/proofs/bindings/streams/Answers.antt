use Rattle.std.proofs.Common.{◌≡◌, ◌<◌, ◌+◌, ◌∷◌, ◌++◌, [], true, false, drop, map, sym, ap, subst, ◌∙◌, append_assoc}
use Rattle.std.proofs.lemmas.Result.{err_from_is_err_and}
use Rattle.tapa_syntax.specs.Flat.{flat_instance}
use Rattle.check_upper.specs.Views.{task_view}
use Rattle.check_scope.specs.declared.users.Users.TheVariants.{Nobody}
use Rattle.stream_check.specs.Programs as program
use Rattle.check_scope.specs.Users.{users_of}
use Rattle.check_scope.proofs.Order.{refuses}
use Rattle.tapa_base.proofs.Got.{next_of as begins}
use Rattle.stream_check.proofs.bindings.streams.Goals as goal

pub returns-in_err-stream : goal.returns-in_err-stream
returns-in_err-stream c =
    let p = err_from_is_err_and c.from_residual-in_err-stream.result c.from_residual-in_err-stream.ensures.1 in
    let n = c.loop-number.number in
    let tasks = map task_view c.args.tasks.now in
    let instances = map flat_instance c.args.instances.now in
    let first = c.index-channels-number.result in
    let users = c.in_ok-users.ensures.users n Nobody c.loop-number-test.true in
    let writers : c.at-writers.result ≡ users_of (program.instances_at tasks n true 0 instances) = c.at-writers.ensures Nobody (subst (λ m. n < m) (sym c.in_ok-users.ensures.written.1) c.loop-number-test.true) ∙ users.0 in
    let readers : c.at-readers.result ≡ users_of (program.instances_at tasks n false 0 instances) = c.at-readers.ensures Nobody (subst (λ m. n < m) (sym c.in_ok-users.ensures.read.1) c.loop-number-test.true) ∙ users.1 in
    let e = c.loop-number.invariant.faults ∙ ap (program.streams_faults tasks instances n) (begins c.args.channels.now n first c.loop-number-test.true c.index-channels-number.is) in
    rw (p.1, p.2) (refuses c.in_err-stream.field-0.0 _ (program.stream_faults tasks instances n first) (program.streams_faults tasks instances (n + 1) (drop (n + 1) c.args.channels.now)) _ _ (c.in_err-stream.ensures tasks instances n writers readers) e)

pub loop-number-preserved : goal.loop-number-preserved
loop-number-preserved c =
    let n = c.loop-number.number in
    let tasks = map task_view c.args.tasks.now in
    let instances = map flat_instance c.args.instances.now in
    let first = c.index-channels-number.result in
    let made = c.loop-number.made.items in
    let users = c.in_ok-users.ensures.users n Nobody c.loop-number-test.true in
    let writers : c.at-writers.result ≡ users_of (program.instances_at tasks n true 0 instances) = c.at-writers.ensures Nobody (subst (λ m. n < m) (sym c.in_ok-users.ensures.written.1) c.loop-number-test.true) ∙ users.0 in
    let readers : c.at-readers.result ≡ users_of (program.instances_at tasks n false 0 instances) = c.at-readers.ensures Nobody (subst (λ m. n < m) (sym c.in_ok-users.ensures.read.1) c.loop-number-test.true) ∙ users.1 in
    let told = c.in_ok-stream.ensures tasks instances n writers readers in
    let from = begins c.args.channels.now n first c.loop-number-test.true c.index-channels-number.is in
    let rest = drop (n + 1) c.args.channels.now in
    record {
      faults = c.loop-number.invariant.faults ∙ ap (program.streams_faults tasks instances n) from ∙ ap (λ fs. fs ++ program.streams_faults tasks instances (n + 1) rest) told.0;
      made = c.loop-number.invariant.made
          ∙ ap (λ cs. made ++ program.streams_of tasks instances n cs) from
          ∙ ap (λ s. made ++ s ∷ program.streams_of tasks instances (n + 1) rest) (sym told.1)
          ∙ sym (append_assoc made (c.in_ok-stream.field-0 ∷ []) (program.streams_of tasks instances (n + 1) rest))
          ∙ ap (λ ss. ss ++ program.streams_of tasks instances (n + 1) rest) (sym c.in_ok-push.ensures.items);
    }
