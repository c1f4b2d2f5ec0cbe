use Rattle.std.proofs.Common.{◌≡◌, ◌<◌, ◌+◌, ◌-◌, ℕ, List, drop, map, length, sym, ap, ◌∙◌, arith}
use Rattle.std.proofs.lemmas.Result.{err_from_is_err_and}
use Rattle.tapa_syntax.specs.Flat.{FlatInstance, flat_instance}
use Rattle.check_upper.specs.declared.task.Invoked.{Invoked}
use Rattle.check_upper.specs.Views.{invocation_view, task_view}
use Rattle.stream_check.specs.Parts as spec
use Rattle.stream_check.specs.Views.{flat_of, flat_faults, with_parts}
use Rattle.stream_check.proofs.Levels.{above}
use Rattle.stream_check.proofs.Limits.{adds_on, faults_go, parts_go, parts_stop}
use Rattle.tapa_base.proofs.Got.{next_of as begins}
use Rattle.stream_check.proofs.parts.+hierarchy.Goals as goal

pub chain-loop-position-preserved : goal.chain-loop-position-preserved
chain-loop-position-preserved t c =
    let f = flat_of c.loop-position.parts in
    let g = flat_of c.expand.new.parts in
    let tasks = map task_view c.args.tasks.now in
    let expand = spec.parts_of c.args.levels tasks in
    let outer = flat_instance c.args.outer.now in
    let k = c.loop-position.position in
    let first = c.args.first in
    let here = c.index-invocations-position.result in
    let rest = map invocation_view (drop (k + 1) c.args.invocations.now) in
    let more = λ (m : ℕ). spec.chain_parts expand tasks outer first (k + 1) m rest in
    let p = expand here.place (flat_instance c.in_ok-made.made) (length f.streams) in
    let was = begins c.args.invocations.now k here c.loop-position-test.true c.index-invocations-position.is in
    let made = sym c.in_ok-made.ensures.1 in
    let h = c.in_ok-expand.ensures in
    record {
      faults =
          c.loop-position.invariant.faults
          ∙ ap (λ (xs : List Invoked). flat_faults f (spec.chain_parts expand tasks outer first k (length f.streams) (map invocation_view xs))) was
          ∙ ap (λ (y : FlatInstance). flat_faults f (spec.followed (length f.streams) (expand here.place y (length f.streams)) more)) made
          ∙ faults_go f g p more h.0 h.1;
      after =
          c.loop-position.invariant.after
          ∙ ap (λ (xs : List Invoked). with_parts f (spec.chain_parts expand tasks outer first k (length f.streams) (map invocation_view xs))) was
          ∙ ap (λ (y : FlatInstance). with_parts f (spec.followed (length f.streams) (expand here.place y (length f.streams)) more)) made
          ∙ parts_go f g p more h.1;
    }

pub chain-returns-in_err-expand : goal.chain-returns-in_err-expand
chain-returns-in_err-expand t c =
    let q = err_from_is_err_and c.from_residual-in_err-expand.result c.from_residual-in_err-expand.ensures.1 in
    let f = flat_of c.loop-position.parts in
    let tasks = map task_view c.args.tasks.now in
    let expand = spec.parts_of c.args.levels tasks in
    let outer = flat_instance c.args.outer.now in
    let k = c.loop-position.position in
    let first = c.args.first in
    let here = c.index-invocations-position.result in
    let rest = map invocation_view (drop (k + 1) c.args.invocations.now) in
    let more = λ (m : ℕ). spec.chain_parts expand tasks outer first (k + 1) m rest in
    let p = expand here.place (flat_instance c.in_ok-made.made) (length f.streams) in
    let was = begins c.args.invocations.now k here c.loop-position-test.true c.index-invocations-position.is in
    let made = sym c.in_ok-made.ensures.1 in
    let all = c.loop-position.invariant.faults
    ∙ ap (λ (xs : List Invoked). flat_faults f (spec.chain_parts expand tasks outer first k (length f.streams) (map invocation_view xs))) was
    ∙ ap (λ (y : FlatInstance). flat_faults f (spec.followed (length f.streams) (expand here.place y (length f.streams)) more)) made in
    rw (q.1, q.2) (parts_stop c.in_err-expand.field-0.0 f p more _ _ _ c.in_err-expand.ensures all)

pub upper-returns-in_err-streams : goal.upper-returns-in_err-streams
upper-returns-in_err-streams t c =
    let q = err_from_is_err_and c.from_residual-in_err-streams.result c.from_residual-in_err-streams.ensures.1 in
    let f = flat_of c.args.parts.now in
    let tasks = map task_view c.args.tasks.now in
    let outer = flat_instance c.args.made.now in
    let invocations = map invocation_view c.args.invocations.now in
    let some : 0 < c.args.levels = omega arith in
    let more = λ (m : ℕ). spec.chain_parts (spec.parts_of (c.args.levels - 1) tasks) tasks outer (length f.streams) 0 m invocations in
    let all = ap (flat_faults f) (above c.args.levels tasks c.args.place outer (length f.streams) c.args.channels.now invocations some) in
    rw (q.1, q.2) (parts_stop c.in_err-streams.field-0.0 f (spec.own_parts outer.label c.args.channels.now) more _ _ _ c.in_err-streams.ensures all)

pub upper-returns : goal.upper-returns
upper-returns t c =
    let f = flat_of c.args.parts.now in
    let g = flat_of c.streams.new.self in
    let tasks = map task_view c.args.tasks.now in
    let outer = flat_instance c.args.made.now in
    let channels = c.args.channels.now in
    let invocations = map invocation_view c.args.invocations.now in
    let n = length f.streams in
    let some : 0 < c.args.levels = omega arith in
    let expand = spec.parts_of (c.args.levels - 1) tasks in
    let own = spec.own_parts outer.label channels in
    let more = λ (m : ℕ). spec.chain_parts expand tasks outer n 0 m invocations in
    let whole = above c.args.levels tasks c.args.place outer n channels invocations some in
    let first : n ≡ c.in_ok-first.first = sym (c.in_ok-first.ensures.1 ∙ c.len.ensures ∙ c.args.parts.now.streams.ok.0) in
    let h = c.in_ok-streams.ensures in
    let faults = ap (flat_faults f) whole ∙ faults_go f g own more h.0 h.1 ∙ ap (λ (y : ℕ). flat_faults g (spec.chain_parts expand tasks outer y 0 (length g.streams) invocations)) first in
    let parts = ap (with_parts f) whole ∙ parts_go f g own more h.1 ∙ ap (λ (y : ℕ). with_parts g (spec.chain_parts expand tasks outer y 0 (length g.streams) invocations)) first in
    adds_on (λ (x : Unit {0}). flat_of c.chain.new.parts) c.chain.result f g _ _ faults parts c.chain.ensures
