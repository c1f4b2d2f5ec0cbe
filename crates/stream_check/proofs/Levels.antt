-- The parts of an instance by what its task is.
use Rattle.std.proofs.Common.{◌≡◌, ◌<◌, ◌-◌, ℕ, zero, suc, List, [], ◌∷◌, Some, None, refl, ap, arith}
use Rattle.std.specs.Prelude.{slice_get}
use Rattle.tapa_base.specs.declared.text.Place.{Place}
use Rattle.tapa_syntax.specs.Flat.{FlatInstance, FlatLeaf}
use Rattle.check_upper.specs.declared.task.Channel.{Channel}
use Rattle.check_upper.specs.Tasks.{Invocation, Task, leaf_body, upper_body}
use Rattle.stream_check.specs.Parts.{instance, too_deep, own_parts, followed, chain_parts, body_of, body_parts, deepest_parts, parts_of}
use Rattle.stream_check.specs.Views.{upper_parts}

pub of_none : (levels : ℕ) (tasks : List Task) (at : Place) (x : FlatInstance) (n : ℕ) → body_of (slice_get tasks x.body) ≡ None → parts_of levels tasks at x n ≡ []
of_none zero tasks at x n h = ap (deepest_parts at x) h
of_none (suc levels) tasks at x n h = ap (body_parts (parts_of levels tasks) tasks at x n) h

pub of_leaf : (levels : ℕ) (tasks : List Task) (at : Place) (x : FlatInstance) (n : ℕ) (l : FlatLeaf) → body_of (slice_get tasks x.body) ≡ Some (leaf_body l) → parts_of levels tasks at x n ≡ instance at x ∷ []
of_leaf zero tasks at x n l h = ap (deepest_parts at x) h
of_leaf (suc levels) tasks at x n l h = ap (body_parts (parts_of levels tasks) tasks at x n) h

pub of_upper : (levels : ℕ) (tasks : List Task) (at : Place) (x : FlatInstance) (n : ℕ) (cs : List Channel) (is : List Invocation) → body_of (slice_get tasks x.body) ≡ Some (upper_body cs is) → parts_of levels tasks at x n ≡ upper_parts levels tasks at x n cs is
of_upper zero tasks at x n cs is h = ap (deepest_parts at x) h
of_upper (suc levels) tasks at x n cs is h = ap (body_parts (parts_of levels tasks) tasks at x n) h

pub at_depth : (levels : ℕ) (tasks : List Task) (at : Place) (x : FlatInstance) (n : ℕ) (cs : List Channel) (is : List Invocation) → levels ≡ 0 → upper_parts levels tasks at x n cs is ≡ too_deep at ∷ []
at_depth zero tasks at x n cs is h = refl
at_depth (suc levels) tasks at x n cs is h = absurd (omega arith)

pub above : (levels : ℕ) (tasks : List Task) (at : Place) (x : FlatInstance) (n : ℕ) (cs : List Channel) (is : List Invocation) → 0 < levels → upper_parts levels tasks at x n cs is ≡ followed n (own_parts x.label cs) (λ m. chain_parts (parts_of (levels - 1) tasks) tasks x n 0 m is)
above zero tasks at x n cs is h = absurd (omega arith)
above (suc levels) tasks at x n cs is h =
    let e : levels ≡ suc levels - 1 = omega arith in
    ap (λ k. followed n (own_parts x.label cs) (λ m. chain_parts (parts_of k tasks) tasks x n 0 m is)) e
