-- The job of an instance of a program.
use Rattle.std.proofs.Common.{◌≡◌, ◌⊎◌, ℕ, zero, suc, ◌+◌, ◌<◌, List, [], ◌∷◌, ◌++◌, inl, inr, length, map, Option, Some, None, refl, sym, ◌∙◌, ap, subst, arith}
use Rattle.std.specs.Prelude.{slice_get, slice_index_or}
use Rattle.tapa_syntax.specs.LeafKinds.{kinds_of}
use Rattle.tapa_syntax.specs.declared.program.Instance.{Instance}
use Rattle.tapa_syntax.specs.declared.program.Leaf.{Leaf}
use Rattle.tapa_syntax.specs.declared.program.Program.{Program}
use Rattle.tapa_syntax.specs.WellFormed.{IsLeaf, IsInstance}
use Rattle.kahn_model.specs.Fits.{FitsInput, ScalarsFit}
use Rattle.kahn_model.specs.Start.{bound_value, instance_state, leaf_state, kinds_in}
use Rattle.kahn_model.specs.Trace.{State, job_of}
use Rattle.kahn_model.proofs.FitsNetwork.{first_fits}
use Rattle.net_core.specs.declared.input.Input.{Input}
use Rattle.net_core.specs.Bindings.{ends_at, ends_in_leaf, leaf_in}
use Rattle.net_core.specs.Bounded.{instance_job, leaf_behavior, scalars_of, memories_of}
use Rattle.net_core.specs.Job.{Job}
use Rattle.std.specs.Arc.{arc_value}
use Rattle.std.specs.declared.alloc.Global.{Global}
use Rattle.std.specs.declared.sync.Arc.{Arc}
use Rattle.coro_machine.specs.declared.coro.Coro.{Coro}
use Rattle.coro_machine.specs.declared.machine.Machine.{Machine}
use Rattle.coro_machine.specs.Coro.{job_with, FitsLeaf, IsMachineOf, IsCoroOf}
use Rattle.run_program.specs.Started.{AreLowered, AreStarted}
use Rattle.tapa_base.proofs.Got.{clash as not_both}

abbrev job_in_leaf : Program → List ℕ → List (List ℕ) → Instance → Option Leaf → Job
job_in_leaf program scalars memories x o = record {
  ends = ends_in_leaf o;
  cells = (leaf_state (kinds_in program) scalars memories x o).cells;
  behavior = leaf_behavior o (leaf_state (kinds_in program) scalars memories x o);
}

abbrev job_in : Program → List ℕ → List (List ℕ) → Option Instance → Job
job_in program scalars memories o = record {
  ends = ends_in_leaf (leaf_in program o);
  cells = (instance_state program scalars memories o).cells;
  behavior = leaf_behavior (leaf_in program o) (instance_state program scalars memories o);
}

-- the job of a leaf from a state
abbrev job_at : Leaf → State → Job
job_at leaf σ = record { ends = leaf.streams.items; cells = σ.cells; behavior = λ n. job_of (kinds_of leaf) leaf.code.items σ n }

job_is_in : (program : Program) (input : Input) (i : ℕ) → instance_job program input i ≡ job_in program (scalars_of input) (memories_of input) (slice_get program.instances.items i)
unfolding instance_job ends_at
job_is_in program input i = refl

module _ (program : Program) (input : Input) (fits : FitsInput program (scalars_of input) (memories_of input)) where
  -- the values that the parameters of an instance are bound to
  abbrev values_at : Instance → List ℕ
  values_at x = map (bound_value (kinds_in program) (scalars_of input)) x.scalars.items

  abbrev cells_at : Instance → List (List ℕ)
  cells_at x = map (λ m. slice_index_or (memories_of input) m []) x.memories.items

  pub scalars_fit : ScalarsFit program (scalars_of input)
  scalars_fit = fits.scalars_fit

  pub job_is : (i : ℕ) (x : Instance) (leaf : Leaf) → slice_get program.instances.items i ≡ Some x → IsInstance program i x leaf → instance_job program input i ≡ job_with leaf (values_at x) (cells_at x)
  job_is i x leaf at h =
      job_is_in program input i
      ∙ ap (λ (o : Option Instance). job_in program (scalars_of input) (memories_of input) o) at
      ∙ ap (λ (o : Option Leaf). job_in_leaf program (scalars_of input) (memories_of input) x o) h.body

  pub leaf_fits : (i : ℕ) (x : Instance) (leaf : Leaf) → IsInstance program i x leaf → FitsLeaf leaf (values_at x) (cells_at x)
  leaf_fits i x leaf h = let f = first_fits program (scalars_of input) (memories_of input) fits i x leaf h in record { vars = f.vars; cells = f.cells }

-- a coroutine that stands for the job of its leaf stands for the job of its instance
pub started : (c : Coro) (leaf : Leaf) (machine : Machine) (values bound : List ℕ) (cells rows : List (List ℕ)) (job : Job) → IsLeaf leaf → IsMachineOf leaf machine → values ≡ bound → cells ≡ rows → FitsLeaf leaf bound rows → job ≡ job_with leaf bound rows → ((l : Leaf) → IsLeaf l → IsMachineOf l machine → FitsLeaf l values cells → IsCoroOf c (job_with l values cells) []) → IsCoroOf c job []
started c leaf machine values bound cells rows job is_leaf lowered v m fits is stands =
    let at_leaf = stands leaf is_leaf lowered (subst (λ (ms : List (List ℕ)). FitsLeaf leaf values ms) (sym m) (subst (λ (vs : List ℕ). FitsLeaf leaf vs rows) (sym v) fits)) in
    subst (λ (j : Job). IsCoroOf c j []) (sym is) (subst (λ (ms : List (List ℕ)). IsCoroOf c (job_with leaf bound ms) []) m (subst (λ (vs : List ℕ). IsCoroOf c (job_with leaf vs cells) []) v at_leaf))

-- an element of a list with one more at its end
pub pushed : {A : Type 0} (xs : List A) (y x : A) (j : ℕ) → slice_get (xs ++ y ∷ []) j ≡ Some x → ((j < length xs) × (slice_get xs j ≡ Some x)) ⊎ ((j ≡ length xs) × (y ≡ x))
pushed [] y x zero h = inr (refl, cc)
pushed {A} [] y x (suc j) h = absurd (not_both (slice_get {X = A} [] j) x refl h)
pushed (a ∷ xs) y x zero h = inl (omega arith, h)
pushed (a ∷ xs) y x (suc j) h = elim (pushed xs y x j h) [ inl w ↦ inl (omega (arith, w.0), w.1) | inr w ↦ inr (omega (arith, w.0), w.1) ]

-- one instance more
pub started_more : (program : Program) (input : Input) (n : ℕ) (all : List Coro) (c : Coro) → length all ≡ n → AreStarted program input n all → IsCoroOf c (instance_job program input n) [] → AreStarted program input (n + 1) (all ++ c ∷ [])
started_more program input n all c len before last i x within at =
    elim (pushed all c x i at) [
      | inl w ↦ before i x (omega (arith, w.0, len)) w.1
      | inr w ↦ subst (λ (k : ℕ). IsCoroOf x (instance_job program input k) []) (omega (arith, w.0, len)) (subst (λ (d : Coro). IsCoroOf d (instance_job program input n) []) w.1 last)
    ]

-- one machine more
pub lowered_more : (program : Program) (n : ℕ) (all : List (Arc Machine Global)) (machine : Arc Machine Global) → length all ≡ n → AreLowered program n all → ((leaf : Leaf) → slice_get program.bodies.items n ≡ Some leaf → IsLeaf leaf → IsMachineOf leaf (arc_value machine)) → AreLowered program (n + 1) (all ++ machine ∷ [])
lowered_more program n all machine len before last b leaf x within at_leaf at is_leaf =
    elim (pushed all machine x b at) [
      | inl w ↦ before b leaf x (omega (arith, w.0, len)) at_leaf w.1 is_leaf
      | inr w ↦ subst (λ (a : Arc Machine Global). IsMachineOf leaf (arc_value a)) w.1 (last leaf (subst (λ (k : ℕ). slice_get program.bodies.items k ≡ Some leaf) (omega (arith, w.0, len)) at_leaf) is_leaf)
    ]
