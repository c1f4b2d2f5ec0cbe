-- Every legal leaf is well formed.
use Rattle.std.proofs.Common.{◌≡◌, ◌⊎◌, inl, inr, ◌<◌, ◌≤◌, ◌+◌, ℕ, zero, suc, List, [], ◌∷◌, ◌++◌, length, get_or, Bool, true, false, not, Some, refl, sym, ap, subst, ◌∙◌, arith}
use Rattle.std.specs.Prelude.{slice_get}
use Rattle.std.proofs.lemmas.Option.{none-some, same_Some, slice_get_within, slice_get-get_or}
use Rattle.tapa_base.specs.declared.kind.Kind.{Kind}
use Rattle.tapa_base.specs.declared.kind.Kind.TheVariants.{U64}
use Rattle.tapa_syntax.specs.declared.program.End.{End}
use Rattle.tapa_syntax.specs.declared.program.Leaf.{Leaf}
use Rattle.tapa_syntax.specs.declared.tree.Name.{Name}
use Rattle.tapa_syntax.specs.declared.tree.Parameter.{Parameter}
use Rattle.tapa_syntax.specs.declared.tree.Parameter.TheVariants.{InputStream, OutputStream, Memory, Scalar}
use Rattle.tapa_syntax.specs.Trees.{Statements, TaskTree}
use Rattle.tapa_syntax.specs.Flat.{FlatLeaf, flat_leaf}
use Rattle.tapa_syntax.specs.WellFormed.{IsLeaf, AreDistinct}
use Rattle.check_scope.specs.declared.entity.Entity.{Entity}
use Rattle.check_scope.specs.declared.entity.Entity.TheVariants as entity
use Rattle.check_scope.specs.Scopes.{Block}
use Rattle.check_leaf.specs.Laws.{IsGlobal, AreGlobal, LegalLeavesAreWellFormed}
use Rattle.check_leaf.specs.Statements.{variable_faults, statements_faults, codes_of}
use Rattle.check_leaf.specs.Leaves.{Head, with_stream, with_memory, with_scalar, after_parameter, parameter_faults, after_parameters, parameters_faults, task_begins, size_faults, leaf_faults, leaf_of}
use Rattle.check_leaf.proofs.Flats.{IsCode, AreStraight, code_uses, code_fits, code_asks, code_typed}
use Rattle.check_leaf.proofs.Meanings.{IsKnown, KnownBlock, KnownScope}
use Rattle.check_leaf.proofs.Frames.{Within, within_more, Each, each_at, Grows, Reaches, Few, HasFewCells, scope_declared}
use Rattle.check_leaf.proofs.Parts.{variable_few, variable_grows, variable_scope, statements_runs}
use Rattle.check_expression.proofs.Constants.{left_empty, right_empty}
use Rattle.tapa_base.proofs.Got.{last_at}

-- ---- parameters

-- one element more
pub pushed : {A : Type 0} (xs : List A) (y x : A) (n : ℕ) → slice_get (xs ++ y ∷ []) n ≡ Some x → (slice_get xs n ≡ Some x) ⊎ ((n ≡ length xs) × (y ≡ x))
pushed [] y x zero h = inr (refl, same_Some y x h)
pushed [] y x (suc n) h = absurd (none-some x h)
pushed (z ∷ xs) y x zero h = inl h
pushed {A} (z ∷ xs) y x (suc n) h = elim (pushed xs y x n h) [ inl e ↦ inl e | inr e ↦ inr (ap suc e.0, e.1) ]

-- the variables that hold scalars are distinct variables of the task
pub record Scalars (vars : List Kind) (xs : List ℕ) : Type 0 where
  pub below : (p x : ℕ) → slice_get xs p ≡ Some x → x < length vars
  pub distinct : AreDistinct xs

below_more : (n m x : ℕ) → m ≡ n + 1 → x < n → x < m
below_more n m x e h = omega arith

last_below : (n m x : ℕ) → m ≡ n + 1 → n ≡ x → x < m
last_below n m x e h = omega arith

differ : (n x : ℕ) → x < n → n ≡ x → ⊥
differ n x h e = omega arith

longer : {A : Type 0} (xs : List A) (y : A) → length (xs ++ y ∷ []) ≡ length xs + 1
longer [] y = refl
longer (x ∷ xs) y = let h = longer xs y in omega arith

scalar_more : (vars : List Kind) (xs : List ℕ) (k : Kind) → Scalars vars xs → Scalars (vars ++ k ∷ []) (xs ++ length vars ∷ [])
scalar_more vars xs k s =
    let n = length vars in
    let e = longer vars k in
    record {
      below = λ p x h. elim (pushed xs n x p h) [ inl a ↦ below_more n (length (vars ++ k ∷ [])) x e (s.below p x a) | inr a ↦ last_below n (length (vars ++ k ∷ [])) x e a.1 ];
      distinct = λ p q x h j. elim (pushed xs n x p h) [
        | inl a ↦ elim (pushed xs n x q j) [ inl b ↦ s.distinct p q x a b | inr b ↦ absurd (differ n x (s.below p x a) b.1) ]
        | inr a ↦ elim (pushed xs n x q j) [ inl b ↦ absurd (differ n x (s.below q x b) a.1) | inr b ↦ a.0 ∙ sym b.0 ]
      ];
    }

pub record HeadGrows (h g : Head) : Type 0 where
  pub frame : Grows h.frame g.frame
  pub streams : Within h.streams g.streams
  pub memories : Within h.memories g.memories

-- a leaf has what the parameters so far declare
pub record HeadReaches (h : Head) (W : FlatLeaf) : Type 0 where
  pub frame : Reaches h.frame W
  pub streams : Within h.streams W.streams
  pub memories : Within h.memories W.memories

-- parameters without faults, from one head to the next
pub record Takes (h g : Head) : Type 0 where
  pub grows : HeadGrows h g
  pub few : Few h.frame → Few g.frame
  pub scalars : Scalars h.frame.vars h.scalars → Scalars g.frame.vars g.scalars
  pub scope : (W : FlatLeaf) → HeadReaches g W → KnownScope W [] h.frame.scope → KnownScope W [] g.frame.scope

takes_none : (h : Head) → Takes h h
takes_none h = record {
  grows = record { frame = record { vars = λ n x e. e; arrays = λ n x e. e }; streams = λ n x e. e; memories = λ n x e. e };
  few = λ p. p;
  scalars = λ p. p;
  scope = λ W r i. i;
}

takes_on : (h g k : Head) → Takes h g → Takes g k → Takes h k
takes_on h g k a b = record {
  grows = record {
    frame = record { vars = λ n x e. b.grows.frame.vars n x (a.grows.frame.vars n x e); arrays = λ n x e. b.grows.frame.arrays n x (a.grows.frame.arrays n x e) };
    streams = λ n x e. b.grows.streams n x (a.grows.streams n x e);
    memories = λ n x e. b.grows.memories n x (a.grows.memories n x e);
  };
  few = λ p. b.few (a.few p);
  scalars = λ p. b.scalars (a.scalars p);
  scope = λ W r i. b.scope W r (a.scope W (record {
    frame = record { vars = λ n x e. r.frame.vars n x (b.grows.frame.vars n x e); arrays = λ n x e. r.frame.arrays n x (b.grows.frame.arrays n x e) };
    streams = λ n x e. r.streams n x (b.grows.streams n x e);
    memories = λ n x e. r.memories n x (b.grows.memories n x e);
  }) i);
}

takes_stream : (b : Bool) (k : Kind) (x : Name) (h : Head) → Takes h (with_stream b k x h)
takes_stream b k x h =
    let e : End = record { kind = k; writes = b } in
    record {
      grows = record { frame = record { vars = λ n x e. e; arrays = λ n x e. e }; streams = within_more h.streams (e ∷ []); memories = λ n x e. e };
      few = λ p. record { vars = p.vars; cells = p.cells };
      scalars = λ p. p;
      scope = λ W r i. scope_declared W [] x.text (entity.Stream b k (length h.streams)) h.frame.scope i (r.streams (length h.streams) e (last_at h.streams e));
    }

takes_memory : (b : Bool) (k : Kind) (x : Name) (h : Head) → Takes h (with_memory b k x h)
takes_memory b k x h = record {
  grows = record { frame = record { vars = λ n x e. e; arrays = λ n x e. e }; streams = λ n x e. e; memories = within_more h.memories (k ∷ []) };
  few = λ p. record { vars = p.vars; cells = p.cells };
  scalars = λ p. p;
  scope = λ W r i. scope_declared W [] x.text (entity.Memory b k (length h.memories)) h.frame.scope i (r.memories (length h.memories) k (last_at h.memories k));
}

takes_scalar : (b : Bool) (k : Kind) (x : Name) (h : Head) → variable_faults h.frame x ≡ [] → Takes h (with_scalar b k x h)
takes_scalar b k x h e = record {
  grows = record { frame = variable_grows b k h.frame x; streams = λ n x e. e; memories = λ n x e. e };
  few = variable_few b k h.frame x e;
  scalars = scalar_more h.frame.vars h.scalars k;
  scope = λ W r i. variable_scope b k h.frame x W [] r.frame.vars i;
}

parameter_takes : (h : Head) (p : Parameter) → parameter_faults h p ≡ [] → Takes h (after_parameter h p)
parameter_takes h (InputStream k x) e = takes_stream false k x h
parameter_takes h (OutputStream k x) e = takes_stream true k x h
parameter_takes h (Memory constant k x) e = takes_memory (not constant) k x h
parameter_takes h (Scalar constant k x) e = takes_scalar (not constant) k x h e

parameters_take : (h : Head) (ps : List Parameter) → parameters_faults h ps ≡ [] → Takes h (after_parameters h ps)
parameters_take h [] e = takes_none h
parameters_take h (p ∷ ps) e =
    let g = after_parameter h p in
    let first = parameter_faults h p in
    let rest = parameters_faults g ps in
    takes_on h g (after_parameters g ps) (parameter_takes h p (left_empty first rest e)) (parameters_take g ps (right_empty first rest e))

-- ---- leaves

global_known : (W : FlatLeaf) (s : Entity) → IsGlobal s → IsKnown W [] s
global_known W (entity.Constant k n) h = h
global_known W (entity.Task task_number) h = tt
global_known W _ h = absurd h

globals_known : (W : FlatLeaf) (file : Block) → AreGlobal file → KnownBlock W [] file
globals_known W [] h = tt
globals_known W (d ∷ rest) (p, h) = (global_known W d.1 p, globals_known W rest h)

-- what holds of the plain data of a legal leaf
pub record Well (W : FlatLeaf) : Type 0 where
  pub vars : length W.vars ≤ 1024
  pub cells : Each HasFewCells W.arrays
  pub scalars : Scalars W.vars W.scalars
  pub code : IsCode W [] W.code
  pub straight : AreStraight W.code

-- a number of the first list is one of the second
still_below : (n : ℕ) (xs ys : List Kind) → Within xs ys → n < length xs → n < length ys
still_below n xs ys w l = slice_get_within ys n (get_or xs n U64) (w n (get_or xs n U64) (slice_get-get_or xs n U64 l))

leaf_good : (file : Block) → AreGlobal file → (t : TaskTree) (ss : Statements) → leaf_faults file t ss ≡ [] → Well (leaf_of file t ss)
leaf_good file i t ss e =
    let start = task_begins file in
    let h = after_parameters start t.parameters in
    let W = leaf_of file t ss in
    let p = parameters_faults start t.parameters in
    let q = statements_faults false h.frame ss in
    let u = size_faults (codes_of h.frame ss) t.end in
    let d = left_empty (p ++ q) u e in
    let a = parameters_take start t.parameters (left_empty p q d) in
    let b = statements_runs false h.frame ss (right_empty p q d) in
    let none : Few start.frame = record { vars = omega arith; cells = tt } in
    let few = b.few (a.few none) in
    let first : Scalars start.frame.vars start.scalars = record { below = λ p x h. absurd (none-some x h); distinct = λ p q x h j. absurd (none-some x h) } in
    let reach : HeadReaches h W = record { frame = record { vars = b.grows.vars; arrays = b.grows.arrays }; streams = λ n x e. e; memories = λ n x e. e } in
    let known : KnownScope W [] start.frame.scope = (globals_known W file i, (tt, tt)) in
    let run = b.sound W [] (record { vars = λ n x e. e; arrays = λ n x e. e }) (a.scope W reach known) in
    let s = a.scalars first in
    record {
      vars = few.vars;
      cells = few.cells;
      scalars = record { below = λ p x e. still_below x h.frame.vars W.vars b.grows.vars (s.below p x e); distinct = s.distinct };
      code = run.code;
      straight = run.straight refl;
    }

well_leaf : (l : Leaf) → Well (flat_leaf l) → IsLeaf l
well_leaf l w =
    let W = flat_leaf l in
    record {
      few_vars = w.vars;
      scalars_in = w.scalars.below;
      scalars_distinct = w.scalars.distinct;
      cells = λ a r h. each_at HasFewCells l.arrays.items a r w.cells h;
      uses = code_uses W [] l.code.items w.code;
      fits = code_fits W [] l.code.items w.straight w.code;
      asks = code_asks W [] l.code.items w.code;
      typed = code_typed W [] l.code.items w.code;
    }

pub leaf_well : LegalLeavesAreWellFormed
leaf_well file i t ss leaf e f = well_leaf leaf (subst Well (sym f) (leaf_good file i t ss e))
