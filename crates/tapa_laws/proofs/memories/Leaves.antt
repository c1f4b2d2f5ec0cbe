-- A leaf task stores at positions of memories alone that its parameters let it store to.
use Rattle.std.proofs.Common.{◌≡◌, List, [], ◌∷◌, ◌++◌, length, Bool, true, false, not, refl, arith, length-append}
use Rattle.tapa_base.specs.declared.kind.Kind.{Kind}
use Rattle.tapa_syntax.specs.declared.tree.Name.{Name}
use Rattle.tapa_syntax.specs.declared.tree.Parameter.{Parameter}
use Rattle.tapa_syntax.specs.declared.tree.Parameter.TheVariants.{InputStream, OutputStream, Memory, Scalar}
use Rattle.tapa_syntax.specs.Trees.{Statements, TaskTree}
use Rattle.check_scope.specs.declared.entity.Entity.TheVariants as entity
use Rattle.check_scope.specs.Scopes.{Block}
use Rattle.check_leaf.specs.Leaves.{Head, with_stream, with_memory, with_scalar, after_parameter, parameters_faults, after_parameters, task_begins, size_faults, leaf_faults, leaf_of}
use Rattle.check_leaf.specs.Statements.{statements_faults, codes_of}
use Rattle.stream_check.proofs.WellLists.{no_faults, get_last}
use Rattle.stream_check.proofs.WellPorts.{Declares, declare}
use Rattle.tapa_laws.specs.memories.Stores.{CodeStoresAt}
use Rattle.tapa_laws.proofs.memories.Flags.{with_free, with_frees, frees_of, IsFree, IsFlagged, AreFlagged, flags_pushed}
use Rattle.tapa_laws.proofs.memories.Statements.{statements_store}

-- what the parameters so far declare
record HeadFlags (q : List Bool) (h : Head) : Type 0 where
  names : AreFlagged q h.frame.scope
  count : length h.memories ≡ length q

stream_flags : (q : List Bool) (w : Bool) (k : Kind) (x : Name) (h : Head) → HeadFlags q h → HeadFlags q (with_stream w k x h)
stream_flags q w k x h f = record { names = declare (IsFlagged q) x.text (entity.Stream w k (length h.streams)) h.frame.scope f.names tt; count = f.count }

scalar_flags : (q : List Bool) (free : Bool) (k : Kind) (x : Name) (h : Head) → HeadFlags q h → HeadFlags q (with_scalar free k x h)
scalar_flags q free k x h f = record { names = declare (IsFlagged q) x.text (entity.Variable free k (length h.frame.vars)) h.frame.scope f.names tt; count = f.count }

both_longer : {A B : Type 0} (xs : List A) (ys : List B) (x : A) (y : B) → length ys ≡ length xs → length (ys ++ y ∷ []) ≡ length (xs ++ x ∷ [])
both_longer xs ys x y e =
    let l = length-append xs (x ∷ []) in
    let m = length-append ys (y ∷ []) in
    omega arith

memory_flags : (q : List Bool) (free : Bool) (k : Kind) (x : Name) (h : Head) → HeadFlags q h → HeadFlags (q ++ free ∷ []) (with_memory free k x h)
memory_flags q free k x h f = record {
  names = declare (IsFlagged (q ++ free ∷ [])) x.text (entity.Memory free k (length h.memories)) h.frame.scope (flags_pushed q free h.frame.scope f.names)
      (get_last q free (length h.memories) f.count);
  count = both_longer q h.memories free k f.count;
}

parameter_flags : (q : List Bool) (h : Head) (p : Parameter) → HeadFlags q h → HeadFlags (with_free q p) (after_parameter h p)
parameter_flags q h (InputStream k x) f = stream_flags q false k x h f
parameter_flags q h (OutputStream k x) f = stream_flags q true k x h f
parameter_flags q h (Memory constant k x) f = memory_flags q (not constant) k x h f
parameter_flags q h (Scalar constant k x) f = scalar_flags q (not constant) k x h f

parameters_flags : (q : List Bool) (h : Head) (ps : List Parameter) → HeadFlags q h → HeadFlags (with_frees q ps) (after_parameters h ps)
parameters_flags q h [] f = f
parameters_flags q h (p ∷ ps) f = parameters_flags (with_free q p) (after_parameter h p) ps (parameter_flags q h p f)

pub leaf_stores : (file : Block) → Declares (IsFlagged []) file → (t : TaskTree) (ss : Statements) → leaf_faults file t ss ≡ [] → CodeStoresAt (IsFree (frees_of t.parameters)) (leaf_of file t ss).code
leaf_stores file names t ss h =
    let q = frees_of t.parameters in
    let start = task_begins file in
    let head = after_parameters start t.parameters in
    let e = no_faults (parameters_faults start t.parameters ++ statements_faults false head.frame ss) (size_faults (codes_of head.frame ss) t.end) h in
    let g = no_faults (parameters_faults start t.parameters) (statements_faults false head.frame ss) e.0 in
    let f = parameters_flags [] start t.parameters (record { names = (names, (tt, tt)); count = refl }) in
    statements_store q false head.frame ss f.names g.1
