-- The rules of a leaf task, and the leaf that it is in the flat program.
use Rattle.std.specs.Prelude.{ℕ, ◌+◌, List, [], ◌∷◌, ◌++◌, length, Bool, true, false, not, nat_lt}
use Rattle.tapa_base.specs.declared.kind.Kind.{Kind}
use Rattle.tapa_syntax.specs.declared.program.End.{End}
use Rattle.tapa_syntax.specs.declared.tree.Name.{Name}
use Rattle.tapa_syntax.specs.declared.tree.Parameter.{Parameter}
use Rattle.tapa_syntax.specs.declared.tree.Parameter.TheVariants.{InputStream, OutputStream, Memory, Scalar}
use Rattle.tapa_base.specs.declared.text.Place.{Place}
use Rattle.tapa_syntax.specs.Trees.{Statements, TaskTree}
use Rattle.tapa_syntax.specs.Flat.{FlatStatement, FlatLeaf}
use Rattle.tapa_syntax.specs.TickPlaces.{places_of}
use Rattle.check_scope.specs.declared.entity.Entity.TheVariants as entity
use Rattle.check_scope.specs.Scopes.{Block}
use Rattle.check_scope.specs.declared.fault.Broken.{Broken}
use Rattle.check_scope.specs.Faults.{over, where_so, doubled}
use Rattle.check_leaf.specs.Statements.{Frame, variable_faults, with_name, with_variable, statements_faults, codes_of, after_all}

-- ---- parameters, which are in one block with the body (ISO C++ [basic.scope.param])

-- what the parameters so far are: the frame, the streams and memories in order, and the variables that hold the scalars
pub record Head : Type 0 where
  pub frame : Frame
  pub streams : List End
  pub memories : List Kind
  pub scalars : List ℕ

abbrev pub with_stream : Bool → Kind → Name → Head → Head
with_stream writes k x h =
    record {
      frame = with_name x.text (entity.Stream writes k
          (length h.streams)) h.frame;
      streams = h.streams ++ record { kind = k; writes = writes } ∷ [];
      memories = h.memories;
      scalars = h.scalars;
    }

abbrev pub with_memory : Bool → Kind → Name → Head → Head
with_memory free k x h =
    record { frame = with_name x.text (entity.Memory free k (length h.memories)) h.frame; streams = h.streams; memories = h.memories ++ k ∷ []; scalars = h.scalars }

abbrev pub with_scalar : Bool → Kind → Name → Head → Head
with_scalar free k x h =
    record { frame = with_variable free k x h.frame; streams = h.streams; memories = h.memories; scalars = h.scalars ++ length h.frame.vars ∷ [] }

abbrev pub after_parameter : Head → Parameter → Head
after_parameter h (InputStream k x) = with_stream false k x h
after_parameter h (OutputStream k x) = with_stream true k x h
after_parameter h (Memory constant k x) = with_memory (not constant) k x h
after_parameter h (Scalar constant k x) = with_scalar (not constant) k x h

abbrev pub parameter_faults : Head → Parameter → List Broken
parameter_faults h (InputStream k x) = doubled h.frame.scope x
parameter_faults h (OutputStream k x) = doubled h.frame.scope x
parameter_faults h (Memory constant k x) = doubled h.frame.scope x
parameter_faults h (Scalar constant k x) = variable_faults h.frame x

abbrev pub after_parameters : Head → List Parameter → Head
after_parameters h [] = h
after_parameters h (p ∷ rest) = after_parameters (after_parameter h p) rest

abbrev pub parameters_faults : Head → List Parameter → List Broken
parameters_faults h [] = []
parameters_faults h (p ∷ rest) = parameter_faults h p ++ parameters_faults (after_parameter h p) rest

-- a task of a file that has declared these names
abbrev pub task_begins : Block → Head
task_begins file = record { frame = record { scope = file ∷ [] ∷ []; vars = []; arrays = [] }; streams = []; memories = []; scalars = [] }

-- C11: a task has at most 4,096 tick places, its end among them
abbrev pub size_faults : List FlatStatement → Place → List Broken
size_faults code end = where_so (nat_lt 4096 (places_of code)) (over 4096 end)

-- ---- leaves

abbrev pub leaf_faults : Block → TaskTree → Statements → List Broken
leaf_faults file t ss =
    parameters_faults (task_begins file) t.parameters
    ++ statements_faults false (after_parameters (task_begins file) t.parameters).frame ss
    ++ size_faults (codes_of (after_parameters (task_begins file) t.parameters).frame ss) t.end

-- the leaf of parameters and variables, and its code
abbrev pub leaf_made : List ℕ → Head → List FlatStatement → FlatLeaf
leaf_made name h code = record {
  name = name;
  scalars = h.scalars;
  streams = h.streams;
  memories = h.memories;
  vars = h.frame.vars;
  arrays = h.frame.arrays;
  code = code;
}

-- what a task has declared after its statements
abbrev pub ended : Head → Statements → Head
ended h ss = record { frame = after_all h.frame ss; streams = h.streams; memories = h.memories; scalars = h.scalars }

abbrev pub leaf_with : List ℕ → Head → Statements → FlatLeaf
leaf_with name h ss = leaf_made name (ended h ss) (codes_of h.frame ss)

abbrev pub leaf_of : Block → TaskTree → Statements → FlatLeaf
leaf_of file t ss = leaf_with t.name.text (after_parameters (task_begins file) t.parameters) ss
