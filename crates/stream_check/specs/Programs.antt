-- The flat program of a legal file and the name of its top task, and the rules that speak of the whole program.
use Rattle.std.specs.Prelude.{ℕ, ◌+◌, List, [], ◌∷◌, ◌++◌, length, map, Bool, true, false, not, ◌&&◌, ◌==◌, Option, Some, None, nat_le, slice_get, if◌then◌else◌}
use Rattle.std.specs.List.{flat_map, list_any}
use Rattle.tapa_base.specs.declared.text.Place.{Place}
use Rattle.tapa_syntax.specs.declared.program.End.{End}
use Rattle.tapa_syntax.specs.declared.program.Memory.{Memory}
use Rattle.tapa_syntax.specs.declared.program.Scalar.{Scalar}
use Rattle.tapa_syntax.specs.declared.program.Stream.{Stream}
use Rattle.tapa_syntax.specs.declared.tree.Parameter.{Parameter}
use Rattle.tapa_syntax.specs.declared.tree.Parameter.TheVariants as parameter
use Rattle.tapa_syntax.specs.Trees.{TaskTree, ItemTree}
use Rattle.tapa_syntax.specs.Flat.{FlatBound, top_scalar, FlatInstance, FlatLeaf, FlatProgram}
use Rattle.check_scope.specs.declared.fault.Broken.{Broken}
use Rattle.check_scope.specs.declared.fault.CheckCode.TheVariants.{C1, C3, C4, C5, C7, C12}
use Rattle.check_scope.specs.Faults.{fault, over, where_so}
use Rattle.check_upper.specs.declared.task.Channel.{Channel}
use Rattle.check_upper.specs.Tasks.{Body, leaf_body, upper_body, Task, task_position}
use Rattle.check_scope.specs.One.{the_one, one_faults}
use Rattle.stream_check.specs.Items.{no_items, items_faults, tasks_of}
use Rattle.stream_check.specs.Parts.{Part, own, instance, too_deep, streams_in, instances_in, parts_of}

-- ---- the top task

-- line 1, column 1
abbrev pub first_place : Place
first_place = record { line = 1; col = 1 }

abbrev pub is_stream_parameter : Parameter → Bool
is_stream_parameter (parameter.InputStream k x) = true
is_stream_parameter (parameter.OutputStream k x) = true
is_stream_parameter (parameter.Memory constant k x) = false
is_stream_parameter (parameter.Scalar constant k x) = false

abbrev pub is_upper : Body → Bool
is_upper (leaf_body l) = false
is_upper (upper_body channels invocations) = true

-- C3: the top is an upper-level task without stream parameters
abbrev pub top_faults : Task → List Broken
top_faults t = where_so (not (is_upper t.body && not (list_any is_stream_parameter t.declared.parameters))) (fault C3 t.declared.name.place)

-- ---- the parts of the program

-- the top task's scalars and memories, which are bound to themselves
abbrev pub top_scalar_at : ℕ → Parameter → List FlatBound
top_scalar_at n (parameter.Scalar constant k x) = top_scalar n [] ∷ []
top_scalar_at n (parameter.Memory constant k x) = []
top_scalar_at n (parameter.InputStream k x) = []
top_scalar_at n (parameter.OutputStream k x) = []

abbrev pub top_scalars : ℕ → List Parameter → List FlatBound
top_scalars n [] = []
top_scalars n (p ∷ rest) = top_scalar_at n p ++ top_scalars (n + length (top_scalar_at n p)) rest

abbrev pub top_memory_at : ℕ → Parameter → List ℕ
top_memory_at n (parameter.Memory constant k x) = n ∷ []
top_memory_at n (parameter.Scalar constant k x) = []
top_memory_at n (parameter.InputStream k x) = []
top_memory_at n (parameter.OutputStream k x) = []

abbrev pub top_memories : ℕ → List Parameter → List ℕ
top_memories n [] = []
top_memories n (p ∷ rest) = top_memory_at n p ++ top_memories (n + length (top_memory_at n p)) rest

abbrev pub top_instance : ℕ → List Parameter → FlatInstance
top_instance top parameters = record { label = []; body = top; detached = false; scalars = top_scalars 0 parameters; streams = []; memories = top_memories 0 parameters }

-- upper-level tasks nest at most 8 deep, the top being the first
abbrev pub most_levels : ℕ
most_levels = 8

-- not counted out where it is not asked for
unfoldable pub all_levels : ℕ
all_levels = most_levels

-- the parts of the top task of number n, where upper-level tasks may nest at most `levels` deep
abbrev pub top_parts : ℕ → List Task → ℕ → TaskTree → List Part
top_parts levels tasks n top = parts_of levels tasks top.name.place (top_instance n top.parameters) 0

-- ---- limits, in the order of the parts

-- C11: at most 1,024 streams, 512 leaf instances and 8 levels; s streams and i instances come before these parts
abbrev pub limit_faults : ℕ → ℕ → List Part → List Broken
limit_faults s i [] = []
limit_faults s i (own c ∷ rest) = where_so (nat_le 1024 s) (over 1024 c.place) ++ limit_faults (s + 1) i rest
limit_faults s i (instance at x ∷ rest) = where_so (nat_le 512 i) (over 512 at) ++ limit_faults s (i + 1) rest
limit_faults s i (too_deep at ∷ rest) = over most_levels at ++ limit_faults s i rest

-- ---- which instances a stream or memory is bound to: a stream at two parameters of one instance is bound twice

abbrev pub ends_in : Body → List End
ends_in (leaf_body l) = l.streams
ends_in (upper_body channels invocations) = []

abbrev pub ends_of : Option Task → List End
ends_of None = []
ends_of (Some t) = ends_in t.body

abbrev pub is_end : ℕ → Bool → ℕ → End → Bool
is_end s true r e = (r == s) && e.writes
is_end s false r e = (r == s) && not e.writes

-- instance i, once for each parameter of this direction that is bound to stream s
abbrev pub bound_ends : ℕ → ℕ → Bool → List ℕ → List End → List ℕ
bound_ends i s writes [] ends = []
bound_ends i s writes (r ∷ streams) [] = []
bound_ends i s writes (r ∷ streams) (e ∷ ends) = (if is_end s writes r e then i ∷ [] else []) ++ bound_ends i s writes streams ends

abbrev pub instances_at : List Task → ℕ → Bool → ℕ → List FlatInstance → List ℕ
instances_at tasks s writes i [] = []
instances_at tasks s writes i (x ∷ rest) = bound_ends i s writes x.streams (ends_of (slice_get tasks x.body)) ++ instances_at tasks s writes (i + 1) rest

abbrev pub bound_memories : ℕ → ℕ → List ℕ → List ℕ
bound_memories i m [] = []
bound_memories i m (n ∷ rest) = (if n == m then i ∷ [] else []) ++ bound_memories i m rest

abbrev pub instances_with : ℕ → ℕ → List FlatInstance → List ℕ
instances_with m i [] = []
instances_with m i (x ∷ rest) = bound_memories i m x.memories ++ instances_with m (i + 1) rest

-- C4: each stream has one producer, C5: and one consumer (TAPA: a stream is read by one task instance and written by one)
abbrev pub stream_faults : List Task → List FlatInstance → ℕ → Channel → List Broken
stream_faults tasks instances s c =
    one_faults C4 c.place (instances_at tasks s true 0 instances) ++ one_faults C5 c.place (instances_at tasks s false 0 instances)

abbrev pub stream_of : List Task → List FlatInstance → ℕ → Channel → Stream
stream_of tasks instances s c = record {
  label = c.name;
  kind = c.kind;
  depth = c.depth;
  producer = the_one (instances_at tasks s true 0 instances);
  consumer = the_one (instances_at tasks s false 0 instances);
}

abbrev pub streams_faults : List Task → List FlatInstance → ℕ → List Channel → List Broken
streams_faults tasks instances s [] = []
streams_faults tasks instances s (c ∷ rest) = stream_faults tasks instances s c ++ streams_faults tasks instances (s + 1) rest

abbrev pub streams_of : List Task → List FlatInstance → ℕ → List Channel → List Stream
streams_of tasks instances s [] = []
streams_of tasks instances s (c ∷ rest) = stream_of tasks instances s c ∷ streams_of tasks instances (s + 1) rest

-- C7: each memory of the top task is bound to one instance
abbrev pub memory_faults : List FlatInstance → ℕ → Parameter → List Broken
memory_faults instances m (parameter.Memory constant k x) = one_faults C7 x.place (instances_with m 0 instances)
memory_faults instances m (parameter.Scalar constant k x) = []
memory_faults instances m (parameter.InputStream k x) = []
memory_faults instances m (parameter.OutputStream k x) = []

abbrev pub memory_of : List FlatInstance → ℕ → Parameter → List Memory
memory_of instances m (parameter.Memory constant k x) = record { name = x.text; kind = k; constant = constant; owner = the_one (instances_with m 0 instances) } ∷ []
memory_of instances m (parameter.Scalar constant k x) = []
memory_of instances m (parameter.InputStream k x) = []
memory_of instances m (parameter.OutputStream k x) = []

abbrev pub memories_faults : List FlatInstance → ℕ → List Parameter → List Broken
memories_faults instances m [] = []
memories_faults instances m (p ∷ rest) = memory_faults instances m p ++ memories_faults instances (m + length (memory_of instances m p)) rest

abbrev pub memories_of : List FlatInstance → ℕ → List Parameter → List Memory
memories_of instances m [] = []
memories_of instances m (p ∷ rest) = memory_of instances m p ++ memories_of instances (m + length (memory_of instances m p)) rest

abbrev pub is_detached : Option FlatInstance → Bool
is_detached None = false
is_detached (Some x) = x.detached

-- something is bound to one instance, which is not waited for
abbrev pub is_of_detached : List FlatInstance → List ℕ → Bool
is_of_detached instances (i ∷ []) = is_detached (slice_get instances i)
is_of_detached instances bound = false

-- C12: a memory of the top task that may be written is of an instance that is waited for: else its last cells would depend on time
abbrev pub writer_faults : List FlatInstance → ℕ → Parameter → List Broken
writer_faults instances m (parameter.Memory constant k x) = where_so (not constant && is_of_detached instances (instances_with m 0 instances)) (fault C12 x.place)
writer_faults instances m (parameter.Scalar constant k x) = []
writer_faults instances m (parameter.InputStream k x) = []
writer_faults instances m (parameter.OutputStream k x) = []

abbrev pub writers_faults : List FlatInstance → ℕ → List Parameter → List Broken
writers_faults instances m [] = []
writers_faults instances m (p ∷ rest) = writer_faults instances m p ++ writers_faults instances (m + length (memory_of instances m p)) rest

abbrev pub scalar_of : Parameter → List Scalar
scalar_of (parameter.Scalar constant k x) = record { name = x.text; kind = k } ∷ []
scalar_of (parameter.Memory constant k x) = []
scalar_of (parameter.InputStream k x) = []
scalar_of (parameter.OutputStream k x) = []

abbrev pub scalars_of : List Parameter → List Scalar
scalars_of parameters = flat_map scalar_of parameters

-- ---- bodies

abbrev pub is_used : List FlatInstance → ℕ → Bool
is_used instances n = list_any (λ (x : FlatInstance). x.body == n) instances

-- the numbers of the tasks that some leaf instance has, in the order of the file
abbrev pub body_numbers : List FlatInstance → ℕ → List Task → List ℕ
body_numbers instances n [] = []
body_numbers instances n (t ∷ rest) = (if is_used instances n then n ∷ [] else []) ++ body_numbers instances (n + 1) rest

abbrev pub leaf_in : Body → List FlatLeaf
leaf_in (leaf_body l) = l ∷ []
leaf_in (upper_body channels invocations) = []

abbrev pub is_among : ℕ → List ℕ → Bool
is_among n numbers = list_any (λ m. m == n) numbers

-- the leaves of the tasks of these numbers
abbrev pub bodies_of : List ℕ → ℕ → List Task → List FlatLeaf
bodies_of numbers n [] = []
bodies_of numbers n (t ∷ rest) = (if is_among n numbers then leaf_in t.body else []) ++ bodies_of numbers (n + 1) rest

abbrev pub position_among : ℕ → ℕ → List ℕ → ℕ
position_among p n [] = p
position_among p n (m ∷ rest) = if m == n then p else position_among (p + 1) n rest

-- an instance with the number of its leaf among the bodies
abbrev pub with_body : List ℕ → FlatInstance → FlatInstance
with_body numbers x = record { label = x.label; body = position_among 0 x.body numbers; detached = x.detached; scalars = x.scalars; streams = x.streams; memories = x.memories }

-- ---- programs

abbrev pub bindings_faults : List Task → TaskTree → List FlatInstance → List Channel → List Broken
bindings_faults tasks top instances streams =
    streams_faults tasks instances 0 streams ++ (memories_faults instances 0 top.parameters ++ writers_faults instances 0 top.parameters)

abbrev pub program_made : List Task → TaskTree → List FlatInstance → List Channel → FlatProgram
program_made tasks top instances streams = record {
  top = top.name.text;
  scalars = scalars_of top.parameters;
  memories = memories_of instances 0 top.parameters;
  bodies = bodies_of (body_numbers instances 0 tasks) 0 tasks;
  instances = map (with_body (body_numbers instances 0 tasks)) instances;
  streams = streams_of tasks instances 0 streams;
}

-- the limits first, then the streams, then the memories' instances and then who writes them
abbrev pub parts_faults : List Task → TaskTree → List Part → List Broken
parts_faults tasks top parts = limit_faults 0 0 parts ++ bindings_faults tasks top (instances_in parts) (streams_in parts)

abbrev pub program_with : List Task → TaskTree → List Part → FlatProgram
program_with tasks top parts = program_made tasks top (instances_in parts) (streams_in parts)

abbrev pub no_program : FlatProgram
no_program = record { top = []; scalars = []; memories = []; bodies = []; instances = []; streams = [] }

-- the faults of a program with the top task of this number: those of the top first
abbrev pub top_task_faults : ℕ → List Task → ℕ → Option Task → List Broken
top_task_faults levels tasks n None = fault C1 first_place
top_task_faults levels tasks n (Some t) = top_faults t ++ parts_faults tasks t.declared (top_parts levels tasks n t.declared)

abbrev pub whole_faults : ℕ → List Task → ℕ → List Broken
whole_faults levels tasks n = top_task_faults levels tasks n (slice_get tasks n)

abbrev pub top_program : ℕ → List Task → ℕ → Option Task → FlatProgram
top_program levels tasks n None = no_program
top_program levels tasks n (Some t) = program_with tasks t.declared (top_parts levels tasks n t.declared)

abbrev pub whole_program : ℕ → List Task → ℕ → FlatProgram
whole_program levels tasks n = top_program levels tasks n (slice_get tasks n)

-- every fault of a file with a top task of this name: those of the items first
abbrev pub program_faults : List ItemTree → List ℕ → List Broken
program_faults items top = items_faults no_items items ++ whole_faults all_levels (tasks_of items) (task_position 0 top (tasks_of items))

-- the flat program of a legal file
abbrev pub program_of : List ItemTree → List ℕ → FlatProgram
program_of items top = whole_program all_levels (tasks_of items) (task_position 0 top (tasks_of items))
