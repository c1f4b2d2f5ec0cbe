-- The rules of upper-level tasks, and what they mean: their parameters, the streams that they declare, and what they
-- invoke (TAPA: tapa::task, invoke).
use Rattle.std.specs.Prelude.{◌+◌, ◌∷◌, ◌++◌, ◌&&◌, ◌||◌, ◌==◌, if◌then◌else◌}
use Rattle.std.specs.Prelude.{ℕ, List, [], length, Bool, true, false, not, Option, Some, None, codes, bytes_eq, slice_get}
use Rattle.tapa_base.specs.declared.kind.Kind.{Kind}
use Rattle.tapa_base.specs.declared.text.Place.{Place}
use Rattle.tapa_syntax.specs.declared.tree.Name.{Name}
use Rattle.tapa_syntax.specs.declared.tree.Parameter.{Parameter}
use Rattle.tapa_syntax.specs.declared.tree.Parameter.TheVariants as parameter
use Rattle.tapa_syntax.specs.Trees as tree
use Rattle.tapa_syntax.specs.Trees.{ExpressionTree, CountTree, StreamTree, ArgumentTree, InvocationTree, TaskTree}
use Rattle.tapa_syntax.specs.Flat.{literal}
use Rattle.check_scope.specs.declared.fault.Broken.{Broken}
use Rattle.check_scope.specs.declared.fault.CheckCode.TheVariants.{C3, C10}
use Rattle.check_scope.specs.declared.entity.Entity.{Entity}
use Rattle.check_scope.specs.declared.entity.Entity.TheVariants as entity
use Rattle.check_expression.specs.Kinds.{same_kind}
use Rattle.check_scope.specs.Scopes.{Block, Scope, entity_of, number_of, declaring}
use Rattle.check_scope.specs.Faults.{fault, where_so, wrong_entity, doubled}
use Rattle.check_expression.specs.Expressions.{is_constant, constant_faults, constant_value, as_kind, wanted}
use Rattle.check_expression.specs.Counts.{count_of, count_faults}
use Rattle.check_upper.specs.declared.task.Channel.{Channel}
use Rattle.check_upper.specs.declared.task.Binding.{Binding}
use Rattle.check_upper.specs.declared.task.Binding.TheVariants.{OwnStream, StreamParameter, MemoryParameter, ScalarParameter, Constant}
use Rattle.check_upper.specs.Tasks.{Invocation, Body, upper_body, Task, parameters_of}

-- ---- parameters and streams, which are in one block

abbrev pub parameter_name : Parameter → Name
parameter_name (parameter.InputStream k x) = x
parameter_name (parameter.OutputStream k x) = x
parameter_name (parameter.Memory constant k x) = x
parameter_name (parameter.Scalar constant k x) = x

abbrev pub parameter_kind : Parameter → Kind
parameter_kind (parameter.InputStream k x) = k
parameter_kind (parameter.OutputStream k x) = k
parameter_kind (parameter.Memory constant k x) = k
parameter_kind (parameter.Scalar constant k x) = k

-- the names in scope, and how many streams, memories and scalars the parameters so far are
pub record Signature : Type 0 where
  pub scope : Scope
  pub streams : ℕ
  pub memories : ℕ
  pub scalars : ℕ

abbrev pub with_stream : Bool → Kind → Name → Signature → Signature
with_stream writes k x h = record { scope = declaring x.text (entity.Stream writes k h.streams) h.scope; streams = h.streams + 1; memories = h.memories; scalars = h.scalars }

abbrev pub with_memory : Bool → Kind → Name → Signature → Signature
with_memory free k x h = record { scope = declaring x.text (entity.Memory free k h.memories) h.scope; streams = h.streams; memories = h.memories + 1; scalars = h.scalars }

abbrev pub with_scalar : Bool → Kind → Name → Signature → Signature
with_scalar free k x h = record { scope = declaring x.text (entity.Variable free k h.scalars) h.scope; streams = h.streams; memories = h.memories; scalars = h.scalars + 1 }

abbrev pub after_parameter : Signature → Parameter → Signature
after_parameter h (parameter.InputStream k x) = with_stream false k x h
after_parameter h (parameter.OutputStream k x) = with_stream true k x h
after_parameter h (parameter.Memory constant k x) = with_memory (not constant) k x h
after_parameter h (parameter.Scalar constant k x) = with_scalar (not constant) k x h

abbrev pub after_parameters : Signature → List Parameter → Signature
after_parameters h [] = h
after_parameters h (p ∷ rest) = after_parameters (after_parameter h p) rest

abbrev pub parameters_faults : Signature → List Parameter → List Broken
parameters_faults h [] = []
parameters_faults h (p ∷ rest) = doubled h.scope (parameter_name p) ++ parameters_faults (after_parameter h p) rest

-- a task of a file that has declared these names
abbrev pub task_begins : Block → Signature
task_begins file = record { scope = file ∷ [] ∷ []; streams = 0; memories = 0; scalars = 0 }

-- the names in scope, and the streams so far
pub record Channels : Type 0 where
  pub scope : Scope
  pub streams : List Channel

abbrev pub with_channel : Kind → ℕ → Channels → Name → Channels
with_channel k depth c x = record {
  scope = declaring x.text (entity.Channel k (length c.streams)) c.scope;
  streams = c.streams ++ record { name = x.text; place = x.place; kind = k; depth = depth } ∷ [];
}

abbrev pub with_channels : Kind → ℕ → Channels → List Name → Channels
with_channels k depth c [] = c
with_channels k depth c (x ∷ rest) = with_channels k depth (with_channel k depth c x) rest

abbrev pub channels_faults : Kind → ℕ → Channels → List Name → List Broken
channels_faults k depth c [] = []
channels_faults k depth c (x ∷ rest) = doubled c.scope x ++ channels_faults k depth (with_channel k depth c x) rest

-- a stream without a depth has depth 2
abbrev pub depth_of : Scope → Option CountTree → ℕ
depth_of E None = 2
depth_of E (Some count) = count_of E count

abbrev pub depth_faults : Scope → Option CountTree → List Broken
depth_faults E None = []
depth_faults E (Some count) = count_faults E count

abbrev pub after_stream : Channels → StreamTree → Channels
after_stream c s = with_channels s.kind (depth_of c.scope s.depth) c s.names

abbrev pub stream_faults : Channels → StreamTree → List Broken
stream_faults c s = depth_faults c.scope s.depth ++ channels_faults s.kind (depth_of c.scope s.depth) c s.names

abbrev pub after_streams : Channels → List StreamTree → Channels
after_streams c [] = c
after_streams c (s ∷ rest) = after_streams (after_stream c s) rest

abbrev pub streams_faults : Channels → List StreamTree → List Broken
streams_faults c [] = []
streams_faults c (s ∷ rest) = stream_faults c s ++ streams_faults (after_stream c s) rest

-- ---- arguments

-- what a name means may be bound to a parameter: a stream of its kind and direction, a memory of its kind that may be
-- stored to where the parameter may, or a scalar
abbrev pub is_bound_to_stream : Bool → Kind → Entity → Bool
is_bound_to_stream writes k (entity.Channel j n) = same_kind j k
is_bound_to_stream writes k (entity.Stream true j n) = writes && same_kind j k
is_bound_to_stream writes k (entity.Stream false j n) = not writes && same_kind j k
is_bound_to_stream writes k s = false

abbrev pub is_bound_to_memory : Bool → Kind → Entity → Bool
is_bound_to_memory constant k (entity.Memory free j n) = same_kind j k && (constant || free)
is_bound_to_memory constant k s = false

abbrev pub is_bound_to_scalar : Entity → Bool
is_bound_to_scalar (entity.Variable free j n) = true
is_bound_to_scalar (entity.Constant j n) = true
is_bound_to_scalar s = false

abbrev pub is_bound_to : Parameter → Entity → Bool
is_bound_to (parameter.InputStream k x) = is_bound_to_stream false k
is_bound_to (parameter.OutputStream k x) = is_bound_to_stream true k
is_bound_to (parameter.Memory constant k x) = is_bound_to_memory constant k
is_bound_to (parameter.Scalar constant k x) = is_bound_to_scalar

abbrev pub is_scalar_parameter : Parameter → Bool
is_scalar_parameter (parameter.Scalar constant k x) = true
is_scalar_parameter p = false

-- C3: an argument is one name that may be bound to the parameter, or for a scalar a constant expression
abbrev pub constant_argument_faults : Scope → Parameter → Place → ExpressionTree → List Broken
constant_argument_faults E p at e = where_so (is_constant E e && not (is_scalar_parameter p)) (fault C3 at) ++ constant_faults E e

abbrev pub argument_faults : Scope → Parameter → Place → ExpressionTree → List Broken
argument_faults E p at (tree.variable x) = wrong_entity (is_bound_to p) x.place (entity_of x.text E)
argument_faults E p at e = constant_argument_faults E p at e

-- what a name is for a parameter of this kind
abbrev pub named_binding : Kind → Option Entity → Binding
named_binding k (Some (entity.Channel j n)) = OwnStream n
named_binding k (Some (entity.Stream writes j n)) = StreamParameter n
named_binding k (Some (entity.Memory free j n)) = MemoryParameter n
named_binding k (Some (entity.Variable free j n)) = ScalarParameter n j k
named_binding k (Some (entity.Constant j n)) = Constant (constant_value (as_kind j k (literal j n)))
named_binding k s = Constant 0

abbrev pub constant_binding : Scope → Kind → ExpressionTree → Binding
constant_binding E k e = Constant (constant_value (wanted E k e))

abbrev pub binding_of : Scope → Kind → ExpressionTree → Binding
binding_of E k (tree.variable x) = named_binding k (entity_of x.text E)
binding_of E k e = constant_binding E k e

abbrev pub arguments_faults : Scope → List Parameter → List ArgumentTree → List Broken
arguments_faults E [] arguments = []
arguments_faults E (p ∷ rest) [] = []
arguments_faults E (p ∷ rest) (a ∷ arguments) = argument_faults E p a.place a.value ++ arguments_faults E rest arguments

abbrev pub bindings_of : Scope → List Parameter → List ArgumentTree → List Binding
bindings_of E [] arguments = []
bindings_of E (p ∷ rest) [] = []
bindings_of E (p ∷ rest) (a ∷ arguments) = binding_of E (parameter_kind p) a.value ∷ bindings_of E rest arguments

-- ---- invocations

-- the task is not waited for; without a mode it is (TAPA: join, detach)
abbrev pub is_detached : Option Name → Bool
is_detached None = false
is_detached (Some mode) = bytes_eq mode.text (codes "detach")

-- C3: the modes of an invocation are tapa::join and tapa::detach
abbrev pub mode_faults : Option Name → List Broken
mode_faults None = []
mode_faults (Some mode) = where_so (not (is_detached (Some mode) || bytes_eq mode.text (codes "join"))) (fault C3 mode.place)

abbrev pub is_task : Entity → Bool
is_task (entity.Task n) = true
is_task s = false

-- the number of the task that a name means
abbrev pub invoked_task : Scope → List ℕ → ℕ
invoked_task E x = number_of (entity_of x E)

-- the parameters of the task of this name: the invoking task itself, or one before it
abbrev pub invoked_parameters : Scope → List Task → TaskTree → List ℕ → List Parameter
invoked_parameters E tasks self x = if bytes_eq x self.name.text then self.parameters else parameters_of (slice_get tasks (invoked_task E x))

-- C3: a task is invoked with one argument for each of its parameters; C10: and not by itself
abbrev pub callee_faults : Scope → List Parameter → Bool → InvocationTree → List Broken
callee_faults E parameters is_self i =
    where_so (not (length parameters == length i.arguments)) (fault C3 i.task.place) ++ (where_so is_self (fault C10 i.task.place) ++ arguments_faults E parameters i.arguments)

abbrev pub invocation_faults : Scope → List Task → TaskTree → InvocationTree → List Broken
invocation_faults E tasks self i =
    mode_faults i.mode
    ++ (wrong_entity is_task i.task.place (entity_of i.task.text E) ++ callee_faults E (invoked_parameters E tasks self i.task.text) (bytes_eq i.task.text self.name.text) i)

abbrev pub invocation_of : Scope → List Task → TaskTree → InvocationTree → Invocation
invocation_of E tasks self i = record {
  place = i.task.place;
  detached = is_detached i.mode;
  task = invoked_task E i.task.text;
  bindings = bindings_of E (invoked_parameters E tasks self i.task.text) i.arguments;
}

abbrev pub invocations_faults : Scope → List Task → TaskTree → List InvocationTree → List Broken
invocations_faults E tasks self [] = []
invocations_faults E tasks self (i ∷ rest) = invocation_faults E tasks self i ++ invocations_faults E tasks self rest

abbrev pub invocations_of : Scope → List Task → TaskTree → List InvocationTree → List Invocation
invocations_of E tasks self [] = []
invocations_of E tasks self (i ∷ rest) = invocation_of E tasks self i ∷ invocations_of E tasks self rest

-- ---- an upper-level task, where the file has declared these names, itself among them, and has these tasks before it

abbrev pub streams_begin : Block → TaskTree → Channels
streams_begin file t = record { scope = (after_parameters (task_begins file) t.parameters).scope; streams = [] }

abbrev pub upper_faults : Block → List Task → TaskTree → List StreamTree → List InvocationTree → List Broken
upper_faults file tasks t streams invocations =
    parameters_faults (task_begins file) t.parameters
    ++ (streams_faults (streams_begin file t) streams ++ invocations_faults (after_streams (streams_begin file t) streams).scope tasks t invocations)

abbrev pub upper_with : List Task → TaskTree → Channels → List InvocationTree → Body
upper_with tasks t c invocations = upper_body c.streams (invocations_of c.scope tasks t invocations)

abbrev pub upper_of : Block → List Task → TaskTree → List StreamTree → List InvocationTree → Body
upper_of file tasks t streams invocations = upper_with tasks t (after_streams (streams_begin file t) streams) invocations
