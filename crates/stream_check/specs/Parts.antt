-- What a legal file's top task is made of: leaf instances and streams, where each upper-level instance is replaced by
-- what its own task is made of (TAPA: a task hierarchy).
use Rattle.std.specs.Prelude.{Bool, ◌||◌, ℕ, zero, suc, ◌+◌, ◌%◌, List, [], ◌∷◌, ◌++◌, length, Option, Some, None, decimal, slice_index, slice_get, if◌then◌else◌}
use Rattle.tapa_base.specs.declared.kind.Kind.{Kind}
use Rattle.tapa_base.specs.declared.text.Place.{Place}
use Rattle.tapa_base.specs.Kinds.{converted, values_of}
use Rattle.tapa_syntax.specs.Flat.{FlatBound, number, top_scalar, FlatInstance}
use Rattle.check_expression.specs.Kinds.{same_kind}
use Rattle.check_upper.specs.declared.task.Channel.{Channel}
use Rattle.check_upper.specs.declared.task.Binding.{Binding}
use Rattle.check_upper.specs.declared.task.Binding.TheVariants.{OwnStream, StreamParameter, MemoryParameter, ScalarParameter, Constant}
use Rattle.check_upper.specs.Tasks.{Invocation, Body, leaf_body, upper_body, Task}

-- a part of a task, in the order in which they are numbered
pub data Part : Type 0 where
  -- a stream, whose name is its label
  own : Channel → Part
  -- a leaf instance, with the place where its task is named; its body is the number of its task in the file
  instance : Place → FlatInstance → Part
  -- an upper-level instance at level 9, with the place where its task is named
  too_deep : Place → Part

abbrev pub streams_in : List Part → List Channel
streams_in [] = []
streams_in (own c ∷ rest) = c ∷ streams_in rest
streams_in (instance at x ∷ rest) = streams_in rest
streams_in (too_deep at ∷ rest) = streams_in rest

abbrev pub instances_in : List Part → List FlatInstance
instances_in [] = []
instances_in (own c ∷ rest) = instances_in rest
instances_in (instance at x ∷ rest) = x ∷ instances_in rest
instances_in (too_deep at ∷ rest) = instances_in rest

-- ---- labels

-- a name below an instance: LABEL$NAME, and the name alone in the top task, which has no label
abbrev pub below : List ℕ → List ℕ → List ℕ
below [] name = name
below (b ∷ label) name = (b ∷ label) ++ 36 ∷ name

-- Task$k
abbrev pub instance_name : List ℕ → ℕ → List ℕ
instance_name task k = task ++ 36 ∷ decimal k

abbrev pub name_of : Option Task → List ℕ
name_of None = []
name_of (Some t) = t.declared.name.text

-- ---- what an instance's parameters are bound to

-- a value that is bound, converted from the first kind to the second
abbrev pub passed : Kind → Kind → FlatBound → FlatBound
passed from to (number n) = number (converted from to (n % values_of from))
passed from to (top_scalar x kinds) = top_scalar x (if same_kind from to then kinds else kinds ++ to ∷ [])

abbrev pub bound_or_zero : Option FlatBound → FlatBound
bound_or_zero None = number 0
bound_or_zero (Some b) = b

abbrev pub with_stream : ℕ → FlatInstance → FlatInstance
with_stream s y = record { label = y.label; body = y.body; detached = y.detached; scalars = y.scalars; streams = y.streams ++ s ∷ []; memories = y.memories }

abbrev pub with_memory : ℕ → FlatInstance → FlatInstance
with_memory m y = record { label = y.label; body = y.body; detached = y.detached; scalars = y.scalars; streams = y.streams; memories = y.memories ++ m ∷ [] }

abbrev pub with_scalar : FlatBound → FlatInstance → FlatInstance
with_scalar b y = record { label = y.label; body = y.body; detached = y.detached; scalars = y.scalars ++ b ∷ []; streams = y.streams; memories = y.memories }

-- one argument more of an instance, which the task of instance x invokes; x's own streams are numbered from the first on
abbrev pub bind : FlatInstance → ℕ → FlatInstance → Binding → FlatInstance
bind x first y (OwnStream n) = with_stream (first + n) y
bind x first y (StreamParameter n) = with_stream (slice_index x.streams n) y
bind x first y (MemoryParameter n) = with_memory (slice_index x.memories n) y
bind x first y (ScalarParameter n from to) = with_scalar (passed from to (bound_or_zero (slice_get x.scalars n))) y
bind x first y (Constant n) = with_scalar (number n) y

abbrev pub bind_all : FlatInstance → ℕ → FlatInstance → List Binding → FlatInstance
bind_all x first y [] = y
bind_all x first y (l ∷ bindings) = bind_all x first (bind x first y l) bindings

abbrev pub unbound : List ℕ → ℕ → Bool → FlatInstance
unbound label task detached = record { label = label; body = task; detached = detached; scalars = []; streams = []; memories = [] }

-- the instance of the invocation at position k of the task of instance x; it is not waited for where that invocation or one
-- on the way to x from the top task is tapa::detach
abbrev pub invoked : List Task → FlatInstance → ℕ → ℕ → Invocation → FlatInstance
invoked tasks x first k i = bind_all x first (unbound (below x.label (instance_name (name_of (slice_get tasks i.task)) k)) i.task (x.detached || i.detached)) i.bindings

-- ---- parts

-- a stream of the task of an instance with this label
abbrev pub labelled : List ℕ → Channel → Channel
labelled label c = record { name = below label c.name; place = c.place; kind = c.kind; depth = c.depth }

abbrev pub own_parts : List ℕ → List Channel → List Part
own_parts label [] = []
own_parts label (c ∷ rest) = own (labelled label c) ∷ own_parts label rest

-- the parts of an instance: where its task is named, the instance, how many streams are numbered before it
abbrev pub Expands : Type 0
Expands = Place → FlatInstance → ℕ → List Part

-- some parts, and then more, which are numbered after the streams of the first
abbrev pub followed : ℕ → List Part → (ℕ → List Part) → List Part
followed n here more = here ++ more (n + length (streams_in here))

-- what the task of instance x invokes from position k on
abbrev pub chain_parts : Expands → List Task → FlatInstance → ℕ → ℕ → ℕ → List Invocation → List Part
chain_parts expand tasks x first k n [] = []
chain_parts expand tasks x first k n (i ∷ rest) = followed n (expand i.place (invoked tasks x first k i) n) (λ m. chain_parts expand tasks x first (k + 1) m rest)

abbrev pub body_of : Option Task → Option Body
body_of None = None
body_of (Some t) = Some t.body

-- a leaf is an instance; an upper-level task has its own streams, and then what it invokes, in order
abbrev pub body_parts : Expands → List Task → Place → FlatInstance → ℕ → Option Body → List Part
body_parts expand tasks at x n None = []
body_parts expand tasks at x n (Some (leaf_body l)) = instance at x ∷ []
body_parts expand tasks at x n (Some (upper_body channels invocations)) = followed n (own_parts x.label channels) (λ m. chain_parts expand tasks x n 0 m invocations)

abbrev pub deepest_parts : Place → FlatInstance → Option Body → List Part
deepest_parts at x None = []
deepest_parts at x (Some (leaf_body l)) = instance at x ∷ []
deepest_parts at x (Some (upper_body channels invocations)) = too_deep at ∷ []

-- the parts of an instance, where upper-level tasks may nest at most this number of levels deep
abbrev pub parts_of : ℕ → List Task → Expands
parts_of zero tasks at x n = deepest_parts at x (body_of (slice_get tasks x.body))
parts_of (suc levels) tasks at x n = body_parts (parts_of levels tasks) tasks at x n (body_of (slice_get tasks x.body))
