-- The names that are in scope at a position of a source (ISO C++ [basic.scope.block], [basic.lookup.unqual]).
use Rattle.std.specs.Prelude.{ℕ, ◌<◌, List, [], ◌∷◌, ◌++◌, Bool, true, false, Option, Some, None, bytes_eq, map, Vec, if◌then◌else◌}
use Rattle.std.specs.declared.alloc.Global.{Global}
use Rattle.tapa_base.specs.declared.kind.Kind.{Kind}
use Rattle.tapa_base.specs.declared.kind.Kind.TheVariants.{U64}
use Rattle.tapa_base.specs.Kinds.{values_of}
use Rattle.check_scope.specs.declared.entity.Entity.{Entity}
use Rattle.check_scope.specs.declared.entity.Entity.TheVariants.{Constant, Variable, Array, Memory, Stream, Channel, Task}

-- the declarations of a block, in order
abbrev pub Block : Type 0
Block = List (List ℕ × Entity)

-- the declarations of a table
abbrev pub declared_in : List (Vec ℕ Global × Entity) → Block
declared_in entries = map (λ e. (e.0.items, e.1)) entries

abbrev pub in_block : List ℕ → Block → Option Entity
in_block x [] = None
in_block x (d ∷ rest) = if bytes_eq d.0 x then Some d.1 else in_block x rest

abbrev pub first_of : Option Entity → Option Entity → Option Entity
first_of (Some s) o = Some s
first_of None o = o

-- the blocks that are open: the file, and then from the task's outermost block to the innermost
abbrev pub Scope : Type 0
Scope = List Block

-- a name means what the innermost block that declares it says
abbrev pub entity_of : List ℕ → Scope → Option Entity
entity_of x [] = None
entity_of x (block ∷ inner) = first_of (entity_of x inner) (in_block x block)

-- what the innermost block itself declares a name as
abbrev pub entity_here : List ℕ → Scope → Option Entity
entity_here x [] = None
entity_here x (block ∷ []) = in_block x block
entity_here x (block ∷ inner) = entity_here x inner

-- one declaration more in the innermost block
abbrev pub declaring : List ℕ → Entity → Scope → Scope
declaring x s [] = []
declaring x s (block ∷ []) = (block ++ (x, s) ∷ []) ∷ []
declaring x s (block ∷ inner) = block ∷ declaring x s inner

-- ---- entities

-- the kind of a value of this entity, or of its cells or data
abbrev pub kind_of_entity : Option Entity → Kind
kind_of_entity (Some (Constant k n)) = k
kind_of_entity (Some (Variable free k n)) = k
kind_of_entity (Some (Array free k n)) = k
kind_of_entity (Some (Memory free k n)) = k
kind_of_entity (Some (Stream writes k n)) = k
kind_of_entity (Some (Channel k n)) = k
kind_of_entity (Some (Task n)) = U64
kind_of_entity None = U64

-- its number or position
abbrev pub number_of : Option Entity → ℕ
number_of (Some (Variable free k n)) = n
number_of (Some (Array free k n)) = n
number_of (Some (Memory free k n)) = n
number_of (Some (Stream writes k n)) = n
number_of (Some (Channel k n)) = n
number_of (Some (Task n)) = n
number_of _ = 0

-- it has a value
abbrev pub is_scalar : Entity → Bool
is_scalar (Constant k n) = true
is_scalar (Variable free k n) = true
is_scalar _ = false

abbrev pub is_constant : Entity → Bool
is_constant (Constant k n) = true
is_constant _ = false

-- it has cells
abbrev pub has_cells : Entity → Bool
has_cells (Array free k n) = true
has_cells (Memory free k n) = true
has_cells _ = false

abbrev pub is_memory : Option Entity → Bool
is_memory (Some (Memory free k n)) = true
is_memory _ = false

-- it is a variable that may be assigned
abbrev pub is_free_variable : Entity → Bool
is_free_variable (Variable free k n) = free
is_free_variable _ = false

-- it has cells that may be assigned
abbrev pub has_free_cells : Entity → Bool
has_free_cells (Array free k n) = free
has_free_cells (Memory free k n) = free
has_free_cells _ = false

abbrev pub is_stream : Entity → Bool
is_stream (Stream writes k n) = true
is_stream _ = false

-- a stream that the task writes, or one that it reads
abbrev pub is_output : Entity → Bool
is_output (Stream writes k n) = writes
is_output _ = false

abbrev pub is_input : Entity → Bool
is_input (Stream true k n) = false
is_input (Stream false k n) = true
is_input _ = false

-- the value of a constant is one of its kind
abbrev pub IsSound : Entity → Type 0
IsSound (Constant k n) = n < values_of k
IsSound _ = Unit {0}

abbrev pub AreSound : Block → Type 0
AreSound [] = Unit {0}
AreSound (d ∷ rest) = IsSound d.1 × AreSound rest
