-- The ports of a task: what its parameters bind, in order.
use Rattle.std.proofs.Common.{◌≡◌, ◌<◌, ◌⊎◌, inr, ℕ, List, [], ◌∷◌, ◌++◌, length, Bool, true, false, Some, None, refl, ap, subst}
use Rattle.std.specs.Prelude.{Option, slice_get, bytes_eq, if◌then◌else◌}
use Rattle.std.proofs.lemmas.Slice.Eq.{bytes_eq-Decides}
use Rattle.tapa_base.specs.declared.kind.Kind.{Kind}
use Rattle.tapa_base.specs.Kinds.{values_of}
use Rattle.tapa_syntax.specs.declared.program.End.{End}
use Rattle.tapa_syntax.specs.declared.tree.Parameter.{Parameter}
use Rattle.tapa_syntax.specs.declared.tree.Parameter.TheVariants as parameter
use Rattle.tapa_syntax.specs.Trees.{Statements, TaskTree}
use Rattle.tapa_syntax.specs.Flat.{FlatLeaf}
use Rattle.check_scope.specs.declared.entity.Entity.{Entity}
use Rattle.check_scope.specs.declared.entity.Entity.TheVariants as entity
use Rattle.check_scope.specs.Scopes.{Block, Scope, in_block, first_of, entity_of, declaring, IsSound}
use Rattle.check_leaf.specs.Laws.{IsGlobal, AreGlobal}
use Rattle.check_leaf.specs.Leaves as leaf
use Rattle.check_leaf.specs.Leaves.{Head, leaf_of, leaf_faults}
use Rattle.check_upper.specs.declared.task.Channel.{Channel}
use Rattle.check_upper.specs.Tasks.{Task}
use Rattle.stream_check.proofs.WellLists.{nothing, Each, each_append, each_more, get_last, Pairs, pairs_push, pairs_more}
use Rattle.stream_check.proofs.WellValues.{Sound}
use Rattle.stream_check.proofs.WellVariables.{HasVariable, after_statements}
use Rattle.tapa_base.proofs.Got.{got_left as get_left, the_same}

pub record Ports : Type 0 where
  pub streams : List End
  pub memories : List Kind
  pub scalars : List Kind

abbrev pub no_ports : Ports
no_ports = record { streams = []; memories = []; scalars = [] }

abbrev pub end_of : Bool → Kind → End
end_of writes k = record { kind = k; writes = writes }

abbrev pub with_stream : Bool → Kind → Ports → Ports
with_stream writes k q = record { streams = q.streams ++ end_of writes k ∷ []; memories = q.memories; scalars = q.scalars }

abbrev pub with_memory : Kind → Ports → Ports
with_memory k q = record { streams = q.streams; memories = q.memories ++ k ∷ []; scalars = q.scalars }

abbrev pub with_scalar : Kind → Ports → Ports
with_scalar k q = record { streams = q.streams; memories = q.memories; scalars = q.scalars ++ k ∷ [] }

abbrev pub with_port : Ports → Parameter → Ports
with_port q (parameter.InputStream k x) = with_stream false k q
with_port q (parameter.OutputStream k x) = with_stream true k q
with_port q (parameter.Memory constant k x) = with_memory k q
with_port q (parameter.Scalar constant k x) = with_scalar k q

abbrev pub with_ports : Ports → List Parameter → Ports
with_ports q [] = q
with_ports q (p ∷ rest) = with_ports (with_port q p) rest

abbrev pub ports_of : List Parameter → Ports
ports_of parameters = with_ports no_ports parameters

-- ---- leaves

pub record HeadFits (h : Head) (q : Ports) : Type 0 where
  pub streams : h.streams ≡ q.streams
  pub memories : h.memories ≡ q.memories
  pub scalars : Pairs (HasVariable h.frame) h.scalars q.scalars

head_step : (h : Head) (q : Ports) (p : Parameter) → HeadFits h q → HeadFits (leaf.after_parameter h p) (with_port q p)
head_step h q (parameter.InputStream k x) f = record { streams = ap (λ (es : List End). es ++ end_of false k ∷ []) f.streams; memories = f.memories; scalars = f.scalars }
head_step h q (parameter.OutputStream k x) f = record { streams = ap (λ (es : List End). es ++ end_of true k ∷ []) f.streams; memories = f.memories; scalars = f.scalars }
head_step h q (parameter.Memory constant k x) f = record { streams = f.streams; memories = ap (λ (ks : List Kind). ks ++ k ∷ []) f.memories; scalars = f.scalars }
head_step h q (parameter.Scalar constant k x) f = record {
  streams = f.streams;
  memories = f.memories;
  scalars = pairs_push (HasVariable (leaf.after_parameter h (parameter.Scalar constant k x)).frame) h.scalars q.scalars (length h.frame.vars) k
      (pairs_more (HasVariable h.frame) (HasVariable (leaf.after_parameter h (parameter.Scalar constant k x)).frame) (λ v j a. get_left h.frame.vars (k ∷ []) v j a) h.scalars q.scalars f.scalars)
      (get_last h.frame.vars k (length h.frame.vars) refl);
}

head_steps : (h : Head) (q : Ports) (ps : List Parameter) → HeadFits h q → HeadFits (leaf.after_parameters h ps) (with_ports q ps)
head_steps h q [] f = f
head_steps h q (p ∷ ps) f = head_steps (leaf.after_parameter h p) (with_port q p) ps (head_step h q p f)

-- a leaf of a legal leaf task with these ports
pub record LeafFits (q : Ports) (l : FlatLeaf) : Type 0 where
  pub streams : l.streams ≡ q.streams
  pub memories : l.memories ≡ q.memories
  pub scalars : Pairs (λ v k. slice_get l.vars v ≡ Some k) l.scalars q.scalars
  pub file : Block
  pub sound : AreGlobal file
  pub task : TaskTree
  pub code : Statements
  pub legal : leaf_faults file task code ≡ []
  pub is : l ≡ leaf_of file task code

pub leaf_fits : (file : Block) (t : TaskTree) (ss : Statements) → AreGlobal file → leaf_faults file t ss ≡ [] → LeafFits (ports_of t.parameters) (leaf_of file t ss)
leaf_fits file t ss sound h =
    let f = head_steps (leaf.task_begins file) no_ports t.parameters (record { streams = refl; memories = refl; scalars = tt }) in
    record {
      streams = f.streams;
      memories = f.memories;
      scalars = pairs_more (HasVariable (leaf.after_parameters (leaf.task_begins file) t.parameters).frame) (λ v k. slice_get (leaf_of file t ss).vars v ≡ Some k)
          (λ v k a. after_statements (leaf.after_parameters (leaf.task_begins file) t.parameters).frame ss v k a) (leaf.after_parameters (leaf.task_begins file) t.parameters).scalars (ports_of t.parameters).scalars f.scalars;
      file = file;
      sound = sound;
      task = t;
      code = ss;
      legal = h;
      is = refl;
    }

-- ---- what names mean

-- some task before has this number
abbrev pub IsTask : List Task → ℕ → Type 0
IsTask tasks n = (t : Task) × (slice_get tasks n ≡ Some t)

-- what a name means in an upper-level task of this name with these ports and streams
abbrev pub Means : List Task → List ℕ → Ports → List Channel → List ℕ → Entity → Type 0
Means tasks self q c x (entity.Constant k n) = n < values_of k
Means tasks self q c x (entity.Variable free k n) = slice_get q.scalars n ≡ Some k
Means tasks self q c x (entity.Array free k n) = Unit {0}
Means tasks self q c x (entity.Memory free k n) = slice_get q.memories n ≡ Some k
Means tasks self q c x (entity.Stream writes k n) = slice_get q.streams n ≡ Some (end_of writes k)
Means tasks self q c x (entity.Channel k n) = (d : Channel) × (slice_get c n ≡ Some d) × (d.kind ≡ k)
Means tasks self q c x (entity.Task n) = (x ≡ self) ⊎ IsTask tasks n

-- what a name means in a file with these tasks
abbrev pub MeansInFile : List Task → List ℕ → Entity → Type 0
MeansInFile tasks x (entity.Constant k n) = n < values_of k
MeansInFile tasks x (entity.Task n) = IsTask tasks n
MeansInFile tasks x s = ⊥

abbrev pub Declares : (List ℕ → Entity → Type 0) → Block → Type 0
Declares M block = Each (λ (d : List ℕ × Entity). M d.0 d.1) block

abbrev pub DeclareAll : (List ℕ → Entity → Type 0) → Scope → Type 0
DeclareAll M E = Each (Declares M) E

declared_by : (M : List ℕ → Entity → Type 0) (x y : List ℕ) (s r : Entity) (o : Option Entity) (b : Bool) → bytes_eq y x ≡ b → M y r → (o ≡ Some s → M x s) → (if b then Some r else o) ≡ Some s → M x s
declared_by M x y s r o true e m k h = subst (λ z. M z s) ((bytes_eq-Decides y x).0 e) (subst (M y) (the_same r s h) m)
declared_by M x y s r o false e m k h = k h

declared : (M : List ℕ → Entity → Type 0) (x : List ℕ) (b : Block) → Declares M b → (s : Entity) → in_block x b ≡ Some s → M x s
declared M x [] a s h = absurd (nothing s h)
declared M x (d ∷ rest) (m, a) s h = declared_by M x d.0 s d.1 (in_block x rest) (bytes_eq d.0 x) refl m (declared M x rest a s) h

either : (M : List ℕ → Entity → Type 0) (x : List ℕ) (s : Entity) (o p : Option Entity) → (o ≡ Some s → M x s) → (p ≡ Some s → M x s) → first_of o p ≡ Some s → M x s
either M x s (Some r) p a b h = a h
either M x s None p a b h = b h

pub found : (M : List ℕ → Entity → Type 0) (x : List ℕ) (E : Scope) → DeclareAll M E → (s : Entity) → entity_of x E ≡ Some s → M x s
found M x [] a s h = absurd (nothing s h)
found M x (b ∷ E) (m, a) s h = either M x s (entity_of x E) (in_block x b) (found M x E a s) (declared M x b m s) h

pub declare : (M : List ℕ → Entity → Type 0) (x : List ℕ) (s : Entity) (E : Scope) → DeclareAll M E → M x s → DeclareAll M (declaring x s E)
declare M x s [] a m = tt
declare M x s (b ∷ []) (d, a) m = (each_append (λ (d : List ℕ × Entity). M d.0 d.1) b ((x, s) ∷ []) d (m, tt), tt)
declare M x s (b ∷ c ∷ E) (d, a) m = (d, declare M x s (c ∷ E) a m)

pub declares_more : (M N : List ℕ → Entity → Type 0) → ((x : List ℕ) (s : Entity) → M x s → N x s) → (b : Block) → Declares M b → Declares N b
declares_more M N f b a = each_more (λ (d : List ℕ × Entity). M d.0 d.1) (λ (d : List ℕ × Entity). N d.0 d.1) (λ d m. f d.0 d.1 m) b a

pub declare_all_more : (M N : List ℕ → Entity → Type 0) → ((x : List ℕ) (s : Entity) → M x s → N x s) → (E : Scope) → DeclareAll M E → DeclareAll N E
declare_all_more M N f E a = each_more (Declares M) (Declares N) (declares_more M N f) E a

is_sound : (tasks : List Task) (self : List ℕ) (q : Ports) (c : List Channel) (x : List ℕ) (s : Entity) → Means tasks self q c x s → IsSound s
is_sound tasks self q c x (entity.Constant k n) m = m
is_sound tasks self q c x (entity.Variable free k n) m = tt
is_sound tasks self q c x (entity.Array free k n) m = tt
is_sound tasks self q c x (entity.Memory free k n) m = tt
is_sound tasks self q c x (entity.Stream writes k n) m = tt
is_sound tasks self q c x (entity.Channel k n) m = tt
is_sound tasks self q c x (entity.Task task_number) m = tt

pub scope_sound : (tasks : List Task) (self : List ℕ) (q : Ports) (c : List Channel) (E : Scope) → DeclareAll (Means tasks self q c) E → Sound E
scope_sound tasks self q c E a x s h = is_sound tasks self q c x s (found (Means tasks self q c) x E a s h)

pub in_task : (tasks : List Task) (self : List ℕ) (q : Ports) (c : List Channel) (x : List ℕ) (s : Entity) → MeansInFile tasks x s → Means tasks self q c x s
in_task tasks self q c x (entity.Constant k n) m = m
in_task tasks self q c x (entity.Variable free k n) m = absurd m
in_task tasks self q c x (entity.Array free k n) m = absurd m
in_task tasks self q c x (entity.Memory free k n) m = absurd m
in_task tasks self q c x (entity.Stream writes k n) m = absurd m
in_task tasks self q c x (entity.Channel k n) m = absurd m
in_task tasks self q c x (entity.Task task_number) m = inr m

global : (tasks : List Task) (x : List ℕ) (s : Entity) → MeansInFile tasks x s → IsGlobal s
global tasks x (entity.Constant k n) m = m
global tasks x (entity.Variable free k n) m = m
global tasks x (entity.Array free k n) m = m
global tasks x (entity.Memory free k n) m = m
global tasks x (entity.Stream writes k n) m = m
global tasks x (entity.Channel k n) m = m
global tasks x (entity.Task task_number) m = tt

-- a file that has declared a block, and then a task
pub file_global : (tasks : List Task) (b : Block) (x : List ℕ) (n : ℕ) → Declares (MeansInFile tasks) b → AreGlobal (b ++ (x, entity.Task n) ∷ [])
file_global tasks [] x n a = (tt, tt)
file_global tasks (d ∷ rest) x n (m, a) = (global tasks d.0 d.1 m, file_global tasks rest x n a)

-- ---- parameters keep what names mean

-- more ports and streams
pub means_more : (tasks : List Task) (self : List ℕ) (q r : Ports) (c d : List Channel) → ((n : ℕ) (e : End) → slice_get q.streams n ≡ Some e → slice_get r.streams n ≡ Some e) → ((n : ℕ) (k : Kind) → slice_get q.memories n ≡ Some k → slice_get r.memories n ≡ Some k) → ((n : ℕ) (k : Kind) → slice_get q.scalars n ≡ Some k → slice_get r.scalars n ≡ Some k) → ((n : ℕ) (x : Channel) → slice_get c n ≡ Some x → slice_get d n ≡ Some x) → (x : List ℕ) (s : Entity) → Means tasks self q c x s → Means tasks self r d x s
means_more tasks self q r c d f g h i x (entity.Constant k n) m = m
means_more tasks self q r c d f g h i x (entity.Variable free k n) m = h n k m
means_more tasks self q r c d f g h i x (entity.Array free k n) m = tt
means_more tasks self q r c d f g h i x (entity.Memory free k n) m = g n k m
means_more tasks self q r c d f g h i x (entity.Stream writes k n) m = f n (end_of writes k) m
means_more tasks self q r c d f g h i x (entity.Channel k n) m = (m.0, i n m.0 m.1, m.2)
means_more tasks self q r c d f g h i x (entity.Task task_number) m = m
