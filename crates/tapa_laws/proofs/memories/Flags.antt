-- Which memory parameters of a task may be stored to, in order, and what names of memories say of it.
use Rattle.std.proofs.Common.{◌≡◌, ◌+◌, ℕ, List, [], ◌∷◌, ◌++◌, length, Bool, true, not, Some, arith, length-append}
use Rattle.std.specs.Prelude.{slice_get}
use Rattle.tapa_syntax.specs.declared.tree.Parameter.{Parameter}
use Rattle.tapa_syntax.specs.declared.tree.Parameter.TheVariants.{InputStream, OutputStream, Memory, Scalar}
use Rattle.check_scope.specs.declared.entity.Entity.{Entity}
use Rattle.check_scope.specs.declared.entity.Entity.TheVariants as entity
use Rattle.check_scope.specs.Scopes.{Scope}
use Rattle.stream_check.proofs.WellLists.{each_append}
use Rattle.stream_check.proofs.WellPorts.{Declares, DeclareAll, declare_all_more}
use Rattle.tapa_base.proofs.Got.{got_left as get_left}

-- one flag for each memory parameter
abbrev pub with_free : List Bool → Parameter → List Bool
with_free q (InputStream k x) = q
with_free q (OutputStream k x) = q
with_free q (Memory constant k x) = q ++ not constant ∷ []
with_free q (Scalar constant k x) = q

abbrev pub with_frees : List Bool → List Parameter → List Bool
with_frees q [] = q
with_frees q (p ∷ rest) = with_frees (with_free q p) rest

abbrev pub frees_of : List Parameter → List Bool
frees_of parameters = with_frees [] parameters

-- a position of a memory that may be stored to
abbrev pub IsFree : List Bool → ℕ → Type 0
IsFree q p = slice_get q p ≡ Some true

-- a name of a memory says of it what its flag says
abbrev pub IsFlagged : List Bool → List ℕ → Entity → Type 0
IsFlagged q x (entity.Memory free k n) = slice_get q n ≡ Some free
IsFlagged q x (entity.Constant k n) = Unit {0}
IsFlagged q x (entity.Variable free k n) = Unit {0}
IsFlagged q x (entity.Array free k n) = Unit {0}
IsFlagged q x (entity.Stream writes k n) = Unit {0}
IsFlagged q x (entity.Channel k n) = Unit {0}
IsFlagged q x (entity.Task n) = Unit {0}

abbrev pub AreFlagged : List Bool → Scope → Type 0
AreFlagged q E = DeclareAll (IsFlagged q) E

flagged_more : (q r : List Bool) → ((n : ℕ) (b : Bool) → slice_get q n ≡ Some b → slice_get r n ≡ Some b) → (x : List ℕ) (s : Entity) → IsFlagged q x s → IsFlagged r x s
flagged_more q r f x (entity.Memory free k n) h = f n free h
flagged_more q r f x (entity.Constant k n) h = tt
flagged_more q r f x (entity.Variable free k n) h = tt
flagged_more q r f x (entity.Array free k n) h = tt
flagged_more q r f x (entity.Stream writes k n) h = tt
flagged_more q r f x (entity.Channel k n) h = tt
flagged_more q r f x (entity.Task task_number) h = tt

-- one flag more
pub flags_pushed : (q : List Bool) (b : Bool) (E : Scope) → AreFlagged q E → AreFlagged (q ++ b ∷ []) E
flags_pushed q b E h = declare_all_more (IsFlagged q) (IsFlagged (q ++ b ∷ [])) (flagged_more q (q ++ b ∷ []) (λ n c e. get_left q (b ∷ []) n c e)) E h

-- a block more, without names
pub flags_opened : (q : List Bool) (E : Scope) → AreFlagged q E → AreFlagged q (E ++ [] ∷ [])
flags_opened q E h = each_append (Declares (IsFlagged q)) E ([] ∷ []) h (tt, tt)
