-- What a part of a task leaves: its frame grows, and its code is that of a leaf that has what the frame has.
use Rattle.std.proofs.Common.{◌≡◌, inr, ◌≤◌, ℕ, zero, suc, List, [], ◌∷◌, ◌++◌, length, Bool, false, Some, refl, sym, subst}
use Rattle.std.specs.Prelude.{slice_get}
use Rattle.std.proofs.lemmas.Option.{none-some, same_Some}
use Rattle.tapa_syntax.specs.declared.program.Array.{Array}
use Rattle.tapa_syntax.specs.ArrayUse.{In}
use Rattle.tapa_syntax.specs.Flat.{FlatStatement, set, set_cell, set_cell_by, store, store_by, read_variable, read_cell, read_store, write, take_end, put_end, discard, clear, branch, loop, break, continue, in_row, FlatLeaf}
use Rattle.check_scope.specs.declared.entity.Entity.{Entity}
use Rattle.check_scope.specs.declared.entity.Entity.TheVariants as entity
use Rattle.check_scope.specs.Scopes.{Block, Scope, declaring}
use Rattle.check_leaf.specs.Statements.{Frame, opened, closed}
use Rattle.check_leaf.proofs.Flats.{IsStep, AreSteps, IsCode, IsStraight, AreStraight, clears}
use Rattle.check_leaf.proofs.Meanings.{IsKnown, KnownBlock, KnownScope}

-- ---- lists that grow at their ends

-- each element stands in the second list where it stands in the first
abbrev pub Within : {A : Type 0} → List A → List A → Type 0
Within {A} xs ys = (n : ℕ) (x : A) → slice_get xs n ≡ Some x → slice_get ys n ≡ Some x

pub within_more : {A : Type 0} (xs ys : List A) → Within xs (xs ++ ys)
within_more [] ys n x h = absurd (none-some x h)
within_more (y ∷ xs) ys zero x h = h
within_more (y ∷ xs) ys (suc n) x h = within_more xs ys n x h

abbrev pub Each : {A : Type 0} → (A → Type 0) → List A → Type 0
Each P [] = Unit {0}
Each P (x ∷ xs) = P x × Each P xs

pub each_more : {A : Type 0} (P : A → Type 0) (xs : List A) (y : A) → Each P xs → P y → Each P (xs ++ y ∷ [])
each_more P [] y h k = (k, tt)
each_more P (x ∷ xs) y (p, h) k = (p, each_more P xs y h k)

pub each_at : {A : Type 0} (P : A → Type 0) (xs : List A) (n : ℕ) (x : A) → Each P xs → slice_get xs n ≡ Some x → P x
each_at P [] n x h e = absurd (none-some x e)
each_at P (y ∷ xs) zero x (p, h) e = subst P (same_Some y x e) p
each_at P (y ∷ xs) (suc n) x (p, h) e = each_at P xs n x h e

-- ---- frames

pub record Grows (f g : Frame) : Type 0 where
  pub vars : Within f.vars g.vars
  pub arrays : Within f.arrays g.arrays

-- a leaf has what a frame has
pub record Reaches (g : Frame) (W : FlatLeaf) : Type 0 where
  pub vars : Within g.vars W.vars
  pub arrays : Within g.arrays W.arrays

abbrev pub HasFewCells : Array → Type 0
HasFewCells r = (1 ≤ r.cells) × (r.cells ≤ 4096)

pub record Few (f : Frame) : Type 0 where
  pub vars : length f.vars ≤ 1024
  pub cells : Each HasFewCells f.arrays

pub stays : (f : Frame) → Grows f f
stays f = record { vars = λ n x h. h; arrays = λ n x h. h }

pub grows_on : (f g h : Frame) → Grows f g → Grows g h → Grows f h
grows_on f g h a b = record { vars = λ n x e. b.vars n x (a.vars n x e); arrays = λ n x e. b.arrays n x (a.arrays n x e) }

pub reaches_on : (f g : Frame) (W : FlatLeaf) → Grows f g → Reaches g W → Reaches f W
reaches_on f g W a b = record { vars = λ n x e. b.vars n x (a.vars n x e); arrays = λ n x e. b.arrays n x (a.arrays n x e) }

-- ---- names in scope

-- more arrays are cleared
abbrev pub Covers : List ℕ → List ℕ → Type 0
Covers T S = (a : ℕ) → In a S → In a T

known_more : (W : FlatLeaf) (S T : List ℕ) → Covers T S → (s : Entity) → IsKnown W S s → IsKnown W T s
known_more W S T c (entity.Array free k n) (h, e) = (c n h, e)
known_more W S T c (entity.Constant k n) h = h
known_more W S T c (entity.Variable free k n) h = h
known_more W S T c (entity.Memory free k n) h = h
known_more W S T c (entity.Stream b k n) h = h
known_more W S T c (entity.Channel k n) h = h
known_more W S T c (entity.Task task_number) h = h

block_more : (W : FlatLeaf) (S T : List ℕ) → Covers T S → (b : Block) → KnownBlock W S b → KnownBlock W T b
block_more W S T c [] h = tt
block_more W S T c (d ∷ rest) (p, h) = (known_more W S T c d.1 p, block_more W S T c rest h)

pub scope_more : (W : FlatLeaf) (S T : List ℕ) → Covers T S → (E : Scope) → KnownScope W S E → KnownScope W T E
scope_more W S T c [] h = tt
scope_more W S T c (b ∷ rest) (p, h) = (block_more W S T c b p, scope_more W S T c rest h)

block_declared : (W : FlatLeaf) (S : List ℕ) (x : List ℕ) (s : Entity) (b : Block) → KnownBlock W S b → IsKnown W S s → KnownBlock W S (b ++ (x, s) ∷ [])
block_declared W S x s [] h k = (k, tt)
block_declared W S x s (d ∷ rest) (p, h) k = (p, block_declared W S x s rest h k)

pub scope_declared : (W : FlatLeaf) (S : List ℕ) (x : List ℕ) (s : Entity) (E : Scope) → KnownScope W S E → IsKnown W S s → KnownScope W S (declaring x s E)
scope_declared W S x s [] h k = tt
scope_declared W S x s (b ∷ []) (p, h) k = (block_declared W S x s b p k, tt)
scope_declared W S x s (b ∷ c ∷ rest) (p, h) k = (p, scope_declared W S x s (c ∷ rest) h k)

pub scope_opened : (W : FlatLeaf) (S : List ℕ) (E : Scope) → KnownScope W S E → KnownScope W S (E ++ [] ∷ [])
scope_opened W S [] h = (tt, tt)
scope_opened W S (b ∷ rest) (p, h) = (p, scope_opened W S rest h)

-- ---- code

-- the arrays that are cleared behind code
abbrev pub clears_all : List FlatStatement → List ℕ → List ℕ
clears_all [] S = S
clears_all (s ∷ rest) S = clears_all rest (clears s S)

clears_more : (s : FlatStatement) (S : List ℕ) → Covers (clears s S) S
clears_more (clear a) S b h = inr h
clears_more (set x e) S b h = h
clears_more (set_cell a i e) S b h = h
clears_more (set_cell_by a i o k e) S b h = h
clears_more (store m i e) S b h = h
clears_more (store_by m i o k e) S b h = h
clears_more (read_variable s x) S b h = h
clears_more (read_cell s a i) S b h = h
clears_more (read_store s m i) S b h = h
clears_more (write s e) S b h = h
clears_more (take_end s) S b h = h
clears_more (put_end s) S b h = h
clears_more (discard e) S b h = h
clears_more (branch e l r) S b h = h
clears_more (loop e l r) S b h = h
clears_more break S b h = h
clears_more continue S b h = h

pub covers_all : (xs : List FlatStatement) (S : List ℕ) → Covers (clears_all xs S) S
covers_all [] S a h = h
covers_all (s ∷ xs) S a h = covers_all xs (clears s S) a (clears_more s S a h)

pub clears_append : (xs ys : List FlatStatement) (S : List ℕ) → clears_all (xs ++ ys) S ≡ clears_all ys (clears_all xs S)
clears_append [] ys S = refl
clears_append (s ∷ xs) ys S = clears_append xs ys (clears s S)

pub code_append : (W : FlatLeaf) (S : List ℕ) (xs ys : List FlatStatement) → IsCode W S xs → IsCode W (clears_all xs S) ys → IsCode W S (xs ++ ys)
code_append W S [] ys a b = b
code_append W S (s ∷ xs) ys (p, a) b = (p, code_append W (clears s S) xs ys a b)

pub straight_append : (xs ys : List FlatStatement) → AreStraight xs → AreStraight ys → AreStraight (xs ++ ys)
straight_append [] ys a b = b
straight_append (s ∷ xs) ys (p, a) b = (p, straight_append xs ys a b)

pub code_row : (W : FlatLeaf) (S : List ℕ) (xs : List FlatStatement) → IsCode W S xs → AreSteps W S (in_row xs)
code_row W S [] g = tt
code_row W S (s ∷ xs) (a, g) = (a, code_row W (clears s S) xs g)

-- ---- parts of a task

-- in a leaf, where these arrays are cleared: the code, and the names behind it; a jump stands in a loop
pub record Sound (W : FlatLeaf) (S : List ℕ) (l : Bool) (E : Scope) (xs : List FlatStatement) : Type 0 where
  pub code : IsCode W S xs
  pub straight : l ≡ false → AreStraight xs
  pub scope : KnownScope W (clears_all xs S) E

pub record Runs (l : Bool) (f g : Frame) (xs : List FlatStatement) : Type 0 where
  pub grows : Grows f g
  pub few : Few f → Few g
  pub sound : (W : FlatLeaf) (S : List ℕ) → Reaches g W → KnownScope W S f.scope → Sound W S l g.scope xs

pub runs_none : (l : Bool) (f : Frame) → Runs l f f []
runs_none l f = record { grows = stays f; few = λ h. h; sound = λ W S r k. record { code = tt; straight = λ e. tt; scope = k } }

pub runs_on : (l : Bool) (f g h : Frame) (xs ys : List FlatStatement) → Runs l f g xs → Runs l g h ys → Runs l f h (xs ++ ys)
runs_on l f g h xs ys a b = record {
  grows = grows_on f g h a.grows b.grows;
  few = λ p. b.few (a.few p);
  sound = λ W S r k.
      let x = a.sound W S (reaches_on g h W b.grows r) k in
      let y = b.sound W (clears_all xs S) r x.scope in
      record {
        code = code_append W S xs ys x.code y.code;
        straight = λ e. straight_append xs ys (x.straight e) (y.straight e);
        scope = subst (λ T. KnownScope W T h.scope) (sym (clears_append xs ys S)) y.scope;
      };
}

-- a block, behind which the names are those before it
pub leaves : (l : Bool) (f g : Frame) (xs : List FlatStatement) → Runs l (opened f) g xs → Runs l f (closed f g) xs
leaves l f g xs a = record {
  grows = record { vars = a.grows.vars; arrays = a.grows.arrays };
  few = λ p. let q = a.few (record { vars = p.vars; cells = p.cells }) in record { vars = q.vars; cells = q.cells };
  sound = λ W S r k.
      let x = a.sound W S (record { vars = r.vars; arrays = r.arrays }) (scope_opened W S f.scope k) in
      record { code = x.code; straight = x.straight; scope = scope_more W S (clears_all xs S) (covers_all xs S) f.scope k };
}

-- one statement
pub single : (l : Bool) (f g : Frame) (s : FlatStatement) → Grows f g → (Few f → Few g) → IsStraight s → ((W : FlatLeaf) (S : List ℕ) → Reaches g W → KnownScope W S f.scope → IsStep W S s) → Runs l f (closed f g) (s ∷ [])
single l f g s a b c d = record {
  grows = record { vars = a.vars; arrays = a.arrays };
  few = λ p. let q = b p in record { vars = q.vars; cells = q.cells };
  sound = λ W S r k. record {
    code = (d W S (record { vars = r.vars; arrays = r.arrays }) k, tt);
    straight = λ e. (c, tt);
    scope = scope_more W S (clears s S) (clears_more s S) f.scope k;
  };
}
