-- Blocks and the names in them.
use Rattle.std.proofs.Common.{◌≡◌, ℕ, zero, suc, ◌-◌, ◌+◌, ◌<◌, List, [], ◌∷◌, ◌++◌, length, get_or, slice_set, Bool, true, false, Some, None, refl, sym, ap, ◌∙◌, arith}
use Rattle.std.specs.Prelude.{Option, IfSome, bytes_eq, if◌then◌else◌}
use Rattle.check_scope.specs.declared.entity.Entity.{Entity}
use Rattle.check_scope.specs.Scopes.{Block, Scope, in_block, first_of, entity_here, declaring, IsSound, AreSound}

choice_sound : (b : Bool) (s : Entity) (o : Option Entity) → IsSound s → IfSome o IsSound → IfSome (if b then Some s else o) IsSound
choice_sound true s o h k = h
choice_sound false s o h k = k

-- what is found in a sound block is sound
pub sound_in : (x : List ℕ) (b : Block) → AreSound b → IfSome (in_block x b) IsSound
sound_in x [] h = tt
sound_in x (d ∷ rest) h = choice_sound (bytes_eq d.0 x) d.1 (in_block x rest) h.0 (sound_in x rest h.1)

pub sound_more : (b : Block) (x : List ℕ) (s : Entity) → AreSound b → IsSound s → AreSound (b ++ (x, s) ∷ [])
sound_more [] x s h k = (k, tt)
sound_more (d ∷ rest) x s h k = (h.0, sound_more rest x s h.1 k)

pub first_first : (a b c : Option Entity) → first_of (first_of a b) c ≡ first_of a (first_of b c)
first_first None b c = refl
first_first (Some s) b c = refl

pub first_none : (o : Option Entity) → first_of o None ≡ o
first_none None = refl
first_none (Some s) = refl

pub declaring-last : (x : List ℕ) (s : Entity) (E : Scope) (b : Block) → declaring x s (E ++ b ∷ []) ≡ E ++ (b ++ (x, s) ∷ []) ∷ []
declaring-last x s [] b = refl
declaring-last x s (a ∷ []) b = refl
declaring-last x s (a ∷ c ∷ rest) b = ap (λ E. a ∷ E) (declaring-last x s (c ∷ rest) b)

pub declaring-set : (x : List ℕ) (s : Entity) (E : Scope) (n : ℕ) (b : Block) → n + 1 ≡ length E → b ≡ get_or E n b → declaring x s E ≡ slice_set E n (b ++ (x, s) ∷ [])
declaring-set x s [] n b h k = absurd (omega arith)
declaring-set x s (c ∷ []) zero b h k = ap (λ e. (e ++ (x, s) ∷ []) ∷ []) (sym k)
declaring-set x s (c ∷ []) (suc n) b h k = absurd (omega arith)
declaring-set x s (c ∷ d ∷ rest) zero b h k = absurd (omega arith)
declaring-set x s (c ∷ d ∷ rest) (suc n) b h k = ap (λ E. c ∷ E) (declaring-set x s (d ∷ rest) n b (omega arith) k)

pub declaring-below : (x : List ℕ) (s : Entity) (a : Block) (E : Scope) → 0 < length E → declaring x s (a ∷ E) ≡ a ∷ declaring x s E
declaring-below x s a [] h = absurd (omega arith)
declaring-below x s a (c ∷ rest) h = refl

-- what the last block declares, where it is the one at n
pub here_in_last : (x : List ℕ) (E : Scope) (b : Block) (n : ℕ) → n + 1 ≡ length E → b ≡ get_or E n b → entity_here x E ≡ in_block x b
here_in_last x [] b n h k = absurd (omega arith)
here_in_last x (c ∷ []) b n h k =
    let z : n ≡ 0 = omega arith in
    ap (in_block x) (sym (k ∙ ap (λ m. get_or (c ∷ []) m b) z))
here_in_last x (c ∷ d ∷ rest) b n h k =
    let z : n ≡ suc (n - 1) = omega arith in
    here_in_last x (d ∷ rest) b (n - 1) (omega arith) (k ∙ ap (λ m. get_or (c ∷ d ∷ rest) m b) z)

pub here_below : (x : List ℕ) (a : Block) (E : Scope) → 0 < length E → entity_here x (a ∷ E) ≡ entity_here x E
here_below x a [] h = absurd (omega arith)
here_below x a (c ∷ rest) h = refl

pub same-front : (xs E : Scope) (x b : Block) → xs ++ x ∷ [] ≡ E ++ b ∷ [] → xs ≡ E
same-front [] [] x b h = refl
same-front [] (e ∷ []) x b h = absurd (cc)
same-front [] (e ∷ f ∷ rest) x b h = absurd (cc)
same-front (a ∷ []) [] x b h = absurd (cc)
same-front (a ∷ c ∷ xs) [] x b h = absurd (cc)
same-front (a ∷ xs) (e ∷ E) x b h =
    let p : a ≡ e = cc in
    let q : xs ++ x ∷ [] ≡ E ++ b ∷ [] = cc in
    let r = same-front xs E x b q in
    cc

pub no_front : (a : Block) (xs E : Scope) (b : Block) → length xs ≡ 0 → 0 < length E → a ∷ xs ≡ E ++ b ∷ [] → ⊥
no_front a [] [] b n l h = omega arith
no_front a [] (e ∷ []) b n l h = cc
no_front a [] (e ∷ f ∷ rest) b n l h = cc
no_front a (x ∷ xs) E b n l h = omega arith
