-- Parts of a grammar over a list of symbols: each relates the symbols from its start on to those after it.
use Rattle.std.specs.Prelude.{◌≡◌, ◌⊎◌, Bool, true, false, List, [], ◌∷◌, Option, Some, None}

abbrev pub Span : Type 0 → Type 1
Span S = List S → List S → Type 0

-- one part, and then another
infixr 9 ◌⨾◌
abbrev pub ◌⨾◌ : {S : Type 0} → Span S → Span S → Span S
(P ⨾ Q) i k = (j : List _) × P i j × Q j k

abbrev pub Nothing : {S : Type 0} → Span S
Nothing i j = i ≡ j

abbrev pub Never : {S : Type 0} → Span S
Never i j = ⊥

-- one part or another
infixr 8 ◌∣◌
abbrev pub ◌∣◌ : {S : Type 0} → Span S → Span S → Span S
(P ∣ Q) i j = P i j ⊎ Q i j

-- one symbol with a property
abbrev pub Is : {S : Type 0} → (S → Type 0) → Span S
Is {S} P i j = (x : S) × P x × (i ≡ x ∷ j)

-- a part, under a condition
abbrev pub Given : {S : Type 0} → Type 0 → Span S → Span S
Given C P i j = C × P i j

-- an optional part: the span of the tree if there is one, and no symbols if there is none
abbrev pub Maybe : {S A : Type 0} → (A → Span S) → Option A → Span S
Maybe P None = Nothing
Maybe P (Some x) = P x

abbrev pub When : {S : Type 0} → Bool → Span S → Span S
When true P = P
When false P = Nothing

-- the parts of a list, one after another
abbrev pub Each : {S A : Type 0} → (A → Span S) → List A → Span S
Each P [] = Nothing
Each P (x ∷ xs) = P x ⨾ Each P xs

-- the parts of a list of at least one, one after another
abbrev pub EachOfSome : {S A : Type 0} → (A → Span S) → List A → Span S
EachOfSome P [] = Never
EachOfSome P (x ∷ xs) = P x ⨾ Each P xs

-- the parts of a list of at least one, with this part between each two
abbrev pub Separated : {S A : Type 0} → Span S → (A → Span S) → List A → Span S
Separated between P [] = Never
Separated between P (x ∷ xs) = P x ⨾ Each (λ y. between ⨾ P y) xs

-- the parts of a list, which may be empty, with this part between each two
abbrev pub SeparatedOrNone : {S A : Type 0} → Span S → (A → Span S) → List A → Span S
SeparatedOrNone between P [] = Nothing
SeparatedOrNone between P (x ∷ xs) = Separated between P (x ∷ xs)
