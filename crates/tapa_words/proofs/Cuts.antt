-- Words cut at their first `=`.
use Rattle.std.proofs.Common.{◌≡◌, ◌≢◌, ℕ, ◌+◌, ◌<◌, false, ◌==◌, List, [], ◌∷◌, ◌++◌, length, get_or, Some, None, refl, arith}
use Rattle.std.proofs.lemmas.Bool.Decides.{nat_tests}
use Rattle.std.proofs.lemmas.Grind.{common_steps}
use Rattle.tapa_words.specs.Reading.{name_in, value_in}

-- no byte is `=`
abbrev pub LacksEquals : List ℕ → Type 0
LacksEquals word = (i : ℕ) → i < length word → get_or word i 0 ≢ 61

first_differs : (b : ℕ) (word : List ℕ) → LacksEquals (b ∷ word) → (b == 61) ≡ false
first_differs b word h = let ne : b ≢ 61 = h 0 (grind (arith, common_steps)) in grind (arith, nat_tests)

rest_lacks : (b : ℕ) (word : List ℕ) → LacksEquals (b ∷ word) → LacksEquals word
rest_lacks b word h i lt = let k = h (i + 1) (grind (arith, common_steps)) in grind (arith, common_steps)

pub name_at : (name value : List ℕ) → LacksEquals name → name_in (name ++ 61 ∷ value) ≡ name
name_at [] value h = refl
name_at (b ∷ name) value h = rw (first_differs b name h, name_at name value (rest_lacks b name h))

pub value_at : (name value : List ℕ) → LacksEquals name → value_in (name ++ 61 ∷ value) ≡ Some value
value_at [] value h = refl
value_at (b ∷ name) value h = rw (first_differs b name h) (value_at name value (rest_lacks b name h))

pub name_whole : (word : List ℕ) → LacksEquals word → name_in word ≡ word
name_whole [] h = refl
name_whole (b ∷ word) h = rw (first_differs b word h, name_whole word (rest_lacks b word h))

pub value_none : (word : List ℕ) → LacksEquals word → value_in word ≡ None
value_none [] h = refl
value_none (b ∷ word) h = rw (first_differs b word h) (value_none word (rest_lacks b word h))
