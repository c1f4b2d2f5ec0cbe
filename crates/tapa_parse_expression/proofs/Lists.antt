-- Lists of parts: what is read is spelled so, and within its limits.
use Rattle.std.proofs.Common.{◌≡◌, ℕ, zero, suc, ◌<◌, ◌≤◌, Bool, true, false, List, [], ◌∷◌, ◌++◌, length, drop, refl, sym, ap, subst, ◌∙◌, arith, append_assoc}
use Rattle.tapa_syntax.specs.declared.terminal.Terminal.{Terminal}
use Rattle.tapa_base.specs.Spans.{◌⨾◌, Each, EachOfSome, Separated, SeparatedOrNone}
use Rattle.tapa_syntax.specs.Grammar.{Part, Takes}
use Rattle.tapa_syntax.specs.Limits.{most}
use Rattle.tapa_parse_expression.specs.Readers.{Reader, skip, sees, repeat_from, repeat_behind, repeat, separated, separated_until, ◌>>◌}
use Rattle.tapa_parse_expression.proofs.Parts.{Symbols, Yields, yields_pure, yields_then, yields_if, weaker, takes, is_end}

-- ---- parts within limits

-- a part with a tree, of which two numbers are limited: how deep it nests, and how many operators an expression in it has
pub record IsPart {A : Type 0} (P : A → Part) (f g : A → ℕ) (levels limit : ℕ) (x : A) (i r : Symbols) : Type 0 where
  pub spelled : P x i r
  pub nests : f x ≤ levels
  pub within : g x ≤ limit

-- parts one after another
pub record AreParts {A : Type 0} (P : A → Part) (f g : A → ℕ) (levels limit : ℕ) (xs : List A) (i r : Symbols) : Type 0 where
  pub spelled : Each P xs i r
  pub nests : most f xs ≤ levels
  pub within : most g xs ≤ limit

pub nothing_behind : {A : Type 0} (xs : List A) → xs ≡ xs ++ []
nothing_behind [] = refl
nothing_behind (x ∷ xs) = ap (λ ys. x ∷ ys) (nothing_behind xs)

module _ {A : Type 0} (P : A → Part) (f g : A → ℕ) (levels limit : ℕ) (goes : Symbols → Bool) (item : Reader A) where
  -- the parts behind those that were found
  abbrev pub IsMore : List A → Symbols → List A → Symbols → Type 0
  IsMore found i xs r = (more : List A) × (xs ≡ found ++ more) × AreParts P f g levels limit more i r

  abbrev pub ReadsParts : Type 0
  ReadsParts = (i : Symbols) → goes i ≡ true → Yields (λ x r. IsPart P f g levels limit x i r) (item i)

  none_more : (found : List A) (i : Symbols) → IsMore found i found i
  none_more found i = ([], nothing_behind found, record { spelled = refl; nests = omega arith; within = omega arith })

  one_more : (found : List A) (x : A) (i j : Symbols) (xs : List A) (r : Symbols) → IsPart P f g levels limit x i j → IsMore (found ++ x ∷ []) j xs r → IsMore found i xs r
  one_more found x i j xs r h (more, is, k) =
      (x ∷ more, is ∙ append_assoc found (x ∷ []) more, record { spelled = (j, h.spelled, k.spelled); nests = omega (arith, h.nests, k.nests); within = omega (arith, h.within, k.within) })

  pub repeat_from_sound : ReadsParts → (turns : ℕ) (found : List A) (i : Symbols) → Yields (IsMore found i) (repeat_from goes item turns found i)
  unfolding repeat_from
  repeat_from_sound h zero found i = yields_pure (IsMore found i) found i (none_more found i)
  repeat_from_sound h (suc turns) found i =
      let again = repeat_from_sound h turns in
      yields_if (goes i) (λ e. yields_then (h i e) (λ x j k. weaker (again (found ++ x ∷ []) j) (λ xs r l. one_more found x i j xs r k l))) (λ e. yields_pure (IsMore found i) found i (none_more found i))

  pub repeat_behind_sound : ReadsParts → (found : List A) (i : Symbols) → Yields (IsMore found i) (repeat_behind goes item found i)
  unfolding repeat_behind
  repeat_behind_sound h found i = repeat_from_sound h (length i) found i

  pub repeat_sound : ReadsParts → (i : Symbols) → Yields (λ xs r. AreParts P f g levels limit xs i r) (repeat goes item i)
  repeat_sound h i = weaker (repeat_behind_sound h [] i) (λ xs r k. subst (λ (ys : List A). AreParts P f g levels limit ys i r) (sym k.1) k.2)

-- ---- at least one

pub record AreSome {A : Type 0} (P : A → Part) (f g : A → ℕ) (levels limit : ℕ) (xs : List A) (i r : Symbols) : Type 0 where
  pub spelled : EachOfSome P xs i r
  pub nests : most f xs ≤ levels
  pub within : most g xs ≤ limit

module _ {A : Type 0} (P : A → Part) (f g : A → ℕ) (levels limit : ℕ) where
  -- one, and those behind it
  pub some_of : (x : A) (i j : Symbols) (xs : List A) (r : Symbols) → IsPart P f g levels limit x i j → (more : List A) → xs ≡ x ∷ more → AreParts P f g levels limit more j r → AreSome P f g levels limit xs i r
  some_of x i j xs r h more is k =
      let all : AreSome P f g levels limit (x ∷ more) i r = record { spelled = (j, h.spelled, k.spelled); nests = omega (arith, h.nests, k.nests); within = omega (arith, h.within, k.within) } in
      subst (λ (ys : List A). AreSome P f g levels limit ys i r) (sym is) all

  pub repeat_some_sound : (goes : Symbols → Bool) (item : Reader A) → ReadsParts P f g levels limit goes item → (i : Symbols) → goes i ≡ true → 0 < length i → Yields (λ xs r. AreSome P f g levels limit xs i r) (repeat goes item i)
  unfolding repeat_behind repeat_from
  repeat_some_sound goes item h i begins some = pick (length i) some
    where
      pick : (turns : ℕ) → 0 < turns → Yields (λ xs r. AreSome P f g levels limit xs i r) (repeat_from goes item turns [] i)
      pick zero some = absurd (omega arith)
      pick (suc turns) some =
          yields_if (goes i) (λ e. yields_then (h i e) (λ x j k. weaker (repeat_from_sound P f g levels limit goes item h turns (x ∷ []) j) (λ xs r l. some_of x i j xs r k l.0 l.1 l.2))) (λ e. absurd (let both : true ≡ false = sym begins ∙ e in cc))

-- ---- with a terminal between each two

pub record AreSeparated {A : Type 0} (between : Terminal) (P : A → Part) (f g : A → ℕ) (levels limit : ℕ) (xs : List A) (i r : Symbols) : Type 0 where
  pub spelled : Separated (Takes between) P xs i r
  pub nests : most f xs ≤ levels
  pub within : most g xs ≤ limit

-- the same, or none
pub record AreListed {A : Type 0} (between : Terminal) (P : A → Part) (f g : A → ℕ) (levels limit : ℕ) (xs : List A) (i r : Symbols) : Type 0 where
  pub spelled : SeparatedOrNone (Takes between) P xs i r
  pub nests : most f xs ≤ levels
  pub within : most g xs ≤ limit

module _ {A : Type 0} (between : Terminal) (P : A → Part) (f g : A → ℕ) (levels limit : ℕ) (item : Reader A) where
  abbrev Behind : A → Part
  Behind x = Takes between ⨾ P x

  -- one more, behind the terminal
  pub behind_sound : is_end between ≡ false → ((i : Symbols) → Yields (λ x r. IsPart P f g levels limit x i r) (item i)) → ReadsParts Behind f g levels limit (sees between) (skip >> item)
  behind_sound real h i e = weaker (h (drop 1 i)) (λ x r k. record { spelled = (drop 1 i, takes between i real e, k.spelled); nests = k.nests; within = k.within })

  pub separated_sound : is_end between ≡ false → ((i : Symbols) → Yields (λ x r. IsPart P f g levels limit x i r) (item i)) → (i : Symbols) → Yields (λ xs r. AreSeparated between P f g levels limit xs i r) (separated between item i)
  unfolding separated
  separated_sound real h i = yields_then (h i) (λ x j k. weaker (repeat_behind_sound Behind f g levels limit (sees between) (skip >> item) (behind_sound real h) (x ∷ []) j) (λ xs r l. all x j xs r k l.0 l.1 l.2))
    where
      all : (x : A) (j : Symbols) (xs : List A) (r : Symbols) → IsPart P f g levels limit x i j → (more : List A) → xs ≡ x ∷ more → AreParts Behind f g levels limit more j r → AreSeparated between P f g levels limit xs i r
      all x j xs r k more is l =
          let found : AreSeparated between P f g levels limit (x ∷ more) i r = record { spelled = (j, k.spelled, l.spelled); nests = omega (arith, k.nests, l.nests); within = omega (arith, k.within, l.within) } in
          subst (λ (ys : List A). AreSeparated between P f g levels limit ys i r) (sym is) found

  listed : (xs : List A) (i r : Symbols) → Separated (Takes between) P xs i r → SeparatedOrNone (Takes between) P xs i r
  listed [] i r h = absurd h
  listed (x ∷ xs) i r h = h

  pub separated_until_sound : (end : Terminal) → is_end between ≡ false → ((i : Symbols) → Yields (λ x r. IsPart P f g levels limit x i r) (item i)) → (i : Symbols) → Yields (λ xs r. AreListed between P f g levels limit xs i r) (separated_until end between item i)
  unfolding separated_until
  separated_until_sound end real h i =
      yields_if (sees end i)
      (λ e. yields_pure (λ xs r. AreListed between P f g levels limit xs i r) [] i (record { spelled = refl; nests = omega arith; within = omega arith }))
      (λ e. weaker (separated_sound real h i) (λ xs r k. record { spelled = listed xs i r k.spelled; nests = k.nests; within = k.within }))
