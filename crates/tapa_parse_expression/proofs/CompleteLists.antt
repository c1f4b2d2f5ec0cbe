-- Lists of parts: what is spelled so is read, or refused at the first lexeme that passes a limit.
use Rattle.std.proofs.Common.{◌≡◌, ℕ, zero, suc, ◌<◌, ◌≤◌, Bool, true, false, List, [], ◌∷◌, ◌++◌, length, None, Ok, refl, ap, ◌∙◌, arith, append_assoc}
use Rattle.tapa_syntax.specs.declared.terminal.Terminal.{Terminal}
use Rattle.tapa_base.specs.Spans.{◌⨾◌, Each, EachOfSome, Separated, SeparatedOrNone}
use Rattle.tapa_syntax.specs.Grammar.{Part, Takes}
use Rattle.tapa_parse_expression.specs.Readers.{Reader, skip, sees, repeat_from, repeat_behind, repeat, separated, separated_until, ◌>>◌}
use Rattle.tapa_parse_expression.specs.Passing.{Over, over_each, over_some, over_behind, over_separated, over_listed}
use Rattle.tapa_parse_expression.proofs.Parts.{Symbols, done, if_true, if_false, seen_is, dropped, Told, told_ok, told_by, told_as, told_true, told_false, told_then, told_given}
use Rattle.tapa_parse_expression.proofs.Lists.{nothing_behind}
use Rattle.tapa_parse_expression.proofs.CompleteTypes.{takes_longer}

module _ {A : Type 0} (P : A → Part) (over : Over P) (goes : Symbols → Bool) (item : Reader A) where
  -- what is to be known of a reader of one part; follows says what may stand behind it
  pub record TellsAll (follows : Symbols → Type 0) : Type 0 where
    pub reads : (x : A) (i r : Symbols) (h : P x i r) → follows r → Told (over x i r h) (x, r) (item i)
    pub begins : (x : A) (i r : Symbols) → P x i r → (goes i ≡ true) × follows i
    pub longer : (x : A) (i r : Symbols) → P x i r → length r < length i

  -- something that may stand behind a part stands before the next, or before the end
  pub behind_next : (follows : Symbols → Type 0) → TellsAll follows → (xs : List A) (i r : Symbols) → Each P xs i r → follows r → follows i
  behind_next follows h [] i r is behind = rw is behind
  behind_next follows h (x ∷ xs) i r (j, first, rest) behind = (h.begins x i j first).1

  all_found : (found : List A) (i r : Symbols) → i ≡ r → done (found, i) ≡ done (found ++ [], r)
  all_found found i r is = let same = nothing_behind found in cc

  repeat_from_told : (follows : Symbols → Type 0) → TellsAll follows → (xs : List A) (turns : ℕ) (found : List A) (i r : Symbols) (k : Each P xs i r) → length i ≤ turns → goes r ≡ false → follows r
      → Told (over_each P over xs i r k) (found ++ xs, r) (repeat_from goes item turns found i)
  unfolding repeat_from over_each
  repeat_from_told follows h [] zero found i r k le stop behind = told_ok (all_found found i r k)
  repeat_from_told follows h [] (suc turns) found i r k le stop behind = told_ok (if_false _ (ap goes k ∙ stop) (all_found found i r k))
  repeat_from_told follows h (x ∷ xs) zero found i r k le stop behind = absurd (omega (arith, h.longer x i k.0 k.1))
  repeat_from_told follows h (x ∷ xs) (suc turns) found i r k le stop behind =
      let j = k.0 in
      told_true _ (h.begins x i j k.1).0
      (told_then _ x j (h.reads x i j k.1 (behind_next follows h xs j r k.2 behind))
      (told_as (ap (λ (ys : List A). (ys, r)) (append_assoc found (x ∷ []) xs)) (repeat_from_told follows h xs turns (found ++ x ∷ []) j r k.2 (omega (arith, h.longer x i j k.1)) stop behind)))

  pub repeat_behind_told : (follows : Symbols → Type 0) → TellsAll follows → (xs found : List A) (i r : Symbols) (k : Each P xs i r) → goes r ≡ false → follows r
      → Told (over_each P over xs i r k) (found ++ xs, r) (repeat_behind goes item found i)
  unfolding repeat_behind
  repeat_behind_told follows h xs found i r k stop behind = repeat_from_told follows h xs (length i) found i r k (omega arith) stop behind

  pub repeat_told : (follows : Symbols → Type 0) → TellsAll follows → (xs : List A) (i r : Symbols) (k : Each P xs i r) → goes r ≡ false → follows r
      → Told (over_each P over xs i r k) (xs, r) (repeat goes item i)
  repeat_told follows h xs i r k stop behind = repeat_behind_told follows h xs [] i r k stop behind

  -- at least one
  pub repeat_some_told : (follows : Symbols → Type 0) → TellsAll follows → (xs : List A) (i r : Symbols) (k : EachOfSome P xs i r) → goes r ≡ false → follows r
      → Told (over_some P over xs i r k) (xs, r) (repeat goes item i)
  unfolding over_some over_each
  repeat_some_told follows h [] i r k stop behind = absurd k
  repeat_some_told follows h (x ∷ xs) i r k stop behind = repeat_told follows h (x ∷ xs) i r k stop behind

-- one more behind those that are found, where the first is found already
pub repeat_one_told : {A : Type 0} (P : A → Part) (over : Over P) (goes : Symbols → Bool) (item : Reader A) (follows : Symbols → Type 0) → TellsAll P over goes item follows
    → (x : A) (xs : List A) (i r : Symbols) (k : Each P xs i r) → goes r ≡ false → follows r
    → Told (over_each P over xs i r k) (x ∷ xs, r) (repeat_behind goes item (x ∷ []) i)
repeat_one_told P over goes item follows h x xs i r k stop behind = repeat_behind_told P over goes item follows h xs (x ∷ []) i r k stop behind

-- ---- with a terminal between each two

-- what is to be known of a reader of one part; follows says what may stand behind it
pub record TellsEach {A : Type 0} (P : A → Part) (over : Over P) (item : Reader A) (follows : Symbols → Type 0) : Type 0 where
  pub reads : (x : A) (i r : Symbols) (h : P x i r) → follows r → Told (over x i r h) (x, r) (item i)
  pub longer : (x : A) (i r : Symbols) → P x i r → length r < length i

module _ {A : Type 0} (between : Terminal) (P : A → Part) (over : Over P) (item : Reader A) (follows : Symbols → Type 0)
    (h : TellsEach P over item follows) (go : (i j : Symbols) → Takes between i j → follows i) where
  abbrev Behind : A → Part
  Behind x = Takes between ⨾ P x

  all : TellsAll Behind (over_behind (Takes between) P over) (sees between) (skip >> item) follows
  all = record {
    reads = λ x i r k behind. told_by (ap item (dropped between i k.0 k.1)) (h.reads x k.0 r k.2 behind);
    begins = λ x i r k. (seen_is between i k.0 k.1, go i k.0 k.1);
    longer = λ x i r k. omega (arith, h.longer x k.0 r k.2, takes_longer between i k.0 k.1);
  }

  pub separated_told : (xs : List A) (i r : Symbols) (k : Separated (Takes between) P xs i r) → sees between r ≡ false → follows r
      → Told (over_separated (Takes between) P over xs i r k) (xs, r) (separated between item i)
  unfolding separated over_separated
  separated_told [] i r k stop behind = absurd k
  separated_told (x ∷ xs) i r k stop behind =
      let j = k.0 in
      told_then _ x j (h.reads x i j k.1 (behind_next Behind (over_behind (Takes between) P over) (sees between) (skip >> item) follows all xs j r k.2 behind))
      (repeat_one_told Behind (over_behind (Takes between) P over) (sees between) (skip >> item) follows all x xs j r k.2 stop behind)

  -- where the terminal that ends the list comes, and no part begins with it
  pub separated_until_told : (end : Terminal) → ((x : A) (i r : Symbols) → P x i r → sees end i ≡ false) → (xs : List A) (i r : Symbols) (k : SeparatedOrNone (Takes between) P xs i r)
      → sees end r ≡ true → sees between r ≡ false → follows r
      → Told (over_listed (Takes between) P over xs i r k) (xs, r) (separated_until end between item i)
  unfolding separated_until over_listed
  separated_until_told end other [] i r k ended stop behind = told_ok (if_true _ (ap (sees end) k ∙ ended) (ap (λ (j : Symbols). done ([], j)) k))
  separated_until_told end other (x ∷ xs) i r k ended stop behind = told_false _ (other x i k.0 k.1) (separated_told (x ∷ xs) i r k stop behind)

-- ---- parts without limits

-- where no part passes a limit, the list passes none
each_none : {A : Type 0} (P : A → Part) (over : Over P) → ((x : A) (i j : Symbols) (h : P x i j) → over x i j h ≡ None) → (xs : List A) (i r : Symbols) (k : Each P xs i r)
    → over_each P over xs i r k ≡ None
unfolding over_each
each_none P over none [] i r k = refl
each_none P over none (x ∷ xs) i r (j, first, rest) = let here = none x i j first in let more = each_none P over none xs j r rest in rw (here, more) refl

module _ {A : Type 0} (between : Terminal) (P : A → Part) (item : Reader A) (follows : Symbols → Type 0)
    (reads : (x : A) (i r : Symbols) → P x i r → follows r → item i ≡ Ok (x, r))
    (longer : (x : A) (i r : Symbols) → P x i r → length r < length i) (go : (i j : Symbols) → Takes between i j → follows i) where
  -- no part passes a limit
  abbrev over_none : Over P
  over_none x i j h = None

  no_limits : TellsEach P over_none item follows
  no_limits = record { reads = λ x i r h behind. told_ok (reads x i r h behind); longer = longer }

  separated_none : (xs : List A) (i r : Symbols) (k : Separated (Takes between) P xs i r) → over_separated (Takes between) P over_none xs i r k ≡ None
  unfolding over_separated
  separated_none [] i r k = absurd k
  separated_none (x ∷ xs) i r (j, first, rest) = each_none (λ y. Takes between ⨾ P y) (over_behind (Takes between) P over_none) (λ y i j h. refl) xs j r rest

  listed_none : (xs : List A) (i r : Symbols) (k : SeparatedOrNone (Takes between) P xs i r) → over_listed (Takes between) P over_none xs i r k ≡ None
  unfolding over_listed
  listed_none [] i r k = refl
  listed_none (x ∷ xs) i r k = separated_none (x ∷ xs) i r k

  pub separated_is : (xs : List A) (i r : Symbols) → Separated (Takes between) P xs i r → sees between r ≡ false → follows r → separated between item i ≡ Ok (xs, r)
  separated_is xs i r k stop behind = told_given (separated_none xs i r k) (separated_told between P over_none item follows no_limits go xs i r k stop behind)

  pub separated_until_is : (end : Terminal) → ((x : A) (i r : Symbols) → P x i r → sees end i ≡ false) → (xs : List A) (i r : Symbols) → SeparatedOrNone (Takes between) P xs i r → sees end r ≡ true
      → sees between r ≡ false → follows r → separated_until end between item i ≡ Ok (xs, r)
  separated_until_is end other xs i r k ended stop behind = told_given (listed_none xs i r k) (separated_until_told between P over_none item follows no_limits go end other xs i r k ended stop behind)
