-- Readers that take turns are steady, though the turns are counted by all that is left.
use Rattle.std.proofs.Common.{◌≡◌, inl, inr, ℕ, zero, suc, ◌<◌, ◌≤◌, Bool, true, false, cond, List, [], ◌∷◌, ◌++◌, length, drop, Ok, Err, refl, sym, ap, subst, ◌∙◌, arith}
use Rattle.tapa_base.specs.Spans.{◌⨾◌, ◌∣◌, Nothing, Each, EachOfSome, Separated, SeparatedOrNone}
use Rattle.tapa_syntax.specs.declared.terminal.Terminal.{Terminal}
use Rattle.tapa_syntax.specs.Symbols.{Symbol}
use Rattle.tapa_syntax.specs.Grammar.{Part, Takes}
use Rattle.tapa_parse_expression.specs.declared.fault.ParseCode.{ParseCode}
use Rattle.tapa_parse_expression.specs.Readers.{Outcome, Reader, and_then, ◌>>=◌, ◌>>◌, pure, next, sees, skip, repeat_from, repeat_behind, separated, separated_until}
use Rattle.tapa_parse_expression.proofs.Parts.{Symbols, then_is, is_end, sees_is, is_seen, takes}
use Rattle.tapa_parse_expression.proofs.CompleteTypes.{takes_longer}
use Rattle.tapa_parse_expression.proofs.Fronts.{Front, spelled_of, front_then, Full, Goes, Steady, gives, refuses, Any, carry, same_first, none_left, put_some, full_then, then_steady, steady_then, goes_put, goes_then, steady_map, steady_value, steady_pure, steady_sees, steady_skips}

-- parts of this kind, one after another
abbrev pub Many : Part → Part
Many P = Any (Each (λ (u : Unit {0}). P))

pub full_many : (P : Part) → Full (Many P)
full_many P = record { before = λ j. j; spelled = λ j. ([], refl) }

-- ---- a reader that takes turns while symbols go on, and then reads what comes last

pub record IsLoop {S B : Type 0} (goes : Symbols → Bool) (turn : S → Reader S) (last : S → Reader B) (loop : ℕ → S → Reader B) : Type 0 where
  pub looks : (x : Symbol) (z other : Symbols) → goes (x ∷ other) ≡ goes (x ∷ z)
  pub none : (s : S) → loop zero s [] ≡ last s []
  pub again : (n : ℕ) (s : S) (i : Symbols) → goes i ≡ true → loop (suc n) s i ≡ (turn s >>= loop n) i
  pub stop : (n : ℕ) (s : S) (i : Symbols) → goes i ≡ false → loop (suc n) s i ≡ last s i

-- each part of this kind has a symbol
abbrev pub Longer : Part → Type 0
Longer P = (i r : Symbols) → P i r → length r < length i

module _ {S B : Type 0} (goes : Symbols → Bool) (turn : S → Reader S) (last : S → Reader B) (loop : ℕ → S → Reader B) (is_loop : IsLoop goes turn last loop) (P Q : Part) (longer : Longer P) where
  -- with so many turns or more the answer is the same
  data Turns (M : Part) (n : ℕ) (s : S) (i : Symbols) : Type 0 where
    given : (b : B) (f : Front) (l : Symbols) → i ≡ f.put l → loop n s i ≡ Ok (b, l) → ((j : Symbols) → M (f.put j) j)
        → ((x : Symbol) (z other : Symbols) (m : ℕ) → l ≡ x ∷ z → length (f.put (x ∷ other)) ≤ m → loop m s (f.put (x ∷ other)) ≡ Ok (b, x ∷ other)) → Turns M n s i
    refused : (c : ParseCode) (f : Front) (l : Symbols) → i ≡ f.put l → loop n s i ≡ Err (c, l) → Goes M c f l
        → ((x : Symbol) (z other : Symbols) (m : ℕ) → l ≡ x ∷ z → length (f.put (x ∷ other)) ≤ m → loop m s (f.put (x ∷ other)) ≡ Err (c, x ∷ other)) → Turns M n s i

  -- at least one
  abbrev AtLeastOne : Part
  AtLeastOne = P ⨾ (Many P ⨾ Q)

  abbrev AnyNumber : Part
  AnyNumber = Many P ⨾ Q

  one_more : (i j : Symbols) → AtLeastOne i j → AnyNumber i j
  one_more i j h = (h.2.0, (tt ∷ h.2.1.0, (h.0, h.1, h.2.1.1)), h.2.2)

  -- one is some of any number
  some_is_any : (n : ℕ) (s : S) (i : Symbols) → Turns AtLeastOne n s i → Turns AnyNumber n s i
  some_is_any n s i (given b f l is e part same) = given b f l is e (λ j. one_more (f.put j) j (part j)) same
  some_is_any n s i (refused c f l is e h same) = refused c f l is e (goes_put AtLeastOne AnyNumber f f (λ m j. one_more (f.put m) j) c l h) same

  -- one turn more
  again_is : (m : ℕ) (s : S) (k : Symbols) (o : Outcome B) → 0 < length k → length k ≤ m → goes k ≡ true → ((n : ℕ) → length k ≤ suc n → (turn s >>= loop n) k ≡ o) → loop m s k ≡ o
  again_is zero s k o some le g h = absurd (omega (arith, some, le))
  again_is (suc n) s k o some le g h = is_loop.again n s k g ∙ h n le

  turned : (n : ℕ) (s : S) (i : Symbols) → goes i ≡ true → Full Q → Steady P (turn s) i → ((t : S) (j : Symbols) → turn s i ≡ Ok (t, j) → Turns AnyNumber n t j) → Turns AtLeastOne (suc n) s i
  turned n s i g full (refuses c f l is e h same) k =
      refused c f l is (is_loop.again n s i g ∙ ap (λ o. and_then o (loop n)) e) (goes_then P AnyNumber (full_then (full_many P) full) f c l h)
      (λ x z other m ends le. again_is m s (f.put (x ∷ other)) _ (put_some f x other) le (same_first goes is_loop.looks f i l x z other is ends ∙ g) (λ n' le'. ap (λ o. and_then o (loop n')) (same x z other ends)))
  turned n s i g full (gives t f l is e part same) k = after (k t l e)
    where
      after : Turns AnyNumber n t l → Turns AtLeastOne (suc n) s i
      after (given b h m' behind e' part' same') =
          given b (front_then f h) m' (is ∙ ap f.put behind) (is_loop.again n s i g ∙ then_is (loop n) t l e e') (λ j. (h.put j, part (h.put j), part' j))
          (λ x z other m ends le. again_is m s (f.put (h.put (x ∷ other))) _ (put_some (front_then f h) x other) le (same_first goes is_loop.looks (front_then f h) i m' x z other (is ∙ ap f.put behind) ends ∙ g)
          (λ n' le'. then_is (loop n') t (h.put (x ∷ other)) (carry (turn s) t f h l m' x z other same behind ends) (same' x z other n' ends (omega (arith, le', longer (f.put (h.put (x ∷ other))) (h.put (x ∷ other)) (part (h.put (x ∷ other))))))))
      after (refused c h m' behind e' goes' same') =
          refused c (front_then f h) m' (is ∙ ap f.put behind) (is_loop.again n s i g ∙ then_is (loop n) t l e e') (goes_put AnyNumber AtLeastOne h (front_then f h) (λ m j p. (h.put m, part (h.put m), p)) c m' goes')
          (λ x z other m ends le. again_is m s (f.put (h.put (x ∷ other))) _ (put_some (front_then f h) x other) le (same_first goes is_loop.looks (front_then f h) i m' x z other (is ∙ ap f.put behind) ends ∙ g)
          (λ n' le'. then_is (loop n') t (h.put (x ∷ other)) (carry (turn s) t f h l m' x z other same behind ends) (same' x z other n' ends (omega (arith, le', longer (f.put (h.put (x ∷ other))) (h.put (x ∷ other)) (part (h.put (x ∷ other))))))))

  ended : (m : ℕ) (s : S) (k : Symbols) (o : Outcome B) → 0 < length k → length k ≤ m → goes k ≡ false → last s k ≡ o → loop m s k ≡ o
  ended zero s k o some le g h = absurd (omega (arith, some, le))
  ended (suc n) s k o some le g h = is_loop.stop n s k g ∙ h

  last_read : (i j : Symbols) → Q i j → (Many P ⨾ Q) i j
  last_read i j h = (i, ([], refl), h)

  no_more : (n : ℕ) (s : S) (i : Symbols) → loop n s i ≡ last s i → ((x : Symbol) (z : Symbols) → i ≡ x ∷ z → goes i ≡ false) → Steady Q (last s) i → Turns AnyNumber n s i
  no_more n s i at stops h = pick (steady_map Q (Many P ⨾ Q) last_read h)
    where
      stopped : (f : Front) (l : Symbols) → i ≡ f.put l → (x : Symbol) (z other : Symbols) → l ≡ x ∷ z → goes (f.put (x ∷ other)) ≡ false
      stopped f l is x z other ends = same_first goes is_loop.looks f i l x z other is ends ∙ some i (is ∙ ap f.put ends) stops
        where
          some : (i : Symbols) → i ≡ f.put (x ∷ z) → ((y : Symbol) (w : Symbols) → i ≡ y ∷ w → goes i ≡ false) → goes i ≡ false
          some [] e g = absurd (none_left f x z e)
          some (y ∷ w) e g = g y w refl

      pick : Steady AnyNumber (last s) i → Turns AnyNumber n s i
      pick (gives b f l is e part same) = given b f l is (at ∙ e) part (λ x z other m ends le. ended m s (f.put (x ∷ other)) _ (put_some f x other) le (stopped f l is x z other ends) (same x z other ends))
      pick (refuses c f l is e goes' same) = refused c f l is (at ∙ e) goes' (λ x z other m ends le. ended m s (f.put (x ∷ other)) _ (put_some f x other) le (stopped f l is x z other ends) (same x z other ends))

  module _ (full : Full Q) (steady_turn : (s : S) (i : Symbols) → goes i ≡ true → Steady P (turn s) i) (steady_last : (s : S) (i : Symbols) → Steady Q (last s) i) where
    turns : (n : ℕ) (s : S) (i : Symbols) → length i ≤ n → Turns AnyNumber n s i
    turns zero s [] le = no_more zero s [] (is_loop.none s) (λ x z e. absurd cc) (steady_last s [])
    turns zero s (x ∷ i) le = absurd (omega (arith, le))
    turns (suc n) s i le = pick (turns n) (goes i) refl
      where
        pick : ((t : S) (j : Symbols) → length j ≤ n → Turns AnyNumber n t j) → (b : Bool) → goes i ≡ b → Turns AnyNumber (suc n) s i
        pick behind true g = some_is_any (suc n) s i (turned n s i g full (steady_turn s i g) (λ t j e. behind t j (omega (arith, le, longer i j (spelled_of t j (steady_turn s i g) e)))))
        pick behind false g = no_more (suc n) s i (is_loop.stop n s i g) (λ x z e. g) (steady_last s i)

    steady_turns : (M : Part) (s : S) (i : Symbols) → Turns M (length i) s i → Steady M (λ k. loop (length k) s k) i
    steady_turns M s i (given b f l is e part same) = gives b f l is e part (λ x z other ends. same x z other (length (f.put (x ∷ other))) ends (omega arith))
    steady_turns M s i (refused c f l is e goes' same) = refuses c f l is e goes' (λ x z other ends. same x z other (length (f.put (x ∷ other))) ends (omega arith))

    pub loop_steady : (s : S) (i : Symbols) → Steady (Many P ⨾ Q) (λ k. loop (length k) s k) i
    loop_steady s i = steady_turns AnyNumber s i (turns (length i) s i (omega arith))

    -- where symbols go on at first
    pub some_steady : (s : S) (i : Symbols) → 0 < length i → goes i ≡ true → Steady (P ⨾ (Many P ⨾ Q)) (λ k. loop (length k) s k) i
    some_steady s [] some g = absurd (omega (arith, some))
    some_steady s (x ∷ i) some g =
        steady_turns AtLeastOne s (x ∷ i) (turned (length i) s (x ∷ i) g full (steady_turn s (x ∷ i) g) (λ t j e. turns (length i) t j (omega (arith, longer (x ∷ i) j (spelled_of t j (steady_turn s (x ∷ i) g) e)))))

-- ---- lists of parts

pub and_then_again : {A B C : Type 0} (o : Outcome A) (f : A → Reader B) (g : B → Reader C) → and_then (and_then o f) g ≡ and_then o (λ a. f a >>= g)
and_then_again (Ok x) f g = refl
and_then_again (Err e) f g = refl

pub all_read : (P : Part) (i j : Symbols) → (P ⨾ Nothing) i j → P i j
all_read P i j h = subst (λ k. P i k) h.2 h.1

module _ {A : Type 0} (goes : Symbols → Bool) (item : Reader A) (looks : (x : Symbol) (z other : Symbols) → goes (x ∷ other) ≡ goes (x ∷ z)) (P : Part) (longer : Longer P) (steady_item : (i : Symbols) → goes i ≡ true → Steady P item i) where
  abbrev found_with : List A → Reader (List A)
  found_with found = item >>= (λ x. pure (found ++ x ∷ []))

  repeat_loops : IsLoop goes found_with pure (repeat_from goes item)
  unfolding repeat_from
  repeat_loops = record {
    looks = looks;
    none = λ s. refl;
    again = λ n s i g. ap (λ b. cond b (and_then (item i) (λ x. repeat_from goes item n (s ++ x ∷ []))) (Ok (s, i))) g ∙ sym (and_then_again (item i) (λ x. pure (s ++ x ∷ [])) (repeat_from goes item n));
    stop = λ n s i g. ap (λ b. cond b (and_then (item i) (λ x. repeat_from goes item n (s ++ x ∷ []))) (Ok (s, i))) g;
  }

  pub steady_repeat : (found : List A) (i : Symbols) → Steady (Many P) (repeat_behind goes item found) i
  unfolding repeat_behind
  steady_repeat found i =
      steady_map (Many P ⨾ Nothing) (Many P) (all_read (Many P))
      (loop_steady goes found_with pure (repeat_from goes item) repeat_loops P Nothing longer (record { before = λ j. j; spelled = λ j. refl }) (λ s k g. steady_value (λ x. s ++ x ∷ []) (steady_item k g)) (λ s k. steady_pure s k) found i)

  pub steady_repeat_some : (found : List A) (i : Symbols) → 0 < length i → goes i ≡ true → Steady (P ⨾ Many P) (repeat_behind goes item found) i
  unfolding repeat_behind
  steady_repeat_some found i some g =
      steady_map (P ⨾ (Many P ⨾ Nothing)) (P ⨾ Many P) (λ j k h. (h.0, h.1, all_read (Many P) h.0 k h.2))
      (some_steady goes found_with pure (repeat_from goes item) repeat_loops P Nothing longer (record { before = λ j. j; spelled = λ j. refl }) (λ s k g. steady_value (λ x. s ++ x ∷ []) (steady_item k g)) (λ s k. steady_pure s k) found i some g)

-- behind a terminal
pub takes_shorter : (m : Terminal) (P : Part) → ((i r : Symbols) → P i r → length r ≤ length i) → Longer (Takes m ⨾ P)
takes_shorter m P short i r h = omega (arith, takes_longer m i h.0 h.1, short h.0 r h.2)

pub looks_sees : (m : Terminal) (x : Symbol) (z other : Symbols) → sees m (x ∷ other) ≡ sees m (x ∷ z)
unfolding sees
looks_sees m x z other = refl

module _ {A : Type 0} (m : Terminal) (item : Reader A) (real : is_end m ≡ false) (P : Part) (longer : Longer P) (steady_item : (i : Symbols) → Steady P item i) where
  steady_next : (i : Symbols) → sees m i ≡ true → Steady (Takes m ⨾ P) (skip >> item) i
  steady_next i e = steady_then tt (steady_skips m i real (sees_is m i e)) (λ _ j. steady_item j)

  pub steady_more : (found : List A) (i : Symbols) → Steady (Many (Takes m ⨾ P)) (repeat_behind (sees m) (skip >> item) found) i
  steady_more found i = steady_repeat (sees m) (skip >> item) (looks_sees m) (Takes m ⨾ P) (takes_shorter m P (λ j r h. omega (arith, longer j r h))) steady_next found i

  pub steady_some : (found : List A) (i : Symbols) → next i ≡ m → Steady ((Takes m ⨾ P) ⨾ Many (Takes m ⨾ P)) (repeat_behind (sees m) (skip >> item) found) i
  steady_some found i e =
      steady_repeat_some (sees m) (skip >> item) (looks_sees m) (Takes m ⨾ P) (takes_shorter m P (λ j r h. omega (arith, longer j r h))) steady_next found i (takes_some i (takes m i real (is_seen m i e))) (is_seen m i e)
    where
      takes_some : (i : Symbols) → Takes m i (drop 1 i) → 0 < length i
      takes_some i h = omega (arith, takes_longer m i (drop 1 i) h)

  pub steady_separated : (i : Symbols) → Steady (P ⨾ Many (Takes m ⨾ P)) (separated m item) i
  unfolding separated
  steady_separated i = then_steady P (Many (Takes m ⨾ P)) item (λ x. repeat_behind (sees m) (skip >> item) (x ∷ [])) i (steady_item i) (full_many (Takes m ⨾ P)) (λ x j e. steady_more (x ∷ []) j)

  pub steady_separated_until : (stop : Terminal) (i : Symbols) → Steady (Nothing ∣ (P ⨾ Many (Takes m ⨾ P))) (separated_until stop m item) i
  unfolding separated_until
  steady_separated_until stop i =
      steady_sees stop (λ k. Ok ([], k)) (separated m item) i (λ e. steady_map Nothing (Nothing ∣ (P ⨾ Many (Takes m ⨾ P))) (λ j k h. inl h) (steady_pure [] i))
      (λ e. steady_map (P ⨾ Many (Takes m ⨾ P)) (Nothing ∣ (P ⨾ Many (Takes m ⨾ P))) (λ j k h. inr h) (steady_separated i))

-- ---- the trees of the parts, in a list

pub collect : {A : Type 0} (P : A → Part) (i j : Symbols) → Many (Any P) i j → Any (Each P) i j
collect P i j h = all h.0 i j h.1
  where
    all : (us : List (Unit {0})) (i j : Symbols) → Each (λ (u : Unit {0}). Any P) us i j → Any (Each P) i j
    all [] i j h = ([], h)
    all (u ∷ us) i j h = let rest = all us h.0 j h.2 in (h.1.0 ∷ rest.0, (h.0, h.1.1, rest.1))

pub behind_of : {A : Type 0} (m : Terminal) (P : A → Part) (i j : Symbols) → (Takes m ⨾ Any P) i j → Any (λ x. Takes m ⨾ P x) i j
behind_of m P i j h = (h.2.0, (h.0, h.1, h.2.1))

pub many_map : (P Q : Part) → ((i j : Symbols) → P i j → Q i j) → (i j : Symbols) → Many P i j → Many Q i j
many_map P Q f i j h = all h.0 i j h.1
  where
    all : (us : List (Unit {0})) (i j : Symbols) → Each (λ (u : Unit {0}). P) us i j → Many Q i j
    all [] i j h = ([], h)
    all (u ∷ us) i j h = let rest = all us h.0 j h.2 in (tt ∷ rest.0, (h.0, f i h.0 h.1, rest.1))

pub more_of : {A : Type 0} (m : Terminal) (P : A → Part) (i j : Symbols) → Many (Takes m ⨾ Any P) i j → Any (Each (λ x. Takes m ⨾ P x)) i j
more_of m P i j h = collect (λ x. Takes m ⨾ P x) i j (many_map (Takes m ⨾ Any P) (Any (λ x. Takes m ⨾ P x)) (behind_of m P) i j h)

pub separated_of : {A : Type 0} (m : Terminal) (P : A → Part) (i j : Symbols) → (Any P ⨾ Many (Takes m ⨾ Any P)) i j → Any (Separated (Takes m) P) i j
separated_of m P i j h = let rest = more_of m P h.0 j h.2 in (h.1.0 ∷ rest.0, (h.0, h.1.1, rest.1))

pub listed_of : {A : Type 0} (m : Terminal) (P : A → Part) (i j : Symbols) → (Nothing ∣ (Any P ⨾ Many (Takes m ⨾ Any P))) i j → Any (SeparatedOrNone (Takes m) P) i j
listed_of m P i j (inl is) = ([], is)
listed_of m P i j (inr h) = let rest = more_of m P h.0 j h.2 in (h.1.0 ∷ rest.0, (h.0, h.1.1, rest.1))

pub some_of : {A : Type 0} (P : A → Part) (i j : Symbols) → (Any P ⨾ Many (Any P)) i j → Any (EachOfSome P) i j
some_of P i j h = let rest = collect P h.0 j h.2 in (h.1.0 ∷ rest.0, (h.0, h.1.1, rest.1))
