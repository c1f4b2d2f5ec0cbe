-- What a piece needs of the text behind it: of its first byte alone.
use Rattle.std.proofs.Common.{◌≡◌, ℕ, ◌+◌, ◌<◌, Bool, true, false, not, ◌||◌, ⊎_elim, inl, inr, List, [], ◌∷◌, ◌++◌, append_assoc, length, Option, Some, None, refl, sym, ap, subst, ◌∙◌, arith, nat_eq}
use Rattle.std.specs.List.{list_all, list_any}
use Rattle.std.proofs.lemmas.Bool.{or_cases, or_from, or_parts, and_parts, false≢true, false_from_ne_true}
use Rattle.std.proofs.lemmas.List.{length-append}
use Rattle.std.proofs.lemmas.Slice.Eq.{bytes_eq-Decides}
use Rattle.tapa_base.specs.Gaps.{Bytes, begins, is_in_line}
use Rattle.tapa_syntax.specs.declared.lexeme.LexKind.{LexKind}
use Rattle.tapa_syntax.specs.declared.lexeme.LexKind.TheVariants as kind
use Rattle.tapa_syntax.specs.Characters.{is_letter, is_word_byte, opens_line}
use Rattle.tapa_syntax.specs.Lexemes.{IsWord, IsPunctuation, IsGap, IsLexeme, Stands, signs, is_sign, is_comment_mark}
use Rattle.tapa_lex.specs.Reading.{is_single}
use Rattle.tapa_lex.proofs.Bytes.{single_apart, letter_in_word, word_in_line}
use Rattle.tapa_lex.proofs.Signs.{nothing_signed, one_text}

-- ---- signs, and what they go on with

abbrev marks : List Bytes
marks = (47 ∷ 47 ∷ []) ∷ (47 ∷ 42 ∷ []) ∷ []

of_sign : (P : Bytes → Bool) (s : Bytes) → list_all P signs ≡ true → is_sign s ≡ true → P s ≡ true
unfolding is_sign
of_sign P s all h = one_text P signs s all h

of_mark : (P : Bytes → Bool) (s : Bytes) → list_all P marks ≡ true → is_comment_mark s ≡ true → P s ≡ true
unfolding is_comment_mark
of_mark P s all h = one_text P marks s all h

-- a sign of three bytes goes on from one of two, and none has more
abbrev is_grown : Bytes → Bool
is_grown [] = true
is_grown (b ∷ []) = true
is_grown (b ∷ c ∷ []) = true
is_grown (b ∷ c ∷ d ∷ []) = is_sign (b ∷ c ∷ [])
is_grown (b ∷ c ∷ d ∷ e ∷ z) = false

grown : (s : Bytes) → is_sign s ≡ true → is_grown s ≡ true
unfolding is_sign
grown s h = of_sign is_grown s refl h

abbrev is_short : Bytes → Bool
is_short [] = true
is_short (b ∷ []) = true
is_short (b ∷ c ∷ []) = true
is_short (b ∷ c ∷ d ∷ z) = false

short : (s : Bytes) → is_comment_mark s ≡ true → is_short s ≡ true
short s h = of_mark is_short s refl h

neither : (s : Bytes) → (is_sign s ≡ true → ⊥) → (is_comment_mark s ≡ true → ⊥) → (is_sign s || is_comment_mark s) ≡ false
neither s f g = or_from (is_sign s) (is_comment_mark s) (false_from_ne_true (is_sign s) f) (false_from_ne_true (is_comment_mark s) g)

-- neither a sign nor a comment's mark goes on with this byte
abbrev Stops : Bytes → ℕ → Type 0
Stops bytes c = (is_sign (bytes ++ c ∷ []) || is_comment_mark (bytes ++ c ∷ [])) ≡ false

stops_longer : (bytes : Bytes) (c d : ℕ) (z : Bytes) → is_sign bytes ≡ true → Stops bytes c → (is_sign (bytes ++ c ∷ d ∷ z) || is_comment_mark (bytes ++ c ∷ d ∷ z)) ≡ false
stops_longer [] c d z h k = absurd (false≢true (sym nothing_signed ∙ h))
stops_longer (b ∷ []) c d [] h k =
    neither (b ∷ c ∷ d ∷ [])
    (λ t. false≢true (sym (or_parts (is_sign (b ∷ c ∷ [])) (is_comment_mark (b ∷ c ∷ [])) k).0 ∙ grown (b ∷ c ∷ d ∷ []) t))
    (λ t. false≢true (short (b ∷ c ∷ d ∷ []) t))
stops_longer (b ∷ []) c d (e ∷ z) h k = neither (b ∷ c ∷ d ∷ e ∷ z) (λ t. false≢true (grown (b ∷ c ∷ d ∷ e ∷ z) t)) (λ t. false≢true (short (b ∷ c ∷ d ∷ e ∷ z) t))
stops_longer (b ∷ a ∷ []) c d z h k = neither (b ∷ a ∷ c ∷ d ∷ z) (λ t. false≢true (grown (b ∷ a ∷ c ∷ d ∷ z) t)) (λ t. false≢true (short (b ∷ a ∷ c ∷ d ∷ z) t))
stops_longer (b ∷ a ∷ x ∷ []) c d z h k =
    neither (b ∷ a ∷ x ∷ c ∷ d ∷ z) (λ t. false≢true (grown (b ∷ a ∷ x ∷ c ∷ d ∷ z) t)) (λ t. false≢true (short (b ∷ a ∷ x ∷ c ∷ d ∷ z) t))
stops_longer (b ∷ a ∷ x ∷ y ∷ w) c d z h k =
    neither (b ∷ a ∷ x ∷ y ∷ (w ++ c ∷ d ∷ z)) (λ t. false≢true (grown (b ∷ a ∷ x ∷ y ∷ (w ++ c ∷ d ∷ z)) t)) (λ t. false≢true (short (b ∷ a ∷ x ∷ y ∷ (w ++ c ∷ d ∷ z)) t))

stops_tail : (bytes : Bytes) (c : ℕ) (z : Bytes) → is_sign bytes ≡ true → Stops bytes c → (is_sign (bytes ++ c ∷ z) || is_comment_mark (bytes ++ c ∷ z)) ≡ false
stops_tail bytes c [] h k = k
stops_tail bytes c (d ∷ z) h k = stops_longer bytes c d z h k

longer_front : (bytes front back : Bytes) (c : ℕ) (y : Bytes) → front ++ back ≡ bytes ++ c ∷ y → length bytes < length front → (z : Bytes) × (front ≡ bytes ++ c ∷ z)
longer_front [] [] back c y e lt = absurd (omega arith)
longer_front [] (x ∷ front) back c y e lt = (front, (let f : x ≡ c = cc in ap (λ v. v ∷ front) f))
longer_front (b ∷ bytes) [] back c y e lt = absurd (omega arith)
longer_front (b ∷ bytes) (x ∷ front) back c y e lt =
    let same : front ++ back ≡ bytes ++ c ∷ y = cc in
    let first : x ≡ b = cc in
    let t = longer_front bytes front back c y same (omega arith) in
    (t.0, ap (λ v. v ∷ front) first ∙ ap (λ v. b ∷ v) t.1)

before_one : (bytes : Bytes) (c : ℕ) (y : Bytes) → is_sign bytes ≡ true → Stops bytes c → IsPunctuation bytes (c ∷ y)
before_one bytes c y h k = record { sign = h; longest = none }
  where
    none : (front back : Bytes) → front ++ back ≡ bytes ++ c ∷ y → length bytes < length front → is_sign front || is_comment_mark front ≡ false
    none front back e lt =
        let t = longer_front bytes front back c y e lt in
        subst (λ (x : Bytes). (is_sign x || is_comment_mark x) ≡ false) (sym t.1) (stops_tail bytes c t.0 h k)

pub before_none : (bytes : Bytes) → is_sign bytes ≡ true → IsPunctuation bytes []
before_none bytes h = record { sign = h; longest = λ front back e lt. absurd (omega (arith, ap length e, length-append front back, length-append bytes [])) }

stops : (bytes : Bytes) (c : ℕ) (y : Bytes) → IsPunctuation bytes (c ∷ y) → Stops bytes c
stops bytes c y h = h.longest (bytes ++ c ∷ []) y (append_assoc bytes (c ∷ []) y) (omega (arith, length-append bytes (c ∷ [])))

last_of : (p : ℕ → Bool) (xs : Bytes) (c : ℕ) → list_all p (xs ++ c ∷ []) ≡ true → p c ≡ true
last_of p [] c h = (and_parts (p c) true h).0
last_of p (x ∷ xs) c h = last_of p xs c (and_parts (p x) (list_all p (xs ++ c ∷ [])) h).1

-- a sign ends before a byte that is in none
pub before_other : (bytes : Bytes) (c : ℕ) (y : Bytes) → is_sign bytes ≡ true → is_single c ≡ false → IsPunctuation bytes (c ∷ y)
before_other bytes c y h none =
    before_one bytes c y h (neither (bytes ++ c ∷ [])
    (λ t. false≢true (sym none ∙ last_of is_single bytes c (of_sign (list_all is_single) (bytes ++ c ∷ []) refl t)))
    (λ t. false≢true (sym none ∙ last_of is_single bytes c (of_mark (list_all is_single) (bytes ++ c ∷ []) refl t))))

-- the bytes of a sign are signs themselves
pub all_single : (bytes : Bytes) → is_sign bytes ≡ true → list_all is_single bytes ≡ true
all_single bytes h = of_sign (list_all is_single) bytes refl h

-- no longer sign begins with this byte
abbrev is_alone : ℕ → Bytes → Bool
is_alone b [] = true
is_alone b (x ∷ []) = true
is_alone b (x ∷ c ∷ z) = not (nat_eq x b)

alone : (b : ℕ) → is_sign (b ∷ []) ≡ true → list_all (is_alone b) signs ≡ true → list_all (is_alone b) marks ≡ true → not (nat_eq b b) ≡ false → (rest : Bytes) → IsPunctuation (b ∷ []) rest
alone b h k m same [] = before_none (b ∷ []) h
alone b h k m same (c ∷ y) =
    before_one (b ∷ []) c y h (neither (b ∷ c ∷ [])
    (λ t. false≢true (sym same ∙ of_sign (is_alone b) (b ∷ c ∷ []) k t))
    (λ t. false≢true (sym same ∙ of_mark (is_alone b) (b ∷ c ∷ []) m t)))

pub parenthesis : (rest : Bytes) → IsPunctuation (41 ∷ []) rest
unfolding is_sign
parenthesis rest = alone 41 refl refl refl refl rest

pub semicolon : (rest : Bytes) → IsPunctuation (59 ∷ []) rest
unfolding is_sign
semicolon rest = alone 59 refl refl refl refl rest

-- ---- texts before which the same pieces stand

-- what stands before the first of these texts stands before the second too
pub record Alike (old new : Bytes) : Type 0 where
  pub line : begins is_in_line old ≡ false → begins is_in_line new ≡ false
  pub word : begins is_word_byte old ≡ false → begins is_word_byte new ≡ false
  pub sign : (bytes : Bytes) → IsPunctuation bytes old → IsPunctuation bytes new

pub alike_self : (z : Bytes) → Alike z z
alike_self z = record { line = λ h. h; word = λ h. h; sign = λ bytes h. h }

pub alike_same : (b : ℕ) (x y : Bytes) → Alike (b ∷ x) (b ∷ y)
alike_same b x y = record { line = λ h. h; word = λ h. h; sign = λ bytes h. before_one bytes b y h.sign (stops bytes b x h) }

letter_no_sign : (c : ℕ) → is_letter c ≡ true → is_single c ≡ false
letter_no_sign c h = false_from_ne_true (is_single c) (λ t. false≢true (sym (single_apart c t).letter ∙ h))

pub alike_letters : (b c : ℕ) (x y : Bytes) → is_letter b ≡ true → is_letter c ≡ true → Alike (b ∷ x) (c ∷ y)
alike_letters b c x y h k = record {
  line = λ e. absurd (false≢true (sym e ∙ word_in_line b (letter_in_word b h)));
  word = λ e. absurd (false≢true (sym e ∙ letter_in_word b h));
  sign = λ bytes p. before_other bytes c y p.sign (letter_no_sign c k);
}

word_there : (first : ℕ → Bool) (bytes old new : Bytes) → Alike old new → IsWord first bytes old → IsWord first bytes new
word_there first bytes old new a h = record { begun = h.begun; word = h.word; longest = a.word h.longest }

pub lexeme_there : (k : LexKind) (bytes old new : Bytes) → Alike old new → IsLexeme k bytes old → IsLexeme k bytes new
lexeme_there kind.Word bytes old new a h = word_there is_letter bytes old new a h
lexeme_there (kind.Literal k v) bytes old new a h = (word_there _ bytes old new a h.0, h.1)
lexeme_there kind.Str bytes old new a h = h
lexeme_there kind.Punct bytes old new a h = a.sign bytes h

gap_there : (before there bytes old new : Bytes) → Alike old new → (opens_line before ≡ true → opens_line there ≡ true) → IsGap before bytes old → IsGap there bytes new
gap_there before there bytes old new a o (inl h) = inl h
gap_there before there bytes old new a o (inr (inl h)) = inr (inl (h.0, h.1, h.2, a.line h.3))
gap_there before there bytes old new a o (inr (inr (inl h))) = inr (inr (inl h))
gap_there before there bytes old new a o (inr (inr (inr h))) =
    inr (inr (inr (record {
      blanks = h.blanks;
      word = h.word;
      more = h.more;
      is = h.is;
      first = o h.first;
      blank = h.blank;
      known = h.known;
      longest = h.longest;
      one_line = h.one_line;
      ends = a.line h.ends;
    })))

-- a piece stands in another place
pub stands_there : (before there : Bytes) (s : Option LexKind) (bytes old new : Bytes) → Alike old new → (opens_line before ≡ true → opens_line there ≡ true)
    → Stands before s bytes old → Stands there s bytes new
stands_there before there None bytes old new a o h = gap_there before there bytes old new a o h
stands_there before there (Some k) bytes old new a o h = lexeme_there k bytes old new a h
