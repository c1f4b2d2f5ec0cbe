-- Texts that are pieces in turn behind others, and the words of a form among them.
use Rattle.std.proofs.Common.{◌≡◌, ℕ, Bool, true, false, cond, ◌⊎◌, inl, inr, List, [], ◌∷◌, ◌++◌, append_assoc, append-nil, Option, Some, None, refl, sym, ap, subst, ◌∙◌, arith, eqb-true}
use Rattle.std.specs.Prelude.{slice_range}
use Rattle.std.specs.List.{flat_map, AllByRecursion}
use Rattle.std.proofs.lemmas.Bool.{false≢true, false_from_ne_true}
use Rattle.std.proofs.lemmas.Bool.Decides.{nat_tests}
use Rattle.tapa_base.specs.Gaps.{Bytes, is_blank}
use Rattle.tapa_syntax.specs.declared.lexeme.LexKind.{LexKind}
use Rattle.tapa_syntax.specs.declared.lexeme.LexKind.TheVariants as kind
use Rattle.tapa_syntax.specs.declared.lexeme.Lexeme.{Lexeme}
use Rattle.tapa_syntax.specs.Lexemes.{Piece, IsWord, IsLexeme, Stands, StandInTurn, text_of}
use Rattle.tapa_lex.specs.Reading.{is_single}
use Rattle.tapa_lex.proofs.Bytes.{single_apart}
use Rattle.stream_arrays.specs.Words.{spaced, is_line_feed, start_of, end_of, line_feeds, form_text}
use Rattle.stream_arrays.proofs.Feeds.{feeds}
use Rattle.tapa_laws.proofs.written.Follows.{before_other}
use Rattle.tapa_laws.proofs.written.Apart.{blank_no_word}

-- the rest of a text is pieces in turn, behind what is before it
pub record IsPieced (before rest : Bytes) : Type 0 where
  pub pieces : List Piece
  pub is : text_of pieces [] ≡ rest
  pub standing : StandInTurn before pieces []

pub pieced_none : (before : Bytes) → IsPieced before []
pieced_none before = record { pieces = []; is = refl; standing = tt }

pub pieced_next : (before : Bytes) (s : Option LexKind) (bytes rest : Bytes) → Stands before s bytes rest → IsPieced (before ++ bytes) rest → IsPieced before (bytes ++ rest)
pieced_next before s bytes rest h p = record {
  pieces = record { sort = s; bytes = bytes } ∷ p.pieces;
  is = ap (λ (z : Bytes). bytes ++ z) p.is;
  standing = (subst (λ (z : Bytes). Stands before s bytes z) (sym p.is) h, p.standing);
}

-- a text is pieces in turn, whatever is before it
abbrev pub Anywhere : Bytes → Type 0
Anywhere rest = (before : Bytes) → IsPieced before rest

anywhere_blank : (b : ℕ) (rest : Bytes) → is_blank b ≡ true → Anywhere rest → Anywhere (b ∷ rest)
anywhere_blank b rest h p before = pieced_next before None (b ∷ []) rest (inl (b, refl, h)) (p (before ++ b ∷ []))

pub anywhere_lexeme : (k : LexKind) (bytes rest : Bytes) → IsLexeme k bytes rest → Anywhere rest → Anywhere (bytes ++ rest)
anywhere_lexeme k bytes rest h p before = pieced_next before (Some k) bytes rest h (p (before ++ bytes))

-- ---- words before a blank

-- these bytes are a lexeme before a blank
pub record IsSpacedWord (word : Bytes) : Type 0 where
  pub kind : LexKind
  pub stands : (c : ℕ) (z : Bytes) → is_blank c ≡ true → IsLexeme kind word (c ∷ z)

blank_no_sign : (c : ℕ) → is_blank c ≡ true → is_single c ≡ false
blank_no_sign c h = false_from_ne_true (is_single c) (λ t. false≢true (sym (single_apart c t).blank ∙ h))

word_blank : (first : ℕ → Bool) (bytes rest : Bytes) (c : ℕ) (z : Bytes) → is_blank c ≡ true → IsWord first bytes rest → IsWord first bytes (c ∷ z)
word_blank first bytes rest c z b h = record { begun = h.begun; word = h.word; longest = blank_no_word c b }

-- a lexeme is one before a blank too
before_blank : (k : LexKind) (bytes rest : Bytes) (c : ℕ) (z : Bytes) → is_blank c ≡ true → IsLexeme k bytes rest → IsLexeme k bytes (c ∷ z)
before_blank kind.Word bytes rest c z b h = word_blank _ bytes rest c z b h
before_blank (kind.Literal k v) bytes rest c z b h = (word_blank _ bytes rest c z b h.0, h.1)
before_blank kind.Str bytes rest c z b h = h
before_blank kind.Punct bytes rest c z b h = before_other bytes c z h.sign (blank_no_sign c b)

pub spaced_word : (k : LexKind) (bytes rest : Bytes) → IsLexeme k bytes rest → IsSpacedWord bytes
spaced_word k bytes rest h = record { kind = k; stands = λ c z b. before_blank k bytes rest c z b h }

-- ---- words with spaces between them

abbrev behind : List Bytes → Bytes
behind ws = flat_map (λ (v : Bytes). 32 ∷ v) ws

first_blank : (front : List Bytes) (last rest : Bytes) → (z : Bytes) × (behind (front ++ last ∷ []) ++ rest ≡ 32 ∷ z)
first_blank [] last rest = ((last ++ []) ++ rest, refl)
first_blank (v ∷ front) last rest = ((v ++ behind (front ++ last ∷ [])) ++ rest, refl)

last_pieced : (k : LexKind) (last rest : Bytes) → IsLexeme k last rest → Anywhere rest → Anywhere ((last ++ []) ++ rest)
last_pieced k last rest l p = subst Anywhere (sym (ap (λ (z : Bytes). z ++ rest) (append-nil last))) (anywhere_lexeme k last rest l p)

word_then : (v : Bytes) (front : List Bytes) (last rest : Bytes) → IsSpacedWord v → Anywhere (behind (front ++ last ∷ []) ++ rest) → Anywhere ((v ++ behind (front ++ last ∷ [])) ++ rest)
word_then v front last rest s p =
    let first = first_blank front last rest in
    subst Anywhere (sym (append_assoc v (behind (front ++ last ∷ [])) rest))
    (anywhere_lexeme s.kind v (behind (front ++ last ∷ []) ++ rest) (subst (λ (z : Bytes). IsLexeme s.kind v z) (sym first.1) (s.stands 32 first.0 refl)) p)

behind_pieced : (front : List Bytes) (last rest : Bytes) → AllByRecursion IsSpacedWord front → (k : LexKind) → IsLexeme k last rest → Anywhere rest → Anywhere (behind (front ++ last ∷ []) ++ rest)
behind_pieced [] last rest h k l p = anywhere_blank 32 ((last ++ []) ++ rest) refl (last_pieced k last rest l p)
behind_pieced (v ∷ front) last rest h k l p =
    anywhere_blank 32 ((v ++ behind (front ++ last ∷ [])) ++ rest) refl (word_then v front last rest h.0 (behind_pieced front last rest h.1 k l p))

words_pieced : (front : List Bytes) (last rest : Bytes) → AllByRecursion IsSpacedWord front → (k : LexKind) → IsLexeme k last rest → Anywhere rest → Anywhere (spaced (front ++ last ∷ []) ++ rest)
words_pieced [] last rest h k l p = last_pieced k last rest l p
words_pieced (v ∷ front) last rest h k l p = word_then v front last rest h.0 (behind_pieced front last rest h.1 k l p)

-- ---- line feeds

feed_blank : (x : ℕ) → is_line_feed x ≡ true → is_blank x ≡ true
feed_blank x e = subst (λ (b : ℕ). is_blank b ≡ true) (sym (eqb-true x 10 e)) refl

feeds_pieced : (xs rest : Bytes) → Anywhere rest → Anywhere (feeds xs ++ rest)
feeds_pieced [] rest p = p
feeds_pieced (x ∷ xs) rest p = by (is_line_feed x) refl (feeds_pieced xs rest p)
  where
    by : (t : Bool) → is_line_feed x ≡ t → Anywhere (feeds xs ++ rest) → Anywhere (cond t (x ∷ feeds xs) (feeds xs) ++ rest)
    by true e more = anywhere_blank x (feeds xs ++ rest) (feed_blank x e) more
    by false e more = more

feeds_cases : (xs : Bytes) → (feeds xs ≡ []) ⊎ ((z : Bytes) × (feeds xs ≡ 10 ∷ z))
feeds_cases [] = inl refl
feeds_cases (x ∷ xs) = by (is_line_feed x) refl (feeds_cases xs)
  where
    by : (t : Bool) → is_line_feed x ≡ t → (feeds xs ≡ []) ⊎ ((z : Bytes) × (feeds xs ≡ 10 ∷ z)) → (cond t (x ∷ feeds xs) (feeds xs) ≡ []) ⊎ ((z : Bytes) × (cond t (x ∷ feeds xs) (feeds xs) ≡ 10 ∷ z))
    by true e more = inr (feeds xs, ap (λ v. v ∷ feeds xs) (eqb-true x 10 e))
    by false e more = more

-- a lexeme is one before line feeds too
feeds_before : (k : LexKind) (last xs rest : Bytes) → IsLexeme k last rest → IsLexeme k last (feeds xs ++ rest)
feeds_before k last xs rest h = by (feeds_cases xs)
  where
    by : (feeds xs ≡ []) ⊎ ((z : Bytes) × (feeds xs ≡ 10 ∷ z)) → IsLexeme k last (feeds xs ++ rest)
    by (inl e) = subst (λ (y : Bytes). IsLexeme k last (y ++ rest)) (sym e) h
    by (inr t) = subst (λ (y : Bytes). IsLexeme k last (y ++ rest)) (sym t.1) (before_blank k last rest 10 (t.0 ++ rest) refl h)

-- ---- forms

-- words end with this one
pub record Ends (words : List Bytes) (last : Bytes) : Type 0 where
  pub front : List Bytes
  pub is : words ≡ front ++ last ∷ []

pub ends_one : (last : Bytes) → Ends (last ∷ []) last
ends_one last = record { front = []; is = refl }

pub ends_behind : (xs ys : List Bytes) (last : Bytes) → Ends ys last → Ends (xs ++ ys) last
ends_behind xs ys last e = record { front = xs ++ e.front; is = ap (λ (z : List Bytes). xs ++ z) e.is ∙ sym (append_assoc xs e.front (last ∷ [])) }

all_before : (xs ys : List Bytes) → AllByRecursion IsSpacedWord (xs ++ ys) → AllByRecursion IsSpacedWord xs
all_before [] ys h = tt
all_before (x ∷ xs) ys h = (h.0, all_before xs ys h.1)

-- what is written of a form is pieces, whose last word stands before the rest
pub form_pieced : (text : Bytes) (ls : List Lexeme) (words : List Bytes) (last rest : Bytes) → AllByRecursion IsSpacedWord words → Ends words last
    → (k : LexKind) → IsLexeme k last rest → Anywhere rest → Anywhere (form_text text ls words ++ rest)
form_pieced text ls words last rest h e k l p =
    let all : AllByRecursion IsSpacedWord e.front = all_before e.front (last ∷ []) (subst (AllByRecursion IsSpacedWord) e.is h) in
    let slice : Bytes = slice_range text (start_of ls) (end_of 0 ls) in
    subst Anywhere (sym (append_assoc (spaced words) (line_feeds text ls) rest))
    (subst (λ (ws : List Bytes). Anywhere (spaced ws ++ (line_feeds text ls ++ rest))) (sym e.is)
    (words_pieced e.front last (feeds slice ++ rest) all k (feeds_before k last slice rest l) (feeds_pieced slice rest p)))
