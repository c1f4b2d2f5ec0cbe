-- The words that are written of declarations and of elements are lexemes.
use Rattle.std.proofs.Common.{◌≡◌, ℕ, zero, suc, ◌+◌, ◌-◌, ◌<◌, ◌/◌, ◌%◌, Bool, true, false, cond, List, [], ◌∷◌, ◌++◌, length, take, drop, Option, Some, None, refl, ap, ◌∙◌, arith}
use Rattle.std.specs.Prelude.{◌==◌, codes, decimal}
use Rattle.std.specs.List.{list_all, AllByRecursion}
use Rattle.std.specs.Fmt.{digits, digits_onto, digit_glyph}
use Rattle.std.proofs.lemmas.Bool.{and_parts, and_from, false≢true, lt-ltb}
use Rattle.std.proofs.lemmas.Bool.Decides.{nat_tests}
use Rattle.tapa_base.specs.Gaps.{Bytes, begins}
use Rattle.tapa_syntax.specs.Characters.{is_digit, is_letter, is_word_byte}
use Rattle.tapa_syntax.specs.declared.lexeme.LexKind.TheVariants as lex_kind
use Rattle.tapa_syntax.specs.declared.lexeme.Lexeme.{Lexeme}
use Rattle.tapa_syntax.specs.declared.terminal.Terminal.TheVariants as terminal
use Rattle.tapa_syntax.specs.Lexemes.{IsWord, is_sign}
use Rattle.tapa_syntax.specs.Symbols.{text_of}
use Rattle.tapa_lex.proofs.Bytes.{digit_in_word}
use Rattle.stream_arrays.specs.Standing.{is, is_named, type_size}
use Rattle.stream_arrays.specs.Forms.{Declaration, label_size, names_behind, names_from, declared_as, with_names, with_depth, behind_count, behind_type, with_type, begins_declaration, declaration}
use Rattle.stream_arrays.specs.Words.{element_name, below, more_elements, elements, more_names, name_words, depth_words, words_of}
use Rattle.stream_arrays.specs.Written.{declaration_words}
use Rattle.stream_arrays.proofs.FormFeeds.{all_take, all_drop, AreSliced, all_both, all_flat, all_map}
use Rattle.tapa_laws.proofs.written.Follows.{before_none}
use Rattle.tapa_laws.proofs.written.Pieced.{IsSpacedWord, spaced_word, Ends, ends_one, ends_behind}
use Rattle.tapa_laws.proofs.written.Terminals.{lexeme_is, named_word, tapa_word}
use Rattle.tapa_laws.proofs.written.Holds.{Any, any, OnSome, some_if, some_either, some_map}

-- ---- names with numbers

all_append : (p : ℕ → Bool) (xs ys : Bytes) → list_all p xs ≡ true → list_all p ys ≡ true → list_all p (xs ++ ys) ≡ true
all_append p [] ys h k = k
all_append p (x ∷ xs) ys h k =
    let parts = and_parts (p x) (list_all p xs) h in
    and_from (p x) (list_all p (xs ++ ys)) parts.0 (all_append p xs ys parts.1 k)

low_digit : (d : ℕ) → d < 10 → is_digit (48 + d) ≡ true
low_digit d h = grind (arith, nat_tests)

glyph_word : (d : ℕ) → d < 10 → is_word_byte (digit_glyph false d) ≡ true
glyph_word d h = ap (λ t. is_word_byte (cond t (48 + d) (87 + d))) (lt-ltb d 10 h) ∙ digit_in_word (48 + d) (low_digit d h)

onto_word : (k n : ℕ) (acc : Bytes) → list_all is_word_byte acc ≡ true → list_all is_word_byte (digits_onto k 10 false n acc) ≡ true
onto_word zero n acc h = h
onto_word (suc k) n acc h = by (n / 10 == 0) (onto_word k (n / 10) (digit_glyph false (n % 10) ∷ acc) next)
  where
    next : list_all is_word_byte (digit_glyph false (n % 10) ∷ acc) ≡ true
    next = and_from (is_word_byte (digit_glyph false (n % 10))) (list_all is_word_byte acc) (glyph_word (n % 10) (omega arith)) h

    by : (t : Bool) → list_all is_word_byte (digits_onto k 10 false (n / 10) (digit_glyph false (n % 10) ∷ acc)) ≡ true
        → list_all is_word_byte (cond t (digit_glyph false (n % 10) ∷ acc) (digits_onto k 10 false (n / 10) (digit_glyph false (n % 10) ∷ acc))) ≡ true
    by true more = next
    by false more = more

decimal_word : (n : ℕ) → list_all is_word_byte (decimal n) ≡ true
unfolding digits
decimal_word n = onto_word 64 n [] refl

pub begins_more : (xs ys : Bytes) → begins is_letter xs ≡ true → begins is_letter (xs ++ ys) ≡ true
begins_more [] ys h = absurd (false≢true h)
begins_more (x ∷ xs) ys h = h

-- a name with a number is a word, where no byte of a word is behind it
pub element_word : (x : Bytes) (i : ℕ) (rest : Bytes) → IsWord is_letter x [] → begins is_word_byte rest ≡ false → IsWord is_letter (element_name x i) rest
element_word x i rest h ends = record {
  begun = begins_more (x ++ codes "_") (decimal i) (begins_more x (codes "_") h.begun);
  word = all_append is_word_byte (x ++ codes "_") (decimal i) (all_append is_word_byte x (codes "_") h.word refl) (decimal_word i);
  longest = ends;
}

pub element_spaced : (x : Bytes) (i : ℕ) → IsWord is_letter x [] → IsSpacedWord (element_name x i)
element_spaced x i h = spaced_word lex_kind.Word (element_name x i) [] (element_word x i [] h refl)

-- ---- signs and words of the language

sign_spaced : (x : Bytes) → is_sign x ≡ true → IsSpacedWord x
sign_spaced x h = spaced_word lex_kind.Punct x [] (before_none x h)

pub comma_spaced : IsSpacedWord (codes ",")
unfolding is_sign
comma_spaced = sign_spaced (codes ",") refl

semicolon_spaced : IsSpacedWord (codes ";")
unfolding is_sign
semicolon_spaced = sign_spaced (codes ";") refl

scope_spaced : IsSpacedWord (codes "::")
unfolding is_sign
scope_spaced = sign_spaced (codes "::") refl

less_spaced : IsSpacedWord (codes "<")
unfolding is_sign
less_spaced = sign_spaced (codes "<") refl

greater_spaced : IsSpacedWord (codes ">")
unfolding is_sign
greater_spaced = sign_spaced (codes ">") refl

word_spaced : (x : Bytes) → IsWord is_letter x [] → IsSpacedWord x
word_spaced x h = spaced_word lex_kind.Word x [] h

tapa_spaced : IsSpacedWord (codes "tapa")
tapa_spaced = word_spaced (codes "tapa") (record { begun = refl; word = refl; longest = refl })

stream_spaced : IsSpacedWord (codes "stream")
stream_spaced = word_spaced (codes "stream") (record { begun = refl; word = refl; longest = refl })

-- ---- lexemes of a text

abbrev pub Spaced : Bytes → Lexeme → Type 0
Spaced text l = IsSpacedWord (text_of text l)

-- a lexeme that is a name
abbrev pub Named : Bytes → Lexeme → Type 0
Named text l = IsWord is_letter (text_of text l) []

abbrev AreSpaced : Bytes → List Lexeme → Type 0
AreSpaced text ls = AllByRecursion (Spaced text) ls

pub lexemes_spaced : (text : Bytes) (ls : List Lexeme) → AreSliced text ls → AreSpaced text ls
lexemes_spaced text [] h = tt
lexemes_spaced text (l ∷ ls) h = (spaced_word l.kind (text_of text l) (drop l.to text) (lexeme_is text l h.0), lexemes_spaced text ls h.1)

-- ---- declarations

abbrev DepthSpaced : Bytes → Option Lexeme → Type 0
DepthSpaced text None = Unit {0}
DepthSpaced text (Some d) = Spaced text d

abbrev AreNamed : Bytes → List Lexeme → Type 0
AreNamed text ls = AllByRecursion (Named text) ls

pub record IsDeclared (text : Bytes) (d : Declaration) : Type 0 where
  pub element : AreSpaced text d.element
  pub depth : DepthSpaced text d.depth
  pub names : AreNamed text d.names

abbrev NamesNamed : Bytes → List Lexeme × ℕ → Type 0
NamesNamed text p = AreNamed text p.0

behind_name : (text : Bytes) (more : List Lexeme → List Lexeme → Option (List Lexeme × ℕ)) → ((ns ms : List Lexeme) → AreNamed text ns → AreSliced text ms → OnSome (NamesNamed text) (more ns ms))
    → (names ls : List Lexeme) → AreNamed text names → AreSliced text ls → OnSome (NamesNamed text) (names_behind text more names ls)
behind_name text more each names [] h k = tt
behind_name text more each names (l ∷ ls) h k =
    some_either (NamesNamed text) (is text terminal.Semicolon l) (Some (names, length ls)) _ h (some_if (NamesNamed text) (is text terminal.Comma l) (more names ls) (λ t. each names ls h k.1))

names_named : (text : Bytes) (turns : ℕ) (names ls : List Lexeme) → AreNamed text names → AreSliced text ls → OnSome (NamesNamed text) (names_from text turns names ls)
names_named text zero names ls h k = tt
names_named text (suc turns) names [] h k = tt
names_named text (suc turns) names (l ∷ ls) h k =
    some_if (NamesNamed text) (is_named text l) _ (λ t.
    behind_name text (names_from text turns) (names_named text turns) (names ++ l ∷ []) (drop (label_size text ls) ls) (all_both (Named text) names (l ∷ []) h (named_word text l k.0 t, tt))
    (all_drop _ (label_size text ls) ls k.1))

named_parts : (text : Bytes) (element : List Lexeme) (count : Lexeme) (depth : Option Lexeme) (ls : List Lexeme) → AreSpaced text element → DepthSpaced text depth → AreSliced text ls
    → OnSome (IsDeclared text) (with_names text element count depth ls)
named_parts text element count depth ls e d h =
    some_map (NamesNamed text) (IsDeclared text) (declared_as element count depth) (λ p k. record { element = e; depth = d; names = k })
    (names_from text (length ls) [] ls) (names_named text (length ls) [] ls tt h)

depth_parts : (text : Bytes) (element : List Lexeme) (count : Lexeme) (ls : List Lexeme) → AreSpaced text element → AreSliced text ls → OnSome (IsDeclared text) (with_depth text element count ls)
depth_parts text element count [] e h = tt
depth_parts text element count (d ∷ []) e h = tt
depth_parts text element count (d ∷ c ∷ ls) e h =
    some_if (IsDeclared text) _ (with_names text element count (Some d) ls) (λ t. named_parts text element count (Some d) ls e (lexemes_spaced text (d ∷ c ∷ ls) h).0 h.1.1)

count_parts : (text : Bytes) (element : List Lexeme) (count : Lexeme) (ls : List Lexeme) → AreSpaced text element → AreSliced text ls → OnSome (IsDeclared text) (behind_count text element count ls)
count_parts text element count [] e h = tt
count_parts text element count (l ∷ ls) e h =
    some_either (IsDeclared text) (is text terminal.Greater l) (with_names text element count None ls) _ (named_parts text element count None ls e tt h.1)
    (some_if (IsDeclared text) (is text terminal.Comma l) (with_depth text element count ls) (λ t. depth_parts text element count ls e h.1))

type_parts : (text : Bytes) (element ls : List Lexeme) → AreSpaced text element → AreSliced text ls → OnSome (IsDeclared text) (behind_type text element ls)
type_parts text element [] e h = tt
type_parts text element (c ∷ []) e h = tt
type_parts text element (c ∷ n ∷ ls) e h = some_if (IsDeclared text) _ (behind_count text element n ls) (λ t. count_parts text element n ls e h.1.1)

sized_parts : (text : Bytes) (ls : List Lexeme) (size : Option ℕ) → AreSliced text ls → OnSome (IsDeclared text) (with_type text ls size)
sized_parts text ls None h = tt
sized_parts text ls (Some n) h = type_parts text (take n ls) (drop n ls) (lexemes_spaced text (take n ls) (all_take _ n ls h)) (all_drop _ n ls h)

-- a declaration begins with a word, and has words and names
pub declared_parts : (text : Bytes) (l : Lexeme) (ls : List Lexeme) → AreSliced text (l ∷ ls) → OnSome (λ d. IsDeclared text d × Named text l) (declaration text (l ∷ ls))
declared_parts text l ls h =
    some_if (λ d. IsDeclared text d × Named text l) (begins_declaration text (l ∷ ls)) _ (λ t.
    with_first (with_type text (drop 4 (l ∷ ls)) (type_size text (drop 4 (l ∷ ls)))) (sized_parts text (drop 4 (l ∷ ls)) (type_size text (drop 4 (l ∷ ls))) (all_drop _ 4 (l ∷ ls) h))
    (tapa_word text l h.0 (and_parts (is text terminal.Tapa l) _ (and_parts _ _ t).0).0))
  where
    with_first : (o : Option Declaration) → OnSome (IsDeclared text) o → Named text l → OnSome (λ d. IsDeclared text d × Named text l) o
    with_first None k w = tt
    with_first (Some d) k w = (k, w)

elements_spaced : (x : Bytes) (n : ℕ) → IsWord is_letter x [] → AllByRecursion IsSpacedWord (elements x n)
elements_spaced x n h =
    let more : AllByRecursion IsSpacedWord (more_elements x n) =
    all_flat IsSpacedWord (Any {A = ℕ}) (λ i. codes "," ∷ element_name x (suc i) ∷ []) (λ i u. (comma_spaced, (element_spaced x (suc i) h, tt))) (below (n - 1)) (any (below (n - 1))) in
    (element_spaced x 0 h, more)

names_spaced : (text : Bytes) (n : ℕ) (names : List Lexeme) → AreNamed text names → AllByRecursion IsSpacedWord (name_words text n names)
names_spaced text n [] h = tt
names_spaced text n (x ∷ xs) h =
    all_both IsSpacedWord (elements (text_of text x) n) (more_names text n xs) (elements_spaced (text_of text x) n h.0)
    (all_flat IsSpacedWord (Named text) (λ (y : Lexeme). codes "," ∷ elements (text_of text y) n) (λ y k. (comma_spaced, elements_spaced (text_of text y) n k)) xs h.1)

depth_spaced : (text : Bytes) (d : Option Lexeme) → DepthSpaced text d → AllByRecursion IsSpacedWord (depth_words text d)
depth_spaced text None h = tt
depth_spaced text (Some d) h = (comma_spaced, (h, tt))

texts_spaced : (text : Bytes) (ls : List Lexeme) → AreSpaced text ls → AllByRecursion IsSpacedWord (words_of text ls)
texts_spaced text ls h = all_map IsSpacedWord (Spaced text) (text_of text) (λ l k. k) ls h

pub declared_spaced : (text : Bytes) (d : Declaration) (n : ℕ) → IsDeclared text d → AllByRecursion IsSpacedWord (declaration_words text d n)
declared_spaced text d n h =
    let names : AllByRecursion IsSpacedWord (name_words text n d.names ++ codes ";" ∷ []) =
    all_both IsSpacedWord (name_words text n d.names) (codes ";" ∷ []) (names_spaced text n d.names h.names) (semicolon_spaced, tt) in
    let depth : AllByRecursion IsSpacedWord (depth_words text d.depth ++ (codes ">" ∷ (name_words text n d.names ++ codes ";" ∷ []))) =
    all_both IsSpacedWord (depth_words text d.depth) (codes ">" ∷ (name_words text n d.names ++ codes ";" ∷ [])) (depth_spaced text d.depth h.depth) (greater_spaced, names) in
    (tapa_spaced, (scope_spaced, (stream_spaced, (less_spaced, all_both IsSpacedWord (words_of text d.element) _ (texts_spaced text d.element h.element) depth))))

-- the words of a declaration end with a semicolon
pub declared_ends : (text : Bytes) (d : Declaration) (n : ℕ) → Ends (declaration_words text d n) (codes ";")
declared_ends text d n =
    ends_behind (codes "tapa" ∷ codes "::" ∷ codes "stream" ∷ codes "<" ∷ []) _ (codes ";")
    (ends_behind (words_of text d.element) _ (codes ";")
    (ends_behind (depth_words text d.depth) _ (codes ";")
    (ends_behind (codes ">" ∷ []) _ (codes ";")
    (ends_behind (name_words text n d.names) (codes ";" ∷ []) (codes ";") (ends_one (codes ";"))))))
