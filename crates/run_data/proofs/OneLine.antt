-- Each line of a report has one end of line, at its end.
use Rattle.std.proofs.Common.{◌≡◌, ℕ, zero, suc, ◌+◌, ◌/◌, ◌%◌, List, [], ◌∷◌, ◌++◌, Bool, true, false, ◌&&◌, refl, sym, subst, append_assoc, arith}
use Rattle.std.specs.Prelude.{◌≢◌, ◌==◌, if◌then◌else◌, codes, decimal, nat_lt, not}
use Rattle.std.specs.Fmt.{digits, digits_onto, digit_glyph}
use Rattle.std.specs.List.{list_all}
use Rattle.std.proofs.lemmas.List.Elements.{All-nil, All-cons, All-append}
use Rattle.tapa_base.specs.declared.token.Token.{Token}
use Rattle.tapa_base.specs.declared.token.Token.TheVariants.{Datum, Eot}
use Rattle.run_data.specs.declared.lines.Last.{Last}
use Rattle.run_data.specs.declared.lines.Last.TheVariants.{Done, Stopped, Running}
use Rattle.run_data.specs.Report.{number_text, token_text, tokens_text, numbers_text, last_line, HasNoLf, IsOneLine}
use Rattle.tapa_base.proofs.Tests.{both_true}

abbrev NotLf : ℕ → Type 0
NotLf b = b ≢ 10

differs : (x : ℕ) → not (x == 10) ≡ true → NotLf x
differs x h = λ e. let g : not (10 == 10) ≡ true = subst (λ y. not (y == 10) ≡ true) e h in absurd (cc)

by_test : (xs : List ℕ) → list_all (λ b. not (b == 10)) xs ≡ true → HasNoLf xs
by_test [] h = All-nil NotLf
by_test (x ∷ xs) h =
    let both = both_true (not (x == 10)) (list_all (λ b. not (b == 10)) xs) h in
    All-cons NotLf x xs (differs x both.0) (by_test xs both.1)

-- a number
if_not : (b : Bool) (x y : ℕ) → NotLf x → NotLf y → NotLf (if b then x else y)
if_not true x y p q = p
if_not false x y p q = q

if_none : (b : Bool) (xs ys : List ℕ) → HasNoLf xs → HasNoLf ys → HasNoLf (if b then xs else ys)
if_none true xs ys p q = p
if_none false xs ys p q = q

glyph : (d : ℕ) → NotLf (digit_glyph false d)
glyph d = if_not (nat_lt d 10) (48 + d) (87 + d) (λ e. omega arith) (λ e. omega arith)

onto : (k n : ℕ) (acc : List ℕ) → HasNoLf acc → HasNoLf (digits_onto k 10 false n acc)
onto zero n acc h = h
onto (suc k) n acc h =
    let more = All-cons NotLf (digit_glyph false (n % 10)) acc (glyph (n % 10)) h in
    if_none (n / 10 == 0) (digit_glyph false (n % 10) ∷ acc) (digits_onto k 10 false (n / 10) (digit_glyph false (n % 10) ∷ acc)) more (onto k (n / 10) (digit_glyph false (n % 10) ∷ acc) more)

decimal_none : (n : ℕ) → HasNoLf (decimal n)
unfolding digits
decimal_none n = onto 64 n [] (All-nil NotLf)

number_none : (n : ℕ) → HasNoLf (number_text n)
number_none n = All-cons NotLf 32 (decimal n) (λ e. omega arith) (decimal_none n)

-- tokens and cells
token_none : (t : Token) → HasNoLf (token_text t)
token_none (Datum n) = number_none n
token_none Eot = by_test (codes " eot") refl

pub tokens_none : (ts : List Token) → HasNoLf (tokens_text ts)
tokens_none [] = All-nil NotLf
tokens_none (t ∷ ts) = All-append NotLf (token_text t) (tokens_text ts) (token_none t) (tokens_none ts)

pub numbers_none : (ns : List ℕ) → HasNoLf (numbers_text ns)
numbers_none [] = All-nil NotLf
numbers_none (n ∷ ns) = All-append NotLf (number_text n) (numbers_text ns) (number_none n) (numbers_none ns)

-- lines
pub stream_word : HasNoLf (codes "stream ")
stream_word = by_test (codes "stream ") refl

pub memory_word : HasNoLf (codes "memory ")
memory_word = by_test (codes "memory ") refl

pub line_is : (line front begun word name rest : List ℕ) → line ≡ front ++ 10 ∷ [] → front ≡ begun ++ rest → begun ≡ word ++ (name ++ codes ":") → HasNoLf word → HasNoLf name → HasNoLf rest → IsOneLine line
line_is line front begun word name rest el ef eb w n r =
    let named : HasNoLf (word ++ (name ++ codes ":")) = All-append NotLf word (name ++ codes ":") w (All-append NotLf name (codes ":") n (by_test (codes ":") refl)) in
    let all : HasNoLf (begun ++ rest) = All-append NotLf begun rest (subst HasNoLf (sym eb) named) r in
    (front, el, subst HasNoLf (sym ef) all)

ended : (word : List ℕ) (n : ℕ) → HasNoLf word → IsOneLine (word ++ (decimal n ++ 10 ∷ []))
ended word n w = (word ++ decimal n, sym (append_assoc word (decimal n) (10 ∷ [])), All-append NotLf word (decimal n) w (decimal_none n))

pub last_is_line : (last : Last) → IsOneLine (last_line last)
last_is_line (Done n) = ended (codes "done ") n (by_test (codes "done ") refl)
last_is_line (Stopped n) = ended (codes "stopped ") n (by_test (codes "stopped ") refl)
last_is_line (Running n) = ended (codes "running ") n (by_test (codes "running ") refl)
