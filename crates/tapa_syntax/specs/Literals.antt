-- Integer literals, their kinds and their values (ISO C++ [lex.icon]).
use Rattle.std.specs.Prelude.{◌+◌, ◌-◌, ◌*◌, ◌^◌, ◌&&◌, ◌||◌, if◌then◌else◌, ◌==◌, ◌∷◌}
use Rattle.std.specs.Prelude.{ℕ, Bool, true, false, nat_lt, nat_le, List, [], take, drop, slice_index, Option, Some, None}
use Rattle.tapa_base.specs.declared.kind.Kind.{Kind}
use Rattle.tapa_base.specs.declared.kind.Kind.TheVariants.{I32, U32, I64, U64}
use Rattle.tapa_base.specs.Kinds.{bits_of, is_signed}
use Rattle.tapa_base.specs.Gaps.{Bytes}
use Rattle.tapa_syntax.specs.Characters.{is_digit, run}

-- what a digit is worth, in any base up to 16; 16 for a byte that is none
abbrev pub worth : ℕ → ℕ
worth b =
    if is_digit b then b - 48
    else (if nat_le 97 b && nat_le b 102 then b - 87
    else (if nat_le 65 b && nat_le b 70 then b - 55 else 16))

abbrev pub is_digit_of : ℕ → ℕ → Bool
is_digit_of base b = nat_lt (worth b) base

-- the value of digits that follow digits of value n
unfoldable pub value_behind : ℕ → ℕ → Bytes → ℕ
value_behind base n [] = n
value_behind base n (b ∷ z) = value_behind base (n * base + worth b) z

-- ---- suffixes

abbrev pub is_u : ℕ → Bool
is_u b = b == 117 || b == 85

abbrev pub is_l : ℕ → Bool
is_l b = b == 108 || b == 76

-- whether a suffix has a `u`, and whether it has an `l` or `ll`
abbrev pub Suffix : Type 0
Suffix = Bool × Bool

abbrev pub suffix_of_one : ℕ → Option Suffix
suffix_of_one a = if is_u a then Some (true, false) else (if is_l a then Some (false, true) else None)

-- ul, lu or ll
abbrev pub suffix_of_two : ℕ → ℕ → Option Suffix
suffix_of_two a b = if (is_u a && is_l b) || (is_l a && is_u b) then Some (true, true) else (if is_l a && a == b then Some (false, true) else None)

-- ull or llu; the letters of `ll` are of one case
abbrev pub suffix_of_three : ℕ → ℕ → ℕ → Option Suffix
suffix_of_three a b c = if (is_u a && is_l b && b == c) || (is_l a && a == b && is_u c) then Some (true, true) else None

unfoldable pub suffix_of : Bytes → Option Suffix
suffix_of [] = Some (false, false)
suffix_of (a ∷ []) = suffix_of_one a
suffix_of (a ∷ b ∷ []) = suffix_of_two a b
suffix_of (a ∷ b ∷ c ∷ []) = suffix_of_three a b c
suffix_of (a ∷ b ∷ c ∷ d ∷ z) = None

-- ---- kinds

-- the kinds that a literal may have, by whether it is decimal and by its suffix, the first choice first
abbrev pub kinds_for : Bool → Suffix → List Kind
kinds_for decimal (true, true) = U64 ∷ []
kinds_for decimal (true, false) = U32 ∷ U64 ∷ []
kinds_for true (false, true) = I64 ∷ []
kinds_for false (false, true) = I64 ∷ U64 ∷ []
kinds_for true (false, false) = I32 ∷ I64 ∷ []
kinds_for false (false, false) = I32 ∷ U32 ∷ I64 ∷ U64 ∷ []

-- a kind has the number n among its values
abbrev pub holds : Kind → ℕ → Bool
holds kind n = nat_lt n (2 ^ (bits_of kind - (if is_signed kind then 1 else 0)))

unfoldable pub first_that_holds : ℕ → List Kind → Option Kind
first_that_holds n [] = None
first_that_holds n (k ∷ ks) = if holds k n then Some k else first_that_holds n ks

-- ---- literals

-- 16 after `0x`, 2 after `0b`, 8 after another 0, else 10
abbrev pub base_of : Bytes → ℕ
base_of word =
    if slice_index word 0 == 48 then
    (let mark = slice_index word 1 in
    if mark == 120 || mark == 88 then 16 else (if mark == 98 || mark == 66 then 2 else 8))
    else 10

-- the digits and the suffix, without `0x` or `0b`
abbrev pub behind_mark : Bytes → Bytes
behind_mark word = if base_of word == 16 || base_of word == 2 then drop 2 word else word

abbrev pub with_kind : ℕ → Option Kind → Option (Kind × ℕ)
with_kind n None = None
with_kind n (Some kind) = Some (kind, n)

abbrev pub with_suffix : ℕ → ℕ → Option Suffix → Option (Kind × ℕ)
with_suffix base n None = None
with_suffix base n (Some suffix) = with_kind n (first_that_holds n (kinds_for (base == 10) suffix))

-- the longest run of digits of the base, at least one, and then the suffix
abbrev pub literal_in : ℕ → Bytes → Option (Kind × ℕ)
literal_in base body =
    let digits = run (is_digit_of base) body in
    if digits == 0 then None else with_suffix base (value_behind base 0 (take digits body)) (suffix_of (drop digits body))

-- the kind and the value of a word, where it is a literal and some kind holds its value
unfoldable pub literal_of : Bytes → Option (Kind × ℕ)
literal_of word = literal_in (base_of word) (behind_mark word)
