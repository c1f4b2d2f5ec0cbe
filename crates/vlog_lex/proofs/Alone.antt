-- Words that stand alone: each is a word of a text where a blank or the text's end is behind it.
use Rattle.std.proofs.Common.{◌≡◌, ◌⊎◌, inl, inr, ℕ, ◌<◌, ◌^◌, Bool, true, false, not, ◌&&◌, [], ◌∷◌, ◌++◌, codes, decimal, refl, ap, ◌∙◌}
use Rattle.std.specs.Bool.{⊤}
use Rattle.std.specs.Str.Parse.{IsNumeral}
use Rattle.std.proofs.lemmas.Fmt.{decimal_is_IsNumeral_wide}
use Rattle.std.proofs.lemmas.List.{append_assoc}
use Rattle.vlog_tree.specs.Names.{IsName, has_name_form, starts_name, goes_on}
use Rattle.vlog_tree.specs.Spelling.{Word}
use Rattle.vlog_lex.specs.Numerals.{Sized, sized_word, IsSized, IsNumber, IsLiteral}
use Rattle.tapa_base.specs.Gaps.{Bytes, begins}
use Rattle.vlog_lex.specs.Lexemes.{is_digit_of, makes_literal, is_sign, is_sign_or_mark, IsWord}
use Rattle.std.specs.Prelude.{not}
use Rattle.tapa_base.proofs.Tests.{not_so as not_true}

pub both : (a b : Bool) → a && b ≡ true → (a ≡ true) × (b ≡ true)
both true b h = (refl, h)
both false b h = absurd cc

-- nothing follows, or a blank or a line feed
abbrev pub IsApart : Bytes → Type 0
IsApart [] = ⊤
IsApart (b ∷ z) = (b ≡ 32) ⊎ (b ≡ 10)

pub record StandsAlone (w : Word) : Type 0 where
  pub on : (rest : Bytes) → IsApart rest → IsWord w rest

apart_from : (class : ℕ → Bool) (rest : Bytes) → class 32 ≡ false → class 10 ≡ false → IsApart rest → begins class rest ≡ false
apart_from class [] blank feed h = refl
apart_from class (b ∷ z) blank feed (inl e) = ap class e ∙ blank
apart_from class (b ∷ z) blank feed (inr e) = ap class e ∙ feed

no_literal : (rest : Bytes) → IsApart rest → makes_literal rest ≡ false
no_literal [] h = refl
no_literal (a ∷ []) h = refl
no_literal (a ∷ b ∷ []) h = refl
no_literal (a ∷ b ∷ c ∷ z) (inl e) = rw e
no_literal (a ∷ b ∷ c ∷ z) (inr e) = rw e

pub name_form_alone : (w : Word) → has_name_form w ≡ true → StandsAlone w
unfolding goes_on starts_name
name_form_alone w h = record { on = λ rest a. inl (record { form = h; longest = apart_from goes_on rest refl refl a }) }

pub name_alone : (x : Word) → IsName x → StandsAlone x
name_alone x h = name_form_alone x (both (has_name_form x) _ h).0

pub number_alone : (w : Word) → IsNumeral 10 w → StandsAlone w
number_alone w h = record { on = λ rest a. inr (inl (record { numeral = h; longest = apart_from (is_digit_of 10) rest refl refl a; plain = no_literal rest a })) }

-- a sign that a blank or a line feed makes no longer
unfoldable pub is_fixed_sign : Word → Bool
is_fixed_sign w = is_sign w && not (is_sign_or_mark (w ++ 32 ∷ [])) && not (is_sign_or_mark (w ++ 10 ∷ []))

pub sign_alone : (w : Word) → is_fixed_sign w ≡ true → StandsAlone w
unfolding is_fixed_sign
sign_alone w h =
    let k = both _ _ h in
    record {
      on = λ rest a. inr (inr (inr (record {
        sign = (both (is_sign w) _ k.0).0;
        longest = apart_from (λ b. is_sign_or_mark (w ++ b ∷ [])) rest (not_true _ (both (is_sign w) _ k.0).1) (not_true _ k.1) a;
      })));
    }

-- ---- numbers as the printer writes them

pub decimal_number : (n : ℕ) → n < 10 ^ 64 → IsNumber n (decimal n)
decimal_number n small = decimal_is_IsNumeral_wide n small

pub decimal_alone : (n : ℕ) → n < 10 ^ 64 → StandsAlone (decimal n)
decimal_alone n small = number_alone (decimal n) (decimal_number n small).0

abbrev parts : ℕ → ℕ → Sized
parts width value = record { size = decimal width; letter = 100; digits = decimal value }

abbrev pub written : ℕ → ℕ → Word
written width value = decimal width ++ codes "'d" ++ decimal value

parted : (width value : ℕ) → written width value ≡ sized_word (parts width value)
parted width value = append_assoc (decimal width) (codes "'d") (decimal value)

module _ (width value : ℕ) (narrow : width < 10 ^ 64) (small : value < 10 ^ 64) where
  sized : IsSized (parts width value)
  sized = ((decimal_number width narrow).0, (decimal_number value small).0)

  pub written_literal : IsLiteral width value (written width value)
  written_literal = (parts width value, sized, parted width value, (decimal_number width narrow).1, (decimal_number value small).1)

  pub written_alone : StandsAlone (written width value)
  written_alone = record { on = λ rest a. inr (inr (inl (record { parts = parts width value; is = parted width value; sized = sized; longest = apart_from (is_digit_of 10) rest refl refl a }))) }
