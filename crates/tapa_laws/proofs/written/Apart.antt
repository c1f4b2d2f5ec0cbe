-- Where a lexeme begins with no letter and no digit, what is behind the lexeme before it begins with none.
use Rattle.std.proofs.Common.{◌≡◌, ℕ, ◌+◌, ◌<◌, true, false, inl, inr, List, [], ◌∷◌, ◌++◌, append_assoc, length, drop, Option, Some, None, refl, sym, subst, arith}
use Rattle.std.proofs.lemmas.Bool.Decides.{nat_tests}
use Rattle.std.proofs.lemmas.List.{length-append, drop_at}
use Rattle.tapa_base.specs.Gaps.{Bytes, begins, is_blank}
use Rattle.tapa_syntax.specs.declared.lexeme.LexKind.{LexKind}
use Rattle.tapa_syntax.specs.declared.lexeme.Lexeme.{Lexeme}
use Rattle.tapa_syntax.specs.Characters.{is_word_byte, place_of}
use Rattle.tapa_syntax.specs.Lexemes.{Piece, IsGap, Stands, StandInTurn, text_of, lexeme_of, lexemes_of}
use Rattle.tapa_syntax.specs.Symbols as symbols
use Rattle.tapa_lex.proofs.Cuts.{is_some}
use Rattle.tapa_lex.proofs.Whole.{slices_are}
use Rattle.stream_arrays.proofs.FormFeeds.{AreSliced}
use Rattle.tapa_laws.proofs.written.Terminals.{lexeme_is, from_lexeme}

-- what is behind a place begins with no byte of a word where the next lexeme does so
abbrev pub EndsBefore : Bytes → ℕ → List Lexeme → Type 0
EndsBefore text at [] = Unit {0}
EndsBefore text at (l ∷ ls) = begins is_word_byte (symbols.text_of text l) ≡ false → begins is_word_byte (drop at text) ≡ false

abbrev pub AreApart : Bytes → List Lexeme → Type 0
AreApart text [] = Unit {0}
AreApart text (l ∷ ls) = EndsBefore text l.to ls × AreApart text ls

-- ---- from the pieces of a text

pub blank_no_word : (b : ℕ) → is_blank b ≡ true → is_word_byte b ≡ false
blank_no_word b h = grind (arith, nat_tests)

gap_no_word : (before bytes rest z : Bytes) → IsGap before bytes rest → begins is_word_byte (bytes ++ z) ≡ false
gap_no_word before bytes rest z (inl h) = subst (λ (l : Bytes). begins is_word_byte (l ++ z) ≡ false) (sym h.1) (blank_no_word h.0 h.2)
gap_no_word before bytes rest z (inr (inl h)) = subst (λ (l : Bytes). begins is_word_byte (l ++ z) ≡ false) (sym h.1) refl
gap_no_word before bytes rest z (inr (inr (inl h))) = subst (λ (l : Bytes). begins is_word_byte (l ++ z) ≡ false) (sym h.1) refl
gap_no_word before bytes rest z (inr (inr (inr h))) = subst (λ (l : Bytes). begins is_word_byte (l ++ z) ≡ false) (sym h.is) refl

begins_first : (bytes z : Bytes) → 0 < length bytes → begins is_word_byte bytes ≡ false → begins is_word_byte (bytes ++ z) ≡ false
begins_first [] z some h = absurd (omega arith)
begins_first (b ∷ w) z some h = h

ends_always : (text : Bytes) (at : ℕ) (ls : List Lexeme) → begins is_word_byte (drop at text) ≡ false → EndsBefore text at ls
ends_always text at [] h = tt
ends_always text at (l ∷ ls) h = λ e. h

abbrev pub Apart : Bytes → ℕ → List Lexeme → Type 0
Apart text at ls = AreApart text ls × EndsBefore text at ls

pub apart_from : (before : Bytes) (ps : List Piece) → StandInTurn before ps [] → Apart (before ++ text_of ps []) (length before) (lexemes_of before ps)
apart_from before [] h = (tt, tt)
apart_from before (p ∷ ps) h =
    with_first p.sort h.0 (slices_are before (p ∷ ps) h)
    (subst (λ (x : Bytes). Apart x (length (before ++ p.bytes)) (lexemes_of (before ++ p.bytes) ps)) (append_assoc before p.bytes (text_of ps [])) (apart_from (before ++ p.bytes) ps h.1))
  where
    with_first : (s : Option LexKind) → Stands before s p.bytes (text_of ps []) → AreSliced (before ++ (p.bytes ++ text_of ps [])) (lexeme_of before s p.bytes ++ lexemes_of (before ++ p.bytes) ps)
        → Apart (before ++ (p.bytes ++ text_of ps [])) (length (before ++ p.bytes)) (lexemes_of (before ++ p.bytes) ps)
        → Apart (before ++ (p.bytes ++ text_of ps [])) (length before) (lexeme_of before s p.bytes ++ lexemes_of (before ++ p.bytes) ps)
    with_first None st sliced more = (
      more.0,
      ends_always (before ++ (p.bytes ++ text_of ps [])) (length before) (lexemes_of (before ++ p.bytes) ps)
          (subst (λ (z : Bytes). begins is_word_byte z ≡ false) (sym (drop_at before (p.bytes ++ text_of ps []) (length before) refl)) (gap_no_word before p.bytes (text_of ps []) (text_of ps []) st)),
    )
    with_first (Some k) st sliced more =
        let text : Bytes = before ++ (p.bytes ++ text_of ps []) in
        let l : Lexeme = record { kind = k; from = length before; to = length before + length p.bytes; place = place_of before } in (
          (subst (λ (n : ℕ). EndsBefore text n (lexemes_of (before ++ p.bytes) ps)) (length-append before p.bytes) more.1, more.0),
          λ e. subst (λ (z : Bytes). begins is_word_byte z ≡ false) (sym (from_lexeme text l sliced.0))
              (begins_first (symbols.text_of text l) (drop l.to text) (is_some [] (Some k) (symbols.text_of text l) (drop l.to text) (lexeme_is text l sliced.0)) e),
        )
