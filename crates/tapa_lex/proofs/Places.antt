-- A cursor behind more bytes.
use Rattle.std.proofs.Common.{◌≡◌, ℕ, ◌+◌, ◌<◌, Bool, true, false, ◌&&◌, [], ◌∷◌, ◌++◌, append_assoc, length, take, get_or, refl, sym, ap, ◌∙◌, arith, nat_eq}
use Rattle.std.specs.List.{list_all}
use Rattle.std.proofs.lemmas.List.{length-append, take_more}
use Rattle.std.proofs.lemmas.List.Folds.{list_all-append}
use Rattle.tapa_base.specs.Gaps.{Bytes, is_blank}
use Rattle.tapa_syntax.specs.Characters.{last_line}
use Rattle.tapa_syntax.proofs.Places.{line_after_feed, line_after_byte, place_after_feed, place_after_byte}
use Rattle.tapa_lex.specs.declared.cursor.Cursor.{Cursor}
use Rattle.tapa_lex.specs.Standing.{IsBehind}

pub behind_feed : (before : Bytes) (b : ℕ) (cursor : Cursor) → nat_eq b 10 ≡ true → IsBehind before cursor
    → IsBehind (before ++ b ∷ []) (record { at = cursor.at + 1; place = record { line = cursor.place.line + 1; col = 1 }; opens = true })
behind_feed before b cursor e h =
    record {
      at = omega (arith, length-append before (b ∷ []), h.at);
      place = place_after_feed before b cursor.place.line cursor.place.col e h.place;
      opens = sym (ap (list_all is_blank) (line_after_feed before b e));
    }

pub behind_byte : (before : Bytes) (b : ℕ) (cursor : Cursor) (opens : Bool) → nat_eq b 10 ≡ false → opens ≡ (cursor.opens && is_blank b) → IsBehind before cursor
    → IsBehind (before ++ b ∷ []) (record { at = cursor.at + 1; place = record { line = cursor.place.line; col = cursor.place.col + 1 }; opens = opens })
behind_byte before b cursor opens e is h =
    record {
      at = omega (arith, length-append before (b ∷ []), h.at);
      place = place_after_byte before b cursor.place.line cursor.place.col e h.place;
      opens = is ∙ ap (λ (o : Bool). o && is_blank b) h.opens ∙ and_one (list_all is_blank (last_line before)) (is_blank b) ∙ sym (list_all-append is_blank (last_line before) (b ∷ [])) ∙ ap (list_all is_blank) (sym (line_after_byte before b e));
    }
  where
    and_one : (s t : Bool) → s && t ≡ (s && (t && true))
    and_one true true = refl
    and_one true false = refl
    and_one false t = refl

pub behind_more : (before z : Bytes) (i : ℕ) → i < length z → (before ++ take i z) ++ (get_or z i 0 ∷ []) ≡ before ++ take (i + 1) z
behind_more before z i lt = append_assoc before (take i z) (get_or z i 0 ∷ []) ∙ ap (λ (y : Bytes). before ++ y) (sym (take_more z i 0 lt))
