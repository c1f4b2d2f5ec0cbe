-- Comments, skipped lines, strings and words: what is cut stands, and what stands is cut.
use Rattle.std.proofs.Common.{◌≡◌, ℕ, zero, suc, ◌+◌, ◌<◌, ◌≤◌, Bool, true, false, ◌⊎◌, inl, inr, ⊎_elim, [], ◌∷◌, ◌++◌, append_assoc, length, take, drop, get_or, refl, sym, ap, subst, ◌∙◌, arith, nat_eq, add-one, eqb-true}
use Rattle.std.specs.Prelude.{codes}
use Rattle.std.specs.List.{list_all}
use Rattle.std.proofs.lemmas.Bool.{or_cases}
use Rattle.std.proofs.lemmas.List.{take_at, drop_at, get_or_at, take_more}
use Rattle.std.specs.Str.{bytes_eq}
use Rattle.std.proofs.lemmas.Slice.Eq.{bytes_eq-Decides}
use Rattle.tapa_base.specs.Gaps.{Bytes, is_in_line, begins, EndsLine}
use Rattle.tapa_syntax.specs.Characters.{is_word_byte, is_plain, run, opens_line}
use Rattle.tapa_syntax.specs.Lexemes.{is_inner_blank, IsSkippedLine, IsWord, IsString}
use Rattle.tapa_lex.specs.Reading.{first_word, is_known}
use Rattle.tapa_syntax.proofs.Runs.{run_passes, run_stops, run_some, run_is, begins_take, begins_taken, begins_append, run_split, take_both}
use Rattle.tapa_lex.proofs.Bytes.{word_in_line, inner_in_line, ends_word}

-- ---- words

pub word_stands : (first : ℕ → Bool) (z : Bytes) → begins first z ≡ true → begins is_word_byte z ≡ true → IsWord first (take (run is_word_byte z) z) (drop (run is_word_byte z) z)
word_stands first z h w = record { begun = begins_taken first (run is_word_byte z) z (run_some is_word_byte z w) h; word = run_passes is_word_byte z; longest = run_stops is_word_byte z }

pub word_run : (first : ℕ → Bool) (bytes rest : Bytes) → IsWord first bytes rest → run is_word_byte (bytes ++ rest) ≡ length bytes
word_run first bytes rest h = run_is is_word_byte bytes rest h.word h.longest

-- ---- strings

pub string_stands : (y : Bytes) → nat_eq (get_or y (run is_plain y) 0) 34 ≡ true → IsString (take (run is_plain y + 2) (34 ∷ y)) × (run is_plain y + 2 ≤ length (34 ∷ y))
string_stands y h =
    let n = run is_plain y in
    let quote : get_or y n 0 ≡ 34 = eqb-true (get_or y n 0) 34 h in
    let lt : n < length y = inside y n quote in
    let two : n + 2 ≡ suc (n + 1) = omega arith in
    ((take n y, rw (two, take_more y n 0 lt, quote) refl, run_passes is_plain y), omega arith)
  where
    inside : (z : Bytes) (n : ℕ) → get_or z n 0 ≡ 34 → n < length z
    inside [] n e = absurd (omega arith)
    inside (b ∷ z) zero e = omega arith
    inside (b ∷ z) (suc n) e = omega (arith, inside z n e)

-- a string that stands, from its body on
pub string_run : (body rest : Bytes) → list_all is_plain body ≡ true → run is_plain ((body ++ 34 ∷ []) ++ rest) ≡ length body
string_run body rest h = ap (run is_plain) (append_assoc body (34 ∷ []) rest) ∙ run_is is_plain body (34 ∷ rest) h refl

pub string_ends : (body rest : Bytes) → get_or ((body ++ 34 ∷ []) ++ rest) (length body) 0 ≡ 34
string_ends body rest = ap (λ (l : Bytes). get_or l (length body) 0) (append_assoc body (34 ∷ []) rest) ∙ get_or_at body 34 rest 0 (length body) refl

-- ---- skipped lines

first_word_is : (y : Bytes) → first_word (35 ∷ y) ≡ take (run is_word_byte (drop (run is_inner_blank y) y)) (drop (run is_inner_blank y) y)
unfolding first_word
first_word_is y = rw (add-one (run is_inner_blank y)) refl

known_word : (w : Bytes) → is_known w ≡ true → (w ≡ codes "include") ⊎ (w ≡ codes "pragma")
known_word w h =
    ⊎_elim
    (λ (e : bytes_eq w (codes "include") ≡ true). inl ((bytes_eq-Decides w (codes "include")).0 e))
    (λ (e : bytes_eq w (codes "pragma") ≡ true). inr ((bytes_eq-Decides w (codes "pragma")).0 e))
    (or_cases (bytes_eq w (codes "include")) (bytes_eq w (codes "pragma")) h)

pub skipped_stands : (before y : Bytes) → opens_line before ≡ true → is_known (first_word (35 ∷ y)) ≡ true → IsSkippedLine before (take (run is_in_line (35 ∷ y)) (35 ∷ y)) (drop (run is_in_line (35 ∷ y)) (35 ∷ y))
skipped_stands before y opens known =
    let g = run is_inner_blank y in
    let t = drop g y in
    let m = run is_word_byte t in
    let u = drop m t in
    let k = run is_in_line u in
    let whole : run is_in_line y ≡ g + (m + k) = run_split is_in_line is_inner_blank inner_in_line y ∙ ap (λ x. g + x) (run_split is_in_line is_word_byte word_in_line t) in
    let parts : take (run is_in_line y) y ≡ take g y ++ (take m t ++ take k u) = ap (λ x. take x y) whole ∙ take_both g (m + k) y ∙ ap (λ (l : Bytes). take g y ++ l) (take_both m k t) in
    record {
      blanks = take g y;
      word = take m t;
      more = take k u;
      is = rw (add-one (run is_in_line y)) (ap (λ (l : Bytes). 35 ∷ l) parts);
      first = opens;
      blank = run_passes is_inner_blank y;
      known = known_word (take m t) (subst (λ (w : Bytes). is_known w ≡ true) (first_word_is y) known);
      longest = begins_take is_word_byte k u (run_stops is_word_byte t);
      one_line = run_passes is_in_line (35 ∷ y);
      ends = run_stops is_in_line (35 ∷ y);
    }

first_word_of : (blanks word tail : Bytes) → list_all is_inner_blank blanks ≡ true → begins is_inner_blank (word ++ tail) ≡ false → list_all is_word_byte word ≡ true → begins is_word_byte tail ≡ false → first_word (35 ∷ (blanks ++ (word ++ tail))) ≡ word
first_word_of blanks word tail blank ends all longest =
    let g : run is_inner_blank (blanks ++ (word ++ tail)) ≡ length blanks = run_is is_inner_blank blanks (word ++ tail) blank ends in
    let t : drop (run is_inner_blank (blanks ++ (word ++ tail))) (blanks ++ (word ++ tail)) ≡ word ++ tail = drop_at blanks (word ++ tail) _ (sym g) in
    let m : run is_word_byte (word ++ tail) ≡ length word = run_is is_word_byte word tail all longest in
    first_word_is (blanks ++ (word ++ tail)) ∙ ap (λ (l : Bytes). take (run is_word_byte l) l) t ∙ take_at word tail _ (sym m)

rest_ends : (rest : Bytes) → EndsLine rest → begins is_word_byte rest ≡ false
rest_ends [] h = refl
rest_ends (b ∷ rest) h = ends_word b h

-- what is known of a word that is known
record IsKnownWord (word : Bytes) : Type 0 where
  all : list_all is_word_byte word ≡ true
  apart : (tail : Bytes) → begins is_inner_blank (word ++ tail) ≡ false
  known : is_known word ≡ true

known_is : (word : Bytes) → (word ≡ codes "include") ⊎ (word ≡ codes "pragma") → IsKnownWord word
known_is word h =
    ⊎_elim
    (λ (e : word ≡ codes "include"). subst IsKnownWord (sym e) (record { all = refl; apart = λ tail. refl; known = refl }))
    (λ (e : word ≡ codes "pragma"). subst IsKnownWord (sym e) (record { all = refl; apart = λ tail. refl; known = refl }))
    h

pub skipped_word : (before bytes rest : Bytes) → IsSkippedLine before bytes rest → is_known (first_word (bytes ++ rest)) ≡ true
skipped_word before bytes rest h =
    let w = known_is h.word h.known in
    let tail = h.more ++ rest in
    let same : bytes ++ rest ≡ 35 ∷ (h.blanks ++ (h.word ++ tail)) = ap (λ (l : Bytes). l ++ rest) h.is ∙ ap (λ (l : Bytes). 35 ∷ l) (append_assoc h.blanks (h.word ++ h.more) rest ∙ ap (λ (l : Bytes). h.blanks ++ l) (append_assoc h.word h.more rest)) in
    let found : first_word (bytes ++ rest) ≡ h.word = ap first_word same ∙ first_word_of h.blanks h.word tail h.blank (w.apart tail) w.all (begins_append is_word_byte h.more rest h.longest (rest_ends rest h.ends)) in
    subst (λ (l : Bytes). is_known l ≡ true) (sym found) w.known

pub skipped_run : (before bytes rest : Bytes) → IsSkippedLine before bytes rest → run is_in_line (bytes ++ rest) ≡ length bytes
skipped_run before bytes rest h = run_is is_in_line bytes rest h.one_line h.ends
