-- Words as slices of a text, and the pieces before each.
use Rattle.std.proofs.Common.{◌≡◌, ℕ, zero, suc, ◌+◌, ◌<◌, Bool, true, false, cond, ◌&&◌, List, [], ◌∷◌, ◌++◌, append_assoc, length, take, drop, refl, sym, ap, subst, ◌∙◌, arith}
use Rattle.std.specs.Prelude.{nat_le, slice_range}
use Rattle.std.proofs.lemmas.Bool.{le-leb}
use Rattle.std.proofs.lemmas.List.{length-append}
use Rattle.vlog_tree.specs.Spelling.{Word}
use Rattle.tapa_base.specs.Gaps.{Bytes}
use Rattle.vlog_lex.specs.Lexemes.{Piece, gap, word, Stands, IsWord, text_of, StandInTurn, words_of}
use Rattle.vlog_lex.specs.declared.lexer.Lexeme.{Lexeme}
use Rattle.vlog_lex.specs.Scanned.{word_of, words_at, slices_of}
use Rattle.vlog_read.specs.Texts.{refused_at}

dropped : (a b : Bytes) → drop (length a) (a ++ b) ≡ b
dropped [] [] = refl
dropped [] (x ∷ b) = refl
dropped (x ∷ a) b = dropped a b

pub taken : (a b : Bytes) → take (length a) (a ++ b) ≡ a
taken [] [] = refl
taken [] (x ∷ b) = refl
taken (x ∷ a) b = ap (λ (l : Bytes). x ∷ l) (taken a b)

-- bytes that stand behind others in a text are the word there
pub sliced : (before bytes rest : Bytes) → word_of (before ++ (bytes ++ rest)) (record { from = length before; to = length before + length bytes }) ≡ bytes
unfolding word_of
sliced before bytes rest =
    let text = before ++ (bytes ++ rest) in
    let long : length text ≡ length before + (length bytes + length rest) = length-append before (bytes ++ rest) ∙ ap (λ n. length before + n) (length-append bytes rest) in
    ap (λ b. cond b (slice_range text (length before) (length before + length bytes)) []) (both (nat_le (length before) (length before + length bytes)) (nat_le (length before + length bytes) (length text)) (le-leb _ _ (omega arith)) (le-leb _ _ (omega (arith, long))))
    ∙ ap (λ n. take n (drop (length before) text)) (omega arith) ∙ ap (take (length bytes)) (dropped before (bytes ++ rest)) ∙ taken bytes rest
  where
    both : (a b : Bool) → a ≡ true → b ≡ true → (a && b) ≡ true
    both true true e f = refl
    both true false e f = cc
    both false b e f = cc

-- the slices of pieces are their words
pub told_words : (ps : List Piece) (before rest text : Bytes) → text ≡ before ++ text_of ps rest → words_at text (slices_of (length before) ps) ≡ words_of ps
told_words [] before rest text e = refl
told_words (gap bytes ∷ ps) before rest text e =
    ap (λ n. words_at text (slices_of n ps)) (sym (length-append before bytes)) ∙ told_words ps (before ++ bytes) rest text (e ∙ sym (append_assoc before bytes (text_of ps rest)))
told_words (word bytes ∷ ps) before rest text e =
    let first : word_of text (record { from = length before; to = length before + length bytes }) ≡ bytes = ap (λ t. word_of t (record { from = length before; to = length before + length bytes })) e ∙ sliced before bytes (text_of ps rest) in
    let more : words_at text (slices_of (length before + length bytes) ps) ≡ words_of ps =
    ap (λ n. words_at text (slices_of n ps)) (sym (length-append before bytes)) ∙ told_words ps (before ++ bytes) rest text (e ∙ sym (append_assoc before bytes (text_of ps rest))) in
    ap (λ w. w ∷ words_at text (slices_of (length before + length bytes) ps)) first ∙ ap (λ (l : List Word). bytes ∷ l) more

-- the word behind so many, with the pieces on its both sides
pub record IsParted (ps : List Piece) (rest : Bytes) (k at : ℕ) (slices : List Lexeme) (end : ℕ) : Type 0 where
  pub before : List Piece
  pub bytes : Word
  pub after : List Piece
  pub standing : StandInTurn before (bytes ++ text_of after rest)
  pub stands : IsWord bytes (text_of after rest)
  pub is : text_of before (bytes ++ text_of after rest) ≡ text_of ps rest
  pub words : words_of before ≡ take k (words_of ps)
  pub next : take (k + 1) (words_of ps) ≡ words_of before ++ bytes ∷ []
  pub there : refused_at slices k end ≡ at + length (text_of before [])

-- one piece more in front
pub more_parted : (p : Piece) (ps : List Piece) (rest : Bytes) (k at : ℕ) (end : ℕ) → StandInTurn (p ∷ ps) rest → k < length (words_of (p ∷ ps)) → IsParted (p ∷ ps) rest k at (slices_of at (p ∷ ps)) end
more_parted (word bytes) ps rest zero at end h lt =
    record {
      before = [];
      bytes = bytes;
      after = ps;
      standing = tt;
      stands = h.0;
      is = refl;
      words = none (words_of ps);
      next = ap (λ (l : List Word). bytes ∷ l) (sym (none (words_of ps)));
      there = omega arith;
    }
  where
    none : (l : List Word) → [] ≡ take 0 l
    none [] = refl
    none (x ∷ l) = refl
more_parted (word bytes) [] rest (suc k) at end h lt = absurd (omega (arith, lt))
more_parted (word bytes) (q ∷ ps) rest (suc k) at end h lt =
    let m = more_parted q ps rest k (at + length bytes) end h.1 (omega (arith, lt)) in
    let one_more : suc k + 1 ≡ suc (k + 1) = omega arith in
    record {
      before = word bytes ∷ m.before;
      bytes = m.bytes;
      after = m.after;
      standing = (subst (λ (t : Bytes). IsWord bytes t) (sym m.is) h.0, m.standing);
      stands = m.stands;
      is = ap (λ (t : Bytes). bytes ++ t) m.is;
      words = ap (λ (l : List Word). bytes ∷ l) m.words;
      next = ap (λ n. take n (words_of (word bytes ∷ q ∷ ps))) one_more ∙ ap (λ (l : List Word). bytes ∷ l) m.next;
      there = omega (arith, m.there, length-append bytes (text_of m.before []));
    }
more_parted (gap bytes) [] rest k at end h lt = absurd (omega (arith, lt))
more_parted (gap bytes) (q ∷ ps) rest k at end h lt =
    let m = more_parted q ps rest k (at + length bytes) end h.1 lt in
    record {
      before = gap bytes ∷ m.before;
      bytes = m.bytes;
      after = m.after;
      standing = (subst (λ (t : Bytes). Stands (gap bytes) t) (sym m.is) h.0, m.standing);
      stands = m.stands;
      is = ap (λ (t : Bytes). bytes ++ t) m.is;
      words = m.words;
      next = m.next;
      there = omega (arith, m.there, length-append bytes (text_of m.before []));
    }

pub parted : (ps : List Piece) (rest : Bytes) (k : ℕ) (end : ℕ) → StandInTurn ps rest → k < length (words_of ps) → IsParted ps rest k 0 (slices_of 0 ps) end
parted [] rest k end h lt = absurd (omega (arith, lt))
parted (p ∷ ps) rest k end h lt = more_parted p ps rest k 0 end h lt
