-- A text that is refused at a place has no tree.
use Rattle.std.proofs.Common.{◌≡◌, inl, inr, ℕ, zero, suc, Bool, true, false, ◌+◌, ◌<◌, ◌≤◌, List, [], ◌∷◌, ◌++◌, append_assoc, zero-add, length, take, refl, sym, ap, subst, ◌∙◌, arith}
use Rattle.std.specs.Prelude.{nat_lt}
use Rattle.std.proofs.lemmas.Bool.Decides.{nat_tests}
use Rattle.std.proofs.lemmas.List.{append_cancel_left, append-nil, length-append, length-map, take_all}
use Rattle.tapa_base.specs.declared.text.Place.{Place}
use Rattle.tapa_syntax.specs.Characters.{place_of}
use Rattle.vlog_tree.specs.Form.{ModuleTree}
use Rattle.vlog_tree.specs.Spelling.{Word}
use Rattle.tapa_base.specs.Gaps.{Bytes}
use Rattle.vlog_lex.specs.Lexemes.{Piece, gap, word, piece_bytes, text_of, StandInTurn, words_of, HasWords}
use Rattle.vlog_lex.specs.Grammar.{SpellsDesign}
use Rattle.vlog_lex.proofs.Cuts.{cut, stands_cut, no_piece}
use Rattle.vlog_lex.specs.declared.lexer.Lexeme.{Lexeme}
use Rattle.vlog_lex.specs.Scanned.{IsScan, word_of, words_at, slices_of}
use Rattle.vlog_lex.proofs.Whole.{text_split}
use Rattle.vlog_read.specs.Refused.{Begins, IsFirstRefused}
use Rattle.vlog_read.specs.Texts.{StopsAt, IsRefusedAt, HasNoTree, refused_at}
use Rattle.vlog_read.proofs.Placed.{taken, told_words, IsParted, parted}

-- pieces in front of the same text are the first of any
record Goes (before qs : List Piece) (behind : Bytes) : Type 0 where
  more : List Piece
  is : text_of more [] ≡ behind
  standing : StandInTurn more []
  words : words_of qs ≡ words_of before ++ words_of more

word_first : (p : Piece) (xs ys zs : List Piece) → words_of ys ≡ words_of xs ++ words_of zs → words_of (p ∷ ys) ≡ words_of (p ∷ xs) ++ words_of zs
word_first (gap bytes) xs ys zs e = e
word_first (word bytes) xs ys zs e = ap (λ (l : List Word). bytes ∷ l) e

goes : (before qs : List Piece) (behind : Bytes) → StandInTurn before behind → StandInTurn qs [] → text_of before behind ≡ text_of qs [] → Goes before qs behind
goes [] qs behind h k e = record { more = qs; is = sym e; standing = k; words = refl }
goes (p ∷ ps) [] behind h k e = absurd (no_piece p (text_of ps behind) h.0 (sym e))
goes (p ∷ ps) (q ∷ qs) behind h k e =
    let first : p ≡ q = sym (stands_cut p (text_of ps behind) h.0) ∙ ap cut e ∙ stands_cut q (text_of qs []) k.0 in
    let rest : text_of ps behind ≡ text_of qs [] = append_cancel_left (piece_bytes q) (text_of ps behind) (text_of qs []) (ap (λ (r : Piece). piece_bytes r ++ text_of ps behind) (sym first) ∙ e) in
    let g = goes ps qs behind h.1 k.1 rest in
    record { more = g.more; is = g.is; standing = g.standing; words = ap (λ (r : Piece). words_of (r ∷ qs)) (sym first) ∙ word_first p ps qs g.more g.words }

-- where it stops, no words go on
stops : (words : List Word) (behind : Bytes) (more : List Piece) → text_of more [] ≡ behind → StandInTurn more [] → StopsAt words behind → (ms : List ModuleTree) → SpellsDesign ms (words ++ words_of more) → ⊥
stops words behind [] e h (inr (none, end)) ms d = end (sym e) ms (subst (SpellsDesign ms) (append-nil words) d)
stops words behind (p ∷ more) e h (inr (none, end)) ms d = none p (text_of more []) h.0 (sym e)
stops words behind [] e h (inl (w, rest, is, stands, dead)) ms d = no_piece (word w) rest stands (e ∙ is)
stops words behind (p ∷ more) e h (inl (w, rest, is, stands, dead)) ms d =
    let same : p ≡ word w = sym (stands_cut p (text_of more []) h.0) ∙ ap cut (e ∙ is) ∙ stands_cut (word w) rest stands in
    dead (words_of more, ms, subst (SpellsDesign ms) (ap (λ (q : Piece). words ++ words_of (q ∷ more)) same ∙ sym (append_assoc words (w ∷ []) (words_of more))) d)

pub no_tree : (text : Bytes) (place : Place) → IsRefusedAt text place → HasNoTree text place
no_tree text place r = record {
  there = r;
  none = λ ms h. none ms h.0 h.1 h.2;
}
  where
    none : (ms : List ModuleTree) (words : List Word) → HasWords text words → SpellsDesign ms words → ⊥
    none ms words k d =
        let g = goes r.before k.pieces r.behind r.standing k.standing (r.is ∙ sym k.is) in
        stops (words_of r.before) r.behind g.more g.is g.standing r.stops ms (subst (SpellsDesign ms) (sym k.told ∙ g.words) d)

-- ---- the place

taken_text : (before : List Piece) (rest text : Bytes) → text_of before rest ≡ text → take (length (text_of before [])) text ≡ text_of before []
taken_text before rest text e =
    ap (take (length (text_of before []))) (sym e ∙ text_split before rest) ∙ taken (text_of before []) rest

scanned_words : (text : Bytes) (lexemes : List Lexeme) (end : ℕ) (s : IsScan text lexemes end) → words_at text lexemes ≡ words_of s.pieces
scanned_words text lexemes end s = ap (words_at text) (sym s.told) ∙ told_words s.pieces [] s.behind text (sym s.is)

none_behind : (lexemes : List Lexeme) (k end : ℕ) → length lexemes ≤ k → refused_at lexemes k end ≡ end
none_behind [] k end h = refl
none_behind (l ∷ lexemes) zero end h = absurd (omega (arith, h))
none_behind (l ∷ lexemes) (suc k) end h = none_behind lexemes k end (omega (arith, h))

-- all words are passed, or where nothing stands some bytes do
pub end_refused : (text : Bytes) (lexemes : List Lexeme) (end : ℕ) → IsScan text lexemes end → Begins (words_at text lexemes) → (end ≡ length text → (ms : List ModuleTree) → SpellsDesign ms (words_at text lexemes) → ⊥) → IsRefusedAt text (place_of (take end text))
end_refused text lexemes end s begun whole =
    let words = scanned_words text lexemes end s in
    record {
      before = s.pieces;
      behind = s.behind;
      is = s.is;
      standing = s.standing;
      at = ap (λ n. place_of (take n text)) s.at ∙ ap place_of (taken_text s.pieces s.behind text s.is);
      begun = subst Begins words begun;
      stops = inr (s.nothing, λ e ms d. whole (all e) ms (subst (SpellsDesign ms) (sym words) d));
    }
  where
    all : s.behind ≡ [] → end ≡ length text
    all e = s.at ∙ ap (λ (b : Bytes). length (text_of s.pieces b)) (sym e) ∙ ap length s.is

-- how many bytes stand before a word of a scan
parted_at : (lexemes : List Lexeme) (ps : List Piece) (rest : Bytes) (k end : ℕ) → slices_of 0 ps ≡ lexemes → (p : IsParted ps rest k 0 (slices_of 0 ps) end) → refused_at lexemes k end ≡ length (text_of p.before [])
parted_at lexemes ps rest k end e p = ap (λ (l : List Lexeme). refused_at l k end) (sym e) ∙ p.there ∙ zero-add (length (text_of p.before []))

-- and they are not more than the text has
parted_within : (text : Bytes) (ps : List Piece) (rest : Bytes) (k end : ℕ) (slices : List Lexeme) → text_of ps rest ≡ text → (p : IsParted ps rest k 0 slices end) → length (text_of p.before []) ≤ length text
parted_within text ps rest k end slices e p =
    let front : text_of p.before [] ++ (p.bytes ++ text_of p.after rest) ≡ text = sym (text_split p.before (p.bytes ++ text_of p.after rest)) ∙ p.is ∙ e in
    omega (arith, length-append (text_of p.before []) (p.bytes ++ text_of p.after rest), ap length front)

-- the word behind so many is where the text is refused
parted_refused : (text : Bytes) (ps : List Piece) (rest : Bytes) (words : List Word) (at k end : ℕ) (slices : List Lexeme) → text_of ps rest ≡ text → words ≡ words_of ps → (p : IsParted ps rest k 0 slices end) → at ≡ length (text_of p.before [])
    → IsFirstRefused words k → k < length words → IsRefusedAt text (place_of (take at text))
parted_refused text ps rest words at k end slices e told p there f lt =
    let behind = p.bytes ++ text_of p.after rest in
    record {
      before = p.before;
      behind = behind;
      is = p.is ∙ e;
      standing = p.standing;
      at = ap (λ n. place_of (take n text)) there ∙ ap place_of (taken_text p.before behind text (p.is ∙ e));
      begun = subst Begins (ap (take k) told ∙ sym p.words) f.begun;
      stops = inl (p.bytes, text_of p.after rest, refl, p.stands, λ b. f.next lt (subst Begins (sym (ap (take (k + 1)) told ∙ p.next)) b));
    }

word_refused : (text : Bytes) (lexemes : List Lexeme) (end k : ℕ) → IsScan text lexemes end → IsFirstRefused (words_at text lexemes) k → k < length (words_at text lexemes) → IsRefusedAt text (place_of (take (refused_at lexemes k end) text))
word_refused text lexemes end k s f lt =
    let words = scanned_words text lexemes end s in
    let p = parted s.pieces s.behind k end s.standing (subst (λ (l : List Word). k < length l) words lt) in
    parted_refused text s.pieces s.behind (words_at text lexemes) (refused_at lexemes k end) k end (slices_of 0 s.pieces) s.is words p (parted_at lexemes s.pieces s.behind k end s.told p) f lt

-- where the words are refused, the text is refused there
pub refused_place : (text : Bytes) (lexemes : List Lexeme) (end k : ℕ) → IsScan text lexemes end → IsFirstRefused (words_at text lexemes) k → IsRefusedAt text (place_of (take (refused_at lexemes k end) text))
refused_place text lexemes end k s f = by_size (nat_lt k (length (words_at text lexemes))) refl
  where
    by_size : (b : Bool) → nat_lt k (length (words_at text lexemes)) ≡ b → IsRefusedAt text (place_of (take (refused_at lexemes k end) text))
    by_size true e = word_refused text lexemes end k s f (grind (arith, nat_tests))
    by_size false e =
        let past : length (words_at text lexemes) ≤ k = grind (arith, nat_tests) in
        let all : k ≡ length (words_at text lexemes) = omega (arith, past, f.within) in
        subst (λ (n : ℕ). IsRefusedAt text (place_of (take n text))) (sym (none_behind lexemes k end (omega (arith, past, length-map lexemes (word_of text)))))
        (end_refused text lexemes end s (subst Begins (ap (λ n. take n (words_at text lexemes)) all ∙ take_all (length (words_at text lexemes)) (words_at text lexemes) (omega arith)) f.begun) (λ _ ms d. f.end all ms d))

-- a scan ends within the text
pub scan_within : (text : Bytes) (lexemes : List Lexeme) (end : ℕ) → IsScan text lexemes end → end ≤ length text
scan_within text lexemes end s = omega (arith, s.at, length-append (text_of s.pieces []) s.behind, ap length (sym (text_split s.pieces s.behind) ∙ s.is))

-- and so does what stands before each word
pub refused_within : (text : Bytes) (lexemes : List Lexeme) (end k : ℕ) → IsScan text lexemes end → refused_at lexemes k end ≤ length text
refused_within text lexemes end k s = by_size (nat_lt k (length (words_of s.pieces))) refl
  where
    by_size : (b : Bool) → nat_lt k (length (words_of s.pieces)) ≡ b → refused_at lexemes k end ≤ length text
    by_size true e =
        let p = parted s.pieces s.behind k end s.standing (grind (arith, nat_tests)) in
        omega (arith, parted_at lexemes s.pieces s.behind k end s.told p, parted_within text s.pieces s.behind k end (slices_of 0 s.pieces) s.is p)
    by_size false e =
        let past : length (words_of s.pieces) ≤ k = grind (arith, nat_tests) in
        let same = ap length (scanned_words text lexemes end s) in
        let at = none_behind lexemes k end (omega (arith, past, same, length-map lexemes (word_of text))) in
        omega (arith, at, scan_within text lexemes end s)

-- where a scan ends with the text, its words are those of the text
pub scan_words : (text : Bytes) (lexemes : List Lexeme) (end : ℕ) → IsScan text lexemes end → length text ≤ end → HasWords text (words_at text lexemes)
scan_words text lexemes end s h =
    let long = length-append (text_of s.pieces []) s.behind in
    let none : s.behind ≡ [] = no_bytes s.behind (omega (arith, s.at, long, h, ap length (sym (text_split s.pieces s.behind) ∙ s.is))) in
    record {
      pieces = s.pieces;
      is = ap (text_of s.pieces) (sym none) ∙ s.is;
      standing = subst (StandInTurn s.pieces) none s.standing;
      told = sym (scanned_words text lexemes end s);
    }
  where
    no_bytes : (b : Bytes) → length b ≡ 0 → b ≡ []
    no_bytes [] e = refl
    no_bytes (x ∷ b) e = absurd (omega (arith, e))

-- where some bytes are left, the text is refused behind its words
pub left_refused : (text : Bytes) (lexemes : List Lexeme) (end : ℕ) (ms : List ModuleTree) → IsScan text lexemes end → end < length text → SpellsDesign ms (words_at text lexemes) → IsRefusedAt text (place_of (take end text))
left_refused text lexemes end ms s lt d =
    end_refused text lexemes end s ([], ms, subst (SpellsDesign ms) (sym (append-nil (words_at text lexemes))) d) (λ e ns k. absurd (omega (arith, e, lt)))
