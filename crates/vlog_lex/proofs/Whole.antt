-- Pieces one after the other, up to where nothing more stands.
use Rattle.std.proofs.Common.{◌≡◌, ℕ, ◌+◌, ◌-◌, ◌<◌, ◌≤◌, List, [], ◌∷◌, ◌++◌, append_assoc, length, take, drop, Some, None, refl, sym, ap, subst, ◌∙◌, arith}
use Rattle.std.proofs.lemmas.List.{length-append, length-drop, length-take-le, drop-drop, take-append-drop, append-nil, append_cancel_left, drop_all, take_rest}
use Rattle.tapa_base.specs.Gaps.{Bytes}
use Rattle.vlog_lex.specs.Lexemes.{Piece, gap, word, Stands, piece_bytes, text_of, StandInTurn}
use Rattle.vlog_lex.proofs.Cuts.{cut as grammar_cut, stands_cut, no_piece}
use Rattle.vlog_lex.specs.declared.cut.Sort.{Sort}
use Rattle.vlog_lex.specs.declared.cut.Sort.TheVariants.{Gap, Word}
use Rattle.vlog_lex.specs.declared.lexer.Lexeme.{Lexeme}
use Rattle.vlog_lex.specs.Reading.{cut}
use Rattle.vlog_lex.specs.Scanned.{NothingStands, slices_of, put_slice, IsScan}
use Rattle.tapa_syntax.proofs.Runs.{take_both}
use Rattle.vlog_lex.proofs.Pieces.{piece_of, found, nothing}

-- ---- one more piece at the end

text_more : (ps : List Piece) (p : Piece) (rest : Bytes) → text_of (ps ++ p ∷ []) rest ≡ text_of ps (piece_bytes p ++ rest)
text_more [] p rest = refl
text_more (q ∷ ps) p rest = ap (λ (l : Bytes). piece_bytes q ++ l) (text_more ps p rest)

pub text_split : (ps : List Piece) (rest : Bytes) → text_of ps rest ≡ text_of ps [] ++ rest
text_split [] rest = refl
text_split (q ∷ ps) rest = ap (λ (l : Bytes). piece_bytes q ++ l) (text_split ps rest) ∙ sym (append_assoc (piece_bytes q) (text_of ps []) rest)

turn_more : (ps : List Piece) (p : Piece) (rest : Bytes) → StandInTurn ps (piece_bytes p ++ rest) → Stands p rest → StandInTurn (ps ++ p ∷ []) rest
turn_more [] p rest h s = (s, tt)
turn_more (q ∷ ps) p rest h s = (subst (Stands q) (sym (text_more ps p rest)) h.0, turn_more ps p rest h.1 s)

told_more : (at : ℕ) (ps : List Piece) (s : Sort) (bytes : Bytes) (from to : ℕ) → from ≡ at + length (text_of ps []) → to ≡ from + length bytes
    → slices_of at (ps ++ piece_of s bytes ∷ []) ≡ put_slice (slices_of at ps) s from to
told_more at [] Gap bytes from to e f = refl
told_more at [] Word bytes from to e f = let start : from ≡ at = omega (arith, e) in let end : to ≡ at + length bytes = omega arith in one_same at from (at + length bytes) to (sym start) (sym end)
  where
    one_same : (a b c d : ℕ) → a ≡ b → c ≡ d → let l : Lexeme = record { from = a; to = c } in let m : Lexeme = record { from = b; to = d } in l ∷ [] ≡ m ∷ []
    one_same a b c d e f = cc
told_more at (gap x ∷ ps) s bytes from to e f = told_more (at + length x) ps s bytes from to (omega (arith, e, length-append x (text_of ps []))) f
told_more at (word x ∷ ps) s bytes from to e f = first s (told_more (at + length x) ps s bytes from to (omega (arith, e, length-append x (text_of ps []))) f)
  where
    first : (s : Sort) → slices_of (at + length x) (ps ++ piece_of s bytes ∷ []) ≡ put_slice (slices_of (at + length x) ps) s from to
        → slices_of at (word x ∷ (ps ++ piece_of s bytes ∷ [])) ≡ put_slice (slices_of at (word x ∷ ps)) s from to
    first Gap h = ap (λ l. record { from = at; to = at + length x } ∷ l) h
    first Word h = ap (λ l. record { from = at; to = at + length x } ∷ l) h

-- ---- the loop

-- the pieces so far, behind which so many bytes are passed
pub record HasFront (text : Bytes) (at : ℕ) (told : List Lexeme) : Type 0 where
  pub pieces : List Piece
  pub is : text_of pieces [] ≡ take at text
  pub standing : StandInTurn pieces (drop at text)
  pub lexemes : slices_of 0 pieces ≡ told
  pub within : at ≤ length text

pub front_none : (text : Bytes) → HasFront text 0 []
front_none text = record { pieces = []; is = refl; standing = tt; lexemes = refl; within = omega arith }

rest_is : (text : Bytes) (at : ℕ) → take (length text - at) (drop at text) ≡ drop at text
rest_is text at = take_rest text at

-- a piece of n bytes fits what is left
pub record Fits (text : Bytes) (at n : ℕ) : Type 0 where
  pub some : 0 < n
  pub within : at + n ≤ length text

pub piece_fits : (text : Bytes) (at : ℕ) (told : List Lexeme) (p : Sort × ℕ) → HasFront text at told → at < length text → Some p ≡ cut (take (length text - at) (drop at text)) → Fits text at p.1
piece_fits text at told p h lt e =
    let z = drop at text in
    let left : length z ≡ length text - at = length-drop at text in
    let f = found z p.0 p.1 (ap cut (sym (rest_is text at)) ∙ sym e) (omega (arith, left)) in
    record { some = f.some; within = omega (arith, f.within, left, lt) }

pub front_more : (text : Bytes) (at to : ℕ) (told : List Lexeme) (p : Sort × ℕ) → HasFront text at told → at < length text → Some p ≡ cut (take (length text - at) (drop at text)) → to ≡ at + p.1 → HasFront text to (put_slice told p.0 at to)
front_more text at to told p h lt e there =
    let s = p.0 in
    let n = p.1 in
    let z = drop at text in
    let left : length z ≡ length text - at = length-drop at text in
    let f = found z s n (ap cut (sym (rest_is text at)) ∙ sym e) (omega (arith, left)) in
    let bytes = take n z in
    let size : length bytes ≡ n = length-take-le n z f.within in
    let size_before : length (take at text) ≡ at = length-take-le at text h.within in
    let bytes_is : (s : Sort) → piece_bytes (piece_of s bytes) ≡ bytes = λ s. elim s as (λ t. piece_bytes (piece_of t bytes) ≡ bytes) [ Gap ↦ refl | Word ↦ refl ] in
    let joined : take at text ++ bytes ≡ take to text = sym (take_both at n text) ∙ ap (λ k. take k text) (sym there) in
    let rest : drop n z ≡ drop to text = drop-drop n at text ∙ ap (λ k. drop k text) (sym there) in
    record {
      pieces = h.pieces ++ piece_of s bytes ∷ [];
      is = text_more h.pieces (piece_of s bytes) [] ∙ ap (text_of h.pieces) (append-nil (piece_bytes (piece_of s bytes)) ∙ bytes_is s) ∙ text_split h.pieces bytes ∙ ap (λ (l : Bytes). l ++ bytes) h.is ∙ joined;
      standing = subst (StandInTurn (h.pieces ++ piece_of s bytes ∷ [])) rest (turn_more h.pieces (piece_of s bytes) (drop n z) (subst (StandInTurn h.pieces) (sym (ap (λ l. l ++ drop n z) (bytes_is s) ∙ take-append-drop n z)) h.standing) f.stands);
      lexemes = told_more 0 h.pieces s bytes at to (omega (arith, ap length h.is, size_before)) (omega (arith, there, size)) ∙ ap (λ (l : List Lexeme). put_slice l s at to) h.lexemes;
      within = omega (arith, there, f.within, left, h.within);
    }

nothing_at_end : NothingStands []
nothing_at_end = λ p rest s e. no_piece p rest s e

pub scan_of : (text : Bytes) (at : ℕ) (told : List Lexeme) → HasFront text at told → NothingStands (drop at text) → IsScan text told at
scan_of text at told h none =
    record {
      pieces = h.pieces;
      behind = drop at text;
      is = text_split h.pieces (drop at text) ∙ ap (λ (l : Bytes). l ++ drop at text) h.is ∙ take-append-drop at text;
      standing = h.standing;
      told = h.lexemes;
      at = sym (ap length h.is ∙ length-take-le at text h.within);
      nothing = none;
    }

-- no more is to come
pub scan_all : (text : Bytes) (at : ℕ) (told : List Lexeme) → HasFront text at told → length text ≤ at → IsScan text told at
scan_all text at told h le = scan_of text at told h (subst NothingStands (sym (drop_all at text le)) nothing_at_end)

-- nothing goes on
pub scan_stopped : (text : Bytes) (at : ℕ) (told : List Lexeme) → HasFront text at told → at < length text → None ≡ cut (take (length text - at) (drop at text)) → IsScan text told at
scan_stopped text at told h lt e = scan_of text at told h (nothing (drop at text) (ap cut (sym (rest_is text at)) ∙ sym e) (omega (arith, length-drop at text)))

-- ---- one list of pieces

-- pieces behind which nothing stands are the only ones of a text
pub pieces_same : (ps qs : List Piece) (rest other : Bytes) → StandInTurn ps rest → StandInTurn qs other → NothingStands rest → NothingStands other → text_of ps rest ≡ text_of qs other → (ps ≡ qs) × (rest ≡ other)
pieces_same [] [] rest other h k m n e = (refl, e)
pieces_same [] (q ∷ qs) rest other h k m n e = absurd (m q (text_of qs other) k.0 e)
pieces_same (p ∷ ps) [] rest other h k m n e = absurd (n p (text_of ps rest) h.0 (sym e))
pieces_same (p ∷ ps) (q ∷ qs) rest other h k m n e =
    let first : p ≡ q = sym (stands_cut p (text_of ps rest) h.0) ∙ ap grammar_cut e ∙ stands_cut q (text_of qs other) k.0 in
    let more : text_of ps rest ≡ text_of qs other = append_cancel_left (piece_bytes q) (text_of ps rest) (text_of qs other) (ap (λ (r : Piece). piece_bytes r ++ text_of ps rest) (sym first) ∙ e) in
    let others = pieces_same ps qs rest other h.1 k.1 m n more in
    (cons_same p q ps qs first others.0, others.1)
  where
    cons_same : (p q : Piece) (ps qs : List Piece) → p ≡ q → ps ≡ qs → p ∷ ps ≡ q ∷ qs
    cons_same p q ps qs e f = cc
