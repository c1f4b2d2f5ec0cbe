-- A written-out text is pieces in turn: those of the source between its forms, and those that are written of the forms.
use Rattle.std.proofs.Common.{◌≡◌, ℕ, zero, suc, ◌+◌, ◌-◌, true, false, List, [], ◌∷◌, ◌++◌, append_assoc, append-nil, length, take, drop, Option, Some, None, Ok, Err, refl, sym}
use Rattle.std.proofs.Common.{ap, subst, ◌∙◌, arith}
use Rattle.std.specs.Prelude.{nat_le, slice_range}
use Rattle.std.proofs.lemmas.Bool.{false≢true}
use Rattle.std.proofs.lemmas.List.{length-append, take_at, drop_at}
use Rattle.tapa_base.specs.Gaps.{Bytes}
use Rattle.tapa_syntax.specs.declared.lexeme.LexKind.{LexKind}
use Rattle.tapa_syntax.specs.declared.lexeme.Lexeme.{Lexeme}
use Rattle.tapa_syntax.specs.Characters.{opens_line, place_of}
use Rattle.tapa_syntax.specs.Lexemes.{Piece, Stands, StandInTurn, text_of, lexeme_of, lexemes_of}
use Rattle.tapa_lex.proofs.Cuts.{is_some}
use Rattle.tapa_lex.proofs.Whole.{slices_are, not_both, range_of}
use Rattle.stream_arrays.specs.declared.fault.ArrayCode.TheVariants.{A4}
use Rattle.stream_arrays.specs.Words.{end_of}
use Rattle.stream_arrays.specs.Written.{Scope, Outcome, faulty, step, written_from, nothing, whole, most, within_most, written_out}
use Rattle.stream_arrays.proofs.FormFeeds.{OnOk, ok_then, ok_either, AreSliced}
use Rattle.tapa_laws.specs.written.WrittenLexemes.{WrittenOutTextsHaveLexemes, WrittenOutTextsAreNotRefused}
use Rattle.tapa_laws.proofs.written.Follows.{Alike, alike_self, stands_there}
use Rattle.tapa_laws.proofs.written.Lines.{opens_more, lexeme_closes}
use Rattle.tapa_laws.proofs.written.Pieced.{IsPieced, pieced_none, pieced_next}
use Rattle.tapa_laws.proofs.written.Apart.{AreApart, Apart, apart_from}
use Rattle.tapa_laws.proofs.written.FormFits.{Fits, alike_front, step_fits}

-- What is written of the rest of a source, which is behind `old`: what stands before the one stands before the other, and what is written
-- is pieces behind each text whose last line has only blanks where that of `old` has.
record IsCopied (old rest out : Bytes) : Type 0 where
  alike : Alike rest out
  pieced : (new : Bytes) → (opens_line old ≡ true → opens_line new ≡ true) → IsPieced new out

piece_copied : (old : Bytes) (s : Option LexKind) (bytes rest out : Bytes) → Stands old s bytes rest → IsCopied (old ++ bytes) rest out → IsCopied old (bytes ++ rest) (bytes ++ out)
piece_copied old s bytes rest out h c = record {
  alike = alike_front bytes rest out (is_some old s bytes rest h);
  pieced = λ new o. pieced_next new s bytes out (stands_there old new s bytes rest out c.alike o h) (c.pieced (new ++ bytes) (opens_more old new bytes o));
}

all_copied : (old : Bytes) (ps : List Piece) → StandInTurn old ps [] → IsCopied old (text_of ps []) (text_of ps [])
all_copied old [] h = record { alike = alike_self []; pieced = λ new o. pieced_none new }
all_copied old (p ∷ ps) h = piece_copied old p.sort p.bytes (text_of ps []) (text_of ps []) h.0 (all_copied (old ++ p.bytes) ps h.1)

-- ---- places between the pieces of the source

-- these pieces of a text are behind `old`
record Here (text old : Bytes) (ps : List Piece) : Type 0 where
  is : old ++ text_of ps [] ≡ text
  standing : StandInTurn old ps []

rest_here : (text old : Bytes) (ps : List Piece) → Here text old ps → drop (length old) text ≡ text_of ps []
rest_here text old ps h = ap (drop (length old)) (sym h.is) ∙ drop_at old (text_of ps []) (length old) refl

next_here : (text old : Bytes) (p : Piece) (ps : List Piece) → Here text old (p ∷ ps) → Here text (old ++ p.bytes) ps
next_here text old p ps h = record { is = append_assoc old p.bytes (text_of ps []) ∙ h.is; standing = h.standing.1 }

sliced_here : (text old : Bytes) (ps : List Piece) → Here text old ps → AreSliced text (lexemes_of old ps)
sliced_here text old ps h = subst (λ (x : Bytes). AreSliced x (lexemes_of old ps)) h.is (slices_are old ps h.standing)

apart_here : (text old : Bytes) (ps : List Piece) → Here text old ps → AreApart text (lexemes_of old ps)
apart_here text old ps h = (subst (λ (x : Bytes). Apart x (length old) (lexemes_of old ps)) h.is (apart_from old ps h.standing)).0

-- a place behind a lexeme, before these lexemes
record Behind (text : Bytes) (at : ℕ) (ls : List Lexeme) : Type 0 where
  old : Bytes
  pieces : List Piece
  here : Here text old pieces
  size : length old ≡ at
  told : lexemes_of old pieces ≡ ls
  closed : opens_line old ≡ false

-- from every place that is behind a lexeme there is a place n lexemes on
abbrev Skips : Bytes → ℕ → Type 0
Skips text n = (old : Bytes) (ps : List Piece) → Here text old ps → opens_line old ≡ false → Behind text (end_of (length old) (take n (lexemes_of old ps))) (drop n (lexemes_of old ps))

skip_one : (text : Bytes) (n : ℕ) → Skips text n → (at : ℕ) (old : Bytes) (ps : List Piece) → Here text old ps → Behind text at (lexemes_of old ps)
    → Behind text (end_of at (take (suc n) (lexemes_of old ps))) (drop (suc n) (lexemes_of old ps))
skip_one text n next at old [] h start = start
skip_one text n next at old (p ∷ ps) h start = with_first p.sort h.standing.0 start (skip_one text n next at (old ++ p.bytes) ps (next_here text old p ps h))
  where
    with_first : (s : Option LexKind) → Stands old s p.bytes (text_of ps []) → Behind text at (lexeme_of old s p.bytes ++ lexemes_of (old ++ p.bytes) ps)
        → (Behind text at (lexemes_of (old ++ p.bytes) ps) → Behind text (end_of at (take (suc n) (lexemes_of (old ++ p.bytes) ps))) (drop (suc n) (lexemes_of (old ++ p.bytes) ps)))
        → Behind text (end_of at (take (suc n) (lexeme_of old s p.bytes ++ lexemes_of (old ++ p.bytes) ps))) (drop (suc n) (lexeme_of old s p.bytes ++ lexemes_of (old ++ p.bytes) ps))
    with_first None st start more = more start
    with_first (Some k) st start more =
        subst (λ (m : ℕ). Behind text (end_of m (take n (lexemes_of (old ++ p.bytes) ps))) (drop n (lexemes_of (old ++ p.bytes) ps))) (length-append old p.bytes)
        (next (old ++ p.bytes) ps (next_here text old p ps h) (lexeme_closes old k p.bytes (text_of ps []) st))

-- the place behind some lexemes
skip : (text : Bytes) (n : ℕ) → Skips text n
skip text zero old ps h c = record { old = old; pieces = ps; here = h; size = refl; told = refl; closed = c }
skip text (suc n) old ps h c = skip_one text n (skip text n) (length old) old ps h (record { old = old; pieces = ps; here = h; size = refl; told = refl; closed = c })

-- ---- from one form to the next

-- what is written in so many turns, from whatever place on, is pieces
abbrev Copies : Bytes → ℕ → Type 0
Copies text turns =
    (s : Scope) (done : List Lexeme) (old : Bytes) (ps : List Piece) → Here text old ps → OnOk (IsCopied old (text_of ps [])) (written_from text turns s done (length old) (lexemes_of old ps))

-- what is written begins with a gap, and goes on with what is written of the rest
abbrev Gapped : Bytes → Bytes → Bytes → Bytes → Type 0
Gapped gap old rest out = (tail : Bytes) × (out ≡ gap ++ tail) × IsCopied old rest tail

form_copied : (text : Bytes) (turns : ℕ) (s : Scope) (done : List Lexeme) → Copies text turns → (at : ℕ) (gap old : Bytes) (k : LexKind) (bytes : Bytes) (ps : List Piece)
    → Here text old (record { sort = Some k; bytes = bytes } ∷ ps) → slice_range text at (length old) ≡ gap
    → OnOk (Gapped gap old (bytes ++ text_of ps [])) (written_from text (suc turns) s done at (lexeme_of old (Some k) bytes ++ lexemes_of (old ++ bytes) ps))
form_copied text turns s done next at gap old k bytes ps h gap_is =
    let piece : Piece = record { sort = Some k; bytes = bytes } in
    let l : Lexeme = record { kind = k; from = length old; to = length old + length bytes; place = place_of old } in
    let ls : List Lexeme = lexemes_of (old ++ bytes) ps in
    ok_then (Fits text l ls) (Gapped gap old (bytes ++ text_of ps [])) (step text s done (l ∷ ls)) _
    (step_fits text s done l ls (sliced_here text old (piece ∷ ps) h) (apart_here text old (piece ∷ ps) h)) (λ r f.
    let to : ℕ = end_of l.to (take r.more ls) in
    let known : List Lexeme = done ++ l ∷ take r.more ls in
    let b : Behind text to (drop r.more ls) = subst (λ (m : ℕ). Behind text (end_of m (take r.more ls)) (drop r.more ls)) (length-append old bytes)
    (skip text r.more (old ++ bytes) ps (next_here text old piece ps h) (lexeme_closes old k bytes (text_of ps []) h.standing.0)) in
    let more : OnOk (IsCopied b.old (text_of b.pieces [])) (written_from text turns r.scope known to (drop r.more ls)) =
    subst (λ (m : ℕ). OnOk (IsCopied b.old (text_of b.pieces [])) (written_from text turns r.scope known m (drop r.more ls))) b.size
    (subst (λ (z : List Lexeme). OnOk (IsCopied b.old (text_of b.pieces [])) (written_from text turns r.scope known (length b.old) z)) b.told (next r.scope known b.old b.pieces b.here)) in
    ok_then (IsCopied b.old (text_of b.pieces [])) (Gapped gap old (bytes ++ text_of ps [])) (written_from text turns r.scope known to (drop r.more ls)) _ more (λ rest c.
    let behind : drop to text ≡ text_of b.pieces [] = ap (λ (m : ℕ). drop m text) (sym b.size) ∙ rest_here text b.old b.pieces b.here in
    let fit = f rest (subst (λ (z : Bytes). Alike z rest) (sym behind) c.alike) (λ new. c.pieced new (λ e. absurd (false≢true (sym b.closed ∙ e)))) in (
      r.written ++ rest,
      ap (λ (z : Bytes). z ++ (r.written ++ rest)) gap_is,
      record { alike = subst (λ (z : Bytes). Alike z (r.written ++ rest)) (rest_here text old (piece ∷ ps) h) fit.1; pieced = λ new o. fit.0 new },
    )))

whole_text : (text start gap old rest : Bytes) → start ++ gap ≡ old → old ++ rest ≡ text → start ++ (gap ++ rest) ≡ text
whole_text text start gap old rest e is = sym (append_assoc start gap rest) ∙ ap (λ (z : Bytes). z ++ rest) e ∙ is

gap_range : (text start gap old rest : Bytes) → start ++ gap ≡ old → old ++ rest ≡ text → slice_range text (length start) (length old) ≡ gap
gap_range text start gap old rest e is =
    ap (λ (z : Bytes). slice_range z (length start) (length old)) (sym (whole_text text start gap old rest e is))
    ∙ ap (λ (m : ℕ). slice_range (start ++ (gap ++ rest)) (length start) m) (sym (ap length e) ∙ length-append start gap)
    ∙ range_of start gap rest

ok_so : {A : Type 0} (Q P : A → Type 0) (o : Outcome A) → OnOk Q o → ((a : A) → Q a → P a) → OnOk P o
ok_so Q P (Ok a) h each = each a h
ok_so Q P (Err e) h each = tt

turn_copied : (text : Bytes) (turns : ℕ) (s : Scope) (done : List Lexeme) → Copies text turns → (start gap old : Bytes) (ps : List Piece) → start ++ gap ≡ old → Here text old ps
    → OnOk (Gapped gap old (text_of ps [])) (written_from text (suc turns) s done (length start) (lexemes_of old ps))
turn_copied text turns s done next start gap old [] e h =
    ([], ap (drop (length start)) (sym (whole_text text start gap old [] e h.is)) ∙ drop_at start (gap ++ []) (length start) refl, all_copied old [] tt)
turn_copied text turns s done next start gap old (p ∷ ps) e h =
    with_first p.sort h.standing.0
    (turn_copied text turns s done next start (gap ++ p.bytes) (old ++ p.bytes) ps (sym (append_assoc start gap p.bytes) ∙ ap (λ (z : Bytes). z ++ p.bytes) e) (next_here text old p ps h))
  where
    with_first : (sort : Option LexKind) → Stands old sort p.bytes (text_of ps [])
        → OnOk (Gapped (gap ++ p.bytes) (old ++ p.bytes) (text_of ps [])) (written_from text (suc turns) s done (length start) (lexemes_of (old ++ p.bytes) ps))
        → OnOk (Gapped gap old (p.bytes ++ text_of ps [])) (written_from text (suc turns) s done (length start) (lexeme_of old sort p.bytes ++ lexemes_of (old ++ p.bytes) ps))
    with_first None st more =
        ok_so (Gapped (gap ++ p.bytes) (old ++ p.bytes) (text_of ps [])) (Gapped gap old (p.bytes ++ text_of ps []))
        (written_from text (suc turns) s done (length start) (lexemes_of (old ++ p.bytes) ps)) more
        (λ out g. (p.bytes ++ g.0, g.1 ∙ append_assoc gap p.bytes g.0, piece_copied old None p.bytes (text_of ps []) g.0 st g.2))
    with_first (Some k) st more =
        form_copied text turns s done next (length start) gap old k p.bytes ps (record { is = h.is; standing = (st, h.standing.1) }) (gap_range text start gap old (p.bytes ++ text_of ps []) e h.is)

copied : (text : Bytes) (turns : ℕ) → Copies text turns
copied text zero s done old ps h = subst (IsCopied old (text_of ps [])) (sym (rest_here text old ps h)) (all_copied old ps h.standing)
copied text (suc turns) s done old ps h =
    ok_so (Gapped [] old (text_of ps [])) (IsCopied old (text_of ps [])) (written_from text (suc turns) s done (length old) (lexemes_of old ps))
    (turn_copied text turns s done (copied text turns) old [] old ps (append-nil old) h)
    (λ out g. subst (IsCopied old (text_of ps [])) (sym g.1) g.2)

-- ---- whole texts

pub have_lexemes : WrittenOutTextsHaveLexemes
have_lexemes text out lexemes h e =
    let source : Bytes = text_of h.pieces [] in
    let forms : OnOk (IsCopied [] source) (whole text lexemes) =
    subst (λ (ls : List Lexeme). OnOk (IsCopied [] source) (written_from text (length lexemes) nothing [] 0 ls)) h.told
    (copied text (length lexemes) nothing [] [] h.pieces (record { is = h.is; standing = h.standing })) in
    let all : OnOk (IsCopied [] source) (written_out text lexemes) =
    ok_then (IsCopied [] source) (IsCopied [] source) (whole text lexemes) within_most forms (λ o c.
    ok_either (IsCopied [] source) (nat_le (length o) most) (Ok o) (faulty A4 (record { line = 1; col = 1 })) c tt) in
    let c : IsCopied [] source out = subst (OnOk (IsCopied [] source)) e all in
    let p = c.pieced [] (λ o. o) in
    (lexemes_of [] p.pieces, record { pieces = p.pieces; is = p.is; standing = p.standing; told = refl })

pub not_refused : WrittenOutTextsAreNotRefused
not_refused text out lexemes code place h e r = let found = have_lexemes text out lexemes h e in not_both out found.0 code place found.1 r
