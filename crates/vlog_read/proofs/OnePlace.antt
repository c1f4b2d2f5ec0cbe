-- A text is refused at one place at most.
use Rattle.std.proofs.Common.{◌≡◌, ◌⊎◌, inl, inr, List, [], ◌∷◌, ◌++◌, append_assoc, refl, sym, ap, subst, ◌∙◌}
use Rattle.std.proofs.lemmas.List.{append_cancel_left}
use Rattle.tapa_base.specs.declared.text.Place.{Place}
use Rattle.tapa_syntax.specs.Characters.{place_of}
use Rattle.vlog_tree.specs.Spelling.{Word}
use Rattle.tapa_base.specs.Gaps.{Bytes}
use Rattle.vlog_lex.specs.Lexemes.{Piece, gap, word, Stands, IsWord, piece_bytes, text_of, StandInTurn, words_of}
use Rattle.vlog_lex.specs.Grammar.{SpellsDesign}
use Rattle.vlog_lex.proofs.Cuts.{cut, stands_cut}
use Rattle.vlog_lex.specs.Scanned.{NothingStands}
use Rattle.vlog_read.specs.Refused.{Begins}
use Rattle.vlog_read.specs.Texts.{StopsAt, IsRefusedAt}

-- which words may come
abbrev Coming : Type 1
Coming = List Word → Type 0

-- with words those before them may come
abbrev IsClosed : Coming → Type 0
IsClosed G = (ws vs : List Word) → G (ws ++ vs) → G ws

-- behind these words a word that may not come, or nothing
abbrev Halts : Coming → List Word → Bytes → Type 0
Halts G words behind = ((w : Word) × (rest : Bytes) × (behind ≡ w ++ rest) × IsWord w rest × (G (words ++ w ∷ []) → ⊥)) ⊎ NothingStands behind

-- a piece goes on nowhere that it halts
no_more : (G : Coming) → IsClosed G → (q : Piece) (qs : List Piece) (rest behind : Bytes) → Stands q rest → behind ≡ piece_bytes q ++ rest → Halts G [] behind → G (words_of (q ∷ qs)) → ⊥
no_more G closed q qs rest behind s e (inr none) g = none q rest s e
no_more G closed q qs rest behind s e (inl (w, after, is, stands, dead)) g =
    let same : q ≡ word w = sym (stands_cut q rest s) ∙ ap cut (sym e ∙ is) ∙ stands_cut (word w) after stands in
    dead (closed (w ∷ []) (words_of qs) (subst (λ (p : Piece). G (words_of (p ∷ qs))) same g))

-- ---- behind a first piece

abbrev behind_first : Coming → Piece → Coming
behind_first G p ws = G (words_of (p ∷ []) ++ ws)

closed_behind : (G : Coming) (p : Piece) → IsClosed G → IsClosed (behind_first G p)
closed_behind G (gap bytes) closed = closed
closed_behind G (word bytes) closed = λ ws vs. closed (bytes ∷ ws) vs

halts_behind : (G : Coming) (p : Piece) (ps : List Piece) (behind : Bytes) → Halts G (words_of (p ∷ ps)) behind → Halts (behind_first G p) (words_of ps) behind
halts_behind G (gap bytes) ps behind h = h
halts_behind G (word bytes) ps behind h = h

comes_behind : (G : Coming) (p : Piece) (ps : List Piece) → G (words_of (p ∷ ps)) → behind_first G p (words_of ps)
comes_behind G (gap bytes) ps g = g
comes_behind G (word bytes) ps g = g

cons_same : (p q : Piece) (ps qs : List Piece) → p ≡ q → ps ≡ qs → p ∷ ps ≡ q ∷ qs
cons_same p q ps qs e f = cc

-- the pieces before where it halts are the only ones
one_front : (G : Coming) → IsClosed G → (ps qs : List Piece) (behind other : Bytes) → StandInTurn ps behind → StandInTurn qs other → text_of ps behind ≡ text_of qs other
    → Halts G (words_of ps) behind → Halts G (words_of qs) other → G (words_of ps) → G (words_of qs) → ps ≡ qs
one_front G closed [] [] behind other h k e a b f g = refl
one_front G closed [] (q ∷ qs) behind other h k e a b f g = absurd (no_more G closed q qs (text_of qs other) behind k.0 e a g)
one_front G closed (p ∷ ps) [] behind other h k e a b f g = absurd (no_more G closed p ps (text_of ps behind) other h.0 (sym e) b f)
one_front G closed (p ∷ ps) (q ∷ qs) behind other h k e a b f g =
    let first : p ≡ q = sym (stands_cut p (text_of ps behind) h.0) ∙ ap cut e ∙ stands_cut q (text_of qs other) k.0 in
    let rest : text_of ps behind ≡ text_of qs other = append_cancel_left (piece_bytes q) (text_of ps behind) (text_of qs other) (ap (λ (r : Piece). piece_bytes r ++ text_of ps behind) (sym first) ∙ e) in
    let halts : Halts G (words_of (p ∷ qs)) other = subst (λ (r : Piece). Halts G (words_of (r ∷ qs)) other) (sym first) b in
    let comes : G (words_of (p ∷ qs)) = subst (λ (r : Piece). G (words_of (r ∷ qs))) (sym first) g in
    cons_same p q ps qs first
    (one_front (behind_first G p) (closed_behind G p closed) ps qs behind other h.1 k.1 rest (halts_behind G p ps behind a) (halts_behind G p qs other halts) (comes_behind G p ps f) (comes_behind G p qs comes))

-- ---- where a text is refused

begins_before : IsClosed Begins
begins_before ws vs (rest, ms, d) = (vs ++ rest, ms, subst (SpellsDesign ms) (append_assoc ws vs rest) d)

halts : (words : List Word) (behind : Bytes) → StopsAt words behind → Halts Begins words behind
halts words behind (inl stop) = inl stop
halts words behind (inr (none, end)) = inr none

pub one_refused_place : (text : Bytes) (place other : Place) → IsRefusedAt text place → IsRefusedAt text other → place ≡ other
one_refused_place text place other r s =
    let same = one_front Begins begins_before r.before s.before r.behind s.behind r.standing s.standing (r.is ∙ sym s.is) (halts (words_of r.before) r.behind r.stops) (halts (words_of s.before) s.behind s.stops) r.begun s.begun in
    r.at ∙ ap (λ (ps : List Piece). place_of (text_of ps [])) same ∙ sym s.at
