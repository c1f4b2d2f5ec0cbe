-- Every text has lexemes, or stops at a place where no piece stands.
use Rattle.std.proofs.Common.{◌≡◌, ◌⊎◌, inl, inr, ℕ, zero, suc, ◌<◌, ◌≤◌, List, [], ◌∷◌, ◌++◌, append_assoc, length, take, drop, Option, Ok, Err, refl, sym, ap, subst, ◌∙◌, arith}
use Rattle.std.proofs.lemmas.List.{length-drop, take-append-drop, append-nil}
use Rattle.tapa_base.specs.declared.text.Place.{Place}
use Rattle.tapa_syntax.specs.declared.lexeme.LexKind.{LexKind}
use Rattle.tapa_syntax.specs.declared.lexeme.Lexeme.{Lexeme}
use Rattle.tapa_base.specs.Gaps.{Bytes}
use Rattle.tapa_syntax.specs.Characters.{opens_line, place_of}
use Rattle.tapa_syntax.specs.Lexemes.{Piece, Stands, StandInTurn, text_of, lexemes_of, HasLexemes, NothingStands}
use Rattle.tapa_lex.specs.Reading.{Cut, cut}
use Rattle.tapa_lex.specs.Refusals.{IsRefused, code_at}
use Rattle.tapa_lex.specs.declared.fault.LexCode.{LexCode}
use Rattle.tapa_lex.proofs.Cuts.{nothing_stands}
use Rattle.tapa_lex.proofs.Pieces.{Found, found}

-- pieces stand in turn to the end
record IsWhole (before z : Bytes) : Type 0 where
  pub pieces : List Piece
  pub is : text_of pieces [] ≡ z
  pub standing : StandInTurn before pieces []

-- pieces stand in turn up to a place where more is to come and no piece stands
record IsStopped (before z : Bytes) : Type 0 where
  pub pieces : List Piece
  pub behind : Bytes
  pub is : text_of pieces behind ≡ z
  pub standing : StandInTurn before pieces behind
  pub more : 0 < length behind
  pub nothing : NothingStands (before ++ text_of pieces []) behind

abbrev IsRead : Bytes → Bytes → Type 0
IsRead before z = IsWhole before z ⊎ IsStopped before z

-- with one more piece in front
with_piece : (before z : Bytes) (sort : Option LexKind) (n : ℕ) → Found before z sort n → IsRead (before ++ take n z) (drop n z) → IsRead before z
with_piece before z sort n f (inl h) =
    let p : Piece = record { sort = sort; bytes = take n z } in
    inl (record {
      pieces = p ∷ h.pieces;
      is = ap (λ (l : Bytes). take n z ++ l) h.is ∙ take-append-drop n z;
      standing = (subst (λ (l : Bytes). Stands before sort (take n z) l) (sym h.is) f.stands, h.standing);
    })
with_piece before z sort n f (inr h) =
    let p : Piece = record { sort = sort; bytes = take n z } in
    inr (record {
      pieces = p ∷ h.pieces;
      behind = h.behind;
      is = ap (λ (l : Bytes). take n z ++ l) h.is ∙ take-append-drop n z;
      standing = (subst (λ (l : Bytes). Stands before sort (take n z) l) (sym h.is) f.stands, h.standing);
      more = h.more;
      nothing = subst (λ (b : Bytes). NothingStands b h.behind) (append_assoc before (take n z) (text_of h.pieces [])) h.nothing;
    })

-- a piece is cut and the rest is read, or no piece stands
by_cut : (before z : Bytes) → 0 < length z → ((sort : Option LexKind) (n : ℕ) → Found before z sort n → IsRead (before ++ take n z) (drop n z)) → (o : Cut) → cut (opens_line before) z ≡ o → IsRead before z
by_cut before z some rest (Ok (sort, n)) e =
    let f = found before z sort n e some in
    with_piece before z sort n f (rest sort n f)
by_cut before z some rest (Err code) e = inr (record {
  pieces = [];
  behind = z;
  is = refl;
  standing = tt;
  more = some;
  nothing = subst (λ (b : Bytes). NothingStands b z) (sym (append-nil before)) (nothing_stands before z code e);
})

-- a piece is never empty, so a text of at most n bytes has at most n of them
read : (n : ℕ) (before z : Bytes) → length z ≤ n → IsRead before z
read zero before [] few = inl (record { pieces = []; is = refl; standing = tt })
read zero before (b ∷ y) few = absurd (omega arith)
read (suc n) before [] few = inl (record { pieces = []; is = refl; standing = tt })
read (suc n) before (b ∷ y) few =
    by_cut before (b ∷ y) (omega arith)
    (λ sort k f. read n (before ++ take k (b ∷ y)) (drop k (b ∷ y)) (omega (arith, few, length-drop k (b ∷ y), f.some)))
    (cut (opens_line before) (b ∷ y)) refl

pub lexemes_or_refusal : (text : Bytes) → ((lexemes : List Lexeme) × HasLexemes text lexemes) ⊎ ((code : LexCode) × (place : Place) × IsRefused text code place)
lexemes_or_refusal text = told (read (length text) [] text (omega arith))
  where
    told : IsRead [] text → ((lexemes : List Lexeme) × HasLexemes text lexemes) ⊎ ((code : LexCode) × (place : Place) × IsRefused text code place)
    told (inl h) = inl (lexemes_of [] h.pieces, record { pieces = h.pieces; is = h.is; standing = h.standing; told = refl })
    told (inr h) = inr (
      code_at (opens_line (text_of h.pieces [])) h.behind,
      place_of (text_of h.pieces []),
      record { pieces = h.pieces; behind = h.behind; is = h.is; standing = h.standing; more = h.more; nothing = h.nothing; told = refl; at = refl },
    )
