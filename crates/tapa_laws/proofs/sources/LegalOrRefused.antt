-- Every source is legal or is refused, and none is both.
use Rattle.std.specs.Prelude.{Result}
use Rattle.std.proofs.Common.{◌≡◌, ◌⊎◌, inl, inr, ℕ, List, [], ◌∷◌, Ok, Err, refl, sym, subst}
use Rattle.tapa_base.specs.declared.text.Place.{Place}
use Rattle.tapa_syntax.specs.declared.lexeme.Lexeme.{Lexeme}
use Rattle.tapa_syntax.specs.Grammar.{IsTreeOf}
use Rattle.tapa_syntax.specs.Lexemes.{HasLexemes}
use Rattle.tapa_syntax.specs.Symbols.{symbols_of}
use Rattle.tapa_syntax.specs.Trees.{ItemTree}
use Rattle.tapa_lex.specs.declared.fault.LexCode.{LexCode}
use Rattle.tapa_lex.specs.Refusals.{IsRefused}
use Rattle.tapa_lex.proofs.Whole.{one_list, not_both}
use Rattle.tapa_parse_expression.specs.declared.fault.ParseCode.{ParseCode}
use Rattle.tapa_parse.specs.Answers.{stopped_at, IsFile, IsRefusedSomewhere}
use Rattle.tapa_parse.proofs.CompleteFiles.{one_tree}
use Rattle.tapa_parse.proofs.Places.{file_or_refused}
use Rattle.check_scope.specs.Answers.{IsFirstBroken}
use Rattle.check_scope.specs.declared.fault.Broken.{Broken}
use Rattle.stream_arrays.specs.declared.fault.ArrayCode.{ArrayCode}
use Rattle.stream_arrays.specs.declared.fault.ArrayFault.{ArrayFault}
use Rattle.stream_arrays.specs.Written.{written_out}
use Rattle.stream_check.specs.Programs.{program_faults}
use Rattle.command_source.specs.Source.{IsWrittenOut, HasArrayFault}
use Rattle.tapa_laws.specs.sources.Sources.{HasFile, IsLegalText, IsUnread, BreaksRule, IsRefusedTextSomehow, IsLegal, IsRefusedSomehow}
use Rattle.tapa_laws.proofs.sources.Pieces.{lexemes_or_refusal}
use Rattle.command_source.proofs.Sourced.{one_written, no_fault, not_first}

-- ---- every text is one of them

abbrev Lexed : List ℕ → Type 0
Lexed text = ((lexemes : List Lexeme) × HasLexemes text lexemes) ⊎ ((code : LexCode) × (place : Place) × IsRefused text code place)

abbrev Parsed : List ℕ → Type 0
Parsed text = ((items : List ItemTree) × HasFile text items) ⊎ ((code : ParseCode) × (place : Place) × IsUnread text code place)

abbrev Checked : List ℕ → List ℕ → Type 0
Checked text top = IsLegalText text top ⊎ ((broken : Broken) × BreaksRule text top broken)

-- the symbols are a file or are refused
parsed : (text : List ℕ) (lexemes : List Lexeme) → HasLexemes text lexemes → IsFile (symbols_of text lexemes) ⊎ IsRefusedSomewhere (symbols_of text lexemes) → Parsed text
parsed text lexemes h (inl (items, tree, within)) = inl (items, record { lexemes = lexemes; are = h; spelled = tree; within = within })
parsed text lexemes h (inr (code, left, refused)) = inr (code, stopped_at text left, record { lexemes = lexemes; are = h; refused = (left, refl, refused) })

-- a file breaks no rule or there is a first one
checked : (text top : List ℕ) (items : List ItemTree) → HasFile text items → (faults : List Broken) → program_faults items top ≡ faults → Checked text top
checked text top items h [] e = inl (record { items = items; file = h; legal = e })
checked text top items h (b ∷ rest) e = inr (b, record { items = items; file = h; first = subst (λ (l : List Broken). IsFirstBroken l b) (sym e) refl })

text_legal_or_refused : (text top : List ℕ) → IsLegalText text top ⊎ IsRefusedTextSomehow text top
text_legal_or_refused text top = of_lexed (lexemes_or_refusal text)
  where
    of_checked : Checked text top → IsLegalText text top ⊎ IsRefusedTextSomehow text top
    of_checked (inl h) = inl h
    of_checked (inr h) = inr (inr (inr h))

    of_parsed : Parsed text → IsLegalText text top ⊎ IsRefusedTextSomehow text top
    of_parsed (inl (items, h)) = of_checked (checked text top items h (program_faults items top) refl)
    of_parsed (inr h) = inr (inr (inl h))

    of_lexed : Lexed text → IsLegalText text top ⊎ IsRefusedTextSomehow text top
    of_lexed (inl (lexemes, h)) = of_parsed (parsed text lexemes h (file_or_refused (symbols_of text lexemes)).0)
    of_lexed (inr h) = inr (inl h)

-- ---- no text is both

-- a text has one file
one_file : (text : List ℕ) (items others : List ItemTree) → HasFile text items → HasFile text others → items ≡ others
one_file text items others h k =
    let same = one_list text h.lexemes k.lexemes h.are k.are in
    one_tree (symbols_of text k.lexemes) items others (subst (λ (l : List Lexeme). IsTreeOf (symbols_of text l) items) same h.spelled) k.spelled

-- what has a file is not refused
no_file : (text : List ℕ) (items : List ItemTree) (code : ParseCode) (place : Place) → HasFile text items → IsUnread text code place → ⊥
no_file text items code place h k =
    let same = one_list text h.lexemes k.lexemes h.are k.are in
    let spelled = subst (λ (l : List Lexeme). IsTreeOf (symbols_of text l) items) same h.spelled in
    (file_or_refused (symbols_of text k.lexemes)).1 (items, spelled, h.within) (code, k.refused.0, k.refused.2)

text_not_both : (text top : List ℕ) → IsLegalText text top → IsRefusedTextSomehow text top → ⊥
text_not_both text top p (inl (code, place, h)) = not_both text p.file.lexemes code place p.file.are h
text_not_both text top p (inr (inl (code, place, h))) = no_file text p.items code place p.file h
text_not_both text top p (inr (inr (broken, h))) =
    let same = one_file text p.items h.items p.file h.file in
    not_first (program_faults h.items top) broken (subst (λ (items : List ItemTree). program_faults items top ≡ []) same p.legal) h.first

-- ---- and so is every source

abbrev Written : List ℕ → Type 0
Written text = ((out : List ℕ) × IsWrittenOut text out) ⊎ ((code : ArrayCode) × (place : Place) × HasArrayFault text place code)

-- writing the arrays out gives a text or fails
written : (text : List ℕ) (lexemes : List Lexeme) → HasLexemes text lexemes → (o : Result (List ℕ) ArrayFault) → written_out text lexemes ≡ o → Written text
written text lexemes h (Ok out) e = inl (out, record { lexemes = lexemes; are = h; gives = e })
written text lexemes h (Err fault) e = inr (fault.code, fault.place, record { lexemes = lexemes; are = h; fails = e })

pub legal_or_refused : (text top : List ℕ) → IsLegal text top ⊎ IsRefusedSomehow text top
legal_or_refused text top = of_lexed (lexemes_or_refusal text)
  where
    of_text : (out : List ℕ) → IsWrittenOut text out → IsLegalText out top ⊎ IsRefusedTextSomehow out top → IsLegal text top ⊎ IsRefusedSomehow text top
    of_text out w (inl h) = inl (out, w, h)
    of_text out w (inr h) = inr (inr (inr (out, w, h)))

    of_written : Written text → IsLegal text top ⊎ IsRefusedSomehow text top
    of_written (inl (out, w)) = of_text out w (text_legal_or_refused out top)
    of_written (inr h) = inr (inr (inl h))

    of_lexed : Lexed text → IsLegal text top ⊎ IsRefusedSomehow text top
    of_lexed (inl (lexemes, h)) = of_written (written text lexemes h (written_out text lexemes) refl)
    of_lexed (inr h) = inr (inl h)

pub not_legal_and_refused : (text top : List ℕ) → IsLegal text top → IsRefusedSomehow text top → ⊥
not_legal_and_refused text top (out, w, p) (inl (code, place, h)) = not_both text w.lexemes code place w.are h
not_legal_and_refused text top (out, w, p) (inr (inl (code, place, h))) = no_fault text out place code h w
not_legal_and_refused text top (out, w, p) (inr (inr (other, v, h))) = text_not_both other top (subst (λ (t : List ℕ). IsLegalText t top) (one_written text out other w v) p) h
