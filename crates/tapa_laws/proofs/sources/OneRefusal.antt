-- A refused source is refused at one place, by one rule.
use Rattle.std.proofs.Common.{◌≡◌, ◌⊎◌, ℕ, List, [], ◌∷◌, Ok, Err, refl, sym, ◌∙◌, ap, subst, inl, inr}
use Rattle.tapa_base.specs.declared.text.Place.{Place}
use Rattle.tapa_syntax.specs.declared.lexeme.Lexeme.{Lexeme}
use Rattle.tapa_syntax.specs.Symbols.{symbols_of}
use Rattle.tapa_syntax.specs.Trees.{ItemTree, file_of}
use Rattle.tapa_lex.specs.declared.fault.LexCode.{LexCode}
use Rattle.tapa_lex.specs.declared.fault.LexCode.TheVariants as lex
use Rattle.tapa_lex.specs.Refusals.{IsRefused}
use Rattle.tapa_lex.proofs.Whole.{one_list, not_both, one_refusal as one_lexical_refusal}
use Rattle.tapa_parse_expression.specs.declared.fault.ParseCode.{ParseCode}
use Rattle.tapa_parse_expression.specs.declared.fault.ParseCode.TheVariants as parse
use Rattle.tapa_parse.specs.Answers.{stopped_at, Refuses}
use Rattle.tapa_parse.specs.declared.fault.ParseFault.TheVariants.{At}
use Rattle.tapa_parse.proofs.Places.{one_refusal as one_parse_refusal}
use Rattle.std.specs.Prelude.{Result}
use Rattle.stream_arrays.specs.declared.fault.ArrayCode.{ArrayCode}
use Rattle.stream_arrays.specs.declared.fault.ArrayCode.TheVariants as arrays
use Rattle.stream_arrays.specs.declared.fault.ArrayFault.{ArrayFault}
use Rattle.stream_arrays.specs.Written.{written_out}
use Rattle.check_scope.specs.Answers.{IsFirstBroken}
use Rattle.check_scope.specs.declared.fault.Broken.{Broken}
use Rattle.stream_check.specs.Programs.{program_faults}
use Rattle.command_answers.specs.declared.source.SourceCode.{SourceCode}
use Rattle.command_answers.specs.declared.source.SourceCode.TheVariants.{L1, L2, L3, L4, A1, A2, A3, A4, P1, P2, Rule}
use Rattle.command_source.specs.Codes.{lex_code, array_code, parse_code}
use Rattle.command_source.specs.Source.{HasNoTree, BreaksFirst, IsRefusedWrittenOut, HasArrayFault, IsUnwritten}
use Rattle.command_source.proofs.Sourced.{one_tree, no_tree, one_written, unwritten}
use Rattle.tapa_laws.specs.sources.OneMeaning.{SourcesHaveOneRefusal}

abbrev ByLexer : List ℕ → Place → SourceCode → Type 0
ByLexer text place code = (c : LexCode) × IsRefused text c place × (code ≡ lex_code c)

abbrev ByParser : List ℕ → Place → SourceCode → Type 0
ByParser text place code = (c : ParseCode) × HasNoTree text place c × (code ≡ parse_code c)

abbrev ByRule : List ℕ → List ℕ → Place → SourceCode → Type 0
ByRule text top place code = (b : Broken) × BreaksFirst text top b × (place ≡ b.place) × (code ≡ Rule b.code b.limit)

abbrev Refusal : List ℕ → List ℕ → Place → SourceCode → Type 0
Refusal text top place code = ByLexer text place code ⊎ (ByParser text place code ⊎ ByRule text top place code)

refusal : (text top : List ℕ) (place : Place) (code : SourceCode) → IsRefusedWrittenOut text top place code → Refusal text top place code
refusal text top place L1 h = inl (lex.L1, h, refl)
refusal text top place L2 h = inl (lex.L2, h, refl)
refusal text top place L3 h = inl (lex.L3, h, refl)
refusal text top place L4 h = inl (lex.L4, h, refl)
refusal text top place A1 h = absurd h
refusal text top place A2 h = absurd h
refusal text top place A3 h = absurd h
refusal text top place A4 h = absurd h
refusal text top place P1 h = inr (inl (parse.P1, h, refl))
refusal text top place P2 h = inr (inl (parse.P2, h, refl))
refusal text top place (Rule code limit) h = inr (inr (record { code = code; place = place; limit = limit }, h, refl, refl))

first_once : (faults : List Broken) (a b : Broken) → IsFirstBroken faults a → IsFirstBroken faults b → a ≡ b
first_once [] a b h k = absurd h
first_once (x ∷ rest) a b h k = sym h ∙ k

module _ (text top : List ℕ) (place there : Place) (code other : SourceCode) where
  by_one_parser : ByParser text place code → ByParser text there other → (place ≡ there) × (code ≡ other)
  by_one_parser (c, h, e) (d, k, f) =
      let seen = subst (λ (l : List Lexeme). Refuses text (symbols_of text l) (At d there)) (one_list text k.lexemes h.lexemes k.are h.are) k.refused in
      let once = one_parse_refusal (symbols_of text h.lexemes) h.refused.0 seen.0 c d h.refused.2 seen.2 in
      (h.refused.1 ∙ ap (stopped_at text) once.1 ∙ sym seen.1, e ∙ ap parse_code once.0 ∙ sym f)

  by_one_rule : ByRule text top place code → ByRule text top there other → (place ≡ there) × (code ≡ other)
  by_one_rule (a, h, p, e) (b, k, q, f) =
      let same = first_once (program_faults (file_of k.file) top) a b (subst (λ (items : List ItemTree). IsFirstBroken (program_faults items top) a) (one_tree text h.file k.file h.tree k.tree) h.first) k.first in
      (p ∙ ap (λ (x : Broken). x.place) same ∙ sym q, e ∙ ap (λ (x : Broken). Rule x.code x.limit) same ∙ sym f)

  one_way : Refusal text top place code → Refusal text top there other → (place ≡ there) × (code ≡ other)
  one_way (inl (c, h, e)) (inl (d, k, f)) =
      let same = one_lexical_refusal text c d place there h k in
      (same.1, e ∙ ap lex_code same.0 ∙ sym f)
  one_way (inl (c, h, e)) (inr (inl (d, k, f))) = absurd (not_both text k.lexemes c place k.are h)
  one_way (inl (c, h, e)) (inr (inr (b, k, q, f))) = absurd (not_both text k.tree.lexemes c place k.tree.are h)
  one_way (inr (inl (c, h, e))) (inl (d, k, f)) = absurd (not_both text h.lexemes d there h.are k)
  one_way (inr (inr (b, h, p, e))) (inl (d, k, f)) = absurd (not_both text h.tree.lexemes d there h.tree.are k)
  one_way (inr (inl p)) (inr (inl q)) = by_one_parser p q
  one_way (inr (inl (c, h, e))) (inr (inr (b, k, q, f))) = absurd (no_tree text place c k.file h k.tree)
  one_way (inr (inr (b, h, p, e))) (inr (inl (d, k, f))) = absurd (no_tree text there d h.file k h.tree)
  one_way (inr (inr p)) (inr (inr q)) = by_one_rule p q

-- ---- a source before it is written out

abbrev ByArrays : List ℕ → Place → SourceCode → Type 0
ByArrays text place code = (c : ArrayCode) × HasArrayFault text place c × (code ≡ array_code c)

abbrev Failure : List ℕ → Place → SourceCode → Type 0
Failure text place code = ByLexer text place code ⊎ ByArrays text place code

failure : (text : List ℕ) (place : Place) (code : SourceCode) → IsUnwritten text place code → Failure text place code
failure text place L1 h = inl (lex.L1, h, refl)
failure text place L2 h = inl (lex.L2, h, refl)
failure text place L3 h = inl (lex.L3, h, refl)
failure text place L4 h = inl (lex.L4, h, refl)
failure text place A1 h = inr (arrays.A1, h, refl)
failure text place A2 h = inr (arrays.A2, h, refl)
failure text place A3 h = inr (arrays.A3, h, refl)
failure text place A4 h = inr (arrays.A4, h, refl)
failure text place P1 h = absurd h
failure text place P2 h = absurd h
failure text place (Rule code limit) h = absurd h

failed_once : (o : Result (List ℕ) ArrayFault) (a b : ArrayFault) → o ≡ Err a → o ≡ Err b → a ≡ b
failed_once o a b h k = cc

one_failure : (text : List ℕ) (place there : Place) (code other : SourceCode) → Failure text place code → Failure text there other → (place ≡ there) × (code ≡ other)
one_failure text place there code other (inl (c, h, e)) (inl (d, k, f)) =
    let same = one_lexical_refusal text c d place there h k in
    (same.1, e ∙ ap lex_code same.0 ∙ sym f)
one_failure text place there code other (inl (c, h, e)) (inr (d, k, f)) = absurd (not_both text k.lexemes c place k.are h)
one_failure text place there code other (inr (c, h, e)) (inl (d, k, f)) = absurd (not_both text h.lexemes d there h.are k)
one_failure text place there code other (inr (c, h, e)) (inr (d, k, f)) =
    let seen = subst (λ (l : List Lexeme). written_out text l ≡ Err (record { code = c; place = place })) (one_list text h.lexemes k.lexemes h.are k.are) h.fails in
    let same = failed_once (written_out text k.lexemes) (record { code = c; place = place }) (record { code = d; place = there }) seen k.fails in
    (ap (λ (x : ArrayFault). x.place) same, e ∙ ap (λ (x : ArrayFault). array_code x.code) same ∙ sym f)

pub one_refusal : SourcesHaveOneRefusal
one_refusal text top place there code other (inl h) (inl k) = one_failure text place there code other (failure text place code h) (failure text there other k)
one_refusal text top place there code other (inl h) (inr (out, w, k)) = absurd (unwritten text out place code h w)
one_refusal text top place there code other (inr (out, w, h)) (inl k) = absurd (unwritten text out there other k w)
one_refusal text top place there code other (inr (out, w, h)) (inr (next, v, k)) =
    let same = one_written text out next w v in
    one_way next top place there code other (refusal next top place code (subst (λ (t : List ℕ). IsRefusedWrittenOut t top place code) same h)) (refusal next top there other k)
