-- What is written of each form is pieces, and what stands before the form stands before them.
use Rattle.std.proofs.Common.{◌≡◌, ℕ, suc, ◌+◌, ◌-◌, ◌<◌, true, false, ◌&&◌, ⊎_elim, List, [], ◌∷◌, ◌++◌, append_assoc, length, take, drop, Option, Some, None, refl, sym, ap, subst, ◌∙◌, arith}
use Rattle.std.specs.Prelude.{codes, is_some}
use Rattle.std.specs.List.{flat_map}
use Rattle.std.proofs.lemmas.Bool.{or_cases, and_parts, false≢true}
use Rattle.tapa_base.specs.Gaps.{Bytes, begins}
use Rattle.tapa_syntax.specs.Characters.{is_letter, is_word_byte}
use Rattle.tapa_syntax.specs.declared.lexeme.LexKind.TheVariants as lex_kind
use Rattle.tapa_syntax.specs.declared.lexeme.Lexeme.{Lexeme}
use Rattle.tapa_syntax.specs.declared.terminal.Terminal.TheVariants as terminal
use Rattle.tapa_syntax.specs.Lexemes.{IsSliceOf}
use Rattle.tapa_syntax.specs.Symbols.{text_of}
use Rattle.tapa_lex.proofs.Cuts as cuts
use Rattle.stream_arrays.specs.declared.fault.ArrayCode.TheVariants.{A3}
use Rattle.stream_arrays.specs.Standing.{is, stand}
use Rattle.stream_arrays.specs.Forms.{Declaration, declaration, Invocation, invocation}
use Rattle.stream_arrays.specs.Words.{end_of, line_feeds, form_text, element_name, invoke_words}
use Rattle.stream_arrays.specs.Written.{Scope, Step, faulty, count_in, array_at, without_array, with_arrays, element_in, index_in, declaration_words, declaration_step, head_size}
use Rattle.stream_arrays.specs.Written.{invocation_pieces, invocation_step, begins_argument, ends_argument, element_step, argument_element, other_step, step}
use Rattle.stream_arrays.proofs.FormFeeds.{OnOk, ok_then, ok_either, AreSliced}
use Rattle.tapa_laws.proofs.written.Follows.{parenthesis, semicolon, Alike, alike_same, alike_letters, lexeme_there}
use Rattle.tapa_laws.proofs.written.Pieced.{Anywhere, anywhere_lexeme, ends_one, form_pieced}
use Rattle.tapa_laws.proofs.written.Terminals.{lexeme_is, from_lexeme, closing_text, comma_text}
use Rattle.tapa_laws.proofs.written.Apart.{AreApart}
use Rattle.tapa_laws.proofs.written.Holds.{OnSome, some_if, ok_next, ok_where}
use Rattle.tapa_laws.proofs.written.Words.{begins_more, element_word, element_spaced, Named, IsDeclared, declared_parts, declared_spaced, declared_ends}
use Rattle.tapa_laws.proofs.written.Invokes.{count_some, IsInvoked, invocation_parts, element_named, IsFormed, formed, invoke_spaced, invoke_ends, Starts, invoke_starts}

-- Before a rest like the source's rest behind a form, what is written of the form is pieces; and what stands before the form in the
-- source stands before what is written.
abbrev pub Fits : Bytes → Lexeme → List Lexeme → Step → Type 0
Fits text l ls r = (rest : Bytes) → Alike (drop (end_of l.to (take r.more ls)) text) rest → Anywhere rest → Anywhere (r.written ++ rest) × Alike (drop l.from text) (r.written ++ rest)

some_bytes : (text : Bytes) (l : Lexeme) → IsSliceOf text l → 0 < length (text_of text l)
some_bytes text l h = cuts.is_some [] (Some l.kind) (text_of text l) (drop l.to text) (lexeme_is text l h)

pub alike_front : (x a b : Bytes) → 0 < length x → Alike (x ++ a) (x ++ b)
alike_front [] a b some = absurd (omega arith)
alike_front (c ∷ x) a b some = alike_same c (x ++ a) (x ++ b)

alike_words : (x y : Bytes) → begins is_letter x ≡ true → begins is_letter y ≡ true → Alike x y
alike_words [] y h k = absurd (false≢true h)
alike_words (b ∷ x) [] h k = absurd (false≢true k)
alike_words (b ∷ x) (c ∷ y) h k = alike_letters b c x y h k

-- a form that begins with a word
word_alike : (text : Bytes) (l : Lexeme) (y : Bytes) → IsSliceOf text l → Named text l → begins is_letter y ≡ true → Alike (drop l.from text) y
word_alike text l y h w k = subst (λ (z : Bytes). Alike z y) (sym (from_lexeme text l h)) (alike_words (text_of text l ++ drop l.to text) y (begins_more (text_of text l) (drop l.to text) w.begun) k)

-- a form whose first word is its first lexeme
same_alike : (text : Bytes) (l : Lexeme) (z : Bytes) → IsSliceOf text l → Alike (drop l.from text) (text_of text l ++ z)
same_alike text l z h = subst (λ (y : Bytes). Alike y (text_of text l ++ z)) (sym (from_lexeme text l h)) (alike_front (text_of text l) (drop l.to text) z (some_bytes text l h))

started_alike : (text : Bytes) (l : Lexeme) (ls : List Lexeme) (words : List Bytes) (rest : Bytes) → IsSliceOf text l → Starts words (text_of text l)
    → Alike (drop l.from text) (form_text text ls words ++ rest)
started_alike text l ls words rest h s =
    let behind : Bytes = flat_map (λ (v : Bytes). 32 ∷ v) s.more in
    let first : Bytes = text_of text l in
    let parts : ((first ++ behind) ++ line_feeds text ls) ++ rest ≡ first ++ ((behind ++ line_feeds text ls) ++ rest) =
    ap (λ (z : Bytes). z ++ rest) (append_assoc first behind (line_feeds text ls)) ∙ append_assoc first (behind ++ line_feeds text ls) rest in
    subst (λ (ws : List Bytes). Alike (drop l.from text) (form_text text ls ws ++ rest)) (sym s.is)
    (subst (λ (z : Bytes). Alike (drop l.from text) z) (sym parts) (same_alike text l ((behind ++ line_feeds text ls) ++ rest) h))

-- ---- each form

-- no byte of a word is behind the four lexemes of an element
abbrev EndsElement : Bytes → Lexeme → List Lexeme → Type 0
EndsElement text l ls = begins is_word_byte (drop (end_of l.to (take 3 ls)) text) ≡ false

-- an element as an argument begins with a name, and no byte of a word is behind it
abbrev IsArgument : Bytes → Lexeme → List Lexeme → ℕ × ℕ → Type 0
IsArgument text l ls p = Named text l × EndsElement text l ls

declaration_fits : (text : Bytes) (s : Scope) (l : Lexeme) (ls : List Lexeme) (d : Declaration) → IsSliceOf text l → IsDeclared text d × Named text l
    → OnOk (Fits text l ls) (declaration_step text s (l ∷ ls) d)
declaration_fits text s l ls d h k =
    ok_next (Fits text l ls) (count_in text s d.count) _ (λ n.
    ok_next (Fits text l ls) (without_array text s.arrays d.depth) _ (λ u.
    ok_next (Fits text l ls) (with_arrays text n s.arrays d.names) _ (λ arrays.
    λ rest a p. (
      form_pieced text (take (suc (length (l ∷ ls) - suc d.left)) (l ∷ ls)) (declaration_words text d n) (codes ";") rest
          (declared_spaced text d n k.0) (declared_ends text d n) lex_kind.Punct (semicolon rest) p,
      word_alike text l (form_text text (take (suc (length (l ∷ ls) - suc d.left)) (l ∷ ls)) (declaration_words text d n) ++ rest) h k.1 refl,
    ))))

invocation_fits : (text : Bytes) (s : Scope) (l : Lexeme) (ls : List Lexeme) (v : Invocation) → AreSliced text (l ∷ ls) → IsInvoked text (drop 10 (l ∷ ls)) v
    → OnOk (Fits text l ls) (invocation_step text s (l ∷ ls) v)
invocation_fits text s l ls v h k =
    ok_then (λ n. 0 < n) (Fits text l ls) (count_in text s v.count) _ (count_some text s v.count) (λ n some.
    ok_then (IsFormed text l) (Fits text l ls) (invocation_pieces text s (l ∷ ls) v.inside n) _ (formed text s l ls v.inside n h k.sliced k.closed) (λ pieces f.
    λ rest a p. (
      form_pieced text (take (head_size + length v.inside + 1) (l ∷ ls)) (invoke_words text pieces n) (codes ")") rest
          (invoke_spaced text l pieces n f) (invoke_ends text l pieces n some f) lex_kind.Punct (parenthesis rest) p,
      started_alike text l (take (head_size + length v.inside + 1) (l ∷ ls)) (invoke_words text pieces n) rest h.0 (invoke_starts text l pieces n some f),
    )))

element_fits : (text : Bytes) (s : Scope) (l : Lexeme) (ls : List Lexeme) (p : ℕ × ℕ) → IsSliceOf text l → IsArgument text l ls p → OnOk (Fits text l ls) (element_step text s (l ∷ ls) p)
element_fits text s l ls p h k =
    ok_next (Fits text l ls) (index_in l.place p) _ (λ i.
    let word : Bytes = element_name (text_of text l) i in
    let feeds : Bytes = line_feeds text (take 4 (l ∷ ls)) in
    λ rest a q. (
      form_pieced text (take 4 (l ∷ ls)) (word ∷ []) word rest (element_spaced (text_of text l) i k.0, tt) (ends_one word) lex_kind.Word (element_word (text_of text l) i rest k.0 (a.word k.1)) q,
      word_alike text l (form_text text (take 4 (l ∷ ls)) (word ∷ []) ++ rest) h k.0
          (begins_more ((word ++ []) ++ feeds) rest (begins_more (word ++ []) feeds (begins_more word [] (element_word (text_of text l) i [] k.0 refl).begun))),
    ))

other_fits : (text : Bytes) (s : Scope) (before : List Lexeme) (l : Lexeme) (ls : List Lexeme) → IsSliceOf text l → OnOk (Fits text l ls) (other_step text s before (l ∷ ls))
other_fits text s before l ls h =
    ok_either (Fits text l ls) (is_some (array_at text s.arrays before l)) (faulty A3 l.place) _ tt
    (λ rest a p. (anywhere_lexeme l.kind (text_of text l) rest (lexeme_there l.kind (text_of text l) (drop l.to text) rest a (lexeme_is text l h)) p, same_alike text l rest h))

-- ---- whatever form stands in front

some_both : {A : Type 0} (P : A → Type 0) (Q : Type 0) (o : Option A) → OnSome P o → Q → OnSome (λ a. P a × Q) o
some_both P Q None h q = tt
some_both P Q (Some a) h q = (h, q)

ends_no_word : (text : Bytes) (m : Lexeme) (ls : List Lexeme) → ends_argument text (m ∷ ls) ≡ true → begins is_word_byte (text_of text m) ≡ false
ends_no_word text m ls e =
    ⊎_elim
    (λ (h : stand text (terminal.Comma ∷ []) (m ∷ ls) ≡ true).
    subst (λ (z : Bytes). begins is_word_byte z ≡ false) (sym (comma_text text m (and_parts (is text terminal.Comma m) true h).0)) refl)
    (λ (h : stand text (terminal.RightParen ∷ []) (m ∷ ls) ≡ true).
    subst (λ (z : Bytes). begins is_word_byte z ≡ false) (sym (closing_text text m (and_parts (is text terminal.RightParen m) true h).0)) refl)
    (or_cases (stand text (terminal.Comma ∷ []) (m ∷ ls)) (stand text (terminal.RightParen ∷ []) (m ∷ ls)) e)

-- no byte of a word is behind an element that is an argument
argument_ends : (text : Bytes) (l : Lexeme) (ls : List Lexeme) → AreApart text (l ∷ ls) → ends_argument text (drop 4 (l ∷ ls)) ≡ true → EndsElement text l ls
argument_ends text l [] h e = absurd (false≢true e)
argument_ends text l (a ∷ []) h e = absurd (false≢true e)
argument_ends text l (a ∷ k ∷ []) h e = absurd (false≢true e)
argument_ends text l (a ∷ k ∷ b ∷ []) h e = absurd (false≢true e)
argument_ends text l (a ∷ k ∷ b ∷ m ∷ ls) h e = h.1.1.1.0 (ends_no_word text m ls e)

argument_parts : (text : Bytes) (s : Scope) (before : List Lexeme) (l : Lexeme) (ls : List Lexeme) → AreSliced text (l ∷ ls) → AreApart text (l ∷ ls)
    → OnSome (IsArgument text l ls) (argument_element text s before (l ∷ ls))
argument_parts text s before l ls h k =
    some_if (IsArgument text l ls) (begins_argument text s before && ends_argument text (drop 4 (l ∷ ls))) (element_in text s (l ∷ ls)) (λ t.
    some_both (λ (p : ℕ × ℕ). Named text l) (EndsElement text l ls) (element_in text s (l ∷ ls)) (element_named text s (l ∷ ls) h)
    (argument_ends text l ls k (and_parts (begins_argument text s before) (ends_argument text (drop 4 (l ∷ ls))) t).1))

pub step_fits : (text : Bytes) (s : Scope) (before : List Lexeme) (l : Lexeme) (ls : List Lexeme) → AreSliced text (l ∷ ls) → AreApart text (l ∷ ls)
    → OnOk (Fits text l ls) (step text s before (l ∷ ls))
step_fits text s before l ls h k =
    ok_where (λ d. IsDeclared text d × Named text l) (Fits text l ls) (declaration text (l ∷ ls)) (declaration_step text s (l ∷ ls)) _
    (declared_parts text l ls h) (λ d p. declaration_fits text s l ls d h.0 p)
    (ok_where (IsInvoked text (drop 10 (l ∷ ls))) (Fits text l ls) (invocation text (l ∷ ls)) (invocation_step text s (l ∷ ls)) _
    (invocation_parts text (l ∷ ls) h) (λ v p. invocation_fits text s l ls v h p)
    (ok_where (IsArgument text l ls) (Fits text l ls) (argument_element text s before (l ∷ ls)) (element_step text s (l ∷ ls)) _
    (argument_parts text s before l ls h k) (λ p q. element_fits text s l ls p h.0 q)
    (other_fits text s before l ls h.0)))
