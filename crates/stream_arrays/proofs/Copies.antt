-- A text in which no form stands is left as it is.
use Rattle.std.proofs.Common.{◌≡◌, ℕ, zero, suc, ◌+◌, ◌-◌, ◌≤◌, Bool, true, false, cond, List, [], ◌∷◌, ◌++◌, length, take, drop, Option, None, Ok, refl, sym, ap, ◌∙◌, arith, rules}
use Rattle.std.specs.Prelude.{◌&&◌, ◌==◌, not, nat_le, slice_get, slice_range, bytes_eq, codes, unwrap_or, option_map, is_some}
use Rattle.std.proofs.lemmas.Bool.Decides.{nat_tests}
use Rattle.std.proofs.lemmas.List.{take-append-drop, drop-drop}
use Rattle.tapa_base.specs.Gaps.{Bytes}
use Rattle.tapa_syntax.specs.declared.lexeme.Lexeme.{Lexeme}
use Rattle.tapa_syntax.specs.declared.terminal.Terminal.TheVariants as terminal
use Rattle.tapa_syntax.specs.contracts.terminal.Terminal.{the_type}
use Rattle.tapa_syntax.specs.declared.terminal.Terminal.{Terminal}
use Rattle.tapa_syntax.specs.Symbols.{text_of, symbols_of}
use Rattle.tapa_syntax.specs.Trees.{ItemTree}
use Rattle.tapa_syntax.specs.Grammar.{IsTreeOf}
use Rattle.tapa_parse_expression.specs.Readers.{same}
use Rattle.stream_arrays.proofs.Trees.{Unformed, tree_unformed}
use denote.Enum.Bare.{same_true}
use Rattle.stream_arrays.specs.Standing.{terminal_at, is, is_named, stand, first_word, type_size}
use Rattle.stream_arrays.specs.Numbers.{Numbering, found}
use Rattle.stream_arrays.specs.Forms.{declaration, with_type, begins_invocation, invocation, invoked, inside_size, first_may_count, is_mode}
use Rattle.stream_arrays.specs.Plain.{is_plain, is_in_order, is_counted}
use Rattle.stream_arrays.specs.Words.{end_of}
use Rattle.stream_arrays.specs.Written.{Scope, Step, Outcome, and_then, faulty, is_selected, array_at, both, index_of, element_in, begins_argument, ends_argument, argument_element}
use Rattle.stream_arrays.specs.Written.{declaration_step, invocation_step, element_step, other_step, constants_behind, depth_behind, opened_behind, scope_behind, step, written_from}
use Rattle.stream_arrays.specs.Written.{most, within_most, written_out}
use Rattle.stream_arrays.specs.declared.fault.ArrayCode.TheVariants.{A3, A4}
use Rattle.std.proofs.lemmas.Bool.{false_from_ne_true as false_if, and_right as and_false}
use Rattle.tapa_base.proofs.Tests.{not_so as not_true, and_left, and_right}

-- each tail of a plain text is plain
plain_behind : (text : Bytes) (n : ℕ) (ls : List Lexeme) → is_plain text ls ≡ true → is_plain text (drop n ls) ≡ true
plain_behind text zero ls h = h
plain_behind text (suc n) [] h = refl
plain_behind text (suc n) (l ∷ ls) h = plain_behind text n ls (and_right _ (is_plain text ls) h)

no_streams : (text : Bytes) (ls : List Lexeme) → is_plain text ls ≡ true → bytes_eq (first_word text ls) (codes "streams") ≡ false
no_streams text [] h = refl
no_streams text (l ∷ ls) h = not_true (bytes_eq (text_of text l) (codes "streams")) (and_left _ (not (is_counted text l ls)) (and_left _ (is_plain text ls) h))

no_count : (text : Bytes) (ls : List Lexeme) → is_plain text ls ≡ true → (is_mode (first_word text ls) && stand text (terminal.Comma ∷ []) (drop 1 ls)) ≡ false
no_count text [] h = refl
no_count text (l ∷ ls) h = not_true (is_counted text l ls) (and_right (not (bytes_eq (text_of text l) (codes "streams"))) _ (and_left _ (is_plain text ls) h))

no_declaration : (text : Bytes) (ls : List Lexeme) → is_plain text ls ≡ true → declaration text ls ≡ None
no_declaration text ls h =
    ap (λ t. cond t (with_type text (drop 4 ls) (type_size text (drop 4 ls))) None) (and_false (stand text (terminal.Tapa ∷ terminal.Scope ∷ terminal.Name ∷ terminal.Less ∷ []) ls) _ (no_streams text (drop 2 ls) (plain_behind text 2 ls h)))

begins_none : (a m c f g : Bool) → (m && c) ≡ false → ((((a && m) && c) && f) && g) ≡ false
begins_none false m c f g e = refl
begins_none true true true f g e = absurd (cc)
begins_none true true false f g e = refl
begins_none true false c f g e = refl

no_invocation : (text : Bytes) (ls : List Lexeme) → is_plain text ls ≡ true → invocation text ls ≡ None
no_invocation text ls h =
    let e : (is_mode (first_word text (drop 5 ls)) && stand text (terminal.Comma ∷ []) (drop 6 ls)) ≡ false =
    ap (λ z. is_mode (first_word text (drop 5 ls)) && stand text (terminal.Comma ∷ []) z) (sym (drop-drop 1 5 ls)) ∙ no_count text (drop 5 ls) (plain_behind text 5 ls h) in
    ap (λ t. cond t (invoked (drop 10 ls) (slice_get ls 7) (inside_size text 0 (drop 10 ls))) None)
    (begins_none (stand text (terminal.Dot ∷ terminal.Invoke ∷ terminal.Less ∷ terminal.Tapa ∷ terminal.Scope ∷ []) ls) (is_mode (first_word text (drop 5 ls))) (stand text (terminal.Comma ∷ []) (drop 6 ls)) (first_may_count text (drop 7 ls)) (stand text (terminal.Greater ∷ terminal.LeftParen ∷ []) (drop 8 ls)) e)

-- ---- texts in which no form begins

abbrev pub NoForms : Bytes → List Lexeme → Type 0
NoForms text [] = Unit {0}
NoForms text (l ∷ ls) = ((declaration text (l ∷ ls) ≡ None) × (invocation text (l ∷ ls) ≡ None)) × NoForms text ls

plain_forms : (text : Bytes) (ls : List Lexeme) → is_plain text ls ≡ true → NoForms text ls
plain_forms text [] h = tt
plain_forms text (l ∷ ls) h = ((no_declaration text (l ∷ ls) h, no_invocation text (l ∷ ls) h), plain_forms text ls (and_right _ (is_plain text ls) h))

is_terminal : (text : Bytes) (m : Terminal) (l : Lexeme) → is text m l ≡ true → terminal_at text l ≡ m
unfolding same
is_terminal text m l e = same_true the_type (search rules) _ _ e

never_head : (text : Bytes) (ls : List Lexeme) → Unformed (symbols_of text ls) → stand text (terminal.Tapa ∷ terminal.Scope ∷ terminal.Name ∷ terminal.Less ∷ []) ls ≡ true → ⊥
never_head text [] u h = absurd (cc)
never_head text (l ∷ []) u h = let e : false ≡ true = and_right (is text terminal.Tapa l) false h in absurd (cc)
never_head text (l ∷ a ∷ []) u h = let e : false ≡ true = and_right (is text terminal.Scope a) false (and_right (is text terminal.Tapa l) _ h) in absurd (cc)
never_head text (l ∷ a ∷ b ∷ []) u h =
    let e : false ≡ true = and_right (is text terminal.Name b) false (and_right (is text terminal.Scope a) _ (and_right (is text terminal.Tapa l) _ h)) in absurd (cc)
never_head text (l ∷ a ∷ b ∷ c ∷ ls) u h =
    let second : (is text terminal.Scope a && (is text terminal.Name b && (is text terminal.Less c && true))) ≡ true = and_right (is text terminal.Tapa l) _ h in
    let third : (is text terminal.Name b && (is text terminal.Less c && true)) ≡ true = and_right (is text terminal.Scope a) _ second in
    let last : (is text terminal.Less c && true) ≡ true = and_right (is text terminal.Name b) _ third in
    (u.0 (is_terminal text terminal.Tapa l (and_left (is text terminal.Tapa l) _ h))).1 (is_terminal text terminal.Name b (and_left (is text terminal.Name b) _ third))
    (is_terminal text terminal.Less c (and_left (is text terminal.Less c) _ last))

never_counted : (text : Bytes) (ls : List Lexeme) → Unformed (symbols_of text ls) → stand text (terminal.Dot ∷ terminal.Invoke ∷ terminal.Less ∷ terminal.Tapa ∷ terminal.Scope ∷ []) ls ≡ true
    → stand text (terminal.Comma ∷ []) (drop 6 ls) ≡ true → ⊥
never_counted text [] u h k = absurd (cc)
never_counted text (a ∷ []) u h k = absurd (cc)
never_counted text (a ∷ b ∷ []) u h k = absurd (cc)
never_counted text (a ∷ b ∷ c ∷ []) u h k = absurd (cc)
never_counted text (a ∷ b ∷ c ∷ t ∷ []) u h k = absurd (cc)
never_counted text (a ∷ b ∷ c ∷ t ∷ s ∷ []) u h k = absurd (cc)
never_counted text (a ∷ b ∷ c ∷ t ∷ s ∷ n ∷ []) u h k = absurd (cc)
never_counted text (a ∷ b ∷ c ∷ t ∷ s ∷ n ∷ m ∷ ls) u h k =
    let tapa : (is text terminal.Tapa t && (is text terminal.Scope s && true)) ≡ true =
    and_right (is text terminal.Less c) _ (and_right (is text terminal.Invoke b) _ (and_right (is text terminal.Dot a) _ h)) in
    (u.1.1.1.0 (is_terminal text terminal.Tapa t (and_left (is text terminal.Tapa t) _ tapa))).0 (is_terminal text terminal.Comma m (and_left (is text terminal.Comma m) true k))

unformed_declaration : (text : Bytes) (ls : List Lexeme) → Unformed (symbols_of text ls) → declaration text ls ≡ None
unformed_declaration text ls u =
    let h : stand text (terminal.Tapa ∷ terminal.Scope ∷ terminal.Name ∷ terminal.Less ∷ []) ls ≡ false = false_if _ (never_head text ls u) in
    ap (λ t. cond (t && bytes_eq (first_word text (drop 2 ls)) (codes "streams")) (with_type text (drop 4 ls) (type_size text (drop 4 ls))) None) h

unformed_invocation : (text : Bytes) (ls : List Lexeme) → Unformed (symbols_of text ls) → invocation text ls ≡ None
unformed_invocation text ls u =
    ap (λ t. cond t (invoked (drop 10 ls) (slice_get ls 7) (inside_size text 0 (drop 10 ls))) None) (false_if (begins_invocation text ls) begins)
  where
    begins : begins_invocation text ls ≡ true → ⊥
    begins h =
        let three = and_left _ (first_may_count text (drop 7 ls)) (and_left _ (stand text (terminal.Greater ∷ terminal.LeftParen ∷ []) (drop 8 ls)) h) in
        never_counted text ls u (and_left _ (is_mode (first_word text (drop 5 ls))) (and_left _ (stand text (terminal.Comma ∷ []) (drop 6 ls)) three))
        (and_right _ (stand text (terminal.Comma ∷ []) (drop 6 ls)) three)

unformed_forms : (text : Bytes) (ls : List Lexeme) → Unformed (symbols_of text ls) → NoForms text ls
unformed_forms text [] u = tt
unformed_forms text (l ∷ ls) u = ((unformed_declaration text (l ∷ ls) u, unformed_invocation text (l ∷ ls) u), unformed_forms text ls u.1)

-- where no array is known, no name is one
no_array : (text : Bytes) (before : List Lexeme) (l : Lexeme) → array_at text [] before l ≡ None
no_array text before l = by (is_named text l && cond (is_selected text before) false true)
  where
    by : (t : Bool) → cond t (found [] (text_of text l)) None ≡ None
    by true = refl
    by false = refl

abbrev bare : Numbering → ℕ → List Bool → Scope
bare constants depth opened = record { constants = constants; arrays = []; depth = depth; opened = opened }

abbrev none_at_all : Option (ℕ × ℕ)
none_at_all = None

no_choice : (t : Bool) → cond t none_at_all none_at_all ≡ none_at_all
no_choice true = refl
no_choice false = refl

no_element : (text : Bytes) (constants : Numbering) (depth : ℕ) (opened : List Bool) (ls : List Lexeme) → element_in text (bare constants depth opened) ls ≡ None
no_element text constants depth opened [] = refl
no_element text constants depth opened (l ∷ []) = refl
no_element text constants depth opened (l ∷ a ∷ []) = refl
no_element text constants depth opened (l ∷ a ∷ k ∷ []) = refl
no_element text constants depth opened (l ∷ a ∷ k ∷ b ∷ ls) =
    ap (λ o. cond (is text terminal.LeftBracket a && is text terminal.RightBracket b) (both o (index_of text (bare constants depth opened) k)) None) (no_array text [] l)
    ∙ no_choice (is text terminal.LeftBracket a && is text terminal.RightBracket b)

no_argument : (text : Bytes) (constants : Numbering) (depth : ℕ) (opened : List Bool) (before ls : List Lexeme) → argument_element text (bare constants depth opened) before ls ≡ None
no_argument text constants depth opened before ls =
    let t : Bool = begins_argument text (bare constants depth opened) before && ends_argument text (drop 4 ls) in
    ap (λ o. cond t o None) (no_element text constants depth opened ls) ∙ no_choice t

abbrev copied : Bytes → Scope → List Lexeme → Lexeme → List Lexeme → Step
copied text s before l ls = record { written = text_of text l; scope = scope_behind text s before l ls; more = 0 }

plain_step : (text : Bytes) (constants : Numbering) (depth : ℕ) (opened : List Bool) (before : List Lexeme) (l : Lexeme) (ls : List Lexeme) → NoForms text (l ∷ ls)
    → step text (bare constants depth opened) before (l ∷ ls) ≡ Ok (copied text (bare constants depth opened) before l ls)
plain_step text constants depth opened before l ls h =
    let s : Scope = bare constants depth opened in
    let rest : Outcome Step = other_step text s before (l ∷ ls) in
    let third : Outcome Step = unwrap_or (option_map (element_step text s (l ∷ ls)) (argument_element text s before (l ∷ ls))) rest in
    let second : Outcome Step = unwrap_or (option_map (invocation_step text s (l ∷ ls)) (invocation text (l ∷ ls))) third in
    ap (λ o. unwrap_or (option_map (declaration_step text s (l ∷ ls)) o) second) h.0.0
    ∙ ap (λ o. unwrap_or (option_map (invocation_step text s (l ∷ ls)) o) third) h.0.1
    ∙ ap (λ o. unwrap_or (option_map (element_step text s (l ∷ ls)) o) rest) (no_argument text constants depth opened before (l ∷ ls))
    ∙ ap (λ o. cond (is_some o) (faulty A3 l.place) (Ok (copied text s before l ls))) (no_array text before l)

abbrev no_names : Numbering
no_names = []

still_bare : (text : Bytes) (constants : Numbering) (depth : ℕ) (opened : List Bool) (before : List Lexeme) (l : Lexeme) (ls : List Lexeme)
    → scope_behind text (bare constants depth opened) before l ls
    ≡ bare (constants_behind text (bare constants depth opened) l ls) (depth_behind text depth l) (opened_behind text (bare constants depth opened) before l)
still_bare text constants depth opened before l ls =
    ap (λ z. record { constants = constants_behind text (bare constants depth opened) l ls; arrays = z; depth = depth_behind text depth l; opened = opened_behind text (bare constants depth opened) before l })
    (none (is text terminal.RightBrace l && (depth - 1 == 0)))
  where
    none : (t : Bool) → cond t no_names no_names ≡ no_names
    none true = refl
    none false = refl

within : (text : Bytes) (at : ℕ) (ls : List Lexeme) → is_in_order text at ls ≡ true → at ≤ length text
within text at [] h = grind (arith, nat_tests)
within text at (l ∷ ls) h =
    let a : (nat_le at l.from && nat_le l.from l.to) ≡ true = and_left _ (is_in_order text l.to ls) h in
    let b : nat_le at l.from ≡ true = and_left _ (nat_le l.from l.to) a in
    let c : nat_le l.from l.to ≡ true = and_right (nat_le at l.from) _ a in
    let d : l.to ≤ length text = within text l.to ls (and_right (nat_le at l.from && nat_le l.from l.to) _ h) in
    grind (arith, nat_tests)

joined : (text : Bytes) (a b : ℕ) → a ≤ b → slice_range text a b ++ drop b text ≡ drop a text
joined text a b h =
    ap (λ z. take (b - a) (drop a text) ++ z) (ap (λ n. drop n text) (let e : b ≡ a + (b - a) = omega arith in e) ∙ sym (drop-drop (b - a) a text))
    ∙ take-append-drop (b - a) (drop a text)

word_is : (text : Bytes) (l : Lexeme) → l.from ≤ l.to → l.to ≤ length text → text_of text l ≡ slice_range text l.from l.to
unfolding text_of
word_is text l h k =
    let a : nat_le l.from l.to ≡ true = grind (arith, nat_tests) in
    let b : nat_le l.to (length text) ≡ true = grind (arith, nat_tests) in
    ap (λ t. cond (t && nat_le l.to (length text)) (slice_range text l.from l.to) []) a ∙ ap (λ t. cond t (slice_range text l.from l.to) []) b

all_joined : (text : Bytes) (at : ℕ) (l : Lexeme) (ls : List Lexeme) → is_in_order text at (l ∷ ls) ≡ true → slice_range text at l.from ++ (text_of text l ++ drop l.to text) ≡ drop at text
all_joined text at l ls h =
    let a : (nat_le at l.from && nat_le l.from l.to) ≡ true = and_left _ (is_in_order text l.to ls) h in
    let b : nat_le at l.from ≡ true = and_left _ (nat_le l.from l.to) a in
    let c : nat_le l.from l.to ≡ true = and_right (nat_le at l.from) _ a in
    let d : l.to ≤ length text = within text l.to ls (and_right (nat_le at l.from && nat_le l.from l.to) _ h) in
    let e : at ≤ l.from = grind (arith, nat_tests) in
    let f : l.from ≤ l.to = grind (arith, nat_tests) in
    ap (λ z. slice_range text at l.from ++ (z ++ drop l.to text)) (word_is text l f d)
    ∙ ap (λ z. slice_range text at l.from ++ z) (joined text l.from l.to f)
    ∙ joined text at l.from e

pub plain_written : (text : Bytes) (turns : ℕ) (constants : Numbering) (depth : ℕ) (opened : List Bool) (before : List Lexeme) (at : ℕ) (ls : List Lexeme)
    → NoForms text ls → is_in_order text at ls ≡ true → written_from text turns (bare constants depth opened) before at ls ≡ Ok (drop at text)
plain_written text zero constants depth opened before at ls h k = refl
plain_written text (suc turns) constants depth opened before at [] h k = refl
plain_written text (suc turns) constants depth opened before at (l ∷ ls) h k =
    let s : Scope = bare constants depth opened in
    ap (λ x. and_then x (λ r. and_then (written_from text turns r.scope (before ++ l ∷ take r.more ls) (end_of l.to (take r.more ls)) (drop r.more ls)) (λ rest. Ok (slice_range text at l.from ++ (r.written ++ rest)))))
    (plain_step text constants depth opened before l ls h)
    ∙ ap (λ x. and_then (written_from text turns x (before ++ l ∷ []) l.to ls) (λ rest. Ok (slice_range text at l.from ++ (text_of text l ++ rest)))) (still_bare text constants depth opened before l ls)
    ∙ ap (λ x. and_then x (λ rest. Ok (slice_range text at l.from ++ (text_of text l ++ rest))))
    (plain_written text turns (constants_behind text s l ls) (depth_behind text depth l) (opened_behind text s before l) (before ++ l ∷ []) l.to ls h.1 (and_right (nat_le at l.from && nat_le l.from l.to) _ k))
    ∙ ap (λ z. Ok z) (all_joined text at l ls k)

-- a text in which no form begins, and that isn't too long, is written out as it is
left_alone : (text : Bytes) (ls : List Lexeme) → length text ≤ most → NoForms text ls → is_in_order text 0 ls ≡ true → written_out text ls ≡ Ok text
left_alone text ls b h k =
    let t : nat_le (length text) most ≡ true = grind (arith, nat_tests) in
    ap (λ x. and_then x within_most) (plain_written text (length ls) [] 0 [] [] 0 ls h k) ∙ ap (λ t. cond t (Ok text) (faulty A4 (record { line = 1; col = 1 }))) t

-- so is one of which that is seen at once
pub plain_text : (text : Bytes) (ls : List Lexeme) → length text ≤ most → is_plain text ls ≡ true → is_in_order text 0 ls ≡ true → written_out text ls ≡ Ok text
plain_text text ls b h k = left_alone text ls b (plain_forms text ls h) k

-- and one that has a tree
pub tree_text : (text : Bytes) (ls : List Lexeme) (items : List ItemTree) → length text ≤ most → IsTreeOf (symbols_of text ls) items → is_in_order text 0 ls ≡ true → written_out text ls ≡ Ok text
tree_text text ls items b h k = left_alone text ls b (unformed_forms text ls (tree_unformed (symbols_of text ls) items h)) k
