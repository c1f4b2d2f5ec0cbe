-- The words that are written of counted invokes are lexemes: the first is that of the form's first lexeme, and the last is a closing parenthesis.
use Rattle.std.proofs.Common.{◌≡◌, ℕ, zero, suc, ◌+◌, ◌-◌, ◌<◌, Bool, true, false, cond, ◌&&◌, List, [], ◌∷◌, ◌++◌, append-nil, map, length, take, drop, Option, Some, None, Ok}
use Rattle.std.proofs.Common.{Err, refl, sym, ap, subst, ◌∙◌, arith}
use Rattle.std.specs.Prelude.{◌==◌, nat_lt, nat_le, slice_get, codes, option_map, option_and_then}
use Rattle.std.specs.List.{AllByRecursion}
use Rattle.std.proofs.lemmas.Bool.{and_parts, and_from, false≢true}
use Rattle.std.proofs.lemmas.Bool.Decides.{nat_tests}
use Rattle.std.proofs.lemmas.Grind.{flat_map-append}
use Rattle.std.proofs.lemmas.List.{map-append, drop-drop}
use Rattle.tapa_base.specs.Gaps.{Bytes}
use Rattle.tapa_base.specs.declared.text.Place.{Place}
use Rattle.tapa_syntax.specs.declared.lexeme.Lexeme.{Lexeme}
use Rattle.tapa_syntax.specs.declared.terminal.Terminal.TheVariants as terminal
use Rattle.tapa_syntax.specs.Lexemes.{IsSliceOf}
use Rattle.tapa_syntax.specs.Symbols.{text_of}
use Rattle.stream_arrays.specs.declared.fault.ArrayCode.{ArrayCode}
use Rattle.stream_arrays.specs.declared.fault.ArrayCode.TheVariants.{A1, A2}
use Rattle.stream_arrays.specs.Standing.{is, is_named, stand}
use Rattle.stream_arrays.specs.Numbers.{Numbering, found, in_bounds, number_of, count_of}
use Rattle.stream_arrays.specs.Forms.{Invocation, open_behind, inside_size, begins_invocation, invoked, invocation, argument_size}
use Rattle.stream_arrays.specs.Words.{below, piece_word, invoke_words}
use Rattle.stream_arrays.specs.Written.{Scope, Outcome, and_then, faulty, some_or, is_selected, array_at, without_arrays, count_in, index_of, both, element_in, index_in}
use Rattle.stream_arrays.specs.Written.{whole_array, first_place, instances, element_pieces, by_element, by_array, argument_pieces, pieces_from, head_size, invocation_pieces, nothing}
use Rattle.stream_arrays.proofs.FormFeeds.{all_take, all_drop, OnOk, ok_then, ok_either, AreSliced, all_both, all_flat, all_map}
use Rattle.tapa_laws.proofs.written.Pieced.{IsSpacedWord, Ends, ends_behind}
use Rattle.tapa_laws.proofs.written.Terminals.{named_word, closing_text}
use Rattle.tapa_laws.proofs.written.Holds.{Any, any, OnSome, some_if, some_map, ok_next}
use Rattle.tapa_laws.proofs.written.Words.{Spaced, Named, lexemes_spaced, comma_spaced, element_spaced}

-- ---- counts

some_count : (o : Option ℕ) → OnSome (λ n. 0 < n) (option_and_then in_bounds o)
some_count None = tt
some_count (Some n) = some_if (λ m. 0 < m) (nat_le 1 n && nat_le n 512) (Some n) (λ t. above (and_parts (nat_le 1 n) (nat_le n 512) t).0)
  where
    above : nat_le 1 n ≡ true → 0 < n
    above e = grind (arith, nat_tests)

counted : (code : ArrayCode) (place : Place) (o : Option ℕ) → OnSome (λ n. 0 < n) o → OnOk (λ n. 0 < n) (some_or code place o)
counted code place None h = tt
counted code place (Some n) h = h

-- a count is at least 1
pub count_some : (text : Bytes) (s : Scope) (l : Lexeme) → OnOk (λ n. 0 < n) (count_in text s l)
count_some text s l =
    ok_next (λ n. 0 < n) (without_arrays text s.arrays [] (l ∷ [])) _ (λ u. counted A1 l.place (count_of text s.constants l) (some_count (number_of text s.constants l)))

-- ---- the closing parenthesis

abbrev Sized : Bytes → List Lexeme → ℕ → Type 0
Sized text ls n = (stand text (terminal.RightParen ∷ []) (drop n ls) ≡ true) × (length (take n ls) ≡ n)

inside_sized : (text : Bytes) (count : ℕ) (ls : List Lexeme) → OnSome (Sized text ls) (inside_size text count ls)
inside_sized text count [] = tt
inside_sized text count (l ∷ ls) = by (is text terminal.RightParen l && (count == 0)) refl (inside_sized text (open_behind text count l) ls)
  where
    by : (t : Bool) → (is text terminal.RightParen l && (count == 0)) ≡ t → OnSome (Sized text ls) (inside_size text (open_behind text count l) ls)
        → OnSome (Sized text (l ∷ ls)) (cond t (Some 0) (option_map suc (inside_size text (open_behind text count l) ls)))
    by true e more = (and_from (is text terminal.RightParen l) true (and_parts (is text terminal.RightParen l) (count == 0) e).0 refl, refl)
    by false e more = some_map (Sized text ls) (Sized text (l ∷ ls)) suc (λ n h. (h.0, ap suc h.1)) (inside_size text (open_behind text count l) ls) more

-- the lexemes between the parentheses, where these begin behind the open one
pub record IsInvoked (text : Bytes) (ls : List Lexeme) (v : Invocation) : Type 0 where
  pub sliced : AreSliced text v.inside
  pub closed : stand text (terminal.RightParen ∷ []) (drop (length v.inside) ls) ≡ true

invoked_sized : (text : Bytes) (ls : List Lexeme) (count : Option Lexeme) (size : Option ℕ) → AreSliced text ls → OnSome (Sized text ls) size → OnSome (IsInvoked text ls) (invoked ls count size)
invoked_sized text ls None size h k = tt
invoked_sized text ls (Some c) None h k = tt
invoked_sized text ls (Some c) (Some n) h k = record {
  sliced = all_take _ n ls h;
  closed = subst (λ (m : ℕ). stand text (terminal.RightParen ∷ []) (drop m ls) ≡ true) (sym k.1) k.0;
}

pub invocation_parts : (text : Bytes) (ls : List Lexeme) → AreSliced text ls → OnSome (IsInvoked text (drop 10 ls)) (invocation text ls)
invocation_parts text ls h =
    some_if (IsInvoked text (drop 10 ls)) (begins_invocation text ls) _ (λ t.
    invoked_sized text (drop 10 ls) (slice_get ls 7) (inside_size text 0 (drop 10 ls)) (all_drop _ 10 ls h) (inside_sized text 0 (drop 10 ls)))

one_closing : (text : Bytes) (ls : List Lexeme) → stand text (terminal.RightParen ∷ []) ls ≡ true → (c : Lexeme) × (take 1 ls ≡ c ∷ []) × (text_of text c ≡ codes ")")
one_closing text [] h = absurd (false≢true h)
one_closing text (c ∷ ls) h = (c, refl, closing_text text c (and_parts (is text terminal.RightParen c) true h).0)

-- ---- pieces

-- The pieces of an invoke are known in their crate alone: here are the type of what `piece_word` takes, and a word that is copied.
abbrev Domain : {A B : Type 0} → (A → B) → Type 0
Domain {A} {B} f = A

abbrev Piece : Type 0
Piece = Domain (piece_word [] 0)

abbrev HasHead : {A : Type 0} → Outcome (List A) → Type 0
HasHead (Ok []) = ⊥
HasHead (Ok (x ∷ xs)) = Unit {0}
HasHead (Err e) = ⊥

abbrev head_of : {A : Type 0} (o : Outcome (List A)) → HasHead o → A
head_of (Ok []) h = absurd h
head_of (Ok (x ∷ xs)) h = x
head_of (Err e) h = absurd h

abbrev Word : Lexeme → Piece
Word l = head_of (invocation_pieces [] nothing (l ∷ []) [] 0) tt

-- a piece is a lexeme in each invoke
abbrev PieceSpaced : Bytes → Piece → Type 0
PieceSpaced text p = (i : ℕ) → IsSpacedWord (piece_word text i p)

abbrev ArePieces : Bytes → List Piece → Type 0
ArePieces text ps = AllByRecursion (PieceSpaced text) ps

-- the first of some lexemes is a name
abbrev pub HeadNamed : Bytes → List Lexeme → Type 0
HeadNamed text [] = Unit {0}
HeadNamed text (l ∷ ls) = Named text l

word_pieces : (text : Bytes) (ls : List Lexeme) → AreSliced text ls → ArePieces text (map Word ls)
word_pieces text ls h = all_map (PieceSpaced text) (Spaced text) Word (λ l k i. k) ls (lexemes_spaced text ls h)

instance_pieces : (text : Bytes) (a : List Lexeme) → HeadNamed text a → ArePieces text (instances a)
instance_pieces text [] h = tt
instance_pieces text (l ∷ ls) h = ((λ i. element_spaced (text_of text l) i h), tt)

index_pieces : (text : Bytes) (a : List Lexeme) (k : ℕ) → HeadNamed text a → ArePieces text (element_pieces a k)
index_pieces text [] k h = tt
index_pieces text (l ∷ ls) k h = ((λ i. element_spaced (text_of text l) k h), tt)

some_always : {A : Type 0} (X : Type 0) (o : Option A) → X → OnSome (λ (a : A). X) o
some_always X None x = tt
some_always X (Some a) x = x

array_named : (text : Bytes) (arrays : Numbering) (before : List Lexeme) (l : Lexeme) → IsSliceOf text l → OnSome (λ (n : ℕ). Named text l) (array_at text arrays before l)
array_named text arrays before l h =
    some_if (λ (n : ℕ). Named text l) (is_named text l && cond (is_selected text before) false true) _ (λ t.
    some_always (Named text l) (found arrays (text_of text l)) (named_word text l h (and_parts (is_named text l) _ t).0))

whole_named : (text : Bytes) (s : Scope) (a : List Lexeme) → AreSliced text a → OnSome (λ (n : ℕ). HeadNamed text a) (whole_array text s a)
whole_named text s [] h = tt
whole_named text s (l ∷ []) h = array_named text s.arrays [] l h.0
whole_named text s (l ∷ m ∷ ls) h = tt

both_named : (X : Type 0) (m k : Option ℕ) → OnSome (λ (n : ℕ). X) m → OnSome (λ (p : ℕ × ℕ). X) (both m k)
both_named X None None h = tt
both_named X None (Some k) h = tt
both_named X (Some m) None h = tt
both_named X (Some m) (Some k) h = h

pub element_named : (text : Bytes) (s : Scope) (ls : List Lexeme) → AreSliced text ls → OnSome (λ (p : ℕ × ℕ). HeadNamed text ls) (element_in text s ls)
element_named text s [] h = tt
element_named text s (l ∷ []) h = tt
element_named text s (l ∷ a ∷ []) h = tt
element_named text s (l ∷ a ∷ k ∷ []) h = tt
element_named text s (l ∷ a ∷ k ∷ b ∷ ls) h =
    some_if (λ (p : ℕ × ℕ). Named text l) (is text terminal.LeftBracket a && is text terminal.RightBracket b) _ (λ t.
    both_named (Named text l) (array_at text s.arrays [] l) (index_of text s k) (array_named text s.arrays [] l h.0))

element_argument : (text : Bytes) (s : Scope) (a : List Lexeme) (o : Option (ℕ × ℕ)) → AreSliced text a → OnSome (λ (p : ℕ × ℕ). HeadNamed text a) o → OnOk (ArePieces text) (by_element text s a o)
element_argument text s a None h k = ok_next (ArePieces text) (without_arrays text s.arrays [] a) _ (λ u. word_pieces text a h)
element_argument text s a (Some p) h k = ok_next (ArePieces text) (index_in (first_place a) p) _ (λ j. index_pieces text a j k)

array_argument : (text : Bytes) (s : Scope) (n : ℕ) (a : List Lexeme) (o : Option ℕ) → AreSliced text a → OnSome (λ (m : ℕ). HeadNamed text a) o → OnOk (ArePieces text) (by_array text s n a o)
array_argument text s n a None h k =
    element_argument text s a (cond (length a == 4) (element_in text s a) None) h (some_if (λ (p : ℕ × ℕ). HeadNamed text a) (length a == 4) (element_in text s a) (λ t. element_named text s a h))
array_argument text s n a (Some m) h k = ok_either (ArePieces text) (m == n) (Ok (instances a)) (faulty A2 (first_place a)) (instance_pieces text a k) tt

-- the pieces of a form that begins with lexeme l
record IsBegun (text : Bytes) (l : Lexeme) (pieces : List Piece) : Type 0 where
  all : ArePieces text pieces
  more : List Piece
  is : pieces ≡ Word l ∷ more

begun_more : (text : Bytes) (l : Lexeme) (ps qs : List Piece) → IsBegun text l ps → ArePieces text qs → IsBegun text l (ps ++ qs)
begun_more text l ps qs h k = record { all = all_both (PieceSpaced text) ps qs h.all k; more = h.more ++ qs; is = ap (λ (z : List Piece). z ++ qs) h.is }

-- one turn of the reading of arguments, with the piece for a comma
record IsTurn (text : Bytes) (s : Scope) (n turns : ℕ) (pieces : List Piece) (ls : List Lexeme) (comma : Piece) : Type 0 where
  is : pieces_from text s n (suc turns) pieces ls ≡ and_then (argument_pieces text s n (take (argument_size text 0 ls) ls)) (λ more.
      cond (nat_lt (argument_size text 0 ls) (length ls)) (pieces_from text s n turns (pieces ++ more ++ comma ∷ []) (drop (suc (argument_size text 0 ls)) ls)) (Ok (pieces ++ more)))
  said : (i : ℕ) → piece_word text i comma ≡ codes ","

one_turn : (text : Bytes) (s : Scope) (n turns : ℕ) (pieces : List Piece) (ls : List Lexeme) → (comma : Piece) × IsTurn text s n turns pieces ls comma
one_turn text s n turns pieces ls = (_, record { is = refl; said = λ i. refl })

pieces_begun : (text : Bytes) (l : Lexeme) (s : Scope) (n turns : ℕ) (pieces : List Piece) (ls : List Lexeme) → IsBegun text l pieces → AreSliced text ls
    → OnOk (IsBegun text l) (pieces_from text s n turns pieces ls)
pieces_begun text l s n zero pieces ls h k = h
pieces_begun text l s n (suc turns) pieces ls h k =
    let size = argument_size text 0 ls in
    let taken : AreSliced text (take size ls) = all_take _ size ls k in
    let turn = one_turn text s n turns pieces ls in
    let comma : Piece = turn.0 in
    subst (OnOk (IsBegun text l)) (sym turn.1.is)
    (ok_then (ArePieces text) (IsBegun text l) (argument_pieces text s n (take size ls)) _
    (array_argument text s n (take size ls) (whole_array text s (take size ls)) taken (whole_named text s (take size ls) taken)) (λ more m.
    ok_either (IsBegun text l) (nat_lt size (length ls)) _ (Ok (pieces ++ more))
    (pieces_begun text l s n turns (pieces ++ more ++ comma ∷ []) (drop (suc size) ls)
    (begun_more text l (pieces ++ more) (comma ∷ []) (begun_more text l pieces more h m) ((λ i. subst IsSpacedWord (sym (turn.1.said i)) comma_spaced), tt)) (all_drop _ (suc size) ls k))
    (begun_more text l pieces more h m)))

-- all the pieces of a form that begins with lexeme l, and the closing parenthesis last
pub record IsFormed (text : Bytes) (l : Lexeme) (pieces : List Piece) : Type 0 where
  begun : IsBegun text l pieces
  front : List Piece
  last : Lexeme
  is : pieces ≡ front ++ Word last ∷ []
  closing : text_of text last ≡ codes ")"

pub formed : (text : Bytes) (s : Scope) (l : Lexeme) (ls inside : List Lexeme) (n : ℕ) → AreSliced text (l ∷ ls) → AreSliced text inside
    → stand text (terminal.RightParen ∷ []) (drop (length inside) (drop 10 (l ∷ ls))) ≡ true → OnOk (IsFormed text l) (invocation_pieces text s (l ∷ ls) inside n)
formed text s l ls inside n h k closed =
    let at : drop (length inside) (drop 10 (l ∷ ls)) ≡ drop (head_size + length inside) (l ∷ ls) = drop-drop (length inside) 10 (l ∷ ls) in
    let end = one_closing text (drop (head_size + length inside) (l ∷ ls)) (subst (λ (z : List Lexeme). stand text (terminal.RightParen ∷ []) z ≡ true) at closed) in
    let sliced : AreSliced text (take 1 (drop (head_size + length inside) (l ∷ ls))) = all_take _ 1 (drop (head_size + length inside) (l ∷ ls)) (all_drop _ (head_size + length inside) (l ∷ ls) h) in
    ok_then (IsBegun text l) (IsFormed text l) (pieces_from text s n (suc (length inside)) (map Word (take 6 (l ∷ ls)) ++ map Word (take 2 (drop 8 (l ∷ ls)))) inside) _
    (pieces_begun text l s n (suc (length inside)) (map Word (take 6 (l ∷ ls)) ++ map Word (take 2 (drop 8 (l ∷ ls)))) inside
    (begun_more text l (map Word (take 6 (l ∷ ls))) (map Word (take 2 (drop 8 (l ∷ ls))))
    (record { all = word_pieces text (take 6 (l ∷ ls)) (all_take _ 6 (l ∷ ls) h); more = map Word (take 5 ls); is = refl })
    (word_pieces text (take 2 (drop 8 (l ∷ ls))) (all_take _ 2 (drop 8 (l ∷ ls)) (all_drop _ 8 (l ∷ ls) h)))) k)
    (λ ps p. record {
      begun = begun_more text l ps (map Word (take 1 (drop (head_size + length inside) (l ∷ ls)))) p (word_pieces text (take 1 (drop (head_size + length inside) (l ∷ ls))) sliced);
      front = ps;
      last = end.0;
      is = ap (λ (z : List Lexeme). ps ++ map Word z) end.1;
      closing = end.2;
    })

-- ---- words

pub invoke_spaced : (text : Bytes) (l : Lexeme) (pieces : List Piece) (n : ℕ) → IsFormed text l pieces → AllByRecursion IsSpacedWord (invoke_words text pieces n)
invoke_spaced text l pieces n h =
    all_flat IsSpacedWord (Any {A = ℕ}) (λ i. map (piece_word text i) pieces)
    (λ i u. all_map IsSpacedWord (PieceSpaced text) (piece_word text i) (λ p k. k i) pieces h.begun.all) (below n) (any (below n))

abbrev words_at : Bytes → List Piece → ℕ → List Bytes
words_at text pieces i = map (piece_word text i) pieces

one_ends : (text : Bytes) (l : Lexeme) (pieces : List Piece) (i : ℕ) → IsFormed text l pieces → Ends (words_at text pieces i) (codes ")")
one_ends text l pieces i h = record {
  front = map (piece_word text i) h.front;
  is = ap (map (piece_word text i)) h.is ∙ map-append (piece_word text i) h.front (Word h.last ∷ []) ∙ ap (λ (w : Bytes). map (piece_word text i) h.front ++ w ∷ []) h.closing;
}

one_more : (text : Bytes) (pieces : List Piece) (m : ℕ) → invoke_words text pieces (suc m) ≡ invoke_words text pieces m ++ words_at text pieces m
one_more text pieces m = flat_map-append (words_at text pieces) (below m) (m ∷ []) ∙ ap (λ (z : List Bytes). invoke_words text pieces m ++ z) (append-nil (words_at text pieces m))

pub invoke_ends : (text : Bytes) (l : Lexeme) (pieces : List Piece) (n : ℕ) → 0 < n → IsFormed text l pieces → Ends (invoke_words text pieces n) (codes ")")
invoke_ends text l pieces zero some h = absurd (omega arith)
invoke_ends text l pieces (suc m) some h =
    subst (λ (ws : List Bytes). Ends ws (codes ")")) (sym (one_more text pieces m)) (ends_behind (invoke_words text pieces m) (words_at text pieces m) (codes ")") (one_ends text l pieces m h))

-- words begin with this one
pub record Starts (words : List Bytes) (first : Bytes) : Type 0 where
  pub more : List Bytes
  pub is : words ≡ first ∷ more

starts_more : (xs ys : List Bytes) (first : Bytes) → Starts xs first → Starts (xs ++ ys) first
starts_more xs ys first h = record { more = h.more ++ ys; is = ap (λ (z : List Bytes). z ++ ys) h.is }

pub invoke_starts : (text : Bytes) (l : Lexeme) (pieces : List Piece) (n : ℕ) → 0 < n → IsFormed text l pieces → Starts (invoke_words text pieces n) (text_of text l)
invoke_starts text l pieces zero some h = absurd (omega arith)
invoke_starts text l pieces (suc zero) some h = record { more = map (piece_word text 0) h.begun.more ++ []; is = ap (λ (ps : List Piece). map (piece_word text 0) ps ++ []) h.begun.is }
invoke_starts text l pieces (suc (suc m)) some h =
    subst (λ (ws : List Bytes). Starts ws (text_of text l)) (sym (one_more text pieces (suc m)))
    (starts_more (invoke_words text pieces (suc m)) (words_at text pieces (suc m)) (text_of text l) (invoke_starts text l pieces (suc m) (omega arith) h))
