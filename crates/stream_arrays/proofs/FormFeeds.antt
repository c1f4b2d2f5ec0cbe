-- What is written of a form has the line feeds that stand within it.
use Rattle.std.proofs.Common.{◌≡◌, ℕ, zero, suc, ◌+◌, ◌-◌, Bool, true, false, cond, List, [], ◌∷◌, ◌++◌, map, length, take, drop, Option, Some, None, Ok, Err, refl, ap, ◌∙◌, arith}
use Rattle.std.specs.Prelude.{◌==◌, nat_lt, nat_le, slice_get, slice_range, codes, unwrap_or, option_map, is_some}
use Rattle.std.specs.List.{flat_map, AllByRecursion}
use Rattle.tapa_base.specs.Gaps.{Bytes}
use Rattle.tapa_syntax.specs.declared.lexeme.Lexeme.{Lexeme}
use Rattle.tapa_syntax.specs.declared.terminal.Terminal.TheVariants as terminal
use Rattle.tapa_syntax.specs.Lexemes.{IsSliceOf}
use Rattle.tapa_syntax.specs.Symbols.{text_of}
use Rattle.stream_arrays.specs.declared.fault.ArrayCode.TheVariants.{A2, A3}
use Rattle.stream_arrays.specs.declared.piece.Piece.{Piece}
use Rattle.stream_arrays.specs.declared.piece.Piece.TheVariants.{Word, Comma, Instance, Element}
use Rattle.stream_arrays.specs.Standing.{is, is_named, type_size}
use Rattle.stream_arrays.specs.Forms.{Declaration, label_size, names_behind, names_from, declared_as, with_names, with_depth, behind_count, behind_type, with_type, begins_declaration, declaration, Invocation, begins_invocation, invoked, inside_size, invocation, argument_size}
use Rattle.stream_arrays.specs.Words.{start_of, end_of, form_text, element_name, below, more_elements, elements, more_names, name_words, depth_words, words_of, piece_word, invoke_words}
use Rattle.stream_arrays.specs.Written.{Scope, Step, Outcome, and_then, faulty, count_in, array_at, without_arrays, without_array, with_arrays, element_in, index_in, first_place, declaration_words, declaration_step, whole_array, instances, element_pieces, plain_pieces, by_element, by_array, argument_pieces, pieces_from, head_size, invocation_pieces, invocation_step, element_step, argument_element, other_step, step}
use Rattle.stream_arrays.proofs.Feeds.{feeds, Clean, element_clean, text_is, lexeme_clean, form_feeds}

-- ---- what holds of all of a list, where a value is there, where a reading succeeds

pub all_both : {A : Type 0} (P : A → Type 0) (xs ys : List A) → AllByRecursion P xs → AllByRecursion P ys → AllByRecursion P (xs ++ ys)
all_both P [] ys h k = k
all_both P (x ∷ xs) ys h k = (h.0, all_both P xs ys h.1 k)

pub all_take : {A : Type 0} (P : A → Type 0) (n : ℕ) (xs : List A) → AllByRecursion P xs → AllByRecursion P (take n xs)
all_take P zero xs h = tt
all_take P (suc n) [] h = tt
all_take P (suc n) (x ∷ xs) h = (h.0, all_take P n xs h.1)

pub all_drop : {A : Type 0} (P : A → Type 0) (n : ℕ) (xs : List A) → AllByRecursion P xs → AllByRecursion P (drop n xs)
all_drop P zero xs h = h
all_drop P (suc n) [] h = tt
all_drop P (suc n) (x ∷ xs) h = all_drop P n xs h.1

pub all_map : {A B : Type 0} (P : B → Type 0) (Q : A → Type 0) (f : A → B) → ((x : A) → Q x → P (f x)) → (xs : List A) → AllByRecursion Q xs → AllByRecursion P (map f xs)
all_map P Q f each [] h = tt
all_map P Q f each (x ∷ xs) h = (each x h.0, all_map P Q f each xs h.1)

pub all_flat : {A B : Type 0} (P : B → Type 0) (Q : A → Type 0) (f : A → List B) → ((x : A) → Q x → AllByRecursion P (f x)) → (xs : List A) → AllByRecursion Q xs → AllByRecursion P (flat_map f xs)
all_flat P Q f each [] h = tt
all_flat P Q f each (x ∷ xs) h = all_both P (f x) (flat_map f xs) (each x h.0) (all_flat P Q f each xs h.1)

abbrev Any : {A : Type 0} → A → Type 0
Any x = Unit {0}

any : {A : Type 0} (xs : List A) → AllByRecursion (Any {A = A}) xs
any [] = tt
any (x ∷ xs) = (tt, any xs)

abbrev OnSome : {A : Type 0} → (A → Type 0) → Option A → Type 0
OnSome P None = Unit {0}
OnSome P (Some a) = P a

some_if : {A : Type 0} (P : A → Type 0) (t : Bool) (o : Option A) → OnSome P o → OnSome P (cond t o None)
some_if P true o h = h
some_if P false o h = tt

some_either : {A : Type 0} (P : A → Type 0) (t : Bool) (a b : Option A) → OnSome P a → OnSome P b → OnSome P (cond t a b)
some_either P true a b h k = h
some_either P false a b h k = k

some_map : {A B : Type 0} (Q : A → Type 0) (P : B → Type 0) (f : A → B) → ((a : A) → Q a → P (f a)) → (o : Option A) → OnSome Q o → OnSome P (option_map f o)
some_map Q P f each None h = tt
some_map Q P f each (Some a) h = each a h

some_any : {A : Type 0} (o : Option A) → OnSome (Any {A = A}) o
some_any None = tt
some_any (Some a) = tt

abbrev pub OnOk : {A : Type 0} → (A → Type 0) → Outcome A → Type 0
OnOk P (Ok a) = P a
OnOk P (Err e) = Unit {0}

pub ok_then : {A B : Type 0} (Q : A → Type 0) (P : B → Type 0) (o : Outcome A) (f : A → Outcome B) → OnOk Q o → ((a : A) → Q a → OnOk P (f a)) → OnOk P (and_then o f)
ok_then Q P (Ok a) f h each = each a h
ok_then Q P (Err e) f h each = tt

ok_next : {A B : Type 0} (P : B → Type 0) (o : Outcome A) (f : A → Outcome B) → ((a : A) → OnOk P (f a)) → OnOk P (and_then o f)
ok_next P (Ok a) f each = each a
ok_next P (Err e) f each = tt

pub ok_either : {A : Type 0} (P : A → Type 0) (t : Bool) (a b : Outcome A) → OnOk P a → OnOk P b → OnOk P (cond t a b)
ok_either P true a b h k = h
ok_either P false a b h k = k

ok_where : {A : Type 0} (Q : A → Type 0) (P : Step → Type 0) (o : Option A) (f : A → Outcome Step) (d : Outcome Step) → OnSome Q o → ((a : A) → Q a → OnOk P (f a)) → OnOk P d → OnOk P (unwrap_or (option_map f o) d)
ok_where Q P None f d h each k = k
ok_where Q P (Some a) f d h each k = each a h

-- ---- lexemes without line feeds

abbrev Cleanly : Bytes → Lexeme → Type 0
Cleanly text l = Clean (text_of text l)

abbrev AreClean : Bytes → List Lexeme → Type 0
AreClean text ls = AllByRecursion (Cleanly text) ls

abbrev pub AreSliced : Bytes → List Lexeme → Type 0
AreSliced text ls = AllByRecursion (IsSliceOf text) ls

lexemes_clean : (text : Bytes) (ls : List Lexeme) → AreSliced text ls → AreClean text ls
lexemes_clean text [] h = tt
lexemes_clean text (l ∷ ls) h = (lexeme_clean text l h.0, lexemes_clean text ls h.1)

-- what is written of lexemes has the line feeds of as many of them as it takes
abbrev pub Keeps : Bytes → Lexeme → List Lexeme → Step → Type 0
Keeps text l ls r = feeds r.written ≡ feeds (slice_range text l.from (end_of l.to (take r.more ls)))

-- ---- declarations

abbrev DepthClean : Bytes → Option Lexeme → Type 0
DepthClean text None = Unit {0}
DepthClean text (Some d) = Cleanly text d

abbrev Parts : Bytes → Declaration → Type 0
Parts text d = AreClean text d.element × (DepthClean text d.depth × AreClean text d.names)

abbrev NamesClean : Bytes → List Lexeme × ℕ → Type 0
NamesClean text p = AreClean text p.0

behind_name : (text : Bytes) (more : List Lexeme → List Lexeme → Option (List Lexeme × ℕ)) → ((ns ms : List Lexeme) → AreClean text ns → AreClean text ms → OnSome (NamesClean text) (more ns ms))
    → (names ls : List Lexeme) → AreClean text names → AreClean text ls → OnSome (NamesClean text) (names_behind text more names ls)
behind_name text more each names [] h k = tt
behind_name text more each names (l ∷ ls) h k =
    some_either (NamesClean text) (is text terminal.Semicolon l) (Some (names, length ls)) _ h (some_if (NamesClean text) (is text terminal.Comma l) (more names ls) (each names ls h k.1))

names_clean : (text : Bytes) (turns : ℕ) (names ls : List Lexeme) → AreClean text names → AreClean text ls → OnSome (NamesClean text) (names_from text turns names ls)
names_clean text zero names ls h k = tt
names_clean text (suc turns) names [] h k = tt
names_clean text (suc turns) names (l ∷ ls) h k =
    some_if (NamesClean text) (is_named text l) _
    (behind_name text (names_from text turns) (names_clean text turns) (names ++ l ∷ []) (drop (label_size text ls) ls) (all_both (Cleanly text) names (l ∷ []) h (k.0, tt)) (all_drop (Cleanly text) (label_size text ls) ls k.1))

named_parts : (text : Bytes) (element : List Lexeme) (count : Lexeme) (depth : Option Lexeme) (ls : List Lexeme) → AreClean text element → DepthClean text depth → AreClean text ls → OnSome (Parts text) (with_names text element count depth ls)
named_parts text element count depth ls e d h =
    some_map (NamesClean text) (Parts text) (declared_as element count depth) (λ p k. (e, (d, k))) (names_from text (length ls) [] ls) (names_clean text (length ls) [] ls tt h)

depth_parts : (text : Bytes) (element : List Lexeme) (count : Lexeme) (ls : List Lexeme) → AreClean text element → AreClean text ls → OnSome (Parts text) (with_depth text element count ls)
depth_parts text element count [] e h = tt
depth_parts text element count (d ∷ []) e h = tt
depth_parts text element count (d ∷ c ∷ ls) e h = some_if (Parts text) _ (with_names text element count (Some d) ls) (named_parts text element count (Some d) ls e h.0 h.1.1)

count_parts : (text : Bytes) (element : List Lexeme) (count : Lexeme) (ls : List Lexeme) → AreClean text element → AreClean text ls → OnSome (Parts text) (behind_count text element count ls)
count_parts text element count [] e h = tt
count_parts text element count (l ∷ ls) e h =
    some_either (Parts text) (is text terminal.Greater l) (with_names text element count None ls) _ (named_parts text element count None ls e tt h.1)
    (some_if (Parts text) (is text terminal.Comma l) (with_depth text element count ls) (depth_parts text element count ls e h.1))

type_parts : (text : Bytes) (element ls : List Lexeme) → AreClean text element → AreClean text ls → OnSome (Parts text) (behind_type text element ls)
type_parts text element [] e h = tt
type_parts text element (c ∷ []) e h = tt
type_parts text element (c ∷ n ∷ ls) e h = some_if (Parts text) _ (behind_count text element n ls) (count_parts text element n ls e h.1.1)

sized_parts : (text : Bytes) (ls : List Lexeme) (size : Option ℕ) → AreClean text ls → OnSome (Parts text) (with_type text ls size)
sized_parts text ls None h = tt
sized_parts text ls (Some n) h = type_parts text (take n ls) (drop n ls) (all_take (Cleanly text) n ls h) (all_drop (Cleanly text) n ls h)

declared_parts : (text : Bytes) (ls : List Lexeme) → AreClean text ls → OnSome (Parts text) (declaration text ls)
declared_parts text ls h = some_if (Parts text) (begins_declaration text ls) _ (sized_parts text (drop 4 ls) (type_size text (drop 4 ls)) (all_drop (Cleanly text) 4 ls h))

elements_clean : (x : Bytes) (n : ℕ) → Clean x → AllByRecursion Clean (elements x n)
elements_clean x n h =
    (element_clean x 0 h, all_flat Clean (Any {A = ℕ}) (λ i. codes "," ∷ element_name x (suc i) ∷ []) (λ i u. (refl, (element_clean x (suc i) h, tt))) (below (n - 1)) (any (below (n - 1))))

names_words : (text : Bytes) (n : ℕ) (names : List Lexeme) → AreClean text names → AllByRecursion Clean (name_words text n names)
names_words text n [] h = tt
names_words text n (x ∷ xs) h =
    all_both Clean (elements (text_of text x) n) (more_names text n xs) (elements_clean (text_of text x) n h.0)
    (all_flat Clean (Cleanly text) (λ (y : Lexeme). codes "," ∷ elements (text_of text y) n) (λ y k. (refl, elements_clean (text_of text y) n k)) xs h.1)

depths_words : (text : Bytes) (d : Option Lexeme) → DepthClean text d → AllByRecursion Clean (depth_words text d)
depths_words text None h = tt
depths_words text (Some d) h = (refl, (h, tt))

texts_clean : (text : Bytes) (ls : List Lexeme) → AreClean text ls → AllByRecursion Clean (words_of text ls)
texts_clean text ls h = all_map Clean (Cleanly text) (text_of text) (λ l k. k) ls h

declared_words : (text : Bytes) (d : Declaration) (n : ℕ) → Parts text d → AllByRecursion Clean (declaration_words text d n)
declared_words text d n (e, (p, h)) = (
  refl,
  (
    refl,
    (
      refl,
      (
        refl,
        all_both Clean (words_of text d.element) _ (texts_clean text d.element e)
            (all_both Clean (depth_words text d.depth) _ (depths_words text d.depth p) (refl, all_both Clean (name_words text n d.names) (codes ";" ∷ []) (names_words text n d.names h) (refl, tt))),
      ),
    ),
  ),
)

declaration_keeps : (text : Bytes) (s : Scope) (l : Lexeme) (ls : List Lexeme) (d : Declaration) → Parts text d → OnOk (Keeps text l ls) (declaration_step text s (l ∷ ls) d)
declaration_keeps text s l ls d h =
    ok_next (Keeps text l ls) (count_in text s d.count) _ (λ n.
    ok_next (Keeps text l ls) (without_array text s.arrays d.depth) _ (λ u.
    ok_next (Keeps text l ls) (with_arrays text n s.arrays d.names) _ (λ arrays.
    form_feeds text (l ∷ take (length (l ∷ ls) - suc d.left) ls) (declaration_words text d n) (declared_words text d n h))))

-- ---- counted invokes

abbrev InsideClean : Bytes → Invocation → Type 0
InsideClean text v = AreClean text v.inside

invoked_inside : (text : Bytes) (ls : List Lexeme) (count : Option Lexeme) (size : Option ℕ) → AreClean text ls → OnSome (InsideClean text) (invoked ls count size)
invoked_inside text ls None size h = tt
invoked_inside text ls (Some c) None h = tt
invoked_inside text ls (Some c) (Some n) h = all_take (Cleanly text) n ls h

invocation_inside : (text : Bytes) (ls : List Lexeme) → AreClean text ls → OnSome (InsideClean text) (invocation text ls)
invocation_inside text ls h =
    some_if (InsideClean text) (begins_invocation text ls) _ (invoked_inside text (drop 10 ls) (slice_get ls 7) (inside_size text 0 (drop 10 ls)) (all_drop (Cleanly text) 10 ls h))

abbrev PieceClean : Bytes → Piece → Type 0
PieceClean text (Word l) = Cleanly text l
PieceClean text Comma = Unit {0}
PieceClean text (Instance l) = Cleanly text l
PieceClean text (Element l k) = Cleanly text l

abbrev ArePieces : Bytes → List Piece → Type 0
ArePieces text ps = AllByRecursion (PieceClean text) ps

word_pieces : (text : Bytes) (ls : List Lexeme) → AreClean text ls → ArePieces text (map Word ls)
word_pieces text ls h = all_map (PieceClean text) (Cleanly text) Word (λ l k. k) ls h

instance_pieces : (text : Bytes) (a : List Lexeme) → AreClean text a → ArePieces text (instances a)
instance_pieces text [] h = tt
instance_pieces text (l ∷ ls) h = (h.0, tt)

index_pieces : (text : Bytes) (a : List Lexeme) (k : ℕ) → AreClean text a → ArePieces text (element_pieces a k)
index_pieces text [] k h = tt
index_pieces text (l ∷ ls) k h = (h.0, tt)

element_argument : (text : Bytes) (s : Scope) (a : List Lexeme) (o : Option (ℕ × ℕ)) → AreClean text a → OnOk (ArePieces text) (by_element text s a o)
element_argument text s a None h = ok_next (ArePieces text) (without_arrays text s.arrays [] a) _ (λ u. word_pieces text a h)
element_argument text s a (Some p) h = ok_next (ArePieces text) (index_in (first_place a) p) _ (λ k. index_pieces text a k h)

array_argument : (text : Bytes) (s : Scope) (n : ℕ) (a : List Lexeme) (o : Option ℕ) → AreClean text a → OnOk (ArePieces text) (by_array text s n a o)
array_argument text s n a None h = element_argument text s a (cond (length a == 4) (element_in text s a) None) h
array_argument text s n a (Some m) h = ok_either (ArePieces text) (m == n) (Ok (instances a)) (faulty A2 (first_place a)) (instance_pieces text a h) tt

pieces_clean : (text : Bytes) (s : Scope) (n turns : ℕ) (pieces : List Piece) (ls : List Lexeme) → ArePieces text pieces → AreClean text ls → OnOk (ArePieces text) (pieces_from text s n turns pieces ls)
pieces_clean text s n zero pieces ls h k = h
pieces_clean text s n (suc turns) pieces ls h k =
    let size = argument_size text 0 ls in
    ok_then (ArePieces text) (ArePieces text) (argument_pieces text s n (take size ls)) _ (array_argument text s n (take size ls) (whole_array text s (take size ls)) (all_take (Cleanly text) size ls k)) (λ more m.
    ok_either (ArePieces text) (nat_lt size (length ls)) _ (Ok (pieces ++ more))
    (pieces_clean text s n turns (pieces ++ more ++ Comma ∷ []) (drop (suc size) ls) (all_both (PieceClean text) (pieces ++ more) (Comma ∷ []) (all_both (PieceClean text) pieces more h m) (tt, tt)) (all_drop (Cleanly text) (suc size) ls k))
    (all_both (PieceClean text) pieces more h m))

invoked_pieces : (text : Bytes) (s : Scope) (ls inside : List Lexeme) (n : ℕ) → AreClean text ls → AreClean text inside → OnOk (ArePieces text) (invocation_pieces text s ls inside n)
invoked_pieces text s ls inside n h k =
    ok_then (ArePieces text) (ArePieces text) (pieces_from text s n (suc (length inside)) (map Word (take 6 ls) ++ map Word (take 2 (drop 8 ls))) inside) _
    (pieces_clean text s n (suc (length inside)) (map Word (take 6 ls) ++ map Word (take 2 (drop 8 ls))) inside
    (all_both (PieceClean text) (map Word (take 6 ls)) (map Word (take 2 (drop 8 ls))) (word_pieces text (take 6 ls) (all_take (Cleanly text) 6 ls h))
    (word_pieces text (take 2 (drop 8 ls)) (all_take (Cleanly text) 2 (drop 8 ls) (all_drop (Cleanly text) 8 ls h)))) k)
    (λ ps p. all_both (PieceClean text) ps (map Word (take 1 (drop (head_size + length inside) ls))) p
    (word_pieces text (take 1 (drop (head_size + length inside) ls)) (all_take (Cleanly text) 1 (drop (head_size + length inside) ls) (all_drop (Cleanly text) (head_size + length inside) ls h))))

piece_clean : (text : Bytes) (i : ℕ) (p : Piece) → PieceClean text p → Clean (piece_word text i p)
piece_clean text i (Word l) h = h
piece_clean text i Comma h = refl
piece_clean text i (Instance l) h = element_clean (text_of text l) i h
piece_clean text i (Element l k) h = element_clean (text_of text l) k h

invoked_words : (text : Bytes) (pieces : List Piece) (n : ℕ) → ArePieces text pieces → AllByRecursion Clean (invoke_words text pieces n)
invoked_words text pieces n h = all_flat Clean (Any {A = ℕ}) (λ i. map (piece_word text i) pieces) (λ i u. all_map Clean (PieceClean text) (piece_word text i) (piece_clean text i) pieces h) (below n) (any (below n))

invocation_keeps : (text : Bytes) (s : Scope) (l : Lexeme) (ls : List Lexeme) (v : Invocation) → AreClean text (l ∷ ls) → InsideClean text v → OnOk (Keeps text l ls) (invocation_step text s (l ∷ ls) v)
invocation_keeps text s l ls v h k =
    let size : head_size + length v.inside + 1 ≡ suc (head_size + length v.inside) = omega arith in
    ok_next (Keeps text l ls) (count_in text s v.count) _ (λ n.
    ok_then (ArePieces text) (Keeps text l ls) (invocation_pieces text s (l ∷ ls) v.inside n) _ (invoked_pieces text s (l ∷ ls) v.inside n h k) (λ pieces p.
    ap (λ m. feeds (form_text text (take m (l ∷ ls)) (invoke_words text pieces n))) size
    ∙ form_feeds text (l ∷ take (head_size + length v.inside) ls) (invoke_words text pieces n) (invoked_words text pieces n p)))

-- ---- elements and other lexemes

element_keeps : (text : Bytes) (s : Scope) (l : Lexeme) (ls : List Lexeme) (p : ℕ × ℕ) → Cleanly text l → OnOk (Keeps text l ls) (element_step text s (l ∷ ls) p)
element_keeps text s l ls p h =
    ok_next (Keeps text l ls) (index_in l.place p) _ (λ k. form_feeds text (l ∷ take 3 ls) (element_name (text_of text l) k ∷ []) (element_clean (text_of text l) k h, tt))

other_keeps : (text : Bytes) (s : Scope) (before : List Lexeme) (l : Lexeme) (ls : List Lexeme) → IsSliceOf text l → OnOk (Keeps text l ls) (other_step text s before (l ∷ ls))
other_keeps text s before l ls h = ok_either (Keeps text l ls) (is_some (array_at text s.arrays before l)) (faulty A3 l.place) _ tt (ap feeds (text_is text l h))

-- whatever form stands in front
pub step_keeps : (text : Bytes) (s : Scope) (before : List Lexeme) (l : Lexeme) (ls : List Lexeme) → AreSliced text (l ∷ ls) → OnOk (Keeps text l ls) (step text s before (l ∷ ls))
step_keeps text s before l ls h =
    let clean = lexemes_clean text (l ∷ ls) h in
    ok_where (Parts text) (Keeps text l ls) (declaration text (l ∷ ls)) (declaration_step text s (l ∷ ls)) _ (declared_parts text (l ∷ ls) clean) (declaration_keeps text s l ls)
    (ok_where (InsideClean text) (Keeps text l ls) (invocation text (l ∷ ls)) (invocation_step text s (l ∷ ls)) _ (invocation_inside text (l ∷ ls) clean) (λ v k. invocation_keeps text s l ls v clean k)
    (ok_where (Any {A = ℕ × ℕ}) (Keeps text l ls) (argument_element text s before (l ∷ ls)) (element_step text s (l ∷ ls)) _ (some_any (argument_element text s before (l ∷ ls))) (λ p u. element_keeps text s l ls p clean.0)
    (other_keeps text s before l ls h.0)))
