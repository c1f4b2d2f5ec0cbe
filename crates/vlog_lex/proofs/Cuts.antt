-- A piece that stands in front of a text is the one that is cut from it, so it is the only one.
use Rattle.std.proofs.Common.{◌≡◌, ◌⊎◌, inl, inr, ℕ, ◌<◌, Bool, true, false, not, ◌&&◌, ◌||◌, if◌then◌else◌, ◌==◌, nat_eq, List, [], ◌∷◌, ◌++◌, codes, bytes_eq, slice_index, refl, sym, ap, subst, ◌∙◌, arith}
use Rattle.std.specs.List.{list_all, list_any}
use Rattle.std.specs.Char.{digit_value}
use Rattle.std.specs.Str.Parse.{AllDigits, IsNumeral}
use Rattle.std.proofs.lemmas.Bool.{and_parts, or_cases}
use Rattle.std.proofs.lemmas.List.{append_assoc, append_cancel_left}
use Rattle.std.proofs.lemmas.Slice.Eq.{bytes_eq-Decides}
use Rattle.vlog_tree.specs.Names.{starts_name, goes_on}
use Rattle.vlog_tree.specs.Spelling.{Word}
use Rattle.vlog_lex.specs.Numerals.{base_of, Sized, sized_word, IsSized}
use Rattle.tapa_base.specs.Gaps.{Bytes, begins, is_blank, is_in_line, has_close}
use Rattle.vlog_lex.specs.Lexemes.{is_digit_of, makes_literal, IsNameWord, IsNumberWord, IsLiteralWord, signs, is_sign, is_sign_or_mark, IsSignWord, Piece, gap, word, Stands, piece_bytes, text_of, StandInTurn, words_of, HasWords}
use Rattle.std.specs.Prelude.{not}
use Rattle.tapa_base.proofs.Tests.{not_so as not_true, pick_false as if_false}
use Rattle.vlog_lex.proofs.Ascii.{starts_goes}

-- ---- the longest front of a class, and what is behind it

pub front : (ℕ → Bool) → Bytes → Bytes
front class [] = []
front class (b ∷ z) = if class b then b ∷ front class z else []

pub behind : (ℕ → Bool) → Bytes → Bytes
behind class [] = []
behind class (b ∷ z) = if class b then behind class z else b ∷ z

front_stops : (class : ℕ → Bool) (rest : Bytes) → begins class rest ≡ false → front class rest ≡ []
unfolding front
front_stops class [] e = refl
front_stops class (b ∷ z) e = rw e

behind_stops : (class : ℕ → Bool) (rest : Bytes) → begins class rest ≡ false → behind class rest ≡ rest
unfolding behind
behind_stops class [] e = refl
behind_stops class (b ∷ z) e = rw e

pub front_is : (class : ℕ → Bool) (bytes rest : Bytes) → list_all class bytes ≡ true → begins class rest ≡ false → front class (bytes ++ rest) ≡ bytes
unfolding front
front_is class [] rest all e = front_stops class rest e
front_is class (b ∷ z) rest all e = let k = and_parts (class b) (list_all class z) all in rw k.0 (ap (λ l. b ∷ l) (front_is class z rest k.1 e))

pub behind_is : (class : ℕ → Bool) (bytes rest : Bytes) → list_all class bytes ≡ true → begins class rest ≡ false → behind class (bytes ++ rest) ≡ rest
unfolding behind
behind_is class [] rest all e = behind_stops class rest e
behind_is class (b ∷ z) rest all e = let k = and_parts (class b) (list_all class z) all in rw k.0 (behind_is class z rest k.1 e)

-- ---- the cut

-- through the first `*/`
through_close : Bytes → Bytes
through_close [] = []
through_close (b ∷ z) = if b == 42 && slice_index z 0 == 47 then 42 ∷ 47 ∷ [] else b ∷ through_close z

-- a literal, with its size in front, of what is behind the size
literal_cut : Bytes → Bytes → Bytes
literal_cut size (a ∷ b ∷ z) = size ++ a ∷ b ∷ front (is_digit_of (base_of b)) z
literal_cut size z = size

number_cut : Bytes → Bytes
number_cut z = let size = front (is_digit_of 10) z in let rest = behind (is_digit_of 10) z in if makes_literal rest then literal_cut size rest else size

second : Bytes → Bytes
second [] = []
second (c ∷ z) = c ∷ []

without_first : Bytes → Bytes
without_first [] = []
without_first (c ∷ z) = z

sign_cut : ℕ → Bytes → Piece
sign_cut b z =
    if bytes_eq (b ∷ second z) (codes "//") then gap (b ∷ front is_in_line z)
    else (if bytes_eq (b ∷ second z) (codes "/*") then gap (b ∷ second z ++ through_close (without_first z))
    else (if is_sign (b ∷ second z) then word (b ∷ second z) else word (b ∷ [])))

pub cut : Bytes → Piece
cut [] = gap []
cut (b ∷ z) =
    if is_blank b then gap (b ∷ [])
    else (if starts_name b then word (front goes_on (b ∷ z))
    else (if is_digit_of 10 b then word (number_cut (b ∷ z)) else sign_cut b z))

if_true : {A : Type 0} (test : Bool) (x y : A) → test ≡ true → (if test then x else y) ≡ x
if_true true x y e = refl
if_true false x y e = absurd cc

-- ---- classes of a first byte

starts_no_blank : (b : ℕ) → starts_name b ≡ true → is_blank b ≡ false
unfolding starts_name
starts_no_blank b h = grind arith

digit_low : (b : ℕ) → is_digit_of 10 b ≡ true → (47 < b) × (b < 58)
digit_low b h = grind arith

digit_no_blank : (b : ℕ) → is_digit_of 10 b ≡ true → is_blank b ≡ false
digit_no_blank b h = let k = digit_low b h in grind arith

pub digit_no_name : (b : ℕ) → is_digit_of 10 b ≡ true → starts_name b ≡ false
unfolding starts_name
digit_no_name b h = let k = digit_low b h in grind arith

pub all_digits : (base : ℕ) (ds : Bytes) → AllDigits base ds → list_all (is_digit_of base) ds ≡ true
all_digits base [] h = refl
all_digits base (d ∷ ds) (first, more) = let k = is_one base d first in rw (k, all_digits base ds more) refl
  where
    is_one : (base d : ℕ) → digit_value d < base → is_digit_of base d ≡ true
    is_one base d h = grind arith

-- ---- names and numbers

name_cut : (w rest : Bytes) → IsNameWord w rest → cut (w ++ rest) ≡ word w
unfolding cut
name_cut [] rest h = let f = h.form in absurd cc
name_cut (b ∷ z) rest h =
    let k = and_parts (starts_name b) (list_all goes_on z) h.form in
    let all : list_all goes_on (b ∷ z) ≡ true = rw (starts_goes b k.0) k.1 in
    if_false (is_blank b) _ _ (starts_no_blank b k.0) ∙ if_true (starts_name b) _ _ k.0 ∙ ap word (front_is goes_on (b ∷ z) rest all h.longest)

digit_cut : (w rest : Bytes) → begins (is_digit_of 10) w ≡ true → number_cut (w ++ rest) ≡ w → cut (w ++ rest) ≡ word w
unfolding cut
digit_cut [] rest h e = absurd cc
digit_cut (b ∷ z) rest h e =
    if_false (is_blank b) _ _ (digit_no_blank b h) ∙ if_false (starts_name b) _ _ (digit_no_name b h) ∙ if_true (is_digit_of 10 b) _ _ h ∙ ap word e

pub digits_begin : (base : ℕ) (w : Bytes) → IsNumeral base w → begins (is_digit_of base) w ≡ true
digits_begin base [] h = absurd (omega (arith, h.0))
digits_begin base (d ∷ ds) h = (and_parts (is_digit_of base d) (list_all (is_digit_of base) ds) (all_digits base (d ∷ ds) h.1)).0

plain_number : (w rest : Bytes) → IsNumberWord w rest → number_cut (w ++ rest) ≡ w
unfolding number_cut
plain_number w rest h =
    let all = all_digits 10 w h.numeral.1 in
    let first = front_is (is_digit_of 10) w rest all h.longest in
    let more = behind_is (is_digit_of 10) w rest all h.longest in
    if_false (makes_literal (behind (is_digit_of 10) (w ++ rest))) _ _ (ap makes_literal more ∙ h.plain) ∙ first

makes_it : (letter : ℕ) (digits rest : Bytes) → begins (is_digit_of (base_of letter)) digits ≡ true → makes_literal (39 ∷ letter ∷ (digits ++ rest)) ≡ true
makes_it letter [] rest h = absurd cc
makes_it letter (d ∷ ds) rest h = h

sized_number : (l : Sized) (rest : Bytes) → IsSized l → begins (is_digit_of (base_of l.letter)) rest ≡ false → number_cut (sized_word l ++ rest) ≡ sized_word l
unfolding number_cut literal_cut
sized_number l rest h longest =
    let tail = 39 ∷ l.letter ∷ (l.digits ++ rest) in
    let same : sized_word l ++ rest ≡ l.size ++ tail = append_assoc l.size (39 ∷ l.letter ∷ l.digits) rest in
    let all = all_digits 10 l.size h.0.1 in
    let first = front_is (is_digit_of 10) l.size tail all refl in
    let more = behind_is (is_digit_of 10) l.size tail all refl in
    ap number_cut same
    ∙ if_true (makes_literal (behind (is_digit_of 10) (l.size ++ tail))) _ _ (ap makes_literal more ∙ makes_it l.letter l.digits rest (digits_begin (base_of l.letter) l.digits h.1))
    ∙ ap (λ s. literal_cut s (behind (is_digit_of 10) (l.size ++ tail))) first ∙ ap (λ t. literal_cut l.size t) more
    ∙ ap (λ d. l.size ++ 39 ∷ l.letter ∷ d) (front_is (is_digit_of (base_of l.letter)) l.digits rest (all_digits (base_of l.letter) l.digits h.1.1) longest)

pub sized_begins : (l : Sized) → IsSized l → begins (is_digit_of 10) (sized_word l) ≡ true
sized_begins l h = in_front l.size (39 ∷ l.letter ∷ l.digits) (digits_begin 10 l.size h.0)
  where
    in_front : (a b : Bytes) → begins (is_digit_of 10) a ≡ true → begins (is_digit_of 10) (a ++ b) ≡ true
    in_front [] b h = absurd cc
    in_front (c ∷ a) b h = h

number_word_cut : (w rest : Bytes) → IsNumberWord w rest → cut (w ++ rest) ≡ word w
number_word_cut w rest h = digit_cut w rest (digits_begin 10 w h.numeral) (plain_number w rest h)

literal_word_cut : (w rest : Bytes) → IsLiteralWord w rest → cut (w ++ rest) ≡ word w
literal_word_cut w rest h =
    subst (λ (v : Bytes). cut (v ++ rest) ≡ word v) (sym h.is) (digit_cut (sized_word h.parts) rest (sized_begins h.parts h.sized) (sized_number h.parts rest h.sized h.longest))

-- ---- signs and gaps

-- no piece but a sign or a comment begins with it
plain : ℕ → Bool
plain b = not (is_blank b) && not (starts_name b) && not (is_digit_of 10 b)

plain_cut : (b : ℕ) (z : Bytes) → plain b ≡ true → cut (b ∷ z) ≡ sign_cut b z
unfolding cut plain
plain_cut b z h =
    let k = and_parts _ _ h in let l = and_parts (not (is_blank b)) (not (starts_name b)) k.0 in
    if_false (is_blank b) _ _ (not_true _ l.0) ∙ if_false (starts_name b) _ _ (not_true _ l.1) ∙ if_false (is_digit_of 10 b) _ _ (not_true _ k.1)

-- one byte or two, which begin no comment
can_be_cut : Word → Bool
can_be_cut [] = false
can_be_cut (b ∷ []) = plain b
can_be_cut (b ∷ c ∷ []) = plain b && not (bytes_eq (b ∷ c ∷ []) (codes "//")) && not (bytes_eq (b ∷ c ∷ []) (codes "/*"))
can_be_cut (b ∷ c ∷ d ∷ z) = false

pub among : (test : Word → Bool) (w : Word) (set : List Word) → list_all test set ≡ true → list_any (bytes_eq w) set ≡ true → test w ≡ true
among test w [] h k = absurd cc
among test w (s ∷ set) h k = pick (or_cases (bytes_eq w s) (list_any (bytes_eq w) set) k) (among test w set (and_parts (test s) (list_all test set) h).1)
  where
    pick : (bytes_eq w s ≡ true) ⊎ (list_any (bytes_eq w) set ≡ true) → (list_any (bytes_eq w) set ≡ true → test w ≡ true) → test w ≡ true
    pick (inl e) more = ap test ((bytes_eq-Decides w s).0 e) ∙ (and_parts (test s) (list_all test set) h).0
    pick (inr e) more = more e

signs_can : (w : Word) → is_sign w ≡ true → can_be_cut w ≡ true
unfolding is_sign signs can_be_cut plain starts_name
signs_can w h = among can_be_cut w signs refl h

no_or : (a b : Bool) → a || b ≡ false → (a ≡ false) × (b ≡ false)
no_or true b h = absurd cc
no_or false b h = (refl, h)

alone_no : (b c d : ℕ) → bytes_eq (b ∷ []) (c ∷ d ∷ []) ≡ false
alone_no b c d = pick (nat_eq b c)
  where
    pick : (t : Bool) → (t && false) ≡ false
    pick true = refl
    pick false = refl

sign_one : (b : ℕ) (rest : Bytes) → is_sign (b ∷ []) ≡ true → begins (λ c. is_sign_or_mark (b ∷ c ∷ [])) rest ≡ false → sign_cut b rest ≡ word (b ∷ [])
unfolding sign_cut second is_sign_or_mark
sign_one b [] h e = if_false (bytes_eq (b ∷ []) (codes "//")) _ _ (alone_no b 47 47) ∙ if_false (bytes_eq (b ∷ []) (codes "/*")) _ _ (alone_no b 47 42) ∙ if_true (is_sign (b ∷ [])) _ _ h
sign_one b (c ∷ z) h e =
    let k = no_or _ _ e in let l = no_or (is_sign (b ∷ c ∷ [])) _ k.0 in
    if_false (bytes_eq (b ∷ c ∷ []) (codes "//")) _ _ l.1 ∙ if_false (bytes_eq (b ∷ c ∷ []) (codes "/*")) _ _ k.1 ∙ if_false (is_sign (b ∷ c ∷ [])) _ _ l.0

sign_two : (b c : ℕ) (rest : Bytes) → is_sign (b ∷ c ∷ []) ≡ true → can_be_cut (b ∷ c ∷ []) ≡ true → sign_cut b (c ∷ rest) ≡ word (b ∷ c ∷ [])
unfolding sign_cut second can_be_cut
sign_two b c rest h e =
    let k = and_parts _ _ e in let l = and_parts (plain b) _ k.0 in
    if_false (bytes_eq (b ∷ c ∷ []) (codes "//")) _ _ (not_true _ l.1) ∙ if_false (bytes_eq (b ∷ c ∷ []) (codes "/*")) _ _ (not_true _ k.1) ∙ if_true (is_sign (b ∷ c ∷ [])) _ _ h

sign_word_cut : (w rest : Bytes) → IsSignWord w rest → cut (w ++ rest) ≡ word w
unfolding can_be_cut
sign_word_cut [] rest h = let f = signs_can [] h.sign in absurd cc
sign_word_cut (b ∷ []) rest h = plain_cut b rest (signs_can (b ∷ []) h.sign) ∙ sign_one b rest h.sign h.longest
sign_word_cut (b ∷ c ∷ []) rest h =
    let e = signs_can (b ∷ c ∷ []) h.sign in plain_cut b (c ∷ rest) (and_parts (plain b) _ (and_parts _ _ e).0).0 ∙ sign_two b c rest h.sign e
sign_word_cut (b ∷ c ∷ d ∷ z) rest h = let f = signs_can (b ∷ c ∷ d ∷ z) h.sign in absurd cc

line_cut : (body rest : Bytes) → list_all is_in_line body ≡ true → begins is_in_line rest ≡ false → cut (47 ∷ 47 ∷ body ++ rest) ≡ gap (47 ∷ 47 ∷ body)
unfolding plain sign_cut second starts_name
line_cut body rest all e = plain_cut 47 (47 ∷ body ++ rest) refl ∙ ap (λ l. gap (47 ∷ l)) (front_is is_in_line (47 ∷ body) rest all e)

closed : (body rest : Bytes) → has_close (body ++ 42 ∷ []) ≡ false → through_close (body ++ (42 ∷ 47 ∷ rest)) ≡ body ++ 42 ∷ 47 ∷ []
unfolding through_close has_close
closed [] rest h = refl
closed (b ∷ body) rest h =
    let k = no_or _ _ h in
    if_false (nat_eq b 42 && nat_eq (slice_index (body ++ (42 ∷ 47 ∷ rest)) 0) 47) _ _ (ap (λ x. nat_eq b 42 && nat_eq x 47) (first body) ∙ k.0) ∙ ap (λ l. b ∷ l) (closed body rest k.1)
  where
    first : (body : Bytes) → slice_index (body ++ (42 ∷ 47 ∷ rest)) 0 ≡ slice_index (body ++ 42 ∷ []) 0
    first [] = refl
    first (c ∷ z) = refl

block_cut : (body rest : Bytes) → has_close (body ++ 42 ∷ []) ≡ false → cut ((47 ∷ 42 ∷ body ++ 42 ∷ 47 ∷ []) ++ rest) ≡ gap (47 ∷ 42 ∷ body ++ 42 ∷ 47 ∷ [])
unfolding plain sign_cut second without_first starts_name
block_cut body rest h =
    plain_cut 47 (42 ∷ ((body ++ 42 ∷ 47 ∷ []) ++ rest)) refl ∙ ap (λ l. gap (47 ∷ 42 ∷ through_close l)) (append_assoc body (42 ∷ 47 ∷ []) rest) ∙ ap (λ l. gap (47 ∷ 42 ∷ l)) (closed body rest h)

-- ---- whole texts

pub stands_cut : (p : Piece) (rest : Bytes) → Stands p rest → cut (piece_bytes p ++ rest) ≡ p
unfolding cut
stands_cut (gap bytes) rest (inl (b, e, blank)) = rw e (if_true (is_blank b) _ _ blank)
stands_cut (gap bytes) rest (inr (inl (body, e, all, ends))) = subst (λ (v : Bytes). cut (v ++ rest) ≡ gap v) (sym e) (line_cut body rest all ends)
stands_cut (gap bytes) rest (inr (inr (body, e, first))) = subst (λ (v : Bytes). cut (v ++ rest) ≡ gap v) (sym e) (block_cut body rest first)
stands_cut (word bytes) rest (inl h) = name_cut bytes rest h
stands_cut (word bytes) rest (inr (inl h)) = number_word_cut bytes rest h
stands_cut (word bytes) rest (inr (inr (inl h))) = literal_word_cut bytes rest h
stands_cut (word bytes) rest (inr (inr (inr h))) = sign_word_cut bytes rest h

pub no_piece : (p : Piece) (rest : Bytes) → Stands p rest → [] ≡ piece_bytes p ++ rest → ⊥
unfolding cut
no_piece p rest h e = empty p h (ap cut e ∙ stands_cut p rest h)
  where
    empty : (p : Piece) → Stands p rest → gap [] ≡ p → ⊥
    empty (gap bytes) (inl (b, e, blank)) is = cc
    empty (gap bytes) (inr (inl (body, e, all, ends))) is = cc
    empty (gap bytes) (inr (inr (body, e, first))) is = cc
    empty (word bytes) h is = cc

same_pieces : (ps qs : List Piece) → StandInTurn ps [] → StandInTurn qs [] → text_of ps [] ≡ text_of qs [] → ps ≡ qs
same_pieces [] [] h k e = refl
same_pieces [] (q ∷ qs) h k e = absurd (no_piece q (text_of qs []) k.0 e)
same_pieces (p ∷ ps) [] h k e = absurd (no_piece p (text_of ps []) h.0 (sym e))
same_pieces (p ∷ ps) (q ∷ qs) h k e =
    let first : p ≡ q = sym (stands_cut p (text_of ps []) h.0) ∙ ap cut e ∙ stands_cut q (text_of qs []) k.0 in
    let more : text_of ps [] ≡ text_of qs [] = append_cancel_left (piece_bytes q) (text_of ps []) (text_of qs []) (ap (λ (r : Piece). piece_bytes r ++ text_of ps []) (sym first) ∙ e) in
    let rest = same_pieces ps qs h.1 k.1 more in cc

pub one_list : (text : Bytes) (some others : List Word) → HasWords text some → HasWords text others → some ≡ others
one_list text some others h k = sym h.told ∙ ap words_of (same_pieces h.pieces k.pieces h.standing k.standing (h.is ∙ sym k.is)) ∙ k.told
