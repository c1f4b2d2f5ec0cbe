-- What is written, bit by bit, is what is written at once.
use Rattle.std.proofs.Common.{◌≡◌, ℕ, zero, suc, ◌+◌, ◌-◌, ◌<◌, ◌≤◌, Bool, true, false, List, [], ◌∷◌, ◌++◌, length, take, drop, map, get_or, Option, Some, None, refl, sym, ap, ◌∙◌}
use Rattle.std.proofs.Common.{append_assoc, append-nil, add-one, length-append, arith, cond, ◌⊎◌, inl, inr}
use Rattle.std.specs.Prelude.{nat_le, codes}
use Rattle.std.specs.List.{flat_map}
use Rattle.std.proofs.Math.Nat.{eq-or-lt_of_le}
use Rattle.std.proofs.lemmas.Bool.Decides.{nat_tests}
use Rattle.tapa_base.specs.Gaps.{Bytes}
use Rattle.stream_arrays.specs.declared.writer.Writer.{Writer}
use Rattle.std.proofs.lemmas.Grind.{flat_map-append}
use Rattle.std.proofs.lemmas.List.{take_more, take_all, map-append}
use Rattle.stream_arrays.specs.Words.{spaced, element_name, elements, below, more_names, name_words, depth_words, words_of}
use Rattle.stream_arrays.specs.Forms.{Declaration}
use Rattle.stream_arrays.specs.Reading.{head_words}
use Rattle.tapa_syntax.specs.declared.lexeme.Lexeme.{Lexeme}
use Rattle.tapa_syntax.specs.Symbols.{text_of}
use Rattle.stream_arrays.specs.Written.{most, declaration_words}
use Rattle.stream_arrays.specs.Writing.{Writing, writing, is_full, more, said_word, said}

same_length : (out a b : Bytes) → length (out ++ a) + length b ≡ length out + length (a ++ b)
same_length out a b = omega (arith, length-append out a, length-append a b)

longer : (out a b : Bytes) → nat_le (length out + length a) most ≡ false → nat_le (length out + length (a ++ b)) most ≡ false
longer out a b h = let e : length (a ++ b) ≡ length a + length b = length-append a b in grind (arith, nat_tests)

pub more_more : (o : Option Bytes) (a b : Bytes) → more (more o a) b ≡ more o (a ++ b)
more_more None a b = refl
more_more (Some out) a b = by (nat_le (length out + length a) most) refl
  where
    by : (t : Bool) → nat_le (length out + length a) most ≡ t → more (cond t (Some (out ++ a)) None) b ≡ more (Some out) (a ++ b)
    by true e = ap (λ n. cond (nat_le n most) (Some ((out ++ a) ++ b)) None) (same_length out a b) ∙ ap (λ z. cond (nat_le (length out + length (a ++ b)) most) (Some z) None) (append_assoc out a b)
    by false e = sym (ap (λ t. cond t (Some (out ++ (a ++ b))) None) (longer out a b e))

-- nothing more is nothing new, where the text isn't too long
pub fits_more : (o : Option Bytes) (a : Bytes) → more (more o a) [] ≡ more o a
fits_more o a = more_more o a [] ∙ ap (more o) (append-nil a)

pub fits : (w : Writer) → more (writing w).text [] ≡ (writing w).text
fits w = by w.is_over
  where
    within : nat_le (length w.bytes.items + 0) most ≡ true
    within = let h : length w.bytes.items ≤ 4194304 = w.within in grind (arith, nat_tests)

    by : (t : Bool) → more (cond t None (Some w.bytes.items)) [] ≡ cond t None (Some w.bytes.items)
    by true = refl
    by false = ap (λ t. cond t (Some (w.bytes.items ++ [])) None) within ∙ ap (λ z. Some z) (append-nil w.bytes.items)

pub said_append : (w : Writing) (xs ys : List Bytes) → said w (xs ++ ys) ≡ said (said w xs) ys
said_append w [] ys = refl
said_append w (x ∷ xs) ys = said_append (said_word w x) xs ys

-- words behind the first of a form
behind_first : (o : Option Bytes) (words : List Bytes) → more o [] ≡ o → (said (record { text = o; begun = true }) words).text ≡ more o (flat_map (λ v. 32 ∷ v) words)
behind_first o [] h = sym h
behind_first o (w ∷ words) h = behind_first (more o (32 ∷ w)) words (fits_more o (32 ∷ w)) ∙ more_more o (32 ∷ w) (flat_map (λ v. 32 ∷ v) words)

-- the words of a form
pub said_all : (o : Option Bytes) (words : List Bytes) → more o [] ≡ o → (said (record { text = o; begun = false }) words).text ≡ more o (spaced words)
said_all o [] h = sym h
said_all o (w ∷ words) h = behind_first (more o w) words (fits_more o w) ∙ more_more o w (flat_map (λ v. 32 ∷ v) words)

-- ---- loops that write words

-- one word more for one more element
pub said_map : {A : Type 0} (f : A → Bytes) (xs : List A) (i : ℕ) (d : A) (w v u : Writing) → i < length xs → v ≡ said w (map f (take i xs)) → u ≡ said_word v (f (get_or xs i d)) → u ≡ said w (map f (take (i + 1) xs))
said_map f xs i d w v u h e g =
    g ∙ ap (λ z. said_word z (f (get_or xs i d))) e ∙ sym (said_append w (map f (take i xs)) (f (get_or xs i d) ∷ []))
    ∙ ap (said w) (sym (ap (map f) (take_more xs i d h) ∙ map-append f (take i xs) (get_or xs i d ∷ [])))

-- some words more for one more element
pub said_flat : {A : Type 0} (f : A → List Bytes) (xs : List A) (i : ℕ) (d : A) (w v u : Writing) → i < length xs → v ≡ said w (flat_map f (take i xs)) → u ≡ said v (f (get_or xs i d)) → u ≡ said w (flat_map f (take (i + 1) xs))
said_flat f xs i d w v u h e g =
    g ∙ ap (λ z. said z (f (get_or xs i d))) e ∙ sym (said_append w (flat_map f (take i xs)) (f (get_or xs i d)))
    ∙ ap (said w) (sym (ap (flat_map f) (take_more xs i d h) ∙ flat_map-append f (take i xs) (get_or xs i d ∷ []) ∙ ap (λ z. flat_map f (take i xs) ++ z) (append-nil (f (get_or xs i d)))))

-- some words more for one more number
pub said_below : (f : ℕ → List Bytes) (n : ℕ) (w v u : Writing) → v ≡ said w (flat_map f (below n)) → u ≡ said v (f n) → u ≡ said w (flat_map f (below (n + 1)))
said_below f n w v u e g =
    g ∙ ap (λ z. said z (f n)) e ∙ sym (said_append w (flat_map f (below n)) (f n))
    ∙ ap (said w) (sym (ap (λ k. flat_map f (below k)) (add-one n) ∙ flat_map-append f (below n) (n ∷ []) ∙ ap (λ z. flat_map f (below n) ++ z) (append-nil (f n))))

-- ---- loops that end early, where the text is too long

said_full : (w : Writing) (words : List Bytes) → is_full w ≡ true → said w words ≡ w
said_full w [] h = refl
said_full w (x ∷ words) h = ap (λ v. said v words) (word_full w.text w.begun h) ∙ said_full w words h
  where
    word_full : (o : Option Bytes) (b : Bool) → is_full (record { text = o; begun = b }) ≡ true → said_word (record { text = o; begun = b }) x ≡ record { text = o; begun = b }
    word_full None true h = refl
    word_full None false h = absurd cc
    word_full (Some out) b h = absurd cc

-- the words for all further numbers change nothing
pub full_below : (f : ℕ → List Bytes) (n m : ℕ) (w v : Writing) → n ≤ m → v ≡ said w (flat_map f (below n)) → is_full v ≡ true → v ≡ said w (flat_map f (below m))
full_below f n zero w v h e k = let none : n ≡ 0 = omega (arith, h) in e ∙ ap (λ i. said w (flat_map f (below i))) none
full_below f n (suc m) w v h e k = by (eq-or-lt_of_le h) (λ s. full_below f n m w v s e k)
  where
    by : (n ≡ suc m) ⊎ (n < suc m) → (n ≤ m → v ≡ said w (flat_map f (below m))) → v ≡ said w (flat_map f (below (suc m)))
    by (inl s) more = e ∙ ap (λ i. said w (flat_map f (below i))) s
    by (inr s) more =
        said_below f m w v v (more (omega (arith, s))) (sym (said_full v (f m) k))
        ∙ ap (λ i. said w (flat_map f (below i))) (add-one m)

abbrev next_element : Bytes → ℕ → List Bytes
next_element x i = codes "," ∷ element_name x (suc i) ∷ []

elements_more : (x : Bytes) (n : ℕ) → 1 ≤ n → elements x (n + 1) ≡ elements x n ++ (codes "," ∷ element_name x n ∷ [])
elements_more x n h =
    ap (λ k. element_name x 0 ∷ flat_map (next_element x) (below k)) (let e : n + 1 - 1 ≡ suc (n - 1) = omega arith in e)
    ∙ ap (λ z. element_name x 0 ∷ z) (flat_map-append (next_element x) (below (n - 1)) ((n - 1) ∷ []))
    ∙ ap (λ k. (element_name x 0 ∷ flat_map (next_element x) (below (n - 1))) ++ (codes "," ∷ element_name x k ∷ [])) (let e : suc (n - 1) ≡ n = omega arith in e)

-- and so do those for all further elements
pub full_elements : (x : Bytes) (i n : ℕ) (w v : Writing) → i - 1 ≤ n - 1 → v ≡ said w (elements x i) → is_full v ≡ true → v ≡ said w (elements x n)
full_elements x i n w v h e k = full_below (next_element x) (i - 1) (n - 1) (said_word w (element_name x 0)) v h e k

-- one more element of an array
pub said_elements : (x : Bytes) (n : ℕ) (w v u t : Writing) → 1 ≤ n → v ≡ said w (elements x n) → u ≡ said_word v (codes ",") → t ≡ said_word u (element_name x n) → t ≡ said w (elements x (n + 1))
said_elements x n w v u t h e g k =
    k ∙ ap (λ z. said_word z (element_name x n)) (g ∙ ap (λ z. said_word z (codes ",")) e)
    ∙ sym (said_append w (elements x n) (codes "," ∷ element_name x n ∷ []))
    ∙ ap (said w) (sym (elements_more x n h))

-- the words before the names of a declaration
pub said_head : (w : Writing) (a b c d e : Bytes) (xs ys : List Bytes) → said_word (said (said (said_word (said_word (said_word (said_word w a) b) c) d) xs) ys) e ≡ said w (a ∷ b ∷ c ∷ d ∷ (xs ++ (ys ++ e ∷ [])))
said_head w a b c d e xs ys =
    sym (said_append (said_word (said_word (said_word (said_word w a) b) c) d) xs (ys ++ e ∷ []) ∙ said_append (said (said_word (said_word (said_word (said_word w a) b) c) d) xs) ys (e ∷ []))

-- all the names of a declaration
pub names_done : (text : Bytes) (n : ℕ) (names : List Lexeme) (i : ℕ) (d : Lexeme) (w v u : Writing) → 0 < length names → length (take (length names - 1) (drop 1 names)) ≤ i → v ≡ said w (elements (text_of text (get_or names 0 d)) n)
    → u ≡ said v (more_names text n (take i (take (length names - 1) (drop 1 names)))) → u ≡ said w (name_words text n names)
names_done text n [] i d w v u h k e g = absurd (omega arith)
names_done text n (x ∷ xs) i d w v u h k e g =
    let a : take (length (x ∷ xs) - 1) xs ≡ xs = take_all (length (x ∷ xs) - 1) xs (omega arith) in
    let b : take i (take (length (x ∷ xs) - 1) xs) ≡ xs = take_all i (take (length (x ∷ xs) - 1) xs) k ∙ a in
    g ∙ ap (λ z. said v (more_names text n z)) b ∙ ap (λ z. said z (more_names text n xs)) e ∙ sym (said_append w (elements (text_of text x) n) (more_names text n xs))

-- all the words of a declaration
pub said_declaration : (text : Bytes) (d : Declaration) (n : ℕ) (w : Writing) → said_word (said (said w (head_words text d)) (name_words text n d.names)) (codes ";") ≡ said w (declaration_words text d n)
said_declaration text d n w =
    sym (said_append (said w (head_words text d)) (name_words text n d.names) (codes ";" ∷ []))
    ∙ sym (said_append w (head_words text d) (name_words text n d.names ++ codes ";" ∷ []))
    ∙ ap (λ z. said w (codes "tapa" ∷ codes "::" ∷ codes "stream" ∷ codes "<" ∷ z))
    (append_assoc (words_of text d.element) (depth_words text d.depth ++ codes ">" ∷ []) (name_words text n d.names ++ codes ";" ∷ [])
    ∙ ap (λ z. words_of text d.element ++ z) (append_assoc (depth_words text d.depth) (codes ">" ∷ []) (name_words text n d.names ++ codes ";" ∷ [])))

-- one more name of a declaration
pub said_name : (text : Bytes) (n : ℕ) (xs : List Lexeme) (i : ℕ) (d : Lexeme) (w v t u : Writing) → i < length xs → v ≡ said w (more_names text n (take i xs)) → t ≡ said_word v (codes ",") → u ≡ said t (elements (text_of text (get_or xs i d)) n)
    → u ≡ said w (more_names text n (take (i + 1) xs))
said_name text n xs i d w v t u h e g k =
    said_flat (λ (x : Lexeme). codes "," ∷ elements (text_of text x) n) xs i d w v u h e (k ∙ ap (λ z. said z (elements (text_of text (get_or xs i d)) n)) g)
