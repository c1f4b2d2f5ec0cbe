-- What one word more makes of what is left: a word is read where it is one with which such words begin.
use Rattle.std.proofs.Common.{◌≡◌, ◌⊎◌, inl, inr, ℕ, ◌+◌, Bool, true, false, cond, ◌&&◌, List, [], ◌∷◌, Some, None, bytes_eq, refl, sym, ap, subst, ◌∙◌}
use Rattle.std.specs.Str.Parse.{digits_value}
use Rattle.std.proofs.lemmas.Bool.{and_parts}
use Rattle.std.proofs.lemmas.Slice.Eq.{bytes_eq-Decides}
use Rattle.vlog_tree.specs.Form.{ModuleTree}
use Rattle.vlog_tree.specs.Names.{is_name}
use Rattle.vlog_tree.specs.Spelling.{Word}
use Rattle.vlog_read.specs.declared.state.Reader.{Reader}
use Rattle.vlog_lex.specs.ReadNumerals.{is_number}
use Rattle.vlog_read.specs.ValueReading.{Next}
use Rattle.vlog_read.specs.Finishing.{Left, Words, Named, Numbered, Counted, Finishes}
use Rattle.vlog_lex.proofs.NumberWords.{numeral_true, numeral_of}

-- with which words it goes on from there
abbrev pub Follows : List ModuleTree → Next → Left
Follows cs None t = ⊥
Follows cs (Some r) t = Finishes cs r t

-- with which words it goes on where each first word leads there, and whether it may end
abbrev pub Reads : List ModuleTree → (Word → Next) → Type 0 → Left
Reads cs f E [] = E
Reads cs f E (w ∷ t) = Follows cs (f w) t

pub record IsRead (cs : List ModuleTree) (f : Word → Next) (E : Type 0) (G : Left) : Type 0 where
  pub to : (i : List Word) → G i → Reads cs f E i
  pub from : (i : List Word) → Reads cs f E i → G i

pub at_word : (cs : List ModuleTree) (f : Word → Next) (E : Type 0) (i : List Word) (w : Word) (j : List Word) → i ≡ w ∷ j → Follows cs (f w) j → Reads cs f E i
at_word cs f E i w j e h = subst (Reads cs f E) (sym e) h

-- the same, said in other words
pub as_read : {cs : List ModuleTree} {f : Word → Next} {E : Type 0} {G H : Left} → IsRead cs f E G → ((i : List Word) → G i → H i) → ((i : List Word) → H i → G i) → IsRead cs f E H
as_read h there back = record { to = λ i x. h.to i (back i x); from = λ i x. there i (h.from i x) }

-- ---- tests

in_true : (cs : List ModuleTree) (b : Bool) (x y : Next) (t : List Word) → b ≡ true → Follows cs x t → Follows cs (cond b x y) t
in_true cs true x y t e h = h
in_true cs false x y t e h = absurd cc

by_test : {A : Type 0} (cs : List ModuleTree) (b : Bool) (x y : Next) (t : List Word) → Follows cs (cond b x y) t → (b ≡ true → Follows cs x t → A) → (b ≡ false → Follows cs y t → A) → A
by_test cs true x y t h f g = f refl h
by_test cs false x y t h f g = g refl h

pub same_word : (w v : Word) → bytes_eq w v ≡ true → w ≡ v
same_word w v e = (bytes_eq-Decides w v).0 e

pub is_word : (v : Word) → bytes_eq v v ≡ true
is_word v = (bytes_eq-Decides v v).1 refl

-- ---- nothing

pub none_read : (cs : List ModuleTree) (E : Type 0) → IsRead cs (λ w. None) E (λ i. (i ≡ []) × E)
none_read cs E = record { to = λ i x. subst (Reads cs (λ w. None) E) (sym x.0) x.1; from = back }
  where
    back : (i : List Word) → Reads cs (λ w. None) E i → (i ≡ []) × E
    back [] x = (refl, x)
    back (w ∷ t) x = absurd x

pub no_read : (cs : List ModuleTree) → IsRead cs (λ w. None) ⊥ (λ i. ⊥)
no_read cs = record { to = λ i x. absurd x; from = back }
  where
    back : (i : List Word) → Reads cs (λ w. None) ⊥ i → ⊥
    back [] x = x
    back (w ∷ t) x = x

-- ---- one word, as it is

pub guard_read : (cs : List ModuleTree) (v : Word) (b : Bool) (r : Reader) → IsRead cs (λ w. cond (bytes_eq w v && b) (Some r) None) ⊥ (λ i. (b ≡ true) × Words (v ∷ []) (Finishes cs r) i)
guard_read cs v b r = record { to = there; from = back }
  where
    there : (i : List Word) → (b ≡ true) × Words (v ∷ []) (Finishes cs r) i → Reads cs (λ w. cond (bytes_eq w v && b) (Some r) None) ⊥ i
    there i (e, (j, is, h)) =
        at_word cs (λ w. cond (bytes_eq w v && b) (Some r) None) ⊥ i v j is (in_true cs (bytes_eq v v && b) (Some r) None j (rw (is_word v) e) h)

    back : (i : List Word) → Reads cs (λ w. cond (bytes_eq w v && b) (Some r) None) ⊥ i → (b ≡ true) × Words (v ∷ []) (Finishes cs r) i
    back [] x = absurd x
    back (w ∷ t) x =
        by_test cs (bytes_eq w v && b) (Some r) None t x
        (λ e h. let k = and_parts (bytes_eq w v) b e in (k.1, (t, ap (λ (u : Word). u ∷ t) (same_word w v k.0), h)))
        (λ e h. absurd h)

pub fixed_read : (cs : List ModuleTree) (v : Word) (r : Reader) → IsRead cs (λ w. cond (bytes_eq w v) (Some r) None) ⊥ (Words (v ∷ []) (Finishes cs r))
fixed_read cs v r = record { to = there; from = back }
  where
    there : (i : List Word) → Words (v ∷ []) (Finishes cs r) i → Reads cs (λ w. cond (bytes_eq w v) (Some r) None) ⊥ i
    there i (j, is, h) = at_word cs (λ w. cond (bytes_eq w v) (Some r) None) ⊥ i v j is (in_true cs (bytes_eq v v) (Some r) None j (is_word v) h)

    back : (i : List Word) → Reads cs (λ w. cond (bytes_eq w v) (Some r) None) ⊥ i → Words (v ∷ []) (Finishes cs r) i
    back [] x = absurd x
    back (w ∷ t) x = by_test cs (bytes_eq w v) (Some r) None t x (λ e h. (t, ap (λ (u : Word). u ∷ t) (same_word w v e), h)) (λ e h. absurd h)

-- one word, or else others that do not begin with it
pub word_or : (cs : List ModuleTree) (v : Word) (r : Reader) {g : Word → Next} {E : Type 0} {G : Left} → IsRead cs g E G → g v ≡ None → IsRead cs (λ w. cond (bytes_eq w v) (Some r) (g w)) E (λ i. Words (v ∷ []) (Finishes cs r) i ⊎ G i)
word_or cs v r {g} {E} {G} k none = record { to = there; from = back }
  where
    other : (w : Word) (t : List Word) (b : Bool) → bytes_eq w v ≡ b → Follows cs (g w) t → Follows cs (cond b (Some r) (g w)) t
    other w t true e x = absurd (subst (λ (n : Next). Follows cs n t) (ap g (same_word w v e) ∙ none) x)
    other w t false e x = x

    there : (i : List Word) → Words (v ∷ []) (Finishes cs r) i ⊎ G i → Reads cs (λ w. cond (bytes_eq w v) (Some r) (g w)) E i
    there i (inl (j, is, h)) = at_word cs (λ w. cond (bytes_eq w v) (Some r) (g w)) E i v j is (in_true cs (bytes_eq v v) (Some r) (g v) j (is_word v) h)
    there [] (inr x) = k.to [] x
    there (w ∷ t) (inr x) = other w t (bytes_eq w v) refl (k.to (w ∷ t) x)

    back : (i : List Word) → Reads cs (λ w. cond (bytes_eq w v) (Some r) (g w)) E i → Words (v ∷ []) (Finishes cs r) i ⊎ G i
    back [] x = inr (k.from [] x)
    back (w ∷ t) x = by_test cs (bytes_eq w v) (Some r) (g w) t x (λ e h. inl (t, ap (λ (u : Word). u ∷ t) (same_word w v e), h)) (λ e h. inr (k.from (w ∷ t) h))

-- ---- names

pub name_or : (cs : List ModuleTree) (to : Word → Reader) {g : Word → Next} {E : Type 0} {G : Left} → IsRead cs g E G → ((w : Word) → is_name w ≡ true → g w ≡ None)
    → IsRead cs (λ w. cond (is_name w) (Some (to w)) (g w)) E (λ i. Named (λ x. Finishes cs (to x)) i ⊎ G i)
name_or cs to {g} {E} {G} k none = record { to = there; from = back }
  where
    other : (w : Word) (t : List Word) (b : Bool) → is_name w ≡ b → Follows cs (g w) t → Follows cs (cond b (Some (to w)) (g w)) t
    other w t true e x = absurd (subst (λ (n : Next). Follows cs n t) (none w e) x)
    other w t false e x = x

    there : (i : List Word) → Named (λ x. Finishes cs (to x)) i ⊎ G i → Reads cs (λ w. cond (is_name w) (Some (to w)) (g w)) E i
    there i (inl (x, j, (n, is), h)) = at_word cs (λ w. cond (is_name w) (Some (to w)) (g w)) E i x j is (in_true cs (is_name x) (Some (to x)) (g x) j n h)
    there [] (inr x) = k.to [] x
    there (w ∷ t) (inr x) = other w t (is_name w) refl (k.to (w ∷ t) x)

    back : (i : List Word) → Reads cs (λ w. cond (is_name w) (Some (to w)) (g w)) E i → Named (λ x. Finishes cs (to x)) i ⊎ G i
    back [] x = inr (k.from [] x)
    back (w ∷ t) x = by_test cs (is_name w) (Some (to w)) (g w) t x (λ e h. inl (w, t, (e, refl), h)) (λ e h. inr (k.from (w ∷ t) h))

pub name_read : (cs : List ModuleTree) (to : Word → Reader) → IsRead cs (λ w. cond (is_name w) (Some (to w)) None) ⊥ (Named (λ x. Finishes cs (to x)))
name_read cs to = as_read (name_or cs to (no_read cs) (λ w e. refl)) (λ i. there i) (λ i x. inl x)
  where
    there : (i : List Word) → Named (λ x. Finishes cs (to x)) i ⊎ ⊥ → Named (λ x. Finishes cs (to x)) i
    there i (inl x) = x
    there i (inr x) = absurd x

-- ---- numbers

pub number_or : (cs : List ModuleTree) (to : ℕ → Reader) {g : Word → Next} {E : Type 0} {G : Left} → IsRead cs g E G → ((w : Word) → is_number w ≡ true → g w ≡ None)
    → IsRead cs (λ w. cond (is_number w) (Some (to (digits_value 10 w))) (g w)) E (λ i. Numbered (λ n. Finishes cs (to n)) i ⊎ G i)
number_or cs to {g} {E} {G} k none = record { to = there; from = back }
  where
    other : (w : Word) (t : List Word) (b : Bool) → is_number w ≡ b → Follows cs (g w) t → Follows cs (cond b (Some (to (digits_value 10 w))) (g w)) t
    other w t true e x = absurd (subst (λ (n : Next). Follows cs n t) (none w e) x)
    other w t false e x = x

    there : (i : List Word) → Numbered (λ n. Finishes cs (to n)) i ⊎ G i → Reads cs (λ w. cond (is_number w) (Some (to (digits_value 10 w))) (g w)) E i
    there i (inl (n, j, (w, (numeral, value), is), h)) =
        at_word cs (λ w. cond (is_number w) (Some (to (digits_value 10 w))) (g w)) E i w j is
        (in_true cs (is_number w) (Some (to (digits_value 10 w))) (g w) j (numeral_true 10 w numeral) (subst (λ (m : ℕ). Finishes cs (to m) j) (sym value) h))
    there [] (inr x) = k.to [] x
    there (w ∷ t) (inr x) = other w t (is_number w) refl (k.to (w ∷ t) x)

    back : (i : List Word) → Reads cs (λ w. cond (is_number w) (Some (to (digits_value 10 w))) (g w)) E i → Numbered (λ n. Finishes cs (to n)) i ⊎ G i
    back [] x = inr (k.from [] x)
    back (w ∷ t) x =
        by_test cs (is_number w) (Some (to (digits_value 10 w))) (g w) t x (λ e h. inl (digits_value 10 w, t, (w, (numeral_of 10 w e, refl), refl), h)) (λ e h. inr (k.from (w ∷ t) h))

pub number_read : (cs : List ModuleTree) (to : ℕ → Reader) → IsRead cs (λ w. cond (is_number w) (Some (to (digits_value 10 w))) None) ⊥ (Numbered (λ n. Finishes cs (to n)))
number_read cs to = as_read (number_or cs to (no_read cs) (λ w e. refl)) (λ i. there i) (λ i x. inl x)
  where
    there : (i : List Word) → Numbered (λ n. Finishes cs (to n)) i ⊎ ⊥ → Numbered (λ n. Finishes cs (to n)) i
    there i (inl x) = x
    there i (inr x) = absurd x

-- the last of places, which tells how many there are
pub count_read : (cs : List ModuleTree) (to : ℕ → Reader) → IsRead cs (λ w. cond (is_number w) (Some (to (digits_value 10 w + 1))) None) ⊥ (Counted (λ n. Finishes cs (to n)))
count_read cs to = as_read (number_read cs (λ last. to (last + 1))) (λ i. there i) (λ i. back i)
  where
    there : (i : List Word) → Numbered (λ last. Finishes cs (to (last + 1))) i → Counted (λ n. Finishes cs (to n)) i
    there i (last, j, number, h) = (last + 1, j, (last, refl, number), h)

    back : (i : List Word) → Counted (λ n. Finishes cs (to n)) i → Numbered (λ last. Finishes cs (to (last + 1))) i
    back i (n, j, (last, is, number), h) = (last, j, number, subst (λ (m : ℕ). Finishes cs (to m) j) is h)
