-- Lists and values: no words spell two.
use Rattle.std.proofs.Common.{◌≡◌, ℕ, Bool, true, false, not, ◌&&◌, ◌==◌, if◌then◌else◌, List, [], ◌∷◌, codes, bytes_eq, drop, refl, sym, ap, subst, ◌∙◌, arith}
use Rattle.std.proofs.lemmas.Slice.Eq.{bytes_eq-Decides}
use Rattle.vlog_tree.specs.declared.tree.Atom.{Atom}
use Rattle.vlog_tree.specs.declared.tree.Atom.TheVariants.{Net, Part as PartSelect, Literal}
use Rattle.vlog_tree.specs.declared.tree.BinaryOp.{BinaryOp}
use Rattle.vlog_tree.specs.declared.tree.BinaryOp.TheVariants.{Plus, Minus, Times, Divide, Remainder, And, Or, Xor, ShiftLeft, ShiftRight, Equals, Differs, Less}
use Rattle.vlog_tree.specs.declared.tree.Value.{Value}
use Rattle.vlog_tree.specs.declared.tree.Value.TheVariants.{Plain, Invert, Binary, Choose, Concat, Repeat, Cell}
use Rattle.vlog_tree.specs.Names.{IsName, is_name, starts_name}
use Rattle.vlog_tree.specs.Spelling.{Word}
use Rattle.tapa_base.specs.Spans.{◌⨾◌, Each, Separated}
use Rattle.vlog_lex.specs.Spans.{Part, Takes, SeparatedTwo}
use Rattle.tapa_base.specs.Gaps.{begins}
use Rattle.vlog_lex.specs.Lexemes.{is_digit_of}
use Rattle.vlog_lex.specs.Grammar.{SpellsName, SpellsNumber, SpellsAtom, SpellsOperator, SpellsValue}
use Rattle.vlog_lex.proofs.OneAtom.{first, apart, names_no_sign, digit_begins_no_name, number_begins, literal_begins, same_first, same_rest, one_name, one_number, EndsAtom, one_atom}
use Rattle.std.specs.Prelude.{not}

-- ---- lists

module _ {A : Type 0} (P : A → Part) (Ends : List Word → Type 0) (agree : (x y : A) (i j k : List Word) → Ends j → Ends k → P x i j → P y i k → (x ≡ y) × (j ≡ k)) (close : Word)
    (comma : (t : List Word) → Ends (codes "," ∷ t)) (closed : (t : List Word) → Ends (close ∷ t)) (differs : close ≡ codes "," → ⊥) where
  abbrev Next : A → Part
  Next x = Takes (codes ",") ⨾ P x

  more_ends : (xs : List A) (i j : List Word) → Each Next xs i (close ∷ j) → Ends i
  more_ends [] i j e = subst Ends (sym e) (closed j)
  more_ends (x ∷ xs) i j (l, (t, e, p), m) = subst Ends (sym e) (comma t)

  one_more : (xs ys : List A) (i j k : List Word) → Each Next xs i (close ∷ j) → Each Next ys i (close ∷ k) → (xs ≡ ys) × (j ≡ k)
  one_more [] [] i j k e f = (refl, same_rest close close i j k e f)
  one_more [] (y ∷ ys) i j k e (l, (t, f, q), m) = absurd (differs (same_first close (codes ",") i j t e f))
  one_more (x ∷ xs) [] i j k (l, (t, e, p), m) f = absurd (differs (same_first close (codes ",") i k t f e))
  one_more (x ∷ xs) (y ∷ ys) i j k (l, (t, e, p), m) (l1, (t1, e1, p1), m1) =
      let s1 = same_rest (codes ",") (codes ",") i t t1 e e1 in
      let s2 = agree x y t l l1 (more_ends xs l j m) (more_ends ys l1 k m1) p (subst (λ (z : List Word). P y z l1) (sym s1) p1) in
      let s3 = one_more xs ys l j k m (subst (λ (z : List Word). Each Next ys z (close ∷ k)) (sym s2.1) m1) in
      let ex = s2.0 in let exs = s3.0 in (cc, s3.1)

  pub one_separated : (xs ys : List A) (i j k : List Word) → Separated (Takes (codes ",")) P xs i (close ∷ j) → Separated (Takes (codes ",")) P ys i (close ∷ k) → (xs ≡ ys) × (j ≡ k)
  one_separated [] ys i j k h g = absurd h
  one_separated (x ∷ xs) [] i j k h g = absurd g
  one_separated (x ∷ xs) (y ∷ ys) i j k (l, p, m) (l1, p1, m1) =
      let s2 = agree x y i l l1 (more_ends xs l j m) (more_ends ys l1 k m1) p p1 in
      let s3 = one_more xs ys l j k m (subst (λ (z : List Word). Each Next ys z (close ∷ k)) (sym s2.1) m1) in
      let ex = s2.0 in let exs = s3.0 in (cc, s3.1)

two_is : {A : Type 0} (P : A → Part) (xs : List A) (i j : List Word) → SeparatedTwo (Takes (codes ",")) P xs i j → Separated (Takes (codes ",")) P xs i j
two_is P [] i j h = absurd h
two_is P (x ∷ []) i j h = absurd h
two_is P (x ∷ y ∷ zs) i j h = h

-- ---- operators

-- what an operator begins with is none of `;`, `?` and `[`
abbrev in_operator : ℕ → Bool
in_operator b = not (b == 59) && not (b == 63) && not (b == 91)

operator_begins : (op : BinaryOp) (i j : List Word) → SpellsOperator op i j → begins in_operator (first i) ≡ true
operator_begins Plus i j h = ap (λ l. begins in_operator (first l)) h
operator_begins Minus i j h = ap (λ l. begins in_operator (first l)) h
operator_begins Times i j h = ap (λ l. begins in_operator (first l)) h
operator_begins Divide i j h = ap (λ l. begins in_operator (first l)) h
operator_begins Remainder i j h = ap (λ l. begins in_operator (first l)) h
operator_begins And i j h = ap (λ l. begins in_operator (first l)) h
operator_begins Or i j h = ap (λ l. begins in_operator (first l)) h
operator_begins Xor i j h = ap (λ l. begins in_operator (first l)) h
operator_begins ShiftLeft i j h = ap (λ l. begins in_operator (first l)) h
operator_begins ShiftRight i j h = ap (λ l. begins in_operator (first l)) h
operator_begins Equals i j h = ap (λ l. begins in_operator (first l)) h
operator_begins Differs i j h = ap (λ l. begins in_operator (first l)) h
operator_begins Less i j h = ap (λ l. begins in_operator (first l)) h

operator_ends : (op : BinaryOp) (i j : List Word) → SpellsOperator op i j → EndsAtom i
operator_ends op i j h e = apart in_operator (first i) (codes "[") (operator_begins op i j h) refl e

operator_no : (op : BinaryOp) (i j k : List Word) (w : Word) → SpellsOperator op i j → begins in_operator w ≡ false → i ≡ w ∷ k → ⊥
operator_no op i j k w h none e = apart in_operator (first i) w (operator_begins op i j h) none (ap first e)

operator_of : Word → BinaryOp
operator_of w =
    if bytes_eq w (codes "+") then Plus
    else (if bytes_eq w (codes "-") then Minus
    else (if bytes_eq w (codes "*") then Times
    else (if bytes_eq w (codes "/") then Divide
    else (if bytes_eq w (codes "%") then Remainder
    else (if bytes_eq w (codes "&") then And
    else (if bytes_eq w (codes "|") then Or
    else (if bytes_eq w (codes "^") then Xor
    else (if bytes_eq w (codes "<<") then ShiftLeft
    else (if bytes_eq w (codes ">>") then ShiftRight
    else (if bytes_eq w (codes "==") then Equals
    else (if bytes_eq w (codes "!=") then Differs else Less)))))))))))

operator_is : (op : BinaryOp) (i j : List Word) → SpellsOperator op i j → (operator_of (first i) ≡ op) × (drop 1 i ≡ j)
unfolding operator_of
operator_is Plus i j h = (ap (λ l. operator_of (first l)) h, ap (drop 1) h)
operator_is Minus i j h = (ap (λ l. operator_of (first l)) h, ap (drop 1) h)
operator_is Times i j h = (ap (λ l. operator_of (first l)) h, ap (drop 1) h)
operator_is Divide i j h = (ap (λ l. operator_of (first l)) h, ap (drop 1) h)
operator_is Remainder i j h = (ap (λ l. operator_of (first l)) h, ap (drop 1) h)
operator_is And i j h = (ap (λ l. operator_of (first l)) h, ap (drop 1) h)
operator_is Or i j h = (ap (λ l. operator_of (first l)) h, ap (drop 1) h)
operator_is Xor i j h = (ap (λ l. operator_of (first l)) h, ap (drop 1) h)
operator_is ShiftLeft i j h = (ap (λ l. operator_of (first l)) h, ap (drop 1) h)
operator_is ShiftRight i j h = (ap (λ l. operator_of (first l)) h, ap (drop 1) h)
operator_is Equals i j h = (ap (λ l. operator_of (first l)) h, ap (drop 1) h)
operator_is Differs i j h = (ap (λ l. operator_of (first l)) h, ap (drop 1) h)
operator_is Less i j h = (ap (λ l. operator_of (first l)) h, ap (drop 1) h)

one_operator : (o p : BinaryOp) (i j k : List Word) → SpellsOperator o i j → SpellsOperator p i k → (o ≡ p) × (j ≡ k)
one_operator o p i j k h g = let a = operator_is o i j h in let b = operator_is p i k g in (sym a.0 ∙ b.0, sym a.1 ∙ b.1)

-- ---- the shape of a value, by its first words

pub unequal : (v w : Word) → (v ≡ w → ⊥) → bytes_eq v w ≡ false
unequal v w h = pick (bytes_eq v w) refl
  where
    pick : (b : Bool) → bytes_eq v w ≡ b → b ≡ false
    pick true e = absurd (h ((bytes_eq-Decides v w).0 e))
    pick false e = refl

shape_by : Word → Word → Word → ℕ
shape_by u v w =
    if bytes_eq u (codes "~") then 0
    else (if bytes_eq u (codes "{") then (if bytes_eq w (codes "{") then 1 else 2)
    else (if bytes_eq v (codes "[") && is_name w then 4 else 3))

shape_of : List Word → ℕ
shape_of i = shape_by (first i) (first (drop 1 i)) (first (drop 2 i))

shape : Value → ℕ
shape (Plain a) = 3
shape (Invert a) = 0
shape (Binary a op b) = 3
shape (Choose c a b) = 3
shape (Concat atoms) = 2
shape (Repeat n a) = 1
shape (Cell m x) = 4

headed : (u v w : Word) (b : Bool) → (u ≡ codes "~" → ⊥) → (u ≡ codes "{" → ⊥) → (bytes_eq v (codes "[") && is_name w) ≡ b → shape_by u v w ≡ (if b then 4 else 3)
unfolding shape_by
headed u v w b h k e = rw (unequal u (codes "~") h, unequal u (codes "{") k, e) refl

digit_no_name : (w : Word) → begins (is_digit_of 10) w ≡ true → is_name w ≡ false
digit_no_name [] h = refl
digit_no_name (b ∷ z) h = rw (digit_begins_no_name (b ∷ z) h) refl

name_no_tilde : (x : Word) → IsName x → x ≡ codes "~" → ⊥
unfolding starts_name
name_no_tilde x h e = names_no_sign x (codes "~") h refl e

name_no_brace : (x : Word) → IsName x → x ≡ codes "{" → ⊥
unfolding starts_name
name_no_brace x h e = names_no_sign x (codes "{") h refl e

no_part : (v w : Word) → (v ≡ codes "[" → ⊥) → (bytes_eq v (codes "[") && is_name w) ≡ false
no_part v w h = rw (unequal v (codes "[") h) refl

atom_shape : (a : Atom) (i j : List Word) → SpellsAtom a i j → EndsAtom j → shape_of i ≡ 3
unfolding shape_of
atom_shape (Net x) i j (n, e) ends = ap shape_of e ∙ headed x (first j) (first (drop 1 j)) false (name_no_tilde x n) (name_no_brace x n) (no_part (first j) (first (drop 1 j)) ends)
atom_shape (PartSelect x high low) i j (a, (n, e), (b, f, (c, (w, l, g), more))) ends =
    ap shape_of (e ∙ ap (λ t. x ∷ t) (f ∙ ap (λ t. codes "[" ∷ t) g)) ∙ headed x (codes "[") w false (name_no_tilde x n) (name_no_brace x n) (digit_no_name w (number_begins high w l))
atom_shape (Literal width value) i j (w, l, e) ends =
    let d = literal_begins width value w l in
    ap shape_of e ∙ headed w (first j) (first (drop 1 j)) false (apart (is_digit_of 10) w (codes "~") d refl) (apart (is_digit_of 10) w (codes "{") d refl) (no_part (first j) (first (drop 1 j)) ends)

-- behind the first word of an atom in a list no brace opens
inside_list : (a : Atom) (i j : List Word) → SpellsAtom a i (codes "," ∷ j) → first (drop 1 i) ≡ codes "{" → ⊥
inside_list (Net x) i j (n, e) f = apart (λ b. b == 123) (codes "{") (codes ",") refl refl (sym f ∙ ap (λ l. first (drop 1 l)) e)
inside_list (PartSelect x high low) i j (a, (n, e), (b, g, more)) f = apart (λ b. b == 123) (codes "{") (codes "[") refl refl (sym f ∙ ap (λ l. first (drop 1 l)) (e ∙ ap (λ t. x ∷ t) g))
inside_list (Literal width value) i j (w, l, e) f = apart (λ b. b == 123) (codes "{") (codes ",") refl refl (sym f ∙ ap (λ l. first (drop 1 l)) e)

pub semicolon_ends : (j : List Word) → EndsAtom (codes ";" ∷ j)
semicolon_ends j e = apart (λ b. b == 59) (codes ";") (codes "[") refl refl e

sign_ends : (w : Word) (i j : List Word) → begins (λ b. b == 91) w ≡ false → i ≡ w ∷ j → EndsAtom i
sign_ends w i j h e f = apart (λ b. b == 91) (codes "[") w refl h (sym f ∙ ap first e)

concat_shape : (atoms : List Atom) (i j : List Word) → SeparatedTwo (Takes (codes ",")) SpellsAtom atoms i j → shape_of (codes "{" ∷ i) ≡ 2
unfolding shape_of shape_by
concat_shape [] i j h = absurd h
concat_shape (a ∷ []) i j h = absurd h
concat_shape (a ∷ b ∷ more) i j (l, p, (m, (t, e, q), r)) = rw (unequal (first (drop 1 i)) (codes "{") (inside_list a i t (subst (λ (z : List Word). SpellsAtom a i z) e p))) refl

value_shape : (e : Value) (i j : List Word) → SpellsValue e i (codes ";" ∷ j) → shape_of i ≡ shape e
unfolding shape_of shape_by shape
value_shape (Plain a) i j h = atom_shape a i (codes ";" ∷ j) h (semicolon_ends j)
value_shape (Invert a) i j (t, e, h) = ap shape_of e
value_shape (Binary a op b) i j (t, p, (u, o, q)) = atom_shape a i t p (operator_ends op t u o)
value_shape (Choose c a b) i j (t, p, (u, o, q)) = atom_shape c i t p (sign_ends (codes "?") t u refl o)
value_shape (Concat atoms) i j (t, e, (u, p, f)) = ap shape_of e ∙ concat_shape atoms t u p
value_shape (Repeat n a) i j (t, e, (u, (w, p, f), (v, g, more))) = ap shape_of (e ∙ ap (λ l. codes "{" ∷ l) (f ∙ ap (λ l. w ∷ l) g))
value_shape (Cell m x) i j (t, (n, e), (u, f, (v, (k, g), h))) =
    ap shape_of (e ∙ ap (λ l. m ∷ l) (f ∙ ap (λ l. codes "[" ∷ l) g)) ∙ headed m (codes "[") x true (name_no_tilde m n) (name_no_brace m n) k

-- ---- values

question_ends : (i j : List Word) → i ≡ codes "?" ∷ j → EndsAtom i
question_ends i j e = sign_ends (codes "?") i j refl e

semicolon_no_question : (i j k : List Word) → i ≡ codes ";" ∷ j → i ≡ codes "?" ∷ k → ⊥
semicolon_no_question i j k e f = apart (λ b. b == 59) (codes ";") (codes "?") refl refl (same_first (codes ";") (codes "?") i j k e f)

brace_no_comma : codes "}" ≡ codes "," → ⊥
brace_no_comma e = apart (λ b. b == 125) (codes "}") (codes ",") refl refl e

pub moved_atom : (a : Atom) (i i1 j : List Word) → i ≡ i1 → SpellsAtom a i1 j → SpellsAtom a i j
moved_atom a i i1 j e h = subst (λ (z : List Word). SpellsAtom a z j) (sym e) h

by_shape : (e f : Value) (i j k : List Word) → SpellsValue e i (codes ";" ∷ j) → SpellsValue f i (codes ";" ∷ k) → shape e ≡ shape f → (e ≡ f) × (j ≡ k)
unfolding shape
by_shape (Plain a) (Plain b) i j k p q s = let n = one_atom a b i (codes ";" ∷ j) (codes ";" ∷ k) (semicolon_ends j) (semicolon_ends k) p q in (ap Plain n.0, ap (drop 1) n.1)
by_shape (Plain a) (Binary b op c) i j k p (t, q, (u, o, r)) s =
    absurd (operator_no op t u j (codes ";") o refl (sym (one_atom a b i (codes ";" ∷ j) t (semicolon_ends j) (operator_ends op t u o) p q).1))
by_shape (Binary b op c) (Plain a) i j k (t, q, (u, o, r)) p s =
    absurd (operator_no op t u k (codes ";") o refl (one_atom b a i t (codes ";" ∷ k) (operator_ends op t u o) (semicolon_ends k) q p).1)
by_shape (Plain a) (Choose c b d) i j k p (t, q, (u, o, r)) s =
    absurd (semicolon_no_question t j u (sym (one_atom a c i (codes ";" ∷ j) t (semicolon_ends j) (question_ends t u o) p q).1) o)
by_shape (Choose c b d) (Plain a) i j k (t, q, (u, o, r)) p s =
    absurd (semicolon_no_question t k u (one_atom c a i t (codes ";" ∷ k) (question_ends t u o) (semicolon_ends k) q p).1 o)
by_shape (Binary a op b) (Choose c d e) i j k (t, p, (u, o, r)) (v, q, (w, f, g)) s =
    absurd (operator_no op t u w (codes "?") o refl ((one_atom a c i t v (operator_ends op t u o) (question_ends v w f) p q).1 ∙ f))
by_shape (Choose c d e) (Binary a op b) i j k (v, q, (w, f, g)) (t, p, (u, o, r)) s =
    absurd (operator_no op t u w (codes "?") o refl (sym (one_atom c a i v t (question_ends v w f) (operator_ends op t u o) q p).1 ∙ f))
by_shape (Binary a op b) (Binary c oq d) i j k (t, p, (u, o, r)) (t1, p1, (u1, o1, r1)) s =
    let n = one_atom a c i t t1 (operator_ends op t u o) (operator_ends oq t1 u1 o1) p p1 in
    let m = one_operator op oq t u u1 o (subst (λ (z : List Word). SpellsOperator oq z u1) (sym n.1) o1) in
    let l = one_atom b d u (codes ";" ∷ j) (codes ";" ∷ k) (semicolon_ends j) (semicolon_ends k) r (moved_atom d u u1 (codes ";" ∷ k) m.1 r1) in
    let ea = n.0 in let eo = m.0 in let eb = l.0 in (cc, ap (drop 1) l.1)
by_shape (Choose a b c) (Choose a1 b1 c1) i j k (t, p, (u, e, (v, q, (w, f, r)))) (t1, p1, (u1, e1, (v1, q1, (w1, f1, r1)))) s =
    let n = one_atom a a1 i t t1 (question_ends t u e) (question_ends t1 u1 e1) p p1 in
    let eu = same_rest (codes "?") (codes "?") t u u1 e (n.1 ∙ e1) in
    let m = one_atom b b1 u v v1 (sign_ends (codes ":") v w refl f) (sign_ends (codes ":") v1 w1 refl f1) q (moved_atom b1 u u1 v1 eu q1) in
    let ew = same_rest (codes ":") (codes ":") v w w1 f (m.1 ∙ f1) in
    let l = one_atom c c1 w (codes ";" ∷ j) (codes ";" ∷ k) (semicolon_ends j) (semicolon_ends k) r (moved_atom c1 w w1 (codes ";" ∷ k) ew r1) in
    let ea = n.0 in let eb = m.0 in let ec = l.0 in (cc, ap (drop 1) l.1)
by_shape (Invert a) (Invert b) i j k (t, e, p) (u, f, q) s =
    let et = same_rest (codes "~") (codes "~") i t u e f in
    let n = one_atom a b t (codes ";" ∷ j) (codes ";" ∷ k) (semicolon_ends j) (semicolon_ends k) p (moved_atom b t u (codes ";" ∷ k) et q) in (ap Invert n.0, ap (drop 1) n.1)
by_shape (Repeat n a) (Repeat m b) i j k (t, e, (u, p, (v, f, (w, q, (x, c, d))))) (t1, e1, (u1, p1, (v1, f1, (w1, q1, (x1, c1, d1))))) s =
    let et = same_rest (codes "{") (codes "{") i t t1 e e1 in
    let l = one_number n m t u u1 p (subst (λ (z : List Word). SpellsNumber m z u1) (sym et) p1) in
    let ev = same_rest (codes "{") (codes "{") u v v1 f (l.1 ∙ f1) in
    let o = one_atom a b v w w1 (sign_ends (codes "}") w x refl c) (sign_ends (codes "}") w1 x1 refl c1) q (moved_atom b v v1 w1 ev q1) in
    let ex = same_rest (codes "}") (codes "}") w x x1 c (o.1 ∙ c1) in
    let ej = same_rest (codes "}") (codes "}") x (codes ";" ∷ j) (codes ";" ∷ k) d (ex ∙ d1) in
    let en = l.0 in let ea = o.0 in (cc, ap (drop 1) ej)
by_shape (Concat xs) (Concat ys) i j k (t, e, (u, p, f)) (t1, e1, (u1, p1, f1)) s =
    let et = same_rest (codes "{") (codes "{") i t t1 e e1 in
    let h = subst (λ (z : List Word). Separated (Takes (codes ",")) SpellsAtom xs t z) f (two_is SpellsAtom xs t u p) in
    let g = subst (λ (z : List Word). Separated (Takes (codes ",")) SpellsAtom ys z (codes "}" ∷ codes ";" ∷ k)) (sym et) (subst (λ (z : List Word). Separated (Takes (codes ",")) SpellsAtom ys t1 z) f1 (two_is SpellsAtom ys t1 u1 p1)) in
    let n = one_separated SpellsAtom EndsAtom one_atom (codes "}") (λ r. sign_ends (codes ",") (codes "," ∷ r) r refl refl) (λ r. sign_ends (codes "}") (codes "}" ∷ r) r refl refl) brace_no_comma xs ys t (codes ";" ∷ j) (codes ";" ∷ k) h g in
    (ap Concat n.0, ap (drop 1) n.1)
by_shape (Cell m x) (Cell n y) i j k (t, p, (u, f, (v, q, g))) (t1, p1, (u1, f1, (v1, q1, g1))) s =
    let l = one_name m n i t t1 p p1 in
    let eu = same_rest (codes "[") (codes "[") t u u1 f (l.1 ∙ f1) in
    let o = one_name x y u v v1 q (subst (λ (z : List Word). SpellsName y z v1) (sym eu) q1) in
    let ej = same_rest (codes "]") (codes "]") v (codes ";" ∷ j) (codes ";" ∷ k) g (o.1 ∙ g1) in
    let em = l.0 in let ex = o.0 in (cc, ap (drop 1) ej)
by_shape e f i j k h g s = absurd (omega (arith, s))

pub one_value : (e f : Value) (i j k : List Word) → SpellsValue e i (codes ";" ∷ j) → SpellsValue f i (codes ";" ∷ k) → (e ≡ f) × (j ≡ k)
one_value e f i j k h g = by_shape e f i j k h g (sym (value_shape e i j h) ∙ value_shape f i k g)
