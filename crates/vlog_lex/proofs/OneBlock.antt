-- Blocks: no words spell two.
use Rattle.std.proofs.Common.{◌≡◌, ℕ, ◌==◌, Bool, true, false, if◌then◌else◌, List, [], ◌∷◌, codes, bytes_eq, drop, refl, sym, ap, subst, ◌∙◌, arith}
use Rattle.vlog_tree.specs.declared.tree.Step.{Step}
use Rattle.vlog_tree.specs.declared.tree.Step.TheVariants.{If, Else, End, NonblockingAssign, MemoryAssign}
use Rattle.vlog_tree.specs.Form.{nested}
use Rattle.vlog_tree.specs.Names.{IsName, is_name, is_keyword, starts_name, goes_on, always_to_default, defparam_to_event, for_to_input, instance_to_not, notif0_to_real, realtime_to_strong0, strong1_to_unsigned, use_to_xor}
use Rattle.vlog_tree.specs.Spelling.{Word}
use Rattle.tapa_base.specs.Spans.{Each}
use Rattle.tapa_base.specs.Gaps.{begins}
use Rattle.vlog_lex.specs.Grammar.{SpellsName, SpellsAtom, SpellsBlock}
use Rattle.vlog_lex.specs.Flat.{SpellsStep, SpellsFlatBlock}
use Rattle.vlog_lex.proofs.Flattened.{flat_block}
use Rattle.vlog_lex.proofs.OneAtom.{first, apart, names_no_keyword, same_first, same_rest, one_name, one_atom}
use Rattle.vlog_lex.proofs.OneValue.{semicolon_ends, moved_atom, unequal}

-- ---- keywords

-- a keyword that a name may not be
abbrev pub NoName : Word → Type 0
NoName w = is_name w ≡ false

pub record Keywords : Type 0 where
  pub no_if : NoName (codes "if")
  pub no_else : NoName (codes "else")
  pub no_end : NoName (codes "end")
  pub no_wire : NoName (codes "wire")
  pub no_reg : NoName (codes "reg")
  pub no_assign : NoName (codes "assign")
  pub no_always : NoName (codes "always")
  pub no_endmodule : NoName (codes "endmodule")

pub keywords : Keywords
unfolding is_keyword starts_name goes_on always_to_default defparam_to_event for_to_input instance_to_not notif0_to_real realtime_to_strong0 strong1_to_unsigned use_to_xor
keywords = record { no_if = refl; no_else = refl; no_end = refl; no_wire = refl; no_reg = refl; no_assign = refl; no_always = refl; no_endmodule = refl }

-- a name in front of words is no such word
pub named_no : (x : List ℕ) (w : Word) (i j k : List Word) → NoName w → SpellsName x i j → i ≡ w ∷ k → ⊥
named_no x w i j k h (n, e) f = names_no_keyword x w n h (same_first x w i j k e f)

pub moved_name : (x : List ℕ) (i i1 j : List Word) → i ≡ i1 → SpellsName x i1 j → SpellsName x i j
moved_name x i i1 j e h = subst (λ (z : List Word). SpellsName x z j) (sym e) h

pub differ : (class : ℕ → Bool) (v w : Word) (i j k : List Word) → begins class v ≡ true → begins class w ≡ false → i ≡ v ∷ j → i ≡ w ∷ k → ⊥
differ class v w i j k a b e f = apart class v w a b (same_first v w i j k e f)

-- ---- steps

abbrev NoElse : List Word → Type 0
NoElse i = first i ≡ codes "else" → ⊥

begins_e : (w : Word) → begins (λ b. b == 101) w ≡ false → w ≡ codes "else" → ⊥
begins_e w h e = apart (λ b. b == 101) (codes "else") w refl h (sym e)

end_no_else : codes "end" ≡ codes "else" → ⊥
end_no_else e = let f : 110 ≡ 108 = ap (λ (l : Word). first_of (drop 1 l)) e in absurd (omega (arith, f))
  where
    first_of : Word → ℕ
    first_of [] = 0
    first_of (b ∷ z) = b

named_no_else : (x : List ℕ) (i j : List Word) → SpellsName x i j → NoElse i
named_no_else x i j (n, e) f = names_no_keyword x (codes "else") n keywords.no_else (sym (ap first e) ∙ f)

steps_no_else : (xs : List Step) (i j : List Word) → Each SpellsStep xs i (codes "end" ∷ j) → NoElse i
steps_no_else [] i j e f = end_no_else (sym (ap first e) ∙ f)
steps_no_else (If c ∷ xs) i j (t, (u, (v, e, h), g), m) f = begins_e (codes "if") refl (sym (ap first e) ∙ f)
steps_no_else (Else ∷ xs) i j (t, (u, e, h), m) f = end_no_else (sym (ap first e) ∙ f)
steps_no_else (End ∷ xs) i j (t, e, m) f = end_no_else (sym (ap first e) ∙ f)
steps_no_else (NonblockingAssign x a ∷ xs) i j (t, (u, n, h), m) f = named_no_else x i u n f
steps_no_else (MemoryAssign y x a ∷ xs) i j (t, (u, n, h), m) f = named_no_else y i u n f

shape_by : Word → Word → ℕ
shape_by u v =
    if bytes_eq u (codes "if") then 0
    else (if bytes_eq u (codes "end") then (if bytes_eq v (codes "else") then 1 else 2)
    else (if bytes_eq v (codes "[") then 4 else 3))

shape_of : List Word → ℕ
shape_of i = shape_by (first i) (first (drop 1 i))

shape : Step → ℕ
shape (If c) = 0
shape Else = 1
shape End = 2
shape (NonblockingAssign x a) = 3
shape (MemoryAssign m x a) = 4

named_shape : (x : List ℕ) (w : Word) (b : Bool) → IsName x → bytes_eq w (codes "[") ≡ b → shape_by x w ≡ (if b then 4 else 3)
unfolding shape_by
named_shape x w b n e = rw (unequal x (codes "if") (names_no_keyword x (codes "if") n keywords.no_if), unequal x (codes "end") (names_no_keyword x (codes "end") n keywords.no_end), e) refl

step_shape : (x : Step) (i j : List Word) → NoElse j → SpellsStep x i j → shape_of i ≡ shape x
unfolding shape_of shape_by shape
step_shape (If c) i j none (t, (u, e, h), g) = ap shape_of e
step_shape Else i j none (t, e, (u, f, g)) = ap shape_of (e ∙ ap (λ l. codes "end" ∷ l) f)
step_shape End i j none e = ap shape_of e ∙ rw (unequal (first j) (codes "else") none) refl
step_shape (NonblockingAssign x a) i j none (t, (n, e), (u, f, g)) = ap shape_of (e ∙ ap (λ l. x ∷ l) f) ∙ named_shape x (codes "<=") false n refl
step_shape (MemoryAssign m x a) i j none (t, (n, e), (u, f, g)) = ap shape_of (e ∙ ap (λ l. m ∷ l) f) ∙ named_shape m (codes "[") true n refl

by_shape : (x y : Step) (i j k : List Word) → SpellsStep x i j → SpellsStep y i k → shape x ≡ shape y → (x ≡ y) × (j ≡ k)
unfolding shape
by_shape (If c) (If d) i j k (t, (u, e, (v, f, (w, n, g))), h) (t1, (u1, e1, (v1, f1, (w1, n1, g1))), h1) s =
    let eu = same_rest (codes "if") (codes "if") i u u1 e e1 in
    let ev = same_rest (codes "(") (codes "(") u v v1 f (eu ∙ f1) in
    let l = one_name c d v w w1 n (moved_name d v v1 w1 ev n1) in
    let et = same_rest (codes ")") (codes ")") w t t1 g (l.1 ∙ g1) in
    (ap If l.0, same_rest (codes "begin") (codes "begin") t j k h (et ∙ h1))
by_shape Else Else i j k (t, e, (u, f, g)) (t1, e1, (u1, f1, g1)) s =
    let et = same_rest (codes "end") (codes "end") i t t1 e e1 in
    let eu = same_rest (codes "else") (codes "else") t u u1 f (et ∙ f1) in
    (refl, same_rest (codes "begin") (codes "begin") u j k g (eu ∙ g1))
by_shape End End i j k e f s = (refl, same_rest (codes "end") (codes "end") i j k e f)
by_shape (NonblockingAssign x a) (NonblockingAssign y b) i j k (t, n, (u, e, (v, p, f))) (t1, n1, (u1, e1, (v1, p1, f1))) s =
    let l = one_name x y i t t1 n n1 in
    let eu = same_rest (codes "<=") (codes "<=") t u u1 e (l.1 ∙ e1) in
    let o = one_atom a b u (codes ";" ∷ j) (codes ";" ∷ k) (semicolon_ends j) (semicolon_ends k) (subst (SpellsAtom a u) f p) (moved_atom b u u1 (codes ";" ∷ k) eu (subst (SpellsAtom b u1) f1 p1)) in
    let ex = l.0 in let ea = o.0 in (cc, ap (drop 1) o.1)
by_shape (MemoryAssign m x a) (MemoryAssign n y b) i j k (t, p, (u, e, (v, q, (w, f, (z, g, (c, r, h)))))) (t1, p1, (u1, e1, (v1, q1, (w1, f1, (z1, g1, (c1, r1, h1)))))) s =
    let l = one_name m n i t t1 p p1 in
    let eu = same_rest (codes "[") (codes "[") t u u1 e (l.1 ∙ e1) in
    let d = one_name x y u v v1 q (moved_name y u u1 v1 eu q1) in
    let ew = same_rest (codes "]") (codes "]") v w w1 f (d.1 ∙ f1) in
    let ez = same_rest (codes "<=") (codes "<=") w z z1 g (ew ∙ g1) in
    let o = one_atom a b z (codes ";" ∷ j) (codes ";" ∷ k) (semicolon_ends j) (semicolon_ends k) (subst (SpellsAtom a z) h r) (moved_atom b z z1 (codes ";" ∷ k) ez (subst (SpellsAtom b z1) h1 r1)) in
    let em = l.0 in let ex = d.0 in let ea = o.0 in (cc, ap (drop 1) o.1)
by_shape x y i j k h g s = absurd (omega (arith, s))

-- the parts that are open behind a step
after : Step → List Bool → List Bool
after (If c) parts = false ∷ parts
after Else (b ∷ parts) = true ∷ parts
after End (b ∷ parts) = parts
after _ parts = parts

nested_after : (x : Step) (xs : List Step) (parts : List Bool) → nested parts (x ∷ xs) ≡ true → nested (after x parts) xs ≡ true
unfolding after
nested_after (If c) xs parts h = h
nested_after (NonblockingAssign y a) xs parts h = h
nested_after (MemoryAssign m y a) xs parts h = h
nested_after Else xs [] h = cc
nested_after Else xs (false ∷ parts) h = h
nested_after Else xs (true ∷ parts) h = cc
nested_after End xs [] h = cc
nested_after End xs (b ∷ parts) h = h

-- no step stands where a block ends
at_end : (y : Step) (ys : List Step) (i j k : List Word) → nested [] (y ∷ ys) ≡ true → i ≡ codes "end" ∷ j → SpellsStep y i k → ⊥
at_end (If c) ys i j k h e (t, (u, f, g), m) = differ (λ b. b == 105) (codes "if") (codes "end") i u j refl refl f e
at_end Else ys i j k h e g = cc
at_end End ys i j k h e g = cc
at_end (NonblockingAssign x a) ys i j k h e (t, n, g) = named_no x (codes "end") i t j keywords.no_end n e
at_end (MemoryAssign m x a) ys i j k h e (t, n, g) = named_no m (codes "end") i t j keywords.no_end n e

closed_none : (b : Bool) (parts : List Bool) → nested (b ∷ parts) [] ≡ true → ⊥
closed_none b parts h = cc

one_steps : (xs ys : List Step) (parts : List Bool) (i j k : List Word) → nested parts xs ≡ true → nested parts ys ≡ true → Each SpellsStep xs i (codes "end" ∷ j) → Each SpellsStep ys i (codes "end" ∷ k) → (xs ≡ ys) × (j ≡ k)
one_steps [] [] parts i j k h g e f = (refl, same_rest (codes "end") (codes "end") i j k e f)
one_steps [] (y ∷ ys) [] i j k h g e (t, p, m) = absurd (at_end y ys i j t g e p)
one_steps [] (y ∷ ys) (b ∷ parts) i j k h g e q = absurd (closed_none b parts h)
one_steps (x ∷ xs) [] [] i j k h g (t, p, m) e = absurd (at_end x xs i k t h e p)
one_steps (x ∷ xs) [] (b ∷ parts) i j k h g q e = absurd (closed_none b parts g)
one_steps (x ∷ xs) (y ∷ ys) parts i j k h g (t, p, m) (u, q, n) =
    let s = by_shape x y i t u p q (sym (step_shape x i t (steps_no_else xs t j m) p) ∙ step_shape y i u (steps_no_else ys u k n) q) in
    let g1 = subst (λ (z : Step). nested (after z parts) ys ≡ true) (sym s.0) (nested_after y ys parts g) in
    let r = one_steps xs ys (after x parts) t j k (nested_after x xs parts h) g1 m (subst (λ (z : List Word). Each SpellsStep ys z (codes "end" ∷ k)) (sym s.1) n) in
    let ex = s.0 in let exs = r.0 in (cc, r.1)

flat_one : (xs ys : List Step) (i j k : List Word) → SpellsFlatBlock xs i j → SpellsFlatBlock ys i k → (xs ≡ ys) × (j ≡ k)
flat_one xs ys i j k (h, (t, e, (u, m, f))) (g, (t1, e1, (u1, n, f1))) =
    let et = same_rest (codes "begin") (codes "begin") i t t1 e e1 in
    one_steps xs ys [] t j k h g (subst (Each SpellsStep xs t) f m) (subst (λ (z : List Word). Each SpellsStep ys z (codes "end" ∷ k)) (sym et) (subst (Each SpellsStep ys t1) f1 n))

pub one_block : (xs ys : List Step) (i j k : List Word) → SpellsBlock xs i j → SpellsBlock ys i k → (xs ≡ ys) × (j ≡ k)
one_block xs ys i j k h g = flat_one xs ys i j k (flat_block xs i j h) (flat_block ys i k g)
