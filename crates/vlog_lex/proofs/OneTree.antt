-- Items and modules: no words spell two, so no text has two trees.
use Rattle.std.proofs.Common.{◌≡◌, ℕ, ◌==◌, Bool, true, false, if◌then◌else◌, List, [], ◌∷◌, codes, bytes_eq, refl, sym, ap, subst, ◌∙◌, arith}
use Rattle.std.specs.Bool.{⊤}
use Rattle.vlog_tree.specs.declared.tree.Connection.{Connection}
use Rattle.vlog_tree.specs.declared.tree.Item.{Item}
use Rattle.vlog_tree.specs.declared.tree.Item.TheVariants.{Wire, Reg, Memory, Assign, Always, Instance}
use Rattle.vlog_tree.specs.declared.tree.Direction.{Direction}
use Rattle.vlog_tree.specs.declared.tree.Direction.TheVariants.{Input, Output}
use Rattle.vlog_tree.specs.declared.tree.PortDecl.{PortDecl}
use Rattle.vlog_tree.specs.Form.{ModuleTree, is_input}
use Rattle.vlog_tree.specs.Names.{IsName}
use Rattle.vlog_tree.specs.Spelling.{Word}
use Rattle.tapa_base.specs.Spans.{◌⨾◌, Each, Separated}
use Rattle.vlog_lex.specs.Spans.{Takes}
use Rattle.tapa_base.specs.Gaps.{Bytes}
use Rattle.vlog_lex.specs.Grammar.{SpellsName, SpellsLastOf, SpellsRange, SpellsValue, SpellsBlock, SpellsConnection, SpellsItem, SpellsPort, SpellsModule, SpellsDesign, HasTree}
use Rattle.vlog_lex.proofs.Cuts.{one_list}
use Rattle.vlog_lex.proofs.OneAtom.{first, apart, names_no_keyword, same_first, same_rest, one_name, one_last, one_range}
use Rattle.vlog_lex.proofs.OneValue.{one_separated, unequal, one_value}
use Rattle.vlog_lex.proofs.OneBlock.{keywords, named_no, moved_name, differ, one_block}

-- ---- connections and ports

same_connection : (l m : Connection) → l.port ≡ m.port → l.net ≡ m.net → l ≡ m
same_connection l m p q = λ i. record { port = p i; net = q i }

one_connection : (l m : Connection) (i j k : List Word) → ⊤ → ⊤ → SpellsConnection l i j → SpellsConnection m i k → (l ≡ m) × (j ≡ k)
one_connection l m i j k _ _ (t, e, (u, p, (v, f, (w, q, g)))) (t1, e1, (u1, p1, (v1, f1, (w1, q1, g1)))) =
    let et = same_rest (codes ".") (codes ".") i t t1 e e1 in
    let a = one_name l.port m.port t u u1 p (moved_name m.port t t1 u1 et p1) in
    let ev = same_rest (codes "(") (codes "(") u v v1 f (a.1 ∙ f1) in
    let b = one_name l.net m.net v w w1 q (moved_name m.net v v1 w1 ev q1) in
    (same_connection l m a.0 b.0, same_rest (codes ")") (codes ")") w j k g (b.1 ∙ g1))

paren_no_comma : codes ")" ≡ codes "," → ⊥
paren_no_comma e = apart (λ b. b == 41) (codes ")") (codes ",") refl refl e

same_port : (p q : PortDecl) → is_input p.direction ≡ is_input q.direction → p.width ≡ q.width → p.name ≡ q.name → p ≡ q
same_port p q a b c = λ i. record { direction = same_way p.direction q.direction a i; width = b i; name = c i } where
  same_way : (a b : Direction) → is_input a ≡ is_input b → a ≡ b
  same_way Input Input e = refl
  same_way Output Output e = refl
  same_way Input Output e = cc
  same_way Output Input e = cc

one_direction : (a b : Bool) → (if a then codes "input" else codes "output") ≡ (if b then codes "input" else codes "output") → a ≡ b
one_direction true true e = refl
one_direction false false e = refl
one_direction true false e = absurd (apart (λ b. b == 105) (codes "input") (codes "output") refl refl e)
one_direction false true e = absurd (apart (λ b. b == 105) (codes "input") (codes "output") refl refl (sym e))

one_port : (p q : PortDecl) (i j k : List Word) → ⊤ → ⊤ → SpellsPort p i j → SpellsPort q i k → (p ≡ q) × (j ≡ k)
one_port p q i j k _ _ (t, e, h) (t1, e1, g) =
    let et = same_rest (if is_input p.direction then codes "input" else codes "output") (if is_input q.direction then codes "input" else codes "output") i t t1 e e1 in
    let s = one_range p.width q.width p.name q.name t j k h (subst (λ (z : List Word). (SpellsRange q.width ⨾ SpellsName q.name) z k) (sym et) g) in
    (same_port p q (one_direction (is_input p.direction) (is_input q.direction) (same_first (if is_input p.direction then codes "input" else codes "output") (if is_input q.direction then codes "input" else codes "output") i t t1 e e1)) s.0 s.1, s.2)

-- ---- items, by the word that each begins with

shape_by : Word → ℕ
shape_by u =
    if bytes_eq u (codes "wire") then 0
    else (if bytes_eq u (codes "reg") then 1
    else (if bytes_eq u (codes "assign") then 2
    else (if bytes_eq u (codes "always") then 3 else 4)))

shape : Item → ℕ
shape (Wire bits x) = 0
shape (Reg bits x) = 1
shape (Memory bits x cells) = 1
shape (Assign x value) = 2
shape (Always steps) = 3
shape (Instance m x connections) = 4

named_shape : (x : List ℕ) → IsName x → shape_by x ≡ 4
unfolding shape_by
named_shape x n =
    rw (
      unequal x (codes "wire") (names_no_keyword x (codes "wire") n keywords.no_wire),
      unequal x (codes "reg") (names_no_keyword x (codes "reg") n keywords.no_reg),
      unequal x (codes "assign") (names_no_keyword x (codes "assign") n keywords.no_assign),
      unequal x (codes "always") (names_no_keyword x (codes "always") n keywords.no_always),
    ) refl

item_shape : (x : Item) (i j : List Word) → SpellsItem x i j → shape_by (first i) ≡ shape x
unfolding shape_by shape
item_shape (Wire bits x) i j (t, e, h) = ap (λ l. shape_by (first l)) e
item_shape (Reg bits x) i j (t, e, h) = ap (λ l. shape_by (first l)) e
item_shape (Memory bits x cells) i j (t, e, h) = ap (λ l. shape_by (first l)) e
item_shape (Assign x value) i j (t, e, h) = ap (λ l. shape_by (first l)) e
item_shape (Always steps) i j (t, e, h) = ap (λ l. shape_by (first l)) e
item_shape (Instance m x connections) i j (t, (n, e), h) = ap (λ l. shape_by (first l)) e ∙ named_shape m n

-- a range and a name behind the same word
declared : (w : Word) (a b : ℕ) (x y : List ℕ) (i t u v t1 u1 v1 : List Word) → i ≡ w ∷ t → SpellsRange a t u → SpellsName x u v → i ≡ w ∷ t1 → SpellsRange b t1 u1 → SpellsName y u1 v1 → (a ≡ b) × (x ≡ y) × (v ≡ v1)
declared w a b x y i t u v t1 u1 v1 e r n e1 r1 n1 =
    one_range a b x y t v v1 (u, r, n) (subst (λ (z : List Word). (SpellsRange b ⨾ SpellsName y) z v1) (sym (same_rest w w i t t1 e e1)) (u1, r1, n1))

semicolon_no_bracket : (i j k : List Word) → i ≡ codes ";" ∷ j → i ≡ codes "[" ∷ k → ⊥
semicolon_no_bracket i j k e f = differ (λ b. b == 59) (codes ";") (codes "[") i j k refl refl e f

by_shape : (x y : Item) (i j k : List Word) → SpellsItem x i j → SpellsItem y i k → shape x ≡ shape y → (x ≡ y) × (j ≡ k)
unfolding shape
by_shape (Wire a x) (Wire b y) i j k (t, e, (u, r, (v, n, f))) (t1, e1, (u1, r1, (v1, n1, f1))) s =
    let d = declared (codes "wire") a b x y i t u v t1 u1 v1 e r n e1 r1 n1 in let ea = d.0 in let ex = d.1 in (cc, same_rest (codes ";") (codes ";") v j k f (d.2 ∙ f1))
by_shape (Reg a x) (Reg b y) i j k (t, e, (u, r, (v, n, f))) (t1, e1, (u1, r1, (v1, n1, f1))) s =
    let d = declared (codes "reg") a b x y i t u v t1 u1 v1 e r n e1 r1 n1 in let ea = d.0 in let ex = d.1 in (cc, same_rest (codes ";") (codes ";") v j k f (d.2 ∙ f1))
by_shape (Reg a x) (Memory b y cells) i j k (t, e, (u, r, (v, n, f))) (t1, e1, (u1, r1, (v1, n1, (w1, f1, h1)))) s =
    absurd (semicolon_no_bracket v j w1 f ((declared (codes "reg") a b x y i t u v t1 u1 v1 e r n e1 r1 n1).2 ∙ f1))
by_shape (Memory b y cells) (Reg a x) i j k (t1, e1, (u1, r1, (v1, n1, (w1, f1, h1)))) (t, e, (u, r, (v, n, f))) s =
    absurd (semicolon_no_bracket v k w1 f ((declared (codes "reg") a b x y i t u v t1 u1 v1 e r n e1 r1 n1).2 ∙ f1))
by_shape (Memory a x c) (Memory b y d) i j k (t, e, (u, r, (v, n, (w, f, (z, g, (l, h, (o, p, (q, m, end)))))))) (t1, e1, (u1, r1, (v1, n1, (w1, f1, (z1, g1, (l1, h1, (o1, p1, (q1, m1, end1)))))))) s =
    let s1 = declared (codes "reg") a b x y i t u v t1 u1 v1 e r n e1 r1 n1 in
    let ew = same_rest (codes "[") (codes "[") v w w1 f (s1.2 ∙ f1) in
    let ez = same_rest (codes "0") (codes "0") w z z1 g (ew ∙ g1) in
    let el = same_rest (codes ":") (codes ":") z l l1 h (ez ∙ h1) in
    let s2 = one_last c d l o o1 p (subst (λ (r : List Word). SpellsLastOf d r o1) (sym el) p1) in
    let eq = same_rest (codes "]") (codes "]") o q q1 m (s2.1 ∙ m1) in
    let ea = s1.0 in let ex = s1.1 in let ec = s2.0 in (cc, same_rest (codes ";") (codes ";") q j k end (eq ∙ end1))
by_shape (Assign x a) (Assign y b) i j k (t, e, (u, n, (v, f, (w, p, g)))) (t1, e1, (u1, n1, (v1, f1, (w1, p1, g1)))) s =
    let et = same_rest (codes "assign") (codes "assign") i t t1 e e1 in
    let l = one_name x y t u u1 n (moved_name y t t1 u1 et n1) in
    let ev = same_rest (codes "=") (codes "=") u v v1 f (l.1 ∙ f1) in
    let o = one_value a b v j k (subst (SpellsValue a v) g p) (subst (λ (z : List Word). SpellsValue b z (codes ";" ∷ k)) (sym ev) (subst (SpellsValue b v1) g1 p1)) in
    let ex = l.0 in let ea = o.0 in (cc, o.1)
by_shape (Always xs) (Always ys) i j k (t, e, (u, f, (v, g, (w, h, (z, l, (o, m, b)))))) (t1, e1, (u1, f1, (v1, g1, (w1, h1, (z1, l1, (o1, m1, b1)))))) s =
    let et = same_rest (codes "always") (codes "always") i t t1 e e1 in
    let eu = same_rest (codes "@") (codes "@") t u u1 f (et ∙ f1) in
    let ev = same_rest (codes "(") (codes "(") u v v1 g (eu ∙ g1) in
    let ew = same_rest (codes "posedge") (codes "posedge") v w w1 h (ev ∙ h1) in
    let ez = same_rest (codes "clk") (codes "clk") w z z1 l (ew ∙ l1) in
    let eo = same_rest (codes ")") (codes ")") z o o1 m (ez ∙ m1) in
    let r = one_block xs ys o j k b (subst (λ (a : List Word). SpellsBlock ys a k) (sym eo) b1) in
    (ap Always r.0, r.1)
by_shape (Instance m x ls) (Instance n y ms) i j k (t, p, (u, q, (v, f, (w, r, (z, g, h))))) (t1, p1, (u1, q1, (v1, f1, (w1, r1, (z1, g1, h1))))) s =
    let l = one_name m n i t t1 p p1 in
    let o = one_name x y t u u1 q (moved_name y t t1 u1 l.1 q1) in
    let ev = same_rest (codes "(") (codes "(") u v v1 f (o.1 ∙ f1) in
    let a = subst (Separated (Takes (codes ",")) SpellsConnection ls v) g r in
    let b = subst (λ (c : List Word). Separated (Takes (codes ",")) SpellsConnection ms c (codes ")" ∷ z1)) (sym ev) (subst (Separated (Takes (codes ",")) SpellsConnection ms v1) g1 r1) in
    let d = one_separated SpellsConnection (λ _. ⊤) one_connection (codes ")") (λ _. tt) (λ _. tt) paren_no_comma ls ms v z z1 a b in
    let em = l.0 in let ex = o.0 in let els = d.0 in (cc, same_rest (codes ";") (codes ";") z j k h (d.1 ∙ h1))
by_shape x y i j k h g s = absurd (omega (arith, s))

one_item : (x y : Item) (i j k : List Word) → SpellsItem x i j → SpellsItem y i k → (x ≡ y) × (j ≡ k)
one_item x y i j k h g = by_shape x y i j k h g (sym (item_shape x i j h) ∙ item_shape y i k g)

-- no item begins where a module ends
item_no_end : (x : Item) (i j k : List Word) → SpellsItem x i j → i ≡ codes "endmodule" ∷ k → ⊥
item_no_end (Wire bits x) i j k (t, e, h) f = differ (λ b. b == 119) (codes "wire") (codes "endmodule") i t k refl refl e f
item_no_end (Reg bits x) i j k (t, e, h) f = differ (λ b. b == 114) (codes "reg") (codes "endmodule") i t k refl refl e f
item_no_end (Memory bits x cells) i j k (t, e, h) f = differ (λ b. b == 114) (codes "reg") (codes "endmodule") i t k refl refl e f
item_no_end (Assign x value) i j k (t, e, h) f = differ (λ b. b == 97) (codes "assign") (codes "endmodule") i t k refl refl e f
item_no_end (Always steps) i j k (t, e, h) f = differ (λ b. b == 97) (codes "always") (codes "endmodule") i t k refl refl e f
item_no_end (Instance m x connections) i j k (t, n, h) f = named_no m (codes "endmodule") i t k keywords.no_endmodule n f

one_items : (xs ys : List Item) (i j k : List Word) → Each SpellsItem xs i (codes "endmodule" ∷ j) → Each SpellsItem ys i (codes "endmodule" ∷ k) → (xs ≡ ys) × (j ≡ k)
one_items [] [] i j k e f = (refl, same_rest (codes "endmodule") (codes "endmodule") i j k e f)
one_items [] (y ∷ ys) i j k e (t, p, m) = absurd (item_no_end y i t j p e)
one_items (x ∷ xs) [] i j k (t, p, m) e = absurd (item_no_end x i t k p e)
one_items (x ∷ xs) (y ∷ ys) i j k (t, p, m) (u, q, n) =
    let s = one_item x y i t u p q in
    let r = one_items xs ys t j k m (subst (λ (z : List Word). Each SpellsItem ys z (codes "endmodule" ∷ k)) (sym s.1) n) in
    let ex = s.0 in let exs = r.0 in (cc, r.1)

-- ---- modules

same_module : (m n : ModuleTree) → m.name ≡ n.name → m.ports ≡ n.ports → m.items ≡ n.items → m ≡ n
same_module m n a b c = λ i. record { name = a i; ports = b i; items = c i }

one_module : (m n : ModuleTree) (i j k : List Word) → SpellsModule m i j → SpellsModule n i k → (m ≡ n) × (j ≡ k)
one_module m n i j k (t, e, (u, p, (v, f, (w, q, (z, g, (l, h, (o, r, end))))))) (t1, e1, (u1, p1, (v1, f1, (w1, q1, (z1, g1, (l1, h1, (o1, r1, end1))))))) =
    let et = same_rest (codes "module") (codes "module") i t t1 e e1 in
    let a = one_name m.name n.name t u u1 p (moved_name n.name t t1 u1 et p1) in
    let ev = same_rest (codes "(") (codes "(") u v v1 f (a.1 ∙ f1) in
    let ports = subst (Separated (Takes (codes ",")) SpellsPort m.ports v) g q in
    let others = subst (λ (c : List Word). Separated (Takes (codes ",")) SpellsPort n.ports c (codes ")" ∷ z1)) (sym ev) (subst (Separated (Takes (codes ",")) SpellsPort n.ports v1) g1 q1) in
    let b = one_separated SpellsPort (λ _. ⊤) one_port (codes ")") (λ _. tt) (λ _. tt) paren_no_comma m.ports n.ports v z z1 ports others in
    let el = same_rest (codes ";") (codes ";") z l l1 h (b.1 ∙ h1) in
    let items = subst (λ (c : List Word). Each SpellsItem n.items c (codes "endmodule" ∷ k)) (sym el) (subst (Each SpellsItem n.items l1) end1 r1) in
    let c = one_items m.items n.items l j k (subst (Each SpellsItem m.items l) end r) items in
    (same_module m n a.0 b.0 c.0, c.1)

one_design : (ms ns : List ModuleTree) (i : List Word) → Each SpellsModule ms i [] → Each SpellsModule ns i [] → ms ≡ ns
one_design [] [] i e f = refl
one_design [] (n ∷ ns) i e (t, (u, f, h), more) = let g : [] ≡ codes "module" ∷ u = sym e ∙ f in absurd cc
one_design (m ∷ ms) [] i (t, (u, f, h), more) e = let g : [] ≡ codes "module" ∷ u = sym e ∙ f in absurd cc
one_design (m ∷ ms) (n ∷ ns) i (t, p, h) (u, q, g) =
    let s = one_module m n i t u p q in
    let r = one_design ms ns t h (subst (λ (z : List Word). Each SpellsModule ns z []) (sym s.1) g) in
    let e = s.0 in cc

one_spelled : (ms ns : List ModuleTree) (i : List Word) → SpellsDesign ms i → SpellsDesign ns i → ms ≡ ns
one_spelled [] ns i h g = absurd h
one_spelled (m ∷ ms) [] i h g = absurd g
one_spelled (m ∷ ms) (n ∷ ns) i h g = one_design (m ∷ ms) (n ∷ ns) i h g

pub one_tree : (text : Bytes) (ms ns : List ModuleTree) → HasTree text ms → HasTree text ns → ms ≡ ns
one_tree text ms ns (i, h, p) (k, g, q) = one_spelled ms ns i p (subst (SpellsDesign ns) (sym (one_list text i k h g)) q)
