-- Blocks that open and end.
use Rattle.std.proofs.Common.{◌≡◌, ℕ, ◌<◌, List, [], ◌∷◌, ◌++◌, length, Bool, true, append_assoc, refl, sym, ap, subst, ◌∙◌, arith, length-append}
use Rattle.tapa_base.specs.declared.kind.Kind.{Kind}
use Rattle.tapa_syntax.specs.Trees as tree
use Rattle.tapa_syntax.specs.Trees.{DeclaratorTree, StartTree, HeadTree, StatementTree, Statements}
use Rattle.tapa_syntax.specs.Flat as flat
use Rattle.tapa_syntax.specs.Flat.{FlatExpression, FlatStatement, in_row}
use Rattle.check_leaf.specs.Views.{HeadPart, Part}
use Rattle.check_leaf.proofs.Pushed.{parts}
use Rattle.check_scope.specs.declared.fault.Broken.{Broken}
use Rattle.check_scope.specs.declared.entity.Entity.{Entity}
use Rattle.check_scope.specs.Scopes.{Block, Scope, declaring}
use Rattle.check_leaf.specs.Statements.{Frame, head_faults, statement_faults, start_code, test_of, next_code, code_of, opened, closed, after_declarator, after_declarators, after_start, in_head, after, after_all}
use Rattle.check_scope.proofs.Scopes.{declaring-last}

-- the innermost block of a frame lies within these
pub record IsWithin (E : Scope) (f : Frame) : Type 0 where
  pub block : Block
  pub is : f.scope ≡ E ++ block ∷ []

declared_within : (E : Scope) (f g : Frame) (x : List ℕ) (s : Entity) → g.scope ≡ declaring x s f.scope → IsWithin E f → IsWithin E g
declared_within E f g x s e t = record { block = t.block ++ (x, s) ∷ []; is = e ∙ ap (declaring x s) t.is ∙ declaring-last x s E t.block }

declarator_within : (E : Scope) (free : Bool) (k : Kind) (f : Frame) (d : DeclaratorTree) → IsWithin E f → IsWithin E (after_declarator free k f d)
declarator_within E free k f (tree.plain x) t = declared_within E f _ x.text _ refl t
declarator_within E free k f (tree.initialized x e) t = declared_within E f _ x.text _ refl t
declarator_within E free k f (tree.array x count) t = declared_within E f _ x.text _ refl t

declarators_within : (E : Scope) (free : Bool) (k : Kind) (f : Frame) (ds : List DeclaratorTree) → IsWithin E f → IsWithin E (after_declarators free k f ds)
declarators_within E free k f [] t = t
declarators_within E free k f (d ∷ rest) t = declarators_within E free k (after_declarator free k f d) rest (declarator_within E free k f d t)

pub start_within : (E : Scope) (f : Frame) (s : StartTree) → IsWithin E f → IsWithin E (after_start f s)
start_within E f tree.no_start t = t
start_within E f (tree.declare_start d) t = declarators_within E _ d.kind f d.names t
start_within E f (tree.act_start a) t = t

pub after_within : (E : Scope) (f : Frame) (s : StatementTree) → IsWithin E f → IsWithin E (after f s)
after_within E f (tree.attributed attributes s) t = after_within E f s t
after_within E f tree.empty t = t
after_within E f (tree.block ss) t = record { block = t.block; is = t.is }
after_within E f (tree.declare d) t = declarators_within E _ d.kind f d.names t
after_within E f (tree.act a) t = t
after_within E f (tree.if_only c s) t = record { block = t.block; is = t.is }
after_within E f (tree.if_else c s u) t = record { block = t.block; is = t.is }
after_within E f (tree.while c s) t = record { block = t.block; is = t.is }
after_within E f (tree.for head s) t = record { block = t.block; is = t.is }
after_within E f (tree.while_not_eot stream s) t = record { block = t.block; is = t.is }
after_within E f (tree.break at) t = t
after_within E f (tree.continue at) t = t

pub all_within : (E : Scope) (f : Frame) (ss : Statements) → IsWithin E f → IsWithin E (after_all f ss)
all_within E f tree.no_statement t = t
all_within E f (tree.statement_then s ss) t = all_within E (after f s) ss (after_within E f s t)

pub opened_within : (f : Frame) → IsWithin f.scope (opened f)
opened_within f = record { block = []; is = refl }

-- as many blocks are open
pub as_deep : (n : ℕ) (E : Scope) (f g : Frame) → IsWithin E f → IsWithin E g → n < length f.scope → n < length g.scope
as_deep n E f g s t h =
    let a = length-append E (s.block ∷ []) in
    let b = length-append E (t.block ∷ []) in
    let p = ap length s.is in
    let q = ap length t.is in
    omega arith

-- a block that ends leaves the frame closed
pub closed_is : (f h k : Frame) → IsWithin f.scope h → ((E : Scope) (b : Block) → h.scope ≡ E ++ b ∷ [] → k ≡ record { scope = E; vars = h.vars; arrays = h.arrays }) → k ≡ closed f h
closed_is f h k w l = l f.scope w.block w.is

pub same_within : (E : Scope) (f g : Frame) → g ≡ f → IsWithin E f → IsWithin E g
same_within E f g e w = subst (IsWithin E) (sym e) w

first_empty : (xs ys : List Broken) → xs ≡ [] → ys ≡ [] → xs ++ ys ≡ []
first_empty xs ys h k = ap (λ zs. zs ++ ys) h ∙ k

-- a for that was read, whose head is a block
pub for_ends : (l : Bool) (f h k m : Frame) (hd : HeadTree) (s : StatementTree) (a b c : List FlatStatement) (test : FlatExpression) (step : List FlatStatement)
    → head_faults f hd ≡ []
    → ◌≡◌ {A = HeadPart} (h, b, test, step) (in_head f hd, a ++ start_code (opened f) hd.start, test_of (in_head f hd).scope hd.test, next_code (in_head f hd).scope hd.step)
    → statement_faults true (opened h) s ≡ []
    → ◌≡◌ {A = Part} (k, c) (closed h (after (opened h) s), b ++ flat.loop test (in_row (code_of (opened h) s)) (in_row step) ∷ [])
    → ((E : Scope) (b : Block) → k.scope ≡ E ++ b ∷ [] → m ≡ record { scope = E; vars = k.vars; arrays = k.arrays })
    → (statement_faults l f (tree.for hd s) ≡ []) × ◌≡◌ {A = Part} (m, c) (after f (tree.for hd s), a ++ code_of f (tree.for hd s))
for_ends l f h k m hd s a b c test step p q r t leave =
    let g = in_head f hd in
    let e : h ≡ g = ap (λ (x : HeadPart). x.0) q in
    let start = start_within f.scope (opened f) hd.start (opened_within f) in
    let ended : IsWithin f.scope (closed g (after (opened g) s)) = record { block = start.block; is = start.is } in
    let u : k ≡ closed g (after (opened g) s) = ap (λ (x : Part). x.0) t ∙ ap (λ y. closed y (after (opened y) s)) e in
    let v : m ≡ closed f (after (opened g) s) = closed_is f k m (same_within f.scope (closed g (after (opened g) s)) k u ended) leave ∙ ap (closed f) u in
    let turn : FlatExpression → List FlatStatement → Frame → FlatStatement = λ x y z. flat.loop x (in_row (code_of (opened z) s)) (in_row y) in
    let w : c ≡ a ++ code_of f (tree.for hd s) =
    ap (λ (x : Part). x.1) t
    ∙ ap (λ z. b ++ turn test step z ∷ []) e
    ∙ ap (λ y. b ++ turn test y g ∷ []) (ap (λ (x : HeadPart). x.3) q)
    ∙ ap (λ x. b ++ turn x (next_code g.scope hd.step) g ∷ []) (ap (λ (x : HeadPart). x.2) q)
    ∙ ap (λ x. x ++ turn (test_of g.scope hd.test) (next_code g.scope hd.step) g ∷ []) (ap (λ (x : HeadPart). x.1) q)
    ∙ append_assoc a (start_code (opened f) hd.start) (turn (test_of g.scope hd.test) (next_code g.scope hd.step) g ∷ []) in (
      first_empty (head_faults f hd) (statement_faults true (opened g) s) p (ap (λ z. statement_faults true (opened z) s) (sym e) ∙ r),
      parts m (closed f (after (opened g) s)) c (a ++ code_of f (tree.for hd s)) v w,
    )
