-- One statement more.
use Rattle.std.proofs.Common.{◌≡◌, List, [], ◌∷◌, ◌++◌, map, Vec, Global, refl, ap, ◌∙◌}
use Rattle.tapa_syntax.specs.declared.program.Expr.{Expr}
use Rattle.tapa_syntax.specs.declared.program.Stmt.{Stmt, If, Loop}
use Rattle.tapa_syntax.specs.Flat as flat
use Rattle.tapa_syntax.specs.Flat.{FlatStatement, flat_expression, flat_statement, in_row}
use Rattle.check_leaf.specs.Statements.{Frame}
use Rattle.check_leaf.specs.Views.{Part}
use Rattle.tapa_syntax.proofs.Rows.{flat-If, flat-Loop}
use Rattle.tapa_base.proofs.Got.{map-push}

pub parts : (f g : Frame) (a b : List FlatStatement) → f ≡ g → a ≡ b → ◌≡◌ {A = Part} (f, a) (g, b)
parts f g a b p q = ap {B = Part} (λ x. (x, a)) p ∙ ap {B = Part} (λ y. (g, y)) q

one_more : (old new : List Stmt) (s : Stmt) (t : FlatStatement) → new ≡ old ++ s ∷ [] → flat_statement s ≡ t → map flat_statement new ≡ map flat_statement old ++ t ∷ []
one_more old new s t e h = ap (map flat_statement) e ∙ map-push flat_statement old s ∙ ap (λ x. map flat_statement old ++ x ∷ []) h

pub loop-pushed : (f g : Frame) (old new : List Stmt) (test : Expr) (body step : Vec Stmt Global) (inner : List FlatStatement) → new ≡ old ++ Loop test body step ∷ [] → ◌≡◌ {A = Part} (f, map flat_statement body.items) (g, inner) → ◌≡◌ {A = Part} (f, map flat_statement new) (g, map flat_statement old ++ flat.loop (flat_expression test) (in_row inner) (in_row (map flat_statement step.items)) ∷ [])
loop-pushed f g old new test body step inner e h =
    parts f g _ _ (ap (λ (p : Part). p.0) h)
    (one_more old new (Loop test body step) _ e (flat-Loop test body step ∙ ap (λ xs. flat.loop (flat_expression test) (in_row xs) (in_row (map flat_statement step.items))) (ap (λ (p : Part). p.1) h)))

pub if-pushed : (f g : Frame) (old new : List Stmt) (test : Expr) (left right : Vec Stmt Global) (inner : List FlatStatement) → new ≡ old ++ If test left right ∷ [] → right.items ≡ [] → ◌≡◌ {A = Part} (f, map flat_statement left.items) (g, inner) → ◌≡◌ {A = Part} (f, map flat_statement new) (g, map flat_statement old ++ flat.branch (flat_expression test) (in_row inner) (in_row []) ∷ [])
if-pushed f g old new test left right inner e z h =
    parts f g _ _ (ap (λ (p : Part). p.0) h)
    (one_more old new (If test left right) _ e (flat-If test left right ∙ ap (λ xs. flat.branch (flat_expression test) (in_row xs) (in_row (map flat_statement right.items))) (ap (λ (p : Part). p.1) h) ∙ ap (λ xs. flat.branch (flat_expression test) (in_row inner) (in_row (map flat_statement xs))) z))

pub if_else-pushed : (f g : Frame) (old new : List Stmt) (test : Expr) (left right : Vec Stmt Global) (inner : List FlatStatement) → new ≡ old ++ If test left right ∷ [] → ◌≡◌ {A = Part} (f, map flat_statement right.items) (g, inner) → ◌≡◌ {A = Part} (f, map flat_statement new) (g, map flat_statement old ++ flat.branch (flat_expression test) (in_row (map flat_statement left.items)) (in_row inner) ∷ [])
if_else-pushed f g old new test left right inner e h =
    parts f g _ _ (ap (λ (p : Part). p.0) h)
    (one_more old new (If test left right) _ e (flat-If test left right ∙ ap (λ xs. flat.branch (flat_expression test) (in_row (map flat_statement left.items)) (in_row xs)) (ap (λ (p : Part). p.1) h)))
