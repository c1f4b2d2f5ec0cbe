-- The flat statements of lists that lie in rows.
use Rattle.std.proofs.Common.{◌≡◌, map, Vec, Global, refl, ap, ◌∙◌}
use mathlib.Core.Former.{Count}
use Rattle.tapa_syntax.specs.declared.program.Expr.{Expr}
use Rattle.tapa_syntax.specs.declared.program.Stmt.{Stmt, If, If', Loop, Loop', Row_of-Stmt, end_of-Stmt, more_of-Stmt, items-the_row-Stmt, items_hidden-the_row-Stmt-0}
use Rattle.tapa_syntax.specs.Flat as flat
use Rattle.tapa_syntax.specs.Flat.{flat_expression, flat_row, flat_statement, in_row}

of_actions : (n : _) (row : Row_of-Stmt n) → flat_row row ≡ in_row (map flat_statement (items-the_row-Stmt n row))
of_actions n end_of-Stmt = refl
of_actions n (more_of-Stmt s rest) = ap (flat.statement_then (flat_statement s)) (of_actions _ rest)

abbrev first_row : Stmt → (n : Count) × Row_of-Stmt n
first_row (If' _ _ row _ _) = (_, row)
first_row (Loop' _ _ row _ _) = (_, row)
first_row _ = (_, end_of-Stmt)

abbrev second_row : Stmt → (n : Count) × Row_of-Stmt n
second_row (If' _ _ _ _ row) = (_, row)
second_row (Loop' _ _ _ _ row) = (_, row)
second_row _ = (_, end_of-Stmt)

pub flat-Loop : (test : Expr) (body step : Vec Stmt Global) → flat_statement (Loop test body step) ≡ flat.loop (flat_expression test) (in_row (map flat_statement body.items)) (in_row (map flat_statement step.items))
flat-Loop test body step =
    let b = first_row (Loop test body step) in
    let s = second_row (Loop test body step) in
    ap (λ xs. flat.loop (flat_expression test) xs (flat_row s.1)) (of_actions b.0 b.1 ∙ ap (λ xs. in_row (map flat_statement xs)) (items_hidden-the_row-Stmt-0 body))
    ∙ ap (λ xs. flat.loop (flat_expression test) (in_row (map flat_statement body.items)) xs) (of_actions s.0 s.1 ∙ ap (λ xs. in_row (map flat_statement xs)) (items_hidden-the_row-Stmt-0 step))

pub flat-If : (test : Expr) (left right : Vec Stmt Global) → flat_statement (If test left right) ≡ flat.branch (flat_expression test) (in_row (map flat_statement left.items)) (in_row (map flat_statement right.items))
flat-If test left right =
    let b = first_row (If test left right) in
    let s = second_row (If test left right) in
    ap (λ xs. flat.branch (flat_expression test) xs (flat_row s.1)) (of_actions b.0 b.1 ∙ ap (λ xs. in_row (map flat_statement xs)) (items_hidden-the_row-Stmt-0 left))
    ∙ ap (λ xs. flat.branch (flat_expression test) (in_row (map flat_statement left.items)) xs) (of_actions s.0 s.1 ∙ ap (λ xs. in_row (map flat_statement xs)) (items_hidden-the_row-Stmt-0 right))
