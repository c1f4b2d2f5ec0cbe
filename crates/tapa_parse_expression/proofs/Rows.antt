-- The trees of lists, and of a list with one more.
use Rattle.std.proofs.Common.{◌≡◌, List, [], ◌∷◌, ◌++◌, map, Vec, Global, refl, ap, ◌∙◌}
use mathlib.Core.Former.{Count}
use Rattle.tapa_syntax.specs.declared.tree.Name.{Name}
use Rattle.tapa_syntax.specs.declared.tree.Expression.{Expression, Call, Call', Row_of-Expression, end_of-Expression, more_of-Expression, items-the_row-Expression, items_hidden-the_row-Expression-0}
use Rattle.tapa_syntax.specs.Trees.{one, call, expression, expressions_in, expressions}

of_expressions : (n : _) (row : Row_of-Expression n) → expressions_in row ≡ expressions (map expression (items-the_row-Expression n row))
of_expressions n end_of-Expression = refl
of_expressions n (more_of-Expression e rest) = ap (one (expression e)) (of_expressions _ rest)

abbrev expression_row : Expression → (n : Count) × Row_of-Expression n
expression_row (Call' _ _ _ row) = (_, row)
expression_row _ = (_, end_of-Expression)

pub expression-Call : (stream method : Name) (es : Vec Expression Global) → expression (Call stream method es) ≡ call stream method (expressions (map expression es.items))
expression-Call stream method es = let row = expression_row (Call stream method es) in ap (call stream method) (of_expressions row.0 row.1 ∙ ap (λ xs. expressions (map expression xs)) (items_hidden-the_row-Expression-0 es))
