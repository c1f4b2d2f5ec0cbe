-- The trees of statements that lie in rows.
use Rattle.std.proofs.Common.{◌≡◌, map, Vec, Global, refl, ap, ◌∙◌}
use mathlib.Core.Former.{Count}
use Rattle.tapa_syntax.specs.declared.tree.Statement.{Statement, Block, Block', Row_of-Statement, end_of-Statement, more_of-Statement, items-the_row-Statement, items_hidden-the_row-Statement-0}
use Rattle.tapa_syntax.specs.Trees.{block, statement_then, statement, statements_in, statements}

of_statements : (n : _) (row : Row_of-Statement n) → statements_in row ≡ statements (map statement (items-the_row-Statement n row))
of_statements n end_of-Statement = refl
of_statements n (more_of-Statement s rest) = ap (statement_then (statement s)) (of_statements _ rest)

abbrev statement_row : Statement → (n : Count) × Row_of-Statement n
statement_row (Block' _ row) = (_, row)
statement_row _ = (_, end_of-Statement)

pub statement-Block : (ss : Vec Statement Global) → statement (Block ss) ≡ block (statements (map statement ss.items))
statement-Block ss = let row = statement_row (Block ss) in ap block (of_statements row.0 row.1 ∙ ap (λ xs. statements (map statement xs)) (items_hidden-the_row-Statement-0 ss))
