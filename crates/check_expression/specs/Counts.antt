-- Depths of streams and sizes of arrays: constant expressions within limits.
use Rattle.std.specs.Prelude.{ℕ, ◌%◌, List, [], ◌++◌, not, ◌&&◌, nat_le, ℤ, pos, negsuc}
use Rattle.tapa_base.specs.Kinds.{number, values_of}
use Rattle.tapa_syntax.specs.Trees as tree
use Rattle.tapa_syntax.specs.Trees.{CountForm, CountTree}
use Rattle.check_scope.specs.Scopes.{Scope, entity_of, is_constant, kind_of_entity}
use Rattle.check_scope.specs.declared.fault.Broken.{Broken}
use Rattle.check_scope.specs.Faults.{where_so, over, name_faults}
use Rattle.check_expression.specs.Expressions.{kind_of, value_of, named_value, constant_value, constant_faults}

abbrev pub form_faults : Scope → CountForm → List Broken
form_faults E (tree.literal_count k n) = []
form_faults E (tree.name_count x) = name_faults E is_constant x
form_faults E (tree.parenthesized_count e) = constant_faults E e

-- a whole number from 0 on, and 0 for one below
abbrev pub natural : ℤ → ℕ
natural (pos n) = n
natural (negsuc n) = 0

abbrev pub form_number : Scope → CountForm → ℤ
form_number E (tree.literal_count k n) = number k (n % values_of k)
form_number E (tree.name_count x) = number (kind_of_entity (entity_of x.text E)) (constant_value (named_value (entity_of x.text E)))
form_number E (tree.parenthesized_count e) = number (kind_of E e) (constant_value (value_of E e))

-- the number that a count gives, and 0 where it is below 1
abbrev pub count_of : Scope → CountTree → ℕ
count_of E count = natural (form_number E count.form)

-- C11: a depth, and the number of an array's cells, is 1 to 4,096
abbrev pub most_of_count : ℕ
most_of_count = 4096

abbrev pub count_faults : Scope → CountTree → List Broken
count_faults E count = form_faults E count.form ++ where_so (not (nat_le 1 (count_of E count) && nat_le (count_of E count) most_of_count)) (over most_of_count count.place)
