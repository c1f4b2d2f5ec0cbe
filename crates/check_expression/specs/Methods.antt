-- The methods of streams without where their arguments lie in memory.
use Rattle.std.specs.Prelude.{ℕ, Option, Some, None}
use Rattle.tapa_base.specs.declared.kind.Kind.{Kind}
use Rattle.tapa_syntax.specs.Trees as tree
use Rattle.check_expression.specs.declared.method.StreamMethod.{StreamMethod}
use Rattle.check_expression.specs.declared.method.StreamMethod.TheVariants.{Read, Peek, Eot, Write, Open, Close}
use Rattle.check_expression.specs.declared.method.StreamCall.{StreamCall}
use Rattle.check_expression.specs.Expressions.{Method, reads, peeks, tests_end, writes, opens, closes}

abbrev pub method : StreamMethod → Method
method Read = reads
method Peek = peeks
method Eot = tests_end
method (Write e) = writes (tree.expression e.now)
method Open = opens
method Close = closes

abbrev pub method_view : Option StreamMethod → Option Method
method_view None = None
method_view (Some m) = Some (method m)

abbrev pub call_view : StreamCall → Option Method × Kind × ℕ
call_view c = (Some (method c.method), c.kind, c.stream)
