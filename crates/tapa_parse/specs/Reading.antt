-- Reading from left to right, with one symbol of look-ahead and three before a stream of a task: tasks and files.
use Rattle.std.specs.Prelude.{ℕ, ◌||◌, if◌then◌else◌, List, [], ◌∷◌, drop, Option, Some, None, Ok, Err}
use Rattle.tapa_base.specs.declared.kind.Kind.{Kind}
use Rattle.tapa_syntax.specs.declared.terminal.Terminal.{Terminal}
use Rattle.tapa_syntax.specs.declared.terminal.Terminal.TheVariants as terminal
use Rattle.tapa_syntax.specs.declared.tree.Name.{Name}
use Rattle.tapa_syntax.specs.declared.tree.Parameter.{Parameter}
use Rattle.tapa_syntax.specs.declared.tree.Parameter.TheVariants as parameter_form
use Rattle.tapa_syntax.specs.Trees.{CountTree, AttributeTree, statements, StreamTree, ArgumentTree, InvocationTree, BodyTree, leaf, upper, TaskTree, ItemTree, constant, task}
use Rattle.tapa_parse_expression.specs.declared.fault.ParseCode.TheVariants.{P1}
use Rattle.tapa_parse_expression.specs.Readers.{is_left, Reader, ◌>>=◌, ◌>>◌, pure, refuse, next, ended, sees, skip, here, expect, eat, name, plain_name, repeat_behind}
use Rattle.tapa_parse_expression.specs.Readers.{repeat, separated, separated_until}
use Rattle.tapa_parse_expression.specs.Reading.{Readers, open_level, type_name, attributes, counted, statements_with, whole, whole_expression}
-- the readers of the levels of nesting
pub use Rattle.tapa_parse_expression.specs.Reading.{below, at}

unfoldable pub stream_kind : Reader Kind
stream_kind = do
  skip
  expect terminal.Less
  k ← type_name
  expect terminal.Greater
  expect terminal.Ampersand
  pure k

abbrev pub port_by : Terminal → Reader Parameter
port_by terminal.Istream = do
  k ← stream_kind
  x ← name
  pure (parameter_form.InputStream k x)
port_by terminal.Ostream = do
  k ← stream_kind
  x ← name
  pure (parameter_form.OutputStream k x)
port_by terminal.Mmap = do
  skip
  expect terminal.Less
  is_const ← eat terminal.Const
  k ← type_name
  expect terminal.Greater
  x ← name
  pure (parameter_form.Memory is_const k x)
port_by _ = refuse P1

unfoldable pub port : Reader Parameter
port = λ i. port_by (next i) i

unfoldable pub scalar : Reader Parameter
scalar = do
  is_const ← eat terminal.Const
  k ← type_name
  x ← name
  pure (parameter_form.Scalar is_const k x)

unfoldable pub parameter : Reader Parameter
parameter = λ i. if sees terminal.Tapa i then (skip >> expect terminal.Scope >> port) i else scalar i

unfoldable pub parameters : Reader (List Parameter)
parameters = do
  expect terminal.LeftParen
  found ← separated_until terminal.RightParen terminal.Comma parameter
  expect terminal.RightParen
  pure found

unfoldable pub stream_name : Reader Name
stream_name = do
  x ← name
  (λ i. if sees terminal.LeftParen i then (skip >> expect terminal.Str >> expect terminal.RightParen >> pure x) i else Ok (x, i))

unfoldable pub mode : Reader (Option Name)
mode = λ i. if sees terminal.Less i then (do skip; expect terminal.Tapa; expect terminal.Scope; x ← plain_name; expect terminal.Greater; pure (Some x)) i else Ok (None, i)

unfoldable pub invocation_argument : ℕ → Readers → Reader ArgumentTree
invocation_argument limit below = do
  at ← here
  e ← whole below.expression limit
  pure (record { place = at; value = e })

abbrev pub invocation_arguments : ℕ → Readers → Reader (List ArgumentTree)
invocation_arguments limit below = repeat (sees terminal.Comma) (skip >> invocation_argument limit below)

unfoldable pub constant_word : Reader (Unit {0})
constant_word = λ i. if sees terminal.Const i || sees terminal.Constexpr i then Ok (tt, drop 1 i) else Err (P1, i)

module _ (limit : ℕ) (inner : Option Readers) where
  unfoldable pub depth : Reader (Option CountTree)
  depth = λ i. if sees terminal.Comma i then (do skip; count ← counted limit inner; pure (Some count)) i else Ok (None, i)

  unfoldable pub stream : Reader StreamTree
  stream = do
    expect terminal.Tapa
    expect terminal.Scope
    expect terminal.Stream
    expect terminal.Less
    k ← type_name
    depth ← depth
    expect terminal.Greater
    names ← separated terminal.Comma stream_name
    expect terminal.Semicolon
    pure (record { kind = k; depth = depth; names = names })

  unfoldable pub invocation : Reader InvocationTree
  invocation = do
    expect terminal.Dot
    expect terminal.Invoke
    mode ← mode
    below ← open_level terminal.LeftParen inner
    x ← name
    arguments ← invocation_arguments limit below
    expect terminal.RightParen
    pure (record { mode = mode; task = x; arguments = arguments })

  -- at least one
  unfoldable pub chained : Reader (List InvocationTree)
  chained = do
    first ← invocation
    repeat_behind (sees terminal.Dot) invocation (first ∷ [])

  unfoldable pub invocations : Reader (List InvocationTree)
  invocations = do
    expect terminal.Tapa
    expect terminal.Scope
    expect terminal.Task
    expect terminal.LeftParen
    expect terminal.RightParen
    found ← chained
    expect terminal.Semicolon
    pure found

  abbrev pub streams : Reader (List StreamTree)
  streams = repeat (λ i. sees terminal.Stream (drop 2 i)) stream

  unfoldable pub body : Reader BodyTree
  body = λ i. if sees terminal.Tapa i then (do declared ← streams; found ← invocations; pure (upper declared found)) i else (do ss ← statements_with limit inner; pure (leaf (statements ss))) i

  unfoldable pub task_behind : List AttributeTree → Reader TaskTree
  task_behind attributes = do
    expect terminal.Void
    x ← name
    parameters ← parameters
    expect terminal.LeftBrace
    body ← body
    at ← here
    expect terminal.RightBrace
    pure (record { attributes = attributes; name = x; parameters = parameters; body = body; end = at })

  unfoldable pub constant_behind : List AttributeTree → Reader ItemTree
  constant_behind attributes = do
    constant_word
    k ← type_name
    x ← name
    expect terminal.Assign
    e ← whole_expression limit inner
    expect terminal.Semicolon
    pure (constant attributes k x e)

  unfoldable pub item : Reader ItemTree
  item = do
    found ← attributes inner
    (λ i. if sees terminal.Void i then (do t ← task_behind found; pure (task t)) i else constant_behind found i)

  abbrev pub items : Reader (List ItemTree)
  items = repeat is_left item

  unfoldable pub file : Reader (List ItemTree)
  file = do
    items ← items
    ended
    pure items
