-- The first lexeme of a file that opens one level too many or is one operator of an expression too many: the symbols from it on, if there is one.
use Rattle.std.specs.Prelude.{ℕ, List, [], Option, Some, None}
use Rattle.tapa_base.specs.Spans.{◌⨾◌}
use Rattle.tapa_syntax.specs.declared.terminal.Terminal.TheVariants as terminal
use Rattle.tapa_syntax.specs.declared.tree.AttributeArgument.{AttributeArgument}
use Rattle.tapa_syntax.specs.Symbols.{Symbol}
use Rattle.tapa_syntax.specs.Trees.{variable_place, element_place, call_action, write, read, assign, postfix, prefix_step, parenthesized_count, plain, initialized, array}
use Rattle.tapa_syntax.specs.Trees.{no_start, declare_start, act_start, StatementTree, attributed, block, declare, act, if_only, if_else, while, for, while_not_eot}
use Rattle.tapa_syntax.specs.Trees.{Statements, no_statement, statement_then, leaf, upper, ItemTree, constant, task}
use Rattle.tapa_syntax.specs.Limits.{most_levels, most_operators}
use Rattle.tapa_syntax.specs.Grammar.{Takes, IsExpression, sum_level, expression_level, argument_level, IsPlace, IsAction, IsCountForm, IsCount, IsDeclarator}
use Rattle.tapa_syntax.specs.Grammar.{IsDeclaration, AreAttributeArguments, IsAttribute, IsStart, IsHead, IsStatement, AreStatements, IsStream, IsArgument, IsInvocation}
use Rattle.tapa_syntax.specs.Grammar.{IsBody, IsItem, IsTreeOf}
use Rattle.tapa_parse_expression.specs.Passing.{one_more, or_later, over_expression, Over, over_each, over_some, over_behind, over_separated, over_listed, over_maybe}

-- limit is how many operators an expression may have that is part of no other
module _ (limit : ℕ) where
  -- a whole expression
  abbrev pub over_whole : (levels l : ℕ) → Over (IsExpression l)
  over_whole levels l e i j h = over_expression levels limit l e i j h

  -- ---- actions and declarations

  abbrev pub over_place : (levels : ℕ) → Over IsPlace
  over_place levels (variable_place name) i j h = None
  over_place levels (element_place name e) i j (a, x, (b, bracket, (c, inside, close))) = one_more levels a (λ less. over_whole less expression_level e b c inside)

  unfoldable pub over_action : (levels : ℕ) → Over IsAction
  over_action levels (call_action stream method es) i j (a, x, (b, dot, (c, y, (d, paren, (k, inside, close))))) =
      one_more levels c (λ less. over_listed (Takes terminal.Comma) (IsExpression argument_level) (over_whole less argument_level) es d k inside)
  over_action levels (write stream es) i j (a, x, all) =
      over_some (λ e. Takes terminal.ShiftLeft ⨾ IsExpression sum_level e) (over_behind (Takes terminal.ShiftLeft) (IsExpression sum_level) (over_whole levels sum_level)) es a j all
  over_action levels (read stream places) i j (a, x, all) =
      over_some (λ p. Takes terminal.ShiftRight ⨾ IsPlace p) (over_behind (Takes terminal.ShiftRight) IsPlace (over_place levels)) places a j all
  over_action levels (assign target o at e) i j (a, place, (b, sign, value)) = or_later (over_place levels target i a place) (over_whole levels expression_level e b j value)
  over_action levels (postfix target step at) i j (a, place, sign) = over_place levels target i a place
  over_action levels (prefix_step step at target) i j (a, sign, place) = one_more levels i (λ less. over_place less target a j place)

  abbrev pub over_form : (levels : ℕ) → Over IsCountForm
  over_form levels (parenthesized_count e) i j (a, paren, (b, inside, close)) = one_more levels i (λ less. over_whole less expression_level e a b inside)
  over_form levels _ i j h = None

  abbrev pub over_count : (levels : ℕ) → Over IsCount
  over_count levels c i j h = over_form levels c.form i j h.1

  -- the bracket of a size is no index bracket
  abbrev pub over_declarator : (levels : ℕ) → Over IsDeclarator
  over_declarator levels (plain name) i j h = None
  over_declarator levels (initialized name e) i j (a, x, (b, sign, value)) = over_whole levels expression_level e b j value
  over_declarator levels (array name c) i j (a, x, (b, bracket, (k, inside, close))) = over_count levels c b k inside

  unfoldable pub over_declaration : (levels : ℕ) → Over IsDeclaration
  over_declaration levels d i j (a, word, (b, type, names)) = over_separated (Takes terminal.Comma) IsDeclarator (over_declarator levels) d.names b j names

  -- ---- attributes

  abbrev pub over_attribute_arguments : (levels : ℕ) (x : Option (List AttributeArgument)) (i j : List Symbol) → AreAttributeArguments x i j → Option (List Symbol)
  over_attribute_arguments levels None i j h = None
  over_attribute_arguments levels (Some xs) i j h = one_more levels i (λ less. None)

  abbrev pub over_attribute : (levels : ℕ) → Over IsAttribute
  over_attribute levels x i j (a, m1, (b, m2, (c, m3, (d, m4, (f, name, (g, arguments, rest)))))) = over_attribute_arguments levels x.arguments f g arguments

  -- ---- statements

  abbrev pub over_start : (levels : ℕ) → Over IsStart
  over_start levels no_start i j h = None
  over_start levels (declare_start d) i j h = over_declaration levels d i j h
  over_start levels (act_start a) i j h = over_action levels a i j h

  unfoldable pub over_head : (levels : ℕ) → Over IsHead
  over_head levels head i j (a, start, (b, first, (c, test, (d, second, step)))) =
      or_later (over_start levels head.start i a start)
      (or_later (over_maybe (IsExpression expression_level) (over_whole levels expression_level) head.test b c test) (over_maybe IsAction (over_action levels) head.step d j step))

  -- a statement whose level is open; each statement in it opens one at its first lexeme
  unfoldable mutual
    pub over_inside : (levels : ℕ) (s : StatementTree) (i j : List Symbol) → IsStatement s i j → Option (List Symbol)
    over_inside levels (attributed attributes s) i j (bare, (a, all, h)) = or_later (over_some IsAttribute (over_attribute levels) attributes i a all) (over_inside levels s a j h)
    over_inside levels (block ss) i j (a, brace, (b, all, close)) = over_statements levels ss a b all
    over_inside levels (declare d) i j (a, h, end) = over_declaration levels d i a h
    over_inside levels (act x) i j (a, h, end) = over_action levels x i a h
    over_inside levels (if_only c s) i j (a, word, (b, paren, (d, test, (f, close, h)))) =
        or_later (one_more levels a (λ less. over_whole less expression_level c b d test)) (one_more levels f (λ less. over_inside less s f j h))
    over_inside levels (if_else c s t) i j (closed, (a, word, (b, paren, (d, test, (f, close, (g, h, (k, other, r))))))) =
        or_later (one_more levels a (λ less. over_whole less expression_level c b d test))
        (or_later (one_more levels f (λ less. over_inside less s f g h)) (one_more levels k (λ less. over_inside less t k j r)))
    over_inside levels (while c s) i j (a, word, (b, paren, (d, test, (f, close, h)))) =
        or_later (one_more levels a (λ less. over_whole less expression_level c b d test)) (one_more levels f (λ less. over_inside less s f j h))
    over_inside levels (for head s) i j (a, word, (b, paren, (d, inside, (f, close, h)))) =
        or_later (one_more levels a (λ less. over_head less head b d inside)) (one_more levels f (λ less. over_inside less s f j h))
    over_inside levels (while_not_eot x s) i j (a, word, (b, paren, (d, name, (f, close, h)))) =
        or_later (one_more levels a (λ less. None)) (one_more levels f (λ less. over_inside less s f j h))
    over_inside levels _ i j h = None

    pub over_statements : (levels : ℕ) (ss : Statements) (i j : List Symbol) → AreStatements ss i j → Option (List Symbol)
    over_statements levels no_statement i j h = None
    over_statements levels (statement_then s ss) i j (a, first, rest) = or_later (one_more levels i (λ less. over_inside less s i a first)) (over_statements levels ss a j rest)

  -- ---- tasks and files

  abbrev pub over_stream : (levels : ℕ) → Over IsStream
  over_stream levels s i j (a, m1, (b, m2, (c, m3, (d, m4, (e, type, (f, depth, rest)))))) =
      over_maybe (λ c. Takes terminal.Comma ⨾ IsCount c) (over_behind (Takes terminal.Comma) IsCount (over_count levels)) s.depth e f depth

  abbrev pub over_argument : (levels : ℕ) → Over IsArgument
  over_argument levels a i j h = over_whole levels expression_level a.value i j h.1

  unfoldable pub over_invocation : (levels : ℕ) → Over IsInvocation
  over_invocation levels v i j (a, dot, (b, word, (c, mode, (d, paren, (e, name, (f, all, close)))))) =
      one_more levels c (λ less. over_each (λ x. Takes terminal.Comma ⨾ IsArgument x) (over_behind (Takes terminal.Comma) IsArgument (over_argument less)) v.arguments e f all)

  unfoldable pub over_body : (levels : ℕ) → Over IsBody
  over_body levels (leaf ss) i j h = over_statements levels ss i j h
  over_body levels (upper streams invocations) i j (a, declared, (b, m1, (c, m2, (d, m3, (e, m4, (f, m5, (g, invoked, end))))))) =
      or_later (over_each IsStream (over_stream levels) streams i a declared) (over_some IsInvocation (over_invocation levels) invocations f g invoked)

  -- The parentheses of the parameters, of `task()`, of a label and of an attribute of the file open level 1, which passes no limit.
  unfoldable pub over_item : (levels : ℕ) → Over IsItem
  over_item levels (constant attributes kind name e) i j (a, all, (b, word, (c, type, (d, x, (f, sign, (g, value, end)))))) =
      or_later (over_each IsAttribute (over_attribute levels) attributes i a all) (over_whole levels expression_level e f g value)
  over_item levels (task t) i j (a, all, (b, void, (c, x, (d, paren, (e, parameters, (f, close, (g, brace, (k, inside, end)))))))) =
      or_later (over_each IsAttribute (over_attribute levels) t.attributes i a all) (over_body levels t.body g k inside)

-- a whole file
abbrev pub over_file : (items : List ItemTree) (symbols : List Symbol) → IsTreeOf symbols items → Option (List Symbol)
over_file items symbols h = over_each IsItem (over_item most_operators most_levels) items symbols [] h
