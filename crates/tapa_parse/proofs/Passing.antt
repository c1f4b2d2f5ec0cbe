-- What is within the limits passes none: actions, statements, tasks and files.
use Rattle.std.proofs.Common.{◌≡◌, ℕ, suc, ◌≤◌, List, [], ◌∷◌, Option, Some, None, refl, arith}
use Rattle.tapa_base.specs.Spans.{◌⨾◌, Each}
use Rattle.tapa_syntax.specs.declared.terminal.Terminal.TheVariants as terminal
use Rattle.tapa_syntax.specs.declared.tree.AttributeArgument.{AttributeArgument}
use Rattle.tapa_syntax.specs.Trees.{variable_place, element_place, call_action, write, read, assign, postfix, prefix_step, literal_count, name_count, parenthesized_count, plain, initialized, array, AttributeTree, no_start, declare_start, act_start, StatementTree, attributed, empty, block, declare, act, if_only, if_else, while, for, while_not_eot, break, continue, Statements, no_statement, statement_then, leaf, upper, ItemTree, constant, task}
use Rattle.tapa_syntax.specs.Grammar.{Takes, IsExpression, sum_level, expression_level, argument_level, IsPlace, IsAction, IsCountForm, IsCount, IsDeclarator, IsDeclaration, AreAttributeArguments, IsAttribute, IsStart, IsHead, IsStatement, AreStatements, IsStream, IsArgument, IsInvocation, IsBody, IsItem, IsTreeOf}
use Rattle.tapa_syntax.specs.Limits.{most, if_there, nesting, operators, place_nesting, place_operators, action_nesting, action_operators, form_nesting, form_operators, declarator_nesting, declarator_operators, declaration_nesting, declaration_operators, attribute_nesting, start_nesting, start_operators, head_nesting, head_operators, statement_nesting, statement_operators, statements_nesting, statements_operators, stream_nesting, stream_operators, invocation_nesting, invocation_operators, body_nesting, body_operators, item_nesting, item_operators}
use Rattle.tapa_parse_expression.specs.Passing.{over_each, over_behind}
use Rattle.tapa_parse.specs.Passing.{over_whole, over_place, over_action, over_form, over_count, over_declarator, over_declaration, over_attribute_arguments, over_attribute, over_start, over_head, over_inside, over_statements, over_stream, over_argument, over_invocation, over_body, over_item}
use Rattle.tapa_parse_expression.proofs.Parts.{Symbols}
use Rattle.tapa_parse_expression.proofs.Passing.{one_left, neither, none_over, NoneOver, none_over_each, none_over_some, none_over_maybe, none_behind, none_over_separated, none_over_listed}

most_is : {A : Type 0} (f : A → ℕ) (n : ℕ) → ((x : A) → f x ≤ n) → (xs : List A) → most f xs ≤ n
most_is f n h [] = omega arith
most_is f n h (x ∷ xs) = omega (arith, h x, most_is f n h xs)

module _ (limit : ℕ) where
  none_whole : (levels l : ℕ) → NoneOver (IsExpression l) (over_whole limit levels l) nesting operators levels limit
  none_whole levels l e i j h deep few = none_over levels limit l e i j h deep few

  -- ---- actions and declarations

  none_place : (levels : ℕ) → NoneOver IsPlace (over_place limit levels) place_nesting place_operators levels limit
  none_place levels (variable_place x) i j h deep few = refl
  none_place levels (element_place x e) i j (a, name, (b, bracket, (c, inside, close))) deep few =
      one_left levels a _ (omega arith) (λ less is. none_whole less expression_level e b c inside (omega arith) few)

  none_action : (levels : ℕ) → NoneOver IsAction (over_action limit levels) action_nesting action_operators levels limit
  unfolding over_action
  none_action levels (call_action x y es) i j (a, name, (b, dot, (c, method, (d, paren, (k, inside, close))))) deep few =
      one_left levels c _ (omega arith)
      (λ less is. none_over_listed (Takes terminal.Comma) (IsExpression argument_level) (over_whole limit less argument_level) nesting operators less limit
      (none_whole less argument_level) es d k inside (omega arith) few)
  none_action levels (write x es) i j (a, name, all) deep few =
      none_over_some (λ e. Takes terminal.ShiftLeft ⨾ IsExpression sum_level e)
      (over_behind (Takes terminal.ShiftLeft) (IsExpression sum_level) (over_whole limit levels sum_level)) nesting operators levels limit
      (none_behind (Takes terminal.ShiftLeft) (IsExpression sum_level) (over_whole limit levels sum_level) nesting operators levels limit (none_whole levels sum_level)) es a j all deep few
  none_action levels (read x places) i j (a, name, all) deep few =
      none_over_some (λ p. Takes terminal.ShiftRight ⨾ IsPlace p) (over_behind (Takes terminal.ShiftRight) IsPlace (over_place limit levels)) place_nesting place_operators levels limit
      (none_behind (Takes terminal.ShiftRight) IsPlace (over_place limit levels) place_nesting place_operators levels limit (none_place levels)) places a j all deep few
  none_action levels (assign target o at e) i j (a, place, (b, sign, value)) deep few =
      neither _ _ (none_place levels target i a place (omega arith) (omega arith)) (none_whole levels expression_level e b j value (omega arith) (omega arith))
  none_action levels (postfix target step at) i j (a, place, sign) deep few = none_place levels target i a place deep few
  none_action levels (prefix_step step at target) i j (a, sign, place) deep few = one_left levels i _ (omega arith) (λ less is. none_place less target a j place (omega arith) few)

  none_form : (levels : ℕ) → NoneOver IsCountForm (over_form limit levels) form_nesting form_operators levels limit
  none_form levels (literal_count k v) i j h deep few = refl
  none_form levels (name_count x) i j h deep few = refl
  none_form levels (parenthesized_count e) i j (a, paren, (b, inside, close)) deep few = one_left levels i _ (omega arith) (λ less is. none_whole less expression_level e a b inside (omega arith) few)

  none_count : (levels : ℕ) → NoneOver IsCount (over_count limit levels) (λ c. form_nesting c.form) (λ c. form_operators c.form) levels limit
  none_count levels c i j h deep few = none_form levels c.form i j h.1 deep few

  none_declarator : (levels : ℕ) → NoneOver IsDeclarator (over_declarator limit levels) declarator_nesting declarator_operators levels limit
  none_declarator levels (plain x) i j h deep few = refl
  none_declarator levels (initialized x e) i j (a, name, (b, sign, value)) deep few = none_whole levels expression_level e b j value deep few
  none_declarator levels (array x c) i j (a, name, (b, bracket, (k, inside, close))) deep few = none_count levels c b k inside deep few

  none_declaration : (levels : ℕ) → NoneOver IsDeclaration (over_declaration limit levels) declaration_nesting declaration_operators levels limit
  unfolding over_declaration
  none_declaration levels d i j (a, word, (b, type, names)) deep few =
      none_over_separated (Takes terminal.Comma) IsDeclarator (over_declarator limit levels) declarator_nesting declarator_operators levels limit (none_declarator levels) d.names b j names deep few

  -- ---- attributes

  none_attribute_arguments : (levels : ℕ) (x : Option (List AttributeArgument)) (i j : Symbols) (h : AreAttributeArguments x i j) → if_there (λ (a : List AttributeArgument). 1) x ≤ levels
      → over_attribute_arguments limit levels x i j h ≡ None
  none_attribute_arguments levels None i j h deep = refl
  none_attribute_arguments levels (Some xs) i j h deep = one_left levels i _ (omega arith) (λ less is. refl)

  none_attribute : (levels : ℕ) → NoneOver IsAttribute (over_attribute limit levels) attribute_nesting (λ a. 0) levels limit
  none_attribute levels x i j (a, m1, (b, m2, (c, m3, (d, m4, (f, name, (g, arguments, rest)))))) deep few = none_attribute_arguments levels x.arguments f g arguments deep

  no_operators : (found : List AttributeTree) → most (λ a. 0) found ≤ limit
  no_operators found = omega (arith, most_is (λ a. 0) 0 (λ a. omega arith) found)

  -- ---- statements

  none_start : (levels : ℕ) → NoneOver IsStart (over_start limit levels) start_nesting start_operators levels limit
  none_start levels no_start i j h deep few = refl
  none_start levels (declare_start d) i j h deep few = none_declaration levels d i j h deep few
  none_start levels (act_start a) i j h deep few = none_action levels a i j h deep few

  none_head : (levels : ℕ) → NoneOver IsHead (over_head limit levels) head_nesting head_operators levels limit
  unfolding over_head
  none_head levels head i j (a, start, (b, first, (c, test, (d, second, step)))) deep few =
      neither _ _ (none_start levels head.start i a start (omega arith) (omega arith))
      (neither _ _ (none_over_maybe (IsExpression expression_level) (over_whole limit levels expression_level) nesting operators levels limit (none_whole levels expression_level) head.test b c test
      (omega arith) (omega arith))
      (none_over_maybe IsAction (over_action limit levels) action_nesting action_operators levels limit (none_action levels) head.step d j step (omega arith) (omega arith)))

  statement_levels : (s : StatementTree) → 1 ≤ statement_nesting s
  statement_levels (attributed found s) = omega arith
  statement_levels empty = omega arith
  statement_levels (block ss) = omega arith
  statement_levels (declare d) = omega arith
  statement_levels (act a) = omega arith
  statement_levels (if_only c s) = omega arith
  statement_levels (if_else c s t) = omega arith
  statement_levels (while c s) = omega arith
  statement_levels (for head s) = omega arith
  statement_levels (while_not_eot x s) = omega arith
  statement_levels (break at) = omega arith
  statement_levels (continue at) = omega arith

  mutual
    unfolding over_inside over_statements

    none_inside : (levels : ℕ) (s : StatementTree) (i j : Symbols) (h : IsStatement s i j) → statement_nesting s ≤ suc levels → statement_operators s ≤ limit → over_inside limit levels s i j h ≡ None
    none_inside levels (attributed found s) i j (bare, (a, all, h)) deep few =
        neither _ _ (none_over_some IsAttribute (over_attribute limit levels) attribute_nesting (λ a. 0) levels limit (none_attribute levels) found i a all (omega arith) (no_operators found))
        (none_inside levels s a j h (omega arith) few)
    none_inside levels empty i j h deep few = refl
    none_inside levels (block ss) i j (a, brace, (b, all, close)) deep few = none_statements levels ss a b all (omega arith) few
    none_inside levels (declare d) i j (a, h, end) deep few = none_declaration levels d i a h (omega arith) few
    none_inside levels (act x) i j (a, h, end) deep few = none_action levels x i a h (omega arith) few
    none_inside levels (if_only c s) i j (a, word, (b, paren, (d, test, (f, close, h)))) deep few =
        neither _ _ (one_left levels a _ (omega arith) (λ less is. none_whole less expression_level c b d test (omega arith) (omega arith)))
        (one_left levels f _ (omega arith) (λ less is. none_inside less s f j h (omega arith) (omega arith)))
    none_inside levels (if_else c s t) i j (closed, (a, word, (b, paren, (d, test, (f, close, (g, h, (k, other, r))))))) deep few =
        neither _ _ (one_left levels a _ (omega arith) (λ less is. none_whole less expression_level c b d test (omega arith) (omega arith)))
        (neither _ _ (one_left levels f _ (omega arith) (λ less is. none_inside less s f g h (omega arith) (omega arith)))
        (one_left levels k _ (omega arith) (λ less is. none_inside less t k j r (omega arith) (omega arith))))
    none_inside levels (while c s) i j (a, word, (b, paren, (d, test, (f, close, h)))) deep few =
        neither _ _ (one_left levels a _ (omega arith) (λ less is. none_whole less expression_level c b d test (omega arith) (omega arith)))
        (one_left levels f _ (omega arith) (λ less is. none_inside less s f j h (omega arith) (omega arith)))
    none_inside levels (for head s) i j (a, word, (b, paren, (d, inside, (f, close, h)))) deep few =
        neither _ _ (one_left levels a _ (omega arith) (λ less is. none_head less head b d inside (omega arith) (omega arith)))
        (one_left levels f _ (omega arith) (λ less is. none_inside less s f j h (omega arith) (omega arith)))
    none_inside levels (while_not_eot x s) i j (a, word, (b, paren, (d, name, (f, close, h)))) deep few =
        neither _ _ (one_left levels a _ (omega arith) (λ less is. refl)) (one_left levels f _ (omega arith) (λ less is. none_inside less s f j h (omega arith) few))
    none_inside levels (break at) i j h deep few = refl
    none_inside levels (continue at) i j h deep few = refl

    none_statements : (levels : ℕ) (ss : Statements) (i j : Symbols) (h : AreStatements ss i j) → statements_nesting ss ≤ levels → statements_operators ss ≤ limit
        → over_statements limit levels ss i j h ≡ None
    none_statements levels no_statement i j h deep few = refl
    none_statements levels (statement_then s ss) i j (a, first, rest) deep few =
        neither _ _ (one_left levels i _ (omega (arith, statement_levels s)) (λ less is. none_inside less s i a first (omega arith) (omega arith)))
        (none_statements levels ss a j rest (omega arith) (omega arith))

  -- ---- tasks and files

  none_stream : (levels : ℕ) → NoneOver IsStream (over_stream limit levels) stream_nesting stream_operators levels limit
  none_stream levels s i j (a, m1, (b, m2, (c, m3, (d, m4, (e, type, (f, depth, rest)))))) deep few =
      none_over_maybe (λ c. Takes terminal.Comma ⨾ IsCount c) (over_behind (Takes terminal.Comma) IsCount (over_count limit levels)) (λ c. form_nesting c.form)
      (λ c. form_operators c.form) levels limit
      (none_behind (Takes terminal.Comma) IsCount (over_count limit levels) (λ c. form_nesting c.form) (λ c. form_operators c.form) levels limit (none_count levels)) s.depth e f depth deep few

  none_argument : (levels : ℕ) → NoneOver IsArgument (over_argument limit levels) (λ a. nesting a.value) (λ a. operators a.value) levels limit
  none_argument levels a i j h deep few = none_whole levels expression_level a.value i j h.1 deep few

  none_invocation : (levels : ℕ) → NoneOver IsInvocation (over_invocation limit levels) invocation_nesting invocation_operators levels limit
  unfolding over_invocation
  none_invocation levels v i j (a, dot, (b, word, (c, mode, (d, paren, (e, name, (f, all, close)))))) deep few =
      one_left levels c _ (omega arith)
      (λ less is. none_over_each (λ x. Takes terminal.Comma ⨾ IsArgument x) (over_behind (Takes terminal.Comma) IsArgument (over_argument limit less)) (λ a. nesting a.value)
      (λ a. operators a.value) less limit
      (none_behind (Takes terminal.Comma) IsArgument (over_argument limit less) (λ a. nesting a.value) (λ a. operators a.value) less limit (none_argument less)) v.arguments e f all (omega arith) few)

  none_body : (levels : ℕ) → NoneOver IsBody (over_body limit levels) body_nesting body_operators levels limit
  unfolding over_body
  none_body levels (leaf ss) i j h deep few = none_statements levels ss i j h deep few
  none_body levels (upper streams invocations) i j (a, declared, (b, m1, (c, m2, (d, m3, (e, m4, (f, m5, (g, invoked, end))))))) deep few =
      neither _ _ (none_over_each IsStream (over_stream limit levels) stream_nesting stream_operators levels limit (none_stream levels) streams i a declared (omega arith) (omega arith))
      (none_over_some IsInvocation (over_invocation limit levels) invocation_nesting invocation_operators levels limit (none_invocation levels) invocations f g invoked (omega arith) (omega arith))

  arguments_flat : (a : Option (List AttributeArgument)) → if_there (λ (x : List AttributeArgument). 1) a ≤ 1
  arguments_flat None = omega arith
  arguments_flat (Some xs) = omega arith

  -- attributes of an item open level 1
  none_attributes : (levels : ℕ) → 1 ≤ levels → (found : List AttributeTree) (i j : Symbols) (h : Each IsAttribute found i j) → over_each IsAttribute (over_attribute limit levels) found i j h ≡ None
  none_attributes levels one found i j h =
      none_over_each IsAttribute (over_attribute limit levels) attribute_nesting (λ a. 0) levels limit (none_attribute levels) found i j h
      (omega (arith, most_is attribute_nesting 1 (λ a. arguments_flat a.arguments) found)) (no_operators found)

  none_item : (levels : ℕ) → 1 ≤ levels → NoneOver IsItem (over_item limit levels) item_nesting item_operators levels limit
  unfolding over_item
  none_item levels one (constant found kind x e) i j (a, all, (b, word, (c, type, (d, name, (f, sign, (g, value, end)))))) deep few =
      neither _ _ (none_attributes levels one found i a all) (none_whole levels expression_level e f g value deep few)
  none_item levels one (task t) i j (a, all, (b, void, (c, name, (d, paren, (e, parameters, (f, close, (g, brace, (k, inside, end)))))))) deep few =
      neither _ _ (none_attributes levels one t.attributes i a all) (none_body levels t.body g k inside (omega arith) few)

  pub none_over_items : (levels : ℕ) → 1 ≤ levels → (items : List ItemTree) (symbols : Symbols) (h : IsTreeOf symbols items) → most item_nesting items ≤ levels → most item_operators items ≤ limit
      → over_each IsItem (over_item limit levels) items symbols [] h ≡ None
  none_over_items levels one items symbols h deep few = none_over_each IsItem (over_item limit levels) item_nesting item_operators levels limit (none_item levels one) items symbols [] h deep few
