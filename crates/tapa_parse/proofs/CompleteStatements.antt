-- What is spelled as attributes or as a statement is read, or refused at the first lexeme that passes a limit; an else belongs to the nearest if.
use Rattle.std.proofs.Common.{◌≡◌, ℕ, zero, suc, inl, inr, Bool, true, false, List, [], ◌∷◌, Option, Some, None, Ok, refl, ap, ◌∙◌, arith}
use Rattle.std.specs.Prelude.{◌||◌, not}
use Rattle.tapa_base.specs.declared.text.Place.{Place}
use Rattle.tapa_syntax.specs.declared.terminal.Terminal.{Terminal}
use Rattle.tapa_syntax.specs.declared.terminal.Terminal.TheVariants as terminal
use Rattle.tapa_syntax.specs.declared.tree.Name.{Name}
use Rattle.tapa_syntax.specs.declared.tree.StepOperator.{StepOperator}
use Rattle.tapa_syntax.specs.declared.tree.AttributeArgument.{AttributeArgument}
use Rattle.tapa_syntax.specs.declared.tree.AttributeArgument.TheVariants as argument_form
use Rattle.tapa_base.specs.Spans.{◌⨾◌, Maybe, When, Each, EachOfSome, SeparatedOrNone}
use Rattle.tapa_syntax.specs.Trees.{ExpressionTree, ActionTree, call_action, write, read, assign, postfix, prefix_step, PlaceTree, variable_place, element_place, DeclarationTree, AttributeTree, StartTree, no_start, declare_start, act_start, HeadTree, StatementTree, attributed, empty, block, declare, act, if_only, if_else, while, for, while_not_eot, break, continue, Statements, no_statement, statement_then, statements}
use Rattle.tapa_syntax.specs.Grammar.{Takes, TakesAt, IsName, IsExpression, is_name, step_operator_of, expression_level, IsPlace, IsAction, IsDeclaration, IsAttributeArgument, AreAttributeArguments, IsAttribute, IsBare, IsStart, IsHead, IsStatement, AreStatements}
use Rattle.tapa_parse_expression.specs.Readers.{and_then, pure, next, same, sees, name}
use Rattle.tapa_parse_expression.specs.Reading.{Readers, begins_action, begins_statement, attribute_argument_by, attribute_argument, listed_arguments, attribute_arguments, attribute, start, loop_test, step, jump, statement_with, statements_with, simple, braces, otherwise, choice, repetition, counting_loop, transaction_loop, bare_by, bare, inside_with, readers, below_levels}
use Rattle.tapa_parse_expression.specs.Reading as spec
use Rattle.tapa_parse_expression.specs.Passing.{one_more, or_later, Over, over_each, over_maybe}
use Rattle.tapa_parse.specs.Passing.{over_whole, over_action, over_declaration, over_attribute_arguments, over_attribute, over_start, over_head, over_inside, over_statements}
use Rattle.tapa_parse_expression.proofs.Parts.{Symbols, done, then_is, if_true, if_false, differ_by, is_seen, next_is, seen_is, dropped, expect_is, name_is, plain_is, literal_is, Told, told_ok, told_by, told_true, told_false, told_behind, told_then, told_after, told_over}
use Rattle.tapa_parse_expression.proofs.CompleteLists.{TellsAll, repeat_told, repeat_some_told, separated_until_is}
use Rattle.tapa_parse_expression.proofs.CompleteTypes.{sees_other}
use Rattle.tapa_parse_expression.proofs.CompleteLevels.{stops, stop_ends, told_entered, told_opened}
use Rattle.tapa_parse_expression.proofs.Begins.{begins_type, name_begins, expression_begins, begins_otherwise}
use Rattle.tapa_parse_expression.proofs.CompleteExpressions.{whole_told, unary_told, expression_told}
use Rattle.tapa_parse.proofs.CompleteActions.{NoElse, LevelTells, LevelMayTell, may_be, type_begins, condition_told, place_told, action_told, declaration_told}
use Rattle.tapa_parse.proofs.CompleteLengths.{attribute_argument_longer, attribute_longer, statement_longer}

-- ---- what a statement begins with

-- a declaration
abbrev begins_declaration : Terminal → Bool
begins_declaration terminal.Const = true
begins_declaration m = begins_type m

-- a statement without attributes
abbrev begins_bare : Terminal → Bool
begins_bare terminal.LeftBracket = false
begins_bare m = begins_statement m

name_bare : (m : Terminal) → is_name m ≡ true → begins_bare m ≡ true
name_bare terminal.Name e = refl
name_bare terminal.Istream e = refl
name_bare terminal.Ostream e = refl
name_bare terminal.Stream e = refl
name_bare terminal.Mmap e = refl
name_bare terminal.Task e = refl
name_bare terminal.Invoke e = refl
name_bare _ e = absurd cc

name_acts : (m : Terminal) → is_name m ≡ true → begins_action m ≡ true
name_acts m e = rw e refl

step_bare : (m : Terminal) (s : StepOperator) → step_operator_of m ≡ Some s → begins_bare m ≡ true
step_bare terminal.Increment s e = refl
step_bare terminal.Decrement s e = refl
step_bare _ s e = absurd cc

step_acts : (m : Terminal) (s : StepOperator) → step_operator_of m ≡ Some s → begins_action m ≡ true
step_acts terminal.Increment s e = refl
step_acts terminal.Decrement s e = refl
step_acts _ s e = absurd cc

acts_bare : (m : Terminal) → begins_action m ≡ true → begins_bare m ≡ true
acts_bare terminal.Name e = refl
acts_bare terminal.Istream e = refl
acts_bare terminal.Ostream e = refl
acts_bare terminal.Stream e = refl
acts_bare terminal.Mmap e = refl
acts_bare terminal.Task e = refl
acts_bare terminal.Invoke e = refl
acts_bare terminal.Increment e = refl
acts_bare terminal.Decrement e = refl
acts_bare _ e = absurd cc

declares_bare : (m : Terminal) → begins_declaration m ≡ true → begins_bare m ≡ true
declares_bare terminal.Const e = refl
declares_bare terminal.Std e = refl
declares_bare terminal.Bool e = refl
declares_bare terminal.Int e = refl
declares_bare terminal.Short e = refl
declares_bare terminal.Long e = refl
declares_bare terminal.Unsigned e = refl
declares_bare terminal.SizeT e = refl
declares_bare terminal.Int8 e = refl
declares_bare terminal.Uint8 e = refl
declares_bare terminal.Int16 e = refl
declares_bare terminal.Uint16 e = refl
declares_bare terminal.Int32 e = refl
declares_bare terminal.Uint32 e = refl
declares_bare terminal.Int64 e = refl
declares_bare terminal.Uint64 e = refl
declares_bare _ e = absurd cc

declares_no_act : (m : Terminal) → begins_declaration m ≡ true → begins_action m ≡ false
declares_no_act terminal.Name e = absurd cc
declares_no_act terminal.Istream e = absurd cc
declares_no_act terminal.Ostream e = absurd cc
declares_no_act terminal.Stream e = absurd cc
declares_no_act terminal.Mmap e = absurd cc
declares_no_act terminal.Task e = absurd cc
declares_no_act terminal.Invoke e = absurd cc
declares_no_act terminal.Increment e = absurd cc
declares_no_act terminal.Decrement e = absurd cc
declares_no_act _ e = refl

bare_states : (m : Terminal) → begins_bare m ≡ true → begins_statement m ≡ true
bare_states terminal.LeftBracket e = refl
bare_states _ e = e

named_acts : (x : Name) (i j : Symbols) → IsName x i j → begins_action (next i) ≡ true
named_acts x i j h = name_acts (next i) (name_begins x i j h)

placed_acts : (p : PlaceTree) (i j : Symbols) → IsPlace p i j → begins_action (next i) ≡ true
placed_acts (variable_place x) i j h = named_acts x i j h
placed_acts (element_place x e) i j (k, h, rest) = named_acts x i k h

action_begins : (a : ActionTree) (i r : Symbols) → IsAction a i r → begins_action (next i) ≡ true
action_begins (call_action x method es) i r (j, h, rest) = named_acts x i j h
action_begins (write x es) i r (j, h, rest) = named_acts x i j h
action_begins (read x places) i r (j, h, rest) = named_acts x i j h
action_begins (assign p o at e) i r (j, h, rest) = placed_acts p i j h
action_begins (postfix p s at) i r (j, h, rest) = placed_acts p i j h
action_begins (prefix_step s at p) i r (j, (x, h, is), rest) = rw is (step_acts x.terminal s h.0)

type_declares : (m : Terminal) → begins_type m ≡ true → begins_declaration m ≡ true
type_declares terminal.Const e = refl
type_declares _ e = e

const_declares : (b : Bool) (i j : Symbols) → When b (Takes terminal.Const) i j → begins_type (next j) ≡ true → begins_declaration (next i) ≡ true
const_declares true i j t e = rw (next_is terminal.Const i j t) refl
const_declares false i j is e = rw is (type_declares (next j) e)

declaration_begins : (d : DeclarationTree) (i r : Symbols) → IsDeclaration d i r → begins_declaration (next i) ≡ true
declaration_begins d i r (j, word, (k, type, names)) = const_declares d.constant i j word (type_begins d.kind j k type)

bare_begins : (s : StatementTree) (i r : Symbols) → IsBare s → IsStatement s i r → begins_bare (next i) ≡ true
bare_begins (attributed found s) i r bare h = absurd bare
bare_begins empty i r bare h = rw (next_is terminal.Semicolon i r h) refl
bare_begins (block ss) i r bare (j, begin, rest) = rw (next_is terminal.LeftBrace i j begin) refl
bare_begins (declare d) i r bare (j, h, end) = declares_bare (next i) (declaration_begins d i j h)
bare_begins (act a) i r bare (j, h, end) = acts_bare (next i) (action_begins a i j h)
bare_begins (if_only c s) i r bare (j, word, rest) = rw (next_is terminal.If i j word) refl
bare_begins (if_else c s t) i r bare (closed, (j, word, rest)) = rw (next_is terminal.If i j word) refl
bare_begins (while c s) i r bare (j, word, rest) = rw (next_is terminal.While i j word) refl
bare_begins (for head s) i r bare (j, word, rest) = rw (next_is terminal.For i j word) refl
bare_begins (while_not_eot x s) i r bare (j, word, rest) = rw (next_is terminal.WhileNotEot i j word) refl
bare_begins (break at) i r bare (j, (x, h, is), end) = rw (is, h.0) refl
bare_begins (continue at) i r bare (j, (x, h, is), end) = rw (is, h.0) refl

bare_no_bracket : (s : StatementTree) (i r : Symbols) → IsBare s → IsStatement s i r → sees terminal.LeftBracket i ≡ false
unfolding sees
bare_no_bracket s i r bare h = let begins = bare_begins s i r bare h in differ_by begins_bare (next i) terminal.LeftBracket (λ f. cc)

attributes_begin : (found : List AttributeTree) (i r : Symbols) → EachOfSome IsAttribute found i r → next i ≡ terminal.LeftBracket
attributes_begin [] i r h = absurd h
attributes_begin (a ∷ found) i r (j, (k, bracket, rest), more) = next_is terminal.LeftBracket i k bracket

pub statement_begins : (s : StatementTree) (i r : Symbols) → IsStatement s i r → begins_statement (next i) ≡ true
statement_begins (attributed found s) i r (bare, (j, all, h)) = rw (attributes_begin found i j all) refl
statement_begins s i r h = bare_states (next i) (bare_begins s i r tt h)

pub statement_other : (m : Terminal) (s : StatementTree) (i r : Symbols) → IsStatement s i r → begins_statement m ≡ false → sees m i ≡ false
unfolding sees
statement_other m s i r h e = let begins = statement_begins s i r h in differ_by begins_statement (next i) m (λ f. cc)

-- ---- attributes

argument_by_name : (m : Terminal) (i : Symbols) → is_name m ≡ true → attribute_argument_by m i ≡ and_then (name i) (λ x. pure (argument_form.Name x))
argument_by_name terminal.Literal i e = absurd cc
argument_by_name terminal.Str i e = absurd cc
argument_by_name _ i e = refl

attribute_argument_complete : (a : AttributeArgument) (i r : Symbols) → IsAttributeArgument a i r → attribute_argument i ≡ Ok (a, r)
unfolding attribute_argument
attribute_argument_complete (argument_form.Literal v w) i r (x, h, is) = let word : next i ≡ terminal.Literal = ap next is ∙ h.0 in rw word (then_is _ (v, w) r (literal_is v w i r (x, h, is)) refl)
attribute_argument_complete argument_form.Str i r h = rw (next_is terminal.Str i r h, dropped terminal.Str i r h) refl
attribute_argument_complete (argument_form.Name x) i r h = argument_by_name (next i) i (name_begins x i r h) ∙ then_is _ x r (name_is x i r h) refl

argument_no_end : (a : AttributeArgument) (i r : Symbols) → IsAttributeArgument a i r → sees terminal.RightParen i ≡ false
unfolding sees same
argument_no_end (argument_form.Literal v w) i r (x, h, is) = rw (is, h.0) refl
argument_no_end argument_form.Str i r h = rw (next_is terminal.Str i r h) refl
argument_no_end (argument_form.Name x) i r h = let begins = name_begins x i r h in differ_by is_name (next i) terminal.RightParen (λ f. cc)

-- ---- statements in a row

abbrev pub list_of : Statements → List StatementTree
list_of no_statement = []
list_of (statement_then s ss) = s ∷ list_of ss

pub of_list : (ss : Statements) → statements (list_of ss) ≡ ss
of_list no_statement = refl
of_list (statement_then s ss) = ap (statement_then s) (of_list ss)

each_of : (ss : Statements) (i r : Symbols) → AreStatements ss i r → Each IsStatement (list_of ss) i r
each_of no_statement i r is = is
each_of (statement_then s ss) i r (j, first, rest) = (j, first, each_of ss j r rest)

-- a statement, which opens a level at its first lexeme
abbrev over_open : (limit levels : ℕ) → Over IsStatement
over_open limit levels s i r k = one_more levels i (λ less. over_inside limit less s i r k)

over_all : (limit levels : ℕ) (ss : Statements) (i r : Symbols) (k : AreStatements ss i r)
    → over_each IsStatement (over_open limit levels) (list_of ss) i r (each_of ss i r k) ≡ over_statements limit levels ss i r k
unfolding over_each over_statements each_of
over_all limit levels no_statement i r k = refl
over_all limit levels (statement_then s ss) i r (j, first, rest) = ap (or_later (over_open limit levels s i j first)) (over_all limit levels ss j r rest)

-- ---- the head of a `for`

start_told : (limit levels : ℕ) (R : Readers) → LevelTells limit levels R → (s : StartTree) (i r : Symbols) (k : IsStart s i r) → next r ≡ terminal.Semicolon
    → Told (over_start limit levels s i r k) (s, r) (start R i)
unfolding start sees same
start_told limit levels R h no_start i r k ends = told_ok (if_true _ (is_seen terminal.Semicolon i (ap next k ∙ ends)) (ap (λ (j : Symbols). done (no_start, j)) k))
start_told limit levels R h (declare_start d) i r k ends =
    let begins = declaration_begins d i r k in
    told_false _ (differ_by begins_declaration (next i) terminal.Semicolon (λ f. cc)) (told_false _ (declares_no_act (next i) begins) (told_after _ d r (h.declaration d i r k ends) refl))
start_told limit levels R h (act_start a) i r k ends =
    let begins = action_begins a i r k in
    told_false _ (differ_by begins_action (next i) terminal.Semicolon (λ f. cc)) (told_true _ begins (told_after _ a r (h.action a i r k (ap stops ends)) refl))

test_told : (limit levels : ℕ) (R : Readers) → LevelTells limit levels R → (e : Option ExpressionTree) (i r : Symbols) (k : Maybe (IsExpression expression_level) e i r) → next r ≡ terminal.Semicolon
    → Told (over_maybe (IsExpression expression_level) (over_whole limit levels expression_level) e i r k) (e, r) (loop_test limit R i)
unfolding loop_test
test_told limit levels R h None i r is ends = told_ok (if_true _ (is_seen terminal.Semicolon i (ap next is ∙ ends)) (ap (λ (j : Symbols). done (None, j)) is))
test_told limit levels R h (Some e) i r is ends =
    told_false _ (begins_otherwise terminal.Semicolon i (expression_begins expression_level e i r (omega arith) is) refl)
    (told_after _ e r (whole_told expression_level levels limit R.expression h.expressions.expression i e r is (stop_ends expression_level (next r) (ap stops ends))) refl)

step_told : (limit levels : ℕ) (R : Readers) → LevelTells limit levels R → (a : Option ActionTree) (i r : Symbols) (k : Maybe IsAction a i r) → next r ≡ terminal.RightParen
    → Told (over_maybe IsAction (over_action limit levels) a i r k) (a, r) (step R i)
unfolding step sees
step_told limit levels R h None i r is ends = told_ok (if_true _ (is_seen terminal.RightParen i (ap next is ∙ ends)) (ap (λ (j : Symbols). done (None, j)) is))
step_told limit levels R h (Some a) i r is ends =
    let begins = action_begins a i r is in
    told_false _ (differ_by begins_action (next i) terminal.RightParen (λ f. cc)) (told_after _ a r (h.action a i r is (ap stops ends)) refl)

-- what stands behind a level with nothing in it that passes a limit
alone : (levels : ℕ) (i : Symbols) (w : Option Symbols) → one_more levels i (λ less. w) ≡ or_later (one_more levels i (λ less. None)) w
alone zero i w = refl
alone (suc levels) i w = refl

module _ (limit levels : ℕ) (inner : Option Readers) (h : LevelMayTell limit levels inner) where
  listed_told : (xs : List AttributeArgument) (i r : Symbols) → (Takes terminal.LeftParen ⨾ SeparatedOrNone (Takes terminal.Comma) IsAttributeArgument xs ⨾ Takes terminal.RightParen) i r
      → Told (one_more levels i (λ less. None)) (xs, r) (listed_arguments inner i)
  unfolding listed_arguments same
  listed_told xs i r (j, begin, (k, all, close)) =
      told_opened (LevelTells limit) _ levels inner terminal.LeftParen i j _ h begin
      (λ R less tells. told_ok
      (then_is _ xs k
      (separated_until_is terminal.Comma IsAttributeArgument attribute_argument (λ r. Unit {0}) (λ a i r k free. attribute_argument_complete a i r k) attribute_argument_longer
      (λ i j comma. tt) terminal.RightParen argument_no_end xs j k all
      (seen_is terminal.RightParen k r close) (sees_other terminal.RightParen terminal.Comma k r close refl) tt)
      (then_is _ tt r (expect_is terminal.RightParen k r close) refl)))

  attribute_arguments_told : (a : Option (List AttributeArgument)) (i r : Symbols) (k : AreAttributeArguments a i r) → sees terminal.LeftParen r ≡ false
      → Told (over_attribute_arguments limit levels a i r k) (a, r) (attribute_arguments inner i)
  unfolding attribute_arguments
  attribute_arguments_told None i r is free = told_ok (if_false _ (ap (sees terminal.LeftParen) is ∙ free) (ap (λ (j : Symbols). done (None, j)) is))
  attribute_arguments_told (Some xs) i r is free = told_true _ (seen_is terminal.LeftParen i is.0 is.1) (told_after _ xs r (listed_told xs i r is) refl)

  attribute_told : (a : AttributeTree) (i r : Symbols) (k : IsAttribute a i r) → Told (over_attribute limit levels a i r k) (a, r) (attribute inner i)
  unfolding attribute same
  attribute_told a i r (j, first, (k, second, (l, tapa, (o, scope, (p, is, (q, arguments, (s, third, last))))))) =
      told_behind _ tt j (expect_is terminal.LeftBracket i j first)
      (told_behind _ tt k (expect_is terminal.LeftBracket j k second)
      (told_behind _ tt l (expect_is terminal.Tapa k l tapa)
      (told_behind _ tt o (expect_is terminal.Scope l o scope)
      (told_behind _ a.name p (plain_is a.name o p is)
      (told_after _ a.arguments q (attribute_arguments_told a.arguments p q arguments (sees_other terminal.RightBracket terminal.LeftParen q s third refl))
      (then_is _ tt s (expect_is terminal.RightBracket q s third)
      (then_is _ tt r (expect_is terminal.RightBracket s r last) refl)))))))

  pub attributes_read : TellsAll IsAttribute (over_attribute limit levels) (sees terminal.LeftBracket) (attribute inner) (λ r. Unit {0})
  attributes_read = record {
    reads = λ a i r k free. attribute_told a i r k;
    begins = λ a i r k. (seen_is terminal.LeftBracket i k.0 k.1, tt);
    longer = attribute_longer;
  }

  -- ---- statements

  statement_told : (s : StatementTree) (i r : Symbols) (k : IsStatement s i r) → NoElse s r → Told (one_more levels i (λ less. over_inside limit less s i r k)) (s, r) (statement_with limit inner i)
  unfolding statement_with
  statement_told s i r k free = told_true _ (statement_begins s i r k) (told_entered (LevelTells limit) _ levels inner i _ h (λ R less tells. tells.inside s i r k free))

  one_statement_read : TellsAll IsStatement (over_open limit levels) (λ i. not (sees terminal.RightBrace i)) (statement_with limit inner) (λ r. sees terminal.Else r ≡ false)
  one_statement_read = record {
    reads = λ s i r k free. statement_told s i r k (inr free);
    begins = λ s i r k. (ap not (statement_other terminal.RightBrace s i r k refl), statement_other terminal.Else s i r k refl);
    longer = statement_longer;
  }

  pub statements_told : (ss : Statements) (i r : Symbols) (k : AreStatements ss i r) → next r ≡ terminal.RightBrace
      → Told (over_statements limit levels ss i r k) (list_of ss, r) (statements_with limit inner i)
  unfolding sees same
  statements_told ss i r k ends =
      told_over (over_all limit levels ss i r k)
      (repeat_told IsStatement (over_open limit levels) (λ i. not (sees terminal.RightBrace i)) (statement_with limit inner) (λ r. sees terminal.Else r ≡ false) one_statement_read (list_of ss) i r
      (each_of ss i r k) (rw ends refl) (rw ends refl))

  simple_by : (m : Terminal) (i : Symbols) → (begins_action m || begins_declaration m) ≡ true → bare_by limit inner m i ≡ simple limit inner i
  simple_by terminal.Semicolon i e = absurd cc
  simple_by terminal.LeftBrace i e = absurd cc
  simple_by terminal.If i e = absurd cc
  simple_by terminal.While i e = absurd cc
  simple_by terminal.For i e = absurd cc
  simple_by terminal.WhileNotEot i e = absurd cc
  simple_by terminal.Break i e = absurd cc
  simple_by terminal.Continue i e = absurd cc
  simple_by _ i e = refl

  declare_told : (d : DeclarationTree) (i j r : Symbols) (k : IsDeclaration d i j) → Takes terminal.Semicolon j r → Told (over_declaration limit levels d i j k) (declare d, r) (bare limit inner i)
  unfolding bare simple
  declare_told d i j r k end =
      let begins = declaration_begins d i j k in
      let acts_not = declares_no_act (next i) begins in
      told_by (simple_by (next i) i (rw acts_not begins))
      (told_false _ acts_not (told_after _ d j (declaration_told limit levels inner h d i j k (next_is terminal.Semicolon j r end)) (then_is _ tt r (expect_is terminal.Semicolon j r end) refl)))

  act_told : (a : ActionTree) (i j r : Symbols) (k : IsAction a i j) → Takes terminal.Semicolon j r → Told (over_action limit levels a i j k) (act a, r) (bare limit inner i)
  unfolding bare simple
  act_told a i j r k end =
      let acts = action_begins a i j k in
      told_by (simple_by (next i) i (rw acts refl))
      (told_true _ acts (told_after _ a j (action_told limit levels inner h a i j k (ap stops (next_is terminal.Semicolon j r end))) (then_is _ tt r (expect_is terminal.Semicolon j r end) refl)))

  block_told : (ss : Statements) (i j l r : Symbols) → Takes terminal.LeftBrace i j → (all : AreStatements ss j l) → Takes terminal.RightBrace l r
      → Told (over_statements limit levels ss j l all) (block ss, r) (bare limit inner i)
  unfolding bare braces
  block_told ss i j l r begin all end =
      rw (next_is terminal.LeftBrace i j begin, dropped terminal.LeftBrace i j begin)
      (told_after _ (list_of ss) l (statements_told ss j l all (next_is terminal.RightBrace l r end))
      (then_is _ tt r (expect_is terminal.RightBrace l r end) (ap (λ xs. done (block xs, r)) (of_list ss))))

  if_only_told : (c : ExpressionTree) (s : StatementTree) (i r : Symbols) (k : IsStatement (if_only c s) i r) → sees terminal.Else r ≡ false
      → Told (over_inside limit levels (if_only c s) i r k) (if_only c s, r) (bare limit inner i)
  unfolding bare choice otherwise over_inside
  if_only_told c s i r (j, word, (l, begin, (o, test, (p, close, body)))) free =
      rw (next_is terminal.If i j word, dropped terminal.If i j word)
      (told_then _ c p (condition_told limit levels inner h c j l o p begin test close) (told_after _ s r (statement_told s p r body (inr free)) (if_false _ free refl)))

  if_else_told : (c : ExpressionTree) (s t : StatementTree) (i r : Symbols) (k : IsStatement (if_else c s t) i r) → NoElse t r
      → Told (over_inside limit levels (if_else c s t) i r k) (if_else c s t, r) (bare limit inner i)
  unfolding bare choice otherwise over_inside
  if_else_told c s t i r (closed, (j, word, (l, begin, (o, test, (p, close, (q, first, (u, other, second))))))) free =
      rw (next_is terminal.If i j word, dropped terminal.If i j word)
      (told_then _ c p (condition_told limit levels inner h c j l o p begin test close)
      (told_then _ s q (statement_told s p q first (inl closed))
      (told_true _ (seen_is terminal.Else q u other) (rw (dropped terminal.Else q u other) (told_after _ t r (statement_told t u r second free) refl)))))

  while_told : (c : ExpressionTree) (s : StatementTree) (i r : Symbols) (k : IsStatement (while c s) i r) → NoElse s r
      → Told (over_inside limit levels (while c s) i r k) (while c s, r) (bare limit inner i)
  unfolding bare repetition over_inside
  while_told c s i r (j, word, (l, begin, (o, test, (p, close, body)))) free =
      rw (next_is terminal.While i j word, dropped terminal.While i j word)
      (told_then _ c p (condition_told limit levels inner h c j l o p begin test close) (told_after _ s r (statement_told s p r body free) refl))

  head_told : (head : HeadTree) (i j k r : Symbols) → Takes terminal.LeftParen i j → (inside : IsHead head j k) → Takes terminal.RightParen k r
      → Told (one_more levels i (λ less. over_head limit less head j k inside)) (head, r) (spec.head limit inner i)
  unfolding spec.head over_head
  head_told head i j k r begin (l, start, (o, first, (p, test, (q, second, step)))) close =
      told_opened (LevelTells limit) _ levels inner terminal.LeftParen i j _ h begin
      (λ R less tells. told_then _ head.start l (start_told limit less R tells head.start j l start (next_is terminal.Semicolon l o first))
      (told_behind _ tt o (expect_is terminal.Semicolon l o first)
      (told_then _ head.test p (test_told limit less R tells head.test o p test (next_is terminal.Semicolon p q second))
      (told_behind _ tt q (expect_is terminal.Semicolon p q second)
      (told_after _ head.step k (step_told limit less R tells head.step q k step (next_is terminal.RightParen k r close))
      (then_is _ tt r (expect_is terminal.RightParen k r close) refl))))))

  for_told : (head : HeadTree) (s : StatementTree) (i r : Symbols) (k : IsStatement (for head s) i r) → NoElse s r
      → Told (over_inside limit levels (for head s) i r k) (for head s, r) (bare limit inner i)
  unfolding bare counting_loop over_inside
  for_told head s i r (j, word, (l, begin, (o, inside, (p, close, body)))) free =
      rw (next_is terminal.For i j word, dropped terminal.For i j word)
      (told_then _ head p (head_told head j l o p begin inside close) (told_after _ s r (statement_told s p r body free) refl))

  while_not_eot_told : (x : Name) (s : StatementTree) (i r : Symbols) (k : IsStatement (while_not_eot x s) i r) → NoElse s r
      → Told (over_inside limit levels (while_not_eot x s) i r k) (while_not_eot x s, r) (bare limit inner i)
  unfolding bare transaction_loop over_inside
  while_not_eot_told x s i r (j, word, (l, begin, (o, stream, (p, close, body)))) free =
      rw (next_is terminal.WhileNotEot i j word, dropped terminal.WhileNotEot i j word)
      (told_over (alone levels j (over_open limit levels s p r body))
      (told_opened (LevelTells limit) _ levels inner terminal.LeftParen j l (λ less. over_open limit levels s p r body) h begin
      (λ R less tells. told_behind _ x o (name_is x l o stream)
      (told_behind _ tt p (expect_is terminal.RightParen o p close)
      (told_after _ s r (statement_told s p r body free) refl)))))

  jump_is : (m : Terminal) (at : Place) (i j r : Symbols) → TakesAt m at i j → Takes terminal.Semicolon j r → jump i ≡ Ok (at, r)
  unfolding jump
  jump_is m at i j r (x, h, is) end = rw is (then_is _ tt r (expect_is terminal.Semicolon j r end) (ap (λ p. done (p, r)) h.1))

  bare_told : (s : StatementTree) (i r : Symbols) → IsBare s → (k : IsStatement s i r) → NoElse s r → Told (over_inside limit levels s i r k) (s, r) (bare limit inner i)
  unfolding bare over_inside
  bare_told (attributed found s) i r is_bare k free = absurd is_bare
  bare_told empty i r is_bare k free = told_ok (rw (next_is terminal.Semicolon i r k, dropped terminal.Semicolon i r k) refl)
  bare_told (block ss) i r is_bare (j, begin, (l, all, end)) free = block_told ss i j l r begin all end
  bare_told (declare d) i r is_bare (j, k, end) free = declare_told d i j r k end
  bare_told (act a) i r is_bare (j, k, end) free = act_told a i j r k end
  bare_told (if_only c s) i r is_bare k (inl closed) = absurd closed
  bare_told (if_only c s) i r is_bare k (inr free) = if_only_told c s i r k free
  bare_told (if_else c s t) i r is_bare k free = if_else_told c s t i r k free
  bare_told (while c s) i r is_bare k free = while_told c s i r k free
  bare_told (for head s) i r is_bare k free = for_told head s i r k free
  bare_told (while_not_eot x s) i r is_bare k free = while_not_eot_told x s i r k free
  bare_told (break at) i r is_bare k free =
      let word : next i ≡ terminal.Break = ap next k.1.2 ∙ k.1.1.0 in
      told_ok (rw word (then_is _ at r (jump_is terminal.Break at i k.0 r k.1 k.2) refl))
  bare_told (continue at) i r is_bare k free =
      let word : next i ≡ terminal.Continue = ap next k.1.2 ∙ k.1.1.0 in
      told_ok (rw word (then_is _ at r (jump_is terminal.Continue at i k.0 r k.1 k.2) refl))

  inside_told : (s : StatementTree) (i r : Symbols) (k : IsStatement s i r) → NoElse s r → Told (over_inside limit levels s i r k) (s, r) (inside_with limit inner i)
  unfolding inside_with over_inside
  inside_told (attributed found s) i r (is_bare, (j, all, body)) free =
      told_true _ (is_seen terminal.LeftBracket i (attributes_begin found i j all))
      (told_then _ found j (repeat_some_told IsAttribute (over_attribute limit levels) (sees terminal.LeftBracket) (attribute inner) (λ r. Unit {0}) attributes_read found i j all
      (bare_no_bracket s j r is_bare body) tt)
      (told_after _ s r (bare_told s j r is_bare body free) refl))
  inside_told s i r k free = told_false _ (bare_no_bracket s i r tt k) (bare_told s i r tt k free)

  -- the readers of this level
  pub level_tells : LevelTells limit levels (readers limit inner)
  level_tells = record {
    expressions = record { unary = unary_told levels inner (may_be limit levels inner h); expression = expression_told levels inner (may_be limit levels inner h) };
    place = place_told limit levels inner h;
    action = action_told limit levels inner h;
    declaration = declaration_told limit levels inner h;
    inside = inside_told;
  }

pub below_tells : (limit levels : ℕ) → LevelMayTell limit levels (below_levels limit levels)
unfolding below_levels
below_tells limit zero = tt
below_tells limit (suc levels) = level_tells limit levels (below_levels limit levels) (below_tells limit levels)
