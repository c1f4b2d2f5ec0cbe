-- Each part of a body takes symbols.
use Rattle.std.proofs.Common.{◌<◌, ◌≤◌, Bool, true, false, List, [], ◌∷◌, length, Option, Some, None, ap, arith}
use Rattle.tapa_syntax.specs.declared.terminal.Terminal.{Terminal}
use Rattle.tapa_syntax.specs.declared.terminal.Terminal.TheVariants as terminal
use Rattle.tapa_syntax.specs.declared.tree.AttributeArgument.{AttributeArgument}
use Rattle.tapa_syntax.specs.declared.tree.AttributeArgument.TheVariants as argument_form
use Rattle.tapa_base.specs.Spans.{◌⨾◌, Maybe, When, Each, EachOfSome, Separated, SeparatedOrNone}
use Rattle.tapa_syntax.specs.Trees.{ActionTree, call_action, write, read, assign, postfix, prefix_step, DeclarationTree, AttributeTree, StartTree, no_start, declare_start, act_start, HeadTree, StatementTree, attributed, empty, block, declare, act, if_only, if_else, while, for, while_not_eot, break, continue, Statements, no_statement, statement_then}
use Rattle.tapa_syntax.specs.Grammar.{Part, Takes, IsExpression, sum_level, expression_level, argument_level, IsPlace, IsAction, IsDeclarator, IsDeclaration, IsAttributeArgument, AreAttributeArguments, IsAttribute, IsStart, IsHead, IsStatement, AreStatements}
use Rattle.tapa_parse_expression.proofs.Parts.{Symbols}
use Rattle.tapa_parse_expression.proofs.CompleteTypes.{takes_longer, type_longer}
use Rattle.tapa_parse_expression.proofs.CompleteLevels.{expression_longer}
use Rattle.tapa_parse.proofs.CompleteActions.{name_longer, place_longer, declarator_longer}

-- each of these parts has a symbol
abbrev pub HaveSymbols : {A : Type 0} → (A → Part) → Type 0
HaveSymbols {A} P = (x : A) (i r : Symbols) → P x i r → length r < length i

pub each_longer : {A : Type 0} (P : A → Part) → HaveSymbols P → (xs : List A) (i r : Symbols) → Each P xs i r → length r ≤ length i
each_longer P h [] i r is = omega (arith, ap length is)
each_longer P h (x ∷ xs) i r (j, first, rest) = omega (arith, h x i j first, each_longer P h xs j r rest)

pub some_longer : {A : Type 0} (P : A → Part) → HaveSymbols P → (xs : List A) (i r : Symbols) → EachOfSome P xs i r → length r < length i
some_longer P h [] i r is = absurd is
some_longer P h (x ∷ xs) i r (j, first, rest) = omega (arith, h x i j first, each_longer P h xs j r rest)

pub behind_longer : {A : Type 0} (m : Terminal) (P : A → Part) → HaveSymbols P → HaveSymbols (λ x. Takes m ⨾ P x)
behind_longer m P h x i r (j, between, part) = omega (arith, takes_longer m i j between, h x j r part)

pub separated_longer : {A : Type 0} (m : Terminal) (P : A → Part) → HaveSymbols P → (xs : List A) (i r : Symbols) → Separated (Takes m) P xs i r → length r < length i
separated_longer m P h [] i r is = absurd is
separated_longer m P h (x ∷ xs) i r (j, first, rest) = omega (arith, h x i j first, each_longer (λ y. Takes m ⨾ P y) (behind_longer m P h) xs j r rest)

pub listed_longer : {A : Type 0} (m : Terminal) (P : A → Part) → HaveSymbols P → (xs : List A) (i r : Symbols) → SeparatedOrNone (Takes m) P xs i r → length r ≤ length i
listed_longer m P h [] i r is = omega (arith, ap length is)
listed_longer m P h (x ∷ xs) i r (j, first, rest) = omega (arith, h x i j first, each_longer (λ y. Takes m ⨾ P y) (behind_longer m P h) xs j r rest)

pub maybe_longer : {A : Type 0} (P : A → Part) → HaveSymbols P → (x : Option A) (i r : Symbols) → Maybe P x i r → length r ≤ length i
maybe_longer P h None i r is = omega (arith, ap length is)
maybe_longer P h (Some x) i r part = omega (arith, h x i r part)

pub when_longer : (b : Bool) (m : Terminal) (i r : Symbols) → When b (Takes m) i r → length r ≤ length i
when_longer true m i r t = omega (arith, takes_longer m i r t)
when_longer false m i r is = omega (arith, ap length is)

pub action_longer : (a : ActionTree) (i r : Symbols) → IsAction a i r → length r < length i
action_longer (call_action x method es) i r (j, stream, (k, dot, (l, (s, h, is), (o, begin, (p, all, close))))) =
    omega (arith, name_longer x i j stream, takes_longer terminal.Dot j k dot, ap length is, takes_longer terminal.LeftParen l o begin, listed_longer terminal.Comma (IsExpression argument_level) (expression_longer argument_level) es o p all, takes_longer terminal.RightParen p r close)
action_longer (write x es) i r (j, stream, all) =
    omega (arith, name_longer x i j stream, some_longer (λ e. Takes terminal.ShiftLeft ⨾ IsExpression sum_level e) (behind_longer terminal.ShiftLeft (IsExpression sum_level) (expression_longer sum_level)) es j r all)
action_longer (read x places) i r (j, stream, all) =
    omega (arith, name_longer x i j stream, some_longer (λ p. Takes terminal.ShiftRight ⨾ IsPlace p) (behind_longer terminal.ShiftRight IsPlace place_longer) places j r all)
action_longer (assign p o at e) i r (j, target, (k, (s, h, is), value)) = omega (arith, place_longer p i j target, ap length is, expression_longer expression_level e k r value)
action_longer (postfix p step at) i r (j, target, (s, h, is)) = omega (arith, place_longer p i j target, ap length is)
action_longer (prefix_step step at p) i r (j, (s, h, is), target) = omega (arith, place_longer p j r target, ap length is)

pub declaration_longer : (d : DeclarationTree) (i r : Symbols) → IsDeclaration d i r → length r < length i
declaration_longer d i r (j, word, (k, type, names)) = omega (arith, when_longer d.constant terminal.Const i j word, type_longer d.kind j k type, separated_longer terminal.Comma IsDeclarator declarator_longer d.names k r names)

pub attribute_argument_longer : (a : AttributeArgument) (i r : Symbols) → IsAttributeArgument a i r → length r < length i
attribute_argument_longer (argument_form.Literal v w) i r (x, h, is) = omega (arith, ap length is)
attribute_argument_longer argument_form.Str i r h = takes_longer terminal.Str i r h
attribute_argument_longer (argument_form.Name x) i r h = name_longer x i r h

attribute_arguments_longer : (a : Option (List AttributeArgument)) (i r : Symbols) → AreAttributeArguments a i r → length r ≤ length i
attribute_arguments_longer None i r is = omega (arith, ap length is)
attribute_arguments_longer (Some xs) i r (j, begin, (k, all, close)) =
    omega (arith, takes_longer terminal.LeftParen i j begin, listed_longer terminal.Comma IsAttributeArgument attribute_argument_longer xs j k all, takes_longer terminal.RightParen k r close)

pub attribute_longer : (a : AttributeTree) (i r : Symbols) → IsAttribute a i r → length r < length i
attribute_longer a i r (j, first, (k, second, (l, tapa, (o, scope, (p, (x, h, is), (q, arguments, (s, third, last))))))) =
    omega (arith, takes_longer terminal.LeftBracket i j first, takes_longer terminal.LeftBracket j k second, takes_longer terminal.Tapa k l tapa, takes_longer terminal.Scope l o scope, ap length is, attribute_arguments_longer a.arguments p q arguments, takes_longer terminal.RightBracket q s third, takes_longer terminal.RightBracket s r last)

start_longer : (s : StartTree) (i r : Symbols) → IsStart s i r → length r ≤ length i
start_longer no_start i r is = omega (arith, ap length is)
start_longer (declare_start d) i r h = omega (arith, declaration_longer d i r h)
start_longer (act_start a) i r h = omega (arith, action_longer a i r h)

head_longer : (head : HeadTree) (i r : Symbols) → IsHead head i r → length r < length i
head_longer head i r (j, start, (k, first, (l, test, (o, second, step)))) =
    omega (arith, start_longer head.start i j start, takes_longer terminal.Semicolon j k first, maybe_longer (IsExpression expression_level) (expression_longer expression_level) head.test k l test, takes_longer terminal.Semicolon l o second, maybe_longer IsAction action_longer head.step o r step)

mutual
  pub statement_longer : (s : StatementTree) (i r : Symbols) → IsStatement s i r → length r < length i
  statement_longer (attributed found s) i r (bare, (j, all, h)) = omega (arith, some_longer IsAttribute attribute_longer found i j all, statement_longer s j r h)
  statement_longer empty i r h = takes_longer terminal.Semicolon i r h
  statement_longer (block ss) i r (j, begin, (k, all, close)) = omega (arith, takes_longer terminal.LeftBrace i j begin, statements_longer ss j k all, takes_longer terminal.RightBrace k r close)
  statement_longer (declare d) i r (j, h, end) = omega (arith, declaration_longer d i j h, takes_longer terminal.Semicolon j r end)
  statement_longer (act a) i r (j, h, end) = omega (arith, action_longer a i j h, takes_longer terminal.Semicolon j r end)
  statement_longer (if_only c s) i r (j, word, (k, begin, (l, test, (o, close, h)))) =
      omega (arith, takes_longer terminal.If i j word, takes_longer terminal.LeftParen j k begin, expression_longer expression_level c k l test, takes_longer terminal.RightParen l o close, statement_longer s o r h)
  statement_longer (if_else c s t) i r (closed, (j, word, (k, begin, (l, test, (o, close, (p, h, (q, other, g))))))) =
      omega (arith, takes_longer terminal.If i j word, takes_longer terminal.LeftParen j k begin, expression_longer expression_level c k l test, takes_longer terminal.RightParen l o close, statement_longer s o p h, takes_longer terminal.Else p q other, statement_longer t q r g)
  statement_longer (while c s) i r (j, word, (k, begin, (l, test, (o, close, h)))) =
      omega (arith, takes_longer terminal.While i j word, takes_longer terminal.LeftParen j k begin, expression_longer expression_level c k l test, takes_longer terminal.RightParen l o close, statement_longer s o r h)
  statement_longer (for head s) i r (j, word, (k, begin, (l, inside, (o, close, h)))) =
      omega (arith, takes_longer terminal.For i j word, takes_longer terminal.LeftParen j k begin, head_longer head k l inside, takes_longer terminal.RightParen l o close, statement_longer s o r h)
  statement_longer (while_not_eot x s) i r (j, word, (k, begin, (l, stream, (o, close, h)))) =
      omega (arith, takes_longer terminal.WhileNotEot i j word, takes_longer terminal.LeftParen j k begin, name_longer x k l stream, takes_longer terminal.RightParen l o close, statement_longer s o r h)
  statement_longer (break at) i r (j, (x, h, is), end) = omega (arith, ap length is, takes_longer terminal.Semicolon j r end)
  statement_longer (continue at) i r (j, (x, h, is), end) = omega (arith, ap length is, takes_longer terminal.Semicolon j r end)

  pub statements_longer : (ss : Statements) (i r : Symbols) → AreStatements ss i r → length r ≤ length i
  statements_longer no_statement i r is = omega (arith, ap length is)
  statements_longer (statement_then s ss) i r (j, first, rest) = omega (arith, statement_longer s i j first, statements_longer ss j r rest)
