-- What is spelled as an action or as a declaration is read, where it does not go on, or refused at the first lexeme that passes a limit.
use Rattle.std.proofs.Common.{◌≡◌, ℕ, zero, suc, ◌-◌, ◌<◌, ◌⊎◌, inl, inr, Bool, true, false, List, [], ◌∷◌, length, Option, Some, None, Ok, refl, ap, ◌∙◌, arith}
use Rattle.tapa_base.specs.declared.kind.Kind.{Kind}
use Rattle.tapa_base.specs.declared.kind.Kind.TheVariants as kind
use Rattle.tapa_base.specs.declared.text.Place.{Place}
use Rattle.tapa_syntax.specs.declared.terminal.Terminal.{Terminal}
use Rattle.tapa_syntax.specs.declared.terminal.Terminal.TheVariants as terminal
use Rattle.tapa_syntax.specs.declared.tree.Name.{Name}
use Rattle.tapa_syntax.specs.declared.tree.StepOperator.{StepOperator}
use Rattle.tapa_syntax.specs.declared.tree.AssignmentOperator.{AssignmentOperator}
use Rattle.tapa_base.specs.Spans.{◌⨾◌, When, EachOfSome, Separated, SeparatedOrNone}
use Rattle.tapa_syntax.specs.Trees.{ExpressionTree, PlaceTree, variable_place, element_place, ActionTree, call_action, write, read, assign, postfix, prefix_step, CountForm, literal_count, name_count, parenthesized_count, CountTree, DeclaratorTree, plain, initialized, array, DeclarationTree, StatementTree}
use Rattle.tapa_syntax.specs.Grammar.{Part, Takes, MeansAt, IsName, IsType, IsExpression, is_name, step_operator_of, assignment_operator_of, sum_level, expression_level, argument_level, IsPlace, IsAction, IsCountForm, IsCount, IsDeclarator, IsDeclaration, IsStatement, IsClosed}
use Rattle.tapa_syntax.specs.Limits.{operators}
use Rattle.tapa_parse_expression.specs.Readers.{and_then, pure, ◌>>◌, skip, next, same, sees, past, name}
use Rattle.tapa_parse_expression.specs.Reading.{Readers, argument, level, unary_with, expression_with, whole, place_from, place_with, call_arguments, assigned, acted_by, acted, stepped, action_with, form_by, counted, declarator_by, declarator, declaration_with}
use Rattle.tapa_parse_expression.specs.Reading as spec
use Rattle.tapa_parse_expression.specs.Passing.{one_more, or_later, over_listed, over_behind}
use Rattle.tapa_parse.specs.Passing.{over_whole, over_place, over_action, over_form, over_count, over_declarator, over_declaration, over_inside}
use Rattle.tapa_parse_expression.proofs.Parts.{Symbols, done, then_is, if_true, if_false, differ_by, next_is, seen_is, dropped, expect_is, past_is, past_none, name_is, plain_is, literal_is, Told, told_ok, told_by, told_true, told_behind, told_then, told_after, told_only}
use Rattle.tapa_parse_expression.proofs.CompleteLists.{TellsAll, TellsEach, repeat_some_told, separated_told, separated_until_told}
use Rattle.tapa_parse_expression.proofs.CompleteTypes.{extends_type, type_complete, takes_longer, sees_other}
use Rattle.tapa_parse_expression.proofs.CompleteLevels.{stops, stop_ends, ends_at, Ends, shift_ends_sum, ends_tighter, MayDo, expression_longer, Tells, AllTell, MayTell, told_entered, told_opened, level_told}
use Rattle.tapa_parse_expression.proofs.Begins.{begins_type, one_begins, name_begins}
use Rattle.tapa_parse_expression.proofs.CompleteExpressions.{argument_begins, stands, argument_told, in_parentheses_told, in_brackets_told, unary_told, expression_told, whole_told}

-- ---- what may stand behind

-- a terminal that ends each expression comes
abbrev pub Stops : Symbols → Type 0
Stops r = stops (next r) ≡ true

pub stops_at : (m : Terminal) (i j : Symbols) → Takes m i j → stops m ≡ true → Stops i
stops_at m i j t e = ap stops (next_is m i j t) ∙ e

pub stop_other : (m : Terminal) (r : Symbols) → Stops r → stops m ≡ false → sees m r ≡ false
unfolding sees
stop_other m r s e = differ_by stops (next r) m (λ f. cc)

-- an else would belong to an if that is open
abbrev pub NoElse : StatementTree → Symbols → Type 0
NoElse s r = IsClosed s ⊎ (sees terminal.Else r ≡ false)

name_extends : (m : Terminal) → is_name m ≡ true → extends_type m ≡ false
name_extends terminal.Int e = absurd cc
name_extends terminal.Short e = absurd cc
name_extends terminal.Long e = absurd cc
name_extends _ e = refl

pub name_behind : (x : Name) (i j : Symbols) → IsName x i j → extends_type (next i) ≡ false
name_behind x i j h = name_extends (next i) (name_begins x i j h)

-- ---- what readers are to do

pub record LevelTells (limit levels : ℕ) (R : Readers) : Type 0 where
  pub expressions : AllTell levels R
  pub place : (p : PlaceTree) (i r : Symbols) (k : IsPlace p i r) → sees terminal.LeftBracket r ≡ false → Told (over_place limit levels p i r k) (p, r) (R.place i)
  pub action : (a : ActionTree) (i r : Symbols) (k : IsAction a i r) → Stops r → Told (over_action limit levels a i r k) (a, r) (R.action i)
  pub declaration : (d : DeclarationTree) (i r : Symbols) (k : IsDeclaration d i r) → next r ≡ terminal.Semicolon → Told (over_declaration limit levels d i r k) (d, r) (R.declaration i)
  pub inside : (s : StatementTree) (i r : Symbols) (k : IsStatement s i r) → NoElse s r → Told (over_inside limit levels s i r k) (s, r) (R.inside i)

abbrev pub LevelMayTell : ℕ → ℕ → Option Readers → Type 0
LevelMayTell limit = MayDo (LevelTells limit)

pub may_be : (limit levels : ℕ) (inner : Option Readers) → LevelMayTell limit levels inner → MayTell levels inner
may_be limit zero None h = tt
may_be limit zero (Some R) h = absurd h
may_be limit (suc levels) None h = absurd h
may_be limit (suc levels) (Some R) h = h.expressions

-- ---- what an action begins with, and goes on with

-- behind the place that is written to
abbrev ends_target : Terminal → Bool
ends_target terminal.Dot = false
ends_target terminal.LeftBracket = false
ends_target terminal.ShiftLeft = false
ends_target terminal.ShiftRight = false
ends_target _ = true

assignment_ends : (m : Terminal) (o : AssignmentOperator) → assignment_operator_of m ≡ Some o → ends_target m ≡ true
assignment_ends terminal.Dot o e = absurd cc
assignment_ends terminal.LeftBracket o e = absurd cc
assignment_ends terminal.ShiftLeft o e = absurd cc
assignment_ends terminal.ShiftRight o e = absurd cc
assignment_ends _ o e = refl

step_ends : (m : Terminal) (s : StepOperator) → step_operator_of m ≡ Some s → ends_target m ≡ true
step_ends terminal.Dot s e = absurd cc
step_ends terminal.LeftBracket s e = absurd cc
step_ends terminal.ShiftLeft s e = absurd cc
step_ends terminal.ShiftRight s e = absurd cc
step_ends _ s e = refl

assignment_no_step : (m : Terminal) (o : AssignmentOperator) → assignment_operator_of m ≡ Some o → step_operator_of m ≡ None
assignment_no_step terminal.Increment o e = absurd cc
assignment_no_step terminal.Decrement o e = absurd cc
assignment_no_step _ o e = refl

pub step_no_name : (m : Terminal) (s : StepOperator) → step_operator_of m ≡ Some s → is_name m ≡ false
step_no_name terminal.Increment s e = refl
step_no_name terminal.Decrement s e = refl
step_no_name _ s e = absurd cc

target_no_index : (i : Symbols) → ends_target (next i) ≡ true → sees terminal.LeftBracket i ≡ false
unfolding sees
target_no_index i e = differ_by ends_target (next i) terminal.LeftBracket (λ f. cc)

some_next : {A : Type 0} (m : Terminal) (P : A → Part) (xs : List A) (i r : Symbols) → EachOfSome (λ x. Takes m ⨾ P x) xs i r → next i ≡ m
some_next m P [] i r h = absurd h
some_next m P (x ∷ xs) i r (j, (k, t, p), rest) = next_is m i k t

-- ---- places

pub name_longer : (x : Name) (i r : Symbols) → IsName x i r → length r < length i
name_longer x i r (s, h, is) = omega (arith, ap length is)

pub place_longer : (p : PlaceTree) (i r : Symbols) → IsPlace p i r → length r < length i
place_longer (variable_place x) i r h = name_longer x i r h
place_longer (element_place x e) i r (j, h, (k, begin, (l, inside, close))) =
    omega (arith, name_longer x i j h, takes_longer terminal.LeftBracket j k begin, expression_longer expression_level e k l inside, takes_longer terminal.RightBracket l r close)

-- ---- declarations

pub type_begins : (k : Kind) (i r : Symbols) → IsType k i r → begins_type (next i) ≡ true
type_begins k i r (inl h) = one_begins k i r h
type_begins kind.U32 i r (inr (j, first, rest)) = rw (next_is terminal.Unsigned i j first) refl
type_begins kind.U16 i r (inr (j, first, rest)) = rw (next_is terminal.Unsigned i j first) refl
type_begins kind.U64 i r (inr (j, first, rest)) = rw (next_is terminal.Unsigned i j first) refl
type_begins kind.I16 i r (inr (j, first, rest)) = rw (next_is terminal.Short i j first) refl
type_begins kind.I64 i r (inr (j, first, rest)) = rw (next_is terminal.Long i j first) refl
type_begins _ i r (inr h) = absurd h

-- a terminal that begins no type is not seen before one
pub type_other : (k : Kind) (m : Terminal) (i r : Symbols) → IsType k i r → begins_type m ≡ false → sees m i ≡ false
unfolding sees
type_other k m i r h e = let begins = type_begins k i r h in differ_by begins_type (next i) m (λ f. cc)

-- `const` is there or not
pub const_is : (b : Bool) (i j : Symbols) → When b (Takes terminal.Const) i j → sees terminal.Const j ≡ false → (sees terminal.Const i ≡ b) × (past terminal.Const i ≡ j)
const_is true i j t e = (seen_is terminal.Const i j t, past_is terminal.Const i j t)
const_is false i j is e = rw is (e, past_none terminal.Const j e)

declarator_begins : (d : DeclaratorTree) (i r : Symbols) → IsDeclarator d i r → extends_type (next i) ≡ false
declarator_begins (plain x) i r h = name_behind x i r h
declarator_begins (initialized x e) i r (j, h, rest) = name_behind x i j h
declarator_begins (array x count) i r (j, h, rest) = name_behind x i j h

names_begin : (ds : List DeclaratorTree) (i r : Symbols) → Separated (Takes terminal.Comma) IsDeclarator ds i r → extends_type (next i) ≡ false
names_begin [] i r h = absurd h
names_begin (d ∷ ds) i r (j, h, rest) = declarator_begins d i j h

pub form_longer : (f : CountForm) (i r : Symbols) → IsCountForm f i r → length r < length i
form_longer (literal_count v w) i r (x, h, is) = omega (arith, ap length is)
form_longer (name_count x) i r h = name_longer x i r h
form_longer (parenthesized_count e) i r (j, begin, (k, inside, close)) = omega (arith, takes_longer terminal.LeftParen i j begin, expression_longer expression_level e j k inside, takes_longer terminal.RightParen k r close)

pub declarator_longer : (d : DeclaratorTree) (i r : Symbols) → IsDeclarator d i r → length r < length i
declarator_longer (plain x) i r h = name_longer x i r h
declarator_longer (initialized x e) i r (j, h, (k, sign, value)) = omega (arith, name_longer x i j h, takes_longer terminal.Assign j k sign, expression_longer expression_level e k r value)
declarator_longer (array x count) i r (j, h, (k, begin, (l, inside, close))) =
    omega (arith, name_longer x i j h, takes_longer terminal.LeftBracket j k begin, form_longer count.form k l inside.1, takes_longer terminal.RightBracket l r close)

abbrev count_tree : Place → CountForm → CountTree
count_tree at f = record { place = at; form = f }

module _ (limit levels : ℕ) (inner : Option Readers) (h : LevelMayTell limit levels inner) where
  pub whole_expression_told : (e : ExpressionTree) (i r : Symbols) (k : IsExpression expression_level e i r) → Stops r
      → Told (over_whole limit levels expression_level e i r k) (e, r) (spec.whole_expression limit inner i)
  whole_expression_told e i r k stop =
      whole_told expression_level levels limit (expression_with inner) (expression_told levels inner (may_be limit levels inner h)) i e r k (stop_ends expression_level (next r) stop)

  pub condition_told : (e : ExpressionTree) (i j k r : Symbols) → Takes terminal.LeftParen i j → (inside : IsExpression expression_level e j k) → Takes terminal.RightParen k r
      → Told (one_more levels i (λ less. over_whole limit less expression_level e j k inside)) (e, r) (spec.condition limit inner i)
  condition_told e i j k r begin inside close = told_after _ (e, limit - operators e) r (in_parentheses_told levels inner (may_be limit levels inner h) limit e i j k r begin inside close) refl

  index_told : (e : ExpressionTree) (i j k r : Symbols) → Takes terminal.LeftBracket i j → (inside : IsExpression expression_level e j k) → Takes terminal.RightBracket k r
      → Told (one_more levels i (λ less. over_whole limit less expression_level e j k inside)) (e, r) (spec.index limit inner i)
  index_told e i j k r begin inside close = told_after _ (e, limit - operators e) r (in_brackets_told levels inner (may_be limit levels inner h) limit e i j k r begin inside close) refl

  -- a place behind its name
  no_index : (x : Name) (i : Symbols) → sees terminal.LeftBracket i ≡ false → place_from limit inner x i ≡ Ok (variable_place x, i)
  unfolding place_from
  no_index x i free = if_false _ free refl

  indexed : (x : Name) (e : ExpressionTree) (i j k r : Symbols) → Takes terminal.LeftBracket i j → (inside : IsExpression expression_level e j k) → Takes terminal.RightBracket k r
      → Told (one_more levels i (λ less. over_whole limit less expression_level e j k inside)) (element_place x e, r) (place_from limit inner x i)
  unfolding place_from
  indexed x e i j k r begin inside close = told_true _ (seen_is terminal.LeftBracket i j begin) (told_after _ e r (index_told e i j k r begin inside close) refl)

  pub place_told : (p : PlaceTree) (i r : Symbols) (k : IsPlace p i r) → sees terminal.LeftBracket r ≡ false → Told (over_place limit levels p i r k) (p, r) (place_with limit inner i)
  unfolding place_with
  place_told (variable_place x) i r k free = told_ok (then_is _ x r (name_is x i r k) (no_index x r free))
  place_told (element_place x e) i r (a, named, (b, begin, (c, inside, close))) free = told_behind _ x a (name_is x i a named) (indexed x e a b c r begin inside close)

  -- ---- actions

  to_acted : (x : Name) (i j : Symbols) → IsName x i j → action_with limit inner i ≡ acted limit inner x j
  unfolding action_with
  to_acted x i j is = if_true _ (name_begins x i j is) (then_is _ x j (name_is x i j is) refl)

  by_target : (m : Terminal) (x : Name) (i : Symbols) → ends_target m ≡ true → acted_by limit inner m x i ≡ and_then (place_from limit inner x i) (assigned limit inner)
  by_target terminal.Dot x i e = absurd cc
  by_target terminal.LeftBracket x i e = absurd cc
  by_target terminal.ShiftLeft x i e = absurd cc
  by_target terminal.ShiftRight x i e = absurd cc
  by_target _ x i e = refl

  to_assigned : {w : Option Symbols} {y : ActionTree × Symbols} (p : PlaceTree) (i j : Symbols) (k : IsPlace p i j) → ends_target (next j) ≡ true → Told w y (assigned limit inner p j)
      → Told (or_later (over_place limit levels p i j k) w) y (action_with limit inner i)
  unfolding acted
  to_assigned (variable_place x) i j is ends t = told_by (to_acted x i j is ∙ by_target (next j) x j ends) (told_behind _ (variable_place x) j (no_index x j (target_no_index j ends)) t)
  to_assigned (element_place x e) i j (a, named, (b, begin, (c, inside, close))) ends t =
      told_by (to_acted x i a named) (rw (next_is terminal.LeftBracket a b begin) (told_then _ (element_place x e) j (indexed x e a b c j begin inside close) t))

  values_read : (R : Readers) (less : ℕ) → AllTell less R
      → TellsEach (IsExpression argument_level) (over_whole limit less argument_level) (whole (argument R) limit) (λ r. Ends argument_level (next r))
  values_read R less tells = record { reads = λ e i r k ends. whole_told argument_level less limit (argument R) at i e r k ends; longer = expression_longer argument_level }
    where
      at : Tells argument_level less (argument R)
      at = record { on = λ n i e r k ends. argument_told less R tells n i e r k (ends_tighter expression_level (next r) ends) }

  call_arguments_told : (es : List ExpressionTree) (i j k r : Symbols) → Takes terminal.LeftParen i j → (all : SeparatedOrNone (Takes terminal.Comma) (IsExpression argument_level) es j k)
      → Takes terminal.RightParen k r
      → Told (one_more levels i (λ less. over_listed (Takes terminal.Comma) (IsExpression argument_level) (over_whole limit less argument_level) es j k all)) (es, r) (call_arguments limit inner i)
  unfolding call_arguments same
  call_arguments_told es i j k r begin all close =
      told_opened (LevelTells limit) _ levels inner terminal.LeftParen i j _ h begin
      (λ R less tells. told_after _ es k
      (separated_until_told terminal.Comma (IsExpression argument_level) (over_whole limit less argument_level) (whole (argument R) limit) (λ r. Ends argument_level (next r))
      (values_read R less tells.expressions)
      (λ i j comma. ends_at argument_level terminal.Comma i j comma refl) terminal.RightParen argument_begins es j k all
      (seen_is terminal.RightParen k r close) (sees_other terminal.RightParen terminal.Comma k r close refl) (ends_at argument_level terminal.RightParen k r close refl))
      (then_is _ tt r (expect_is terminal.RightParen k r close) refl))

  sums_read : TellsAll (λ e. Takes terminal.ShiftLeft ⨾ IsExpression sum_level e) (over_behind (Takes terminal.ShiftLeft) (IsExpression sum_level) (over_whole limit levels sum_level))
      (sees terminal.ShiftLeft) (skip >> spec.sum limit inner) (λ r. Ends sum_level (next r))
  sums_read = record {
    reads = λ e i r k ends.
        told_by (ap (spec.sum limit inner) (dropped terminal.ShiftLeft i k.0 k.1))
        (whole_told sum_level levels limit (level (unary_with inner) sum_level)
        (level_told (unary_with inner) levels (unary_told levels inner (may_be limit levels inner h)) sum_level (omega arith)) k.0 e r k.2 ends);
    begins = λ e i r k. (seen_is terminal.ShiftLeft i k.0 k.1, rw (next_is terminal.ShiftLeft i k.0 k.1) shift_ends_sum);
    longer = λ e i r k. omega (arith, takes_longer terminal.ShiftLeft i k.0 k.1, expression_longer sum_level e k.0 r k.2);
  }

  targets_read : TellsAll (λ p. Takes terminal.ShiftRight ⨾ IsPlace p) (over_behind (Takes terminal.ShiftRight) IsPlace (over_place limit levels)) (sees terminal.ShiftRight)
      (skip >> place_with limit inner) (λ r. sees terminal.LeftBracket r ≡ false)
  unfolding same
  targets_read = record {
    reads = λ p i r k free. told_by (ap (place_with limit inner) (dropped terminal.ShiftRight i k.0 k.1)) (place_told p k.0 r k.2 free);
    begins = λ p i r k. (seen_is terminal.ShiftRight i k.0 k.1, sees_other terminal.ShiftRight terminal.LeftBracket i k.0 k.1 refl);
    longer = λ p i r k. omega (arith, takes_longer terminal.ShiftRight i k.0 k.1, place_longer p k.0 r k.2);
  }

  assigned_told : (p : PlaceTree) (o : AssignmentOperator) (at : Place) (e : ExpressionTree) (i j r : Symbols) → MeansAt assignment_operator_of o at i j → (k : IsExpression expression_level e j r)
      → Stops r
      → Told (over_whole limit levels expression_level e j r k) (assign p o at e, r) (assigned limit inner p i)
  unfolding assigned
  assigned_told p o at e i j r sign k stop =
      rw (sign.2, assignment_no_step sign.0.terminal o sign.1.0, sign.1.0) (told_after _ e r (whole_expression_told e j r k stop) (ap (λ q. done (assign p o q e, r)) sign.1.1))

  stepped_is : (p : PlaceTree) (s : StepOperator) (at : Place) (i j : Symbols) → MeansAt step_operator_of s at i j → assigned limit inner p i ≡ Ok (postfix p s at, j)
  unfolding assigned
  stepped_is p s at i j sign = rw (sign.2, sign.1.0) (ap (λ q. done (postfix p s q, j)) sign.1.1)

  prefix_told : (s : StepOperator) (at : Place) (p : PlaceTree) (i j r : Symbols) → MeansAt step_operator_of s at i j → (k : IsPlace p j r) → sees terminal.LeftBracket r ≡ false
      → Told (one_more levels i (λ less. over_place limit less p j r k)) (prefix_step s at p, r) (action_with limit inner i)
  unfolding action_with stepped
  prefix_told s at p i j r (x, (means, place), is) k free =
      rw (is, step_no_name x.terminal s means, means)
      (told_entered (LevelTells limit) _ levels inner (x ∷ j) _ h (λ R less tells. told_after _ p r (tells.place p j r k free) (ap (λ q. done (prefix_step s q p, r)) place)))

  pub action_told : (a : ActionTree) (i r : Symbols) (k : IsAction a i r) → Stops r → Told (over_action limit levels a i r k) (a, r) (action_with limit inner i)
  unfolding acted over_action
  action_told (call_action stream method es) i r (j, named, (l, dot, (o, word, (q, begin, (t, all, close))))) stop =
      told_by (to_acted stream i j named)
      (rw (next_is terminal.Dot j l dot, dropped terminal.Dot j l dot)
      (told_behind _ method o (plain_is method l o word) (told_after _ es r (call_arguments_told es o q t r begin all close) refl)))
  action_told (write stream es) i r (j, named, all) stop =
      told_by (to_acted stream i j named)
      (rw (some_next terminal.ShiftLeft (IsExpression sum_level) es j r all)
      (told_after _ es r
      (repeat_some_told (λ e. Takes terminal.ShiftLeft ⨾ IsExpression sum_level e) (over_behind (Takes terminal.ShiftLeft) (IsExpression sum_level) (over_whole limit levels sum_level))
      (sees terminal.ShiftLeft) (skip >> spec.sum limit inner) (λ r. Ends sum_level (next r)) sums_read es j r all
      (stop_other terminal.ShiftLeft r stop refl) (stop_ends sum_level (next r) stop)) refl))
  action_told (read stream places) i r (j, named, all) stop =
      told_by (to_acted stream i j named)
      (rw (some_next terminal.ShiftRight IsPlace places j r all)
      (told_after _ places r
      (repeat_some_told (λ p. Takes terminal.ShiftRight ⨾ IsPlace p) (over_behind (Takes terminal.ShiftRight) IsPlace (over_place limit levels)) (sees terminal.ShiftRight)
      (skip >> place_with limit inner) (λ r. sees terminal.LeftBracket r ≡ false) targets_read places j r all
      (stop_other terminal.ShiftRight r stop refl) (stop_other terminal.LeftBracket r stop refl)) refl))
  action_told (assign target o at e) i r (j, place, (l, sign, value)) stop =
      let ends : ends_target (next j) ≡ true = rw sign.2 (assignment_ends sign.0.terminal o sign.1.0) in
      to_assigned target i j place ends (assigned_told target o at e j l r sign value stop)
  action_told (postfix target step at) i r (j, place, sign) stop =
      let ends : ends_target (next j) ≡ true = rw sign.2 (step_ends sign.0.terminal step sign.1.0) in
      told_only _ (to_assigned target i j place ends (told_ok (stepped_is target step at j r sign)))
  action_told (prefix_step step at target) i r (j, sign, place) stop = prefix_told step at target i j r sign place (stop_other terminal.LeftBracket r stop refl)

  -- ---- declarations

  by_name : (m : Terminal) (i : Symbols) → is_name m ≡ true → form_by limit inner m i ≡ and_then (name i) (λ x. pure (name_count x))
  by_name terminal.Literal i e = absurd cc
  by_name terminal.LeftParen i e = absurd cc
  by_name _ i e = refl

  form_told : (f : CountForm) (i r : Symbols) (k : IsCountForm f i r) → Told (over_form limit levels f i r k) (f, r) (form_by limit inner (next i) i)
  form_told (literal_count v w) i r (x, is, rest) = let word : next i ≡ terminal.Literal = ap next rest ∙ is.0 in told_ok (rw word (then_is _ (v, w) r (literal_is v w i r (x, is, rest)) refl))
  form_told (name_count x) i r k = told_ok (by_name (next i) i (name_begins x i r k) ∙ then_is _ x r (name_is x i r k) refl)
  form_told (parenthesized_count e) i r (j, begin, (l, inside, close)) = rw (next_is terminal.LeftParen i j begin) (told_after _ e r (condition_told e i j l r begin inside close) refl)

  pub counted_told : (c : CountTree) (i r : Symbols) (k : IsCount c i r) → Told (over_count limit levels c i r k) (c, r) (counted limit inner i)
  unfolding counted
  counted_told c i r k = told_after _ c.form r (form_told c.form i r k.1) (ap (λ p. done (count_tree p c.form, r)) (stands i c.place k.0))

  by_plain : (m : Terminal) (x : Name) (i : Symbols) → stops m ≡ true → declarator_by limit inner m x i ≡ Ok (plain x, i)
  by_plain terminal.Assign x i e = absurd cc
  by_plain terminal.LeftBracket x i e = absurd cc
  by_plain _ x i e = refl

  declarator_told : (d : DeclaratorTree) (i r : Symbols) (k : IsDeclarator d i r) → Stops r → Told (over_declarator limit levels d i r k) (d, r) (declarator limit inner i)
  unfolding declarator
  declarator_told (plain x) i r k stop = told_ok (then_is _ x r (name_is x i r k) (by_plain (next r) x r stop))
  declarator_told (initialized x e) i r (j, named, (l, sign, value)) stop =
      told_behind _ x j (name_is x i j named) (rw (next_is terminal.Assign j l sign, dropped terminal.Assign j l sign) (told_after _ e r (whole_expression_told e l r value stop) refl))
  declarator_told (array x count) i r (j, named, (l, begin, (o, inside, close))) stop =
      told_behind _ x j (name_is x i j named)
      (rw (next_is terminal.LeftBracket j l begin, dropped terminal.LeftBracket j l begin)
      (told_after _ count o (counted_told count l o inside) (then_is _ tt r (expect_is terminal.RightBracket o r close) refl)))

  declarators_read : TellsEach IsDeclarator (over_declarator limit levels) (declarator limit inner) Stops
  declarators_read = record { reads = declarator_told; longer = declarator_longer }

  pub declaration_told : (d : DeclarationTree) (i r : Symbols) (k : IsDeclaration d i r) → next r ≡ terminal.Semicolon
      → Told (over_declaration limit levels d i r k) (d, r) (declaration_with limit inner i)
  unfolding declaration_with sees same over_declaration
  declaration_told d i r (j, constant, (l, type, names)) ends =
      let word = const_is d.constant i j constant (type_other d.kind terminal.Const j l type refl) in
      rw (word.0, word.1)
      (told_behind _ d.kind l (type_complete d.kind j l type (names_begin d.names l r names))
      (told_after _ d.names r
      (separated_told terminal.Comma IsDeclarator (over_declarator limit levels) (declarator limit inner) Stops declarators_read (λ i j comma. stops_at terminal.Comma i j comma refl) d.names l r names
      (rw ends refl) (ap stops ends)) refl))
