-- The readers of actions, declarations and attributes are steady.
use Rattle.std.proofs.Common.{◌≡◌, inl, inr, ℕ, ◌<◌, Bool, true, false, [], ◌∷◌, length, Option, Some, None, Ok, refl, ap, subst, ◌∙◌, arith}
use Rattle.tapa_base.specs.declared.kind.Kind.TheVariants as kind
use Rattle.tapa_base.specs.declared.text.Place.{Place}
use Rattle.tapa_base.specs.Spans.{◌⨾◌, ◌∣◌, Nothing, When, EachOfSome}
use Rattle.tapa_syntax.specs.declared.terminal.Terminal.{Terminal}
use Rattle.tapa_syntax.specs.declared.terminal.Terminal.TheVariants as terminal
use Rattle.tapa_syntax.specs.declared.tree.Name.{Name}
use Rattle.tapa_syntax.specs.declared.tree.StepOperator.{StepOperator}
use Rattle.tapa_syntax.specs.declared.tree.StepOperator.TheVariants as step_operator
use Rattle.tapa_syntax.specs.declared.tree.AssignmentOperator.{AssignmentOperator}
use Rattle.tapa_syntax.specs.declared.tree.AttributeArgument.TheVariants as argument_form
use Rattle.tapa_syntax.specs.Trees.{PlaceTree, variable_place, element_place, ActionTree, call_action, write, read, assign, postfix, prefix_step, literal_count, name_count, parenthesized_count, CountTree, plain, initialized, array}
use Rattle.tapa_syntax.specs.Grammar.{Part, Takes, May, MeansTree, IsName, IsPlainName, IsType, is_name, step_operator_of, assignment_operator_of, IsExpression, sum_level, expression_level, argument_level, IsPlace, IsAction, IsCountForm, IsCount, IsDeclarator, IsDeclaration, IsAttributeArgument, AreAttributeArguments, IsAttribute, IsStatement}
use Rattle.tapa_parse_expression.specs.Readers.{Reader, next, first_place, no_place, sees, skip, expect, here, name, known, pure, separated_until, ◌>>=◌, ◌>>◌}
use Rattle.tapa_parse_expression.specs.Reading as spec
use Rattle.tapa_parse_expression.specs.Reading.{Readers, argument, whole, place_from, place_with, call_arguments, assigned_by, assigned, acted_by, acted, stepped, action_with, form_by, form, counted, declarator_by, declarator, declaration_with, attribute_argument_by, attribute_argument, listed_arguments, attribute_arguments, attribute, attributes}
use Rattle.tapa_parse_expression.proofs.Parts.{Symbols}
use Rattle.tapa_parse_expression.proofs.Fronts.{Steady, Full, Any, Literal, MaySteady, full_then, full_takes, full_name, mark, no_name, goes_at, steady_map, steady_then, steady_value, steady_pure, steady_by, steady_at, steady_test, steady_sees, steady_refuse, steady_expect, steady_eat, steady_name, steady_plain, steady_literal, steady_skip, steady_skips, steady_enter, steady_open}
use Rattle.tapa_parse_expression.proofs.SteadyLists.{Many, Longer, more_of, separated_of, listed_of, steady_repeat, steady_some, steady_separated, steady_separated_until, looks_sees}
use Rattle.tapa_parse_expression.proofs.SteadyTypes.{steady_type}
use Rattle.tapa_parse_expression.proofs.SteadyExpressions.{AnyExpression, AreSteady, real_by, steady_argument, steady_in_parentheses, steady_in_brackets}
use Rattle.tapa_parse_expression.proofs.SteadyCasts.{steady_tighter, steady_expression}
use Rattle.tapa_parse_expression.proofs.CompleteLevels.{expression_longer}
use Rattle.tapa_parse.proofs.CompleteActions.{place_longer, form_longer, declarator_longer}
use Rattle.tapa_parse.proofs.CompleteLengths.{attribute_argument_longer, attribute_longer}

-- the readers of one level are steady
pub record AllSteady (R : Readers) : Type 0 where
  pub expressions : AreSteady R
  pub place : (i : Symbols) → Steady (Any IsPlace) R.place i
  pub action : (i : Symbols) → Steady (Any IsAction) R.action i
  pub declaration : (i : Symbols) → Steady (Any IsDeclaration) R.declaration i
  pub inside : (i : Symbols) → Steady (Any IsStatement) R.inside i

pub expressions_below : (inner : Option Readers) → MaySteady AllSteady inner → MaySteady AreSteady inner
expressions_below None h = tt
expressions_below (Some R) h = h.expressions

-- ---- parts and their spellings

pub full_map : (P Q : Part) → ((i j : Symbols) → P i j → Q i j) → Full P → Full Q
full_map P Q f h = record { before = h.before; spelled = λ j. f (h.before j) j (h.spelled j) }

abbrev pub InParentheses : Part
InParentheses = Takes terminal.LeftParen ⨾ (AnyExpression expression_level ⨾ Takes terminal.RightParen)

abbrev InBrackets : Part
InBrackets = Takes terminal.LeftBracket ⨾ (AnyExpression expression_level ⨾ Takes terminal.RightBracket)

-- what stands behind a terminal, time and again, and at least once
some_behind : {A : Type 0} (m : Terminal) (P : A → Part) (i j : Symbols) → ((Takes m ⨾ Any P) ⨾ Many (Takes m ⨾ Any P)) i j → Any (EachOfSome (λ x. Takes m ⨾ P x)) i j
some_behind m P i j h = let rest = more_of m P h.0 j h.2 in (h.1.2.0 ∷ rest.0, (h.0, (h.1.0, h.1.1, h.1.2.1), rest.1))

pub may_when : (m : Terminal) (i j : Symbols) → May m i j → Any (λ (b : Bool). When b (Takes m)) i j
may_when m i j (inl h) = (true, h)
may_when m i j (inr h) = (false, h)

pub any_longer : {A : Type 0} (P : A → Part) → ((x : A) (i r : Symbols) → P x i r → length r < length i) → Longer (Any P)
any_longer P h i r x = h x.0 i r x.1

pub full_place : Full (Any IsPlace)
full_place = full_map (Any IsName) (Any IsPlace) (λ i j h. (variable_place h.0, h.1)) full_name

full_increment : Full (Any (MeansTree step_operator_of))
full_increment = record { before = λ j. mark terminal.Increment ∷ j; spelled = λ j. (step_operator.Increment, (mark terminal.Increment, refl, refl)) }

pub full_form : Full (Any IsCountForm)
full_form = full_map (Any IsName) (Any IsCountForm) (λ i j h. (name_count h.0, h.1)) full_name

-- a count stands where its first symbol does
no_count : CountTree
no_count = record { place = no_place; form = name_count no_name }

count_of : (i j : Symbols) → Any IsCountForm i j → Any IsCount i j
count_of [] j h = absurd (omega (arith, form_longer h.0 [] j h.1))
count_of (x ∷ i) j h = (record { place = x.place; form = h.0 }, (refl, h.1))

module _ (limit : ℕ) (inner : Option Readers) (h : MaySteady AllSteady inner) where
  below : MaySteady AreSteady inner
  below = expressions_below inner h

  pub steady_whole : (i : Symbols) → Steady (AnyExpression expression_level) (spec.whole_expression limit inner) i
  steady_whole i = steady_value (λ e. e.0) (steady_expression inner below limit i)

  steady_sum : (i : Symbols) → Steady (AnyExpression sum_level) (spec.sum limit inner) i
  steady_sum i = steady_value (λ e. e.0) (steady_tighter inner below sum_level limit i)

  pub steady_condition : (i : Symbols) → Steady InParentheses (spec.condition limit inner) i
  steady_condition i = steady_value (λ e. e.0) (steady_in_parentheses inner below limit i)

  steady_index : (i : Symbols) → Steady InBrackets (spec.index limit inner) i
  steady_index i = steady_value (λ e. e.0) (steady_in_brackets inner below limit i)

  -- ---- places

  abbrev MayIndex : Part
  MayIndex = InBrackets ∣ Nothing

  steady_place_from : (x : Name) (i : Symbols) → Steady MayIndex (place_from limit inner x) i
  unfolding place_from
  steady_place_from x i =
      steady_sees terminal.LeftBracket (spec.index limit inner >>= (λ e. pure (element_place x e))) (λ k. Ok (variable_place x, k)) i (λ _. steady_map InBrackets MayIndex (λ j r p. inl p) (steady_value (λ e. element_place x e) (steady_index i)))
      (λ _. steady_map Nothing MayIndex (λ j r p. inr p) (steady_pure (variable_place x) i))

  place_tree : (i j k : Symbols) → Any IsName i j → MayIndex j k → Any IsPlace i k
  place_tree i j k (x, is) (inl (a, bracket, (b, (e, inside), close))) = (element_place x e, (j, is, (a, bracket, (b, inside, close))))
  place_tree i j k (x, is) (inr e) = (variable_place x, subst (λ l. IsName x i l) e is)

  pub steady_place : (i : Symbols) → Steady (Any IsPlace) (place_with limit inner) i
  unfolding place_with
  steady_place i = steady_map (Any IsName ⨾ MayIndex) (Any IsPlace) (λ j r p. place_tree j p.0 r p.1 p.2) (steady_then no_name (steady_name i) (λ x j. steady_place_from x j))

  -- ---- actions

  abbrev Listed : Part
  Listed = Nothing ∣ (AnyExpression argument_level ⨾ Many (Takes terminal.Comma ⨾ AnyExpression argument_level))

  abbrev CalledWith : Part
  CalledWith = Takes terminal.LeftParen ⨾ (Listed ⨾ Takes terminal.RightParen)

  steady_call_arguments : (i : Symbols) → Steady CalledWith (call_arguments limit inner) i
  unfolding call_arguments
  steady_call_arguments i =
      steady_open AllSteady terminal.LeftParen inner (λ R. separated_until terminal.RightParen terminal.Comma (whole (argument R) limit) >>= (λ es. expect terminal.RightParen >> pure es)) i refl h
      (full_then (record { before = λ j. j; spelled = λ j. inl refl }) (full_takes terminal.RightParen))
      (λ R j s. steady_then [] (steady_separated_until terminal.Comma (whole (argument R) limit) refl (AnyExpression argument_level) (any_longer (IsExpression argument_level) (expression_longer argument_level)) (λ k. steady_value (λ e. e.0) (steady_argument R s.expressions limit k)) terminal.RightParen j)
      (λ es k. steady_value (λ _. es) (steady_expect terminal.RightParen k refl)))

  abbrev Assigned : Part
  Assigned = Any (MeansTree step_operator_of) ∣ (Any (MeansTree assignment_operator_of) ⨾ AnyExpression expression_level)

  steady_assigned : (target : PlaceTree) (i : Symbols) → Steady Assigned (assigned limit inner target) i
  unfolding assigned
  steady_assigned target i = steady_by (λ m. assigned_by limit inner (step_operator_of m) (assignment_operator_of m) target) i (pick (step_operator_of (next i)) refl (assignment_operator_of (next i)) refl)
    where
      pick : (s : Option StepOperator) → step_operator_of (next i) ≡ s → (o : Option AssignmentOperator) → assignment_operator_of (next i) ≡ o → Steady Assigned (assigned_by limit inner s o target) i
      pick (Some s) is o also =
          steady_at (λ at. skip >> pure (postfix target s at)) i (steady_map (Any (MeansTree step_operator_of)) Assigned (λ j r p. inl p)
          (steady_value (λ _. postfix target s (first_place i)) (steady_skip i (real_by step_operator_of refl (next i) s is) (λ x e j. (s, (x, ap step_operator_of e ∙ is, refl))))))
      pick None is (Some o) also =
          steady_at (λ at. skip >> (spec.whole_expression limit inner >>= (λ e. pure (assign target o at e)))) i (steady_map (Any (MeansTree assignment_operator_of) ⨾ AnyExpression expression_level) Assigned (λ j r p. inr p)
          (steady_then tt (steady_skip i (real_by assignment_operator_of refl (next i) o also) (λ x e j. (o, (x, ap assignment_operator_of e ∙ also, refl)))) (λ _ j. steady_value (λ e. assign target o (first_place i) e) (steady_whole j))))
      pick None is None also = steady_refuse i (full_map (Any (MeansTree step_operator_of)) Assigned (λ j r p. inl p) full_increment)

  abbrev Called : Part
  Called = Takes terminal.Dot ⨾ (Any IsPlainName ⨾ CalledWith)

  abbrev Written : Part
  Written = (Takes terminal.ShiftLeft ⨾ AnyExpression sum_level) ⨾ Many (Takes terminal.ShiftLeft ⨾ AnyExpression sum_level)

  abbrev Targets : Part
  Targets = (Takes terminal.ShiftRight ⨾ Any IsPlace) ⨾ Many (Takes terminal.ShiftRight ⨾ Any IsPlace)

  -- what may stand behind the name that begins an action
  abbrev Acted : Part
  Acted = Called ∣ Written ∣ Targets ∣ (MayIndex ⨾ Assigned)

  steady_acted : (x : Name) (i : Symbols) → Steady Acted (acted limit inner x) i
  unfolding acted
  steady_acted x i = steady_by (λ m. acted_by limit inner m x) i (pick (next i) refl)
    where
      pick : (m : Terminal) → next i ≡ m → Steady Acted (acted_by limit inner m x) i
      pick terminal.Dot e =
          steady_map Called Acted (λ j r p. inl p) (steady_then tt (steady_skips terminal.Dot i refl e) (λ _ j. steady_then no_name (steady_plain j) (λ y k. steady_value (λ es. call_action x y es) (steady_call_arguments k))))
      pick terminal.ShiftLeft e =
          steady_map Written Acted (λ j r p. inr (inl p))
          (steady_value (λ es. write x es) (steady_some terminal.ShiftLeft (spec.sum limit inner) refl (AnyExpression sum_level) (any_longer (IsExpression sum_level) (expression_longer sum_level)) steady_sum [] i e))
      pick terminal.ShiftRight e =
          steady_map Targets Acted (λ j r p. inr (inr (inl p))) (steady_value (λ ps. read x ps) (steady_some terminal.ShiftRight (place_with limit inner) refl (Any IsPlace) (any_longer IsPlace place_longer) steady_place [] i e))
      pick _ e = steady_map (MayIndex ⨾ Assigned) Acted (λ j r p. inr (inr (inr p))) (steady_then (variable_place x) (steady_place_from x i) (λ p j. steady_assigned p j))

  assigned_tree : (i j k : Symbols) → Any IsPlace i j → Assigned j k → Any IsAction i k
  assigned_tree i j k (p, is) (inl (s, (x, means, e))) = (postfix p s x.place, (j, is, (x, (means, refl), e)))
  assigned_tree i j k (p, is) (inr (a, (o, (x, means, e)), (v, value))) = (assign p o x.place v, (j, is, (a, (x, (means, refl), e), value)))

  acted_tree : (i j k : Symbols) → Any IsName i j → Acted j k → Any IsAction i k
  acted_tree i j k (x, is) (inl (a, dot, (b, (y, method), (c, begin, (d, all, close))))) =
      let es = listed_of terminal.Comma (IsExpression argument_level) c d all in (call_action x y es.0, (j, is, (a, dot, (b, method, (c, begin, (d, es.1, close))))))
  acted_tree i j k (x, is) (inr (inl h)) = let es = some_behind terminal.ShiftLeft (IsExpression sum_level) j k h in (write x es.0, (j, is, es.1))
  acted_tree i j k (x, is) (inr (inr (inl h))) = let ps = some_behind terminal.ShiftRight IsPlace j k h in (read x ps.0, (j, is, ps.1))
  acted_tree i j k (x, is) (inr (inr (inr (a, index, h)))) = assigned_tree i a k (place_tree i j a (x, is) index) h

  abbrev stepped_at : StepOperator → Readers → Place → Reader ActionTree
  stepped_at step R at = do
    skip
    target ← R.place
    pure (prefix_step step at target)

  abbrev Stepped : Part
  Stepped = Any (MeansTree step_operator_of) ⨾ Any IsPlace

  steady_stepped : (s : StepOperator) (i : Symbols) → step_operator_of (next i) ≡ Some s → Steady Stepped (stepped limit inner s) i
  unfolding stepped
  steady_stepped s i is =
      let real = real_by step_operator_of refl (next i) s is in
      steady_enter AllSteady inner (λ R. here >>= stepped_at s R) i h
      (λ R t. steady_at (stepped_at s R) i (steady_then tt (steady_skip i real (λ x e j. (s, (x, ap step_operator_of e ∙ is, refl)))) (λ _ j. steady_value (λ target. prefix_step s (first_place i) target) (t.place j))))
      (goes_at Stepped i real (λ x e. (full_place.before, λ j. (full_place.before j, (s, (x, ap step_operator_of e ∙ is, refl)), full_place.spelled j))))

  stepped_tree : (i k : Symbols) → Stepped i k → Any IsAction i k
  stepped_tree i k (a, (s, (x, means, e)), (p, is)) = (prefix_step s x.place p, (a, (x, (means, refl), e), is))

  full_action : Full (Any IsAction)
  full_action = full_map Stepped (Any IsAction) stepped_tree (full_then full_increment full_place)

  pub steady_action : (i : Symbols) → Steady (Any IsAction) (action_with limit inner) i
  unfolding action_with
  steady_action i =
      steady_test is_name (name >>= acted limit inner) (λ k. (known (step_operator_of (next k)) >>= stepped limit inner) k) i
      (λ _. steady_map (Any IsName ⨾ Acted) (Any IsAction) (λ j r p. acted_tree j p.0 r p.1 p.2) (steady_then no_name (steady_name i) (λ x j. steady_acted x j)))
      (λ _. steady_by (λ m. known (step_operator_of m) >>= stepped limit inner) i (pick (step_operator_of (next i)) refl))
    where
      pick : (s : Option StepOperator) → step_operator_of (next i) ≡ s → Steady (Any IsAction) (known s >>= stepped limit inner) i
      pick None is = steady_refuse i full_action
      pick (Some s) is = steady_map Stepped (Any IsAction) stepped_tree (steady_stepped s i is)

  -- ---- counts and declarations

  steady_form : (i : Symbols) → Steady (Any IsCountForm) (form limit inner) i
  steady_form i = steady_by (λ m. form_by limit inner m) i (pick (next i) refl)
    where
      pick : (m : Terminal) → next i ≡ m → Steady (Any IsCountForm) (form_by limit inner m) i
      pick terminal.Literal e = steady_map Literal (Any IsCountForm) (λ j r p. (literal_count p.0.0 p.0.1, p.1)) (steady_value (λ v. literal_count v.0 v.1) (steady_literal i))
      pick terminal.LeftParen e =
          steady_map InParentheses (Any IsCountForm) (λ j r p. (parenthesized_count p.2.1.0, (p.0, p.1, (p.2.0, p.2.1.1, p.2.2)))) (steady_value (λ e. parenthesized_count e) (steady_condition i))
      pick _ e = steady_map (Any IsName) (Any IsCountForm) (λ j r p. (name_count p.0, p.1)) (steady_value (λ x. name_count x) (steady_name i))

  pub steady_counted : (i : Symbols) → Steady (Any IsCount) (counted limit inner) i
  unfolding counted
  steady_counted i =
      steady_at (λ at. form limit inner >>= (λ f. pure (record { place = at; form = f }))) i (steady_map (Any IsCountForm) (Any IsCount) count_of (steady_value (λ f. record { place = first_place i; form = f }) (steady_form i)))

  abbrev Declared : Part
  Declared = (Takes terminal.Assign ⨾ AnyExpression expression_level) ∣ (Takes terminal.LeftBracket ⨾ (Any IsCount ⨾ Takes terminal.RightBracket)) ∣ Nothing

  steady_declared : (x : Name) (i : Symbols) → Steady Declared (λ k. declarator_by limit inner (next k) x k) i
  steady_declared x i = steady_by (λ m. declarator_by limit inner m x) i (pick (next i) refl)
    where
      pick : (m : Terminal) → next i ≡ m → Steady Declared (declarator_by limit inner m x) i
      pick terminal.Assign e =
          steady_map (Takes terminal.Assign ⨾ AnyExpression expression_level) Declared (λ j r p. inl p) (steady_then tt (steady_skips terminal.Assign i refl e) (λ _ j. steady_value (λ e. initialized x e) (steady_whole j)))
      pick terminal.LeftBracket e =
          steady_map (Takes terminal.LeftBracket ⨾ (Any IsCount ⨾ Takes terminal.RightBracket)) Declared (λ j r p. inr (inl p))
          (steady_then tt (steady_skips terminal.LeftBracket i refl e) (λ _ j. steady_then no_count (steady_counted j) (λ c k. steady_value (λ _. array x c) (steady_expect terminal.RightBracket k refl))))
      pick _ e = steady_map Nothing Declared (λ j r p. inr (inr p)) (steady_pure (plain x) i)

  declarator_tree : (i j k : Symbols) → Any IsName i j → Declared j k → Any IsDeclarator i k
  declarator_tree i j k (x, is) (inl (a, sign, (e, value))) = (initialized x e, (j, is, (a, sign, value)))
  declarator_tree i j k (x, is) (inr (inl (a, bracket, (b, (c, inside), close)))) = (array x c, (j, is, (a, bracket, (b, inside, close))))
  declarator_tree i j k (x, is) (inr (inr e)) = (plain x, subst (λ l. IsName x i l) e is)

  steady_declarator : (i : Symbols) → Steady (Any IsDeclarator) (declarator limit inner) i
  unfolding declarator
  steady_declarator i = steady_map (Any IsName ⨾ Declared) (Any IsDeclarator) (λ j r p. declarator_tree j p.0 r p.1 p.2) (steady_then no_name (steady_name i) (λ x j. steady_declared x j))

  abbrev Declaration : Part
  Declaration = May terminal.Const ⨾ (Any IsType ⨾ (Any IsDeclarator ⨾ Many (Takes terminal.Comma ⨾ Any IsDeclarator)))

  declaration_tree : (i k : Symbols) → Declaration i k → Any IsDeclaration i k
  declaration_tree i k (a, word, (b, (k', type), all)) =
      let c = may_when terminal.Const i a word in
      let names = separated_of terminal.Comma IsDeclarator b k all in
      (record { constant = c.0; kind = k'; names = names.0 }, (a, c.1, (b, type, names.1)))

  pub steady_declaration : (i : Symbols) → Steady (Any IsDeclaration) (declaration_with limit inner) i
  unfolding declaration_with
  steady_declaration i =
      steady_map Declaration (Any IsDeclaration) declaration_tree
      (steady_then true (steady_eat terminal.Const i refl) (λ c j. steady_then kind.Bool (steady_type j) (λ k l.
      steady_value (λ names. record { constant = c; kind = k; names = names }) (steady_separated terminal.Comma (declarator limit inner) refl (Any IsDeclarator) (any_longer IsDeclarator declarator_longer) steady_declarator l))))

-- ---- attributes

steady_attribute_argument : (i : Symbols) → Steady (Any IsAttributeArgument) attribute_argument i
unfolding attribute_argument
steady_attribute_argument i = steady_by attribute_argument_by i (pick (next i) refl)
  where
    pick : (m : Terminal) → next i ≡ m → Steady (Any IsAttributeArgument) (attribute_argument_by m) i
    pick terminal.Literal e = steady_map Literal (Any IsAttributeArgument) (λ j r p. (argument_form.Literal p.0.0 p.0.1, p.1)) (steady_value (λ v. argument_form.Literal v.0 v.1) (steady_literal i))
    pick terminal.Str e = steady_map (Takes terminal.Str) (Any IsAttributeArgument) (λ j r p. (argument_form.Str, p)) (steady_value (λ _. argument_form.Str) (steady_skips terminal.Str i refl e))
    pick _ e = steady_map (Any IsName) (Any IsAttributeArgument) (λ j r p. (argument_form.Name p.0, p.1)) (steady_value (λ x. argument_form.Name x) (steady_name i))

module _ (inner : Option Readers) (h : MaySteady AllSteady inner) where
  abbrev ListedArguments : Part
  ListedArguments = Takes terminal.LeftParen ⨾ ((Nothing ∣ (Any IsAttributeArgument ⨾ Many (Takes terminal.Comma ⨾ Any IsAttributeArgument))) ⨾ Takes terminal.RightParen)

  steady_listed_arguments : (i : Symbols) → Steady ListedArguments (listed_arguments inner) i
  unfolding listed_arguments
  steady_listed_arguments i =
      steady_open AllSteady terminal.LeftParen inner (λ R. separated_until terminal.RightParen terminal.Comma attribute_argument >>= (λ xs. expect terminal.RightParen >> pure xs)) i refl h
      (full_then (record { before = λ j. j; spelled = λ j. inl refl }) (full_takes terminal.RightParen))
      (λ R j s. steady_then [] (steady_separated_until terminal.Comma attribute_argument refl (Any IsAttributeArgument) (any_longer IsAttributeArgument attribute_argument_longer) steady_attribute_argument terminal.RightParen j)
      (λ xs k. steady_value (λ _. xs) (steady_expect terminal.RightParen k refl)))

  listed_tree : (i k : Symbols) → ListedArguments i k → Any AreAttributeArguments i k
  listed_tree i k (a, begin, (b, all, close)) = let xs = listed_of terminal.Comma IsAttributeArgument a b all in (Some xs.0, (a, begin, (b, xs.1, close)))

  steady_attribute_arguments : (i : Symbols) → Steady (Any AreAttributeArguments) (attribute_arguments inner) i
  unfolding attribute_arguments
  steady_attribute_arguments i =
      steady_sees terminal.LeftParen (listed_arguments inner >>= (λ a. pure (Some a))) (λ k. Ok (None, k)) i (λ _. steady_map ListedArguments (Any AreAttributeArguments) listed_tree (steady_value (λ a. Some a) (steady_listed_arguments i)))
      (λ _. steady_map Nothing (Any AreAttributeArguments) (λ j r p. (None, p)) (steady_pure None i))

  abbrev Attribute : Part
  Attribute =
      Takes terminal.LeftBracket ⨾ (Takes terminal.LeftBracket ⨾ (Takes terminal.Tapa ⨾ (Takes terminal.Scope ⨾ (Any IsPlainName ⨾ (Any AreAttributeArguments ⨾ (Takes terminal.RightBracket ⨾ Takes terminal.RightBracket))))))

  attribute_tree : (i k : Symbols) → Attribute i k → Any IsAttribute i k
  attribute_tree i k (a, m1, (b, m2, (c, m3, (d, m4, (e, (x, is), (f, (xs, all), (g, m5, m6))))))) = (record { name = x; arguments = xs }, (a, m1, (b, m2, (c, m3, (d, m4, (e, is, (f, all, (g, m5, m6))))))))

  pub steady_attribute : (i : Symbols) → Steady (Any IsAttribute) (attribute inner) i
  unfolding attribute
  steady_attribute i =
      steady_map Attribute (Any IsAttribute) attribute_tree
      (steady_then tt (steady_expect terminal.LeftBracket i refl) (λ _ a. steady_then tt (steady_expect terminal.LeftBracket a refl) (λ _ b. steady_then tt (steady_expect terminal.Tapa b refl) (λ _ c. steady_then tt (steady_expect terminal.Scope c refl) (λ _ d.
      steady_then no_name (steady_plain d) (λ x e. steady_then None (steady_attribute_arguments e) (λ xs f. steady_then tt (steady_expect terminal.RightBracket f refl) (λ _ g. steady_value (λ _. record { name = x; arguments = xs }) (steady_expect terminal.RightBracket g refl)))))))))

  pub steady_attributes : (i : Symbols) → Steady (Many (Any IsAttribute)) (attributes inner) i
  steady_attributes i = steady_repeat (sees terminal.LeftBracket) (attribute inner) (looks_sees terminal.LeftBracket) (Any IsAttribute) (any_longer IsAttribute attribute_longer) (λ k _. steady_attribute k) [] i
