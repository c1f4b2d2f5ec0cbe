-- Actions, declarations and attributes that were read are spelled so, and pass no limit.
use Rattle.std.proofs.Common.{◌≡◌, ℕ, suc, ◌<◌, false, List, length, drop, Option, Some, None, refl, arith}
use Rattle.tapa_syntax.specs.declared.terminal.Terminal.{Terminal}
use Rattle.tapa_syntax.specs.declared.terminal.Terminal.TheVariants as terminal
use Rattle.tapa_syntax.specs.declared.tree.Name.{Name}
use Rattle.tapa_syntax.specs.declared.tree.StepOperator.{StepOperator}
use Rattle.tapa_syntax.specs.declared.tree.AssignmentOperator.{AssignmentOperator}
use Rattle.tapa_syntax.specs.declared.tree.AttributeArgument.{AttributeArgument}
use Rattle.tapa_syntax.specs.declared.tree.AttributeArgument.TheVariants as argument_form
use Rattle.tapa_base.specs.Spans.{◌⨾◌, SeparatedOrNone}
use Rattle.tapa_syntax.specs.Trees.{ExpressionTree, PlaceTree, variable_place, element_place, ActionTree, call_action, write, read, assign, postfix, prefix_step, DeclaratorTree, plain, initialized, array}
use Rattle.tapa_syntax.specs.Grammar.{Part, Takes, IsName, IsExpression, is_name, step_operator_of, assignment_operator_of, sum_level, expression_level, argument_level, IsPlace, IsAction, IsCount, IsDeclarator, IsDeclaration, IsAttributeArgument, AreAttributeArguments, IsAttribute}
use Rattle.tapa_syntax.specs.Limits.{most, nesting, operators, place_nesting, place_operators, action_nesting, action_operators, form_nesting, form_operators, declarator_nesting, declarator_operators, declaration_nesting, declaration_operators, attribute_nesting, if_there}
use Rattle.tapa_parse_expression.specs.declared.fault.ParseCode.TheVariants.{P1}
use Rattle.tapa_parse_expression.specs.Readers.{and_then, ◌>>◌, skip, known, next, first_place, sees, past, separated_until}
use Rattle.tapa_parse_expression.specs.Reading as spec
use Rattle.tapa_parse_expression.specs.Reading.{Readers, argument, level, unary_with, expression_with, whole, place_from, place_with, call_arguments, assigned_by, assigned, acted_by, acted, stepped, action_with, counted, declarator_by, declarator, declaration_with, attribute_argument_by, attribute_argument, listed_arguments, attribute_arguments, attribute, attributes}
use Rattle.tapa_parse_expression.proofs.Parts.{Symbols, Yields, yields_pure, yields_none, yields_then, yields_if, weaker, expect_yields, means, is_seen, is_end, name_yields, plain_yields, literal_yields}
use Rattle.tapa_parse_expression.proofs.Lists.{IsPart, AreParts, AreSome, AreListed, repeat_sound, repeat_some_sound, behind_sound, separated_sound, separated_until_sound}
use Rattle.tapa_parse_expression.proofs.CompleteTypes.{takes_longer}
use Rattle.tapa_parse_expression.proofs.SoundTypes.{type_sound, takes_it}
use Rattle.tapa_parse_expression.proofs.SoundExpressions.{MayBe, MayBeSound, enters, open_sound, argument_sound, in_parentheses_sound, in_brackets_sound, unary_sound, level_sound, expression_sound, counted_sound}
use Rattle.tapa_parse.proofs.SoundLevels.{Reads, Sound, no_number, expressions_below, whole_reads, eaten}

-- there is a symbol where a terminal comes next
some_left : (m : Terminal) (i : Symbols) → is_end m ≡ false → next i ≡ m → 0 < length i
some_left m i real e = omega (arith, takes_longer m i (drop 1 i) (takes_it m i real e))

abbrev pub IsCondition : ExpressionTree → Part
IsCondition e = Takes terminal.LeftParen ⨾ IsExpression expression_level e ⨾ Takes terminal.RightParen

module _ (limit levels : ℕ) (inner : Option Readers) (h : MayBe (Sound limit) levels inner) where
  below : MayBeSound levels inner
  below = expressions_below limit levels inner h

  pub any_reads : Reads (IsExpression expression_level) nesting operators levels limit (spec.whole_expression limit inner)
  any_reads = whole_reads limit levels expression_level (expression_with inner) (expression_sound levels inner below)

  sum_reads : Reads (IsExpression sum_level) nesting operators levels limit (spec.sum limit inner)
  sum_reads = whole_reads limit levels sum_level (level (unary_with inner) sum_level) (level_sound (unary_with inner) levels (unary_sound levels inner below) sum_level)

  abbrev deeper : ExpressionTree → ℕ
  deeper e = suc (nesting e)

  pub condition_reads : Reads IsCondition (λ e. suc (nesting e)) operators levels limit (spec.condition limit inner)
  condition_reads i =
      yields_then (in_parentheses_sound levels inner below limit i) (λ a r k. yields_pure (λ e r. IsPart IsCondition (λ e. suc (nesting e)) operators levels limit e i r) a.0 r (record { spelled = k.spelled; nests = k.nests; within = omega (arith, k.counted) }))

  -- ---- places

  abbrev IsIndex : ExpressionTree → Part
  IsIndex e = Takes terminal.LeftBracket ⨾ IsExpression expression_level e ⨾ Takes terminal.RightBracket

  index_reads : Reads IsIndex deeper operators levels limit (spec.index limit inner)
  index_reads i = yields_then (in_brackets_sound levels inner below limit i) (λ a r k. yields_pure (λ e r. IsPart IsIndex deeper operators levels limit e i r) a.0 r (record { spelled = k.spelled; nests = k.nests; within = omega (arith, k.counted) }))

  abbrev IsPlaceRead : Symbols → PlaceTree → Symbols → Type 0
  IsPlaceRead i p r = IsPart IsPlace place_nesting place_operators levels limit p i r

  place_from_sound : (x : Name) (i0 i : Symbols) → IsName x i0 i → Yields (IsPlaceRead i0) (place_from limit inner x i)
  unfolding place_from
  place_from_sound x i0 i is =
      yields_if (sees terminal.LeftBracket i)
      (λ _. yields_then (index_reads i) (λ e r k. yields_pure (IsPlaceRead i0) (element_place x e) r (record { spelled = (i, is, k.spelled); nests = k.nests; within = k.within })))
      (λ _. yields_pure (IsPlaceRead i0) (variable_place x) i (record { spelled = is; nests = omega arith; within = omega arith }))

  pub place_reads : Reads IsPlace place_nesting place_operators levels limit (place_with limit inner)
  unfolding place_with
  place_reads i = yields_then (name_yields i) (λ x j is. place_from_sound x i j is)

  -- ---- actions

  abbrev IsActionRead : Symbols → ActionTree → Symbols → Type 0
  IsActionRead i a r = IsPart IsAction action_nesting action_operators levels limit a i r

  abbrev AreCalledWith : List ExpressionTree → Part
  AreCalledWith es = Takes terminal.LeftParen ⨾ SeparatedOrNone (Takes terminal.Comma) (IsExpression argument_level) es ⨾ Takes terminal.RightParen

  call_arguments_reads : Reads AreCalledWith (λ es. suc (most nesting es)) (most operators) levels limit (call_arguments limit inner)
  unfolding call_arguments
  call_arguments_reads i =
      yields_then (open_sound (Sound limit) levels inner terminal.LeftParen i refl h) (λ R j opened. yields_then (all R opened.1.less opened.1.sound j) (λ es k found. yields_then (expect_yields terminal.RightParen k refl) (λ _ r close.
      yields_pure (λ es r. IsPart AreCalledWith (λ es. suc (most nesting es)) (most operators) levels limit es i r) es r (record { spelled = (j, opened.0, (k, found.spelled, close)); nests = omega (arith, opened.1.fewer, found.nests); within = found.within }))))
    where
      all : (R : Readers) (less : ℕ) → Sound limit less R → (j : Symbols) → Yields (λ es r. AreListed terminal.Comma (IsExpression argument_level) nesting operators less limit es j r) (separated_until terminal.RightParen terminal.Comma (whole (argument R) limit) j)
      all R less sound = separated_until_sound terminal.Comma (IsExpression argument_level) nesting operators less limit (whole (argument R) limit) terminal.RightParen refl (whole_reads limit less argument_level (argument R) (record { on = argument_sound less R sound.expressions }))

  -- what stands behind a place
  assigned_sound : (p : PlaceTree) (i0 i : Symbols) → IsPlaceRead i0 p i → Yields (IsActionRead i0) (assigned limit inner p i)
  unfolding assigned
  assigned_sound p i0 i k = pick (step_operator_of (next i)) refl (assignment_operator_of (next i)) refl
    where
      pick : (s : Option StepOperator) → step_operator_of (next i) ≡ s → (o : Option AssignmentOperator) → assignment_operator_of (next i) ≡ o → Yields (IsActionRead i0) (assigned_by limit inner s o p i)
      pick (Some s) is o also = yields_pure (IsActionRead i0) (postfix p s (first_place i)) (drop 1 i) (record { spelled = (i, k.spelled, means step_operator_of i s refl is); nests = k.nests; within = k.within })
      pick None is (Some o) also =
          yields_then (any_reads (drop 1 i)) (λ e r l.
          yields_pure (IsActionRead i0) (assign p o (first_place i) e) r (record { spelled = (i, k.spelled, (drop 1 i, means assignment_operator_of i o refl also, l.spelled)); nests = omega (arith, k.nests, l.nests); within = omega (arith, k.within, l.within) }))
      pick None is None also = yields_none (IsActionRead i0) (P1, i)

  acted_sound : (x : Name) (i0 i : Symbols) → IsName x i0 i → Yields (IsActionRead i0) (acted limit inner x i)
  unfolding acted
  acted_sound x i0 i is = pick (next i) refl
    where
      pick : (m : Terminal) → next i ≡ m → Yields (IsActionRead i0) (acted_by limit inner m x i)
      pick terminal.Dot e =
          yields_then (plain_yields (drop 1 i)) (λ method j named. yields_then (call_arguments_reads j) (λ es r k.
          yields_pure (IsActionRead i0) (call_action x method es) r (record { spelled = (i, is, (drop 1 i, takes_it terminal.Dot i refl e, (j, named, k.spelled))); nests = k.nests; within = k.within })))
      pick terminal.ShiftLeft e =
          yields_then (repeat_some_sound (λ y. Takes terminal.ShiftLeft ⨾ IsExpression sum_level y) nesting operators levels limit (sees terminal.ShiftLeft) (skip >> spec.sum limit inner) (behind_sound terminal.ShiftLeft (IsExpression sum_level) nesting operators levels limit (spec.sum limit inner) refl sum_reads) i (is_seen terminal.ShiftLeft i e) (some_left terminal.ShiftLeft i refl e)) (λ es r k.
          yields_pure (IsActionRead i0) (write x es) r (record { spelled = (i, is, k.spelled); nests = k.nests; within = k.within }))
      pick terminal.ShiftRight e =
          yields_then (repeat_some_sound (λ y. Takes terminal.ShiftRight ⨾ IsPlace y) place_nesting place_operators levels limit (sees terminal.ShiftRight) (skip >> place_with limit inner) (behind_sound terminal.ShiftRight IsPlace place_nesting place_operators levels limit (place_with limit inner) refl place_reads) i (is_seen terminal.ShiftRight i e) (some_left terminal.ShiftRight i refl e)) (λ ps r k.
          yields_pure (IsActionRead i0) (read x ps) r (record { spelled = (i, is, k.spelled); nests = k.nests; within = k.within }))
      pick _ e = yields_then (place_from_sound x i0 i is) (λ p j k. assigned_sound p i0 j k)

  stepped_sound : (s : StepOperator) (i : Symbols) → step_operator_of (next i) ≡ Some s → Yields (IsActionRead i) (stepped limit inner s i)
  unfolding stepped
  stepped_sound s i is =
      enters (Sound limit) _ levels inner i h (λ R b. yields_then (b.sound.place (drop 1 i)) (λ p r k.
      yields_pure (IsActionRead i) (prefix_step s (first_place i) p) r (record { spelled = (drop 1 i, means step_operator_of i s refl is, k.spelled); nests = omega (arith, b.fewer, k.nests); within = k.within })))

  pub action_reads : Reads IsAction action_nesting action_operators levels limit (action_with limit inner)
  unfolding action_with
  action_reads i = yields_if (is_name (next i)) (λ _. yields_then (name_yields i) (λ x j is. acted_sound x i j is)) (λ _. pick (step_operator_of (next i)) refl)
    where
      pick : (s : Option StepOperator) → step_operator_of (next i) ≡ s → Yields (IsActionRead i) (and_then (known s i) (stepped limit inner))
      pick None is = yields_none (IsActionRead i) (P1, i)
      pick (Some s) is = stepped_sound s i is

  -- ---- counts and declarations

  pub count_reads : Reads IsCount (λ c. form_nesting c.form) (λ c. form_operators c.form) levels limit (counted limit inner)
  count_reads i = weaker (counted_sound levels inner below limit i) (λ c r k. record { spelled = k.spelled; nests = k.nests; within = k.within })

  abbrev IsDeclaratorRead : Symbols → DeclaratorTree → Symbols → Type 0
  IsDeclaratorRead i d r = IsPart IsDeclarator declarator_nesting declarator_operators levels limit d i r

  declarator_reads : Reads IsDeclarator declarator_nesting declarator_operators levels limit (declarator limit inner)
  unfolding declarator
  declarator_reads i = yields_then (name_yields i) (λ x j is. pick x j is (next j) refl)
    where
      pick : (x : Name) (j : Symbols) → IsName x i j → (m : Terminal) → next j ≡ m → Yields (IsDeclaratorRead i) (declarator_by limit inner m x j)
      pick x j is terminal.Assign e =
          yields_then (any_reads (drop 1 j)) (λ v r k. yields_pure (IsDeclaratorRead i) (initialized x v) r (record { spelled = (j, is, (drop 1 j, takes_it terminal.Assign j refl e, k.spelled)); nests = k.nests; within = k.within }))
      pick x j is terminal.LeftBracket e =
          yields_then (count_reads (drop 1 j)) (λ c l k. yields_then (expect_yields terminal.RightBracket l refl) (λ _ r close.
          yields_pure (IsDeclaratorRead i) (array x c) r (record { spelled = (j, is, (drop 1 j, takes_it terminal.LeftBracket j refl e, (l, k.spelled, close))); nests = k.nests; within = k.within })))
      pick x j is _ e = yields_pure (IsDeclaratorRead i) (plain x) j (record { spelled = is; nests = omega arith; within = omega arith })

  pub declaration_reads : Reads IsDeclaration declaration_nesting declaration_operators levels limit (declaration_with limit inner)
  unfolding declaration_with
  declaration_reads i =
      yields_then (type_sound (past terminal.Const i)) (λ k j is. yields_then (separated_sound terminal.Comma IsDeclarator declarator_nesting declarator_operators levels limit (declarator limit inner) refl declarator_reads j) (λ names r all.
      yields_pure (λ d r. IsPart IsDeclaration declaration_nesting declaration_operators levels limit d i r) (record { constant = sees terminal.Const i; kind = k; names = names }) r
      (record { spelled = (past terminal.Const i, eaten terminal.Const i refl, (j, is, all.spelled)); nests = all.nests; within = all.within })))

  -- ---- attributes

  abbrev IsArgumentRead : Symbols → AttributeArgument → Symbols → Type 0
  IsArgumentRead i a r = IsPart IsAttributeArgument no_number no_number 0 0 a i r

  attribute_argument_reads : Reads IsAttributeArgument no_number no_number 0 0 attribute_argument
  unfolding attribute_argument
  attribute_argument_reads i = pick (next i) refl
    where
      pick : (m : Terminal) → next i ≡ m → Yields (IsArgumentRead i) (attribute_argument_by m i)
      pick terminal.Literal e = yields_then (literal_yields i) (λ v r is. yields_pure (IsArgumentRead i) (argument_form.Literal v.0 v.1) r (record { spelled = is; nests = omega arith; within = omega arith }))
      pick terminal.Str e = yields_pure (IsArgumentRead i) argument_form.Str (drop 1 i) (record { spelled = takes_it terminal.Str i refl e; nests = omega arith; within = omega arith })
      pick _ e = yields_then (name_yields i) (λ x r is. yields_pure (IsArgumentRead i) (argument_form.Name x) r (record { spelled = is; nests = omega arith; within = omega arith }))

  abbrev AreListedArguments : List AttributeArgument → Part
  AreListedArguments xs = Takes terminal.LeftParen ⨾ SeparatedOrNone (Takes terminal.Comma) IsAttributeArgument xs ⨾ Takes terminal.RightParen

  listed_arguments_reads : Reads AreListedArguments (λ xs. 1) no_number levels limit (listed_arguments inner)
  unfolding listed_arguments
  listed_arguments_reads i =
      yields_then (open_sound (Sound limit) levels inner terminal.LeftParen i refl h) (λ R j opened. yields_then (separated_until_sound terminal.Comma IsAttributeArgument no_number no_number 0 0 attribute_argument terminal.RightParen refl attribute_argument_reads j) (λ xs k all. yields_then (expect_yields terminal.RightParen k refl) (λ _ r close.
      yields_pure (λ xs r. IsPart AreListedArguments (λ xs. 1) no_number levels limit xs i r) xs r (record { spelled = (j, opened.0, (k, all.spelled, close)); nests = omega (arith, opened.1.fewer); within = omega arith }))))

  abbrev level_of_arguments : Option (List AttributeArgument) → ℕ
  level_of_arguments a = if_there (λ arguments. 1) a

  attribute_arguments_reads : Reads AreAttributeArguments level_of_arguments no_number levels limit (attribute_arguments inner)
  unfolding attribute_arguments
  attribute_arguments_reads i =
      yields_if (sees terminal.LeftParen i)
      (λ _. yields_then (listed_arguments_reads i) (λ xs r k. yields_pure (λ a r. IsPart AreAttributeArguments level_of_arguments no_number levels limit a i r) (Some xs) r (record { spelled = k.spelled; nests = k.nests; within = k.within })))
      (λ _. yields_pure (λ a r. IsPart AreAttributeArguments level_of_arguments no_number levels limit a i r) None i (record { spelled = refl; nests = omega arith; within = omega arith }))

  attribute_reads : Reads IsAttribute attribute_nesting no_number levels limit (attribute inner)
  unfolding attribute
  attribute_reads i =
      yields_then (expect_yields terminal.LeftBracket i refl) (λ _ a m1. yields_then (expect_yields terminal.LeftBracket a refl) (λ _ b m2. yields_then (expect_yields terminal.Tapa b refl) (λ _ c m3. yields_then (expect_yields terminal.Scope c refl) (λ _ d m4.
      yields_then (plain_yields d) (λ x e is. yields_then (attribute_arguments_reads e) (λ xs l k. yields_then (expect_yields terminal.RightBracket l refl) (λ _ n m5. yields_then (expect_yields terminal.RightBracket n refl) (λ _ r m6.
      yields_pure (λ a r. IsPart IsAttribute attribute_nesting no_number levels limit a i r) (record { name = x; arguments = xs }) r
      (record { spelled = (a, m1, (b, m2, (c, m3, (d, m4, (e, is, (l, k.spelled, (n, m5, m6))))))); nests = k.nests; within = omega arith })))))))))

  pub attributes_sound : (i : Symbols) → Yields (λ xs r. AreParts IsAttribute attribute_nesting no_number levels limit xs i r) (attributes inner i)
  attributes_sound i = repeat_sound IsAttribute attribute_nesting no_number levels limit (sees terminal.LeftBracket) (attribute inner) (λ i _. attribute_reads i) i

  pub some_attributes_sound : (i : Symbols) → next i ≡ terminal.LeftBracket → Yields (λ xs r. AreSome IsAttribute attribute_nesting no_number levels limit xs i r) (attributes inner i)
  some_attributes_sound i e =
      repeat_some_sound IsAttribute attribute_nesting no_number levels limit (sees terminal.LeftBracket) (attribute inner) (λ i _. attribute_reads i) i (is_seen terminal.LeftBracket i e) (some_left terminal.LeftBracket i refl e)
