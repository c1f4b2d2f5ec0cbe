-- Statements that were read are spelled so, and pass no limit.
use Rattle.std.proofs.Common.{◌≡◌, inl, inr, ℕ, zero, suc, true, false, not, List, [], ◌∷◌, drop, Option, Some, None, refl, sym, ◌∙◌, arith}
use Rattle.tapa_syntax.specs.declared.terminal.Terminal.{Terminal}
use Rattle.tapa_syntax.specs.declared.terminal.Terminal.TheVariants as terminal
use Rattle.tapa_base.specs.Spans.{◌⨾◌, Maybe}
use Rattle.tapa_syntax.specs.Trees.{ExpressionTree, ActionTree, StartTree, no_start, declare_start, act_start, HeadTree, StatementTree, attributed, empty, block, declare, act, if_only, if_else, while, for, while_not_eot, break, continue, statements}
use Rattle.tapa_syntax.specs.Grammar.{Part, Takes, TakesAt, IsExpression, expression_level, IsAction, IsClosed, IsBare, IsStart, IsHead, IsStatement, AreStatements}
use Rattle.tapa_syntax.specs.Limits.{if_there, nesting, operators, action_nesting, action_operators, start_nesting, start_operators, head_nesting, head_operators, statement_nesting, statement_operators, statements_nesting, statements_operators}
use Rattle.tapa_parse_expression.specs.declared.fault.ParseCode.TheVariants.{P1}
use Rattle.tapa_parse_expression.specs.Readers.{next, first_place, sees}
use Rattle.tapa_parse_expression.specs.Reading.{Readers, begins_action, begins_statement, start, loop_test, step, head, jump, statement_with, statements_with, simple, braces, otherwise, choice, repetition, counting_loop, transaction_loop, bare_by, bare, inside_with, readers, below_levels}
use Rattle.tapa_parse_expression.proofs.Parts.{Symbols, Yields, yields_pure, yields_none, yields_then, yields_if, weaker, takes, expect_yields, sees_is, is_seen, is_end, name_yields}
use Rattle.tapa_parse_expression.proofs.Lists.{IsPart, AreParts, repeat_sound}
use Rattle.tapa_parse_expression.proofs.SoundTypes.{takes_it}
use Rattle.tapa_parse_expression.proofs.SoundExpressions.{MayBe, enters, open_sound, takes_at, unary_sound, expression_sound}
use Rattle.tapa_parse.proofs.SoundLevels.{Reads, Sound, TakesNoElse, IsWhole, expressions_below, whole_reads, and_behind}
use Rattle.tapa_parse.proofs.SoundActions.{IsCondition, condition_reads, place_reads, action_reads, declaration_reads, some_attributes_sound}

-- ---- the head of a for, by the readers below its parenthesis

module _ (limit levels : ℕ) (R : Readers) (h : Sound limit levels R) where
  abbrev IsStartRead : Symbols → StartTree → Symbols → Type 0
  IsStartRead i s r = IsPart IsStart start_nesting start_operators levels limit s i r

  start_reads : Reads IsStart start_nesting start_operators levels limit (start R)
  unfolding start
  start_reads i =
      yields_if (sees terminal.Semicolon i) (λ _. yields_pure (IsStartRead i) no_start i (record { spelled = refl; nests = omega arith; within = omega arith }))
      (λ _. yields_if (begins_action (next i)) (λ _. yields_then (h.action i) (λ a r k. yields_pure (IsStartRead i) (act_start a) r (record { spelled = k.spelled; nests = k.nests; within = k.within })))
      (λ _. yields_then (h.declaration i) (λ d r k. yields_pure (IsStartRead i) (declare_start d) r (record { spelled = k.spelled; nests = k.nests; within = k.within }))))

  abbrev IsTestRead : Symbols → Option ExpressionTree → Symbols → Type 0
  IsTestRead i t r = IsPart (Maybe (IsExpression expression_level)) (if_there nesting) (if_there operators) levels limit t i r

  test_reads : Reads (Maybe (IsExpression expression_level)) (if_there nesting) (if_there operators) levels limit (loop_test limit R)
  unfolding loop_test
  test_reads i =
      yields_if (sees terminal.Semicolon i) (λ _. yields_pure (IsTestRead i) None i (record { spelled = refl; nests = omega arith; within = omega arith }))
      (λ _. yields_then (whole_reads limit levels expression_level R.expression h.expressions.expression i) (λ e r k. yields_pure (IsTestRead i) (Some e) r (record { spelled = k.spelled; nests = k.nests; within = k.within })))

  abbrev IsStepRead : Symbols → Option ActionTree → Symbols → Type 0
  IsStepRead i s r = IsPart (Maybe IsAction) (if_there action_nesting) (if_there action_operators) levels limit s i r

  step_reads : Reads (Maybe IsAction) (if_there action_nesting) (if_there action_operators) levels limit (step R)
  unfolding step
  step_reads i =
      yields_if (sees terminal.RightParen i) (λ _. yields_pure (IsStepRead i) None i (record { spelled = refl; nests = omega arith; within = omega arith }))
      (λ _. yields_then (h.action i) (λ a r k. yields_pure (IsStepRead i) (Some a) r (record { spelled = k.spelled; nests = k.nests; within = k.within })))

-- ---- statements

abbrev pub AreWhole : List StatementTree → Part
AreWhole ss = AreStatements (statements ss)

abbrev pub list_nesting : List StatementTree → ℕ
list_nesting ss = statements_nesting (statements ss)

abbrev pub list_operators : List StatementTree → ℕ
list_operators ss = statements_operators (statements ss)

in_a_row : (limit levels : ℕ) (ss : List StatementTree) (i r : Symbols) → AreParts IsWhole statement_nesting statement_operators levels limit ss i r → IsPart AreWhole list_nesting list_operators levels limit ss i r
in_a_row limit levels [] i r h = record { spelled = h.spelled; nests = omega arith; within = omega arith }
in_a_row limit levels (s ∷ ss) i r h =
    let j = h.spelled.0 in
    let rest = in_a_row limit levels ss j r (record { spelled = h.spelled.2; nests = omega (arith, h.nests); within = omega (arith, h.within) }) in
    record { spelled = (j, h.spelled.1.0, rest.spelled); nests = omega (arith, h.nests, rest.nests); within = omega (arith, h.within, rest.within) }

module _ (limit levels : ℕ) (inner : Option Readers) (h : MayBe (Sound limit) levels inner) where
  -- a statement whose level is open
  abbrev IsRead : Symbols → StatementTree → Symbols → Type 0
  IsRead i s r = IsPart IsWhole statement_nesting statement_operators (suc levels) limit s i r

  -- without attributes
  abbrev IsReadBare : Symbols → StatementTree → Symbols → Type 0
  IsReadBare i s r = IsRead i s r × IsBare s

  abbrev IsBelowRead : Symbols → StatementTree → Symbols → Type 0
  IsBelowRead i s r = IsPart IsWhole statement_nesting statement_operators levels limit s i r

  pub statement_reads : Reads IsWhole statement_nesting statement_operators levels limit (statement_with limit inner)
  unfolding statement_with
  statement_reads i =
      yields_if (begins_statement (next i)) (λ _. enters (Sound limit) _ levels inner i h (λ R b. weaker (b.sound.inside i) (λ s r k. record { spelled = k.spelled; nests = omega (arith, b.fewer, k.nests); within = k.within })))
      (λ _. yields_none (IsBelowRead i) (P1, i))

  pub statements_reads : Reads AreWhole list_nesting list_operators levels limit (statements_with limit inner)
  statements_reads i =
      weaker (repeat_sound IsWhole statement_nesting statement_operators levels limit (λ i. not (sees terminal.RightBrace i)) (statement_with limit inner) (λ i _. statement_reads i) i) (λ ss r k. in_a_row limit levels ss i r k)

  abbrev IsHeadBetween : HeadTree → Part
  IsHeadBetween d = Takes terminal.LeftParen ⨾ IsHead d ⨾ Takes terminal.RightParen

  head_reads : Reads IsHeadBetween (λ d. suc (head_nesting d)) head_operators levels limit (head limit inner)
  unfolding head
  head_reads i =
      yields_then (open_sound (Sound limit) levels inner terminal.LeftParen i refl h) (λ R j opened. yields_then (start_reads limit opened.1.less R opened.1.sound j) (λ s k started. yields_then (expect_yields terminal.Semicolon k refl) (λ _ l semicolon.
      yields_then (test_reads limit opened.1.less R opened.1.sound l) (λ t m tested. yields_then (expect_yields terminal.Semicolon m refl) (λ _ n another. yields_then (step_reads limit opened.1.less R opened.1.sound n) (λ p o stepped. yields_then (expect_yields terminal.RightParen o refl) (λ _ r close.
      yields_pure (λ d r. IsPart IsHeadBetween (λ d. suc (head_nesting d)) head_operators levels limit d i r) (record { start = s; test = t; step = p }) r
      (record {
        spelled = (j, opened.0, (o, (k, started.spelled, (l, semicolon, (m, tested.spelled, (n, another, stepped.spelled)))), close));
        nests = omega (arith, opened.1.fewer, started.nests, tested.nests, stepped.nests);
        within = omega (arith, started.within, tested.within, stepped.within);
      }))))))))

  simple_sound : (i : Symbols) → Yields (IsReadBare i) (simple limit inner i)
  unfolding simple
  simple_sound i =
      yields_if (begins_action (next i))
      (λ _. yields_then (action_reads limit levels inner h i) (λ a j k. yields_then (expect_yields terminal.Semicolon j refl) (λ _ r semicolon.
      yields_pure (IsReadBare i) (act a) r (record { spelled = ((j, k.spelled, semicolon), inl tt); nests = omega (arith, k.nests); within = k.within }, tt))))
      (λ _. yields_then (declaration_reads limit levels inner h i) (λ d j k. yields_then (expect_yields terminal.Semicolon j refl) (λ _ r semicolon.
      yields_pure (IsReadBare i) (declare d) r (record { spelled = ((j, k.spelled, semicolon), inl tt); nests = omega (arith, k.nests); within = k.within }, tt))))

  jump_sound : (m : Terminal) (i : Symbols) → is_end m ≡ false → next i ≡ m → Yields (λ at r. (TakesAt m at ⨾ Takes terminal.Semicolon) i r) (jump i)
  unfolding jump
  jump_sound m i real e =
      yields_then (expect_yields terminal.Semicolon (drop 1 i) refl) (λ _ r semicolon. yields_pure (λ at r. (TakesAt m at ⨾ Takes terminal.Semicolon) i r) (first_place i) r (drop 1 i, takes_at m i real (is_seen m i e), semicolon))

  abbrev ConditionRead : ExpressionTree → Part
  ConditionRead c i j = IsPart IsCondition (λ e. suc (nesting e)) operators levels limit c i j

  -- what a condition and a statement behind it say
  under : (m : Terminal) (c : ExpressionTree) (P : Part) (i0 i j k : Symbols) → Takes m i0 i → ConditionRead c i j → P j k → (Takes m ⨾ Takes terminal.LeftParen ⨾ IsExpression expression_level c ⨾ Takes terminal.RightParen ⨾ P) i0 k
  under m c P i0 i j k first test s = (i, first, and_behind (Takes terminal.LeftParen) (IsExpression expression_level c) (Takes terminal.RightParen) P i j k test.spelled s)

  otherwise_sound : (c : ExpressionTree) (s : StatementTree) (i0 i j k : Symbols) → Takes terminal.If i0 i → ConditionRead c i j → IsBelowRead j s k → Yields (IsReadBare i0) (otherwise limit inner c s k)
  unfolding otherwise
  otherwise_sound c s i0 i j k first test then =
      yields_if (sees terminal.Else k)
      (λ e. yields_then (statement_reads (drop 1 k)) (λ t r other.
      yields_pure (IsReadBare i0) (if_else c s t) r (
        record {
          spelled = ((closed then.spelled.1 e, under terminal.If c (IsStatement s ⨾ Takes terminal.Else ⨾ IsStatement t) i0 i j r first test (k, then.spelled.0, (drop 1 k, takes terminal.Else k refl e, other.spelled.0))), other.spelled.1);
          nests = omega (arith, test.nests, then.nests, other.nests);
          within = omega (arith, test.within, then.within, other.within);
        },
        tt,
      )))
      (λ e. yields_pure (IsReadBare i0) (if_only c s) k (record { spelled = (under terminal.If c (IsStatement s) i0 i j k first test then.spelled.0, inr e); nests = omega (arith, test.nests, then.nests); within = omega (arith, test.within, then.within) }, tt))
    where
      closed : TakesNoElse s k → sees terminal.Else k ≡ true → IsClosed s
      closed (inl y) e = y
      closed (inr n) e = absurd (let both : true ≡ false = sym e ∙ n in cc)

  bare_sound : (i : Symbols) → Yields (IsReadBare i) (bare limit inner i)
  unfolding bare braces choice repetition counting_loop transaction_loop
  bare_sound i = pick (next i) refl
    where
      pick : (m : Terminal) → next i ≡ m → Yields (IsReadBare i) (bare_by limit inner m i)
      pick terminal.Semicolon e = yields_pure (IsReadBare i) empty (drop 1 i) (record { spelled = (takes_it terminal.Semicolon i refl e, inl tt); nests = omega arith; within = omega arith }, tt)
      pick terminal.LeftBrace e =
          yields_then (statements_reads (drop 1 i)) (λ ss j k. yields_then (expect_yields terminal.RightBrace j refl) (λ _ r close.
          yields_pure (IsReadBare i) (block (statements ss)) r (record { spelled = ((drop 1 i, takes_it terminal.LeftBrace i refl e, (j, k.spelled, close)), inl tt); nests = omega (arith, k.nests); within = k.within }, tt)))
      pick terminal.If e =
          yields_then (condition_reads limit levels inner h (drop 1 i)) (λ c j test. yields_then (statement_reads j) (λ s k then. otherwise_sound c s i (drop 1 i) j k (takes_it terminal.If i refl e) test then))
      pick terminal.While e =
          yields_then (condition_reads limit levels inner h (drop 1 i)) (λ c j test. yields_then (statement_reads j) (λ s r body.
          yields_pure (IsReadBare i) (while c s) r (record { spelled = (under terminal.While c (IsStatement s) i (drop 1 i) j r (takes_it terminal.While i refl e) test body.spelled.0, body.spelled.1); nests = omega (arith, test.nests, body.nests); within = omega (arith, test.within, body.within) }, tt)))
      pick terminal.For e =
          yields_then (head_reads (drop 1 i)) (λ d j test. yields_then (statement_reads j) (λ s r body.
          yields_pure (IsReadBare i) (for d s) r (
            record {
              spelled = ((drop 1 i, takes_it terminal.For i refl e, and_behind (Takes terminal.LeftParen) (IsHead d) (Takes terminal.RightParen) (IsStatement s) (drop 1 i) j r test.spelled body.spelled.0), body.spelled.1);
              nests = omega (arith, test.nests, body.nests);
              within = omega (arith, test.within, body.within);
            },
            tt,
          )))
      pick terminal.WhileNotEot e =
          yields_then (open_sound (Sound limit) levels inner terminal.LeftParen (drop 1 i) refl h) (λ R j opened. yields_then (name_yields j) (λ x k is. yields_then (expect_yields terminal.RightParen k refl) (λ _ l close. yields_then (statement_reads l) (λ s r body.
          yields_pure (IsReadBare i) (while_not_eot x s) r
          (record { spelled = ((drop 1 i, takes_it terminal.WhileNotEot i refl e, (j, opened.0, (k, is, (l, close, body.spelled.0)))), body.spelled.1); nests = omega (arith, opened.1.fewer, body.nests); within = body.within }, tt)))))
      pick terminal.Break e = yields_then (jump_sound terminal.Break i refl e) (λ at r k. yields_pure (IsReadBare i) (break at) r (record { spelled = (k, inl tt); nests = omega arith; within = omega arith }, tt))
      pick terminal.Continue e = yields_then (jump_sound terminal.Continue i refl e) (λ at r k. yields_pure (IsReadBare i) (continue at) r (record { spelled = (k, inl tt); nests = omega arith; within = omega arith }, tt))
      pick _ e = simple_sound i

  inside_reads : Reads IsWhole statement_nesting statement_operators (suc levels) limit (inside_with limit inner)
  unfolding inside_with
  inside_reads i =
      yields_if (sees terminal.LeftBracket i)
      (λ e. yields_then (some_attributes_sound limit levels inner h i (sees_is terminal.LeftBracket i e)) (λ xs j found. yields_then (bare_sound j) (λ s r k.
      yields_pure (IsRead i) (attributed xs s) r (record { spelled = ((k.1, (j, found.spelled, k.0.spelled.0)), k.0.spelled.1); nests = omega (arith, found.nests, k.0.nests); within = k.0.within }))))
      (λ e. weaker (bare_sound i) (λ s r k. k.0))

  readers_sound : Sound limit levels (readers limit inner)
  readers_sound = record {
    expressions = record { unary = unary_sound levels inner (expressions_below limit levels inner h); expression = expression_sound levels inner (expressions_below limit levels inner h) };
    place = place_reads limit levels inner h;
    action = action_reads limit levels inner h;
    declaration = declaration_reads limit levels inner h;
    inside = inside_reads;
  }

pub levels_sound : (limit levels : ℕ) → MayBe (Sound limit) levels (below_levels limit levels)
unfolding below_levels
levels_sound limit zero = tt
levels_sound limit (suc levels) = readers_sound limit levels (below_levels limit levels) (levels_sound limit levels)
