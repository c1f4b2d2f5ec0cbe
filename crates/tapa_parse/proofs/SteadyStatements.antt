-- The readers of statements are steady.
use Rattle.std.proofs.Common.{◌≡◌, ◌⊎◌, inl, inr, ℕ, zero, suc, Bool, true, false, List, [], ◌∷◌, drop, Option, Some, None, Ok, refl, sym, ap, subst, ◌∙◌, arith}
use Rattle.std.specs.Prelude.{not, if◌then◌else◌}
use Rattle.tapa_base.specs.declared.kind.Kind.{Kind}
use Rattle.tapa_base.specs.declared.kind.Kind.TheVariants as kind
use Rattle.tapa_base.specs.Spans.{◌⨾◌, Nothing, Is, Maybe, Each}
use Rattle.tapa_syntax.specs.declared.terminal.Terminal.{Terminal}
use Rattle.tapa_syntax.specs.declared.terminal.Terminal.TheVariants as terminal
use Rattle.tapa_syntax.specs.declared.tree.StepOperator.{StepOperator}
use Rattle.tapa_syntax.specs.declared.tree.StepOperator.TheVariants as step_operator
use Rattle.tapa_syntax.specs.Symbols.{Symbol}
use Rattle.tapa_syntax.specs.Trees.{ExpressionTree, nullptr, variable_place, ActionTree, postfix, prefix_step, plain, DeclarationTree, StartTree, no_start, declare_start, act_start, HeadTree, StatementTree, attributed, empty, block, declare, act, if_only, if_else, while, for, while_not_eot, break, continue, no_statement, statement_then, statements}
use Rattle.tapa_syntax.specs.Grammar.{Part, Takes, IsName, IsType, is_name, named, step_operator_of, IsExpression, expression_level, IsAction, IsDeclaration, IsAttribute, IsStart, IsClosed, IsBare, IsStatement, AreStatements}
use Rattle.tapa_parse_expression.specs.declared.fault.ParseCode.TheVariants.{P1}
use Rattle.tapa_parse_expression.specs.Readers.{Reader, next, first_place, same, sees, skip, expect, name, pure, refuse, ◌>>=◌, ◌>>◌}
use Rattle.tapa_parse_expression.specs.Reading.{Readers, one_kind, whole, enter, action_with, declaration_with, attribute, attributes, begins_action, begins_other, begins_statement, start, loop_test, step, head, jump, statement_with, statements_with, simple, braces, otherwise, choice, repetition, counting_loop, transaction_loop, bare_by, bare, inside_with, readers, below_levels}
use Rattle.tapa_parse_expression.proofs.Parts.{Symbols, if_true, if_false, is_end, is_seen, sees_is}
use Rattle.tapa_parse_expression.proofs.SoundTypes.{is_word, takes_it}
use Rattle.tapa_parse_expression.proofs.SoundExpressions.{MayBe}
use Rattle.tapa_parse_expression.proofs.CompleteTypes.{takes_longer}
use Rattle.tapa_parse_expression.proofs.Fronts.{Front, front_one, Steady, gives, SameGiven, by_given, after_given, goes_put, Full, Any, MaySteady, full_then, full_takes, full_name, mark, no_name, goes_at, steady_map, steady_where, steady_then, steady_value, steady_pure, steady_by, steady_at, steady_test, steady_sees, steady_refuse, steady_expect, steady_name, steady_skips, steady_enter, steady_open}
use Rattle.tapa_parse_expression.proofs.SteadyLists.{Many, full_many, some_of, steady_repeat, steady_repeat_some, looks_sees}
use Rattle.tapa_parse_expression.proofs.SteadyExpressions.{AnyExpression, full_expression}
use Rattle.tapa_parse_expression.proofs.SteadyCasts.{are_steady}
use Rattle.tapa_parse.proofs.SoundLevels.{Sound, TakesNoElse}
use Rattle.tapa_parse.proofs.SoundStatements.{statement_reads, levels_sound}
use Rattle.tapa_parse.proofs.CompleteLengths.{attribute_longer, statement_longer}
use Rattle.tapa_parse.proofs.SteadyActions.{AllSteady, expressions_below, full_map, any_longer, InParentheses, steady_place, steady_action, steady_declaration, steady_condition, steady_attribute}

-- some values, where a reader's are not known
some_action : ActionTree
some_action = postfix (variable_place no_name) step_operator.Increment (mark terminal.Increment).place

some_declaration : DeclarationTree
some_declaration = record { constant = false; kind = kind.Bool; names = [] }

no_head : HeadTree
no_head = record { start = no_start; test = None; step = None }

sees_next : (k l : Symbols) (m : Terminal) → next k ≡ next l → sees m k ≡ sees m l
unfolding sees
sees_next k l m e = ap (λ t. same t m) e

-- exactly this symbol
steady_pass : (x : Symbol) (z : Symbols) → Steady (Is (λ y. y ≡ x)) skip (x ∷ z)
steady_pass x z = gives tt (front_one x) z refl refl (λ j. (x, refl, refl)) (λ y w other ends. refl)

-- ---- statements that begin with a symbol

abbrev pub Statement : Part
Statement = Any IsStatement

-- a statement without attributes
abbrev Bare : Part
Bare i j = (s : StatementTree) × IsBare s × IsStatement s i j

pub full_statement : Full Statement
full_statement = full_map (Takes terminal.Semicolon) Statement (λ i j h. (empty, h)) (full_takes terminal.Semicolon)

abbrev From : Part → Symbol → Type 0
From P x = (r : Symbols → Symbols) × ((j : Symbols) → P (x ∷ r j) j)

from_map : (P Q : Part) (x : Symbol) → ((i j : Symbols) → P i j → Q i j) → From P x → From Q x
from_map P Q x f h = (h.0, λ j. f (x ∷ h.0 j) j (h.1 j))

from_then : (P Q : Part) (x : Symbol) → From P x → Full Q → From (P ⨾ Q) x
from_then P Q x h full = (λ j. h.0 (full.before j), λ j. (full.before j, h.1 (full.before j), full.spelled j))

from_first : (m : Terminal) (x : Symbol) → x.terminal ≡ m → From (Takes m) x
from_first m x e = (λ j. j, λ j. (x, e, refl))

bare_statement : (i j : Symbols) → Bare i j → Statement i j
bare_statement i j h = (h.0, h.2)

act_tree : (i j : Symbols) → (Any IsAction ⨾ Takes terminal.Semicolon) i j → Bare i j
act_tree i j (a, (x, h), end) = (act x, tt, (a, h, end))

declare_tree : (i j : Symbols) → (Any IsDeclaration ⨾ Takes terminal.Semicolon) i j → Bare i j
declare_tree i j (a, (d, h), end) = (declare d, tt, (a, h, end))

pub statements_tree : (i j : Symbols) → Many Statement i j → Any AreStatements i j
statements_tree i j h = all h.0 i j h.1
  where
    all : (us : List (Unit {0})) (i j : Symbols) → Each (λ (u : Unit {0}). Statement) us i j → Any AreStatements i j
    all [] i j h = (no_statement, h)
    all (u ∷ us) i j (k, (s, first), rest) = let more = all us k j rest in (statement_then s more.0, (k, first, more.1))

abbrev Braces : Part
Braces = Takes terminal.LeftBrace ⨾ (Many Statement ⨾ Takes terminal.RightBrace)

braces_tree : (i j : Symbols) → Braces i j → Bare i j
braces_tree i j (a, begin, (b, all, close)) = let ss = statements_tree a b all in (block ss.0, tt, (a, begin, (b, ss.1, close)))

-- a statement, and what an else behind it begins
abbrev Sides : Part
Sides i j = (s : StatementTree) × (IsStatement s i j ⊎ (IsClosed s × (IsStatement s ⨾ (Takes terminal.Else ⨾ Statement)) i j))

abbrev Choice : Part
Choice = Takes terminal.If ⨾ (InParentheses ⨾ Sides)

choice_tree : (i j : Symbols) → Choice i j → Bare i j
choice_tree i j (a, word, (b, (c, begin, (d, (e, test), close)), (s, inl h))) = (if_only e s, tt, (a, word, (c, begin, (d, test, (b, close, h)))))
choice_tree i j (a, word, (b, (c, begin, (d, (e, test), close)), (s, inr (closed, (k, h, (l, other, (t, g))))))) = (if_else e s t, tt, (closed, (a, word, (c, begin, (d, test, (b, close, (k, h, (l, other, g))))))))

abbrev Repetition : Part
Repetition = Takes terminal.While ⨾ (InParentheses ⨾ Statement)

repetition_tree : (i j : Symbols) → Repetition i j → Bare i j
repetition_tree i j (a, word, (b, (c, begin, (d, (e, test), close)), (s, h))) = (while e s, tt, (a, word, (c, begin, (d, test, (b, close, h)))))

-- what stands between the parentheses of a for, and the last of them
abbrev HeadBehind : Part
HeadBehind = Any IsStart ⨾ (Takes terminal.Semicolon ⨾ (Any (Maybe (IsExpression expression_level)) ⨾ (Takes terminal.Semicolon ⨾ (Any (Maybe IsAction) ⨾ Takes terminal.RightParen))))

full_head : Full HeadBehind
full_head =
    full_then (record { before = λ j. j; spelled = λ j. (no_start, refl) }) (full_then (full_takes terminal.Semicolon) (full_then (record { before = λ j. j; spelled = λ j. (None, refl) })
    (full_then (full_takes terminal.Semicolon) (full_then (record { before = λ j. j; spelled = λ j. (None, refl) }) (full_takes terminal.RightParen)))))

abbrev CountingLoop : Part
CountingLoop = Takes terminal.For ⨾ ((Takes terminal.LeftParen ⨾ HeadBehind) ⨾ Statement)

counting_tree : (i j : Symbols) → CountingLoop i j → Bare i j
counting_tree i j (a, word, (b, (c, begin, (d, (first, h1), (e, m1, (f, (test, h2), (g, m2, (k, (step, h3), close)))))), (s, h))) =
    (for (record { start = first; test = test; step = step }) s, tt, (a, word, (c, begin, (k, (d, h1, (e, m1, (f, h2, (g, m2, h3)))), (b, close, h)))))

abbrev TransactionLoop : Part
TransactionLoop = Takes terminal.WhileNotEot ⨾ (Takes terminal.LeftParen ⨾ (Any IsName ⨾ (Takes terminal.RightParen ⨾ Statement)))

transaction_tree : (i j : Symbols) → TransactionLoop i j → Bare i j
transaction_tree i j (a, word, (b, begin, (c, (x, is), (d, close, (s, h))))) = (while_not_eot x s, tt, (a, word, (b, begin, (c, is, (d, close, h)))))

break_tree : (i j : Symbols) → (Takes terminal.Break ⨾ Takes terminal.Semicolon) i j → Bare i j
break_tree i j (a, (x, e, is), end) = (break x.place, tt, (a, (x, (e, refl), is), end))

continue_tree : (i j : Symbols) → (Takes terminal.Continue ⨾ Takes terminal.Semicolon) i j → Bare i j
continue_tree i j (a, (x, e, is), end) = (continue x.place, tt, (a, (x, (e, refl), is), end))

abbrev Attributed : Part
Attributed = (Any IsAttribute ⨾ Many (Any IsAttribute)) ⨾ Bare

attributed_tree : (i j : Symbols) → Attributed i j → Statement i j
attributed_tree i j (a, found, (s, bare, h)) = let all = some_of IsAttribute i a found in (attributed all.0 s, (bare, (a, all.1, h)))

-- ---- with each symbol with which a statement may begin, one does

from_name : (x : Symbol) → is_name x.terminal ≡ true → From Statement x
from_name x e = (
  λ j. mark terminal.Increment ∷ mark terminal.Semicolon ∷ j,
  λ j.
      (act (postfix (variable_place (named x)) step_operator.Increment (mark terminal.Increment).place), (mark terminal.Semicolon ∷ j, (mark terminal.Increment ∷ mark terminal.Semicolon ∷ j, (x, (e, refl), refl), (mark terminal.Increment, (refl, refl), refl)), (mark terminal.Semicolon, refl, refl))),
)

from_step : (x : Symbol) (s : StepOperator) → step_operator_of x.terminal ≡ Some s → From Statement x
from_step x s e = (
  λ j. mark terminal.Name ∷ mark terminal.Semicolon ∷ j,
  λ j.
      (act (prefix_step s x.place (variable_place no_name)), (mark terminal.Semicolon ∷ j, (mark terminal.Name ∷ mark terminal.Semicolon ∷ j, (x, (e, refl), refl), (mark terminal.Name, (refl, refl), refl)), (mark terminal.Semicolon, refl, refl))),
)

from_type : (x : Symbol) → From (Any IsType) x → From Statement x
from_type x h =
    from_map (Any IsDeclaration ⨾ Takes terminal.Semicolon) Statement x (λ i j d. bare_statement i j (declare_tree i j d))
    (from_then (Any IsDeclaration) (Takes terminal.Semicolon) x (
      λ j. h.0 (mark terminal.Name ∷ j),
      λ j. let k = h.1 (mark terminal.Name ∷ j) in
          (record { constant = false; kind = k.0; names = plain no_name ∷ [] }, (x ∷ h.0 (mark terminal.Name ∷ j), refl, (mark terminal.Name ∷ j, k.1, (j, (mark terminal.Name, (refl, refl), refl), refl)))),
    )
    (full_takes terminal.Semicolon))

from_word : (x : Symbol) (k : Kind) → one_kind x.terminal ≡ Some k → From (Any IsType) x
from_word x k e = (λ j. j, λ j. (k, inl (is_word k (x ∷ j) j (x, e, refl))))

from_std : (x : Symbol) → x.terminal ≡ terminal.Std → From (Any IsType) x
from_std x e = (
  λ j. mark terminal.Scope ∷ mark terminal.Int8 ∷ j,
  λ j.
      (kind.I8, inl (inr (inr (mark terminal.Scope ∷ mark terminal.Int8 ∷ j, (x, e, refl), (mark terminal.Int8 ∷ j, (mark terminal.Scope, refl, refl), (mark terminal.Int8, refl, refl)))))),
)

from_const : (x : Symbol) → x.terminal ≡ terminal.Const → From Statement x
from_const x e = (
  λ j. mark terminal.Int ∷ mark terminal.Name ∷ mark terminal.Semicolon ∷ j,
  λ j. (
    declare (record { constant = true; kind = kind.I32; names = plain no_name ∷ [] }),
    (
      mark terminal.Semicolon ∷ j,
      (mark terminal.Int ∷ mark terminal.Name ∷ mark terminal.Semicolon ∷ j, (x, e, refl), (mark terminal.Name ∷ mark terminal.Semicolon ∷ j, inl (inl (mark terminal.Int, refl, refl)), (mark terminal.Semicolon ∷ j, (mark terminal.Name, (refl, refl), refl), refl))),
      (mark terminal.Semicolon, refl, refl),
    ),
  ),
)

from_attribute : (x : Symbol) → x.terminal ≡ terminal.LeftBracket → From Statement x
from_attribute x e =
    let full = full_then (full_takes terminal.RightBracket) (full_takes terminal.RightBracket) in (
      λ j. mark terminal.LeftBracket ∷ mark terminal.Tapa ∷ mark terminal.Scope ∷ mark terminal.Name ∷ mark terminal.RightBracket ∷ mark terminal.RightBracket ∷ mark terminal.Semicolon ∷ j,
      λ j.
          let close = mark terminal.RightBracket ∷ mark terminal.RightBracket ∷ mark terminal.Semicolon ∷ j in
          let scope = mark terminal.Scope ∷ mark terminal.Name ∷ close in (
            attributed (record { name = no_name; arguments = None } ∷ []) empty,
            (
              tt,
              (
                mark terminal.Semicolon ∷ j,
                (
                  mark terminal.Semicolon ∷ j,
                  (
                    mark terminal.LeftBracket ∷ mark terminal.Tapa ∷ scope,
                    (x, e, refl),
                    (
                      mark terminal.Tapa ∷ scope,
                      (mark terminal.LeftBracket, refl, refl),
                      (
                        scope,
                        (mark terminal.Tapa, refl, refl),
                        (
                          mark terminal.Name ∷ close,
                          (mark terminal.Scope, refl, refl),
                          (close, (mark terminal.Name, (refl, refl), refl), (close, refl, (mark terminal.RightBracket ∷ mark terminal.Semicolon ∷ j, (mark terminal.RightBracket, refl, refl), (mark terminal.RightBracket, refl, refl)))),
                        ),
                      ),
                    ),
                  ),
                  refl,
                ),
                (mark terminal.Semicolon, refl, refl),
              ),
            ),
          ),
    )

full_condition : Full InParentheses
full_condition = full_then (full_takes terminal.LeftParen) (full_then (full_expression expression_level) (full_takes terminal.RightParen))

from_bare : (P : Part) (x : Symbol) → ((i j : Symbols) → P i j → Bare i j) → From P x → From Statement x
from_bare P x f h = from_map P Statement x (λ i j p. bare_statement i j (f i j p)) h

no_false : (b : Bool) → b ≡ false → b ≡ true → ⊥
no_false true e f = cc
no_false false e f = cc

-- a symbol that is no sign or word of its own
from_other : (x : Symbol) (m : Terminal) → x.terminal ≡ m → begins_other m ≡ false → begins_statement m ≡ true → From Statement x
from_other x m is other begins = pick (is_name m) refl (step_operator_of m) refl (one_kind m) refl
  where
    pick : (b : Bool) → is_name m ≡ b → (s : Option StepOperator) → step_operator_of m ≡ s → (k : Option Kind) → one_kind m ≡ k → From Statement x
    pick true e s f k g = from_name x (ap is_name is ∙ e)
    pick false e (Some s) f k g = from_step x s (ap step_operator_of is ∙ f)
    pick false e None f (Some k) g = from_type x (from_word x k (ap one_kind is ∙ g))
    pick false e None f None g = absurd (no_false (begins_statement m) (rw (other, e, f, g) refl) begins)

statement_from : (x : Symbol) → begins_statement x.terminal ≡ true → From Statement x
statement_from x begins = pick x.terminal refl begins
  where
    pick : (m : Terminal) → x.terminal ≡ m → begins_statement m ≡ true → From Statement x
    pick terminal.Semicolon e h = from_map (Takes terminal.Semicolon) Statement x (λ i j p. (empty, p)) (from_first terminal.Semicolon x e)
    pick terminal.LeftBracket e h = from_attribute x e
    pick terminal.LeftBrace e h = from_bare Braces x braces_tree (from_then (Takes terminal.LeftBrace) (Many Statement ⨾ Takes terminal.RightBrace) x (from_first terminal.LeftBrace x e) (full_then (full_many Statement) (full_takes terminal.RightBrace)))
    pick terminal.If e h = from_bare Choice x choice_tree (from_then (Takes terminal.If) (InParentheses ⨾ Sides) x (from_first terminal.If x e) (full_then full_condition (full_map Statement Sides (λ i j s. (s.0, inl s.1)) full_statement)))
    pick terminal.While e h = from_bare Repetition x repetition_tree (from_then (Takes terminal.While) (InParentheses ⨾ Statement) x (from_first terminal.While x e) (full_then full_condition full_statement))
    pick terminal.For e h =
        from_bare CountingLoop x counting_tree (from_then (Takes terminal.For) ((Takes terminal.LeftParen ⨾ HeadBehind) ⨾ Statement) x (from_first terminal.For x e) (full_then (full_then (full_takes terminal.LeftParen) full_head) full_statement))
    pick terminal.WhileNotEot e h =
        from_bare TransactionLoop x transaction_tree (from_then (Takes terminal.WhileNotEot) (Takes terminal.LeftParen ⨾ (Any IsName ⨾ (Takes terminal.RightParen ⨾ Statement))) x (from_first terminal.WhileNotEot x e)
        (full_then (full_takes terminal.LeftParen) (full_then full_name (full_then (full_takes terminal.RightParen) full_statement))))
    pick terminal.Break e h = from_bare (Takes terminal.Break ⨾ Takes terminal.Semicolon) x break_tree (from_then (Takes terminal.Break) (Takes terminal.Semicolon) x (from_first terminal.Break x e) (full_takes terminal.Semicolon))
    pick terminal.Continue e h = from_bare (Takes terminal.Continue ⨾ Takes terminal.Semicolon) x continue_tree (from_then (Takes terminal.Continue) (Takes terminal.Semicolon) x (from_first terminal.Continue x e) (full_takes terminal.Semicolon))
    pick terminal.Const e h = from_const x e
    pick terminal.Std e h = from_type x (from_std x e)
    pick m e h = from_other x m e refl h

begins_real : (m : Terminal) → begins_statement m ≡ true → is_end m ≡ false
begins_real terminal.End e = absurd cc
begins_real _ e = refl

-- ---- the head of a for, by the readers below its parenthesis

module _ (limit : ℕ) (R : Readers) where
  -- the head behind its start, and behind its test
  abbrev stepped : StartTree → Option ExpressionTree → Reader HeadTree
  stepped s t = do
    p ← step R
    expect terminal.RightParen
    pure (record { start = s; test = t; step = p })

  abbrev tested : StartTree → Reader HeadTree
  tested s = do
    expect terminal.Semicolon
    t ← loop_test limit R
    expect terminal.Semicolon
    stepped s t

module _ (limit : ℕ) (R : Readers) (h : AllSteady R) where
  steady_start : (i : Symbols) → Steady (Any IsStart) (start R) i
  unfolding start
  steady_start i =
      steady_sees terminal.Semicolon (λ k. Ok (no_start, k)) (λ k. if begins_action (next k) then (R.action >>= (λ a. pure (act_start a))) k else (R.declaration >>= (λ d. pure (declare_start d))) k) i
      (λ _. steady_map Nothing (Any IsStart) (λ j r p. (no_start, p)) (steady_pure no_start i))
      (λ _. steady_test begins_action (R.action >>= (λ a. pure (act_start a))) (R.declaration >>= (λ d. pure (declare_start d))) i
      (λ _. steady_map (Any IsAction) (Any IsStart) (λ j r p. (act_start p.0, p.1)) (steady_value (λ a. act_start a) (h.action i)))
      (λ _. steady_map (Any IsDeclaration) (Any IsStart) (λ j r p. (declare_start p.0, p.1)) (steady_value (λ d. declare_start d) (h.declaration i))))

  steady_test_of : (i : Symbols) → Steady (Any (Maybe (IsExpression expression_level))) (loop_test limit R) i
  unfolding loop_test
  steady_test_of i =
      steady_sees terminal.Semicolon (λ k. Ok (None, k)) (whole R.expression limit >>= (λ e. pure (Some e))) i (λ _. steady_map Nothing (Any (Maybe (IsExpression expression_level))) (λ j r p. (None, p)) (steady_pure None i))
      (λ _. steady_map (AnyExpression expression_level) (Any (Maybe (IsExpression expression_level))) (λ j r p. (Some p.0, p.1)) (steady_value (λ e. Some e) (steady_value (λ e. e.0) (h.expressions.expression limit i))))

  steady_step : (i : Symbols) → Steady (Any (Maybe IsAction)) (step R) i
  unfolding step
  steady_step i =
      steady_sees terminal.RightParen (λ k. Ok (None, k)) (R.action >>= (λ a. pure (Some a))) i (λ _. steady_map Nothing (Any (Maybe IsAction)) (λ j r p. (None, p)) (steady_pure None i))
      (λ _. steady_map (Any IsAction) (Any (Maybe IsAction)) (λ j r p. (Some p.0, p.1)) (steady_value (λ a. Some a) (h.action i)))

  steady_head_behind : (i : Symbols) → Steady HeadBehind (start R >>= tested limit R) i
  steady_head_behind i =
      steady_then no_start (steady_start i) (λ s a. steady_then tt (steady_expect terminal.Semicolon a refl) (λ _ b. steady_then None (steady_test_of b) (λ t c. steady_then tt (steady_expect terminal.Semicolon c refl) (λ _ d.
      steady_then None (steady_step d) (λ p e. steady_value (λ _. record { start = s; test = t; step = p }) (steady_expect terminal.RightParen e refl))))))

-- ---- statements

steady_jump : (m : Terminal) (i : Symbols) → is_end m ≡ false → next i ≡ m → Steady (Takes m ⨾ Takes terminal.Semicolon) jump i
unfolding jump
steady_jump m i real e =
    steady_at (λ at. skip >> (expect terminal.Semicolon >> pure at)) i (steady_then tt (steady_skips m i real e) (λ _ j. steady_value (λ _. first_place i) (steady_expect terminal.Semicolon j refl)))

module _ (limit levels : ℕ) (inner : Option Readers) (sound : MayBe (Sound limit) levels inner) (h : MaySteady AllSteady inner) where
  steady_statement : (i : Symbols) → Steady Statement (statement_with limit inner) i
  unfolding statement_with
  steady_statement i =
      steady_test begins_statement (enter inner >>= (λ R. R.inside)) (refuse P1) i
      (λ e. steady_enter AllSteady inner (λ R. R.inside) i h (λ R s. s.inside i) (goes_at Statement i (begins_real (next i) e) (λ x is. statement_from x (ap begins_statement is ∙ e)))) (λ _. steady_refuse i full_statement)

  looks_on : (x : Symbol) (z other : Symbols) → not (sees terminal.RightBrace (x ∷ other)) ≡ not (sees terminal.RightBrace (x ∷ z))
  looks_on x z other = ap not (looks_sees terminal.RightBrace x z other)

  pub steady_statements : (i : Symbols) → Steady (Many Statement) (statements_with limit inner) i
  steady_statements i = steady_repeat (λ k. not (sees terminal.RightBrace k)) (statement_with limit inner) looks_on Statement (any_longer IsStatement statement_longer) (λ k _. steady_statement k) [] i

  -- what is behind the first side of an if
  steady_sides : (c : ExpressionTree) (i : Symbols) → Steady Sides (statement_with limit inner >>= otherwise limit inner c) i
  unfolding otherwise
  steady_sides c i = by_given (statement_with limit inner) (otherwise limit inner c) i Statement Sides (λ f. goes_put Statement Sides f f (λ m j p. (p.0, inl p.1))) (steady_statement i) (λ s f l is e same part. pick s f l is e same part (sees terminal.Else l) refl)
    where
      read : (s : StatementTree) (k l : Symbols) → statement_with limit inner k ≡ Ok (s, l) → sees terminal.Else l ≡ true → IsStatement s k l × IsClosed s
      read s k l e seen = let w = (statement_reads limit levels inner sound k).on s l e in (w.spelled.0, closed w.spelled.1)
        where
          closed : TakesNoElse s l → IsClosed s
          closed (inl y) = y
          closed (inr n) = absurd (no_false (sees terminal.Else l) n seen)

      sides : (s : StatementTree) (f : Front) (x : Symbol) (z m j : Symbols) → x.terminal ≡ terminal.Else → SameGiven (statement_with limit inner) f (x ∷ z) s → (Is (λ y. y ≡ x) ⨾ Statement) m j → Sides (f.put m) j
      sides s f x z m j els same (k, (y, yx, eq), (t, g)) =
          let w = read s (f.put (x ∷ k)) (x ∷ k) (same x z k refl) (is_seen terminal.Else (x ∷ k) els) in
          let both : Sides (f.put (x ∷ k)) j = (s, inr (w.1, (x ∷ k, w.0, (k, (x, els, refl), (t, g))))) in
          subst (λ w. Sides (f.put w) j) (sym (eq ∙ ap (λ y. y ∷ k) yx)) both

      pick : (s : StatementTree) (f : Front) (l : Symbols) → i ≡ f.put l → statement_with limit inner i ≡ Ok (s, l) → SameGiven (statement_with limit inner) f l s → ((j : Symbols) → Statement (f.put j) j) → (b : Bool) → sees terminal.Else l ≡ b
          → Steady Sides (statement_with limit inner >>= otherwise limit inner c) i
      pick s f l is e same part false none =
          after_given (statement_with limit inner) (otherwise limit inner c) i s f l is e same Nothing Sides (λ m j eq. subst (λ k. Sides (f.put m) k) eq ((part m).0, inl (part m).1))
          (steady_where (pure (if_only c s)) (otherwise limit inner c s) l (λ k n. if_false _ (sees_next k l terminal.Else n ∙ none) refl) (steady_pure (if_only c s) l))
      pick s f [] is e same part true some = absurd (let at = sees_is terminal.Else [] some in cc)
      pick s f (x ∷ z) is e same part true some =
          after_given (statement_with limit inner) (otherwise limit inner c) i s f (x ∷ z) is e same (Is (λ y. y ≡ x) ⨾ Statement) Sides (λ m j p. sides s f x z m j (sees_is terminal.Else (x ∷ z) some) same p)
          (steady_where (skip >> (statement_with limit inner >>= (λ t. pure (if_else c s t)))) (otherwise limit inner c s) (x ∷ z) (λ k n. if_true _ (sees_next k (x ∷ z) terminal.Else n ∙ some) refl)
          (steady_then tt (steady_pass x z) (λ _ j. steady_value (λ t. if_else c s t) (steady_statement j))))

  steady_simple : (i : Symbols) → Steady Bare (simple limit inner) i
  unfolding simple
  steady_simple i =
      steady_test begins_action (action_with limit inner >>= (λ a. expect terminal.Semicolon >> pure (act a))) (declaration_with limit inner >>= (λ d. expect terminal.Semicolon >> pure (declare d))) i
      (λ _. steady_map (Any IsAction ⨾ Takes terminal.Semicolon) Bare act_tree (steady_then some_action (steady_action limit inner h i) (λ a j. steady_value (λ _. act a) (steady_expect terminal.Semicolon j refl))))
      (λ _. steady_map (Any IsDeclaration ⨾ Takes terminal.Semicolon) Bare declare_tree (steady_then some_declaration (steady_declaration limit inner h i) (λ d j. steady_value (λ _. declare d) (steady_expect terminal.Semicolon j refl))))

  steady_head : (i : Symbols) → Steady (Takes terminal.LeftParen ⨾ HeadBehind) (head limit inner) i
  unfolding head
  steady_head i = steady_open AllSteady terminal.LeftParen inner (λ R. start R >>= tested limit R) i refl h full_head (λ R j s. steady_head_behind limit R s j)

  steady_bare : (i : Symbols) → Steady Bare (bare limit inner) i
  unfolding bare braces choice repetition counting_loop transaction_loop
  steady_bare i = steady_by (λ m. bare_by limit inner m) i (pick (next i) refl)
    where
      pick : (m : Terminal) → next i ≡ m → Steady Bare (bare_by limit inner m) i
      pick terminal.Semicolon e = steady_map (Takes terminal.Semicolon) Bare (λ j r p. (empty, tt, p)) (steady_value (λ _. empty) (steady_skips terminal.Semicolon i refl e))
      pick terminal.LeftBrace e =
          steady_map Braces Bare braces_tree (steady_then tt (steady_skips terminal.LeftBrace i refl e) (λ _ j. steady_then [] (steady_statements j) (λ ss k. steady_value (λ _. block (statements ss)) (steady_expect terminal.RightBrace k refl))))
      pick terminal.If e = steady_map Choice Bare choice_tree (steady_then tt (steady_skips terminal.If i refl e) (λ _ j. steady_then nullptr (steady_condition limit inner h j) (λ c k. steady_sides c k)))
      pick terminal.While e =
          steady_map Repetition Bare repetition_tree (steady_then tt (steady_skips terminal.While i refl e) (λ _ j. steady_then nullptr (steady_condition limit inner h j) (λ c k. steady_value (λ s. while c s) (steady_statement k))))
      pick terminal.For e =
          steady_map CountingLoop Bare counting_tree (steady_then tt (steady_skips terminal.For i refl e) (λ _ j. steady_then no_head (steady_head j) (λ d k. steady_value (λ s. for d s) (steady_statement k))))
      pick terminal.WhileNotEot e =
          steady_map TransactionLoop Bare transaction_tree (steady_then tt (steady_skips terminal.WhileNotEot i refl e) (λ _ j.
          steady_open AllSteady terminal.LeftParen inner (λ R. name >>= (λ x. expect terminal.RightParen >> (statement_with limit inner >>= (λ s. pure (while_not_eot x s))))) j refl h (full_then full_name (full_then (full_takes terminal.RightParen) full_statement))
          (λ R k s. steady_then no_name (steady_name k) (λ x l. steady_then tt (steady_expect terminal.RightParen l refl) (λ _ m. steady_value (λ s. while_not_eot x s) (steady_statement m))))))
      pick terminal.Break e = steady_map (Takes terminal.Break ⨾ Takes terminal.Semicolon) Bare break_tree (steady_value (λ at. break at) (steady_jump terminal.Break i refl e))
      pick terminal.Continue e = steady_map (Takes terminal.Continue ⨾ Takes terminal.Semicolon) Bare continue_tree (steady_value (λ at. continue at) (steady_jump terminal.Continue i refl e))
      pick _ e = steady_simple i

  steady_inside : (i : Symbols) → Steady Statement (inside_with limit inner) i
  unfolding inside_with
  steady_inside i =
      steady_sees terminal.LeftBracket (attributes inner >>= (λ found. bare limit inner >>= (λ s. pure (attributed found s)))) (bare limit inner) i
      (λ e. steady_map Attributed Statement attributed_tree (steady_then [] (some_attributes i e) (λ found j. steady_value (λ s. attributed found s) (steady_bare j)))) (λ _. steady_map Bare Statement bare_statement (steady_bare i))
    where
      some_attributes : (i : Symbols) → next i ≡ terminal.LeftBracket → Steady (Any IsAttribute ⨾ Many (Any IsAttribute)) (attributes inner) i
      some_attributes i e =
          steady_repeat_some (sees terminal.LeftBracket) (attribute inner) (looks_sees terminal.LeftBracket) (Any IsAttribute) (any_longer IsAttribute attribute_longer) (λ k _. steady_attribute inner h k) [] i
          (omega (arith, takes_longer terminal.LeftBracket i (drop 1 i) (takes_it terminal.LeftBracket i refl e))) (is_seen terminal.LeftBracket i e)

  all_steady : AllSteady (readers limit inner)
  all_steady = record {
    expressions = are_steady inner (expressions_below inner h) limit;
    place = steady_place limit inner h;
    action = steady_action limit inner h;
    declaration = steady_declaration limit inner h;
    inside = steady_inside;
  }

pub levels_steady : (limit levels : ℕ) → MaySteady AllSteady (below_levels limit levels)
unfolding below_levels
levels_steady limit zero = tt
levels_steady limit (suc levels) = all_steady limit levels (below_levels limit levels) (levels_sound limit levels) (levels_steady limit levels)
