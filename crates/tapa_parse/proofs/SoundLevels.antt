-- What is read at one level is spelled so, and passes no limit: what is to be known of the readers below.
use Rattle.std.proofs.Common.{◌≡◌, ◌⊎◌, ℕ, zero, suc, Bool, true, false, cond, drop, Option, Some, None, refl}
use Rattle.tapa_syntax.specs.declared.terminal.Terminal.{Terminal}
use Rattle.tapa_syntax.specs.declared.terminal.Terminal.TheVariants as terminal
use Rattle.tapa_base.specs.Spans.{When, ◌⨾◌}
use Rattle.tapa_syntax.specs.Trees.{ExpressionTree, StatementTree}
use Rattle.tapa_syntax.specs.Grammar.{Part, Takes, IsExpression, IsPlace, IsAction, IsDeclaration, IsStatement, IsClosed}
use Rattle.tapa_syntax.specs.Limits.{nesting, operators, place_nesting, place_operators, action_nesting, action_operators, declaration_nesting, declaration_operators, statement_nesting, statement_operators}
use Rattle.tapa_parse_expression.specs.Readers.{Reader, sees, past}
use Rattle.tapa_parse_expression.specs.Reading.{Counting, Readers, whole}
use Rattle.tapa_parse_expression.proofs.Parts.{Symbols, Yields, weaker, takes, is_end}
use Rattle.tapa_parse_expression.proofs.Lists.{IsPart}
use Rattle.tapa_parse_expression.proofs.SoundExpressions.{AreSound, MayBe, MayBeSound, ReadsAt, whole_sound}

-- what the reader gives is spelled so, and passes no limit
abbrev pub Reads : {A : Type 0} → (A → Part) → (A → ℕ) → (A → ℕ) → ℕ → ℕ → Reader A → Type 0
Reads P f g levels limit p = (i : Symbols) → Yields (λ x r. IsPart P f g levels limit x i r) (p i)

-- a part that has no levels and no operators of its own
abbrev pub no_number : {A : Type 0} → A → ℕ
no_number x = 0

-- no else stands behind the statement where an if is open at its end
abbrev pub TakesNoElse : StatementTree → Symbols → Type 0
TakesNoElse s r = IsClosed s ⊎ (sees terminal.Else r ≡ false)

abbrev pub IsWhole : StatementTree → Part
IsWhole s i r = IsStatement s i r × TakesNoElse s r

pub record Sound (limit levels : ℕ) (R : Readers) : Type 0 where
  pub expressions : AreSound levels R
  pub place : Reads IsPlace place_nesting place_operators levels limit R.place
  pub action : Reads IsAction action_nesting action_operators levels limit R.action
  pub declaration : Reads IsDeclaration declaration_nesting declaration_operators levels limit R.declaration
  -- a statement is a level itself
  pub inside : Reads IsWhole statement_nesting statement_operators (suc levels) limit R.inside

pub expressions_below : (limit levels : ℕ) (inner : Option Readers) → MayBe (Sound limit) levels inner → MayBeSound levels inner
expressions_below limit levels None h = tt
expressions_below limit zero (Some R) h = absurd h
expressions_below limit (suc levels) (Some R) h = h.expressions

-- an expression with a count of its own
pub whole_reads : (limit levels level : ℕ) (p : Counting ExpressionTree) → ReadsAt level levels p → Reads (IsExpression level) nesting operators levels limit (whole p limit)
whole_reads limit levels level p h i = weaker (whole_sound level levels limit p h i) (λ e r k. record { spelled = k.spelled; nests = k.nests; within = k.within })

-- a terminal that was taken, if it was there
pub eaten : (m : Terminal) (i : Symbols) → is_end m ≡ false → When (sees m i) (Takes m) i (past m i)
unfolding past
eaten m i real = pick (sees m i) refl
  where
    pick : (b : Bool) → sees m i ≡ b → When b (Takes m) i (cond b (drop 1 i) i)
    pick true e = takes m i real e
    pick false e = refl

-- one part more behind three
pub and_behind : (P Q R S : Part) (i j k : Symbols) → (P ⨾ Q ⨾ R) i j → S j k → (P ⨾ Q ⨾ R ⨾ S) i k
and_behind P Q R S i j k h s = (h.0, h.1, (h.2.0, h.2.1, (j, h.2.2, s)))
