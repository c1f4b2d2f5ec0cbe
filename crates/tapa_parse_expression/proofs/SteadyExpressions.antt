-- The readers of expressions are steady.
use Rattle.std.proofs.Common.{◌≡◌, inl, inr, ℕ, zero, suc, true, false, cond, List, [], ◌∷◌, ◌++◌, length, drop, Option, Some, None, Ok, refl, sym, ap, subst, ◌∙◌, arith}
use Rattle.std.specs.Prelude.{is_some}
use Rattle.tapa_base.specs.declared.kind.Kind.{Kind}
use Rattle.tapa_base.specs.declared.kind.Kind.TheVariants as kind
use Rattle.tapa_base.specs.declared.text.Place.{Place}
use Rattle.tapa_base.specs.Spans.{◌⨾◌, ◌∣◌, Nothing, Each}
use Rattle.tapa_syntax.specs.declared.terminal.Terminal.{Terminal}
use Rattle.tapa_syntax.specs.declared.terminal.Terminal.TheVariants as terminal
use Rattle.tapa_syntax.specs.declared.tree.Name.{Name}
use Rattle.tapa_syntax.specs.declared.tree.PrefixOperator.{PrefixOperator}
use Rattle.tapa_syntax.specs.declared.tree.BinaryOperator.{BinaryOperator}
use Rattle.tapa_syntax.specs.Symbols.{Symbol}
use Rattle.tapa_syntax.specs.Trees.{ExpressionTree, literal, boolean, variable, element, call, nullptr, construct, static_cast, prefix, binary, expressions}
use Rattle.tapa_syntax.specs.Trees.{none as no_expression, one as one_expression}
use Rattle.tapa_syntax.specs.Grammar.{Part, Takes, MeansTree, IsName, IsPlainName, IsOne, IsType, IsExpression, AreArguments, AreMoreArguments, is_name, prefix_operator_of, binary_operator_of, binds_at, expression_level, argument_level}
use Rattle.tapa_parse_expression.specs.Readers.{Reader, and_then, next, first_place, sees, skip, expect, here, pure, refuse, ◌>>=◌, ◌>>◌}
use Rattle.tapa_parse_expression.specs.Reading.{Counting, Readers, one, enter, count, operator_of, chain_by, chain, chain_of, level, argument, more_arguments, some_arguments, any_arguments, in_parentheses, in_brackets, arguments, named_by, named, constructed, statically_cast, primary_by, primary, prefixed}
use Rattle.tapa_parse_expression.specs.declared.fault.ParseCode.TheVariants.{P1}
use Rattle.tapa_parse_expression.proofs.Parts.{Symbols, is_end, sees_is}
use Rattle.tapa_parse_expression.proofs.SoundExpressions.{looser, operator_sound}
use Rattle.tapa_parse_expression.proofs.CompleteLevels.{expression_longer}
use Rattle.tapa_parse_expression.proofs.CompleteTypes.{takes_longer}
use Rattle.tapa_parse_expression.proofs.Begins.{begins_type}
use Rattle.tapa_parse_expression.proofs.Fronts.{Steady, Full, Any, Literal, MaySteady, full_then, full_takes, mark, no_name, goes_at, steady_map, steady_then, steady_value, steady_pure, steady_by, steady_look, steady_at, steady_test, steady_sees, steady_expect, steady_name, steady_plain, steady_literal, steady_skip, steady_skips, steady_count, steady_enter, steady_open}
use Rattle.tapa_parse_expression.proofs.SteadyLists.{Many, IsLoop, Longer, loop_steady, and_then_again, all_read, looks_sees}
use Rattle.tapa_parse_expression.proofs.SteadyTypes.{steady_one, steady_type}

-- an expression of this level
abbrev pub AnyExpression : ℕ → Part
AnyExpression l = Any (IsExpression l)

pub full_expression : (l : ℕ) → Full (AnyExpression l)
full_expression l = record { before = λ j. mark terminal.Literal ∷ j; spelled = λ j. (literal kind.Bool 0, (mark terminal.Literal, (refl, refl), refl)) }

-- behind a type of one word: what makes it an expression of this level
abbrev pub Behind : ℕ → Part
Behind l j r = (i : Symbols) → Any IsOne i j → AnyExpression l i r

-- where a type comes first, its words are read, and then what follows them
pub record ReadsType (l : ℕ) (p : Counting ExpressionTree) : Type 0 where
  pub rest : ℕ → Kind → Reader (ExpressionTree × ℕ)
  pub steady : (n : ℕ) (k : Kind) (j : Symbols) → Steady (Behind l) (rest n k) j
  pub is : (n : ℕ) (j : Symbols) → begins_type (next j) ≡ true → p n j ≡ (one >>= rest n) j

pub record AreSteady (R : Readers) : Type 0 where
  pub unary : (n : ℕ) (i : Symbols) → Steady (AnyExpression 0) (R.unary n) i
  pub expression : (n : ℕ) (i : Symbols) → Steady (AnyExpression expression_level) (R.expression n) i
  pub reads_type : ReadsType expression_level R.expression

-- ---- operators of one level

abbrev Operator : ℕ → Part
Operator l i j = (o : BinaryOperator) × (binds_at o ≡ l) × MeansTree binary_operator_of o i j

pub real_by : {A : Type 0} (table : Terminal → Option A) → table terminal.End ≡ None → (m : Terminal) (a : A) → table m ≡ Some a → is_end m ≡ false
real_by table none terminal.End a e = absurd cc
real_by table none _ a e = refl

-- the operands of a level, and the operators between them, from the left
grouped : (l : ℕ) (e : ExpressionTree) (i j k : Symbols) → IsExpression (suc l) e i j → Many (Operator l ⨾ AnyExpression l) j k → AnyExpression (suc l) i k
grouped l e i j k first more = all more.0 e j k first more.1
  where
    all : (us : List (Unit {0})) (e : ExpressionTree) (j k : Symbols) → IsExpression (suc l) e i j → Each (λ (u : Unit {0}). Operator l ⨾ AnyExpression l) us j k → AnyExpression (suc l) i k
    all [] e j k first is = (e, subst (λ m. IsExpression (suc l) e i m) is first)
    all (u ∷ us) e j k first (m, (d, (o, binds, (x, means, sign)), (b, right)), rest) =
        let left = subst (λ m. IsExpression (suc m) e i j) (sym binds) first in
        let right' = subst (λ m'. IsExpression m' b d m) (sym binds) right in
        all us (binary o x.place e b) m k (omega (arith, binds), (j, left, (d, (x, (means, refl), sign), right'))) rest

module _ (operand : Counting ExpressionTree) (l : ℕ) (steady_operand : (n : ℕ) (i : Symbols) → Steady (AnyExpression l) (operand n) i) where
  abbrev signed_at : BinaryOperator → ExpressionTree → ℕ → Place → Reader (ExpressionTree × ℕ)
  signed_at o left m at = do
    skip
    right ← operand m
    pure (binary o at left right.0, right.1)

  abbrev signed : BinaryOperator → ExpressionTree → ℕ → Reader (ExpressionTree × ℕ)
  signed o left m = here >>= signed_at o left m

  abbrev turn_by : ExpressionTree → Option BinaryOperator → Counting ExpressionTree
  turn_by left None n = refuse P1
  turn_by left (Some o) n = count n >>= signed o left

  abbrev turn : ExpressionTree × ℕ → Reader (ExpressionTree × ℕ)
  turn s i = turn_by s.0 (operator_of l i) s.1 i

  looks : (x : Symbol) (z other : Symbols) → operator_of l (x ∷ other) ≡ operator_of l (x ∷ z)
  unfolding operator_of
  looks x z other = refl

  again : (n : ℕ) (s : ExpressionTree × ℕ) (i : Symbols) (o : Option BinaryOperator) → is_some o ≡ true → chain_by operand (chain operand l n) s.0 o s.1 i ≡ and_then (turn_by s.0 o s.1 i) (λ t. chain operand l n t.0 t.1)
  unfolding count
  again n s i None g = absurd cc
  again n s i (Some o) g = counts s.1
    where
      counts : (m : ℕ) → chain_by operand (chain operand l n) s.0 (Some o) m i ≡ and_then (turn_by s.0 (Some o) m i) (λ t. chain operand l n t.0 t.1)
      counts zero = refl
      counts (suc m) = sym (and_then_again (operand m (drop 1 i)) _ _)

  stops : (n : ℕ) (s : ExpressionTree × ℕ) (i : Symbols) (o : Option BinaryOperator) → is_some o ≡ false → chain_by operand (chain operand l n) s.0 o s.1 i ≡ Ok (s, i)
  stops n s i None g = refl
  stops n s i (Some o) g = absurd cc

  chain_loops : IsLoop (λ k. is_some (operator_of l k)) turn pure (λ n s. chain operand l n s.0 s.1)
  unfolding chain
  chain_loops = record {
    looks = λ x z other. ap is_some (looks x z other);
    none = λ s. refl;
    again = λ n s i g. again n s i (operator_of l i) g;
    stop = λ n s i g. stops n s i (operator_of l i) g;
  }

  longer : Longer (Operator l ⨾ AnyExpression l)
  longer i r (j, (o, binds, (x, means, is)), (e, h)) = omega (arith, ap length is, expression_longer l e j r h)

  steady_turn : (s : ExpressionTree × ℕ) (i : Symbols) → is_some (operator_of l i) ≡ true → Steady (Operator l ⨾ AnyExpression l) (turn s) i
  steady_turn s i g = steady_look (operator_of l) looks (λ o. turn_by s.0 o s.1) i (pick (operator_of l i) refl g)
    where
      pick : (o : Option BinaryOperator) → operator_of l i ≡ o → is_some o ≡ true → Steady (Operator l ⨾ AnyExpression l) (turn_by s.0 o s.1) i
      pick None e g = absurd cc
      pick (Some o) e g =
          let sign = operator_sound l i o e in
          let real = real_by binary_operator_of refl (next i) o sign.1 in
          steady_count (λ m. signed o s.0 m) s.1 i (λ m. steady_at (λ at. signed_at o s.0 m at) i (steady_then tt (steady_skip i real (λ x is j. (o, sign.0, (x, ap binary_operator_of is ∙ sign.1, refl)))) (λ _ j. steady_value (λ right. (binary o (first_place i) s.0 right.0, right.1)) (steady_operand m j))))
          (goes_at (Operator l ⨾ AnyExpression l) i real (λ x is. ((full_expression l).before, λ j. ((full_expression l).before j, (o, sign.0, (x, ap binary_operator_of is ∙ sign.1, refl)), (full_expression l).spelled j))))

  steady_chain : (e : ExpressionTree) (n : ℕ) (i : Symbols) → Steady (Many (Operator l ⨾ AnyExpression l)) (chain_of operand l e n) i
  unfolding chain_of
  steady_chain e n i =
      steady_map (Many (Operator l ⨾ AnyExpression l) ⨾ Nothing) (Many (Operator l ⨾ AnyExpression l)) (all_read (Many (Operator l ⨾ AnyExpression l)))
      (loop_steady (λ k. is_some (operator_of l k)) turn pure (λ n s. chain operand l n s.0 s.1) chain_loops (Operator l ⨾ AnyExpression l) Nothing longer (record { before = λ j. j; spelled = λ j. refl }) steady_turn (λ s k. steady_pure s k) (e, n) i)

module _ (u : Counting ExpressionTree) (steady_unary : (n : ℕ) (i : Symbols) → Steady (AnyExpression 0) (u n) i) where
  pub steady_level : (l n : ℕ) (i : Symbols) → Steady (AnyExpression l) (level u l n) i
  unfolding level
  steady_level zero n i = steady_unary n i
  steady_level (suc l) n i =
      steady_map (AnyExpression l ⨾ Many (Operator l ⨾ AnyExpression l)) (AnyExpression (suc l)) (λ j k h. grouped l h.1.0 j h.0 k (looser l h.1.0 j h.0 h.1.1) h.2)
      (steady_then (nullptr, 0) (steady_level l n i) (λ a j. steady_chain (level u l) l (steady_level l) a.0 a.1 j))

  -- and where a type comes first
  pub level_reads_type : ReadsType 0 u → (l : ℕ) → ReadsType l (level u l)
  unfolding level
  level_reads_type h zero = h
  level_reads_type h (suc l) =
      let less = level_reads_type h l in
      record {
        rest = λ n k. less.rest n k >>= (λ a. chain_of (level u l) l a.0 a.1);
        steady = λ n k j. steady_map (Behind l ⨾ Many (Operator l ⨾ AnyExpression l)) (Behind (suc l)) (λ j r b i first. let e = b.1 i first in grouped l e.0 i b.0 r (looser l e.0 i b.0 e.1) b.2)
            (steady_then (nullptr, 0) (less.steady n k j) (λ a j. steady_chain (level u l) l (steady_level l) a.0 a.1 j));
        is = λ n j begins. ap (λ o. and_then o (λ a. chain_of (level u l) l a.0 a.1)) (less.is n j begins) ∙ and_then_again (one j) (less.rest n) (λ a. chain_of (level u l) l a.0 a.1);
      }

-- ---- what a method is called with

module _ (R : Readers) (s : AreSteady R) where
  pub steady_argument : (n : ℕ) (i : Symbols) → Steady (AnyExpression argument_level) (argument R n) i
  unfolding argument
  steady_argument n i =
      steady_sees terminal.Nullptr (λ k. Ok ((nullptr, n), drop 1 k)) (R.expression n) i
      (λ e. steady_map (Takes terminal.Nullptr) (AnyExpression argument_level) (λ j k h. (nullptr, (omega arith, h))) (steady_value (λ _. (nullptr, n)) (steady_skips terminal.Nullptr i refl e)))
      (λ e. steady_map (AnyExpression expression_level) (AnyExpression argument_level) (λ j k h. (h.0, looser expression_level h.0 j k h.1)) (s.expression n i))

  abbrev next_argument : List ExpressionTree × ℕ → Reader (List ExpressionTree × ℕ)
  next_argument found = skip >> argument R found.1 >>= (λ e. pure (found.0 ++ e.0 ∷ [], e.1))

  arguments_loop : IsLoop (sees terminal.Comma) next_argument pure (λ n found. more_arguments R n found.0 found.1)
  unfolding more_arguments
  arguments_loop = record {
    looks = looks_sees terminal.Comma;
    none = λ found. refl;
    again = λ n found i g. ap (λ b. cond b ((skip >> argument R found.1 >>= (λ e. more_arguments R n (found.0 ++ e.0 ∷ []) e.1)) i) (Ok (found, i))) g ∙ sym (and_then_again ((skip >> argument R found.1) i) (λ e. pure (found.0 ++ e.0 ∷ [], e.1)) (λ f. more_arguments R n f.0 f.1));
    stop = λ n found i g. ap (λ b. cond b ((skip >> argument R found.1 >>= (λ e. more_arguments R n (found.0 ++ e.0 ∷ []) e.1)) i) (Ok (found, i))) g;
  }

  argument_longer : Longer (Takes terminal.Comma ⨾ AnyExpression argument_level)
  argument_longer i r h = omega (arith, takes_longer terminal.Comma i h.0 h.1, expression_longer argument_level h.2.0 h.0 r h.2.1)

  steady_more_arguments : (found : List ExpressionTree) (n : ℕ) (i : Symbols) → Steady (Many (Takes terminal.Comma ⨾ AnyExpression argument_level)) (λ k. more_arguments R (length k) found n k) i
  steady_more_arguments found n i =
      steady_map (Many (Takes terminal.Comma ⨾ AnyExpression argument_level) ⨾ Nothing) (Many (Takes terminal.Comma ⨾ AnyExpression argument_level)) (all_read (Many (Takes terminal.Comma ⨾ AnyExpression argument_level)))
      (loop_steady (sees terminal.Comma) next_argument pure (λ n found. more_arguments R n found.0 found.1) arguments_loop (Takes terminal.Comma ⨾ AnyExpression argument_level) Nothing argument_longer (record { before = λ j. j; spelled = λ j. refl })
      (λ f k e. steady_value (λ a. (f.0 ++ a.0 ∷ [], a.1)) (steady_then tt (steady_skips terminal.Comma k refl (sees_is terminal.Comma k e)) (λ _ j. steady_argument f.1 j))) (λ f k. steady_pure f k) (found, n) i)

  more_trees : (i j : Symbols) → Many (Takes terminal.Comma ⨾ AnyExpression argument_level) i j → Any AreMoreArguments i j
  more_trees i j h = all h.0 i j h.1
    where
      all : (us : List (Unit {0})) (i j : Symbols) → Each (λ (u : Unit {0}). Takes terminal.Comma ⨾ AnyExpression argument_level) us i j → Any AreMoreArguments i j
      all [] i j h = (no_expression, h)
      all (u ∷ us) i j (k, (m, comma, (e, first)), rest) = let more = all us k j rest in (one_expression e more.0, (m, comma, (k, first, more.1)))

  pub steady_any_arguments : (n : ℕ) (i : Symbols) → Steady (Any AreArguments) (any_arguments R n) i
  unfolding any_arguments some_arguments
  steady_any_arguments n i =
      steady_sees terminal.RightParen (λ k. Ok (([], n), k)) (some_arguments R n) i
      (λ e. steady_map Nothing (Any AreArguments) (λ j k h. (no_expression, h)) (steady_pure ([], n) i))
      (λ e. steady_map (AnyExpression argument_level ⨾ Many (Takes terminal.Comma ⨾ AnyExpression argument_level)) (Any AreArguments) (λ j k h. let more = more_trees h.0 k h.2 in (one_expression h.1.0 more.0, (h.0, h.1.1, more.1)))
      (steady_then (nullptr, 0) (steady_argument n i) (λ a j. steady_more_arguments (a.0 ∷ []) a.1 j)))

full_arguments : Full (Any AreArguments)
full_arguments = record { before = λ j. j; spelled = λ j. (no_expression, refl) }

-- ---- level 0

module _ (inner : Option Readers) (h : MaySteady AreSteady inner) where
  pub steady_in_parentheses : (n : ℕ) (i : Symbols) → Steady (Takes terminal.LeftParen ⨾ (AnyExpression expression_level ⨾ Takes terminal.RightParen)) (in_parentheses inner n) i
  unfolding in_parentheses
  steady_in_parentheses n i =
      steady_open AreSteady terminal.LeftParen inner (λ R. R.expression n >>= (λ e. expect terminal.RightParen >> pure e)) i refl h (full_then (full_expression expression_level) (full_takes terminal.RightParen))
      (λ R j s. steady_then (nullptr, 0) (s.expression n j) (λ e k. steady_value (λ _. e) (steady_expect terminal.RightParen k refl)))

  pub steady_in_brackets : (n : ℕ) (i : Symbols) → Steady (Takes terminal.LeftBracket ⨾ (AnyExpression expression_level ⨾ Takes terminal.RightBracket)) (in_brackets inner n) i
  unfolding in_brackets
  steady_in_brackets n i =
      steady_open AreSteady terminal.LeftBracket inner (λ R. R.expression n >>= (λ e. expect terminal.RightBracket >> pure e)) i refl h (full_then (full_expression expression_level) (full_takes terminal.RightBracket))
      (λ R j s. steady_then (nullptr, 0) (s.expression n j) (λ e k. steady_value (λ _. e) (steady_expect terminal.RightBracket k refl)))

  steady_arguments : (n : ℕ) (i : Symbols) → Steady (Takes terminal.LeftParen ⨾ (Any AreArguments ⨾ Takes terminal.RightParen)) (arguments inner n) i
  unfolding arguments
  steady_arguments n i =
      steady_open AreSteady terminal.LeftParen inner (λ R. any_arguments R n >>= (λ e. expect terminal.RightParen >> pure e)) i refl h (full_then full_arguments (full_takes terminal.RightParen))
      (λ R j s. steady_then ([], 0) (steady_any_arguments R s n j) (λ e k. steady_value (λ _. e) (steady_expect terminal.RightParen k refl)))

  -- what may stand behind a name in an expression
  abbrev CallPart : Part
  CallPart = Takes terminal.Dot ⨾ (Any IsPlainName ⨾ (Takes terminal.LeftParen ⨾ (Any AreArguments ⨾ Takes terminal.RightParen)))

  abbrev IndexPart : Part
  IndexPart = Takes terminal.LeftBracket ⨾ (AnyExpression expression_level ⨾ Takes terminal.RightBracket)

  abbrev NamedPart : Part
  NamedPart = CallPart ∣ IndexPart ∣ Nothing

  named_tree : (i j k : Symbols) → Any IsName i j → NamedPart j k → AnyExpression 0 i k
  named_tree i j k (x, is) (inl (a, dot, (b, (m, method), (c, paren, (d, (es, inside), close))))) = (call x m es, (j, is, (a, dot, (b, method, (c, paren, (d, inside, close))))))
  named_tree i j k (x, is) (inr (inl (a, bracket, (b, (e, inside), close)))) = (element x e, (j, is, (a, bracket, (b, inside, close))))
  named_tree i j k (x, is) (inr (inr e)) = (variable x, subst (λ l. IsName x i l) e is)

  steady_named_by : (x : Name) (n : ℕ) (j : Symbols) → Steady NamedPart (λ k. named_by inner (next k) x n k) j
  steady_named_by x n j = steady_by (λ m. named_by inner m x n) j (pick (next j) refl)
    where
      pick : (m : Terminal) → next j ≡ m → Steady NamedPart (named_by inner m x n) j
      pick terminal.Dot e =
          steady_map CallPart NamedPart (λ j k h. inl h)
          (steady_then tt (steady_skips terminal.Dot j refl e) (λ _ a. steady_then no_name (steady_plain a) (λ m b. steady_value (λ es. (call x m (expressions es.0), es.1)) (steady_arguments n b))))
      pick terminal.LeftBracket e = steady_map IndexPart NamedPart (λ j k h. inr (inl h)) (steady_value (λ a. (element x a.0, a.1)) (steady_in_brackets n j))
      pick _ e = steady_map Nothing NamedPart (λ j k h. inr (inr h)) (steady_pure (variable x, n) j)

  steady_named : (n : ℕ) (i : Symbols) → Steady (AnyExpression 0) (named inner n) i
  unfolding named
  steady_named n i = steady_map (Any IsName ⨾ NamedPart) (AnyExpression 0) (λ j k h. named_tree j h.0 k h.1 h.2) (steady_then no_name (steady_name i) (λ x j. steady_named_by x n j))

  steady_constructed : (n : ℕ) (i : Symbols) → Steady (AnyExpression 0) (constructed inner n) i
  unfolding constructed
  steady_constructed n i =
      steady_map (Any IsOne ⨾ (Takes terminal.LeftParen ⨾ (AnyExpression expression_level ⨾ Takes terminal.RightParen))) (AnyExpression 0)
      (λ j k h. (construct h.1.0 h.2.2.1.0, (h.0, h.1.1, (h.2.0, h.2.1, (h.2.2.0, h.2.2.1.1, h.2.2.2)))))
      (steady_then kind.Bool (steady_one i) (λ k j. steady_value (λ e. (construct k e.0, e.1)) (steady_in_parentheses n j)))

  abbrev StaticPart : Part
  StaticPart = Takes terminal.StaticCast ⨾ (Takes terminal.Less ⨾ (Any IsType ⨾ (Takes terminal.Greater ⨾ (Takes terminal.LeftParen ⨾ (AnyExpression expression_level ⨾ Takes terminal.RightParen)))))

  static_tree : (i j : Symbols) → StaticPart i j → AnyExpression 0 i j
  static_tree i j (a, word, (b, less, (c, (k, type), (d, greater, (f, paren, (g, (e, inside), close)))))) = (static_cast k e, (a, word, (b, less, (c, type, (d, greater, (f, paren, (g, inside, close)))))))

  steady_static : (n : ℕ) (i : Symbols) → next i ≡ terminal.StaticCast → Steady (AnyExpression 0) (statically_cast inner n) i
  unfolding statically_cast
  steady_static n i e =
      steady_map StaticPart (AnyExpression 0) static_tree
      (steady_then tt (steady_skips terminal.StaticCast i refl e) (λ _ a. steady_then tt (steady_expect terminal.Less a refl) (λ _ b. steady_then kind.Bool (steady_type b) (λ k c. steady_then tt (steady_expect terminal.Greater c refl) (λ _ d.
      steady_value (λ e. (static_cast k e.0, e.1)) (steady_in_parentheses n d))))))

  pub steady_primary : (n : ℕ) (i : Symbols) → Steady (AnyExpression 0) (primary inner n) i
  unfolding primary
  steady_primary n i = steady_test is_name (named inner n) (λ k. primary_by inner (next k) n k) i (λ e. steady_named n i) (λ e. steady_by (λ m. primary_by inner m n) i (pick (next i) refl))
    where
      pick : (m : Terminal) → next i ≡ m → Steady (AnyExpression 0) (primary_by inner m n) i
      pick terminal.Literal e = steady_map Literal (AnyExpression 0) (λ j k h. (literal h.0.0 h.0.1, h.1)) (steady_value (λ v. (literal v.0 v.1, n)) (steady_literal i))
      pick terminal.True e = steady_map (Takes terminal.True) (AnyExpression 0) (λ j k h. (boolean true, h)) (steady_value (λ _. (boolean true, n)) (steady_skips terminal.True i refl e))
      pick terminal.False e = steady_map (Takes terminal.False) (AnyExpression 0) (λ j k h. (boolean false, h)) (steady_value (λ _. (boolean false, n)) (steady_skips terminal.False i refl e))
      pick terminal.StaticCast e = steady_static n i e
      pick _ e = steady_constructed n i

  abbrev prefixed_at : PrefixOperator → Readers → ℕ → Place → Reader (ExpressionTree × ℕ)
  prefixed_at o R m at = do
    skip
    e ← R.unary m
    pure (prefix o at e.0, e.1)

  abbrev Sign : Part
  Sign = Any (MeansTree prefix_operator_of)

  pub steady_prefixed : (o : PrefixOperator) (n : ℕ) (i : Symbols) → prefix_operator_of (next i) ≡ Some o → Steady (AnyExpression 0) (prefixed inner o n) i
  unfolding prefixed
  steady_prefixed o n i e =
      let real = real_by prefix_operator_of refl (next i) o e in
      let goes = goes_at (Sign ⨾ AnyExpression 0) i real (λ x is. ((full_expression 0).before, λ j. ((full_expression 0).before j, (o, (x, ap prefix_operator_of is ∙ e, refl)), (full_expression 0).spelled j))) in
      steady_map (Sign ⨾ AnyExpression 0) (AnyExpression 0) (λ j k h. (prefix h.1.0 h.1.1.0.place h.2.0, (h.0, (h.1.1.0, (h.1.1.1, refl), h.1.1.2), h.2.1)))
      (steady_count (λ m. enter inner >>= (λ R. here >>= prefixed_at o R m)) n i
      (λ m. steady_enter AreSteady inner (λ R. here >>= prefixed_at o R m) i h
      (λ R s. steady_at (prefixed_at o R m) i (steady_then tt (steady_skip i real (λ x is j. (o, (x, ap prefix_operator_of is ∙ e, refl)))) (λ _ j. steady_value (λ e. (prefix o (first_place i) e.0, e.1)) (s.unary m j)))) goes) goes)
