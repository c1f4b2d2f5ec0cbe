-- What is read as an expression is spelled so, nests no deeper than it may, and has as many operators as were counted.
use Rattle.std.proofs.Common.{◌≡◌, ℕ, zero, suc, ◌+◌, ◌≤◌, Bool, true, false, cond, List, [], ◌∷◌, ◌++◌, length, drop, Option, Some, None, refl, sym, ap, subst, ◌∙◌, arith, append_assoc}
use Rattle.std.specs.Prelude.{◌==◌}
use Rattle.std.proofs.lemmas.Bool.{eqb-true}
use Rattle.tapa_syntax.specs.declared.terminal.Terminal.{Terminal}
use Rattle.tapa_syntax.specs.declared.terminal.Terminal.TheVariants as terminal
use Rattle.tapa_syntax.specs.declared.tree.Name.{Name}
use Rattle.tapa_syntax.specs.declared.tree.PrefixOperator.{PrefixOperator}
use Rattle.tapa_syntax.specs.declared.tree.BinaryOperator.{BinaryOperator}
use Rattle.tapa_syntax.specs.Symbols.{Symbol}
use Rattle.tapa_syntax.specs.Trees.{ExpressionTree, literal, boolean, variable, element, call, nullptr, construct, static_cast, cast, parenthesized, prefix, binary, conditional, expressions, CountForm, literal_count, name_count, parenthesized_count, CountTree}
use Rattle.tapa_syntax.specs.Limits.{nesting, nestings, operators, operators_in, form_nesting, form_operators}
use Rattle.tapa_base.specs.Spans.{◌⨾◌}
use Rattle.tapa_syntax.specs.Grammar.{Takes, TakesAt, IsName, StandsAt, IsExpression, AreArguments, AreMoreArguments, IsCountForm, IsCount, is_name, prefix_operator_of, binary_operator_of, binds_at, or_level, expression_level, argument_level}
use Rattle.tapa_parse_expression.specs.declared.fault.ParseCode.TheVariants.{P1, P2}
use Rattle.tapa_parse_expression.specs.Readers.{Reader, and_then, next, first_place, sees}
use Rattle.tapa_parse_expression.specs.Reading.{begins_cast, Counting, Readers, enter, open_level, count, at_level, operator_of, chain_by, chain, chain_of, level, argument, more_arguments, some_arguments, any_arguments, in_parentheses, in_brackets, arguments, named_by, named, constructed, statically_cast, primary_by, primary, parenthesis, converted, prefixed, unary_by, unary_with, arms, expression_with, whole, form_by, counted, below_levels}
use Rattle.tapa_parse_expression.proofs.Parts.{Symbols, Yields, yields_pure, yields_none, yields_then, yields_if, weaker, takes, expect_yields, means, sees_is, is_end, name_yields, plain_yields, literal_yields}
use Rattle.tapa_parse_expression.proofs.SoundTypes.{one_sound, type_sound, takes_it}

-- ---- what it is that was read

-- a tree that stands between these places, with no more nesting than there is levels for; of n operators so many are left
pub record IsRead (level levels n : ℕ) (i : Symbols) (e : ExpressionTree) (left : ℕ) (r : Symbols) : Type 0 where
  pub spelled : IsExpression level e i r
  pub nests : nesting e ≤ levels
  pub counted : operators e + left ≡ n

-- the same of an expression with a count of its own
pub record IsReadWhole (level levels limit : ℕ) (i : Symbols) (e : ExpressionTree) (r : Symbols) : Type 0 where
  pub spelled : IsExpression level e i r
  pub nests : nesting e ≤ levels
  pub within : operators e ≤ limit

pub record IsReadCount (levels limit : ℕ) (i : Symbols) (c : CountTree) (r : Symbols) : Type 0 where
  pub spelled : IsCount c i r
  pub nests : form_nesting c.form ≤ levels
  pub within : form_operators c.form ≤ limit

pub record ReadsAt (level levels : ℕ) (p : Counting ExpressionTree) : Type 0 where
  pub on : (n : ℕ) (i : Symbols) → Yields (λ a r. IsRead level levels n i a.0 a.1 r) (p n i)

pub record AreSound (levels : ℕ) (R : Readers) : Type 0 where
  pub unary : ReadsAt 0 levels R.unary
  pub expression : ReadsAt expression_level levels R.expression

-- the readers one level below, by what is said of the readers of a level with so much levels
abbrev pub MayBe : (ℕ → Readers → Type 0) → ℕ → Option Readers → Type 0
MayBe S levels None = Unit {0}
MayBe S zero (Some R) = ⊥
MayBe S (suc levels) (Some R) = S levels R

abbrev pub MayBeSound : ℕ → Option Readers → Type 0
MayBeSound = MayBe AreSound

-- they have less levels
pub record IsBelow (S : ℕ → Readers → Type 0) (levels : ℕ) (R : Readers) : Type 0 where
  pub less : ℕ
  pub fewer : less + 1 ≤ levels
  pub sound : S less R

pub enters : {B : Type 0} {Q : B → Symbols → Type 0} (S : ℕ → Readers → Type 0) (f : Readers → Reader B) (levels : ℕ) (inner : Option Readers) (i : Symbols) → MayBe S levels inner → ((R : Readers) → IsBelow S levels R → Yields Q (f R i)) → Yields Q (and_then (enter inner i) f)
enters {Q = Q} S f levels None i h k = yields_none Q (P2, i)
enters S f zero (Some R) i h k = absurd h
enters S f (suc levels) (Some R) i h k = k R (record { less = levels; fewer = omega arith; sound = h })

pub open_sound : (S : ℕ → Readers → Type 0) (levels : ℕ) (inner : Option Readers) (m : Terminal) (i : Symbols) → is_end m ≡ false → MayBe S levels inner → Yields (λ R j. Takes m i j × IsBelow S levels R) (open_level m inner i)
unfolding open_level
open_sound S levels inner m i real h =
    yields_if (sees m i)
    (λ e. enters S _ levels inner i h (λ R b. yields_pure (λ R j. Takes m i j × IsBelow S levels R) R (drop 1 i) (takes m i real e, b)))
    (λ e. yields_none (λ R j. Takes m i j × IsBelow S levels R) (P1, i))

-- ---- levels

-- what binds tighter is an expression of a looser level too
pub looser : (n : ℕ) (e : ExpressionTree) (i r : Symbols) → IsExpression n e i r → IsExpression (suc n) e i r
looser n (literal k v) i r h = h
looser n (boolean true) i r h = h
looser n (boolean false) i r h = h
looser n (variable x) i r h = h
looser n (element x e) i r h = h
looser n (call stream method es) i r h = h
looser n nullptr i r h = (omega (arith, h.0), h.1)
looser n (construct k e) i r h = h
looser n (static_cast k e) i r h = h
looser n (cast k e) i r h = h
looser n (parenthesized e) i r h = h
looser n (prefix o at e) i r h = h
looser n (binary o at a b) i r h = (omega (arith, h.0), h.1)
looser n (conditional at c a b) i r h = (omega (arith, h.0), h.1)

pub operator_sound : (l : ℕ) (i : Symbols) (o : BinaryOperator) → operator_of l i ≡ Some o → (binds_at o ≡ l) × (binary_operator_of (next i) ≡ Some o)
unfolding operator_of
operator_sound l i o e = pick (binary_operator_of (next i)) refl e
  where
    bound : (p : BinaryOperator) (b : Bool) → ◌==◌ (binds_at p) l ≡ b → cond {A = Option BinaryOperator} b (Some p) None ≡ Some o → (binds_at p ≡ l) × (p ≡ o)
    bound p true is e = (eqb-true (binds_at p) l is, cc)
    bound p false is e = absurd cc

    pick : (found : Option BinaryOperator) → binary_operator_of (next i) ≡ found → at_level l found ≡ Some o → (binds_at o ≡ l) × (binary_operator_of (next i) ≡ Some o)
    pick None is e = absurd cc
    pick (Some p) is e = let b = bound p (◌==◌ (binds_at p) l) refl e in (subst (λ q. binds_at q ≡ l) b.1 b.0, is ∙ ap Some b.1)

counts : {B : Type 0} {Q : B → Symbols → Type 0} (f : ℕ → Reader B) (n : ℕ) (i : Symbols) → ((m : ℕ) → n ≡ suc m → Yields Q (f m i)) → Yields Q (and_then (count n i) f)
unfolding count
counts {Q = Q} f zero i k = yields_none Q (P2, i)
counts f (suc n) i k = k n refl

-- what was read before, and the operators that follow it
chain_sound : (operand : Counting ExpressionTree) (l levels : ℕ) → ReadsAt l levels operand → (turns : ℕ) (n0 : ℕ) (i0 : Symbols) (left : ExpressionTree) (n : ℕ) (i : Symbols) → IsRead (suc l) levels n0 i0 left n i
    → Yields (λ a r. IsRead (suc l) levels n0 i0 a.0 a.1 r) (chain operand l turns left n i)
unfolding chain
chain_sound operand l levels h zero n0 i0 left n i so_far = yields_pure (λ a r. IsRead (suc l) levels n0 i0 a.0 a.1 r) (left, n) i so_far
chain_sound operand l levels h (suc turns) n0 i0 left n i so_far = pick (chain_sound operand l levels h turns n0 i0) (operator_of l i) refl
  where
    longer : (o : BinaryOperator) → operator_of l i ≡ Some o → (m : ℕ) → n ≡ suc m → (right : ExpressionTree) (k : ℕ) (r : Symbols) → IsRead l levels m (drop 1 i) right k r → IsRead (suc l) levels n0 i0 (binary o (first_place i) left right) k r
    longer o is m one_less right k r right_read =
        let s = operator_sound l i o is in
        let left_spelled = subst (λ m. IsExpression (suc m) left i0 i) (sym s.0) so_far.spelled in
        let right_spelled = subst (λ m. IsExpression m right (drop 1 i) r) (sym s.0) right_read.spelled in
        record { spelled = (omega (arith, s.0), (i, left_spelled, (drop 1 i, means binary_operator_of i o refl s.1, right_spelled))); nests = omega arith; counted = omega arith }

    pick : ((longer : ExpressionTree) (k : ℕ) (j : Symbols) → IsRead (suc l) levels n0 i0 longer k j → Yields (λ a r. IsRead (suc l) levels n0 i0 a.0 a.1 r) (chain operand l turns longer k j))
        → (o : Option BinaryOperator) → operator_of l i ≡ o → Yields (λ a r. IsRead (suc l) levels n0 i0 a.0 a.1 r) (chain_by operand (chain operand l turns) left o n i)
    pick more None is = yields_pure (λ a r. IsRead (suc l) levels n0 i0 a.0 a.1 r) (left, n) i so_far
    pick more (Some o) is =
        counts _ n i (λ m one_less. yields_then (h.on m (drop 1 i)) (λ right r k. more (binary o (first_place i) left right.0) right.1 r (longer o is m one_less right.0 right.1 r k)))

pub level_sound : (u : Counting ExpressionTree) (levels : ℕ) → ReadsAt 0 levels u → (l : ℕ) → ReadsAt l levels (level u l)
unfolding level chain_of
level_sound u levels h zero = h
level_sound u levels h (suc l) =
    let tighter = level_sound u levels h l in
    record { on = λ n i. yields_then (tighter.on n i) (λ a j k. chain_sound (level u l) l levels tighter (length j) n i a.0 a.1 j (record { spelled = looser l a.0 i j k.spelled; nests = k.nests; counted = k.counted })) }

-- ---- what a method is called with

-- what is left to read of the arguments
record AreRead (levels n : ℕ) (found : List ExpressionTree) (i : Symbols) (es : List ExpressionTree) (left : ℕ) (r : Symbols) : Type 0 where
  more : List ExpressionTree
  all : es ≡ found ++ more
  spelled : AreMoreArguments (expressions more) i r
  nests : nestings (expressions more) ≤ levels
  counted : operators_in (expressions more) + left ≡ n

pub nothing_more : (found : List ExpressionTree) → found ≡ found ++ []
nothing_more [] = refl
nothing_more (e ∷ es) = ap (λ (xs : List ExpressionTree). e ∷ xs) (nothing_more es)

all_read : (levels n : ℕ) (found : List ExpressionTree) (i : Symbols) → AreRead levels n found i found n i
all_read levels n found i = record { more = []; all = nothing_more found; spelled = refl; nests = omega arith; counted = omega arith }

pub argument_sound : (levels : ℕ) (R : Readers) → AreSound levels R → (n : ℕ) (i : Symbols) → Yields (λ a r. IsRead argument_level levels n i a.0 a.1 r) (argument R n i)
unfolding argument
argument_sound levels R h n i =
    yields_if (sees terminal.Nullptr i)
    (λ e. yields_pure (λ a r. IsRead argument_level levels n i a.0 a.1 r) (nullptr, n) (drop 1 i) (record { spelled = (omega arith, takes terminal.Nullptr i refl e); nests = omega arith; counted = omega arith }))
    (λ e. weaker (h.expression.on n i) (λ a r k. record { spelled = looser expression_level a.0 i r k.spelled; nests = k.nests; counted = k.counted }))

more_arguments_sound : (levels : ℕ) (R : Readers) → AreSound levels R → (turns : ℕ) (found : List ExpressionTree) (n : ℕ) (i : Symbols) → Yields (λ a r. AreRead levels n found i a.0 a.1 r) (more_arguments R turns found n i)
unfolding more_arguments
more_arguments_sound levels R h zero found n i = yields_pure (λ a r. AreRead levels n found i a.0 a.1 r) (found, n) i (all_read levels n found i)
more_arguments_sound levels R h (suc turns) found n i =
    let again = more_arguments_sound levels R h turns in
    yields_if (sees terminal.Comma i)
    (λ e. yields_then (argument_sound levels R h n (drop 1 i)) (λ a j k. weaker (again (found ++ a.0 ∷ []) a.1 j) (λ b r l.
    record {
      more = a.0 ∷ l.more;
      all = l.all ∙ append_assoc found (a.0 ∷ []) l.more;
      spelled = (drop 1 i, takes terminal.Comma i refl e, (j, k.spelled, l.spelled));
      nests = omega (arith, k.nests, l.nests);
      counted = omega (arith, k.counted, l.counted);
    })))
    (λ e. yields_pure (λ a r. AreRead levels n found i a.0 a.1 r) (found, n) i (all_read levels n found i))

-- all the arguments
record AreReadAll (levels n : ℕ) (i : Symbols) (es : List ExpressionTree) (left : ℕ) (r : Symbols) : Type 0 where
  spelled : AreArguments (expressions es) i r
  nests : nestings (expressions es) ≤ levels
  counted : operators_in (expressions es) + left ≡ n

any_arguments_sound : (levels : ℕ) (R : Readers) → AreSound levels R → (n : ℕ) (i : Symbols) → Yields (λ a r. AreReadAll levels n i a.0 a.1 r) (any_arguments R n i)
unfolding any_arguments some_arguments
any_arguments_sound levels R h n i =
    yields_if (sees terminal.RightParen i)
    (λ e. yields_pure (λ a r. AreReadAll levels n i a.0 a.1 r) ([], n) i (record { spelled = refl; nests = omega arith; counted = omega arith }))
    (λ e. yields_then (argument_sound levels R h n i) (λ a j k. weaker (more_arguments_sound levels R h (length j) (a.0 ∷ []) a.1 j) (λ b r l. joined a.0 a.1 j k b.0 b.1 r l)))
  where
    joined : (a : ExpressionTree) (m : ℕ) (j : Symbols) → IsRead argument_level levels n i a m j → (es : List ExpressionTree) (left : ℕ) (r : Symbols) → AreRead levels m (a ∷ []) j es left r → AreReadAll levels n i es left r
    joined a m j k es left r l =
        let all : AreReadAll levels n i (a ∷ l.more) left r = record { spelled = (j, k.spelled, l.spelled); nests = omega (arith, k.nests, l.nests); counted = omega (arith, k.counted, l.counted) } in
        subst (λ (xs : List ExpressionTree). AreReadAll levels n i xs left r) (sym l.all) all

-- ---- an expression

pub takes_at : (m : Terminal) (i : Symbols) → is_end m ≡ false → sees m i ≡ true → TakesAt m (first_place i) i (drop 1 i)
takes_at m [] real e = absurd (let t = takes m [] real e in cc)
takes_at m (x ∷ i) real e = (x, (sees_is m (x ∷ i) e, refl), refl)

-- what stands in brackets
pub record IsReadInBrackets (levels n : ℕ) (i : Symbols) (e : ExpressionTree) (left : ℕ) (r : Symbols) : Type 0 where
  pub spelled : (Takes terminal.LeftBracket ⨾ IsExpression expression_level e ⨾ Takes terminal.RightBracket) i r
  pub nests : suc (nesting e) ≤ levels
  pub counted : operators e + left ≡ n

record AreReadInParentheses (levels n : ℕ) (i : Symbols) (es : List ExpressionTree) (left : ℕ) (r : Symbols) : Type 0 where
  spelled : (Takes terminal.LeftParen ⨾ AreArguments (expressions es) ⨾ Takes terminal.RightParen) i r
  nests : suc (nestings (expressions es)) ≤ levels
  counted : operators_in (expressions es) + left ≡ n

record IsReadForm (levels limit : ℕ) (i : Symbols) (f : CountForm) (r : Symbols) : Type 0 where
  spelled : IsCountForm f i r
  nests : form_nesting f ≤ levels
  within : form_operators f ≤ limit

never : {x : Symbol} {i : Symbols} → [] ≡ x ∷ i → ⊥
never e = cc

module _ (levels : ℕ) (inner : Option Readers) (h : MayBeSound levels inner) where
  pub in_parentheses_sound : (n : ℕ) (i : Symbols) → Yields (λ a r. IsRead 0 levels n i (parenthesized a.0) a.1 r) (in_parentheses inner n i)
  unfolding in_parentheses
  in_parentheses_sound n i =
      yields_then (open_sound AreSound levels inner terminal.LeftParen i refl h) (λ R j opened. yields_then (opened.1.sound.expression.on n j) (λ a k e. yields_then (expect_yields terminal.RightParen k refl) (λ _ r close.
      yields_pure (λ a r. IsRead 0 levels n i (parenthesized a.0) a.1 r) a r (record { spelled = (j, opened.0, (k, e.spelled, close)); nests = omega (arith, opened.1.fewer, e.nests); counted = e.counted }))))

  pub in_brackets_sound : (n : ℕ) (i : Symbols) → Yields (λ a r. IsReadInBrackets levels n i a.0 a.1 r) (in_brackets inner n i)
  unfolding in_brackets
  in_brackets_sound n i =
      yields_then (open_sound AreSound levels inner terminal.LeftBracket i refl h) (λ R j opened. yields_then (opened.1.sound.expression.on n j) (λ a k e. yields_then (expect_yields terminal.RightBracket k refl) (λ _ r close.
      yields_pure (λ a r. IsReadInBrackets levels n i a.0 a.1 r) a r (record { spelled = (j, opened.0, (k, e.spelled, close)); nests = omega (arith, opened.1.fewer, e.nests); counted = e.counted }))))

  arguments_sound : (n : ℕ) (i : Symbols) → Yields (λ a r. AreReadInParentheses levels n i a.0 a.1 r) (arguments inner n i)
  unfolding arguments
  arguments_sound n i =
      yields_then (open_sound AreSound levels inner terminal.LeftParen i refl h) (λ R j opened. yields_then (any_arguments_sound opened.1.less R opened.1.sound n j) (λ a k e. yields_then (expect_yields terminal.RightParen k refl) (λ _ r close.
      yields_pure (λ a r. AreReadInParentheses levels n i a.0 a.1 r) a r (record { spelled = (j, opened.0, (k, e.spelled, close)); nests = omega (arith, opened.1.fewer, e.nests); counted = e.counted }))))

  abbrev IsUnary : ℕ → Symbols → ExpressionTree × ℕ → Symbols → Type 0
  IsUnary n i a r = IsRead 0 levels n i a.0 a.1 r

  named_sound : (n : ℕ) (i : Symbols) → Yields (IsUnary n i) (named inner n i)
  unfolding named
  named_sound n i = yields_then (name_yields i) (λ x j is. pick x j is (next j) refl)
    where
      pick : (x : Name) (j : Symbols) → IsName x i j → (m : Terminal) → next j ≡ m → Yields (IsUnary n i) (named_by inner m x n j)
      pick x j is terminal.Dot e =
          yields_then (plain_yields (drop 1 j)) (λ method k plain. yields_then (arguments_sound n k) (λ a r l.
          yields_pure (IsUnary n i) (call x method (expressions a.0), a.1) r (record { spelled = (j, is, (drop 1 j, takes_it terminal.Dot j refl e, (k, plain, l.spelled))); nests = l.nests; counted = l.counted })))
      pick x j is terminal.LeftBracket e =
          yields_then (in_brackets_sound n j) (λ a r l. yields_pure (IsUnary n i) (element x a.0, a.1) r (record { spelled = (j, is, l.spelled); nests = l.nests; counted = l.counted }))
      pick x j is _ e = yields_pure (IsUnary n i) (variable x, n) j (record { spelled = is; nests = omega arith; counted = omega arith })

  constructed_sound : (n : ℕ) (i : Symbols) → Yields (IsUnary n i) (constructed inner n i)
  unfolding constructed
  constructed_sound n i =
      yields_then (one_sound i) (λ k j is. yields_then (in_parentheses_sound n j) (λ a r l. yields_pure (IsUnary n i) (construct k a.0, a.1) r (record { spelled = (j, is, l.spelled); nests = l.nests; counted = l.counted })))

  statically_cast_sound : (n : ℕ) (i : Symbols) → next i ≡ terminal.StaticCast → Yields (IsUnary n i) (statically_cast inner n i)
  unfolding statically_cast
  statically_cast_sound n i e =
      yields_then (expect_yields terminal.Less (drop 1 i) refl) (λ _ j less. yields_then (type_sound j) (λ k l is. yields_then (expect_yields terminal.Greater l refl) (λ _ o greater. yields_then (in_parentheses_sound n o) (λ a r p.
      yields_pure (IsUnary n i) (static_cast k a.0, a.1) r (record { spelled = (drop 1 i, takes_it terminal.StaticCast i refl e, (j, less, (l, is, (o, greater, p.spelled)))); nests = p.nests; counted = p.counted })))))

  primary_sound : (n : ℕ) (i : Symbols) → Yields (IsUnary n i) (primary inner n i)
  unfolding primary
  primary_sound n i = yields_if (is_name (next i)) (λ e. named_sound n i) (λ e. pick (next i) refl)
    where
      pick : (m : Terminal) → next i ≡ m → Yields (IsUnary n i) (primary_by inner m n i)
      pick terminal.Literal e = yields_then (literal_yields i) (λ v r is. yields_pure (IsUnary n i) (literal v.0 v.1, n) r (record { spelled = is; nests = omega arith; counted = omega arith }))
      pick terminal.True e = yields_pure (IsUnary n i) (boolean true, n) (drop 1 i) (record { spelled = takes_it terminal.True i refl e; nests = omega arith; counted = omega arith })
      pick terminal.False e = yields_pure (IsUnary n i) (boolean false, n) (drop 1 i) (record { spelled = takes_it terminal.False i refl e; nests = omega arith; counted = omega arith })
      pick terminal.StaticCast e = statically_cast_sound n i e
      pick _ e = constructed_sound n i

  converted_sound : (n : ℕ) (i : Symbols) → Yields (IsUnary n i) (converted inner n i)
  unfolding converted
  converted_sound n i =
      yields_then (open_sound AreSound levels inner terminal.LeftParen i refl h) (λ R j opened. yields_then (type_sound j) (λ k l is. yields_then (expect_yields terminal.RightParen l refl) (λ _ o close. yields_then (opened.1.sound.unary.on n o) (λ a r e.
      yields_pure (IsUnary n i) (cast k a.0, a.1) r (record { spelled = (j, opened.0, (l, is, (o, close, e.spelled))); nests = omega (arith, opened.1.fewer, e.nests); counted = e.counted })))))

  prefixed_sound : (o : PrefixOperator) (n : ℕ) (i : Symbols) → prefix_operator_of (next i) ≡ Some o → Yields (IsUnary n i) (prefixed inner o n i)
  unfolding prefixed
  prefixed_sound o n i is =
      counts _ n i (λ m one_less. enters AreSound _ levels inner i h (λ R b. yields_then (b.sound.unary.on m (drop 1 i)) (λ a r e.
      yields_pure (IsUnary n i) (prefix o (first_place i) a.0, a.1) r (record { spelled = (drop 1 i, means prefix_operator_of i o refl is, e.spelled); nests = omega (arith, b.fewer, e.nests); counted = omega (arith, one_less, e.counted) }))))

  pub unary_sound : ReadsAt 0 levels (unary_with inner)
  unfolding unary_with parenthesis
  unary_sound = record { on = λ n i. pick n i (prefix_operator_of (next i)) refl }
    where
      pick : (n : ℕ) (i : Symbols) (o : Option PrefixOperator) → prefix_operator_of (next i) ≡ o → Yields (IsUnary n i) (unary_by inner o n i)
      pick n i (Some o) is = prefixed_sound o n i is
      pick n i None is =
          yields_if (sees terminal.LeftParen i)
          (λ e. yields_if (begins_cast i) (λ _. converted_sound n i) (λ _. yields_then (in_parentheses_sound n i) (λ a r p. yields_pure (IsUnary n i) (parenthesized a.0, a.1) r p)))
          (λ e. primary_sound n i)

  abbrev IsAny : ℕ → Symbols → ExpressionTree × ℕ → Symbols → Type 0
  IsAny n i a r = IsRead expression_level levels n i a.0 a.1 r

  arms_sound : (n0 : ℕ) (i0 : Symbols) (c : ExpressionTree) (n : ℕ) (i : Symbols) → IsRead or_level levels n0 i0 c n i → sees terminal.Question i ≡ true → Yields (IsAny n0 i0) (arms inner c n i)
  unfolding arms
  arms_sound n0 i0 c n i test seen =
      counts _ n i (λ m one_less. enters AreSound _ levels inner i h (λ R below. yields_then (below.sound.expression.on m (drop 1 i)) (λ a j k. yields_then (expect_yields terminal.Colon j refl) (λ _ l colon. yields_then (below.sound.expression.on a.1 l) (λ b r o.
      yields_pure (IsAny n0 i0) (conditional (first_place i) c a.0 b.0, b.1) r
      (record {
        spelled = (omega arith, (i, test.spelled, (drop 1 i, takes_at terminal.Question i refl seen, (j, k.spelled, (l, colon, o.spelled)))));
        nests = omega (arith, test.nests, below.fewer, k.nests, o.nests);
        counted = omega (arith, test.counted, one_less, k.counted, o.counted);
      }))))))

  pub expression_sound : ReadsAt expression_level levels (expression_with inner)
  unfolding expression_with
  expression_sound =
      record {
        on = λ n i. yields_then ((level_sound (unary_with inner) levels unary_sound or_level).on n i) (λ c j k.
            yields_if (sees terminal.Question j) (λ e. arms_sound n i c.0 c.1 j k e) (λ e. yields_pure (IsAny n i) c j (record { spelled = looser or_level c.0 i j k.spelled; nests = k.nests; counted = k.counted })));
      }

  form_sound : (limit : ℕ) (i : Symbols) → Yields (λ f r. IsReadForm levels limit i f r) (form_by limit inner (next i) i)
  form_sound limit i = pick (next i) refl
    where
      pick : (m : Terminal) → next i ≡ m → Yields (λ f r. IsReadForm levels limit i f r) (form_by limit inner m i)
      pick terminal.Literal e = yields_then (literal_yields i) (λ v r is. yields_pure (λ f r. IsReadForm levels limit i f r) (literal_count v.0 v.1) r (record { spelled = is; nests = omega arith; within = omega arith }))
      pick terminal.LeftParen e =
          yields_then (yields_then (in_parentheses_sound limit i) (λ a r k. yields_pure (λ e r. IsReadWhole 0 levels limit i (parenthesized e) r) a.0 r (record { spelled = k.spelled; nests = k.nests; within = omega (arith, k.counted) }))) (λ e r k.
          yields_pure (λ f r. IsReadForm levels limit i f r) (parenthesized_count e) r (record { spelled = k.spelled; nests = k.nests; within = k.within }))
      pick _ e = yields_then (name_yields i) (λ x r is. yields_pure (λ f r. IsReadForm levels limit i f r) (name_count x) r (record { spelled = is; nests = omega arith; within = omega arith }))

  pub counted_sound : (limit : ℕ) (i : Symbols) → Yields (λ c r. IsReadCount levels limit i c r) (counted limit inner i)
  unfolding counted
  counted_sound limit i =
      yields_then (form_sound limit i) (λ f r k. yields_pure (λ c r. IsReadCount levels limit i c r) (record { place = first_place i; form = f }) r (record { spelled = (stands i f r k.spelled, k.spelled); nests = k.nests; within = k.within }))
    where
      stands : (i : Symbols) (f : CountForm) (r : Symbols) → IsCountForm f i r → StandsAt (first_place i) i
      stands (x ∷ i) f r k = refl
      stands [] (literal_count kind v) r k = absurd (never k.2)
      stands [] (name_count x) r k = absurd (never k.2)
      stands [] (parenthesized_count e) r k = absurd (never k.1.2)

-- an expression with a count of its own
pub whole_sound : (l levels limit : ℕ) (p : Counting ExpressionTree) → ReadsAt l levels p → (i : Symbols) → Yields (λ e r. IsReadWhole l levels limit i e r) (whole p limit i)
whole_sound l levels limit p h i = yields_then (h.on limit i) (λ a r k. yields_pure (λ e r. IsReadWhole l levels limit i e r) a.0 r (record { spelled = k.spelled; nests = k.nests; within = omega (arith, k.counted) }))

pub below_sound : (limit levels : ℕ) → MayBeSound levels (below_levels limit levels)
unfolding below_levels
below_sound limit zero = tt
below_sound limit (suc levels) = let h = below_sound limit levels in record { unary = unary_sound levels (below_levels limit levels) h; expression = expression_sound levels (below_levels limit levels) h }
