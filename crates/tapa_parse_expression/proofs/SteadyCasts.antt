-- The readers of casts are steady, though they look further than one symbol; and so are those of whole expressions.
use Rattle.std.proofs.Common.{◌≡◌, ◌⊎◌, inl, inr, ℕ, zero, suc, Bool, true, false, cond, [], ◌∷◌, drop, Option, Some, None, Ok, Err, refl, sym, ap, subst, ◌∙◌, arith}
use Rattle.std.specs.Prelude.{not, if◌then◌else◌}
use Rattle.tapa_base.specs.declared.kind.Kind.{Kind}
use Rattle.tapa_base.specs.declared.kind.Kind.TheVariants as kind
use Rattle.tapa_base.specs.declared.text.Place.{Place}
use Rattle.tapa_base.specs.Spans.{◌⨾◌, ◌∣◌, Nothing}
use Rattle.tapa_syntax.specs.declared.terminal.Terminal.{Terminal}
use Rattle.tapa_syntax.specs.declared.terminal.Terminal.TheVariants as terminal
use Rattle.tapa_syntax.specs.declared.tree.PrefixOperator.{PrefixOperator}
use Rattle.tapa_syntax.specs.Symbols.{Symbol}
use Rattle.tapa_syntax.specs.Trees.{ExpressionTree, nullptr, construct, cast, parenthesized, conditional}
use Rattle.tapa_syntax.specs.Grammar.{Part, Takes, IsOne, IsType, word_kind, sized_kind, prefix_operator_of, is_name, or_level, expression_level}
use Rattle.tapa_parse_expression.specs.Readers.{Reader, Outcome, and_then, next, first_place, same, sees, skip, expect, here, pure, refuse, ◌>>=◌, ◌>>◌}
use Rattle.tapa_parse_expression.specs.Reading.{Readers, one_kind, one, type_by, type_name, enter, open_level, level, in_parentheses, constructed, primary_by, primary, parenthesis, converted, unary_by, unary_with, arms, expression_with, begins_cast, below_levels, readers}
use Rattle.tapa_parse_expression.specs.declared.fault.ParseCode.TheVariants.{P2}
use Rattle.tapa_parse_expression.proofs.Parts.{Symbols, is_end, is_seen, if_true, if_false, differ_by}
use Rattle.tapa_parse_expression.proofs.SoundTypes.{one_sound, is_word}
use Rattle.tapa_parse_expression.proofs.SoundExpressions.{looser}
use Rattle.tapa_parse_expression.proofs.CompleteTypes.{one_word}
use Rattle.tapa_parse_expression.proofs.CompleteExpressions.{type_no_prefix, type_no_name, type_no_paren}
use Rattle.tapa_parse_expression.proofs.Begins.{begins_type, cast_behind, no_type}
use Rattle.tapa_parse_expression.proofs.Fronts.{Steady, refuses, Any, MaySteady, full_then, full_takes, front_none, goes_at, steady_map, steady_where, steady_behind, steady_then, steady_value, steady_pure, steady_by, steady_at, steady_sees, steady_expect, steady_skips, steady_count, steady_enter}
use Rattle.tapa_parse_expression.proofs.SteadyLists.{and_then_again}
use Rattle.tapa_parse_expression.proofs.SteadyTypes.{steady_one, words_behind, words_read, steady_words}
use Rattle.tapa_parse_expression.proofs.SteadyExpressions.{AnyExpression, Behind, ReadsType, AreSteady, full_expression, steady_level, level_reads_type, steady_in_parentheses, steady_primary, steady_prefixed}

-- ---- what stands behind a parenthesis: a type, or an expression

word_of : (m : Terminal) → begins_type m ≡ true → (m ≡ terminal.Std) ⊎ ((k : Kind) × (one_kind m ≡ Some k))
word_of terminal.Std e = inl refl
word_of terminal.Bool e = inr (kind.Bool, refl)
word_of terminal.Int e = inr (kind.I32, refl)
word_of terminal.Short e = inr (kind.I16, refl)
word_of terminal.Long e = inr (kind.I64, refl)
word_of terminal.Unsigned e = inr (kind.U32, refl)
word_of terminal.SizeT e = inr (kind.U64, refl)
word_of terminal.Int8 e = inr (kind.I8, refl)
word_of terminal.Uint8 e = inr (kind.U8, refl)
word_of terminal.Int16 e = inr (kind.I16, refl)
word_of terminal.Uint16 e = inr (kind.U16, refl)
word_of terminal.Int32 e = inr (kind.I32, refl)
word_of terminal.Uint32 e = inr (kind.U32, refl)
word_of terminal.Int64 e = inr (kind.I64, refl)
word_of terminal.Uint64 e = inr (kind.U64, refl)
word_of _ e = absurd cc

-- a type behind `std` has three symbols
one_drops : (t : Symbols) (k : Kind) (l : Symbols) → next t ≡ terminal.Std → one t ≡ Ok (k, l) → l ≡ drop 3 t
one_drops t k l std e = pick ((one_sound t).on k l e)
  where
    pick : IsOne k t l → l ≡ drop 3 t
    pick (inl (x, means, is)) = absurd (let here : x.terminal ≡ terminal.Std = sym (ap next is) ∙ std in never (ap word_kind here) means)
      where
        never : word_kind x.terminal ≡ None → word_kind x.terminal ≡ Some k → ⊥
        never a b = cc
    pick (inr (inl (x, means, is))) = absurd (let here : x.terminal ≡ terminal.Std = sym (ap next is) ∙ std in never (ap sized_kind here) means)
      where
        never : sized_kind x.terminal ≡ None → sized_kind x.terminal ≡ Some k → ⊥
        never a b = cc
    pick (inr (inr (a, (x, e, std), (b, (y, f, scope), (z, g, is))))) = sym (ap (drop 3) (std ∙ ap (λ c. x ∷ c) (scope ∙ ap (λ d. y ∷ d) is)))

cond_not : {A : Type 0} (b : Bool) (p q : A) → cond (not b) p q ≡ cond b q p
cond_not true p q = refl
cond_not false p q = refl

cond_same : {A : Type 0} (b : Bool) (p : A) → cond b p p ≡ p
cond_same true p = refl
cond_same false p = refl

module _ (R : Readers) (s : AreSteady R) (n : ℕ) where
  abbrev cast_rest : Kind → Reader (ExpressionTree × ℕ)
  cast_rest k = do
    expect terminal.RightParen
    e ← R.unary n
    pure (cast k e.0, e.1)

  abbrev casts : Reader (ExpressionTree × ℕ)
  casts = type_name >>= cast_rest

  abbrev closed : ExpressionTree × ℕ → Reader (ExpressionTree × ℕ)
  closed e = expect terminal.RightParen >> pure e

  abbrev in_paren : ExpressionTree × ℕ → ExpressionTree × ℕ
  in_paren e = (parenthesized e.0, e.1)

  abbrev parens : Reader (ExpressionTree × ℕ)
  parens = R.expression n >>= closed >>= (λ e. pure (in_paren e))

  abbrev paren_rest : Kind → Reader (ExpressionTree × ℕ)
  paren_rest k = s.reads_type.rest n k >>= closed >>= (λ e. pure (in_paren e))

  abbrev insides : Reader (ExpressionTree × ℕ)
  insides t = cond (cast_behind t) (casts t) (parens t)

  abbrev CastPart : Part
  CastPart = Takes terminal.RightParen ⨾ AnyExpression 0

  abbrev Inside : Part
  Inside = (Any IsType ⨾ CastPart) ∣ (AnyExpression expression_level ⨾ Takes terminal.RightParen)

  abbrev ParenRest : Part
  ParenRest = Behind expression_level ⨾ Takes terminal.RightParen

  steady_cast_rest : (k : Kind) (j : Symbols) → Steady CastPart (cast_rest k) j
  steady_cast_rest k j = steady_then tt (steady_expect terminal.RightParen j refl) (λ _ l. steady_value (λ e. (cast k e.0, e.1)) (s.unary n l))

  steady_paren_rest : (k : Kind) (j : Symbols) → Steady ParenRest (paren_rest k) j
  steady_paren_rest k j = steady_value in_paren (steady_then (nullptr, 0) (s.reads_type.steady n k j) (λ e l. steady_value (λ _. e) (steady_expect terminal.RightParen l refl)))

  steady_parens : (t : Symbols) → Steady (AnyExpression expression_level ⨾ Takes terminal.RightParen) parens t
  steady_parens t = steady_value in_paren (steady_then (nullptr, 0) (s.expression n t) (λ e l. steady_value (λ _. e) (steady_expect terminal.RightParen l refl)))

  -- where a type of one word is read first
  parens_is : (t : Symbols) → begins_type (next t) ≡ true → parens t ≡ (one >>= paren_rest) t
  parens_is t begins =
      ap (λ o. and_then (and_then o closed) (λ e. pure (in_paren e))) (s.reads_type.is n t begins)
      ∙ ap (λ o. and_then o (λ e. pure (in_paren e))) (and_then_again (one t) (s.reads_type.rest n) closed) ∙ and_then_again (one t) (λ k. s.reads_type.rest n k >>= closed) (λ e. pure (in_paren e))

  -- no type comes first
  steady_other : (t : Symbols) → begins_type (next t) ≡ false → Steady Inside insides t
  steady_other t none =
      steady_where parens insides t (λ k e. ap (λ b. cond b (casts k) (parens k)) (no_type k (ap begins_type e ∙ none)))
      (steady_map (AnyExpression expression_level ⨾ Takes terminal.RightParen) Inside (λ j r h. inr h) (steady_parens t))

  -- a word of a type, which is not `std`
  steady_word : (y : Symbol) (k : Kind) (t : Symbols) → one_kind y.terminal ≡ Some k → begins_type y.terminal ≡ true → Steady Inside insides (y ∷ t)
  unfolding sees
  steady_word y k t e begins =
      steady_behind (((λ j r. Any IsType (y ∷ j) r) ⨾ CastPart) ∣ ParenRest) Inside (λ j. if sees terminal.LeftParen j then paren_rest k j else (words_behind y.terminal k >>= cast_rest) j) insides y t split joined
      (steady_sees terminal.LeftParen (paren_rest k) (words_behind y.terminal k >>= cast_rest) t
      (λ _. steady_map ParenRest (((λ j r. Any IsType (y ∷ j) r) ⨾ CastPart) ∣ ParenRest) (λ j r h. inr h) (steady_paren_rest k t))
      (λ _. steady_map ((λ j r. Any IsType (y ∷ j) r) ⨾ CastPart) (((λ j r. Any IsType (y ∷ j) r) ⨾ CastPart) ∣ ParenRest) (λ j r h. inl h) (steady_then kind.Bool (steady_words y k t e) (λ l j. steady_cast_rest l j))))
    where
      behind : (j : Symbols) → cast_behind (y ∷ j) ≡ not (sees terminal.LeftParen j)
      behind j = if_false _ (differ_by one_kind y.terminal terminal.Std (λ f. cc)) (rw e refl)

      split : (j : Symbols) → insides (y ∷ j) ≡ (if sees terminal.LeftParen j then paren_rest k j else (words_behind y.terminal k >>= cast_rest) j)
      split j =
          ap (λ b. cond b (casts (y ∷ j)) (parens (y ∷ j))) (behind j) ∙ cond_not (sees terminal.LeftParen j) (casts (y ∷ j)) (parens (y ∷ j))
          ∙ ap (λ o. cond (sees terminal.LeftParen j) o (casts (y ∷ j))) (parens_is (y ∷ j) begins ∙ ap (λ o. and_then o paren_rest) (one_word k y j e))
          ∙ ap (λ o. cond (sees terminal.LeftParen j) (paren_rest k j) (and_then o cast_rest)) (words_read y k j e)

      joined : (j r : Symbols) → (((λ j r. Any IsType (y ∷ j) r) ⨾ CastPart) ∣ ParenRest) j r → Inside (y ∷ j) r
      joined j r (inl h) = inl h
      joined j r (inr h) = inr (h.0, h.1 (y ∷ j) (k, is_word k (y ∷ j) j (y, e, refl)), h.2)

  abbrev either : Kind → Reader (ExpressionTree × ℕ)
  either k j = if sees terminal.LeftParen j then paren_rest k j else cast_rest k j

  -- `std` comes first
  std_is : (t : Symbols) → next t ≡ terminal.Std → insides t ≡ (one >>= either) t
  unfolding type_name
  std_is t std =
      ap (λ b. cond b (casts t) (parens t)) behind ∙ cond_not (sees terminal.LeftParen (drop 3 t)) (casts t) (parens t)
      ∙ ap (λ o. cond (sees terminal.LeftParen (drop 3 t)) o (casts t)) (parens_is t (ap begins_type std))
      ∙ ap (λ m. cond (sees terminal.LeftParen (drop 3 t)) (and_then (one t) paren_rest) (and_then (type_by m t) cast_rest)) std ∙ pick (one t) refl
    where
      behind : cast_behind t ≡ not (sees terminal.LeftParen (drop 3 t))
      behind = if_true _ (is_seen terminal.Std t std) refl

      pick : (o : Outcome Kind) → one t ≡ o → cond (sees terminal.LeftParen (drop 3 t)) (and_then o paren_rest) (and_then o cast_rest) ≡ and_then o either
      pick (Err e) is = cond_same (sees terminal.LeftParen (drop 3 t)) (Err e)
      pick (Ok (k, l)) is = ap (λ d. cond (sees terminal.LeftParen d) (paren_rest k l) (cast_rest k l)) (sym (one_drops t k l std is))

  steady_std : (t : Symbols) → next t ≡ terminal.Std → Steady Inside insides t
  steady_std t std =
      steady_where (one >>= either) insides t (λ k e. std_is k (e ∙ std))
      (steady_map (Any IsOne ⨾ (ParenRest ∣ CastPart)) Inside joined
      (steady_then kind.Bool (steady_one t) (λ k j. steady_sees terminal.LeftParen (paren_rest k) (cast_rest k) j
      (λ _. steady_map ParenRest (ParenRest ∣ CastPart) (λ j r h. inl h) (steady_paren_rest k j)) (λ _. steady_map CastPart (ParenRest ∣ CastPart) (λ j r h. inr h) (steady_cast_rest k j)))))
    where
      joined : (j r : Symbols) → (Any IsOne ⨾ (ParenRest ∣ CastPart)) j r → Inside j r
      joined j r (a, first, inl h) = inr (h.0, h.1 j first, h.2)
      joined j r (a, first, inr h) = inl (a, (first.0, inl first.1), h)

  steady_insides : (t : Symbols) → Steady Inside insides t
  steady_insides [] = steady_other [] refl
  steady_insides (y ∷ t) = pick (begins_type y.terminal) refl
    where
      word : begins_type y.terminal ≡ true → (y.terminal ≡ terminal.Std) ⊎ ((k : Kind) × (one_kind y.terminal ≡ Some k)) → Steady Inside insides (y ∷ t)
      word e (inl std) = steady_std (y ∷ t) std
      word e (inr (k, is)) = steady_word y k t is e

      pick : (b : Bool) → begins_type y.terminal ≡ b → Steady Inside insides (y ∷ t)
      pick false e = steady_other (y ∷ t) e
      pick true e = word e (word_of y.terminal e)

-- ---- level 0

module _ (inner : Option Readers) (h : MaySteady AreSteady inner) (n : ℕ) where
  abbrev parenthesized_or_cast : Option Readers → Reader (ExpressionTree × ℕ)
  parenthesized_or_cast inner i = if begins_cast i then converted inner n i else parenthesis inner n i

  abbrev ParenPart : Part
  ParenPart = Takes terminal.LeftParen ⨾ (AnyExpression expression_level ⨾ Takes terminal.RightParen)

  opened : (R : Readers) (x : Symbol) (t : Symbols) → x.terminal ≡ terminal.LeftParen → open_level terminal.LeftParen (Some R) (x ∷ t) ≡ Ok (R, t)
  unfolding open_level
  opened R x t is = if_true _ (is_seen terminal.LeftParen (x ∷ t) is) refl

  none_opened : (i : Symbols) → next i ≡ terminal.LeftParen → open_level terminal.LeftParen None i ≡ Err (P2, i)
  unfolding open_level
  none_opened i is = if_true _ (is_seen terminal.LeftParen i is) refl

  inside_is : (R : Readers) (s : AreSteady R) (x : Symbol) (t : Symbols) → x.terminal ≡ terminal.LeftParen → parenthesized_or_cast (Some R) (x ∷ t) ≡ insides R s n t
  unfolding begins_cast converted parenthesis in_parentheses
  inside_is R s x t is = rw (opened R x t is) refl

  none_inside : (k : Symbols) → next k ≡ terminal.LeftParen → parenthesized_or_cast None k ≡ Err (P2, k)
  unfolding converted parenthesis in_parentheses
  none_inside k e = rw (none_opened k e) (cond_same (begins_cast k) (Err (P2, k)))

  inside_tree : (x : Symbol) (t r : Symbols) → x.terminal ≡ terminal.LeftParen → ((Any IsType ⨾ (Takes terminal.RightParen ⨾ AnyExpression 0)) ∣ (AnyExpression expression_level ⨾ Takes terminal.RightParen)) t r → AnyExpression 0 (x ∷ t) r
  inside_tree x t r is (inl (a, (k, type), (b, close, (e, operand)))) = (cast k e, (t, (x, is, refl), (a, type, (b, close, operand))))
  inside_tree x t r is (inr (a, (e, inside), close)) = (parenthesized e, (t, (x, is, refl), (a, inside, close)))

  -- a parenthesis is a lexeme with which an expression goes on
  goes_in : (x : Symbol) → x.terminal ≡ terminal.LeftParen → (r : Symbols → Symbols) × ((j : Symbols) → AnyExpression 0 (x ∷ r j) j)
  goes_in x is =
      let full = full_then (full_expression expression_level) (full_takes terminal.RightParen) in
      (full.before, λ j. inside_tree x (full.before j) j is (inr (full.spelled j)))

  steady_parenthesis : (i : Symbols) → next i ≡ terminal.LeftParen → Steady (AnyExpression 0) (parenthesized_or_cast inner) i
  steady_parenthesis i is = pick inner h i is
    where
      pick : (inner : Option Readers) → MaySteady AreSteady inner → (i : Symbols) → next i ≡ terminal.LeftParen → Steady (AnyExpression 0) (parenthesized_or_cast inner) i
      pick None h i is =
          steady_where (refuse P2) (parenthesized_or_cast None) i (λ k e. none_inside k (e ∙ is))
          (refuses P2 front_none i refl refl (goes_at (AnyExpression 0) i (ap is_end is) (λ x e. goes_in x (e ∙ is))) (λ x z other ends. refl))
      pick (Some R) h [] is = absurd cc
      pick (Some R) h (x ∷ t) is =
          steady_behind ((Any IsType ⨾ (Takes terminal.RightParen ⨾ AnyExpression 0)) ∣ (AnyExpression expression_level ⨾ Takes terminal.RightParen)) (AnyExpression 0) (insides R h n) (parenthesized_or_cast (Some R)) x t
          (λ k. inside_is R h x k is) (λ j r p. inside_tree x j r is p) (steady_insides R h n t)

  pub steady_unary : (i : Symbols) → Steady (AnyExpression 0) (unary_with inner n) i
  unfolding unary_with
  steady_unary i = steady_by (λ m. unary_by inner (prefix_operator_of m) n) i (pick (prefix_operator_of (next i)) refl)
    where
      pick : (o : Option PrefixOperator) → prefix_operator_of (next i) ≡ o → Steady (AnyExpression 0) (unary_by inner o n) i
      pick (Some o) e = steady_prefixed inner h o n i e
      pick None e = steady_sees terminal.LeftParen (parenthesized_or_cast inner) (primary inner n) i (λ is. steady_parenthesis i is) (λ _. steady_primary inner h n i)

-- ---- whole expressions

type_unary : (inner : Option Readers) (n : ℕ) (i : Symbols) (m : Terminal) → next i ≡ m → begins_type m ≡ true → unary_with inner n i ≡ constructed inner n i
unfolding unary_with primary sees
type_unary inner n i m is begins =
    ap (λ o. unary_by inner o n i) (ap prefix_operator_of is ∙ type_no_prefix m begins)
    ∙ if_false _ (ap (λ k. same k terminal.LeftParen) is ∙ type_no_paren m begins) (if_false _ (ap is_name is ∙ type_no_name m begins) (ap (λ k. primary_by inner k n i) is ∙ by_type m begins))
  where
    by_type : (m : Terminal) → begins_type m ≡ true → primary_by inner m n i ≡ constructed inner n i
    by_type terminal.Literal e = absurd cc
    by_type terminal.True e = absurd cc
    by_type terminal.False e = absurd cc
    by_type terminal.StaticCast e = absurd cc
    by_type _ e = refl

module _ (inner : Option Readers) (h : MaySteady AreSteady inner) where
  unary_reads_type : ReadsType 0 (unary_with inner)
  unfolding constructed
  unary_reads_type = record {
    rest = λ n k. in_parentheses inner n >>= (λ e. pure (construct k e.0, e.1));
    steady = λ n k j. steady_map (Takes terminal.LeftParen ⨾ (AnyExpression expression_level ⨾ Takes terminal.RightParen)) (Behind 0)
        (λ j r p i first. (construct first.0 p.2.1.0, (j, first.1, (p.0, p.1, (p.2.0, p.2.1.1, p.2.2))))) (steady_value (λ e. (construct k e.0, e.1)) (steady_in_parentheses inner h n j));
    is = λ n j begins. type_unary inner n j (next j) refl begins;
  }

  pub steady_tighter : (l n : ℕ) (i : Symbols) → Steady (AnyExpression l) (level (unary_with inner) l n) i
  steady_tighter l n i = steady_level (unary_with inner) (steady_unary inner h) l n i

  abbrev ArmsPart : Part
  ArmsPart = Takes terminal.Question ⨾ (AnyExpression expression_level ⨾ (Takes terminal.Colon ⨾ AnyExpression expression_level))

  abbrev arms_at : ExpressionTree → Readers → ℕ → Place → Reader (ExpressionTree × ℕ)
  arms_at c R m at = do
    skip
    a ← R.expression m
    expect terminal.Colon
    b ← R.expression a.1
    pure (conditional at c a.0 b.0, b.1)

  steady_arms : (c : ExpressionTree) (n : ℕ) (i : Symbols) → next i ≡ terminal.Question → Steady ArmsPart (arms inner c n) i
  unfolding arms
  steady_arms c n i is =
      let full = full_then (full_expression expression_level) (full_then (full_takes terminal.Colon) (full_expression expression_level)) in
      let goes = goes_at ArmsPart i (ap is_end is) (λ x e. (full.before, λ j. (full.before j, (x, e ∙ is, refl), full.spelled j))) in
      steady_count (λ m. enter inner >>= (λ R. here >>= arms_at c R m)) n i
      (λ m. steady_enter AreSteady inner (λ R. here >>= arms_at c R m) i h
      (λ R s. steady_at (arms_at c R m) i (steady_then tt (steady_skips terminal.Question i refl is) (λ _ j. steady_then (nullptr, 0) (s.expression m j) (λ a k. steady_then tt (steady_expect terminal.Colon k refl) (λ _ l. steady_value (λ b. (conditional (first_place i) c a.0 b.0, b.1)) (s.expression a.1 l)))))) goes) goes

  abbrev questioned : ExpressionTree × ℕ → Reader (ExpressionTree × ℕ)
  questioned c i = if sees terminal.Question i then arms inner c.0 c.1 i else Ok (c, i)

  steady_questioned : (c : ExpressionTree × ℕ) (i : Symbols) → Steady (ArmsPart ∣ Nothing) (questioned c) i
  steady_questioned c i =
      steady_sees terminal.Question (arms inner c.0 c.1) (λ k. Ok (c, k)) i (λ is. steady_map ArmsPart (ArmsPart ∣ Nothing) (λ j r p. inl p) (steady_arms c.0 c.1 i is)) (λ _. steady_map Nothing (ArmsPart ∣ Nothing) (λ j r p. inr p) (steady_pure c i))

  conditional_tree : (i j k : Symbols) → AnyExpression or_level i j → (ArmsPart ∣ Nothing) j k → AnyExpression expression_level i k
  conditional_tree i j k (c, test) (inl (a, (x, e, is), (b, (t, first), (d, colon, (f, second))))) = (conditional x.place c t f, (omega arith, (j, test, (a, (x, (e, refl), is), (b, first, (d, colon, second))))))
  conditional_tree i j k (c, test) (inr is) = subst (λ l. AnyExpression expression_level i l) is (c, looser or_level c i j test)

  pub steady_expression : (n : ℕ) (i : Symbols) → Steady (AnyExpression expression_level) (expression_with inner n) i
  unfolding expression_with
  steady_expression n i =
      steady_map (AnyExpression or_level ⨾ (ArmsPart ∣ Nothing)) (AnyExpression expression_level) (λ j r p. conditional_tree j p.0 r p.1 p.2) (steady_then (nullptr, 0) (steady_tighter or_level n i) (λ c j. steady_questioned c j))

  expression_reads_type : ReadsType expression_level (expression_with inner)
  unfolding expression_with
  expression_reads_type =
      let less = level_reads_type (unary_with inner) (steady_unary inner h) unary_reads_type or_level in
      record {
        rest = λ n k. less.rest n k >>= questioned;
        steady = λ n k j. steady_map (Behind or_level ⨾ (ArmsPart ∣ Nothing)) (Behind expression_level) (λ j r p i first. conditional_tree i p.0 r (p.1 i first) p.2) (steady_then (nullptr, 0) (less.steady n k j) (λ c j. steady_questioned c j));
        is = λ n j begins. ap (λ o. and_then o questioned) (less.is n j begins) ∙ and_then_again (one j) (less.rest n) questioned;
      }

  pub are_steady : (limit : ℕ) → AreSteady (readers limit inner)
  are_steady limit = record { unary = λ n i. steady_unary inner h n i; expression = steady_expression; reads_type = expression_reads_type }

pub below_steady : (limit levels : ℕ) → MaySteady AreSteady (below_levels limit levels)
unfolding below_levels
below_steady limit zero = tt
below_steady limit (suc levels) = are_steady (below_levels limit levels) (below_steady limit levels) limit
