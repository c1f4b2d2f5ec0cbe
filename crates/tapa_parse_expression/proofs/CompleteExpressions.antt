-- What is spelled as an expression is read, where it does not go on, or refused at the first lexeme that passes a limit.
use Rattle.std.proofs.Common.{◌≡◌, ℕ, zero, suc, ◌+◌, ◌-◌, ◌≤◌, ◌⊎◌, inl, inr, Bool, true, false, List, [], ◌∷◌, ◌++◌, length, drop, Option, None, refl, ap, ◌∙◌, arith, append_assoc}
use Rattle.tapa_base.specs.declared.kind.Kind.{Kind}
use Rattle.tapa_base.specs.declared.text.Place.{Place}
use Rattle.tapa_syntax.specs.declared.terminal.Terminal.{Terminal}
use Rattle.tapa_syntax.specs.declared.terminal.Terminal.TheVariants as terminal
use Rattle.tapa_syntax.specs.declared.tree.Name.{Name}
use Rattle.tapa_syntax.specs.declared.tree.PrefixOperator.{PrefixOperator}
use Rattle.tapa_syntax.specs.Trees.{ExpressionTree, literal, boolean, variable, element, call, nullptr, construct, static_cast, cast, parenthesized, prefix, binary, conditional, Expressions, expressions}
use Rattle.tapa_syntax.specs.Trees.{none as no_expression, one as one_expression}
use Rattle.tapa_syntax.specs.Limits.{operators, operators_in}
use Rattle.tapa_syntax.specs.Grammar.{Takes, StandsAt, TakesAt, MeansAt, IsType, IsExpression, AreArguments, AreMoreArguments, is_name, prefix_operator_of, or_level, expression_level, argument_level}
use Rattle.tapa_parse_expression.specs.Readers.{next, first_place, same, sees}
use Rattle.tapa_parse_expression.specs.Reading.{Counting, Readers, level, argument, more_arguments, some_arguments, any_arguments, in_parentheses, in_brackets, arguments, named_by, named, constructed, statically_cast, primary_by, primary, parenthesis, converted, prefixed, unary_with, arms, expression_with, whole, below_levels}
use Rattle.tapa_parse_expression.specs.Passing.{one_more, or_later, over_expression, over_arguments, over_more_arguments}
use Rattle.tapa_parse_expression.proofs.Parts.{Symbols, done, then_is, if_true, if_false, differ_by, next_is, seen_is, dropped, expect_is, name_is, plain_is, literal_is, Told, told_ok, told_by, told_as, told_left, told_true, told_false, told_behind, told_then, told_after, told_counted}
use Rattle.tapa_parse_expression.proofs.SoundExpressions.{nothing_more}
use Rattle.tapa_parse_expression.proofs.CompleteTypes.{one_complete, type_complete, takes_longer, extends_type, sees_other}
use Rattle.tapa_parse_expression.proofs.CompleteLevels.{Ends, extends_name, ends_at, binds_small, question_ends, ends_tighter, expression_longer, Tells, AllTell, MayTell, told_entered, told_opened, level_told}
use Rattle.tapa_parse_expression.proofs.Begins.{begins_type, one_begins, name_begins, expression_begins, begins_otherwise, cast_begins, no_cast, is_cast}

-- ---- what a method is called with

abbrev list_of : Expressions → List ExpressionTree
list_of no_expression = []
list_of (one_expression e es) = e ∷ list_of es

of_list : (es : Expressions) → expressions (list_of es) ≡ es
of_list no_expression = refl
of_list (one_expression e es) = ap (one_expression e) (of_list es)

is_argument : (e : ExpressionTree) (i r : Symbols) → IsExpression argument_level e i r → ((e ≡ nullptr) × Takes terminal.Nullptr i r) ⊎ IsExpression expression_level e i r
is_argument (literal k v) i r h = inr h
is_argument (boolean true) i r h = inr h
is_argument (boolean false) i r h = inr h
is_argument (variable x) i r h = inr h
is_argument (element x e) i r h = inr h
is_argument (call stream method es) i r h = inr h
is_argument nullptr i r h = inl (refl, h.1)
is_argument (construct k e) i r h = inr h
is_argument (static_cast k e) i r h = inr h
is_argument (cast k e) i r h = inr h
is_argument (parenthesized e) i r h = inr h
is_argument (prefix o at e) i r h = inr h
is_argument (binary o at a b) i r h = inr (omega (arith, binds_small o), h.1)
is_argument (conditional at c a b) i r h = inr (omega arith, h.1)

pub argument_begins : (e : ExpressionTree) (i r : Symbols) → IsExpression argument_level e i r → sees terminal.RightParen i ≡ false
argument_begins e i r h =
    elim (is_argument e i r h) [
      | inl null ↦ sees_other terminal.Nullptr terminal.RightParen i r null.1 (differ_by (λ m. begins_null m) terminal.Nullptr terminal.RightParen (λ f. cc))
      | inr any ↦ begins_otherwise terminal.RightParen i (expression_begins expression_level e i r (omega arith) any) refl
    ]
  where
    begins_null : Terminal → Bool
    begins_null terminal.Nullptr = true
    begins_null _ = false

more_ends : (es : Expressions) (i r s : Symbols) → AreMoreArguments es i r → Takes terminal.RightParen r s → Ends expression_level (next i)
more_ends no_expression i r s is close = rw is (ends_at expression_level terminal.RightParen r s close refl)
more_ends (one_expression e es) i r s (j, comma, rest) close = ends_at expression_level terminal.Comma i j comma refl

module _ (levels : ℕ) (R : Readers) (h : AllTell levels R) where
  other : (n : ℕ) (i : Symbols) (e : ExpressionTree) (r : Symbols) (k : IsExpression expression_level e i r) → Ends expression_level (next r)
      → Told (over_expression levels n expression_level e i r k) ((e, n - operators e), r) (argument R n i)
  unfolding argument
  other n i e r k ends = told_false _ (begins_otherwise terminal.Nullptr i (expression_begins expression_level e i r (omega arith) k) refl) (h.expression.on n i e r k ends)

  nothing : (n : ℕ) (i j : Symbols) → Takes terminal.Nullptr i j → done {A = ExpressionTree × ℕ} ((nullptr, n), drop 1 i) ≡ done ((nullptr, n - 0), j)
  nothing n i j t = let same_count : n ≡ n - 0 = omega arith in let rest = dropped terminal.Nullptr i j t in cc

  pub argument_told : (n : ℕ) (i : Symbols) (e : ExpressionTree) (r : Symbols) (k : IsExpression argument_level e i r) → Ends expression_level (next r)
      → Told (over_expression levels n argument_level e i r k) ((e, n - operators e), r) (argument R n i)
  unfolding argument over_expression
  argument_told n i nullptr r k ends = told_ok (if_true _ (seen_is terminal.Nullptr i r k.1) (nothing n i r k.1))
  argument_told n i (literal v w) r k ends = other n i (literal v w) r k ends
  argument_told n i (boolean true) r k ends = other n i (boolean true) r k ends
  argument_told n i (boolean false) r k ends = other n i (boolean false) r k ends
  argument_told n i (variable x) r k ends = other n i (variable x) r k ends
  argument_told n i (element x e) r k ends = other n i (element x e) r k ends
  argument_told n i (call stream method es) r k ends = other n i (call stream method es) r k ends
  argument_told n i (construct v e) r k ends = other n i (construct v e) r k ends
  argument_told n i (static_cast v e) r k ends = other n i (static_cast v e) r k ends
  argument_told n i (cast v e) r k ends = other n i (cast v e) r k ends
  argument_told n i (parenthesized e) r k ends = other n i (parenthesized e) r k ends
  argument_told n i (prefix o at e) r k ends = other n i (prefix o at e) r k ends
  argument_told n i (binary o at a b) r k ends = other n i (binary o at a b) r (omega (arith, binds_small o), k.1) ends
  argument_told n i (conditional at c a b) r k ends = other n i (conditional at c a b) r (omega arith, k.1) ends

  all_found : (found : List ExpressionTree) (n : ℕ) (i r : Symbols) → i ≡ r → done {A = List ExpressionTree × ℕ} ((found, n), i) ≡ done ((found ++ [], n - 0), r)
  all_found found n i r is = let same_count : n ≡ n - 0 = omega arith in let list = nothing_more found in let rest = is in cc

  left_is : (n a b : ℕ) → (n - a) - b ≡ n - (a + b)
  left_is n a b = omega arith

  more_arguments_told : (es : Expressions) (turns : ℕ) (found : List ExpressionTree) (n : ℕ) (i r s : Symbols) (k : AreMoreArguments es i r) → length i ≤ turns → Takes terminal.RightParen r s
      → Told (over_more_arguments levels n es i r k) ((found ++ list_of es, n - operators_in es), r) (more_arguments R turns found n i)
  unfolding more_arguments same over_more_arguments
  more_arguments_told no_expression zero found n i r s is le close = told_ok (all_found found n i r is)
  more_arguments_told no_expression (suc turns) found n i r s is le close =
      let none : sees terminal.Comma i ≡ false = rw is (sees_other terminal.RightParen terminal.Comma r s close refl) in
      told_ok (if_false _ none (all_found found n i r is))
  more_arguments_told (one_expression e es) zero found n i r s (j, comma, rest) le close = absurd (omega (arith, takes_longer terminal.Comma i j comma))
  more_arguments_told (one_expression e es) (suc turns) found n i r s (j, comma, (l, first, rest)) le close =
      told_true _ (seen_is terminal.Comma i j comma)
      (rw (dropped terminal.Comma i j comma)
      (told_then _ (e, n - operators e) l (argument_told n j e l first (more_ends es l r s rest close))
      (told_left (left_is n (operators e) (operators_in es))
      (told_as (ap (λ (xs : List ExpressionTree). ((xs, (n - operators e) - operators_in es), r)) (append_assoc found (e ∷ []) (list_of es)))
      (more_arguments_told es turns (found ++ e ∷ []) (n - operators e) l r s rest (omega (arith, le, takes_longer terminal.Comma i j comma, expression_longer argument_level e j l first)) close)))))

  any_arguments_told : (es : Expressions) (n : ℕ) (i r s : Symbols) (k : AreArguments es i r) → Takes terminal.RightParen r s
      → Told (over_arguments levels n es i r k) ((list_of es, n - operators_in es), r) (any_arguments R n i)
  unfolding any_arguments some_arguments over_arguments
  any_arguments_told no_expression n i r s is close =
      let none : sees terminal.RightParen i ≡ true = rw is (seen_is terminal.RightParen r s close) in
      told_ok (if_true _ none (all_found [] n i r is))
  any_arguments_told (one_expression e es) n i r s (l, first, rest) close =
      told_false _ (argument_begins e i l first)
      (told_then _ (e, n - operators e) l (argument_told n i e l first (more_ends es l r s rest close))
      (told_left (left_is n (operators e) (operators_in es)) (more_arguments_told es (length l) (e ∷ []) (n - operators e) l r s rest (omega arith) close)))

-- ---- what an expression begins with tells how it is read

name_no_prefix : (m : Terminal) → is_name m ≡ true → prefix_operator_of m ≡ None
name_no_prefix terminal.Minus e = absurd cc
name_no_prefix terminal.Plus e = absurd cc
name_no_prefix terminal.Tilde e = absurd cc
name_no_prefix terminal.Exclamation e = absurd cc
name_no_prefix _ e = refl

pub type_no_prefix : (m : Terminal) → begins_type m ≡ true → prefix_operator_of m ≡ None
type_no_prefix terminal.Minus e = absurd cc
type_no_prefix terminal.Plus e = absurd cc
type_no_prefix terminal.Tilde e = absurd cc
type_no_prefix terminal.Exclamation e = absurd cc
type_no_prefix _ e = refl

pub type_no_name : (m : Terminal) → begins_type m ≡ true → is_name m ≡ false
type_no_name terminal.Name e = absurd cc
type_no_name terminal.Istream e = absurd cc
type_no_name terminal.Ostream e = absurd cc
type_no_name terminal.Stream e = absurd cc
type_no_name terminal.Mmap e = absurd cc
type_no_name terminal.Task e = absurd cc
type_no_name terminal.Invoke e = absurd cc
type_no_name _ e = refl

name_no_paren : (m : Terminal) → is_name m ≡ true → same m terminal.LeftParen ≡ false
name_no_paren m e = differ_by is_name m terminal.LeftParen (λ f. cc)

pub type_no_paren : (m : Terminal) → begins_type m ≡ true → same m terminal.LeftParen ≡ false
type_no_paren m e = differ_by begins_type m terminal.LeftParen (λ f. cc)

pub stands : (i : Symbols) (at : Place) → StandsAt at i → first_place i ≡ at
stands [] at h = absurd h
stands (x ∷ i) at h = h

module _ (inner : Option Readers) where
  to_primary : (m : Terminal) (n : ℕ) (i : Symbols) → next i ≡ m → prefix_operator_of m ≡ None → same m terminal.LeftParen ≡ false → unary_with inner n i ≡ primary inner n i
  unfolding unary_with sees
  to_primary m n i is no_prefix no_paren = rw (is, no_prefix) (if_false _ (ap (λ k. same k terminal.LeftParen) is ∙ no_paren) refl)

  pub to_named : (n : ℕ) (i : Symbols) → is_name (next i) ≡ true → unary_with inner n i ≡ named inner n i
  unfolding primary
  to_named n i is = to_primary (next i) n i refl (name_no_prefix (next i) is) (name_no_paren (next i) is) ∙ if_true _ is refl

  by_type : (m : Terminal) (n : ℕ) → begins_type m ≡ true → (i : Symbols) → primary_by inner m n i ≡ constructed inner n i
  by_type terminal.Literal n e i = absurd cc
  by_type terminal.True n e i = absurd cc
  by_type terminal.False n e i = absurd cc
  by_type terminal.StaticCast n e i = absurd cc
  by_type _ n e i = refl

  pub to_constructed : (n : ℕ) (i : Symbols) → begins_type (next i) ≡ true → unary_with inner n i ≡ constructed inner n i
  unfolding primary
  to_constructed n i is = to_primary (next i) n i refl (type_no_prefix (next i) is) (type_no_paren (next i) is) ∙ if_false _ (type_no_name (next i) is) (by_type (next i) n is i)

  pub to_other : (m : Terminal) (n : ℕ) (i : Symbols) → next i ≡ m → prefix_operator_of m ≡ None → same m terminal.LeftParen ≡ false → is_name m ≡ false → unary_with inner n i ≡ primary_by inner m n i
  unfolding primary
  to_other m n i is no_prefix no_paren no_name = to_primary m n i is no_prefix no_paren ∙ rw (is, no_name) refl

  -- behind a name that stands alone
  alone : (m : Terminal) (x : Name) (n : ℕ) (i : Symbols) → extends_name m ≡ false → named_by inner m x n i ≡ done ((variable x, n), i)
  alone terminal.Dot x n i e = absurd cc
  alone terminal.LeftBracket x n i e = absurd cc
  alone _ x n i e = refl

-- ---- an expression

module _ (levels : ℕ) (inner : Option Readers) (h : MayTell levels inner) where
  pub in_parentheses_told : (n : ℕ) (e : ExpressionTree) (i j k r : Symbols) → Takes terminal.LeftParen i j → (inside : IsExpression expression_level e j k) → Takes terminal.RightParen k r
      → Told (one_more levels i (λ less. over_expression less n expression_level e j k inside)) ((e, n - operators e), r) (in_parentheses inner n i)
  unfolding in_parentheses
  in_parentheses_told n e i j k r begin inside close =
      told_opened AllTell _ levels inner terminal.LeftParen i j _ h begin
      (λ R less tells. told_after _ (e, n - operators e) k (tells.expression.on n j e k inside (ends_at expression_level terminal.RightParen k r close refl))
      (then_is _ tt r (expect_is terminal.RightParen k r close) refl))

  pub in_brackets_told : (n : ℕ) (e : ExpressionTree) (i j k r : Symbols) → Takes terminal.LeftBracket i j → (inside : IsExpression expression_level e j k) → Takes terminal.RightBracket k r
      → Told (one_more levels i (λ less. over_expression less n expression_level e j k inside)) ((e, n - operators e), r) (in_brackets inner n i)
  unfolding in_brackets
  in_brackets_told n e i j k r begin inside close =
      told_opened AllTell _ levels inner terminal.LeftBracket i j _ h begin
      (λ R less tells. told_after _ (e, n - operators e) k (tells.expression.on n j e k inside (ends_at expression_level terminal.RightBracket k r close refl))
      (then_is _ tt r (expect_is terminal.RightBracket k r close) refl))

  arguments_told : (n : ℕ) (es : Expressions) (i j k r : Symbols) → Takes terminal.LeftParen i j → (all : AreArguments es j k) → Takes terminal.RightParen k r
      → Told (one_more levels i (λ less. over_arguments less n es j k all)) ((list_of es, n - operators_in es), r) (arguments inner n i)
  unfolding arguments
  arguments_told n es i j k r begin all close =
      told_opened AllTell _ levels inner terminal.LeftParen i j _ h begin
      (λ R less tells. told_after _ (list_of es, n - operators_in es) k (any_arguments_told less R tells es n j k r all close) (then_is _ tt r (expect_is terminal.RightParen k r close) refl))

  prefix_left : (n m : ℕ) (e : ExpressionTree) → n ≡ suc m → m - operators e ≡ n - suc (operators e)
  prefix_left n m e one_less = omega (arith, one_less)

  prefix_told : (n : ℕ) (o : PrefixOperator) (at : Place) (e : ExpressionTree) (i j r : Symbols) → MeansAt prefix_operator_of o at i j → (operand : IsExpression 0 e j r) → Ends 0 (next r)
      → Told (one_more n i (λ m. one_more levels i (λ less. over_expression less m 0 e j r operand))) ((prefix o at e, n - suc (operators e)), r) (unary_with inner n i)
  unfolding unary_with prefixed
  prefix_told n o at e i j r (x, (means, place), is) operand ends =
      rw (is, means)
      (told_counted _ n (x ∷ j) _
      (λ m one_less. told_entered AllTell _ levels inner (x ∷ j) _ h
      (λ R less tells. told_left (prefix_left n m e one_less)
      (told_after _ (e, m - operators e) r (tells.unary.on m j e r operand ends) (ap (λ p. done ((prefix o p e, m - operators e), r)) place)))))

  cast_told : (n : ℕ) (v : Kind) (e : ExpressionTree) (i j k l r : Symbols) → Takes terminal.LeftParen i j → IsType v j k → Takes terminal.RightParen k l → (operand : IsExpression 0 e l r)
      → Ends 0 (next r)
      → Told (one_more levels i (λ less. over_expression less n 0 e l r operand)) ((cast v e, n - operators e), r) (unary_with inner n i)
  unfolding unary_with converted
  cast_told n v e i j k l r begin type close operand ends =
      let no_word : extends_type (next k) ≡ false = rw (next_is terminal.RightParen k l close) refl in
      rw (next_is terminal.LeftParen i j begin)
      (told_true _ (seen_is terminal.LeftParen i j begin) (told_true _ (cast_begins i j begin ∙ is_cast v j k l type close)
      (told_opened AllTell _ levels inner terminal.LeftParen i j _ h begin
      (λ R less tells. told_behind _ v k (type_complete v j k type no_word)
      (told_behind _ tt l (expect_is terminal.RightParen k l close)
      (told_after _ (e, n - operators e) r (tells.unary.on n l e r operand ends) refl))))))

  parenthesis_told : (n : ℕ) (e : ExpressionTree) (i j k r : Symbols) → Takes terminal.LeftParen i j → (inside : IsExpression expression_level e j k) → Takes terminal.RightParen k r
      → Told (one_more levels i (λ less. over_expression less n expression_level e j k inside)) ((parenthesized e, n - operators e), r) (unary_with inner n i)
  unfolding unary_with parenthesis
  parenthesis_told n e i j k r begin inside close =
      rw (next_is terminal.LeftParen i j begin)
      (told_true _ (seen_is terminal.LeftParen i j begin) (told_false _ (cast_begins i j begin ∙ no_cast expression_level e j k (omega arith) inside)
      (told_after _ (e, n - operators e) r (in_parentheses_told n e i j k r begin inside close) refl)))

  static_cast_told : (n : ℕ) (v : Kind) (e : ExpressionTree) (i a b c d f g r : Symbols) → Takes terminal.StaticCast i a → Takes terminal.Less a b → IsType v b c → Takes terminal.Greater c d
      → Takes terminal.LeftParen d f → (inside : IsExpression expression_level e f g) → Takes terminal.RightParen g r
      → Told (one_more levels d (λ less. over_expression less n expression_level e f g inside)) ((static_cast v e, n - operators e), r) (unary_with inner n i)
  unfolding statically_cast same
  static_cast_told n v e i a b c d f g r word angle type greater begin inside close =
      let no_word : extends_type (next c) ≡ false = rw (next_is terminal.Greater c d greater) refl in
      told_by (to_other inner terminal.StaticCast n i (next_is terminal.StaticCast i a word) refl refl refl)
      (rw (dropped terminal.StaticCast i a word)
      (told_behind _ tt b (expect_is terminal.Less a b angle)
      (told_behind _ v c (type_complete v b c type no_word)
      (told_behind _ tt d (expect_is terminal.Greater c d greater)
      (told_after _ (e, n - operators e) r (in_parentheses_told n e d f g r begin inside close) refl)))))

  no_operator : (n : ℕ) → n ≡ n - 0
  no_operator n = omega arith

  pub unary_told : Tells 0 levels (unary_with inner)
  unfolding named constructed same over_expression
  unary_told = record { on = tell }
    where
      tell : (n : ℕ) (i : Symbols) (e : ExpressionTree) (r : Symbols) (k : IsExpression 0 e i r) → Ends 0 (next r)
          → Told (over_expression levels n 0 e i r k) ((e, n - operators e), r) (unary_with inner n i)
      tell n i (literal v w) r k ends = told_left (no_operator n) (told_ok (to_other inner terminal.Literal n i (ap next k.2 ∙ k.1.0) refl refl refl ∙ then_is _ (v, w) r (literal_is v w i r k) refl))
      tell n i (boolean true) r k ends = told_left (no_operator n) (told_ok (to_other inner terminal.True n i (next_is terminal.True i r k) refl refl refl ∙ rw (dropped terminal.True i r k) refl))
      tell n i (boolean false) r k ends = told_left (no_operator n) (told_ok (to_other inner terminal.False n i (next_is terminal.False i r k) refl refl refl ∙ rw (dropped terminal.False i r k) refl))
      tell n i (variable x) r k ends = told_left (no_operator n) (told_ok (to_named inner n i (name_begins x i r k) ∙ then_is _ x r (name_is x i r k) (alone inner (next r) x n r ends.name)))
      tell n i (element x e) r k ends =
          let j = k.0 in
          let begin = k.2.1 in
          told_by (to_named inner n i (name_begins x i j k.1))
          (told_behind _ x j (name_is x i j k.1)
          (rw (next_is terminal.LeftBracket j k.2.0 begin) (told_after _ (e, n - operators e) r (in_brackets_told n e j k.2.0 k.2.2.0 r begin k.2.2.1 k.2.2.2) refl)))
      tell n i (call x method es) r k ends =
          let j = k.0 in
          let l = k.2.0 in
          let dot = k.2.1 in
          let o = k.2.2.0 in
          let rest = k.2.2.2 in
          told_by (to_named inner n i (name_begins x i j k.1))
          (told_behind _ x j (name_is x i j k.1)
          (rw (next_is terminal.Dot j l dot, dropped terminal.Dot j l dot)
          (told_behind _ method o (plain_is method l o k.2.2.1)
          (told_after _ (list_of es, n - operators_in es) r (arguments_told n es o rest.0 rest.2.0 r rest.1 rest.2.1 rest.2.2)
          (ap (λ xs. done ((call x method xs, n - operators_in es), r)) (of_list es))))))
      tell n i nullptr r k ends = absurd (omega (arith, k.0))
      tell n i (construct v e) r k ends =
          let j = k.0 in
          told_by (to_constructed inner n i (one_begins v i j k.1))
          (told_behind _ v j (one_complete v i j k.1) (told_after _ (e, n - operators e) r (in_parentheses_told n e j k.2.0 k.2.2.0 r k.2.1 k.2.2.1 k.2.2.2) refl))
      tell n i (static_cast v e) r (a, word, (b, angle, (c, type, (d, greater, (f, begin, (g, inside, close)))))) ends =
          static_cast_told n v e i a b c d f g r word angle type greater begin inside close
      tell n i (cast v e) r (a, begin, (b, type, (c, close, operand))) ends = cast_told n v e i a b c r begin type close operand ends
      tell n i (parenthesized e) r (a, begin, (b, inside, close)) ends = parenthesis_told n e i a b r begin inside close
      tell n i (prefix o at e) r (a, sign, operand) ends = prefix_told n o at e i a r sign operand ends
      tell n i (binary o at a b) r k ends = absurd (omega (arith, k.0))
      tell n i (conditional at c a b) r k ends = absurd (omega (arith, k.0))

  tests : Tells or_level levels (level (unary_with inner) or_level)
  tests = level_told (unary_with inner) levels unary_told or_level (omega arith)

  -- without a question
  simple : (n : ℕ) (i : Symbols) (e : ExpressionTree) (r : Symbols) (k : IsExpression or_level e i r) → Ends expression_level (next r)
      → Told (over_expression levels n or_level e i r k) ((e, n - operators e), r) (expression_with inner n i)
  unfolding expression_with sees
  simple n i e r k ends = told_after _ (e, n - operators e) r (tests.on n i e r k (ends_tighter or_level (next r) ends)) (if_false _ (ends.question (omega arith)) refl)

  arms_left : (n m : ℕ) (c a b : ExpressionTree) → n - operators c ≡ suc m → (m - operators a) - operators b ≡ n - suc (operators c + operators a + operators b)
  arms_left n m c a b one_less = omega (arith, one_less)

  conditional_told : (n : ℕ) (at : Place) (c a b : ExpressionTree) (i j k l o r : Symbols) (test : IsExpression or_level c i j) → TakesAt terminal.Question at j k
      → (first : IsExpression expression_level a k l) → Takes terminal.Colon l o → (second : IsExpression expression_level b o r)
      → Ends expression_level (next r)
      → Told (or_later (over_expression levels n or_level c i j test)
      (one_more (n - operators c) j
      (λ m. one_more levels j (λ less. or_later (over_expression less m expression_level a k l first) (over_expression less (m - operators a) expression_level b o r second)))))
      ((conditional at c a b, n - suc (operators c + operators a + operators b)), r) (expression_with inner n i)
  unfolding expression_with arms
  conditional_told n at c a b i j k l o r test (x, (word, place), is) first colon second ends =
      let sign : Takes terminal.Question j k = (x, word, is) in
      let at_place : first_place j ≡ at = ap first_place is ∙ place in
      let question_next : Ends or_level (next j) = rw (next_is terminal.Question j k sign) question_ends in
      told_then _ (c, n - operators c) j (tests.on n i c j test question_next)
      (told_true _ (seen_is terminal.Question j k sign)
      (told_counted _ (n - operators c) j _
      (λ m one_less. told_entered AllTell _ levels inner j _ h
      (λ R less tells. told_left (arms_left n m c a b one_less)
      (rw (dropped terminal.Question j k sign)
      (told_then _ (a, m - operators a) l (tells.expression.on m k a l first (ends_at expression_level terminal.Colon l o colon refl))
      (told_behind _ tt o (expect_is terminal.Colon l o colon)
      (told_after _ (b, (m - operators a) - operators b) r (tells.expression.on (m - operators a) o b r second ends)
      (ap (λ q. done ((conditional q c a b, (m - operators a) - operators b), r)) at_place)))))))))

  pub expression_told : Tells expression_level levels (expression_with inner)
  unfolding over_expression
  expression_told = record { on = tell }
    where
      tell : (n : ℕ) (i : Symbols) (e : ExpressionTree) (r : Symbols) (k : IsExpression expression_level e i r) → Ends expression_level (next r)
          → Told (over_expression levels n expression_level e i r k) ((e, n - operators e), r) (expression_with inner n i)
      tell n i (conditional at c a b) r (fits, (d, test, (f, mark, (g, first, (k, colon, second))))) ends = conditional_told n at c a b i d f g k r test mark first colon second ends
      tell n i nullptr r k ends = absurd (omega (arith, k.0))
      tell n i (binary o at a b) r k ends = simple n i (binary o at a b) r (omega (arith, binds_small o), k.1) ends
      tell n i (literal v w) r k ends = simple n i (literal v w) r k ends
      tell n i (boolean true) r k ends = simple n i (boolean true) r k ends
      tell n i (boolean false) r k ends = simple n i (boolean false) r k ends
      tell n i (variable x) r k ends = simple n i (variable x) r k ends
      tell n i (element x e) r k ends = simple n i (element x e) r k ends
      tell n i (call x y es) r k ends = simple n i (call x y es) r k ends
      tell n i (construct v e) r k ends = simple n i (construct v e) r k ends
      tell n i (static_cast v e) r k ends = simple n i (static_cast v e) r k ends
      tell n i (cast v e) r k ends = simple n i (cast v e) r k ends
      tell n i (parenthesized e) r k ends = simple n i (parenthesized e) r k ends
      tell n i (prefix o at e) r k ends = simple n i (prefix o at e) r k ends

-- an expression with a count of its own
pub whole_told : (l levels limit : ℕ) (p : Counting ExpressionTree) → Tells l levels p → (i : Symbols) (e : ExpressionTree) (r : Symbols) (h : IsExpression l e i r) → Ends l (next r)
    → Told (over_expression levels limit l e i r h) (e, r) (whole p limit i)
whole_told l levels limit p tells i e r h ends = told_after _ (e, limit - operators e) r (tells.on limit i e r h ends) refl

pub below_told : (limit levels : ℕ) → MayTell levels (below_levels limit levels)
unfolding below_levels
below_told limit zero = tt
below_told limit (suc levels) = let h = below_told limit levels in record { unary = unary_told levels (below_levels limit levels) h; expression = expression_told levels (below_levels limit levels) h }
