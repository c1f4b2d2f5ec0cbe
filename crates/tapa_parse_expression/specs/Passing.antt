-- The first lexeme of an expression that opens one level too many or is one operator too many: the symbols from it on, if there is one.
-- Two numbers are the rest of the limits: how many levels may still be opened, and how many operators the expression may still have.
use Rattle.std.specs.Prelude.{ℕ, zero, suc, ◌-◌, List, [], ◌∷◌, Option, Some, None}
use Rattle.tapa_base.specs.Spans.{◌⨾◌, Each, EachOfSome, Separated, SeparatedOrNone, Maybe}
use Rattle.tapa_syntax.specs.Symbols.{Symbol}
use Rattle.tapa_syntax.specs.Trees.{ExpressionTree, element, call, construct, static_cast, cast, parenthesized, prefix, binary, conditional, Expressions, none, one}
use Rattle.tapa_syntax.specs.Limits.{operators}
use Rattle.tapa_syntax.specs.Grammar.{Part, IsExpression, AreArguments, AreMoreArguments, binds_at, or_level, expression_level, argument_level}

-- where one more of something comes: it is passed here if none is left, and otherwise where the rest passes it
abbrev pub one_more : ℕ → List Symbol → (ℕ → Option (List Symbol)) → Option (List Symbol)
one_more zero here behind = Some here
one_more (suc left) here behind = behind left

-- the first of two, in the order of the text
abbrev pub or_later : Option (List Symbol) → Option (List Symbol) → Option (List Symbol)
or_later None later = later
or_later (Some here) later = Some here

-- ---- expressions

unfoldable mutual
  pub over_expression : (levels n l : ℕ) (e : ExpressionTree) (i j : List Symbol) → IsExpression l e i j → Option (List Symbol)
  over_expression levels n l (element name e) i j (a, x, (b, bracket, (c, inside, close))) = one_more levels a (λ less. over_expression less n expression_level e b c inside)
  over_expression levels n l (call stream method es) i j (a, x, (b, dot, (c, y, (d, paren, (k, inside, close))))) = one_more levels c (λ less. over_arguments less n es d k inside)
  over_expression levels n l (construct kind e) i j (a, word, (b, paren, (c, inside, close))) = one_more levels a (λ less. over_expression less n expression_level e b c inside)
  over_expression levels n l (static_cast kind e) i j (a, word, (b, angle, (c, type, (d, greater, (f, paren, (g, inside, close)))))) =
      one_more levels d (λ less. over_expression less n expression_level e f g inside)
  -- the parenthesis of a cast is open over its operand
  over_expression levels n l (cast kind e) i j (a, paren, (b, type, (c, close, operand))) = one_more levels i (λ less. over_expression less n 0 e c j operand)
  over_expression levels n l (parenthesized e) i j (a, paren, (b, inside, close)) = one_more levels i (λ less. over_expression less n expression_level e a b inside)
  over_expression levels n l (prefix o at e) i j (a, sign, operand) = one_more n i (λ m. one_more levels i (λ less. over_expression less m 0 e a j operand))
  over_expression levels n l (binary o at a b) i j (fits, (c, first, (d, sign, second))) =
      or_later (over_expression levels n (suc (binds_at o)) a i c first) (one_more (n - operators a) c (λ m. over_expression levels m (binds_at o) b d j second))
  over_expression levels n l (conditional at c a b) i j (fits, (d, test, (f, mark, (g, first, (k, colon, second))))) =
      or_later (over_expression levels n or_level c i d test)
      (one_more (n - operators c) d
      (λ m. one_more levels d (λ less. or_later (over_expression less m expression_level a f g first) (over_expression less (m - operators a) expression_level b k j second))))
  over_expression levels n l _ i j h = None

  -- the arguments of a call in an expression count with it
  pub over_arguments : (levels n : ℕ) (es : Expressions) (i j : List Symbol) → AreArguments es i j → Option (List Symbol)
  over_arguments levels n none i j h = None
  over_arguments levels n (one e es) i j (a, first, rest) = or_later (over_expression levels n argument_level e i a first) (over_more_arguments levels (n - operators e) es a j rest)

  pub over_more_arguments : (levels n : ℕ) (es : Expressions) (i j : List Symbol) → AreMoreArguments es i j → Option (List Symbol)
  over_more_arguments levels n none i j h = None
  over_more_arguments levels n (one e es) i j (a, comma, (b, first, rest)) = or_later (over_expression levels n argument_level e a b first) (over_more_arguments levels (n - operators e) es b j rest)

-- ---- lists

abbrev pub Over : {A : Type 0} → (A → Part) → Type 0
Over {A} P = (x : A) (i j : List Symbol) → P x i j → Option (List Symbol)

unfoldable pub over_each : {A : Type 0} (P : A → Part) → Over P → (xs : List A) (i j : List Symbol) → Each P xs i j → Option (List Symbol)
over_each P f [] i j h = None
over_each P f (x ∷ xs) i j (k, first, rest) = or_later (f x i k first) (over_each P f xs k j rest)

unfoldable pub over_some : {A : Type 0} (P : A → Part) → Over P → (xs : List A) (i j : List Symbol) → EachOfSome P xs i j → Option (List Symbol)
over_some P f [] i j h = None
over_some P f (x ∷ xs) i j (k, first, rest) = or_later (f x i k first) (over_each P f xs k j rest)

-- of an item after the part b that separates it from the item before: the item's own
abbrev pub over_behind : {A : Type 0} (b : Part) (P : A → Part) → Over P → Over (λ x. b ⨾ P x)
over_behind b P f x i j h = f x h.0 j h.2

unfoldable pub over_separated : {A : Type 0} (b : Part) (P : A → Part) → Over P → (xs : List A) (i j : List Symbol) → Separated b P xs i j → Option (List Symbol)
over_separated b P f [] i j h = None
over_separated b P f (x ∷ xs) i j (k, first, rest) = or_later (f x i k first) (over_each (λ y. b ⨾ P y) (over_behind b P f) xs k j rest)

unfoldable pub over_listed : {A : Type 0} (b : Part) (P : A → Part) → Over P → (xs : List A) (i j : List Symbol) → SeparatedOrNone b P xs i j → Option (List Symbol)
over_listed b P f [] i j h = None
over_listed b P f (x ∷ xs) i j h = over_separated b P f (x ∷ xs) i j h

abbrev pub over_maybe : {A : Type 0} (P : A → Part) → Over P → (x : Option A) (i j : List Symbol) → Maybe P x i j → Option (List Symbol)
over_maybe P f None i j h = None
over_maybe P f (Some x) i j h = f x i j h
