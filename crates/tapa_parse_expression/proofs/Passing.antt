-- What is within the limits passes none: expressions and lists.
use Rattle.std.proofs.Common.{◌≡◌, ℕ, zero, suc, ◌-◌, ◌<◌, ◌≤◌, List, [], ◌∷◌, Option, Some, None, refl, arith}
use Rattle.tapa_base.specs.Spans.{◌⨾◌, Each, EachOfSome, Separated, SeparatedOrNone, Maybe}
use Rattle.tapa_syntax.specs.Trees.{ExpressionTree, literal, boolean, variable, element, call, nullptr, construct, static_cast, cast, parenthesized, prefix, binary, conditional, Expressions, none, one}
use Rattle.tapa_syntax.specs.Limits.{most, if_there, nesting, nestings, operators, operators_in}
use Rattle.tapa_syntax.specs.Grammar.{Part, IsExpression, AreArguments, AreMoreArguments}
use Rattle.tapa_parse_expression.specs.Passing.{one_more, or_later, over_expression, over_arguments, over_more_arguments, Over, over_each, over_some, over_behind, over_separated, over_listed, over_maybe}
use Rattle.tapa_parse_expression.proofs.Parts.{Symbols}

pub one_left : (n : ℕ) (here : Symbols) (behind : ℕ → Option Symbols) → 0 < n → ((left : ℕ) → n ≡ suc left → behind left ≡ None) → one_more n here behind ≡ None
one_left zero here behind some h = absurd (omega arith)
one_left (suc n) here behind some h = h n refl

pub neither : (first later : Option Symbols) → first ≡ None → later ≡ None → or_later first later ≡ None
neither None later e f = f
neither (Some w) later e f = absurd cc

-- ---- expressions

mutual
  unfolding over_expression over_arguments over_more_arguments

  pub none_over : (levels n l : ℕ) (e : ExpressionTree) (i j : Symbols) (h : IsExpression l e i j) → nesting e ≤ levels → operators e ≤ n → over_expression levels n l e i j h ≡ None
  none_over levels n l (literal k v) i j h deep few = refl
  none_over levels n l (boolean b) i j h deep few = refl
  none_over levels n l (variable x) i j h deep few = refl
  none_over levels n l (element x e) i j (a, name, (b, bracket, (c, inside, close))) deep few = one_left levels a _ (omega arith) (λ less is. none_over less n _ e b c inside (omega arith) few)
  none_over levels n l (call x y es) i j (a, name, (b, dot, (c, method, (d, paren, (k, inside, close))))) deep few =
      one_left levels c _ (omega arith) (λ less is. none_over_arguments less n es d k inside (omega arith) few)
  none_over levels n l nullptr i j h deep few = refl
  none_over levels n l (construct k e) i j (a, word, (b, paren, (c, inside, close))) deep few = one_left levels a _ (omega arith) (λ less is. none_over less n _ e b c inside (omega arith) few)
  none_over levels n l (static_cast k e) i j (a, word, (b, angle, (c, type, (d, greater, (f, paren, (g, inside, close)))))) deep few =
      one_left levels d _ (omega arith) (λ less is. none_over less n _ e f g inside (omega arith) few)
  none_over levels n l (cast k e) i j (a, paren, (b, type, (c, close, operand))) deep few = one_left levels i _ (omega arith) (λ less is. none_over less n 0 e c j operand (omega arith) few)
  none_over levels n l (parenthesized e) i j (a, paren, (b, inside, close)) deep few = one_left levels i _ (omega arith) (λ less is. none_over less n _ e a b inside (omega arith) few)
  none_over levels n l (prefix o at e) i j (a, sign, operand) deep few =
      one_left n i _ (omega arith) (λ m one_less. one_left levels i _ (omega arith) (λ less is. none_over less m 0 e a j operand (omega arith) (omega arith)))
  none_over levels n l (binary o at a b) i j (fits, (c, first, (d, sign, second))) deep few =
      neither _ _ (none_over levels n _ a i c first (omega arith) (omega arith))
      (one_left (n - operators a) c _ (omega arith) (λ m one_less. none_over levels m _ b d j second (omega arith) (omega arith)))
  none_over levels n l (conditional at c a b) i j (fits, (d, test, (f, mark, (g, first, (k, colon, second))))) deep few =
      neither _ _ (none_over levels n _ c i d test (omega arith) (omega arith))
      (one_left (n - operators c) d _ (omega arith) (λ m one_less. one_left levels d _ (omega arith)
      (λ less is. neither _ _ (none_over less m _ a f g first (omega arith) (omega arith)) (none_over less (m - operators a) _ b k j second (omega arith) (omega arith)))))

  pub none_over_arguments : (levels n : ℕ) (es : Expressions) (i j : Symbols) (h : AreArguments es i j) → nestings es ≤ levels → operators_in es ≤ n → over_arguments levels n es i j h ≡ None
  none_over_arguments levels n none i j h deep few = refl
  none_over_arguments levels n (one e es) i j (a, first, rest) deep few =
      neither _ _ (none_over levels n _ e i a first (omega arith) (omega arith)) (none_over_more levels (n - operators e) es a j rest (omega arith) (omega arith))

  pub none_over_more : (levels n : ℕ) (es : Expressions) (i j : Symbols) (h : AreMoreArguments es i j) → nestings es ≤ levels → operators_in es ≤ n → over_more_arguments levels n es i j h ≡ None
  none_over_more levels n none i j h deep few = refl
  none_over_more levels n (one e es) i j (a, comma, (b, first, rest)) deep few =
      neither _ _ (none_over levels n _ e a b first (omega arith) (omega arith)) (none_over_more levels (n - operators e) es b j rest (omega arith) (omega arith))

-- ---- lists

-- a part passes no limit where these two numbers of it are within theirs
abbrev pub NoneOver : {A : Type 0} (P : A → Part) → Over P → (f g : A → ℕ) (levels limit : ℕ) → Type 0
NoneOver {A} P over f g levels limit = (x : A) (i j : Symbols) (h : P x i j) → f x ≤ levels → g x ≤ limit → over x i j h ≡ None

module _ {A : Type 0} (P : A → Part) (over : Over P) (f g : A → ℕ) (levels limit : ℕ) (none : NoneOver P over f g levels limit) where
  pub none_over_each : (xs : List A) (i j : Symbols) (h : Each P xs i j) → most f xs ≤ levels → most g xs ≤ limit → over_each P over xs i j h ≡ None
  unfolding over_each
  none_over_each [] i j h deep few = refl
  none_over_each (x ∷ xs) i j (k, first, rest) deep few = neither _ _ (none x i k first (omega arith) (omega arith)) (none_over_each xs k j rest (omega arith) (omega arith))

  pub none_over_some : (xs : List A) (i j : Symbols) (h : EachOfSome P xs i j) → most f xs ≤ levels → most g xs ≤ limit → over_some P over xs i j h ≡ None
  unfolding over_some
  none_over_some [] i j h deep few = absurd h
  none_over_some (x ∷ xs) i j (k, first, rest) deep few = neither _ _ (none x i k first (omega arith) (omega arith)) (none_over_each xs k j rest (omega arith) (omega arith))

  pub none_over_maybe : (x : Option A) (i j : Symbols) (h : Maybe P x i j) → if_there f x ≤ levels → if_there g x ≤ limit → over_maybe P over x i j h ≡ None
  none_over_maybe None i j h deep few = refl
  none_over_maybe (Some x) i j h deep few = none x i j h deep few

module _ {A : Type 0} (b : Part) (P : A → Part) (over : Over P) (f g : A → ℕ) (levels limit : ℕ) (none : NoneOver P over f g levels limit) where
  pub none_behind : NoneOver (λ x. b ⨾ P x) (over_behind b P over) f g levels limit
  none_behind x i j h deep few = none x h.0 j h.2 deep few

  pub none_over_separated : (xs : List A) (i j : Symbols) (h : Separated b P xs i j) → most f xs ≤ levels → most g xs ≤ limit → over_separated b P over xs i j h ≡ None
  unfolding over_separated
  none_over_separated [] i j h deep few = absurd h
  none_over_separated (x ∷ xs) i j (k, first, rest) deep few =
      neither _ _ (none x i k first (omega arith) (omega arith)) (none_over_each (λ y. b ⨾ P y) (over_behind b P over) f g levels limit none_behind xs k j rest (omega arith) (omega arith))

  pub none_over_listed : (xs : List A) (i j : Symbols) (h : SeparatedOrNone b P xs i j) → most f xs ≤ levels → most g xs ≤ limit → over_listed b P over xs i j h ≡ None
  unfolding over_listed
  none_over_listed [] i j h deep few = refl
  none_over_listed (x ∷ xs) i j h deep few = none_over_separated (x ∷ xs) i j h deep few
