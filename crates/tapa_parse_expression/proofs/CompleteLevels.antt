-- What an expression ends before, and its levels: what is spelled at a level is read, where it does not go on, or refused at the first lexeme that passes a limit.
use Rattle.std.proofs.Common.{◌≡◌, ℕ, zero, suc, ◌+◌, ◌-◌, ◌<◌, ◌≤◌, inl, inr, Bool, true, false, cond, length, Option, Some, None, Ok, Err, refl, sym, ap, subst, ◌∙◌, arith, eqb}
use Rattle.std.proofs.lemmas.Bool.{eqb-true, eq-eqb, cases_lt}
use Rattle.tapa_base.specs.declared.op.Op.TheVariants as op
use Rattle.tapa_base.specs.declared.text.Place.{Place}
use Rattle.tapa_syntax.specs.declared.terminal.Terminal.{Terminal}
use Rattle.tapa_syntax.specs.declared.terminal.Terminal.TheVariants as terminal
use Rattle.tapa_syntax.specs.declared.tree.BinaryOperator.{BinaryOperator}
use Rattle.tapa_syntax.specs.declared.tree.BinaryOperator.TheVariants.{LogicalOr, LogicalAnd, Value}
use Rattle.tapa_syntax.specs.Symbols.{Symbol}
use Rattle.tapa_syntax.specs.Trees.{ExpressionTree, literal, boolean, variable, element, call, nullptr, construct, static_cast, cast, parenthesized, prefix, binary, conditional, Expressions}
use Rattle.tapa_syntax.specs.Trees.{none as no_expression, one as one_expression}
use Rattle.tapa_syntax.specs.Limits.{operators}
use Rattle.tapa_base.specs.Spans.{Is}
use Rattle.tapa_syntax.specs.Grammar.{Takes, MeansAt, IsExpression, AreArguments, AreMoreArguments, binary_operator_of, binds_at, sum_level, or_level, expression_level, argument_level}
use Rattle.tapa_parse_expression.specs.declared.fault.ParseCode.TheVariants.{P2}
use Rattle.tapa_parse_expression.specs.Readers.{Outcome, Reader, and_then, next, same}
use Rattle.tapa_parse_expression.specs.Reading.{Counting, Readers, enter, open_level, count, at_level, operator_of, chain, chain_of, level}
use Rattle.tapa_parse_expression.specs.Passing.{one_more, or_later, over_expression}
use Rattle.tapa_parse_expression.proofs.Parts.{Symbols, done, then_is, if_true, next_is, seen_is, dropped, Told, told_left, told_behind}
use Rattle.tapa_parse_expression.proofs.CompleteTypes.{one_longer, type_longer, takes_longer}

-- ---- what may stand behind an expression

-- a name goes on with these
abbrev pub extends_name : Terminal → Bool
extends_name terminal.Dot = true
extends_name terminal.LeftBracket = true
extends_name _ = false

-- an expression of this level does not go on with this terminal
pub record Ends (level : ℕ) (m : Terminal) : Type 0 where
  pub name : extends_name m ≡ false
  pub operator : (l : ℕ) → l < level → at_level l (binary_operator_of m) ≡ None
  pub question : expression_level ≤ level → same m terminal.Question ≡ false

-- terminals that end each expression
abbrev pub stops : Terminal → Bool
stops terminal.RightParen = true
stops terminal.RightBracket = true
stops terminal.Comma = true
stops terminal.Semicolon = true
stops terminal.Colon = true
stops _ = false

pub stop_ends : (level : ℕ) (m : Terminal) → stops m ≡ true → Ends level m
unfolding same
stop_ends level terminal.RightParen h = record { name = refl; operator = λ l lt. refl; question = λ le. refl }
stop_ends level terminal.RightBracket h = record { name = refl; operator = λ l lt. refl; question = λ le. refl }
stop_ends level terminal.Comma h = record { name = refl; operator = λ l lt. refl; question = λ le. refl }
stop_ends level terminal.Semicolon h = record { name = refl; operator = λ l lt. refl; question = λ le. refl }
stop_ends level terminal.Colon h = record { name = refl; operator = λ l lt. refl; question = λ le. refl }
stop_ends level _ h = absurd cc

pub ends_at : (level : ℕ) (m : Terminal) (i j : Symbols) → Takes m i j → stops m ≡ true → Ends level (next i)
ends_at level m i j h e = rw (next_is m i j h) (stop_ends level m e)

pub binds_small : (o : BinaryOperator) → binds_at o ≤ 9
binds_small (Value op.Mul) = omega arith
binds_small (Value op.Div) = omega arith
binds_small (Value op.Rem) = omega arith
binds_small (Value op.Add) = omega arith
binds_small (Value op.Sub) = omega arith
binds_small (Value op.Shl) = omega arith
binds_small (Value op.Shr) = omega arith
binds_small (Value op.Lt) = omega arith
binds_small (Value op.Le) = omega arith
binds_small (Value op.Gt) = omega arith
binds_small (Value op.Ge) = omega arith
binds_small (Value op.Eq) = omega arith
binds_small (Value op.Ne) = omega arith
binds_small (Value op.And) = omega arith
binds_small (Value op.Xor) = omega arith
binds_small (Value op.Or) = omega arith
binds_small LogicalAnd = omega arith
binds_small LogicalOr = omega arith

operator_no_name : (m : Terminal) (o : BinaryOperator) → binary_operator_of m ≡ Some o → extends_name m ≡ false
operator_no_name terminal.Dot o e = absurd cc
operator_no_name terminal.LeftBracket o e = absurd cc
operator_no_name _ o e = refl

-- an operator ends what binds tighter
pub operator_ends : (level : ℕ) (m : Terminal) (o : BinaryOperator) → binary_operator_of m ≡ Some o → level ≤ binds_at o → Ends level m
operator_ends level m o e le = record { name = operator_no_name m o e; operator = λ l lt. rw e (pick l lt (eqb (binds_at o) l) refl); question = λ big. absurd (omega (arith, binds_small o)) }
  where
    pick : (l : ℕ) → l < level → (b : Bool) → eqb (binds_at o) l ≡ b → cond {A = Option BinaryOperator} b (Some o) None ≡ None
    pick l lt true is = absurd (omega (arith, eqb-true (binds_at o) l is))
    pick l lt false is = refl

-- and `<<` ends a sum
pub shift_ends_sum : Ends sum_level terminal.ShiftLeft
shift_ends_sum = operator_ends sum_level terminal.ShiftLeft (Value op.Shl) refl (omega arith)

pub question_ends : Ends or_level terminal.Question
question_ends = record { name = refl; operator = λ l lt. refl; question = λ le. absurd (omega arith) }

pub ends_tighter : (l : ℕ) (m : Terminal) → Ends (suc l) m → Ends l m
ends_tighter l m h = record { name = h.name; operator = λ k lt. h.operator k (omega arith); question = λ le. h.question (omega arith) }

ends_unary : (l : ℕ) (m : Terminal) → Ends l m → Ends 0 m
ends_unary l m h = record { name = h.name; operator = λ k lt. absurd (omega arith); question = λ le. absurd (omega arith) }

-- ---- what readers are to do

pub record Tells (level levels : ℕ) (p : Counting ExpressionTree) : Type 0 where
  pub on : (n : ℕ) (i : Symbols) (e : ExpressionTree) (r : Symbols) (h : IsExpression level e i r) → Ends level (next r)
      → Told (over_expression levels n level e i r h) ((e, n - operators e), r) (p n i)

pub record AllTell (levels : ℕ) (R : Readers) : Type 0 where
  pub unary : Tells 0 levels R.unary
  pub expression : Tells expression_level levels R.expression

-- the readers of the level below do what they are to, and are there if there is one more level
abbrev pub MayDo : (ℕ → Readers → Type 0) → ℕ → Option Readers → Type 0
MayDo Does zero None = Unit {0}
MayDo Does zero (Some R) = ⊥
MayDo Does (suc levels) None = ⊥
MayDo Does (suc levels) (Some R) = Does levels R

abbrev pub MayTell : ℕ → Option Readers → Type 0
MayTell = MayDo AllTell

-- one more level, which the next symbol opens
pub told_entered : {B : Type 0} {y : B × Symbols} (Does : ℕ → Readers → Type 0) (f : Readers → Reader B) (levels : ℕ) (inner : Option Readers) (i : Symbols) (behind : ℕ → Option Symbols)
    → MayDo Does levels inner
    → ((R : Readers) (less : ℕ) → Does less R → Told (behind less) y (f R i)) → Told (one_more levels i behind) y (and_then (enter inner i) f)
told_entered Does f zero None i behind h k = record { is = refl }
told_entered Does f zero (Some R) i behind h k = absurd h
told_entered Does f (suc levels) None i behind h k = absurd h
told_entered Does f (suc levels) (Some R) i behind h k = k R levels h

-- one more level, which this terminal opens
pub told_opened : {B : Type 0} {y : B × Symbols} (Does : ℕ → Readers → Type 0) (f : Readers → Reader B) (levels : ℕ) (inner : Option Readers) (m : Terminal) (i j : Symbols)
    (behind : ℕ → Option Symbols) → MayDo Does levels inner → Takes m i j
    → ((R : Readers) (less : ℕ) → Does less R → Told (behind less) y (f R j)) → Told (one_more levels i behind) y (and_then (open_level m inner i) f)
unfolding open_level
told_opened Does f zero None m i j behind h t k = record { is = ap (λ o. and_then o f) (if_true _ (seen_is m i j t) refl) }
told_opened Does f zero (Some R) m i j behind h t k = absurd h
told_opened Does f (suc levels) None m i j behind h t k = absurd h
told_opened Does f (suc levels) (Some R) m i j behind h t k = told_behind f R j (if_true _ (seen_is m i j t) (ap (λ (l : Symbols). done (R, l)) (dropped m i j t))) (k R levels h)

-- ---- each tree has a symbol

is_longer : {P : Symbol → Type 0} (i r : Symbols) → Is P i r → length r < length i
is_longer i r (x, h, is) = omega (arith, ap length is)

mutual
  pub expression_longer : (n : ℕ) (e : ExpressionTree) (i r : Symbols) → IsExpression n e i r → length r < length i
  expression_longer n (literal k v) i r (x, h, is) = omega (arith, ap length is)
  expression_longer n (boolean true) i r h = takes_longer terminal.True i r h
  expression_longer n (boolean false) i r h = takes_longer terminal.False i r h
  expression_longer n (variable x) i r (s, h, is) = omega (arith, ap length is)
  expression_longer n (element x e) i r (j, (s, h, is), (k, begin, (l, inside, close))) =
      omega (arith, ap length is, takes_longer terminal.LeftBracket j k begin, expression_longer expression_level e k l inside, takes_longer terminal.RightBracket l r close)
  expression_longer n (call stream method es) i r (j, (s, h, is), (k, dot, (l, (t, m, plain), (o, begin, (p, inside, close))))) =
      omega (arith, ap length is, takes_longer terminal.Dot j k dot, ap length plain, takes_longer terminal.LeftParen l o begin, arguments_longer es o p inside, takes_longer terminal.RightParen p r close)
  expression_longer n nullptr i r h = takes_longer terminal.Nullptr i r h.1
  expression_longer n (construct k e) i r (j, is, (l, begin, (o, inside, close))) =
      omega (arith, one_longer k i j is, takes_longer terminal.LeftParen j l begin, expression_longer expression_level e l o inside, takes_longer terminal.RightParen o r close)
  expression_longer n (static_cast k e) i r (a, word, (b, less, (c, type, (d, greater, (f, begin, (g, inside, close)))))) =
      omega (arith, takes_longer terminal.StaticCast i a word, takes_longer terminal.Less a b less, type_longer k b c type, takes_longer terminal.Greater c d greater, takes_longer terminal.LeftParen d f begin, expression_longer expression_level e f g inside, takes_longer terminal.RightParen g r close)
  expression_longer n (cast k e) i r (a, begin, (b, type, (c, close, inside))) =
      omega (arith, takes_longer terminal.LeftParen i a begin, type_longer k a b type, takes_longer terminal.RightParen b c close, expression_longer 0 e c r inside)
  expression_longer n (parenthesized e) i r (a, begin, (b, inside, close)) = omega (arith, takes_longer terminal.LeftParen i a begin, expression_longer expression_level e a b inside, takes_longer terminal.RightParen b r close)
  expression_longer n (prefix o at e) i r (a, (x, h, is), inside) = omega (arith, ap length is, expression_longer 0 e a r inside)
  expression_longer n (binary o at a b) i r (le, (j, first, (k, (x, h, is), second))) = omega (arith, expression_longer (suc (binds_at o)) a i j first, ap length is, expression_longer (binds_at o) b k r second)
  expression_longer n (conditional at c a b) i r (le, (j, test, (k, (x, h, is), (l, first, (o, colon, second))))) =
      omega (arith, expression_longer or_level c i j test, ap length is, expression_longer expression_level a k l first, takes_longer terminal.Colon l o colon, expression_longer expression_level b o r second)

  arguments_longer : (es : Expressions) (i r : Symbols) → AreArguments es i r → length r ≤ length i
  arguments_longer no_expression i r is = omega (arith, ap length is)
  arguments_longer (one_expression e es) i r (j, first, rest) = omega (arith, expression_longer argument_level e i j first, more_longer es j r rest)

  more_longer : (es : Expressions) (i r : Symbols) → AreMoreArguments es i r → length r ≤ length i
  more_longer no_expression i r is = omega (arith, ap length is)
  more_longer (one_expression e es) i r (j, comma, (k, first, rest)) = omega (arith, takes_longer terminal.Comma i j comma, expression_longer argument_level e j k first, more_longer es k r rest)

-- ---- levels

chain_stops : (operand : Counting ExpressionTree) (l turns : ℕ) (e : ExpressionTree) (n : ℕ) (r : Symbols) → operator_of l r ≡ None → chain operand l turns e n r ≡ Ok ((e, n), r)
unfolding chain
chain_stops operand l zero e n r stop = refl
chain_stops operand l (suc turns) e n r stop = rw stop refl

-- what goes on so, unless a limit is passed before
abbrev Until : {A : Type 0} → Option Symbols → Outcome A → Outcome A → Type 0
Until None o later = o ≡ later
Until (Some w) o later = o ≡ Err (P2, w)

until_refused : {A B : Type 0} {o : Outcome A} (f : A → Reader B) (w : Symbols) → o ≡ Err (P2, w) → and_then o f ≡ Err (P2, w)
until_refused f w e = ap (λ o. and_then o f) e

-- one operator too many
chain_refused : (operand : Counting ExpressionTree) (l turns : ℕ) (o : BinaryOperator) (at : Place) (a : ExpressionTree) (j k : Symbols) → MeansAt binary_operator_of o at j k → binds_at o ≡ l
    → chain operand l (suc turns) a 0 j ≡ Err (P2, j)
unfolding chain operator_of count
chain_refused operand l turns o at a j k (x, h, is) binds = rw (is, h.0, eq-eqb (binds_at o) l binds) refl

-- one operator more
chain_goes : (operand : Counting ExpressionTree) (l turns : ℕ) (o : BinaryOperator) (at : Place) (a b : ExpressionTree) (m left : ℕ) (j k r : Symbols) (w : Option Symbols)
    → MeansAt binary_operator_of o at j k → binds_at o ≡ l → Told w ((b, left), r) (operand m k)
    → Until w (chain operand l (suc turns) a (suc m) j) (chain operand l turns (binary o at a b) left r)
unfolding chain operator_of count
chain_goes operand l turns o at a b m left j k r None (x, h, is) binds reads =
    rw (is, h.0, eq-eqb (binds_at o) l binds) (then_is _ (b, left) r reads.is (ap (λ p. chain operand l turns (binary o p a b) left r) h.1))
chain_goes operand l turns o at a b m left j k r (Some w) (x, h, is) binds reads = rw (is, h.0, eq-eqb (binds_at o) l binds) (until_refused _ w reads.is)

-- where the operators of this level go on after e
record GoesOn (l : ℕ) (u : Counting ExpressionTree) (n : ℕ) (i : Symbols) (e : ExpressionTree) (left : ℕ) (r : Symbols) (w : Option Symbols) : Type 0 where
  turns : ℕ
  enough : length r ≤ turns
  reads : Until w (level u (suc l) n i) (chain (level u l) l turns e left r)

module _ (u : Counting ExpressionTree) (levels : ℕ) where
  starts : (l n : ℕ) (i : Symbols) (e : ExpressionTree) (left : ℕ) (r : Symbols) (w : Option Symbols) → Told w ((e, left), r) (level u l n i) → GoesOn l u n i e left r w
  unfolding level chain_of
  starts l n i e left r None h = record { turns = length r; enough = omega arith; reads = then_is _ (e, left) r h.is refl }
  starts l n i e left r (Some w) h = record { turns = length r; enough = omega arith; reads = until_refused _ w h.is }

  goes_on : (l n : ℕ) (i : Symbols) (o : BinaryOperator) (at : Place) (a b : ExpressionTree) (some left : ℕ) (j k r : Symbols) (w : Option Symbols) (behind : ℕ → Option Symbols)
      → MeansAt binary_operator_of o at j k → binds_at o ≡ l → length r < length k
      → ((m : ℕ) → some ≡ suc m → Told (behind m) ((b, left), r) (level u l m k)) → GoesOn l u n i a some j w → GoesOn l u n i (binary o at a b) left r (or_later w (one_more some j behind))
  goes_on l n i o at a b some left j k r (Some w) behind sign binds less reads before = record { turns = length r; enough = omega arith; reads = before.reads }
  goes_on l n i o at a b some left j k r None behind sign binds less reads before = pick some before.turns before.enough before.reads reads
    where
      longer : length k < length j
      longer = is_longer j k sign

      last : (turns m : ℕ) (w : Option Symbols) → length j ≤ suc turns → level u (suc l) n i ≡ chain (level u l) l (suc turns) a (suc m) j
          → Until w (chain (level u l) l (suc turns) a (suc m) j) (chain (level u l) l turns (binary o at a b) left r) → GoesOn l u n i (binary o at a b) left r w
      last turns m None le so_far more = record { turns = turns; enough = omega (arith, longer, less); reads = so_far ∙ more }
      last turns m (Some w) le so_far more = record { turns = length r; enough = omega arith; reads = so_far ∙ more }

      pick : (some turns : ℕ) → length j ≤ turns → level u (suc l) n i ≡ chain (level u l) l turns a some j → ((m : ℕ) → some ≡ suc m → Told (behind m) ((b, left), r) (level u l m k))
          → GoesOn l u n i (binary o at a b) left r (one_more some j behind)
      pick some zero le so_far reads = absurd (omega (arith, longer))
      pick zero (suc turns) le so_far reads = record { turns = length r; enough = omega arith; reads = so_far ∙ chain_refused (level u l) l turns o at a j k sign binds }
      pick (suc m) (suc turns) le so_far reads = last turns m (behind m) le so_far (chain_goes (level u l) l turns o at a b m left j k r (behind m) sign binds (reads m refl))

  -- what is spelled at a level that is this one
  on_level : (l m : ℕ) → m ≡ l → (p : Counting ExpressionTree) → Tells l levels p → (n : ℕ) (i : Symbols) (e : ExpressionTree) (r : Symbols) (h : IsExpression m e i r) → Ends l (next r)
      → Told (over_expression levels n m e i r h) ((e, n - operators e), r) (p n i)
  on_level l m is p tells n i e r h ends =
      subst (λ m. (h : IsExpression m e i r) → Told (over_expression levels n m e i r h) ((e, n - operators e), r) (p n i)) (sym is) (λ h. tells.on n i e r h ends) h

  left_is : (a b : ExpressionTree) (n m : ℕ) → n - operators a ≡ suc m → m - operators b ≡ n - suc (operators a + operators b)
  left_is a b n m one_less = omega (arith, one_less)

  -- the left side of the operators of a level
  spine : (l m : ℕ) → m ≡ suc l → suc l ≤ or_level → Tells l levels (level u l) → (e : ExpressionTree) (n : ℕ) (i : Symbols) (r : Symbols) (k : IsExpression m e i r) → Ends l (next r)
      → GoesOn l u n i e (n - operators e) r (over_expression levels n m e i r k)
  unfolding over_expression
  spine l m is le h (binary o at a b) n i r k ends =
      elim (cases_lt (binds_at o) l) [
        | inl lt ↦ starts l n i (binary o at a b) _ r _ (h.on n i (binary o at a b) r (omega arith, k.1) ends)
        | inr ge ↦
            let parts = k.1 in
            let binds : binds_at o ≡ l = omega (arith, k.0) in
            let before = spine l (suc (binds_at o)) (ap suc binds) le h a n i parts.0 parts.1 (behind parts.0 parts.2.0 o at parts.2.1 ge) in
            goes_on l n i o at a b (n - operators a) (n - operators (binary o at a b)) parts.0 parts.2.0 r (over_expression levels n (suc (binds_at o)) a i parts.0 parts.1)
            (λ m. over_expression levels m (binds_at o) b parts.2.0 r parts.2.2) parts.2.1 binds
            (expression_longer (binds_at o) b parts.2.0 r parts.2.2)
            (λ m one_less. told_left (left_is a b n m one_less) (on_level l (binds_at o) binds (level u l) h m parts.2.0 b r parts.2.2 ends))
            before
      ]
    where
      behind : (j k : Symbols) (o : BinaryOperator) (at : Place) → MeansAt binary_operator_of o at j k → l ≤ binds_at o → Ends l (next j)
      behind j k o at (x, h, is) ge = rw is (operator_ends l x.terminal o h.0 ge)
  spine l m is le h nullptr n i r k ends = absurd (omega (arith, k.0))
  spine l m is le h (conditional at c a b) n i r k ends = absurd (omega (arith, k.0))
  spine l m is le h (literal v w) n i r k ends = starts l n i (literal v w) _ r _ (h.on n i (literal v w) r k ends)
  spine l m is le h (boolean true) n i r k ends = starts l n i (boolean true) _ r _ (h.on n i (boolean true) r k ends)
  spine l m is le h (boolean false) n i r k ends = starts l n i (boolean false) _ r _ (h.on n i (boolean false) r k ends)
  spine l m is le h (variable x) n i r k ends = starts l n i (variable x) _ r _ (h.on n i (variable x) r k ends)
  spine l m is le h (element x e) n i r k ends = starts l n i (element x e) _ r _ (h.on n i (element x e) r k ends)
  spine l m is le h (call x y es) n i r k ends = starts l n i (call x y es) _ r _ (h.on n i (call x y es) r k ends)
  spine l m is le h (construct v e) n i r k ends = starts l n i (construct v e) _ r _ (h.on n i (construct v e) r k ends)
  spine l m is le h (static_cast v e) n i r k ends = starts l n i (static_cast v e) _ r _ (h.on n i (static_cast v e) r k ends)
  spine l m is le h (cast v e) n i r k ends = starts l n i (cast v e) _ r _ (h.on n i (cast v e) r k ends)
  spine l m is le h (parenthesized e) n i r k ends = starts l n i (parenthesized e) _ r _ (h.on n i (parenthesized e) r k ends)
  spine l m is le h (prefix o at e) n i r k ends = starts l n i (prefix o at e) _ r _ (h.on n i (prefix o at e) r k ends)

  stops_at : (l : ℕ) (r : Symbols) → Ends (suc l) (next r) → operator_of l r ≡ None
  unfolding operator_of
  stops_at l r ends = ends.operator l (omega arith)

  finishes : (l n : ℕ) (i : Symbols) (e : ExpressionTree) (left : ℕ) (r : Symbols) (w : Option Symbols) → GoesOn l u n i e left r w → operator_of l r ≡ None
      → Told w ((e, left), r) (level u (suc l) n i)
  finishes l n i e left r None s stop = record { is = s.reads ∙ chain_stops (level u l) l s.turns e left r stop }
  finishes l n i e left r (Some w) s stop = record { is = s.reads }

  pub level_told : Tells 0 levels u → (l : ℕ) → l ≤ or_level → Tells l levels (level u l)
  unfolding level
  level_told h zero le = h
  level_told h (suc l) le = record {
    on =
        λ n i e r k ends. finishes l n i e (n - operators e) r (over_expression levels n (suc l) e i r k)
        (spine l (suc l) refl le (level_told h l (omega arith)) e n i r k (ends_tighter l (next r) ends)) (stops_at l r ends);
  }
