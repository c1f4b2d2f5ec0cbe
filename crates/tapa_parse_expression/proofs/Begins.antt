-- What an expression begins with, and that a parenthesis before it begins no cast.
use Rattle.std.proofs.Common.{◌≡◌, ℕ, suc, ◌≤◌, inl, inr, Bool, true, false, ◌∷◌, drop, Some, None, refl, arith}
use Rattle.std.specs.Prelude.{◌||◌, ◌&&◌, not, if◌then◌else◌, is_some}
use Rattle.tapa_base.specs.declared.kind.Kind.{Kind}
use Rattle.tapa_base.specs.declared.kind.Kind.TheVariants as kind
use Rattle.tapa_syntax.specs.declared.terminal.Terminal.{Terminal}
use Rattle.tapa_syntax.specs.declared.terminal.Terminal.TheVariants as terminal
use Rattle.tapa_syntax.specs.declared.tree.Name.{Name}
use Rattle.tapa_syntax.specs.declared.tree.PrefixOperator.{PrefixOperator}
use Rattle.tapa_syntax.specs.Symbols.{Symbol}
use Rattle.tapa_syntax.specs.Trees.{ExpressionTree, literal, boolean, variable, element, call, nullptr, construct, static_cast, cast, parenthesized, prefix, binary, conditional}
use Rattle.tapa_syntax.specs.Grammar.{Takes, May, IsName, IsOne, IsType, IsExpression, is_name, prefix_operator_of, binds_at, or_level, expression_level}
use Rattle.tapa_parse_expression.specs.Readers.{next, same, sees}
use Rattle.tapa_parse_expression.specs.Reading.{one_kind, begins_cast}
use Rattle.tapa_parse_expression.proofs.Parts.{Symbols, if_true, if_false, differ_by, next_is, seen_is, dropped}
use Rattle.tapa_parse_expression.proofs.CompleteTypes.{word_is_one, sized_is_one}
use Rattle.std.proofs.lemmas.Bool.{or_left as or_first, or_right as or_second}

-- ---- what an expression begins with

-- a type of one word
abbrev pub begins_type : Terminal → Bool
begins_type terminal.Std = true
begins_type terminal.Bool = true
begins_type terminal.Int = true
begins_type terminal.Short = true
begins_type terminal.Long = true
begins_type terminal.Unsigned = true
begins_type terminal.SizeT = true
begins_type terminal.Int8 = true
begins_type terminal.Uint8 = true
begins_type terminal.Int16 = true
begins_type terminal.Uint16 = true
begins_type terminal.Int32 = true
begins_type terminal.Uint32 = true
begins_type terminal.Int64 = true
begins_type terminal.Uint64 = true
begins_type _ = false

abbrev pub begins_other : Terminal → Bool
begins_other terminal.Literal = true
begins_other terminal.True = true
begins_other terminal.False = true
begins_other terminal.StaticCast = true
begins_other terminal.LeftParen = true
begins_other terminal.Minus = true
begins_other terminal.Plus = true
begins_other terminal.Tilde = true
begins_other terminal.Exclamation = true
begins_other _ = false

abbrev pub begins_expression : Terminal → Bool
begins_expression m = is_name m || (begins_type m || begins_other m)

word_begins : (m : Terminal) (k : Kind) → one_kind m ≡ Some k → begins_type m ≡ true
word_begins terminal.Bool k e = refl
word_begins terminal.Int k e = refl
word_begins terminal.Short k e = refl
word_begins terminal.Long k e = refl
word_begins terminal.Unsigned k e = refl
word_begins terminal.SizeT k e = refl
word_begins terminal.Int8 k e = refl
word_begins terminal.Uint8 k e = refl
word_begins terminal.Int16 k e = refl
word_begins terminal.Uint16 k e = refl
word_begins terminal.Int32 k e = refl
word_begins terminal.Uint32 k e = refl
word_begins terminal.Int64 k e = refl
word_begins terminal.Uint64 k e = refl
word_begins _ k e = absurd cc

pub one_begins : (k : Kind) (i r : Symbols) → IsOne k i r → begins_type (next i) ≡ true
one_begins k i r (inl (x, e, is)) = rw is (word_begins x.terminal k (word_is_one x.terminal k e))
one_begins k i r (inr (inl (x, e, is))) = rw is (word_begins x.terminal k (sized_is_one x.terminal k e))
one_begins k i r (inr (inr (j, std, rest))) = rw (next_is terminal.Std i j std) refl

type_begins_too : (m : Terminal) → begins_type m ≡ true → begins_expression m ≡ true
type_begins_too m e = or_second (is_name m) (begins_type m || begins_other m) (or_first (begins_type m) (begins_other m) e)

other_begins_too : (m : Terminal) → begins_other m ≡ true → begins_expression m ≡ true
other_begins_too m e = or_second (is_name m) (begins_type m || begins_other m) (or_second (begins_type m) (begins_other m) e)

pub name_begins : (x : Name) (i j : Symbols) → IsName x i j → is_name (next i) ≡ true
name_begins x i j (s, h, is) = rw is h.0

prefix_begins : (m : Terminal) (o : PrefixOperator) → prefix_operator_of m ≡ Some o → begins_other m ≡ true
prefix_begins terminal.Minus o e = refl
prefix_begins terminal.Plus o e = refl
prefix_begins terminal.Tilde o e = refl
prefix_begins terminal.Exclamation o e = refl
prefix_begins _ o e = absurd cc

pub expression_begins : (n : ℕ) (e : ExpressionTree) (i r : Symbols) → n ≤ expression_level → IsExpression n e i r → begins_expression (next i) ≡ true
expression_begins n (literal k v) i r le (x, h, is) = rw (is, h.0) refl
expression_begins n (boolean true) i r le h = rw (next_is terminal.True i r h) refl
expression_begins n (boolean false) i r le h = rw (next_is terminal.False i r h) refl
expression_begins n (variable x) i r le h = or_first (is_name (next i)) (begins_type (next i) || begins_other (next i)) (name_begins x i r h)
expression_begins n (element x e) i r le (j, h, rest) = or_first (is_name (next i)) (begins_type (next i) || begins_other (next i)) (name_begins x i j h)
expression_begins n (call x method es) i r le (j, h, rest) = or_first (is_name (next i)) (begins_type (next i) || begins_other (next i)) (name_begins x i j h)
expression_begins n nullptr i r le h = absurd (omega (arith, h.0))
expression_begins n (construct k e) i r le (j, is, rest) = type_begins_too (next i) (one_begins k i j is)
expression_begins n (static_cast k e) i r le (j, word, rest) = rw (next_is terminal.StaticCast i j word) refl
expression_begins n (cast k e) i r le (j, begin, rest) = rw (next_is terminal.LeftParen i j begin) refl
expression_begins n (parenthesized e) i r le (j, begin, rest) = rw (next_is terminal.LeftParen i j begin) refl
expression_begins n (prefix o at e) i r le (j, (x, h, is), rest) = rw is (other_begins_too x.terminal (prefix_begins x.terminal o h.0))
expression_begins n (binary o at a b) i r le (fits, (j, first, rest)) = expression_begins (suc (binds_at o)) a i j (omega arith) first
expression_begins n (conditional at c a b) i r le (fits, (j, first, rest)) = expression_begins or_level c i j (omega arith) first

-- a terminal that begins none is not seen
pub begins_otherwise : (m : Terminal) (i : Symbols) → begins_expression (next i) ≡ true → begins_expression m ≡ false → sees m i ≡ false
unfolding sees
begins_otherwise m i e f = differ_by begins_expression (next i) m (λ g. cc)

-- ---- a parenthesis before an expression begins no cast

-- what is looked at behind it
abbrev pub cast_behind : Symbols → Bool
cast_behind j = if sees terminal.Std j then not (sees terminal.LeftParen (drop 3 j)) else is_some (one_kind (next j)) && not (sees terminal.LeftParen (drop 1 j))

pub cast_begins : (i j : Symbols) → Takes terminal.LeftParen i j → begins_cast i ≡ cast_behind j
unfolding begins_cast
cast_begins i j (x, h, is) = rw is refl

no_word : (m : Terminal) → begins_type m ≡ false → one_kind m ≡ None
no_word terminal.Std e = refl
no_word terminal.Bool e = absurd cc
no_word terminal.Int e = absurd cc
no_word terminal.Short e = absurd cc
no_word terminal.Long e = absurd cc
no_word terminal.Unsigned e = absurd cc
no_word terminal.SizeT e = absurd cc
no_word terminal.Int8 e = absurd cc
no_word terminal.Uint8 e = absurd cc
no_word terminal.Int16 e = absurd cc
no_word terminal.Uint16 e = absurd cc
no_word terminal.Int32 e = absurd cc
no_word terminal.Uint32 e = absurd cc
no_word terminal.Int64 e = absurd cc
no_word terminal.Uint64 e = absurd cc
no_word _ e = refl

pub no_type : (j : Symbols) → begins_type (next j) ≡ false → cast_behind j ≡ false
unfolding sees
no_type j e = if_false _ (differ_by begins_type (next j) terminal.Std (λ f. cc)) (rw (no_word (next j) e) refl)

name_no_type : (m : Terminal) → is_name m ≡ true → begins_type m ≡ false
name_no_type terminal.Name e = refl
name_no_type terminal.Istream e = refl
name_no_type terminal.Ostream e = refl
name_no_type terminal.Stream e = refl
name_no_type terminal.Mmap e = refl
name_no_type terminal.Task e = refl
name_no_type terminal.Invoke e = refl
name_no_type _ e = absurd cc

prefix_no_type : (m : Terminal) (o : PrefixOperator) → prefix_operator_of m ≡ Some o → begins_type m ≡ false
prefix_no_type terminal.Minus o e = refl
prefix_no_type terminal.Plus o e = refl
prefix_no_type terminal.Tilde o e = refl
prefix_no_type terminal.Exclamation o e = refl
prefix_no_type _ o e = absurd cc

-- a type of one word before a parenthesis
no_cast_one : (k : Kind) (i j l : Symbols) → IsOne k i j → Takes terminal.LeftParen j l → cast_behind i ≡ false
unfolding sees
no_cast_one k i j l (inl (x, e, is)) begin = rw is (word k x j l (word_is_one x.terminal k e) begin)
  where
    word : (k : Kind) (x : Symbol) (j l : Symbols) → one_kind x.terminal ≡ Some k → Takes terminal.LeftParen j l → cast_behind (x ∷ j) ≡ false
    word k x j l e begin = if_false _ (differ_by one_kind x.terminal terminal.Std (λ f. cc)) (rw (e, seen_is terminal.LeftParen j l begin) refl)
no_cast_one k i j l (inr (inl (x, e, is))) begin = rw is (if_false _ (differ_by one_kind x.terminal terminal.Std (λ f. let e' = sized_is_one x.terminal k e in cc)) (rw (sized_is_one x.terminal k e, seen_is terminal.LeftParen j l begin) refl))
no_cast_one k i j l (inr (inr (a, (s, e, std), (b, (y, f, scope), (z, g, is))))) begin = if_true _ (seen_is terminal.Std i a (s, e, std)) (rw (std, scope, is, seen_is terminal.LeftParen j l begin) refl)

pub no_cast : (n : ℕ) (e : ExpressionTree) (i r : Symbols) → n ≤ expression_level → IsExpression n e i r → cast_behind i ≡ false
no_cast n (literal k v) i r le (x, h, is) = no_type i (rw (is, h.0) refl)
no_cast n (boolean true) i r le h = no_type i (rw (next_is terminal.True i r h) refl)
no_cast n (boolean false) i r le h = no_type i (rw (next_is terminal.False i r h) refl)
no_cast n (variable x) i r le h = no_type i (name_no_type (next i) (name_begins x i r h))
no_cast n (element x e) i r le (j, h, rest) = no_type i (name_no_type (next i) (name_begins x i j h))
no_cast n (call x method es) i r le (j, h, rest) = no_type i (name_no_type (next i) (name_begins x i j h))
no_cast n nullptr i r le h = absurd (omega (arith, h.0))
no_cast n (construct k e) i r le (j, is, (l, begin, rest)) = no_cast_one k i j l is begin
no_cast n (static_cast k e) i r le (j, word, rest) = no_type i (rw (next_is terminal.StaticCast i j word) refl)
no_cast n (cast k e) i r le (j, begin, rest) = no_type i (rw (next_is terminal.LeftParen i j begin) refl)
no_cast n (parenthesized e) i r le (j, begin, rest) = no_type i (rw (next_is terminal.LeftParen i j begin) refl)
no_cast n (prefix o at e) i r le (j, (x, h, is), rest) = no_type i (rw is (prefix_no_type x.terminal o h.0))
no_cast n (binary o at a b) i r le (fits, (j, first, rest)) = no_cast (suc (binds_at o)) a i j (omega arith) first
no_cast n (conditional at c a b) i r le (fits, (j, first, rest)) = no_cast or_level c i j (omega arith) first

-- and a type in parentheses does
pub is_cast : (k : Kind) (i j l : Symbols) → IsType k i j → Takes terminal.RightParen j l → cast_behind i ≡ true
unfolding sees same
is_cast k i j l (inl (inl (x, e, is))) close = rw is (if_false _ (differ_by one_kind x.terminal terminal.Std (λ f. let e' = word_is_one x.terminal k e in cc)) (rw (word_is_one x.terminal k e, next_is terminal.RightParen j l close) refl))
is_cast k i j l (inl (inr (inl (x, e, is)))) close = rw is (if_false _ (differ_by one_kind x.terminal terminal.Std (λ f. let e' = sized_is_one x.terminal k e in cc)) (rw (sized_is_one x.terminal k e, next_is terminal.RightParen j l close) refl))
is_cast k i j l (inl (inr (inr (a, (s, e, std), (b, (y, f, scope), (z, g, is)))))) close = if_true _ (seen_is terminal.Std i a (s, e, std)) (rw (std, scope, is, next_is terminal.RightParen j l close) refl)
is_cast kind.U32 i j l (inr (a, first, int)) close = rw (next_is terminal.Unsigned i a first, dropped terminal.Unsigned i a first, next_is terminal.Int a j int) refl
is_cast kind.U16 i j l (inr (a, first, (b, short, int))) close = rw (next_is terminal.Unsigned i a first, dropped terminal.Unsigned i a first, next_is terminal.Short a b short) refl
is_cast kind.U64 i j l (inr (a, first, (b, long, rest))) close = rw (next_is terminal.Unsigned i a first, dropped terminal.Unsigned i a first, next_is terminal.Long a b long) refl
is_cast kind.I16 i j l (inr (a, short, int)) close = rw (next_is terminal.Short i a short, dropped terminal.Short i a short, next_is terminal.Int a j int) refl
is_cast kind.I64 i j l (inr (a, long, (b, again, int))) close = rw (next_is terminal.Long i a long, dropped terminal.Long i a long, words again int) refl
  where
    words : May terminal.Long a b → May terminal.Int b j → same (next a) terminal.LeftParen ≡ false
    words (inl h) int = rw (next_is terminal.Long a b h) refl
    words (inr h) (inl int) = rw (h, next_is terminal.Int b j int) refl
    words (inr h) (inr is) = rw (h, is, next_is terminal.RightParen j l close) refl
is_cast _ i j l (inr h) close = absurd h
