-- What is spelled as a type is read, where it does not go on.
use Rattle.std.proofs.Common.{◌≡◌, ◌<◌, ◌≤◌, inl, inr, Bool, true, false, ◌∷◌, length, Some, Ok, refl, sym, ap, ◌∙◌, arith}
use Rattle.tapa_base.specs.declared.kind.Kind.{Kind}
use Rattle.tapa_base.specs.declared.kind.Kind.TheVariants as kind
use Rattle.tapa_syntax.specs.declared.terminal.Terminal.{Terminal}
use Rattle.tapa_syntax.specs.declared.terminal.Terminal.TheVariants as terminal
use Rattle.tapa_syntax.specs.Symbols.{Symbol}
use Rattle.tapa_syntax.specs.Grammar.{Takes, May, sized_kind, word_kind, IsOne, IsType}
use Rattle.tapa_parse_expression.specs.Readers.{next, same, sees, past}
use Rattle.tapa_parse_expression.specs.Reading.{sized, one_kind, one, unsigned_by, unsigned, type_by, type_name}
use Rattle.tapa_parse_expression.proofs.Parts.{Symbols, done, ok_is, then_is, if_true, if_false, differ_by, next_is, seen_is, dropped, expect_is, past_is, past_none}

-- no word follows that would go on with a type
abbrev pub extends_type : Terminal → Bool
extends_type terminal.Int = true
extends_type terminal.Short = true
extends_type terminal.Long = true
extends_type _ = false

-- ---- words

pub sized_is_one : (m : Terminal) (k : Kind) → sized_kind m ≡ Some k → one_kind m ≡ Some k
sized_is_one terminal.Int8 k e = e
sized_is_one terminal.Uint8 k e = e
sized_is_one terminal.Int16 k e = e
sized_is_one terminal.Uint16 k e = e
sized_is_one terminal.Int32 k e = e
sized_is_one terminal.Uint32 k e = e
sized_is_one terminal.Int64 k e = e
sized_is_one terminal.Uint64 k e = e
sized_is_one _ k e = absurd cc

pub word_is_one : (m : Terminal) (k : Kind) → word_kind m ≡ Some k → one_kind m ≡ Some k
word_is_one m k e = rw e refl

-- a word of a type, which is not `std`
pub one_word : (k : Kind) (x : Symbol) (r : Symbols) → one_kind x.terminal ≡ Some k → one (x ∷ r) ≡ Ok (k, r)
unfolding one sees
one_word k x r e = if_false _ (differ_by one_kind x.terminal terminal.Std (λ f. cc)) (rw e refl)

pub one_complete : (k : Kind) (i r : Symbols) → IsOne k i r → one i ≡ Ok (k, r)
unfolding one sized
one_complete k i r (inl (x, e, is)) = rw is (one_word k x r (word_is_one x.terminal k e))
one_complete k i r (inr (inl (x, e, is))) = rw is (one_word k x r (sized_is_one x.terminal k e))
one_complete k i r (inr (inr (j, std, (l, scope, (z, e, is))))) =
    if_true _ (seen_is terminal.Std i j std) (rw (dropped terminal.Std i j std) (then_is _ tt l (expect_is terminal.Scope j l scope) (rw (is, e) refl)))

-- ---- types

sees_no : (m : Terminal) (r : Symbols) → extends_type (next r) ≡ false → extends_type m ≡ true → sees m r ≡ false
unfolding sees
sees_no m r e f = differ_by extends_type (next r) m (λ g. cc)

pub sees_other : (m n : Terminal) (i j : Symbols) → Takes m i j → same m n ≡ false → sees n i ≡ false
unfolding sees
sees_other m n i j h e = rw (next_is m i j h) e

may_past : (m : Terminal) (i j : Symbols) → May m i j → sees m j ≡ false → past m i ≡ j
may_past m i j (inl h) e = past_is m i j h
may_past m i j (inr h) e = rw h (past_none m j e)

sized_type : (m : Terminal) (k : Kind) (i : Symbols) → sized_kind m ≡ Some k → type_by m i ≡ one i
sized_type terminal.Unsigned k i e = absurd cc
sized_type terminal.Short k i e = absurd cc
sized_type terminal.Long k i e = absurd cc
sized_type _ k i e = refl

-- nothing follows that goes on with `unsigned`
unsigned_alone : (m : Terminal) (r : Symbols) → next r ≡ m → extends_type (next r) ≡ false → unsigned_by m r ≡ Ok (kind.U32, r)
unsigned_alone terminal.Short r is ends = absurd (let short = ap extends_type is in cc)
unsigned_alone terminal.Long r is ends = absurd (let long = ap extends_type is in cc)
unsigned_alone _ r is ends = ap (λ (j : Symbols). done (kind.U32, j)) (past_none terminal.Int r (sees_no terminal.Int r ends refl))

-- nor with the others
no_more : (m : Terminal) (r : Symbols) → extends_type (next r) ≡ false → extends_type m ≡ true → past m r ≡ r
no_more m r ends e = past_none m r (sees_no m r ends e)

word_type : (m : Terminal) (k : Kind) (x : Symbol) (r : Symbols) → x.terminal ≡ m → word_kind m ≡ Some k → extends_type (next r) ≡ false → type_by m (x ∷ r) ≡ Ok (k, r)
unfolding unsigned
word_type terminal.Bool k x r is e ends = one_word k x r (word_is_one x.terminal k (ap word_kind is ∙ e))
word_type terminal.Int k x r is e ends = one_word k x r (word_is_one x.terminal k (ap word_kind is ∙ e))
word_type terminal.SizeT k x r is e ends = one_word k x r (word_is_one x.terminal k (ap word_kind is ∙ e))
word_type terminal.Short k x r is e ends = let kinds : kind.I16 ≡ k = cc in rw (no_more terminal.Int r ends refl) (ap (λ l. done (l, r)) kinds)
word_type terminal.Long k x r is e ends = let kinds : kind.I64 ≡ k = cc in rw (no_more terminal.Long r ends refl, no_more terminal.Int r ends refl) (ap (λ l. done (l, r)) kinds)
word_type terminal.Unsigned k x r is e ends = let kinds : kind.U32 ≡ k = cc in unsigned_alone (next r) r refl ends ∙ ap (λ l. done (l, r)) kinds
word_type _ k x r is e ends = absurd cc

-- `long` once more, and `int`
two_past : (i j r : Symbols) → May terminal.Long i j → May terminal.Int j r → extends_type (next r) ≡ false → past terminal.Int (past terminal.Long i) ≡ r
unfolding same
two_past i j r again int ends = rw (may_past terminal.Long i j again (no_long int)) (may_past terminal.Int j r int (sees_no terminal.Int r ends refl))
  where
    no_long : May terminal.Int j r → sees terminal.Long j ≡ false
    no_long (inl h) = sees_other terminal.Int terminal.Long j r h refl
    no_long (inr h) = rw h (sees_no terminal.Long r ends refl)

pub type_complete : (k : Kind) (i r : Symbols) → IsType k i r → extends_type (next r) ≡ false → type_name i ≡ Ok (k, r)
unfolding type_name unsigned
type_complete k i r (inl (inl (x, e, is))) ends = rw is (word_type x.terminal k x r refl e ends)
type_complete k i r (inl (inr (inl (x, e, is)))) ends = rw is (sized_type x.terminal k (x ∷ r) e ∙ one_word k x r (sized_is_one x.terminal k e))
type_complete k i r (inl (inr (inr (j, std, rest)))) ends = rw (next_is terminal.Std i j std) (one_complete k i r (inr (inr (j, std, rest))))
type_complete kind.U32 i r (inr (j, first, int)) ends =
    rw (next_is terminal.Unsigned i j first, dropped terminal.Unsigned i j first, next_is terminal.Int j r int) (ap (λ (l : Symbols). done (kind.U32, l)) (past_is terminal.Int j r int))
type_complete kind.U16 i r (inr (j, first, (l, short, int))) ends =
    rw (next_is terminal.Unsigned i j first, dropped terminal.Unsigned i j first, next_is terminal.Short j l short, dropped terminal.Short j l short) (ap (λ (l : Symbols). done (kind.U16, l)) (may_past terminal.Int l r int (sees_no terminal.Int r ends refl)))
type_complete kind.U64 i r (inr (j, first, (l, long, (o, again, int)))) ends =
    rw (next_is terminal.Unsigned i j first, dropped terminal.Unsigned i j first, next_is terminal.Long j l long, dropped terminal.Long j l long) (ap (λ (l : Symbols). done (kind.U64, l)) (two_past l o r again int ends))
type_complete kind.I16 i r (inr (j, short, int)) ends =
    rw (next_is terminal.Short i j short, dropped terminal.Short i j short) (ap (λ (l : Symbols). done (kind.I16, l)) (past_is terminal.Int j r int))
type_complete kind.I64 i r (inr (j, long, (o, again, int))) ends =
    rw (next_is terminal.Long i j long, dropped terminal.Long i j long) (ap (λ (l : Symbols). done (kind.I64, l)) (two_past j o r again int ends))
type_complete _ i r (inr h) ends = absurd h

-- ---- each has a symbol

pub takes_longer : (m : Terminal) (i r : Symbols) → Takes m i r → length r < length i
takes_longer m i r (x, e, is) = omega (arith, ap length is)

pub may_longer : (m : Terminal) (i r : Symbols) → May m i r → length r ≤ length i
may_longer m i r (inl (x, e, is)) = omega (arith, ap length is)
may_longer m i r (inr is) = omega (arith, ap length is)

pub one_longer : (k : Kind) (i r : Symbols) → IsOne k i r → length r < length i
one_longer k i r (inl (x, e, is)) = omega (arith, ap length is)
one_longer k i r (inr (inl (x, e, is))) = omega (arith, ap length is)
one_longer k i r (inr (inr (j, std, (l, scope, (z, e, is))))) = omega (arith, takes_longer terminal.Std i j std, takes_longer terminal.Scope j l scope, ap length is)

pub type_longer : (k : Kind) (i r : Symbols) → IsType k i r → length r < length i
type_longer k i r (inl h) = one_longer k i r h
type_longer kind.U32 i r (inr (j, first, int)) = omega (arith, takes_longer terminal.Unsigned i j first, takes_longer terminal.Int j r int)
type_longer kind.U16 i r (inr (j, first, (l, short, int))) = omega (arith, takes_longer terminal.Unsigned i j first, takes_longer terminal.Short j l short, may_longer terminal.Int l r int)
type_longer kind.U64 i r (inr (j, first, (l, long, (o, again, int)))) = omega (arith, takes_longer terminal.Unsigned i j first, takes_longer terminal.Long j l long, may_longer terminal.Long l o again, may_longer terminal.Int o r int)
type_longer kind.I16 i r (inr (j, short, int)) = omega (arith, takes_longer terminal.Short i j short, takes_longer terminal.Int j r int)
type_longer kind.I64 i r (inr (j, long, (o, again, int))) = omega (arith, takes_longer terminal.Long i j long, may_longer terminal.Long j o again, may_longer terminal.Int o r int)
type_longer _ i r (inr h) = absurd h

-- ---- one kind

pub type_unique : (k l : Kind) (i r : Symbols) → IsType k i r → IsType l i r → extends_type (next r) ≡ false → k ≡ l
type_unique k l i r h g ends = ap (λ (x : Kind × Symbols). x.0) (ok_is (k, r) (l, r) (sym (type_complete k i r h ends) ∙ type_complete l i r g ends))
