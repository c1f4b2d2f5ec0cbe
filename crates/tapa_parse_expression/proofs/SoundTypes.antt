-- What is read as a type is spelled so.
use Rattle.std.proofs.Common.{◌≡◌, ◌⊎◌, inl, inr, Bool, true, false, cond, drop, Option, Some, None, refl, ap, ◌∙◌}
use Rattle.tapa_base.specs.declared.kind.Kind.{Kind}
use Rattle.tapa_base.specs.declared.kind.Kind.TheVariants as kind
use Rattle.tapa_syntax.specs.declared.terminal.Terminal.{Terminal}
use Rattle.tapa_syntax.specs.declared.terminal.Terminal.TheVariants as terminal
use Rattle.tapa_syntax.specs.Grammar.{Takes, May, MeansTree, sized_kind, word_kind, IsOne, IsType}
use Rattle.tapa_parse_expression.specs.declared.fault.ParseCode.TheVariants.{P1}
use Rattle.tapa_parse_expression.specs.Readers.{and_then, next, sees, skip, past, known, pure, ◌>>◌}
use Rattle.tapa_parse_expression.specs.Reading.{sized, or_else, one_kind, one, unsigned_by, unsigned, type_by, type_name}
use Rattle.tapa_parse_expression.proofs.Parts.{Symbols, Yields, yields_pure, yields_none, yields_then, yields_if, weaker, takes, expect_yields, means_it, is_seen, is_end, done}

-- the next symbol, if it means a type
known_yields : (table : Terminal → Option Kind) (i : Symbols) → table terminal.End ≡ None → (o : Option Kind) → table (next i) ≡ o → Yields (λ k j. MeansTree table k i j) (and_then (known o i) (λ k. skip >> pure k))
known_yields table i real None e = yields_none (λ k j. MeansTree table k i j) (P1, i)
known_yields table i real (Some k) e = yields_pure (λ k j. MeansTree table k i j) k (drop 1 i) (means_it table i k real e)

sized_sound : (i : Symbols) → Yields (λ k j. MeansTree sized_kind k i j) (sized i)
unfolding sized
sized_sound i = known_yields sized_kind i refl (sized_kind (next i)) refl

words : (m : Terminal) (k : Kind) → one_kind m ≡ Some k → (word_kind m ≡ Some k) ⊎ (sized_kind m ≡ Some k)
words m k e = pick (word_kind m) refl e
  where
    pick : (o : Option Kind) → word_kind m ≡ o → or_else o (sized_kind m) ≡ Some k → (word_kind m ≡ Some k) ⊎ (sized_kind m ≡ Some k)
    pick None is e = inr e
    pick (Some l) is e = inl (is ∙ e)

pub is_word : (k : Kind) (i r : Symbols) → MeansTree one_kind k i r → IsOne k i r
is_word k i r (x, e, is) = pick (words x.terminal k e)
  where
    pick : (word_kind x.terminal ≡ Some k) ⊎ (sized_kind x.terminal ≡ Some k) → IsOne k i r
    pick (inl h) = inl (x, h, is)
    pick (inr h) = inr (inl (x, h, is))

pub one_sound : (i : Symbols) → Yields (λ k r. IsOne k i r) (one i)
unfolding one
one_sound i =
    yields_if (sees terminal.Std i)
    (λ std. yields_then (expect_yields terminal.Scope (drop 1 i) refl) (λ _ j scope. weaker (sized_sound j) (λ k r sized. inr (inr (drop 1 i, takes terminal.Std i refl std, (j, scope, sized))))))
    (λ other. weaker (known_yields one_kind i refl (one_kind (next i)) refl) (λ k r h. is_word k i r h))

may : (m : Terminal) (i : Symbols) → is_end m ≡ false → May m i (past m i)
unfolding past
may m i real = pick (sees m i) refl
  where
    pick : (b : Bool) → sees m i ≡ b → May m i (cond b (drop 1 i) i)
    pick true e = inl (takes m i real e)
    pick false e = inr refl

pub takes_it : (m : Terminal) (i : Symbols) → is_end m ≡ false → next i ≡ m → Takes m i (drop 1 i)
takes_it m i real e = takes m i real (is_seen m i e)

unsigned_sound : (i0 i : Symbols) → Takes terminal.Unsigned i0 i → Yields (λ k r. IsType k i0 r) (unsigned i)
unfolding unsigned past
unsigned_sound i0 i first = pick (next i) refl
  where
    other : Yields (λ k r. IsType k i0 r) (done (kind.U32, past terminal.Int i))
    other = yields_pure (λ k r. IsType k i0 r) kind.U32 (past terminal.Int i) (pick (sees terminal.Int i) refl)
      where
        pick : (b : Bool) → sees terminal.Int i ≡ b → IsType kind.U32 i0 (cond b (drop 1 i) i)
        pick true e = inr (i, first, takes terminal.Int i refl e)
        pick false e = let x = first in inl (inl (x.0, ap word_kind x.1, x.2))

    pick : (m : Terminal) → next i ≡ m → Yields (λ k r. IsType k i0 r) (unsigned_by m i)
    pick terminal.Short e = yields_pure (λ k r. IsType k i0 r) kind.U16 (past terminal.Int (drop 1 i)) (inr (i, first, (drop 1 i, takes_it terminal.Short i refl e, may terminal.Int (drop 1 i) refl)))
    pick terminal.Long e =
        yields_pure (λ k r. IsType k i0 r) kind.U64 (past terminal.Int (past terminal.Long (drop 1 i)))
        (inr (i, first, (drop 1 i, takes_it terminal.Long i refl e, (past terminal.Long (drop 1 i), may terminal.Long (drop 1 i) refl, may terminal.Int (past terminal.Long (drop 1 i)) refl))))
    pick _ e = other

pub type_sound : (i : Symbols) → Yields (λ k r. IsType k i r) (type_name i)
unfolding type_name past
type_sound i = pick (next i) refl
  where
    short : next i ≡ terminal.Short → Yields (λ k r. IsType k i r) (done (kind.I16, past terminal.Int (drop 1 i)))
    short e = yields_pure (λ k r. IsType k i r) kind.I16 (past terminal.Int (drop 1 i)) (pick (sees terminal.Int (drop 1 i)) refl)
      where
        pick : (b : Bool) → sees terminal.Int (drop 1 i) ≡ b → IsType kind.I16 i (cond b (drop 1 (drop 1 i)) (drop 1 i))
        pick true seen = inr (drop 1 i, takes_it terminal.Short i refl e, takes terminal.Int (drop 1 i) refl seen)
        pick false seen = let x = takes_it terminal.Short i refl e in inl (inl (x.0, ap word_kind x.1, x.2))

    pick : (m : Terminal) → next i ≡ m → Yields (λ k r. IsType k i r) (type_by m i)
    pick terminal.Unsigned e = unsigned_sound i (drop 1 i) (takes_it terminal.Unsigned i refl e)
    pick terminal.Short e = short e
    pick terminal.Long e =
        yields_pure (λ k r. IsType k i r) kind.I64 (past terminal.Int (past terminal.Long (drop 1 i)))
        (inr (drop 1 i, takes_it terminal.Long i refl e, (past terminal.Long (drop 1 i), may terminal.Long (drop 1 i) refl, may terminal.Int (past terminal.Long (drop 1 i)) refl)))
    pick _ e = weaker (one_sound i) (λ k r h. inl h)
