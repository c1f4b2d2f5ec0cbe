-- The readers of types are steady.
use Rattle.tapa_base.specs.declared.kind.Kind.{Kind}
use Rattle.std.proofs.Common.{◌≡◌, [], ◌∷◌, inl, inr, true, Some, refl, ap, ◌∙◌}
use Rattle.tapa_base.specs.declared.kind.Kind.TheVariants as kind
use Rattle.tapa_base.specs.Spans.{◌⨾◌, ◌∣◌, Nothing}
use Rattle.tapa_syntax.specs.declared.terminal.Terminal.{Terminal}
use Rattle.tapa_syntax.specs.declared.terminal.Terminal.TheVariants as terminal
use Rattle.tapa_syntax.specs.Grammar.{Part, Takes, May, MeansTree, sized_kind, word_kind, IsOne, IsType}
use Rattle.tapa_parse_expression.specs.Readers.{Reader, next, skip, expect, eat, known, pure, ◌>>◌, ◌>>=◌}
use Rattle.tapa_parse_expression.specs.Reading.{sized, one_kind, one, unsigned_by, unsigned, type_by, type_name}
use Rattle.tapa_parse_expression.proofs.Parts.{Symbols}
use Rattle.tapa_parse_expression.proofs.SoundTypes.{is_word}
use Rattle.tapa_parse_expression.proofs.CompleteTypes.{one_word as first_word}
use Rattle.tapa_syntax.specs.Symbols.{Symbol}
use Rattle.tapa_parse_expression.proofs.Fronts.{Steady, Full, Any, full_of, steady_map, steady_pure, steady_then, steady_value, steady_by, steady_sees, steady_expect, steady_means, steady_skips, steady_eat}

steady_sized : (i : Symbols) → Steady (Any (MeansTree sized_kind)) sized i
unfolding sized
steady_sized i = steady_means sized_kind terminal.Int8 i refl kind.I8 refl

pub steady_one : (i : Symbols) → Steady (Any IsOne) one i
unfolding one
steady_one i =
    steady_sees terminal.Std (skip >> expect terminal.Scope >> sized) (λ k. (known (one_kind (next k)) >>= (λ a. skip >> pure a)) k) i
    (λ e. steady_map ((Takes terminal.Std ⨾ Takes terminal.Scope) ⨾ Any (MeansTree sized_kind)) (Any IsOne) (λ j k h. (h.2.0, inr (inr (h.1.0, h.1.1, (h.0, h.1.2, h.2.1)))))
    (steady_then tt (steady_then tt (steady_skips terminal.Std i refl e) (λ _ j. steady_expect terminal.Scope j refl)) (λ _ j. steady_sized j)))
    (λ e. steady_map (Any (MeansTree one_kind)) (Any IsOne) (λ j k h. (h.0, is_word h.0 j k h.1)) (steady_means one_kind terminal.Int i refl kind.I32 refl))

pub full_one : Full (Any IsOne)
full_one = full_of (Any IsOne) one (steady_one [])

-- what stands behind `unsigned` in a type
abbrev IsUnsigned : Part
IsUnsigned = May terminal.Int ∣ (Takes terminal.Short ⨾ May terminal.Int) ∣ ((Takes terminal.Long ⨾ May terminal.Long) ⨾ May terminal.Int)

steady_unsigned : (i : Symbols) → Steady IsUnsigned unsigned i
unfolding unsigned
steady_unsigned i = steady_by unsigned_by i (pick (next i) refl)
  where
    pick : (m : Terminal) → next i ≡ m → Steady IsUnsigned (unsigned_by m) i
    pick terminal.Short e = steady_map (Takes terminal.Short ⨾ May terminal.Int) IsUnsigned (λ j k h. inr (inl h)) (steady_value (λ _. kind.U16) (steady_then tt (steady_skips terminal.Short i refl e) (λ _ j. steady_eat terminal.Int j refl)))
    pick terminal.Long e =
        steady_map ((Takes terminal.Long ⨾ May terminal.Long) ⨾ May terminal.Int) IsUnsigned (λ j k h. inr (inr h))
        (steady_value (λ _. kind.U64) (steady_then true (steady_then tt (steady_skips terminal.Long i refl e) (λ _ j. steady_eat terminal.Long j refl)) (λ _ j. steady_eat terminal.Int j refl)))
    pick _ e = steady_map (May terminal.Int) IsUnsigned (λ j k h. inl h) (steady_value (λ _. kind.U32) (steady_eat terminal.Int i refl))

one_word : (m : Terminal) (k : Kind) (i j r : Symbols) → word_kind m ≡ Some k → Takes m i j → j ≡ r → Any IsType i r
one_word m k i j r e h is = (k, inl (inl (h.0, ap word_kind h.1 ∙ e, h.2 ∙ ap (λ l. h.0 ∷ l) is)))

unsigned_type : (i j r : Symbols) → Takes terminal.Unsigned i j → IsUnsigned j r → Any IsType i r
unsigned_type i j r first (inl (inl int)) = (kind.U32, inr (j, first, int))
unsigned_type i j r first (inl (inr is)) = one_word terminal.Unsigned kind.U32 i j r refl first is
unsigned_type i j r first (inr (inl h)) = (kind.U16, inr (j, first, h))
unsigned_type i j r first (inr (inr (b, (a, long, again), int))) = (kind.U64, inr (j, first, (a, long, (b, again, int))))

short_type : (i j r : Symbols) → Takes terminal.Short i j → May terminal.Int j r → Any IsType i r
short_type i j r first (inl int) = (kind.I16, inr (j, first, int))
short_type i j r first (inr is) = one_word terminal.Short kind.I16 i j r refl first is

pub steady_type : (i : Symbols) → Steady (Any IsType) type_name i
unfolding type_name
steady_type i = steady_by type_by i (pick (next i) refl)
  where
    pick : (m : Terminal) → next i ≡ m → Steady (Any IsType) (type_by m) i
    pick terminal.Unsigned e =
        steady_map (Takes terminal.Unsigned ⨾ IsUnsigned) (Any IsType) (λ j k h. unsigned_type j h.0 k h.1 h.2) (steady_then tt (steady_skips terminal.Unsigned i refl e) (λ _ j. steady_unsigned j))
    pick terminal.Short e =
        steady_map (Takes terminal.Short ⨾ May terminal.Int) (Any IsType) (λ j k h. short_type j h.0 k h.1 h.2) (steady_value (λ _. kind.I16) (steady_then tt (steady_skips terminal.Short i refl e) (λ _ j. steady_eat terminal.Int j refl)))
    pick terminal.Long e =
        steady_map ((Takes terminal.Long ⨾ May terminal.Long) ⨾ May terminal.Int) (Any IsType) (λ j k h. (kind.I64, inr (h.1.0, h.1.1, (h.0, h.1.2, h.2))))
        (steady_value (λ _. kind.I64) (steady_then true (steady_then tt (steady_skips terminal.Long i refl e) (λ _ j. steady_eat terminal.Long j refl)) (λ _ j. steady_eat terminal.Int j refl)))
    pick _ e = steady_map (Any IsOne) (Any IsType) (λ j k h. (h.0, inl h.1)) (steady_one i)

pub full_type : Full (Any IsType)
full_type = full_of (Any IsType) type_name (steady_type [])

-- ---- behind a type's first word, which is not `std`

abbrev pub words_behind : Terminal → Kind → Reader Kind
words_behind terminal.Unsigned k = unsigned
words_behind terminal.Short k = eat terminal.Int >> pure kind.I16
words_behind terminal.Long k = eat terminal.Long >> eat terminal.Int >> pure kind.I64
words_behind _ k = pure k

pub words_read : (y : Symbol) (k : Kind) (s : Symbols) → one_kind y.terminal ≡ Some k → type_name (y ∷ s) ≡ words_behind y.terminal k s
unfolding type_name
words_read y k s e = pick y.terminal refl e
  where
    pick : (m : Terminal) → y.terminal ≡ m → one_kind m ≡ Some k → type_by m (y ∷ s) ≡ words_behind m k s
    pick terminal.Unsigned is e = refl
    pick terminal.Short is e = refl
    pick terminal.Long is e = refl
    pick _ is e = first_word k y s (ap one_kind is ∙ e)

pub steady_words : (y : Symbol) (k : Kind) (s : Symbols) → one_kind y.terminal ≡ Some k → Steady (λ j r. Any IsType (y ∷ j) r) (words_behind y.terminal k) s
steady_words y k s e = pick y.terminal refl e
  where
    pick : (m : Terminal) → y.terminal ≡ m → one_kind m ≡ Some k → Steady (λ j r. Any IsType (y ∷ j) r) (words_behind m k) s
    pick terminal.Unsigned is e = steady_map IsUnsigned (λ j r. Any IsType (y ∷ j) r) (λ j r h. unsigned_type (y ∷ j) j r (y, is, refl) h) (steady_unsigned s)
    pick terminal.Short is e = steady_map (May terminal.Int) (λ j r. Any IsType (y ∷ j) r) (λ j r h. short_type (y ∷ j) j r (y, is, refl) h) (steady_value (λ _. kind.I16) (steady_eat terminal.Int s refl))
    pick terminal.Long is e =
        steady_map (May terminal.Long ⨾ May terminal.Int) (λ j r. Any IsType (y ∷ j) r) (λ j r h. (kind.I64, inr (j, (y, is, refl), h)))
        (steady_value (λ _. kind.I64) (steady_then true (steady_eat terminal.Long s refl) (λ _ j. steady_eat terminal.Int j refl)))
    pick _ is e = steady_map Nothing (λ j r. Any IsType (y ∷ j) r) (λ j r h. (k, inl (is_word k (y ∷ j) r (y, ap one_kind is ∙ e, ap (λ l. y ∷ l) h)))) (steady_pure k s)
