-- Each operator on atoms as drivers of wires, one after another; the last has the result.
use Rattle.std.specs.Prelude.{ℕ, suc, ◌-◌, ◌/◌, ◌%◌, ◌^◌, min, List, [], ◌∷◌, ◌++◌, Bool, true, false, nat_le, nat_lt, bit_xor, ◌==◌, if◌then◌else◌}
use Rattle.tapa_base.specs.declared.kind.Kind.{Kind}
use Rattle.tapa_base.specs.declared.kind.Kind.TheVariants as kind
use Rattle.tapa_base.specs.declared.op.Op.{Op}
use Rattle.tapa_base.specs.declared.op.Op.TheVariants as op
use Rattle.tapa_base.specs.Kinds.{bits_of, is_signed}
use Rattle.vlog_tree.specs.declared.tree.Atom.{Atom}
use Rattle.vlog_tree.specs.declared.tree.Atom.TheVariants.{Net, Part, Literal}
use Rattle.vlog_tree.specs.declared.tree.BinaryOp.{BinaryOp}
use Rattle.vlog_tree.specs.declared.tree.BinaryOp.TheVariants.{Plus, Minus, Times, Divide, Remainder, And, Or, Xor, ShiftLeft, ShiftRight, Equals, Differs, Less}
use Rattle.vlog_tree.specs.declared.tree.Value.{Value}
use Rattle.vlog_tree.specs.declared.tree.Value.TheVariants.{Plain, Invert, Binary, Choose, Concat, Repeat}
use Rattle.vlog_tree.specs.Table.{Name}
use Rattle.hw_build.specs.Elements.{Element, Wire}
use Rattle.hw_build.specs.Trees.{numbered}

-- a width and a driver of it
abbrev pub Driver : Type 0
Driver = ℕ × Value

-- wires with these drivers, numbered from n on
abbrev pub wires_of : Name → ℕ → List Driver → List Element
wires_of front n [] = []
wires_of front n (d ∷ drivers) = Wire d.0 (numbered front n) d.1 ∷ wires_of front (suc n) drivers

abbrev pub wire : Name → ℕ → Atom
wire front n = Net (numbered front n)

-- the first number after those of the drivers
abbrev pub after : ℕ → List Driver → ℕ
after n [] = n
after n (d ∷ drivers) = after (suc n) drivers

-- the last of them, or what there was before where there is none
abbrev pub last_of : Name → ℕ → List Driver → Atom → Atom
last_of front n [] a = a
last_of front n (d ∷ drivers) a = last_of front (suc n) drivers (wire front n)

abbrev pub one : ℕ → Value → List Driver
one w v = (w, v) ∷ []

abbrev pub half : ℕ → ℕ
half w = 2 ^ (w - 1)

-- the lowest bits of an atom that has more
abbrev pub low_bits : ℕ → Atom → Atom
low_bits w (Net x) = Part x (w - 1) 0
low_bits w (Part x high low) = Part x high low
low_bits w (Literal v n) = Literal w (n % 2 ^ w)

-- the highest bit of an atom of w bits
abbrev pub sign_of : ℕ → Atom → Atom
sign_of w (Net x) = Part x (w - 1) (w - 1)
sign_of w (Part x high low) = Part x high high
sign_of w (Literal v n) = Literal 1 ((n / half w) % 2)

-- an extension by zeros, or by copies of the sign
abbrev pub extended : Bool → Name → ℕ → (narrow wide : ℕ) → Atom → List Driver
extended false front n narrow wide a = one wide (Concat (Literal (wide - narrow) 0 ∷ a ∷ []))
extended true front n narrow wide a = (wide - narrow, Repeat (wide - narrow) (sign_of narrow a)) ∷ one wide (Concat (wire front n ∷ a ∷ []))

-- a value of one width as one of another
abbrev pub resized : Bool → Name → ℕ → (old new : ℕ) → Atom → List Driver
resized signed front n old new a =
    if old == new then [] else if nat_lt new old then one new (Plain (low_bits new a)) else extended signed front n old new a

-- whether it is not 0
abbrev pub tested : ℕ → Atom → List Driver
tested w a = if w == 1 then [] else one 1 (Binary a Differs (Literal w 0))

abbrev pub conversion : Name → ℕ → (source target : Kind) → Atom → List Driver
conversion front n source kind.Bool a = tested (bits_of source) a
conversion front n source target a = resized (is_signed source) front n (bits_of source) (bits_of target) a

-- with the sign bit turned, signed numbers are in the order of unsigned ones
abbrev pub turned : ℕ → Atom → List Driver
turned w (Literal v n) = []
turned w a = one w (Binary a Xor (Literal w (half w)))

abbrev pub turned_atom : Name → ℕ → ℕ → Atom → Atom
turned_atom front n w (Literal v m) = Literal v (bit_xor m (half w))
turned_atom front n w a = wire front n

abbrev pub less : Bool → Name → ℕ → ℕ → Atom → Atom → List Driver
less false front n w a b = one 1 (Binary a Less b)
less true front n w a b =
    (turned w a ++ turned w b) ++ one 1 (Binary (turned_atom front n w a) Less (turned_atom front (after n (turned w a)) w b))

-- one more wire after others
abbrev pub then_one : Name → ℕ → List Driver → (Atom → List Driver) → List Driver
then_one front n drivers next = drivers ++ next (last_of front n drivers (Literal 1 0))

abbrev pub not_less : Bool → Name → ℕ → ℕ → Atom → Atom → List Driver
not_less signed front n w a b = then_one front n (less signed front n w a b) (λ c. one 1 (Invert c))

-- the result of a comparison, of one bit, for a kind of w bits
abbrev pub as_wide : Name → ℕ → ℕ → List Driver → List Driver
as_wide front n w drivers = then_one front n drivers (λ c. if w == 1 then [] else one w (Concat (Literal (w - 1) 0 ∷ c ∷ [])))

-- a literal count of a shift is cut to the width
abbrev pub shift_count : ℕ → Atom → Atom
shift_count w (Literal v n) = Literal v (min n w)
shift_count w a = a

-- the bits are turned where the sign is set, shifted, and turned back
abbrev pub shifted_right : Bool → Name → ℕ → ℕ → Atom → Atom → List Driver
shifted_right false front n w a b = one w (Binary a ShiftRight (shift_count w b))
shifted_right true front n w a b =
    (w, Invert a) ∷ (w, Choose (sign_of w a) (wire front n) a) ∷ (w, Binary (wire front (suc n)) ShiftRight (shift_count w b)) ∷ (w, Invert (wire front (suc (suc n))))
    ∷ one w (Choose (sign_of w a) (wire front (suc (suc (suc n)))) (wire front (suc (suc n))))

-- the absolute value of a literal, and whether it is negative
abbrev pub absolute : ℕ → Atom → Atom
absolute w (Literal v n) = Literal v (if nat_lt n (half w) then n else 2 ^ w - n)
absolute w a = a

abbrev pub is_negative : ℕ → Atom → Bool
is_negative w (Literal v n) = nat_le (half w) n
is_negative w a = false

-- division on absolute values, and the sign back: a quotient's by both signs, a remainder's by the dividend's
abbrev pub divided : Bool → BinaryOp → Bool → Name → ℕ → ℕ → Atom → Atom → List Driver
divided false o back front n w a b = one w (Binary a o b)
divided true o back front n w a b =
    (w, Binary (Literal w 0) Minus a) ∷ (w, Choose (sign_of w a) (wire front n) a) ∷ (w, Binary (wire front (suc n)) o (absolute w b))
    ∷ (w, Binary (Literal w 0) Minus (wire front (suc (suc n))))
    ∷ one w (Choose (sign_of w a) (if back then wire front (suc (suc n)) else wire front (suc (suc (suc n)))) (if back then wire front (suc (suc (suc n))) else wire front (suc (suc n))))

-- an operator in a kind, for a result of another kind where it is a comparison
abbrev pub operation : Name → ℕ → Op → (own asked : Kind) → Atom → Atom → List Driver
operation front n op.Add j k a b = one (bits_of j) (Binary a Plus b)
operation front n op.Sub j k a b = one (bits_of j) (Binary a Minus b)
operation front n op.Mul j k a b = one (bits_of j) (Binary a Times b)
operation front n op.Div j k a b = divided (is_signed j) Divide (is_negative (bits_of j) b) front n (bits_of j) a b
operation front n op.Rem j k a b = divided (is_signed j) Remainder false front n (bits_of j) a b
operation front n op.And j k a b = one (bits_of j) (Binary a And b)
operation front n op.Or j k a b = one (bits_of j) (Binary a Or b)
operation front n op.Xor j k a b = one (bits_of j) (Binary a Xor b)
operation front n op.Shl j k a b = one (bits_of j) (Binary a ShiftLeft (shift_count (bits_of j) b))
operation front n op.Shr j k a b = shifted_right (is_signed j) front n (bits_of j) a b
operation front n op.Eq j k a b = as_wide front n (bits_of k) (one 1 (Binary a Equals b))
operation front n op.Ne j k a b = as_wide front n (bits_of k) (one 1 (Binary a Differs b))
operation front n op.Lt j k a b = as_wide front n (bits_of k) (less (is_signed j) front n (bits_of j) a b)
operation front n op.Le j k a b = as_wide front n (bits_of k) (not_less (is_signed j) front n (bits_of j) b a)
operation front n op.Gt j k a b = as_wide front n (bits_of k) (less (is_signed j) front n (bits_of j) b a)
operation front n op.Ge j k a b = as_wide front n (bits_of k) (not_less (is_signed j) front n (bits_of j) a b)
