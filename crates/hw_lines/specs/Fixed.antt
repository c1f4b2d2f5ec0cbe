-- Expressions of numbers alone are computed before anything is printed.
use Rattle.std.specs.Prelude.{ℕ, ◌-◌, ◌*◌, ◌^◌, Bool, true, ◌&&◌, Option, Some, None, nat_lt, if◌then◌else◌}
use Rattle.tapa_base.specs.declared.kind.Kind.{Kind}
use Rattle.tapa_base.specs.declared.op.Op.{Op}
use Rattle.tapa_base.specs.declared.op.Op.TheVariants.{Div, Rem, Shl, Shr}
use Rattle.tapa_base.specs.Kinds.{bits_of, values_of, converted}
use Rattle.tapa_base.specs.Operators.{applied}
use Rattle.kahn_model.specs.Trace.{at_zero}
use Rattle.task_fsm.specs.Machine.{Expression, Number, Reg, CellOf, Converted, Applied, Flipped, Inverse, Both, Either, Chosen}

abbrev pub only_if : Bool → ℕ → Option ℕ
only_if b n = if b then Some n else None

abbrev pub on_one : Option ℕ → (ℕ → Option ℕ) → Option ℕ
on_one None f = None
on_one (Some a) f = f a

-- both, or none
abbrev pub on_two : Option ℕ → Option ℕ → (ℕ → ℕ → Option ℕ) → Option ℕ
on_two None y f = None
on_two (Some a) None f = None
on_two (Some a) (Some b) f = f a b

abbrev pub on_three : Option ℕ → Option ℕ → Option ℕ → (ℕ → ℕ → ℕ → Option ℕ) → Option ℕ
on_three None y z f = None
on_three (Some a) y z f = on_two y z (f a)

-- whether an operator has a result: a divisor is not 0, and a count of a shift may be any
abbrev pub can_apply : Op → Kind → ℕ → Bool
can_apply Div k b = nat_lt 0 b && nat_lt b (values_of k)
can_apply Rem k b = nat_lt 0 b && nat_lt b (values_of k)
can_apply Shl k b = true
can_apply Shr k b = true
can_apply o k b = nat_lt b (values_of k)

-- the value of an expression of numbers alone, whose parts have their kinds
abbrev pub fixed : Expression → Option ℕ
fixed (Number k n) = Some n
fixed (Reg x) = None
fixed (CellOf a i) = None
fixed (Converted source target e) = on_one (fixed e) (λ v. only_if (nat_lt v (values_of source)) (converted source target v))
fixed (Applied op k l r) = on_two (fixed l) (fixed r) (λ a b. only_if (nat_lt a (values_of k) && can_apply op k b) (applied op k a b))
fixed (Flipped k e) = on_one (fixed e) (λ v. only_if (nat_lt v (values_of k)) (2 ^ bits_of k - 1 - v))
fixed (Inverse e) = on_one (fixed e) (λ v. only_if (nat_lt v 2) (1 - v))
fixed (Both l r) = on_two (fixed l) (fixed r) (λ a b. only_if (nat_lt a 2 && nat_lt b 2) (a * b))
fixed (Either l r) = on_two (fixed l) (fixed r) (λ a b. only_if (nat_lt a 2 && nat_lt b 2) (1 - (1 - a) * (1 - b)))
fixed (Chosen e a b) = on_three (fixed e) (fixed a) (fixed b) (λ v x y. Some (at_zero v y x))
