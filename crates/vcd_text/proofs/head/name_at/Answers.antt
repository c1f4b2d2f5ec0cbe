use Rattle.std.proofs.Common.{◌≡◌, ◌∷◌, [], ℕ, List, length, sym, ap, subst, ◌∙◌}
use Rattle.tapa_base.specs.Gaps.{Bytes}
use Rattle.vcd_text.specs.Along.{StopsBefore}
use Rattle.vcd_text.specs.Head.{MayName, IsNameWord}
use Rattle.vcd_text.proofs.Names.{name_before}
use Rattle.vcd_text.proofs.head.name_at.Goals as goal
use Rattle.vcd_text.proofs.head.name_at.Goals.{then-byte-ne32-via-then-byte-ne32, then-byte-ne32-via-else-byte-ne32+then-not-may_name}

head_of : (a b : ℕ) (y z : Bytes) → a ∷ y ≡ b ∷ z → a ≡ b
head_of a b y z e = cc

no_head : (b : ℕ) (z : Bytes) → [] ≡ b ∷ z → ⊥
no_head b z e = cc

pub returns-in_default-clause-stop : goal.returns-in_default-clause-stop
returns-in_default-clause-stop c =
    let rest : Bytes = c.split_at.result.1.now in
    subst (λ (n : ℕ). StopsBefore (IsNameWord c.args.nets.now) c.args.text.now n) (ap (λ (l : Bytes). length l) c.in_default.ensures)
    (name_before c.args.nets.now c.args.text.now c.split_at.result.1.now c.name_length-count.result c.name_length-count.ensures.bytes c.split_at.ensures.back (λ y e ok. absurd (no_head 32 y (sym c.in_default.ensures ∙ e))))

pub returns-then-byte-ne32-clause-stop : goal.returns-then-byte-ne32-clause-stop
returns-then-byte-ne32-clause-stop c =
    name_before c.args.nets.now c.args.text.now c.split_at.result.1.now c.name_length-count.result c.name_length-count.ensures.bytes c.split_at.ensures.back
    (λ y e ok. elim c.then-byte-ne32.branch [
      | then-byte-ne32-via-then-byte-ne32 w ↦ w.if-byte-ne32.true (head_of c.in-Some.byte 32 c.in-Some.behind.now y (sym c.in-Some.ensures ∙ e))
      | then-byte-ne32-via-else-byte-ne32+then-not-may_name w ↦ w.if-not-may_name.ensures (subst (λ (x : List ℕ). MayName c.args.nets.now x) (sym c.split_at.ensures.front) ok)
    ])
