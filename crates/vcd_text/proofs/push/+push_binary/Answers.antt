use Rattle.std.proofs.Common.{◌≡◌, ◌+◌, ◌/◌, ◌%◌, ◌∷◌, ◌++◌, [], arith}
use Rattle.vcd_text.specs.Dump.{binary}
use Rattle.vcd_text.proofs.Pushes.{pushed_bit, pushed_bits}
use Rattle.vcd_text.proofs.push.+push_binary.Goals as goal
use Rattle.vcd_text.proofs.push.+push_binary.Goals.{then-number-ge2+in_ok-push_binary, else-number-ge2}

pub returns : goal.returns
returns t c =
    let last : c.push.new.self.items ≡ c.if-number-ge2.text.items ++ (48 + c.args.number % 2) ∷ [] = c.in_ok-push.ensures.items in
    elim c.if-number-ge2.branch [
      | then-number-ge2+in_ok-push_binary w ↦
          let front : w.push_binary.new.text.items ≡ c.args.text.now.items ++ binary (c.args.number / 2) = w.in_ok-push_binary.ensures in
          let mid : c.if-number-ge2.text.items ≡ c.args.text.now.items ++ binary (c.args.number / 2) = cc (front, w.text-is) in
          pushed_bits c.args.text.now.items c.if-number-ge2.text.items c.push.new.self.items c.args.number w.if-number-ge2.true mid last
      | else-number-ge2 w ↦
          let all : c.push.new.self.items ≡ c.args.text.now.items ++ (48 + c.args.number % 2) ∷ [] = cc (last, w.text-is) in
          pushed_bit c.args.text.now.items c.push.new.self.items c.args.number (omega (arith, w.if-number-ge2.false)) all
    ]
