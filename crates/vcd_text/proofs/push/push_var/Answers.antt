use Rattle.std.proofs.Common.{◌≡◌, ◌++◌, ◌∷◌, [], ◌∙◌, ℕ, List, ap}
use Rattle.std.specs.Prelude.{codes, decimal}
use Rattle.vcd_text.specs.Dump.{identifier, net_type}
use Rattle.vcd_text.proofs.Pushes.{both_behind}
use Rattle.vcd_text.proofs.push.push_var.Goals as goal

pub returns : goal.returns
returns c =
    let width : c.push_decimal.new.text.items ≡ c.push_type.new.text.items ++ decimal c.args.bits = c.in_ok-push_decimal.ensures ∙ ap (λ (n : ℕ). c.push_type.new.text.items ++ decimal n) c.from.ensures in
    let a8 : List ℕ = codes " $end\n" in
    let a7 : List ℕ = c.args.name.now ++ codes " $end\n" in
    let a6 : List ℕ = 32 ∷ (c.args.name.now ++ codes " $end\n") in
    let a5 : List ℕ = identifier c.args.number ++ 32 ∷ (c.args.name.now ++ codes " $end\n") in
    let a4 : List ℕ = 32 ∷ (identifier c.args.number ++ 32 ∷ (c.args.name.now ++ codes " $end\n")) in
    let a3 : List ℕ = decimal c.args.bits ++ 32 ∷ (identifier c.args.number ++ 32 ∷ (c.args.name.now ++ codes " $end\n")) in
    let a2 : List ℕ = net_type c.args.is_reg ++ (decimal c.args.bits ++ 32 ∷ (identifier c.args.number ++ 32 ∷ (c.args.name.now ++ codes " $end\n"))) in
    both_behind c.args.text.now.items c.extend_from_slice.new.self.items c.extend_from_slice-3.new.self.items (codes "$var ") a2 c.in_ok-extend_from_slice.ensures.items
    (both_behind c.extend_from_slice.new.self.items c.push_type.new.text.items c.extend_from_slice-3.new.self.items (net_type c.args.is_reg) a3 c.in_ok-push_type.ensures
    (both_behind c.push_type.new.text.items c.push_decimal.new.text.items c.extend_from_slice-3.new.self.items (decimal c.args.bits) a4 width
    (both_behind c.push_decimal.new.text.items c.push.new.self.items c.extend_from_slice-3.new.self.items (32 ∷ []) a5 c.in_ok-push.ensures.items
    (both_behind c.push.new.self.items c.push_identifier.new.text.items c.extend_from_slice-3.new.self.items (identifier c.args.number) a6 c.in_ok-push_identifier.ensures
    (both_behind c.push_identifier.new.text.items c.push-2.new.self.items c.extend_from_slice-3.new.self.items (32 ∷ []) a7 c.in_ok-push-2.ensures.items
    (both_behind c.push-2.new.self.items c.extend_from_slice-2.new.self.items c.extend_from_slice-3.new.self.items c.args.name.now a8 c.in_ok-extend_from_slice-2.ensures.items c.in_ok-extend_from_slice-3.ensures.items))))))
