use Rattle.std.proofs.Common.{◌≡◌, ◌++◌, ◌∷◌, [], ℕ, List, sym, ap, subst, ◌∙◌}
use Rattle.std.specs.Prelude.{Vec}
use Rattle.std.specs.declared.alloc.Global.{Global}
use Rattle.tapa_base.specs.declared.shape.Port.{Port}
use Rattle.vcd_text.specs.Head.{IsFree}
use Rattle.vcd_text.specs.Table.{AreNamed}
use Rattle.vcd_text.proofs.Tables.{named_more}
use Rattle.vcd_text.proofs.table.NetTable.with.Goals as goal

pub invariant_of-result : goal.invariant_of-result
invariant_of-result c =
    let key_is : c.in_ok-key.key.items ≡ c.args.name.now = c.in_ok-key.ensures.items_if_clones_equal (λ x y e. e) in
    let name_is : c.new.result ≡ c.args.name.now = c.new.ensures ∙ c.in_ok-text.ensures.items_if_clones_equal (λ x y e. e) in
    let free : IsFree c.self.inside.nets.items c.new.result = subst (λ (x : List ℕ). IsFree c.self.inside.nets.items x) (sym name_is) (subst (λ (l : List Port). IsFree l c.args.name.now) (sym c.self.view_is) c.requires.free) in
    subst (λ (l : List Port). AreNamed l c.insert.new.self.keys) (sym c.in_ok-push.ensures.items)
    (subst (λ (ks : List (Vec ℕ Global)). AreNamed (c.self.inside.nets.items ++ record { name = c.new.result; bits = c.args.bits } ∷ []) ks) (sym c.in_ok-insert.ensures.keys)
    (named_more c.self.inside.nets.items c.self.inside.names.keys c.in_ok-key.key (record { name = c.new.result; bits = c.args.bits }) c.self.invariant (key_is ∙ sym name_is) free))

pub returns : goal.returns
returns c =
    let name_is : c.new.result ≡ c.args.name.now = c.new.ensures ∙ c.in_ok-text.ensures.items_if_clones_equal (λ x y e. e) in
    c.in_ok-push.ensures.items ∙ ap (λ (l : List Port). l ++ record { name = c.new.result; bits = c.args.bits } ∷ []) c.self.view_is
    ∙ ap (λ (x : List ℕ). c.args.self ++ record { name = x; bits = c.args.bits } ∷ []) name_is
