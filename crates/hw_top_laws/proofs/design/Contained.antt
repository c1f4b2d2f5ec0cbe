-- Each module of a channel but the outermost stands in another of them.
use Rattle.std.proofs.Common.{◌≡◌, ℕ, ◌/◌, ◌%◌, Bool, true, false, cond, eqb, List, inl, inr, refl, sym, ap, subst, ◌∙◌, ⊎_elim}
use Rattle.std.specs.Prelude.{◌⊎◌}
use Rattle.vlog_tree.specs.Form.{ModuleTree}
use Rattle.tapa_base.specs.Lists.{Has}
use Rattle.vlog_tree.specs.Table.{Name}
use Rattle.vlog_tree.specs.V6.{module_children}
use Rattle.hw_channel_lines.specs.Names.{channel_name, relay_name}
use Rattle.hw_channel_lines.specs.Texts.{even_tree, odd_tree, row_tree, plain_tree, relayed_tree, AreRelays, One, More, AreModules, Alone, Relayed}
use Rattle.hw_channel_laws.proofs.modules.Relays.{row_name}

abbrev pub StandsIn : List ModuleTree → Name → Type 0
StandsIn ms x = (k : ModuleTree) × Has ms k × Has (module_children k) x

has_half : (bits steps : ℕ) (b : Bool) → Has (module_children (cond b (even_tree bits steps (steps / 2)) (odd_tree bits steps (steps / 2)))) (relay_name bits (steps / 2))
unfolding module_children
has_half bits steps true = inl refl
has_half bits steps false = inl refl

relays_in : (bits steps : ℕ) (xs : List ModuleTree) → AreRelays bits steps xs → (m : ModuleTree) → Has xs m → (m.name ≡ relay_name bits steps) ⊎ StandsIn xs m.name
relays_in bits steps xs (One k e) m (inl s) = inl (ap (λ (q : ModuleTree). q.name) (sym s) ∙ ap (relay_name bits) (sym e))
relays_in bits steps xs (One k e) m (inr h) = absurd h
relays_in bits steps xs (More k rest l r) m (inl s) = inl (ap (λ (q : ModuleTree). q.name) (sym s) ∙ row_name bits k)
relays_in bits steps xs (More k rest l r) m (inr h) =
    ⊎_elim (λ e. inr (row_tree bits k, inl refl, subst (λ z. Has (module_children (row_tree bits k)) z) (sym e) (has_half bits k (eqb (k % 2) 0)))) (λ t. inr (t.0, inr t.1, t.2)) (relays_in bits (k / 2) rest r m h)

pub stands_in : (bits depth late : ℕ) (ms : List ModuleTree) → AreModules bits depth late ms → (m : ModuleTree) → Has ms m → (m.name ≡ channel_name bits depth late) ⊎ StandsIn ms m.name
unfolding module_children
stands_in bits depth late ms (Alone k e) m (inl s) = inl (ap (λ (q : ModuleTree). q.name) (sym s) ∙ ap (channel_name bits depth) (sym e))
stands_in bits depth late ms (Alone k e) m (inr (inl s)) = inr (plain_tree bits depth, inl refl, inl (ap (λ (q : ModuleTree). q.name) s))
stands_in bits depth late ms (Alone k e) m (inr (inr h)) = absurd h
stands_in bits depth late ms (Relayed k relays l are) m (inl s) = inl (ap (λ (q : ModuleTree). q.name) (sym s))
stands_in bits depth late ms (Relayed k relays l are) m (inr (inl s)) = inr (relayed_tree bits depth k, inl refl, inr (inl (ap (λ (q : ModuleTree). q.name) s)))
stands_in bits depth late ms (Relayed k relays l are) m (inr (inr h)) =
    ⊎_elim (λ e. inr (relayed_tree bits depth k, inl refl, inl (sym e))) (λ t. inr (t.0, inr (inr t.1), t.2)) (relays_in bits k relays are m h)
