-- The modules of a channel.
use Rattle.std.proofs.Common.{◌≡◌, ℕ, ◌+◌, ◌*◌, ◌<◌, List, [], ◌∷◌, ◌++◌, sym, subst, ap, ◌∙◌}
use Rattle.vlog_tree.specs.Form.{ModuleTree}
use Rattle.hw_channel_lines.specs.Texts.{plain_tree, relayed_tree, fifo_tree, AreRelays, AreModules, Alone, Relayed}

-- relays behind the outermost module and its FIFO
pub behind : (bits depth late : ℕ) (two all : List ModuleTree) → two ≡ relayed_tree bits depth late ∷ fifo_tree bits depth (depth + 2 * late) ∷ []
    → (xs : List ModuleTree) × (all ≡ two ++ xs) × AreRelays bits late xs → (relays : List ModuleTree) × (all ≡ relayed_tree bits depth late ∷ fifo_tree bits depth (depth + 2 * late) ∷ relays) × AreRelays bits late relays
behind bits depth late two all e t = (t.0, t.1 ∙ ap (λ k. k ++ t.0) e, t.2)

pub alone_are : (bits depth late : ℕ) (ms : List ModuleTree) → late ≡ 0 → ms ≡ plain_tree bits depth ∷ fifo_tree bits depth depth ∷ [] → AreModules bits depth late ms
alone_are bits depth late ms e f = subst (AreModules bits depth late) (sym f) (Alone late e)

pub relayed_are : (bits depth late : ℕ) (ms : List ModuleTree) → 0 < late → (relays : List ModuleTree) × (ms ≡ relayed_tree bits depth late ∷ fifo_tree bits depth (depth + 2 * late) ∷ relays) × AreRelays bits late relays → AreModules bits depth late ms
relayed_are bits depth late ms l t = subst (AreModules bits depth late) (sym t.1) (Relayed late t.0 l t.2)
