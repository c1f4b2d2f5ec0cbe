-- The modules of channels.
use Rattle.std.proofs.Common.{◌≡◌, ℕ, zero, suc, ◌+◌, ◌*◌, ◌/◌, ◌<◌, ◌≤◌, List, [], ◌∷◌, cond, Some, None, sym, ap, ◌∙◌, arith, add-one}
use Rattle.std.specs.Prelude.{slice_get, slice_index}
use Rattle.std.proofs.lemmas.Bool.{eq-eqb, ne_eqb}
use Rattle.tapa_syntax.specs.declared.program.Program.{Program}
use Rattle.tapa_syntax.specs.declared.program.Stream.{Stream}
use Rattle.vlog_tree.specs.Form.{ModuleTree}
use Rattle.hw_channel_lines.specs.Texts.{step_tree, row_tree, plain_tree, relayed_tree, fifo_tree, AreRelays, One, More, AreModules, Alone, Relayed}
use Rattle.hw_top_lines.specs.Channels.{relays_below, relays, channel_modules, with_new}
use Rattle.hw_top_lines.specs.Designs.{stream_modules, channels_before}
use Rattle.hw_top_lines.specs.Texts.{token_bits}

-- relays of so many steps are those on so many levels
half_less : (steps levels : ℕ) → 1 < steps → steps ≤ suc levels → steps / 2 ≤ levels
half_less steps levels l h = omega (arith, l, h)

relays_are : (levels bits steps : ℕ) (xs : List ModuleTree) → steps ≤ levels → AreRelays bits steps xs → xs ≡ relays_below levels bits steps
relays_are zero bits steps xs l (One k e) = absurd (omega (arith, l, e))
relays_are zero bits steps xs l (More k rest h are) = absurd (omega (arith, l, h))
relays_are (suc levels) bits steps xs l (One k e) = sym (ap (λ b. cond b (step_tree bits ∷ []) (row_tree bits k ∷ relays_below levels bits (k / 2))) (eq-eqb k 1 e))
relays_are (suc levels) bits steps xs l (More k rest h are) =
    ap (λ ys. row_tree bits k ∷ ys) (relays_are levels bits (k / 2) rest (half_less k levels h l) are)
    ∙ sym (ap (λ b. cond b (step_tree bits ∷ []) (row_tree bits k ∷ relays_below levels bits (k / 2))) (ne_eqb k 1 (λ e. omega (arith, h, e))))

-- and a channel has no other modules
pub modules_are : (bits depth late : ℕ) (ms : List ModuleTree) → AreModules bits depth late ms → ms ≡ channel_modules bits depth late
modules_are bits depth late ms (Alone k e) =
    sym (ap (λ b. cond b (plain_tree bits depth ∷ fifo_tree bits depth depth ∷ []) (relayed_tree bits depth k ∷ fifo_tree bits depth (depth + 2 * k) ∷ relays bits k)) (eq-eqb k 0 e))
modules_are bits depth late ms (Relayed k xs h are) =
    ap (λ rs. relayed_tree bits depth k ∷ fifo_tree bits depth (depth + 2 * k) ∷ rs) (relays_are k bits k xs (omega arith) are)
    ∙ sym (ap (λ b. cond b (plain_tree bits depth ∷ fifo_tree bits depth depth ∷ []) (relayed_tree bits depth k ∷ fifo_tree bits depth (depth + 2 * k) ∷ relays bits k)) (ne_eqb k 0 (λ e. omega (arith, h, e))))

-- ---- one stream after another

pub stream_grows : (program : Program) (added : List ℕ) (s late : ℕ) (ms new all : List ModuleTree) (r : Stream) → slice_get program.streams.items s ≡ Some r → late ≡ slice_index added s
    → new ≡ channel_modules (token_bits r.kind) r.depth late → all ≡ with_new ms new → all ≡ with_new ms (stream_modules (slice_index added s) (slice_get program.streams.items s))
stream_grows program added s late ms new all r at is made grown =
    grown ∙ ap (with_new ms) (made ∙ ap (channel_modules (token_bits r.kind) r.depth) is) ∙ sym (ap (λ o. with_new ms (stream_modules (slice_index added s) o)) at)

pub no_stream_stays : (program : Program) (added : List ℕ) (s : ℕ) (ms : List ModuleTree) → slice_get program.streams.items s ≡ None → ms ≡ with_new ms (stream_modules (slice_index added s) (slice_get program.streams.items s))
no_stream_stays program added s ms at = sym (ap (λ o. with_new ms (stream_modules (slice_index added s) o)) at)

pub channels_grow : (program : Program) (added : List ℕ) (s : ℕ) (ms all : List ModuleTree) → ms ≡ channels_before program added s
    → all ≡ with_new ms (stream_modules (slice_index added s) (slice_get program.streams.items s)) → all ≡ channels_before program added (s + 1)
channels_grow program added s ms all before grown =
    grown ∙ ap (λ l. with_new l (stream_modules (slice_index added s) (slice_get program.streams.items s))) before ∙ sym (ap (channels_before program added) (add-one s))
