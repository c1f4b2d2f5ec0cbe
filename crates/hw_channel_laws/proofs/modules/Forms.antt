-- The modules of channels have the form of modules.
use Rattle.std.proofs.Common.{◌≡◌, ℕ, ◌+◌, ◌-◌, ◌*◌, ◌%◌, ◌<◌, ◌≤◌, ◌^◌, Bool, true, false, ◌||◌, cond, eqb, List, [], ◌∷◌, ◌++◌, refl, ap, arith, ⊎_elim}
use Rattle.std.specs.Prelude.{codes, decimal, nat_le}
use Rattle.std.specs.List.{list_all}
use Rattle.std.specs.Int.Count.{count_leading_zeros}
use Rattle.std.proofs.lemmas.Bool.{le-leb, eq-eqb, ne_eqb, cases_eq, and_from as yes_and}
use Rattle.std.proofs.lemmas.Nat.{leading_top}
use Rattle.std.proofs.lemmas.Fmt.{decimal_by_steps}
use Rattle.vlog_tree.specs.Names.{is_name, within, starts_name, goes_on, is_keyword, always_to_default, defparam_to_event, for_to_input, instance_to_not, notif0_to_real, realtime_to_strong0, strong1_to_unsigned, use_to_xor}
use Rattle.vlog_tree.specs.Form.{IsModule}
use Rattle.vlog_tree.specs.Table.{Name}
use Rattle.vlog_tree.specs.Labels.{rst}
use Rattle.vlog_module_laws.proofs.Labelled.{early_name}
use Rattle.hw_build.specs.Elements.{Element, Instance, built}
use Rattle.hw_build.specs.Forms.{is_element}
use Rattle.hw_build.proofs.Forms.{built_form, all_append, built_form as form_of}
use Rattle.hw_channel_lines.specs.Names.{channel_name, fifo_name, relay_name}
use Rattle.hw_channel_lines.specs.Texts.{step_elements, step_tree, even_elements, even_tree, odd_elements, odd_tree, fifo_elements, fifo_tree, plain_tree, relayed_tree, channel_ports, fifo_connections, relayed_inside}
use Rattle.hw_build.specs.Widths.{bits_for}
use Rattle.tapa_base.proofs.Tests.{middle}

-- names that end in numbers

digit_goes_on : (c : ℕ) → 48 ≤ c → c ≤ 57 → goes_on c ≡ true
unfolding goes_on
digit_goes_on c l h = middle (starts_name c) (within 48 57 c) (eqb c 36) (yes_and (nat_le 48 c) (nat_le c 57) (le-leb 48 c l) (le-leb c 57 h))

number_goes_on : (n : ℕ) → n < 2 ^ 64 → list_all goes_on (decimal n) ≡ true
number_goes_on n h =
    decimal_by_steps (λ k ds. list_all goes_on ds ≡ true)
    (λ k l. yes_and (goes_on (48 + k)) true (digit_goes_on (48 + k) (omega arith) (omega arith)) refl)
    (λ k ds l e. all_append goes_on ds ((48 + k % 10) ∷ []) e (yes_and (goes_on (48 + k % 10)) true (digit_goes_on (48 + k % 10) (omega arith) (omega arith)) refl))
    n h

next_goes_on : (n : ℕ) → n < 2 ^ 64 → list_all goes_on (95 ∷ decimal n) ≡ true
unfolding goes_on starts_name
next_goes_on n h = number_goes_on n h

pub relay_is_name : (bits steps : ℕ) → bits < 2 ^ 64 → steps < 2 ^ 64 → is_name (relay_name bits steps) ≡ true
unfolding relay_name goes_on starts_name
relay_is_name bits steps h k = early_name (codes "relay") (decimal bits ++ 95 ∷ decimal steps) (omega arith) (all_append goes_on (decimal bits) (95 ∷ decimal steps) (number_goes_on bits h) (next_goes_on steps k))

pub fifo_is_name : (bits depth places : ℕ) → bits < 2 ^ 64 → depth < 2 ^ 64 → places < 2 ^ 64 → is_name (fifo_name bits depth places) ≡ true
unfolding fifo_name goes_on starts_name
fifo_is_name bits depth places h k l =
    early_name (codes "fifo") (decimal bits ++ 95 ∷ decimal depth ++ 95 ∷ decimal places) (omega arith)
    (all_append goes_on (decimal bits ++ 95 ∷ decimal depth) (95 ∷ decimal places) (all_append goes_on (decimal bits) (95 ∷ decimal depth) (number_goes_on bits h) (next_goes_on depth k)) (next_goes_on places l))

pub channel_is_name : (bits depth late : ℕ) → bits < 2 ^ 64 → depth < 2 ^ 64 → late < 2 ^ 64 → is_name (channel_name bits depth late) ≡ true
unfolding channel_name goes_on starts_name
channel_is_name bits depth late h k l =
    early_name (codes "channel") (decimal bits ++ 95 ∷ decimal depth ++ 95 ∷ decimal late) (omega arith)
    (all_append goes_on (decimal bits ++ 95 ∷ decimal depth) (95 ∷ decimal late) (all_append goes_on (decimal bits) (95 ∷ decimal depth) (number_goes_on bits h) (next_goes_on depth k)) (next_goes_on late l))

-- elements one after another: but for widths and the names of other modules all is computed

step_forms : (bits : ℕ) → nat_le 1 bits ≡ true → list_all is_element (step_elements bits) ≡ true
unfolding starts_name goes_on is_keyword always_to_default defparam_to_event for_to_input instance_to_not notif0_to_real realtime_to_strong0 strong1_to_unsigned use_to_xor rst
step_forms bits b = rw b refl

even_forms : (bits : ℕ) (half : Name) → nat_le 1 bits ≡ true → is_name half ≡ true → list_all is_element (even_elements bits half) ≡ true
unfolding starts_name goes_on is_keyword always_to_default defparam_to_event for_to_input instance_to_not notif0_to_real realtime_to_strong0 strong1_to_unsigned use_to_xor rst
even_forms bits half b h = rw (b, h) refl

odd_forms : (bits : ℕ) (half step : Name) → nat_le 1 bits ≡ true → is_name half ≡ true → is_name step ≡ true → list_all is_element (odd_elements bits half step) ≡ true
unfolding starts_name goes_on is_keyword always_to_default defparam_to_event for_to_input instance_to_not notif0_to_real realtime_to_strong0 strong1_to_unsigned use_to_xor rst
odd_forms bits half step b h s = rw (b, h, s) refl

fifo_forms : (bits depth places pb cb : ℕ) → nat_le 1 bits ≡ true → nat_le 1 places ≡ true → nat_le 1 pb ≡ true → nat_le 1 cb ≡ true → list_all is_element (fifo_elements bits depth places pb cb) ≡ true
unfolding starts_name goes_on is_keyword always_to_default defparam_to_event for_to_input instance_to_not notif0_to_real realtime_to_strong0 strong1_to_unsigned use_to_xor rst
fifo_forms bits depth places pb cb b n p c = rw (b, n, p, c) refl

plain_forms : (bits : ℕ) (fifo : Name) → nat_le 1 bits ≡ true → is_name fifo ≡ true → list_all is_element (channel_ports bits (Instance fifo (codes "fifo") (fifo_connections (codes "put") (codes "din") (codes "ready")) ∷ [])) ≡ true
unfolding starts_name goes_on is_keyword always_to_default defparam_to_event for_to_input instance_to_not notif0_to_real realtime_to_strong0 strong1_to_unsigned use_to_xor rst
plain_forms bits fifo b f = rw (b, f) refl

relayed_forms : (bits : ℕ) (relay fifo : Name) → nat_le 1 bits ≡ true → is_name relay ≡ true → is_name fifo ≡ true → list_all is_element (channel_ports bits (relayed_inside bits relay fifo)) ≡ true
unfolding starts_name goes_on is_keyword always_to_default defparam_to_event for_to_input instance_to_not notif0_to_real realtime_to_strong0 strong1_to_unsigned use_to_xor rst
relayed_forms bits relay fifo b r f = rw (b, r, f) refl

-- at least one bit is there for a number
pub some_bits : (n : ℕ) → n < 2 ^ 32 → nat_le 1 (bits_for n) ≡ true
unfolding bits_for
some_bits n h =
    ⊎_elim
    (λ e. let w : cond (eqb n 0) 1 (32 - count_leading_zeros 32 n) ≡ 1 = ap (λ b. cond b 1 (32 - count_leading_zeros 32 n)) (eq-eqb n 0 e) in le-leb 1 (cond (eqb n 0) 1 (32 - count_leading_zeros 32 n)) (omega (arith, w)))
    (λ e.
    let w : cond (eqb n 0) 1 (32 - count_leading_zeros 32 n) ≡ 32 - count_leading_zeros 32 n = ap (λ b. cond b 1 (32 - count_leading_zeros 32 n)) (ne_eqb n 0 e) in
    let pos : 0 < n = omega (arith, e) in
    let t = leading_top 32 n pos h in
    let k = t.1 in
    le-leb 1 (cond (eqb n 0) 1 (32 - count_leading_zeros 32 n)) (omega (arith, w, k)))
    (cases_eq n 0)

pub step_form : (bits : ℕ) → 2 ≤ bits → bits < 2 ^ 32 → IsModule (step_tree bits)
step_form bits h k = form_of (relay_name bits 1) (step_elements bits) (relay_is_name bits 1 (omega arith) (omega arith)) (step_forms bits (le-leb 1 bits (omega arith)))

pub even_form : (bits steps half : ℕ) → 2 ≤ bits → bits < 2 ^ 32 → steps < 2 ^ 32 → half < 2 ^ 32 → IsModule (even_tree bits steps half)
even_form bits steps half h k l m =
    form_of (relay_name bits steps) (even_elements bits (relay_name bits half)) (relay_is_name bits steps (omega arith) (omega arith))
    (even_forms bits (relay_name bits half) (le-leb 1 bits (omega arith)) (relay_is_name bits half (omega arith) (omega arith)))

pub odd_form : (bits steps half : ℕ) → 2 ≤ bits → bits < 2 ^ 32 → steps < 2 ^ 32 → half < 2 ^ 32 → IsModule (odd_tree bits steps half)
odd_form bits steps half h k l m =
    form_of (relay_name bits steps) (odd_elements bits (relay_name bits half) (relay_name bits 1)) (relay_is_name bits steps (omega arith) (omega arith))
    (odd_forms bits (relay_name bits half) (relay_name bits 1) (le-leb 1 bits (omega arith)) (relay_is_name bits half (omega arith) (omega arith)) (relay_is_name bits 1 (omega arith) (omega arith)))

pub fifo_form : (bits depth places : ℕ) → 2 ≤ bits → bits < 2 ^ 32 → depth < 2 ^ 32 → places < 2 ^ 32 → 0 < places → IsModule (fifo_tree bits depth places)
fifo_form bits depth places h k l m some =
    form_of (fifo_name bits depth places) (fifo_elements bits depth places (bits_for (places - 1)) (bits_for places)) (fifo_is_name bits depth places (omega arith) (omega arith) (omega arith))
    (fifo_forms bits depth places (bits_for (places - 1)) (bits_for places) (le-leb 1 bits (omega arith)) (le-leb 1 places (omega arith)) (some_bits (places - 1) (omega arith)) (some_bits places m))

pub plain_form : (bits depth : ℕ) → 2 ≤ bits → bits < 2 ^ 32 → depth < 2 ^ 32 → IsModule (plain_tree bits depth)
plain_form bits depth h k l =
    form_of (channel_name bits depth 0) (channel_ports bits (Instance (fifo_name bits depth depth) (codes "fifo") (fifo_connections (codes "put") (codes "din") (codes "ready")) ∷ []))
    (channel_is_name bits depth 0 (omega arith) (omega arith) (omega arith)) (plain_forms bits (fifo_name bits depth depth) (le-leb 1 bits (omega arith)) (fifo_is_name bits depth depth (omega arith) (omega arith) (omega arith)))

pub relayed_form : (bits depth late : ℕ) → 2 ≤ bits → bits < 2 ^ 32 → depth ≤ 4096 → late ≤ 1000000 → IsModule (relayed_tree bits depth late)
relayed_form bits depth late h k l m =
    form_of (channel_name bits depth late) (channel_ports bits (relayed_inside bits (relay_name bits late) (fifo_name bits depth (depth + 2 * late)))) (channel_is_name bits depth late (omega arith) (omega arith) (omega arith))
    (relayed_forms bits (relay_name bits late) (fifo_name bits depth (depth + 2 * late)) (le-leb 1 bits (omega arith)) (relay_is_name bits late (omega arith) (omega arith))
    (fifo_is_name bits depth (depth + 2 * late) (omega arith) (omega arith) (omega arith)))
