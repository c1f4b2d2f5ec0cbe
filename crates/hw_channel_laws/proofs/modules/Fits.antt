-- The elements of channels' modules fit: names, widths and drivers.
use Rattle.std.proofs.Common.{◌≡◌, ℕ, ◌+◌, ◌-◌, ◌*◌, ◌/◌, ◌%◌, ◌^◌, ◌<◌, ◌≤◌, Bool, true, false, cond, eqb, List, [], ◌∷◌, Some, inl, inr, refl, sym, ap, subst, ◌∙◌, arith, rules, ⊎_elim, map}
use Rattle.std.specs.Prelude.{codes, nat_le}
use Rattle.std.specs.Int.Count.{count_leading_zeros}
use Rattle.std.proofs.lemmas.Bool.{eq-eqb, ne_eqb, cases_eq, le-leb, and_from as yes_and}
use Rattle.vlog_tree.specs.Form.{ModuleTree}
use Rattle.tapa_base.specs.Lists.{Has}
use Rattle.vlog_tree.specs.Table.{Name, clk, ports_of, module_named, is_module_name, module_declared, is_doubled_name}
use Rattle.vlog_tree.specs.Labels.{rst}
use Rattle.vlog_tree.specs.V2.{connection_uses}
use Rattle.vlog_tree.specs.V3.{is_width, is_cell_count}
use Rattle.vlog_tree.specs.V4.{connection_driven}
use Rattle.vlog_module_laws.specs.Larger.{IsRightBeside}
use Rattle.vlog_module_laws.proofs.Larger.{known_by, sound_of}
use Rattle.vlog_tree.specs.Refused.{IsSound}
use Rattle.hw_build.specs.Elements.{Instance}
use Rattle.hw_build.specs.Fitting.{AreFitting}
use Rattle.hw_build.proofs.Right.{built_right}
use Rattle.hw_channel_lines.specs.Names.{channel_name, fifo_name, relay_name}
use Rattle.hw_channel_lines.specs.Texts.{step_elements, even_elements, odd_elements, fifo_elements, channel_ports, relayed_inside, step_tree, even_tree, odd_tree, row_tree, fifo_tree, plain_tree, relayed_tree, AreRelays, One, More, AreModules, Alone, Relayed}
use Rattle.hw_build.specs.Widths.{bits_for}
use Rattle.hw_channel_laws.proofs.modules.Whole.{fits_bits}
use Rattle.hw_channel_laws.proofs.modules.Forms.{some_bits}
use Rattle.hw_channel_laws.proofs.modules.Ranks.{relay_ports, fifo_ports, plain_joined}
use Rattle.hw_channel_laws.proofs.modules.Relays.{row_name}
use Rattle.hw_channel_laws.specs.modules.Rules.{ModulesAreClear}
use Rattle.hw_channel_laws.proofs.modules.Parts.{no_tasks}
use Rattle.hw_channel_laws.proofs.modules.Clear.{outermost, no_loop, first_cut, clocks}
use Rattle.hw_channel_laws.proofs.modules.Together.{AreApart, single, finds, modules_apart, head_of, has_step}

-- ---- each kind of module

module _ (ms : List ModuleTree) (bits : ℕ) (w : is_width bits ≡ true) where
  step_fits : AreFitting ms (step_elements bits)
  unfolding clk rst
  step_fits = record {
    names = refl;
    widths = search rules;
    links = refl;
    blocks = refl;
  }

  even_fits : (half : Name) → ports_of ms half ≡ relay_ports bits → is_module_name ms half ≡ true → AreFitting ms (even_elements bits half)
  unfolding clk rst connection_uses connection_driven
  even_fits half e f = record {
    names = rw (f, e) refl;
    widths = rw e (search rules);
    links = rw e refl;
    blocks = refl;
  }

  odd_fits : (half step : Name) → ports_of ms half ≡ relay_ports bits → is_module_name ms half ≡ true → ports_of ms step ≡ relay_ports bits → is_module_name ms step ≡ true → AreFitting ms (odd_elements bits half step)
  unfolding clk rst connection_uses connection_driven
  odd_fits half step e f g h = record {
    names = rw (f, h, e, g) refl;
    widths = rw (e, g) (search rules);
    links = rw (e, g) refl;
    blocks = refl;
  }

  plain_fits : (fifo : Name) → ports_of ms fifo ≡ fifo_ports bits → is_module_name ms fifo ≡ true → AreFitting ms (channel_ports bits (Instance fifo (codes "fifo") plain_joined ∷ []))
  unfolding clk rst connection_uses connection_driven
  plain_fits fifo e f = record {
    names = rw (f, e) refl;
    widths = rw e (search rules);
    links = rw e refl;
    blocks = refl;
  }

  relayed_fits : (relay fifo : Name) → ports_of ms relay ≡ relay_ports bits → is_module_name ms relay ≡ true → ports_of ms fifo ≡ fifo_ports bits → is_module_name ms fifo ≡ true
      → AreFitting ms (channel_ports bits (relayed_inside bits relay fifo))
  unfolding clk rst connection_uses connection_driven
  relayed_fits relay fifo e f g h = record {
    names = rw (f, h, e, g) refl;
    widths = rw (e, g) (search rules);
    links = rw (e, g) refl;
    blocks = refl;
  }

  -- the numbers of a FIFO fit in their bits
  record NumbersFit (depth places pb cb : ℕ) : Type 0 where
    no_place : 0 < 2 ^ pb
    one_place : 1 < 2 ^ pb
    last : places - 1 < 2 ^ pb
    no_count : 0 < 2 ^ cb
    one_count : 1 < 2 ^ cb
    full : depth < 2 ^ cb

  fifo_fits : (depth places pb cb : ℕ) → is_width pb ≡ true → is_width cb ≡ true → is_cell_count places ≡ true → NumbersFit depth places pb cb → AreFitting ms (fifo_elements bits depth places pb cb)
  unfolding clk rst
  fifo_fits depth places pb cb p c n fits = record {
    names = refl;
    widths = (
      refl,
      (
        w,
        (
          refl,
          (
            p,
            (
              p,
              (
                c,
                (
                  (w, n),
                  (
                    (refl, (refl, tt, (refl, fits.full))),
                    (
                      (refl, (refl, tt, (refl, fits.no_count))),
                      (
                        (refl, refl),
                        (
                          (w, refl),
                          (
                            (refl, (refl, refl)),
                            (
                              (p, (refl, (refl, fits.one_place))),
                              (
                                (refl, (refl, tt, (refl, fits.last))),
                                (
                                  (p, (refl, (refl, fits.no_place), refl)),
                                  (
                                    (p, (refl, (refl, fits.one_place))),
                                    (
                                      (refl, (refl, tt, (refl, fits.last))),
                                      (
                                        (p, (refl, (refl, fits.no_place), refl)),
                                        (
                                          (refl, (refl, refl)),
                                          (
                                            (c, (refl, (refl, fits.one_count))),
                                            (
                                              (c, (refl, (refl, fits.one_count))),
                                              (
                                                (c, (refl, refl, refl)),
                                                (
                                                  (refl, ((refl, fits.no_place), (tt, (refl, (refl, (tt, (tt, tt))))))),
                                                  (
                                                    (refl, ((refl, fits.no_place), (tt, (refl, (refl, (tt, (tt, tt))))))),
                                                    (
                                                      (refl, ((refl, fits.no_count), (tt, (refl, (refl, (tt, (tt, tt))))))),
                                                      (
                                                        (refl, (refl, (tt, tt))),
                                                        tt,
                                                      ),
                                                    ),
                                                  ),
                                                ),
                                              ),
                                            ),
                                          ),
                                        ),
                                      ),
                                    ),
                                  ),
                                ),
                              ),
                            ),
                          ),
                        ),
                      ),
                    ),
                  ),
                ),
              ),
            ),
          ),
        ),
      ),
    );
    links = refl;
    blocks = refl;
  }

-- ---- the modules of a channel are right together

width_of : (n : ℕ) → nat_le 1 n ≡ true → n ≤ 128 → is_width n ≡ true
width_of n a b = yes_and (nat_le 1 n) (nat_le n 128) a (le-leb n 128 b)

few_by : (b : Bool) (k : ℕ) → cond b 1 (32 - k) ≤ 32
few_by true k = omega arith
few_by false k = omega arith

bits_few : (n : ℕ) → bits_for n ≤ 32
unfolding bits_for
bits_few n = few_by (eqb n 0) (count_leading_zeros 32 n)

bits_width : (n : ℕ) → n < 2 ^ 32 → is_width (bits_for n) ≡ true
bits_width n h = let f = bits_few n in width_of (bits_for n) (some_bits n h) (omega (arith, f))

two_at_zero : 1 < 2 ^ bits_for 0
unfolding bits_for
two_at_zero = omega arith

two_at : (n : ℕ) → n < 2 ^ 32 → 1 < 2 ^ bits_for n
two_at n h =
    ⊎_elim (λ e. subst (λ k. 1 < 2 ^ bits_for k) (sym e) two_at_zero) (λ e. let f : n < 2 ^ bits_for n = fits_bits n h in let s : 0 < n = omega (arith, e) in omega (arith, f, s)) (cases_eq n 0)

numbers_fit : (ms : List ModuleTree) (bits : ℕ) (w : is_width bits ≡ true) (depth places : ℕ) → 0 < depth → depth ≤ places → places < 2 ^ 32
    → NumbersFit ms bits w depth places (bits_for (places - 1)) (bits_for places)
numbers_fit ms bits w depth places a b c =
    let low : places - 1 < 2 ^ 32 = omega (arith, c) in
    let last : places - 1 < 2 ^ bits_for (places - 1) = fits_bits (places - 1) low in
    let count : places < 2 ^ bits_for places = fits_bits places c in
    let two = two_at (places - 1) low in
    record {
      no_place = omega (arith, last);
      one_place = two;
      last = last;
      no_count = omega (arith, count);
      one_count = omega (arith, count);
      full = omega (arith, count);
    }

module _ (ms : List ModuleTree) (apart : AreApart ms) (bits : ℕ) (w : is_width bits ≡ true) where
  abbrev AreIn : List ModuleTree → Type 0
  AreIn xs = (m : ModuleTree) → Has xs m → Has ms m

  step_right : Has ms (step_tree bits) → IsRightBeside ms (step_tree bits)
  step_right h = built_right ms (relay_name bits 1) (step_elements bits) (step_fits ms bits w) (single ms apart (step_tree bits) h)

  fifo_right : (depth places : ℕ) → 0 < depth → depth ≤ places → places ≤ 1048576 → Has ms (fifo_tree bits depth places) → IsRightBeside ms (fifo_tree bits depth places)
  fifo_right depth places a b c h =
      built_right ms (fifo_name bits depth places) (fifo_elements bits depth places (bits_for (places - 1)) (bits_for places))
      (fifo_fits ms bits w depth places (bits_for (places - 1)) (bits_for places) (bits_width (places - 1) (omega (arith, c))) (bits_width places (omega (arith, c)))
      (yes_and (nat_le 1 places) (nat_le places 1048576) (le-leb 1 places (omega (arith, a, b))) (le-leb places 1048576 c)) (numbers_fit ms bits w depth places a b (omega (arith, c))))
      (single ms apart (fifo_tree bits depth places) h)

  row_right : (k : ℕ) (rest : List ModuleTree) → AreRelays bits (k / 2) rest → AreIn (row_tree bits k ∷ rest) → IsRightBeside ms (row_tree bits k)
  row_right k rest r incl =
      let c = head_of bits (k / 2) rest r in
      let half = relay_name bits (k / 2) in
      let named : module_named ms (relay_name bits (k / 2)) ≡ Some c.0 = ap (module_named ms) (sym c.2) ∙ finds ms apart c.0 (incl c.0 (inr c.1)) in
      let known = known_by ms (relay_name bits (k / 2)) c.0 named in
      let ports : ports_of ms (relay_name bits (k / 2)) ≡ relay_ports bits = known.1 ∙ c.3 in
      let one = known_by ms (relay_name bits 1) (step_tree bits) (finds ms apart (step_tree bits) (incl (step_tree bits) (inr (has_step bits (k / 2) rest r)))) in
      let own : is_doubled_name (map module_declared ms) (relay_name bits k) ≡ false =
      subst (λ x. is_doubled_name (map module_declared ms) x ≡ false) (row_name bits k) (single ms apart (row_tree bits k) (incl (row_tree bits k) (inl refl))) in
      ⊎_elim
      (λ e.
      subst (IsRightBeside ms) (sym (ap (λ b. cond b (even_tree bits k (k / 2)) (odd_tree bits k (k / 2))) (eq-eqb (k % 2) 0 e)))
      (built_right ms (relay_name bits k) (even_elements bits half) (even_fits ms bits w half ports known.0) own))
      (λ e.
      subst (IsRightBeside ms) (sym (ap (λ b. cond b (even_tree bits k (k / 2)) (odd_tree bits k (k / 2))) (ne_eqb (k % 2) 0 e)))
      (built_right ms (relay_name bits k) (odd_elements bits half (relay_name bits 1)) (odd_fits ms bits w half (relay_name bits 1) ports known.0 one.1 one.0) own))
      (cases_eq (k % 2) 0)

  relays_right : (steps : ℕ) (xs : List ModuleTree) → AreRelays bits steps xs → AreIn xs → (m : ModuleTree) → Has xs m → IsRightBeside ms m
  relays_right steps xs (One k e) incl m (inl s) = subst (IsRightBeside ms) s (step_right (incl (step_tree bits) (inl refl)))
  relays_right steps xs (One k e) incl m (inr h) = absurd h
  relays_right steps xs (More k rest l r) incl m (inl s) = subst (IsRightBeside ms) s (row_right k rest r incl)
  relays_right steps xs (More k rest l r) incl m (inr h) = relays_right (k / 2) rest r (λ n i. incl n (inr i)) m h

  modules_right : (depth late : ℕ) (xs : List ModuleTree) → 0 < depth → depth + 2 * late ≤ 1048576 → AreModules bits depth late xs → AreIn xs → (m : ModuleTree) → Has xs m → IsRightBeside ms m
  modules_right depth late xs some few (Alone k e) incl m (inl s) =
      let f = known_by ms (fifo_name bits depth depth) (fifo_tree bits depth depth) (finds ms apart (fifo_tree bits depth depth) (incl (fifo_tree bits depth depth) (inr (inl refl)))) in
      subst (IsRightBeside ms) s
      (built_right ms (channel_name bits depth 0) (channel_ports bits (Instance (fifo_name bits depth depth) (codes "fifo") plain_joined ∷ [])) (plain_fits ms bits w (fifo_name bits depth depth) f.1 f.0)
      (single ms apart (plain_tree bits depth) (incl (plain_tree bits depth) (inl refl))))
  modules_right depth late xs some few (Alone k e) incl m (inr (inl s)) =
      subst (IsRightBeside ms) s (fifo_right depth depth some (omega arith) (omega (arith, few)) (incl (fifo_tree bits depth depth) (inr (inl refl))))
  modules_right depth late xs some few (Alone k e) incl m (inr (inr h)) = absurd h
  modules_right depth late xs some few (Relayed k relays l are) incl m (inl s) =
      let f =
      known_by ms (fifo_name bits depth (depth + 2 * k)) (fifo_tree bits depth (depth + 2 * k)) (finds ms apart (fifo_tree bits depth (depth + 2 * k)) (incl (fifo_tree bits depth (depth + 2 * k)) (inr (inl refl)))) in
      let c = head_of bits k relays are in
      let named : module_named ms (relay_name bits k) ≡ Some c.0 = ap (module_named ms) (sym c.2) ∙ finds ms apart c.0 (incl c.0 (inr (inr c.1))) in
      let known = known_by ms (relay_name bits k) c.0 named in
      subst (IsRightBeside ms) s
      (built_right ms (channel_name bits depth k) (channel_ports bits (relayed_inside bits (relay_name bits k) (fifo_name bits depth (depth + 2 * k))))
      (relayed_fits ms bits w (relay_name bits k) (fifo_name bits depth (depth + 2 * k)) (known.1 ∙ c.3) known.0 f.1 f.0)
      (single ms apart (relayed_tree bits depth k) (incl (relayed_tree bits depth k) (inl refl))))
  modules_right depth late xs some few (Relayed k relays l are) incl m (inr (inl s)) =
      subst (IsRightBeside ms) s (fifo_right depth (depth + 2 * k) some (omega arith) few (incl (fifo_tree bits depth (depth + 2 * k)) (inr (inl refl))))
  modules_right depth late xs some few (Relayed k relays l are) incl m (inr (inr h)) = relays_right k relays are (λ n i. incl n (inr (inr i))) m h

pub sound : (bits depth late : ℕ) (ms : List ModuleTree) → AreModules bits depth late ms → 2 ≤ bits → bits ≤ 65 → 0 < depth → depth + 2 * late ≤ 1048576 → IsSound ms
sound bits depth late ms are a b c d =
    sound_of ms
    (λ m h. modules_right ms (modules_apart bits depth late ms are (omega arith) (omega arith)) bits (width_of bits (le-leb 1 bits (omega arith)) (omega arith)) depth late ms c d are (λ n i. i) m h)

pub clear : ModulesAreClear
clear bits depth late ms are a b c d = record {
  outermost = outermost bits depth late ms are;
  sound = sound bits depth late ms are a b c d;
  loopless = no_loop bits depth late ms are (omega arith) (omega arith);
  registered = first_cut bits depth late ms are (omega arith) (omega arith);
  clocks = clocks bits depth late ms are;
  names = no_tasks bits depth late ms are;
}
