-- The lines of whole channels are the equations of channels.
use Rattle.std.proofs.Common.{◌≡◌, ℕ, zero, suc, ◌+◌, ◌-◌, ◌*◌, ◌^◌, ◌<◌, ◌≤◌, cond, eqb, ltb, ◌&&◌, List, [], ◌∷◌, Some, inl, inr, refl, sym, ap, subst, ◌∙◌, arith, ⊎_elim}
use Rattle.std.specs.Prelude.{codes, slice_get, bit_and}
use Rattle.std.specs.Int.Count.{count_leading_zeros}
use Rattle.std.proofs.lemmas.Nat.{leading_length}
use Rattle.std.proofs.lemmas.Bool.{eq-eqb, ne_eqb, cases_eq, cases_lt, lt-ltb, le-ltb}
use Rattle.tapa_base.specs.Operators.{bit}
use Rattle.vlog_tree.specs.declared.tree.BinaryOp.TheVariants.{And}
use Rattle.vlog_tree.specs.Form.{ModuleTree}
use Rattle.vlog_tree.specs.Labels.{rst}
use Rattle.vlog_tree.specs.Table.{Name}
use Rattle.vlog_tree.specs.Cycle.{Cycle, Path, Runs, module_at}
use Rattle.hw_build.proofs.Meaning.{driven_is}
use Rattle.hw_channel_laws.specs.signals.Signals.{Resets, Signal}
use Rattle.hw_channel_laws.specs.signals.Contract.{MeetsContract}
use Rattle.hw_channel_laws.specs.signals.Fifo.{SizesFit}
use Rattle.hw_channel_laws.proofs.signals.Lines.{bits as bits_are}
use Rattle.hw_channel_laws.proofs.signals.Relays.{delays}
use Rattle.hw_channel_laws.proofs.signals.Laws.{plain, channel}
use Rattle.hw_channel_lines.specs.Names.{fifo_name, relay_name}
use Rattle.hw_channel_lines.specs.Texts.{fifo_tree, plain_tree, relayed_tree, fifo_connections, relay_connections, of_net, two, AreRelays, AreModules, Alone, Relayed}
use Rattle.hw_build.specs.Widths.{bits_for}
use Rattle.hw_channel_laws.specs.modules.Ports.{fifo_ports, relay_ports, channel_ports, AreFoundIn, ActsAsChannel}
use Rattle.hw_channel_laws.proofs.modules.Fifos.{is_fifo, rdy_is, small_bit}
use Rattle.hw_channel_laws.proofs.modules.Relays.{joined, inside, is_relay}

-- a number fits in its bits
pub fits_bits : (n : ℕ) → n < 2 ^ 32 → n < 2 ^ bits_for n
unfolding bits_for
fits_bits n h =
    ⊎_elim
    (λ e. let w : cond (eqb n 0) 1 (32 - count_leading_zeros 32 n) ≡ 1 = ap (λ b. cond b 1 (32 - count_leading_zeros 32 n)) (eq-eqb n 0 e) in
    subst (λ k. n < 2 ^ k) (sym w) (omega arith))
    (λ e.
    let t = leading_length 32 n h in
    let m : 32 - count_leading_zeros 32 n ≡ t.0 = omega (arith, t.1) in
    subst (λ k. n < 2 ^ k) (sym (ap (λ b. cond b 1 (32 - count_leading_zeros 32 n)) (ne_eqb n 0 e) ∙ m)) t.2)
    (cases_eq n 0)

fit : (depth places : ℕ) → 0 < depth → depth ≤ places → places < 2 ^ 32 → SizesFit (record { places = places; place_bits = bits_for (places - 1); count_bits = bits_for places; depth = depth })
fit depth places a b c =
    let before : places - 1 < 2 ^ 32 = omega (arith, c) in
    let p : places - 1 < 2 ^ bits_for (places - 1) = fits_bits (places - 1) before in
    record { some = a; within = b; place_fits = omega (arith, p); count_fits = fits_bits places c }

same_resets : (a b : Signal) → ((n : ℕ) → a n ≡ b n) → Resets b → Resets a
same_resets a b e r = record { first = e 0 ∙ r.first; later = λ n. e (suc n) ∙ r.later n }

both_small : (a b : ℕ) → a < 2 → b < 2 → bit_and a b < 2
both_small a b h k = let e = (bits_are a b h k).both_are in let s = small_bit (eqb a 1 && eqb b 1) in omega (arith, e, s)

at_each : (a : Signal) → a 0 < 2 → ((n : ℕ) → 0 < n → a n < 2) → (n : ℕ) → a n < 2
at_each a z h zero = z
at_each a z h (suc n) = h (suc n) (omega arith)

late_small : (late n x y : ℕ) → x ≡ cond (ltb late n) y 0 → y < 2 → x < 2
late_small late n x y e h =
    ⊎_elim
    (λ l. let f : x ≡ y = e ∙ ap (λ b. cond b y 0) (lt-ltb late n l) in omega (arith, f, h))
    (λ l. let f : x ≡ 0 = e ∙ ap (λ b. cond b y 0) (le-ltb late n l) in omega (arith, f))
    (cases_lt late n)

module _ (all : List ModuleTree) (root : ModuleTree) (nets : ℕ → Path → Cycle) (runs : Runs all root nets) (width depth : ℕ) (some : 0 < depth) (path : Path)
    (reset : Resets (λ n. (nets n path).net rst)) (wr_small : (n : ℕ) → (nets n path).net (codes "wr") < 2) (take_small : (n : ℕ) → (nets n path).net (codes "take") < 2) where
  abbrev here : ℕ → Name → ℕ
  here n x = (nets n path).net x

  abbrev in_fifo : ℕ → Name → ℕ
  in_fifo n x = (nets n (codes "fifo" ∷ path)).net x

  abbrev in_relay : ℕ → Name → ℕ
  in_relay n x = (nets n (codes "relay" ∷ path)).net x

  pub is_plain : AreFoundIn all (plain_tree width depth ∷ fifo_tree width depth depth ∷ []) → module_at all root path ≡ Some (plain_tree width depth) → depth < 2 ^ 32
      → MeetsContract depth 0 (channel_ports (λ n. nets n path))
  unfolding rst
  is_plain found at few =
      let f = runs.each path (plain_tree width depth) at in
      let fifo_at : module_at all root (codes "fifo" ∷ path) ≡ Some (fifo_tree width depth depth) =
      inside all root nets runs path (plain_tree width depth) at (codes "fifo") (fifo_name width depth depth) refl ∙ found (fifo_tree width depth depth) (inr (inl refl)) in
      let fifo_run = runs.each (codes "fifo" ∷ path) (fifo_tree width depth depth) fifo_at in
      let ends : (j : ℕ) (port net : Name) → slice_get (fifo_connections (codes "put") (codes "din") (codes "ready")) j ≡ Some (record { port = port; net = net }) → (n : ℕ) → in_fifo n port ≡ here n net =
      (λ j port net c n. joined all root nets runs path (plain_tree width depth) at 4 j (fifo_name width depth depth) (codes "fifo") (fifo_connections (codes "put") (codes "din") (codes "ready")) refl port net c n) in
      let fifo_reset : Resets (λ n. in_fifo n rst) = same_resets (λ n. in_fifo n rst) (λ n. here n rst) (ends 1 (codes "rst") (codes "rst") refl) reset in
      let ready : (n : ℕ) → here n (codes "rdy") ≡ in_fifo n (codes "rdy") =
      (λ n. driven_is (plain_tree width depth) (λ n. nets n path) f 1 (codes "rdy") (of_net (codes "ready")) refl n ∙ sym (ends 5 (codes "rdy") (codes "ready") refl n)) in
      let ready_small : (n : ℕ) → here n (codes "ready") < 2 =
      (λ n.
      let e = ends 5 (codes "rdy") (codes "ready") refl n in
      let r = rdy_is (fifo_name width depth depth) width depth depth (bits_for (depth - 1)) (bits_for depth) (λ n. nets n (codes "fifo" ∷ path)) fifo_run fifo_reset n in
      let s = small_bit (ltb (in_fifo n (codes "count")) depth) in
      omega (arith, e, r, s)) in
      let put : (n : ℕ) → here n (codes "put") ≡ bit_and (here n (codes "wr")) (here n (codes "ready")) = (λ n. driven_is (plain_tree width depth) (λ n. nets n path) f 3 (codes "put") (two (codes "wr") And (codes "ready")) refl n) in
      let put_small : (n : ℕ) → 0 < n → in_fifo n (codes "put") < 2 =
      (λ n l.
      let e = ends 2 (codes "put") (codes "put") refl n in
      let p = put n in
      let s = both_small (here n (codes "wr")) (here n (codes "ready")) (wr_small n) (ready_small n) in
      omega (arith, e, p, s)) in
      let takes : (n : ℕ) → 0 < n → in_fifo n (codes "take") < 2 = (λ n l. let e = ends 4 (codes "take") (codes "take") refl n in let t = take_small n in omega (arith, e, t)) in
      let fifo = is_fifo (fifo_name width depth depth) width depth depth (bits_for (depth - 1)) (bits_for depth) (λ n. nets n (codes "fifo" ∷ path)) fifo_run fifo_reset takes put_small in
      plain (record { places = depth; place_bits = bits_for (depth - 1); count_bits = bits_for depth; depth = depth }) (fit depth depth some (omega arith) few) (λ n. in_fifo n rst) fifo_reset
      (channel_ports (λ n. nets n path)) (fifo_ports (λ n. nets n (codes "fifo" ∷ path)))
      (record {
        put_is = λ n.
            ends 2 (codes "put") (codes "put") refl n ∙ put n ∙ (bits_are (here n (codes "wr")) (here n (codes "ready")) (wr_small n) (ready_small n)).both_are
            ∙ ap (λ x. bit (eqb (here n (codes "wr")) 1 && eqb x 1)) (sym (driven_is (plain_tree width depth) (λ n. nets n path) f 1 (codes "rdy") (of_net (codes "ready")) refl n));
        din_is = ends 3 (codes "din") (codes "din") refl;
        rdy_is = ready;
        has_is = λ n. sym (ends 6 (codes "has") (codes "has") refl n);
        dout_is = λ n. sym (ends 7 (codes "dout") (codes "dout") refl n);
        take_is = ends 4 (codes "take") (codes "take") refl;
      })
      fifo

  pub is_relayed : (late : ℕ) (relays : List ModuleTree) → AreRelays width late relays → AreFoundIn all (relayed_tree width depth late ∷ fifo_tree width depth (depth + 2 * late) ∷ relays)
      → module_at all root path ≡ Some (relayed_tree width depth late) → depth + 2 * late < 2 ^ 32 → MeetsContract depth late (channel_ports (λ n. nets n path))
  unfolding rst
  is_relayed late relays are found at few =
      let f = runs.each path (relayed_tree width depth late) at in
      let fifo_at : module_at all root (codes "fifo" ∷ path) ≡ Some (fifo_tree width depth (depth + 2 * late)) =
      inside all root nets runs path (relayed_tree width depth late) at (codes "fifo") (fifo_name width depth (depth + 2 * late)) refl ∙ found (fifo_tree width depth (depth + 2 * late)) (inr (inl refl)) in
      let fifo_run = runs.each (codes "fifo" ∷ path) (fifo_tree width depth (depth + 2 * late)) fifo_at in
      let ends : (j : ℕ) (port net : Name) → slice_get (fifo_connections (codes "put_late") (codes "din_late") (codes "rdy_early")) j ≡ Some (record { port = port; net = net }) → (n : ℕ) → in_fifo n port ≡ here n net =
      (λ j port net c n. joined all root nets runs path (relayed_tree width depth late) at 8 j (fifo_name width depth (depth + 2 * late)) (codes "fifo") (fifo_connections (codes "put_late") (codes "din_late") (codes "rdy_early")) refl port net c n) in
      let sides : (j : ℕ) (port net : Name)
      → slice_get (relay_connections (codes "put") (codes "din") (codes "rdy_early") (codes "put_late") (codes "din_late") (codes "ready")) j ≡ Some (record { port = port; net = net }) → (n : ℕ) → in_relay n port ≡ here n net =
      (λ j port net c n.
      joined all root nets runs path (relayed_tree width depth late) at 7 j (relay_name width late) (codes "relay") (relay_connections (codes "put") (codes "din") (codes "rdy_early") (codes "put_late") (codes "din_late") (codes "ready")) refl port net c n) in
      let fifo_reset : Resets (λ n. in_fifo n rst) = same_resets (λ n. in_fifo n rst) (λ n. here n rst) (ends 1 (codes "rst") (codes "rst") refl) reset in
      let relay =
      is_relay all root nets runs width (λ n. in_fifo n rst) late relays are (λ m h. found m (inr (inr h))) (codes "relay" ∷ path)
      (inside all root nets runs path (relayed_tree width depth late) at (codes "relay") (relay_name width late) refl) (λ n. sides 1 (codes "rst") (codes "rst") refl n ∙ sym (ends 1 (codes "rst") (codes "rst") refl n)) in
      let d = delays (λ n. in_fifo n rst) fifo_reset late (relay_ports (λ n. nets n (codes "relay" ∷ path))) relay.0 in
      let early_small : (n : ℕ) → in_relay n (codes "rdy_early") < 2 =
      (λ n.
      let r = rdy_is (fifo_name width depth (depth + 2 * late)) width depth (depth + 2 * late) (bits_for (depth + 2 * late - 1)) (bits_for (depth + 2 * late)) (λ n. nets n (codes "fifo" ∷ path)) fifo_run fifo_reset n in
      let s = small_bit (ltb (in_fifo n (codes "count")) depth) in
      let a = sides 4 (codes "rdy_early") (codes "rdy_early") refl n in
      let b = ends 5 (codes "rdy") (codes "rdy_early") refl n in
      omega (arith, a, b, r, s)) in
      let ready_later : (n : ℕ) → 0 < n → in_relay n (codes "rdy") < 2 =
      (λ n l. late_small late n (in_relay n (codes "rdy")) (in_relay (n - late) (codes "rdy_early")) (d.rdy n l) (early_small (n - late))) in
      let ready_small : (n : ℕ) → here n (codes "ready") < 2 = (λ n. let e = sides 7 (codes "rdy") (codes "ready") refl n in let k = at_each (λ n. in_relay n (codes "rdy")) relay.1 ready_later n in omega (arith, e, k)) in
      let put : (n : ℕ) → here n (codes "put") ≡ bit_and (here n (codes "wr")) (here n (codes "ready")) = (λ n. driven_is (relayed_tree width depth late) (λ n. nets n path) f 3 (codes "put") (two (codes "wr") And (codes "ready")) refl n) in
      let into_relay : (n : ℕ) → in_relay n (codes "put") < 2 =
      (λ n.
      let e = sides 2 (codes "put") (codes "put") refl n in
      let p = put n in
      let s = both_small (here n (codes "wr")) (here n (codes "ready")) (wr_small n) (ready_small n) in
      omega (arith, e, p, s)) in
      let put_small : (n : ℕ) → 0 < n → in_fifo n (codes "put") < 2 =
      (λ n l.
      let k = late_small late n (in_relay n (codes "put_late")) (in_relay (n - late) (codes "put")) (d.put_late n l) (into_relay (n - late)) in
      let a = ends 2 (codes "put") (codes "put_late") refl n in
      let b = sides 5 (codes "put_late") (codes "put_late") refl n in
      omega (arith, a, b, k)) in
      let takes : (n : ℕ) → 0 < n → in_fifo n (codes "take") < 2 = (λ n l. let e = ends 4 (codes "take") (codes "take") refl n in let t = take_small n in omega (arith, e, t)) in
      let fifo = is_fifo (fifo_name width depth (depth + 2 * late)) width depth (depth + 2 * late) (bits_for (depth + 2 * late - 1)) (bits_for (depth + 2 * late)) (λ n. nets n (codes "fifo" ∷ path)) fifo_run fifo_reset takes put_small in
      channel depth late (λ n. in_fifo n rst) fifo_reset (channel_ports (λ n. nets n path)) (relay_ports (λ n. nets n (codes "relay" ∷ path))) (fifo_ports (λ n. nets n (codes "fifo" ∷ path)))
      (record {
        sizes = record { places = depth + 2 * late; place_bits = bits_for (depth + 2 * late - 1); count_bits = bits_for (depth + 2 * late); depth = depth };
        fits = fit depth (depth + 2 * late) some (omega arith) few;
        depth_is = refl;
        places_are = refl;
        relay = relay.0;
        fifo = fifo;
        joined = record {
          put_is = λ n.
              sides 2 (codes "put") (codes "put") refl n ∙ put n ∙ (bits_are (here n (codes "wr")) (here n (codes "ready")) (wr_small n) (ready_small n)).both_are
              ∙ ap (λ x. bit (eqb (here n (codes "wr")) 1 && eqb x 1)) (sym (driven_is (relayed_tree width depth late) (λ n. nets n path) f 1 (codes "rdy") (of_net (codes "ready")) refl n));
          din_is = sides 3 (codes "din") (codes "din") refl;
          rdy_is = λ n. driven_is (relayed_tree width depth late) (λ n. nets n path) f 1 (codes "rdy") (of_net (codes "ready")) refl n ∙ sym (sides 7 (codes "rdy") (codes "ready") refl n);
          put_late = λ n. ends 2 (codes "put") (codes "put_late") refl n ∙ sym (sides 5 (codes "put_late") (codes "put_late") refl n);
          din_late = λ n. ends 3 (codes "din") (codes "din_late") refl n ∙ sym (sides 6 (codes "din_late") (codes "din_late") refl n);
          rdy_early = λ n. sides 4 (codes "rdy_early") (codes "rdy_early") refl n ∙ sym (ends 5 (codes "rdy") (codes "rdy_early") refl n);
          has_is = λ n. sym (ends 6 (codes "has") (codes "has") refl n);
          dout_is = λ n. sym (ends 7 (codes "dout") (codes "dout") refl n);
          take_is = ends 4 (codes "take") (codes "take") refl;
        };
      })

pub acts : (bits depth late : ℕ) (ms : List ModuleTree) → 0 < depth → depth + 2 * late < 2 ^ 32 → AreModules bits depth late ms → ActsAsChannel depth late ms
acts bits depth late ms some few (Alone k e) =
    λ all root nets runs found path at reset wr take.
    subst (λ l. MeetsContract depth l (channel_ports (λ n. nets n path))) (sym e) (is_plain all root nets runs bits depth some path reset wr take found at (omega (arith, few)))
acts bits depth late ms some few (Relayed k relays l are) =
    λ all root nets runs found path at reset wr take. is_relayed all root nets runs bits depth some path reset wr take k relays are found at few
