-- What a simulator is asked of its cycle.
use Rattle.std.proofs.Common.{◌≡◌, ℕ, suc, ◌<◌, ◌≤◌, Bool, true, false, cond, ◌&&◌, List, [], ◌∷◌, ◌++◌, Option, Some, None, length, get_or, map, append-nil, refl, sym, ap, subst, ◌∙◌, arith}
use Rattle.std.specs.Prelude.{◌==◌, ◌↔◌, IsTrue, slice_get}
use Rattle.std.specs.Option.{option_to_list}
use Rattle.std.proofs.lemmas.List.{map-append}
use Rattle.std.proofs.lemmas.Option.{slice_get_within, slice_get-get_or}
use Rattle.std.proofs.lemmas.Bool.{eq-eqb, eqb-true}
use Rattle.tapa_base.specs.declared.shape.Port.{Port}
use Rattle.tapa_base.specs.declared.token.Token.{Token}
use Rattle.vlog_tree.specs.Form.{ModuleTree}
use Rattle.vlog_tree.specs.Labels.{done, s_wr, s_rdy, s_din}
use Rattle.vlog_tree.specs.Cycle.{Cycle, Path}
use Rattle.vlog_tree.specs.Environment.{RaisesDone, streams_of, tokens, token_of, carried}
use Rattle.sim_tape.specs.declared.gates.Pair.{Pair}
use Rattle.sim_tape.specs.Tape.{pair_value}
use Rattle.cycle_sim.specs.declared.parts.Stream.{Stream}
use Rattle.cycle_sim.specs.declared.parts.Parts.{Parts}
use Rattle.cycle_sim.specs.declared.parts.State.{State}
use Rattle.cycle_sim.specs.Sims.{InRuns, IsCarried}
use Rattle.cycle_sim.specs.Steps.{is_one}
use Rattle.cycle_sim.specs.Machines.{IsPairOf}
use Rattle.cycle_sim.specs.Wholes.{IsSim, IsStream, sim_tree, token_on}
use Rattle.cycle_sim.proofs.Stepping.{one_test}
use Rattle.cycle_sim.proofs.Advancing.{in_runs}

-- one token more, or none
one_more : (w d : ℕ) (c : List ℕ) (b : Bool) → map (token_of w) (cond b (c ++ d ∷ []) c) ≡ map (token_of w) c ++ option_to_list (cond b (Some (token_of w d)) None)
one_more w d c true = map-append (token_of w) c (d ∷ [])
one_more w d c false = sym (append-nil (map (token_of w) c))

module _ (p : Parts) (s : State) (sim : IsSim p s) where
  abbrev ns : List ℕ
  ns = s.numbers.items

  -- whether the design is done
  pub done_is : (b : Bool) → 0 < s.cycle → b ≡ is_one ns p.around.done → InRuns (sim_tree p s) (λ m env nets. IsTrue b ↔ RaisesDone (λ n. nets n []) s.cycle)
  done_is b later is = in_runs p s sim (λ m env nets. IsTrue b ↔ RaisesDone (λ n. nets n []) s.cycle) (λ env nets f ready r now.
      let e : (nets s.cycle []).net done ≡ pair_value ns p.around.done = now.placed sim.parts.around.is_done.0 ([], done) p.around.done sim.parts.around.is_done.1 sim.parts.around.is_done.2 in (
        λ t. (omega arith, e ∙ eqb-true (pair_value ns p.around.done) 1 (one_test ns p.around.done ∙ sym is ∙ t)),
        λ d. is ∙ sym (one_test ns p.around.done) ∙ eq-eqb (pair_value ns p.around.done) 1 (sym e ∙ d.1),
      ))

  module _ (place : ℕ) (token : Option Token) (t : Stream) (got : slice_get p.around.streams.items place ≡ Some t) (is : token ≡ token_on ns t) where
    carried_later : (nets : ℕ → Path → Cycle) → ((x : List ℕ) (q : Pair) → IsPairOf p.design.modules p.flat p.machine.pairs.items x q → (nets s.cycle []).net x ≡ pair_value ns q)
        → (l : Port) (n : ℕ) → slice_get (streams_of sim.parts.top) place ≡ Some l → s.cycle ≡ suc n → tokens l.bits (λ k. nets k []) l.name (suc n) ≡ tokens l.bits (λ k. nets k []) l.name n ++ option_to_list token
    carried_later nets here l n at cycle =
        let u = sim.parts.around.streams.each place l at in
        let same : u.0 ≡ t = cc (u.1, got) in
        let st : IsStream p.design.modules p.flat p.machine.pairs.items l t = subst (IsStream p.design.modules p.flat p.machine.pairs.items l) same u.2 in
        let run : ℕ → Cycle = λ k. nets k [] in
        let wr : (run (suc n)).net (s_wr l.name) ≡ pair_value ns t.wr = subst (λ k. (run k).net (s_wr l.name) ≡ pair_value ns t.wr) cycle (here (s_wr l.name) t.wr st.wr) in
        let rdy : (run (suc n)).net (s_rdy l.name) ≡ pair_value ns t.rdy = subst (λ k. (run k).net (s_rdy l.name) ≡ pair_value ns t.rdy) cycle (here (s_rdy l.name) t.rdy st.rdy) in
        let din : (run (suc n)).net (s_din l.name) ≡ pair_value ns t.din = subst (λ k. (run k).net (s_din l.name) ≡ pair_value ns t.din) cycle (here (s_din l.name) t.din st.din) in
        let c : List ℕ = carried run l.name n in
        let told : token ≡ cond (is_one ns t.wr && is_one ns t.rdy) (Some (token_of l.bits (pair_value ns t.din))) None =
        is ∙ ap (λ w. cond (is_one ns t.wr && is_one ns t.rdy) (Some (token_of w (pair_value ns t.din))) None) st.bits in
        ap (λ z. map (token_of l.bits) (cond ((z == 1) && ((run (suc n)).net (s_rdy l.name) == 1)) (c ++ (run (suc n)).net (s_din l.name) ∷ []) c)) wr
        ∙ ap (λ z. map (token_of l.bits) (cond ((pair_value ns t.wr == 1) && (z == 1)) (c ++ (run (suc n)).net (s_din l.name) ∷ []) c)) rdy
        ∙ ap (λ z. map (token_of l.bits) (cond ((pair_value ns t.wr == 1) && (pair_value ns t.rdy == 1)) (c ++ z ∷ []) c)) din
        ∙ ap (λ b. map (token_of l.bits) (cond (b && (pair_value ns t.rdy == 1)) (c ++ pair_value ns t.din ∷ []) c)) (one_test ns t.wr)
        ∙ ap (λ b. map (token_of l.bits) (cond (is_one ns t.wr && b) (c ++ pair_value ns t.din ∷ []) c)) (one_test ns t.rdy)
        ∙ one_more l.bits (pair_value ns t.din) c (is_one ns t.wr && is_one ns t.rdy)
        ∙ ap (λ o. map (token_of l.bits) c ++ option_to_list o) (sym told)

    pub carried_one : 0 < s.cycle → IsCarried (sim_tree p s) place token
    carried_one later = record {
      first = λ z. (let e : s.cycle ≡ 0 = z in absurd (omega arith));
      later = in_runs p s sim (λ m env nets. (l : Port) (n : ℕ) → slice_get (streams_of m) place ≡ Some l → s.cycle ≡ suc n → tokens l.bits (λ k. nets k []) l.name (suc n) ≡ tokens l.bits (λ k. nets k []) l.name n ++ option_to_list token)
          (λ env nets f ready r now. carried_later nets (λ x q i. now.placed i.0 ([], x) q i.1 i.2));
    }

  pub carried_first : (place : ℕ) → s.cycle ≡ 0 → IsCarried (sim_tree p s) place None
  carried_first place zero_cycle = record { first = λ z. refl; later = λ m env nets at f ready r told l n got e. (let a : s.cycle ≡ suc n = e in absurd (omega arith)) }

  pub no_stream : (place : ℕ) → length p.around.streams.items ≤ place → IsCarried (sim_tree p s) place None
  no_stream place far = record {
    first = λ z. refl;
    later = λ m env nets at f ready r told l n got e.
        let same : sim.parts.top ≡ m = cc (sim.parts.at, at) in
        let here : slice_get (streams_of sim.parts.top) place ≡ Some l = subst (λ (q : ModuleTree). slice_get (streams_of q) place ≡ Some l) (sym same) got in
        let low : place < length (streams_of sim.parts.top) = slice_get_within (streams_of sim.parts.top) place l here in
        let c : length p.around.streams.items ≡ length (streams_of sim.parts.top) = sim.parts.around.streams.count in
        absurd (omega arith);
  }

  -- the bits of a stream
  pub stream_bits : (place : ℕ) (t : Stream) → slice_get p.around.streams.items place ≡ Some t → (2 ≤ t.bits) × (t.bits ≤ 65)
  stream_bits place t got =
      let c : length p.around.streams.items ≡ length (streams_of sim.parts.top) = sim.parts.around.streams.count in
      let low : place < length p.around.streams.items = slice_get_within p.around.streams.items place t got in
      let none : Port = record { name = []; bits = 0 } in
      let l : Port = get_or (streams_of sim.parts.top) place none in
      let u = sim.parts.around.streams.each place l (slice_get-get_or (streams_of sim.parts.top) place none (omega arith)) in
      let same : u.0 ≡ t = cc (u.1, got) in
      let st : IsStream p.design.modules p.flat p.machine.pairs.items l t = subst (IsStream p.design.modules p.flat p.machine.pairs.items l) same u.2 in
      (subst (λ k. 2 ≤ k) (sym st.bits) st.low, subst (λ k. k ≤ 65) (sym st.bits) st.high)
