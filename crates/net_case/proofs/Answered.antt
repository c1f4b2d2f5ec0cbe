-- A batch comes back to its case: what its instance answered, and who is at rest.
use Rattle.std.proofs.Common.{◌≡◌, ℕ, ◌+◌, ◌<◌, ◌≤◌, List, ◌++◌, length, map, Bool, true, false, Option, Some, None, inl, inr, refl, sym, ap, ◌∙◌, subst, ⊎_elim, arith}
use Rattle.std.specs.Prelude.{slice_get, slice_index, slice_set}
use Rattle.std.proofs.lemmas.Bool.{cases_eq}
use Rattle.std.proofs.lemmas.List.{append-nil}
use Rattle.std.proofs.lemmas.Option.{slice_get_within}
use Rattle.tapa_syntax.specs.declared.program.Program.{Program}
use Rattle.kahn_model.specs.declared.tick.Tick.{Tick}
use Rattle.kahn_model.specs.declared.tick.Tick.TheVariants.{End}
use Rattle.kahn_model.specs.declared.tick.TraceEnd.TheVariants.{Ended as TraceEnded}
use Rattle.kahn_model.specs.Behavior.{Behavior}
use Rattle.kahn_model.specs.Network.{Network}
use Rattle.kahn_model.specs.Counts.{ticks_made, written, taken, IsReachable, HasEnded}
use Rattle.kahn_model.specs.Outcome.{joined_ticks}
use Rattle.kahn_model.proofs.Count.{IsBelow, step_stays}
use Rattle.kahn_model.proofs.Joined.{joined_up}
use Rattle.kahn_model.proofs.Reach.{reach_founded}
use Rattle.net_core.specs.declared.body.Pause.{Pause}
use Rattle.net_core.specs.declared.body.Pause.TheVariants.{Ended, WantsRead, WantsWrite, BadToken, Fuel}
use Rattle.net_core.specs.declared.input.Input.{Input}
use Rattle.net_core.specs.declared.ports.Ports.{Ports}
use Rattle.net_core.specs.Job.{Job}
use Rattle.net_core.specs.Bindings.{stream_at, producer_of, consumer_of, Reads, Writes}
use Rattle.net_core.specs.Bounded.{network_on, instance_job, count_of}
use Rattle.net_core.specs.Placement.{tick_at, IsPlaced}
use Rattle.net_core.specs.Waits.{StopsIn, HasHeld}
use Rattle.net_core.proofs.Chunk.{plus, plus_same, plus_other, Chunk}
use Rattle.net_core.proofs.Lasting.{lasts}
use Rattle.net_core.proofs.Moves.{get_set_same, get_set_other, set_same}
use Rattle.net_core.proofs.Quiet.{joined_plus, detached_plus}
use Rattle.net_core.proofs.Stepped.{holds_other, none_of}
use Rattle.net_case.specs.Batch.{IsBatchAt}
use Rattle.net_case.specs.declared.batch.Process.{Process}
use Rattle.net_case.proofs.Back.{whole, written_else, taken_else}
use Rattle.net_case.proofs.Runs.{commits}
use Rattle.net_case.specs.declared.queue.Queue.{Queue}
use Rattle.net_case.specs.Claims.{kept_of}
use Rattle.net_case.specs.Commit.{IsFar}
use Rattle.net_case.specs.Home.{AreStreamsAt, IsQuiet, IsHeldBack, IsAtRest, IsCaseAt}
use Rattle.net_case.proofs.Coming.{later_is, chunk_is, above, others_stay, own_count, reachable_later}

module _ {B : Type 0} {Stands : B → Job → List Tick → Type 0} {program : Program} {input : Input} {budget : ℕ} {homes : List (Option (Process B))} {queues : List Queue} {taken_list offered counts : List ℕ} {pauses : List (Option Pause)} {listed : List Bool} {joined : ℕ} {writers : List ℕ} {fed : List Bool} (c : IsCaseAt Stands program input budget homes queues taken_list offered counts pauses listed joined writers fed) (at : List ℕ) (i from fuel made : ℕ) (pause : Option Pause) (ready : Bool) (body : B) (ports : Ports) (limits : List ℕ) (b : IsBatchAt Stands program input budget at i from fuel made pause ready body ports limits) (fresh : slice_index counts i ≡ from) (above_at : (j : ℕ) → slice_index at j ≤ slice_index counts j) (before : Option Pause) (before_is : slice_get pauses i ≡ Some before) where
  abbrev N : Network
  N = network_on program input

  abbrev k : ℕ → ℕ
  k = count_of at

  abbrev m : ℕ → ℕ
  m = count_of counts

  abbrev f : ℕ → ℕ
  f = stream_at program i

  abbrev job : ℕ → Behavior
  job = (instance_job program input i).behavior

  abbrev plug : IsPlaced N i job f (Reads program i) (Writes program i)
  plug = b.network.placed i b.inside

  abbrev S : List Tick → Type 0
  S = Stands body (instance_job program input i)

  abbrev a : AreStreamsAt program input budget queues taken_list offered counts
  a = c.at

  abbrev L : ℕ → ℕ
  L = count_of (slice_set counts i (from + made))

  abbrev pauses2 : List (Option Pause)
  pauses2 = slice_set pauses i (kept_of pause before)

  l_is : plus i made m ≡ L
  l_is = later_is Stands program input budget queues taken_list offered counts a at i from fuel made pause ready body ports limits b c.counts_len fresh above_at

  stepped : Chunk N m i (map (tick_at f) b.run.new) L
  stepped = chunk_is Stands program input budget queues taken_list offered counts a at i from fuel made pause ready body ports limits b c.counts_len fresh above_at

  up : IsBelow m L
  up = above Stands program input budget queues taken_list offered counts a at i from fuel made pause ready body ports limits b c.counts_len fresh above_at

  same : (j : ℕ) → (j ≡ i → ⊥) → L j ≡ m j
  same = others_stay Stands program input budget queues taken_list offered counts a at i from fuel made pause ready body ports limits b c.counts_len fresh above_at

  own : L i ≡ from + made
  own = own_count Stands program input budget queues taken_list offered counts a at i from fuel made pause ready body ports limits b c.counts_len fresh above_at

  reached : IsReachable N L
  reached = reachable_later Stands program input budget queues taken_list offered counts a at i from fuel made pause ready body ports limits b c.counts_len fresh above_at

  still : m i ≡ k i
  still = fresh ∙ b.begins

  here : slice_get pauses2 i ≡ Some (kept_of pause before)
  here = get_set_same pauses i (kept_of pause before) (slice_get_within pauses i before before_is)

  other : (j : ℕ) → (j ≡ i → ⊥) → slice_get pauses2 j ≡ slice_get pauses j
  other j d = get_set_other pauses i j (kept_of pause before) (λ e. d (sym e))

  -- the count of the claim with its ticks
  abbrev K : ℕ → ℕ
  K = plus i made k

  at_claim : IsReachable N K
  at_claim = (commits N b.network.is_network k b.reachable i job f (Reads program i) (Writes program i) plug limits S made ports b.run k b.reachable (λ j. omega arith) refl).reachable

  claim_below : IsBelow K L
  claim_below j =
      ⊎_elim
      (λ (e : j ≡ i).
      let x = plus_same i made k in
      let y = ap K e in
      let z = ap L e in
      let o = own in
      let g = b.begins in
      omega arith)
      (λ (d : j ≡ i → ⊥). let x = plus_other i made j k d in let y = same j d in let z = above_at j in omega arith)
      (cases_eq j i)

  whole_claim : ticks_made N K i ≡ ticks_made N L i
  whole_claim =
      whole N b.network.is_network k b.reachable i job f (Reads program i) (Writes program i) plug limits S made ports b.run k b.reachable (λ j. omega arith) refl
      ∙ sym (subst (λ (z : ℕ → ℕ). ticks_made N z i ≡ map (tick_at f) (b.run.before ++ b.run.new)) l_is
      (whole N b.network.is_network k b.reachable i job f (Reads program i) (Writes program i) plug limits S made ports b.run m c.reachable above_at still))

  -- ---- an answer that held

  held_on : (j : ℕ) (g : ℕ → ℕ) (x : Pause) → HasHeld N m j g x → HasHeld N L j g x
  held_on j g x h = record {
    count = h.count;
    reachable = h.reachable;
    below = λ n. let u = h.below n in let v = up n in omega arith;
    held = h.held;
    for_good = λ l. lasts N b.network.is_network m L up c.reachable reached j g x l (h.for_good l);
  }

  ended_there : pause ≡ Some Ended → StopsIn N L i TraceEnded
  ended_there e = lasts N b.network.is_network K L claim_below at_claim reached i f Ended tt ((b.says Ended e).holds (inr (inr (inl tt))))

  went_on : HasHeld N L i f Fuel
  went_on = record {
    count = k;
    reachable = b.reachable;
    below = λ j. let u = above_at j in let v = up j in omega arith;
    held = b.allowed;
    for_good = λ l. absurd l;
  }

  own_held : (y : Option Pause) → pause ≡ y → (x : Pause) → kept_of y before ≡ Some x → HasHeld N L i f x
  own_held None e x q = held_on i f x (c.paused i x (before_is ∙ ap Some q))
  own_held (Some Ended) e x q =
      let same_pause : Ended ≡ x = cc in
      subst (HasHeld N L i f) same_pause (record { count = L; reachable = reached; below = λ j. omega arith; held = ended_there e; for_good = λ l. ended_there e })
  own_held (Some (WantsRead p)) e x q = let same_pause : Fuel ≡ x = cc in subst (HasHeld N L i f) same_pause went_on
  own_held (Some (WantsWrite p)) e x q = let same_pause : Fuel ≡ x = cc in subst (HasHeld N L i f) same_pause went_on
  own_held (Some (BadToken p)) e x q = let same_pause : Fuel ≡ x = cc in subst (HasHeld N L i f) same_pause went_on
  own_held (Some Fuel) e x q = let same_pause : Fuel ≡ x = cc in subst (HasHeld N L i f) same_pause went_on

  pub paused_later : (j : ℕ) (x : Pause) → slice_get pauses2 j ≡ Some (Some x) → HasHeld N L j (stream_at program j) x
  paused_later j x e =
      ⊎_elim
      (λ (q : j ≡ i). subst (λ n. HasHeld N L n (stream_at program n) x) (sym q) (own_held pause refl x (set_same pauses i j (kept_of pause before) (Some x) e q)))
      (λ (d : j ≡ i → ⊥). held_on j (stream_at program j) x (c.paused j x (sym (other j d) ∙ e)))
      (cases_eq j i)

  none_kept : (y : Option Pause) → kept_of y before ≡ None → (y ≡ None) × (before ≡ None)
  none_kept None e = (refl, e)
  none_kept (Some Ended) e = absurd (cc)
  none_kept (Some (WantsRead p)) e = absurd (cc)
  none_kept (Some (WantsWrite p)) e = absurd (cc)
  none_kept (Some (BadToken p)) e = absurd (cc)
  none_kept (Some Fuel) e = absurd (cc)

  pub unresumed_later : (j : ℕ) → slice_get pauses2 j ≡ Some None → L j ≡ 0
  unresumed_later j e =
      ⊎_elim
      (λ (q : j ≡ i).
      let n = none_kept pause (set_same pauses i j (kept_of pause before) None e q) in
      let zero_made = b.unrun n.0 in
      let zero_then = c.unresumed i (before_is ∙ ap Some n.1) in
      let o = own in
      let l = ap L q in
      omega arith)
      (λ (d : j ≡ i → ⊥). same j d ∙ c.unresumed j (sym (other j d) ∙ e))
      (cases_eq j i)

  -- ---- who has ended

  unmade : made ≡ 0 → ticks_made N L i ≡ ticks_made N m i
  unmade e =
      let n = none_of b.run.new (λ l. let z = b.run.as_many in omega arith) in
      stepped.own ∙ ap (λ l. ticks_made N m i ++ map (tick_at f) l) n ∙ append-nil (ticks_made N m i)

  went_past : (y : Pause) → pause ≡ Some y → (y ≡ Ended → ⊥) → HasEnded N L i → ⊥
  went_past y e d (j, h) = (b.says y e).goes_on d (j, subst (λ ts. slice_get ts j ≡ Some End) (sym whole_claim) h)

  own_unended : (y : Option Pause) → pause ≡ y → (kept_of y before ≡ Some Ended → ⊥) → HasEnded N L i → ⊥
  own_unended None e d (j, h) = c.unended i b.inside (λ q. d (let z = sym before_is ∙ q in cc)) (j, subst (λ ts. slice_get ts j ≡ Some End) (unmade (b.unrun e)) h)
  own_unended (Some Ended) e d h = d refl
  own_unended (Some (WantsRead p)) e d h = went_past (WantsRead p) e (λ q. cc) h
  own_unended (Some (WantsWrite p)) e d h = went_past (WantsWrite p) e (λ q. cc) h
  own_unended (Some (BadToken p)) e d h = went_past (BadToken p) e (λ q. cc) h
  own_unended (Some Fuel) e d h = went_past Fuel e (λ q. cc) h

  pub unended_later : (j : ℕ) → j < length program.instances.items → (slice_get pauses2 j ≡ Some (Some Ended) → ⊥) → HasEnded N L j → ⊥
  unended_later j l d h =
      ⊎_elim
      (λ (q : j ≡ i). own_unended pause refl (λ e. d (subst (λ n. slice_get pauses2 n ≡ Some (Some Ended)) (sym q) (here ∙ ap Some e))) (subst (HasEnded N L) q h))
      (λ (n : j ≡ i → ⊥). c.unended j l (λ e. d (other j n ∙ e)) (h.0, subst (λ ts. slice_get ts h.0 ≡ Some End) (stepped.other j n) h.1))
      (cases_eq j i)

  -- ---- who is at rest

  pub rest_later : (j : ℕ) → j < length program.instances.items → IsFar program i j → IsAtRest N budget m j (stream_at program j) pauses → IsAtRest N budget L j (stream_at program j) pauses2
  rest_later j l far (x, e, r) = (
    x,
    other j far.other ∙ e,
    ⊎_elim (λ (q : IsQuiet N m j (stream_at program j) x). inl (quiet q)) (λ (h : IsHeldBack N budget m j x). inr (back h)) r,
  )
    where
      quiet : IsQuiet N m j (stream_at program j) x → IsQuiet N L j (stream_at program j) x
      quiet q = record {
        stopped = q.stopped;
        holds = holds_other N b.network.is_network m L i (map (tick_at f) b.run.new) stepped up same j (stream_at program j) x far.other (let s = b.network.size in omega arith) (reach_founded N m c.reachable)
            (λ s e. written_far s (sym (b.network.consumer s) ∙ e))
            (λ s e. taken_far s (sym (b.network.producer s) ∙ e)) q.stopped q.holds;
      }
        where
          written_far : (s : ℕ) → consumer_of program s ≡ j → written N L s ≡ written N m s
          written_far s e =
              subst (λ (z : ℕ → ℕ). written N z s ≡ written N m s) l_is
              (written_else N b.network.is_network k b.reachable i job f (Reads program i) (Writes program i) plug limits S made ports b.run m c.reachable above_at still s (λ p w q. far.no_consumer p w.0 (ap (consumer_of program) q ∙ e)))

          taken_far : (s : ℕ) → producer_of program s ≡ j → taken N L s ≡ taken N m s
          taken_far s e =
              subst (λ (z : ℕ → ℕ). taken N z s ≡ taken N m s) l_is
              (taken_else N b.network.is_network k b.reachable i job f (Reads program i) (Writes program i) plug limits S made ports b.run m c.reachable above_at still s (λ p r q. far.no_producer p r.0 (ap (producer_of program) q ∙ e)))

      back : IsHeldBack N budget m j x → IsHeldBack N budget L j x
      back h = record {
        fuel = h.fuel;
        allowed = step_stays N b.network.is_network m L up j (sym (same j far.other)) h.allowed;
        joined = λ q. let u = h.joined q in let v = joined_up N m L up in omega arith;
        detached = λ q. let u = h.detached q in let v = same j far.other in omega arith;
      }

  pub joined_later : (n : ℕ) → (N.detached i ≡ true → n ≡ joined) → (N.detached i ≡ false → n ≡ joined + made) → n ≡ joined_ticks N L
  joined_later n d j =
      let o : L i ≡ m i + made = let x = own in let y = fresh in omega arith in
      by (N.detached i) refl o
    where
      by : (x : Bool) → N.detached i ≡ x → L i ≡ m i + made → n ≡ joined_ticks N L
      by true e o = d e ∙ c.joined_is ∙ sym (detached_plus N m L i made o same e)
      by false e o =
          let s = b.network.size in
          let l = b.inside in
          let p = joined_plus N m L i made o same e (omega arith) in
          let q = c.joined_is in
          let r = j e in
          omega arith
