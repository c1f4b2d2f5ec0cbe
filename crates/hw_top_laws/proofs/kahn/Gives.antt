-- What follows if a circuit carries its program's streams.
use Rattle.std.proofs.Common.{◌≡◌, ◌⊎◌, ℕ, zero, suc, ◌+◌, ◌-◌, ◌*◌, ◌<◌, ◌≤◌, Bool, true, false, List, [], length, Option, Some, None, inl, inr, refl, sym, ap, subst, ◌∙◌, arith, ⊎_elim}
use Rattle.std.specs.Prelude.{if◌then◌else◌, flat_map, slice_get, slice_index, slice_index_or}
use Rattle.std.proofs.lemmas.Bool.{cases_eq, cases_lt}
use Rattle.std.proofs.lemmas.Option.{slice_get_within, slice_get-get_or}
use Rattle.tapa_base.specs.declared.kind.Kind.TheVariants.{U64}
use Rattle.tapa_syntax.specs.WellFormed.{IsWellFormed}
use Rattle.tapa_syntax.specs.declared.program.Instance.{Instance}
use Rattle.tapa_syntax.specs.declared.program.Memory.{Memory}
use Rattle.tapa_syntax.specs.declared.program.Program.{Program}
use Rattle.tapa_syntax.specs.declared.program.Stream.{Stream}
use Rattle.vlog_tree.specs.Cycle.{Cycle, Path}
use Rattle.vlog_tree.specs.Environment.{Environment, RaisesDone, cells_at}
use Rattle.vlog_tree.specs.Labels.{m_we}
use Rattle.vlog_tree.specs.Table.{Name}
use Rattle.kahn_model.specs.declared.tick.Action.TheVariants.{Load as LoadAct, Store as StoreAct}
use Rattle.kahn_model.specs.declared.tick.Tick.{Tick}
use Rattle.kahn_model.specs.declared.tick.Tick.TheVariants.{Did}
use Rattle.kahn_model.specs.Cells.{cells_at as cells_of, is_memory, memory_at, owner_of}
use Rattle.kahn_model.specs.Counts.{next, HasEnded, IsKahnPrefix, IsKahnStream}
use Rattle.kahn_model.specs.Ending.{IsLeastToEnd}
use Rattle.kahn_model.specs.Network.{Network, IsNetwork, put_on}
use Rattle.kahn_model.specs.Outcome.{IsJoined, HaveJoinedEnded, IsDone, shown}
use Rattle.kahn_model.specs.ProgramNetwork.{end_of}
use Rattle.kahn_model.specs.Start.{network_of}
use Rattle.kahn_model.specs.Timed.{Clock, count_at, lost}
use Rattle.kahn_model.proofs.Clocked.{clock_founded, count_le}
use Rattle.kahn_model.proofs.Ended.{ended_later, ended_over, ended_same}
use Rattle.kahn_model.proofs.LastCells.{ends_leave_alike}
use Rattle.kahn_model.proofs.Least.{least_to_end}
use Rattle.kahn_model.proofs.Reach.{is_kahn, whole as all_of_it}
use Rattle.kahn_model.proofs.Shown.{shown_written}
use Rattle.kahn_model.proofs.WellFormed.{program_network}
use Rattle.circuit_meaning.specs.Asked.{act_of_tick, Request, Nothing, Load, Store, request_by, request_of, request_at, ShowsRequest}
use Rattle.circuit_meaning.specs.Carries.{Carries, carried_by}
use Rattle.circuit_meaning.specs.Clock.{network, answer_of, bound_answers, clock_of, each_answers, all_answer}
use Rattle.circuit_meaning.specs.Gives.{Gives, CarryingGives, StaysAsked, AnswersWhatStays, SteadyMemoriesAnswer}
use Rattle.circuit_meaning.specs.Pace.{memory_of, AreAnswered}
use Rattle.hw_network_laws.proofs.network.Asked.{requests_stay}
use Rattle.hw_network_laws.proofs.network.Cells.{is_the_memory}
use Rattle.hw_network_laws.proofs.network.Pace.{keeps_pace}
use Rattle.hw_network_laws.proofs.network.Ports.{is_instance}
use Rattle.hw_network_laws.proofs.network.Prompt.{answered_counts_are_prompt}
use Rattle.hw_top_laws.proofs.kahn.Waits.{in_time_by}
use Rattle.kahn_model.proofs.FitsCells.{is_same as of_memory}
use Rattle.tapa_base.proofs.Tests.{both_true as and_parts}

-- ---- the clock of a program's circuit

bound_is : (answers : ℕ → ℕ → Bool) (o : Option Instance) (p m n : ℕ) → memory_at o p ≡ Some m → bound_answers answers o p n ≡ answers m n
bound_is answers None p m n e = absurd cc
bound_is answers (Some x) p m n e = ap (λ z. answer_of answers z n) e

each_of : (answers : ℕ → ℕ → Bool) (k m n : ℕ) → each_answers answers k n ≡ true → m < k → answers m n ≡ true
each_of answers zero m n h l = absurd (omega (arith, l))
each_of answers (suc k) m n h l =
    let both = and_parts (each_answers answers k n) (answers k n) h in
    ⊎_elim (λ (e : m ≡ k). ap (λ z. answers z n) e ∙ both.1) (λ (d : m ≡ k → ⊥). each_of answers k m n both.0 (omega (arith, l, d))) (cases_eq m k)

module _ (program : Program) (w : IsWellFormed program) (i : ℕ) (x : Instance) (at : slice_get program.instances.items i ≡ Some x) (p m : ℕ) (got : slice_get x.memories.items p ≡ Some m) where
  -- a position that is bound is bound to a memory of the program, which has this owner
  bound_there : (o : Memory) × (slice_get program.memories.items m ≡ Some o) × (o.owner ≡ i)
  bound_there =
      let leaf = w.instances i x at in
      let is = is_instance program w i x leaf.0 at leaf.1.body in
      let e = is.memories_len in
      let l = slice_get_within x.memories.items p m got in
      let o = is.memories p m (slice_index_or leaf.0.memories.items p U64) got (slice_get-get_or leaf.0.memories.items p U64 (omega (arith, l, e))) in
      (o.memory, o.is, o.owner)

module _ (program : Program) (w : IsWellFormed program) (answers : ℕ → ℕ → Bool) (n : ℕ) (h : all_answer program answers n ≡ true) where
  answered_at : (i : ℕ) (x : Instance) → slice_get program.instances.items i ≡ Some x → (p : ℕ) (o : Option ℕ) → slice_get x.memories.items p ≡ o → answer_of answers o n ≡ true
  answered_at i x at p None got = refl
  answered_at i x at p (Some m) got =
      let o = bound_there program w i x at p m got in
      each_of answers (length program.memories.items) m n h (slice_get_within program.memories.items m o.0 o.1)

  answered_by : (i p : ℕ) (o : Option Instance) → slice_get program.instances.items i ≡ o → bound_answers answers o p n ≡ true
  answered_by i p None got = refl
  answered_by i p (Some x) got = answered_at i x got p (slice_get x.memories.items p) refl

module _ (program : Program) (w : IsWellFormed program) (added : List ℕ) (env : Environment) (answers : ℕ → ℕ → Bool) where
  abbrev net : Network
  net = network program env

  abbrev clock : Clock
  clock = clock_of program added answers

  abbrev count : ℕ → ℕ → ℕ
  count n = count_at net clock n

  ok : IsNetwork net
  ok = program_network program w env.scalars env.memories

  size_is : net.size ≡ length program.instances.items
  unfolding network_of
  size_is = refl

  owner_inside : (m : ℕ) (o : Memory) → slice_get program.memories.items m ≡ Some o → o.owner < net.size
  owner_inside m o at =
      let own = w.memories m o at in
      let l = slice_get_within program.instances.items o.owner own.instance own.is in
      let z = size_is in
      omega (arith, l, z)

  -- an instance that has ended asks for nothing
  none_by : (k : ℕ → ℕ) (i m : ℕ) (bound : ℕ → Option ℕ) → i < net.size → HasEnded net k i → (t : Option Tick) → next net k i ≡ t → request_by bound m (act_of_tick t) ≡ Nothing
  none_by k i m bound inside over (Some (Did (LoadAct p a))) e =
      absurd (ended_over net ok k i over (record { supplied = record { inside = inside; tick = Did (LoadAct p a); is_next = e; token = tt }; room = tt }))
  none_by k i m bound inside over (Some (Did (StoreAct p a v))) e =
      absurd (ended_over net ok k i over (record { supplied = record { inside = inside; tick = Did (StoreAct p a v); is_next = e; token = tt }; room = tt }))
  none_by k i m bound inside over _ e = refl

  none_asked : (k : ℕ → ℕ) (m : ℕ) (o : Memory) → slice_get program.memories.items m ≡ Some o → HasEnded net k o.owner → request_at program net k m ≡ Nothing
  none_asked k m o at over =
      let owner : o.owner ≡ owner_of (slice_get program.memories.items m) = sym (ap owner_of at) in
      subst (λ j. request_of program net k m j ≡ Nothing) owner
      (none_by k o.owner m (memory_at (slice_get program.instances.items o.owner)) (owner_inside m o at) over (next net k o.owner) refl)

  -- ---- what is not answered stays

  module _ (m n i : ℕ) (silent : answers m (suc n) ≡ false) where
    abbrev positions : ℕ → Option ℕ
    positions = memory_at (slice_get program.instances.items i)

    unanswered : (p : ℕ) → is_memory (positions p) m ≡ true → clock.answers i p (suc n) ≡ false
    unanswered p e = bound_is answers (slice_get program.instances.items i) p m (suc n) (of_memory (positions p) m e) ∙ silent

    stay_by : (t : Tick) (p : ℕ) (b : Bool) (asks : Request) → memory_of t ≡ Some p → next net (count (suc n)) i ≡ Some t → is_memory (positions p) m ≡ b → ((if b then asks else Nothing) ≡ Nothing → ⊥) → next net (count (suc (suc n))) i ≡ Some t
    stay_by t p true asks waits e is h = requests_stay net ok clock (suc n) i p t e waits (unanswered p is)
    stay_by t p false asks waits e is h = absurd (h refl)

    stay : (t : Option Tick) → next net (count (suc n)) i ≡ t → (request_by positions m (act_of_tick t) ≡ Nothing → ⊥) → next net (count (suc (suc n))) i ≡ t
    stay (Some (Did (LoadAct p a))) e h = stay_by (Did (LoadAct p a)) p (is_memory (positions p) m) (Load a) refl e refl h
    stay (Some (Did (StoreAct p a v))) e h = stay_by (Did (StoreAct p a v)) p (is_memory (positions p) m) (Store a v) refl e refl h
    stay _ e h = absurd (h refl)

    held : (request_of program net (count (suc n)) m i ≡ Nothing → ⊥) → request_of program net (count (suc (suc n))) m i ≡ request_of program net (count (suc n)) m i
    held h = ap (λ z. request_by positions m (act_of_tick z)) (stay (next net (count (suc n)) i) refl h)

  holds : (m n : ℕ) (o : Memory) → slice_get program.memories.items m ≡ Some o → (request_at program net (count (suc n)) m ≡ Nothing → ⊥) → answers m (suc n) ≡ false
      → request_at program net (count (suc (suc n))) m ≡ request_at program net (count (suc n)) m
  holds m n o at asked silent = held m n (owner_of (slice_get program.memories.items m)) silent asked

  module _ (nets : ℕ → Path → Cycle) (c : Carries program env clock nets) where
    abbrev top : ℕ → Cycle
    top n = nets n []

    -- ---- from the cycle on in which done is raised

    over : (n m : ℕ) → RaisesDone top n → n ≤ m → HaveJoinedEnded net (count m)
    over zero m d le = (let low : 1 ≤ 0 = d.0 in absurd (omega arith))
    over (suc n) m d le = λ i inside j. ended_later net ok (count (suc n)) (count m) (count_le net clock (suc n) m le) i ((c.done n).0 d i inside j)

    raised : (n : ℕ) → 1 ≤ n → HaveJoinedEnded net (count n) → RaisesDone top n
    raised zero some h = absurd (omega arith)
    raised (suc n) some h = (c.done n).1 h

    stays : (n m : ℕ) → RaisesDone top n → n ≤ m → RaisesDone top m
    stays n m d le = (let some : 1 ≤ n = d.0 in raised m (omega arith) (over n m d le))

    -- ---- streams

    module _ (s : ℕ) (q : Stream) (at : slice_get program.streams.items s ≡ Some q) where
      producer_is : net.producer s ≡ q.producer
      unfolding network_of
      producer_is = ap (end_of (λ (z : Stream). z.producer)) at

      writer_inside : net.producer s < net.size
      writer_inside =
          let j = (w.streams s q at).written in
          let l = slice_get_within program.instances.items q.producer j.instance j.is in
          let e = producer_is in
          let z = size_is in
          omega (arith, l, e, z)

      writer_joined : IsJoined net q.producer → IsJoined net (net.producer s)
      writer_joined j = subst (IsJoined net) (sym producer_is) j

      begins_at : (n : ℕ) → IsKahnPrefix net s (carried_by nets q n)
      begins_at n = subst (IsKahnPrefix net s) (sym (c.streams s n q at)) (is_kahn net ok (count (suc n)) (clock_founded net ok clock (suc n)) s)

      module _ (n m : ℕ) (d : RaisesDone top n) (le : n ≤ m) (joined : IsJoined net q.producer) where
        ended : HasEnded net (count (suc m)) (net.producer s)
        ended = over n (suc m) d (omega arith) (net.producer s) writer_inside (writer_joined joined)

        whole_at : IsKahnStream net s (carried_by nets q m)
        whole_at = subst (IsKahnStream net s) (sym (c.streams s m q at)) (all_of_it net ok (count (suc m)) s ended)

        shows_at : (k : ℕ → ℕ) → HaveJoinedEnded net k → carried_by nets q m ≡ shown net k s
        shows_at k h =
            c.streams s m q at
            ∙ ap (flat_map (put_on s)) (ended_same net ok (count (suc m)) k (net.producer s) ended (h (net.producer s) writer_inside (writer_joined joined)))
            ∙ sym (shown_written net k s (writer_joined joined))

    -- ---- memories

    leaves : (k : ℕ → ℕ) → HaveJoinedEnded net k → (m n l : ℕ) (o : Memory) → slice_get program.memories.items m ≡ Some o → RaisesDone top n → n ≤ l → IsJoined net o.owner
        → cells_at top o.name (slice_index_or env.memories m []) l ≡ cells_of program env.scalars env.memories k m
    leaves k h m n zero o at d le joined = (let some : 1 ≤ n = d.0 in absurd (omega (arith, some, le)))
    leaves k h m n (suc l) o at d le joined =
        c.memories m l o at ∙ ends_leave_alike program w env.scalars env.memories (count (suc l)) k (over n (suc l) d le) h m o at joined

    quiet : (m n l : ℕ) (o : Memory) → slice_get program.memories.items m ≡ Some o → RaisesDone top n → n ≤ l → IsJoined net o.owner → (top l).net (m_we o.name) ≡ 0
    quiet m n zero o at d le joined = (let some : 1 ≤ n = d.0 in absurd (omega (arith, some, le)))
    quiet m n (suc l) o at d le joined =
        subst (ShowsRequest (top (suc l)) o.name) (none_asked (count (suc l)) m o at (over n (suc l) d le o.owner (owner_inside m o at) joined)) (c.asks m l o at)

    -- ---- time

    in_time : (most : ℕ) → ((s : ℕ) → slice_index added s ≤ most) → (bound : ℕ) (k : ℕ → ℕ) → IsDone net bound k
        → (a : ℕ) × IsLeastToEnd net a × ((limit : ℕ) → 1 + a * suc most + lost (all_answer program answers) limit ≤ limit → (n : ℕ) × RaisesDone top n × (n ≤ 1 + a * suc most + lost (all_answer program answers) n))
    in_time most late bound k e =
        let least = least_to_end net ok bound k e in (
          least.0,
          least.1,
          λ limit enough.
              let t = in_time_by net ok clock most (all_answer program answers) late (λ n yes i p. answered_by program w answers n yes i p (slice_get program.instances.items i) refl) least.0 least.1 limit enough in
              (t.0, raised t.0 t.1 t.3, t.2),
        )

    prompt : (late : ℕ) → ((s : ℕ) → slice_index added s ≤ late) → AreAnswered net clock late → (bound : ℕ) (k : ℕ → ℕ) → IsDone net bound k
        → (a : ℕ) × IsLeastToEnd net a × ((n : ℕ) × RaisesDone top n × (n ≤ 1 + a * suc late))
    prompt late short answered bound k e =
        let least = least_to_end net ok bound k e in
        let p = (answered_counts_are_prompt net ok clock late short answered).passes least.1.count least.1.reachable in
        let ended : HaveJoinedEnded net (count p.0) = λ i inside j. ended_later net ok least.1.count (count p.0) p.3 i (least.1.ended i inside j) in
        (least.0, least.1, (p.0, raised p.0 p.1 ended, subst (λ (x : ℕ). p.0 ≤ 1 + x * suc late) least.1.sum p.2))

    gives : Gives program added env answers nets
    gives = record {
      begins = λ s n q at. begins_at s q at n;
      whole = λ s n m q at d le joined. whole_at s q at n m d le joined;
      shows = λ k h s n m q at d le joined. shows_at s q at n m d le joined k h;
      leaves = leaves;
      stays = stays;
      quiet = quiet;
      holds = holds;
      pace = keeps_pace net ok clock;
      in_time = in_time;
      prompt = prompt;
    }

    -- ---- memories that answer what stays

    -- in some of these cycles a bit is true, or in none
    some_or_none : (f : ℕ → Bool) (d n : ℕ) → ((m : ℕ) × (n ≤ m) × (m ≤ n + d) × (f m ≡ true)) ⊎ ((j : ℕ) → n ≤ j → j ≤ n + d → f j ≡ false)
    some_or_none f d n = by d (f (n + d)) refl
      where
        by : (d : ℕ) (b : Bool) → f (n + d) ≡ b → ((m : ℕ) × (n ≤ m) × (m ≤ n + d) × (f m ≡ true)) ⊎ ((j : ℕ) → n ≤ j → j ≤ n + d → f j ≡ false)
        by d true e = inl (n + d, omega arith, omega arith, e)
        by zero false e = inr (λ j low high. let same : n + 0 ≡ j = omega arith in subst (λ z. f z ≡ false) same e)
        by (suc d) false e =
            ⊎_elim
            (λ (some : (m : ℕ) × (n ≤ m) × (m ≤ n + d) × (f m ≡ true)). let high : some.0 ≤ n + d = some.2 in inl (some.0, some.1, omega arith, some.3))
            (λ (none : (j : ℕ) → n ≤ j → j ≤ n + d → f j ≡ false).
            inr (λ j low high.
            ⊎_elim
            (λ (before : j < n + suc d). none j low (omega arith))
            (λ (last : n + suc d ≤ j). let same : n + suc d ≡ j = omega arith in subst (λ z. f z ≡ false) same e)
            (cases_lt j (n + suc d))))
            (by d (f (n + d)) refl)

    -- ports that show one request in two cycles stay as they are
    stays_by : (x : Name) (n j : ℕ) (r : Request) → (r ≡ Nothing → ⊥) → ShowsRequest (top n) x r → ShowsRequest (top j) x r → StaysAsked top x n j
    stays_by x n j Nothing some here there = absurd (some refl)
    stays_by x n j (Load a) some here there =
        record { we = there.0 ∙ sym here.0; addr = there.1 ∙ sym here.1; wdata = λ one. let bad : 0 ≡ 1 = sym here.0 ∙ one in absurd (omega arith) }
    stays_by x n j (Store a v) some here there =
        record { we = there.0 ∙ sym here.0; addr = there.1 ∙ sym here.1; wdata = λ one. there.2 ∙ sym here.2 }

    module _ (late m n : ℕ) (o : Memory) (at : slice_get program.memories.items m ≡ Some o) (asked : request_at program net (count (suc n)) m ≡ Nothing → ⊥)
        (steady : AnswersWhatStays top o.name (answers m) late) where
      -- where it does not answer, it is asked for the same
      same_at : (d : ℕ) → ((j : ℕ) → suc n ≤ j → j ≤ suc n + d → answers m j ≡ false) → request_at program net (count (suc (n + d))) m ≡ request_at program net (count (suc n)) m
      same_at zero silent = ap (λ z. request_at program net (count (suc z)) m) (let z : n + 0 ≡ n = omega arith in z)
      same_at (suc d) silent =
          let h = same_at d (λ j low high. silent j low (omega arith)) in
          let z : suc (n + d) ≡ n + suc d = omega arith in
          subst (λ y. request_at program net (count (suc y)) m ≡ request_at program net (count (suc n)) m) z
          (holds m (n + d) o at (λ none. asked (sym h ∙ none)) (silent (suc (n + d)) (omega arith) (omega arith)) ∙ h)

      stays_at : ((j : ℕ) → suc n ≤ j → j ≤ suc n + late → answers m j ≡ false) → (j : ℕ) → suc n ≤ j → j ≤ suc n + late → StaysAsked top o.name (suc n) j
      stays_at silent j low high =
          let d : ℕ = j - suc n in
          let z : suc (n + d) ≡ j = omega arith in
          let same = same_at d (λ i lo hi. silent i lo (omega arith)) in
          subst (StaysAsked top o.name (suc n)) z
          (stays_by o.name (suc n) (suc (n + d)) (request_at program net (count (suc n)) m) asked (c.asks m n o at)
          (subst (ShowsRequest (top (suc (n + d))) o.name) same (c.asks m (n + d) o at)))

      found : (j : ℕ) × (suc n ≤ j) × (j ≤ suc n + late) × (answers m j ≡ true)
      found =
          ⊎_elim
          (λ (some : (j : ℕ) × (suc n ≤ j) × (j ≤ suc n + late) × (answers m j ≡ true)). some)
          (λ (none : (j : ℕ) → suc n ≤ j → j ≤ suc n + late → answers m j ≡ false). steady (suc n) (omega arith) (stays_at none))
          (some_or_none (answers m) late (suc n))

    module _ (late : ℕ) (steady : (m : ℕ) (o : Memory) → slice_get program.memories.items m ≡ Some o → AnswersWhatStays top o.name (answers m) late) (n i p : ℕ) (t : Tick) (is : next net (count (suc n)) i ≡ Some t) (waits : memory_of t ≡ Some p) where
      abbrev Answered : Type 0
      Answered = (m : ℕ) × (suc n ≤ m) × (m ≤ suc n + late) × (clock.answers i p m ≡ true)

      at_once : clock.answers i p (suc n) ≡ true → Answered
      at_once e = (suc n, omega arith, omega arith, e)

      some_by : (b : Bool) (r : Request) → b ≡ true → (r ≡ Nothing → ⊥) → (if b then r else Nothing) ≡ Nothing → ⊥
      some_by true r e some none = some none
      some_by false r e some none = cc

      asks_by : (u : Tick) → u ≡ t → (bound : ℕ → Option ℕ) (m : ℕ) → bound p ≡ Some m → memory_of u ≡ Some p → request_by bound m (act_of_tick (Some u)) ≡ Nothing → ⊥
      asks_by (Did (LoadAct q a)) e bound m b at none =
          let same : p ≡ q = cc in
          some_by (is_memory (bound q) m) (Load a) (is_the_memory (bound q) m (subst (λ z. bound z ≡ Some m) same b)) (λ bad. cc) none
      asks_by (Did (StoreAct q a v)) e bound m b at none =
          let same : p ≡ q = cc in
          some_by (is_memory (bound q) m) (Store a v) (is_the_memory (bound q) m (subst (λ z. bound z ≡ Some m) same b)) (λ bad. cc) none
      asks_by _ e bound m b at none = cc

      by_position : (x : Instance) → slice_get program.instances.items i ≡ Some x → (o : Option ℕ) → slice_get x.memories.items p ≡ o → Answered
      by_position x at None got = at_once (ap (λ z. bound_answers answers z p (suc n)) at ∙ ap (λ z. answer_of answers z (suc n)) got)
      by_position x at (Some m) got =
          let b = bound_there program w i x at p m got in
          let here : memory_at (slice_get program.instances.items i) p ≡ Some m = ap (λ z. memory_at z p) at ∙ got in
          let owner : i ≡ owner_of (slice_get program.memories.items m) = sym (ap owner_of b.1 ∙ b.2) in
          let asked : request_at program net (count (suc n)) m ≡ Nothing → ⊥ =
          λ none.
          asks_by t refl (memory_at (slice_get program.instances.items i)) m here waits
          (sym (ap (λ z. request_by (memory_at (slice_get program.instances.items i)) m (act_of_tick z)) is) ∙ subst (λ j. request_of program net (count (suc n)) m j ≡ Nothing) (sym owner) none) in
          let f = found late m n b.0 b.1 asked (steady m b.0 b.1) in
          (f.0, f.1, f.2, bound_is answers (slice_get program.instances.items i) p m f.0 here ∙ f.3)

      by_instance : (o : Option Instance) → slice_get program.instances.items i ≡ o → Answered
      by_instance None at = at_once (ap (λ z. bound_answers answers z p (suc n)) at)
      by_instance (Some x) at = by_position x at (slice_get x.memories.items p) refl

    answers_soon : (late : ℕ) → ((m : ℕ) (o : Memory) → slice_get program.memories.items m ≡ Some o → AnswersWhatStays top o.name (answers m) late) → AreAnswered net clock late
    answers_soon late steady zero i p t some is waits = absurd (omega arith)
    answers_soon late steady (suc n) i p t some is waits = by_instance late steady n i p t is waits (slice_get program.instances.items i) refl

pub carrying_gives : CarryingGives
carrying_gives program w added env answers nets c = gives program w added env answers nets c

pub steady_memories_answer : SteadyMemoriesAnswer
steady_memories_answer program w added env answers nets c late steady = answers_soon program w added env answers nets c late steady
