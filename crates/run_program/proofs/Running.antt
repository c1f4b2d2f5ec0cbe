-- How a driven network's end is the program's.
use Rattle.std.proofs.Common.{◌≡◌, ℕ, suc, ◌+◌, ◌<◌, List, [], ◌∷◌, ◌++◌, length, Bool, true, false, Some, refl, sym, ◌∙◌, ap, subst, get_or, add-zero, zero-add, arith}
use Rattle.std.specs.Prelude.{if◌then◌else◌, slice_get, slice_index_or}
use Rattle.std.proofs.lemmas.Option.{slice_get-get_or, slice_get_within}
use Rattle.tapa_syntax.specs.declared.program.Program.{Program}
use Rattle.tapa_syntax.specs.declared.program.Memory.{Memory}
use Rattle.tapa_syntax.specs.declared.program.Stream.{Stream}
use Rattle.tapa_syntax.specs.WellFormed.{IsWellFormed}
use Rattle.kahn_model.specs.Cells.{after_stores, memory_at, owner_of, cells_at}
use Rattle.kahn_model.specs.Counts.{IsReachable}
use Rattle.kahn_model.specs.Ending.{EndsWithin, GoesPast}
use Rattle.kahn_model.specs.Network.{Network}
use Rattle.kahn_model.specs.Outcome as kahn
use Rattle.kahn_model.specs.Outcome.{IsJoined, joined_ticks, HaveJoinedEnded, IsDone, IsStopped}
use Rattle.kahn_model.specs.ProgramNetwork.{end_of}
use Rattle.kahn_model.specs.Start.{network_of}
use Rattle.kahn_model.proofs.Ended.{ended_same}
use Rattle.kahn_model.proofs.Shown.{ends_alike, shown_begins, shown_whole}
use Rattle.kahn_model.proofs.WellFormed.{program_network}
use Rattle.net_core.specs.declared.input.Input.{Input}
use Rattle.net_core.specs.declared.net_state.NetState.{NetState}
use Rattle.net_core.specs.Bindings.{detached_at}
use Rattle.net_core.specs.Bounded.{network_on, Values, values_of}
use Rattle.net_core.specs.State as state
use Rattle.net_core.specs.Settle.{EndsAs}
use Rattle.net_core.specs.declared.outcome.Outcome.{Outcome}
use Rattle.net_core.specs.declared.outcome.Outcome.TheVariants as outcome
use Rattle.run_program.specs.Fresh.{IsFresh}
use Rattle.run_data.specs.declared.lines.Last.{Last}
use Rattle.run_data.specs.declared.lines.Last.TheVariants.{Done, Stopped}
use Rattle.run_data.specs.Report.{stream_line, memory_line, last_line}
use Rattle.run_program.specs.Run.{network, ticks_of, tokens_at, cells_shown, stream_lines, memory_lines, report_of, AreWaitLines, DoneRun, StoppedRun, LimitRun}
use Rattle.run_data.specs.Lines.{lines_from}

-- the net's network is the program's on its input
pub network_is : (program : Program) (input : Input) (net : NetState) → net.program ≡ program → net.input ≡ input → state.network net ≡ network program (values_of input)
network_is program input net p n = ap (λ (q : Program). network_on q net.input) p ∙ ap (λ (i : Input). network_on program i) n

module _ (program : Program) (values : Values) where
  pub size_of : (network program values).size ≡ length program.instances.items
  unfolding network_of
  size_of = refl

  producer_of : (s : ℕ) → (network program values).producer s ≡ end_of (λ (r : Stream). r.producer) (slice_get program.streams.items s)
  unfolding network_of
  producer_of s = refl

  consumer_of : (s : ℕ) → (network program values).consumer s ≡ end_of (λ (r : Stream). r.consumer) (slice_get program.streams.items s)
  unfolding network_of
  consumer_of s = refl

  detached_of : (i : ℕ) → (network program values).detached i ≡ detached_at program i
  unfolding network_of
  detached_of i = refl

  -- a stream that is there has a producer and a consumer that are there
  producer_inside : IsWellFormed program → (s : ℕ) (r : Stream) → slice_get program.streams.items s ≡ Some r → (network program values).producer s < (network program values).size
  producer_inside w s r at =
      let joined = (w.streams s r at).written in
      let inside = slice_get_within program.instances.items r.producer joined.instance joined.is in
      let is : (network program values).producer s ≡ r.producer = producer_of s ∙ ap (end_of (λ (x : Stream). x.producer)) at in
      omega (arith, inside, is, size_of)

  consumer_inside : IsWellFormed program → (s : ℕ) (r : Stream) → slice_get program.streams.items s ≡ Some r → (network program values).consumer s < (network program values).size
  consumer_inside w s r at =
      let joined = (w.streams s r at).read in
      let inside = slice_get_within program.instances.items r.consumer joined.instance joined.is in
      let is : (network program values).consumer s ≡ r.consumer = consumer_of s ∙ ap (end_of (λ (x : Stream). x.consumer)) at in
      omega (arith, inside, is, size_of)

  -- a memory that is there has an owner that is there
  owner_inside : IsWellFormed program → (m : ℕ) (r : Memory) → slice_get program.memories.items m ≡ Some r → owner_of (slice_get program.memories.items m) < (network program values).size
  owner_inside w m r at =
      let owned = w.memories m r at in
      let inside = slice_get_within program.instances.items r.owner owned.instance owned.is in
      let is : owner_of (slice_get program.memories.items m) ≡ r.owner = ap owner_of at in
      omega (arith, inside, is, size_of)

pub there : (xs : List Stream) (s : ℕ) → s < length xs → (r : Stream) × (slice_get xs s ≡ Some r)
there [] s h = absurd (omega arith)
there (x ∷ xs) s h = (get_or (x ∷ xs) s x, slice_get-get_or (x ∷ xs) s x h)

module _ (program : Program) (values : Values) (w : IsWellFormed program) (N : Network) (same : N ≡ network program values) (k : ℕ → ℕ) (t limit : ℕ) (ticks : t ≡ joined_ticks N k) where
  t_is : t ≡ ticks_of program values k
  t_is = ticks ∙ ap (λ (M : Network). joined_ticks M k) same

  -- the report whose last line tells these ticks
  told : (last : ℕ → Last) → report_of program values k (last t) ≡ report_of program values k (last (ticks_of program values k))
  told last = ap (λ (n : ℕ). report_of program values k (last n)) t_is

  pub done_run : IsDone N limit k → DoneRun program values limit (report_of program values k (Done t))
  done_run d =
      let done : IsDone (network program values) limit k = subst (λ (M : Network). IsDone M limit k) same d in
      let ok = program_network program w values.scalars values.memories in
      record {
        count = k;
        done = done;
        front = λ s h. shown_begins (network program values) ok k done.greatest.reachable s;
        whole = λ s h joined.
            let r = there program.streams.items s h in
            shown_whole (network program values) ok k done.ended s (producer_inside program values w s r.0 r.1) joined;
        shown = told Done;
      }

  pub stopped_run : IsStopped N limit k → (lines : List (List ℕ)) → AreWaitLines N k program.streams.items 0 program.instances.items lines → StoppedRun program values limit (report_of program values k (Stopped t)) lines
  stopped_run d lines waits = record {
    count = k;
    stopped = subst (λ (M : Network). IsStopped M limit k) same d;
    shown = told Stopped;
    waits = subst (λ (M : Network). AreWaitLines M k program.streams.items 0 program.instances.items lines) same waits;
  }

-- ---- a report where every joined instance has ended is that of the greatest count

-- lines that are the same one by one
lines_same : {A : Type 0} (f g : A → ℕ → List ℕ) (n : ℕ) (xs : List A) → ((i : ℕ) (x : A) → slice_get xs i ≡ Some x → f x (n + i) ≡ g x (n + i)) → lines_from f n xs ≡ lines_from g n xs
lines_same f g n [] h = refl
lines_same {A} f g n (x ∷ xs) h =
    let first : f x n ≡ g x n = subst (λ (m : ℕ). f x m ≡ g x m) (add-zero n) (h 0 x refl) in
    let rest : lines_from f (suc n) xs ≡ lines_from g (suc n) xs =
    lines_same f g (suc n) xs (λ i y at. let next : n + suc i ≡ suc n + i = omega arith in subst (λ (m : ℕ). f y m ≡ g y m) next (h (suc i) y at)) in
    ap (λ (l : List ℕ). l ++ lines_from f (suc n) xs) first ∙ ap (λ (l : List ℕ). g x n ++ l) rest

same_if : (b : Bool) (f a c : List ℕ) → (b ≡ false → a ≡ c) → (if b then f else a) ≡ (if b then f else c)
same_if true f a c h = refl
same_if false f a c h = h refl

module _ (program : Program) (values : Values) (w : IsWellFormed program) (k g : ℕ → ℕ) (rk : IsReachable (network program values) k) (rg : IsReachable (network program values) g) (hk : HaveJoinedEnded (network program values) k) (hg : HaveJoinedEnded (network program values) g) where
  abbrev N : Network
  N = network program values

  pub streams_same : (s : ℕ) (r : Stream) → slice_get program.streams.items s ≡ Some r → kahn.shown N k s ≡ kahn.shown N g s
  streams_same s r at =
      (ends_alike N (program_network program w values.scalars values.memories) k g rk rg hk hg).tokens s (producer_inside program values w s r at) (consumer_inside program values w s r at)

  cells_same : (t u m : ℕ) (r : Memory) → slice_get program.memories.items m ≡ Some r → cells_shown program values k (Done t) m ≡ cells_shown program values g (Done u) m
  cells_same t u m r at =
      let owner = owner_of (slice_get program.memories.items m) in
      same_if (detached_at program owner) (slice_index_or values.memories m []) (cells_at program values.scalars values.memories k m) (cells_at program values.scalars values.memories g m)
      (λ waited.
      let inside = owner_inside program values w m r at in
      let joined : IsJoined N owner = detached_of program values owner ∙ waited in
      ap (after_stores (memory_at (slice_get program.instances.items owner)) m (slice_index_or values.memories m []))
      (ended_same N (program_network program w values.scalars values.memories) k g owner (hk owner inside joined) (hg owner inside joined)))

  pub ticks_same : ticks_of program values k ≡ ticks_of program values g
  ticks_same = (ends_alike N (program_network program w values.scalars values.memories) k g rk rg hk hg).ticks

  pub reports_same : (t : ℕ) → t ≡ ticks_of program values k → report_of program values k (Done t) ≡ report_of program values g (Done (ticks_of program values g))
  reports_same t e =
      let u = ticks_of program values g in
      ap (λ (l : List ℕ). (l ++ memory_lines (cells_shown program values k (Done t)) 0 program.memories.items) ++ last_line (Done t))
      (lines_same (λ (r : Stream) n. stream_line r.label (tokens_at N k (Done t) n)) (λ (r : Stream) n. stream_line r.label (tokens_at N g (Done u) n)) 0 program.streams.items
      (λ i r at. ap (stream_line r.label) (streams_same (0 + i) r (subst (λ (j : ℕ). slice_get program.streams.items j ≡ Some r) (sym (zero-add i)) at))))
      ∙ ap (λ (l : List ℕ). (stream_lines (tokens_at N g (Done u)) 0 program.streams.items ++ l) ++ last_line (Done t))
      (lines_same (λ (r : Memory) n. memory_line r.name (cells_shown program values k (Done t) n)) (λ (r : Memory) n. memory_line r.name (cells_shown program values g (Done u) n)) 0 program.memories.items
      (λ i r at. ap (memory_line r.name) (cells_same t u (0 + i) r (subst (λ (j : ℕ). slice_get program.memories.items j ≡ Some r) (sym (zero-add i)) at))))
      ∙ ap (λ (n : ℕ). (stream_lines (tokens_at N g (Done u)) 0 program.streams.items ++ memory_lines (cells_shown program values g (Done u)) 0 program.memories.items) ++ last_line (Done n)) (e ∙ ticks_same)

-- a run that ends within the limit is done wherever its joined instances have ended
pub done_from : (program : Program) (values : Values) → IsWellFormed program → (k : ℕ → ℕ) (t limit : ℕ) → IsReachable (network program values) k → HaveJoinedEnded (network program values) k → t ≡ ticks_of program values k → EndsWithin (network program values) limit → DoneRun program values limit (report_of program values k (Done t))
done_from program values w k t limit reach ended ticks ends =
    let g = ends.0 in
    subst (DoneRun program values limit) (sym (reports_same program values w k g reach ends.1.greatest.reachable ended ends.1.ended t ticks))
    (done_run program values w (network program values) refl g (ticks_of program values g) limit refl ends.1)

pub limit_run : (program : Program) (values : Values) (N : Network) → N ≡ network program values → (limit : ℕ) → GoesPast N limit → LimitRun program values limit
limit_run program values N same limit h = subst (λ (M : Network). GoesPast M limit) same h

module _ (program : Program) (input : Input) (old new : NetState) (limit : ℕ) (o : Outcome) (fresh : IsFresh program input old) (p : new.program ≡ old.program) (n : new.input ≡ old.input) where
  pub same_network : state.network new ≡ network program (values_of input)
  same_network = network_is program input new (p ∙ fresh.program_is) (n ∙ fresh.input_is)

  pub done_report : (t : ℕ) → IsReachable (state.network new) (state.count new) → EndsAs new limit o → o ≡ outcome.Done t → DoneRun program (values_of input) limit (report_of program (values_of input) (state.count new) (Done t))
  done_report t reach ends is =
      let e : EndsAs new limit (outcome.Done t) = subst (λ (x : Outcome). EndsAs new limit x) is ends in
      let k = state.count new in
      done_from program (values_of input) fresh.well_formed k t limit
      (subst (λ (M : Network). IsReachable M k) same_network reach)
      (subst (λ (M : Network). HaveJoinedEnded M k) same_network e.1)
      (e.2 ∙ ap (λ (M : Network). joined_ticks M k) same_network)
      (subst (λ (M : Network). EndsWithin M limit) same_network e.0)

  pub stopped_report : (t : ℕ) → EndsAs new limit o → o ≡ outcome.Stopped t → (lines : List (List ℕ)) → AreWaitLines (state.network new) (state.count new) program.streams.items 0 program.instances.items lines → StoppedRun program (values_of input) limit (report_of program (values_of input) (state.count new) (Stopped t)) lines
  stopped_report t ends is lines waits =
      let e : EndsAs new limit (outcome.Stopped t) = subst (λ (x : Outcome). EndsAs new limit x) is ends in
      stopped_run program (values_of input) fresh.well_formed (state.network new) same_network (state.count new) t limit e.1 e.0 lines waits

  pub limit_past : EndsAs new limit o → o ≡ outcome.Limit → LimitRun program (values_of input) limit
  limit_past ends is = limit_run program (values_of input) (state.network new) same_network limit (subst (λ (x : Outcome). EndsAs new limit x) is ends)
