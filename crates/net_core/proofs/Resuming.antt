-- A call of one instance of a net.
use Rattle.std.proofs.Common.{◌≡◌, ℕ, ◌+◌, ◌-◌, ◌<◌, ◌≤◌, ◌^◌, List, ◌++◌, length, map, take, drop, get_or, ◌⊎◌, inl, inr, Bool, true, false, Option, Some, refl, sym, ap, ◌∙◌, subst, ⊎_elim, arith, length-append, length-drop}
use Rattle.std.specs.Prelude.{slice_get, slice_index, slice_set, flat_map, ◌==◌, ◌&&◌, nat_lt, if◌then◌else◌}
use Rattle.std.proofs.Math.Path.{fun_ext}
use Rattle.std.proofs.lemmas.Bool.{cases_lt, cases_eq}
use Rattle.std.proofs.lemmas.Bool.Decides.{nat_tests}
use Rattle.std.proofs.lemmas.List.{length-set, length-map, length-take-le, get_or-set_same, get_or-set_other}
use Rattle.std.proofs.lemmas.Option.{slice_get_within, slice_get-get_or, slice_get_read, get_or_from_slice_get}
use Rattle.kahn_model.specs.declared.tick.Tick.{Tick}
use Rattle.tapa_syntax.specs.declared.program.Program.{Program}
use Rattle.kahn_model.specs.Behavior.{Behavior}
use Rattle.kahn_model.specs.Network.{Network, IsNetwork, put_on, take_from}
use Rattle.kahn_model.specs.Counts.{written, taken, IsAllowed, IsReachable, IsFounded}
use Rattle.tapa_base.specs.declared.token.Token.{Token}
use Rattle.kahn_model.specs.Prefix.{IsPrefixOf}
use Rattle.kahn_model.proofs.Order.{prefix_length, prefix_flat_map}
use Rattle.kahn_model.proofs.Count.{made_le}
use Rattle.kahn_model.proofs.Reach.{reach_founded}
use Rattle.net_core.specs.declared.ports.Ports.{Ports}
use Rattle.net_core.specs.declared.streams.Streams.{Streams}
use Rattle.net_core.specs.declared.body.Pause.{Pause}
use Rattle.net_core.specs.declared.body.Pause.TheVariants.{Fuel}
use Rattle.net_core.specs.Ports.{waiting, ends_of, ends_by, carried_by, waiting_by, room_by, ends_in, carried_of, waiting_of}
use Rattle.net_core.specs.declared.input.Input.{Input}
use Rattle.net_core.specs.Job.{Job}
use Rattle.net_core.specs.Resume.{CanResume, Agrees, Resumed}
use Rattle.net_core.specs.Waits.{HoldsPause, HasHeld}
use Rattle.net_core.specs.Placement.{tick_at, IsPlaced, IsStanding, PortsAre}
use Rattle.net_core.specs.Bindings.{IsConnected, IsReader, IsFedBySelf, TellsFedBySelf, arity, ends_at, stream_at, Reads, Writes, producer_of, consumer_of}
use Rattle.net_core.specs.Bounded.{network_on, instance_job, IsBodyAt, count_of, AreBound, HaveAnswered, IsNetAt}
use Rattle.net_core.specs.State.{HasResumed, IsToldFor}
use Rattle.net_core.specs.Load.{HasTables, HasPorts, AreKept, ChangesTaken, AreLoaded, AreQueued, list_at}
use Rattle.net_core.proofs.Moves.{drop_sum, get_set_same, get_set_other, set_some, set_none, test_true, test_false}
use Rattle.net_core.proofs.Loaded.{in_streams, producer_in, list_kept}
use Rattle.net_core.proofs.Queued.{queued_lists, take_longer, drop_again}
use Rattle.net_core.proofs.Lasting.{lasts, decide_fuel}
use Rattle.net_core.proofs.Chunk.{plus, plus_none, plus_other, Chunk}
use Rattle.kahn_model.proofs.Taken.{taken_begins}
use Rattle.net_core.proofs.Stepped.{plus_above, standing_other, holds_other, agrees, stepped, standing, carried_after, taken_after, written_else, taken_else, took_count, holds, goes_on}
use Rattle.net_core.proofs.Cases.{at_or}

pub count_set : (counts : List ℕ) (i v m : ℕ) → i < length counts → v ≡ slice_index counts i + m → (j : ℕ) → count_of (slice_set counts i v) j ≡ (if j == i then count_of counts j + m else count_of counts j)
count_set counts i v m l e j =
    ⊎_elim
    (λ (q : j ≡ i). let a = get_or-set_same counts i v 0 l in let b = test_true j i q in
    subst (λ z. count_of (slice_set counts i v) z ≡ (if z == i then count_of counts z + m else count_of counts z)) (sym q)
    (a ∙ e ∙ ap (λ (t : Bool). if t then count_of counts i + m else count_of counts i) (sym (test_true i i refl))))
    (λ (d : j ≡ i → ⊥). get_or-set_other counts i j v 0 d ∙ ap (λ (t : Bool). if t then count_of counts j + m else count_of counts j) (sym (test_false j i d)))
    (cases_eq j i)

-- what is kept of an answer
pub told_for : (program : Program) (i many made : ℕ) (b : Bool) → TellsFedBySelf program i b → (pause told : Pause) → many ≡ made → told ≡ (if b && nat_lt 0 made then Fuel else pause) → IsToldFor program i many pause told
told_for program i many made true tells pause told e h =
    ⊎_elim
    (λ (some : 0 < made).
    let is : told ≡ Fuel = grind (arith, nat_tests) in
    record { cases = inr (tells, omega arith, is); fed = λ d l. is })
    (λ (none : made ≤ 0).
    let is : told ≡ pause = grind (arith, nat_tests) in
    record { cases = inl is; fed = λ d l. absurd (omega arith) })
    (cases_lt 0 made)
told_for program i many made false tells pause told e h = record { cases = inl h; fed = λ d l. absurd (tells d.writes_at d.reads_at d.writes d.reads d.same) }

-- the body of instance i is called, with its ports loaded
pub record IsCalled {B : Type 0} (program : Program) (bodies : List B) (t : Streams) (i : ℕ) (full : Streams) (x : Ports) (b : B) : Type 0 where
  pub inside : i < length program.instances.items
  pub kept : AreKept t full
  pub ready : HasPorts program full
  pub loaded : AreLoaded program (arity program i) i t full
  pub ports_at : slice_get full.ports.items i ≡ Some x
  pub body_at : slice_get bodies i ≡ Some b

-- the call changed the ports of its instance alone
pub record ChangesPorts (full : Streams) (i : ℕ) (y : Ports) (m : Streams) : Type 0 where
  pub ports : m.ports.items ≡ slice_set full.ports.items i y
  pub writers : m.writers.items ≡ full.writers.items
  pub offered : m.offered.items ≡ full.offered.items
  pub taken : m.taken.items ≡ full.taken.items

-- what is written down after the call, which made `made` ticks: the tokens taken, the ticks, and what is kept of the answer
pub record IsCounted (program : Program) (full : Streams) (counts : List ℕ) (pauses : List (Option Pause)) (i made : ℕ) (pause : Pause) (y : Ports) (t' : Streams) (c' : List ℕ) (pauses' : List (Option Pause)) (told : Pause) : Type 0 where
  pub ports : t'.ports.items ≡ slice_set full.ports.items i y
  pub writers : t'.writers.items ≡ full.writers.items
  pub offered : t'.offered.items ≡ full.offered.items
  pub taken_len : length t'.taken.items ≡ length full.taken.items
  pub counts_len : length c' ≡ length counts
  pub pauses_len : length pauses' ≡ length pauses
  pub ticks : (j : ℕ) → count_of c' j ≡ (if j == i then count_of counts j + made else count_of counts j)
  pub took : (p : ℕ) → Reads program i p → slice_index t'.taken.items (stream_at program i p) ≡ slice_index full.offered.items (stream_at program i p) - length (waiting y p)
  pub others : (s : ℕ) → ((p : ℕ) → Reads program i p → stream_at program i p ≡ s → ⊥) → slice_index t'.taken.items s ≡ slice_index full.taken.items s
  pub is_told : IsToldFor program i made pause told
  pub answer : pauses' ≡ slice_set pauses i (Some told)

module _ {B : Type 0} {Stands : B → Job → List Tick → Type 0} {program : Program} {input : Input} {bodies : List B} {t : Streams} {fed : List Bool} {counts : List ℕ} {pauses : List (Option Pause)} (n : IsNetAt Stands program input bodies t fed counts pauses) where
  abbrev pub connected : IsConnected program
  connected = n.connected

  abbrev pub net : Network
  net = network_on program input

  abbrev pub is_network : IsNetwork (network_on program input)
  is_network = n.network.is_network

  abbrev pub job_at : ℕ → ℕ → Behavior
  job_at i = (instance_job program input i).behavior

  founded : IsFounded net (count_of counts)
  founded = reach_founded net (count_of counts) n.reachable

  pub list_is : (s : ℕ) → s < length program.streams.items → list_at program t s ≡ written net (count_of counts) s
  list_is s l =
      let w = n.writer_is s l in
      n.carries (producer_of program s) (slice_index t.writers.items s) (producer_in program connected s l) w.0
      ∙ ap (written net (count_of counts)) w.1

  pub has_ports : HasPorts program t
  has_ports = record {
    tables = n.tables;
    writers_len = n.writers_len;
    writer_is = n.writer_is;
    queued = queued_lists program connected t (written net (count_of counts)) (list_at program t) (λ s l. sym (list_is s l)) n.queued;
  }

  -- lists are the same after loading
  loaded_list : (full : Streams) → AreKept t full → (s : ℕ) → s < length program.streams.items → list_at program full s ≡ written net (count_of counts) s
  loaded_list full kept s inside = list_kept program t full kept s ∙ list_is s inside

  pub loaded_net : {full : Streams} → AreKept t full → HasPorts program full → IsNetAt Stands program input bodies full fed counts pauses
  loaded_net {full} kept ready = record {
    given = n.given;
    bound = subst (λ w. AreBound program w fed) (sym kept.writers) n.bound;
    answered = n.answered;
    reachable = n.reachable;
    bodies_len = n.bodies_len;
    tables = ready.tables;
    queued = queued_lists program connected full (list_at program full) (written net (count_of counts)) (loaded_list full kept) ready.queued;
    standing = n.standing;
    carries = λ j p g d. kept.carries j p ∙ n.carries j p g d;
    took = λ s g. ap (λ z. slice_index z s) kept.taken ∙ n.took s g;
  }

  module _ {i : ℕ} {full : Streams} {x : Ports} {b : B} (called : IsCalled program bodies t i full x b) where
    open called use {inside, kept, ready, loaded, ports_at as ex, body_at as eb}

    pub ports_are : PortsAre net (count_of counts) x (stream_at program i) (Reads program i) (Writes program i)
    ports_are = record {
      waits = λ p d.
          let s = stream_at program i p in
          let l = in_streams program connected i p inside d.0 in
          ap (λ o. waiting_by o p) (sym ex) ∙ (loaded p d.0).waits d
          ∙ ap (λ m. drop m (list_at program t s)) (n.took s l)
          ∙ ap (drop (length (taken net (count_of counts) s))) (list_is s l);
      room = λ p d.
          let s = stream_at program i p in
          let l = in_streams program connected i p inside d.0 in
          ap (λ o. room_by o p) (sym ex) ∙ (loaded p d.0).room d
          ∙ ap (λ m. m - (length (carried_of t.ports.items i p) - slice_index t.taken.items s)) (sym (n.network.depth s))
          ∙ ap (λ m. net.depth s - (m - slice_index t.taken.items s)) (ap length (n.carries i p inside d))
          ∙ ap (λ m. net.depth s - (length (written net (count_of counts) s) - m)) (n.took s l);
    }

    abbrev pub st : IsBodyAt (Stands b) program input counts i
    st = n.standing i b eb

    pub ends_are : ends_of x ≡ (instance_job program input i).ends
    ends_are = ap ends_by (sym ex) ∙ kept.ends i ∙ n.ends i inside ∙ sym (n.network.ends i)

    pub agrees_at : Agrees (instance_job program input i).behavior st.ticks x
    agrees_at = agrees net is_network (count_of counts) n.reachable i (job_at i) (stream_at program i) (Reads program i) (Writes program i) (n.network.placed i inside) (Stands b (instance_job program input i)) st x ports_are

    pub can_resume : (fuel : ℕ) → count_of counts i + fuel < 2 ^ 64 → CanResume (Stands b) x fuel
    can_resume fuel l = record {
      job = instance_job program input i;
      ticks = st.ticks;
      stands = st.stands;
      ends = ends_are;
      agrees = agrees_at;
      fits = let c = st.count in omega arith;
    }

    -- by what the call of the body ensures
    pub by_call : {b' : B} {fuel made : ℕ} {pause : Pause} {y : Ports} → ((job : Job) (ts : List Tick) → Stands b job ts → ends_of x ≡ job.ends → Agrees job.behavior ts x → (h : Resumed (Stands b' job) job.behavior ts x fuel pause y) × (length h.made ≡ made)) → (h : Resumed (Stands b' (instance_job program input i)) (instance_job program input i).behavior st.ticks x fuel pause y) × (length h.made ≡ made)
    by_call e = e (instance_job program input i) st.ticks st.stands ends_are agrees_at

    -- by what was read and written after it
    pub counted : {old made many : ℕ} {own : Bool} {pause told : Pause} {y : Ports} {m t' : Streams} → ChangesPorts full i y m → many ≡ made → old ≡ get_or counts i old → own ≡ get_or fed i own → told ≡ (if own && nat_lt 0 made then Fuel else pause) → ChangesTaken m t' → ((p : ℕ) → Reads program i p → slice_index t'.taken.items (stream_at program i p) ≡ slice_index m.offered.items (stream_at program i p) - length (waiting_of m.ports.items i p)) → ((s : ℕ) → ((p : ℕ) → Reads program i p → stream_at program i p ≡ s → ⊥) → slice_index t'.taken.items s ≡ slice_index m.taken.items s) → IsCounted program full counts pauses i many pause y t' (slice_set counts i (old + made)) (slice_set pauses i (Some told)) told
    counted {old} {made} {many} {own} {pause} {told} {y} {m} back e read fed_at told_is same took others =
        let lc = n.counts_len in
        let lf = n.fed_len in
        let here = inside in
        let inc : i < length counts = omega arith in
        let o = get_or_from_slice_get counts i old 0 (slice_get_read counts _ i old refl inc read) in
        record {
          ports = same.ports ∙ back.ports;
          writers = same.writers ∙ back.writers;
          offered = same.offered ∙ back.offered;
          taken_len = same.taken_len ∙ ap length back.taken;
          counts_len = length-set counts i _;
          pauses_len = length-set pauses i _;
          ticks = count_set counts i _ many inc (omega arith);
          took = λ p d.
              took p d ∙ ap (λ z. slice_index z (stream_at program i p) - length (waiting_of m.ports.items i p)) back.offered
              ∙ ap (λ z. slice_index full.offered.items (stream_at program i p) - length (waiting_of z i p)) back.ports
              ∙ ap (λ v. slice_index full.offered.items (stream_at program i p) - length (waiting_by v p)) (get_set_same full.ports.items i y (slice_get_within full.ports.items i x ex));
          others = λ s d. others s d ∙ ap (λ z. slice_index z s) back.taken;
          is_told = told_for program i many made own (n.fed i own (slice_get_read fed _ i own refl (omega arith) fed_at)) pause told e told_is;
          answer = refl;
        }

    -- after the call
    module _ {b' : B} {fuel : ℕ} {pause : Pause} {y : Ports} (h : Resumed (Stands b' (instance_job program input i)) (instance_job program input i).behavior st.ticks x fuel pause y) where
      abbrev k : ℕ → ℕ
      k = count_of counts

      abbrev f : ℕ → ℕ
      f = stream_at program i

      abbrev plug : IsPlaced net i (job_at i) f (Reads program i) (Writes program i)
      plug = n.network.placed i inside

      abbrev later : ℕ → ℕ
      later = plus i (length h.made) k

      there : i < length full.ports.items
      there = slice_get_within full.ports.items i x ex

      chunk_is : Chunk net k i (map (tick_at f) h.made) later
      chunk_is = stepped net is_network k n.reachable i (job_at i) f (Reads program i) (Writes program i) plug (Stands b (instance_job program input i)) st x ports_are (Stands b' (instance_job program input i)) fuel pause y h

      other_same : (j : ℕ) → (j ≡ i → ⊥) → later j ≡ k j
      other_same j d = plus_other i (length h.made) j k d

      enough : (p : ℕ) → Reads program i p → length (waiting y p) ≤ slice_index full.offered.items (f p)
      enough p d =
          let s = f p in
          let l = in_streams program connected i p inside d.0 in
          let a = (loaded p d.0).offers d in
          let bl = ap length (list_is s l) in
          let c = took_count net is_network k n.reachable i (job_at i) f (Reads program i) (Writes program i) plug (Stands b (instance_job program input i)) st x ports_are (Stands b' (instance_job program input i)) fuel pause y h p in
          let w = ap length (ports_are.waits p d) in
          let e = length-drop (length (taken net k s)) (written net k s) in
          omega arith

      pub enough_back : (p : ℕ) → Reads program i p → length (waiting_of (slice_set full.ports.items i y) i p) ≤ slice_index full.offered.items (f p)
      enough_back p d = subst (λ o. length (waiting_by o p) ≤ slice_index full.offered.items (f p)) (sym (get_set_same full.ports.items i y there)) (enough p d)

      took_here : (now : List ℕ) (p : ℕ) → Reads program i p → slice_index now (f p) ≡ slice_index full.offered.items (f p) - length (waiting y p) → slice_index now (f p) ≡ length (taken net later (f p))
      took_here now p d e =
          let s = f p in
          let l = in_streams program connected i p inside d.0 in
          let a = (loaded p d.0).offers d in
          let bl = ap length (list_is s l) in
          let c = took_count net is_network k n.reachable i (job_at i) f (Reads program i) (Writes program i) plug (Stands b (instance_job program input i)) st x ports_are (Stands b' (instance_job program input i)) fuel pause y h p in
          let w = ap length (ports_are.waits p d) in
          let g = length-drop (length (taken net k s)) (written net k s) in
          let u = ap length (taken_after net is_network k n.reachable i (job_at i) f (Reads program i) (Writes program i) plug (Stands b (instance_job program input i)) st x ports_are (Stands b' (instance_job program input i)) fuel pause y h p d) in
          let v = length-append (taken net k s) (flat_map (take_from p) h.made) in
          let z = prefix_length _ _ (taken_begins net is_network k founded s) in
          omega arith

      took_all : (now : List ℕ) → ((p : ℕ) → Reads program i p → slice_index now (f p) ≡ slice_index full.offered.items (f p) - length (waiting y p)) → ((s : ℕ) → ((p : ℕ) → Reads program i p → f p ≡ s → ⊥) → slice_index now s ≡ slice_index full.taken.items s) → (s : ℕ) → s < length program.streams.items → slice_index now s ≡ length (taken net later s)
      took_all now tk to s l =
          ⊎_elim
          (λ (e : net.consumer s ≡ i).
          let r = subst (λ z. (p : ℕ) × IsReader program s z p) (sym (n.network.consumer s) ∙ e) (connected.read_at s l) in
          subst (λ z. slice_index now z ≡ length (taken net later z)) r.1.1 (took_here now r.0 r.1.0 (tk r.0 r.1.0)))
          (λ (d : net.consumer s ≡ i → ⊥).
          let none : (p : ℕ) → Reads program i p → f p ≡ s → ⊥ = λ p w q. d (subst (λ z. net.consumer z ≡ i) q (plug.reader p w)) in
          to s none ∙ ap (λ z. slice_index z s) kept.taken ∙ n.took s l
          ∙ sym (ap length (taken_else net is_network k n.reachable i (job_at i) f (Reads program i) (Writes program i) plug (Stands b (instance_job program input i)) st x ports_are (Stands b' (instance_job program input i)) fuel pause y h s none)))
          (cases_eq (net.consumer s) i)

      standing_all : (j : ℕ) (c : B) → slice_get (slice_set bodies i b') j ≡ Some c → IsStanding (Stands c (instance_job program input j)) net later j (job_at j) (stream_at program j)
      standing_all j c e =
          ⊎_elim
          (λ (q : i ≡ j).
          let e' : slice_get (slice_set bodies i b') i ≡ Some c = subst (λ z. slice_get (slice_set bodies i b') z ≡ Some c) (sym q) e in
          let g = get_set_same bodies i b' (slice_get_within bodies i b eb) in
          let same : b' ≡ c = cc in
          subst (λ z. IsStanding (Stands c (instance_job program input z)) net later z (job_at z) (stream_at program z)) q
          (subst (λ z. IsStanding (Stands z (instance_job program input i)) net later i (job_at i) f) same
          (standing net is_network k n.reachable i (job_at i) f (Reads program i) (Writes program i) plug (Stands b (instance_job program input i)) st x ports_are (Stands b' (instance_job program input i)) fuel pause y h)))
          (λ (d : i ≡ j → ⊥).
          standing_other net is_network k later i (map (tick_at f) h.made) chunk_is (plus_above i (length h.made) k) other_same (Stands c (instance_job program input j)) j (job_at j) (stream_at program j) (λ q. d (sym q))
          (n.standing j c (sym (get_set_other bodies i j b' d) ∙ e)))
          (cases_eq i j)

      ends_all : (j : ℕ) → j < length program.instances.items → ends_in (slice_set full.ports.items i y) j ≡ ends_at program j
      ends_all j l =
          at_or (λ z. ends_in (slice_set full.ports.items i y) z ≡ ends_at program z) i j
          (ap ends_by (get_set_same full.ports.items i y there) ∙ h.moved.ends ∙ ap ends_by (sym ex) ∙ kept.ends i ∙ n.ends i inside)
          (λ d. ap ends_by (get_set_other full.ports.items i j y d) ∙ kept.ends j ∙ n.ends j l)

      pub tables_back : {m : Streams} → ChangesPorts full i y m → HasTables program m
      tables_back {m} back = record {
        ports_len = ap length back.ports ∙ length-set full.ports.items i y ∙ ready.ports_len;
        offered_len = ap length back.offered ∙ ready.offered_len;
        taken_len = ap length back.taken ∙ ready.taken_len;
        ends = λ j l. ap (λ ps. ends_in ps j) back.ports ∙ ends_all j l;
      }

      carries_all : (j p : ℕ) → j < length program.instances.items → Writes program j p → carried_of (slice_set full.ports.items i y) j p ≡ written net later (stream_at program j p)
      carries_all j p l d =
          at_or (λ z. Writes program z p → carried_of (slice_set full.ports.items i y) z p ≡ written net later (stream_at program z p)) i j
          (λ d'.
          ap (λ o. carried_by o p) (get_set_same full.ports.items i y there) ∙ h.moved.puts p
          ∙ ap (λ z. z ++ flat_map (put_on p) h.made) (ap (λ o. carried_by o p) (sym ex) ∙ kept.carries i p ∙ n.carries i p inside d')
          ∙ sym (carried_after net is_network k n.reachable i (job_at i) f (Reads program i) (Writes program i) plug (Stands b (instance_job program input i)) st x ports_are (Stands b' (instance_job program input i)) fuel pause y h p d'))
          (λ w _.
          let s = stream_at program j p in
          let own = (n.network.placed j l).writer p d in
          ap (λ o. carried_by o p) (get_set_other full.ports.items i j y w) ∙ kept.carries j p ∙ n.carries j p l d
          ∙ ap (flat_map (put_on s)) (sym (chunk_is.other (net.producer s) (λ e. w (sym e ∙ own))))) d

      module _ {t' : Streams} {c' : List ℕ} {pauses' : List (Option Pause)} {told : Pause} (after : IsCounted program full counts pauses i (length h.made) pause y t' c' pauses' told) where
        open after use {taken_len as len', counts_len as clen', pauses_len as plen', ticks as ec, took as tk, others as to, is_told, answer as ep}

        same_count : later ≡ count_of c'
        same_count = fun_ext (λ j. sym (ec j))

        pub spent : pause ≡ Fuel → (length h.made ≡ fuel) × IsAllowed net (count_of c') i
        spent e =
            let g = goes_on net is_network k n.reachable i (job_at i) f (Reads program i) (Writes program i) plug (Stands b (instance_job program input i)) st x ports_are (Stands b' (instance_job program input i)) fuel pause y h e in
            (g.0, subst (λ m. IsAllowed net m i) same_count g.1)

        pub written_stays : (s : ℕ) → ((p : ℕ) → Writes program i p → f p ≡ s → ⊥) → written net (count_of c') s ≡ written net k s
        written_stays s d =
            ap (λ m. written net m s) (sym same_count)
            ∙ written_else net is_network k n.reachable i (job_at i) f (Reads program i) (Writes program i) plug (Stands b (instance_job program input i)) st x ports_are (Stands b' (instance_job program input i)) fuel pause y h s d

        pub taken_stays : (s : ℕ) → ((p : ℕ) → Reads program i p → f p ≡ s → ⊥) → taken net (count_of c') s ≡ taken net k s
        taken_stays s d =
            ap (λ m. taken net m s) (sym same_count)
            ∙ taken_else net is_network k n.reachable i (job_at i) f (Reads program i) (Writes program i) plug (Stands b (instance_job program input i)) st x ports_are (Stands b' (instance_job program input i)) fuel pause y h s d

        pub own_holds : (pause ≡ Fuel → ⊥) → ((p : ℕ) → Reads program i p → written net (count_of c') (f p) ≡ written net k (f p)) → ((p : ℕ) → Writes program i p → taken net (count_of c') (f p) ≡ taken net k (f p)) → HoldsPause net (count_of c') i f pause
        own_holds u w v =
            subst (λ m. HoldsPause net m i f pause) same_count
            (holds net is_network k n.reachable i (job_at i) f (Reads program i) (Writes program i) plug (Stands b (instance_job program input i)) st x ports_are (Stands b' (instance_job program input i)) fuel pause y h u
            (λ p d. ap (λ m. written net m (f p)) same_count ∙ w p d) (λ p d. ap (λ m. taken net m (f p)) same_count ∙ v p d))

        reached : IsReachable net (count_of c')
        reached = subst (IsReachable net) same_count chunk_is.reachable

        above : (j : ℕ) → k j ≤ count_of c' j
        above j = subst (λ (m : ℕ → ℕ). k j ≤ m j) same_count (plus_above i (length h.made) k j)

        -- the answer holds, where the instance feeds none of its own streams or has made nothing
        now_holds : (told ≡ pause) → HoldsPause net (count_of c') i f pause
        now_holds e =
            ⊎_elim
            (λ (fuel_is : pause ≡ Fuel). subst (HoldsPause net (count_of c') i f) (sym fuel_is) (spent fuel_is).1)
            (λ (u : pause ≡ Fuel → ⊥).
            ⊎_elim
            (λ (some : 0 < length h.made).
            let tells = n.fed i (get_or fed i true) (slice_get-get_or fed i true (let a = n.fed_len in omega arith)) in
            by_fed (get_or fed i true) tells u (λ d. u (sym e ∙ is_told.fed d some)))
            (λ (none : length h.made ≤ 0).
            let z : length h.made ≡ 0 = omega arith in
            let same : count_of c' ≡ k = sym same_count ∙ ap (λ m. plus i m k) z ∙ sym (plus_none i k) in
            own_holds u (λ p d. ap (λ m. written net m (f p)) same) (λ p d. ap (λ m. taken net m (f p)) same))
            (cases_lt 0 (length h.made)))
            (decide_fuel pause)
          where
            by_fed : (v : Bool) → TellsFedBySelf program i v → (pause ≡ Fuel → ⊥) → (IsFedBySelf program i → ⊥) → HoldsPause net (count_of c') i f pause
            by_fed true tells u unfed = absurd (unfed tells)
            by_fed false tells u unfed = own_holds u (λ p d. written_stays (f p) (λ q w e. tells q p w d e)) (λ p d. taken_stays (f p) (λ q r e. tells p q d r (sym e)))

        held_own : HasHeld net (count_of c') i f told
        held_own =
            ⊎_elim
            (λ (e : told ≡ pause). subst (HasHeld net (count_of c') i f) (sym e) (record { count = count_of c'; reachable = reached; below = λ j. omega arith; held = now_holds e; for_good = λ l. now_holds e }))
            (λ (o : IsFedBySelf program i × (0 < length h.made) × (told ≡ Fuel)). subst (HasHeld net (count_of c') i f) (sym o.2) (record { count = k; reachable = n.reachable; below = above; held = chunk_is.first (let a = length-map h.made (tick_at f) in let z = o.1 in omega arith); for_good = λ l. absurd l }))
            is_told.cases

        held_else : (j : ℕ) (z : Pause) → slice_get pauses j ≡ Some (Some z) → HasHeld net (count_of c') j (stream_at program j) z
        held_else j z e =
            let o = n.paused j z e in
            record {
              count = o.count;
              reachable = o.reachable;
              below = λ m. let a = o.below m in let q = above m in omega arith;
              held = o.held;
              for_good = λ l. lasts net is_network k (count_of c') above n.reachable reached j (stream_at program j) z l (o.for_good l);
            }

        queued_all : AreQueued program t' (written net (count_of c'))
        queued_all = record {
          waits = λ j p l d.
              ap (λ ps. waiting_of ps j p) after.ports
              ∙ at_or (λ z. Reads program z p → waiting_of (slice_set full.ports.items i y) z p ≡ drop (slice_index t'.taken.items (stream_at program z p)) (take (slice_index full.offered.items (stream_at program z p)) (written net (count_of c') (stream_at program z p)))) i j
              (queued_own p)
              (λ w _.
              let s = stream_at program j p in
              let none : (r : ℕ) → Reads program i r → f r ≡ s → ⊥ = λ r dr e. w (sym (connected.reader i r dr) ∙ ap (consumer_of program) e ∙ connected.reader j p d) in
              ap (λ o. waiting_by o p) (get_set_other full.ports.items i j y w) ∙ ready_now.waits j p l d
              ∙ ap (λ m. drop m (take (slice_index full.offered.items s) (written net k s))) (sym (to s none))
              ∙ ap (drop (slice_index t'.taken.items s)) (sym (longer s (in_streams program connected j p l d.0)))) d
              ∙ ap (λ o. drop (slice_index t'.taken.items (stream_at program j p)) (take (slice_index o (stream_at program j p)) (written net (count_of c') (stream_at program j p)))) (sym after.offered);
          offered_within = λ s l. let o = ap (λ z. slice_index z s) after.offered in let a = ready_now.offered_within s l in let g = prefix_length _ _ (grown s) in omega arith;
          taken_within = λ s l.
              subst (λ z. slice_index t'.taken.items s ≤ slice_index z s) (sym after.offered)
              (⊎_elim
              (λ (e : consumer_of program s ≡ i).
              let r = subst (λ z. (p : ℕ) × IsReader program s z p) e (connected.read_at s l) in
              subst (λ z. slice_index t'.taken.items z ≤ slice_index full.offered.items z) r.1.1 (let a = tk r.0 r.1.0 in omega arith))
              (λ (d : consumer_of program s ≡ i → ⊥).
              let a = to s (λ p w q. d (ap (consumer_of program) (sym q) ∙ connected.reader i p w)) in
              let g = ready_now.taken_within s l in
              omega arith)
              (cases_eq (consumer_of program s) i));
        }
          where
            ready_now : AreQueued program full (written net k)
            ready_now = queued_lists program connected full (list_at program full) (written net k) (loaded_list full kept) ready.queued

            grown : (s : ℕ) → IsPrefixOf (written net k s) (written net (count_of c') s)
            grown s = prefix_flat_map (put_on s) _ _ (made_le net is_network k (count_of c') above (net.producer s))

            longer : (s : ℕ) → s < length program.streams.items → take (slice_index full.offered.items s) (written net (count_of c') s) ≡ take (slice_index full.offered.items s) (written net k s)
            longer s l = take_longer (slice_index full.offered.items s) (written net k s) (written net (count_of c') s) (grown s) (ready_now.offered_within s l)

            queued_own : (p : ℕ) → Reads program i p → waiting_of (slice_set full.ports.items i y) i p ≡ drop (slice_index t'.taken.items (f p)) (take (slice_index full.offered.items (f p)) (written net (count_of c') (f p)))
            queued_own p d =
                let s = f p in
                let l = in_streams program connected i p inside d.0 in
                let list = take (slice_index full.offered.items s) (written net k s) in
                let m = length (flat_map (take_from p) h.made) in
                let before : waiting x p ≡ drop (slice_index full.taken.items s) list = ap (λ o. waiting_by o p) (sym ex) ∙ ready_now.waits i p inside d in
                let here : waiting y p ≡ drop (slice_index full.taken.items s + m) list = h.moved.waits p ∙ ap (drop m) before ∙ drop_sum (slice_index full.taken.items s) m (slice_index full.taken.items s + m) list refl in
                let n1 : length list ≡ slice_index full.offered.items s = length-take-le (slice_index full.offered.items s) (written net k s) (ready_now.offered_within s l) in
                ap (λ o. waiting_by o p) (get_set_same full.ports.items i y there) ∙ here ∙ drop_again (slice_index full.taken.items s + m) list
                ∙ ap (λ v. drop v list) (ap (λ v. v - length (drop (slice_index full.taken.items s + m) list)) n1 ∙ ap (λ (z : List Token). slice_index full.offered.items s - length z) (sym here) ∙ sym (tk p d))
                ∙ ap (drop (slice_index t'.taken.items s)) (sym (longer s l))

        answered_all : HaveAnswered program input c' pauses'
        answered_all = record {
          counts_len = clen' ∙ n.counts_len;
          pauses_len = plen' ∙ n.pauses_len;
          paused = λ j z e. set_some (λ n v. HasHeld net (count_of c') n (stream_at program n) v) pauses i j told z held_own (λ d. held_else j z) (ap (λ ps. slice_get ps j) (sym ep) ∙ e);
          unresumed = λ j e.
              let o = set_none pauses i j told (ap (λ ps. slice_get ps j) (sym ep) ∙ e) in
              sym (ap (λ m. m j) same_count) ∙ other_same j o.0 ∙ n.unresumed j o.1;
        }

        pub net_is : IsNetAt Stands program input (slice_set bodies i b') t' fed c' pauses'
        net_is = record {
          given = n.given;
          bound = subst (λ w. AreBound program w fed) (sym (after.writers ∙ kept.writers)) n.bound;
          answered = answered_all;
          reachable = reached;
          bodies_len = length-set bodies i b' ∙ n.bodies_len;
          tables = record {
            ports_len = ap length after.ports ∙ length-set full.ports.items i y ∙ ready.ports_len;
            offered_len = ap length after.offered ∙ ready.offered_len;
            taken_len = len' ∙ ready.taken_len;
            ends = λ j l. ap (λ ps. ends_in ps j) after.ports ∙ ends_all j l;
          };
          queued = queued_all;
          standing = λ j c e. subst (λ m. IsStanding (Stands c (instance_job program input j)) net m j (job_at j) (stream_at program j)) same_count (standing_all j c e);
          carries = λ j p l d. ap (λ ps. carried_of ps j p) after.ports ∙ carries_all j p l d ∙ ap (λ m. written net m (stream_at program j p)) same_count;
          took = λ s l. took_all t'.taken.items tk to s l ∙ ap (λ m. length (taken net m s)) same_count;
        }

        pub others_hold : (j : ℕ) (z : Pause) → (j ≡ i → ⊥) → j < length program.instances.items → ((s : ℕ) → consumer_of program s ≡ j → written net (count_of c') s ≡ written net k s) → ((s : ℕ) → producer_of program s ≡ j → taken net (count_of c') s ≡ taken net k s) → (z ≡ Fuel → ⊥) → HoldsPause net k j (stream_at program j) z → HoldsPause net (count_of c') j (stream_at program j) z
        others_hold j z d l w v u q =
            subst (λ m. HoldsPause net m j (stream_at program j) z) same_count
            (holds_other net is_network k later i (map (tick_at f) h.made) chunk_is (plus_above i (length h.made) k) other_same j (stream_at program j) z d (n.network.placed j l).inside founded
            (λ s e. ap (λ m. written net m s) same_count ∙ w s (sym (n.network.consumer s) ∙ e)) (λ s e. ap (λ m. taken net m s) same_count ∙ v s (sym (n.network.producer s) ∙ e)) u q)

        pub has_resumed : (made : ℕ) → length h.made ≡ made → HasResumed (record { program = program; input = input; counts = counts; pauses = pauses }) (record { program = program; input = input; counts = c'; pauses = pauses' }) i fuel pause made
        has_resumed made m = record {
          given = refl;
          counts = λ j. ec j ∙ ap (λ z. if j == i then count_of counts j + z else count_of counts j) m;
          within = let a = h.within in omega arith;
          fuel_spent = λ e. let z = spent e in (sym m ∙ z.0, z.1);
          told = told;
          is_told = record { cases = subst (λ z. (told ≡ pause) ⊎ (IsFedBySelf program i × (0 < z) × (told ≡ Fuel))) m is_told.cases; fed = λ d l. is_told.fed d (omega arith) };
          pauses = ep;
          written_else = written_stays;
          taken_else = taken_stays;
          own = own_holds;
          others = others_hold;
        }
