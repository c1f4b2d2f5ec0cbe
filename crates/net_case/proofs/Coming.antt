-- A batch comes back to its case: the tokens of its streams.
use Rattle.std.proofs.Common.{◌≡◌, ℕ, zero, suc, ◌+◌, ◌-◌, ◌*◌, ◌<◌, ◌≤◌, List, [], ◌∷◌, ◌++◌, length, map, take, drop, Bool, Option, Some, refl, sym, ap, ◌∙◌, subst, ⊎_elim, arith, length-append}
use Rattle.std.specs.Prelude.{slice_get, slice_index, slice_set, flat_map}
use Rattle.std.proofs.lemmas.Bool.{cases_eq, cases_lt}
use Rattle.std.proofs.lemmas.List.{length-drop}
use Rattle.std.proofs.lemmas.Option.{slice_get_within}
use Rattle.std.proofs.Math.Path.{fun_ext}
use Rattle.tapa_syntax.specs.declared.program.Program.{Program}
use Rattle.kahn_model.specs.declared.tick.Tick.{Tick}
use Rattle.kahn_model.specs.Prefix.{IsPrefixOf}
use Rattle.kahn_model.specs.Behavior.{Behavior}
use Rattle.kahn_model.specs.Network.{Network, put_on, take_from}
use Rattle.kahn_model.specs.Counts.{written, taken, IsReachable}
use Rattle.kahn_model.proofs.Count.{IsBelow, taken_le, written_le}
use Rattle.kahn_model.proofs.Order.{prefix_length}
use Rattle.kahn_model.proofs.Reach.{reach_founded}
use Rattle.kahn_model.proofs.Taken.{taken_begins}
use Rattle.net_core.specs.declared.body.Pause.{Pause}
use Rattle.net_core.specs.declared.input.Input.{Input}
use Rattle.net_core.specs.declared.ports.Ports.{Ports}
use Rattle.net_core.specs.Job.{Job}
use Rattle.net_core.specs.Ports.{waiting, carried}
use Rattle.net_core.specs.Bindings.{stream_at, depth_of, arity, producer_of, consumer_of, Reads, Writes, IsWriter, IsReader}
use Rattle.net_core.specs.Bounded.{network_on, instance_job, count_of}
use Rattle.net_core.specs.Placement.{tick_at, IsPlaced, IsStanding}
use Rattle.net_core.proofs.Chunk.{plus, plus_same, plus_other, Chunk}
use Rattle.net_core.proofs.Loaded.{in_streams}
use Rattle.net_core.proofs.Moves.{drop_sum}
use Rattle.net_core.proofs.Queued.{take_longer}
use Rattle.net_core.proofs.Resuming.{count_set}
use Rattle.net_core.proofs.Stepped.{plus_above, written_up, standing_other}
use Rattle.net_case.specs.Batch.{IsBatchAt}
use Rattle.net_case.proofs.Back.{back, carried_is, took_is, waits_is, given_within, standing_is}
use Rattle.net_case.specs.declared.queue.Queue.{Queue}
use Rattle.net_case.specs.Deliver.{tokens_in, space_in, queue_at, queue_space}
use Rattle.net_case.specs.Home.{AreStreamsAt, IsStreamAt, IsHome}
use Rattle.net_case.proofs.Few.{written_few, room_few}
use Rattle.net_case.proofs.Streams.{total_is, stream_is, queue_is}
use Rattle.tapa_base.proofs.Got.{some_at as has_item}

-- the rest of a list from a place on, and what a longer list has behind it
drop_join : {A : Type 0} (t : ℕ) (xs ys : List A) → IsPrefixOf xs ys → t ≤ length xs → drop t xs ++ drop (length xs) ys ≡ drop t ys
drop_join t [] ys p l = let e : t ≡ 0 = omega arith in subst (λ n. drop n [] ++ ys ≡ drop n ys) (sym e) refl
drop_join t (x ∷ xs) [] p l = absurd p
drop_join zero (x ∷ xs) (y ∷ ys) (e, p) l = ap (λ z. z ∷ (xs ++ drop (length xs) ys)) e ∙ ap (λ l. y ∷ l) (drop_join 0 xs ys p (omega arith))
drop_join (suc t) (x ∷ xs) (y ∷ ys) (e, p) l = drop_join t xs ys p (omega arith)

-- what is taken over of stream s
record IsTakenOver (N : Network) (L : ℕ → ℕ) (queues2 : List Queue) (taken2 offered2 : List ℕ) (s : ℕ) : Type 0 where
  took : slice_index taken2 s ≡ length (taken N L s)
  rest : queue_at queues2 s ≡ drop (slice_index taken2 s) (written N L s)
  within : slice_index taken2 s ≤ slice_index offered2 s
  given : slice_index offered2 s ≤ length (written N L s)

-- a batch of the same run
pub same_run : {B : Type 0} (Stands : B → Job → List Tick → Type 0) (program program' : Program) (input input' : Input) (budget budget' : ℕ) (at : List ℕ) (i from fuel made : ℕ) (pause : Option Pause) (ready : Bool) (body : B) (ports : Ports) (limits : List ℕ) → program ≡ program' → input ≡ input' → budget ≡ budget' → IsBatchAt Stands program input budget at i from fuel made pause ready body ports limits → IsBatchAt Stands program' input' budget' at i from fuel made pause ready body ports limits
same_run Stands program program' input input' budget budget' at i from fuel made pause ready body ports limits e1 e2 e3 b =
    subst (λ (P : Program). IsBatchAt Stands P input' budget' at i from fuel made pause ready body ports limits) e1
    (subst (λ (I : Input). IsBatchAt Stands program I budget' at i from fuel made pause ready body ports limits) e2
    (subst (λ (n : ℕ). IsBatchAt Stands program input n at i from fuel made pause ready body ports limits) e3 b))

module _ {B : Type 0} (Stands : B → Job → List Tick → Type 0) (program : Program) (input : Input) (budget : ℕ) (queues : List Queue) (taken_list offered counts : List ℕ) (a : AreStreamsAt program input budget queues taken_list offered counts) (at : List ℕ) (i from fuel made : ℕ) (pause : Option Pause) (ready : Bool) (body : B) (ports : Ports) (limits : List ℕ) (b : IsBatchAt Stands program input budget at i from fuel made pause ready body ports limits) (counts_len : length counts ≡ length program.instances.items) (fresh : slice_index counts i ≡ from) (above_at : (j : ℕ) → slice_index at j ≤ slice_index counts j) where
  abbrev N : Network
  N = network_on program input

  abbrev k : ℕ → ℕ
  k = count_of at

  abbrev m : ℕ → ℕ
  m = count_of counts

  abbrev f : ℕ → ℕ
  f = stream_at program i

  abbrev job : ℕ → Behavior
  job = (instance_job program input i).behavior

  abbrev plug : IsPlaced N i job f (Reads program i) (Writes program i)
  plug = b.network.placed i b.inside

  abbrev pub after : List ℕ
  after = slice_set counts i (from + made)

  abbrev L : ℕ → ℕ
  L = count_of after

  abbrev S : List Tick → Type 0
  S = Stands body (instance_job program input i)

  still : m i ≡ k i
  still = fresh ∙ b.begins

  pub later_is : plus i made m ≡ L
  later_is =
      let inside = b.inside in
      let l : i < length counts = omega arith in
      sym (fun_ext (count_set counts i (from + made) made l (omega arith)))

  abbrev pub new : List Tick
  new = map (tick_at f) b.run.new

  pub chunk_is : Chunk N m i new L
  chunk_is = subst (Chunk N m i new) later_is (back N b.network.is_network k b.reachable i job f (Reads program i) (Writes program i) plug limits S made ports b.run m a.reachable above_at still)

  pub above : IsBelow m L
  above = subst (IsBelow m) later_is (plus_above i made m)

  pub others_stay : (j : ℕ) → (j ≡ i → ⊥) → L j ≡ m j
  others_stay j d = ap (λ (z : ℕ → ℕ). z j) (sym later_is) ∙ plus_other i made j m d

  pub own_count : L i ≡ from + made
  own_count = ap (λ (z : ℕ → ℕ). z i) (sym later_is) ∙ plus_same i made m ∙ ap (λ n. n + made) fresh

  pub capped_is : (j : ℕ) → L j ≤ budget
  capped_is j =
      ⊎_elim
      (λ (e : j ≡ i).
      let o : L j ≡ from + made = ap L e ∙ own_count in
      let w = b.within in
      let c = b.capped in
      omega arith)
      (λ (d : j ≡ i → ⊥). let o = others_stay j d in let c = a.capped j in omega arith)
      (cases_eq j i)

  carried_later : (p : ℕ) → Writes program i p → carried ports p ≡ written N L (f p)
  carried_later p w =
      subst (λ (z : ℕ → ℕ). carried ports p ≡ written N z (f p)) later_is
      (carried_is N b.network.is_network k b.reachable i job f (Reads program i) (Writes program i) plug limits S made ports b.run m a.reachable above_at still p w)

  took_later : (p : ℕ) → Reads program i p → length (taken N L (f p)) + length (waiting ports p) ≡ slice_index limits p
  took_later p d =
      subst (λ (z : ℕ → ℕ). length (taken N z (f p)) + length (waiting ports p) ≡ slice_index limits p) later_is
      (took_is N b.network.is_network k b.reachable i job f (Reads program i) (Writes program i) plug limits S made ports b.run m a.reachable above_at still p d)

  waits_later : (p : ℕ) → Reads program i p → waiting ports p ≡ drop (length (taken N L (f p))) (take (slice_index limits p) (written N L (f p)))
  waits_later p d =
      subst (λ (z : ℕ → ℕ). waiting ports p ≡ drop (length (taken N z (f p))) (take (slice_index limits p) (written N z (f p)))) later_is
      (waits_is N b.network.is_network k b.reachable i job f (Reads program i) (Writes program i) plug limits S made ports b.run m a.reachable above_at still p d)

  within_later : (p : ℕ) → Reads program i p → slice_index limits p ≤ length (written N L (f p))
  within_later p d =
      subst (λ (z : ℕ → ℕ). slice_index limits p ≤ length (written N z (f p))) later_is
      (given_within N b.network.is_network k b.reachable i job f (Reads program i) (Writes program i) plug limits S made ports b.run m a.reachable above_at still p d)

  pub standing_later : IsStanding S N L i job f
  standing_later =
      subst (λ (z : ℕ → ℕ). IsStanding S N z i job f) later_is
      (standing_is N b.network.is_network k b.reachable i job f (Reads program i) (Writes program i) plug limits S made ports b.run m a.reachable above_at still)

  -- the streams at which it has no port
  pub written_stays : (s : ℕ) → (producer_of program s ≡ i → ⊥) → written N L s ≡ written N m s
  written_stays s d = ap (flat_map (put_on s)) (chunk_is.other (N.producer s) (λ e. d (sym (b.network.producer s) ∙ e)))

  pub taken_stays : (s : ℕ) → (consumer_of program s ≡ i → ⊥) → taken N L s ≡ taken N m s
  taken_stays s d = ap (flat_map (take_from s)) (chunk_is.other (N.consumer s) (λ e. d (sym (b.network.consumer s) ∙ e)))

  pub written_more : (s : ℕ) → IsPrefixOf (written N m s) (written N L s)
  written_more s = written_up N b.network.is_network m L i new chunk_is above others_stay s

  pub reachable_later : IsReachable N L
  reachable_later = chunk_is.reachable

  own : (p : ℕ) → p < arity program i → f p < length program.streams.items
  own p l = in_streams program a.connected i p b.inside l

  -- ---- what the case may take over

  pub small : (p : ℕ) → Writes program i p → length (carried ports p) ≤ 1000000000000
  small p w =
      let c = ap length (carried_later p w) in
      let l = written_few N b.network.is_network L reachable_later (f p) in
      let x = capped_is (N.producer (f p)) in
      let y = b.few in
      omega arith

  pub there : (p : ℕ) → Writes program i p → slice_index taken_list (f p) + length (queue_at queues (f p)) ≤ length (carried ports p)
  there p w =
      let c = ap length (carried_later p w) in
      let t = total_is program input budget queues taken_list offered counts a (f p) (own p w.0) in
      let l = prefix_length _ _ (written_more (f p)) in
      omega arith

  -- no more than the depth is written and not taken when it comes back, before its own takes are counted
  pub depth_holds : (p : ℕ) → Writes program i p → length (carried ports p) - slice_index taken_list (f p) ≤ depth_of program (f p)
  depth_holds p w =
      let l = own p w.0 in
      let t = (stream_is program input budget queues taken_list offered counts a (f p) l).took_is in
      let dp = b.network.depth (f p) in
      ⊎_elim
      (λ (some : 0 < length (flat_map (put_on p) b.run.new)).
      let puts = b.run.puts p w some in
      let lim = b.run.limits_are p w in
      let tk = taken_le N b.network.is_network k m above_at (f p) in
      omega arith)
      (λ (none : length (flat_map (put_on p) b.run.new) ≤ 0).
      let c = ap length (b.run.carries p w) in
      let e = length-append (written N k (f p)) (flat_map (put_on p) b.run.new) in
      let wl = written_le N b.network.is_network k m above_at (f p) in
      let few = room_few N b.network.is_network (f p) m a.reachable in
      omega arith)
      (cases_lt 0 (length (flat_map (put_on p) b.run.new)))

  pub space_there : (p : ℕ) → Writes program i p → 2 * (length (carried ports p) - slice_index taken_list (f p)) ≤ queue_space queues (f p)
  space_there p w =
      let l = own p w.0 in
      let q = has_item queues (f p) (let e = a.queues_len in omega arith) in
      let st = a.streams (f p) q.0 q.1 in
      let e = ap space_in q.1 in
      let s = st.space_is in
      let d = depth_holds p w in
      omega arith

  -- ---- after what it wrote is taken over

  module _ (queues1 : List Queue) (joins : (p : ℕ) → Writes program i p → queue_at queues1 (f p) ≡ queue_at queues (f p) ++ drop (slice_index taken_list (f p) + length (queue_at queues (f p))) (carried ports p)) (others1 : (s : ℕ) → ((p : ℕ) → Writes program i p → f p ≡ s → ⊥) → queue_at queues1 s ≡ queue_at queues s) where
    pub queue_later : (s : ℕ) → s < length program.streams.items → queue_at queues1 s ≡ drop (slice_index taken_list s) (written N L s)
    queue_later s l =
        ⊎_elim
        (λ (e : producer_of program s ≡ i).
        let at_p = a.connected.written_at s l in
        let w : IsWriter program s i at_p.0 = subst (λ j. IsWriter program s j at_p.0) e at_p.1 in
        subst (λ x. queue_at queues1 x ≡ drop (slice_index taken_list x) (written N L x)) w.1 (by_port at_p.0 w.0))
        (λ (d : producer_of program s ≡ i → ⊥).
        others1 s (λ p w e. d (ap (producer_of program) (sym e) ∙ a.connected.writer i p w))
        ∙ queue_is program input budget queues taken_list offered counts a s l
        ∙ ap (drop (slice_index taken_list s)) (sym (written_stays s d)))
        (cases_eq (producer_of program s) i)
      where
        by_port : (p : ℕ) → Writes program i p → queue_at queues1 (f p) ≡ drop (slice_index taken_list (f p)) (written N L (f p))
        by_port p w =
            let l = own p w.0 in
            let t = total_is program input budget queues taken_list offered counts a (f p) l in
            let st = stream_is program input budget queues taken_list offered counts a (f p) l in
            let g = st.given in
            let n = st.within in
            joins p w
            ∙ ap (λ q. q ++ drop (slice_index taken_list (f p) + length (queue_at queues (f p))) (carried ports p)) (queue_is program input budget queues taken_list offered counts a (f p) l)
            ∙ ap (λ x. drop (slice_index taken_list (f p)) (written N m (f p)) ++ drop x (carried ports p)) t
            ∙ ap (λ x. drop (slice_index taken_list (f p)) (written N m (f p)) ++ drop (length (written N m (f p))) x) (carried_later p w)
            ∙ drop_join (slice_index taken_list (f p)) (written N m (f p)) (written N L (f p)) (written_more (f p)) (omega arith)

    took_begins : (s : ℕ) → IsPrefixOf (taken N L s) (written N L s)
    took_begins s = taken_begins N b.network.is_network L (reach_founded N L reachable_later) s

    pub more : (p : ℕ) → Reads program i p → slice_index taken_list (f p) + length (waiting ports p) ≤ slice_index limits p
    more p d =
        let t = (stream_is program input budget queues taken_list offered counts a (f p) (own p d.0)).took_is in
        let tl = taken_le N b.network.is_network m L above (f p) in
        let e = took_later p d in
        omega arith

    pub enough : (p : ℕ) → Reads program i p → slice_index limits p ≤ slice_index taken_list (f p) + length (queue_at queues1 (f p)) + length (waiting ports p)
    enough p d =
        let l = own p d.0 in
        let e = took_later p d in
        let q = ap length (queue_later (f p) l) in
        let dl = length-drop (slice_index taken_list (f p)) (written N L (f p)) in
        let pl = prefix_length _ _ (took_begins (f p)) in
        let t = (stream_is program input budget queues taken_list offered counts a (f p) l).took_is in
        let tl = taken_le N b.network.is_network m L above (f p) in
        omega arith

    -- ---- after what it took is taken over

    module _ (queues2 : List Queue) (taken2 offered2 : List ℕ) (queues2_len : length queues2 ≡ length program.streams.items) (took2 : (p : ℕ) → Reads program i p → slice_index taken2 (f p) + length (waiting ports p) ≡ slice_index limits p) (gave2 : (p : ℕ) → Reads program i p → slice_index offered2 (f p) ≡ slice_index limits p) (rest2 : (p : ℕ) → Reads program i p → queue_at queues2 (f p) ≡ drop (slice_index taken2 (f p) - slice_index taken_list (f p)) (queue_at queues1 (f p))) (others_taken : (s : ℕ) → ((p : ℕ) → Reads program i p → f p ≡ s → ⊥) → slice_index taken2 s ≡ slice_index taken_list s) (others_given : (s : ℕ) → ((p : ℕ) → Reads program i p → f p ≡ s → ⊥) → slice_index offered2 s ≡ slice_index offered s) (others_wait : (s : ℕ) → ((p : ℕ) → Reads program i p → f p ≡ s → ⊥) → queue_at queues2 s ≡ queue_at queues1 s) (spaces : (s : ℕ) → queue_space queues s ≤ queue_space queues2 s) where
      taken_now : (p : ℕ) → Reads program i p → slice_index taken2 (f p) ≡ length (taken N L (f p))
      taken_now p d = let x = took2 p d in let y = took_later p d in omega arith

      not_read : (s : ℕ) → (consumer_of program s ≡ i → ⊥) → (p : ℕ) → Reads program i p → f p ≡ s → ⊥
      not_read s d p r e = d (ap (consumer_of program) (sym e) ∙ a.connected.reader i p r)

      abbrev Here : ℕ → Type 0
      Here s = IsTakenOver N L queues2 taken2 offered2 s

      by_reader : (p : ℕ) → Reads program i p → Here (f p)
      by_reader p d =
          let l = own p d.0 in
          let t = taken_now p d in
          let g = gave2 p d in
          let x = took2 p d in
          let w = within_later p d in
          let m1 = more p d in
          record {
            took = t;
            rest = rest2 p d ∙ ap (drop (slice_index taken2 (f p) - slice_index taken_list (f p))) (queue_later (f p) l) ∙ drop_sum (slice_index taken_list (f p)) (slice_index taken2 (f p) - slice_index taken_list (f p)) (slice_index taken2 (f p)) (written N L (f p)) (omega arith);
            within = omega arith;
            given = omega arith;
          }

      by_other : (s : ℕ) → s < length program.streams.items → (consumer_of program s ≡ i → ⊥) → Here s
      by_other s l d =
          let st = stream_is program input budget queues taken_list offered counts a s l in
          let e = others_taken s (not_read s d) in
          let g = others_given s (not_read s d) in
          let t = st.took_is in
          let w = st.within in
          let v = st.given in
          let up = prefix_length _ _ (written_more s) in
          record {
            took = e ∙ t ∙ ap length (sym (taken_stays s d));
            rest = others_wait s (not_read s d) ∙ queue_later s l ∙ ap (λ n. drop n (written N L s)) (sym e);
            within = omega arith;
            given = omega arith;
          }

      here : (s : ℕ) → s < length program.streams.items → Here s
      here s l =
          ⊎_elim
          (λ (e : consumer_of program s ≡ i).
          let at_p = a.connected.read_at s l in
          let r : IsReader program s i at_p.0 = subst (λ j. IsReader program s j at_p.0) e at_p.1 in
          subst Here r.1 (by_reader at_p.0 r.0))
          (by_other s l)
          (cases_eq (consumer_of program s) i)

      pub stream_later : (s : ℕ) (q : Queue) → slice_get queues2 s ≡ Some q → IsStreamAt program N L s q (slice_index taken2 s) (slice_index offered2 s)
      stream_later s q e =
          let w = slice_get_within queues2 s q e in
          let l : s < length program.streams.items = omega arith in
          let h = here s l in
          let old = has_item queues s (let x = a.queues_len in omega arith) in
          let o = (a.streams s old.0 old.1).space_is in
          let x = ap space_in old.1 in
          let y = ap space_in e in
          let z = spaces s in
          record {
            took_is = h.took;
            rest = sym (ap tokens_in e) ∙ h.rest;
            within = h.within;
            given = h.given;
            space_is = omega arith;
          }

      pub home_later : IsHome Stands program input after taken2 offered2 i body ports limits
      home_later = record {
        standing = standing_later;
        ends = b.ends;
        limits_len = b.limits_len;
        carries = carried_later;
        waits_are = λ p d.
            waits_later p d
            ∙ ap (λ n. drop n (take (slice_index limits p) (written N L (f p)))) (sym (taken_now p d))
            ∙ ap (λ n. drop (slice_index taken2 (f p)) (take n (written N L (f p)))) (sym (gave2 p d));
        spaces = b.spaces;
      }

      -- another instance at home stands as before
      pub home_other : (j : ℕ) → j < length program.instances.items → (j ≡ i → ⊥) → (body' : B) (ports' : Ports) (limits' : List ℕ) → IsHome Stands program input counts taken_list offered j body' ports' limits' → IsHome Stands program input after taken2 offered2 j body' ports' limits'
      home_other j lj d body' ports' limits' h = record {
        standing = standing_other N b.network.is_network m L i new chunk_is above others_stay (Stands body' (instance_job program input j)) j (instance_job program input j).behavior (stream_at program j) d h.standing;
        ends = h.ends;
        limits_len = h.limits_len;
        carries = λ p w. h.carries p w ∙ sym (written_stays (stream_at program j p) (λ e. d (sym (a.connected.writer j p w) ∙ e)));
        waits_are = λ p r.
            let s = stream_at program j p in
            let l = in_streams program a.connected j p lj r.0 in
            let off : consumer_of program s ≡ i → ⊥ = λ e. d (sym (a.connected.reader j p r) ∙ e) in
            let g = (stream_is program input budget queues taken_list offered counts a s l).given in
            h.waits_are p r
            ∙ ap (drop (slice_index taken_list s)) (sym (take_longer (slice_index offered s) (written N m s) (written N L s) (written_more s) g))
            ∙ ap (λ n. drop n (take (slice_index offered s) (written N L s))) (sym (others_taken s (not_read s off)))
            ∙ ap (λ n. drop (slice_index taken2 s) (take n (written N L s))) (sym (others_given s (not_read s off)));
        spaces = h.spaces;
      }
