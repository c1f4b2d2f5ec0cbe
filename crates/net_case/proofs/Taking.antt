-- What is taken over from an instance that comes back, port by port.
use Rattle.std.proofs.Common.{◌≡◌, ℕ, ◌+◌, ◌-◌, ◌<◌, ◌≤◌, ◌++◌, List, length, drop, Some, refl, sym, ap, ◌∙◌, subst, ⊎_elim, arith}
use Rattle.std.specs.Prelude.{slice_get, slice_index, slice_set}
use Rattle.std.proofs.lemmas.Bool.{cases_eq}
use Rattle.std.proofs.lemmas.List.{length-set, get_or-set_same, get_or-set_other}
use Rattle.std.proofs.lemmas.Option.{slice_get_within}
use Rattle.tapa_syntax.specs.declared.program.Program.{Program}
use Rattle.net_core.specs.declared.ports.Ports.{Ports}
use Rattle.net_core.specs.Ports.{waiting, carried}
use Rattle.net_core.specs.Bindings.{IsConnected, stream_at, Reads, Writes}
use Rattle.net_core.proofs.Moves.{get_set_same, get_set_other}
use Rattle.net_case.specs.declared.queue.Queue.{Queue}
use Rattle.net_case.specs.Queue.{waits, space}
use Rattle.net_case.specs.Deliver.{tokens_in, space_in, queue_at, queue_space}
use Rattle.net_core.proofs.Cases.{short_of, is_or}

-- a queue that is changed, and the others
module _ (queues : List Queue) (s : ℕ) (q q' : Queue) (at : slice_get queues s ≡ Some q) where
  pub queue_here : queue_at (slice_set queues s q') s ≡ waits q'
  queue_here = ap tokens_in (get_set_same queues s q' (slice_get_within queues s q at))

  pub queue_else : (t : ℕ) → (t ≡ s → ⊥) → queue_at (slice_set queues s q') t ≡ queue_at queues t
  queue_else t d = ap tokens_in (get_set_other queues s t q' (λ e. d (sym e)))

  pub queue_was : queue_at queues s ≡ waits q
  queue_was = ap tokens_in at

  pub space_more : space q ≤ space q' → (t : ℕ) → queue_space queues t ≤ queue_space (slice_set queues s q') t
  space_more l t =
      ⊎_elim
      (λ (e : t ≡ s).
      let a : queue_space queues s ≡ space q = ap space_in at in
      let b : queue_space (slice_set queues s q') s ≡ space q' = ap space_in (get_set_same queues s q' (slice_get_within queues s q at)) in
      subst (λ x. queue_space queues x ≤ queue_space (slice_set queues s q') x) (sym e) (omega arith))
      (λ (d : t ≡ s → ⊥). let a : queue_space (slice_set queues s q') t ≡ queue_space queues t = ap space_in (get_set_other queues s t q' (λ e. d (sym e))) in omega arith)
      (cases_eq t s)

-- ---- what it wrote at the first p ports

pub record HasJoined (program : Program) (i p : ℕ) (ports : Ports) (taken_list : List ℕ) (old now : List Queue) : Type 0 where
  pub len : length now ≡ length old
  pub joined : (q : ℕ) → q < p → Writes program i q → queue_at now (stream_at program i q) ≡ queue_at old (stream_at program i q) ++ drop (slice_index taken_list (stream_at program i q) + length (queue_at old (stream_at program i q))) (carried ports q)
  pub rest : (s : ℕ) → ((q : ℕ) → q < p → Writes program i q → stream_at program i q ≡ s → ⊥) → queue_at now s ≡ queue_at old s
  pub spaces : (s : ℕ) → queue_space old s ≤ queue_space now s

pub joined_none : (program : Program) (i : ℕ) (ports : Ports) (taken_list : List ℕ) (old : List Queue) → HasJoined program i 0 ports taken_list old old
joined_none program i ports taken_list old = record { len = refl; joined = λ q l w. absurd (omega arith); rest = λ s d. refl; spaces = λ s. omega arith }

pub joined_skip : (program : Program) (i p : ℕ) (ports : Ports) (taken_list : List ℕ) (old now : List Queue) → (Writes program i p → ⊥) → HasJoined program i p ports taken_list old now → HasJoined program i (p + 1) ports taken_list old now
joined_skip program i p ports taken_list old now d h = record {
  len = h.len;
  joined = λ q l w. h.joined q (short_of (Writes program i) p q l d w) w;
  rest = λ s n. h.rest s (λ q l w. n q (omega arith) w);
  spaces = h.spaces;
}

module _ (program : Program) (connected : IsConnected program) (i p : ℕ) (ports : Ports) (taken_list : List ℕ) (old now : List Queue) (h : HasJoined program i p ports taken_list old now) (w : Writes program i p) where
  abbrev f : ℕ → ℕ
  f = stream_at program i

  -- its stream's queue is as it was
  pub not_yet : queue_at now (f p) ≡ queue_at old (f p)
  not_yet = h.rest (f p) (λ q l wq e. let same = connected.writes_one i q p wq w e in omega arith)

  pub joined_more : (s : ℕ) → s ≡ f p → (q q' : Queue) → slice_get now s ≡ Some q → (from : ℕ) → from ≡ slice_index taken_list s + length (waits q) → waits q' ≡ waits q ++ drop from (carried ports p) → space q ≤ space q' → HasJoined program i (p + 1) ports taken_list old (slice_set now s q')
  joined_more s e q q' at from from_is joins room = record {
    len = length-set now s q' ∙ h.len;
    joined = λ r l wr.
        is_or (λ x. queue_at (slice_set now s q') (f x) ≡ queue_at old (f x) ++ drop (slice_index taken_list (f x) + length (queue_at old (f x))) (carried ports x)) p r
        here
        (λ n. queue_else now s q q' at (f r) (λ z. n (connected.writes_one i r p wr w (z ∙ e))) ∙ h.joined r (omega arith) wr);
    rest = λ t n. queue_else now s q q' at t (λ z. n p (omega arith) w (sym e ∙ sym z)) ∙ h.rest t (λ r l wr. n r (omega arith) wr);
    spaces = λ t. let a = h.spaces t in let b = space_more now s q q' at room t in omega arith;
  }
    where
      old_is : queue_at old (f p) ≡ waits q
      old_is = sym not_yet ∙ ap (queue_at now) (sym e) ∙ queue_was now s q q' at

      place : from ≡ slice_index taken_list (f p) + length (queue_at old (f p))
      place = let a = ap length old_is in let b = ap (slice_index taken_list) e in omega arith

      here : queue_at (slice_set now s q') (f p) ≡ queue_at old (f p) ++ drop (slice_index taken_list (f p) + length (queue_at old (f p))) (carried ports p)
      here =
          ap (queue_at (slice_set now s q')) (sym e) ∙ queue_here now s q q' at ∙ joins
          ∙ ap (λ l. l ++ drop from (carried ports p)) (sym old_is)
          ∙ ap (λ n. queue_at old (f p) ++ drop n (carried ports p)) place

-- ---- what it took at the first p ports

pub record HasTaken (program : Program) (i p : ℕ) (ports : Ports) (limits : List ℕ) (old now : List Queue) (taken_old taken_now offered_old offered_now : List ℕ) : Type 0 where
  pub queues_len : length now ≡ length old
  pub taken_len : length taken_now ≡ length taken_old
  pub offered_len : length offered_now ≡ length offered_old
  pub took : (q : ℕ) → q < p → Reads program i q → slice_index taken_now (stream_at program i q) + length (waiting ports q) ≡ slice_index limits q
  pub gave : (q : ℕ) → q < p → Reads program i q → slice_index offered_now (stream_at program i q) ≡ slice_index limits q
  pub rest : (q : ℕ) → q < p → Reads program i q → queue_at now (stream_at program i q) ≡ drop (slice_index taken_now (stream_at program i q) - slice_index taken_old (stream_at program i q)) (queue_at old (stream_at program i q))
  pub others_taken : (s : ℕ) → ((q : ℕ) → q < p → Reads program i q → stream_at program i q ≡ s → ⊥) → slice_index taken_now s ≡ slice_index taken_old s
  pub others_given : (s : ℕ) → ((q : ℕ) → q < p → Reads program i q → stream_at program i q ≡ s → ⊥) → slice_index offered_now s ≡ slice_index offered_old s
  pub others_wait : (s : ℕ) → ((q : ℕ) → q < p → Reads program i q → stream_at program i q ≡ s → ⊥) → queue_at now s ≡ queue_at old s
  pub spaces : (s : ℕ) → queue_space old s ≤ queue_space now s

pub taken_none : (program : Program) (i : ℕ) (ports : Ports) (limits : List ℕ) (old : List Queue) (taken_old offered_old : List ℕ) → HasTaken program i 0 ports limits old old taken_old taken_old offered_old offered_old
taken_none program i ports limits old taken_old offered_old = record {
  queues_len = refl;
  taken_len = refl;
  offered_len = refl;
  took = λ q l r. absurd (omega arith);
  gave = λ q l r. absurd (omega arith);
  rest = λ q l r. absurd (omega arith);
  others_taken = λ s d. refl;
  others_given = λ s d. refl;
  others_wait = λ s d. refl;
  spaces = λ s. omega arith;
}

pub taken_skip : (program : Program) (i p : ℕ) (ports : Ports) (limits : List ℕ) (old now : List Queue) (taken_old taken_now offered_old offered_now : List ℕ) → (Reads program i p → ⊥) → HasTaken program i p ports limits old now taken_old taken_now offered_old offered_now → HasTaken program i (p + 1) ports limits old now taken_old taken_now offered_old offered_now
taken_skip program i p ports limits old now taken_old taken_now offered_old offered_now d h = record {
  queues_len = h.queues_len;
  taken_len = h.taken_len;
  offered_len = h.offered_len;
  took = λ q l r. h.took q (short_of (Reads program i) p q l d r) r;
  gave = λ q l r. h.gave q (short_of (Reads program i) p q l d r) r;
  rest = λ q l r. h.rest q (short_of (Reads program i) p q l d r) r;
  others_taken = λ s n. h.others_taken s (λ q l r. n q (omega arith) r);
  others_given = λ s n. h.others_given s (λ q l r. n q (omega arith) r);
  others_wait = λ s n. h.others_wait s (λ q l r. n q (omega arith) r);
  spaces = h.spaces;
}

module _ (program : Program) (connected : IsConnected program) (i p : ℕ) (ports : Ports) (limits : List ℕ) (old now : List Queue) (taken_old taken_now offered_old offered_now : List ℕ) (h : HasTaken program i p ports limits old now taken_old taken_now offered_old offered_now) (d : Reads program i p) where
  abbrev g : ℕ → ℕ
  g = stream_at program i

  others_first : (q : ℕ) → q < p → Reads program i q → g q ≡ g p → ⊥
  others_first q l r e = let same = connected.reads_one i q p r d e in omega arith

  pub wait_not_yet : queue_at now (g p) ≡ queue_at old (g p)
  wait_not_yet = h.others_wait (g p) others_first

  pub taken_not_yet : slice_index taken_now (g p) ≡ slice_index taken_old (g p)
  taken_not_yet = h.others_taken (g p) others_first

  module _ (s : ℕ) (e : s ≡ g p) (inside_taken : s < length taken_now) (inside_offered : s < length offered_now) (q q' : Queue) (at : slice_get now s ≡ Some q) (took limit : ℕ) (limit_is : limit ≡ slice_index limits p) (took_is : took + length (waiting ports p) ≡ slice_index limits p) (rests : waits q' ≡ drop (took - slice_index taken_now s) (waits q)) (room : space q ≤ space q') where
    taken_here : slice_index (slice_set taken_now s took) (g p) ≡ took
    taken_here = ap (slice_index (slice_set taken_now s took)) (sym e) ∙ get_or-set_same taken_now s took 0 inside_taken

    taken_else : (t : ℕ) → (t ≡ s → ⊥) → slice_index (slice_set taken_now s took) t ≡ slice_index taken_now t
    taken_else t n = get_or-set_other taken_now s t took 0 n

    offered_here : slice_index (slice_set offered_now s limit) (g p) ≡ limit
    offered_here = ap (slice_index (slice_set offered_now s limit)) (sym e) ∙ get_or-set_same offered_now s limit 0 inside_offered

    offered_else : (t : ℕ) → (t ≡ s → ⊥) → slice_index (slice_set offered_now s limit) t ≡ slice_index offered_now t
    offered_else t n = get_or-set_other offered_now s t limit 0 n

    other : (r : ℕ) → Reads program i r → (r ≡ p → ⊥) → g r ≡ s → ⊥
    other r dr n z = n (connected.reads_one i r p dr d (z ∙ e))

    queue_now : queue_at (slice_set now s q') (g p) ≡ drop (slice_index (slice_set taken_now s took) (g p) - slice_index taken_old (g p)) (queue_at old (g p))
    queue_now =
        ap (queue_at (slice_set now s q')) (sym e) ∙ queue_here now s q q' at ∙ rests
        ∙ ap (drop (took - slice_index taken_now s)) (sym (queue_was now s q q' at) ∙ ap (queue_at now) e ∙ wait_not_yet)
        ∙ ap (λ n. drop n (queue_at old (g p))) (let a = taken_here in let b = taken_not_yet in let c = ap (slice_index taken_now) e in omega arith)

    pub taken_more : HasTaken program i (p + 1) ports limits old (slice_set now s q') taken_old (slice_set taken_now s took) offered_old (slice_set offered_now s limit)
    taken_more = record {
      queues_len = length-set now s q' ∙ h.queues_len;
      taken_len = length-set taken_now s took ∙ h.taken_len;
      offered_len = length-set offered_now s limit ∙ h.offered_len;
      took = λ r l dr.
          is_or (λ x. slice_index (slice_set taken_now s took) (g x) + length (waiting ports x) ≡ slice_index limits x) p r
          (let a = taken_here in omega arith)
          (λ n. let a = taken_else (g r) (other r dr n) in let b = h.took r (omega arith) dr in omega arith);
      gave = λ r l dr.
          is_or (λ x. slice_index (slice_set offered_now s limit) (g x) ≡ slice_index limits x) p r
          (offered_here ∙ limit_is)
          (λ n. offered_else (g r) (other r dr n) ∙ h.gave r (omega arith) dr);
      rest = λ r l dr.
          is_or (λ x. queue_at (slice_set now s q') (g x) ≡ drop (slice_index (slice_set taken_now s took) (g x) - slice_index taken_old (g x)) (queue_at old (g x))) p r
          queue_now
          (λ n.
          queue_else now s q q' at (g r) (other r dr n) ∙ h.rest r (omega arith) dr
          ∙ ap (λ z. drop (z - slice_index taken_old (g r)) (queue_at old (g r))) (sym (taken_else (g r) (other r dr n))));
      others_taken = λ t n. taken_else t (λ z. n p (omega arith) d (sym e ∙ sym z)) ∙ h.others_taken t (λ r l dr. n r (omega arith) dr);
      others_given = λ t n. offered_else t (λ z. n p (omega arith) d (sym e ∙ sym z)) ∙ h.others_given t (λ r l dr. n r (omega arith) dr);
      others_wait = λ t n. queue_else now s q q' at t (λ z. n p (omega arith) d (sym e ∙ sym z)) ∙ h.others_wait t (λ r l dr. n r (omega arith) dr);
      spaces = λ t. let a = h.spaces t in let b = space_more now s q q' at room t in omega arith;
    }
