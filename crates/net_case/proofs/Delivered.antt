-- One port of an instance gets what is there for it.
use Rattle.std.proofs.Common.{◌≡◌, ℕ, ◌+◌, ◌-◌, ◌*◌, ◌<◌, ◌≤◌, List, ◌++◌, length, take, drop, sym, ap, ◌∙◌, subst, ⊎_elim, arith, length-append, take_all}
use Rattle.std.specs.Prelude.{slice_index, slice_set}
use Rattle.std.proofs.lemmas.Bool.{cases_eq}
use Rattle.std.proofs.lemmas.List.{length-set, take-append-drop, get_or-set_same, get_or-set_other}
use Rattle.tapa_syntax.specs.declared.program.End.{End}
use Rattle.tapa_syntax.specs.declared.program.Program.{Program}
use Rattle.kahn_model.specs.Fits.{stream_kind}
use Rattle.net_core.specs.Kinds.{AreTokensOf, kind_in}
use Rattle.net_core.specs.declared.ports.Ports.{Ports}
use Rattle.net_core.specs.Ports.{waiting, room_at, space_at, kind_at, Adjusted}
use Rattle.net_core.specs.Bindings.{IsConnected, stream_at, depth_of, arity, Reads, Writes}
use Rattle.net_core.proofs.Loaded.{in_streams, read_or_write}
use Rattle.net_core.proofs.Tokens.{tokens_drop}
use Rattle.net_case.specs.declared.queue.Queue.{Queue}
use Rattle.net_case.specs.Deliver.{queue_at, AreInOrder, IsDelivered}
use Rattle.net_core.proofs.Cases.{is_or}

module _ (program : Program) (connected : IsConnected program) (i : ℕ) (inside : i < length program.instances.items) (p : ℕ) (here : p < arity program i) (queues : List Queue) (taken_list offered : List ℕ) (ports : Ports) (limits : List ℕ) (o : AreInOrder program i queues taken_list offered ports limits) where
  abbrev f : ℕ → ℕ
  f = stream_at program i

  abbrev s : ℕ
  s = stream_at program i p

  pub s_in : s < length program.streams.items
  s_in = in_streams program connected i p inside here

  pub p_in : p < length limits
  p_in = let e = o.limits_len in omega arith

  -- ---- a port that reads

  pub joined_all : Reads program i p → waiting ports p ++ drop (slice_index offered s - slice_index taken_list s) (queue_at queues s) ≡ queue_at queues s
  joined_all r = ap (λ l. l ++ drop (slice_index offered s - slice_index taken_list s) (queue_at queues s)) (o.waits_are p r) ∙ take-append-drop (slice_index offered s - slice_index taken_list s) (queue_at queues s)

  pub enough : Reads program i p → 2 * (length (waiting ports p) + length (drop (slice_index offered s - slice_index taken_list s) (queue_at queues s))) ≤ space_at ports p
  enough r =
      let e = ap length (joined_all r) in
      let l = length-append (waiting ports p) (drop (slice_index offered s - slice_index taken_list s) (queue_at queues s)) in
      let few = o.few s s_in in
      let space = o.spaces p r in
      omega arith

  pub place : slice_index offered s - slice_index taken_list s ≤ length (queue_at queues s)
  place = let g = o.given s s_in in omega arith

  pub kind_is : (n : ℕ) → AreTokensOf (kind_at ports p) (drop n (queue_at queues s))
  kind_is n =
      subst (λ k. AreTokensOf k (drop n (queue_at queues s))) (sym (ap (λ (es : List End). kind_in es p) o.ends ∙ connected.kinds i p here))
      (tokens_drop (stream_kind program s) n (queue_at queues s) (o.kinds s s_in))

  module _ (ports' : Ports) (adjusted : Adjusted ports p ports') (space : space_at ports p ≤ space_at ports' p) where
    spaces_after : (q : ℕ) → Reads program i q → 2 * depth_of program (f q) ≤ space_at ports' q
    spaces_after q r =
        let old = o.spaces q r in
        let more : space_at ports q ≤ space_at ports' q = ⊎_elim (λ (e : q ≡ p). subst (λ x. space_at ports x ≤ space_at ports' x) (sym e) space) (λ (d : q ≡ p → ⊥). adjusted.spaces q d) (cases_eq q p) in
        omega arith

    module _ (r : Reads program i p) (all : waiting ports' p ≡ queue_at queues s) (v : ℕ) (v_is : v ≡ slice_index taken_list s + length (queue_at queues s)) where
      gave_here : slice_index (slice_set offered s v) s ≡ v
      gave_here = get_or-set_same offered s v 0 (let l = s_in in let e = o.offered_len in omega arith)

      pub gave_else : (t : ℕ) → (t ≡ s → ⊥) → slice_index (slice_set offered s v) t ≡ slice_index offered t
      gave_else t d = get_or-set_other offered s t v 0 d

      waits_read : (q : ℕ) → Reads program i q → waiting ports' q ≡ take (slice_index (slice_set offered s v) (f q) - slice_index taken_list (f q)) (queue_at queues (f q))
      waits_read q rq =
          is_or (λ x. waiting ports' x ≡ take (slice_index (slice_set offered s v) (f x) - slice_index taken_list (f x)) (queue_at queues (f x))) p q
          (let g = gave_here in all ∙ sym (take_all (slice_index (slice_set offered s v) s - slice_index taken_list s) (queue_at queues s) (omega arith)))
          (λ d.
          adjusted.waits q d ∙ o.waits_are q rq
          ∙ ap (λ n. take (n - slice_index taken_list (f q)) (queue_at queues (f q))) (sym (gave_else (f q) (λ e. d (connected.reads_one i q p rq r e)))))

      pub order_read : AreInOrder program i queues taken_list (slice_set offered s v) ports' (slice_set limits p v)
      order_read = record {
        tokens = o.tokens;
        gives = record {
          offered_len = length-set offered s v ∙ o.offered_len;
          within = λ t l.
              is_or (λ x. slice_index taken_list x ≤ slice_index (slice_set offered s v) x) s t
              (let g = gave_here in omega arith) (λ d. let g = gave_else t d in let w = o.within t l in omega arith);
          given = λ t l.
              is_or (λ x. slice_index (slice_set offered s v) x ≤ slice_index taken_list x + length (queue_at queues x)) s t
              (let g = gave_here in omega arith) (λ d. let g = gave_else t d in let w = o.given t l in omega arith);
        };
        limits_len = length-set limits p v ∙ o.limits_len;
        ends = adjusted.ends ∙ o.ends;
        waits_are = waits_read;
        spaces = spaces_after;
      }

      pub here_read : IsDelivered program i p queues taken_list (slice_set offered s v) ports' (slice_set limits p v)
      here_read = record {
        waits_all = λ x. all;
        gave = λ x. gave_here ∙ v_is;
        given = λ x. get_or-set_same limits p v 0 p_in ∙ v_is;
        limit = λ w. absurd (read_or_write program i p r w);
        is_shut = λ w. absurd (read_or_write program i p r w);
      }

    -- ---- a port that writes

    module _ (w : Writes program i p) (same : waiting ports' p ≡ waiting ports p) (shut : room_at ports' p ≡ 0) (v : ℕ) (v_is : v ≡ slice_index taken_list s + depth_of program s) where
      waits_write : (q : ℕ) → waiting ports' q ≡ waiting ports q
      waits_write q = ⊎_elim (λ (e : q ≡ p). subst (λ x. waiting ports' x ≡ waiting ports x) (sym e) same) (λ (d : q ≡ p → ⊥). adjusted.waits q d) (cases_eq q p)

      pub order_write : AreInOrder program i queues taken_list offered ports' (slice_set limits p v)
      order_write = record {
        tokens = o.tokens;
        gives = o.gives;
        limits_len = length-set limits p v ∙ o.limits_len;
        ends = adjusted.ends ∙ o.ends;
        waits_are = λ q r. waits_write q ∙ o.waits_are q r;
        spaces = spaces_after;
      }

      pub here_write : IsDelivered program i p queues taken_list offered ports' (slice_set limits p v)
      here_write = record {
        waits_all = λ r. absurd (read_or_write program i p r w);
        gave = λ r. absurd (read_or_write program i p r w);
        given = λ r. absurd (read_or_write program i p r w);
        limit = λ x. get_or-set_same limits p v 0 p_in ∙ v_is;
        is_shut = λ x. shut;
      }

-- the same, where the stream is known by another number
pub read_done : (program : Program) (connected : IsConnected program) (i : ℕ) (inside : i < length program.instances.items) (p : ℕ) (here : p < arity program i) (queues : List Queue) (taken_list offered : List ℕ) (ports : Ports) (limits : List ℕ) (o : AreInOrder program i queues taken_list offered ports limits) (ports' : Ports) → Adjusted ports p ports' → space_at ports p ≤ space_at ports' p → Reads program i p → (s v : ℕ) → s ≡ stream_at program i p → waiting ports' p ≡ queue_at queues s → v ≡ slice_index taken_list s + length (queue_at queues s)
    → AreInOrder program i queues taken_list (slice_set offered s v) ports' (slice_set limits p v) × IsDelivered program i p queues taken_list (slice_set offered s v) ports' (slice_set limits p v) × ((t : ℕ) → (t ≡ s → ⊥) → slice_index (slice_set offered s v) t ≡ slice_index offered t)
read_done program connected i inside p here queues taken_list offered ports limits o ports' adjusted space r s v e all v_is =
    let all' = subst (λ x. waiting ports' p ≡ queue_at queues x) e all in
    let v' = subst (λ x. v ≡ slice_index taken_list x + length (queue_at queues x)) e v_is in (
      subst (λ x. AreInOrder program i queues taken_list (slice_set offered x v) ports' (slice_set limits p v)) (sym e) (order_read program connected i inside p here queues taken_list offered ports limits o ports' adjusted space r all' v v'),
      subst (λ x. IsDelivered program i p queues taken_list (slice_set offered x v) ports' (slice_set limits p v)) (sym e) (here_read program connected i inside p here queues taken_list offered ports limits o ports' adjusted space r all' v v'),
      (λ t d. get_or-set_other offered s t v 0 d),
    )

pub write_done : (program : Program) (connected : IsConnected program) (i : ℕ) (inside : i < length program.instances.items) (p : ℕ) (here : p < arity program i) (queues : List Queue) (taken_list offered : List ℕ) (ports : Ports) (limits : List ℕ) (o : AreInOrder program i queues taken_list offered ports limits) (ports' : Ports) → Adjusted ports p ports' → space_at ports p ≤ space_at ports' p → Writes program i p → waiting ports' p ≡ waiting ports p → room_at ports' p ≡ 0 → (s v : ℕ) → s ≡ stream_at program i p → v ≡ slice_index taken_list s + depth_of program s
    → AreInOrder program i queues taken_list offered ports' (slice_set limits p v) × IsDelivered program i p queues taken_list offered ports' (slice_set limits p v)
write_done program connected i inside p here queues taken_list offered ports limits o ports' adjusted space w same shut s v e v_is =
    let v' = subst (λ x. v ≡ slice_index taken_list x + depth_of program x) e v_is in (
      order_write program connected i inside p here queues taken_list offered ports limits o ports' adjusted space w same shut v v',
      here_write program connected i inside p here queues taken_list offered ports limits o ports' adjusted space w same shut v v',
    )

-- a port that was delivered stays so as another one is
pub stays_delivered : (program : Program) (connected : IsConnected program) (i p q : ℕ) (queues : List Queue) (taken_list offered offered' : List ℕ) (ports ports' : Ports) (limits limits' : List ℕ) → (q ≡ p → ⊥) → Adjusted ports p ports' → slice_index limits' q ≡ slice_index limits q → ((s : ℕ) → (Reads program i p → stream_at program i p ≡ s → ⊥) → slice_index offered' s ≡ slice_index offered s) → IsDelivered program i q queues taken_list offered ports limits → IsDelivered program i q queues taken_list offered' ports' limits'
stays_delivered program connected i p q queues taken_list offered offered' ports ports' limits limits' d a l others h = record {
  waits_all = λ r. a.waits q d ∙ h.waits_all r;
  gave = λ r. others (stream_at program i q) (λ rp e. d (connected.reads_one i q p r rp (sym e))) ∙ h.gave r;
  given = λ r. l ∙ h.given r;
  limit = λ w. l ∙ h.limit w;
  is_shut = λ w. a.rooms q d ∙ h.is_shut w;
}
