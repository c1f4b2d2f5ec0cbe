-- What the readers' ports hold.
use Rattle.std.proofs.Common.{◌≡◌, ℕ, ◌-◌, ◌<◌, ◌≤◌, List, ◌++◌, Bool, true, false, length, take, drop, sym, ap, ◌∙◌, subst, ⊎_elim, arith, length-drop}
use Rattle.std.specs.Prelude.{slice_index, if◌then◌else◌}
use Rattle.std.proofs.lemmas.Bool.{cases_lt, cases_eq}
use Rattle.std.proofs.lemmas.List.{drop-append-le, take-append-drop, take_all, drop_all, length-take-le}
use Rattle.tapa_base.specs.declared.token.Token.{Token}
use Rattle.tapa_syntax.specs.declared.program.Program.{Program}
use Rattle.kahn_model.specs.Prefix.{IsPrefixOf}
use Rattle.kahn_model.proofs.Order.{prefix_whole, prefix_length, prefix_take}
use Rattle.net_core.specs.declared.streams.Streams.{Streams}
use Rattle.net_core.specs.Ports.{waiting_of}
use Rattle.net_core.specs.Bindings.{IsConnected, IsWriter, stream_at, Reads, Writes, producer_of, consumer_of}
use Rattle.net_core.specs.Load.{AreQueued, HasPorts, Reloads, IsOffered, list_at}
use Rattle.net_core.proofs.Loaded.{in_streams, kept_none, kept_more, list_kept}
use Rattle.net_core.proofs.Cases.{is_or}

-- a queue and what its stream got since
pub queue_more : {A : Type 0} (t o : ℕ) (l : List A) → t ≤ o → o ≤ length l → drop t (take o l) ++ drop o l ≡ drop t l
queue_more t o l h g =
    let n = length-take-le o l g in
    sym (drop-append-le t (take o l) (drop o l) (omega arith)) ∙ ap (drop t) (take-append-drop o l)

-- the front part of a longer list
pub take_longer : {A : Type 0} (n : ℕ) (xs ys : List A) → IsPrefixOf xs ys → n ≤ length xs → take n ys ≡ take n xs
take_longer n xs ys p l =
    let a = length-take-le n xs l in
    let q = prefix_length xs ys p in
    let b = length-take-le n ys (omega arith) in
    sym (prefix_whole (take n xs) (take n ys) (prefix_take n n xs ys (omega arith) p) (omega arith))

-- what is left says how much was dropped
pub drop_again : {A : Type 0} (n : ℕ) (l : List A) → drop n l ≡ drop (length l - length (drop n l)) l
drop_again n l =
    let e = length-drop n l in
    ⊎_elim
    (λ (h : n < length l). ap (λ m. drop m l) (let q : n ≡ length l - length (drop n l) = omega arith in q))
    (λ (h : length l ≤ n). drop_all n l h ∙ sym (drop_all (length l - length (drop n l)) l (omega arith)))
    (cases_lt n (length l))

-- a list that was lifted out and extended
pub waits_extended : {A : Type 0} (b : Bool) (T us list W C : List A) (h from : ℕ) → us ≡ (if b then T ++ drop from list else T) → h ≤ length T → drop h T ≡ W → list ≡ C → drop h us ≡ (if b then W ++ drop from C else W)
waits_extended true T us list W C h from e l w c = ap (drop h) e ∙ drop-append-le h T (drop from list) l ∙ ap (λ x. x ++ drop from list) w ∙ ap (λ x. W ++ drop from x) c
waits_extended false T us list W C h from e l w c = ap (drop h) e ∙ w

-- a queue with all that its stream got since
pub offered_whole : {A : Type 0} (t o o' from : ℕ) (W W' L C : List A) → W' ≡ W ++ drop from C → W ≡ drop t (take o L) → from ≡ o → C ≡ L → t ≤ o → o ≤ length L → o' ≡ length L → W' ≡ drop t (take o' L)
offered_whole t o o' from W W' L C e w f c l m n =
    e ∙ ap (λ x. x ++ drop from C) w ∙ ap (λ k. drop t (take o L) ++ drop k C) f ∙ ap (λ x. drop t (take o L) ++ drop o x) c
    ∙ queue_more t o L l m ∙ ap (drop t) (sym (take_all o' L (omega arith)))

-- the same for lists that are equal
pub queued_lists : (program : Program) → IsConnected program → (t : Streams) (f g : ℕ → List Token) → ((s : ℕ) → s < length program.streams.items → f s ≡ g s) → AreQueued program t f → AreQueued program t g
queued_lists program connected t f g e q = record {
  waits = λ i p l d. q.waits i p l d ∙ ap (λ (x : List Token). drop (slice_index t.taken.items (stream_at program i p)) (take (slice_index t.offered.items (stream_at program i p)) x)) (e (stream_at program i p) (in_streams program connected i p l d.0));
  offered_within = λ s l. subst (λ (x : List Token). slice_index t.offered.items s ≤ length x) (e s l) (q.offered_within s l);
  taken_within = q.taken_within;
}

-- one port was loaded
module _ (program : Program) (connected : IsConnected program) (a b : Streams) (i p : ℕ) (h : HasPorts program a) (r : Reloads program i p a b) where
  -- if the readers' ports hold what they were offered of what was written before
  ports_by : AreQueued program b (list_at program a) → HasPorts program b
  ports_by queued = record {
    tables = record {
      ports_len = r.ports.len ∙ h.ports_len;
      offered_len = r.offered_len ∙ h.offered_len;
      taken_len = ap length r.taken ∙ h.taken_len;
      ends = λ j l. r.ports.ends j ∙ h.ends j l;
    };
    writers_len = ap length r.writers ∙ h.writers_len;
    writer_is = λ s l. subst (λ w. IsWriter program s (producer_of program s) (slice_index w s)) (sym r.writers) (h.writer_is s l);
    queued = queued_lists program connected b (list_at program a) (list_at program b) (λ s l. sym (list_kept program a b (kept_more program a a b i p (kept_none a) r) s)) queued;
  }

  -- what a port at another stream holds
  held_else : (j q : ℕ) → j < length program.instances.items → Reads program j q → (Reads program i p → stream_at program j q ≡ stream_at program i p → ⊥) → waiting_of b.ports.items j q ≡ waiting_of a.ports.items j q → waiting_of b.ports.items j q ≡ drop (slice_index b.taken.items (stream_at program j q)) (take (slice_index b.offered.items (stream_at program j q)) (list_at program a (stream_at program j q)))
  held_else j q l e diff stays =
      let s = stream_at program j q in
      stays ∙ h.queued.waits j q l e
      ∙ ap (λ n. drop (slice_index a.taken.items s) (take n (list_at program a s))) (sym (r.others s diff))
      ∙ ap (λ t. drop (slice_index t s) (take (slice_index b.offered.items s) (list_at program a s))) (sym r.taken)

  taken_least : (s : ℕ) → s < length program.streams.items → slice_index a.offered.items s ≤ slice_index b.offered.items s → slice_index b.taken.items s ≤ slice_index b.offered.items s
  taken_least s l more =
      let x = h.queued.taken_within s l in
      let e = ap (λ t. slice_index t s) r.taken in
      omega arith

  -- one port that reads was offered more
  pub ports_offered : i < length program.instances.items → Reads program i p → IsOffered program i p a b → HasPorts program b
  ports_offered inside d f = ports_by (record {
    waits = λ j q l e.
        ⊎_elim
        (λ (same : stream_at program j q ≡ stream_at program i p).
        let ji : j ≡ i = sym (connected.reader j q e) ∙ ap (consumer_of program) same ∙ connected.reader i p d in
        subst (λ z. Reads program z q → stream_at program z q ≡ stream_at program i p → waiting_of b.ports.items z q ≡ drop (slice_index b.taken.items (stream_at program z q)) (take (slice_index b.offered.items (stream_at program z q)) (list_at program a (stream_at program z q)))) (sym ji)
        (λ e' same'.
        let qp : q ≡ p = connected.reads_one i q p e' d same' in
        subst (λ z. waiting_of b.ports.items i z ≡ drop (slice_index b.taken.items (stream_at program i z)) (take (slice_index b.offered.items (stream_at program i z)) (list_at program a (stream_at program i z)))) (sym qp)
        (f.waits ∙ ap (λ t. drop (slice_index t (stream_at program i p)) (take (slice_index b.offered.items (stream_at program i p)) (list_at program a (stream_at program i p)))) (sym r.taken)))
        e same)
        (λ (diff : stream_at program j q ≡ stream_at program i p → ⊥). held_else j q l e (λ _. diff) (stays j q diff))
        (cases_eq (stream_at program j q) (stream_at program i p));
    offered_within = λ s l.
        is_or (λ z. slice_index b.offered.items z ≤ length (list_at program a z)) (stream_at program i p) s
        f.within
        (λ diff. subst (λ n. n ≤ length (list_at program a s)) (sym (r.others s (λ _. diff))) (h.queued.offered_within s l));
    taken_within = λ s l.
        taken_least s l
        (⊎_elim
        (λ (same : s ≡ stream_at program i p). subst (λ z. slice_index a.offered.items z ≤ slice_index b.offered.items z) (sym same) f.more)
        (λ (diff : s ≡ stream_at program i p → ⊥). let e = r.others s (λ _. diff) in omega arith)
        (cases_eq s (stream_at program i p)));
  })
    where
      stays : (j q : ℕ) → (stream_at program j q ≡ stream_at program i p → ⊥) → waiting_of b.ports.items j q ≡ waiting_of a.ports.items j q
      stays j q diff =
          is_or (λ z. (stream_at program z q ≡ stream_at program i p → ⊥) → waiting_of b.ports.items z q ≡ waiting_of a.ports.items z q) i j
          (λ diff'. r.ports.waits q (λ x. diff' (ap (stream_at program i) x)))
          (λ e _. r.ports.others_wait j q e) diff

  -- a port that writes was loaded
  pub ports_adjusted : Writes program i p → HasPorts program b
  ports_adjusted d = ports_by (record {
    waits = λ j q l e. held_else j q l e (λ x _. not_read x) (stays j q e);
    offered_within = λ s l. let e = r.others s (λ x _. not_read x) in let w = h.queued.offered_within s l in omega arith;
    taken_within = λ s l. taken_least s l (let e = r.others s (λ x _. not_read x) in omega arith);
  })
    where
      not_read : Reads program i p → ⊥
      not_read e = let x = e.1 in let y = d.1 in cc

      stays : (j q : ℕ) → Reads program j q → waiting_of b.ports.items j q ≡ waiting_of a.ports.items j q
      stays j q e =
          is_or (λ z. Reads program z q → waiting_of b.ports.items z q ≡ waiting_of a.ports.items z q) i j
          (λ e'. r.ports.waits q (λ x. not_read (subst (Reads program i) x e')))
          (λ s _. r.ports.others_wait j q s) e
