-- A batch is back in its case.
use Rattle.std.proofs.Common.{◌≡◌, ℕ, ◌+◌, ◌-◌, ◌<◌, ◌≤◌, ◌++◌, List, length, drop, Bool, true, false, Option, Some, sym, ◌∙◌, arith}
use Rattle.std.specs.Prelude.{slice_get, slice_index, slice_set}
use Rattle.std.proofs.lemmas.List.{length-set}
use Rattle.std.proofs.lemmas.Option.{slice_get_within}
use Rattle.tapa_syntax.specs.declared.program.Program.{Program}
use Rattle.kahn_model.specs.declared.tick.Tick.{Tick}
use Rattle.kahn_model.specs.Network.{Network}
use Rattle.net_core.specs.declared.body.Pause.{Pause}
use Rattle.net_core.specs.declared.input.Input.{Input}
use Rattle.net_core.specs.Job.{Job}
use Rattle.net_core.specs.Ports.{waiting, carried}
use Rattle.net_core.specs.Bindings.{stream_at, Reads, Writes}
use Rattle.net_core.specs.Bounded.{network_on}
use Rattle.net_core.proofs.Moves.{get_set_other, set_some}
use Rattle.net_case.specs.Batch.{IsBatchAt}
use Rattle.net_case.specs.declared.batch.Process.{Process}
use Rattle.net_case.specs.declared.queue.Queue.{Queue}
use Rattle.net_case.specs.Claims.{kept_of}
use Rattle.net_case.specs.Commit.{IsFar}
use Rattle.net_case.specs.Deliver.{queue_at, queue_space}
use Rattle.net_case.specs.Home.{AreStreamsAt, IsHome, IsCaseAt}
use Rattle.net_case.proofs.Coming.{capped_is, reachable_later, stream_later, home_later, home_other}
use Rattle.net_case.proofs.Answered.{paused_later, unresumed_later, unended_later, rest_later, joined_later}

module _ {B : Type 0} {Stands : B → Job → List Tick → Type 0} {program : Program} {input : Input} {budget : ℕ} {homes : List (Option (Process B))} {queues : List Queue} {taken_list offered counts : List ℕ} {pauses : List (Option Pause)} {listed : List Bool} {joined : ℕ} {writers : List ℕ} {fed : List Bool} (c : IsCaseAt Stands program input budget homes queues taken_list offered counts pauses listed joined writers fed) (at : List ℕ) (i from fuel made : ℕ) (pause : Option Pause) (ready : Bool) (y : Process B) (b : IsBatchAt Stands program input budget at i from fuel made pause ready y.body y.ports y.limits.items) (fresh : slice_index counts i ≡ from) (above_at : (j : ℕ) → slice_index at j ≤ slice_index counts j) (before : Option Pause) (before_is : slice_get pauses i ≡ Some before) where
  abbrev N : Network
  N = network_on program input

  abbrev f : ℕ → ℕ
  f = stream_at program i

  abbrev a : AreStreamsAt program input budget queues taken_list offered counts
  a = c.at

  module _ (queues1 : List Queue) (joins : (p : ℕ) → Writes program i p → queue_at queues1 (f p) ≡ queue_at queues (f p) ++ drop (slice_index taken_list (f p) + length (queue_at queues (f p))) (carried y.ports p)) (others1 : (s : ℕ) → ((p : ℕ) → Writes program i p → f p ≡ s → ⊥) → queue_at queues1 s ≡ queue_at queues s) (queues2 : List Queue) (taken2 offered2 : List ℕ) (queues2_len : length queues2 ≡ length program.streams.items) (taken2_len : length taken2 ≡ length program.streams.items) (offered2_len : length offered2 ≡ length program.streams.items) (took2 : (p : ℕ) → Reads program i p → slice_index taken2 (f p) + length (waiting y.ports p) ≡ slice_index y.limits.items p) (gave2 : (p : ℕ) → Reads program i p → slice_index offered2 (f p) ≡ slice_index y.limits.items p) (rest2 : (p : ℕ) → Reads program i p → queue_at queues2 (f p) ≡ drop (slice_index taken2 (f p) - slice_index taken_list (f p)) (queue_at queues1 (f p))) (others_taken : (s : ℕ) → ((p : ℕ) → Reads program i p → f p ≡ s → ⊥) → slice_index taken2 s ≡ slice_index taken_list s) (others_given : (s : ℕ) → ((p : ℕ) → Reads program i p → f p ≡ s → ⊥) → slice_index offered2 s ≡ slice_index offered s) (others_wait : (s : ℕ) → ((p : ℕ) → Reads program i p → f p ≡ s → ⊥) → queue_at queues2 s ≡ queue_at queues1 s) (spaces : (s : ℕ) → queue_space queues s ≤ queue_space queues2 s) (listed2 : List Bool) (listed2_len : length listed2 ≡ length program.instances.items) (kept : (x : ℕ) → slice_get listed2 x ≡ Some false → slice_get listed x ≡ Some false) (far : (x : ℕ) → slice_get listed2 x ≡ Some false → IsFar program i x) (joined2 : ℕ) (detached_sum : N.detached i ≡ true → joined2 ≡ joined) (joined_sum : N.detached i ≡ false → joined2 ≡ joined + made) where
    abbrev homes2 : List (Option (Process B))
    homes2 = slice_set homes i (Some y)

    home_else : (j : ℕ) → (j ≡ i → ⊥) → slice_get homes2 j ≡ slice_get homes j
    home_else j d = get_set_other homes i j (Some y) (λ e. d (sym e))

    in_list : (j : ℕ) (z : Process B) → slice_get homes j ≡ Some (Some z) → j < length program.instances.items
    in_list j z e = let w = slice_get_within homes j (Some z) e in let l = c.homes_len in omega arith

    home_at : (j : ℕ) (z : Process B) → slice_get homes2 j ≡ Some (Some z) → IsHome Stands program input (slice_set counts i (from + made)) taken2 offered2 j z.body z.ports z.limits.items
    home_at j z =
        set_some (λ n (w : Process B). IsHome Stands program input (slice_set counts i (from + made)) taken2 offered2 n w.body w.ports w.limits.items) homes i j y z
        (home_later Stands program input budget queues taken_list offered counts a at i from fuel made pause ready y.body y.ports y.limits.items b c.counts_len fresh above_at queues1 joins others1 queues2 taken2 offered2 queues2_len took2 gave2 rest2 others_taken others_given others_wait spaces)
        (λ d o. home_other Stands program input budget queues taken_list offered counts a at i from fuel made pause ready y.body y.ports y.limits.items b c.counts_len fresh above_at queues1 joins others1 queues2 taken2 offered2 queues2_len took2 gave2 rest2 others_taken others_given others_wait spaces j (in_list j z o) d z.body z.ports z.limits.items (c.home j z o))

    pub committed : IsCaseAt Stands program input budget homes2 queues2 taken2 offered2 (slice_set counts i (from + made)) (slice_set pauses i (kept_of pause before)) listed2 joined2 writers fed
    committed = record {
      at = record {
        given = c.given;
        reachable = reachable_later Stands program input budget queues taken_list offered counts a at i from fuel made pause ready y.body y.ports y.limits.items b c.counts_len fresh above_at;
        capped = capped_is Stands program input budget queues taken_list offered counts a at i from fuel made pause ready y.body y.ports y.limits.items b c.counts_len fresh above_at;
        few = c.few;
        queues_len = queues2_len;
        taken_len = taken2_len;
        offered_len = offered2_len;
        streams = stream_later Stands program input budget queues taken_list offered counts a at i from fuel made pause ready y.body y.ports y.limits.items b c.counts_len fresh above_at queues1 joins others1 queues2 taken2 offered2 queues2_len took2 gave2 rest2 others_taken others_given others_wait spaces;
      };
      bound = c.bound;
      answered = record {
        counts_len = length-set counts i (from + made) ∙ c.counts_len;
        pauses_len = length-set pauses i (kept_of pause before) ∙ c.pauses_len;
        paused = paused_later c at i from fuel made pause ready y.body y.ports y.limits.items b fresh above_at before before_is;
        unresumed = unresumed_later c at i from fuel made pause ready y.body y.ports y.limits.items b fresh above_at before before_is;
      };
      unended = unended_later c at i from fuel made pause ready y.body y.ports y.limits.items b fresh above_at before before_is;
      homes_len = length-set homes i (Some y) ∙ c.homes_len;
      listed_len = listed2_len;
      home = home_at;
      rest = λ j z e g.
          let w = far j g in
          let o = sym (home_else j w.other) ∙ e in
          rest_later c at i from fuel made pause ready y.body y.ports y.limits.items b fresh above_at before before_is j (in_list j z o) w (c.rest j z o (kept j g));
      joined_is = joined_later c at i from fuel made pause ready y.body y.ports y.limits.items b fresh above_at before before_is joined2 detached_sum joined_sum;
    }
