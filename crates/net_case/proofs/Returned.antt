-- What a call takes over from a batch of the same run, by the program that it reads.
use Rattle.std.proofs.Common.{◌≡◌, ℕ, ◌+◌, ◌-◌, ◌*◌, ◌^◌, ◌<◌, ◌≤◌, ◌++◌, List, length, drop, Bool, true, false, Option, Some, None, refl, sym, ap, ◌∙◌, subst, arith}
use Rattle.std.specs.Prelude.{slice_get, slice_index, slice_set}
use Rattle.std.proofs.lemmas.Option.{get_or_from_slice_get}
use Rattle.tapa_syntax.specs.declared.program.Program.{Program}
use Rattle.kahn_model.specs.declared.tick.Tick.{Tick}
use Rattle.net_core.specs.declared.body.Pause.{Pause}
use Rattle.net_core.specs.declared.input.Input.{Input}
use Rattle.net_core.specs.declared.ports.Ports.{Ports}
use Rattle.net_core.specs.Job.{Job}
use Rattle.net_core.specs.Ports.{waiting, carried}
use Rattle.net_core.specs.Bindings.{stream_at, detached_at, Reads, Writes}
use Rattle.net_core.proofs.Shown.{detached_is}
use Rattle.net_case.specs.declared.batch.Process.{Process}
use Rattle.net_case.specs.declared.lot.Lot.{Lot}
use Rattle.net_case.specs.Batch.{IsBatchAt}
use Rattle.net_case.specs.declared.case_state.CaseState.{CaseState}
use Rattle.net_case.specs.declared.queue.Queue.{Queue}
use Rattle.net_case.specs.Claims.{MayCommit, Commits, kept_of}
use Rattle.net_case.specs.Commit.{IsFar}
use Rattle.net_case.specs.Deliver.{queue_at, queue_space}
use Rattle.net_case.specs.Home.{IsCaseAt, outs}
use Rattle.net_case.proofs.Coming.{same_run, small, there, space_there, more, enough}
use Rattle.net_case.proofs.Committed.{committed}
use Rattle.net_case.proofs.Outs.{outs_set}
use Rattle.net_case.proofs.Summed.{sum_fits}

-- a batch of the case's run, whose instance has the count with which it went out, and no other has fewer ticks than at the claim
pub record IsOfRun (v : CaseState) (l : Lot) : Type 0 where
  pub program : l.program ≡ v.program
  pub input : l.input ≡ v.input
  pub budget : l.budget ≡ v.budget
  pub fresh : slice_index v.counts l.instance ≡ l.from
  pub later : (j : ℕ) → slice_index l.at j ≤ slice_index v.counts j

pub of_run : (v s : CaseState) (l b : Lot) → v ≡ s → l ≡ b → b.program ≡ s.program → b.input ≡ s.input → b.budget ≡ s.budget → slice_index s.counts b.instance ≡ b.from → MayCommit s b → IsOfRun v l
of_run v s l b e1 e2 program input budget fresh may =
    subst (λ (w : CaseState). IsOfRun w l) (sym e1)
    (subst (λ (m : Lot). IsOfRun s m) (sym e2) (record { program = program; input = input; budget = budget; fresh = fresh; later = may.later }))

pub commits_by : (v s w : CaseState) (l b : Lot) → v ≡ s → l ≡ b → Commits v l w → Commits s b w
commits_by v s w l b e1 e2 h = subst (λ (z : CaseState). Commits z b w) e1 (subst (λ (m : Lot). Commits v m w) e2 h)

-- what may be taken over of the tokens that an instance wrote
pub record CanTakeWritten (program : Program) (i : ℕ) (queues : List Queue) (taken_list : List ℕ) (ports : Ports) : Type 0 where
  pub small : (p : ℕ) → Writes program i p → length (carried ports p) ≤ 1000000000000
  pub there : (p : ℕ) → Writes program i p → slice_index taken_list (stream_at program i p) + length (queue_at queues (stream_at program i p)) ≤ length (carried ports p)
  pub space : (p : ℕ) → Writes program i p → 2 * (length (carried ports p) - slice_index taken_list (stream_at program i p)) ≤ queue_space queues (stream_at program i p)

-- it is taken over
pub record HasTakenWritten (program : Program) (i : ℕ) (queues queues1 : List Queue) (taken_list : List ℕ) (ports : Ports) : Type 0 where
  pub joined : (p : ℕ) → Writes program i p → queue_at queues1 (stream_at program i p) ≡ queue_at queues (stream_at program i p) ++ drop (slice_index taken_list (stream_at program i p) + length (queue_at queues (stream_at program i p))) (carried ports p)
  pub others : (s : ℕ) → ((p : ℕ) → Writes program i p → stream_at program i p ≡ s → ⊥) → queue_at queues1 s ≡ queue_at queues s

-- what may be taken over of the tokens that it took
pub record CanTakeTaken (program : Program) (i : ℕ) (queues1 : List Queue) (taken_list : List ℕ) (ports : Ports) (limits : List ℕ) : Type 0 where
  pub more : (p : ℕ) → Reads program i p → slice_index taken_list (stream_at program i p) + length (waiting ports p) ≤ slice_index limits p
  pub there : (p : ℕ) → Reads program i p → slice_index limits p ≤ slice_index taken_list (stream_at program i p) + length (queue_at queues1 (stream_at program i p)) + length (waiting ports p)

-- that is taken over too
pub record HasTakenTaken (program : Program) (i : ℕ) (queues1 queues2 : List Queue) (taken_list taken2 offered offered2 : List ℕ) (ports : Ports) (limits : List ℕ) : Type 0 where
  pub took : (p : ℕ) → Reads program i p → slice_index taken2 (stream_at program i p) + length (waiting ports p) ≡ slice_index limits p
  pub gave : (p : ℕ) → Reads program i p → slice_index offered2 (stream_at program i p) ≡ slice_index limits p
  pub rest : (p : ℕ) → Reads program i p → queue_at queues2 (stream_at program i p) ≡ drop (slice_index taken2 (stream_at program i p) - slice_index taken_list (stream_at program i p)) (queue_at queues1 (stream_at program i p))
  pub others_taken : (s : ℕ) → ((p : ℕ) → Reads program i p → stream_at program i p ≡ s → ⊥) → slice_index taken2 s ≡ slice_index taken_list s
  pub others_given : (s : ℕ) → ((p : ℕ) → Reads program i p → stream_at program i p ≡ s → ⊥) → slice_index offered2 s ≡ slice_index offered s
  pub others_wait : (s : ℕ) → ((p : ℕ) → Reads program i p → stream_at program i p ≡ s → ⊥) → queue_at queues2 s ≡ queue_at queues1 s

-- who is listed then
pub record HasListed (program : Program) (i : ℕ) (listed listed2 : List Bool) : Type 0 where
  pub kept : (x : ℕ) → slice_get listed2 x ≡ Some false → slice_get listed x ≡ Some false
  pub far : (x : ℕ) → slice_get listed2 x ≡ Some false → IsFar program i x

-- the sum of the joined instances' ticks then
pub record HasSummed (program : Program) (i joined made joined2 : ℕ) : Type 0 where
  pub detached : detached_at program i ≡ true → joined2 ≡ joined
  pub joined_more : detached_at program i ≡ false → joined2 ≡ joined + made

module _ {B : Type 0} {Stands : B → Job → List Tick → Type 0} {program : Program} {input : Input} {budget : ℕ} {homes : List (Option (Process B))} {queues : List Queue} {taken_list offered counts : List ℕ} {pauses : List (Option Pause)} {listed : List Bool} {joined : ℕ} {writers : List ℕ} {fed : List Bool} (c : IsCaseAt Stands program input budget homes queues taken_list offered counts pauses listed joined writers fed) {program' : Program} {input' : Input} {budget' : ℕ} {at : List ℕ} {i from fuel made : ℕ} {pause : Option Pause} {ready : Bool} (y : Process B) (b' : IsBatchAt Stands program' input' budget' at i from fuel made pause ready y.body y.ports y.limits.items) (run : IsOfRun (record { program = program; input = input; budget = budget; counts = counts; out = outs homes; pauses = pauses }) (record { program = program'; input = input'; budget = budget'; instance = i; at = at; from = from; fuel = fuel; made = made; pause = pause; ready = ready })) where
  open run use {fresh, later as above_at}

  b : IsBatchAt Stands program input budget at i from fuel made pause ready y.body y.ports y.limits.items
  b = same_run Stands program' program input' input budget' budget at i from fuel made pause ready y.body y.ports y.limits.items run.program run.input run.budget b'

  pub can_take_written : CanTakeWritten program i queues taken_list y.ports
  can_take_written = record {
    small = small Stands program input budget queues taken_list offered counts c.at at i from fuel made pause ready y.body y.ports y.limits.items b c.counts_len fresh above_at;
    there = there Stands program input budget queues taken_list offered counts c.at at i from fuel made pause ready y.body y.ports y.limits.items b c.counts_len fresh above_at;
    space = space_there Stands program input budget queues taken_list offered counts c.at at i from fuel made pause ready y.body y.ports y.limits.items b c.counts_len fresh above_at;
  }

  pub can_take_taken : {queues1 : List Queue} → HasTakenWritten program i queues queues1 taken_list y.ports → CanTakeTaken program i queues1 taken_list y.ports y.limits.items
  can_take_taken {queues1} h = record {
    more = more Stands program input budget queues taken_list offered counts c.at at i from fuel made pause ready y.body y.ports y.limits.items b c.counts_len fresh above_at queues1 h.joined h.others;
    there = enough Stands program input budget queues taken_list offered counts c.at at i from fuel made pause ready y.body y.ports y.limits.items b c.counts_len fresh above_at queues1 h.joined h.others;
  }

  pub sum_fits_back : joined + made < 2 ^ 64
  sum_fits_back =
      let w = b.within in
      let k = b.capped in
      let f = b.few in
      sum_fits c made (omega arith)

  pub came_back : {before : Option Pause} → slice_get pauses i ≡ Some before → {queues1 : List Queue} → HasTakenWritten program i queues queues1 taken_list y.ports → {queues2 : List Queue} {taken2 offered2 : List ℕ} → length queues2 ≡ length queues → length taken2 ≡ length taken_list → length offered2 ≡ length offered → HasTakenTaken program i queues1 queues2 taken_list taken2 offered offered2 y.ports y.limits.items → ((s : ℕ) → queue_space queues s ≤ queue_space queues1 s) → ((s : ℕ) → queue_space queues1 s ≤ queue_space queues2 s) → {listed2 : List Bool} → length listed2 ≡ length listed → HasListed program i listed listed2 → {joined2 : ℕ} → HasSummed program i joined made joined2 → {kept : Option Pause} → kept ≡ kept_of pause before → IsCaseAt Stands program input budget (slice_set homes i (Some y)) queues2 taken2 offered2 (slice_set counts i (from + made)) (slice_set pauses i kept) listed2 joined2 writers fed
  came_back {before} before_is {queues1} h {queues2} {taken2} {offered2} ql tl ol t s1 s2 {listed2} ll k {joined2} j {kept} ke =
      subst (λ (z : Option Pause). IsCaseAt Stands program input budget (slice_set homes i (Some y)) queues2 taken2 offered2 (slice_set counts i (from + made)) (slice_set pauses i z) listed2 joined2 writers fed) (sym ke)
      (committed c at i from fuel made pause ready y b fresh above_at before before_is
      queues1 h.joined h.others queues2 taken2 offered2 (ql ∙ c.queues_len) (tl ∙ c.taken_len) (ol ∙ c.offered_len) t.took t.gave t.rest t.others_taken t.others_given t.others_wait
      (λ s. let u = s1 s in let v = s2 s in omega arith)
      listed2 (ll ∙ c.listed_len) k.kept k.far joined2
      (λ e. j.detached (sym (detached_is program input i) ∙ e))
      (λ e. j.joined_more (sym (detached_is program input i) ∙ e)))

-- what the case is then, for contracts
pub commits_view : {B : Type 0} (program : Program) (input : Input) (budget : ℕ) (homes : List (Option (Process B))) (counts : List ℕ) (pauses : List (Option Pause)) (l : Lot) (y : Process B) (before kept : Option Pause) → slice_index counts l.instance ≡ l.from → slice_get pauses l.instance ≡ Some before → kept ≡ kept_of l.pause before → Commits (record { program = program; input = input; budget = budget; counts = counts; out = outs homes; pauses = pauses }) l (record { program = program; input = input; budget = budget; counts = slice_set counts l.instance (l.from + l.made); out = outs (slice_set homes l.instance (Some y)); pauses = slice_set pauses l.instance kept })
commits_view program input budget homes counts pauses l y before kept fresh at ke = record {
  fresh = fresh;
  program = refl;
  input = refl;
  budget = refl;
  counts = refl;
  out = outs_set homes l.instance (Some y);
  pauses = ap (slice_set pauses l.instance) (ke ∙ ap (kept_of l.pause) (sym (get_or_from_slice_get pauses l.instance before None at)));
}
