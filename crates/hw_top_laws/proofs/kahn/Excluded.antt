-- What the promise of a circuit excludes.
use Rattle.std.proofs.Common.{◌≡◌, ℕ, zero, suc, ◌+◌, ◌*◌, ◌≤◌, Bool, true, false, List, length, sym, ap, subst, ◌∙◌, arith, add-zero}
use Rattle.std.specs.Prelude.{◌==◌, if◌then◌else◌}
use Rattle.hw_channel_laws.specs.signals.Contract.{written, taken}
use Rattle.hw_channel_laws.specs.signals.Signals.{Signal, ones}
use Rattle.tapa_syntax.specs.declared.program.Program.{Program}
use Rattle.vlog_tree.specs.Cycle.{Cycle, Path}
use Rattle.vlog_tree.specs.Environment.{Environment, RaisesDone}
use Rattle.kahn_model.specs.Ending.{IsLeastToEnd}
use Rattle.kahn_model.specs.Timed.{lost}
use Rattle.circuit_meaning.specs.Carries.{Carries, top_of}
use Rattle.circuit_meaning.specs.Clock.{network, clock_of, all_answer}
use Rattle.circuit_meaning.specs.Excluded.{Ends, StandingStill, DoneBeforeAnEnd, DoneBeforeTheWhole, DoneTooLate, OtherTokens}
use Rattle.circuit_meaning.specs.Gives.{Gives}
use Rattle.hw_top_laws.specs.kahn.Excluded.{ReadyTooLong}
use Rattle.hw_top_laws.proofs.kahn.Gives.{carrying_gives}

module _ (program : Program) (added : List ℕ) (env : Environment) (answers : ℕ → ℕ → Bool) (nets : ℕ → Path → Cycle) (most waits bound : ℕ) (k : ℕ → ℕ) (ends : Ends program added env answers most waits bound k)
    (c : Carries program env (clock_of program added answers) nets) where
  follows : Gives program added env answers nets
  follows = carrying_gives program ends.well_formed added env answers nets c

  -- at the limit that the bound gives
  in_time : (a : ℕ) × IsLeastToEnd (network program env) a × ((n : ℕ) × RaisesDone (top_of nets) n × (n ≤ 1 + a * suc most + waits))
  in_time =
      let t = follows.in_time most ends.latency bound k ends.run in
      let limit : ℕ = 1 + t.0 * suc most + waits in
      let some = ends.ready limit in
      let d = t.2 limit (omega arith) in
      let few = ends.ready d.0 in
      let within : d.0 ≤ 1 + t.0 * suc most + lost (all_answer program answers) d.0 = d.2 in
      (t.0, t.1, (d.0, d.1, omega arith))

pub still : StandingStill
still program added env answers nets most waits bound k ends s q got joined something empty c =
    let t = in_time program added env answers nets most waits bound k ends c in
    let g = follows program added env answers nets most waits bound k ends c in
    something (sym (g.shows k ends.run.ended s t.2.0 t.2.0 q got t.2.1 (omega arith) joined) ∙ empty t.2.0)

pub before_an_end : DoneBeforeAnEnd
before_an_end program env clock nets n i low joined going done c = going ((c.done n).0 done i low joined)

pub before_the_whole : DoneBeforeTheWhole
before_the_whole program w added env answers nets s n q got joined part done c = part ((carrying_gives program w added env answers nets c).whole s n n q got done (omega arith) joined)

pub too_late : DoneTooLate
too_late program added env answers nets most waits bound k ends late c =
    let t = in_time program added env answers nets most waits bound k ends c in
    late t.0 t.1 t.2.0 t.2.2 t.2.1

pub other_tokens : OtherTokens
other_tokens program w added env answers nets s n q got other c = other ((carrying_gives program w added env answers nets c).begins s n q got)

-- a cycle in which a signal is 1 counts
one_more : (b : Bool) (l : ℕ) → 1 ≤ l → 1 ≤ (if b then l + 1 else l)
one_more true l le = omega arith
one_more false l le = le

some_ones : (a : Signal) (n k : ℕ) → a n ≡ 1 → 1 ≤ ones a n (suc k)
some_ones a n zero e =
    let here : a (n + 0) ≡ 1 = ap a (add-zero n) ∙ e in
    subst (λ v. 1 ≤ (if v == 1 then 0 + 1 else 0)) (sym here) (omega arith)
some_ones a n (suc k) e = one_more (a (n + suc k) == 1) (ones a n (suc k)) (some_ones a n k e)

pub ready_too_long : ReadyTooLong
ready_too_long depth late n c up full ready meets =
    let long : suc late ≡ late + 1 = omega arith in
    let some : 1 ≤ ones c.rdy n (late + 1) = subst (λ k. 1 ≤ ones c.rdy n k) long (some_ones c.rdy n late ready) in
    let room : length (written c n) + ones c.rdy n (late + 1) ≤ taken c n + depth + 2 * late = meets.room n up in
    absurd (omega arith)
