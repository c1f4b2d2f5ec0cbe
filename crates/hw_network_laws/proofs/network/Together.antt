-- The whole network, by one induction over the cycles.
use Rattle.std.proofs.Common.{◌≡◌, ℕ, zero, suc, ◌<◌, ◌≤◌, [], ◌∷◌, ◌++◌, Bool, true, false, ◌&&◌, Some, ⊎_elim, refl, sym, ap, ◌∙◌, subst, arith}
use Rattle.std.specs.Prelude.{nat_lt, flat_map, if◌then◌else◌}
use Rattle.std.proofs.lemmas.Bool.{cases_lt, lt-ltb, le-ltb}
use Rattle.std.proofs.lemmas.List.{append-nil}
use Rattle.kahn_model.specs.declared.tick.Tick.{Tick}
use Rattle.kahn_model.specs.Network.{Network, put_on, take_from}
use Rattle.kahn_model.specs.Counts.{ticks_made, written, taken}
use Rattle.kahn_model.specs.Timed.{Clock, moves, past_of, count_at}
use Rattle.kahn_model.proofs.Clocked.{clock_founded, count_up}
use Rattle.task_fsm.specs.Follows.{Follows}
use Rattle.hw_lines.specs.Signals.{Streams, History, Part}
use Rattle.hw_lines.specs.Machine.{steps, steps_before, step_in, put_in, puts_of, takes_of}
use Rattle.hw_network_laws.specs.network.Channel.{carried, took_in, drawn}
use Rattle.hw_network_laws.specs.network.Clocked.{IsClocked, AreCarried, IsInStep}
use Rattle.hw_network_laws.proofs.network.Stands.{tick_in, puts_are, takes_are}
use Rattle.hw_network_laws.proofs.network.Rest.{still}
use Rattle.hw_network_laws.proofs.network.Made.{made_stay, written_more, taken_more}
use Rattle.hw_network_laws.proofs.network.Cycle.{Keeps, does_is, made_by, made_not, keeps_next}
use Rattle.tapa_base.proofs.Tests.{both_true as and_parts}

and_false : (a b c : Bool) → b ≡ false → (a && (b && c)) ≡ false
and_false true true c e = cc
and_false true false c e = refl
and_false false b c e = refl

module _ (net : Network) (clock : Clock) (parts : ℕ → Part) (S : Streams) (h : ℕ → History) (ok : IsClocked net clock parts S h) where
  abbrev KeepsAt : ℕ → ℕ → Type 0
  KeepsAt n i = Keeps (net.job i) (parts i) (ticks_made net (count_at net clock n) i) ((h i).at n) ((h i).holds n) ((h i).ended n)

  abbrev does : ℕ → ℕ → Bool
  does n i = steps (parts i) S (clock.answers i) (h i) n

  -- before cycle 1
  keeps_first : (i : ℕ) → i < net.size → KeepsAt 1 i
  keeps_first i inside =
      let run = ok.runs i inside in
      record {
        stands = λ m.
            let (b, is, f) = ok.follows i inside m in
            let g : Follows (parts i).places [] b ((h i).at 1) ((h i).holds 1) =
            subst (λ p. Follows (parts i).places [] b p ((h i).holds 1)) (sym run.at_first) (subst (λ s. Follows (parts i).places [] b 0 s) (sym run.holds_first) f) in
            (Some b, ap Some is, still (parts i).places [] b ((h i).at 1) ((h i).holds 1) ((h i).ended 1) run.not_ended g);
        last = λ e. let bad : true ≡ false = sym e ∙ run.not_ended in cc;
        only = λ j e. cc;
        cells = ap (λ s. s.cells) run.holds_first;
      }

  carried_zero : AreCarried net clock S 0
  carried_zero = record { put = λ s. refl; took = λ s. refl }

  carried_first : AreCarried net clock S 1
  carried_first = record { put = λ s. refl; took = λ s. refl }

  module _ (n : ℕ) (so_far : (m : ℕ) → m ≤ suc n → AreCarried net clock S m) (all : (i : ℕ) → i < net.size → KeepsAt (suc n) i) where
    abbrev now : ℕ → ℕ
    now = count_at net clock (suc n)

    abbrev later : ℕ → ℕ
    later = count_at net clock (suc (suc n))

    abbrev tick : ℕ → Tick
    tick i = tick_in S (parts i).bound (suc n) (step_in (parts i) (h i) (suc n))

    -- an instance that is not of the network makes no tick
    none : (i : ℕ) → net.size ≤ i → moves net clock (suc n) (past_of net clock (suc n)) i ≡ false
    none i l = and_false (nat_lt 0 (suc n)) (nat_lt i net.size) _ (le-ltb i net.size l)

    outside : (i : ℕ) → net.size ≤ i → ticks_made net later i ≡ ticks_made net now i
    outside i l =
        made_stay net ok.network now later (count_up net clock (suc n)) (clock_founded net ok.network clock (suc n)) (clock_founded net ok.network clock (suc (suc n))) i
        (ap (λ b. if b then suc (now i) else now i) (none i l))

    -- what is put in the cycle
    put_by : (s p : ℕ) → net.producer s ≡ p → p < net.size → (b : Bool) → does (suc n) p ≡ b → written net later s ≡ written net now s ++ put_in S s (suc n)
    put_by s p own inside true e =
        written_more net now later s (tick p) (subst (λ j. ticks_made net later j ≡ ticks_made net now j ++ tick p ∷ []) (sym own) (made_by net clock parts S h ok n p inside so_far (all p inside) e))
        ∙ ap (λ l. written net now s ++ l)
        (sym (puts_are S (parts p).bound (suc n) s (step_in (parts p) (h p) (suc n)))
        ∙ sym ((ok.runs p inside).put s n own ∙ ap (λ b. if b then puts_of (parts p).bound s (step_in (parts p) (h p) (suc n)) else []) e))
    put_by s p own inside false e =
        ap (flat_map (put_on s)) (subst (λ j. ticks_made net later j ≡ ticks_made net now j) (sym own) (made_not net clock parts S h ok n p inside so_far (all p inside) e))
        ∙ sym (append-nil (written net now s))
        ∙ ap (λ l. written net now s ++ l) (sym ((ok.runs p inside).put s n own ∙ ap (λ b. if b then puts_of (parts p).bound s (step_in (parts p) (h p) (suc n)) else []) e))

    put_one : (s : ℕ) → written net later s ≡ written net now s ++ put_in S s (suc n)
    put_one s =
        ⊎_elim
        (λ (l : net.producer s < net.size). put_by s (net.producer s) refl l (does (suc n) (net.producer s)) refl)
        (λ (l : net.size ≤ net.producer s). ap (flat_map (put_on s)) (outside (net.producer s) l) ∙ sym (append-nil (written net now s)) ∙ ap (λ l. written net now s ++ l) (sym (ok.put_inside s n l)))
        (cases_lt (net.producer s) net.size)

    -- and what is taken
    take_by : (s c : ℕ) → net.consumer s ≡ c → c < net.size → (b : Bool) → does (suc n) c ≡ b → taken net later s ≡ taken net now s ++ took_in S s (suc n)
    take_by s c own inside true e =
        taken_more net now later s (tick c) (subst (λ j. ticks_made net later j ≡ ticks_made net now j ++ tick c ∷ []) (sym own) (made_by net clock parts S h ok n c inside so_far (all c inside) e))
        ∙ ap (λ l. taken net now s ++ l)
        (sym (takes_are S (clock.answers c) (parts c).bound (suc n) s (step_in (parts c) (h c) (suc n)) (and_parts _ _ e).1)
        ∙ sym (ap (λ b. if b then S.dout s (suc n) ∷ [] else []) ((ok.runs c inside).take s n own ∙ ap (λ b. b && takes_of (parts c).bound s (step_in (parts c) (h c) (suc n))) e)))
    take_by s c own inside false e =
        ap (flat_map (take_from s)) (subst (λ j. ticks_made net later j ≡ ticks_made net now j) (sym own) (made_not net clock parts S h ok n c inside so_far (all c inside) e))
        ∙ sym (append-nil (taken net now s))
        ∙ ap (λ l. taken net now s ++ l) (sym (ap (λ b. if b then S.dout s (suc n) ∷ [] else []) ((ok.runs c inside).take s n own ∙ ap (λ b. b && takes_of (parts c).bound s (step_in (parts c) (h c) (suc n))) e)))

    take_one : (s : ℕ) → taken net later s ≡ taken net now s ++ took_in S s (suc n)
    take_one s =
        ⊎_elim
        (λ (l : net.consumer s < net.size). take_by s (net.consumer s) refl l (does (suc n) (net.consumer s)) refl)
        (λ (l : net.size ≤ net.consumer s). ap (flat_map (take_from s)) (outside (net.consumer s) l) ∙ sym (append-nil (taken net now s)) ∙ ap (λ l. taken net now s ++ l) (sym (ap (λ b. if b then S.dout s (suc n) ∷ [] else []) (ok.taken_inside s n l))))
        (cases_lt (net.consumer s) net.size)

    carried_next : AreCarried net clock S (suc (suc n))
    carried_next =
        let at = so_far (suc n) (omega arith) in
        record {
          put = λ s. ap (λ b. carried S s (suc n) ++ (if b then put_in S s (suc n) else [])) (lt-ltb 0 (suc n) (omega arith)) ∙ ap (λ l. l ++ put_in S s (suc n)) (at.put s) ∙ sym (put_one s);
          took = λ s. ap (λ b. drawn S s (suc n) ++ (if b then took_in S s (suc n) else [])) (lt-ltb 0 (suc n) (omega arith)) ∙ ap (λ l. l ++ took_in S s (suc n)) (at.took s) ∙ sym (take_one s);
        }

  -- up to cycle n + 1
  abbrev Whole : ℕ → Type 0
  Whole n = ((m : ℕ) → m ≤ suc n → AreCarried net clock S m) × ((i : ℕ) → i < net.size → KeepsAt (suc n) i)

  up_to_first : (m : ℕ) → m ≤ 1 → AreCarried net clock S m
  up_to_first zero l = carried_zero
  up_to_first (suc zero) l = carried_first
  up_to_first (suc (suc m)) l = absurd (omega arith)

  up_to_next : (n : ℕ) → ((m : ℕ) → m ≤ suc n → AreCarried net clock S m) → AreCarried net clock S (suc (suc n)) → (m : ℕ) → m ≤ suc (suc n) → AreCarried net clock S m
  up_to_next n so_far next m l =
      ⊎_elim
      (λ (a : m < suc (suc n)). so_far m (omega arith))
      (λ (a : suc (suc n) ≤ m). let e : suc (suc n) ≡ m = omega arith in subst (AreCarried net clock S) e next)
      (cases_lt m (suc (suc n)))

  pub whole : (n : ℕ) → ((m : ℕ) → m ≤ suc n → AreCarried net clock S m) × ((i : ℕ) → i < net.size → KeepsAt (suc n) i)
  whole zero = (up_to_first, keeps_first)
  whole (suc n) =
      let w = whole n in (
        up_to_next n w.0 (carried_next n w.0 w.1),
        λ i inside. keeps_next net clock parts S h ok n i inside w.0 (w.1 i inside),
      )

  counted : (i : ℕ) → i < net.size → (n : ℕ) → steps_before (parts i) S (clock.answers i) (h i) (suc n) ≡ count_at net clock (suc n) i
  counted i inside zero = refl
  counted i inside (suc n) =
      let w = whole n in
      let now = count_at net clock (suc n) i in
      ap (λ b. if b && does (suc n) i then suc (steps_before (parts i) S (clock.answers i) (h i) (suc n)) else steps_before (parts i) S (clock.answers i) (h i) (suc n)) (lt-ltb 0 (suc n) (omega arith))
      ∙ ap (λ c. if does (suc n) i then suc c else c) (counted i inside n)
      ∙ ap (λ b. if b then suc now else now) (does_is net clock parts S h ok n i inside w.0 (w.1 i inside))

  pub in_step : (n : ℕ) → AreCarried net clock S (suc n) × ((i : ℕ) → i < net.size → IsInStep net clock (parts i) S i (h i) (suc n))
  in_step n =
      let w = whole n in (
        w.0 (suc n) (omega arith),
        λ i inside. let k = w.1 i inside in record { count = counted i inside n; ended = k.last; only = λ e. k.only e.0 e.1; cells = k.cells },
      )
