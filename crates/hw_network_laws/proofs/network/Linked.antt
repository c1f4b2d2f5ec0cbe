-- A module at its ports, seen at the streams.
use Rattle.std.proofs.Common.{◌≡◌, ℕ, suc, List, [], ◌∷◌, Bool, true, false, Option, Some, None, ◌&&◌, refl, sym, ap, ◌∙◌, subst, ⊎_elim, arith}
use Rattle.std.specs.Prelude.{◌==◌, not, if◌then◌else◌, slice_get}
use Rattle.std.proofs.lemmas.Bool.{and_right as and_not}
use Rattle.std.proofs.lemmas.Bool.Decides.{nat_tests}
use Rattle.tapa_base.specs.declared.token.Token.{Token}
use Rattle.kahn_model.specs.declared.tick.Action.TheVariants.{Put}
use Rattle.kahn_model.specs.declared.tick.StreamOperation.{StreamOperation}
use Rattle.kahn_model.specs.Behavior.{on_offer, takes}
use Rattle.kahn_model.specs.Trace.{State}
use Rattle.task_fsm.specs.Machine.{StateForm, ReadAt, WriteAt, PeekAt, EotAt, OpenAt, CloseAt, ClearAt}
use Rattle.task_fsm.specs.Run.{StateStep, Performs, Awaits, step, step_at, clear_step, is_last}
use Rattle.hw_lines.specs.After.{at_after, held_after, ends_by}
use Rattle.hw_lines.specs.Signals.{Streams, History, Part}
use Rattle.hw_lines.specs.Machine.{offered, offer_in, allows, found, takes_of, puts_of, step_in, steps, put_in, RunsMachine}
use Rattle.hw_network_laws.specs.network.Ports.{UsesPorts, UsesPortsAt, alone, IsLinked}
use Rattle.tapa_base.proofs.Tests.{eq_same}

-- the ports of a step are declared
abbrev StepUses : (ℕ → Option Bool) → StateStep → Type 0
StepUses w (Performs (Put p t) pc σ) = w p ≡ Some true
StepUses w (Awaits p how pc into) = w p ≡ Some false
StepUses w _ = Unit {0}

clear_uses : (w : ℕ → Option Bool) (b : Bool) (a c pc next : ℕ) (σ : State) → StepUses w (clear_step b a c pc next σ)
clear_uses w true a c pc next σ = tt
clear_uses w false a c pc next σ = tt

step_uses : (w : ℕ → Option Bool) (f : StateForm) (pc : ℕ) (σ : State) → UsesPorts w f → StepUses w (step f pc σ)
step_uses w (ReadAt p into next) pc σ u = u
step_uses w (WriteAt p e next) pc σ u = u
step_uses w (PeekAt p into next) pc σ u = u
step_uses w (EotAt p into next) pc σ u = u
step_uses w (OpenAt p next) pc σ u = u
step_uses w (CloseAt p next) pc σ u = u
step_uses w (ClearAt a c next) pc σ u = clear_uses w (is_last σ a c) a c pc next σ
step_uses w _ pc σ u = tt

step_at_uses : (w : ℕ → Option Bool) (o : Option StateForm) (pc : ℕ) (σ : State) → UsesPortsAt w o → StepUses w (step_at o pc σ)
step_at_uses w None pc σ u = tt
step_at_uses w (Some f) pc σ u = step_uses w f pc σ u

eq_not : (a b : ℕ) → (a ≡ b → ⊥) → (a == b) ≡ false
eq_not a b d = grind (arith, nat_tests)

-- a step takes and puts nothing at a stream that is at no port
takes_none : (bound : ℕ → ℕ) (w : ℕ → Option Bool) (s : ℕ) (x : StateStep) → StepUses w x → ((p : ℕ) → w p ≡ Some false → bound p ≡ s → ⊥) → takes_of bound s x ≡ false
takes_none bound w s (Awaits q how pc into) u d = and_not (takes how) (bound q == s) (eq_not (bound q) s (d q u))
takes_none bound w s _ u d = refl

puts_none : (bound : ℕ → ℕ) (w : ℕ → Option Bool) (s : ℕ) (x : StateStep) → StepUses w x → ((p : ℕ) → w p ≡ Some true → bound p ≡ s → ⊥) → puts_of bound s x ≡ []
puts_none bound w s (Performs (Put q t) pc σ) u d = ap (λ b. if b then t ∷ [] else []) (eq_not (bound q) s (d q u))
puts_none bound w s _ u d = refl

if_none : (b : Bool) (l : List Token) → l ≡ [] → [] ≡ (if b then l else [])
if_none true l e = sym e
if_none false l e = refl

module _ (part : Part) (w : ℕ → Option Bool) (Reads Writes : ℕ → Type 0) (ports S : Streams) (answers : ℕ → ℕ → Bool) (l : IsLinked part.bound w Reads Writes ports S) where
  offer_same : (p n : ℕ) (how : StreamOperation) → w p ≡ Some false → offer_in ports n p how ≡ offer_in S n (part.bound p) how
  offer_same p n how u = ap (λ b. offered b how (ports.dout p n)) (l.has p n u) ∙ ap (offered (S.has (part.bound p) n) how) (l.dout p n u)

  allows_same : (n : ℕ) (x : StateStep) → StepUses w x → allows ports answers (λ p. p) n x ≡ allows S answers part.bound n x
  allows_same n (Performs (Put p t) pc σ) u = l.rdy p n u
  allows_same n (Awaits p how pc into) u = ap (λ o. on_offer o false false (λ t v. true)) (offer_same p n how u)
  allows_same n _ u = refl

  found_same : (n : ℕ) (x : StateStep) → StepUses w x → found ports (λ p. p) n x ≡ found S part.bound n x
  found_same n (Awaits p how pc into) u = ap (λ o. on_offer o 0 0 (λ t v. v)) (offer_same p n how u)
  found_same n _ u = refl

  takes_same : (p : ℕ) (x : StateStep) → StepUses w x → w p ≡ Some false → takes_of (λ p. p) p x ≡ takes_of part.bound (part.bound p) x
  takes_same p (Awaits q how pc into) u d = ap (λ b. takes how && b) (eq_same q p (part.bound q) (part.bound p) (λ e. ap part.bound e) (λ e. l.distinct q p false u d e))
  takes_same p _ u d = refl

  puts_same : (p : ℕ) (x : StateStep) → StepUses w x → w p ≡ Some true → puts_of (λ p. p) p x ≡ puts_of part.bound (part.bound p) x
  puts_same p (Performs (Put q t) pc σ) u d = ap (λ b. if b then t ∷ [] else []) (eq_same q p (part.bound q) (part.bound p) (λ e. ap part.bound e) (λ e. l.distinct q p true u d e))
  puts_same p _ u d = refl

  put_same : (p n : ℕ) → w p ≡ Some true → put_in S (part.bound p) n ≡ put_in ports p n
  put_same p n u =
      ap (λ b. if b && S.rdy (part.bound p) n then S.din (part.bound p) n ∷ [] else []) (l.wr p n u)
      ∙ ap (λ b. if ports.wr p n && b then S.din (part.bound p) n ∷ [] else []) (sym (l.rdy p n u))
      ∙ ap (λ t. if ports.wr p n && ports.rdy p n then t ∷ [] else []) (l.din p n u)

  module _ (h : History) (uses : (pc : ℕ) → UsesPortsAt w (slice_get part.places pc)) (r : RunsMachine (alone part) ports answers (λ p. w p ≡ Some false) (λ p. w p ≡ Some true) h) where
    used : (n : ℕ) → StepUses w (step_in part h n)
    used n = step_at_uses w (slice_get part.places (h.at n)) (h.at n) (h.holds n) (uses (h.at n))

    steps_same : (n : ℕ) → steps (alone part) ports answers h n ≡ steps part S answers h n
    steps_same n = ap (λ b. not (h.ended n) && b) (allows_same n (step_in part h n) (used n))

    take_at : (p s n : ℕ) → w p ≡ Some false → part.bound p ≡ s → S.take s (suc n) ≡ (steps part S answers h (suc n) && takes_of part.bound s (step_in part h (suc n)))
    take_at p s n d e =
        subst (λ s. S.take s (suc n) ≡ (steps part S answers h (suc n) && takes_of part.bound s (step_in part h (suc n)))) e
        (l.take p (suc n) d ∙ r.take p n d
        ∙ ap (λ b. b && takes_of (λ p. p) p (step_in part h (suc n))) (steps_same (suc n))
        ∙ ap (λ b. steps part S answers h (suc n) && b) (takes_same p (step_in part h (suc n)) (used (suc n)) d))

    put_at : (p s n : ℕ) → w p ≡ Some true → part.bound p ≡ s → put_in S s (suc n) ≡ (if steps part S answers h (suc n) then puts_of part.bound s (step_in part h (suc n)) else [])
    put_at p s n d e =
        subst (λ s. put_in S s (suc n) ≡ (if steps part S answers h (suc n) then puts_of part.bound s (step_in part h (suc n)) else [])) e
        (put_same p (suc n) d ∙ r.put p n d
        ∙ ap (λ b. if b then puts_of (λ p. p) p (step_in part h (suc n)) else []) (steps_same (suc n))
        ∙ ap (λ z. if steps part S answers h (suc n) then z else []) (puts_same p (step_in part h (suc n)) (used (suc n)) d))

    pub at_streams : RunsMachine part S answers Reads Writes h
    at_streams = record {
      at_first = r.at_first;
      holds_first = r.holds_first;
      not_ended = r.not_ended;
      at = λ n. r.at n ∙ ap (λ b. if b then at_after (step_in part h (suc n)) (h.at (suc n)) else h.at (suc n)) (steps_same (suc n));
      holds = λ n.
          r.holds n
          ∙ ap (λ v. if steps (alone part) ports answers h (suc n) then held_after (step_in part h (suc n)) (h.holds (suc n)) v else h.holds (suc n)) (found_same (suc n) (step_in part h (suc n)) (used (suc n)))
          ∙ ap (λ b. if b then held_after (step_in part h (suc n)) (h.holds (suc n)) (found S part.bound (suc n) (step_in part h (suc n))) else h.holds (suc n)) (steps_same (suc n));
      ended = λ n. r.ended n ∙ ap (λ b. if b then ends_by (step_in part h (suc n)) else h.ended (suc n)) (steps_same (suc n));
      take = λ s n d.
          ⊎_elim
          (λ (a : (p : ℕ) × (w p ≡ Some false) × (part.bound p ≡ s)). take_at a.0 s n a.1 a.2)
          (λ (a : ((p : ℕ) → w p ≡ Some false → part.bound p ≡ s → ⊥) × ((n : ℕ) → S.take s (suc n) ≡ false)).
          a.1 n ∙ sym (and_not (steps part S answers h (suc n)) (takes_of part.bound s (step_in part h (suc n))) (takes_none part.bound w s (step_in part h (suc n)) (used (suc n)) a.0)))
          (l.reader s d);
      put = λ s n d.
          ⊎_elim
          (λ (a : (p : ℕ) × (w p ≡ Some true) × (part.bound p ≡ s)). put_at a.0 s n a.1 a.2)
          (λ (a : ((p : ℕ) → w p ≡ Some true → part.bound p ≡ s → ⊥) × ((n : ℕ) → put_in S s (suc n) ≡ [])).
          a.1 n ∙ if_none (steps part S answers h (suc n)) (puts_of part.bound s (step_in part h (suc n))) (puts_none part.bound w s (step_in part h (suc n)) (used (suc n)) a.0))
          (l.writer s d);
    }
