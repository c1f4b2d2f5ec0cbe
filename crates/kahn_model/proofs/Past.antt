-- A stream that a well-formed program does not have gets no token.
use Rattle.std.proofs.Common.{◌≡◌, ℕ, zero, suc, ◌≤◌, List, [], ◌∷◌, ◌++◌, length, Bool, true, Option, Some, None, refl, ap, ◌∙◌, subst, arith}
use Rattle.std.specs.Prelude.{◌==◌, if◌then◌else◌, flat_map, slice_get}
use Rattle.std.proofs.lemmas.Bool.Decides.{nat_tests}
use Rattle.std.proofs.lemmas.Option.{slice_get_within}
use Rattle.tapa_base.specs.declared.token.Token.{Token}
use Rattle.tapa_syntax.specs.declared.program.Instance.{Instance}
use Rattle.tapa_syntax.specs.declared.program.Leaf.{Leaf}
use Rattle.tapa_syntax.specs.declared.program.Program.{Program}
use Rattle.tapa_syntax.specs.LeafKinds.{kinds_of, writes_of}
use Rattle.tapa_syntax.specs.WellFormed.{IsInstance, IsWellFormed}
use Rattle.kahn_model.specs.Behavior.{Action, Local, Put, Load, Store, Tick, Did, StreamOperation, Read, Peek, TestEot, Open, Behavior, Finished, OutOfTurns, Act, Await, Offer, NoToken, WrongToken, Answer, first_offer, tick_of, lists_after, on_offer, ticks}
use Rattle.kahn_model.specs.Network.{put_on, stream}
use Rattle.kahn_model.specs.Trace.{State, job_of, act_at, at_streams}
use Rattle.kahn_model.specs.ProgramNetwork.{stream_at, leaf_job, instance_job}
use Rattle.kahn_model.specs.Start.{first_state, network_of}
use Rattle.kahn_model.proofs.Wired.{Keeps, KeepsAct, body_keeps}
use Rattle.kahn_model.proofs.WellFormed.{bound_end, same_leaf}

not_put : (r s : ℕ) (t : Token) → (r ≡ s → ⊥) → (if r == s then t ∷ [] else []) ≡ []
not_put r s t d = grind (arith, nat_tests)

act_puts_none : (w : ℕ → Option Bool) (f : ℕ → ℕ) (s : ℕ) → ((p : ℕ) → w p ≡ Some true → f p ≡ s → ⊥) → (a : Action) → KeepsAct w a → put_on s (Did (act_at f a)) ≡ []
act_puts_none w f s h Local k = refl
act_puts_none w f s h (Put p t) k = not_put (f p) s t (h p k)
act_puts_none w f s h (Load m i) k = refl
act_puts_none w f s h (Store m i v) k = refl

tick_puts_none : (how : StreamOperation) (r s : ℕ) (t : Token) → put_on s (tick_of how r t) ≡ []
tick_puts_none Read r s t = refl
tick_puts_none Peek r s t = refl
tick_puts_none TestEot r s t = refl
tick_puts_none Open r s t = refl

offer_puts_none : (s : ℕ) (o : Offer) (g : Token → ℕ → List Tick) → ((t : Token) (v : ℕ) → flat_map (put_on s) (g t v) ≡ []) → flat_map (put_on s) (on_offer o [] [] g) ≡ []
offer_puts_none s NoToken g h = refl
offer_puts_none s WrongToken g h = refl
offer_puts_none s (Answer t v) g h = h t v

puts_none : (w : ℕ → Option Bool) (f : ℕ → ℕ) (s : ℕ) → ((p : ℕ) → w p ≡ Some true → f p ≡ s → ⊥) → (a : Behavior) → Keeps w a → (ins : ℕ → List Token) → flat_map (put_on s) (ticks (at_streams f a) ins) ≡ []
puts_none w f s h Finished k ins = refl
puts_none w f s h OutOfTurns k ins = refl
puts_none w f s h (Act a rest) (k, ks) ins =
    ap (λ x. x ++ flat_map (put_on s) (ticks (at_streams f rest) ins)) (act_puts_none w f s h a k) ∙ puts_none w f s h rest ks ins
puts_none w f s h (Await p how rest) (k, ks) ins =
    offer_puts_none s (first_offer how (ins (f p))) _
    (λ t v. ap (λ x. x ++ flat_map (put_on s) (ticks (at_streams f (rest v)) (lists_after how (f p) ins))) (tick_puts_none how (f p) s t) ∙ puts_none w f s h (rest v) (ks v) (lists_after how (f p) ins))

leaf_none : (program : Program) → IsWellFormed program → (i n s : ℕ) (x : Instance) (o : Option Leaf) (σ : State) → length program.streams.items ≤ s → slice_get program.instances.items i ≡ Some x → slice_get program.bodies.items x.body ≡ o → (ins : ℕ → List Token) → flat_map (put_on s) (ticks (leaf_job o x σ n) ins) ≡ []
leaf_none program w i n s x None σ past ex eo ins = refl
leaf_none program w i n s x (Some leaf) σ past ex eo ins =
    let (other, given) = w.instances i x ex in
    let h : IsInstance program i x leaf = subst (λ l. IsInstance program i x l) (same_leaf other leaf _ given.body eo) given in
    puts_none (writes_of leaf.streams.items) (stream_at x) s
    (λ p e q. let at = bound_end program i x leaf h p true e in let l = slice_get_within program.streams.items (stream_at x p) at.0 at.1 in absurd (omega arith))
    (job_of (kinds_of leaf) leaf.code.items σ n) (body_keeps leaf (w.leaves x.body leaf eo).uses σ n) ins

instance_none : (program : Program) → IsWellFormed program → (i n s : ℕ) (o : Option Instance) (σ : State) → length program.streams.items ≤ s → slice_get program.instances.items i ≡ o → (ins : ℕ → List Token) → flat_map (put_on s) (ticks (instance_job program.bodies.items o σ n) ins) ≡ []
instance_none program w i n s None σ past e ins = refl
instance_none program w i n s (Some x) σ past e ins = leaf_none program w i n s x (slice_get program.bodies.items x.body) σ past e refl ins

pub stream_past : (program : Program) → IsWellFormed program → (scalars : List ℕ) (memories : List (List ℕ)) (n s : ℕ) → length program.streams.items ≤ s → stream (network_of program scalars memories) n s ≡ []
unfolding network_of
stream_past program w scalars memories zero s past = refl
stream_past program w scalars memories (suc n) s past =
    let net = network_of program scalars memories in
    let i = net.producer s in
    instance_none program w i (suc n) s (slice_get program.instances.items i) (first_state program scalars memories i) past refl (stream net n)
