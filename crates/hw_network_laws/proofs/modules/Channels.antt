-- What a channel owes by numbers is the contract of its stream.
use Rattle.std.proofs.Common.{◌≡◌, ℕ, zero, suc, ◌+◌, ◌-◌, ◌*◌, ◌≤◌, List, [], ◌∷◌, ◌++◌, length, map, Bool, true, false, ◌&&◌, Some, refl, sym, ap, ◌∙◌, subst, arith, length-append}
use Rattle.std.specs.Prelude.{◌==◌, not, nat_lt, if◌then◌else◌, slice_get, option_map}
use Rattle.std.proofs.lemmas.Bool.{lt-ltb, le-ltb, ltb-true, eqb-true}
use Rattle.std.proofs.lemmas.List.{append-nil, map-append, length-map}
use Rattle.std.proofs.lemmas.Option.{slice_get-map}
use Rattle.tapa_base.specs.declared.token.Token.{Token}
use Rattle.vlog_tree.specs.Environment.{token_of}
use Rattle.kahn_model.specs.declared.tick.StreamOperation.{StreamOperation}
use Rattle.kahn_model.specs.Behavior.{on_offer, takes}
use Rattle.hw_channel_laws.specs.signals.Signals.{both}
use Rattle.hw_channel_laws.specs.signals.Contract.{ChannelPorts, MeetsContract as OwesContract, written, taken}
use Rattle.hw_channel_laws.proofs.signals.Pointers.{bit_is, fewer_than}
use Rattle.task_fsm.specs.Run.{StateStep, Awaits}
use Rattle.hw_lines.specs.Signals.{Streams, History, Part}
use Rattle.hw_lines.specs.Machine.{RunsMachine, offered, allows, takes_of, step_in, steps, put_in}
use Rattle.hw_network_laws.specs.network.Channel.{carried, drawn, took_in, KeepsContract}
use Rattle.hw_network_laws.specs.modules.Channels.{AreSignals, TakesOffers, IsStill}
use Rattle.tapa_base.proofs.Tests.{both_true as and_parts}

pub push : (f : ℕ → Token) (b : Bool) (l : List ℕ) (d : ℕ) → map f l ++ (if b then f d ∷ [] else []) ≡ map f (if b then l ++ d ∷ [] else l)
push f true l d = sym (map-append f l (d ∷ []))
push f false l d = append-nil (map f l)

-- one more taken
one_more : (t h : Bool) → (t ≡ true → h ≡ true) → (l : List Token) (d : Token) (k : ℕ) → length l ≡ k → length (l ++ (if t then d ∷ [] else [])) ≡ (if t && h then k + 1 else k)
one_more true true f l d k e = let a = length-append l (d ∷ []) in omega arith
one_more true false f l d k e = let bad = f refl in cc
one_more false h f l d k e = ap length (append-nil l) ∙ e

module _ (bits s : ℕ) (c : ChannelPorts) (S : Streams) (a : AreSignals bits s c S) (only : TakesOffers s S) where
  put_is : (n : ℕ) → put_in S s n ≡ (if both c.wr c.rdy n then token_of bits (c.din n) ∷ [] else [])
  put_is n =
      ap (λ b. if b && S.rdy s n then S.din s n ∷ [] else []) (a.wr n)
      ∙ ap (λ b. if (c.wr n == 1) && b then S.din s n ∷ [] else []) (a.rdy n)
      ∙ ap (λ t. if both c.wr c.rdy n then t ∷ [] else []) (a.din n)

  carried_is : (n : ℕ) → carried S s n ≡ map (token_of bits) (written c n)
  carried_is zero = refl
  carried_is (suc zero) = refl
  carried_is (suc (suc n)) =
      ap (λ b. carried S s (suc n) ++ (if b then put_in S s (suc n) else [])) (lt-ltb 0 (suc n) (omega arith))
      ∙ ap (λ l. l ++ put_in S s (suc n)) (carried_is (suc n))
      ∙ ap (λ l. map (token_of bits) (written c (suc n)) ++ l) (put_is (suc n))
      ∙ push (token_of bits) (both c.wr c.rdy (suc n)) (written c (suc n)) (c.din (suc n))

  carried_long : (n : ℕ) → length (carried S s n) ≡ length (written c n)
  carried_long n = ap length (carried_is n) ∙ length-map (written c n) (token_of bits)

  drawn_is : (n : ℕ) → length (drawn S s n) ≡ taken c n
  drawn_is zero = refl
  drawn_is (suc zero) = refl
  drawn_is (suc (suc n)) =
      let k = taken c (suc n) in
      ap (λ b. length (drawn S s (suc n) ++ (if b then took_in S s (suc n) else []))) (lt-ltb 0 (suc n) (omega arith))
      ∙ one_more (S.take s (suc n)) (S.has s (suc n)) (only n) (drawn S s (suc n)) (S.dout s (suc n)) k (drawn_is (suc n))
      ∙ ap (λ b. if b && S.has s (suc n) then k + 1 else k) (a.take (suc n))
      ∙ ap (λ b. if (c.take (suc n) == 1) && b then k + 1 else k) (a.has (suc n))

  module _ (depth late : ℕ) (m : OwesContract depth late c) where
    under : (b : Bool) (n : ℕ) → nat_lt late (suc n) ≡ b → (b && nat_lt (length (written c (suc n - 2 * late))) (taken c (suc n - late) + depth)) ≡ (b && nat_lt (length (carried S s (suc n - 2 * late)) - length (drawn S s (suc n - late))) depth)
    under false n e = refl
    under true n e =
        let lt = ltb-true late (suc n) e in
        let z : suc n - late - late ≡ suc n - 2 * late = omega arith in
        let le : taken c (suc n - late) ≤ length (written c (suc n - 2 * late)) = subst (λ k. taken c (suc n - late) ≤ length (written c k)) z (m.order (suc n - late) (omega arith)) in
        sym (fewer_than (length (written c (suc n - 2 * late))) (taken c (suc n - late)) depth le)
        ∙ ap (λ x. nat_lt (x - taken c (suc n - late)) depth) (sym (carried_long (suc n - 2 * late)))
        ∙ ap (λ x. nat_lt (length (carried S s (suc n - 2 * late)) - x) depth) (sym (drawn_is (suc n - late)))

    ready_is : (n : ℕ) → S.rdy s (suc n) ≡ (nat_lt late (suc n) && nat_lt (length (carried S s (suc n - 2 * late)) - length (drawn S s (suc n - late))) depth)
    ready_is n =
        a.rdy (suc n) ∙ ap (λ x. x == 1) (m.ready (suc n) (omega arith))
        ∙ bit_is (nat_lt late (suc n) && nat_lt (length (written c (suc n - 2 * late))) (taken c (suc n - late) + depth))
        ∙ under (nat_lt late (suc n)) n refl

    there_is : (n : ℕ) → S.has s (suc n) ≡ nat_lt (taken c (suc n)) (length (written c (suc n - late)))
    there_is n = a.has (suc n) ∙ ap (λ x. x == 1) (m.offer (suc n) (omega arith)) ∙ bit_is (nat_lt (taken c (suc n)) (length (written c (suc n - late))))

    token_is : (n : ℕ) → S.has s (suc n) ≡ true → slice_get (carried S s (suc n)) (length (drawn S s (suc n))) ≡ Some (S.dout s (suc n))
    token_is n e =
        let l = ltb-true (taken c (suc n)) (length (written c (suc n - late))) (sym (there_is n) ∙ e) in
        ap (slice_get (carried S s (suc n))) (drawn_is (suc n))
        ∙ ap (λ x. slice_get x (taken c (suc n))) (carried_is (suc n))
        ∙ slice_get-map (token_of bits) (written c (suc n)) (taken c (suc n))
        ∙ ap (option_map (token_of bits)) (m.token (suc n) (omega arith) l)
        ∙ ap Some (sym (a.dout (suc n)))

    pub meets : KeepsContract S s depth late
    meets = record {
      ready = ready_is;
      offer = λ n.
          there_is n
          ∙ ap (λ x. nat_lt x (length (written c (suc n - late)))) (sym (drawn_is (suc n)))
          ∙ ap (nat_lt (length (drawn S s (suc n)))) (sym (carried_long (suc n - late)));
      token = token_is;
    }

-- ---- a machine takes nothing that is not there

offer_there : (b : Bool) (how : StreamOperation) (d : Token) → on_offer (offered b how d) false false (λ t v. true) ≡ true → b ≡ true
offer_there true how d e = refl
offer_there false how d e = cc

step_takes : (S : Streams) (answers : ℕ → ℕ → Bool) (f : ℕ → ℕ) (n s : ℕ) (x : StateStep) → allows S answers f n x ≡ true → takes_of f s x ≡ true → S.has s n ≡ true
step_takes S answers f n s (Awaits p how pc into) e t =
    let same : f p ≡ s = eqb-true (f p) s (and_parts (takes how) (f p == s) t).1 in
    subst (λ r. S.has r n ≡ true) same (offer_there (S.has (f p) n) how (S.dout (f p) n) e)
step_takes S answers f n s _ e t = cc

pub takes_offers : (part : Part) (S : Streams) (answers : ℕ → ℕ → Bool) (Reads Writes : ℕ → Type 0) (h : History) → RunsMachine part S answers Reads Writes h → (s : ℕ) → Reads s → TakesOffers s S
takes_offers part S answers Reads Writes h r s own n e =
    let x = step_in part h (suc n) in
    let p = and_parts (steps part S answers h (suc n)) (takes_of part.bound s x) (sym (r.take s n own) ∙ e) in
    let q = and_parts (not (h.ended (suc n))) (allows S answers part.bound (suc n) x) p.0 in
    step_takes S answers part.bound (suc n) s x q.1 p.1

-- ---- a stream at which nothing moves

no_room : (b : Bool) (x : ℕ) → false ≡ (b && nat_lt x 0)
no_room false x = refl
no_room true x = sym (le-ltb x 0 (omega arith))

module _ (s : ℕ) (S : Streams) (q : IsStill s S) where
  pub none_put : (b : Bool) (n : ℕ) → (if b && S.rdy s (suc n) then S.din s (suc n) ∷ [] else []) ≡ []
  none_put false n = refl
  none_put true n = ap (λ b. if b then S.din s (suc n) ∷ [] else []) (q.rdy n)

  none_carried : (n : ℕ) → carried S s n ≡ []
  none_carried zero = refl
  none_carried (suc zero) = refl
  none_carried (suc (suc n)) =
      ap (λ b. carried S s (suc n) ++ (if b then put_in S s (suc n) else [])) (lt-ltb 0 (suc n) (omega arith))
      ∙ ap (λ l. l ++ put_in S s (suc n)) (none_carried (suc n)) ∙ none_put (S.wr s (suc n)) n

  pub still_meets : (late : ℕ) → KeepsContract S s 0 late
  still_meets late = record {
    ready = λ n. q.rdy n ∙ no_room (nat_lt late (suc n)) (length (carried S s (suc n - 2 * late)) - length (drawn S s (suc n - late)));
    offer = λ n. q.has n ∙ sym (ap (λ l. nat_lt (length (drawn S s (suc n))) (length l)) (none_carried (suc n - late)) ∙ le-ltb (length (drawn S s (suc n))) 0 (omega arith));
    token = λ n e. let bad : true ≡ false = sym e ∙ q.has n in cc;
  }
