-- The run of a network of machines is a clocked network.
use Rattle.std.proofs.Common.{◌≡◌, ℕ, zero, suc, ◌-◌, ◌*◌, ◌<◌, ◌≤◌, List, [], ◌∷◌, ◌++◌, length, Bool, true, false, ◌&&◌, Some, refl, sym, ap, ◌∙◌, subst, arith, length-append}
use Rattle.std.specs.Prelude.{slice_get, get_or, not, nat_lt, if◌then◌else◌, ◌==◌}
use Rattle.std.proofs.lemmas.Bool.{lt-ltb, le-ltb, ltb-true, eqb-true}
use Rattle.tapa_base.specs.declared.token.Token.{Token}
use Rattle.tapa_base.specs.declared.token.Token.TheVariants.{Eot}
use Rattle.kahn_model.specs.declared.tick.Action.{Action}
use Rattle.kahn_model.specs.declared.tick.Action.TheVariants.{Local, Put}
use Rattle.kahn_model.specs.Network.{Network, IsNetwork}
use Rattle.kahn_model.specs.Timed.{Clock}
use Rattle.hw_lines.specs.After.{at_after, held_after, ends_by}
use Rattle.task_fsm.specs.Run.{StateStep, Performs}
use Rattle.hw_lines.specs.Signals.{Streams, History, Part}
use Rattle.hw_lines.specs.Machine.{RunsMachine, allows, allows_act, takes_of, puts_by, puts_of, put_in, step_in, steps, found}
use Rattle.hw_network_laws.specs.network.Channel.{carried, drawn, took_in, KeepsContract}
use Rattle.hw_network_laws.specs.network.Clocked.{IsPartOf, IsClocked}
use Rattle.hw_network_laws.specs.network.Run.{Stand, stood, has_by, dout_by, rdy_by, inputs_by, step_by, does_by, puts_in, takes_in, stands, is_some, streams_of, history_of}
use Rattle.tapa_base.proofs.Tests.{both_true as and_parts}

-- a step that puts has room
act_room : (S : Streams) (answers : ℕ → ℕ → Bool) (f : ℕ → ℕ) (n s : ℕ) (a : Action) → allows_act S answers f n a ≡ true → (if is_some (puts_by f s a) && S.rdy s n then get_or (puts_by f s a) 0 Eot ∷ [] else []) ≡ puts_by f s a
act_room S answers f n s (Put p t) e = go (f p == s) refl
  where
    go : (b : Bool) → (f p == s) ≡ b → (if is_some (if b then t ∷ [] else []) && S.rdy s n then get_or (if b then t ∷ [] else []) 0 Eot ∷ [] else []) ≡ (if b then t ∷ [] else [])
    go false q = refl
    go true q =
        let same : f p ≡ s = eqb-true (f p) s q in
        ap (λ b. if b then t ∷ [] else []) (subst (λ r. S.rdy r n ≡ true) same e)
act_room S answers f n s _ e = refl

step_room : (S : Streams) (answers : ℕ → ℕ → Bool) (f : ℕ → ℕ) (n s : ℕ) (x : StateStep) → allows S answers f n x ≡ true → (if is_some (puts_of f s x) && S.rdy s n then get_or (puts_of f s x) 0 Eot ∷ [] else []) ≡ puts_of f s x
step_room S answers f n s (Performs a pc σ) e = act_room S answers f n s a e
step_room S answers f n s _ e = refl

got : (l : List Token) (j : ℕ) → j < length l → slice_get l j ≡ Some (get_or l j Eot)
got [] j h = absurd (omega arith)
got (t ∷ l) zero h = refl
got (t ∷ l) (suc j) h = got l j (omega arith)

module _ (net : Network) (clock : Clock) (parts : ℕ → Part) where
  abbrev past : ℕ → List Stand
  past n = stands net parts clock n

  -- the stand of d cycles ago
  ago_is : (n d : ℕ) → stood parts (past n) d ≡ stood parts (past (n - d)) 0
  ago_is n zero = let e : n ≡ n - 0 = omega arith in ap (λ m. stood parts (past m) 0) e
  ago_is zero (suc d) = let e : 0 - suc d ≡ 0 = omega arith in ap (λ m. stood parts (past m) 0) (sym e)
  ago_is (suc zero) (suc d) = let e : suc zero - suc d ≡ 0 = omega arith in ap (λ m. stood parts (past m) 0) (sym e)
  ago_is (suc (suc n)) (suc d) = let e : suc n - d ≡ suc (suc n) - suc d = omega arith in ago_is (suc n) d ∙ ap (λ m. stood parts (past m) 0) e

  -- what is put and taken in a cycle
  put_is : (n s : ℕ) → put_in (streams_of net parts clock) s n ≡ puts_in net parts clock n (past n) s
  put_is n s = go (nat_lt (net.producer s) net.size && does_by net parts clock n (past n) (net.producer s)) refl
    where
      go : (b : Bool) → (nat_lt (net.producer s) net.size && does_by net parts clock n (past n) (net.producer s)) ≡ b → put_in (streams_of net parts clock) s n ≡ puts_in net parts clock n (past n) s
      go false e =
          ap (λ b. if is_some (if b then puts_of (parts (net.producer s)).bound s (step_by parts (past n) (net.producer s)) else []) && rdy_by net parts clock n (past n) s then get_or (if b then puts_of (parts (net.producer s)).bound s (step_by parts (past n) (net.producer s)) else []) 0 Eot ∷ [] else []) e
          ∙ sym (ap (λ b. if b then puts_of (parts (net.producer s)).bound s (step_by parts (past n) (net.producer s)) else []) e)
      go true e =
          ap (λ b. if is_some (if b then puts_of (parts (net.producer s)).bound s (step_by parts (past n) (net.producer s)) else []) && rdy_by net parts clock n (past n) s then get_or (if b then puts_of (parts (net.producer s)).bound s (step_by parts (past n) (net.producer s)) else []) 0 Eot ∷ [] else []) e
          ∙ step_room (inputs_by net parts clock n (past n)) (clock.answers (net.producer s)) (parts (net.producer s)).bound n s (step_by parts (past n) (net.producer s)) (and_parts _ _ (and_parts _ _ e).1).1
          ∙ sym (ap (λ b. if b then puts_of (parts (net.producer s)).bound s (step_by parts (past n) (net.producer s)) else []) e)

  carried_is : (n s : ℕ) → carried (streams_of net parts clock) s n ≡ (stood parts (past n) 0).put s
  carried_is zero s = refl
  carried_is (suc zero) s = refl
  carried_is (suc (suc n)) s =
      ap (λ b. carried (streams_of net parts clock) s (suc n) ++ (if b then put_in (streams_of net parts clock) s (suc n) else [])) (lt-ltb 0 (suc n) (omega arith))
      ∙ ap (λ l. l ++ put_in (streams_of net parts clock) s (suc n)) (carried_is (suc n) s)
      ∙ ap (λ l. (stood parts (past (suc n)) 0).put s ++ l) (put_is (suc n) s)

  drawn_is : (n s : ℕ) → drawn (streams_of net parts clock) s n ≡ (stood parts (past n) 0).took s
  drawn_is zero s = refl
  drawn_is (suc zero) s = refl
  drawn_is (suc (suc n)) s =
      ap (λ b. drawn (streams_of net parts clock) s (suc n) ++ (if b then took_in (streams_of net parts clock) s (suc n) else [])) (lt-ltb 0 (suc n) (omega arith))
      ∙ ap (λ l. l ++ took_in (streams_of net parts clock) s (suc n)) (drawn_is (suc n) s)

  put_ago : (n d s : ℕ) → length ((stood parts (past n) d).put s) ≡ length (carried (streams_of net parts clock) s (n - d))
  put_ago n d s = ap (λ (x : Stand). length (x.put s)) (ago_is n d) ∙ ap length (sym (carried_is (n - d) s))

  took_ago : (n d s : ℕ) → length ((stood parts (past n) d).took s) ≡ length (drawn (streams_of net parts clock) s (n - d))
  took_ago n d s = ap (λ (x : Stand). length (x.took s)) (ago_is n d) ∙ ap length (sym (drawn_is (n - d) s))

  offer_is : (s n : ℕ) → has_by parts clock (past n) s ≡ nat_lt (length (drawn (streams_of net parts clock) s n)) (length (carried (streams_of net parts clock) s (n - clock.latency s)))
  offer_is s n =
      ap (λ (l : List Token). nat_lt (length l) (length ((stood parts (past n) (clock.latency s)).put s))) (sym (drawn_is n s))
      ∙ ap (nat_lt (length (drawn (streams_of net parts clock) s n))) (put_ago n (clock.latency s) s)

  -- what was carried is carried
  put_grows : (n d s : ℕ) → length ((stood parts (past n) d).put s) ≤ length ((stood parts (past n) 0).put s)
  put_grows n zero s = omega arith
  put_grows zero (suc d) s = omega arith
  put_grows (suc zero) (suc d) s = omega arith
  put_grows (suc (suc n)) (suc d) s =
      let a = put_grows (suc n) d s in
      let b = length-append ((stood parts (past (suc n)) 0).put s) (puts_in net parts clock (suc n) (past (suc n)) s) in
      omega arith

  token_is : (s n : ℕ) → has_by parts clock (past n) s ≡ true → slice_get (carried (streams_of net parts clock) s n) (length (drawn (streams_of net parts clock) s n)) ≡ Some (dout_by parts (past n) s)
  token_is s n e =
      let l = ltb-true _ _ e in
      let g = put_grows n (clock.latency s) s in
      ap (λ z. slice_get z (length (drawn (streams_of net parts clock) s n))) (carried_is n s)
      ∙ ap (λ (z : List Token). slice_get ((stood parts (past n) 0).put s) (length z)) (drawn_is n s)
      ∙ got ((stood parts (past n) 0).put s) (length ((stood parts (past n) 0).took s)) (omega arith)

  channel : (s : ℕ) → KeepsContract (streams_of net parts clock) s (net.depth s) (clock.latency s)
  channel s = record {
    ready = λ n.
        let L = clock.latency s in
        ap (λ a. nat_lt L (suc n) && nat_lt (a - length ((stood parts (past (suc n)) L).took s)) (net.depth s)) (put_ago (suc n) (2 * L) s)
        ∙ ap (λ b. nat_lt L (suc n) && nat_lt (length (carried (streams_of net parts clock) s (suc n - 2 * L)) - b) (net.depth s)) (took_ago (suc n) L s);
    offer = λ n. offer_is s (suc n);
    token = λ n e. token_is s (suc n) e;
  }

  -- each machine makes its steps
  allows_is : (i n : ℕ) (x : StateStep) → allows (streams_of net parts clock) (clock.answers i) (parts i).bound n x ≡ allows (inputs_by net parts clock n (past n)) (clock.answers i) (parts i).bound n x
  allows_is i n (Performs Local pc σ) = refl
  allows_is i n _ = refl

  found_is : (i n : ℕ) (x : StateStep) → found (inputs_by net parts clock n (past n)) (parts i).bound n x ≡ found (streams_of net parts clock) (parts i).bound n x
  found_is i n (Performs a pc σ) = refl
  found_is i n _ = refl

  abbrev hist : ℕ → History
  hist i = history_of net parts clock i

  steps_are : (i n : ℕ) → does_by net parts clock n (past n) i ≡ steps (parts i) (streams_of net parts clock) (clock.answers i) (hist i) n
  steps_are i n = ap (λ b. not ((hist i).ended n) && b) (sym (allows_is i n (step_by parts (past n) i)))

  take_is : (i s n : ℕ) → i < net.size → net.consumer s ≡ i → takes_in net parts clock n (past n) s ≡ (steps (parts i) (streams_of net parts clock) (clock.answers i) (hist i) n && takes_of (parts i).bound s (step_in (parts i) (hist i) n))
  take_is i s n inside own =
      ap (λ c. nat_lt c net.size && (does_by net parts clock n (past n) c && takes_of (parts c).bound s (step_by parts (past n) c))) own
      ∙ ap (λ b. b && (does_by net parts clock n (past n) i && takes_of (parts i).bound s (step_by parts (past n) i))) (lt-ltb i net.size inside)
      ∙ ap (λ b. b && takes_of (parts i).bound s (step_by parts (past n) i)) (steps_are i n)

  puts_are : (i s n : ℕ) → i < net.size → net.producer s ≡ i → put_in (streams_of net parts clock) s n ≡ (if steps (parts i) (streams_of net parts clock) (clock.answers i) (hist i) n then puts_of (parts i).bound s (step_in (parts i) (hist i) n) else [])
  puts_are i s n inside own =
      put_is n s
      ∙ ap (λ c. if nat_lt c net.size && does_by net parts clock n (past n) c then puts_of (parts c).bound s (step_by parts (past n) c) else []) own
      ∙ ap (λ b. if b && does_by net parts clock n (past n) i then puts_of (parts i).bound s (step_by parts (past n) i) else []) (lt-ltb i net.size inside)
      ∙ ap (λ b. if b then puts_of (parts i).bound s (step_by parts (past n) i) else []) (steps_are i n)

  machine : (i : ℕ) → i < net.size → RunsMachine (parts i) (streams_of net parts clock) (clock.answers i) (λ s. net.consumer s ≡ i) (λ s. net.producer s ≡ i) (hist i)
  machine i inside = record {
    at_first = refl;
    holds_first = refl;
    not_ended = refl;
    at = λ n. ap (λ b. if b then at_after (step_by parts (past (suc n)) i) ((hist i).at (suc n)) else (hist i).at (suc n)) (steps_are i (suc n));
    holds = λ n.
        ap (λ v. if does_by net parts clock (suc n) (past (suc n)) i then held_after (step_by parts (past (suc n)) i) ((hist i).holds (suc n)) v else (hist i).holds (suc n)) (found_is i (suc n) (step_by parts (past (suc n)) i))
        ∙ ap (λ b. if b then held_after (step_by parts (past (suc n)) i) ((hist i).holds (suc n)) (found (streams_of net parts clock) (parts i).bound (suc n) (step_by parts (past (suc n)) i)) else (hist i).holds (suc n)) (steps_are i (suc n));
    ended = λ n. ap (λ b. if b then ends_by (step_by parts (past (suc n)) i) else (hist i).ended (suc n)) (steps_are i (suc n));
    take = λ s n own. take_is i s (suc n) inside own;
    put = λ s n own. puts_are i s (suc n) inside own;
  }

  pub run : IsNetwork net → ((i : ℕ) → i < net.size → IsPartOf (net.job i) (parts i)) → IsClocked net clock parts (streams_of net parts clock) (history_of net parts clock)
  run ok follows = record {
    network = ok;
    follows = follows;
    runs = machine;
    channels = channel;
    put_inside = λ s n l.
        put_is (suc n) s
        ∙ ap (λ b. if b && does_by net parts clock (suc n) (past (suc n)) (net.producer s) then puts_of (parts (net.producer s)).bound s (step_by parts (past (suc n)) (net.producer s)) else []) (le-ltb (net.producer s) net.size l);
    taken_inside = λ s n l.
        ap (λ b. b && (does_by net parts clock (suc n) (past (suc n)) (net.consumer s) && takes_of (parts (net.consumer s)).bound s (step_by parts (past (suc n)) (net.consumer s)))) (le-ltb (net.consumer s) net.size l);
  }
