-- What is shown of a stream.
use Rattle.std.proofs.Common.{◌≡◌, ℕ, List, [], ◌∷◌, length, take, Bool, true, false, refl, sym, ap, ◌∙◌}
use Rattle.std.specs.Prelude.{if◌then◌else◌}
use Rattle.tapa_base.specs.declared.token.Token.{Token}
use Rattle.tapa_syntax.specs.declared.program.Program.{Program}
use Rattle.kahn_model.specs.Prefix.{IsPrefixOf}
use Rattle.kahn_model.specs.Network.{Network, IsNetwork}
use Rattle.kahn_model.specs.Counts.{written, taken, IsReachable}
use Rattle.kahn_model.specs.Outcome.{shown}
use Rattle.kahn_model.specs.Start.{network_of}
use Rattle.kahn_model.proofs.Reach.{reach_founded}
use Rattle.kahn_model.proofs.Taken.{taken_begins}
use Rattle.net_core.specs.declared.input.Input.{Input}
use Rattle.net_core.specs.Bindings.{detached_at, producer_of, consumer_of}
use Rattle.net_core.specs.Bounded.{network_on}

prefix_front : {A : Type 0} (xs ys : List A) → IsPrefixOf xs ys → take (length xs) ys ≡ xs
prefix_front [] ys p = refl
prefix_front (x ∷ xs) [] p = absurd p
prefix_front (x ∷ xs) (y ∷ ys) (e, p) = ap (λ l. y ∷ l) (prefix_front xs ys p) ∙ ap (λ z. z ∷ xs) (sym e)

-- what is taken is as many of the written tokens
pub taken_front : (net : Network) → IsNetwork net → (k : ℕ → ℕ) → IsReachable net k → (s n : ℕ) → n ≡ length (taken net k s) → take n (written net k s) ≡ taken net k s
taken_front net ok k r s n e = ap (λ m. take m (written net k s)) e ∙ prefix_front (taken net k s) (written net k s) (taken_begins net ok k (reach_founded net k r) s)

producer_is : (program : Program) (input : Input) (s : ℕ) → (network_on program input).producer s ≡ producer_of program s
unfolding network_of producer_of
producer_is program input s = refl

consumer_is : (program : Program) (input : Input) (s : ℕ) → (network_on program input).consumer s ≡ consumer_of program s
unfolding network_of consumer_of
consumer_is program input s = refl

pub detached_is : (program : Program) (input : Input) (i : ℕ) → (network_on program input).detached i ≡ detached_at program i
unfolding network_of
detached_is program input i = refl

module _ (program : Program) (input : Input) (k : ℕ → ℕ) (s : ℕ) where
  abbrev N : Network
  N = network_on program input

  tokens_by : Bool → Bool → List Token
  tokens_by a b = if a then (if b then [] else taken N k s) else written N k s

  pub shown_written : N.detached (producer_of program s) ≡ false → written N k s ≡ shown N k s
  unfolding tokens_by
  shown_written d = sym (ap (λ (a : Bool). tokens_by a (N.detached (N.consumer s))) (ap N.detached (producer_is program input s) ∙ d))

  pub shown_taken : N.detached (producer_of program s) ≡ true → N.detached (consumer_of program s) ≡ false → taken N k s ≡ shown N k s
  unfolding tokens_by
  shown_taken d e =
      sym (ap (λ (a : Bool). tokens_by a (N.detached (N.consumer s))) (ap N.detached (producer_is program input s) ∙ d) ∙ ap (tokens_by true) (ap N.detached (consumer_is program input s) ∙ e))

  pub shown_none : N.detached (producer_of program s) ≡ true → N.detached (consumer_of program s) ≡ true → [] ≡ shown N k s
  unfolding tokens_by
  shown_none d e =
      sym (ap (λ (a : Bool). tokens_by a (N.detached (N.consumer s))) (ap N.detached (producer_is program input s) ∙ d) ∙ ap (tokens_by true) (ap N.detached (consumer_is program input s) ∙ e))
