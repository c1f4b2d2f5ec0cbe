-- A search for an instance that may step.
use Rattle.std.proofs.Common.{◌≡◌, ℕ, ◌+◌, ◌<◌, ◌≤◌, List, length, Bool, false, Option, Some, None, refl, sym, ap, ◌∙◌, subst, ⊎_elim, arith}
use Rattle.std.specs.Prelude.{slice_get, slice_index_or, MatchOption}
use Rattle.std.proofs.lemmas.Bool.{cases_eq, cases_lt}
use Rattle.std.proofs.lemmas.Option.{slice_get_read}
use Rattle.tapa_syntax.specs.declared.program.Program.{Program}
use Rattle.kahn_model.specs.declared.tick.Tick.{Tick}
use Rattle.net_core.specs.declared.body.Pause.{Pause}
use Rattle.net_core.specs.declared.input.Input.{Input}
use Rattle.net_core.specs.Job.{Job}
use Rattle.net_case.specs.declared.batch.Process.{Process}
use Rattle.net_case.specs.declared.lot.Lot.{Lot}
use Rattle.net_case.specs.declared.case_state.CaseState.{CaseState}
use Rattle.net_case.specs.declared.queue.Queue.{Queue}
use Rattle.net_case.specs.Claims.{HandsOut, IsSameCase, Rests, RestsIn, KeepsRest}
use Rattle.net_case.specs.Home.{IsCaseAt, outs}
use Rattle.net_case.specs.State.{IsAtHome}
use Rattle.net_case.proofs.Outs.{home_of}
use Rattle.net_case.proofs.Same.{same_trans, hands_out_same}

home_before : (c c' : CaseState) (i : ℕ) → IsSameCase c c' → IsAtHome c' i → IsAtHome c i
home_before c c' i same home = subst (λ (o : List Bool). slice_index_or o i false ≡ false) same.out home

-- one instance more is at rest
pub rests_on : (c c' : CaseState) (from i : ℕ) → IsSameCase c c' → KeepsRest c c' → RestsIn c from i → (IsAtHome c' i → Rests c' i) → RestsIn c' from (i + 1)
rests_on c c' from i same keeps before here j a b home =
    ⊎_elim
    (λ (e : j ≡ i). subst (λ (n : ℕ). Rests c' n) (sym e) (here (subst (λ (n : ℕ). IsAtHome c' n) e home)))
    (λ (d : j ≡ i → ⊥). keeps j (before j a (omega arith) (home_before c c' j same home)))
    (cases_eq j i)

-- an instance at home that is not listed is at rest
module _ {B : Type 0} {Stands : B → Job → List Tick → Type 0} {program : Program} {input : Input} {budget : ℕ} {homes : List (Option (Process B))} {queues : List Queue} {taken_list offered counts : List ℕ} {pauses : List (Option Pause)} {listed : List Bool} {joined : ℕ} {writers : List ℕ} {fed : List Bool} (c : IsCaseAt Stands program input budget homes queues taken_list offered counts pauses listed joined writers fed) where
  pub unlisted : (i : ℕ) (b : Bool) → b ≡ slice_index_or listed i b → b ≡ false → i < length homes → IsAtHome (record { program = program; input = input; budget = budget; counts = counts; out = outs homes; pauses = pauses }) i → Rests (record { program = program; input = input; budget = budget; counts = counts; out = outs homes; pauses = pauses }) i
  unlisted i b e f l home =
      let x = home_of homes i l home in
      let at : slice_get listed i ≡ Some b = slice_get_read listed _ i b refl (let p = c.homes_len in let q = c.listed_len in omega arith) e in
      c.rest i x.0 x.1 (at ∙ ap Some f)

-- what was found from one number on, and then from the first on
module _ (c m c' : CaseState) (from n : ℕ) (same : IsSameCase c m) (last : RestsIn m from n) (long : length c.counts ≤ n) where
  all_rest : IsSameCase m c' → KeepsRest m c' → RestsIn c' 0 from → (i : ℕ) → IsAtHome c' i → i < length c'.counts → Rests c' i
  all_rest again keeps first i home l =
      ⊎_elim
      (λ (a : i < from). first i (omega arith) a home)
      (λ (b : from ≤ i).
      let e : length c'.counts ≡ length c.counts = ap length again.counts ∙ ap length same.counts in
      keeps i (last i b (omega arith) (home_before m c' i again home)))
      (cases_lt i from)

  pub found : (r : Option Lot) → MatchOption r (IsSameCase m c' × KeepsRest m c' × RestsIn c' 0 from) (λ b. HandsOut m b c') → MatchOption r (IsSameCase c c' × ((i : ℕ) → IsAtHome c' i → i < length c'.counts → Rests c' i)) (λ b. HandsOut c b c')
  found None h = (same_trans c m c' same h.0, all_rest h.0 h.1 h.2)
  found (Some b) h = hands_out_same c m b c' same h
