-- The output that says that all is done is 1 exactly where every instance that is waited for has ended.
use Rattle.std.proofs.Common.{◌≡◌, ℕ, zero, suc, ◌-◌, ◌^◌, ◌<◌, Bool, true, false, List, [], ◌∷◌, ◌++◌, length, Option, Some, inl, refl, sym, ap, subst, ◌∙◌, arith, ⊎_elim}
use Rattle.std.specs.Prelude.{if◌then◌else◌, slice_get}
use Rattle.std.proofs.lemmas.Bool.{cases_eq}
use Rattle.tapa_syntax.specs.WellFormed.{IsWellFormed}
use Rattle.tapa_syntax.specs.declared.program.Instance.{Instance}
use Rattle.tapa_syntax.specs.declared.program.Leaf.{Leaf}
use Rattle.tapa_syntax.specs.declared.program.Program.{Program}
use Rattle.vlog_tree.specs.Cycle.{Cycle, Path, Follows, driven}
use Rattle.vlog_tree.specs.Environment.{Environment, FitsShape, shape_of}
use Rattle.vlog_run_laws.specs.Beside.{RunsBeside}
use Rattle.vlog_tree.specs.Form.{ModuleTree}
use Rattle.vlog_tree.specs.Labels.{done}
use Rattle.tapa_base.proofs.Lists.{has_left, has_right}
use Rattle.hw_build.specs.Elements.{Element, Output, Wire}
use Rattle.hw_build.specs.Trees.{numbered, tree_nodes, tree_root, or_range}
use Rattle.hw_build.proofs.Driven.{wire_driven, output_driven}
use Rattle.hw_build.proofs.Ors.{none_is_zero, set_stays, root_driven}
use Rattle.hw_build.specs.Scope.{each}
use Rattle.hw_build.proofs.Parts.{has_each}
use Rattle.task_fsm.specs.declared.machine.Fsm.{Fsm}
use Rattle.hw_lines.specs.declared.nets.Net.TheVariants.{Ended}
use Rattle.hw_lines.specs.Runs.{number_at}
use Rattle.hw_lines.specs.Texts.{task_name}
use Rattle.hw_top_lines.specs.Designs.{AreShort}
use Rattle.hw_top_lines.specs.Names.{ended_net, task_instance, waits}
use Rattle.hw_top_lines.specs.Texts.{top_elements, top_tree, still_waits, is_detached, waiting, none_waits}
use Rattle.hw_top_laws.specs.runs.Designs.{IsCircuit}
use Rattle.hw_top_laws.proofs.runs.Elements.{of_doneness}
use Rattle.hw_top_laws.proofs.runs.Joined.{done_at}
use Rattle.hw_top_laws.proofs.runs.Fitting.{done_low}
use Rattle.hw_top_laws.proofs.runs.Tasks.{task_at, runs_task}

-- an instance's own bit: whether it is waited for
abbrev waits_still : Bool → ℕ → ℕ
waits_still b e = if b then 0 else 2 ^ 1 - 1 - e

low_waits : (b : Bool) (e : ℕ) → waits_still b e < 2
low_waits true e = omega arith
low_waits false e = omega arith

module _ (program : Program) (w : IsWellFormed program) (added : List ℕ) (short : AreShort added) (machines : ℕ → Option Fsm) (all : List ModuleTree) (place : ℕ) (c : IsCircuit program added machines all place) (env : Environment)
    (env_fits : FitsShape env (shape_of (top_tree program added))) (acks : ℕ → ℕ → Bool) (nets : ℕ → Path → Cycle) (r : RunsBeside all (top_tree program added) env acks nets) where
  abbrev count : ℕ
  count = length program.instances.items

  abbrev top : ℕ → Cycle
  top n = nets n []

  follows : Follows (top_tree program added) top
  follows = r.runs.each [] (top_tree program added) refl

  abbrev leaves : List Element
  leaves = each (waiting program) count

  abbrev nodes : List Element
  nodes = tree_nodes 1 waits count (count - 1)

  abbrev last : List Element
  last = Output 1 done (none_waits count) ∷ []

  abbrev left : ℕ → Bool
  left i = is_detached (slice_get program.instances.items i)

  -- ---- the nets

  still_value : (n i : ℕ) (b : Bool) → driven follows.sizes 1 (top n) (still_waits i b) ≡ waits_still b ((top n).net (ended_net i))
  still_value n i true = refl
  still_value n i false = refl

  leaf_is : (n i : ℕ) → i < count → (top n).net (numbered waits i) ≡ waits_still (left i) ((top n).net (ended_net i))
  leaf_is n i l =
      let e : Element = Wire 1 (numbered waits i) (still_waits i (left i)) in
      wire_driven (task_name program.top) (top_elements program added) top follows 1 (numbered waits i) (still_waits i (left i))
      (of_doneness program added e (has_left (leaves ++ nodes) last e (has_left leaves nodes e (has_each (waiting program) count i e l (inl refl))))) n
      ∙ still_value n i (left i)

  root_is : (n : ℕ) → 0 < count → (top n).net (tree_root waits count) ≡ or_range (λ j. (top n).net (numbered waits j)) 0 count
  root_is n some =
      root_driven (task_name program.top) (top_elements program added) top follows 1 waits count some
      (λ e h. of_doneness program added e (has_left (leaves ++ nodes) last e (has_right leaves nodes e h))) n

  done_is : (n : ℕ) → (top n).net done ≡ driven follows.sizes 1 (top n) (none_waits count)
  done_is n =
      let e : Element = Output 1 done (none_waits count) in
      output_driven (task_name program.top) (top_elements program added) top follows 1 done (none_waits count)
      (of_doneness program added e (has_right (leaves ++ nodes) last e (inl refl))) n

  none_value : (n k : ℕ) → 0 < k → driven follows.sizes 1 (top n) (none_waits k) ≡ 2 ^ 1 - 1 - (top n).net (tree_root waits k)
  none_value n zero h = absurd (omega (arith, h))
  none_value n (suc k) h = refl

  -- ---- all that are waited for have ended

  abbrev AllEnded : ℕ → Type 0
  AllEnded n = (i : ℕ) → i < count → left i ≡ false → (top n).net (ended_net i) ≡ 1

  leaf_low : (n i : ℕ) → i < count → (top n).net (numbered waits i) < 2
  leaf_low n i l = subst (λ z. z < 2) (sym (leaf_is n i l)) (low_waits (left i) ((top n).net (ended_net i)))

  gone : (b : Bool) (e : ℕ) → (b ≡ false → e ≡ 1) → waits_still b e ≡ 0
  gone true e h = refl
  gone false e h = let one = h refl in omega (arith, one)

  some_of : (n k : ℕ) → count ≡ k → AllEnded n → (top n).net done ≡ 1
  some_of n zero none h = done_is n ∙ ap (λ k. driven follows.sizes 1 (top n) (none_waits k)) none
  some_of n (suc k) more h =
      let z : (top n).net (tree_root waits count) ≡ 0 = root_is n (omega (arith, more)) ∙ none_is_zero (λ j. (top n).net (numbered waits j)) count (λ j l. leaf_is n j l ∙ gone (left j) ((top n).net (ended_net j)) (h j l)) in
      let d = done_is n ∙ none_value n count (omega (arith, more)) in
      omega (arith, d, z)

  pub told : (n : ℕ) → AllEnded n → (top n).net done ≡ 1
  told n h = some_of n count refl h

  -- each end of a joined instance is there once done is raised
  pub only : (n : ℕ) → (top n).net done ≡ 1 → (i : ℕ) → i < count → left i ≡ false → (top n).net (ended_net i) < 2 → (top n).net (ended_net i) ≡ 1
  only n is i l joined low =
      let some : 0 < count = omega (arith, l) in
      let d = sym is ∙ done_is n ∙ none_value n count some in
      ⊎_elim
      (λ (e : (top n).net (ended_net i) ≡ 0).
      let here : (top n).net (numbered waits i) ≡ 1 = leaf_is n i l ∙ ap (λ b. waits_still b ((top n).net (ended_net i))) joined ∙ ap (λ z. 2 ^ 1 - 1 - z) e in
      let root : (top n).net (tree_root waits count) ≡ 1 = root_is n some ∙ set_stays (λ j. (top n).net (numbered waits j)) count i l (λ j k. leaf_low n j k) here in
      absurd (omega (arith, d, root)))
      (λ (e : (top n).net (ended_net i) ≡ 0 → ⊥). one_left ((top n).net (ended_net i)) low e)
      (cases_eq ((top n).net (ended_net i)) 0) where
        one_left : (z : ℕ) → z < 2 → (z ≡ 0 → ⊥) → z ≡ 1
        one_left zero l e = absurd (e refl)
        one_left (suc zero) l e = refl
        one_left (suc (suc z)) l e = absurd (omega (arith, l))

  -- ---- by what is seen of each instance

  module _ (i : ℕ) (x : Instance) (leaf : Leaf) (at : slice_get program.instances.items i ≡ Some x) (body : slice_get program.bodies.items x.body ≡ Some leaf) where
    abbrev run : ℕ → Cycle
    run n = nets n (task_instance x.label ∷ [])

    -- the net is the instance's own register
    pub end_is : (n : ℕ) → (top n).net (ended_net i) ≡ number_at run Ended n
    end_is n =
        sym (done_at program added all nets r.runs i x leaf at body n) ∙ (runs_task program w added short machines all place c env env_fits acks nets r i x leaf at body).done n

    pub end_low : (n : ℕ) → (top n).net (ended_net i) < 2
    end_low n =
        subst (λ z. z < 2) (done_at program added all nets r.runs i x leaf at body n)
        (done_low program added all place c.design c.is_top env env_fits acks nets r leaf (c.tasks i x leaf at body).machine (task_instance x.label ∷ []) (task_at program w added short machines all place c env env_fits acks nets r i x leaf at body) n)
