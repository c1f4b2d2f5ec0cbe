-- The register that says that the end is made.
use Rattle.std.proofs.Common.{◌≡◌, ℕ, suc, ◌<◌, Bool, true, false, cond, eqb, ◌||◌, List, [], ◌∷◌, ◌++◌, length, inl, inr, refl, sym, ap, subst, ◌∙◌, arith}
use Rattle.std.specs.List.{list_any}
use Rattle.kahn_model.specs.Trace.{State}
use Rattle.vlog_tree.specs.declared.tree.Atom.{Atom}
use Rattle.vlog_tree.specs.declared.tree.Atom.TheVariants.{Literal}
use Rattle.vlog_tree.specs.declared.tree.Item.TheVariants.{Reg}
use Rattle.vlog_tree.specs.declared.tree.Step.{Step}
use Rattle.vlog_tree.specs.declared.tree.Step.TheVariants.{If, Else, End, NonblockingAssign}
use Rattle.vlog_tree.specs.Form.{ModuleTree}
use Rattle.tapa_base.specs.Lists.{Has}
use Rattle.vlog_tree.specs.Labels.{rst}
use Rattle.vlog_tree.specs.Table.{Name}
use Rattle.vlog_tree.specs.Cycle.{Cycle, Follows}
use Rattle.vlog_tree.specs.V4.{step_assigns}
use Rattle.tapa_base.proofs.Lists.{has_flat}
use Rattle.vlog_module_laws.specs.Forms.{set_block}
use Rattle.vlog_module_laws.specs.Blocks.{IsOwnBlock}
use Rattle.vlog_module_laws.proofs.Forms.{set_leaves, itself as same_name}
use Rattle.vlog_module_laws.proofs.Lines.{register_takes}
use Rattle.hw_build.specs.Elements.{Register, Block, built}
use Rattle.hw_build.specs.Fitting.{AreFitting, stored_names}
use Rattle.hw_build.proofs.Driven.{line_there, block_is_own}
use Rattle.hw_build.proofs.Meaning.{reset_set_is}
use Rattle.hw_build.specs.Scope.{each}
use Rattle.hw_build.specs.Choices.{Entry}
use Rattle.hw_build.specs.Fits.{IsAmong}
use Rattle.hw_build.proofs.Parts.{has_each}
use Rattle.task_fsm.specs.Machine.{StateForm, ClearAt, EndAt}
use Rattle.task_fsm.specs.Run.{step, is_last, clear_step}
use Rattle.hw_lines.specs.declared.nets.Choice.TheVariants.{ToState, ToEnd}
use Rattle.hw_lines.specs.declared.nets.Net.TheVariants.{Ended, At}
use Rattle.hw_lines.specs.Nets.{name}
use Rattle.hw_lines.specs.Shape.{Shape, state_count, state_bits, form_at}
use Rattle.hw_lines.specs.Effects.{endings, effect, entries}
use Rattle.hw_lines.specs.Texts.{any, pick, root, variable_choices, array_choices, register_block, task_elements}
use Rattle.hw_lines.specs.After.{ends_by}
use Rattle.hw_lines.proofs.Members.{all, held_in, choices_in, blocks_in, among_left, among_right}
use Rattle.hw_lines.proofs.Decodes.{at_here}
use Rattle.hw_task_laws.proofs.acts.Moves.{only_set, none_clear}
use Rattle.hw_task_laws.specs.steps.Steps.{IsAt}
use Rattle.hw_task_laws.specs.effects.Held.{EndIsHeld}

assigned : (x : Name) (first : Atom) (more : List Step) → list_any (step_assigns x) (If rst ∷ NonblockingAssign x first ∷ more) ≡ true
assigned x first more = ap (λ b. b || list_any (step_assigns x) more) (same_name x)

clear_ends : (old k a c next : ℕ) (σ : State) (b : Bool) → old ≡ cond (ends_by (clear_step b a c k next σ)) 1 old
clear_ends old k a c next σ true = refl
clear_ends old k a c next σ false = refl

-- the register and its block
module _ (S : Shape) (title : Name) (run : ℕ → Cycle) (f : Follows (built title (task_elements S)) run) (ms : List ModuleTree) (fit : AreFitting ms (task_elements S)) (n : ℕ) where
  abbrev pub set_or : List Entry → ℕ
  set_or [] = (run n).net (name Ended)
  set_or (e ∷ es) = cond (eqb ((run n).net (root S ToEnd)) 1) 1 ((run n).net (name Ended))

  ended_there : Has (all S) (Register 1 (name Ended))
  ended_there = held_in S (Register 1 (name Ended)) (inr (inl refl))

  ended_line : Has (built title (task_elements S)).items (Reg 1 (name Ended))
  ended_line = line_there title (task_elements S) (Register 1 (name Ended)) (Reg 1 (name Ended)) ended_there (inl refl)

  block_there : Has (all S) (Block (register_block rst (name Ended) (Literal 1 0) (entries S ToEnd) (root S ToEnd) (Literal 1 1)))
  block_there = blocks_in S (Block (register_block rst (name Ended) (Literal 1 0) (entries S ToEnd) (root S ToEnd) (Literal 1 1))) (inr (inl refl))

  own_block : (b : List Step) → Has (all S) (Block b) → list_any (step_assigns (name Ended)) b ≡ true → IsOwnBlock (built title (task_elements S)).items (name Ended) b
  own_block b h e = block_is_own ms title (task_elements S) fit b (name Ended) h (has_flat stored_names (task_elements S) (Register 1 (name Ended)) (name Ended) ended_there (inl refl)) e

  -- what it takes, with its first value and without
  takes_by : (es : List Entry) → Has (all S) (Block (register_block rst (name Ended) (Literal 1 0) es (root S ToEnd) (Literal 1 1)))
      → (run (suc n)).net (name Ended) ≡ cond (eqb ((run n).net rst) 1) 0 (set_or es)
  takes_by [] h =
      register_takes (built title (task_elements S)) run f 1 (name Ended) (set_block rst (name Ended) (Literal 1 0)) ended_line (own_block (set_block rst (name Ended) (Literal 1 0)) h (assigned (name Ended) (Literal 1 0) (End ∷ []))) n
      ∙ set_leaves f.sizes (run n) (run n) rst (name Ended) (Literal 1 0)
  takes_by (e ∷ es) h =
      reset_set_is (built title (task_elements S)) run f 1 (name Ended) (Literal 1 0) (root S ToEnd) (Literal 1 1) ended_line
      (own_block (register_block rst (name Ended) (Literal 1 0) (e ∷ es) (root S ToEnd) (Literal 1 1)) h (assigned (name Ended) (Literal 1 0) (Else ∷ If (root S ToEnd) ∷ NonblockingAssign (name Ended) (Literal 1 1) ∷ End ∷ End ∷ []))) n

  pub takes : (run (suc n)).net (name Ended) ≡ cond (eqb ((run n).net rst) 1) 0 (set_or (entries S ToEnd))
  takes = takes_by (entries S ToEnd) block_there

module _ (S : Shape) (title : Name) (run : ℕ → Cycle) (f : Follows (built title (task_elements S)) run) (ms : List ModuleTree) (fit : AreFitting ms (task_elements S)) (cells : ℕ → List (List ℕ)) (n k : ℕ) (σ : State)
    (is : IsAt S run f.sizes cells n k σ) (runs : (run n).net rst ≡ 0) where
  abbrev old : ℕ
  old = (run n).net (name Ended)

  goes : (run (suc n)).net (name Ended) ≡ set_or S title run f ms fit n (entries S ToEnd)
  goes = takes S title run f ms fit n ∙ ap (λ z. cond (eqb z 1) 0 (set_or S title run f ms fit n (entries S ToEnd))) runs

  any_among : IsAmong (any S ToEnd) (all S)
  any_among =
      among_right (pick S (state_bits S) ToState) (any S ToEnd) (all S)
      (among_left (pick S (state_bits S) ToState ++ any S ToEnd) (each (variable_choices S) (length S.registers)) (all S)
      (among_left ((pick S (state_bits S) ToState ++ any S ToEnd) ++ each (variable_choices S) (length S.registers)) (each (array_choices S) (length S.arrays)) (all S) (choices_in S)))

  stays : (g : StateForm) → form_at S k ≡ g → endings k g ≡ [] → (run (suc n)).net (name Ended) ≡ old
  stays g same none = goes ∙ by_entries (entries S ToEnd) refl where
    by_entries : (es : List Entry) → entries S ToEnd ≡ es → set_or S title run f ms fit n es ≡ old
    by_entries [] e = refl
    by_entries (d ∷ es) e =
        ap (λ z. cond (eqb z 1) 1 old)
        (none_clear S title run f n k is.shows.here is.shows.low ToEnd any_among (subst (λ l. 0 < length l) (sym e) (omega arith)) (ap (endings k) same ∙ none))

  ends : form_at S k ≡ EndAt → (run (suc n)).net (name Ended) ≡ 1
  ends same = goes ∙ by_entries (entries S ToEnd) refl where
    end_entry : Entry
    end_entry = record { condition = name (At k); value = Literal 1 1 }

    only : effect S ToEnd k ≡ end_entry ∷ []
    only = ap (endings k) same

    by_entries : (es : List Entry) → entries S ToEnd ≡ es → set_or S title run f ms fit n es ≡ 1
    by_entries [] e = absurd (subst (λ l. Has l end_entry) e (has_each (effect S ToEnd) (state_count S) k end_entry is.shows.low (subst (λ l. Has l end_entry) (sym only) (inl refl))))
    by_entries (d ∷ es) e =
        ap (λ z. cond (eqb z 1) 1 old) (only_set S title run f n k is.shows.here is.shows.low ToEnd any_among end_entry only (at_here S title run f n k is.shows.low is.shows.here))

  ended_is : (g : StateForm) → form_at S k ≡ g → (run (suc n)).net (name Ended) ≡ cond (ends_by (step g k σ)) 1 old
  ended_is (ClearAt a c next) same = stays (ClearAt a c next) same refl ∙ clear_ends old k a c next σ (is_last σ a c)
  ended_is EndAt same = ends same
  ended_is g same = stays g same refl

pub end_is_held : EndIsHeld
end_is_held S title run f ms fit cells n k σ is runs = ended_is S title run f ms fit cells n k σ is runs (form_at S k) refl
