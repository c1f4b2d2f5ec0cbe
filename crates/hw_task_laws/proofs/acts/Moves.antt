-- The next state and the next values of registers.
use Rattle.std.proofs.Common.{◌≡◌, ℕ, suc, ◌-◌, ◌<◌, Bool, true, false, cond, eqb, ◌||◌, List, [], ◌∷◌, ◌++◌, length, inl, inr, refl, sym, ap, subst, ◌∙◌}
use Rattle.std.specs.Prelude.{nat_lt, bytes_eq, slice_index}
use Rattle.std.specs.List.{list_any}
use Rattle.std.specs.Cmp.Lexicographic.{bytes_decides}
use Rattle.tapa_base.specs.declared.kind.Kind.TheVariants as kind
use Rattle.tapa_base.specs.Kinds.{bits_of}
use Rattle.kahn_model.specs.Trace.{State}
use Rattle.vlog_tree.specs.declared.tree.Atom.{Atom}
use Rattle.vlog_tree.specs.declared.tree.Atom.TheVariants.{Net, Literal}
use Rattle.vlog_tree.specs.declared.tree.BinaryOp.TheVariants.{Less}
use Rattle.vlog_tree.specs.declared.tree.Item.TheVariants.{Reg}
use Rattle.vlog_tree.specs.declared.tree.Value.TheVariants.{Binary, Choose}
use Rattle.vlog_tree.specs.declared.tree.Step.{Step}
use Rattle.vlog_tree.specs.declared.tree.Step.TheVariants.{If, Else, End, NonblockingAssign}
use Rattle.vlog_tree.specs.Form.{ModuleTree}
use Rattle.tapa_base.specs.Lists.{Has}
use Rattle.vlog_tree.specs.Labels.{rst}
use Rattle.vlog_tree.specs.Table.{Name, one_if}
use Rattle.vlog_tree.specs.Cycle.{Cycle, Follows, atom_value}
use Rattle.vlog_tree.specs.V4.{step_assigns}
use Rattle.tapa_base.proofs.Lists.{has_flat, has_right}
use Rattle.vlog_module_laws.specs.Forms.{set_block, reset_block}
use Rattle.vlog_module_laws.specs.Blocks.{IsOwnBlock}
use Rattle.vlog_module_laws.proofs.Lines.{register_takes}
use Rattle.vlog_module_laws.proofs.Forms.{reset_leaves, set_leaves}
use Rattle.hw_build.specs.Elements.{Wire, Register, Block, built, reset_or}
use Rattle.hw_build.specs.Fitting.{AreFitting, stored_names}
use Rattle.hw_build.proofs.Driven.{wire_driven, line_there, block_is_own}
use Rattle.hw_build.proofs.Meaning.{reset_is}
use Rattle.hw_build.specs.Scope.{each}
use Rattle.hw_build.specs.Choices.{Entry, any_elements, pick_elements}
use Rattle.hw_build.specs.Fits.{IsAmong}
use Rattle.hw_build.proofs.Parts.{has_each}
use Rattle.task_fsm.specs.Machine.{Expression, StateForm, TestAt, ReadAt, WriteAt, PeekAt, EotAt, OpenAt, CloseAt, LoadAt, StoreAt, ClearAt}
use Rattle.task_fsm.specs.MachineKinds.{IsTypedState}
use Rattle.task_fsm.specs.Ranges.{Ranges, IsInRange}
use Rattle.task_fsm.specs.Run.{value}
use Rattle.task_fsm.proofs.Steps.{value_fits}
use Rattle.hw_lines.specs.declared.nets.Choice.{Choice}
use Rattle.hw_lines.specs.declared.nets.Choice.TheVariants.{ToState, ToEnd, Set, NextValue, Clear}
use Rattle.hw_lines.specs.declared.nets.Net.TheVariants.{State as StateNet, Ended, Variable, Has as HasNet, Rdy, Ack, Datum, Eot as EotNet, At, Next, Value}
use Rattle.hw_lines.specs.Nets.{name, front, value_front}
use Rattle.hw_lines.specs.Shape.{Shape, kinds_in, array_cells, register_kind, state_count, state_bits, form_at}
use Rattle.hw_lines.specs.States.{net, number_of, next_of, next_wires, next_atom, value_wires, value_of, into_of, counting, more_wires}
use Rattle.hw_lines.specs.Effects.{effect, entries, first_value}
use Rattle.hw_lines.specs.Texts.{any, pick, root, variable_choices, array_choices, register_block, variable_block, array_block, task_elements, reset_of}
use Rattle.hw_task_laws.specs.acts.Reads.{IsIn}
use Rattle.hw_task_laws.specs.acts.Moves.{place_after, set_next, RegistersGoOn}
use Rattle.hw_lines.proofs.Members.{all, held_in, choices_in, blocks_in, next_in, more_in, among_left, among_right, among_each}
use Rattle.hw_lines.proofs.Decodes.{at_here, any_on, any_off, pick_on}
use Rattle.hw_task_laws.proofs.wires.Computed.{choose_bit}
use Rattle.hw_task_laws.proofs.acts.Answered.{some_length, alone, variable_there, value_shown}

module _ (S : Shape) (title : Name) (run : ℕ → Cycle) (f : Follows (built title (task_elements S)) run) (n k : ℕ) (here : (run n).net (name StateNet) ≡ k) (low : k < state_count S) where
  -- a value of a state's only entry, where its condition holds
  pub only_picked : (c : Choice) (w : ℕ) → IsAmong (pick_elements w (front c) (entries S c)) (all S) → (e : Entry) → effect S c k ≡ e ∷ [] → (run n).net e.condition ≡ 1
      → (run n).net (root S c) ≡ atom_value (run n) e.value
  only_picked c w among e is on =
      pick_on S title run f c w among n k (atom_value (run n) e.value) here low (λ d h. inr (ap (λ (z : Entry). atom_value (run n) z.value) (sym (alone (effect S c k) e d is h)))) e
      (subst (λ es. Has es e) (sym is) (inl refl)) on

  -- and whether it holds
  pub only_set : (c : Choice) → IsAmong (any_elements (front c) (entries S c)) (all S) → (e : Entry) → effect S c k ≡ e ∷ [] → (run n).net e.condition ≡ 1 → (run n).net (root S c) ≡ 1
  only_set c among e is on = any_on S title run f c among n k low e (subst (λ es. Has es e) (sym is) (inl refl)) on

  pub only_clear : (c : Choice) → IsAmong (any_elements (front c) (entries S c)) (all S) → (e : Entry) → effect S c k ≡ e ∷ [] → (run n).net e.condition ≡ 0 → (run n).net (root S c) ≡ 0
  only_clear c among e is off =
      any_off S title run f c among n k here (some_length (entries S c) e (has_each (effect S c) (state_count S) k e low (subst (λ es. Has es e) (sym is) (inl refl))))
      (λ d h. subst (λ (z : Entry). (run n).net z.condition ≡ 0) (alone (effect S c k) e d is h) off)

  -- a state without one
  pub none_clear : (c : Choice) → IsAmong (any_elements (front c) (entries S c)) (all S) → 0 < length (entries S c) → effect S c k ≡ [] → (run n).net (root S c) ≡ 0
  none_clear c among some is = any_off S title run f c among n k here some (λ d h. absurd (subst (λ es. Has es d) is h))

-- a Clear's test of its counter
pub counter_there : (S : Shape) (k a c next : ℕ) → Has (more_wires S k (ClearAt a c next)) (Wire 1 (name (Value k 0)) (Binary (net (Variable c)) Less (Literal 32 (array_cells S a - 1))))
unfolding name value_front
counter_there S k a c next = has_right (into_of S k a (net (Variable c)) 32) (counting S k a c) _ (inl refl)

module _ (S : Shape) (title : Name) (run : ℕ → Cycle) (f : Follows (built title (task_elements S)) run) (R : Ranges) (σ : State) (n k : ℕ) (is : IsIn S R f.sizes (run n) k σ) where
  to_state : IsAmong (pick S (state_bits S) ToState) (all S)
  to_state =
      among_left (pick S (state_bits S) ToState) (any S ToEnd) (all S)
      (among_left (pick S (state_bits S) ToState ++ any S ToEnd) (each (variable_choices S) (length S.registers)) (all S)
      (among_left ((pick S (state_bits S) ToState ++ any S ToEnd) ++ each (variable_choices S) (length S.registers)) (each (array_choices S) (length S.arrays)) (all S) (choices_in S)))

  root_is : (run n).net (root S ToState) ≡ atom_value (run n) (next_atom S k (form_at S k))
  root_is =
      only_picked S title run f n k is.here is.low ToState (state_bits S) to_state (record { condition = name (At k); value = next_atom S k (form_at S k) }) refl (at_here S title run f n k is.low is.here)

  -- a state whose next is chosen by a test
  by_test : (g : StateForm) → form_at S k ≡ g → (test : Atom) (y m : ℕ) → next_wires S k g ≡ next_of S k test y m → (run n).net (name (Next k)) ≡ cond (eqb (atom_value (run n) test) 1) y m
  by_test g same test y m e =
      wire_driven title (task_elements S) run f (state_bits S) (name (Next k)) (Choose test (number_of S y) (number_of S m))
      (next_in S k is.low (Wire (state_bits S) (name (Next k)) (Choose test (number_of S y) (number_of S m)))
      (subst (λ z. Has (next_wires S k z) (Wire (state_bits S) (name (Next k)) (Choose test (number_of S y) (number_of S m)))) (sym same)
      (subst (λ es. Has es (Wire (state_bits S) (name (Next k)) (Choose test (number_of S y) (number_of S m)))) (sym e) (inl refl))))
      n

  tested : (e : Expression) (y m : ℕ) → form_at S k ≡ TestAt e y m → atom_value (run n) (value_wires S k).atom ≡ value e σ
  tested e y m same =
      let r = value_shown S title run f n R σ k is in
      r.value ∙ ap (λ z. value (value_of z) σ) same

  test_low : (e : Expression) (y m : ℕ) → form_at S k ≡ TestAt e y m → value e σ < 2
  test_low e y m same = let t : IsTypedState (kinds_in S) (TestAt e y m) = subst (IsTypedState (kinds_in S)) same is.typed in value_fits (kinds_in S) e kind.Bool σ t is.fits

  counted : (a c next : ℕ) → form_at S k ≡ ClearAt a c next → (run n).net (name (Value k 0)) ≡ one_if (nat_lt (slice_index σ.vars c) (array_cells S a - 1))
  counted a c next same =
      let g : IsInRange R (ClearAt a c next) = subst (IsInRange R) same is.ranged in
      let r = is.registers c g.1 in
      wire_driven title (task_elements S) run f 1 (name (Value k 0)) (Binary (net (Variable c)) Less (Literal 32 (array_cells S a - 1)))
      (more_in S k is.low (Wire 1 (name (Value k 0)) (Binary (net (Variable c)) Less (Literal 32 (array_cells S a - 1))))
      (subst (λ z. Has (more_wires S k z) (Wire 1 (name (Value k 0)) (Binary (net (Variable c)) Less (Literal 32 (array_cells S a - 1))))) (sym same) (counter_there S k a c next)))
      n
      ∙ ap (λ z. one_if (nat_lt z (array_cells S a - 1))) r.value

  bit_choice : (b : Bool) (x y : ℕ) → cond (eqb (one_if b) 1) x y ≡ cond b x y
  bit_choice true x y = refl
  bit_choice false x y = refl

  next_is : (g : StateForm) → form_at S k ≡ g → atom_value (run n) (next_atom S k g) ≡ place_after S (run n) k σ g
  next_is (TestAt e y m) same =
      by_test (TestAt e y m) same (value_wires S k).atom y m refl ∙ ap (λ z. cond (eqb z 1) y m) (tested e y m same) ∙ choose_bit (value e σ) y m (test_low e y m same)
  next_is (ReadAt s into next) same = by_test (ReadAt s into next) same (net (Datum s)) next k refl
  next_is (WriteAt s e next) same = by_test (WriteAt s e next) same (net (Rdy s)) next k refl
  next_is (PeekAt s into next) same = by_test (PeekAt s into next) same (net (Datum s)) next k refl
  next_is (EotAt s into next) same = by_test (EotAt s into next) same (net (HasNet s)) next k refl
  next_is (OpenAt s next) same = by_test (OpenAt s next) same (net (EotNet s)) next k refl
  next_is (CloseAt s next) same = by_test (CloseAt s next) same (net (Rdy s)) next k refl
  next_is (LoadAt m i into next) same = by_test (LoadAt m i into next) same (net (Ack m)) next k refl
  next_is (StoreAt m i e next) same = by_test (StoreAt m i e next) same (net (Ack m)) next k refl
  next_is (ClearAt a c next) same =
      by_test (ClearAt a c next) same (net (Value k 0)) k next refl ∙ ap (λ z. cond (eqb z 1) k next) (counted a c next same) ∙ bit_choice (nat_lt (slice_index σ.vars c) (array_cells S a - 1)) k next
  next_is _ same = refl

  pub state_moves : (run n).net (root S ToState) ≡ place_after S (run n) k σ (form_at S k)
  state_moves = root_is ∙ next_is (form_at S k) refl

-- ---- the blocks of registers

same_name : (x : Name) → bytes_eq x x ≡ true
same_name x = (bytes_decides x x).1 refl

assigned : (reset x : Name) (first : Atom) (more : List Step) → list_any (step_assigns x) (If reset ∷ NonblockingAssign x first ∷ more) ≡ true
assigned reset x first more = ap (λ b. b || list_any (step_assigns x) more) (same_name x)

module _ (S : Shape) (title : Name) (run : ℕ → Cycle) (f : Follows (built title (task_elements S)) run) (ms : List ModuleTree) (fit : AreFitting ms (task_elements S)) (n : ℕ) where
  abbrev m : ModuleTree
  m = built title (task_elements S)

  register_line : (w : ℕ) (x : Name) → Has (all S) (Register w x) → Has m.items (Reg w x)
  register_line w x h = line_there title (task_elements S) (Register w x) (Reg w x) h (inl refl)

  own : (w : ℕ) (reset x : Name) (first : Atom) (more : List Step) → Has (all S) (Register w x) → Has (all S) (Block (If reset ∷ NonblockingAssign x first ∷ more))
      → IsOwnBlock m.items x (If reset ∷ NonblockingAssign x first ∷ more)
  own w reset x first more h b =
      block_is_own ms title (task_elements S) fit (If reset ∷ NonblockingAssign x first ∷ more) x b (has_flat stored_names (task_elements S) (Register w x) x h (inl refl)) (assigned reset x first more)

  state_there : Has (all S) (Register (state_bits S) (name StateNet))
  state_there = held_in S (Register (state_bits S) (name StateNet)) (inl refl)

  state_block : Has (all S) (Block (reset_or (name StateNet) (Literal (state_bits S) 0) (Net (root S ToState))))
  state_block = blocks_in S (Block (reset_or (name StateNet) (Literal (state_bits S) 0) (Net (root S ToState)))) (inl refl)

  pub state_goes_on : (run (suc n)).net (name StateNet) ≡ cond (eqb ((run n).net rst) 1) 0 ((run n).net (root S ToState))
  state_goes_on =
      reset_is m run f (state_bits S) (name StateNet) (Literal (state_bits S) 0) (Net (root S ToState)) (register_line (state_bits S) (name StateNet) state_there)
      (own (state_bits S) rst (name StateNet) (Literal (state_bits S) 0) (Else ∷ NonblockingAssign (name StateNet) (Net (root S ToState)) ∷ End ∷ []) state_there state_block) n

  variable_blocks : IsAmong (each (variable_block S) (length S.registers)) (all S)
  variable_blocks =
      among_left (each (variable_block S) (length S.registers)) (each (array_block S) (length S.arrays)) (all S)
      (among_right
      (Block (reset_or (name StateNet) (Literal (state_bits S) 0) (Net (root S ToState))) ∷ Block (register_block rst (name Ended) (Literal 1 0) (entries S ToEnd) (root S ToEnd) (Literal 1 1)) ∷ [])
      (each (variable_block S) (length S.registers) ++ each (array_block S) (length S.arrays)) (all S) (blocks_in S))

  abbrev register_steps : ℕ → List Step
  register_steps r = register_block (reset_of r (entries S (Clear r))) (name (Variable r)) (first_value S r) (entries S (Set r)) (root S (Set r)) (Net (root S (NextValue r)))

  block_there : (r : ℕ) → r < length S.registers → Has (all S) (Block (register_steps r))
  block_there r h = among_each (variable_block S) (length S.registers) r (all S) h variable_blocks (Block (register_steps r)) (inl refl)

  -- a register with its block
  goes_on : (w : ℕ) (reset x : Name) (first : Atom) (es : List Entry) (set next : Name) → Has (all S) (Register w x) → Has (all S) (Block (register_block reset x first es set (Net next)))
      → (run (suc n)).net x ≡ set_next es (run n) reset x first set next
  goes_on w reset x first [] set next h b =
      register_takes m run f w x (set_block reset x first) (register_line w x h) (own w reset x first (End ∷ []) h b) n ∙ set_leaves f.sizes (run n) (run n) reset x first
  goes_on w reset x first (e ∷ es) set next h b =
      register_takes m run f w x (reset_block reset set x first (Net next)) (register_line w x h) (own w reset x first (Else ∷ If set ∷ NonblockingAssign x (Net next) ∷ End ∷ End ∷ []) h b) n
      ∙ reset_leaves f.sizes (run n) (run n) reset set x first (Net next)

pub registers_go_on : RegistersGoOn
registers_go_on S title run f ms fit n r h =
    goes_on S title run f ms fit n (bits_of (register_kind S r)) (reset_of r (entries S (Clear r))) (name (Variable r)) (first_value S r) (entries S (Set r)) (root S (Set r)) (root S (NextValue r))
    (variable_there S r h) (block_there S title run f ms fit n r h)
