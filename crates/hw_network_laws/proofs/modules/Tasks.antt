-- What the module of an instance holds first is the first state of the instance's machine.
use Rattle.std.proofs.Common.{◌≡◌, ℕ, zero, suc, ◌-◌, ◌<◌, ◌≤◌, List, [], ◌∷◌, ◌++◌, length, map, take, replicate, get_or, Bool, Some, refl, sym, ap, ◌∙◌, subst, ⊎_elim, arith, length-append, length-take}
use Rattle.std.specs.Prelude.{if◌then◌else◌, slice_get, slice_set, slice_index_or, option_map, unwrap_or}
use Rattle.std.proofs.lemmas.Bool.{cases_eq, cases_lt, eq-eqb, ne_eqb}
use Rattle.std.proofs.lemmas.List.{length-set, length-map, length-replicate, get_or-replicate, get_or_past, get_or-set_same, get_or-set_other, take_all}
use Rattle.std.proofs.lemmas.Option.{slice_get-map, slice_get-get_or, get_or_from_slice_get}
use Rattle.tapa_syntax.specs.LeafKinds.{writes_of}
use Rattle.tapa_syntax.specs.WellFormed.{IsLeaf, IsInstance, IsWellFormed}
use Rattle.tapa_syntax.specs.declared.program.Array.{Array}
use Rattle.tapa_syntax.specs.declared.program.Instance.{Instance}
use Rattle.tapa_syntax.specs.declared.program.Leaf.{Leaf}
use Rattle.tapa_syntax.specs.declared.program.Program.{Program}
use Rattle.vlog_tree.specs.Cycle.{Cycle}
use Rattle.kahn_model.specs.ProgramNetwork.{network_with}
use Rattle.kahn_model.specs.Start.{bound_value, with_values, kinds_in, leaf_state, instance_state, first_state, network_of}
use Rattle.kahn_model.specs.Trace.{State, cells_of}
use Rattle.task_fsm.specs.declared.machine.Fsm.{Fsm}
use Rattle.task_fsm.specs.Lowered.{IsLowered, IsStart, with_temporaries}
use Rattle.hw_lines.specs.declared.nets.Net.TheVariants.{Scalar}
use Rattle.hw_lines.specs.Shape.{Shape, array_cells}
use Rattle.hw_lines.specs.Signals.{Streams}
use Rattle.hw_lines.specs.Runs.{number_at, array_at, first_of, first_held, streams_at, answers_at, history_at, RunsTask}
use Rattle.hw_task_laws.proofs.runs.Lists.{ones, ones_length, ones_at, ones_past, ones_are, same_held}
use Rattle.hw_network_laws.specs.network.Clocked.{IsPartOf}
use Rattle.hw_network_laws.specs.network.Parts.{AgreeOn}
use Rattle.hw_network_laws.specs.network.Ports.{AreWired}
use Rattle.hw_network_laws.proofs.network.Made.{take_more}
use Rattle.hw_network_laws.proofs.network.Linked.{at_streams}
use Rattle.hw_network_laws.proofs.network.Parts.{parts}
use Rattle.hw_network_laws.proofs.network.Ports.{is_instance, lowered_uses, linked}
use Rattle.hw_network_laws.specs.modules.Tasks.{BeginsAs, shape_for, part_in, IsInstanceOf}
use Rattle.tapa_base.proofs.Got.{some_at as there_at}

-- ---- values of some variables

with_length : (xs vs zs : List ℕ) → length (with_values xs vs zs) ≡ length zs
with_length [] vs zs = refl
with_length (x ∷ xs) [] zs = refl
with_length (x ∷ xs) (v ∷ vs) zs = with_length xs vs (slice_set zs x v) ∙ length-set zs x v

with_snoc : (xs vs zs : List ℕ) (x v : ℕ) → length xs ≡ length vs → with_values (xs ++ x ∷ []) (vs ++ v ∷ []) zs ≡ slice_set (with_values xs vs zs) x v
with_snoc [] [] zs x v e = refl
with_snoc [] (w ∷ vs) zs x v e = absurd (omega arith)
with_snoc (y ∷ xs) [] zs x v e = absurd (omega arith)
with_snoc (y ∷ xs) (w ∷ vs) zs x v e = with_snoc xs vs (slice_set zs y w) x v (omega arith)

zeros_length : (n : ℕ) → length (replicate {A = ℕ} n 0) ≡ n
zeros_length n = length-replicate n 0

zeros_at : (n k : ℕ) → ◌≡◌ {A = ℕ} (get_or (replicate n 0) k 0) 0
zeros_at n k =
    ⊎_elim
    (λ (l : k < n). get_or-replicate n k 0 0 l)
    (λ (l : n ≤ k). let e = zeros_length n in get_or_past (replicate n 0) k 0 (omega arith))
    (cases_lt k n)

zeros_more : (xs : List ℕ) (n k : ℕ) → get_or (xs ++ replicate n 0) k 0 ≡ get_or xs k 0
zeros_more [] n k = zeros_at n k
zeros_more (x ∷ xs) n zero = refl
zeros_more (x ∷ xs) n (suc k) = zeros_more xs n k

-- the values at the ports are those of the variables: of several for one variable the last
module _ (S : Shape) (run : ℕ → Cycle) (vs zs : List ℕ) (r : ℕ) (same : length S.scalars ≡ length vs) (low : (p x : ℕ) → slice_get S.scalars p ≡ Some x → x < length zs) (none : get_or zs r 0 ≡ 0) (ports : (p : ℕ) → p < length vs → get_or vs p 0 ≡ number_at run (Scalar p) 0) where
  picks : (n : ℕ) → n ≤ length vs → get_or (with_values (take n S.scalars) (take n vs) zs) r 0 ≡ first_of S run r n
  picks zero l = none
  picks (suc n) l =
      let xs = S.scalars in
      let x = get_or xs n 0 in
      let v = get_or vs n 0 in
      let before = with_values (take n xs) (take n vs) zs in
      let lx = length-take n xs in
      let lv = length-take n vs in
      let long = with_length (take n xs) (take n vs) zs in
      let inside = low n x (slice_get-get_or xs n 0 (omega arith)) in
      let one : with_values (take (suc n) xs) (take (suc n) vs) zs ≡ slice_set before x v =
      ap (λ l. with_values l (take (suc n) vs) zs) (take_more xs n x (slice_get-get_or xs n 0 (omega arith))) ∙ ap (λ l. with_values (take n xs ++ x ∷ []) l zs) (take_more vs n v (slice_get-get_or vs n 0 (omega arith))) ∙ with_snoc (take n xs) (take n vs) zs x v (omega arith) in
      ap (λ l. get_or l r 0) one
      ∙ ⊎_elim
      (λ (e : x ≡ r).
      subst (λ y. get_or (slice_set before x v) y 0 ≡ v) e (get_or-set_same before x v 0 (omega arith))
      ∙ ports n (omega arith)
      ∙ sym (ap (λ (b : Bool). if b then number_at run (Scalar n) 0 else first_of S run r n) (eq-eqb x r e)))
      (λ (d : x ≡ r → ⊥).
      get_or-set_other before x r v 0 (λ e. d (sym e))
      ∙ picks n (omega arith)
      ∙ sym (ap (λ (b : Bool). if b then number_at run (Scalar n) 0 else first_of S run r n) (ne_eqb x r d)))
      (cases_eq x r)

  all_picked : get_or (with_values S.scalars vs zs) r 0 ≡ first_of S run r (length S.scalars)
  all_picked =
      ap (λ l. get_or (with_values l vs zs) r 0) (sym (take_all (length vs) S.scalars (omega arith)))
      ∙ ap (λ l. get_or (with_values (take (length vs) S.scalars) l zs) r 0) (sym (take_all (length vs) vs (omega arith)))
      ∙ picks (length vs) (omega arith)
      ∙ ap (first_of S run r) (sym same)

-- ---- the first state

module _ (program : Program) (w : IsWellFormed program) (scalars : List ℕ) (memories : List (List ℕ)) (i : ℕ) (x : Instance) (leaf : Leaf) (machine : Fsm) (at : slice_get program.instances.items i ≡ Some x) (body : slice_get program.bodies.items x.body ≡ Some leaf) (lowered : IsLowered leaf machine) (run : ℕ → Cycle) (cells : ℕ → List (List ℕ)) (begins : BeginsAs program scalars memories x run cells) where
  abbrev S : Shape
  S = shape_for leaf machine

  abbrev first : ℕ → State
  first = first_state program scalars memories

  abbrev state : State
  state = leaf_state (kinds_in program) scalars memories x (Some leaf)

  abbrev values : List ℕ
  values = map (bound_value (kinds_in program) scalars) x.scalars.items

  abbrev nothing : List ℕ
  nothing = replicate (length leaf.vars.items) 0

  is : IsInstance program i x leaf
  is = is_instance program w i x leaf at body

  is_leaf : IsLeaf leaf
  is_leaf = w.leaves x.body leaf body

  state_is : first i ≡ state
  state_is = ap (instance_state program scalars memories) at ∙ ap (leaf_state (kinds_in program) scalars memories x) body

  as_many : length machine.scalars.items ≡ length values
  as_many = ap length lowered.scalars ∙ sym is.scalars_len ∙ sym (length-map x.scalars.items (bound_value (kinds_in program) scalars))

  low_scalars : (p y : ℕ) → slice_get machine.scalars.items p ≡ Some y → y < length nothing
  low_scalars p y e =
      let l = is_leaf.scalars_in p y (ap (λ l. slice_get l p) (sym lowered.scalars) ∙ e) in
      let n = zeros_length (length leaf.vars.items) in
      omega arith

  at_ports : (p : ℕ) → p < length values → get_or values p 0 ≡ number_at run (Scalar p) 0
  at_ports p l =
      let m = length-map x.scalars.items (bound_value (kinds_in program) scalars) in
      let b = there_at x.scalars.items p (omega arith) in
      get_or_from_slice_get values p (bound_value (kinds_in program) scalars b.0) 0 (slice_get-map (bound_value (kinds_in program) scalars) x.scalars.items p ∙ ap (option_map (bound_value (kinds_in program) scalars)) b.1)
      ∙ sym (begins.scalars_stand p b.0 b.1)

  var_is : (r : ℕ) → first_of S run r (length machine.scalars.items) ≡ get_or (with_values leaf.scalars.items values nothing) r 0
  var_is r =
      sym (all_picked S run values nothing r as_many low_scalars (zeros_at (length leaf.vars.items) r) at_ports)
      ∙ ap (λ l. get_or (with_values l values nothing) r 0) lowered.scalars

  abbrev spare : ℕ
  spare = length machine.regs.items - length leaf.vars.items

  vars_are : ones (λ r. first_of S run r (length machine.scalars.items)) (length machine.regs.items) ≡ with_values leaf.scalars.items values nothing ++ replicate spare 0
  vars_are =
      let long = with_length leaf.scalars.items values nothing in
      let n = zeros_length (length leaf.vars.items) in
      let m = zeros_length spare in
      let all = length-append (with_values leaf.scalars.items values nothing) (replicate spare 0) in
      let regs = lowered.registers in
      ones_are (λ r. first_of S run r (length machine.scalars.items)) (length machine.regs.items) (with_values leaf.scalars.items values nothing ++ replicate spare 0) 0 (omega arith)
      (λ r l. var_is r ∙ sym (zeros_more (with_values leaf.scalars.items values nothing) spare r))

  -- what the module holds first, without its temporaries
  abbrev begun : State
  begun = record { vars = with_values leaf.scalars.items values nothing; arrays = ones (λ a. array_at S run 1 a) (length machine.arrays.items); cells = cells 1 }

  held_is : first_held S run cells ≡ with_temporaries spare begun
  held_is = same_held (first_held S run cells) (with_temporaries spare begun) vars_are refl refl

  abbrev row : Array → List ℕ
  row r = replicate r.cells 0

  row_is : (a : ℕ) (r : Array) → slice_get leaf.arrays.items a ≡ Some r → length (slice_index_or (map row leaf.arrays.items) a []) ≡ r.cells
  row_is a r e = ap length (get_or_from_slice_get (map row leaf.arrays.items) a (row r) [] (slice_get-map row leaf.arrays.items a ∙ ap (option_map row) e)) ∙ length-replicate r.cells 0

  cell_row : (a : ℕ) (r : Array) → slice_get leaf.arrays.items a ≡ Some r → a < length machine.arrays.items → length (slice_index_or begun.arrays a []) ≡ r.cells
  cell_row a r e l =
      ap length (ones_at (λ b. array_at S run 1 b) (length machine.arrays.items) a [] l)
      ∙ ones_length (λ j. (run 1).cell _ j) (array_cells S a)
      ∙ ap (λ o. unwrap_or (option_map (λ (z : Array). z.cells) o) 1) (ap (λ z. slice_get z a) lowered.arrays ∙ e)

  arrays_long : length leaf.arrays.items ≡ length machine.arrays.items
  arrays_long = ap length (sym lowered.arrays)

  sizes_are : (a : ℕ) → cells_of state a ≡ cells_of begun a
  sizes_are a =
      let m = length-map leaf.arrays.items row in
      let n = arrays_long in
      ⊎_elim
      (λ (l : a < length leaf.arrays.items). let r = there_at leaf.arrays.items a l in row_is a r.0 r.1 ∙ sym (cell_row a r.0 r.1 (omega arith)))
      (λ (l : length leaf.arrays.items ≤ a).
      ap length (get_or_past (map row leaf.arrays.items) a [] (omega arith))
      ∙ sym (ap length (ones_past (λ b. array_at S run 1 b) (length machine.arrays.items) a [] (omega arith))))
      (cases_lt a (length leaf.arrays.items))

  starts : IsStart leaf state
  starts = record {
    vars = with_length leaf.scalars.items values nothing ∙ length-replicate (length leaf.vars.items) 0;
    arrays = length-map leaf.arrays.items row;
    cells = λ a l. let r = there_at leaf.arrays.items a l in let e = row_is a r.0 r.1 in let c = (is_leaf.cells a r.0 r.1).0 in omega arith;
  }

  agree : AgreeOn [] state begun
  agree = record {
    vars = refl;
    cells = sym begins.cells_stand;
    arrays = length-map leaf.arrays.items row ∙ arrays_long ∙ sym (ones_length (λ a. array_at S run 1 a) (length machine.arrays.items));
    sizes = sizes_are;
    same = λ a e. absurd e;
  }

  part_is : IsPartOf ((network_with program first).job i) (part_in x leaf machine run cells)
  part_is =
      subst (λ σ. IsPartOf ((network_with program first).job i) (record (part_in x leaf machine run cells) { first = σ })) (sym held_is)
      (parts program first i x leaf machine begun at body is_leaf lowered (subst (IsStart leaf) (sym state_is) starts) (subst (λ σ. AgreeOn [] σ begun) (sym state_is) agree))

  module _ (T : Streams) (runs : RunsTask S (writes_of leaf.streams.items) run cells) (wired : AreWired program x leaf (streams_at S run) T) where
    pub instance_is : IsInstanceOf program scalars memories i x leaf machine run cells T
    unfolding network_of
    instance_is = record {
      part = part_is;
      runs = at_streams (part_in x leaf machine run cells) (writes_of leaf.streams.items) (λ s. (network_with program first).consumer s ≡ i) (λ s. (network_with program first).producer s ≡ i) (streams_at S run) T (answers_at run)
          (linked program w i x leaf at body first (streams_at S run) T wired) (history_at S run cells) (lowered_uses leaf machine lowered) runs.machine;
    }
