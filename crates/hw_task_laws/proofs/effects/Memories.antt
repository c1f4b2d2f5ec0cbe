-- What memories are asked for, and what they hold then.
use Rattle.std.proofs.Common.{◌≡◌, ℕ, zero, suc, ◌<◌, Bool, true, false, cond, eqb, ◌&&◌, List, [], ◌∷◌, ◌++◌, length, Option, Some, None, inl, inr, refl, sym, ap, subst, ◌∙◌, arith, ⊎_elim}
use Rattle.std.proofs.lemmas.Bool.{cases_eq, eq-eqb, ne_eqb, and_right}
use Rattle.tapa_base.specs.declared.kind.Kind.TheVariants.{U64}
use Rattle.tapa_base.specs.Kinds.{bits_of}
use Rattle.kahn_model.specs.Trace.{State, cell, with_cell, store_cell}
use Rattle.tapa_base.specs.Lists.{Has}
use Rattle.vlog_tree.specs.Table.{Name, one_if}
use Rattle.vlog_tree.specs.Cycle.{Cycle, Follows}
use Rattle.hw_build.specs.Elements.{Element, Output, built}
use Rattle.hw_build.specs.Fits.{IsAmong}
use Rattle.task_fsm.specs.Machine.{Expression, StateForm, ReadAt, PeekAt, EotAt, LoadAt, StoreAt, ClearAt}
use Rattle.task_fsm.specs.MachineKinds.{IsOfKind, IsTypedState}
use Rattle.task_fsm.specs.Ranges.{IsInRange}
use Rattle.task_fsm.specs.Run.{value, step, put_into, is_last, clear_step}
use Rattle.hw_lines.specs.declared.nets.Choice.TheVariants.{Address, StoreEnable, Data}
use Rattle.hw_lines.specs.declared.nets.Net.TheVariants.{Ack, Addr, Wdata, We, At}
use Rattle.hw_lines.specs.Nets.{name}
use Rattle.hw_lines.specs.Shape.{Shape, kinds_in, memory_kind, form_at}
use Rattle.hw_lines.specs.States.{index_of, value_of, index_wires, value_wires}
use Rattle.hw_lines.specs.Effects.{entry, at, askings, savings}
use Rattle.hw_lines.specs.Texts.{any, pick, result, task_elements}
use Rattle.hw_lines.specs.After.{held_after}
use Rattle.hw_lines.specs.Runs.{number_at, bit_at, stored_in, all_stored, stores_to, by_act, AsksAs}
use Rattle.hw_lines.proofs.Members.{all, among_left, among_right}
use Rattle.hw_lines.proofs.Decodes.{at_here}
use Rattle.hw_task_laws.proofs.acts.Answered.{among_three, value_shown, index_shown}
use Rattle.hw_task_laws.specs.steps.Steps.{ranges_in, allowed, found_by, IsAt}
use Rattle.hw_task_laws.proofs.steps.Allowed.{bit_back}
use Rattle.hw_task_laws.specs.effects.Held.{held_by, MemoriesAreHeld}
use Rattle.hw_task_laws.specs.effects.Outputs.{AsksAreMade, StoresAreAsked}
use Rattle.hw_task_laws.proofs.effects.Outs.{at_same, memory_outs, out_none, out_value, out_at}

clear_stores : (m k a c next : ℕ) (σ : State) (b : Bool) → false ≡ by_act (stores_to m) (clear_step b a c k next σ)
clear_stores m k a c next σ true = refl
clear_stores m k a c next σ false = refl

clear_asks : (run : ℕ → Cycle) (n m k a c next : ℕ) (σ : State) (b : Bool) → AsksAs run n m (clear_step b a c k next σ)
clear_asks run n m k a c next σ true = tt
clear_asks run n m k a c next σ false = tt

-- ---- the ports of a memory

module _ (S : Shape) (title : Name) (run : ℕ → Cycle) (f : Follows (built title (task_elements S)) run) (cells : ℕ → List (List ℕ)) (n k : ℕ) (σ : State) (is : IsAt S run f.sizes cells n k σ) where
  at_one : (run n).net (name (At k)) ≡ 1
  at_one = at_here S title run f n k is.shows.low is.shows.here

  module _ (m : ℕ) (low : m < length S.memories) where
    abbrev bits : ℕ
    bits = bits_of (memory_kind S m)

    abbrev ports : List Element
    ports = Output 64 (name (Addr m)) (result S 64 (Address m)) ∷ Output bits (name (Wdata m)) (result S bits (Data m)) ∷ Output 1 (name (We m)) (result S 1 (StoreEnable m)) ∷ []

    abbrev two : List Element
    two = pick S 64 (Address m) ++ any S (StoreEnable m)

    parts : IsAmong two (all S) × IsAmong (pick S bits (Data m)) (all S) × IsAmong ports (all S)
    parts = among_three two (pick S bits (Data m)) ports (all S) (memory_outs S m low)

    asks_among : IsAmong (pick S 64 (Address m)) (all S)
    asks_among = among_left (pick S 64 (Address m)) (any S (StoreEnable m)) (all S) parts.0

    saves_among : IsAmong (any S (StoreEnable m)) (all S)
    saves_among = among_right (pick S 64 (Address m)) (any S (StoreEnable m)) (all S) parts.0

    addr_there : Has (all S) (Output 64 (name (Addr m)) (result S 64 (Address m)))
    addr_there = parts.2 (Output 64 (name (Addr m)) (result S 64 (Address m))) (inl refl)

    wdata_there : Has (all S) (Output bits (name (Wdata m)) (result S bits (Data m)))
    wdata_there = parts.2 (Output bits (name (Wdata m)) (result S bits (Data m))) (inr (inl refl))

    we_there : Has (all S) (Output 1 (name (We m)) (result S 1 (StoreEnable m)))
    we_there = parts.2 (Output 1 (name (We m)) (result S 1 (StoreEnable m))) (inr (inr (inl refl)))

    -- the index where a state asks for a cell
    pub addr_is : (g : StateForm) → form_at S k ≡ g → (x : ℕ) → x ≡ m → askings S m k g ≡ at x m (entry (At k) (index_wires S k).atom) → IsOfKind (kinds_in S) (index_of g) U64
        → number_at run (Addr m) n ≡ value (index_of g) σ
    addr_is g same x e some kind =
        let t : IsOfKind (kinds_in S) (index_of (form_at S k)) U64 = subst (λ z. IsOfKind (kinds_in S) (index_of z) U64) (sym same) kind in
        out_value S title run f n k is.shows.here is.shows.low 64 (name (Addr m)) (Address m) addr_there asks_among (record { condition = name (At k); value = (index_wires S k).atom })
        (ap (askings S m k) same ∙ some ∙ at_same x m (entry (At k) (index_wires S k).atom) e) at_one
        ∙ (index_shown S title run f n (ranges_in S) σ k is.shows t).value ∙ ap (λ z. value (index_of z) σ) same

    -- and the value where it stores
    wdata_is : (g : StateForm) → form_at S k ≡ g → (x : ℕ) → x ≡ m → savings S m k g ≡ at x m (entry (At k) (value_wires S k).atom) → number_at run (Wdata m) n ≡ value (value_of g) σ
    wdata_is g same x e some =
        out_value S title run f n k is.shows.here is.shows.low bits (name (Wdata m)) (Data m) wdata_there parts.1 (record { condition = name (At k); value = (value_wires S k).atom })
        (ap (savings S m k) same ∙ some ∙ at_same x m (entry (At k) (value_wires S k).atom) e) at_one
        ∙ (value_shown S title run f n (ranges_in S) σ k is.shows).value ∙ ap (λ z. value (value_of z) σ) same

    asks_are : (g : StateForm) → form_at S k ≡ g → AsksAs run n m (step g k σ)
    asks_are (LoadAt x i into next) same = λ e.
        let t : IsTypedState (kinds_in S) (LoadAt x i into next) = subst (IsTypedState (kinds_in S)) same is.shows.typed in
        addr_is (LoadAt x i into next) same x e refl t.0
    asks_are (StoreAt x i v next) same = λ e.
        let t : IsTypedState (kinds_in S) (StoreAt x i v next) = subst (IsTypedState (kinds_in S)) same is.shows.typed in
        (addr_is (StoreAt x i v next) same x e refl t.0, wdata_is (StoreAt x i v next) same x e refl)
    asks_are (ClearAt a c next) same = clear_asks run n m k a c next σ (is_last σ a c)
    asks_are _ same = tt

    pub no_store : (g : StateForm) → form_at S k ≡ g → savings S m k g ≡ [] → number_at run (We m) n ≡ 0
    no_store g same none =
        out_none S title run f n k is.shows.here is.shows.low 1 (name (We m)) (StoreEnable m) we_there saves_among (ap (savings S m k) same ∙ none)

    we_is : (g : StateForm) → form_at S k ≡ g → number_at run (We m) n ≡ one_if (by_act (stores_to m) (step g k σ))
    we_is (StoreAt x i e next) same =
        out_at S title run f n k is.shows.here is.shows.low 1 (name (We m)) (StoreEnable m) we_there saves_among x m (At k) (value_wires S k).atom (ap (savings S m k) same) true at_one
    we_is (ClearAt a c next) same = no_store (ClearAt a c next) same refl ∙ ap one_if (clear_stores m k a c next σ (is_last σ a c))
    we_is g same = no_store g same refl

pub asks_are_made : AsksAreMade
asks_are_made S title run f cells n k σ is m low = asks_are S title run f cells n k σ is m low (form_at S k) refl

pub stores_are_asked : StoresAreAsked
stores_are_asked S title run f cells n k σ is m low = we_is S title run f cells n k σ is m low (form_at S k) refl

-- ---- their cells in the next cycle

module _ (S : Shape) (run : ℕ → Cycle) (n : ℕ) where
  stored_off : (m : ℕ) (rows : List (List ℕ)) → bit_at run (We m) n ≡ false → stored_in S run n m rows ≡ rows
  stored_off m rows off = ap (λ b. cond b (with_cell rows m (number_at run (Addr m) n) (number_at run (Wdata m) n)) rows) (and_right (bit_at run (Ack m) n) (bit_at run (We m) n) off)

  none_stored : (m : ℕ) (rows : List (List ℕ)) → ((x : ℕ) → x < m → bit_at run (We x) n ≡ false) → all_stored S run n m rows ≡ rows
  none_stored zero rows off = refl
  none_stored (suc m) rows off = stored_off m (all_stored S run n m rows) (off m (omega arith)) ∙ none_stored m rows (λ x l. off x (omega (arith, l)))

  one_stored : (m x : ℕ) (rows : List (List ℕ)) → x < m → ((y : ℕ) → y < m → (x ≡ y → ⊥) → bit_at run (We y) n ≡ false) → all_stored S run n m rows ≡ stored_in S run n x rows
  one_stored zero x rows l off = absurd (omega (arith, l))
  one_stored (suc m) x rows l off =
      ⊎_elim
      (λ (e : x ≡ m).
      ap (stored_in S run n m) (none_stored m rows (λ y h. off y (omega (arith, h)) (λ d. absurd (omega (arith, d, e, h))))) ∙ ap (λ z. stored_in S run n z rows) (sym e))
      (λ (e : x ≡ m → ⊥).
      stored_off m (all_stored S run n m rows) (off m (omega arith) e) ∙ one_stored m x rows (omega (arith, l, e)) (λ y h d. off y (omega (arith, h)) d))
      (cases_eq x m)

-- a part of a state that a step leaves as it is
pub same_part : {A : Type 0} (g : State → A) (b : Bool) (τ σ : State) → g τ ≡ g σ → g σ ≡ g (cond b τ σ)
same_part g true τ σ e = sym e
same_part g false τ σ e = refl

into_cells : (σ : State) (into : Option ℕ) (v : ℕ) → (put_into σ into v).cells ≡ σ.cells
into_cells σ None v = refl
into_cells σ (Some r) v = refl

clear_cells : (S : Shape) (run : ℕ → Cycle) (n k a c next : ℕ) (σ : State) (b : Bool) → σ.cells ≡ (held_by S run n σ (clear_step b a c k next σ)).cells
clear_cells S run n k a c next σ true = refl
clear_cells S run n k a c next σ false = refl

store_goes : (σ : State) (m i v : ℕ) (ack we : Bool) → we ≡ true → cond (ack && we) (with_cell σ.cells m i v) σ.cells ≡ (cond ack (store_cell σ m i v) σ).cells
store_goes σ m i v true we e = ap (λ b. cond b (with_cell σ.cells m i v) σ.cells) e
store_goes σ m i v false we e = refl

module _ (S : Shape) (title : Name) (run : ℕ → Cycle) (f : Follows (built title (task_elements S)) run) (cells : ℕ → List (List ℕ)) (n k : ℕ) (σ : State) (is : IsAt S run f.sizes cells n k σ) where
  goes : cells (suc n) ≡ all_stored S run n (length S.memories) σ.cells
  goes = is.around.goes n ∙ ap (all_stored S run n (length S.memories)) (sym is.outside)

  -- a state that stores nothing
  stays : (g : StateForm) → form_at S k ≡ g → ((m : ℕ) → savings S m k g ≡ []) → cells (suc n) ≡ σ.cells
  stays g same none = goes ∙ none_stored S run n (length S.memories) σ.cells (λ m l. ap (λ z. eqb z 1) (no_store S title run f cells n k σ is m l g same (none m)))

  stores : (x : ℕ) (i e : Expression) (next : ℕ) → form_at S k ≡ StoreAt x i e next → cells (suc n) ≡ (cond (bit_at run (Ack x) n) (store_cell σ x (value i σ) (value e σ)) σ).cells
  stores x i e next same =
      let g : IsInRange (ranges_in S) (StoreAt x i e next) = subst (IsInRange (ranges_in S)) same is.shows.ranged in
      let asked = asks_are S title run f cells n k σ is x g.0 (StoreAt x i e next) same refl in
      let said = λ (y : ℕ) (l : y < length S.memories). ap (λ z. eqb z 1) (we_is S title run f cells n k σ is y l (StoreAt x i e next) same) ∙ bit_back (eqb x y) in
      let on : bit_at run (We x) n ≡ true = said x g.0 ∙ eq-eqb x x refl in
      goes
      ∙ one_stored S run n (length S.memories) x σ.cells g.0 (λ y l d. said y l ∙ ne_eqb x y d)
      ∙ ap (λ z. cond (bit_at run (Ack x) n && bit_at run (We x) n) (with_cell σ.cells x z (number_at run (Wdata x) n)) σ.cells) asked.0
      ∙ ap (λ z. cond (bit_at run (Ack x) n && bit_at run (We x) n) (with_cell σ.cells x (value i σ) z) σ.cells) asked.1
      ∙ store_goes σ x (value i σ) (value e σ) (bit_at run (Ack x) n) (bit_at run (We x) n) on

  -- what is held where a step leaves the cells
  kept : (g : StateForm) → form_at S k ≡ g → ((m : ℕ) → savings S m k g ≡ []) → (held_after (step g k σ) σ (found_by S run n (step g k σ))).cells ≡ σ.cells
      → cells (suc n) ≡ (held_by S run n σ (step g k σ)).cells
  kept g same none e = stays g same none ∙ same_part (λ (τ : State). τ.cells) (allowed S run n (step g k σ)) (held_after (step g k σ) σ (found_by S run n (step g k σ))) σ e

  cells_are : (g : StateForm) → form_at S k ≡ g → cells (suc n) ≡ (held_by S run n σ (step g k σ)).cells
  cells_are (ReadAt s into next) same = kept (ReadAt s into next) same (λ m. refl) (into_cells σ into (found_by S run n (step (ReadAt s into next) k σ)))
  cells_are (PeekAt s into next) same = kept (PeekAt s into next) same (λ m. refl) (into_cells σ into (found_by S run n (step (PeekAt s into next) k σ)))
  cells_are (EotAt s into next) same = kept (EotAt s into next) same (λ m. refl) (into_cells σ into (found_by S run n (step (EotAt s into next) k σ)))
  cells_are (LoadAt x i into next) same = kept (LoadAt x i into next) same (λ m. refl) (into_cells σ into (cell σ.cells x (value i σ)))
  cells_are (StoreAt x i e next) same = stores x i e next same
  cells_are (ClearAt a c next) same = stays (ClearAt a c next) same (λ m. refl) ∙ clear_cells S run n k a c next σ (is_last σ a c)
  cells_are g same = kept g same (λ m. refl) refl

pub memories_are_held : MemoriesAreHeld
memories_are_held S title run f cells n k σ is = cells_are S title run f cells n k σ is (form_at S k) refl
