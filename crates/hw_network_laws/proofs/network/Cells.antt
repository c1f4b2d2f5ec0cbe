-- The cells of a memory that an instance holds, after its ticks.
use Rattle.std.proofs.Common.{◌≡◌, ℕ, suc, ◌<◌, List, [], ◌∷◌, length, map, Bool, true, false, Option, Some, None, refl, sym, ◌∙◌, ap, ⊎_elim, arith}
use Rattle.std.specs.Prelude.{if◌then◌else◌, slice_get, slice_set, slice_index_or, option_map}
use Rattle.std.proofs.lemmas.Bool.{cases_eq}
use Rattle.std.proofs.lemmas.Bool.Decides.{nat_tests}
use Rattle.std.proofs.lemmas.List.{get_or-set_same, get_or-set_other, length-set}
use Rattle.std.proofs.lemmas.Option.{slice_get_within, slice_get-map, get_or_from_slice_get}
use Rattle.tapa_syntax.specs.WellFormed.{IsWellFormed}
use Rattle.tapa_syntax.specs.declared.program.Instance.{Instance}
use Rattle.tapa_syntax.specs.declared.program.Leaf.{Leaf}
use Rattle.tapa_syntax.specs.declared.program.Memory.{Memory}
use Rattle.tapa_syntax.specs.declared.program.Program.{Program}
use Rattle.kahn_model.specs.declared.tick.Action.TheVariants.{Local, Put, Load, Store}
use Rattle.kahn_model.specs.declared.tick.Tick.{Tick}
use Rattle.kahn_model.specs.declared.tick.Tick.TheVariants.{Did, Take, See, End}
use Rattle.kahn_model.specs.Cells.{is_memory, stored, after_stores, memory_at, owner_of, cells_at}
use Rattle.kahn_model.specs.Counts.{ticks_made}
use Rattle.kahn_model.specs.Start.{network_of, first_state, instance_state, leaf_state, kinds_in}
use Rattle.kahn_model.specs.Timed.{Clock, count_at}
use Rattle.kahn_model.specs.Trace.{with_cell}
use Rattle.task_fsm.specs.Run.{cells_after}
use Rattle.hw_lines.specs.Signals.{Streams, History, Part}
use Rattle.hw_network_laws.specs.network.Clocked.{IsClocked}
use Rattle.hw_network_laws.proofs.network.Together.{in_step}

pub is_the_memory : (o : Option ℕ) (m : ℕ) → o ≡ Some m → is_memory o m ≡ true
is_the_memory None m e = absurd cc
is_the_memory (Some r) m e = let q : r ≡ m = cc in grind (arith, nat_tests)

pub not_the_memory : (o : Option ℕ) (m : ℕ) → (o ≡ Some m → ⊥) → is_memory o m ≡ false
not_the_memory None m d = refl
not_the_memory (Some r) m d = let q : r ≡ m → ⊥ = λ e. d (ap Some e) in grind (arith, nat_tests)

module _ (bound : ℕ → Option ℕ) (m p : ℕ) (here : bound p ≡ Some m) (once : (q : ℕ) → bound q ≡ Some m → q ≡ p) where
  -- after one store
  store_here : (rows : List (List ℕ)) (cells : List ℕ) (q i v : ℕ) → p < length rows → slice_index_or rows p [] ≡ cells → slice_index_or (with_cell rows q i v) p [] ≡ (if is_memory (bound q) m then slice_set cells i v else cells)
  store_here rows cells q i v there same =
      ⊎_elim
      (λ (e : q ≡ p).
      let at : is_memory (bound q) m ≡ true = is_the_memory (bound q) m (ap bound e ∙ here) in
      ap (λ r. slice_index_or (with_cell rows r i v) p []) e
      ∙ get_or-set_same rows p (slice_set (slice_index_or rows p []) i v) [] there
      ∙ ap (λ l. slice_set l i v) same
      ∙ sym (ap (λ (b : Bool). if b then slice_set cells i v else cells) at))
      (λ (d : q ≡ p → ⊥).
      let at : is_memory (bound q) m ≡ false = not_the_memory (bound q) m (λ b. d (once q b)) in
      get_or-set_other rows q p (slice_set (slice_index_or rows q []) i v) [] (λ e. d (sym e))
      ∙ same
      ∙ sym (ap (λ (b : Bool). if b then slice_set cells i v else cells) at))
      (cases_eq q p)

  held_cells : (ts : List Tick) (rows : List (List ℕ)) (cells : List ℕ) → p < length rows → slice_index_or rows p [] ≡ cells → slice_index_or (cells_after ts rows) p [] ≡ after_stores bound m cells ts
  held_cells [] rows cells there same = same
  held_cells (Did Local ∷ ts) rows cells there same = held_cells ts rows cells there same
  held_cells (Did (Put s t) ∷ ts) rows cells there same = held_cells ts rows cells there same
  held_cells (Did (Load a b) ∷ ts) rows cells there same = held_cells ts rows cells there same
  held_cells (Did (Store q i v) ∷ ts) rows cells there same =
      let l = length-set rows q (slice_set (slice_index_or rows q []) i v) in
      held_cells ts (with_cell rows q i v) (stored bound m cells (Did (Store q i v))) (omega arith) (store_here rows cells q i v there same)
  held_cells (Take s t ∷ ts) rows cells there same = held_cells ts rows cells there same
  held_cells (See s t ∷ ts) rows cells there same = held_cells ts rows cells there same
  held_cells (End ∷ ts) rows cells there same = held_cells ts rows cells there same

-- the first cells of an instance's memories
first_rows : (program : Program) (scalars : List ℕ) (memories : List (List ℕ)) (i : ℕ) (x : Instance) (leaf : Leaf) → slice_get program.instances.items i ≡ Some x → slice_get program.bodies.items x.body ≡ Some leaf → (first_state program scalars memories i).cells ≡ map (λ m. slice_index_or memories m []) x.memories.items
first_rows program scalars memories i x leaf at body =
    ap (λ o. (instance_state program scalars memories o).cells) at
    ∙ ap (λ o. (leaf_state (kinds_in program) scalars memories x o).cells) body

is_inside : (program : Program) (scalars : List ℕ) (memories : List (List ℕ)) (i : ℕ) → i < length program.instances.items → i < (network_of program scalars memories).size
unfolding network_of
is_inside program scalars memories i l = l

pub hold_cells : (program : Program) → IsWellFormed program → (scalars : List ℕ) (memories : List (List ℕ)) (clock : Clock) (parts : ℕ → Part) (S : Streams) (h : ℕ → History) → IsClocked (network_of program scalars memories) clock parts S h → (m p : ℕ) (o : Memory) (x : Instance) → slice_get program.memories.items m ≡ Some o → slice_get program.instances.items o.owner ≡ Some x → slice_get x.memories.items p ≡ Some m → (parts o.owner).first.cells ≡ (first_state program scalars memories o.owner).cells → (n : ℕ) → slice_index_or ((h o.owner).holds (suc n)).cells p [] ≡ cells_at program scalars memories (count_at (network_of program scalars memories) clock (suc n)) m
hold_cells program w scalars memories clock parts S h ok m p o x at_m at_x at_p first n =
    let i = o.owner in
    let leaf = w.instances i x at_x in
    let k = count_at (network_of program scalars memories) clock (suc n) in
    let made = ticks_made (network_of program scalars memories) k i in
    let step = (in_step (network_of program scalars memories) clock parts S h ok n).1 i (is_inside program scalars memories i (slice_get_within program.instances.items i x at_x)) in
    let rows : (parts i).first.cells ≡ map (λ q. slice_index_or memories q []) x.memories.items = first ∙ first_rows program scalars memories i x leaf.0 at_x leaf.1.body in
    let at_row : slice_get (parts i).first.cells p ≡ Some (slice_index_or memories m []) =
    ap (λ l. slice_get l p) rows ∙ slice_get-map (λ q. slice_index_or memories q []) x.memories.items p ∙ ap (option_map (λ q. slice_index_or memories q [])) at_p in
    let here : memory_at (slice_get program.instances.items i) p ≡ Some m = ap (λ (y : Option Instance). memory_at y p) at_x ∙ at_p in
    let once : (q : ℕ) → memory_at (slice_get program.instances.items i) q ≡ Some m → q ≡ p = λ q e. leaf.1.memories_once q p m (sym (ap (λ (y : Option Instance). memory_at y q) at_x) ∙ e) at_p in
    ap (λ l. slice_index_or l p []) step.cells
    ∙ held_cells (memory_at (slice_get program.instances.items i)) m p here once made (parts i).first.cells (slice_index_or memories m [])
    (slice_get_within (parts i).first.cells p (slice_index_or memories m []) at_row)
    (get_or_from_slice_get (parts i).first.cells p (slice_index_or memories m []) [] at_row)
    ∙ ap (λ j. after_stores (memory_at (slice_get program.instances.items j)) m (slice_index_or memories m []) (ticks_made (network_of program scalars memories) k j)) (sym (ap owner_of at_m))
