-- The cells of a memory after the ticks of its instance.
use Rattle.std.proofs.Common.{◌≡◌, ℕ, ◌<◌, List, [], ◌∷◌, length, map, get_or, Bool, true, false, Option, Some, None, refl, sym, ◌∙◌, ap, subst, ⊎_elim, arith}
use Rattle.std.specs.Prelude.{◌==◌, if◌then◌else◌, ◌≤◌, slice_get, slice_set, slice_index_or, option_map}
use Rattle.std.proofs.lemmas.Bool.{cases_eq}
use Rattle.std.proofs.lemmas.Bool.Decides.{nat_tests}
use Rattle.std.proofs.lemmas.List.{get_or-set_same, get_or-set_other, length-set}
use Rattle.std.proofs.lemmas.Option.{slice_get_past, slice_get_read, slice_get_within, slice_get-map, get_or_from_slice_get}
use Rattle.tapa_syntax.specs.declared.program.Instance.{Instance}
use Rattle.kahn_model.specs.declared.tick.Action.TheVariants.{Local, Put, Load, Store}
use Rattle.kahn_model.specs.declared.tick.Tick.{Tick}
use Rattle.kahn_model.specs.declared.tick.Tick.TheVariants.{Did, Take, See, End}
use Rattle.tapa_syntax.specs.declared.program.Memory.{Memory}
use Rattle.tapa_syntax.specs.declared.program.Program.{Program}
use Rattle.kahn_model.specs.Cells.{is_memory, stored, after_stores, memory_at, owner_of, cells_at}
use Rattle.kahn_model.specs.Counts.{ticks_made}
use Rattle.kahn_model.specs.ProgramNetwork.{is_detached}
use Rattle.kahn_model.specs.Start.{network_of}
use Rattle.kahn_model.specs.Trace.{with_cell}
use Rattle.task_fsm.specs.Run.{cells_after}
use Rattle.net_core.specs.declared.net_state.NetState.{NetState}
use Rattle.net_core.specs.Bindings.{detached_at, stream_at, Reads, Writes}
use Rattle.net_core.specs.Bounded.{scalars_of, memories_of, network_on, instance_job, count_of, IsBodyAt}
use Rattle.net_core.specs.Job.{Job}
use Rattle.net_core.specs.Placement.{tick_at}
use Rattle.net_core.specs.State.{IsValid}
use Rattle.net_core.proofs.Connected.{program_is}
use Rattle.net_core.proofs.Stepped.{made_is_map}
use Rattle.coro_machine.specs.declared.coro.Coro.{Coro}
use Rattle.coro_machine.specs.Coro.{IsCoroOf}
use Rattle.run_program.proofs.Starting.{job_is}
use Rattle.run_program.specs.Run.{IsNotBound}

same_number : (m r : ℕ) → r ≡ m → (r == m) ≡ true
same_number m r e = grind (arith, nat_tests)

other_number : (m r : ℕ) → (r ≡ m → ⊥) → (r == m) ≡ false
other_number m r d = grind (arith, nat_tests)

is_the_memory : (o : Option ℕ) (m : ℕ) → o ≡ Some m → is_memory o m ≡ true
is_the_memory None m e = absurd cc
is_the_memory (Some r) m e = same_number m r cc

pub not_the_memory : (o : Option ℕ) (m : ℕ) → (o ≡ Some m → ⊥) → is_memory o m ≡ false
not_the_memory None m d = refl
not_the_memory (Some r) m d = other_number m r (λ e. d (ap Some e))

module _ (bound : ℕ → Option ℕ) (m : ℕ) where
  -- a store elsewhere changes none of the cells
  stored_else : (cells : List ℕ) (p i v : ℕ) → (bound p ≡ Some m → ⊥) → stored bound m cells (Did (Store p i v)) ≡ cells
  stored_else cells p i v d = ap (λ (b : Bool). if b then slice_set cells i v else cells) (not_the_memory (bound p) m d)

  stored_here : (cells : List ℕ) (p i v : ℕ) → bound p ≡ Some m → stored bound m cells (Did (Store p i v)) ≡ slice_set cells i v
  stored_here cells p i v e = ap (λ (b : Bool). if b then slice_set cells i v else cells) (is_the_memory (bound p) m e)

  -- a memory that is bound nowhere keeps its first cells
  pub unbound : (cells : List ℕ) (ts : List Tick) → ((p : ℕ) → bound p ≡ Some m → ⊥) → after_stores bound m cells ts ≡ cells
  unbound cells [] none = refl
  unbound cells (Did Local ∷ ts) none = unbound cells ts none
  unbound cells (Did (Put s t) ∷ ts) none = unbound cells ts none
  unbound cells (Did (Load a b) ∷ ts) none = unbound cells ts none
  unbound cells (Did (Store p i v) ∷ ts) none = ap (λ (l : List ℕ). after_stores bound m l ts) (stored_else cells p i v (none p)) ∙ unbound cells ts none
  unbound cells (Take s t ∷ ts) none = unbound cells ts none
  unbound cells (See s t ∷ ts) none = unbound cells ts none
  unbound cells (End ∷ ts) none = unbound cells ts none

  module _ (f : ℕ → ℕ) (p : ℕ) (here : bound p ≡ Some m) (once : (q : ℕ) → bound q ≡ Some m → q ≡ p) where
    within : (rows : List (List ℕ)) (q i v : ℕ) → p < length rows → p < length (with_cell rows q i v)
    within rows q i v h = let l = length-set rows q (slice_set (slice_index_or rows q []) i v) in omega arith

    -- one that is bound at a position has the cells that the instance holds there
    pub held_cells : (ts : List Tick) (rows : List (List ℕ)) (cells : List ℕ) → p < length rows → slice_index_or rows p [] ≡ cells → slice_index_or (cells_after ts rows) p [] ≡ after_stores bound m cells (map (tick_at f) ts)
    held_cells [] rows cells there same = same
    held_cells (Did Local ∷ ts) rows cells there same = held_cells ts rows cells there same
    held_cells (Did (Put s t) ∷ ts) rows cells there same = held_cells ts rows cells there same
    held_cells (Did (Load a b) ∷ ts) rows cells there same = held_cells ts rows cells there same
    held_cells (Did (Store q i v) ∷ ts) rows cells there same =
        ⊎_elim
        (λ (e : q ≡ p).
        let new : slice_index_or (with_cell rows q i v) p [] ≡ slice_set cells i v =
        subst (λ (r : ℕ). slice_index_or (with_cell rows r i v) p [] ≡ slice_set cells i v) (sym e) (get_or-set_same rows p (slice_set (slice_index_or rows p []) i v) [] there ∙ ap (λ (l : List ℕ). slice_set l i v) same) in
        held_cells ts (with_cell rows q i v) (slice_set cells i v) (within rows q i v there) new
        ∙ ap (λ (l : List ℕ). after_stores bound m l (map (tick_at f) ts)) (sym (stored_here cells q i v (subst (λ (r : ℕ). bound r ≡ Some m) (sym e) here))))
        (λ (d : q ≡ p → ⊥).
        held_cells ts (with_cell rows q i v) cells (within rows q i v there) (get_or-set_other rows q p (slice_set (slice_index_or rows q []) i v) [] (λ e. d (sym e)) ∙ same)
        ∙ ap (λ (l : List ℕ). after_stores bound m l (map (tick_at f) ts)) (sym (stored_else cells q i v (λ b. d (once q b)))))
        (cases_eq q p)
    held_cells (Take s t ∷ ts) rows cells there same = held_cells ts rows cells there same
    held_cells (See s t ∷ ts) rows cells there same = held_cells ts rows cells there same
    held_cells (End ∷ ts) rows cells there same = held_cells ts rows cells there same

-- the memories of an instance
pub no_instance : (o : Option Instance) (m : ℕ) → o ≡ None → (p : ℕ) → memory_at o p ≡ Some m → ⊥
no_instance None m e p h = cc
no_instance (Some x) m e p h = absurd cc

pub not_among : (o : Option Instance) (x : Instance) (m : ℕ) → o ≡ Some x → IsNotBound x.memories.items m → (p : ℕ) → memory_at o p ≡ Some m → ⊥
not_among None x m e none p h = cc
not_among (Some y) x m e none p h = let same : y ≡ x = cc in none p (subst (λ (z : Instance). slice_get z.memories.items p ≡ Some m) same h)

-- the cells of memory m, by the instance that it is bound to
module _ (program : Program) (scalars : List ℕ) (memories : List (List ℕ)) (k : ℕ → ℕ) (m : ℕ) (o : Memory) (at : slice_get program.memories.items m ≡ Some o) where
  abbrev first : List ℕ
  first = slice_index_or memories m []

  -- the cells by the number of the instance
  abbrev by_owner : ℕ → List ℕ
  by_owner i = after_stores (memory_at (slice_get program.instances.items i)) m first (ticks_made (network_of program scalars memories) k i)

  pub owned : by_owner o.owner ≡ cells_at program scalars memories k m
  owned = ap by_owner (sym (ap owner_of at))

  pub absent : (xs : List Instance) → xs ≡ program.instances.items → length xs ≤ o.owner → (cells : List ℕ) → cells ≡ first → cells ≡ cells_at program scalars memories k m
  absent xs is past cells same =
      let none : slice_get program.instances.items o.owner ≡ None = slice_get_past program.instances.items o.owner (subst (λ (l : List Instance). length l ≤ o.owner) is past) in
      same ∙ sym (unbound (memory_at (slice_get program.instances.items o.owner)) m first (ticks_made (network_of program scalars memories) k o.owner) (no_instance (slice_get program.instances.items o.owner) m none)) ∙ owned

  pub instance_is : (xs : List Instance) (x : Instance) → xs ≡ program.instances.items → o.owner < length xs → x ≡ get_or xs o.owner x → slice_get program.instances.items o.owner ≡ Some x
  instance_is xs x is inside there = subst (λ (l : List Instance). slice_get l o.owner ≡ Some x) is (slice_get_read xs (length xs) o.owner x refl inside there)

  pub unlisted : (x : Instance) → slice_get program.instances.items o.owner ≡ Some x → IsNotBound x.memories.items m → (cells : List ℕ) → cells ≡ first → cells ≡ cells_at program scalars memories k m
  unlisted x there none cells same =
      same ∙ sym (unbound (memory_at (slice_get program.instances.items o.owner)) m first (ticks_made (network_of program scalars memories) k o.owner) (not_among (slice_get program.instances.items o.owner) x m there none)) ∙ owned

-- whether the instance is detached
pub owner_absent : (program : Program) (m : ℕ) (o : Memory) → slice_get program.memories.items m ≡ Some o → (xs : List Instance) → xs ≡ program.instances.items → length xs ≤ o.owner → false ≡ detached_at program (owner_of (slice_get program.memories.items m))
owner_absent program m o at xs is past =
    sym
    (ap (λ (x : Option Memory). is_detached (slice_get program.instances.items (owner_of x))) at
    ∙ ap is_detached (slice_get_past program.instances.items o.owner (subst (λ (l : List Instance). length l ≤ o.owner) is past)))

pub owner_there : (program : Program) (m : ℕ) (o : Memory) → slice_get program.memories.items m ≡ Some o → (x : Instance) → slice_get program.instances.items o.owner ≡ Some x → x.detached ≡ detached_at program (owner_of (slice_get program.memories.items m))
owner_there program m o at x there = sym (ap (λ (y : Option Memory). is_detached (slice_get program.instances.items (owner_of y))) at ∙ ap is_detached there)

-- what a coroutine holds at the position at which the memory is bound
pub listed : (net : NetState) → IsValid net → (m p : ℕ) (o : Memory) (x : Instance) (c : Coro) (cells : List ℕ) → slice_get net.program.memories.items m ≡ Some o → slice_get net.program.instances.items o.owner ≡ Some x → slice_get x.memories.items p ≡ Some m → IsBodyAt (IsCoroOf c) net.program net.input net.counts o.owner → ((job : Job) (ts : List Tick) → IsCoroOf c job ts → cells ≡ slice_index_or (cells_after ts job.cells) p []) → cells ≡ cells_at net.program (scalars_of net.input) (memories_of net.input) (count_of net.counts) m
listed net valid m p o x c cells at_m at_x at_p stands holds =
    let h = valid.well_formed.instances o.owner x at_x in
    let job = instance_job net.program net.input o.owner in
    let memories = memories_of net.input in
    let f = stream_at net.program o.owner in
    let inside = slice_get_within net.program.instances.items o.owner x at_x in
    let made =
    made_is_map (network_on net.program net.input) valid.is_network (count_of net.counts) valid.reachable o.owner job.behavior f (Reads net.program o.owner) (Writes net.program o.owner) ((program_is net.program net.input valid.well_formed).placed o.owner inside) (IsCoroOf c job) stands in
    let rows : job.cells ≡ map (λ q. slice_index_or memories q []) x.memories.items = ap (λ (j : Job). j.cells) (job_is net.program net.input valid.fits o.owner x h.0 at_x h.1) in
    let at_row : slice_get job.cells p ≡ Some (slice_index_or memories m []) =
    ap (λ (l : List (List ℕ)). slice_get l p) rows ∙ slice_get-map (λ q. slice_index_or memories q []) x.memories.items p ∙ ap (option_map (λ q. slice_index_or memories q [])) at_p in
    let row : slice_index_or job.cells p [] ≡ slice_index_or memories m [] = get_or_from_slice_get job.cells p (slice_index_or memories m []) [] at_row in
    let here : memory_at (slice_get net.program.instances.items o.owner) p ≡ Some m = ap (λ (y : Option Instance). memory_at y p) at_x ∙ at_p in
    let once : (q : ℕ) → memory_at (slice_get net.program.instances.items o.owner) q ≡ Some m → q ≡ p = λ q e. h.1.memories_once q p m (sym (ap (λ (y : Option Instance). memory_at y q) at_x) ∙ e) at_p in
    holds job stands.ticks stands.stands
    ∙ held_cells (memory_at (slice_get net.program.instances.items o.owner)) m f p here once stands.ticks job.cells (slice_index_or memories m []) (slice_get_within job.cells p (slice_index_or memories m []) at_row) row
    ∙ ap (after_stores (memory_at (slice_get net.program.instances.items o.owner)) m (slice_index_or memories m [])) (sym made)
    ∙ owned net.program (scalars_of net.input) memories (count_of net.counts) m o at_m
