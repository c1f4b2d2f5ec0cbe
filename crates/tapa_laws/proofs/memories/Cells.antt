-- The cells of a memory stay where no tick of its owner stores in it.
use Rattle.std.proofs.Common.{◌≡◌, ℕ, zero, suc, List, [], ◌∷◌, map, false, Option, Some, None, refl, ap, ◌∙◌}
use Rattle.std.specs.Prelude.{All, if◌then◌else◌, slice_get, slice_set, slice_index_or}
use Rattle.std.proofs.lemmas.List.Elements.{All-nil, All-cons, All-head, All-tail, All-take}
use Rattle.tapa_base.specs.declared.token.Token.{Token}
use Rattle.tapa_syntax.specs.declared.program.Instance.{Instance}
use Rattle.tapa_syntax.specs.declared.program.Leaf.{Leaf}
use Rattle.tapa_syntax.specs.declared.program.Program.{Program}
use Rattle.tapa_syntax.specs.LeafKinds.{kinds_of}
use Rattle.tapa_syntax.specs.Flat.{flat_statement}
use Rattle.kahn_model.specs.declared.tick.Action.TheVariants.{Local, Put, Load, Store}
use Rattle.kahn_model.specs.declared.tick.Tick.{Tick}
use Rattle.kahn_model.specs.declared.tick.Tick.TheVariants.{Did, Take, See, End}
use Rattle.kahn_model.specs.declared.tick.StreamOperation.{StreamOperation}
use Rattle.kahn_model.specs.declared.tick.StreamOperation.TheVariants.{Read, Peek, TestEot, Open}
use Rattle.kahn_model.specs.Behavior.{Behavior, Finished, OutOfTurns, Act, Await, Offer, NoToken, WrongToken, Answer, first_offer, tick_of, lists_after, on_offer, ticks}
use Rattle.kahn_model.specs.Network.{Network, stream, round}
use Rattle.kahn_model.specs.Counts.{round_of, ticks_made}
use Rattle.kahn_model.specs.Trace.{State, job_of}
use Rattle.kahn_model.specs.ProgramNetwork.{stream_at, leaf_job, instance_job}
use Rattle.kahn_model.specs.Start.{first_state, network_of}
use Rattle.kahn_model.specs.Cells.{is_memory, stored, after_stores, memory_at, owner_of}
use Rattle.tapa_laws.specs.memories.Stores.{CodeStoresAt, IsApart, StoresNothingIn, CellsStayWhereNothingIsStored}
use Rattle.tapa_laws.proofs.memories.Behaviors.{ActsAt, BehavesAt, job_behaves, streams_behave}
use Rattle.tapa_laws.proofs.memories.Stores.{code_wider}
use Rattle.run_program.proofs.LastCells.{not_the_memory as not_memory}

-- F holds of the position that a tick stores to
abbrev TicksAt : (ℕ → Type 0) → Tick → Type 0
TicksAt F (Did a) = ActsAt F a
TicksAt F (Take s t) = Unit {0}
TicksAt F (See s t) = Unit {0}
TicksAt F End = Unit {0}

tick_of_none : (F : ℕ → Type 0) (how : StreamOperation) (s : ℕ) (t : Token) → TicksAt F (tick_of how s t)
tick_of_none F Read s t = tt
tick_of_none F Peek s t = tt
tick_of_none F TestEot s t = tt
tick_of_none F Open s t = tt

offered : (P : Tick → Type 0) (o : Offer) (f : Token → ℕ → List Tick) → ((t : Token) (v : ℕ) → All P (f t v)) → All P (on_offer o [] [] f)
offered P NoToken f h = All-nil P
offered P WrongToken f h = All-nil P
offered P (Answer t v) f h = h t v

ticks_behave : (F : ℕ → Type 0) (a : Behavior) (ins : ℕ → List Token) → BehavesAt F a → All (TicksAt F) (ticks a ins)
ticks_behave F Finished ins g = All-cons (TicksAt F) End [] tt (All-nil (TicksAt F))
ticks_behave F OutOfTurns ins g = All-nil (TicksAt F)
ticks_behave F (Act a rest) ins (g, gs) = All-cons (TicksAt F) (Did a) (ticks rest ins) g (ticks_behave F rest ins gs)
ticks_behave F (Await s how rest) ins g =
    offered (TicksAt F) (first_offer how (ins s)) _
    (λ t v. All-cons (TicksAt F) (tick_of how s t) (ticks (rest v) (lists_after how s ins)) (tick_of_none F how s t) (ticks_behave F (rest v) (lists_after how s ins) (g v)))

round_behaves : (F : ℕ → Type 0) (net : Network) (i : ℕ) → ((n : ℕ) → BehavesAt F (net.job i n)) → (n : ℕ) → All (TicksAt F) (round net n i)
round_behaves F net i h zero = All-nil (TicksAt F)
round_behaves F net i h (suc n) = ticks_behave F _ (stream net n) (h (suc n))

made_behaves : (F : ℕ → Type 0) (net : Network) (i : ℕ) → ((n : ℕ) → BehavesAt F (net.job i n)) → (k : ℕ → ℕ) → All (TicksAt F) (ticks_made net k i)
made_behaves F net i h k = All-take (TicksAt F) (k i) _ (round_behaves F net i h (round_of net k))

-- positions that are not bound to memory m
abbrev Elsewhere : Option Instance → ℕ → ℕ → Type 0
Elsewhere o m p = is_memory (memory_at o p) m ≡ false

stored_same : (o : Option Instance) (m : ℕ) (t : Tick) → TicksAt (Elsewhere o m) t → (cells : List ℕ) → stored (memory_at o) m cells t ≡ cells
stored_same o m (Did Local) g cells = refl
stored_same o m (Did (Put s t)) g cells = refl
stored_same o m (Did (Load p i)) g cells = refl
stored_same o m (Did (Store p i v)) g cells = ap (λ b. if b then slice_set cells i v else cells) g
stored_same o m (Take s t) g cells = refl
stored_same o m (See s t) g cells = refl
stored_same o m End g cells = refl

stores_same : (o : Option Instance) (m : ℕ) (ts : List Tick) → All (TicksAt (Elsewhere o m)) ts → (cells : List ℕ) → after_stores (memory_at o) m cells ts ≡ cells
stores_same o m [] g cells = refl
stores_same o m (t ∷ ts) g cells =
    ap (λ c. after_stores (memory_at o) m c ts) (stored_same o m t (All-head (TicksAt (Elsewhere o m)) t ts g) cells)
    ∙ stores_same o m ts (All-tail (TicksAt (Elsewhere o m)) t ts g) cells

-- the job of an instance whose leaf stores elsewhere
leaf_behaves : (x : Instance) (m : ℕ) (l : Option Leaf) → ((leaf : Leaf) → l ≡ Some leaf → CodeStoresAt (Elsewhere (Some x) m) (map flat_statement leaf.code.items)) → (σ : State) (n : ℕ)
    → BehavesAt (Elsewhere (Some x) m) (leaf_job l x σ n)
leaf_behaves x m None h σ n = tt
leaf_behaves x m (Some leaf) h σ n =
    streams_behave (Elsewhere (Some x) m) (stream_at x) (job_of (kinds_of leaf) leaf.code.items σ n) (job_behaves (Elsewhere (Some x) m) (kinds_of leaf) leaf.code.items (h leaf refl) σ n)

instance_behaves : (program : Program) (m : ℕ) → StoresNothingIn program m → (i : ℕ) (o : Option Instance) → slice_get program.instances.items i ≡ o → (σ : State) (n : ℕ)
    → BehavesAt (Elsewhere o m) (instance_job program.bodies.items o σ n)
instance_behaves program m none i None e σ n = tt
instance_behaves program m none i (Some x) e σ n =
    leaf_behaves x m (slice_get program.bodies.items x.body)
    (λ leaf there. code_wider (IsApart x m) (Elsewhere (Some x) m) (λ p h. not_memory (slice_get x.memories.items p) m h) (map flat_statement leaf.code.items) (none i x leaf e there)) σ n

network_behaves : (program : Program) (m : ℕ) → StoresNothingIn program m → (scalars : List ℕ) (memories : List (List ℕ)) (i n : ℕ)
    → BehavesAt (Elsewhere (slice_get program.instances.items i) m) ((network_of program scalars memories).job i n)
unfolding network_of
network_behaves program m none scalars memories i n =
    instance_behaves program m none i (slice_get program.instances.items i) refl (first_state program scalars memories i) n

pub cells_stay : CellsStayWhereNothingIsStored
cells_stay program m none scalars memories k =
    let i = owner_of (slice_get program.memories.items m) in
    let net = network_of program scalars memories in
    stores_same (slice_get program.instances.items i) m (ticks_made net k i)
    (made_behaves (Elsewhere (slice_get program.instances.items i) m) net i (network_behaves program m none scalars memories i) k)
    (slice_index_or memories m [])
