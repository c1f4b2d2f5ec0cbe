-- The cells of a memory at a count are values of its kind.
use Rattle.std.proofs.Common.{◌≡◌, ℕ, ◌<◌, List, [], ◌∷◌, Bool, true, false, Option, Some, None, refl, sym, ap, ◌∙◌, subst, arith}
use Rattle.std.specs.Prelude.{All, if◌then◌else◌, slice_get, slice_set, slice_index_or}
use Rattle.std.proofs.lemmas.Bool.Decides.{nat_tests}
use Rattle.std.proofs.lemmas.List.Elements.{All-head, All-tail, All-set}
use Rattle.tapa_base.specs.declared.kind.Kind.{Kind}
use Rattle.tapa_base.specs.declared.kind.Kind.TheVariants.{U64}
use Rattle.tapa_base.specs.Kinds.{values_of}
use Rattle.tapa_syntax.specs.declared.program.Instance.{Instance}
use Rattle.tapa_syntax.specs.declared.program.Memory.{Memory}
use Rattle.tapa_syntax.specs.declared.program.Program.{Program}
use Rattle.tapa_syntax.specs.WellFormed.{IsWellFormed}
use Rattle.kahn_model.specs.Behavior.{Local, Put, Load, Store, Tick, Did, Take, See, End}
use Rattle.kahn_model.specs.Counts.{ticks_made}
use Rattle.kahn_model.specs.Start.{network_of}
use Rattle.kahn_model.specs.Cells.{is_memory, stored, after_stores, memory_at, owner_of, cells_at}
use Rattle.kahn_model.specs.Fits.{TickFits, stream_kind, memory_kind, kind_in_leaf, leaf_of, FitsInput}
use Rattle.kahn_model.proofs.FitsNetwork.{made_fits, network_keeps}
use Rattle.kahn_model.proofs.WellFormed.{get_there}

-- a store in memory m is one of a value below b
abbrev Within : (ℕ → Option ℕ) → ℕ → (ℕ → Kind) → ℕ → Type 0
Within bound m M b = (p : ℕ) → is_memory (bound p) m ≡ true → values_of (M p) ≡ b

if_stored : (P : ℕ → Type 0) (t : Bool) (i v : ℕ) (cells : List ℕ) → (t ≡ true → P v) → All P cells → All P (if t then slice_set cells i v else cells)
if_stored P true i v cells f h = All-set P cells i v (f refl) h
if_stored P false i v cells f h = h

stored_fits : (bound : ℕ → Option ℕ) (m : ℕ) (S M : ℕ → Kind) (b : ℕ) → Within bound m M b → (t : Tick) → TickFits S M t → (cells : List ℕ) → All (λ v. v < b) cells → All (λ v. v < b) (stored bound m cells t)
stored_fits bound m S M b w (Did Local) g cells h = h
stored_fits bound m S M b w (Did (Put s t)) g cells h = h
stored_fits bound m S M b w (Did (Load p i)) g cells h = h
stored_fits bound m S M b w (Did (Store p i v)) g cells h = if_stored (λ v. v < b) (is_memory (bound p) m) i v cells (λ e. subst (λ q. v < q) (w p e) g.1) h
stored_fits bound m S M b w (Take s t) g cells h = h
stored_fits bound m S M b w (See s t) g cells h = h
stored_fits bound m S M b w End g cells h = h

stores_fit : (bound : ℕ → Option ℕ) (m : ℕ) (S M : ℕ → Kind) (b : ℕ) → Within bound m M b → (ts : List Tick) → All (TickFits S M) ts → (cells : List ℕ) → All (λ v. v < b) cells → All (λ v. v < b) (after_stores bound m cells ts)
stores_fit bound m S M b w [] g cells h = h
stores_fit bound m S M b w (t ∷ ts) g cells h =
    stores_fit bound m S M b w ts (All-tail (TickFits S M) t ts g) (stored bound m cells t) (stored_fits bound m S M b w t (All-head (TickFits S M) t ts g) cells h)

pub is_same : (o : Option ℕ) (m : ℕ) → is_memory o m ≡ true → o ≡ Some m
is_same None m e = absurd (cc)
is_same (Some r) m e = let same : r ≡ m = grind (arith, nat_tests) in ap Some same

same_memory : (a b : Memory) (o : Option Memory) → o ≡ Some a → o ≡ Some b → a ≡ b
same_memory a b o e f = cc

-- the kind of what the owner stores in memory m
owner_within : (program : Program) → IsWellFormed program → (m : ℕ) (c : Memory) → slice_get program.memories.items m ≡ Some c → (o : Option Instance) (i : ℕ) → slice_get program.instances.items i ≡ o → Within (memory_at o) m (kind_in_leaf (leaf_of program o)) (values_of c.kind)
owner_within program w m c ec None i e = λ p t. absurd (cc)
owner_within program w m c ec (Some x) i e = λ p t.
    let (leaf, h) = w.instances i x e in
    let at : slice_get x.memories.items p ≡ Some m = is_same (slice_get x.memories.items p) m t in
    let k = kind_in_leaf (Some leaf) p in
    let there : slice_get leaf.memories.items p ≡ Some k = get_there leaf.memories.items x.memories.items p m (sym h.memories_len) at U64 in
    let is = h.memories p m k at there in
    ap (λ l. values_of (kind_in_leaf l p)) h.body ∙ sym (ap values_of is.kind) ∙ ap (λ (d : Memory). values_of d.kind) (same_memory is.memory c _ is.is ec)

pub cells_fit : (program : Program) → IsWellFormed program → (scalars : List ℕ) (memories : List (List ℕ)) → FitsInput program scalars memories → (k : ℕ → ℕ) (m : ℕ) (c : Memory) → slice_get program.memories.items m ≡ Some c → All (λ v. v < values_of c.kind) (cells_at program scalars memories k m)
cells_fit program w scalars memories fits k m c e =
    let i = owner_of (slice_get program.memories.items m) in
    let net = network_of program scalars memories in
    stores_fit (memory_at (slice_get program.instances.items i)) m (stream_kind program) (memory_kind program i) (values_of c.kind)
    (owner_within program w m c e (slice_get program.instances.items i) i refl)
    (ticks_made net k i) (made_fits (stream_kind program) (memory_kind program) net (network_keeps program w scalars memories fits) k i)
    (slice_index_or memories m []) (fits.cells_fit m c e)
