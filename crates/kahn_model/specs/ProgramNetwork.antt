-- The network of a program on an input.
use Rattle.std.specs.Prelude.{◌≡◌, ℕ, List, length, Bool, true, false, Option, Some, None, slice_get, slice_index}
use Rattle.tapa_syntax.specs.declared.program.Leaf.{Leaf}
use Rattle.tapa_syntax.specs.declared.program.Instance.{Instance}
use Rattle.tapa_syntax.specs.declared.program.Stream.{Stream}
use Rattle.tapa_syntax.specs.declared.program.Program.{Program}
use Rattle.kahn_model.specs.Behavior.{Behavior, Finished}
use Rattle.kahn_model.specs.Trace.{State, job_of, at_streams}
use Rattle.tapa_syntax.specs.LeafKinds.{kinds_of, writes_of}
use Rattle.tapa_syntax.specs.StreamUse.{UsesCode}
use Rattle.kahn_model.specs.Network.{Network}

-- the stream that position p of an instance is bound to
abbrev pub stream_at : Instance → ℕ → ℕ
stream_at instance p = slice_index instance.streams.items p

-- the job of an instance of a leaf, and none where there is no such instance or leaf
abbrev pub leaf_job : Option Leaf → Instance → State → ℕ → Behavior
leaf_job None instance σ n = Finished
leaf_job (Some leaf) instance σ n = at_streams (stream_at instance) (job_of (kinds_of leaf) leaf.code.items σ n)

abbrev pub instance_job : List Leaf → Option Instance → State → ℕ → Behavior
instance_job leaves None σ n = Finished
instance_job leaves (Some instance) σ n = leaf_job (slice_get leaves instance.body) instance σ n

abbrev pub is_detached : Option Instance → Bool
is_detached None = false
is_detached (Some instance) = instance.detached

abbrev pub end_of : (Stream → ℕ) → Option Stream → ℕ
end_of f None = 0
end_of f (Some stream) = f stream

-- the network of a program, whose instances begin in these states
abbrev pub network_with : Program → (ℕ → State) → Network
network_with program first = record {
  size = length program.instances.items;
  job = λ i n. instance_job program.bodies.items (slice_get program.instances.items i) (first i) n;
  detached = λ i. is_detached (slice_get program.instances.items i);
  producer = λ s. end_of (λ (r : Stream). r.producer) (slice_get program.streams.items s);
  consumer = λ s. end_of (λ (r : Stream). r.consumer) (slice_get program.streams.items s);
  depth = λ s. end_of (λ (r : Stream). r.depth) (slice_get program.streams.items s);
}

-- an instance reads and writes its streams as they are declared, and is the one that does
pub record IsBound (producer consumer : ℕ → ℕ) (i : ℕ) (instance : Instance) (leaf : Leaf) : Type 0 where
  pub uses : UsesCode (writes_of leaf.streams.items) leaf.code.items
  pub writer : (p : ℕ) → writes_of leaf.streams.items p ≡ Some true → producer (stream_at instance p) ≡ i
  pub reader : (p : ℕ) → writes_of leaf.streams.items p ≡ Some false → consumer (stream_at instance p) ≡ i

-- what the laws ask of a program
pub record IsWired (program : Program) : Type 0 where
  pub bound :
      (first : ℕ → State) (i : ℕ) (instance : Instance) (leaf : Leaf) → slice_get program.instances.items i ≡ Some instance
      → slice_get program.bodies.items instance.body ≡ Some leaf → IsBound (network_with program first).producer (network_with program first).consumer i instance leaf
