-- What is taken over from an instance that comes back.
use Rattle.std.specs.Prelude.{◌≡◌, ℕ, ◌<◌}
use Rattle.tapa_syntax.specs.declared.program.Program.{Program}
use Rattle.net_core.specs.Bindings.{stream_at, arity, producer_of, consumer_of}

-- instance x is neither i nor at another end of a stream of instance i
pub record IsFar (program : Program) (i x : ℕ) : Type 0 where
  pub other : x ≡ i → ⊥
  pub no_producer : (p : ℕ) → p < arity program i → producer_of program (stream_at program i p) ≡ x → ⊥
  pub no_consumer : (p : ℕ) → p < arity program i → consumer_of program (stream_at program i p) ≡ x → ⊥
