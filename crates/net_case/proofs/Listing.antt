-- Who is not listed after some are.
use Rattle.std.proofs.Common.{◌≡◌, ℕ, ◌+◌, ◌<◌, List, length, Bool, true, false, Some, sym, ap, ◌∙◌, subst, ⊎_elim, arith}
use Rattle.std.specs.Prelude.{slice_get, slice_set}
use Rattle.std.proofs.lemmas.Bool.{cases_eq}
use Rattle.std.proofs.lemmas.List.{length-set}
use Rattle.tapa_syntax.specs.declared.program.Program.{Program}
use Rattle.net_core.specs.Bindings.{stream_at, producer_of, consumer_of}
use Rattle.net_core.proofs.Moves.{get_set_same, get_set_other}

pub unlisted : (xs : List Bool) (i x : ℕ) → i < length xs → slice_get (slice_set xs i true) x ≡ Some false → (slice_get xs x ≡ Some false) × (x ≡ i → ⊥)
unlisted xs i x l e =
    ⊎_elim
    (λ (q : x ≡ i). let g = sym (get_set_same xs i true l) ∙ subst (λ n. slice_get (slice_set xs i true) n ≡ Some false) q e in absurd (cc))
    (λ (d : x ≡ i → ⊥). (sym (get_set_other xs i x true (λ q. d (sym q))) ∙ e, d))
    (cases_eq x i)

-- the instances that are listed with instance i, up to its port p
pub record AreFar (program : Program) (i p : ℕ) (old now : List Bool) : Type 0 where
  pub len : length now ≡ length old
  pub kept : (x : ℕ) → slice_get now x ≡ Some false → slice_get old x ≡ Some false
  pub other : (x : ℕ) → slice_get now x ≡ Some false → x ≡ i → ⊥
  pub no_producer : (x q : ℕ) → slice_get now x ≡ Some false → q < p → producer_of program (stream_at program i q) ≡ x → ⊥
  pub no_consumer : (x q : ℕ) → slice_get now x ≡ Some false → q < p → consumer_of program (stream_at program i q) ≡ x → ⊥

pub far_first : (program : Program) (i : ℕ) (old : List Bool) → i < length old → AreFar program i 0 old (slice_set old i true)
far_first program i old l = record {
  len = length-set old i true;
  kept = λ x e. (unlisted old i x l e).0;
  other = λ x e. (unlisted old i x l e).1;
  no_producer = λ x q e n g. omega arith;
  no_consumer = λ x q e n g. omega arith;
}

pub far_more : (program : Program) (i p : ℕ) (old now : List Bool) (s a b : ℕ) → s ≡ stream_at program i p → a ≡ producer_of program s → b ≡ consumer_of program s → a < length now → b < length now → AreFar program i p old now → AreFar program i (p + 1) old (slice_set (slice_set now a true) b true)
far_more program i p old now s a b es ea eb la lb h = record {
  len = length-set (slice_set now a true) b true ∙ length-set now a true ∙ h.len;
  kept = λ x e. h.kept x (first x e).0;
  other = λ x e. h.other x (first x e).0;
  no_producer = λ x q e l g.
      ⊎_elim
      (λ (z : q ≡ p). (first x e).1 (sym g ∙ ap (λ n. producer_of program (stream_at program i n)) z ∙ ap (producer_of program) (sym es) ∙ sym ea))
      (λ (d : q ≡ p → ⊥). h.no_producer x q (first x e).0 (omega arith) g)
      (cases_eq q p);
  no_consumer = λ x q e l g.
      ⊎_elim
      (λ (z : q ≡ p). (second x e).1 (sym g ∙ ap (λ n. consumer_of program (stream_at program i n)) z ∙ ap (consumer_of program) (sym es) ∙ sym eb))
      (λ (d : q ≡ p → ⊥). h.no_consumer x q (first x e).0 (omega arith) g)
      (cases_eq q p);
}
  where
    second : (x : ℕ) → slice_get (slice_set (slice_set now a true) b true) x ≡ Some false → (slice_get (slice_set now a true) x ≡ Some false) × (x ≡ b → ⊥)
    second x e = unlisted (slice_set now a true) b x (let l = length-set now a true in omega arith) e

    first : (x : ℕ) → slice_get (slice_set (slice_set now a true) b true) x ≡ Some false → (slice_get now x ≡ Some false) × (x ≡ a → ⊥)
    first x e = unlisted now a x la (second x e).0
