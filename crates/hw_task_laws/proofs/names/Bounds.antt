-- How many parts a task's module has, where its elements can be counted.
use Rattle.std.proofs.Common.{◌≡◌, ℕ, zero, suc, ◌+◌, ◌^◌, ◌<◌, ◌≤◌, Bool, true, false, List, [], ◌∷◌, ◌++◌, length, Option, Some, None, inl, inr, subst, arith, length-append, ⊎_elim}
use Rattle.std.specs.Prelude.{◌⊎◌, slice_get}
use Rattle.std.proofs.lemmas.Bool.{cases_eq}
use Rattle.tapa_base.specs.Kinds.{bits_of}
use Rattle.vlog_tree.specs.declared.tree.Atom.TheVariants.{Literal}
use Rattle.vlog_tree.specs.declared.tree.BinaryOp.TheVariants.{And, Less}
use Rattle.vlog_tree.specs.declared.tree.Value.TheVariants.{Binary}
use Rattle.hw_build.specs.Elements.{Element, Input, Wire, Register}
use Rattle.hw_build.specs.Scope.{each}
use Rattle.hw_lines.specs.declared.nets.Choice.TheVariants.{Reads}
use Rattle.hw_lines.specs.declared.nets.Net.TheVariants.{State, Ended, Has, Dout, Rdy, At, ReadInside, ReadOn}
use Rattle.hw_lines.specs.Nets.{name}
use Rattle.hw_lines.specs.Shape.{Shape, stream_kind, array_cells, state_count, state_bits}
use Rattle.hw_lines.specs.Wires.{ArrayRead}
use Rattle.hw_lines.specs.States.{net, reads_at, state_wires, decoded}
use Rattle.hw_lines.specs.Effects.{entries}
use Rattle.hw_lines.specs.Texts.{by_end, scalar_port, writes, stream_inputs, memory_inputs, inputs, variable, array, held, offered, read_index, asked_of, asked, answered, unless_none, reads_of, most, read_numbers, choices, outputs, blocks}
use Rattle.hw_task_laws.specs.names.Countable.{IsCountable}
use Rattle.tapa_base.proofs.Got.{some_at as got_some}

-- the numbers of parts are below 2 ^ 64
pub record IsBounded (S : Shape) : Type 0 where
  pub scalars : length S.scalars ≤ 2 ^ 64
  pub streams : length S.streams ≤ 2 ^ 64
  pub memories : length S.memories ≤ 2 ^ 64
  pub registers : length S.registers ≤ 2 ^ 64
  pub arrays : length S.arrays ≤ 2 ^ 64
  pub states : state_count S ≤ 2 ^ 64
  pub reads : read_numbers S ≤ 2 ^ 64

pub each_many : (f : ℕ → List Element) (n : ℕ) → ((k : ℕ) → k < n → 1 ≤ length (f k)) → n ≤ length (each f n)
each_many f zero h = omega arith
each_many f (suc n) h =
    let e = length-append (each f n) (f n) in
    let r = each_many f n (λ k l. h k (omega arith)) in
    let s = h n (omega arith) in
    omega (arith, e, r, s)

each_has_one : (f : ℕ → List Element) (n k : ℕ) → k < n → 1 ≤ length (f k) → 1 ≤ length (each f n)
each_has_one f zero k l h = absurd (omega arith)
each_has_one f (suc n) k l h =
    let e = length-append (each f n) (f n) in
    ⊎_elim
    (λ s. let t : 1 ≤ length (f n) = subst (λ j. 1 ≤ length (f j)) s h in omega (arith, e, t))
    (λ s. let t = each_has_one f n k (omega (arith, l, s)) h in omega (arith, e, t))
    (cases_eq k n)

-- a number below the most is below some
pub most_at : (f : ℕ → ℕ) (n p : ℕ) → p < most f n → (k : ℕ) × (k < n) × (p < f k)
most_at f zero p h = absurd (omega arith)
most_at f (suc n) p h = ⊎_elim (λ l. (n, omega arith, l)) (λ l. let r = most_at f n p (omega (arith, h, l)) in (r.0, (let b : r.0 < n = r.1 in omega (arith, b)), r.2)) (below p (f n)) where
  below : (a b : ℕ) → (a < b) ⊎ (b ≤ a)
  below a zero = inr (omega arith)
  below zero (suc b) = inl (omega arith)
  below (suc a) (suc b) = ⊎_elim (λ l. inl (omega (arith, l))) (λ l. inr (omega (arith, l))) (below a b)

some_stream : (S : Shape) (s : ℕ) (b : Bool) → 1 ≤ length (by_end (Input 1 (name (Rdy s)) ∷ []) (Input 1 (name (Has s)) ∷ Input (bits_of (stream_kind S s) + 1) (name (Dout s)) ∷ []) b)
some_stream S s true = omega arith
some_stream S s false = omega arith

right_long : (xs ys : List Element) → 1 ≤ length ys → 1 ≤ length (xs ++ ys)
right_long xs ys h = let e = length-append xs ys in omega (arith, e, h)

left_long : (xs ys : List Element) → 1 ≤ length xs → 1 ≤ length (xs ++ ys)
left_long xs ys h = let e = length-append xs ys in omega (arith, e, h)

pub left_short : (xs ys : List Element) → length (xs ++ ys) ≤ 2 ^ 64 → length xs ≤ 2 ^ 64
left_short xs ys h = let e = length-append xs ys in omega (arith, e, h)

pub right_short : (xs ys : List Element) → length (xs ++ ys) ≤ 2 ^ 64 → length ys ≤ 2 ^ 64
right_short xs ys h = let e = length-append xs ys in omega (arith, e, h)

few_parts : (f : ℕ → List Element) (n : ℕ) → ((k : ℕ) → k < n → 1 ≤ length (f k)) → length (each f n) ≤ 2 ^ 64 → n ≤ 2 ^ 64
few_parts f n h s = let e = each_many f n h in omega (arith, e, s)

-- the wires behind those of a read's index
abbrev pub asked_end : Shape → ℕ → ℕ → ArrayRead → List Element
asked_end S p k r =
    Wire 1 (name (ReadInside k p)) (Binary (read_index p k r).atom Less (Literal 64 (array_cells S r.array))) ∷ Wire 1 (name (ReadOn k p)) (Binary (net (At k)) And (net (ReadInside k p))) ∷ []

abbrev held_first : Shape → List Element
held_first S = Register (state_bits S) (name State) ∷ Register 1 (name Ended) ∷ []

module _ (S : Shape) where
  some_asked : (p k : ℕ) (o : Option ArrayRead) (r : ArrayRead) → o ≡ Some r → 1 ≤ length (asked_of S p k o)
  some_asked p k None r e = absurd cc
  some_asked p k (Some q) r e = right_long (read_index p k q).elements (asked_end S p k q) (omega arith)

  some_reads : (p : ℕ) → p < read_numbers S → 1 ≤ length (reads_of S p)
  some_reads p h =
      let t = most_at (λ k. length (reads_at S k)) (state_count S) p h in
      let g = got_some (reads_at S t.0) p t.2 in
      left_long (each (asked S p) (state_count S)) (each (λ a. unless_none (entries S (Reads p a)) (answered S p a)) (length S.arrays))
      (each_has_one (asked S p) (state_count S) t.0 t.1 (some_asked p t.0 (slice_get (reads_at S t.0) p) g.0 g.1))

  abbrev before_3 : List Element
  before_3 = inputs S ++ held S ++ each (decoded S) (state_count S)

  abbrev before_5 : List Element
  before_5 = before_3 ++ each (offered S) (length S.streams) ++ each (reads_of S) (read_numbers S)

  abbrev before_7 : List Element
  before_7 = before_5 ++ each (state_wires S) (state_count S) ++ choices S

  pub bounds : IsCountable S → IsBounded S
  bounds c =
      let h7 = left_short before_7 (outputs S) (left_short (before_7 ++ outputs S) (blocks S) c.elements) in
      let h5 = left_short before_5 (each (state_wires S) (state_count S)) (left_short (before_5 ++ each (state_wires S) (state_count S)) (choices S) h7) in
      let reads = right_short (before_3 ++ each (offered S) (length S.streams)) (each (reads_of S) (read_numbers S)) h5 in
      let h3 = left_short before_3 (each (offered S) (length S.streams)) (left_short (before_3 ++ each (offered S) (length S.streams)) (each (reads_of S) (read_numbers S)) h5) in
      let decodes = right_short (inputs S ++ held S) (each (decoded S) (state_count S)) h3 in
      let h2 = left_short (inputs S ++ held S) (each (decoded S) (state_count S)) h3 in
      let ports = left_short (inputs S) (held S) h2 in
      let kept = right_short (inputs S) (held S) h2 in
      let scalar_ports = each (scalar_port S) (length S.scalars) in
      let stream_ports = each (stream_inputs S) (length S.streams) in
      let memory_ports = each (memory_inputs S) (length S.memories) in
      let two = left_short (scalar_ports ++ stream_ports) memory_ports ports in
      let variables = each (variable S) (length S.registers) in
      let lasts = each (array S) (length S.arrays) in
      let rest = right_short (held_first S) (variables ++ lasts) kept in
      record {
        scalars = few_parts (scalar_port S) (length S.scalars) (λ k l. omega arith) (left_short scalar_ports stream_ports two);
        streams = few_parts (stream_inputs S) (length S.streams) (λ k l. some_stream S k (writes S k)) (right_short scalar_ports stream_ports two);
        memories = few_parts (memory_inputs S) (length S.memories) (λ k l. omega arith) (right_short (scalar_ports ++ stream_ports) memory_ports ports);
        registers = few_parts (variable S) (length S.registers) (λ k l. omega arith) (left_short variables lasts rest);
        arrays = few_parts (array S) (length S.arrays) (λ k l. omega arith) (right_short variables lasts rest);
        states = few_parts (decoded S) (state_count S) (λ k l. omega arith) decodes;
        reads = few_parts (reads_of S) (read_numbers S) some_reads reads;
      }
