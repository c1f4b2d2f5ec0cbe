-- What a leaf task is estimated to take of a chip: a sum over its tick places, the operators of its text, its variables,
-- its temporaries and its arrays. The rates are rules of thumb, for block RAMs of 18,432 bits.
use Rattle.std.specs.Prelude.{ℕ, ◌+◌, ◌-◌, ◌*◌, ◌/◌, ◌^◌, min, nat_le, if◌then◌else◌, List, map}
use Rattle.std.specs.List.{sum_by}
use Rattle.tapa_base.specs.declared.kind.Kind.{Kind}
use Rattle.tapa_base.specs.declared.kind.Kind.TheVariants as kind
use Rattle.tapa_base.specs.declared.op.Op.{Op}
use Rattle.tapa_base.specs.declared.op.Op.TheVariants as op
use Rattle.tapa_base.specs.Kinds.{bits_of}
use Rattle.tapa_syntax.specs.declared.program.Array.{Array}
use Rattle.tapa_syntax.specs.declared.program.Leaf.{Leaf}
use Rattle.tapa_syntax.specs.Flat.{FlatExpression, FlatStatement, FlatStatements, literal, variable, cell, read, peek, is_end, load, convert, apply, flip, negation}
use Rattle.tapa_syntax.specs.Flat.{conjunction, disjunction, choice, set, set_cell, set_cell_by, store, store_by, read_variable, read_cell, read_store, write, take_end}
use Rattle.tapa_syntax.specs.Flat.{put_end, discard, clear, branch, loop, break, continue, no_statement, statement_then, flat_statement, in_row}
use Rattle.tapa_syntax.specs.LeafKinds.{Kinds, kinds_of}
use Rattle.tapa_syntax.specs.TickPlaces.{places_of}
use Rattle.tapa_syntax.specs.Typed.{result_kind}
use Rattle.task_graph.specs.declared.Use.{Use}

-- what is counted for each thing that a text computes or keeps for later
pub record Rates : Type 0 where
  -- an operator on two operands, by the kind in which it is done
  pub operator : Op → Kind → ℕ
  -- `~`, by its kind
  pub complement : Kind → ℕ
  -- each of `!`, `&&` and `||`
  pub logical : ℕ
  -- `?:`, by the kind of what it gives
  pub conditional : Kind → ℕ
  -- the temporary of a token that was read or seen or of a cell that was loaded, by its kind
  pub temporary : Kind → ℕ
  -- the temporary of a test for the end of a transmission
  pub end_test : ℕ

-- ---- look-up tables: a bit each for what an operator gives, and for a quotient eight of them

abbrev pub operator_luts : Op → Kind → ℕ
operator_luts op.Mul k = 0
operator_luts op.Div k = 8 * bits_of k
operator_luts op.Rem k = 8 * bits_of k
operator_luts o k = bits_of k

abbrev pub lut_rates : Rates
lut_rates = record { operator = operator_luts; complement = bits_of; logical = 1; conditional = bits_of; temporary = λ k. 0; end_test = 0 }

-- ---- DSP slices: for products alone

abbrev pub product_dsps : Kind → ℕ
product_dsps kind.I32 = 3
product_dsps kind.U32 = 3
product_dsps kind.I64 = 10
product_dsps kind.U64 = 10
product_dsps k = 0

abbrev pub operator_dsps : Op → Kind → ℕ
operator_dsps op.Mul k = product_dsps k
operator_dsps o k = 0

abbrev pub dsp_rates : Rates
dsp_rates = record { operator = operator_dsps; complement = λ k. 0; logical = 0; conditional = λ k. 0; temporary = λ k. 0; end_test = 0 }

-- ---- flip-flops of temporaries

abbrev pub temporary_rates : Rates
temporary_rates = record { operator = λ o k. 0; complement = λ k. 0; logical = 0; conditional = λ k. 0; temporary = bits_of; end_test = 1 }

-- ---- the kind of an expression

abbrev pub kind_in : Kinds → FlatExpression → Kind
kind_in K (literal k n) = k
kind_in K (variable x) = K.vars x
kind_in K (cell a i) = K.arrays a
kind_in K (read s) = K.streams s
kind_in K (peek s) = K.streams s
kind_in K (is_end s) = kind.Bool
kind_in K (load m i) = K.memories m
kind_in K (convert from to e) = to
kind_in K (apply o k a b) = result_kind o k
kind_in K (flip k e) = k
kind_in K (negation e) = kind.Bool
kind_in K (conjunction a b) = kind.Bool
kind_in K (disjunction a b) = kind.Bool
kind_in K (choice c a b) = kind_in K a

-- ---- sums over a text

abbrev pub in_expression : Rates → Kinds → FlatExpression → ℕ
in_expression R K (literal k n) = 0
in_expression R K (variable x) = 0
in_expression R K (cell a i) = in_expression R K i
in_expression R K (read s) = R.temporary (K.streams s)
in_expression R K (peek s) = R.temporary (K.streams s)
in_expression R K (is_end s) = R.end_test
in_expression R K (load m i) = R.temporary (K.memories m) + in_expression R K i
in_expression R K (convert from to e) = in_expression R K e
in_expression R K (apply o k a b) = R.operator o k + in_expression R K a + in_expression R K b
in_expression R K (flip k e) = R.complement k + in_expression R K e
in_expression R K (negation e) = R.logical + in_expression R K e
in_expression R K (conjunction a b) = R.logical + in_expression R K a + in_expression R K b
in_expression R K (disjunction a b) = R.logical + in_expression R K a + in_expression R K b
in_expression R K (choice c a b) = R.conditional (kind_in K a) + in_expression R K c + in_expression R K a + in_expression R K b

-- an operation on a stream or a memory that is a statement by itself has no temporary
abbrev pub in_discarded : Rates → Kinds → FlatExpression → ℕ
in_discarded R K (read s) = 0
in_discarded R K (peek s) = 0
in_discarded R K (is_end s) = 0
in_discarded R K (load m i) = in_expression R K i
in_discarded R K e = in_expression R K e

-- the read of a `>>` has a temporary, and the load of an `op=` on a memory
abbrev mutual
  pub in_statement : Rates → Kinds → FlatStatement → ℕ
  in_statement R K (set x e) = in_expression R K e
  in_statement R K (set_cell a i e) = in_expression R K i + in_expression R K e
  in_statement R K (set_cell_by a i o k e) = R.operator o k + in_expression R K i + in_expression R K e
  in_statement R K (store m i e) = in_expression R K i + in_expression R K e
  in_statement R K (store_by m i o k e) = R.operator o k + R.temporary (K.memories m) + in_expression R K i + in_expression R K e
  in_statement R K (read_variable s x) = R.temporary (K.streams s)
  in_statement R K (read_cell s a i) = R.temporary (K.streams s) + in_expression R K i
  in_statement R K (read_store s m i) = R.temporary (K.streams s) + in_expression R K i
  in_statement R K (write s e) = in_expression R K e
  in_statement R K (take_end s) = 0
  in_statement R K (put_end s) = 0
  in_statement R K (discard e) = in_discarded R K e
  in_statement R K (clear a) = 0
  in_statement R K (branch e left right) = in_expression R K e + in_statements R K left + in_statements R K right
  in_statement R K (loop e body step) = in_expression R K e + in_statements R K body + in_statements R K step
  in_statement R K break = 0
  in_statement R K continue = 0

  pub in_statements : Rates → Kinds → FlatStatements → ℕ
  in_statements R K no_statement = 0
  in_statements R K (statement_then s rest) = in_statement R K s + in_statements R K rest

abbrev pub in_code : Rates → Leaf → ℕ
in_code R leaf = in_statements R (kinds_of leaf) (in_row (map flat_statement leaf.code.items))

-- ---- arrays: small ones in look-up tables, others in block RAMs

abbrev pub rounded_up : ℕ → ℕ → ℕ
rounded_up n d = (n + (d - 1)) / d

abbrev pub array_bits : Array → ℕ
array_bits a = bits_of a.kind * a.cells

abbrev pub array_luts : Array → ℕ
array_luts a = if nat_le (array_bits a) 1024 then rounded_up (array_bits a) 64 else 0

abbrev pub array_brams : Array → ℕ
array_brams a = if nat_le (array_bits a) 1024 then 0 else rounded_up (array_bits a) 18432

-- ---- the estimate. A number of 2 ^ 40 or more is reported as 2 ^ 40 - 1, which no text within the limits of a
-- source comes to: each of its bytes adds at most a few hundred

abbrev pub at_most : ℕ → ℕ
at_most n = min n (2 ^ 40 - 1)

abbrev pub luts : Leaf → ℕ
luts leaf = 2 * places_of (map flat_statement leaf.code.items) + in_code lut_rates leaf + sum_by array_luts leaf.arrays.items

-- 13 for the states and the handshakes
abbrev pub flip_flops : Leaf → ℕ
flip_flops leaf = 13 + sum_by bits_of leaf.vars.items + in_code temporary_rates leaf

abbrev pub estimate : Leaf → Use
estimate leaf = record {
  lut = at_most (luts leaf);
  ff = at_most (flip_flops leaf);
  bram = at_most (sum_by array_brams leaf.arrays.items);
  dsp = at_most (in_code dsp_rates leaf);
  uram = 0;
}
