-- The cells of the memories that an instance is bound to: what its module sees of them, and how they go on.
use Rattle.std.proofs.Common.{◌≡◌, ℕ, zero, suc, ◌^◌, ◌<◌, ◌≤◌, Bool, true, false, ◌&&◌, List, [], ◌∷◌, length, map, get_or, Some, refl, sym, ap, subst, ◌∙◌, arith, ⊎_elim}
use Rattle.std.specs.Prelude.{◌==◌, if◌then◌else◌, option_map, slice_get, slice_index, slice_index_or, slice_set, unwrap_or}
use Rattle.std.specs.List.{AllByRecursion}
use Rattle.std.proofs.lemmas.Bool.{cases_eq, cases_lt, lt-ltb, le-ltb}
use Rattle.std.proofs.lemmas.List.{set_past, get_or-set_same, get_or-set_other, get_or_past, get_or-map, ext_get_or, length-set, length-map}
use Rattle.std.proofs.lemmas.Nat.{pow_pos}
use Rattle.std.proofs.lemmas.Option.{slice_get-map, slice_get-get_or, unwrap_or-slice_get}
use Rattle.tapa_base.specs.declared.kind.Kind.TheVariants.{U64}
use Rattle.tapa_base.specs.declared.shape.Port.{Port}
use Rattle.tapa_base.specs.Kinds.{bits_of, values_of}
use Rattle.tapa_syntax.specs.WellFormed.{IsWellFormed, IsInstance}
use Rattle.tapa_syntax.specs.declared.program.Instance.{Instance}
use Rattle.tapa_syntax.specs.declared.program.Leaf.{Leaf}
use Rattle.tapa_syntax.specs.declared.program.Memory.{Memory}
use Rattle.tapa_syntax.specs.declared.program.Program.{Program}
use Rattle.kahn_model.specs.Trace.{cell, with_cell}
use Rattle.hw_network_laws.proofs.network.Ports.{is_instance}
use Rattle.vlog_tree.specs.Cycle.{Cycle, Path, Runs}
use Rattle.vlog_tree.specs.Environment.{Environment, shape_of, set_cell, cells_at}
use Rattle.vlog_run_laws.specs.Beside.{ShowsCells, StandsBeside}
use Rattle.vlog_tree.specs.Form.{ModuleTree}
use Rattle.vlog_tree.specs.Labels.{m_ack, m_we, m_addr, m_wdata}
use Rattle.vlog_tree.specs.Table.{Name}
use Rattle.vlog_run_laws.specs.widths.Widths.{OutsideFits}
use Rattle.task_fsm.specs.declared.machine.Fsm.{Fsm}
use Rattle.hw_lines.specs.declared.nets.Net.TheVariants.{Ack, Rdata, Addr, Wdata, We}
use Rattle.hw_lines.specs.Runs.{number_at, bit_at, all_stored}
use Rattle.hw_lines.specs.Shape.{Shape, memory_kind}
use Rattle.hw_network_laws.specs.modules.Tasks.{shape_for}
use Rattle.hw_top_lines.specs.Legal.{memory_ports}
use Rattle.hw_top_lines.specs.Names.{task_instance}
use Rattle.hw_top_lines.specs.Texts.{top_tree, memory_name}
use Rattle.hw_top_laws.specs.runs.Parts.{memory_before, rows_of}
use Rattle.hw_top_laws.proofs.runs.Joined.{ack_at, answer_at, place_at, cell_at, store_at}

-- ---- all stores of a cycle, row by row

row_same : (b : Bool) (rows : List (List ℕ)) (k a v : ℕ) → k < length rows → get_or (if b then with_cell rows k a v else rows) k [] ≡ (if b then slice_set (get_or rows k []) a v else get_or rows k [])
row_same true rows k a v l = get_or-set_same rows k (slice_set (slice_index_or rows k []) a v) [] l
row_same false rows k a v l = refl

row_other : (b : Bool) (rows : List (List ℕ)) (k q a v : ℕ) → (q ≡ k → ⊥) → get_or (if b then with_cell rows k a v else rows) q [] ≡ get_or rows q []
row_other true rows k q a v d = get_or-set_other rows k q (slice_set (slice_index_or rows k []) a v) [] d
row_other false rows k q a v d = refl

rows_kept : (b : Bool) (rows : List (List ℕ)) (k a v : ℕ) → length (if b then with_cell rows k a v else rows) ≡ length rows
rows_kept true rows k a v = length-set rows k (slice_set (slice_index_or rows k []) a v)
rows_kept false rows k a v = refl

module _ (S : Shape) (run : ℕ → Cycle) (n : ℕ) where
  abbrev stores : ℕ → Bool
  stores q = bit_at run (Ack q) n && bit_at run (We q) n

  abbrev stored_row : ℕ → List ℕ → List ℕ
  stored_row q row = if stores q then slice_set row (number_at run (Addr q) n) (number_at run (Wdata q) n) else row

  stored_length : (k : ℕ) (rows : List (List ℕ)) → length (all_stored S run n k rows) ≡ length rows
  stored_length zero rows = refl
  stored_length (suc k) rows = rows_kept (stores k) (all_stored S run n k rows) k (number_at run (Addr k) n) (number_at run (Wdata k) n) ∙ stored_length k rows

  row_above : (k q : ℕ) (rows : List (List ℕ)) → k ≤ q → get_or (all_stored S run n k rows) q [] ≡ get_or rows q []
  row_above zero q rows l = refl
  row_above (suc k) q rows l =
      row_other (stores k) (all_stored S run n k rows) k q (number_at run (Addr k) n) (number_at run (Wdata k) n) (λ e. omega (arith, e, l)) ∙ row_above k q rows (omega (arith, l))

  row_below : (k q : ℕ) (rows : List (List ℕ)) → q < k → k ≤ length rows → get_or (all_stored S run n k rows) q [] ≡ stored_row q (get_or rows q [])
  row_below zero q rows l m = absurd (omega (arith, l))
  row_below (suc k) q rows l m =
      let X = all_stored S run n k rows in
      let a = number_at run (Addr k) n in
      let v = number_at run (Wdata k) n in
      let long = stored_length k rows in
      ⊎_elim
      (λ (e : q ≡ k).
      ap (λ z. get_or (all_stored S run n (suc k) rows) z []) e
      ∙ row_same (stores k) X k a v (omega (arith, m, long)) ∙ ap (stored_row k) (row_above k k rows (omega arith))
      ∙ sym (ap (λ z. stored_row z (get_or rows z [])) e))
      (λ (d : q ≡ k → ⊥). row_other (stores k) X k q a v d ∙ row_below k q rows (omega (arith, l, d)) (omega (arith, m)))
      (cases_eq q k)

-- ---- cells

-- a store past the last cell changes none
set_is : (cells : List ℕ) (a v : ℕ) → set_cell cells a v ≡ slice_set cells a v
set_is cells a v =
    ⊎_elim (λ (l : a < length cells). ap (λ (b : Bool). if b then slice_set cells a v else cells) (lt-ltb a (length cells) l))
    (λ (l : length cells ≤ a). ap (λ (b : Bool). if b then slice_set cells a v else cells) (le-ltb a (length cells) l) ∙ sym (set_past cells a v l))
    (cases_lt a (length cells))

got_below : (bits : ℕ) (xs : List ℕ) (i : ℕ) → AllByRecursion (λ v. v < 2 ^ bits) xs → slice_index xs i < 2 ^ bits
got_below bits [] i a = pow_pos bits
got_below bits (x ∷ xs) zero a = a.0
got_below bits (x ∷ xs) (suc i) a = got_below bits xs i a.1

abbrev bit : Bool → ℕ
bit b = if b then 1 else 0

bit_low : (b : Bool) → bit b < 2
bit_low true = omega arith
bit_low false = omega arith

bit_is : (b : Bool) → (bit b == 1) ≡ b
bit_is true = refl
bit_is false = refl

module _ (program : Program) (w : IsWellFormed program) (added : List ℕ) (all : List ModuleTree) (nets : ℕ → Path → Cycle) (runs : Runs all (top_tree program added) nets) (env : Environment) (acks : ℕ → ℕ → Bool) (stands : StandsBeside (top_tree program added) env acks (λ n. nets n []))
    (shape : (shape_of (top_tree program added)).memories ≡ memory_ports program) (outside : (n : ℕ) → OutsideFits (top_tree program added) env (λ n. nets n []) n)
    (i : ℕ) (x : Instance) (leaf : Leaf) (at : slice_get program.instances.items i ≡ Some x) (body : slice_get program.bodies.items x.body ≡ Some leaf) (machine : Fsm) where
  abbrev top : ℕ → Cycle
  top n = nets n []

  abbrev run : ℕ → Cycle
  run n = nets n (task_instance x.label ∷ [])

  abbrev S : Shape
  S = shape_for leaf machine

  abbrev rows : ℕ → List (List ℕ)
  rows n = rows_of program env nets (Some x) n

  is : IsInstance program i x leaf
  is = is_instance program w i x leaf at body

  -- the memory at a position
  abbrev number : ℕ → ℕ
  number p = slice_index x.memories.items p

  abbrev X : ℕ → Name
  X p = memory_name program (number p)

  abbrev first : ℕ → List ℕ
  first p = slice_index_or env.memories (number p) []

  pub rows_length : (n : ℕ) → length (rows n) ≡ length leaf.memories.items
  rows_length n = length-map x.memories.items (λ m. memory_before program env nets m n) ∙ is.memories_len

  row_is : (n p : ℕ) → p < length leaf.memories.items → get_or (rows n) p [] ≡ memory_before program env nets (number p) n
  row_is n p l = let e = is.memories_len in get_or-map (λ m. memory_before program env nets m n) x.memories.items p 0 [] (omega (arith, l, e))

  record Found (p : ℕ) : Type 0 where
    memory : Memory
    is_there : slice_get program.memories.items (number p) ≡ Some memory
    kind : slice_index_or leaf.memories.items p U64 ≡ memory.kind
    named : memory_name program (number p) ≡ memory.name
    port : slice_get (shape_of (top_tree program added)).memories (number p) ≡ Some (record { name = memory.name; bits = bits_of memory.kind })

  abbrev port_of : Memory → Port
  port_of m = record { name = m.name; bits = bits_of m.kind }

  found : (p : ℕ) → p < length leaf.memories.items → Found p
  found p l =
      let e = is.memories_len in
      let m = is.memories p (number p) (slice_index_or leaf.memories.items p U64) (slice_get-get_or x.memories.items p 0 (omega (arith, l, e))) (slice_get-get_or leaf.memories.items p U64 l) in
      record {
        memory = m.memory;
        is_there = m.is;
        kind = sym m.kind;
        named = ap (λ o. unwrap_or (option_map (λ (z : Memory). z.name) o) []) m.is;
        port = ap (λ l. slice_get l (number p)) shape ∙ slice_get-map port_of program.memories.items (number p) ∙ ap (option_map port_of) m.is;
      }

  -- the memory at it, by its name at the top
  abbrev port_at : (p : ℕ) → p < length leaf.memories.items → Port
  port_at p l = record { name = X p; bits = bits_of (found p l).memory.kind }

  answers : (p : ℕ) (l : p < length leaf.memories.items) → ShowsCells top (port_at p l) (first p) (acks (number p))
  answers p l =
      let f = found p l in
      subst (λ (z : Name). ShowsCells top (record { name = z; bits = bits_of f.memory.kind }) (first p) (acks (number p))) (sym f.named) (stands.memories (number p) (port_of f.memory) f.port)

  -- ---- what the module is told

  pub ack_is : (n p : ℕ) → p < length leaf.memories.items → number_at run (Ack p) n ≡ bit (acks (number p) n)
  ack_is n p l = ack_at program added all nets runs i x leaf at body p l n ∙ (answers p l).ack n

  pub ack_low : (n p : ℕ) → p < length leaf.memories.items → number_at run (Ack p) n < 2
  ack_low n p l = subst (λ z. z < 2) (sym (ack_is n p l)) (bit_low (acks (number p) n))

  pub answers_are : (n p : ℕ) → p < length leaf.memories.items → bit_at run (Ack p) n ≡ acks (number p) n
  answers_are n p l = ap (λ z. z == 1) (ack_is n p l) ∙ bit_is (acks (number p) n)

  pub answer_is : (n p : ℕ) → p < length leaf.memories.items → bit_at run (Ack p) n ≡ true → number_at run (We p) n ≡ 0 → number_at run (Rdata p) n ≡ cell (rows n) p (number_at run (Addr p) n)
  answer_is n p l ok still =
      answer_at program added all nets runs i x leaf at body p l n
      ∙ (answers p l).rdata n (sym (answers_are n p l) ∙ ok) (sym (store_at program added all nets runs i x leaf at body p l n) ∙ still)
      ∙ unwrap_or-slice_get (cells_at top (X p) (first p) n) ((top n).net (m_addr (X p))) 0
      ∙ ap (λ z. slice_index (cells_at top (X p) (first p) n) z) (sym (place_at program added all nets runs i x leaf at body p l n))
      ∙ ap (λ z. slice_index z (number_at run (Addr p) n)) (sym (row_is n p l))

  pub cells_low : (n p j : ℕ) → cell (rows n) p j < values_of (memory_kind S p)
  cells_low n p j =
      ⊎_elim
      (λ (l : p < length leaf.memories.items).
      let f = found p l in
      let low = got_below (bits_of f.memory.kind) (cells_at top f.memory.name (first p) n) j (outside n (number p) (port_of f.memory) f.port) in
      let here : cells_at top f.memory.name (first p) n ≡ slice_index_or (rows n) p [] = ap (λ z. cells_at top z (first p) n) (sym f.named) ∙ sym (row_is n p l) in
      subst (λ k. cell (rows n) p j < values_of k) (sym f.kind) (subst (λ z. slice_index z j < 2 ^ bits_of f.memory.kind) here low))
      (λ (l : length leaf.memories.items ≤ p).
      let e = rows_length n in
      subst (λ z. slice_index z j < values_of (memory_kind S p)) (sym (get_or_past (rows n) p [] (omega (arith, l, e)))) (pow_pos (bits_of (memory_kind S p))))
      (cases_lt p (length leaf.memories.items))

  -- ---- how they go on

  next_row : (n p : ℕ) → p < length leaf.memories.items → memory_before program env nets (number p) (suc n) ≡ stored_row S run n p (memory_before program env nets (number p) n)
  next_row n p l =
      let c = top n in
      let cells = memory_before program env nets (number p) n in
      let a = c.net (m_addr (X p)) in
      let v = c.net (m_wdata (X p)) in
      ap (λ z. if (c.net (m_ack (X p)) == 1) && (c.net (m_we (X p)) == 1) then z else cells) (set_is cells a v)
      ∙ ap (λ z. if (z == 1) && (c.net (m_we (X p)) == 1) then slice_set cells a v else cells) (sym (ack_at program added all nets runs i x leaf at body p l n))
      ∙ ap (λ z. if bit_at run (Ack p) n && (z == 1) then slice_set cells a v else cells) (sym (store_at program added all nets runs i x leaf at body p l n))
      ∙ ap (λ z. if stores S run n p then slice_set cells z v else cells) (sym (place_at program added all nets runs i x leaf at body p l n))
      ∙ ap (λ z. if stores S run n p then slice_set cells (number_at run (Addr p) n) z else cells) (sym (cell_at program added all nets runs i x leaf at body p l n))

  pub rows_go : (n : ℕ) → rows (suc n) ≡ all_stored S run n (length leaf.memories.items) (rows n)
  rows_go n =
      let k = length leaf.memories.items in
      let long = rows_length n in
      let longer = rows_length (suc n) in
      let stored = stored_length S run n k (rows n) in
      ext_get_or [] (rows (suc n)) (all_stored S run n k (rows n)) (omega (arith, long, longer, stored))
      (λ p l.
      let low : p < k = omega (arith, l, longer) in
      row_is (suc n) p low ∙ next_row n p low ∙ ap (stored_row S run n p) (sym (row_is n p low)) ∙ sym (row_below S run n k p (rows n) low (omega (arith, long))))

  pub rows_begin : rows 1 ≡ map (λ m. slice_index_or env.memories m []) x.memories.items
  rows_begin =
      let long = rows_length 1 in
      let e = is.memories_len in
      ext_get_or [] (rows 1) (map (λ m. slice_index_or env.memories m []) x.memories.items) (long ∙ sym e ∙ sym (length-map x.memories.items (λ m. slice_index_or env.memories m [])))
      (λ p l.
      let low : p < length leaf.memories.items = omega (arith, l, long) in
      let c = top 0 in
      row_is 1 p low
      ∙ ap (λ z. if (z == 1) && (c.net (m_we (X p)) == 1) then set_cell (first p) (c.net (m_addr (X p))) (c.net (m_wdata (X p))) else first p) ((answers p low).ack 0 ∙ ap bit (answers p low).quiet)
      ∙ sym (get_or-map (λ m. slice_index_or env.memories m []) x.memories.items p 0 [] (omega (arith, low, e))))
