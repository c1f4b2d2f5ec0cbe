-- An array that no state stores to is assigned in no block.
use Rattle.std.proofs.Common.{◌≡◌, ℕ, zero, suc, ◌+◌, ◌<◌, Bool, true, false, cond, ◌||◌, List, [], ◌∷◌, ◌++◌, length, refl, ap, ◌∙◌, arith, ⊎_elim, length-append}
use Rattle.std.specs.Prelude.{bytes_eq, count_by}
use Rattle.std.specs.List.{flat_map}
use Rattle.std.specs.Cmp.Lexicographic.{bytes_decides}
use Rattle.std.proofs.lemmas.Bool.{cases_eq, false_from_ne_true}
use Rattle.tapa_base.specs.Kinds.{bits_of}
use Rattle.vlog_tree.specs.declared.tree.Atom.{Atom}
use Rattle.vlog_tree.specs.declared.tree.Atom.TheVariants.{Net as NetAtom, Literal}
use Rattle.vlog_tree.specs.declared.tree.Value.TheVariants.{Plain}
use Rattle.vlog_tree.specs.declared.tree.Step.{Step}
use Rattle.vlog_tree.specs.Labels.{rst}
use Rattle.vlog_tree.specs.Table.{Name, one_if}
use Rattle.vlog_tree.specs.V4.{is_block_of}
use Rattle.vlog_module_laws.proofs.Lists.{count_cons}
use Rattle.hw_build.specs.Elements.{Element, Output, Block, empty, built, reset_or, stored}
use Rattle.hw_build.specs.Fitting.{assigns}
use Rattle.hw_build.proofs.Tables.{items_of_all}
use Rattle.hw_build.proofs.Drivers.{all_blocks}
use Rattle.hw_build.specs.Scope.{each}
use Rattle.hw_build.specs.Choices.{Entry}
use Rattle.hw_lines.specs.declared.nets.Choice.TheVariants.{ToState, ToEnd, Set, NextValue, Stores, WriteIndex, WriteData, Puts, Token, Takes, Address, StoreEnable, Data, Clear}
use Rattle.hw_lines.specs.declared.nets.Net.{Net}
use Rattle.hw_lines.specs.declared.nets.Net.TheVariants.{State, Ended, Done, Variable, Array}
use Rattle.hw_lines.specs.Nets.{name, numbers}
use Rattle.hw_lines.specs.Names.{AreSmall}
use Rattle.hw_lines.specs.Shape.{Shape, stream_kind, memory_kind, state_count, state_bits}
use Rattle.hw_lines.specs.States.{net, decoded, state_wires}
use Rattle.hw_lines.specs.Effects.{entries, first_value}
use Rattle.hw_lines.specs.Texts.{scalar_port, writes, stream_inputs, memory_inputs, inputs, held, offered, unless_none, reads_of, read_numbers, any, pick, root, choices, written, taken, stream_outputs, memory_outputs, outputs, register_block, variable_block, array_block, blocks, task_elements, reset_of}
use Rattle.hw_lines.proofs.Names.{names_tell}
use Rattle.hw_task_laws.proofs.names.Empty.{GiveNone, both_none, more_none, each_none, by_end_none, any_none, pick_none, decodes_none, offers_none, held_none, reads_none, states_none, choices_none}
use Rattle.hw_task_laws.specs.effects.Held.{HasFew}

one_given : (b : Bool) → length {A = ℕ} (cond b (0 ∷ []) []) ≡ one_if b
one_given true = refl
one_given false = refl

module _ (x : Name) where
  -- something for each element that assigns the name
  abbrev given : Element → List ℕ
  given e = cond (assigns x e) (0 ∷ []) []

  abbrev Off : List Element → Type 0
  Off es = GiveNone given es

  count_given : (es : List Element) → count_by (assigns x) es ≡ length (flat_map given es)
  count_given [] = refl
  count_given (e ∷ es) =
      let c : count_by (assigns x) (e ∷ es) ≡ one_if (assigns x e) + count_by (assigns x) es = count_cons (assigns x) e es in
      let r : count_by (assigns x) es ≡ length (flat_map given es) = count_given es in
      let l : length (given e ++ flat_map given es) ≡ length (given e) + length (flat_map given es) = length-append (given e) (flat_map given es) in
      let o : length (given e) ≡ one_if (assigns x e) = one_given (assigns x e) in
      omega (arith, c, r, l, o)

  off_one : (e : Element) → assigns x e ≡ false → Off (e ∷ [])
  off_one e h = more_none given e [] (ap (λ b. cond b (0 ∷ []) []) h) refl

  off_each : (f : ℕ → List Element) (n : ℕ) → ((k : ℕ) → k < n → Off (f k)) → Off (each f n)
  off_each f zero h = refl
  off_each f (suc n) h = both_none given (each f n) (f n) (off_each f n (λ k l. h k (omega (arith, l)))) (h n (omega arith))

  -- what stands before the blocks
  module _ (S : Shape) where
    abbrev decodes : List Element
    decodes = each (decoded S) (state_count S)

    abbrev offers : List Element
    offers = each (offered S) (length S.streams)

    abbrev reads : List Element
    reads = each (reads_of S) (read_numbers S)

    abbrev states : List Element
    states = each (state_wires S) (state_count S)

    off_inputs : Off (inputs S)
    off_inputs =
        both_none given (each (scalar_port S) (length S.scalars) ++ each (stream_inputs S) (length S.streams)) (each (memory_inputs S) (length S.memories))
        (both_none given (each (scalar_port S) (length S.scalars)) (each (stream_inputs S) (length S.streams)) (each_none given (scalar_port S) (length S.scalars) (λ k. refl))
        (each_none given (stream_inputs S) (length S.streams) (λ k. by_end_none given _ _ (writes S k) refl refl)))
        (each_none given (memory_inputs S) (length S.memories) (λ k. refl))

    off_written : (s : ℕ) → Off (written S s)
    off_written s =
        both_none given (any S (Puts s) ++ pick S (bits_of (stream_kind S s) + 1) (Token s)) _
        (both_none given (any S (Puts s)) (pick S (bits_of (stream_kind S s) + 1) (Token s)) (any_none given (λ w y v. refl) S (Puts s)) (pick_none given (λ w y v. refl) S (bits_of (stream_kind S s) + 1) (Token s))) refl

    off_taken : (s : ℕ) → Off (taken S s)
    off_taken s = both_none given (any S (Takes s)) _ (any_none given (λ w y v. refl) S (Takes s)) refl

    off_memory : (m : ℕ) → Off (memory_outputs S m)
    off_memory m =
        both_none given (pick S 64 (Address m) ++ any S (StoreEnable m) ++ pick S (bits_of (memory_kind S m)) (Data m)) _
        (both_none given (pick S 64 (Address m) ++ any S (StoreEnable m)) (pick S (bits_of (memory_kind S m)) (Data m))
        (both_none given (pick S 64 (Address m)) (any S (StoreEnable m)) (pick_none given (λ w y v. refl) S 64 (Address m)) (any_none given (λ w y v. refl) S (StoreEnable m)))
        (pick_none given (λ w y v. refl) S (bits_of (memory_kind S m)) (Data m))) refl

    off_outputs : Off (outputs S)
    off_outputs =
        more_none given (Output 1 (name Done) (Plain (net Ended))) (each (stream_outputs S) (length S.streams) ++ each (memory_outputs S) (length S.memories)) refl
        (both_none given (each (stream_outputs S) (length S.streams)) (each (memory_outputs S) (length S.memories))
        (each_none given (stream_outputs S) (length S.streams) (λ s. by_end_none given (written S s) (taken S s) (writes S s) (off_written s) (off_taken s)))
        (each_none given (memory_outputs S) (length S.memories) off_memory))

    off_all : Off (blocks S) → Off (task_elements S)
    off_all last =
        both_none given (inputs S ++ held S ++ decodes ++ offers ++ reads ++ states ++ choices S ++ outputs S) (blocks S)
        (both_none given (inputs S ++ held S ++ decodes ++ offers ++ reads ++ states ++ choices S) (outputs S)
        (both_none given (inputs S ++ held S ++ decodes ++ offers ++ reads ++ states) (choices S)
        (both_none given (inputs S ++ held S ++ decodes ++ offers ++ reads) states
        (both_none given (inputs S ++ held S ++ decodes ++ offers) reads
        (both_none given (inputs S ++ held S ++ decodes) offers
        (both_none given (inputs S ++ held S) decodes
        (both_none given (inputs S) (held S) off_inputs (held_none given (λ w y v. refl) S (λ w y. refl) (λ w y n. refl)))
        (decodes_none given (λ w y v. refl) S)) (offers_none given (λ w y v. refl) S)) (reads_none given (λ w y v. refl) S)) (states_none given (λ w y v. refl) S)) (choices_none given (λ w y v. refl) S)) off_outputs)
        last

-- ---- the blocks

other_name : (x y : Net) → AreSmall (numbers x) → AreSmall (numbers y) → (x ≡ y → ⊥) → bytes_eq (name x) (name y) ≡ false
other_name x y p q ne = false_from_ne_true (bytes_eq (name x) (name y)) (λ e. ne (names_tell x y p q ((bytes_decides (name x) (name y)).0 e)))

module _ (S : Shape) (few : HasFew S) (a : ℕ) (there : a < length S.arrays) (none : entries S (Stores a) ≡ []) where
  abbrev x : Name
  x = name (Array a)

  small : AreSmall (numbers (Array a))
  small = let h = few.arrays in (omega (arith, h, there), tt)

  block_off : (reset y : Name) (first : Atom) (es : List Entry) (set : Name) (next : Atom) → bytes_eq y x ≡ false → assigns x (Block (register_block reset y first es set next)) ≡ false
  block_off reset y first [] set next e = ap (λ b. b || false) e
  block_off reset y first (d ∷ es) set next e = ap (λ b. b || (b || false)) e

  off_variable : (r : ℕ) → r < length S.registers → Off x (variable_block S r)
  off_variable r l =
      let h = few.registers in
      let reset = reset_of r (entries S (Clear r)) in
      off_one x (Block (register_block reset (name (Variable r)) (first_value S r) (entries S (Set r)) (root S (Set r)) (NetAtom (root S (NextValue r)))))
      (block_off reset (name (Variable r)) (first_value S r) (entries S (Set r)) (root S (Set r)) (NetAtom (root S (NextValue r))) (other_name (Variable r) (Array a) (omega (arith, h, l), tt) small (λ e. cc)))

  abbrev array_steps : ℕ → List Step
  array_steps b = stored (name (Array b)) (root S (Stores b)) (root S (WriteIndex b)) (NetAtom (root S (WriteData b)))

  same_number : (b : ℕ) → Array b ≡ Array a → b ≡ a
  same_number b s = cc

  off_unless : (es : List Entry) (b : ℕ) → bytes_eq (name (Array b)) x ≡ false → Off x (unless_none es (Block (array_steps b) ∷ []))
  off_unless [] b e = refl
  off_unless (d ∷ es) b e = off_one x (Block (array_steps b)) (ap (λ z. z || false) e)

  off_array : (b : ℕ) → b < length S.arrays → Off x (array_block S b)
  off_array b l =
      let h = few.arrays in
      ⊎_elim (λ (e : b ≡ a). ap (λ es. flat_map (given x) (unless_none es (Block (array_steps b) ∷ []))) (ap (λ z. entries S (Stores z)) e ∙ none))
      (λ (e : b ≡ a → ⊥). off_unless (entries S (Stores b)) b (other_name (Array b) (Array a) (omega (arith, h, l), tt) small (λ s. e (same_number b s)))) (cases_eq b a)

  abbrev state_block : Element
  state_block = Block (reset_or (name State) (Literal (state_bits S) 0) (NetAtom (root S ToState)))

  abbrev end_block : Element
  end_block = Block (register_block rst (name Ended) (Literal 1 0) (entries S ToEnd) (root S ToEnd) (Literal 1 1))

  off_blocks : Off x (blocks S)
  off_blocks =
      both_none (given x) ((state_block ∷ end_block ∷ []) ++ each (variable_block S) (length S.registers)) (each (array_block S) (length S.arrays))
      (both_none (given x) (state_block ∷ end_block ∷ []) (each (variable_block S) (length S.registers))
      (both_none (given x) (state_block ∷ []) (end_block ∷ []) (off_one x state_block (ap (λ b. b || (b || false)) (other_name State (Array a) tt small (λ e. cc))))
      (off_one x end_block (block_off rst (name Ended) (Literal 1 0) (entries S ToEnd) (root S ToEnd) (Literal 1 1) (other_name Ended (Array a) tt small (λ e. cc)))))
      (off_each x (variable_block S) (length S.registers) off_variable))
      (off_each x (array_block S) (length S.arrays) off_array)

pub no_block : (S : Shape) (title : Name) → HasFew S → (a : ℕ) → a < length S.arrays → entries S (Stores a) ≡ [] → count_by (is_block_of (name (Array a))) (built title (task_elements S)).items ≡ 0
no_block S title few a there none =
    ap (count_by (is_block_of (name (Array a)))) (items_of_all (task_elements S) (empty title)) ∙ all_blocks (task_elements S) (name (Array a)) ∙ count_given (name (Array a)) (task_elements S)
    ∙ ap (λ (l : List ℕ). length l) (off_all (name (Array a)) S (off_blocks S few a there none))
