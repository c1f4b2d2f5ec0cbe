-- No name is declared twice in a task's module, and no register or array has two blocks.
use Rattle.std.proofs.Common.{◌≡◌, ℕ, ◌+◌, ◌*◌, ◌<◌, Bool, true, false, eqb, ◌||◌, List, [], ◌∷◌, ◌++◌, length, get_or, inl, inr, refl, sym, ap, subst, ◌∙◌, arith}
use Rattle.std.specs.List.{flat_map, list_all}
use Rattle.std.proofs.lemmas.Grind.{flat_map-append}
use Rattle.vlog_tree.specs.declared.tree.Atom.{Atom}
use Rattle.vlog_tree.specs.declared.tree.Step.{Step}
use Rattle.tapa_base.specs.Lists.{Has}
use Rattle.vlog_tree.specs.Labels.{rst}
use Rattle.vlog_tree.specs.Names.{is_name}
use Rattle.vlog_tree.specs.Table.{Name, clk}
use Rattle.vlog_tree.specs.declared.tree.Value.TheVariants.{Plain as PlainValue}
use Rattle.hw_build.specs.Elements.{Element, Output, Block}
use Rattle.hw_build.specs.Scope.{each}
use Rattle.hw_build.specs.Choices.{Entry}
use Rattle.hw_build.specs.Fits.{declared_names, targets, AreOnce}
use Rattle.hw_build.proofs.Once.{two_once}
use Rattle.hw_lines.specs.declared.nets.Choice.{Choice}
use Rattle.hw_lines.specs.declared.nets.Net.{Net}
use Rattle.hw_lines.specs.declared.nets.Choice.TheVariants.{ToState, ToEnd, Set, Stores, Puts, Token, Takes, Address, StoreEnable, Data}
use Rattle.hw_lines.specs.declared.nets.Net.TheVariants.{State, Ended, Done, Variable, Array, Node}
use Rattle.hw_lines.specs.Nets.{word, choice_word, choice_numbers, numbers, name}
use Rattle.hw_lines.specs.Shape.{Shape, state_count, stream_kind, memory_kind}
use Rattle.hw_lines.specs.States.{net, state_wires, decoded}
use Rattle.hw_lines.specs.Effects.{entries}
use Rattle.hw_lines.specs.Texts.{scalar_port, writes, stream_inputs, memory_inputs, inputs, held, offered, reads_of, read_numbers, any, pick, choices, written, taken, stream_outputs, memory_outputs, outputs, register_block, variable_block, array_block, unless_none, blocks, task_elements}
use Rattle.tapa_base.specs.Kinds.{bits_of}
use Rattle.hw_lines.proofs.Names.{tail_of, spelled_tail}
use Rattle.hw_lines.proofs.Spelled.{nets_named as net_is_named}
use Rattle.hw_task_laws.specs.names.Countable.{IsCountable}
use Rattle.hw_task_laws.proofs.names.Bounds.{IsBounded, bounds, right_short}
use Rattle.hw_task_laws.proofs.names.Named.{part_of, Named, In_part, Names, single, names_both, names_each, names_none, names_one, names_more}
use Rattle.hw_task_laws.proofs.names.Empty.{GiveNone, both_none, more_none, each_none, by_end_none, any_none, pick_none, decodes_none, offers_none, reads_none, states_none, choices_none, held_none}
use Rattle.hw_task_laws.proofs.names.Nets.{Any, Nets, low_of, input_nets, held_nets, decodes_nets, offers_nets, reads_nets, states_nets, choices_nets, outputs_nets}
use Rattle.std.proofs.lemmas.Bool.{and_from as yes_and}

-- ---- no net is called as the clock or the reset: its first two bytes tell

abbrev early : Name → ℕ
early x = get_or x 0 0 * 256 + get_or x 1 0

abbrev is_port_of_all : ℕ → Bool
is_port_of_all n = eqb n 25452 || eqb n 29299

choice_early : (c : Choice) (j : ℕ) → is_port_of_all (early (choice_word c ++ tail_of (choice_numbers c ++ j ∷ []))) ≡ false
choice_early ToState j = refl
choice_early _ j = refl

word_early : (y : Net) → is_port_of_all (early (word y ++ tail_of (numbers y))) ≡ false
word_early (Node c j) = choice_early c j
word_early State = refl
word_early _ = refl

name_early : (y : Net) → is_port_of_all (early (name y)) ≡ false
unfolding name
name_early y = ap (λ x. is_port_of_all (early x)) (spelled_tail (word y) (numbers y)) ∙ word_early y

not_clk : (y : Net) → name y ≡ clk → ⊥
unfolding clk
not_clk y e = let t : true ≡ false = sym (ap (λ x. is_port_of_all (early x)) e) ∙ name_early y in absurd cc

not_rst : (y : Net) → name y ≡ rst → ⊥
unfolding rst
not_rst y e = let t : true ≡ false = sym (ap (λ x. is_port_of_all (early x)) e) ∙ name_early y in absurd cc

clk_is_not_rst : clk ≡ rst → ⊥
unfolding clk rst
clk_is_not_rst e = let t : ◌≡◌ {A = ℕ} 25452 29299 = ap early e in absurd (omega (arith, t))

ports_once : AreOnce (clk ∷ rst ∷ [])
ports_once = two_once (clk ∷ []) (rst ∷ []) (single clk) (single rst) apart where
  apart : (x : Name) → Has (clk ∷ []) x → Has (rst ∷ []) x → ⊥
  apart x (inl e) (inl f) = clk_is_not_rst (e ∙ sym f)
  apart x (inl e) (inr n) = absurd n
  apart x (inr n) k = absurd n

-- ---- all elements

module _ (S : Shape) (c : IsCountable S) where
  B : IsBounded S
  B = bounds S c

  abbrev decodes : List Element
  decodes = each (decoded S) (state_count S)

  abbrev offers : List Element
  offers = each (offered S) (length S.streams)

  abbrev reads : List Element
  reads = each (reads_of S) (read_numbers S)

  abbrev states : List Element
  states = each (state_wires S) (state_count S)

  block_names : Nets Any 83 84 (blocks S)
  block_names =
      names_none declared_names Any 83 84 (blocks S)
      (both_none declared_names (each (variable_block S) (length S.registers)) (each (array_block S) (length S.arrays)) (each_none declared_names (variable_block S) (length S.registers) (λ r. refl))
      (each_none declared_names (array_block S) (length S.arrays) (λ a. nothing (entries S (Stores a)) _))) where
        nothing : (es : List Entry) (b : List Step) → flat_map declared_names (unless_none es (Block b ∷ [])) ≡ []
        nothing [] b = refl
        nothing (e ∷ es) b = refl

  all_named : Named declared_names Any 0 84 (task_elements S)
  all_named =
      names_both declared_names Any 0 83 83 84 0 84 (inputs S ++ held S ++ decodes ++ offers ++ reads ++ states ++ choices S ++ outputs S) (blocks S)
      (names_both declared_names Any 0 69 70 83 0 83 (inputs S ++ held S ++ decodes ++ offers ++ reads ++ states ++ choices S) (outputs S)
      (names_both declared_names Any 0 57 60 69 0 69 (inputs S ++ held S ++ decodes ++ offers ++ reads ++ states) (choices S)
      (names_both declared_names Any 0 47 50 57 0 57 (inputs S ++ held S ++ decodes ++ offers ++ reads) states
      (names_both declared_names Any 0 33 40 47 0 47 (inputs S ++ held S ++ decodes ++ offers) reads
      (names_both declared_names Any 0 21 30 33 0 33 (inputs S ++ held S ++ decodes) offers
      (names_both declared_names Any 0 14 20 21 0 21 (inputs S ++ held S) decodes
      (names_both declared_names Any 0 6 10 14 0 14 (inputs S) (held S) (input_nets S B) (held_nets S B) refl)
      (decodes_nets S B) refl) (offers_nets S B) refl) (reads_nets S B) refl) (states_nets S B) refl) (choices_nets S B) refl) (outputs_nets S B) refl) block_names refl c.elements

  pub names_once : AreOnce (clk ∷ rst ∷ flat_map declared_names (task_elements S))
  names_once = two_once (clk ∷ rst ∷ []) (flat_map declared_names (task_elements S)) ports_once all_named.once apart where
    apart : (x : Name) → Has (clk ∷ rst ∷ []) x → Has (flat_map declared_names (task_elements S)) x → ⊥
    apart x (inl e) k = let t = all_named.nets x k in not_clk t.net (t.is ∙ sym e)
    apart x (inr (inl e)) k = let t = all_named.nets x k in not_rst t.net (t.is ∙ sym e)
    apart x (inr (inr n)) k = absurd n

  pub nets_named : list_all is_name (flat_map declared_names (task_elements S)) ≡ true
  nets_named = of_all (flat_map declared_names (task_elements S)) (λ x h. let t = all_named.nets x h in ap is_name (sym t.is) ∙ net_is_named t.net t.small) where
    of_all : (xs : List Name) → ((x : Name) → Has xs x → is_name x ≡ true) → list_all is_name xs ≡ true
    of_all [] h = refl
    of_all (x ∷ xs) h = yes_and (is_name x) (list_all is_name xs) (h x (inl refl)) (of_all xs (λ y k. h y (inr k)))

  -- ---- blocks

  block_target : (reset x : Name) (first : Atom) (es : List Entry) (set : Name) (next : Atom) → targets (Block (register_block reset x first es set next)) ≡ x ∷ []
  block_target reset x first [] set next = refl
  block_target reset x first (e ∷ es) set next = refl

  abbrev Targets : (Net → Type 0) → ℕ → ℕ → List Element → Type 0
  Targets Q low high es = Names targets Q low high es

  variable_target : (k : ℕ) → k < length S.registers → Targets (In_part Any part_of k) 12 13 (variable_block S k)
  variable_target k l = names_one targets (In_part Any part_of k) 12 13 _ (Variable k) (block_target _ (name (Variable k)) _ (entries S (Set k)) _ _) (tt, refl) (low_of k (length S.registers) l B.registers, tt) refl

  array_target : (k : ℕ) → k < length S.arrays → Targets (In_part Any part_of k) 13 14 (array_block S k)
  array_target k l = here (entries S (Stores k)) _ refl where
    here : (es : List Entry) (b : Element) → targets b ≡ name (Array k) ∷ [] → Targets (In_part Any part_of k) 13 14 (unless_none es (b ∷ []))
    here [] b e = names_none targets (In_part Any part_of k) 13 14 [] refl
    here (d ∷ es) b e = names_one targets (In_part Any part_of k) 13 14 b (Array k) e (tt, refl) (low_of k (length S.arrays) l B.arrays, tt) refl

  block_targets : Targets Any 10 14 (blocks S)
  block_targets =
      let variables = each (variable_block S) (length S.registers) in
      let arrays = each (array_block S) (length S.arrays) in
      names_more targets Any 10 11 11 14 10 14 _ _ (names_one targets Any 10 11 _ State refl tt tt refl)
      (names_more targets Any 11 12 12 14 11 14 _ _ (names_one targets Any 11 12 _ Ended (block_target _ (name Ended) _ (entries S ToEnd) _ _) tt tt refl)
      (names_both targets Any 12 13 13 14 12 14 variables arrays (names_each targets Any part_of 12 13 (variable_block S) (length S.registers) variable_target)
      (names_each targets Any part_of 13 14 (array_block S) (length S.arrays) array_target) refl) refl) refl

  inputs_none : GiveNone targets (inputs S)
  inputs_none =
      let scalars = each (scalar_port S) (length S.scalars) in
      let streams = each (stream_inputs S) (length S.streams) in
      let memories = each (memory_inputs S) (length S.memories) in
      both_none targets (scalars ++ streams) memories
      (both_none targets scalars streams (each_none targets (scalar_port S) (length S.scalars) (λ k. refl)) (each_none targets (stream_inputs S) (length S.streams) (λ k. by_end_none targets _ _ (writes S k) refl refl)))
      (each_none targets (memory_inputs S) (length S.memories) (λ k. refl))

  any_free : (d : Choice) → GiveNone targets (any S d)
  any_free d = any_none targets (λ w x v. refl) S d

  pick_free : (w : ℕ) (d : Choice) → GiveNone targets (pick S w d)
  pick_free w d = pick_none targets (λ w x v. refl) S w d

  outputs_none : GiveNone targets (outputs S)
  outputs_none =
      let streams = each (stream_outputs S) (length S.streams) in
      let memories = each (memory_outputs S) (length S.memories) in
      more_none targets (Output 1 (name Done) (PlainValue (net Ended))) (streams ++ memories) refl
      (both_none targets streams memories
      (each_none targets (stream_outputs S) (length S.streams)
      (λ s.
      by_end_none targets (written S s) (taken S s) (writes S s)
      (both_none targets (any S (Puts s) ++ pick S (bits_of (stream_kind S s) + 1) (Token s)) _ (both_none targets (any S (Puts s)) (pick S (bits_of (stream_kind S s) + 1) (Token s)) (any_free (Puts s)) (pick_free (bits_of (stream_kind S s) + 1) (Token s))) refl)
      (both_none targets (any S (Takes s)) _ (any_free (Takes s)) refl)))
      (each_none targets (memory_outputs S) (length S.memories)
      (λ m.
      both_none targets (pick S 64 (Address m) ++ any S (StoreEnable m) ++ pick S (bits_of (memory_kind S m)) (Data m)) _
      (both_none targets (pick S 64 (Address m) ++ any S (StoreEnable m)) (pick S (bits_of (memory_kind S m)) (Data m)) (both_none targets (pick S 64 (Address m)) (any S (StoreEnable m)) (pick_free 64 (Address m)) (any_free (StoreEnable m)))
      (pick_free (bits_of (memory_kind S m)) (Data m))) refl)))

  front_none : GiveNone targets (inputs S ++ held S ++ decodes ++ offers ++ reads ++ states ++ choices S ++ outputs S)
  front_none =
      both_none targets (inputs S ++ held S ++ decodes ++ offers ++ reads ++ states ++ choices S) (outputs S)
      (both_none targets (inputs S ++ held S ++ decodes ++ offers ++ reads ++ states) (choices S)
      (both_none targets (inputs S ++ held S ++ decodes ++ offers ++ reads) states
      (both_none targets (inputs S ++ held S ++ decodes ++ offers) reads
      (both_none targets (inputs S ++ held S ++ decodes) offers
      (both_none targets (inputs S ++ held S) decodes
      (both_none targets (inputs S) (held S) inputs_none (held_none targets (λ w x v. refl) S (λ w x. refl) (λ w x n. refl)))
      (decodes_none targets (λ w x v. refl) S)) (offers_none targets (λ w x v. refl) S)) (reads_none targets (λ w x v. refl) S)) (states_none targets (λ w x v. refl) S)) (choices_none targets (λ w x v. refl) S)) outputs_none

  pub blocks_once : AreOnce (flat_map targets (task_elements S))
  blocks_once =
      let front = inputs S ++ held S ++ decodes ++ offers ++ reads ++ states ++ choices S ++ outputs S in
      subst AreOnce (sym (flat_map-append targets front (blocks S) ∙ ap (λ l. l ++ flat_map targets (blocks S)) front_none)) (block_targets (right_short front (blocks S) c.elements)).once
