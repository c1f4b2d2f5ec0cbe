-- The choices, the outputs and the blocks of a task's module fit.
use Rattle.std.proofs.Common.{◌≡◌, ℕ, zero, suc, ◌+◌, ◌<◌, ◌≤◌, Bool, true, false, cond, eqb, List, [], ◌∷◌, ◌++◌, length, inl, inr, refl, sym, ap, subst, arith, eqb-true, eq-eqb}
use Rattle.std.specs.Prelude.{slice_index, IsTrue}
use Rattle.std.proofs.Math.Pow.{pow_pos}
use Rattle.tapa_base.specs.Kinds.{bits_of}
use Rattle.vlog_tree.specs.declared.tree.Atom.{Atom}
use Rattle.vlog_tree.specs.declared.tree.Atom.TheVariants.{Net as NetAtom, Literal}
use Rattle.vlog_tree.specs.declared.tree.Value.TheVariants.{Plain}
use Rattle.tapa_base.specs.Lists.{Has}
use Rattle.vlog_tree.specs.Labels.{rst}
use Rattle.vlog_tree.specs.Table.{Name}
use Rattle.vlog_tree.specs.V3.{is_width}
use Rattle.tapa_base.proofs.Lists.{has_left, has_right}
use Rattle.hw_build.specs.Elements.{Element, Output, Block, reset_or}
use Rattle.hw_build.specs.Scope.{each, IsNet, IsRegister, AtomIs, ValueIs, FitInOrder}
use Rattle.hw_build.specs.Choices.{Entry, choice, any_elements}
use Rattle.hw_build.specs.Fits.{IsAmong}
use Rattle.hw_build.proofs.Parts.{has_each, of_each, parts_fit, each_part_fits}
use Rattle.hw_build.proofs.Picks.{any_fits, pick_fits}
use Rattle.task_fsm.specs.Machine.{StateForm, CellAt, ClearAt}
use Rattle.hw_lines.specs.declared.nets.Net.{Net}
use Rattle.hw_lines.specs.declared.nets.Net.TheVariants.{State as StateNet, Ended, Done, Scalar, Variable, Wr, Addr, Wdata, At, Into, Reset}
use Rattle.hw_lines.specs.declared.nets.Choice.{Choice}
use Rattle.hw_lines.specs.declared.nets.Choice.TheVariants.{ToState, ToEnd, Set, NextValue, Stores, WriteIndex, WriteData, Puts, Token, Takes, Address, StoreEnable, Data, Clear}
use Rattle.hw_lines.specs.Nets.{name, front}
use Rattle.hw_lines.specs.Shape.{Shape, array_kind, stream_kind, register_kind, memory_kind, index_bits, state_count, state_bits, form_at}
use Rattle.hw_lines.specs.States.{net}
use Rattle.hw_lines.specs.Effects.{entry, at, places, contents, effect, entries, first_by, first_value}
use Rattle.hw_lines.specs.Texts.{by_end, writes, any, pick, result_of, result, root, variable_choices, array_choices, choices, written, taken, stream_outputs, memory_outputs, outputs, register_block, variable_block, array_block, blocks, reset_of, reset_by}
use Rattle.hw_task_laws.proofs.fit.Scopes.{right_among, input_net, register_there, fit_behind, kind_wide, token_wide, any_root, pick_root, wire_net}
use Rattle.hw_task_laws.proofs.form.Task.{IsTask, state_wide, index_wide}
use Rattle.hw_task_laws.proofs.form.Asked.{some_of, EntryFits, of_at, unless_fits, ended_net, variable_has, array_in}
use Rattle.hw_task_laws.proofs.form.States.{scalar_net}
use Rattle.hw_task_laws.proofs.form.Entries.{AreBefore, to_state, to_end, to_clear, to_set, to_store, to_place, to_content, to_token, to_take, to_ask, to_save}
use Rattle.hw_task_laws.proofs.acts.Answered.{some_length}

-- an entry for a thing of its own
given : (x : Net) (b a : ℕ) (v : Atom) → b ≡ a → (e : Entry) × Has (at b a (entry x v)) e
given x b a v s = let e : Entry = record { condition = name x; value = v } in (e, subst (λ (es : List Entry). Has es e) (sym (ap (λ c. cond c (e ∷ []) []) (eq-eqb b a s))) (inl refl))

-- where a state writes a cell, it gives a place and a value
place_of : (S : Shape) (x y : Net) (a k : ℕ) (d : Entry) (f : StateForm) → Has (places S x a k f) d → (e : Entry) × Has (places S y a k f) e
place_of S x y a k d (CellAt b i v next) h = given y b a _ (of_at b a _ d h).0
place_of S x y a k d (ClearAt b c next) h = given y b a _ (of_at b a _ d h).0
place_of S x y a k d _ h = absurd h

content_of : (S : Shape) (x : Net) (a k : ℕ) (d : Entry) (f : StateForm) → Has (places S x a k f) d → (e : Entry) × Has (contents S a k f) e
content_of S x a k d (CellAt b i v next) h = given (At k) b a _ (of_at b a _ d h).0
content_of S x a k d (ClearAt b c next) h = given (At k) b a _ (of_at b a _ d h).0
content_of S x a k d _ h = absurd h

place_some : (S : Shape) (a : ℕ) → 0 < length (entries S (Stores a)) → 0 < length (entries S (WriteIndex a))
place_some S a h =
    let d = some_of (entries S (Stores a)) h in
    let r = of_each (effect S (Stores a)) (state_count S) d.0 d.1 in
    let e = place_of S (Into r.0) (At r.0) a r.0 d.0 (form_at S r.0) r.2 in
    some_length (entries S (WriteIndex a)) e.0 (has_each (effect S (WriteIndex a)) (state_count S) r.0 e.0 r.1 e.1)

content_some : (S : Shape) (a : ℕ) → 0 < length (entries S (Stores a)) → 0 < length (entries S (WriteData a))
content_some S a h =
    let d = some_of (entries S (Stores a)) h in
    let r = of_each (effect S (Stores a)) (state_count S) d.0 d.1 in
    let e = content_of S (Into r.0) a r.0 d.0 (form_at S r.0) r.2 in
    some_length (entries S (WriteData a)) e.0 (has_each (effect S (WriteData a)) (state_count S) r.0 e.0 r.1 e.1)

module _ (S : Shape) where
  any_there : (all : List Element) (c : Choice) → ((d : Entry) → Has (entries S c) d → IsNet all d.condition 1) → FitInOrder all (any S c)
  any_there all c h = any_fits all (front c) (entries S c) h

  pick_there : (all : List Element) (w : ℕ) (c : Choice) → IsTrue (is_width w) → ((d : Entry) → Has (entries S c) d → EntryFits all w d) → FitInOrder all (pick S w c)
  pick_there all w c k h = pick_fits all w (front c) (entries S c) k h

  -- the result of a choice, and 0 where there is none
  result_by : (all : List Element) (w : ℕ) (f : Name) (es : List Entry) → (0 < length es → IsNet all (choice f es) w) → ValueIs all w (result_of w f es)
  result_by all w f [] h = (refl, pow_pos w)
  result_by all w f (e ∷ es) h = h (omega arith)

  any_result : (all : List Element) (c : Choice) → IsAmong (any S c) all → ValueIs all 1 (result S 1 c)
  any_result all c among = result_by all 1 (front c) (entries S c) (λ l. any_root all (front c) (entries S c) l among)

  pick_result : (all : List Element) (w : ℕ) (c : Choice) → IsAmong (pick S w c) all → ValueIs all w (result S w c)
  pick_result all w c among = result_by all w (front c) (entries S c) (λ l. pick_root all w (front c) (entries S c) l among)

  module _ (T : IsTask S) (all : List Element) (before : AreBefore S all) where
    -- what resets a register, behind whether a state clears it
    reset_fits : (es : List Entry) (r : ℕ) (there : List Element) → IsAmong (any_elements (front (Clear r)) es) there → FitInOrder there (reset_by r es)
    reset_fits [] r there among = tt
    reset_fits (e ∷ es) r there among = ((refl, (inl refl, any_root there (front (Clear r)) (e ∷ es) (omega arith) among)), tt)

    variable_choices_fit : (more : List Element) (r : ℕ) → FitInOrder (all ++ more) (variable_choices S r)
    variable_choices_fit more r =
        let w = bits_of (register_kind S r) in
        let fits = to_set S T all before r in
        let zero = any S (Clear r) in
        let reset = reset_by r (entries S (Clear r)) in
        let set = any S (Set r) in
        let next = pick S w (NextValue r) in
        fit_behind all more (variable_choices S r)
        (parts_fit all (zero ++ reset ++ set) next
        (parts_fit all (zero ++ reset) set
        (parts_fit all zero reset (any_there all (Clear r) (λ d h. (to_clear S T all before r d h).0)) (reset_fits (entries S (Clear r)) r (all ++ zero) (right_among all zero)))
        (fit_behind all (zero ++ reset) set (any_there all (Set r) (λ d h. (fits d h).0))))
        (fit_behind all (zero ++ reset ++ set) next (pick_there all w (NextValue r) (kind_wide (register_kind S r)) fits)))

    array_choices_fit : (more : List Element) (a : ℕ) → FitInOrder (all ++ more) (array_choices S a)
    array_choices_fit more a =
        let w = bits_of (array_kind S a) in
        let i = index_bits S a in
        let stores = any S (Stores a) in
        let place = pick S i (WriteIndex a) in
        let content = pick S w (WriteData a) in
        fit_behind all more (array_choices S a)
        (parts_fit all (stores ++ place) content
        (parts_fit all stores place (any_there all (Stores a) (λ d h. (to_store S T all before a d h).0)) (fit_behind all stores place (pick_there all i (WriteIndex a) (index_wide S T a) (to_place S T all before a))))
        (fit_behind all (stores ++ place) content (pick_there all w (WriteData a) (kind_wide (array_kind S a)) (to_content S T all before a))))

    pub choices_fit : FitInOrder all (choices S)
    choices_fit =
        let first = pick S (state_bits S) ToState in
        let second = any S ToEnd in
        let variables = each (variable_choices S) (length S.registers) in
        let arrays = each (array_choices S) (length S.arrays) in
        parts_fit all (first ++ second ++ variables) arrays
        (parts_fit all (first ++ second) variables
        (parts_fit all first second (pick_there all (state_bits S) ToState (state_wide S T) (to_state S T all before)) (fit_behind all first second (any_there all ToEnd (λ d h. (to_end S T all before d h).0))))
        (each_part_fits (all ++ (first ++ second)) (variable_choices S) (length S.registers) (λ r l. variable_choices_fit (first ++ second) r)))
        (each_part_fits (all ++ (first ++ second ++ variables)) (array_choices S) (length S.arrays) (λ a l. array_choices_fit (first ++ second ++ variables) a))

    -- ---- outputs

    written_fits : (s : ℕ) → FitInOrder all (written S s)
    written_fits s =
        let w = bits_of (stream_kind S s) + 1 in
        let puts = any S (Puts s) in
        let token = pick S w (Token s) in
        let Z = all ++ (puts ++ token) in
        let wr = Output 1 (name (Wr s)) (result S 1 (Puts s)) in
        let Y = Z ++ wr ∷ [] in
        let fits = to_token S T all before s in
        parts_fit all (puts ++ token) _
        (parts_fit all puts token (any_there all (Puts s) (λ d h. (fits d h).0)) (fit_behind all puts token (pick_there all w (Token s) (token_wide (stream_kind S s)) fits))) (
          (refl, any_result Z (Puts s) (λ d h. has_right all (puts ++ token) d (has_left puts token d h))),
          ((token_wide (stream_kind S s), pick_result Y w (Token s) (λ d h. has_left Z (wr ∷ []) d (has_right all (puts ++ token) d (has_right puts token d h)))), tt),
        )

    taken_fits : (s : ℕ) → FitInOrder all (taken S s)
    taken_fits s =
        let takes = any S (Takes s) in
        parts_fit all takes _ (any_there all (Takes s) (λ d h. (to_take S T all before s d h).0)) ((refl, any_result (all ++ takes) (Takes s) (right_among all takes)), tt)

    stream_outputs_fit : (s : ℕ) (b : Bool) → FitInOrder all (by_end (written S s) (taken S s) b)
    stream_outputs_fit s true = written_fits s
    stream_outputs_fit s false = taken_fits s

    memory_outputs_fit : (m : ℕ) → FitInOrder all (memory_outputs S m)
    memory_outputs_fit m =
        let w = bits_of (memory_kind S m) in
        let asks = pick S 64 (Address m) in
        let saves = any S (StoreEnable m) in
        let cell_of = pick S w (Data m) in
        let trees = asks ++ saves ++ cell_of in
        let Z = all ++ trees in
        let addr = Output 64 (name (Addr m)) (result S 64 (Address m)) in
        let wdata = Output w (name (Wdata m)) (result S w (Data m)) in
        let Y = Z ++ addr ∷ [] in
        let X = Y ++ wdata ∷ [] in
        let fits = to_save S T all before m in
        let in_Z = λ (d : Element) (h : Has trees d). has_right all trees d h in
        parts_fit all trees _
        (parts_fit all (asks ++ saves) cell_of
        (parts_fit all asks saves (pick_there all 64 (Address m) refl (to_ask S T all before m)) (fit_behind all asks saves (any_there all (StoreEnable m) (λ d h. (fits d h).0))))
        (fit_behind all (asks ++ saves) cell_of (pick_there all w (Data m) (kind_wide (memory_kind S m)) fits))) (
          (refl, pick_result Z 64 (Address m) (λ d h. in_Z d (has_left (asks ++ saves) cell_of d (has_left asks saves d h)))),
          (
            (kind_wide (memory_kind S m), pick_result Y w (Data m) (λ d h. has_left Z (addr ∷ []) d (in_Z d (has_right (asks ++ saves) cell_of d h)))),
            ((refl, any_result X (StoreEnable m) (λ d h. has_left Y (wdata ∷ []) d (has_left Z (addr ∷ []) d (in_Z d (has_left (asks ++ saves) cell_of d (has_right asks saves d h)))))), tt),
          ),
        )

    pub outputs_fit : FitInOrder all (outputs S)
    outputs_fit =
        let done = Output 1 (name Done) (Plain (net Ended)) in
        let streams = each (stream_outputs S) (length S.streams) in
        let memories = each (memory_outputs S) (length S.memories) in
        let one = all ++ done ∷ [] in (
          (refl, ended_net S all before.kept),
          parts_fit one streams memories (each_part_fits one (stream_outputs S) (length S.streams) (λ s l. fit_behind all (done ∷ []) (stream_outputs S s) (stream_outputs_fit s (writes S s))))
              (each_part_fits (one ++ streams) (memory_outputs S) (length S.memories) (λ m l. fit_behind one streams (memory_outputs S m) (fit_behind all (done ∷ []) (memory_outputs S m) (memory_outputs_fit m)))),
        )

    -- ---- blocks

    module _ (chosen : IsAmong (choices S) all) where
      abbrev front_2 : List Element
      front_2 = pick S (state_bits S) ToState ++ any S ToEnd

      abbrev front_4 : List Element
      front_4 = front_2 ++ each (variable_choices S) (length S.registers)

      state_root : IsNet all (root S ToState) (state_bits S)
      state_root =
          pick_root all (state_bits S) (front ToState) (entries S ToState) some
          (λ d h. chosen d (has_left front_4 (each (array_choices S) (length S.arrays)) d (has_left front_2 (each (variable_choices S) (length S.registers)) d (has_left (pick S (state_bits S) ToState) (any S ToEnd) d h)))) where
            some : 0 < length (entries S ToState)
            some = some_length (entries S ToState) _ (has_each (effect S ToState) (state_count S) 0 _ T.some (inl refl))

      end_root : 0 < length (entries S ToEnd) → IsNet all (root S ToEnd) 1
      end_root l =
          any_root all (front ToEnd) (entries S ToEnd) l
          (λ d h. chosen d (has_left front_4 (each (array_choices S) (length S.arrays)) d (has_left front_2 (each (variable_choices S) (length S.registers)) d (has_right (pick S (state_bits S) ToState) (any S ToEnd) d h))))

      variable_among : (r : ℕ) → r < length S.registers → IsAmong (variable_choices S r) all
      variable_among r l d h =
          chosen d (has_left front_4 (each (array_choices S) (length S.arrays)) d (has_right front_2 (each (variable_choices S) (length S.registers)) d (has_each (variable_choices S) (length S.registers) r d l h)))

      array_among : (a : ℕ) → a < length S.arrays → IsAmong (array_choices S a) all
      array_among a l d h = chosen d (has_right front_4 (each (array_choices S) (length S.arrays)) d (has_each (array_choices S) (length S.arrays) a d l h))

      -- the net that resets a register
      reset_net : (all : List Element) (r : ℕ) (es : List Entry) → IsAmong (reset_by r es) all → IsNet all (reset_of r es) 1
      reset_net all r [] among = inl refl
      reset_net all r (e ∷ es) among = wire_net all 1 (name (Reset r)) _ (among _ (inl refl))

      -- a register's block
      register_fits : (w : ℕ) (reset x : Name) (first : Atom) (es : List Entry) (set : Name) (next : Atom) → IsNet all reset 1 → IsRegister all x w → AtomIs all w first
          → (0 < length es → IsNet all set 1 × AtomIs all w next) → FitInOrder all (Block (register_block reset x first es set next) ∷ [])
      register_fits w reset x first [] set next i h k more = ((refl, (i, ((refl, (w, h, k)), (tt, tt)))), tt)
      register_fits w reset x first (e ∷ es) set next i h k more =
          let m = more (omega arith) in
          ((refl, (i, ((refl, (w, h, k)), (tt, (m.0, ((refl, (w, h, m.1)), (tt, (tt, tt)))))))), tt)

      -- the first value of a register
      first_fits : (r n : ℕ) → n ≤ length S.scalars → AtomIs all (bits_of (register_kind S r)) (first_by S r n)
      first_fits r zero l = (refl, pow_pos (bits_of (register_kind S r)))
      first_fits r (suc n) l = chosen_by (first_fits r n (omega (arith, l))) (eqb (slice_index S.scalars n) r) refl where
        chosen_by : AtomIs all (bits_of (register_kind S r)) (first_by S r n) → (b : Bool) → eqb (slice_index S.scalars n) r ≡ b → AtomIs all (bits_of (register_kind S r)) (cond b (net (Scalar n)) (first_by S r n))
        chosen_by rest true e =
            subst (λ z. IsNet all (name (Scalar n)) (bits_of (register_kind S z))) (eqb-true (slice_index S.scalars n) r e)
            (input_net all (bits_of (register_kind S (slice_index S.scalars n))) (name (Scalar n)) (scalar_net S all before.ports n (omega (arith, l)) _ (inl refl)))
        chosen_by rest false e = rest

      variable_block_fits : (r : ℕ) → r < length S.registers → FitInOrder all (variable_block S r)
      variable_block_fits r l =
          let w = bits_of (register_kind S r) in
          let reset = reset_by r (entries S (Clear r)) in
          let early = any S (Clear r) ++ reset in
          register_fits w (reset_of r (entries S (Clear r))) (name (Variable r)) (first_value S r) (entries S (Set r)) (root S (Set r)) (NetAtom (root S (NextValue r)))
          (reset_net all r (entries S (Clear r)) (λ d h. variable_among r l d (has_left (early ++ any S (Set r)) (pick S w (NextValue r)) d (has_left early (any S (Set r)) d (has_right (any S (Clear r)) reset d h)))))
          (register_there all w (name (Variable r)) (variable_has S all before.kept r l)) (first_fits r (length S.scalars) (omega arith))
          (λ some. (
            any_root all (front (Set r)) (entries S (Set r)) some (λ d h. variable_among r l d (has_left (early ++ any S (Set r)) (pick S w (NextValue r)) d (has_right early (any S (Set r)) d h))),
            pick_root all w (front (NextValue r)) (entries S (NextValue r)) some (λ d h. variable_among r l d (has_right (early ++ any S (Set r)) (pick S w (NextValue r)) d h)),
          ))

      array_block_fits : (a : ℕ) → a < length S.arrays → FitInOrder all (array_block S a)
      array_block_fits a l =
          let w = bits_of (array_kind S a) in
          let i = index_bits S a in
          let stores = any S (Stores a) in
          let place = pick S i (WriteIndex a) in
          let content = pick S w (WriteData a) in
          unless_fits all (entries S (Stores a)) _
          (λ some. (
            (
              refl,
              (
                any_root all (front (Stores a)) (entries S (Stores a)) some (λ d h. array_among a l d (has_left (stores ++ place) content d (has_left stores place d h))),
                (
                  (
                    refl,
                    (
                      w,
                      array_in S all before.kept a l,
                      (i, pick_root all i (front (WriteIndex a)) (entries S (WriteIndex a)) (place_some S a some) (λ d h. array_among a l d (has_left (stores ++ place) content d (has_right stores place d h)))),
                      pick_root all w (front (WriteData a)) (entries S (WriteData a)) (content_some S a some) (λ d h. array_among a l d (has_right (stores ++ place) content d h)),
                    ),
                  ),
                  (tt, tt),
                ),
              ),
            ),
            tt,
          ))

      pub blocks_fit : FitInOrder all (blocks S)
      blocks_fit =
          let state = Block (reset_or (name StateNet) (Literal (state_bits S) 0) (NetAtom (root S ToState))) in
          let ended = Block (register_block rst (name Ended) (Literal 1 0) (entries S ToEnd) (root S ToEnd) (Literal 1 1)) in
          let variables = each (variable_block S) (length S.registers) in
          let arrays = each (array_block S) (length S.arrays) in
          let here : FitInOrder all (state ∷ []) =
          ((refl, (inl refl, ((refl, (state_bits S, register_there all (state_bits S) (name StateNet) (before.kept _ (inl refl)), (refl, pow_pos (state_bits S)))), (tt, ((refl, (state_bits S, register_there all (state_bits S) (name StateNet) (before.kept _ (inl refl)), state_root)), (tt, tt)))))), tt) in
          let there = register_fits 1 rst (name Ended) (Literal 1 0) (entries S ToEnd) (root S ToEnd) (Literal 1 1) (inl refl) (register_there all 1 (name Ended) (before.kept _ (inr (inl refl)))) (refl, omega arith) (λ some. (end_root some, (refl, omega arith))) in
          parts_fit all (state ∷ []) (ended ∷ variables ++ arrays) here
          (parts_fit (all ++ state ∷ []) (ended ∷ []) (variables ++ arrays) (fit_behind all (state ∷ []) (ended ∷ []) there)
          (parts_fit ((all ++ state ∷ []) ++ ended ∷ []) variables arrays
          (each_part_fits ((all ++ state ∷ []) ++ ended ∷ []) (variable_block S) (length S.registers)
          (λ r l. fit_behind (all ++ state ∷ []) (ended ∷ []) (variable_block S r) (fit_behind all (state ∷ []) (variable_block S r) (variable_block_fits r l))))
          (each_part_fits (((all ++ state ∷ []) ++ ended ∷ []) ++ variables) (array_block S) (length S.arrays)
          (λ a l. fit_behind ((all ++ state ∷ []) ++ ended ∷ []) variables (array_block S a) (fit_behind (all ++ state ∷ []) (ended ∷ []) (array_block S a) (fit_behind all (state ∷ []) (array_block S a) (array_block_fits a l)))))))
