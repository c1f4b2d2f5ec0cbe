-- What registers and memories have in the next cycle, after one more instance.
use Rattle.std.proofs.Common.{◌≡◌, ℕ, ◌+◌, ◌<◌, true, List, [], Option, Some, None, length, get_or, inl, inr, sym, ap, subst, ◌∙◌, arith}
use Rattle.std.specs.Prelude.{◌⊎◌, ◌≢◌, slice_get, is_some}
use Rattle.std.proofs.lemmas.Bool.{cases_lt}
use Rattle.std.proofs.lemmas.Option.{same_Some, slice_get_within}
use Rattle.vlog_tree.specs.declared.tree.Item.TheVariants.{Reg, Memory}
use Rattle.vlog_tree.specs.Form.{ModuleTree}
use Rattle.tapa_base.specs.Lists.{Has}
use Rattle.vlog_tree.specs.Flattened.{FlatNet}
use Rattle.vlog_tree.specs.Table.{declared, net_kind_of, net_kind_is_register}
use Rattle.vlog_tree.specs.Cycle.{Cycle, Sizes, Path, Holds, module_at, run_items}
use Rattle.tapa_base.proofs.Lists.{has_got, has_left, has_right, has_split, some_of}
use Rattle.vlog_run_laws.proofs.runs.Sizes.{declared_net_kind}
use Rattle.sim_tape.specs.declared.gates.Pair.{Pair}
use Rattle.sim_tape.specs.Operators.{Cells}
use Rattle.sim_tape.specs.Tape.{TapeTree, Extends}
use Rattle.sim_tape.specs.Solved.{IsSolved}
use Rattle.sim_tape.proofs.Growing.{solved_on}
use Rattle.sim_gates.specs.Nets.{pair_in}
use Rattle.sim_gates.specs.declared.writes.Store.{Store}
use Rattle.sim_gates.specs.Next.{cell_after, ShowsNext}
use Rattle.sim_flat.specs.Instances.{StandsAt, IsModuleOf}
use Rattle.sim_flat.specs.declared.flat.Flat.{Flat}
use Rattle.sim_flat.specs.Places.{DeclaredAt}
use Rattle.sim_flat.specs.Flat.{HasNumber}
use Rattle.sim_flat.proofs.Names.{place_is}
use Rattle.sim_design.specs.Valuations.{IsLawful, IsValuation}
use Rattle.sim_design.specs.States.{ShowsPlaced}
use Rattle.sim_design.proofs.Parts.{is_at, shows_nets}
use Rattle.sim_design.specs.declared.drafts.Commit.{Commit}
use Rattle.sim_design.specs.declared.drafts.Width.{Width}
use Rattle.sim_design.specs.Commits.{commits_of, commits_below}
use Rattle.sim_design.specs.Left.{own_pairs, AreLinesAdded}
use Rattle.sim_design.specs.Drafts.{IsCommitted, AreNext}
use Rattle.sim_design.specs.Below.{HasPlaces, IsNextOf, AreCellsOf, IsRegisterSlot, IsStoreBelow, AreOnce, AreNextBelow}
use Rattle.sim_design.proofs.Numbering.{tree_is}
use Rattle.sim_design.proofs.Ready.{conditions}
use Rattle.sim_design.proofs.Registers.{committed, committed_by, is_for, once_both, once_index, has_below, of_below, IsOf, is_of, once_below}
use Rattle.sim_design.proofs.Cells.{cells_both, cells_missed}
use Rattle.sim_design.proofs.Within.{pair_found, own_at, in_ms, same_instance, register_kind, registers_apart, net_here, apart, slot_here, not_before, alone}
use Rattle.tapa_base.proofs.Got.{all_at}

-- none yet
pub none_below : (ms : List ModuleTree) (top : ModuleTree) (f : Flat) (pairs memories : List (Option Pair)) (t : TapeTree) (commits : List Commit) (stores : List Store) → commits ≡ [] → stores ≡ [] → AreNextBelow ms top f pairs memories t commits stores 0
none_below ms top f pairs memories t commits stores e g = record {
  registers = λ number n m w p h early at has got. absurd (omega (arith, early));
  cells = λ number n m w count q h early at has got. absurd (omega (arith, early));
  slots = λ a has. absurd (subst (λ l. Has l a) e has);
  once = subst (λ l. AreOnce l) (sym e) tt;
  known = λ u has. absurd (subst (λ l. Has l u) g has);
}

slot_later : (ms : List ModuleTree) (top : ModuleTree) (f : Flat) (pairs : List (Option Pair)) (k number slot : ℕ) → IsRegisterSlot ms top f pairs k number slot → IsRegisterSlot ms top f pairs (k + 1) number slot
slot_later ms top f pairs k number slot s =
    let early : s.has_number.instance < k = s.early in
    let later : s.has_number.instance < k + 1 = omega (arith, early) in
    record { net = s.net; has_number = s.has_number; early = later; tree = s.tree; at = s.at; width = s.width; line = s.line; pair = s.pair; placed = s.placed; is = s.is }

store_later : (ms : List ModuleTree) (f : Flat) (memories : List (Option Pair)) (k : ℕ) (u : Store) → IsStoreBelow ms f memories k u → IsStoreBelow ms f memories (k + 1) u
store_later ms f memories k u s =
    let early : s.has_number.instance < k = s.early in
    let later : s.has_number.instance < k + 1 = omega (arith, early) in
    record { number = s.number; net = s.net; has_number = s.has_number; early = later; numbered = s.numbered }

module _ (ms : List ModuleTree) (top : ModuleTree) (f : Flat) (pairs memories : List (Option Pair)) (widths : List Width) (t0 : TapeTree) (places : HasPlaces ms top f pairs memories widths t0) where
  -- what the blocks of its instance leave for one net
  module _ (number : ℕ) (n : FlatNet) (h : HasNumber ms f number n) (m : ModuleTree) (at : module_at ms top n.0 ≡ Some m) where
    tree : h.at.tree ≡ m
    tree = tree_is ms top f places.flat number n m h at

    module_here : IsModuleOf ms f.instances.items h.instance m
    module_here = subst (λ (q : ModuleTree). IsModuleOf ms f.instances.items h.instance q) tree h.at.of_module

    declared_here : DeclaredAt m h.place n.1
    declared_here = subst (λ (q : ModuleTree). DeclaredAt q h.place n.1) tree h.at.declared_at

    place_low : h.place < length (declared m)
    place_low = slice_get_within (declared m) h.place declared_here.0 declared_here.1

    abbrev base : ℕ
    base = get_or f.first_net.items h.instance 0

    own_got : (all : List (Option Pair)) (p : Pair) → get_or all number None ≡ Some p → get_or (own_pairs base (declared m) all) h.place None ≡ Some p
    own_got all p got = own_at all base (declared m) h.place place_low ∙ ap (λ i. get_or all i None) (sym h.is) ∙ got

    found_in : (all : List (Option Pair)) (p : Pair) → get_or all h.place None ≡ Some p → pair_in (declared m) all n.1 ≡ Some p
    found_in all p got = pair_found (declared m) all n.1 h.place p (place_is ms places.flat.design.sound.names m (in_ms ms top f pairs memories widths t0 places n.0 m at) h.place n.1 declared_here) got

    declared_kind : (w : ℕ) → Has m.items (Reg w n.1) → net_kind_is_register declared_here.0.net_kind ≡ true
    declared_kind w has =
        let d = declared_here.0 in
        ap net_kind_is_register
        (sym (declared_net_kind m ms places.flat.design.sound.names (in_ms ms top f pairs memories widths t0 places n.0 m at) d (has_got (declared m) h.place d declared_here.1))
        ∙ ap (λ x. net_kind_of (declared m) x) declared_here.2 ∙ register_kind ms top f pairs memories widths t0 places n.0 m at w n.1 has)

    module _ (t : TapeTree) (commits more : List Commit) (stores more_stores : List Store) (added : AreLinesAdded (declared m) base m.items pairs memories t commits more stores more_stores) where
      shown : (cells : Cells) (ns : List ℕ) (c : Path → Cycle) (s : Sizes) → IsSolved t cells ns → IsValuation ms top c → ShowsPlaced ms f pairs c ns → IsLawful m s (c n.0)
          → ShowsNext (declared m) (own_pairs base (declared m) memories) added.next added.new_stores s (c n.0) (run_items s (c n.0) m.items (c n.0)) ns
      shown cells ns c s solved v shows lawful =
          added.left.value (apart ms top f pairs memories widths t0 places h.instance h.at.there n.0 h.at.stands m module_here) cells ns s (c n.0) solved
          (shows_nets ms f h.instance h.at.there n.0 h.at.stands m module_here top at c v s lawful pairs ns places.placed.only shows)
          (conditions ms places.flat.design.sound m (in_ms ms top f pairs memories widths t0 places n.0 m at))

      -- a register
      register : (w : ℕ) (p : Pair) → Has m.items (Reg w n.1) → get_or pairs number None ≡ Some p → (q : Pair) × IsCommitted more p q × IsNextOf ms top f pairs t n m q
      register w p has got =
          let own = own_pairs base (declared m) pairs in
          let here : get_or own h.place None ≡ Some p = own_got pairs p got in
          let q = some_of (get_or added.next h.place None) (added.left.same h.place ∙ ap is_some here) in
          let new = commits_below (declared m) own added.next (length (declared m)) in (
            q.0,
            committed_by (commits_of p q.0) more p q.0
                (λ a in_new. subst (λ l. Has l a) (sym added.commits_are)
                (has_right commits new a (has_below (declared m) own added.next (length (declared m)) h.place a place_low
                (subst (λ l. Has l a) (sym (is_for (slice_get (declared m) h.place) (get_or own h.place None) (get_or added.next h.place None) declared_here.0 p q.0 declared_here.1 (declared_kind w has) here q.1)) in_new))))
                (committed p q.0),
            (λ cells ns c s solved v shows lawful. (shown cells ns c s solved v shows lawful).nets n.1 q.0 (found_in added.next q.0 q.1)),
          )

      -- the cells of a memory, where earlier stores are into others
      memory : (w count : ℕ) (q : Pair) → Has m.items (Memory w n.1 count) → get_or memories number None ≡ Some q → ((u : Store) → Has stores u → u.memory.low ≢ q.low) → AreCellsOf ms top f pairs t n m count q more_stores
      memory w count q has got missed cells ns c s solved v shows lawful a =
          let cell = (c n.0).cell n.1 a in
          let sized : s.cells n.1 ≡ count = (all_at (Holds s (c n.0)) m.items (Memory w n.1 count) lawful.lines has).1 in
          (shown cells ns c s solved v shows lawful).cells n.1 q (found_in (own_pairs base (declared m) memories) q (own_got memories q got)) a
          ∙ ap (λ i. cell_after ns i q a added.new_stores cell) sized
          ∙ ap (λ x. cell_after ns count q a added.new_stores x) (sym (cells_missed ns count q a stores cell missed))
          ∙ sym (cells_both ns count q a stores added.new_stores cell)
          ∙ ap (λ l. cell_after ns count q a l cell) (sym added.stores_are)

  -- one more instance
  module _ (k : ℕ) (low : k < length f.instances.items) (path : Path) (stands : StandsAt ms f.instances.items k path) (m : ModuleTree) (is : IsModuleOf ms f.instances.items k m)
      (s t : TapeTree) (grown : Extends s t) (commits more : List Commit) (stores more_stores : List Store)
      (added : AreLinesAdded (declared m) (get_or f.first_net.items k 0) m.items pairs memories t commits more stores more_stores) (old : AreNextBelow ms top f pairs memories s commits stores k) where
    abbrev start : ℕ
    start = get_or f.first_net.items k 0

    abbrev own : List (Option Pair)
    own = own_pairs start (declared m) pairs

    abbrev new : List Commit
    new = commits_below (declared m) own added.next (length (declared m))

    added_at : (number : ℕ) (n : FlatNet) (h : HasNumber ms f number n) (l : ModuleTree) → module_at ms top n.0 ≡ Some l → h.instance ≡ k → AreLinesAdded (declared l) (get_or f.first_net.items h.instance 0) l.items pairs memories t commits more stores more_stores
    added_at number n h l there e =
        let here : IsModuleOf ms f.instances.items k l = subst (λ i. IsModuleOf ms f.instances.items i l) e (module_here number n h l there) in
        let same : l ≡ m = same_Some l m (sym here ∙ is) in
        subst (λ i. AreLinesAdded (declared l) (get_or f.first_net.items i 0) l.items pairs memories t commits more stores more_stores) (sym e)
        (subst (λ (q : ModuleTree). AreLinesAdded (declared q) (get_or f.first_net.items k 0) q.items pairs memories t commits more stores more_stores) (sym same) added)

    kept : (a : Commit) → Has commits a → Has more a
    kept a has = subst (λ l. Has l a) (sym added.commits_are) (has_left commits new a has)

    register_by : (number : ℕ) (n : FlatNet) (l : ModuleTree) (w : ℕ) (p : Pair) (h : HasNumber ms f number n) → (h.instance < k) ⊎ (h.instance ≡ k) → module_at ms top n.0 ≡ Some l → Has l.items (Reg w n.1) → get_or pairs number None ≡ Some p
        → (q : Pair) × IsCommitted more p q × IsNextOf ms top f pairs t n l q
    register_by number n l w p h (inl lt) there has got =
        let r = old.registers number n l w p h lt there has got in
        (r.0, committed_by commits more p r.0 kept r.1, (λ cells ns c z solved v shows lawful. r.2 cells ns c z (solved_on s t grown cells ns solved) v shows lawful))
    register_by number n l w p h (inr e) there has got = register number n h l there t commits more stores more_stores (added_at number n h l there e) w p has got

    -- what this instance stores is into no memory of an earlier one
    new_other : (number : ℕ) (n : FlatNet) (q : Pair) (h : HasNumber ms f number n) → h.instance < k → get_or memories number None ≡ Some q → (u : Store) → Has added.new_stores u → u.memory.low ≢ q.low
    new_other number n q h lt got u has same =
        let x = added.left.known u has in
        let a = is_at ms f k low path stands m is memories x.0 u.memory x.1 in
        let one : start + a.place ≡ number = places.numbered.own (start + a.place) number u.memory q a.got got same in
        let here : k ≡ h.instance = same_instance ms top f pairs memories widths t0 places (start + a.place) number (path, x.0) n (net_here ms top f pairs memories widths t0 places k low path stands m is a.place x.0 a.here) h one in
        absurd (omega (arith, here, lt))

    old_other : (number : ℕ) (n : FlatNet) (q : Pair) (h : HasNumber ms f number n) → h.instance ≡ k → get_or memories number None ≡ Some q → (u : Store) → Has stores u → u.memory.low ≢ q.low
    old_other number n q h e got u has same =
        let r = old.known u has in
        let one : r.number ≡ number = places.numbered.own r.number number u.memory q r.numbered got same in
        let here : r.has_number.instance ≡ h.instance = same_instance ms top f pairs memories widths t0 places r.number number r.net n r.has_number h one in
        let early : r.has_number.instance < k = r.early in
        absurd (omega (arith, here, early, e))

    cells_by : (number : ℕ) (n : FlatNet) (l : ModuleTree) (w count : ℕ) (q : Pair) (h : HasNumber ms f number n) → (h.instance < k) ⊎ (h.instance ≡ k) → module_at ms top n.0 ≡ Some l → Has l.items (Memory w n.1 count) → get_or memories number None ≡ Some q
        → AreCellsOf ms top f pairs t n l count q more_stores
    cells_by number n l w count q h (inl lt) there has got cells ns c z solved v shows lawful a =
        let cell = (c n.0).cell n.1 a in
        old.cells number n l w count q h lt there has got cells ns c z (solved_on s t grown cells ns solved) v shows lawful a
        ∙ sym (cells_missed ns count q a added.new_stores (cell_after ns count q a stores cell) (new_other number n q h lt got))
        ∙ sym (cells_both ns count q a stores added.new_stores cell)
        ∙ ap (λ l. cell_after ns count q a l cell) (sym added.stores_are)
    cells_by number n l w count q h (inr e) there has got cells ns c z solved v shows lawful a =
        memory number n h l there t commits more stores more_stores (added_at number n h l there e) w count q has got (old_other number n q h e got) cells ns c z solved v shows lawful a

    either : (i : ℕ) → i < k + 1 → (i < k) ⊎ (i ≡ k)
    either i early = elim (cases_lt i k) [ inl lt ↦ inl lt | inr ge ↦ inr (omega (arith, early, ge)) ]

    slot_by : (j : ℕ) (a : Commit) → IsOf (declared m) own added.next j a → IsRegisterSlot ms top f pairs (k + 1) (start + j) a.slot
    slot_by j a o = slot_here ms top f pairs memories widths t0 places k low path stands m is added.next j a o

    slots : (a : Commit) → Has more a → (number : ℕ) × IsRegisterSlot ms top f pairs (k + 1) number a.slot
    slots a has = elim (has_split commits new a (subst (λ l. Has l a) added.commits_are has)) [
      | inl l ↦ (let r = old.slots a l in (r.0, slot_later ms top f pairs k r.0 a.slot r.1))
      | inr r ↦ (let o = of_below (declared m) own added.next (length (declared m)) a r in (start + o.0, slot_by o.0 a (is_of (declared m) own added.next o.0 a o.2)))
    ]

    apart_here : (i j : ℕ) (a b : Commit) → IsOf (declared m) own added.next i a → IsOf (declared m) own added.next j b → i ≢ j → a.slot ≢ b.slot
    apart_here i j a b o r ne =
        registers_apart ms top f pairs memories widths t0 places (k + 1) (k + 1) (start + i) (start + j) a.slot b.slot (slot_by i a o) (slot_by j b r)
        (λ e. let same : start + i ≡ start + j = e in let one : i ≡ j = omega (arith, same) in ne one)

    apart_before : (a b : Commit) → Has commits a → Has new b → a.slot ≢ b.slot
    apart_before a b has is_new =
        let x = old.slots a has in
        let r = of_below (declared m) own added.next (length (declared m)) b is_new in
        let o = is_of (declared m) own added.next r.0 b r.2 in
        registers_apart ms top f pairs memories widths t0 places k (k + 1) x.0 (start + r.0) a.slot b.slot x.1 (slot_by r.0 b o)
        (not_before ms top f pairs memories widths t0 places k low path stands m is added.next r.0 b o x.0 a.slot x.1)

    once : AreOnce more
    once =
        subst (λ l. AreOnce l) (sym added.commits_are)
        (once_both commits new old.once
        (once_below (declared m) own added.next (alone ms top f pairs memories widths t0 places k low path stands m is) apart_here (length (declared m))) apart_before)

    known : (u : Store) → Has more_stores u → IsStoreBelow ms f memories (k + 1) u
    known u has = elim (has_split stores added.new_stores u (subst (λ l. Has l u) added.stores_are has)) [
      | inl l ↦ store_later ms f memories k u (old.known u l)
      | inr r ↦
          let x = added.left.known u r in
          let a = is_at ms f k low path stands m is memories x.0 u.memory x.1 in
          let early : k < k + 1 = omega arith in
          record { number = start + a.place; net = (path, x.0); has_number = net_here ms top f pairs memories widths t0 places k low path stands m is a.place x.0 a.here; early = early; numbered = a.got }
    ]

    pub one_more : AreNextBelow ms top f pairs memories t more more_stores (k + 1)
    one_more = record {
      registers = λ number n l w p h early there has got. register_by number n l w p h (either h.instance early) there has got;
      cells = λ number n l w count q h early there has got. cells_by number n l w count q h (either h.instance early) there has got;
      slots = slots;
      once = once;
      known = known;
    }

  -- all instances
  pub are_next : (t : TapeTree) (commits : List Commit) (stores : List Store) → AreNextBelow ms top f pairs memories t commits stores (length f.instances.items) → AreNext ms top f pairs memories t commits stores
  are_next t commits stores b = record {
    registers = λ number n m w p h at has got. b.registers number n m w p h h.at.there at has got;
    cells = λ number n m w count q h at has got. b.cells number n m w count q h h.at.there at has got;
    slots = λ a has. (let r = b.slots a has in record {
      number = r.0;
      net = r.1.net;
      has_number = r.1.has_number;
      tree = r.1.tree;
      at = r.1.at;
      width = r.1.width;
      line = r.1.line;
      pair = r.1.pair;
      placed = r.1.placed;
      is = elim r.1.is [ inl e ↦ inl e | inr e ↦ inr e.0 ];
    });
    once = once_index commits b.once;
    known = λ u has. (let r = b.known u has in (r.number, r.numbered));
  }
