-- The nets and memories of one instance among those of a flattened design.
use Rattle.std.proofs.Common.{◌≡◌, ℕ, ◌+◌, ◌-◌, ◌^◌, ◌<◌, ◌≤◌, Bool, true, false, cond, List, Option, Some, None, length, get_or, take, drop, inl, refl, sym, ap, subst, ◌∙◌, map, length-take, arith}
use Rattle.std.specs.Prelude.{IsSome, is_some, nat_lt, min}
use Rattle.std.proofs.Math.Pow.{pow_pos}
use Rattle.std.proofs.lemmas.Bool.{ltb-true, false≢true}
use Rattle.std.proofs.lemmas.List.{get_or-take, get_or-drop, get_or_past}
use Rattle.std.proofs.lemmas.Option.{slice_get-get_or}
use Rattle.vlog_tree.specs.declared.tree.Item.TheVariants.{Memory}
use Rattle.vlog_tree.specs.declared.table.Declaration.{Declaration}
use Rattle.vlog_tree.specs.declared.table.NetKind.{NetKind}
use Rattle.vlog_tree.specs.declared.table.NetKind.TheVariants.{MemoryArray, Unknown}
use Rattle.vlog_tree.specs.Form.{ModuleTree}
use Rattle.tapa_base.specs.Lists.{Has}
use Rattle.vlog_tree.specs.Table.{Name, declared, declaration_name, find_name, unknown, net_kind_of, net_kind_is_read, bits_of, cells_of, first_violation}
use Rattle.vlog_tree.specs.V2.{v2_uses}
use Rattle.vlog_tree.specs.Cycle.{Cycle, Sizes, Path, Holds, and_then, module_at, read_cell}
use Rattle.vlog_scope.specs.NameTable.{places_from}
use Rattle.vlog_scope.proofs.Found.{found, missing, within}
use Rattle.vlog_run_laws.proofs.runs.Alone.{stands_for}
use Rattle.vlog_run_laws.proofs.runs.Sizes.{memory_item, has_line, width_held}
use Rattle.sim_tape.specs.declared.gates.Pair.{Pair}
use Rattle.sim_tape.specs.Operators.{Cells}
use Rattle.sim_gates.specs.Nets.{pair_in, ShowsNets, ShowsMemories}
use Rattle.sim_gates.proofs.Putting.{named}
use Rattle.sim_flat.specs.Instances.{StandsAt, IsModuleOf}
use Rattle.sim_flat.specs.declared.flat.Flat.{Flat}
use Rattle.sim_flat.specs.Places.{DeclaredAt}
use Rattle.sim_flat.specs.Flat.{HasNumber}
use Rattle.sim_design.specs.Valuations.{IsLawful, IsValuation}
use Rattle.sim_design.specs.States.{ShowsPlaced, HasCellsOf, AreRead, AreMemories}
use Rattle.tapa_base.proofs.Got.{all_at}

none_past : (pairs : List (Option Pair)) (base count j : ℕ) → count ≤ j → get_or (take count (drop base pairs)) j None ≡ None
none_past pairs base count j h =
    let l : length (take count (drop base pairs)) ≡ min count (length (drop base pairs)) = length-take count (drop base pairs) in
    get_or_past (take count (drop base pairs)) j None (omega arith)

-- a pair among those of a part
part_at : (pairs : List (Option Pair)) (base count j : ℕ) → j < count → get_or (take count (drop base pairs)) j None ≡ get_or pairs (base + j) None
part_at pairs base count j h = get_or-take count (drop base pairs) j None h ∙ get_or-drop base pairs j None

module _ (ms : List ModuleTree) (f : Flat) (k : ℕ) (low : k < length f.instances.items) (path : Path) (stands : StandsAt ms f.instances.items k path) (m : ModuleTree) (is : IsModuleOf ms f.instances.items k m) where
  abbrev pub base : ℕ
  base = get_or f.first_net.items k 0

  abbrev pub part : List (Option Pair) → List (Option Pair)
  part pairs = take (length (declared m)) (drop base pairs)

  -- the name at a place has this number
  pub numbered : (j : ℕ) (x : Name) → DeclaredAt m j x → HasNumber ms f (base + j) (path, x)
  numbered j x d = record { instance = k; place = j; at = record { there = low; stands = stands; tree = m; of_module = is; declared_at = d }; is = refl }

  -- a pair of a name, with the name's number
  pub record IsAt (pairs : List (Option Pair)) (x : Name) (p : Pair) : Type 0 where
    pub place : ℕ
    pub here : DeclaredAt m place x
    pub got : get_or pairs (base + place) None ≡ Some p

  -- the place of a name
  pub declared_here : (x : Name) (q : ℕ × Bool) → places_from 0 (map declaration_name (declared m)) x ≡ Some q → DeclaredAt m q.0 x
  declared_here x q e =
      let inside : q.0 < length (declared m) = within (declared m) x q.0 q.1 e in
      let d : Declaration = get_or (declared m) q.0 unknown in
      let z : q.0 - 0 ≡ q.0 = omega arith in
      let it : find_name (declared m) x ≡ d = (found 0 (declared m) x q.0 q.1 e).here ∙ ap (λ n. get_or (declared m) n unknown) z in
      (d, slice_get-get_or (declared m) q.0 unknown inside, ap (λ (d : Declaration). d.name) (sym it) ∙ named 0 (declared m) x q.0 q.1 e)

  there_by : (pairs : List (Option Pair)) (x : Name) (test : NetKind → Bool) → test Unknown ≡ false → test (net_kind_of (declared m) x) ≡ true → ((number : ℕ) → HasNumber ms f number (path, x) → IsSome (get_or pairs number None))
      → (o : Option (ℕ × Bool)) → places_from 0 (map declaration_name (declared m)) x ≡ o → IsSome (and_then o (λ (q : ℕ × Bool). get_or (part pairs) q.0 None))
  there_by pairs x test none h all None e =
      let unknown_kind : net_kind_of (declared m) x ≡ Unknown = ap (λ (d : Declaration). d.net_kind) (missing 0 (declared m) x e).here in
      absurd (false≢true (sym none ∙ ap test (sym unknown_kind) ∙ h))
  there_by pairs x test none h all (Some q) e =
      ap is_some (part_at pairs base (length (declared m)) q.0 (within (declared m) x q.0 q.1 e)) ∙ all (base + q.0) (numbered q.0 x (declared_here x q e))

  -- a name that stands for something has a pair where its number has one
  pub there : (pairs : List (Option Pair)) (x : Name) (test : NetKind → Bool) → test Unknown ≡ false → test (net_kind_of (declared m) x) ≡ true → ((number : ℕ) → HasNumber ms f number (path, x) → IsSome (get_or pairs number None)) → IsSome (pair_in (declared m) (part pairs) x)
  there pairs x test none h all = there_by pairs x test none h all (places_from 0 (map declaration_name (declared m)) x) refl

  at_place : (pairs : List (Option Pair)) (x : Name) (p : Pair) (o : Option (ℕ × Bool)) → places_from 0 (map declaration_name (declared m)) x ≡ o → and_then o (λ (q : ℕ × Bool). get_or (part pairs) q.0 None) ≡ Some p → IsAt pairs x p
  at_place pairs x p None e h = cc
  at_place pairs x p (Some q) e h =
      record {
        place = q.0;
        here = declared_here x q e;
        got = sym (part_at pairs base (length (declared m)) q.0 (within (declared m) x q.0 q.1 e)) ∙ h;
      }

  pub is_at : (pairs : List (Option Pair)) (x : Name) (p : Pair) → pair_in (declared m) (part pairs) x ≡ Some p → IsAt pairs x p
  is_at pairs x p e = at_place pairs x p (places_from 0 (map declaration_name (declared m)) x) refl e

  module _ (top : ModuleTree) (at : module_at ms top path ≡ Some m) (c : Path → Cycle) (valuation : IsValuation ms top c) (s : Sizes) (lawful : IsLawful m s (c path)) where
    -- the pairs of an instance show its numbers in a cycle
    pub shows_nets : (pairs : List (Option Pair)) (ns : List ℕ)
        → AreRead ms top f pairs
        → ShowsPlaced ms f pairs c ns → ShowsNets (declared m) (part pairs) s (c path) ns
    shows_nets pairs ns only shows = record {
      value = λ x p e. let a = is_at pairs x p e in shows (base + a.place) (path, x) p (numbered a.place x a.here) a.got;
      fits = λ x p e.
          let a = is_at pairs x p e in
          let read = only (base + a.place) (path, x) m p (numbered a.place x a.here) at a.got in
          (valuation.fits path m at).nets x read.0 read.1;
      width = λ x p e.
          let a = is_at pairs x p e in
          let read = only (base + a.place) (path, x) m p (numbered a.place x a.here) at a.got in
          width_held m s (c path) lawful.ports lawful.lines x net_kind_is_read refl refl read.0;
    }

    module _ (names : first_violation (v2_uses ms) ≡ None) (in_ms : Has ms m) where
      cells_counted : (w : ℕ) (x : Name) (n : ℕ) → Has m.items (Memory w x n) → cells_of (declared m) x ≡ n
      cells_counted w x n has =
          let d : Declaration = record { name = x; net_kind = MemoryArray; bits = w; cells = n } in
          ap (λ (d : Declaration). d.cells) (stands_for ms names m in_ms d (has_line m ms names in_ms (Memory w x n) has d (inl refl)))

      cells_wide : (w : ℕ) (x : Name) (n : ℕ) → Has m.items (Memory w x n) → bits_of (declared m) x ≡ w
      cells_wide w x n has =
          let d : Declaration = record { name = x; net_kind = MemoryArray; bits = w; cells = n } in
          ap (λ (d : Declaration). d.bits) (stands_for ms names m in_ms d (has_line m ms names in_ms (Memory w x n) has d (inl refl)))

      sized : (w : ℕ) (x : Name) (n : ℕ) → Has m.items (Memory w x n) → s.cells x ≡ n
      sized w x n has = (all_at (Holds s (c path)) m.items (Memory w x n) lawful.lines has).1

      read_fits : (w : ℕ) (x : Name) (n a : ℕ) → Has m.items (Memory w x n) → (b : Bool) → nat_lt a n ≡ b → cond b ((c path).cell x a) 0 < 2 ^ w
      read_fits w x n a has true e = (valuation.fits path m at).cells w x n has a (ltb-true a n e)
      read_fits w x n a has false e = pow_pos w

      -- the memories of an instance show its cells in a cycle
      pub shows_memories : (memories : List (Option Pair)) (cells : Cells)
          → AreMemories ms top f memories → HasCellsOf ms top f memories c cells
          → ShowsMemories (declared m) (part memories) s (c path) cells
      shows_memories memories cells only shows = record {
        value = λ x q e a.
            let i = is_at memories x q e in
            let t = memory_item m x (only (base + i.place) (path, x) m q (numbered i.place x i.here) at i.got) in
            ap (λ n. cond (nat_lt a n) ((c path).cell x a) 0) (sized t.0 x t.1 t.2)
            ∙ shows.inside (base + i.place) (path, x) q m t.0 t.1 (numbered i.place x i.here) at t.2 i.got a;
        fits = λ x q e a.
            let i = is_at memories x q e in
            let t = memory_item m x (only (base + i.place) (path, x) m q (numbered i.place x i.here) at i.got) in
            subst (λ w. read_cell s (c path) x a < 2 ^ w) (sym (cells_wide t.0 x t.1 t.2))
            (subst (λ n. cond (nat_lt a n) ((c path).cell x a) 0 < 2 ^ t.0) (sym (sized t.0 x t.1 t.2)) (read_fits t.0 x t.1 a t.2 (nat_lt a t.1) refl));
        count = λ x q e.
            let i = is_at memories x q e in
            let t = memory_item m x (only (base + i.place) (path, x) m q (numbered i.place x i.here) at i.got) in
            sized t.0 x t.1 t.2 ∙ sym (cells_counted t.0 x t.1 t.2);
      }
