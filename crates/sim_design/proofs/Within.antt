-- The nets and memories of one instance of a design that has its places.
use Rattle.std.proofs.Common.{◌≡◌, ℕ, ◌+◌, ◌<◌, ◌≤◌, Bool, true, List, Option, Some, None, length, get_or, drop, map, inl, inr, refl, sym, ap, ◌∙◌, arith}
use Rattle.std.specs.Prelude.{◌⊎◌, ◌≢◌, slice_get, is_some, option_map, IsSome}
use Rattle.std.specs.List.{AllByRecursion}
use Rattle.std.proofs.lemmas.List.{get_or-take, get_or-drop}
use Rattle.std.proofs.lemmas.Option.{same_Some, slice_get_within}
use Rattle.vlog_tree.specs.declared.tree.Item.TheVariants.{Reg}
use Rattle.vlog_tree.specs.declared.table.Declaration.{Declaration}
use Rattle.vlog_tree.specs.declared.table.NetKind.TheVariants.{Register}
use Rattle.vlog_tree.specs.Form.{ModuleTree, IsModule}
use Rattle.tapa_base.specs.Lists.{Has}
use Rattle.vlog_tree.specs.Flattened.{FlatNet}
use Rattle.vlog_tree.specs.Table.{Name, declared, declaration_name, net_kind_of, net_kind_is_read, net_kind_is_register, net_kind_is_memory}
use Rattle.vlog_tree.specs.Cycle.{Path, and_then, module_at}
use Rattle.tapa_base.proofs.Lists.{has_got}
use Rattle.vlog_scope.specs.NameTable.{places_from}
use Rattle.vlog_run_laws.proofs.runs.Alike.{memory_is}
use Rattle.vlog_run_laws.proofs.runs.Sizes.{memory_item, register_item, declared_net_kind, has_line}
use Rattle.vlog_run_laws.proofs.runs.Settled.{module_in}
use Rattle.sim_tape.specs.declared.gates.Pair.{Pair}
use Rattle.sim_tape.specs.Tape.{TapeTree}
use Rattle.sim_gates.specs.Nets.{pair_in}
use Rattle.sim_gates.specs.Next.{AreApart}
use Rattle.sim_gates.specs.Ready.{IsReady}
use Rattle.sim_flat.specs.Instances.{StandsAt, IsModuleOf}
use Rattle.sim_flat.specs.declared.flat.Flat.{Flat}
use Rattle.sim_flat.specs.Places.{place_in, DeclaredAt}
use Rattle.sim_flat.specs.Flat.{IsFlat, HasNumber}
use Rattle.sim_flat.proofs.Standing.{module_of, in_top}
use Rattle.sim_design.specs.States.{IsFree}
use Rattle.sim_design.specs.Given.{HaveOwnSlots}
use Rattle.sim_design.proofs.Parts.{there, is_at}
use Rattle.sim_design.specs.declared.drafts.Width.{Width}
use Rattle.sim_design.specs.declared.drafts.Commit.{Commit}
use Rattle.sim_design.specs.Left.{own_pairs}
use Rattle.sim_design.specs.Below.{HasPlaces, IsRegisterSlot}
use Rattle.sim_design.proofs.Ready.{register_is, all_ready}
use Rattle.sim_design.proofs.Registers.{IsSlot, IsOf}
use Rattle.tapa_base.proofs.Got.{all_at}

pair_by : (pairs : List (Option Pair)) (j : ℕ) (p : Pair) (o : Option (ℕ × Bool)) → option_map (λ (q : ℕ × Bool). q.0) o ≡ Some j → get_or pairs j None ≡ Some p → and_then o (λ (q : ℕ × Bool). get_or pairs q.0 None) ≡ Some p
pair_by pairs j p None e got = cc
pair_by pairs j p (Some q) e got = ap (λ i. get_or pairs i None) (same_Some q.0 j e) ∙ got

-- the pair at the place of a name
pub pair_found : (ds : List Declaration) (pairs : List (Option Pair)) (x : Name) (j : ℕ) (p : Pair) → place_in ds x ≡ Some j → get_or pairs j None ≡ Some p → pair_in ds pairs x ≡ Some p
pair_found ds pairs x j p e got = pair_by pairs j p (places_from 0 (map declaration_name ds) x) e got

-- a pair of an instance among those of all
pub own_at : (pairs : List (Option Pair)) (base : ℕ) (ds : List Declaration) (j : ℕ) → j < length ds → get_or (own_pairs base ds pairs) j None ≡ get_or pairs (base + j) None
own_at pairs base ds j h = get_or-take (length ds) (drop base pairs) j None h ∙ get_or-drop base pairs j None

-- slots of pairs that have none in common
pub slots_differ : (p q : Pair) (x y : ℕ) → HaveOwnSlots p q → IsSlot p x → IsSlot q y → x ≢ y
slots_differ p q x y own (inl a) (inl b) e = own.0 (sym a ∙ e ∙ b)
slots_differ p q x y own (inl a) (inr b) e = own.1 (sym a ∙ e ∙ b.0)
slots_differ p q x y own (inr a) (inl b) e = own.2 (sym a.0 ∙ e ∙ b)
slots_differ p q x y own (inr a) (inr b) e = elim own.3 [ inl z ↦ a.1 z | inr ne ↦ ne (sym a.0 ∙ e ∙ b.0) ]

module _ (ms : List ModuleTree) (top : ModuleTree) (f : Flat) (pairs memories : List (Option Pair)) (widths : List Width) (t : TapeTree) (places : HasPlaces ms top f pairs memories widths t) where
  abbrev pub flat : IsFlat ms top f
  flat = places.flat

  pub in_ms : (path : Path) (m : ModuleTree) → module_at ms top path ≡ Some m → Has ms m
  in_ms path m at = module_in ms top (in_top ms top f places.flat) path m at

  owner : (number : ℕ) (n : FlatNet) (h : HasNumber ms f number n) → slice_get f.owners.items number ≡ Some h.instance
  owner number n h =
      ap (λ i. slice_get f.owners.items i) h.is
      ∙ places.flat.numbers.owned h.instance h.place h.at.tree h.at.there h.at.of_module (slice_get_within (declared h.at.tree) h.place h.at.declared_at.0 h.at.declared_at.1)

  -- the nets of one number stand in one instance
  pub same_instance : (i j : ℕ) (n b : FlatNet) (h : HasNumber ms f i n) (g : HasNumber ms f j b) → i ≡ j → h.instance ≡ g.instance
  same_instance i j n b h g e = same_Some h.instance g.instance (sym (owner i n h) ∙ ap (λ k. slice_get f.owners.items k) e ∙ owner j b g)

  pub register_kind : (path : Path) (m : ModuleTree) → module_at ms top path ≡ Some m → (w : ℕ) (x : Name) → Has m.items (Reg w x) → net_kind_of (declared m) x ≡ Register
  register_kind path m at w x has =
      let d : Declaration = record { name = x; net_kind = Register; bits = w; cells = 0 } in
      let in_m = in_ms path m at in
      declared_net_kind m ms places.flat.design.sound.names in_m d (has_line m ms places.flat.design.sound.names in_m (Reg w x) has d (inl refl))

  is_free : (n : FlatNet) (m : ModuleTree) (w : ℕ) → module_at ms top n.0 ≡ Some m → Has m.items (Reg w n.1) → IsFree ms top n
  is_free n m w at has = record { tree = m; at = at; by = inl (register_kind n.0 m at w n.1 has) }

  -- slots of two registers
  pub registers_apart : (k l i j x y : ℕ) (s : IsRegisterSlot ms top f pairs k i x) (r : IsRegisterSlot ms top f pairs l j y) → i ≢ j → x ≢ y
  registers_apart k l i j x y s r ne =
      slots_differ s.pair r.pair x y
      (places.given.own i j s.net r.net s.pair r.pair s.has_number r.has_number (is_free s.net s.tree s.width s.at s.line) (is_free r.net r.tree r.width r.at r.line) ne s.placed r.placed) s.is r.is

  -- the two slots of a register
  pub slots_alone : (number : ℕ) (n : FlatNet) (m : ModuleTree) (w : ℕ) (p : Pair) → HasNumber ms f number n → module_at ms top n.0 ≡ Some m → Has m.items (Reg w n.1) → get_or pairs number None ≡ Some p → (p.high ≡ 0) ⊎ (p.low ≢ p.high)
  slots_alone number n m w p h at has got =
      elim (places.given.given number n m p h at (is_free n m w at has) got).1 [ inl one ↦ inl one.1 | inr two ↦ inr two.2 ]

  memory_some : (number : ℕ) (n : FlatNet) (m : ModuleTree) → HasNumber ms f number n → module_at ms top n.0 ≡ Some m → net_kind_is_memory (net_kind_of (declared m) n.1) ≡ true → IsSome (get_or memories number None)
  memory_some number n m h at is =
      let i = memory_item m n.1 (memory_is _ is) in
      ap is_some (places.numbered.all number n m i.0 i.1 h at i.2).2

  module _ (k : ℕ) (low : k < length f.instances.items) (path : Path) (stands : StandsAt ms f.instances.items k path) (m : ModuleTree) (is : IsModuleOf ms f.instances.items k m) where
    abbrev pub first : ℕ
    first = get_or f.first_net.items k 0

    pub at : module_at ms top path ≡ Some m
    at = module_of ms top f places.flat k path m low stands is

    pub room : (all : List (Option Pair)) → length all ≡ length f.owners.items → first + length (declared m) ≤ length all
    room all count = let within : get_or f.first_net.items k 0 + length (declared m) ≤ length f.owners.items = places.flat.numbers.within k m low is in omega (arith, within, count)

    -- the net at a place has this number
    abbrev pub net_here : (j : ℕ) (x : Name) → DeclaredAt m j x → HasNumber ms f (first + j) (path, x)
    net_here j x d = record { instance = k; place = j; at = record { there = low; stands = stands; tree = m; of_module = is; declared_at = d }; is = refl }

    one_name : (i j : ℕ) (x y : Name) → DeclaredAt m i x → DeclaredAt m j y → i ≡ j → x ≡ y
    one_name i j x y d e same =
        let one : d.0 ≡ e.0 = same_Some d.0 e.0 (sym d.1 ∙ ap (λ n. slice_get (declared m) n) same ∙ e.1) in
        sym d.2 ∙ ap (λ (d : Declaration). d.name) one ∙ e.2

    -- no two memories of an instance have one number
    pub apart : AreApart (declared m) (own_pairs first (declared m) memories)
    apart x y p q e g same =
        let a = is_at ms f k low path stands m is memories x p e in
        let b = is_at ms f k low path stands m is memories y q g in
        let one : first + a.place ≡ first + b.place = places.numbered.own (first + a.place) (first + b.place) p q a.got b.got same in
        let place : a.place ≡ b.place = omega (arith, one) in
        one_name a.place b.place x y a.here b.here place

    -- the blocks of the instance find all that they read and assign
    pub blocks_ready : AllByRecursion (IsReady (declared m) (own_pairs first (declared m) pairs) (own_pairs first (declared m) memories)) m.items
    blocks_ready =
        all_ready ms places.flat.design.sound m (in_ms path m at) (own_pairs first (declared m) pairs) (own_pairs first (declared m) memories)
        (λ z read. there ms f k low path stands m is pairs z net_kind_is_read refl read.0 (λ number h. places.placed.all number (path, z) m h at read.0 read.1))
        (λ y is_memory. there ms f k low path stands m is memories y net_kind_is_memory refl is_memory (λ number h. memory_some number (path, y) m h at is_memory))
        (all_at IsModule ms m places.flat.design.form (in_ms path m at))

    -- a commit of the register at a place
    module _ (next : List (Option Pair)) (j : ℕ) (a : Commit) (o : IsOf (declared m) (own_pairs first (declared m) pairs) next j a) where
      is_low : j < length (declared m)
      is_low = slice_get_within (declared m) j o.declaration o.declared_at

      is_register : net_kind_of (declared m) o.declaration.name ≡ Register
      is_register =
          declared_net_kind m ms places.flat.design.sound.names (in_ms path m at) o.declaration (has_got (declared m) j o.declaration o.declared_at) ∙ register_is o.declaration.net_kind o.kind

      pub slot_here : IsRegisterSlot ms top f pairs (k + 1) (first + j) a.slot
      slot_here =
          let line = register_item m o.declaration.name is_register in
          let early : k < k + 1 = omega arith in
          record {
            net = (path, o.declaration.name);
            has_number = net_here j o.declaration.name (o.declaration, o.declared_at, refl);
            early = early;
            tree = m;
            at = at;
            width = line.0;
            line = line.1;
            pair = o.pair;
            placed = sym (own_at pairs first (declared m) j is_low) ∙ o.placed;
            is = o.is;
          }

      -- it stands in no instance before
      pub not_before : (i x : ℕ) (s : IsRegisterSlot ms top f pairs k i x) → i ≢ first + j
      not_before i x s e =
          let here : s.has_number.instance ≡ k = same_instance i (first + j) s.net (path, o.declaration.name) s.has_number (net_here j o.declaration.name (o.declaration, o.declared_at, refl)) e in
          let early : s.has_number.instance < k = s.early in
          absurd (omega (arith, here, early))

    -- a register of the instance has slots of its own
    pub alone : (j : ℕ) (d : Declaration) (p : Pair) → slice_get (declared m) j ≡ Some d → net_kind_is_register d.net_kind ≡ true → get_or (own_pairs first (declared m) pairs) j None ≡ Some p → (p.high ≡ 0) ⊎ (p.low ≢ p.high)
    alone j d p e kind got =
        let register : net_kind_of (declared m) d.name ≡ Register = declared_net_kind m ms places.flat.design.sound.names (in_ms path m at) d (has_got (declared m) j d e) ∙ register_is d.net_kind kind in
        let line = register_item m d.name register in
        slots_alone (first + j) (path, d.name) m line.0 p (net_here j d.name (d, e, refl)) at line.1 (sym (own_at pairs first (declared m) j (slice_get_within (declared m) j d e)) ∙ got)
