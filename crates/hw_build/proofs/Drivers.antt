-- How often each net of what is built is driven.
use Rattle.std.proofs.Common.{◌≡◌, ℕ, zero, suc, ◌+◌, ◌≤◌, Bool, true, false, eqb, ◌||◌, List, [], ◌∷◌, ◌++◌, inl, inr, refl, sym, ap, subst, ◌∙◌, arith}
use Rattle.std.specs.Prelude.{bytes_eq, count_by, nat_le}
use Rattle.std.specs.List.{list_any, list_all, flat_map}
use Rattle.std.specs.Cmp.Lexicographic.{bytes_decides}
use Rattle.std.proofs.lemmas.Bool.{leb-true, eqb-true}
use Rattle.std.proofs.lemmas.Grind.{flat_map-append}
use Rattle.vlog_tree.specs.declared.tree.Item.TheVariants.{Always as BlockLine, Instance as InstanceLine}
use Rattle.vlog_tree.specs.declared.table.Declaration.{Declaration}
use Rattle.vlog_tree.specs.declared.table.NetKind.TheVariants.{Input as InputNet, Output as OutputNet, WireNet, Register as RegisterNet, MemoryArray, ChildInstance}
use Rattle.vlog_tree.specs.Form.{ModuleTree}
use Rattle.tapa_base.specs.Lists.{Has}
use Rattle.vlog_tree.specs.Names.{is_among}
use Rattle.vlog_tree.specs.Table.{Name, clk, times_in, one_if}
use Rattle.vlog_tree.specs.Labels.{rst}
use Rattle.vlog_tree.specs.V4.{line_driven, step_assigns, is_block_of, breaks_driving}
use Rattle.tapa_base.proofs.Lists.{has_flat}
use Rattle.vlog_module_laws.proofs.Lists.{count_cons, counted}
use Rattle.hw_build.specs.Elements.{Element, Input, Output, Outlet, Wire, InstanceWire, Register, Memory, Block, Instance, element_items}
use Rattle.hw_build.specs.Fitting.{declarations, first_table, table_after, link_names, instance_driven, stored_names, assigns, drive_links_once, have_own_blocks}
use Rattle.hw_build.proofs.Tables.{times, clock_declared, reset_declared, count_append, AreDistinct, comes_from}
use Rattle.hw_build.proofs.Uses.{all_has}
use Rattle.vlog_module_laws.proofs.Forms.{itself as same_name}
use Rattle.tapa_base.proofs.Tests.{both_true}

-- the nets that come with their drivers
abbrev pub own_names : Element → List Name
own_names (Output w x v) = x ∷ []
own_names (Wire w x v) = x ∷ []
own_names (Input w x) = []
own_names (Outlet w x) = []
own_names (InstanceWire w x) = []
own_names (Register w x) = []
own_names (Memory w x n) = []
own_names (Block b) = []
own_names (Instance k i connections) = []

-- what is declared and never driven
abbrev pub other_names : Element → List Name
other_names (Input w x) = x ∷ []
other_names (Register w x) = x ∷ []
other_names (Memory w x n) = x ∷ []
other_names (Instance k i connections) = i ∷ []
other_names (Output w x v) = []
other_names (Outlet w x) = []
other_names (Wire w x v) = []
other_names (InstanceWire w x) = []
other_names (Block b) = []

-- how often names of one kind stand in elements
abbrev pub times_by : (Element → List Name) → List Element → Name → ℕ
times_by f elements x = times_in (flat_map f elements) x

times_more : (f : Element → List Name) (e : Element) (elements : List Element) (x : Name) → times_by f (e ∷ elements) x ≡ times_in (f e) x + times_by f elements x
times_more f e elements x = count_append (λ y. bytes_eq y x) (f e) (flat_map f elements)

pub one_name : (d : Declaration) (x : Name) → times (d ∷ []) x ≡ times_in (d.name ∷ []) x
one_name d x = count_cons (λ (z : Declaration). bytes_eq z.name x) d [] ∙ sym (count_cons (λ y. bytes_eq y x) d.name [])

-- an element declares its names
declares : (e : Element) (x : Name) → times (declarations e) x ≡ times_in (own_names e) x + times_in (link_names e) x + times_in (other_names e) x
declares (Input w x) y = let a = one_name (record { name = x; net_kind = InputNet; bits = w; cells = 0 }) y in omega (arith, a)
declares (Output w x v) y = let a = one_name (record { name = x; net_kind = OutputNet; bits = w; cells = 0 }) y in omega (arith, a)
declares (Outlet w x) y = let a = one_name (record { name = x; net_kind = OutputNet; bits = w; cells = 0 }) y in omega (arith, a)
declares (Wire w x v) y = let a = one_name (record { name = x; net_kind = WireNet; bits = w; cells = 0 }) y in omega (arith, a)
declares (InstanceWire w x) y = let a = one_name (record { name = x; net_kind = WireNet; bits = w; cells = 0 }) y in omega (arith, a)
declares (Register w x) y = let a = one_name (record { name = x; net_kind = RegisterNet; bits = w; cells = 0 }) y in omega (arith, a)
declares (Memory w x n) y = let a = one_name (record { name = x; net_kind = MemoryArray; bits = w; cells = n }) y in omega (arith, a)
declares (Block b) y = refl
declares (Instance k i ls) y = let a = one_name (record { name = i; net_kind = ChildInstance; bits = 0; cells = 0 }) y in omega (arith, a)

pub declared_times : (elements : List Element) (t : List Declaration) (x : Name)
    → times (table_after t elements) x ≡ times t x + times_by own_names elements x + times_by link_names elements x + times_by other_names elements x
declared_times [] t x = omega arith
declared_times (e ∷ elements) t x =
    let rest : times (table_after (declarations e ++ t) elements) x ≡ times (declarations e ++ t) x + times_by own_names elements x + times_by link_names elements x + times_by other_names elements x =
    declared_times elements (declarations e ++ t) x in
    let here : times (declarations e ++ t) x ≡ times (declarations e) x + times t x = count_append (λ (d : Declaration). bytes_eq d.name x) (declarations e) t in
    let names : times (declarations e) x ≡ times_in (own_names e) x + times_in (link_names e) x + times_in (other_names e) x = declares e x in
    let a : times_by own_names (e ∷ elements) x ≡ times_in (own_names e) x + times_by own_names elements x = times_more own_names e elements x in
    let b : times_by link_names (e ∷ elements) x ≡ times_in (link_names e) x + times_by link_names elements x = times_more link_names e elements x in
    let c : times_by other_names (e ∷ elements) x ≡ times_in (other_names e) x + times_by other_names elements x = times_more other_names e elements x in
    omega (arith, rest, here, names, a, b, c)

-- a name that an element has stands among those of all elements
pub named_in : (f : Element → List Name) (elements : List Element) (e : Element) (x : Name) → Has elements e → Has (f e) x → 1 ≤ times_by f elements x
named_in f elements e x h k = counted (λ y. bytes_eq y x) (flat_map f elements) x (has_flat f elements e x h k) (same_name x)

among_of : (y : Name) (ys : List Name) (x : Name) (b : Bool) → bytes_eq x y ≡ b → (is_among ys x ≡ true → 1 ≤ times_in ys x) → (b || is_among ys x) ≡ true → 1 ≤ times_in (y ∷ ys) x
among_of y ys x true e ih h = counted (λ z. bytes_eq z x) (y ∷ ys) y (inl refl) ((bytes_decides y x).1 (sym ((bytes_decides x y).0 e)))
among_of y ys x false e ih h =
    let c : times_in (y ∷ ys) x ≡ one_if (bytes_eq y x) + times_in ys x = count_cons (λ z. bytes_eq z x) y ys in
    let r : 1 ≤ times_in ys x = ih h in
    omega arith

pub among_counts : (xs : List Name) (x : Name) → is_among xs x ≡ true → 1 ≤ times_in xs x
among_counts [] x h = cc
among_counts (y ∷ ys) x h = among_of y ys x (bytes_eq x y) refl (among_counts ys x) h

times_of : (y : Name) (ys : List Name) (x : Name) (b : Bool) → bytes_eq y x ≡ b → (1 ≤ times_in ys x → Has ys x) → 1 ≤ times_in (y ∷ ys) x → Has (y ∷ ys) x
times_of y ys x true e ih h = inl ((bytes_decides y x).0 e)
times_of y ys x false e ih h =
    let c : times_in (y ∷ ys) x ≡ one_if (bytes_eq y x) + times_in ys x = count_cons (λ z. bytes_eq z x) y ys in
    let n : one_if (bytes_eq y x) ≡ 0 = ap one_if e in
    inr (ih (omega arith))

pub times_has : (xs : List Name) (x : Name) → 1 ≤ times_in xs x → Has xs x
times_has [] x h = absurd (omega arith)
times_has (y ∷ ys) x h = times_of y ys x (bytes_eq y x) refl (times_has ys x) h

module _ (ms : List ModuleTree) (elements : List Element) (once : drive_links_once ms elements ≡ true) where
  abbrev inner : Name → ℕ
  inner x = times_by (instance_driven ms) elements x

  abbrev linked : Name → ℕ
  linked x = times_by link_names elements x

  split : (list_all (λ x. eqb (inner x) 1) (flat_map link_names elements) ≡ true) × (list_all (is_among (flat_map link_names elements)) (flat_map (instance_driven ms) elements) ≡ true)
  split = both_true (list_all (λ x. eqb (inner x) 1) (flat_map link_names elements)) (list_all (is_among (flat_map link_names elements)) (flat_map (instance_driven ms) elements)) once

  pub link_is_driven : (x : Name) → 1 ≤ linked x → inner x ≡ 1
  link_is_driven x h = eqb-true (inner x) 1 (all_has (λ y. eqb (inner y) 1) (flat_map link_names elements) split.0 x (times_has (flat_map link_names elements) x h))

  pub driven_is_link : (x : Name) → 1 ≤ inner x → 1 ≤ linked x
  driven_is_link x h =
      among_counts (flat_map link_names elements) x
      (all_has (is_among (flat_map link_names elements)) (flat_map (instance_driven ms) elements) split.1 x (times_has (flat_map (instance_driven ms) elements) x h))

  pub no_link_no_driver : (x : Name) → linked x ≡ 0 → inner x ≡ 0
  no_link_no_driver x h = none (inner x) (λ k. driven_is_link x k) where
    none : (n : ℕ) → (1 ≤ n → 1 ≤ linked x) → n ≡ 0
    none zero f = refl
    none (suc n) f = let k : 1 ≤ linked x = f (omega arith) in absurd (omega (arith, k, h))

-- the lines of an element
line_drives : (ms : List ModuleTree) (e : Element) (x : Name) → times_in (flat_map (line_driven ms) (element_items e)) x ≡ times_in (own_names e) x + times_in (instance_driven ms e) x
line_drives ms (Input w y) x = refl
line_drives ms (Output w y v) x = omega arith
line_drives ms (Outlet w y) x = refl
line_drives ms (Wire w y v) x = omega arith
line_drives ms (InstanceWire w y) x = refl
line_drives ms (Register w y) x = refl
line_drives ms (Memory w y n) x = refl
line_drives ms (Block b) x = refl
line_drives ms (Instance k i ls) x =
    let c : times_in (line_driven ms (InstanceLine k i ls) ++ []) x ≡ times_in (line_driven ms (InstanceLine k i ls)) x + 0 = count_append (λ y. bytes_eq y x) (line_driven ms (InstanceLine k i ls)) [] in
    omega (arith, c)

pub all_drives : (ms : List ModuleTree) (elements : List Element) (x : Name)
    → times_in (flat_map (line_driven ms) (flat_map element_items elements)) x ≡ times_by own_names elements x + times_by (instance_driven ms) elements x
all_drives ms [] x = refl
all_drives ms (e ∷ elements) x =
    let a : times_in (flat_map (line_driven ms) (element_items e ++ flat_map element_items elements)) x
    ≡ times_in (flat_map (line_driven ms) (element_items e)) x + times_in (flat_map (line_driven ms) (flat_map element_items elements)) x =
    ap (λ l. times_in l x) (flat_map-append (line_driven ms) (element_items e) (flat_map element_items elements))
    ∙ count_append (λ y. bytes_eq y x) (flat_map (line_driven ms) (element_items e)) (flat_map (line_driven ms) (flat_map element_items elements)) in
    let b : times_in (flat_map (line_driven ms) (element_items e)) x ≡ times_in (own_names e) x + times_in (instance_driven ms e) x = line_drives ms e x in
    let r : times_in (flat_map (line_driven ms) (flat_map element_items elements)) x ≡ times_by own_names elements x + times_by (instance_driven ms) elements x = all_drives ms elements x in
    let c : times_by own_names (e ∷ elements) x ≡ times_in (own_names e) x + times_by own_names elements x = times_more own_names e elements x in
    let d : times_by (instance_driven ms) (e ∷ elements) x ≡ times_in (instance_driven ms e) x + times_by (instance_driven ms) elements x = times_more (instance_driven ms) e elements x in
    omega (arith, a, b, r, c, d)

-- the blocks of an element
block_here : (e : Element) (x : Name) → count_by (is_block_of x) (element_items e) ≡ one_if (assigns x e)
block_here (Input w y) x = refl
block_here (Output w y v) x = refl
block_here (Outlet w y) x = refl
block_here (Wire w y v) x = refl
block_here (InstanceWire w y) x = refl
block_here (Register w y) x = refl
block_here (Memory w y n) x = refl
block_here (Block b) x = let c : count_by (is_block_of x) (BlockLine b ∷ []) ≡ one_if (list_any (step_assigns x) b) + 0 = count_cons (is_block_of x) (BlockLine b) [] in omega (arith, c)
block_here (Instance k i ls) x = refl

pub all_blocks : (elements : List Element) (x : Name) → count_by (is_block_of x) (flat_map element_items elements) ≡ count_by (assigns x) elements
all_blocks [] x = refl
all_blocks (e ∷ elements) x =
    let a : count_by (is_block_of x) (element_items e ++ flat_map element_items elements) ≡ count_by (is_block_of x) (element_items e) + count_by (is_block_of x) (flat_map element_items elements) =
    count_append (is_block_of x) (element_items e) (flat_map element_items elements) in
    let b : count_by (is_block_of x) (element_items e) ≡ one_if (assigns x e) = block_here e x in
    let r : count_by (is_block_of x) (flat_map element_items elements) ≡ count_by (assigns x) elements = all_blocks elements x in
    let c : count_by (assigns x) (e ∷ elements) ≡ one_if (assigns x e) + count_by (assigns x) elements = count_cons (assigns x) e elements in
    omega (arith, a, b, r, c)

-- a register or a memory is assigned in one block at most
pub own_block : (elements : List Element) → have_own_blocks elements ≡ true → (e : Element) (x : Name) → Has elements e → Has (stored_names e) x → count_by (assigns x) elements ≤ 1
own_block elements h e x has names =
    leb-true (count_by (assigns x) elements) 1 (all_has (λ y. nat_le (count_by (assigns y) elements) 1) (flat_map stored_names elements) h x (has_flat stored_names elements e x has names))

-- the rule, by the numbers
undriven : (driven blocks : ℕ) → driven ≡ 0 → breaks_driving driven blocks InputNet ≡ false
undriven driven blocks e = ap (λ n. breaks_driving n blocks InputNet) e

driven_output : (driven blocks : ℕ) → driven ≡ 1 → breaks_driving driven blocks OutputNet ≡ false
driven_output driven blocks e = ap (λ n. breaks_driving n blocks OutputNet) e

driven_wire : (driven blocks : ℕ) → driven ≡ 1 → breaks_driving driven blocks WireNet ≡ false
driven_wire driven blocks e = ap (λ n. breaks_driving n blocks WireNet) e

pub few_blocks : (blocks : ℕ) → blocks ≤ 1 → nat_le 2 blocks ≡ false
few_blocks zero h = refl
few_blocks (suc zero) h = refl
few_blocks (suc (suc n)) h = absurd (omega arith)

module _ (ms : List ModuleTree) (elements : List Element) (once : drive_links_once ms elements ≡ true) (blocks : have_own_blocks elements ≡ true) (distinct : AreDistinct (table_after first_table elements)) where
  abbrev driven : Name → ℕ
  driven x = times_in (flat_map (line_driven ms) (flat_map element_items elements)) x

  abbrev assigned : Name → ℕ
  assigned x = count_by (is_block_of x) (flat_map element_items elements)

  sums : (x : Name) → times first_table x + times_by own_names elements x + times_by link_names elements x + times_by other_names elements x ≤ 1
  sums x =
      let s : times (table_after first_table elements) x ≡ times first_table x + times_by own_names elements x + times_by link_names elements x + times_by other_names elements x = declared_times elements first_table x in
      let d : times (table_after first_table elements) x ≤ 1 = distinct x in
      omega (arith, s, d)

  by_none : (x : Name) → 1 ≤ times first_table x + times_by other_names elements x → driven x ≡ 0
  by_none x h =
      let s = sums x in
      let n : times_by (instance_driven ms) elements x ≡ 0 = no_link_no_driver ms elements once x (omega (arith, s, h)) in
      let d : driven x ≡ times_by own_names elements x + times_by (instance_driven ms) elements x = all_drives ms elements x in
      omega (arith, s, h, n, d)

  by_own : (x : Name) → 1 ≤ times_by own_names elements x → driven x ≡ 1
  by_own x h =
      let s = sums x in
      let n : times_by (instance_driven ms) elements x ≡ 0 = no_link_no_driver ms elements once x (omega (arith, s, h)) in
      let d : driven x ≡ times_by own_names elements x + times_by (instance_driven ms) elements x = all_drives ms elements x in
      omega (arith, s, h, n, d)

  by_link : (x : Name) → 1 ≤ times_by link_names elements x → driven x ≡ 1
  by_link x h =
      let s = sums x in
      let n : times_by (instance_driven ms) elements x ≡ 1 = link_is_driven ms elements once x h in
      let d : driven x ≡ times_by own_names elements x + times_by (instance_driven ms) elements x = all_drives ms elements x in
      omega (arith, s, h, n, d)

  kept_block : (e : Element) (x : Name) → Has elements e → Has (stored_names e) x → nat_le 2 (assigned x) ≡ false
  kept_block e x has names = ap (λ n. nat_le 2 n) (all_blocks elements x) ∙ few_blocks (count_by (assigns x) elements) (own_block elements blocks e x has names)

  abbrev Right : Declaration → Type 0
  Right d = breaks_driving (driven d.name) (assigned d.name) d.net_kind ≡ false

  at : (e : Element) → Has elements e → (d : Declaration) → Has (declarations e) d → Right d
  at (Input w x) has d (inl s) =
      subst Right s (undriven (driven x) (assigned x) (let n : 1 ≤ times_by other_names elements x = named_in other_names elements (Input w x) x has (inl refl) in by_none x (omega (arith, n))))
  at (Input w x) has d (inr n) = absurd n
  at (Output w x v) has d (inl s) = subst Right s (driven_output (driven x) (assigned x) (by_own x (named_in own_names elements (Output w x v) x has (inl refl))))
  at (Output w x v) has d (inr n) = absurd n
  at (Outlet w x) has d (inl s) = subst Right s (driven_output (driven x) (assigned x) (by_link x (named_in link_names elements (Outlet w x) x has (inl refl))))
  at (Outlet w x) has d (inr n) = absurd n
  at (Wire w x v) has d (inl s) = subst Right s (driven_wire (driven x) (assigned x) (by_own x (named_in own_names elements (Wire w x v) x has (inl refl))))
  at (Wire w x v) has d (inr n) = absurd n
  at (InstanceWire w x) has d (inl s) = subst Right s (driven_wire (driven x) (assigned x) (by_link x (named_in link_names elements (InstanceWire w x) x has (inl refl))))
  at (InstanceWire w x) has d (inr n) = absurd n
  at (Register w x) has d (inl s) = subst Right s (kept_block (Register w x) x has (inl refl))
  at (Register w x) has d (inr n) = absurd n
  at (Memory w x n) has d (inl s) = subst Right s (kept_block (Memory w x n) x has (inl refl))
  at (Memory w x n) has d (inr k) = absurd k
  at (Block b) has d h = absurd h
  at (Instance k i ls) has d (inl s) = subst Right s refl
  at (Instance k i ls) has d (inr n) = absurd n

  first_right : (d : Declaration) → Has first_table d → Right d
  first_right d (inl s) =
      let n : 1 ≤ times first_table clk = counted (λ (z : Declaration). bytes_eq z.name clk) first_table clock_declared (inl refl) (same_name clk) in
      subst Right s (undriven (driven clk) (assigned clk) (by_none clk (omega (arith, n))))
  first_right d (inr (inl s)) =
      let n : 1 ≤ times first_table rst = counted (λ (z : Declaration). bytes_eq z.name rst) first_table reset_declared (inr (inl refl)) (same_name rst) in
      subst Right s (undriven (driven rst) (assigned rst) (by_none rst (omega (arith, n))))
  first_right d (inr (inr n)) = absurd n

  pub drivers_right : (d : Declaration) → Has (table_after first_table elements) d → Right d
  drivers_right d h = elim (comes_from elements first_table d h) [ inl l ↦ first_right d l | inr r ↦ at r.0 r.1 d r.2 ]
