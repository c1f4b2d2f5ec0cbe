-- A number that is found is the one that each run has.
use Rattle.std.proofs.lemmas.Bool.{ltb-true}
use Rattle.std.proofs.Common.{◌≡◌, ℕ, ◌<◌, Bool, true, false, cond, ◌&&◌, List, [], ◌∷◌, Option, Some, None, length, get_or, map, inl, inr, refl, sym, ap, subst, ◌∙◌}
use Rattle.std.specs.Prelude.{◌⊎◌, bytes_eq, nat_lt, nat_le, is_some, unwrap_or, slice_get, not}
use Rattle.std.specs.List.{AllByRecursion}
use Rattle.std.specs.Option.{option_map_or}
use Rattle.std.specs.Cmp.Lexicographic.{bytes_decides}
use Rattle.vlog_tree.specs.declared.tree.Value.{Value}
use Rattle.vlog_tree.specs.declared.tree.Value.TheVariants.{Plain, Invert, Binary, Choose, Concat, Repeat, Cell}
use Rattle.vlog_tree.specs.declared.tree.Connection.{Connection}
use Rattle.vlog_tree.specs.declared.tree.Item.{Item}
use Rattle.vlog_tree.specs.declared.tree.Item.TheVariants.{Wire, Reg, Memory, Assign, Always, Instance}
use Rattle.vlog_tree.specs.declared.table.Declaration.{Declaration}
use Rattle.vlog_tree.specs.Form.{ModuleTree}
use Rattle.vlog_tree.specs.Grounded.{AllTwo}
use Rattle.tapa_base.specs.Lists.{Has}
use Rattle.vlog_tree.specs.Table.{Name, declared, port_declared, ports_of, net_kind_of, bits_of, net_kind_is_input, net_kind_is_read}
use Rattle.vlog_tree.specs.Cycle.{Cycle, Path, Sizes, and_then, Holds, PortHolds, driven}
use Rattle.vlog_tree.specs.Loops.{value_nets}
use Rattle.vlog_run_laws.proofs.runs.Sizes.{width_held}
use Rattle.vlog_run_laws.proofs.runs.Values.{ReadsAlike, driven_same}
use Rattle.vlog_values.specs.declared.numbers.NetNumber.{NetNumber}
use Rattle.vlog_values.specs.declared.numbers.MemoryCells.{MemoryCells}
use Rattle.vlog_values.specs.Numbers.{first_net, first_memory, net_in, bits_in, cycle_of, sizes_of, fitting}
use Rattle.vlog_values.proofs.Fits.{is_fit}
use Rattle.vlog_values.specs.declared.moment.Held.{Held}
use Rattle.vlog_values.specs.declared.moment.OutsideMemory.{OutsideMemory}
use Rattle.vlog_ref_cycle.specs.Sources.{RuleTree, SourceTree, same_path, held_at, assigned_in, assigned, connection_out, output_in, output_of, connection_in, joined_in, joined_to, net_read, are_read, has_cells, given_number, same_number, can_drive, memory_of}
use Rattle.vlog_ref_cycle.specs.Numbers.{by_rule, all_numbers}
use Rattle.vlog_ref_cycle.specs.Moments.{MemoryIs}
use Rattle.vlog_ref_cycle.proofs.Gathered.{numbered}
use Rattle.vlog_ref_cycle.proofs.Options.{and_then_some, map_some, either_some, checked}
use Rattle.tapa_base.proofs.Tests.{both_true, true_not_false}
use Rattle.std.proofs.lemmas.Option.{cond_some}
use Rattle.tapa_base.proofs.Got.{all_at}

-- what is found in a list is in it, under its name
pub path_same : (p q : Path) → same_path p q ≡ true → p ≡ q
path_same [] [] h = refl
path_same [] (y ∷ ys) h = cc
path_same (x ∷ xs) [] h = cc
path_same (x ∷ xs) (y ∷ ys) h =
    let t = both_true (bytes_eq x y) (same_path xs ys) h in
    let a : x ≡ y = (bytes_decides x y).0 t.0 in
    let b : xs ≡ ys = path_same xs ys t.1 in cc

held_step : (h : Held) (hs : List Held) (path : Path) (k : Held) (b : Bool) → same_path h.path.items path ≡ b → (held_at hs path ≡ Some k → Has hs k × (k.path.items ≡ path))
    → cond b (Some h) (held_at hs path) ≡ Some k → Has (h ∷ hs) k × (k.path.items ≡ path)
held_step h hs path k true e f s = let same : h ≡ k = cc in (inl same, ap (λ (z : Held). z.path.items) (sym same) ∙ path_same h.path.items path e)
held_step h hs path k false e f s = let t = f s in (inr t.0, t.1)

pub held_found : (hs : List Held) (path : Path) (k : Held) → held_at hs path ≡ Some k → Has hs k × (k.path.items ≡ path)
held_found [] path k s = cc
held_found (h ∷ hs) path k s = held_step h hs path k (same_path h.path.items path) refl (held_found hs path k) s

net_step : (n : NetNumber) (ns : List NetNumber) (x : Name) (k : NetNumber) (b : Bool) → bytes_eq n.name x ≡ b → (first_net ns x ≡ Some k → Has ns k × (k.name ≡ x))
    → cond b (Some n) (first_net ns x) ≡ Some k → Has (n ∷ ns) k × (k.name ≡ x)
net_step n ns x k true e f s = let same : n ≡ k = cc in (inl same, ap (λ (z : NetNumber). z.name) (sym same) ∙ (bytes_decides n.name x).0 e)
net_step n ns x k false e f s = let t = f s in (inr t.0, t.1)

pub net_found : (ns : List NetNumber) (x : Name) (k : NetNumber) → first_net ns x ≡ Some k → Has ns k × (k.name ≡ x)
net_found [] x k s = cc
net_found (n ∷ ns) x k s = net_step n ns x k (bytes_eq n.name x) refl (net_found ns x k) s

memory_step : (n : MemoryCells) (ns : List MemoryCells) (x : Name) (k : MemoryCells) (b : Bool) → bytes_eq n.name x ≡ b → (first_memory ns x ≡ Some k → Has ns k × (k.name ≡ x))
    → cond b (Some n) (first_memory ns x) ≡ Some k → Has (n ∷ ns) k × (k.name ≡ x)
memory_step n ns x k true e f s = let same : n ≡ k = cc in (inl same, ap (λ (z : MemoryCells). z.name) (sym same) ∙ (bytes_decides n.name x).0 e)
memory_step n ns x k false e f s = let t = f s in (inr t.0, t.1)

pub memory_found : (ns : List MemoryCells) (x : Name) (k : MemoryCells) → first_memory ns x ≡ Some k → Has ns k × (k.name ≡ x)
memory_found [] x k s = cc
memory_found (n ∷ ns) x k s = memory_step n ns x k (bytes_eq n.name x) refl (memory_found ns x k) s

outside_step : (o : OutsideMemory) (os : List OutsideMemory) (x : Name) (k : OutsideMemory) (b : Bool) → bytes_eq o.name x ≡ b → (memory_of os x ≡ Some k → Has os k × (k.name ≡ x))
    → cond b (Some o) (memory_of os x) ≡ Some k → Has (o ∷ os) k × (k.name ≡ x)
outside_step o os x k true e f s = let same : o ≡ k = cc in (inl same, ap (λ (z : OutsideMemory). z.name) (sym same) ∙ (bytes_decides o.name x).0 e)
outside_step o os x k false e f s = let t = f s in (inr t.0, t.1)

pub outside_found : (os : List OutsideMemory) (x : Name) (k : OutsideMemory) → memory_of os x ≡ Some k → Has os k × (k.name ≡ x)
outside_found [] x k s = cc
outside_found (o ∷ os) x k s = outside_step o os x k (bytes_eq o.name x) refl (outside_found os x k) s

assigned_has : (it : Item) (x : Name) (v : Value) → assigned_in it x ≡ Some v → it ≡ Assign x v
assigned_has (Assign y e) x v h = let t = cond_some (bytes_eq y x) e v h in let a : y ≡ x = (bytes_decides y x).0 t.0 in let b : e ≡ v = t.1 in cc
assigned_has (Wire w y) x v h = cc
assigned_has (Reg w y) x v h = cc
assigned_has (Memory w y n) x v h = cc
assigned_has (Always b) x v h = cc
assigned_has (Instance m i connections) x v h = cc

pub driver_found : (items : List Item) (x : Name) (v : Value) → assigned items x ≡ Some v → Has items (Assign x v)
driver_found [] x v h = cc
driver_found (it ∷ items) x v h = elim (either_some (assigned_in it x) (assigned items x) v h) [ inl a ↦ inl (assigned_has it x v a) | inr b ↦ inr (driver_found items x v b) ]

module _ (c : Cycle) where
  -- a net that is read, with its number
  abbrev pub IsRead : NetNumber → NetNumber → Type 0
  IsRead r k = (k.name ≡ r.name) × (k.bits ≡ r.bits) × (c.net r.name ≡ k.number)

  pub numbers_read : (number : Name → Option ℕ) → ((x : Name) (v : ℕ) → number x ≡ Some v → c.net x ≡ v) → (reads ns : List NetNumber) → all_numbers number reads ≡ Some ns → AllTwo IsRead reads ns
  numbers_read number f [] [] h = tt
  numbers_read number f [] (k ∷ ks) h = cc
  numbers_read number f (r ∷ reads) ns h =
      let t = and_then_some (number r.name) (λ n. and_then (all_numbers number reads) (λ ks. Some (numbered r n ∷ ks))) ns h in
      let u = and_then_some (all_numbers number reads) (λ ks. Some (numbered r t.0 ∷ ks)) ns t.2 in
      let e : numbered r t.0 ∷ u.0 ≡ ns = cc (u.2) in
      subst (λ z. AllTwo IsRead (r ∷ reads) z) e ((refl, refl, f r.name t.0 t.1), numbers_read number f reads u.0 u.1)

  read_step : (ds : List Declaration) (r k : NetNumber) (ns : List NetNumber) (z : Name) (b : Bool) → bytes_eq k.name z ≡ b → IsRead r k → r.bits ≡ bits_of ds r.name
      → (r.name ≡ z) ⊎ ((net_in ns z ≡ c.net z) × (bits_in ns z ≡ bits_of ds z))
      → (option_map_or (λ (n : NetNumber). n.number) (cond b (Some k) (first_net ns z)) 0 ≡ c.net z) × (option_map_or (λ (n : NetNumber). n.bits) (cond b (Some k) (first_net ns z)) 0 ≡ bits_of ds z)
  read_step ds r k ns z true e i w h =
      let n : r.name ≡ z = sym i.0 ∙ (bytes_decides k.name z).0 e in
      (sym i.2 ∙ ap (λ y. c.net y) n, i.1 ∙ w ∙ ap (λ y. bits_of ds y) n)
  read_step ds r k ns z false e i w (inl n) = absurd (true_not_false (sym ((bytes_decides k.name z).1 (i.0 ∙ n)) ∙ e))
  read_step ds r k ns z false e i w (inr h) = h

  -- the nets that were read have their numbers and widths
  pub read_found : (ds : List Declaration) (names : List Name) (ns : List NetNumber) → AllTwo IsRead (map (net_read ds) names) ns → (z : Name) → Has names z → (net_in ns z ≡ c.net z) × (bits_in ns z ≡ bits_of ds z)
  read_found ds [] ns a z h = absurd h
  read_found ds (y ∷ names) [] a z h = absurd a
  read_found ds (y ∷ names) (k ∷ ns) a z (inl e) = read_step ds (net_read ds y) k ns z (bytes_eq k.name z) refl a.0 refl (inl e)
  read_found ds (y ∷ names) (k ∷ ns) a z (inr h) = read_step ds (net_read ds y) k ns z (bytes_eq k.name z) refl a.0 refl (inr (read_found ds names ns a.1 z h))

names_read : (ds : List Declaration) (names : List Name) → are_read ds (map (net_read ds) names) ≡ true → (z : Name) → Has names z → net_kind_is_read (net_kind_of ds z) ≡ true
names_read ds [] h z k = absurd k
names_read ds (y ∷ names) h z (inl e) = ap (λ x. net_kind_is_read (net_kind_of ds x)) (sym e) ∙ (both_true (net_kind_is_read (net_kind_of ds y)) (are_read ds (map (net_read ds) names)) h).0
names_read ds (y ∷ names) h z (inr k) = names_read ds names (both_true (net_kind_is_read (net_kind_of ds y)) (are_read ds (map (net_read ds) names)) h).1 z k

-- the lines that give a net its number
pub record IsOutput (items : List Item) (x : Name) (p : Name × Name) : Type 0 where
  pub module_name : Name
  pub connections : List Connection
  pub has : Has items (Instance module_name p.0 connections)
  pub connection : Connection
  pub connected : Has connections connection
  pub net : connection.net ≡ x
  pub port : connection.port ≡ p.1

pub record IsConnection (connections : List Connection) (x p : Name) : Type 0 where
  pub connection : Connection
  pub connected : Has connections connection
  pub net : connection.net ≡ x
  pub port : connection.port ≡ p

connection_step : (l : Connection) (ls : List Connection) (x p : Name) (t : Bool) (b : Bool) → (bytes_eq l.net x && t) ≡ b → (o : Option Name) → (o ≡ Some p → IsConnection ls x p) → cond b (Some l.port) o ≡ Some p → IsConnection (l ∷ ls) x p
connection_step l ls x p t true e o f h = let q = both_true (bytes_eq l.net x) t e in record { connection = l; connected = inl refl; net = (bytes_decides l.net x).0 q.0; port = cc }
connection_step l ls x p t false e o f h = let q = f h in record { connection = q.connection; connected = inr q.connected; net = q.net; port = q.port }

out_found : (ports : List Declaration) (ls : List Connection) (x p : Name) → connection_out ports ls x ≡ Some p → IsConnection ls x p
out_found ports [] x p h = cc
out_found ports (l ∷ ls) x p h = connection_step l ls x p (not (net_kind_is_input (net_kind_of ports l.port))) (bytes_eq l.net x && not (net_kind_is_input (net_kind_of ports l.port))) refl (connection_out ports ls x) (out_found ports ls x p) h

output_more : (it : Item) (items : List Item) (x : Name) (p : Name × Name) → IsOutput items x p → IsOutput (it ∷ items) x p
output_more it items x p q = record { module_name = q.module_name; connections = q.connections; has = inr q.has; connection = q.connection; connected = q.connected; net = q.net; port = q.port }

output_has : (ms : List ModuleTree) (it : Item) (items : List Item) (x : Name) (p : Name × Name) → output_in ms it x ≡ Some p → IsOutput (it ∷ items) x p
output_has ms (Instance k i connections) items x p h =
    let t = map_some (λ (y : Name). (i, y)) (connection_out (map port_declared (ports_of ms k)) connections x) p h in
    let q = out_found (map port_declared (ports_of ms k)) connections x t.0 t.1 in
    subst (λ z. IsOutput (Instance k i connections ∷ items) x z) t.2 (record { module_name = k; connections = connections; has = inl refl; connection = q.connection; connected = q.connected; net = q.net; port = q.port })
output_has ms (Assign y e) items x p h = cc
output_has ms (Wire w y) items x p h = cc
output_has ms (Reg w y) items x p h = cc
output_has ms (Memory w y n) items x p h = cc
output_has ms (Always b) items x p h = cc

pub output_found : (ms : List ModuleTree) (items : List Item) (x : Name) (p : Name × Name) → output_of ms items x ≡ Some p → IsOutput items x p
output_found ms [] x p h = cc
output_found ms (it ∷ items) x p h = elim (either_some (output_in ms it x) (output_of ms items x) p h) [ inl a ↦ output_has ms it items x p a | inr b ↦ output_more it items x p (output_found ms items x p b) ]

in_step : (l : Connection) (ls : List Connection) (x z : Name) (b : Bool) → bytes_eq l.port x ≡ b → (o : Option Name) → (o ≡ Some z → IsConnection ls z x) → cond b (Some l.net) o ≡ Some z → IsConnection (l ∷ ls) z x
in_step l ls x z true e o f h = record { connection = l; connected = inl refl; net = cc; port = (bytes_decides l.port x).0 e }
in_step l ls x z false e o f h = let q = f h in record { connection = q.connection; connected = inr q.connected; net = q.net; port = q.port }

in_found : (ls : List Connection) (x z : Name) → connection_in ls x ≡ Some z → IsConnection ls z x
in_found [] x z h = cc
in_found (l ∷ ls) x z h = in_step l ls x z (bytes_eq l.port x) refl (connection_in ls x) (in_found ls x z) h

joined_step : (k j i : Name) (connections : List Connection) (items : List Item) (x z : Name) (b : Bool) → bytes_eq j i ≡ b → (o : Option Name) → (o ≡ Some z → IsConnection connections z x) → cond b o None ≡ Some z → IsOutput (Instance k j connections ∷ items) z (i, x)
joined_step k j i connections items x z true e o f h =
    let q = f h in
    let n : j ≡ i = (bytes_decides j i).0 e in
    record { module_name = k; connections = connections; has = inl (ap (λ y. Instance k y connections) n); connection = q.connection; connected = q.connected; net = q.net; port = q.port }
joined_step k j i connections items x z false e o f h = cc

joined_has : (it : Item) (items : List Item) (i x z : Name) → joined_in it i x ≡ Some z → IsOutput (it ∷ items) z (i, x)
joined_has (Instance k j connections) items i x z h = joined_step k j i connections items x z (bytes_eq j i) refl (connection_in connections x) (in_found connections x z) h
joined_has (Assign y e) items i x z h = cc
joined_has (Wire w y) items i x z h = cc
joined_has (Reg w y) items i x z h = cc
joined_has (Memory w y n) items i x z h = cc
joined_has (Always b) items i x z h = cc

-- a connection of an instance of this name
pub joined_found : (items : List Item) (i x z : Name) → joined_to items i x ≡ Some z → IsOutput items z (i, x)
joined_found [] i x z h = cc
joined_found (it ∷ items) i x z h = elim (either_some (joined_in it i x) (joined_to items i x) z h) [ inl a ↦ joined_has it items i x z a | inr b ↦ output_more it items z (i, x) (joined_found items i x z b) ]

module _ (nets : Path → Cycle) (path : Path) (x : Name) where
  -- a source gives a net its number in a run
  abbrev pub Gives : SourceTree → Type 0
  Gives s = (ns : List NetNumber) (v : ℕ) → AllTwo (IsRead (nets s.path)) s.reads ns → by_rule s.rule ns ≡ Some v → (nets path).net x ≡ v

  pub given_gives : (k : ℕ) → (nets path).net x ≡ k → Gives (given_number k)
  given_gives k h ns v a e = cc

  pub same_gives : (p : Path) (z : Name) → (nets path).net x ≡ (nets p).net z → Gives (same_number p z)
  same_gives p z h [] v a e = absurd a
  same_gives p z h (k ∷ ns) v a e = let r : (nets p).net z ≡ k.number = a.0.2 in let t : k.number ≡ v = cc in h ∙ r ∙ t

  pub cells_give : (y : Name) (cs : List ℕ) → (nets path).net x ≡ unwrap_or (slice_get cs ((nets []).net y)) 0
      → Gives (record { path = []; reads = record { name = y; bits = 0; number = 0 } ∷ []; rule = RuleTree.cells cs })
  cells_give y cs h [] v a e = absurd a
  cells_give y cs h (k ∷ ns) v a e =
      let r : (nets []).net y ≡ k.number = a.0.2 in
      let t : unwrap_or (slice_get cs k.number) 0 ≡ v = cc in
      h ∙ ap (λ n. unwrap_or (slice_get cs n) 0) r ∙ t

-- a memory's cells are read alike from what is held
module _ (items : List Item) (s : Sizes) (c : Cycle) (lines : AllByRecursion (Holds s c) items) (memories : List MemoryCells) (held : AllByRecursion (MemoryIs items c) memories) where
  cell_case : (k : MemoryCells) (a : ℕ) (b : Bool) → nat_lt a (length k.cells.items) ≡ b → ((a : ℕ) → a < length k.cells.items → c.cell k.name a ≡ get_or k.cells.items a 0)
      → cond b (c.cell k.name a) 0 ≡ cond b (get_or k.cells.items a 0) 0
  cell_case k a true e f = f a (ltb-true a (length k.cells.items) e)
  cell_case k a false e f = refl

  alike_at : (m : Name) (k : MemoryCells) → Has memories k → k.name ≡ m → (a : ℕ) → cond (nat_lt a (s.cells m)) (c.cell m a) 0 ≡ cond (nat_lt a (length k.cells.items)) (get_or k.cells.items a 0) 0
  alike_at m k h e a =
      let i = all_at (MemoryIs items c) memories k held h in
      let w : (s.width k.name ≡ i.0.0) × (s.cells k.name ≡ length k.cells.items) = all_at (Holds s c) items (Memory i.0.0 k.name (length k.cells.items)) lines i.0.1 in
      subst (λ z. cond (nat_lt a (s.cells z)) (c.cell z a) 0 ≡ cond (nat_lt a (length k.cells.items)) (get_or k.cells.items a 0) 0) e
      (ap (λ n. cond (nat_lt a n) (c.cell k.name a) 0) w.1 ∙ cell_case k a (nat_lt a (length k.cells.items)) refl i.1)

  found_alike : (m : Name) (o : Option MemoryCells) → is_some o ≡ true → ((k : MemoryCells) → o ≡ Some k → Has memories k × (k.name ≡ m)) → (a : ℕ)
      → cond (nat_lt a (s.cells m)) (c.cell m a) 0 ≡ cond (nat_lt a (length (option_map_or (λ (n : MemoryCells). n.cells.items) o []))) (get_or (option_map_or (λ (n : MemoryCells). n.cells.items) o []) a 0) 0
  found_alike m None h f a = cc
  found_alike m (Some k) h f a = let t = f k refl in alike_at m k t.0 t.1 a

  pub reads_alike : (ns : List NetNumber) (e : Value) → has_cells memories e ≡ true → ReadsAlike c (cycle_of ns memories) s (sizes_of ns memories) e
  reads_alike ns (Cell m x) h = λ a. found_alike m (first_memory memories m) h (memory_found memories m) a
  reads_alike ns (Plain a) h = tt
  reads_alike ns (Invert a) h = tt
  reads_alike ns (Binary a op b) h = tt
  reads_alike ns (Choose t a b) h = tt
  reads_alike ns (Concat atoms) h = tt
  reads_alike ns (Repeat n a) h = tt

module _ (nets : Path → Cycle) (path : Path) (x : Name) (m : ModuleTree) (s : Sizes) (ports : AllByRecursion (PortHolds s) m.ports) (lines : AllByRecursion (Holds s (nets path)) m.items)
    (memories : List MemoryCells) (held : AllByRecursion (MemoryIs m.items (nets path)) memories) where
  pub driver_gives : (e : Value) → Has m.items (Assign x e) → can_drive (declared m) memories x e ≡ true
      → Gives nets path x (record { path = path; reads = map (net_read (declared m)) (value_nets e); rule = RuleTree.driver (bits_of (declared m) x) e memories })
  driver_gives e h can ns v a is =
      let one = both_true (net_kind_is_read (net_kind_of (declared m) x) && are_read (declared m) (map (net_read (declared m)) (value_nets e))) (has_cells memories e) can in
      let two = both_true (net_kind_is_read (net_kind_of (declared m) x)) (are_read (declared m) (map (net_read (declared m)) (value_nets e))) one.0 in
      let line : (nets path).net x ≡ driven s (s.width x) (nets path) e = all_at (Holds s (nets path)) m.items (Assign x e) lines h in
      let width : s.width x ≡ bits_of (declared m) x = width_held m s (nets path) ports lines x net_kind_is_read refl refl two.0 in
      let found : (z : Name) → Has (value_nets e) z → (net_in ns z ≡ (nets path).net z) × (bits_in ns z ≡ bits_of (declared m) z) = read_found (nets path) (declared m) (value_nets e) ns a in
      let same : driven s (s.width x) (nets path) e ≡ driven (sizes_of ns memories) (bits_of (declared m) x) (cycle_of ns memories) e =
      driven_same (nets path) (cycle_of ns memories) s (sizes_of ns memories) (s.width x) (bits_of (declared m) x) e width
      (λ z k. sym (found z k).0)
      (λ z k. width_held m s (nets path) ports lines z net_kind_is_read refl refl (names_read (declared m) (value_nets e) two.1 z k) ∙ sym (found z k).1)
      (reads_alike m.items s (nets path) lines memories held ns e one.1) in
      line ∙ same ∙ sym (is_fit (driven (sizes_of ns memories) (bits_of (declared m) x) (cycle_of ns memories) e) v (sym (checked (nat_le (bits_of (declared m) x) 128) (fitting (driven (sizes_of ns memories) (bits_of (declared m) x) (cycle_of ns memories) e)) v is)))
