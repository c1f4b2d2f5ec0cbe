-- What is declared behind some elements: how often each name, and with which width each net.
use Rattle.std.proofs.Common.{◌≡◌, ℕ, ◌+◌, Bool, true, false, ◌||◌, List, [], ◌∷◌, ◌++◌, inl, inr, refl, sym, ap, ◌∙◌, arith}
use Rattle.std.specs.Prelude.{bytes_eq, count_by, not}
use Rattle.std.specs.List.{list_any, flat_map}
use Rattle.vlog_tree.specs.declared.table.Declaration.{Declaration}
use Rattle.vlog_tree.specs.declared.table.NetKind.{NetKind}
use Rattle.vlog_tree.specs.declared.table.NetKind.TheVariants.{Input as InputNet, Output as OutputNet, WireNet, Register as RegisterNet, MemoryArray, ChildInstance}
use Rattle.tapa_base.specs.Lists.{Has}
use Rattle.vlog_tree.specs.Table.{Name, clk, net_kind_is_read, net_kind_is_register, net_kind_is_memory, times_in, one_if}
use Rattle.vlog_tree.specs.Labels.{rst}
use Rattle.tapa_base.proofs.Lists.{of_flat, has_flat}
use Rattle.vlog_module_laws.proofs.Lists.{count_cons}
use Rattle.hw_build.specs.Elements.{Element, Input, Output, Outlet, Wire, InstanceWire, Register, Memory, Block, Instance}
use Rattle.hw_build.specs.Fitting.{declarations, first_table, table_after, is_new}
use Rattle.hw_build.proofs.Tables.{times, clock_declared, reset_declared, count_append, stays, stays_new}
use Rattle.hw_build.specs.Scope.{readable, register_of, memory_of, IsNet, IsRegister, IsMemory}
use Rattle.hw_build.specs.Fits.{declared_names}
use Rattle.hw_build.proofs.Drivers.{one_name}

abbrev pub table : List Element → List Declaration
table elements = table_after first_table elements

abbrev pub named : List Element → List Name
named elements = flat_map declared_names elements

declares : (e : Element) (x : Name) → times (declarations e) x ≡ times_in (declared_names e) x
declares (Input w x) y = one_name (record { name = x; net_kind = InputNet; bits = w; cells = 0 }) y
declares (Output w x v) y = one_name (record { name = x; net_kind = OutputNet; bits = w; cells = 0 }) y
declares (Outlet w x) y = one_name (record { name = x; net_kind = OutputNet; bits = w; cells = 0 }) y
declares (Wire w x v) y = one_name (record { name = x; net_kind = WireNet; bits = w; cells = 0 }) y
declares (InstanceWire w x) y = one_name (record { name = x; net_kind = WireNet; bits = w; cells = 0 }) y
declares (Register w x) y = one_name (record { name = x; net_kind = RegisterNet; bits = w; cells = 0 }) y
declares (Memory w x n) y = one_name (record { name = x; net_kind = MemoryArray; bits = w; cells = n }) y
declares (Block b) y = refl
declares (Instance k i ls) y = one_name (record { name = i; net_kind = ChildInstance; bits = 0; cells = 0 }) y

pub names_after : (elements : List Element) (t : List Declaration) (x : Name) → times (table_after t elements) x ≡ times t x + times_in (named elements) x
names_after [] t x = omega arith
names_after (e ∷ elements) t x =
    let rest : times (table_after (declarations e ++ t) elements) x ≡ times (declarations e ++ t) x + times_in (named elements) x = names_after elements (declarations e ++ t) x in
    let here : times (declarations e ++ t) x ≡ times (declarations e) x + times t x = count_append (λ (d : Declaration). bytes_eq d.name x) (declarations e) t in
    let names : times (declarations e) x ≡ times_in (declared_names e) x = declares e x in
    let more : times_in (declared_names e ++ named elements) x ≡ times_in (declared_names e) x + times_in (named elements) x = count_append (λ y. bytes_eq y x) (declared_names e) (named elements) in
    omega (arith, rest, here, names, more)

pub first_times : (x : Name) → times first_table x ≡ times_in (clk ∷ rst ∷ []) x
first_times x =
    let a : times first_table x ≡ one_if (bytes_eq clk x) + times (reset_declared ∷ []) x = count_cons (λ (z : Declaration). bytes_eq z.name x) clock_declared (reset_declared ∷ []) in
    let b : times (reset_declared ∷ []) x ≡ times_in (rst ∷ []) x = one_name reset_declared x in
    let c : times_in (clk ∷ rst ∷ []) x ≡ one_if (bytes_eq clk x) + times_in (rst ∷ []) x = count_cons (λ y. bytes_eq y x) clk (rst ∷ []) in
    omega (arith, a, b, c)

-- a list without a name
none_any : {A : Type 0} (p : A → Bool) (xs : List A) → count_by p xs ≡ 0 → list_any p xs ≡ false
none_any p [] e = refl
none_any p (x ∷ xs) e =
    let c : count_by p (x ∷ xs) ≡ one_if (p x) + count_by p xs = count_cons p x xs in
    here (p x) (omega (arith, c, e)) (none_any p xs (omega (arith, c, e))) where
      here : (b : Bool) → one_if b ≡ 0 → list_any p xs ≡ false → (b || list_any p xs) ≡ false
      here true z r = absurd (omega arith)
      here false z r = r

pub none_is_new : (t : List Declaration) (x : Name) → times t x ≡ 0 → is_new t x ≡ true
none_is_new t x e = ap not (none_any (λ (d : Declaration). bytes_eq d.name x) t e)

-- a declaration behind elements of a kind that p says
pub record IsDeclared (before : List Element) (p : NetKind → Bool) (x : Name) (w : ℕ) : Type 0 where
  pub is : Declaration
  pub has : Has (table before) is
  pub name : is.name ≡ x
  pub kind : p is.net_kind ≡ true
  pub bits : is.bits ≡ w

-- what an element declares, of a kind that p says
record IsIn (e : Element) (p : NetKind → Bool) (x : Name) (w : ℕ) : Type 0 where
  is : Declaration
  has : Has (declarations e) is
  name : is.name ≡ x
  kind : p is.net_kind ≡ true
  bits : is.bits ≡ w

one_in : (e : Element) (p : NetKind → Bool) (d : Declaration) (x : Name) (w : ℕ) → Has (declarations e) d → p d.net_kind ≡ true → ◌≡◌ {A = Name × ℕ} (d.name, d.bits) (x, w) → IsIn e p x w
one_in e p d x w h k s = record { is = d; has = h; name = ap (λ (q : Name × ℕ). q.0) s; kind = k; bits = ap (λ (q : Name × ℕ). q.1) s }

read_in : (e : Element) (x : Name) (w : ℕ) → Has {N = Name × ℕ} (readable e) (x, w) → IsIn e net_kind_is_read x w
read_in (Input v y) x w (inl s) = one_in (Input v y) net_kind_is_read (record { name = y; net_kind = InputNet; bits = v; cells = 0 }) x w (inl refl) refl s
read_in (Input v y) x w (inr n) = absurd n
read_in (Output v y d) x w (inl s) = one_in (Output v y d) net_kind_is_read (record { name = y; net_kind = OutputNet; bits = v; cells = 0 }) x w (inl refl) refl s
read_in (Output v y d) x w (inr n) = absurd n
read_in (Outlet v y) x w (inl s) = one_in (Outlet v y) net_kind_is_read (record { name = y; net_kind = OutputNet; bits = v; cells = 0 }) x w (inl refl) refl s
read_in (Outlet v y) x w (inr n) = absurd n
read_in (Wire v y d) x w (inl s) = one_in (Wire v y d) net_kind_is_read (record { name = y; net_kind = WireNet; bits = v; cells = 0 }) x w (inl refl) refl s
read_in (Wire v y d) x w (inr n) = absurd n
read_in (InstanceWire v y) x w (inl s) = one_in (InstanceWire v y) net_kind_is_read (record { name = y; net_kind = WireNet; bits = v; cells = 0 }) x w (inl refl) refl s
read_in (InstanceWire v y) x w (inr n) = absurd n
read_in (Register v y) x w (inl s) = one_in (Register v y) net_kind_is_read (record { name = y; net_kind = RegisterNet; bits = v; cells = 0 }) x w (inl refl) refl s
read_in (Register v y) x w (inr n) = absurd n
read_in (Memory v y c) x w h = absurd h
read_in (Block b) x w h = absurd h
read_in (Instance k i ls) x w h = absurd h

register_in : (e : Element) (x : Name) (w : ℕ) → Has {N = Name × ℕ} (register_of e) (x, w) → IsIn e net_kind_is_register x w
register_in (Register v y) x w (inl s) = one_in (Register v y) net_kind_is_register (record { name = y; net_kind = RegisterNet; bits = v; cells = 0 }) x w (inl refl) refl s
register_in (Register v y) x w (inr n) = absurd n
register_in (Input v y) x w h = absurd h
register_in (Output v y d) x w h = absurd h
register_in (Outlet v y) x w h = absurd h
register_in (Wire v y d) x w h = absurd h
register_in (InstanceWire v y) x w h = absurd h
register_in (Memory v y c) x w h = absurd h
register_in (Block b) x w h = absurd h
register_in (Instance k i ls) x w h = absurd h

memory_in : (e : Element) (x : Name) (w : ℕ) → Has {N = Name × ℕ} (memory_of e) (x, w) → IsIn e net_kind_is_memory x w
memory_in (Memory v y c) x w (inl s) = one_in (Memory v y c) net_kind_is_memory (record { name = y; net_kind = MemoryArray; bits = v; cells = c }) x w (inl refl) refl s
memory_in (Memory v y c) x w (inr n) = absurd n
memory_in (Input v y) x w h = absurd h
memory_in (Output v y d) x w h = absurd h
memory_in (Outlet v y) x w h = absurd h
memory_in (Wire v y d) x w h = absurd h
memory_in (InstanceWire v y) x w h = absurd h
memory_in (Register v y) x w h = absurd h
memory_in (Block b) x w h = absurd h
memory_in (Instance k i ls) x w h = absurd h

behind : (before : List Element) (e : Element) (p : NetKind → Bool) (x : Name) (w : ℕ) → Has before e → IsIn e p x w → IsDeclared before p x w
behind before e p x w h i = record { is = i.is; has = stays_new before first_table e i.is h i.has; name = i.name; kind = i.kind; bits = i.bits }

pub net_declared : (before : List Element) (x : Name) (w : ℕ) → IsNet before x w → IsDeclared before net_kind_is_read x w
net_declared before x w (inl s) = record {
  is = reset_declared;
  has = stays before first_table reset_declared (inr (inl refl));
  name = ap (λ (q : Name × ℕ). q.0) s;
  kind = refl;
  bits = ap (λ (q : Name × ℕ). q.1) s;
}
net_declared before x w (inr h) =
    let r = of_flat readable before (x, w) h in
    behind before r.0 net_kind_is_read x w r.1 (read_in r.0 x w r.2)

pub register_declared : (before : List Element) (x : Name) (w : ℕ) → IsRegister before x w → IsDeclared before net_kind_is_register x w
register_declared before x w h =
    let r = of_flat register_of before (x, w) h in
    behind before r.0 net_kind_is_register x w r.1 (register_in r.0 x w r.2)

pub memory_declared : (before : List Element) (x : Name) (w : ℕ) → IsMemory before x w → IsDeclared before net_kind_is_memory x w
memory_declared before x w h =
    let r = of_flat memory_of before (x, w) h in
    behind before r.0 net_kind_is_memory x w r.1 (memory_in r.0 x w r.2)

-- a net is declared by an element, or is the reset
name_of : (e : Element) (x : Name) (w : ℕ) → Has {N = Name × ℕ} (readable e) (x, w) → Has (declared_names e) x
name_of (Input v y) x w (inl s) = inl (ap (λ (q : Name × ℕ). q.0) s)
name_of (Input v y) x w (inr n) = absurd n
name_of (Output v y d) x w (inl s) = inl (ap (λ (q : Name × ℕ). q.0) s)
name_of (Output v y d) x w (inr n) = absurd n
name_of (Outlet v y) x w (inl s) = inl (ap (λ (q : Name × ℕ). q.0) s)
name_of (Outlet v y) x w (inr n) = absurd n
name_of (Wire v y d) x w (inl s) = inl (ap (λ (q : Name × ℕ). q.0) s)
name_of (Wire v y d) x w (inr n) = absurd n
name_of (InstanceWire v y) x w (inl s) = inl (ap (λ (q : Name × ℕ). q.0) s)
name_of (InstanceWire v y) x w (inr n) = absurd n
name_of (Register v y) x w (inl s) = inl (ap (λ (q : Name × ℕ). q.0) s)
name_of (Register v y) x w (inr n) = absurd n
name_of (Memory v y c) x w h = absurd h
name_of (Block b) x w h = absurd h
name_of (Instance k i ls) x w h = absurd h

pub net_name : (before : List Element) (x : Name) (w : ℕ) → IsNet before x w → Has (rst ∷ named before) x
net_name before x w (inl s) = inl (ap (λ (q : Name × ℕ). q.0) s)
net_name before x w (inr h) =
    let r = of_flat readable before (x, w) h in
    inr (has_flat declared_names before r.0 x r.1 (name_of r.0 x w r.2))

register_name_of : (e : Element) (x : Name) (w : ℕ) → Has {N = Name × ℕ} (register_of e) (x, w) → Has (declared_names e) x
register_name_of (Register v y) x w (inl s) = inl (ap (λ (q : Name × ℕ). q.0) s)
register_name_of (Register v y) x w (inr n) = absurd n
register_name_of (Input v y) x w h = absurd h
register_name_of (Output v y d) x w h = absurd h
register_name_of (Outlet v y) x w h = absurd h
register_name_of (Wire v y d) x w h = absurd h
register_name_of (InstanceWire v y) x w h = absurd h
register_name_of (Memory v y c) x w h = absurd h
register_name_of (Block b) x w h = absurd h
register_name_of (Instance k i ls) x w h = absurd h

pub register_name : (before : List Element) (x : Name) (w : ℕ) → IsRegister before x w → Has (named before) x
register_name before x w h =
    let r = of_flat register_of before (x, w) h in
    has_flat declared_names before r.0 x r.1 (register_name_of r.0 x w r.2)

memory_name_of : (e : Element) (x : Name) (w : ℕ) → Has {N = Name × ℕ} (memory_of e) (x, w) → Has (declared_names e) x
memory_name_of (Memory v y c) x w (inl s) = inl (ap (λ (q : Name × ℕ). q.0) s)
memory_name_of (Memory v y c) x w (inr n) = absurd n
memory_name_of (Input v y) x w h = absurd h
memory_name_of (Output v y d) x w h = absurd h
memory_name_of (Outlet v y) x w h = absurd h
memory_name_of (Wire v y d) x w h = absurd h
memory_name_of (InstanceWire v y) x w h = absurd h
memory_name_of (Register v y) x w h = absurd h
memory_name_of (Block b) x w h = absurd h
memory_name_of (Instance k i ls) x w h = absurd h

pub memory_name : (before : List Element) (x : Name) (w : ℕ) → IsMemory before x w → Has (named before) x
memory_name before x w h =
    let r = of_flat memory_of before (x, w) h in
    has_flat declared_names before r.0 x r.1 (memory_name_of r.0 x w r.2)
