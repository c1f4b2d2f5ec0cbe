-- The places of names, and when an element was declared.
use Rattle.std.proofs.Common.{◌≡◌, suc, ◌+◌, ◌<◌, ◌≤◌, Bool, true, false, cond, ◌&&◌, ◌||◌, List, [], ◌∷◌, ◌++◌, length, inl, inr, refl, sym, ap, subst, ◌∙◌, arith}
use Rattle.std.specs.Prelude.{bytes_eq, not}
use Rattle.std.specs.Cmp.Lexicographic.{bytes_decides}
use Rattle.vlog_tree.specs.declared.tree.Atom.{Atom}
use Rattle.vlog_tree.specs.declared.tree.Atom.TheVariants.{Net, Part, Literal}
use Rattle.vlog_tree.specs.declared.tree.Value.{Value}
use Rattle.vlog_tree.specs.declared.tree.Value.TheVariants.{Plain, Invert, Binary, Choose, Concat, Repeat, Cell}
use Rattle.vlog_tree.specs.declared.table.Declaration.{Declaration}
use Rattle.vlog_tree.specs.declared.table.NetKind.TheVariants.{Input as InputNet, Output as OutputNet, WireNet, Register as RegisterNet, MemoryArray, ChildInstance}
use Rattle.vlog_tree.specs.Form.{ModuleTree}
use Rattle.tapa_base.specs.Lists.{Has}
use Rattle.vlog_tree.specs.Table.{Name, NameUse, is_clk, find_name, net_kind_of, net_kind_is_read, one_if}
use Rattle.vlog_tree.specs.V2.{read_use, memory_use, atom_uses, value_uses}
use Rattle.vlog_tree.specs.Loops.{atom_nets, value_nets}
use Rattle.tapa_base.proofs.Lists.{has_left, has_split, of_flat}
use Rattle.vlog_module_laws.proofs.Lists.{count_cons, counted}
use Rattle.hw_build.specs.Elements.{Element, Input, Output, Outlet, Wire, InstanceWire, Register, Memory, Block, Instance}
use Rattle.hw_build.specs.Fitting.{declarations, table_after, is_new, are_kept, has_fitting_names, have_fitting_names}
use Rattle.hw_build.specs.Order.{place_in}
use Rattle.hw_build.proofs.Tables.{times, is_known, known, count_append, new_is_none}
use Rattle.hw_build.proofs.Uses.{all_of_both, all_of_flat, read_known, and_true}
use Rattle.vlog_module_laws.proofs.Forms.{itself as same_name}
use Rattle.tapa_base.proofs.Tests.{both_true, first_true}

pub has_times : (t : List Declaration) (d : Declaration) → Has t d → 1 ≤ times t d.name
has_times t d h = counted (λ (z : Declaration). bytes_eq z.name d.name) t d h (same_name d.name)

low_of : (d : Declaration) (t : List Declaration) (x : Name) (b : Bool) → place_in t x ≤ length t → cond b (suc (length t)) (place_in t x) ≤ suc (length t)
low_of d t x true h = omega arith
low_of d t x false h = omega arith

pub place_low : (t : List Declaration) (x : Name) → place_in t x ≤ length t
place_low [] x = omega arith
place_low (d ∷ t) x = low_of d t x (bytes_eq d.name x) (place_low t x)

some_of : (d : Declaration) (t : List Declaration) (x : Name) (b : Bool) → bytes_eq d.name x ≡ b → (1 ≤ times t x → 0 < place_in t x) → one_if b + times t x ≡ times (d ∷ t) x → 1 ≤ times (d ∷ t) x → 0 < cond b (suc (length t)) (place_in t x)
some_of d t x true e ih c h = omega arith
some_of d t x false e ih c h = ih (omega arith)

-- what is declared has a place
pub place_some : (t : List Declaration) (x : Name) → 1 ≤ times t x → 0 < place_in t x
place_some [] x h = absurd (omega arith)
place_some (d ∷ t) x h = some_of d t x (bytes_eq d.name x) refl (place_some t x) (sym (count_cons (λ (z : Declaration). bytes_eq z.name x) d t)) h

above_low : (t : List Declaration) (x : Name) → suc (length t) ≡ place_in t x → ⊥
above_low t x e = let low : place_in t x ≤ length t = place_low t x in omega (arith, e, low)

one_of : (d : Declaration) (t : List Declaration) (x y : Name) (a b : Bool) → bytes_eq d.name x ≡ a → bytes_eq d.name y ≡ b → (0 < place_in t x → place_in t x ≡ place_in t y → x ≡ y)
    → 0 < cond a (suc (length t)) (place_in t x) → cond a (suc (length t)) (place_in t x) ≡ cond b (suc (length t)) (place_in t y) → x ≡ y
one_of d t x y true true f g ih some same = sym ((bytes_decides d.name x).0 f) ∙ (bytes_decides d.name y).0 g
one_of d t x y true false f g ih some same = absurd (above_low t y same)
one_of d t x y false true f g ih some same = absurd (above_low t x (sym same))
one_of d t x y false false f g ih some same = ih some same

-- names with one place are one name
pub one_place : (t : List Declaration) (x y : Name) → 0 < place_in t x → place_in t x ≡ place_in t y → x ≡ y
one_place [] x y some e = absurd (omega (arith, some))
one_place (d ∷ t) x y some e = one_of d t x y (bytes_eq d.name x) (bytes_eq d.name y) refl refl (one_place t x y) some e

new_is_other : (d : Declaration) (t : List Declaration) (x : Name) (b : Bool) → bytes_eq d.name x ≡ b → is_new t d.name ≡ true → 1 ≤ times t x → b ≡ false
new_is_other d t x true e new h = let none : times t x ≡ 0 = subst (λ y. times t y ≡ 0) ((bytes_decides d.name x).0 e) (new_is_none t d.name new) in absurd (omega arith)
new_is_other d t x false e new h = refl

place_more : (d : Declaration) (t : List Declaration) (x : Name) → is_new t d.name ≡ true → 1 ≤ times t x → place_in (d ∷ t) x ≡ place_in t x
place_more d t x new h = ap (λ b. cond b (suc (length t)) (place_in t x)) (new_is_other d t x (bytes_eq d.name x) refl new h)

place_with : (ms : List ModuleTree) (t : List Declaration) (e : Element) (x : Name) → has_fitting_names ms t e ≡ true → 1 ≤ times t x → place_in (declarations e ++ t) x ≡ place_in t x
place_with ms t (Input w y) x n h = place_more (record { name = y; net_kind = InputNet; bits = w; cells = 0 }) t x n h
place_with ms t (Output w y v) x n h = place_more (record { name = y; net_kind = OutputNet; bits = w; cells = 0 }) t x (both_true (is_new t y) (are_kept (value_uses t v)) n).0 h
place_with ms t (Outlet w y) x n h = place_more (record { name = y; net_kind = OutputNet; bits = w; cells = 0 }) t x n h
place_with ms t (Wire w y v) x n h = place_more (record { name = y; net_kind = WireNet; bits = w; cells = 0 }) t x (both_true (is_new t y) (are_kept (value_uses t v)) n).0 h
place_with ms t (InstanceWire w y) x n h = place_more (record { name = y; net_kind = WireNet; bits = w; cells = 0 }) t x n h
place_with ms t (Register w y) x n h = place_more (record { name = y; net_kind = RegisterNet; bits = w; cells = 0 }) t x n h
place_with ms t (Memory w y c) x n h = place_more (record { name = y; net_kind = MemoryArray; bits = w; cells = c }) t x n h
place_with ms t (Block b) x n h = refl
place_with ms t (Instance k i ls) x n h = place_more (record { name = i; net_kind = ChildInstance; bits = 0; cells = 0 }) t x (first_true (is_new t i) _ _ _ n) h

still : (e : Element) (t : List Declaration) (x : Name) → 1 ≤ times t x → 1 ≤ times (declarations e ++ t) x
still e t x h = let c : times (declarations e ++ t) x ≡ times (declarations e) x + times t x = count_append (λ (d : Declaration). bytes_eq d.name x) (declarations e) t in omega arith

pub place_after : (ms : List ModuleTree) (elements : List Element) (t : List Declaration) (x : Name) → have_fitting_names ms t elements ≡ true → 1 ≤ times t x → place_in (table_after t elements) x ≡ place_in t x
place_after ms [] t x n h = refl
place_after ms (e ∷ elements) t x n h =
    let both = both_true (has_fitting_names ms t e) (have_fitting_names ms (declarations e ++ t) elements) n in
    place_after ms elements (declarations e ++ t) x both.1 (still e t x h) ∙ place_with ms t e x both.0 h

place_top : (d : Declaration) (t : List Declaration) → place_in (d ∷ t) d.name ≡ suc (length t)
place_top d t = ap (λ b. cond b (suc (length t)) (place_in t d.name)) (same_name d.name)

-- what an element declares stands next
place_new : (e : Element) (t : List Declaration) (d : Declaration) → Has (declarations e) d → place_in (declarations e ++ t) d.name ≡ suc (length t)
place_new (Input w x) t d (inl s) = subst (λ (z : Declaration). place_in (record { name = x; net_kind = InputNet; bits = w; cells = 0 } ∷ t) z.name ≡ suc (length t)) s (place_top (record { name = x; net_kind = InputNet; bits = w; cells = 0 }) t)
place_new (Input w x) t d (inr n) = absurd n
place_new (Output w x v) t d (inl s) = subst (λ (z : Declaration). place_in (record { name = x; net_kind = OutputNet; bits = w; cells = 0 } ∷ t) z.name ≡ suc (length t)) s (place_top (record { name = x; net_kind = OutputNet; bits = w; cells = 0 }) t)
place_new (Output w x v) t d (inr n) = absurd n
place_new (Outlet w x) t d (inl s) = subst (λ (z : Declaration). place_in (record { name = x; net_kind = OutputNet; bits = w; cells = 0 } ∷ t) z.name ≡ suc (length t)) s (place_top (record { name = x; net_kind = OutputNet; bits = w; cells = 0 }) t)
place_new (Outlet w x) t d (inr n) = absurd n
place_new (Wire w x v) t d (inl s) = subst (λ (z : Declaration). place_in (record { name = x; net_kind = WireNet; bits = w; cells = 0 } ∷ t) z.name ≡ suc (length t)) s (place_top (record { name = x; net_kind = WireNet; bits = w; cells = 0 }) t)
place_new (Wire w x v) t d (inr n) = absurd n
place_new (InstanceWire w x) t d (inl s) = subst (λ (z : Declaration). place_in (record { name = x; net_kind = WireNet; bits = w; cells = 0 } ∷ t) z.name ≡ suc (length t)) s (place_top (record { name = x; net_kind = WireNet; bits = w; cells = 0 }) t)
place_new (InstanceWire w x) t d (inr n) = absurd n
place_new (Register w x) t d (inl s) = subst (λ (z : Declaration). place_in (record { name = x; net_kind = RegisterNet; bits = w; cells = 0 } ∷ t) z.name ≡ suc (length t)) s (place_top (record { name = x; net_kind = RegisterNet; bits = w; cells = 0 }) t)
place_new (Register w x) t d (inr n) = absurd n
place_new (Memory w x c) t d (inl s) = subst (λ (z : Declaration). place_in (record { name = x; net_kind = MemoryArray; bits = w; cells = c } ∷ t) z.name ≡ suc (length t)) s (place_top (record { name = x; net_kind = MemoryArray; bits = w; cells = c }) t)
place_new (Memory w x c) t d (inr n) = absurd n
place_new (Block b) t d h = absurd h
place_new (Instance k i ls) t d (inl s) = subst (λ (z : Declaration). place_in (record { name = i; net_kind = ChildInstance; bits = 0; cells = 0 } ∷ t) z.name ≡ suc (length t)) s (place_top (record { name = i; net_kind = ChildInstance; bits = 0; cells = 0 }) t)
place_new (Instance k i ls) t d (inr n) = absurd n

-- an element at the moment that it was declared: what stood before it keeps its place in the whole, and what it declares follows
pub record IsDeclaredAt (ms : List ModuleTree) (all : List Declaration) (e : Element) : Type 0 where
  pub before : List Declaration
  pub fits : has_fitting_names ms before e ≡ true
  pub kept : (x : Name) → 1 ≤ times before x → place_in all x ≡ place_in before x
  pub new : (d : Declaration) → Has (declarations e) d → place_in all d.name ≡ suc (length before)

pub moment : (ms : List ModuleTree) (elements : List Element) (t : List Declaration) → have_fitting_names ms t elements ≡ true → (e : Element) → Has elements e → IsDeclaredAt ms (table_after t elements) e
moment ms [] t n e h = absurd h
moment ms (c ∷ elements) t n e (inl s) =
    let both = both_true (has_fitting_names ms t c) (have_fitting_names ms (declarations c ++ t) elements) n in
    subst (λ z. IsDeclaredAt ms (table_after (declarations c ++ t) elements) z) s
    (record {
      before = t;
      fits = both.0;
      kept = λ x k. place_after ms elements (declarations c ++ t) x both.1 (still c t x k) ∙ place_with ms t c x both.0 k;
      new = λ d k. place_after ms elements (declarations c ++ t) d.name both.1 (has_times (declarations c ++ t) d (has_left (declarations c) t d k)) ∙ place_new c t d k;
    })
moment ms (c ∷ elements) t n e (inr h) =
    let both = both_true (has_fitting_names ms t c) (have_fitting_names ms (declarations c ++ t) elements) n in
    moment ms elements (declarations c ++ t) both.1 e h

module _ (t : List Declaration) where
  abbrev pub IsRead : Name → Type 0
  IsRead y = not (read_use t y).1 ≡ true

  atom_read : (a : Atom) → are_kept (atom_uses t a) ≡ true → (y : Name) → Has (atom_nets a) y → IsRead y
  atom_read (Net x) h y (inl e) = subst IsRead e (and_true _ h)
  atom_read (Net x) h y (inr n) = absurd n
  atom_read (Part x high low) h y (inl e) = subst IsRead e (and_true _ h)
  atom_read (Part x high low) h y (inr n) = absurd n
  atom_read (Literal w n) h y k = absurd k

  two_read : (a b : Atom) → are_kept (atom_uses t a ++ atom_uses t b) ≡ true → (y : Name) → Has (atom_nets a ++ atom_nets b) y → IsRead y
  two_read a b h y k =
      let p = all_of_both (λ (u : NameUse). not u.1) (atom_uses t a) (atom_uses t b) h in
      elim (has_split (atom_nets a) (atom_nets b) y k) [ inl l ↦ atom_read a p.0 y l | inr r ↦ atom_read b p.1 y r ]

  pub value_read : (v : Value) → are_kept (value_uses t v) ≡ true → (y : Name) → Has (value_nets v) y → IsRead y
  value_read (Plain a) h y k = atom_read a h y k
  value_read (Invert a) h y k = atom_read a h y k
  value_read (Binary a op b) h y k = two_read a b h y k
  value_read (Choose c a b) h y k =
      let p = all_of_both (λ (u : NameUse). not u.1) (atom_uses t c) (atom_uses t a ++ atom_uses t b) h in
      elim (has_split (atom_nets c) (atom_nets a ++ atom_nets b) y k) [ inl l ↦ atom_read c p.0 y l | inr r ↦ two_read a b p.1 y r ]
  value_read (Concat atoms) h y k = let r = of_flat atom_nets atoms y k in atom_read r.0 (all_of_flat (λ (u : NameUse). not u.1) (atom_uses t) atoms h r.0 r.1) y r.2
  value_read (Repeat n a) h y k = atom_read a h y k
  value_read (Cell m x) h y (inl e) = subst IsRead e (and_true _ (both_true (not (memory_use t m).1) _ h).1)
  value_read (Cell m x) h y (inr n) = absurd n

  read_of : (a b : Bool) → not (not a || b) ≡ true → a ≡ true
  read_of true b h = refl
  read_of false b h = cc

  pub known_times : (y : Name) → is_known (net_kind_of t y) ≡ true → 1 ≤ times t y
  known_times y h = let k = known t y h in subst (λ x. 1 ≤ times t x) k.1 (has_times t (find_name t y) k.0)

  pub read_times : (y : Name) → IsRead y → 1 ≤ times t y
  read_times y h = known_times y (read_known (net_kind_of t y) (read_of (net_kind_is_read (net_kind_of t y)) (is_clk y) h))
