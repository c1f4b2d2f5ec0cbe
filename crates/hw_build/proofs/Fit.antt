-- Elements that fit in order fit.
use Rattle.std.proofs.Common.{◌≡◌, ℕ, ◌+◌, ◌-◌, ◌*◌, ◌<◌, ◌≤◌, Bool, true, false, eqb, ◌&&◌, ◌||◌, List, [], ◌∷◌, ◌++◌, map, sum, inl, refl, sym, ap, subst, ◌∙◌, arith, append_assoc}
use Rattle.std.specs.Prelude.{bytes_eq, count_by, not, nat_le, IsTrue}
use Rattle.std.specs.List.{list_any, list_all, flat_map, AllByRecursion}
use Rattle.std.specs.Cmp.Lexicographic.{bytes_decides}
use Rattle.std.proofs.lemmas.Bool.{le-leb, false_from_ne_true as not_both, and_from as yes_and}
use Rattle.std.proofs.lemmas.List.Sums.{sum_by-cons}
use Rattle.std.proofs.lemmas.Grind.{flat_map-append}
use Rattle.vlog_tree.specs.declared.tree.Atom.{Atom}
use Rattle.vlog_tree.specs.declared.tree.Atom.TheVariants.{Net, Part, Literal}
use Rattle.vlog_tree.specs.declared.tree.BinaryOp.{BinaryOp}
use Rattle.vlog_tree.specs.declared.tree.BinaryOp.TheVariants.{Plus, Minus, Times, Divide, Remainder, And, Or, Xor, ShiftLeft, ShiftRight, Equals, Differs, Less}
use Rattle.vlog_tree.specs.declared.tree.Value.{Value}
use Rattle.vlog_tree.specs.declared.tree.Value.TheVariants.{Plain, Invert, Binary, Choose, Concat, Repeat, Cell}
use Rattle.vlog_tree.specs.declared.tree.Step.{Step}
use Rattle.vlog_tree.specs.declared.tree.Step.TheVariants.{If, Else, End, NonblockingAssign, MemoryAssign}
use Rattle.vlog_tree.specs.declared.table.Declaration.{Declaration}
use Rattle.vlog_tree.specs.declared.table.NetKind.{NetKind}
use Rattle.vlog_tree.specs.Form.{ModuleTree}
use Rattle.tapa_base.specs.Lists.{Has}
use Rattle.vlog_tree.specs.Labels.{rst}
use Rattle.vlog_tree.specs.Names.{is_among}
use Rattle.vlog_tree.specs.Table.{Name, NameUse, clk, is_clk, find_name, net_kind_of, bits_of, net_kind_is_read, net_kind_is_register, net_kind_is_memory, times_in, one_if}
use Rattle.vlog_tree.specs.V2.{read_use, register_use, memory_use, atom_uses, value_uses, step_uses}
use Rattle.vlog_tree.specs.V3.{is_width, atom_bits}
use Rattle.vlog_tree.specs.V4.{step_assigns}
use Rattle.vlog_module_laws.proofs.Lists.{count_cons, counted}
use Rattle.hw_build.specs.Elements.{Element, Input, Output, Outlet, Wire, InstanceWire, Register, Memory, Block, Instance}
use Rattle.hw_build.specs.Fitting.{declarations, first_table, is_new, are_kept, has_fitting_names, have_fitting_names, AtomFits, AtomHas, OpFits, ValueFits, StepFits, HasFittingWidths, HaveFittingWidths, link_names, instance_driven, stored_names, assigns, drive_links_once, have_own_blocks}
use Rattle.hw_build.proofs.Tables.{times, count_append, AreDistinct, found}
use Rattle.hw_build.proofs.Appended.{table_append}
use Rattle.hw_build.specs.Scope.{IsNet, IsRegister, IsMemory, AtomIs, SameAtoms, OpIs, PartsAre, ValueIs, StepIs, first_assigned, IsBlockOf, FitsAfter, FitInOrder}
use Rattle.hw_build.specs.Fits.{declared_names, targets, AreOnce, AloneIsFitting}
use Rattle.hw_build.proofs.ListTables.{table, named, names_after, first_times, none_is_new, IsDeclared, net_declared, register_declared, memory_declared, net_name}
use Rattle.vlog_module_laws.proofs.Forms.{itself as same_name}
use Rattle.hw_build.proofs.Forms.{and_true, all_append as both_together}

pub kept_read : (a b : Bool) → a ≡ true → b ≡ false → not (not a || b) ≡ true
kept_read true false e f = refl
kept_read true true e f = cc
kept_read false b e f = cc

pub kept_is : (a : Bool) → a ≡ true → not (not a) ≡ true
kept_is true e = refl
kept_is false e = cc

-- ---- an element, where no name is declared twice

module _ (before : List Element) (once : AreOnce (clk ∷ rst ∷ named before)) where
  abbrev t : List Declaration
  t = table before

  counts : (x : Name) → times t x ≡ times_in (clk ∷ rst ∷ named before) x
  counts x =
      let a : times t x ≡ times first_table x + times_in (named before) x = names_after before first_table x in
      let b : times first_table x ≡ times_in (clk ∷ rst ∷ []) x = first_times x in
      let c : times_in (clk ∷ rst ∷ named before) x ≡ times_in (clk ∷ rst ∷ []) x + times_in (named before) x = count_append (λ y. bytes_eq y x) (clk ∷ rst ∷ []) (named before) in
      omega (arith, a, b, c)

  distinct : AreDistinct t
  distinct x = let a = counts x in let b = once x in omega (arith, a, b)

  looked : (p : NetKind → Bool) (x : Name) (w : ℕ) → IsDeclared before p x w → (p (net_kind_of t x) ≡ true) × (bits_of t x ≡ w)
  looked p x w d =
      let f : find_name t x ≡ d.is = subst (λ y. find_name t y ≡ d.is) d.name (found t d.is d.has (distinct d.is.name)) in
      (ap (λ (z : Declaration). p z.net_kind) f ∙ d.kind, ap (λ (z : Declaration). z.bits) f ∙ d.bits)

  is_no_clock : (x : Name) → Has (rst ∷ named before) x → is_clk x ≡ false
  is_no_clock x h = not_both (is_clk x) (λ e. twice ((bytes_decides x clk).0 e)) where
    twice : x ≡ clk → ⊥
    twice e =
        let more : 1 ≤ times_in (rst ∷ named before) clk = counted (λ y. bytes_eq y clk) (rst ∷ named before) x h ((bytes_decides x clk).1 e) in
        let c : times_in (clk ∷ rst ∷ named before) clk ≡ one_if (bytes_eq clk clk) + times_in (rst ∷ named before) clk = count_cons (λ y. bytes_eq y clk) clk (rst ∷ named before) in
        let one : one_if (bytes_eq clk clk) ≡ 1 = ap one_if (same_name clk) in
        let few = once clk in
        omega (arith, more, c, one, few)

  net_kept : (x : Name) (w : ℕ) → IsNet before x w → not (read_use t x).1 ≡ true
  net_kept x w h = kept_read (net_kind_is_read (net_kind_of t x)) (is_clk x) (looked net_kind_is_read x w (net_declared before x w h)).0 (is_no_clock x (net_name before x w h))

  net_bits : (x : Name) (w : ℕ) → IsNet before x w → bits_of t x ≡ w
  net_bits x w h = (looked net_kind_is_read x w (net_declared before x w h)).1

  atom_kept : (w : ℕ) (a : Atom) → AtomIs before w a → are_kept (atom_uses t a) ≡ true
  atom_kept w (Net x) h = and_true (not (read_use t x).1) (net_kept x w h)
  atom_kept w (Part x high low) h = and_true (not (read_use t x).1) (net_kept x h.0 h.1)
  atom_kept w (Literal v n) h = refl

  two_kept : (v w : ℕ) (a b : Atom) → AtomIs before v a → AtomIs before w b → are_kept (atom_uses t a ++ atom_uses t b) ≡ true
  two_kept v w a b h k = both_together (λ (u : NameUse). not u.1) (atom_uses t a) (atom_uses t b) (atom_kept v a h) (atom_kept w b k)

  op_kept : (w : ℕ) (op : BinaryOp) (a b : Atom) → OpIs before w op a b → are_kept (atom_uses t a ++ atom_uses t b) ≡ true
  op_kept w Plus a b h = two_kept w w a b h.0 h.1
  op_kept w Minus a b h = two_kept w w a b h.0 h.1
  op_kept w Times a b h = two_kept w w a b h.0 h.1
  op_kept w Divide a b h = two_kept w w a b h.0 h.1
  op_kept w Remainder a b h = two_kept w w a b h.0 h.1
  op_kept w And a b h = two_kept w w a b h.0 h.1
  op_kept w Or a b h = two_kept w w a b h.0 h.1
  op_kept w Xor a b h = two_kept w w a b h.0 h.1
  op_kept w ShiftLeft a b h = two_kept w h.1.0 a b h.0 h.1.2
  op_kept w ShiftRight a b h = two_kept w h.1.0 a b h.0 h.1.2
  op_kept w Equals a b h = two_kept h.1.0 h.1.0 a b h.1.2 h.1.3
  op_kept w Differs a b h = two_kept h.1.0 h.1.0 a b h.1.2 h.1.3
  op_kept w Less a b h = two_kept h.1.0 h.1.0 a b h.1.2 h.1.3

  parts_kept : (atoms : List Atom) (w : ℕ) → PartsAre before atoms w → are_kept (flat_map (atom_uses t) atoms) ≡ true
  parts_kept [] w h = refl
  parts_kept (a ∷ atoms) w h = both_together (λ (u : NameUse). not u.1) (atom_uses t a) (flat_map (atom_uses t) atoms) (atom_kept h.0 a h.3) (parts_kept atoms h.1 h.4)

  memory_kept : (m : Name) (w : ℕ) → IsMemory before m w → not (memory_use t m).1 ≡ true
  memory_kept m w h = kept_is (net_kind_is_memory (net_kind_of t m)) (looked net_kind_is_memory m w (memory_declared before m w h)).0

  register_kept : (x : Name) (w : ℕ) → IsRegister before x w → not (register_use t x).1 ≡ true
  register_kept x w h = kept_is (net_kind_is_register (net_kind_of t x)) (looked net_kind_is_register x w (register_declared before x w h)).0

  value_kept : (w : ℕ) (v : Value) → ValueIs before w v → are_kept (value_uses t v) ≡ true
  value_kept w (Plain a) h = atom_kept w a h
  value_kept w (Invert a) h = atom_kept w a h
  value_kept w (Binary a op b) h = op_kept w op a b h
  value_kept w (Choose c a b) h =
      both_together (λ (u : NameUse). not u.1) (atom_uses t c) (atom_uses t a ++ atom_uses t b) (atom_kept 1 c h.0) (two_kept w w a b h.1 h.2)
  value_kept w (Concat atoms) h = parts_kept atoms w h.1
  value_kept w (Repeat n a) h = atom_kept h.0 a h.2
  value_kept w (Cell m x) h =
      yes_and (not (memory_use t m).1) (not (read_use t x).1 && true) (memory_kept m w h.0) (and_true (not (read_use t x).1) (net_kept x h.1.0 h.1.1))

  step_kept : (x : Name) (s : Step) → StepIs before x s → are_kept (step_uses t s) ≡ true
  step_kept x (If c) h = and_true (not (read_use t c).1) (net_kept c 1 h)
  step_kept x Else h = refl
  step_kept x End h = refl
  step_kept x (NonblockingAssign y a) h =
      yes_and (not (register_use t y).1) (are_kept (atom_uses t a)) (register_kept y h.1.0 h.1.1) (atom_kept h.1.0 a h.1.2)
  step_kept x (MemoryAssign m i a) h =
      yes_and (not (memory_use t m).1) (not (read_use t i).1 && are_kept (atom_uses t a)) (memory_kept m h.1.0 h.1.1)
      (yes_and (not (read_use t i).1) (are_kept (atom_uses t a)) (net_kept i h.1.2.0 h.1.2.1) (atom_kept h.1.0 a h.1.3))

  steps_kept : (x : Name) (b : List Step) → AllByRecursion (StepIs before x) b → are_kept (flat_map (step_uses t) b) ≡ true
  steps_kept x [] h = refl
  steps_kept x (s ∷ b) h = both_together (λ (u : NameUse). not u.1) (step_uses t s) (flat_map (step_uses t) b) (step_kept x s h.0) (steps_kept x b h.1)

  -- widths
  atom_has : (w : ℕ) (a : Atom) → AtomIs before w a → AtomHas t w a
  atom_has w (Net x) h = net_bits x w h
  atom_has w (Part x high low) h =
      let e : bits_of t x ≡ h.0 = net_bits x h.0 h.1 in
      let two : 2 ≤ h.0 = h.2 in
      let most : high < h.0 = h.4 in
      (omega (arith, e, two), h.3, omega (arith, e, most), h.5)
  atom_has w (Literal v n) h = h

  atom_fits : (w : ℕ) (a : Atom) → IsTrue (is_width w) → AtomIs before w a → AtomFits t a
  atom_fits w (Net x) k h = tt
  atom_fits w (Part x high low) k h = let p = atom_has w (Part x high low) h in (p.0, p.1, p.2)
  atom_fits w (Literal v n) k h = (ap is_width h.0 ∙ k, h.1)

  atom_wide : (w : ℕ) (a : Atom) → AtomIs before w a → atom_bits t a ≡ w
  atom_wide w (Net x) h = net_bits x w h
  atom_wide w (Part x high low) h = h.5
  atom_wide w (Literal v n) h = h.0

  same_fit : (a b : Atom) → SameAtoms before a b → AtomFits t a × AtomHas t (atom_bits t a) b
  same_fit a b h = (atom_fits h.0 a h.1 h.2, subst (λ v. AtomHas t v b) (sym (atom_wide h.0 a h.2)) (atom_has h.0 b h.3))

  op_fits : (w : ℕ) (op : BinaryOp) (a b : Atom) → OpIs before w op a b → OpFits t w op a b
  op_fits w Plus a b h = (atom_has w a h.0, atom_has w b h.1)
  op_fits w Minus a b h = (atom_has w a h.0, atom_has w b h.1)
  op_fits w Times a b h = (atom_has w a h.0, atom_has w b h.1)
  op_fits w Divide a b h = (atom_has w a h.0, atom_has w b h.1, h.2)
  op_fits w Remainder a b h = (atom_has w a h.0, atom_has w b h.1, h.2)
  op_fits w And a b h = (atom_has w a h.0, atom_has w b h.1)
  op_fits w Or a b h = (atom_has w a h.0, atom_has w b h.1)
  op_fits w Xor a b h = (atom_has w a h.0, atom_has w b h.1)
  op_fits w ShiftLeft a b h = (atom_has w a h.0, atom_fits h.1.0 b h.1.1 h.1.2)
  op_fits w ShiftRight a b h = (atom_has w a h.0, atom_fits h.1.0 b h.1.1 h.1.2)
  op_fits w Equals a b h = let s = same_fit a b h.1 in (h.0, s.0, s.1)
  op_fits w Differs a b h = let s = same_fit a b h.1 in (h.0, s.0, s.1)
  op_fits w Less a b h = let s = same_fit a b h.1 in (h.0, s.0, s.1)

  parts_fit : (atoms : List Atom) (w : ℕ) → PartsAre before atoms w → AllByRecursion (AtomFits t) atoms × (sum (map (atom_bits t) atoms) ≡ w)
  parts_fit [] w h = (tt, h)
  parts_fit (a ∷ atoms) w h =
      let rest = parts_fit atoms h.1 h.4 in (
        (atom_fits h.0 a h.2 h.3, rest.0),
        sum_by-cons (λ n. n) (atom_bits t a) (map (atom_bits t) atoms) ∙ ap (λ n. n + sum (map (atom_bits t) atoms)) (atom_wide h.0 a h.3) ∙ ap (λ n. h.0 + n) rest.1 ∙ h.5,
      )

  value_fits : (w : ℕ) (v : Value) → ValueIs before w v → ValueFits t w v
  value_fits w (Plain a) h = atom_has w a h
  value_fits w (Invert a) h = atom_has w a h
  value_fits w (Binary a op b) h = op_fits w op a b h
  value_fits w (Choose c a b) h = (atom_has 1 c h.0, atom_has w a h.1, atom_has w b h.2)
  value_fits w (Concat atoms) h = parts_fit atoms w h.1
  value_fits w (Repeat n a) h = (atom_fits h.0 a h.1 h.2, ap (λ k. n * k) (atom_wide h.0 a h.2) ∙ h.3)
  value_fits w (Cell m x) h = (looked net_kind_is_memory m w (memory_declared before m w h.0)).1

  step_fits : (x : Name) (s : Step) → StepIs before x s → StepFits t s
  step_fits x (If c) h = net_bits c 1 h
  step_fits x Else h = tt
  step_fits x End h = tt
  step_fits x (NonblockingAssign y a) h =
      subst (λ v. AtomHas t v a) (sym (looked net_kind_is_register y h.1.0 (register_declared before y h.1.0 h.1.1)).1) (atom_has h.1.0 a h.1.2)
  step_fits x (MemoryAssign m i a) h =
      subst (λ v. AtomHas t v a) (sym (looked net_kind_is_memory m h.1.0 (memory_declared before m h.1.0 h.1.1)).1) (atom_has h.1.0 a h.1.3)

  steps_fit : (x : Name) (b : List Step) → AllByRecursion (StepIs before x) b → AllByRecursion (StepFits t) b
  steps_fit x [] h = tt
  steps_fit x (s ∷ b) h = (step_fits x s h.0, steps_fit x b h.1)

  block_kept : (b : List Step) (xs : List Name) → IsBlockOf before b xs → are_kept (flat_map (step_uses t) b) ≡ true
  block_kept b [] h = absurd h
  block_kept b (x ∷ xs) h = steps_kept x b h.1

  block_fits : (b : List Step) (xs : List Name) → IsBlockOf before b xs → AllByRecursion (StepFits t) b
  block_fits b [] h = absurd h
  block_fits b (x ∷ xs) h = steps_fit x b h.1

  abbrev IsNewHere : Element → Type 0
  IsNewHere e = (x : Name) → Has (declared_names e) x → is_new t x ≡ true

  pub names_fit : (ms : List ModuleTree) (e : Element) → IsNewHere e → FitsAfter before e → has_fitting_names ms t e ≡ true
  names_fit ms (Input w x) new h = new x (inl refl)
  names_fit ms (Output w x v) new h = yes_and (is_new t x) (are_kept (value_uses t v)) (new x (inl refl)) (value_kept w v h.1)
  names_fit ms (Outlet w x) new h = absurd h
  names_fit ms (Wire w x v) new h = yes_and (is_new t x) (are_kept (value_uses t v)) (new x (inl refl)) (value_kept w v h.1)
  names_fit ms (InstanceWire w x) new h = absurd h
  names_fit ms (Register w x) new h = new x (inl refl)
  names_fit ms (Memory w x n) new h = new x (inl refl)
  names_fit ms (Block b) new h = block_kept b (first_assigned b) h
  names_fit ms (Instance k i ls) new h = absurd h

  pub widths_fit : (ms : List ModuleTree) (e : Element) → FitsAfter before e → HasFittingWidths ms t e
  widths_fit ms (Input w x) h = h
  widths_fit ms (Output w x v) h = (h.0, value_fits w v h.1)
  widths_fit ms (Outlet w x) h = absurd h
  widths_fit ms (Wire w x v) h = (h.0, value_fits w v h.1)
  widths_fit ms (InstanceWire w x) h = absurd h
  widths_fit ms (Register w x) h = h
  widths_fit ms (Memory w x n) h = h
  widths_fit ms (Block b) h = block_fits b (first_assigned b) h
  widths_fit ms (Instance k i ls) h = absurd h

-- ---- all of them

-- what is named once in a whole is named once in its front
pub front_once : (before rest : List Element) → AreOnce (clk ∷ rst ∷ named (before ++ rest)) → AreOnce (clk ∷ rst ∷ named before)
front_once before rest once x =
    let w = once x in
    let e : times_in (clk ∷ rst ∷ named (before ++ rest)) x ≡ times_in ((clk ∷ rst ∷ named before) ++ named rest) x =
    ap (λ l. times_in (clk ∷ rst ∷ l) x) (flat_map-append declared_names before rest) in
    let c : times_in ((clk ∷ rst ∷ named before) ++ named rest) x ≡ times_in (clk ∷ rst ∷ named before) x + times_in (named rest) x = count_append (λ y. bytes_eq y x) (clk ∷ rst ∷ named before) (named rest) in
    omega (arith, w, e, c)

pub new_next : (before : List Element) (e : Element) (rest : List Element) → AreOnce (clk ∷ rst ∷ named (before ++ e ∷ rest)) → (x : Name) → Has (declared_names e) x → is_new (table before) x ≡ true
new_next before e rest once x h =
    let w = once x in
    let s : times_in (clk ∷ rst ∷ named (before ++ e ∷ rest)) x ≡ times_in ((clk ∷ rst ∷ named before) ++ (declared_names e ++ named rest)) x =
    ap (λ l. times_in (clk ∷ rst ∷ l) x) (flat_map-append declared_names before (e ∷ rest)) in
    let c : times_in ((clk ∷ rst ∷ named before) ++ (declared_names e ++ named rest)) x ≡ times_in (clk ∷ rst ∷ named before) x + times_in (declared_names e ++ named rest) x =
    count_append (λ y. bytes_eq y x) (clk ∷ rst ∷ named before) (declared_names e ++ named rest) in
    let d : times_in (declared_names e ++ named rest) x ≡ times_in (declared_names e) x + times_in (named rest) x = count_append (λ y. bytes_eq y x) (declared_names e) (named rest) in
    let some : 1 ≤ times_in (declared_names e) x = counted (λ y. bytes_eq y x) (declared_names e) x h (same_name x) in
    let k : times (table before) x ≡ times_in (clk ∷ rst ∷ named before) x = counts before (front_once before (e ∷ rest) once) x in
    none_is_new (table before) x (omega (arith, w, s, c, d, some, k))

fit_from : (ms : List ModuleTree) (before elements : List Element) → AreOnce (clk ∷ rst ∷ named (before ++ elements)) → FitInOrder before elements
    → (have_fitting_names ms (table before) elements ≡ true) × HaveFittingWidths ms (table before) elements
fit_from ms before [] once h = (refl, tt)
fit_from ms before (e ∷ elements) once h =
    let front = front_once before (e ∷ elements) once in
    let rest = fit_from ms (before ++ e ∷ []) elements (subst (λ l. AreOnce (clk ∷ rst ∷ named l)) (sym (append_assoc before (e ∷ []) elements)) once) h.1 in
    let same : table (before ++ e ∷ []) ≡ declarations e ++ table before = table_append before (e ∷ []) first_table in (
      yes_and (has_fitting_names ms (table before) e) (have_fitting_names ms (declarations e ++ table before) elements) (names_fit before front ms e (new_next before e elements once) h.0)
          (ap (λ t. have_fitting_names ms t elements) (sym same) ∙ rest.0),
      (widths_fit before front ms e h.0, subst (λ t. HaveFittingWidths ms t elements) same rest.1),
    )

-- links and blocks
no_links : (before elements : List Element) → FitInOrder before elements → flat_map link_names elements ≡ []
no_links before [] h = refl
no_links before (Input w x ∷ elements) h = no_links (before ++ Input w x ∷ []) elements h.1
no_links before (Output w x v ∷ elements) h = no_links (before ++ Output w x v ∷ []) elements h.1
no_links before (Outlet w x ∷ elements) h = absurd h.0
no_links before (Wire w x v ∷ elements) h = no_links (before ++ Wire w x v ∷ []) elements h.1
no_links before (InstanceWire w x ∷ elements) h = absurd h.0
no_links before (Register w x ∷ elements) h = no_links (before ++ Register w x ∷ []) elements h.1
no_links before (Memory w x n ∷ elements) h = no_links (before ++ Memory w x n ∷ []) elements h.1
no_links before (Block b ∷ elements) h = no_links (before ++ Block b ∷ []) elements h.1
no_links before (Instance k i ls ∷ elements) h = absurd h.0

no_instances : (ms : List ModuleTree) (before elements : List Element) → FitInOrder before elements → flat_map (instance_driven ms) elements ≡ []
no_instances ms before [] h = refl
no_instances ms before (Input w x ∷ elements) h = no_instances ms (before ++ Input w x ∷ []) elements h.1
no_instances ms before (Output w x v ∷ elements) h = no_instances ms (before ++ Output w x v ∷ []) elements h.1
no_instances ms before (Outlet w x ∷ elements) h = absurd h.0
no_instances ms before (Wire w x v ∷ elements) h = no_instances ms (before ++ Wire w x v ∷ []) elements h.1
no_instances ms before (InstanceWire w x ∷ elements) h = absurd h.0
no_instances ms before (Register w x ∷ elements) h = no_instances ms (before ++ Register w x ∷ []) elements h.1
no_instances ms before (Memory w x n ∷ elements) h = no_instances ms (before ++ Memory w x n ∷ []) elements h.1
no_instances ms before (Block b ∷ elements) h = no_instances ms (before ++ Block b ∷ []) elements h.1
no_instances ms before (Instance k i ls ∷ elements) h = absurd h.0

pub links_once : (ms : List ModuleTree) (elements : List Element) → FitInOrder [] elements → drive_links_once ms elements ≡ true
links_once ms elements h =
    ap (λ l. list_all (λ x. eqb (times_in (flat_map (instance_driven ms) elements) x) 1) l && list_all (is_among l) (flat_map (instance_driven ms) elements)) (no_links [] elements h)
    ∙ ap (λ l. list_all (is_among []) l) (no_instances ms [] elements h)

either_of : (y z x : Name) (c r : Bool) → bytes_eq z x ≡ c → z ≡ y → (r ≡ true → bytes_eq y x ≡ true) → (c || r) ≡ true → bytes_eq y x ≡ true
either_of y z x true r e s rest k = ap (λ u. bytes_eq u x) (sym s) ∙ e
either_of y z x false r e s rest k = rest k

either_is : (y z x : Name) (r : Bool) → z ≡ y → (r ≡ true → bytes_eq y x ≡ true) → (bytes_eq z x || r) ≡ true → bytes_eq y x ≡ true
either_is y z x r s rest k = either_of y z x (bytes_eq z x) r refl s rest k

assigned_is : (before : List Element) (y x : Name) (b : List Step) → AllByRecursion (StepIs before y) b → list_any (step_assigns x) b ≡ true → bytes_eq y x ≡ true
assigned_is before y x [] h k = cc
assigned_is before y x (If c ∷ b) h k = assigned_is before y x b h.1 k
assigned_is before y x (Else ∷ b) h k = assigned_is before y x b h.1 k
assigned_is before y x (End ∷ b) h k = assigned_is before y x b h.1 k
assigned_is before y x (NonblockingAssign z a ∷ b) h k = either_is y z x (list_any (step_assigns x) b) h.0.0 (assigned_is before y x b h.1) k
assigned_is before y x (MemoryAssign z i a ∷ b) h k = either_is y z x (list_any (step_assigns x) b) h.0.0 (assigned_is before y x b h.1) k

block_target : (before : List Element) (x : Name) (b : List Step) (ys : List Name) → IsBlockOf before b ys → one_if (list_any (step_assigns x) b) ≤ times_in ys x
block_target before x b [] h = absurd h
block_target before x b (y ∷ ys) h = here (list_any (step_assigns x) b) refl where
  here : (c : Bool) → list_any (step_assigns x) b ≡ c → one_if c ≤ times_in (y ∷ ys) x
  here true e = counted (λ u. bytes_eq u x) (y ∷ ys) y (inl refl) (assigned_is before y x b h.1 e)
  here false e = omega arith

one_target : (before : List Element) (e : Element) (x : Name) → FitsAfter before e → one_if (assigns x e) ≤ times_in (targets e) x
one_target before (Block b) x h = block_target before x b (first_assigned b) h
one_target before (Input w y) x h = omega arith
one_target before (Output w y v) x h = omega arith
one_target before (Outlet w y) x h = omega arith
one_target before (Wire w y v) x h = omega arith
one_target before (InstanceWire w y) x h = omega arith
one_target before (Register w y) x h = omega arith
one_target before (Memory w y n) x h = omega arith
one_target before (Instance k i ls) x h = omega arith

few_blocks : (before elements : List Element) (x : Name) → FitInOrder before elements → count_by (assigns x) elements ≤ times_in (flat_map targets elements) x
few_blocks before [] x h = omega arith
few_blocks before (e ∷ elements) x h =
    let here : one_if (assigns x e) ≤ times_in (targets e) x = one_target before e x h.0 in
    let rest : count_by (assigns x) elements ≤ times_in (flat_map targets elements) x = few_blocks (before ++ e ∷ []) elements x h.1 in
    let c : count_by (assigns x) (e ∷ elements) ≡ one_if (assigns x e) + count_by (assigns x) elements = count_cons (assigns x) e elements in
    let d : times_in (targets e ++ flat_map targets elements) x ≡ times_in (targets e) x + times_in (flat_map targets elements) x = count_append (λ y. bytes_eq y x) (targets e) (flat_map targets elements) in
    omega (arith, here, rest, c, d)

all_if : {A : Type 0} (p : A → Bool) (xs : List A) → ((x : A) → p x ≡ true) → list_all p xs ≡ true
all_if p [] h = refl
all_if p (x ∷ xs) h = yes_and (p x) (list_all p xs) (h x) (all_if p xs h)

pub own_blocks : (elements : List Element) → FitInOrder [] elements → AreOnce (flat_map targets elements) → have_own_blocks elements ≡ true
own_blocks elements h once =
    all_if (λ x. nat_le (count_by (assigns x) elements) 1) (flat_map stored_names elements)
    (λ x. let a = few_blocks [] elements x h in let b = once x in le-leb (count_by (assigns x) elements) 1 (omega (arith, a, b)))

pub alone_fits : AloneIsFitting
alone_fits ms elements h =
    let f = fit_from ms [] elements h.names h.order in
    record { names = f.0; widths = f.1; links = links_once ms elements h.order; blocks = own_blocks elements h.order h.blocks }
