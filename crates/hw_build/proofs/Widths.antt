-- Widths that fit beside what is declared so far fit beside all that is declared.
use Rattle.std.proofs.Common.{◌≡◌, ℕ, ◌+◌, ◌-◌, ◌*◌, ◌^◌, ◌<◌, ◌≤◌, Bool, true, false, ◌&&◌, ◌||◌, cond, eqb, List, [], ◌∷◌, ◌++◌, map, sum, refl, sym, ap, subst, ◌∙◌, arith}
use Rattle.std.specs.Prelude.{not, nat_le, nat_lt}
use Rattle.std.specs.List.{list_all, flat_map, AllByRecursion}
use Rattle.std.specs.Cmp.Lexicographic.{bytes_decides}
use Rattle.std.proofs.lemmas.Bool.{le-leb, lt-ltb, eq-eqb, leb-true, and_from as yes_and}
use Rattle.vlog_tree.specs.declared.tree.Atom.{Atom}
use Rattle.vlog_tree.specs.declared.tree.Atom.TheVariants.{Net, Part, Literal}
use Rattle.vlog_tree.specs.declared.tree.BinaryOp.{BinaryOp}
use Rattle.vlog_tree.specs.declared.tree.BinaryOp.TheVariants.{Plus, Minus, Times, Divide, Remainder, And, Or, Xor, ShiftLeft, ShiftRight, Equals, Differs, Less}
use Rattle.vlog_tree.specs.declared.tree.Value.{Value}
use Rattle.vlog_tree.specs.declared.tree.Value.TheVariants.{Plain, Invert, Binary, Choose, Concat, Repeat, Cell}
use Rattle.vlog_tree.specs.declared.tree.Step.{Step}
use Rattle.vlog_tree.specs.declared.tree.Step.TheVariants.{If, Else, End, NonblockingAssign, MemoryAssign}
use Rattle.vlog_tree.specs.declared.tree.Connection.{Connection}
use Rattle.vlog_tree.specs.declared.table.Declaration.{Declaration}
use Rattle.vlog_tree.specs.declared.table.NetKind.{NetKind}
use Rattle.vlog_tree.specs.declared.table.NetKind.TheVariants.{Unknown, Input as InputNet, Output as OutputNet, WireNet, Register as RegisterNet, MemoryArray, ChildInstance}
use Rattle.tapa_base.specs.Lists.{Has}
use Rattle.vlog_tree.specs.Table.{Name, NameUse, clk, is_clk, find_name, net_kind_of, net_kind_is_read, net_kind_is_driven, net_kind_is_register, net_kind_is_memory, net_kind_is_input, bits_of}
use Rattle.vlog_tree.specs.V2.{read_use, driven_use, register_use, memory_use, clock_use, atom_uses, value_uses, step_uses, connection_uses}
use Rattle.vlog_tree.specs.V3.{is_width, is_cell_count, net_fits, memory_fits, atom_bits, atom_fits, has_bits, is_divisor, op_fits, value_fits, step_widths, connection_widths}
use Rattle.hw_build.specs.Fitting.{are_kept, AtomFits, AtomHas, OpFits, ValueFits, StepFits}
use Rattle.hw_build.proofs.Tables.{is_known, known}
use Rattle.hw_build.proofs.Uses.{all_of_both, read_is, read_found, register_found, memory_found, read_known, driven_known, register_known, memory_known, input_known, and_true, not_not}
use Rattle.hw_build.proofs.Fit.{kept_is as kept_one}
use Rattle.tapa_base.proofs.Tests.{both_true}
use Rattle.hw_build.proofs.Forms.{all_append as both_together}

-- a declaration whose numbers are in range
abbrev pub is_sized : NetKind → ℕ → ℕ → Bool
is_sized Unknown w n = false
is_sized InputNet w n = is_width w
is_sized OutputNet w n = is_width w
is_sized WireNet w n = is_width w
is_sized RegisterNet w n = is_width w
is_sized MemoryArray w n = is_width w && is_cell_count n
is_sized ChildInstance w n = true

abbrev pub AreSized : List Declaration → Type 0
AreSized t = (d : Declaration) → Has t d → is_sized d.net_kind d.bits d.cells ≡ true

read_sized : (k : NetKind) (w n : ℕ) → net_kind_is_read k ≡ true → is_sized k w n ≡ true → is_width w ≡ true
read_sized Unknown w n h s = cc
read_sized InputNet w n h s = s
read_sized OutputNet w n h s = s
read_sized WireNet w n h s = s
read_sized RegisterNet w n h s = s
read_sized MemoryArray w n h s = cc
read_sized ChildInstance w n h s = cc

driven_sized : (k : NetKind) (w n : ℕ) → net_kind_is_driven k ≡ true → is_sized k w n ≡ true → is_width w ≡ true
driven_sized Unknown w n h s = cc
driven_sized InputNet w n h s = s
driven_sized OutputNet w n h s = s
driven_sized WireNet w n h s = s
driven_sized RegisterNet w n h s = cc
driven_sized MemoryArray w n h s = cc
driven_sized ChildInstance w n h s = cc

input_sized : (k : NetKind) (w n : ℕ) → net_kind_is_input k ≡ true → is_sized k w n ≡ true → is_width w ≡ true
input_sized Unknown w n h s = cc
input_sized InputNet w n h s = s
input_sized OutputNet w n h s = cc
input_sized WireNet w n h s = cc
input_sized RegisterNet w n h s = cc
input_sized MemoryArray w n h s = cc
input_sized ChildInstance w n h s = cc

register_sized : (k : NetKind) (w n : ℕ) → net_kind_is_register k ≡ true → is_sized k w n ≡ true → is_width w ≡ true
register_sized Unknown w n h s = cc
register_sized InputNet w n h s = cc
register_sized OutputNet w n h s = cc
register_sized WireNet w n h s = cc
register_sized RegisterNet w n h s = s
register_sized MemoryArray w n h s = cc
register_sized ChildInstance w n h s = cc

memory_sized : (k : NetKind) (w n : ℕ) → net_kind_is_memory k ≡ true → is_sized k w n ≡ true → (is_width w && is_cell_count n) ≡ true
memory_sized Unknown w n h s = cc
memory_sized InputNet w n h s = cc
memory_sized OutputNet w n h s = cc
memory_sized WireNet w n h s = cc
memory_sized RegisterNet w n h s = cc
memory_sized MemoryArray w n h s = s
memory_sized ChildInstance w n h s = cc

pub not_or : (a b : Bool) → not (not a || b) ≡ true → a ≡ true
not_or true b h = refl
not_or false b h = cc

-- a part of a word has a width
part_width : (w high low : ℕ) → is_width w ≡ true → low ≤ high → high < w → is_width (high + 1 - low) ≡ true
part_width w high low h a b =
    let t = both_true (nat_le 1 w) (nat_le w 128) h in
    let most : w ≤ 128 = leb-true w 128 t.1 in
    yes_and (nat_le 1 (high + 1 - low)) (nat_le (high + 1 - low) 128) (le-leb 1 (high + 1 - low) (omega arith)) (le-leb (high + 1 - low) 128 (omega arith))

module _ (t all : List Declaration) (same : (x : Name) → is_known (net_kind_of t x) ≡ true → find_name all x ≡ find_name t x) (sized : AreSized t) where
  sized_at : (x : Name) → is_known (net_kind_of t x) ≡ true → is_sized (find_name t x).net_kind (find_name t x).bits (find_name t x).cells ≡ true
  sized_at x h = sized (find_name t x) (known t x h).0

  bits_same : (x : Name) → find_name all x ≡ find_name t x → bits_of all x ≡ bits_of t x
  bits_same x e = ap (λ (d : Declaration). d.bits) e

  pub read_width : (x : Name) → not (read_use t x).1 ≡ true → is_width (bits_of t x) ≡ true
  read_width x h =
      let r = read_is t all same x h in
      read_sized (net_kind_of t x) (find_name t x).bits (find_name t x).cells r (sized_at x (read_known (net_kind_of t x) r))

  pub read_bits : (x : Name) → not (read_use t x).1 ≡ true → bits_of all x ≡ bits_of t x
  read_bits x h = bits_same x (read_found t all same x h)

  pub read_fits : (x : Name) → not (read_use t x).1 ≡ true → net_fits all x ≡ true
  read_fits x h = ap is_width (read_bits x h) ∙ read_width x h

  memory_ok : (m : Name) → not (memory_use t m).1 ≡ true → memory_fits all m ≡ true
  memory_ok m h =
      let r = not_not (net_kind_is_memory (net_kind_of t m)) h in
      ap (λ (d : Declaration). is_width d.bits && is_cell_count d.cells) (memory_found t all same m h)
      ∙ memory_sized (net_kind_of t m) (find_name t m).bits (find_name t m).cells r (sized_at m (memory_known (net_kind_of t m) r))

  memory_width : (m : Name) → not (memory_use t m).1 ≡ true → is_width (bits_of t m) ≡ true
  memory_width m h =
      let r = not_not (net_kind_is_memory (net_kind_of t m)) h in
      (both_true (is_width (bits_of t m)) (is_cell_count (find_name t m).cells) (memory_sized (net_kind_of t m) (find_name t m).bits (find_name t m).cells r (sized_at m (memory_known (net_kind_of t m) r)))).0

  register_width : (x : Name) → not (register_use t x).1 ≡ true → is_width (bits_of t x) ≡ true
  register_width x h =
      let r = not_not (net_kind_is_register (net_kind_of t x)) h in
      register_sized (net_kind_of t x) (find_name t x).bits (find_name t x).cells r (sized_at x (register_known (net_kind_of t x) r))

  atom_bits_same : (a : Atom) → are_kept (atom_uses t a) ≡ true → atom_bits all a ≡ atom_bits t a
  atom_bits_same (Net x) h = read_bits x (and_true _ h)
  atom_bits_same (Part x high low) h = refl
  atom_bits_same (Literal w n) h = refl

  atom_width : (a : Atom) → are_kept (atom_uses t a) ≡ true → AtomFits t a → is_width (atom_bits t a) ≡ true
  atom_width (Net x) h f = read_width x (and_true _ h)
  atom_width (Part x high low) h f = part_width (bits_of t x) high low (read_width x (and_true _ h)) f.1 f.2
  atom_width (Literal w n) h f = f.0

  part_ok : (x : Name) (high low : ℕ) → not (read_use t x).1 ≡ true → 2 ≤ bits_of t x → low ≤ high → high < bits_of t x → atom_fits all (Part x high low) ≡ true
  part_ok x high low h two order most =
      let same_bits : bits_of all x ≡ bits_of t x = read_bits x h in
      yes_and (net_fits all x && nat_le 2 (bits_of all x) && nat_le low high) (nat_lt high (bits_of all x))
      (yes_and (net_fits all x && nat_le 2 (bits_of all x)) (nat_le low high) (yes_and (net_fits all x) (nat_le 2 (bits_of all x)) (read_fits x h) (le-leb 2 (bits_of all x) (omega arith))) (le-leb low high order))
      (lt-ltb high (bits_of all x) (omega arith))

  atom_ok : (a : Atom) → are_kept (atom_uses t a) ≡ true → AtomFits t a → atom_fits all a ≡ true
  atom_ok (Net x) h f = read_fits x (and_true _ h)
  atom_ok (Part x high low) h f = part_ok x high low (and_true _ h) f.0 f.1 f.2
  atom_ok (Literal w n) h f = yes_and (is_width w) (nat_lt n (2 ^ w)) f.0 (lt-ltb n (2 ^ w) f.1)

  has_fits : (w : ℕ) (a : Atom) → is_width w ≡ true → are_kept (atom_uses t a) ≡ true → AtomHas t w a → AtomFits t a
  has_fits w (Net x) k h f = tt
  has_fits w (Part x high low) k h f = (f.0, f.1, f.2)
  has_fits w (Literal v n) k h f = (ap is_width f.0 ∙ k, f.1)

  has_width : (w : ℕ) (a : Atom) → AtomHas t w a → atom_bits t a ≡ w
  has_width w (Net x) f = f
  has_width w (Part x high low) f = f.3
  has_width w (Literal v n) f = f.0

  pub has_ok : (w : ℕ) (a : Atom) → is_width w ≡ true → are_kept (atom_uses t a) ≡ true → AtomHas t w a → has_bits all w a ≡ true
  has_ok w a k h f = yes_and (atom_fits all a) (eqb (atom_bits all a) w) (atom_ok a h (has_fits w a k h f)) (eq-eqb (atom_bits all a) w (atom_bits_same a h ∙ has_width w a f))

  two_have : (w : ℕ) (a b : Atom) → is_width w ≡ true → are_kept (atom_uses t a) ≡ true → are_kept (atom_uses t b) ≡ true → AtomHas t w a → AtomHas t w b → (has_bits all w a && has_bits all w b) ≡ true
  two_have w a b k h l f g = yes_and (has_bits all w a) (has_bits all w b) (has_ok w a k h f) (has_ok w b k l g)

  shifted : (w : ℕ) (a b : Atom) → is_width w ≡ true → are_kept (atom_uses t a) ≡ true → are_kept (atom_uses t b) ≡ true → AtomHas t w a → AtomFits t b → (has_bits all w a && atom_fits all b) ≡ true
  shifted w a b k h l f g = yes_and (has_bits all w a) (atom_fits all b) (has_ok w a k h f) (atom_ok b l g)

  compared : (w : ℕ) (a b : Atom) → are_kept (atom_uses t a) ≡ true → are_kept (atom_uses t b) ≡ true → w ≡ 1 → AtomFits t a → AtomHas t (atom_bits t a) b
      → (eqb w 1 && atom_fits all a && has_bits all (atom_bits all a) b) ≡ true
  compared w a b h l e f g =
      yes_and (eqb w 1 && atom_fits all a) (has_bits all (atom_bits all a) b) (yes_and (eqb w 1) (atom_fits all a) (eq-eqb w 1 e) (atom_ok a h f))
      (ap (λ v. has_bits all v b) (atom_bits_same a h) ∙ has_ok (atom_bits t a) b (atom_width a h f) l g)

  op_ok : (op : BinaryOp) (w : ℕ) (a b : Atom) → is_width w ≡ true → are_kept (atom_uses t a) ≡ true → are_kept (atom_uses t b) ≡ true → OpFits t w op a b → op_fits all w op a b ≡ true
  op_ok Plus w a b k h l f = two_have w a b k h l f.0 f.1
  op_ok Minus w a b k h l f = two_have w a b k h l f.0 f.1
  op_ok Times w a b k h l f = two_have w a b k h l f.0 f.1
  op_ok Divide w a b k h l f = yes_and (has_bits all w a && has_bits all w b) (is_divisor b) (two_have w a b k h l f.0 f.1) f.2
  op_ok Remainder w a b k h l f = yes_and (has_bits all w a && has_bits all w b) (is_divisor b) (two_have w a b k h l f.0 f.1) f.2
  op_ok And w a b k h l f = two_have w a b k h l f.0 f.1
  op_ok Or w a b k h l f = two_have w a b k h l f.0 f.1
  op_ok Xor w a b k h l f = two_have w a b k h l f.0 f.1
  op_ok ShiftLeft w a b k h l f = shifted w a b k h l f.0 f.1
  op_ok ShiftRight w a b k h l f = shifted w a b k h l f.0 f.1
  op_ok Equals w a b k h l f = compared w a b h l f.0 f.1 f.2
  op_ok Differs w a b k h l f = compared w a b h l f.0 f.1 f.2
  op_ok Less w a b k h l f = compared w a b h l f.0 f.1 f.2

  atoms_ok : (atoms : List Atom) → are_kept (flat_map (atom_uses t) atoms) ≡ true → AllByRecursion (AtomFits t) atoms → (list_all (atom_fits all) atoms ≡ true) × (map (atom_bits all) atoms ≡ map (atom_bits t) atoms)
  atoms_ok [] h f = (refl, refl)
  atoms_ok (a ∷ atoms) h f =
      let k = all_of_both (λ (u : NameUse). not u.1) (atom_uses t a) (flat_map (atom_uses t) atoms) h in
      let r = atoms_ok atoms k.1 f.1 in (
        yes_and (atom_fits all a) (list_all (atom_fits all) atoms) (atom_ok a k.0 f.0) r.0,
        ap (λ n. n ∷ map (atom_bits all) atoms) (atom_bits_same a k.0) ∙ ap (λ l. atom_bits t a ∷ l) r.1,
      )

  pub value_ok : (w : ℕ) (v : Value) → is_width w ≡ true → are_kept (value_uses t v) ≡ true → ValueFits t w v → value_fits all w v ≡ true
  value_ok w (Plain a) k h f = has_ok w a k h f
  value_ok w (Invert a) k h f = has_ok w a k h f
  value_ok w (Binary a op b) k h f = let p = all_of_both (λ (u : NameUse). not u.1) (atom_uses t a) (atom_uses t b) h in op_ok op w a b k p.0 p.1 f
  value_ok w (Choose c a b) k h f =
      let p = all_of_both (λ (u : NameUse). not u.1) (atom_uses t c) (atom_uses t a ++ atom_uses t b) h in
      let q = all_of_both (λ (u : NameUse). not u.1) (atom_uses t a) (atom_uses t b) p.1 in
      yes_and (has_bits all 1 c && has_bits all w a) (has_bits all w b) (yes_and (has_bits all 1 c) (has_bits all w a) (has_ok 1 c refl p.0 f.0) (has_ok w a k q.0 f.1)) (has_ok w b k q.1 f.2)
  value_ok w (Concat atoms) k h f =
      let r = atoms_ok atoms h f.0 in
      yes_and (list_all (atom_fits all) atoms) (eqb (sum (map (atom_bits all) atoms)) w) r.0 (eq-eqb (sum (map (atom_bits all) atoms)) w (ap sum r.1 ∙ f.1))
  value_ok w (Repeat n a) k h f = yes_and (atom_fits all a) (eqb (n * atom_bits all a) w) (atom_ok a h f.0) (eq-eqb (n * atom_bits all a) w (ap (λ z. n * z) (atom_bits_same a h) ∙ f.1))
  value_ok w (Cell m x) k h f =
      let p = both_true (not (memory_use t m).1) _ h in
      yes_and (memory_fits all m && net_fits all x) (eqb (bits_of all m) w) (yes_and (memory_fits all m) (net_fits all x) (memory_ok m p.0) (read_fits x (and_true _ p.1)))
      (eq-eqb (bits_of all m) w (bits_same m (memory_found t all same m p.0) ∙ f))

  step_ok : (s : Step) → are_kept (step_uses t s) ≡ true → StepFits t s → are_kept (step_widths all s) ≡ true
  step_ok (If c) h f = yes_and (not (not (eqb (bits_of all c) 1))) true (kept_one (eqb (bits_of all c) 1) (eq-eqb (bits_of all c) 1 (read_bits c (and_true _ h) ∙ f))) refl
  step_ok Else h f = refl
  step_ok End h f = refl
  step_ok (NonblockingAssign x a) h f =
      let p = both_true (not (register_use t x).1) _ h in
      let e : bits_of all x ≡ bits_of t x = bits_same x (register_found t all same x p.0) in
      let w = register_width x p.0 in
      yes_and (not (not (net_fits all x && has_bits all (bits_of all x) a))) true
      (kept_one (net_fits all x && has_bits all (bits_of all x) a) (yes_and (net_fits all x) (has_bits all (bits_of all x) a) (ap is_width e ∙ w) (ap (λ v. has_bits all v a) e ∙ has_ok (bits_of t x) a w p.1 f)))
      refl
  step_ok (MemoryAssign m x a) h f =
      let p = both_true (not (memory_use t m).1) _ h in
      let q = both_true (not (read_use t x).1) _ p.1 in
      let e : bits_of all m ≡ bits_of t m = bits_same m (memory_found t all same m p.0) in
      yes_and (not (not (memory_fits all m && net_fits all x && has_bits all (bits_of all m) a))) true
      (kept_one (memory_fits all m && net_fits all x && has_bits all (bits_of all m) a)
      (yes_and (memory_fits all m && net_fits all x) (has_bits all (bits_of all m) a) (yes_and (memory_fits all m) (net_fits all x) (memory_ok m p.0) (read_fits x q.0))
      (ap (λ v. has_bits all v a) e ∙ has_ok (bits_of t m) a (memory_width m p.0) q.1 f)))
      refl

  pub steps_ok : (b : List Step) → are_kept (flat_map (step_uses t) b) ≡ true → AllByRecursion (StepFits t) b → are_kept (flat_map (step_widths all) b) ≡ true
  steps_ok [] h f = refl
  steps_ok (s ∷ b) h f =
      let p = all_of_both (λ (u : NameUse). not u.1) (step_uses t s) (flat_map (step_uses t) b) h in
      both_together (λ (u : NameUse). not u.1) (step_widths all s) (flat_map (step_widths all) b) (step_ok s p.0 f.0) (steps_ok b p.1 f.1)

  -- the net of a connection is declared, and so is the clock
  abbrev IsThere : Name → Type 0
  IsThere x = (is_known (net_kind_of t x) ≡ true) × (is_width (bits_of t x) ≡ true)

  there : (k : NetKind) (x : Name) → net_kind_of t x ≡ k → is_known k ≡ true → (is_sized (net_kind_of t x) (find_name t x).bits (find_name t x).cells ≡ true → is_width (bits_of t x) ≡ true) → IsThere x
  there k x e h f = let known_here : is_known (net_kind_of t x) ≡ true = ap is_known e ∙ h in (known_here, f (sized_at x known_here))

  joined_there : (ports : List Declaration) (l : Connection) (to_clock to_input : Bool) → (is_clk l.port && is_clk l.net) ≡ to_clock
      → not (cond to_clock (clock_use t) (cond to_input (read_use t l.net) (driven_use t l.net))).1 ≡ true → IsThere l.net
  joined_there ports l true b e h =
      let at_clock : clk ≡ l.net = sym ((bytes_decides l.net clk).0 (both_true (is_clk l.port) (is_clk l.net) e).1) in
      let i = not_not (net_kind_is_input (net_kind_of t clk)) h in
      subst IsThere at_clock (there (net_kind_of t clk) clk refl (input_known (net_kind_of t clk) i) (λ s. input_sized (net_kind_of t clk) (find_name t clk).bits (find_name t clk).cells i s))
  joined_there ports l false true e h = (read_known (net_kind_of t l.net) (read_is t all same l.net h), read_width l.net h)
  joined_there ports l false false e h =
      let i = not_or (net_kind_is_driven (net_kind_of t l.net)) (is_clk l.net) h in
      there (net_kind_of t l.net) l.net refl (driven_known (net_kind_of t l.net) i) (λ s. driven_sized (net_kind_of t l.net) (find_name t l.net).bits (find_name t l.net).cells i s)

  connection_ok : (ports : List Declaration) (l : Connection) → are_kept (connection_uses ports t l) ≡ true → bits_of ports l.port ≡ bits_of t l.net → are_kept (connection_widths ports all l) ≡ true
  unfolding connection_uses connection_widths
  connection_ok ports l h f =
      let k = both_true (not (not (net_kind_is_read (net_kind_of ports l.port)))) _ h in
      let n = joined_there ports l (is_clk l.port && is_clk l.net) (net_kind_is_input (net_kind_of ports l.port)) refl (and_true _ k.1) in
      let e : bits_of all l.net ≡ bits_of t l.net = bits_same l.net (same l.net n.0) in
      yes_and (not (not (net_fits all l.net && eqb (bits_of ports l.port) (bits_of all l.net)))) true
      (kept_one (net_fits all l.net && eqb (bits_of ports l.port) (bits_of all l.net))
      (yes_and (net_fits all l.net) (eqb (bits_of ports l.port) (bits_of all l.net)) (ap is_width e ∙ n.1) (eq-eqb (bits_of ports l.port) (bits_of all l.net) (f ∙ sym e))))
      refl

  pub connections_ok : (ports : List Declaration) (ls : List Connection) → are_kept (flat_map (connection_uses ports t) ls) ≡ true
      → AllByRecursion (λ (l : Connection). bits_of ports l.port ≡ bits_of t l.net) ls → are_kept (flat_map (connection_widths ports all) ls) ≡ true
  connections_ok ports [] h f = refl
  connections_ok ports (l ∷ ls) h f =
      let p = all_of_both (λ (u : NameUse). not u.1) (connection_uses ports t l) (flat_map (connection_uses ports t) ls) h in
      both_together (λ (u : NameUse). not u.1) (connection_widths ports all l) (flat_map (connection_widths ports all) ls) (connection_ok ports l p.0 f.0) (connections_ok ports ls p.1 f.1)
