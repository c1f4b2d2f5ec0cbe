-- In a design all numbers are small enough to be written, by the rule on widths.
use Rattle.std.proofs.Common.{◌≡◌, ℕ, zero, suc, ◌*◌, ◌^◌, ◌<◌, ◌≤◌, inl, inr, Bool, true, false, cond, eqb, ◌&&◌, List, [], ◌∷◌, ◌++◌, Option, Some, None, length, refl, sym, ap, subst, ◌∙◌, arith, map}
use Rattle.std.specs.Prelude.{nat_le, nat_lt, slice_get, not}
use Rattle.std.specs.List.{list_all, flat_map, sum, AllByRecursion}
use Rattle.std.proofs.lemmas.Bool.Decides.{nat_tests}
use Rattle.std.proofs.Math.Pow.{pow_mono}
use Rattle.vlog_tree.specs.declared.tree.Atom.{Atom}
use Rattle.vlog_tree.specs.declared.tree.Atom.TheVariants.{Net, Part, Literal}
use Rattle.vlog_tree.specs.declared.tree.BinaryOp.{BinaryOp}
use Rattle.vlog_tree.specs.declared.tree.BinaryOp.TheVariants.{Plus, Minus, Times, Divide, Remainder, And, Or, Xor, ShiftLeft, ShiftRight, Equals, Differs, Less}
use Rattle.vlog_tree.specs.declared.tree.Value.{Value}
use Rattle.vlog_tree.specs.declared.tree.Value.TheVariants.{Plain, Invert, Binary, Choose, Concat, Repeat, Cell}
use Rattle.vlog_tree.specs.declared.tree.Step.{Step}
use Rattle.vlog_tree.specs.declared.tree.Step.TheVariants.{If, Else, End, NonblockingAssign, MemoryAssign}
use Rattle.vlog_tree.specs.declared.tree.Item.{Item}
use Rattle.vlog_tree.specs.declared.tree.Item.TheVariants.{Wire, Reg, Memory, Assign, Always, Instance}
use Rattle.vlog_tree.specs.declared.tree.PortDecl.{PortDecl}
use Rattle.vlog_tree.specs.declared.table.Declaration.{Declaration}
use Rattle.vlog_tree.specs.Form.{ModuleTree}
use Rattle.tapa_base.specs.Lists.{Has}
use Rattle.vlog_tree.specs.Table.{Name, NameUse, declared, bits_of, first_violation}
use Rattle.vlog_tree.specs.V3.{is_width, is_cell_count, net_fits, memory_fits, atom_bits, atom_fits, has_bits, is_divisor, op_fits, value_fits, step_widths, item_widths, port_widths, module_widths, v3_uses}
use Rattle.vlog_tree.specs.Refused.{IsDesign}
use Rattle.tapa_base.proofs.Lists.{has_left, has_right, has_split, has_flat, of_flat}
use Rattle.vlog_lex.specs.Numbers.{atom_numbers, value_numbers, step_numbers, item_numbers, module_numbers, HasWrittenNumbers}
use Rattle.tapa_base.proofs.Tests.{not_no as not_not, both_true as two, below as le_of}
use Rattle.tapa_base.proofs.Got.{all_from}

abbrev Small : ℕ → Type 0
Small n = n < 10 ^ 64

small : (n : ℕ) → n < 2 ^ 128 → Small n
small n h = let room : 2 ^ 128 ≤ 10 ^ 64 = search arith in omega arith

little : (n : ℕ) → n ≤ 1048576 → Small n
little n h = small n (let room : 1048577 ≤ 2 ^ 128 = search arith in omega arith)

lt_of : (a b : ℕ) → nat_lt a b ≡ true → a < b
lt_of a b h = grind (arith, nat_tests)

eq_of : (a b : ℕ) → eqb a b ≡ true → a ≡ b
eq_of a b h = grind (arith, nat_tests)

width : (w : ℕ) → is_width w ≡ true → (1 ≤ w) × (w ≤ 128)
width w h = let p = two (nat_le 1 w) (nat_le w 128) h in (le_of 1 w p.0, le_of w 128 p.1)

pub right_here : (b : Bool) (x : Name) (o : Option Name) → cond b (Some x) o ≡ None → b ≡ false
right_here true x o h = cc
right_here false x o h = refl

pub right_behind : (b : Bool) (x : Name) (o : Option Name) → cond b (Some x) o ≡ None → o ≡ None
right_behind true x o h = cc
right_behind false x o h = h

pub right : (us : List NameUse) → first_violation us ≡ None → (u : NameUse) → Has us u → u.1 ≡ false
right [] h u has = absurd has
right (v ∷ us) h u (inl e) = ap (λ (w : NameUse). w.1) (sym e) ∙ right_here v.1 v.0 (first_violation us) h
right (v ∷ us) h u (inr has) = right us (right_behind v.1 v.0 (first_violation us) h) u has

-- one of two numbers, or neither
one_of_two : (a b n : ℕ) → Small a → Small b → Has (a ∷ b ∷ []) n → Small n
one_of_two a b n p q (inl e) = subst Small e p
one_of_two a b n p q (inr (inl e)) = subst Small e q
one_of_two a b n p q (inr (inr h)) = absurd h

only_one : (a n : ℕ) → Small a → Has (a ∷ []) n → Small n
only_one a n p (inl e) = subst Small e p
only_one a n p (inr h) = absurd h

value_small : (w v : ℕ) → w ≤ 128 → v < 2 ^ w → Small v
value_small w v h lt = small v (let most : 2 ^ w ≤ 2 ^ 128 = pow_mono h in omega arith)

module _ (ds : List Declaration) where
  atom_small : (a : Atom) → atom_fits ds a ≡ true → (n : ℕ) → Has (atom_numbers a) n → Small n
  atom_small (Net x) h n has = absurd has
  atom_small (Part x high low) h n has =
      let p = two _ (nat_lt high (bits_of ds x)) h in
      let q = two _ (nat_le low high) p.0 in
      let r = two (net_fits ds x) (nat_le 2 (bits_of ds x)) q.0 in
      let w = width (bits_of ds x) r.0 in
      let below : high < bits_of ds x = lt_of high (bits_of ds x) p.1 in
      let under : low ≤ high = le_of low high q.1 in
      one_of_two high low n (little high (omega (arith, w.1))) (little low (omega (arith, w.1))) has
  atom_small (Literal w v) h n has =
      let p = two (is_width w) (nat_lt v (2 ^ w)) h in
      let k = width w p.0 in
      one_of_two w v n (little w (omega (arith, k.1))) (value_small w v k.1 (lt_of v (2 ^ w) p.1)) has

  atom_has_bits : (a : Atom) → atom_fits ds a ≡ true → 1 ≤ atom_bits ds a
  atom_has_bits (Net x) h = (width (bits_of ds x) h).0
  atom_has_bits (Part x high low) h =
      let p = two _ (nat_lt high (bits_of ds x)) h in
      let q = two _ (nat_le low high) p.0 in
      let under : low ≤ high = le_of low high q.1 in
      omega arith
  atom_has_bits (Literal w v) h = (width w (two (is_width w) (nat_lt v (2 ^ w)) h).0).0

  bits_small : (w : ℕ) (a : Atom) → has_bits ds w a ≡ true → (n : ℕ) → Has (atom_numbers a) n → Small n
  bits_small w a h = atom_small a (two (atom_fits ds a) (eqb (atom_bits ds a) w) h).0

  either_small : (a b : Atom) → ((n : ℕ) → Has (atom_numbers a) n → Small n) → ((n : ℕ) → Has (atom_numbers b) n → Small n) → (n : ℕ) → Has (atom_numbers a ++ atom_numbers b) n → Small n
  either_small a b p q n h = elim (has_split (atom_numbers a) (atom_numbers b) n h) [ inl l ↦ p n l | inr r ↦ q n r ]

  same_bits : (w : ℕ) (a b : Atom) → (has_bits ds w a && has_bits ds w b) ≡ true → (n : ℕ) → Has (atom_numbers a ++ atom_numbers b) n → Small n
  same_bits w a b h = let p = two (has_bits ds w a) (has_bits ds w b) h in either_small a b (bits_small w a p.0) (bits_small w b p.1)

  shifts : (w : ℕ) (a b : Atom) → (has_bits ds w a && atom_fits ds b) ≡ true → (n : ℕ) → Has (atom_numbers a ++ atom_numbers b) n → Small n
  shifts w a b h = let p = two (has_bits ds w a) (atom_fits ds b) h in either_small a b (bits_small w a p.0) (atom_small b p.1)

  divides : (w : ℕ) (a b : Atom) → (has_bits ds w a && has_bits ds w b && is_divisor b) ≡ true → (n : ℕ) → Has (atom_numbers a ++ atom_numbers b) n → Small n
  divides w a b h = same_bits w a b (two (has_bits ds w a && has_bits ds w b) (is_divisor b) h).0

  compares : (w : ℕ) (a b : Atom) → (eqb w 1 && atom_fits ds a && has_bits ds (atom_bits ds a) b) ≡ true → (n : ℕ) → Has (atom_numbers a ++ atom_numbers b) n → Small n
  compares w a b h =
      let p = two (eqb w 1 && atom_fits ds a) (has_bits ds (atom_bits ds a) b) h in
      either_small a b (atom_small a (two (eqb w 1) (atom_fits ds a) p.0).1) (bits_small (atom_bits ds a) b p.1)

  operands_small : (w : ℕ) (op : BinaryOp) (a b : Atom) → op_fits ds w op a b ≡ true → (n : ℕ) → Has (atom_numbers a ++ atom_numbers b) n → Small n
  operands_small w Plus a b h = same_bits w a b h
  operands_small w Minus a b h = same_bits w a b h
  operands_small w Times a b h = same_bits w a b h
  operands_small w Divide a b h = divides w a b h
  operands_small w Remainder a b h = divides w a b h
  operands_small w And a b h = same_bits w a b h
  operands_small w Or a b h = same_bits w a b h
  operands_small w Xor a b h = same_bits w a b h
  operands_small w ShiftLeft a b h = shifts w a b h
  operands_small w ShiftRight a b h = shifts w a b h
  operands_small w Equals a b h = compares w a b h
  operands_small w Differs a b h = compares w a b h
  operands_small w Less a b h = compares w a b h

  all_small : (atoms : List Atom) → list_all (atom_fits ds) atoms ≡ true → (n : ℕ) → Has (flat_map atom_numbers atoms) n → Small n
  all_small [] h n has = absurd has
  all_small (a ∷ atoms) h n has =
      let p = two (atom_fits ds a) (list_all (atom_fits ds) atoms) h in
      elim (has_split (atom_numbers a) (flat_map atom_numbers atoms) n has) [ inl l ↦ atom_small a p.0 n l | inr r ↦ all_small atoms p.1 n r ]

  few_copies : (k b w : ℕ) → 1 ≤ b → w ≤ 128 → k * b ≡ w → Small k
  few_copies k zero w one low e = absurd (omega arith)
  few_copies k (suc b) w one low e = little k (let less : k ≤ k * suc b = search arith in omega arith)

  value_numbers_small : (w : ℕ) → w ≤ 128 → (v : Value) → value_fits ds w v ≡ true → (n : ℕ) → Has (value_numbers v) n → Small n
  value_numbers_small w low (Plain a) h n has = bits_small w a h n has
  value_numbers_small w low (Invert a) h n has = bits_small w a h n has
  value_numbers_small w low (Binary a op b) h n has = operands_small w op a b h n has
  value_numbers_small w low (Choose c a b) h n has =
      let p = two (has_bits ds 1 c && has_bits ds w a) (has_bits ds w b) h in
      let q = two (has_bits ds 1 c) (has_bits ds w a) p.0 in
      elim (has_split (atom_numbers c) (atom_numbers a ++ atom_numbers b) n has) [
        | inl l ↦ bits_small 1 c q.0 n l
        | inr r ↦ either_small a b (bits_small w a q.1) (bits_small w b p.1) n r
      ]
  value_numbers_small w low (Concat atoms) h n has = all_small atoms (two (list_all (atom_fits ds) atoms) (eqb (sum (map (atom_bits ds) atoms)) w) h).0 n has
  value_numbers_small w low (Repeat k a) h n (inl e) =
      let p = two (atom_fits ds a) (eqb (k * atom_bits ds a) w) h in
      subst Small e (few_copies k (atom_bits ds a) w (atom_has_bits a p.0) low (eq_of (k * atom_bits ds a) w p.1))
  value_numbers_small w low (Repeat k a) h n (inr has) = atom_small a (two (atom_fits ds a) (eqb (k * atom_bits ds a) w) h).0 n has
  value_numbers_small w low (Cell m x) h n has = absurd has

  step_small : (s : Step) → ((u : NameUse) → Has (step_widths ds s) u → u.1 ≡ false) → (n : ℕ) → Has (step_numbers s) n → Small n
  step_small (If c) h n has = absurd has
  step_small Else h n has = absurd has
  step_small End h n has = absurd has
  step_small (NonblockingAssign x a) h n has =
      bits_small (bits_of ds x) a (two (net_fits ds x) (has_bits ds (bits_of ds x) a) (not_not (net_fits ds x && has_bits ds (bits_of ds x) a) (h (x, not (net_fits ds x && has_bits ds (bits_of ds x) a)) (inl refl)))).1 n has
  step_small (MemoryAssign m x a) h n has =
      bits_small (bits_of ds m) a
      (two (memory_fits ds m && net_fits ds x) (has_bits ds (bits_of ds m) a)
      (not_not (memory_fits ds m && net_fits ds x && has_bits ds (bits_of ds m) a) (h (m, not (memory_fits ds m && net_fits ds x && has_bits ds (bits_of ds m) a)) (inl refl)))).1 n has

  item_small : (ms : List ModuleTree) (it : Item) → ((u : NameUse) → Has (item_widths ms ds it) u → u.1 ≡ false) → (n : ℕ) → Has (item_numbers it) n → Small n
  unfolding item_widths
  item_small ms (Wire w x) h n has = only_one w n (little w (let k = width w (not_not (is_width w) (h (x, not (is_width w)) (inl refl))) in omega (arith, k.1))) has
  item_small ms (Reg w x) h n has = only_one w n (little w (let k = width w (not_not (is_width w) (h (x, not (is_width w)) (inl refl))) in omega (arith, k.1))) has
  item_small ms (Memory w x cells) h n has =
      let p = two (is_width w) (is_cell_count cells) (not_not (is_width w && is_cell_count cells) (h (x, not (is_width w && is_cell_count cells)) (inl refl))) in
      let k = width w p.0 in
      one_of_two w cells n (little w (omega (arith, k.1))) (little cells (le_of cells 1048576 (two (nat_le 1 cells) (nat_le cells 1048576) p.1).1)) has
  item_small ms (Assign x v) h n has =
      let p = two (net_fits ds x) (value_fits ds (bits_of ds x) v) (not_not (net_fits ds x && value_fits ds (bits_of ds x) v) (h (x, not (net_fits ds x && value_fits ds (bits_of ds x) v)) (inl refl))) in
      value_numbers_small (bits_of ds x) (width (bits_of ds x) p.0).1 v p.1 n has
  item_small ms (Always b) h n has =
      let t = of_flat step_numbers b n has in
      step_small t.0 (λ u k. h u (has_flat (step_widths ds) b t.0 u t.1 k)) n t.2
  item_small ms (Instance m x connections) h n has = absurd has

module _ (ms : List ModuleTree) (widths : first_violation (v3_uses ms) ≡ None) (m : ModuleTree) (in_ms : Has ms m) where
  in_module : (u : NameUse) → Has (module_widths ms m) u → u.1 ≡ false
  in_module u h = right (v3_uses ms) widths u (has_flat (module_widths ms) ms m u in_ms h)

  port_small : (p : PortDecl) → Has m.ports p → Small p.width
  unfolding module_widths port_widths
  port_small p has =
      let right_width = in_module (p.name, not (is_width p.width)) (has_left (flat_map port_widths m.ports) (flat_map (item_widths ms (declared m)) m.items) _ (has_flat port_widths m.ports p (p.name, not (is_width p.width)) has (inl refl))) in
      let k = width p.width (not_not (is_width p.width) right_width) in
      little p.width (omega (arith, k.1))

  number_small : (n : ℕ) → Has (module_numbers m) n → Small n
  unfolding module_widths
  number_small n h = elim (has_split (flat_map (λ (p : PortDecl). p.width ∷ []) m.ports) (flat_map item_numbers m.items) n h) [
    | inl l ↦ (let t = of_flat (λ (p : PortDecl). p.width ∷ []) m.ports n l in only_one t.0.width n (port_small t.0 t.1) t.2)
    | inr r ↦ (let t = of_flat item_numbers m.items n r in
        item_small (declared m) ms t.0
        (λ u k. in_module u (has_right (flat_map port_widths m.ports) (flat_map (item_widths ms (declared m)) m.items) u (has_flat (item_widths ms (declared m)) m.items t.0 u t.1 k))) n t.2)
  ]

  module_written : HasWrittenNumbers m
  module_written = all_from Small (module_numbers m) number_small

pub numbers_written : (ms : List ModuleTree) → first_violation (v3_uses ms) ≡ None → AllByRecursion HasWrittenNumbers ms
numbers_written ms widths = all_from HasWrittenNumbers ms (λ m in_ms. module_written ms widths m in_ms)

some_module : (ms : List ModuleTree) (top : ℕ) (m : ModuleTree) → slice_get ms top ≡ Some m → 1 ≤ length ms
some_module [] top m e = cc
some_module (k ∷ ms) top m e = omega arith

pub design_has_modules : (ms : List ModuleTree) (top : ℕ) → IsDesign ms top → 1 ≤ length ms
design_has_modules ms top d = some_module ms top d.one_top.0 d.one_top.1
