-- What steps, blocks and lines leave of one name.
use Rattle.std.proofs.Common.{◌≡◌, ℕ, ◌+◌, ◌≤◌, Bool, true, false, cond, eqb, ltb, ◌&&◌, List, [], ◌∷◌, None, inl, inr, refl, sym, ap, subst, ◌∙◌, arith}
use Rattle.std.specs.Prelude.{◌⊎◌, bytes_eq, count_by, nat_le, not}
use Rattle.std.specs.List.{list_any, list_all}
use Rattle.std.specs.Cmp.Lexicographic.{bytes_decides}
use Rattle.std.proofs.lemmas.Bool.Decides.{nat_tests}
use Rattle.vlog_tree.specs.declared.tree.Step.{Step}
use Rattle.vlog_tree.specs.declared.tree.Step.TheVariants.{If, Else, End, NonblockingAssign, MemoryAssign}
use Rattle.vlog_tree.specs.declared.tree.Item.{Item}
use Rattle.vlog_tree.specs.declared.tree.Item.TheVariants.{Wire, Reg, Memory, Assign, Always, Instance}
use Rattle.vlog_tree.specs.declared.table.Declaration.{Declaration}
use Rattle.vlog_tree.specs.declared.table.NetKind.{NetKind}
use Rattle.vlog_tree.specs.declared.table.NetKind.TheVariants.{Register, MemoryArray}
use Rattle.vlog_tree.specs.Form.{ModuleTree}
use Rattle.tapa_base.specs.Lists.{Has}
use Rattle.vlog_tree.specs.Cycle.{Cycle, Sizes, run_steps, run_items, put, store, atom_value}
use Rattle.vlog_tree.specs.Table.{Name, declared, first_violation, one_if}
use Rattle.vlog_tree.specs.V4.{step_assigns, is_block_of, module_drives, driving_use, breaks_driving, drives}
use Rattle.vlog_module_laws.specs.Blocks.{IsSameAt}
use Rattle.tapa_base.proofs.Lists.{has_map}
use Rattle.vlog_module_laws.proofs.Lists.{count_cons, one_if_true, none_counted, counted, right}
use Rattle.std.proofs.lemmas.Bool.{or_parts as both_false}

all_on : List Bool → Bool
all_on on = list_all (λ b. b) on

pub same : (x : Name) (c : Cycle) → IsSameAt x c c
same x c = record { net = refl; cells = λ a. refl }

pub same_on : (x : Name) (c d e : Cycle) → IsSameAt x c d → IsSameAt x d e → IsSameAt x c e
same_on x c d e h k = record { net = h.net ∙ k.net; cells = λ a. h.cells a ∙ k.cells a }

gated : (x : Name) (b : Bool) (c d next other : Cycle) → IsSameAt x c d → IsSameAt x next other → IsSameAt x (cond b c next) (cond b d other)
gated x true c d next other h k = h
gated x false c d next other h k = k

same_put : (x y : Name) (n : ℕ) (c d : Cycle) → IsSameAt x c d → IsSameAt x (put y n c) (put y n d)
same_put x y n c d h = record { net = ap (λ v. cond (bytes_eq x y) n v) h.net; cells = h.cells }

same_store : (s : Sizes) (x m : Name) (k n : ℕ) (c d : Cycle) → IsSameAt x c d → IsSameAt x (store s m k n c) (store s m k n d)
same_store s x m k n c d h = record { net = h.net; cells = λ a. ap (λ v. cond (bytes_eq x m && eqb a k && ltb k (s.cells m)) n v) (h.cells a) }

turned : (x y : Name) (b : Bool) → bytes_eq x y ≡ b → bytes_eq y x ≡ false → b ≡ false
turned x y true e h = sym ((bytes_decides y x).1 (sym ((bytes_decides x y).0 e))) ∙ h
turned x y false e h = refl

other_put : (x y : Name) (n : ℕ) (c : Cycle) → bytes_eq y x ≡ false → IsSameAt x (put y n c) c
other_put x y n c h = record { net = ap (λ b. cond b n (c.net x)) (turned x y (bytes_eq x y) refl h); cells = λ a. refl }

other_store : (s : Sizes) (x m : Name) (k n : ℕ) (c : Cycle) → bytes_eq m x ≡ false → IsSameAt x (store s m k n c) c
other_store s x m k n c h = record { net = refl; cells = λ a. ap (λ b. cond (b && eqb a k && ltb k (s.cells m)) n (c.cell x a)) (turned x m (bytes_eq x m) refl h) }

module _ (s : Sizes) (old : Cycle) (x : Name) where
  pub steps_alike : (steps : List Step) (on : List Bool) (c d : Cycle) → IsSameAt x c d → IsSameAt x (run_steps s old on steps c) (run_steps s old on steps d)
  steps_alike [] on c d h = h
  steps_alike (If t ∷ steps) on c d h = steps_alike steps (eqb (old.net t) 1 ∷ on) c d h
  steps_alike (Else ∷ steps) [] c d h = h
  steps_alike (Else ∷ steps) (b ∷ on) c d h = steps_alike steps (not b ∷ on) c d h
  steps_alike (End ∷ steps) [] c d h = h
  steps_alike (End ∷ steps) (b ∷ on) c d h = steps_alike steps on c d h
  steps_alike (NonblockingAssign y a ∷ steps) on c d h =
      steps_alike steps on _ _ (gated x (list_all (λ b. b) on) (put y (atom_value old a) c) (put y (atom_value old a) d) c d (same_put x y (atom_value old a) c d h) h)
  steps_alike (MemoryAssign m y a ∷ steps) on c d h =
      steps_alike steps on _ _ (gated x (list_all (λ b. b) on) (store s m (old.net y) (atom_value old a) c) (store s m (old.net y) (atom_value old a) d) c d (same_store s x m (old.net y) (atom_value old a) c d h) h)

  pub steps_leave : (steps : List Step) (on : List Bool) (c : Cycle) → list_any (step_assigns x) steps ≡ false → IsSameAt x (run_steps s old on steps c) c
  steps_leave [] on c h = same x c
  steps_leave (If t ∷ steps) on c h = steps_leave steps (eqb (old.net t) 1 ∷ on) c h
  steps_leave (Else ∷ steps) [] c h = same x c
  steps_leave (Else ∷ steps) (b ∷ on) c h = steps_leave steps (not b ∷ on) c h
  steps_leave (End ∷ steps) [] c h = same x c
  steps_leave (End ∷ steps) (b ∷ on) c h = steps_leave steps on c h
  steps_leave (NonblockingAssign y a ∷ steps) on c h =
      let parts = both_false (bytes_eq y x) (list_any (step_assigns x) steps) h in
      same_on x _ (cond (list_all (λ b. b) on) (put y (atom_value old a) c) c) c (steps_leave steps on (cond (list_all (λ b. b) on) (put y (atom_value old a) c) c) parts.1)
      (either (list_all (λ b. b) on) (put y (atom_value old a) c) c (other_put x y (atom_value old a) c parts.0)) where
        either : (b : Bool) (d c : Cycle) → IsSameAt x d c → IsSameAt x (cond b d c) c
        either true d c h = h
        either false d c h = same x c
  steps_leave (MemoryAssign m y a ∷ steps) on c h =
      let parts = both_false (bytes_eq m x) (list_any (step_assigns x) steps) h in
      let next = cond (list_all (λ b. b) on) (store s m (old.net y) (atom_value old a) c) c in
      same_on x _ next c (steps_leave steps on next parts.1)
      (either (list_all (λ b. b) on) (store s m (old.net y) (atom_value old a) c) c (other_store s x m (old.net y) (atom_value old a) c parts.0)) where
        either : (b : Bool) (d c : Cycle) → IsSameAt x d c → IsSameAt x (cond b d c) c
        either true d c h = h
        either false d c h = same x c

  abbrev others : List Item → ℕ
  others items = count_by (is_block_of x) items

  none_here : (it : Item) (items : List Item) → others (it ∷ items) ≡ 0 → (is_block_of x it ≡ false) × (others items ≡ 0)
  none_here it items h =
      let c : others (it ∷ items) ≡ one_if (is_block_of x it) + others items = count_cons (is_block_of x) it items in
      (none_counted (is_block_of x it) (omega arith), omega arith)

  none_behind : (it : Item) (items : List Item) → is_block_of x it ≡ true → others (it ∷ items) ≤ 1 → others items ≡ 0
  none_behind it items e h =
      let c : others (it ∷ items) ≡ one_if (is_block_of x it) + others items = count_cons (is_block_of x) it items in
      let one : one_if (is_block_of x it) ≡ 1 = one_if_true (is_block_of x it) e in
      omega arith

  not_both : (it : Item) (items : List Item) (b : List Step) → Has items (Always b) → list_any (step_assigns x) b ≡ true → others (it ∷ items) ≤ 1 → (is_block_of x it ≡ false) × (others items ≤ 1)
  not_both it items b has e h =
      let c : others (it ∷ items) ≡ one_if (is_block_of x it) + others items = count_cons (is_block_of x) it items in
      let one : 1 ≤ others items = counted (is_block_of x) items (Always b) has e in
      (none_counted (is_block_of x it) (omega arith), omega arith)

  pub items_leave : (items : List Item) (c : Cycle) → others items ≡ 0 → IsSameAt x (run_items s old items c) c
  items_leave [] c h = same x c
  items_leave (Always b ∷ items) c h =
      let p = none_here (Always b) items h in
      same_on x _ (run_steps s old [] b c) c (items_leave items (run_steps s old [] b c) p.1) (steps_leave b [] c p.0)
  items_leave (Wire w y ∷ items) c h = items_leave items c (none_here (Wire w y) items h).1
  items_leave (Reg w y ∷ items) c h = items_leave items c (none_here (Reg w y) items h).1
  items_leave (Memory w y n ∷ items) c h = items_leave items c (none_here (Memory w y n) items h).1
  items_leave (Assign y e ∷ items) c h = items_leave items c (none_here (Assign y e) items h).1
  items_leave (Instance m i ls ∷ items) c h = items_leave items c (none_here (Instance m i ls) items h).1

  pub own_leaves : (items : List Item) (b : List Step) (c d : Cycle) → Has items (Always b) → list_any (step_assigns x) b ≡ true → others items ≤ 1 → IsSameAt x c d
      → IsSameAt x (run_items s old items c) (run_steps s old [] b d)
  own_leaves [] b c d has e low h = absurd has
  own_leaves (Always p ∷ items) b c d (inl q) e low h =
      let is : p ≡ b = cc q in
      let mine : list_any (step_assigns x) p ≡ true = ap (λ l. list_any (step_assigns x) l) is ∙ e in
      same_on x _ (run_steps s old [] p c) _ (items_leave items (run_steps s old [] p c) (none_behind (Always p) items mine low))
      (subst (λ l. IsSameAt x (run_steps s old [] p c) (run_steps s old [] l d)) is (steps_alike p [] c d h))
  own_leaves (Always p ∷ items) b c d (inr has) e low h =
      let q = not_both (Always p) items b has e low in
      own_leaves items b (run_steps s old [] p c) d has e q.1 (same_on x (run_steps s old [] p c) c d (steps_leave p [] c q.0) h)
  own_leaves (Wire w y ∷ items) b c d (inl q) e low h = cc
  own_leaves (Wire w y ∷ items) b c d (inr has) e low h = own_leaves items b c d has e (not_both (Wire w y) items b has e low).1 h
  own_leaves (Reg w y ∷ items) b c d (inl q) e low h = cc
  own_leaves (Reg w y ∷ items) b c d (inr has) e low h = own_leaves items b c d has e (not_both (Reg w y) items b has e low).1 h
  own_leaves (Memory w y n ∷ items) b c d (inl q) e low h = cc
  own_leaves (Memory w y n ∷ items) b c d (inr has) e low h = own_leaves items b c d has e (not_both (Memory w y n) items b has e low).1 h
  own_leaves (Assign y v ∷ items) b c d (inl q) e low h = cc
  own_leaves (Assign y v ∷ items) b c d (inr has) e low h = own_leaves items b c d has e (not_both (Assign y v) items b has e low).1 h
  own_leaves (Instance m i ls ∷ items) b c d (inl q) e low h = cc
  own_leaves (Instance m i ls ∷ items) b c d (inr has) e low h = own_leaves items b c d has e (not_both (Instance m i ls) items b has e low).1 h

pub low_of : (n : ℕ) → nat_le 2 n ≡ false → n ≤ 1
low_of n h = grind (arith, nat_tests)

kept_low : (k : NetKind) (driven blocks : ℕ) → (k ≡ Register) ⊎ (k ≡ MemoryArray) → breaks_driving driven blocks k ≡ false → blocks ≤ 1
kept_low k driven blocks (inl e) h = low_of blocks (ap (breaks_driving driven blocks) (sym e) ∙ h)
kept_low k driven blocks (inr e) h = low_of blocks (ap (breaks_driving driven blocks) (sym e) ∙ h)

pub drivers_alone : (ms : List ModuleTree) (m : ModuleTree) → first_violation (module_drives ms m) ≡ None → (d : Declaration) → Has (declared m) d
    → (d.net_kind ≡ Register) ⊎ (d.net_kind ≡ MemoryArray) → count_by (is_block_of d.name) m.items ≤ 1
unfolding module_drives driving_use
drivers_alone ms m none d has kind =
    kept_low d.net_kind (drives ms m.items d.name) (count_by (is_block_of d.name) m.items) kind
    (right (module_drives ms m) none (driving_use ms m.items d) (has_map (driving_use ms m.items) (declared m) d has))
