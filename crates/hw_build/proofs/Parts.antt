-- Fitting part by part.
use Rattle.std.proofs.Common.{◌≡◌, ℕ, zero, suc, ◌+◌, ◌-◌, ◌*◌, ◌<◌, ◌≤◌, List, [], ◌∷◌, ◌++◌, inl, inr, refl, sym, ap, subst, arith, append_assoc, ⊎_elim}
use Rattle.std.specs.Prelude.{◌⊎◌, IsTrue}
use Rattle.std.specs.List.{flat_map, AllByRecursion}
use Rattle.std.proofs.lemmas.List.{append-nil}
use Rattle.std.proofs.lemmas.Bool.{cases_eq}
use Rattle.vlog_tree.specs.declared.tree.Atom.{Atom}
use Rattle.vlog_tree.specs.declared.tree.Atom.TheVariants.{Net, Part, Literal}
use Rattle.vlog_tree.specs.declared.tree.BinaryOp.{BinaryOp}
use Rattle.vlog_tree.specs.declared.tree.BinaryOp.TheVariants.{Plus, Minus, Times, Divide, Remainder, And, Or, Xor, ShiftLeft, ShiftRight, Equals, Differs, Less}
use Rattle.vlog_tree.specs.declared.tree.Value.{Value}
use Rattle.vlog_tree.specs.declared.tree.Value.TheVariants.{Plain, Invert, Binary, Choose, Concat, Repeat, Cell}
use Rattle.vlog_tree.specs.declared.tree.Step.{Step}
use Rattle.vlog_tree.specs.declared.tree.Step.TheVariants.{If, Else, End, NonblockingAssign, MemoryAssign}
use Rattle.tapa_base.specs.Lists.{Has}
use Rattle.vlog_tree.specs.Table.{Name}
use Rattle.vlog_tree.specs.V3.{is_width}
use Rattle.tapa_base.proofs.Lists.{has_left, has_right, has_split, has_flat, of_flat}
use Rattle.hw_build.specs.Elements.{Element, Input, Output, Outlet, Wire, InstanceWire, Register, Memory, Block, Instance}
use Rattle.hw_build.specs.Trees.{numbered, tree_node, tree_nodes}
use Rattle.hw_build.specs.Scope.{each, readable, register_of, memory_of, IsNet, IsRegister, IsMemory, AtomIs, OpIs, PartsAre, ValueIs, StepIs, first_assigned, IsBlockOf, FitsAfter, FitInOrder}
use Rattle.hw_build.specs.Fits.{IsAmong}

-- each f n has what one of its parts has
pub has_each : {A : Type 0} (f : ℕ → List A) (n k : ℕ) (x : A) → k < n → Has (f k) x → Has (each f n) x
has_each f zero k x l h = absurd (omega arith)
has_each f (suc n) k x l h =
    ⊎_elim (λ e. has_right (each f n) (f n) x (subst (λ j. Has (f j) x) e h)) (λ e. has_left (each f n) (f n) x (has_each f n k x (omega (arith, l, e)) h)) (cases_eq k n)

pub of_each : {A : Type 0} (f : ℕ → List A) (n : ℕ) (x : A) → Has (each f n) x → (k : ℕ) × (k < n) × Has (f k) x
of_each f zero x h = absurd h
of_each f (suc n) x h = elim (has_split (each f n) (f n) x h) [
  | inl l ↦ (let r = of_each f n x l in (r.0, (let b : r.0 < n = r.1 in omega arith), r.2))
  | inr r ↦ (n, omega arith, r)
]

module _ (some all : List Element) (among : IsAmong some all) where
  more_of : {A : Type 0} (f : Element → List A) (y : A) → Has (flat_map f some) y → Has (flat_map f all) y
  more_of f y h = let r = of_flat f some y h in has_flat f all r.0 y (among r.0 r.1) r.2

  pub net_more : (x : Name) (w : ℕ) → IsNet some x w → IsNet all x w
  net_more x w (inl e) = inl e
  net_more x w (inr h) = inr (more_of readable (x, w) h)

  register_more : (x : Name) (w : ℕ) → IsRegister some x w → IsRegister all x w
  register_more x w h = more_of register_of (x, w) h

  memory_more : (x : Name) (w : ℕ) → IsMemory some x w → IsMemory all x w
  memory_more x w h = more_of memory_of (x, w) h

  pub atom_more : (w : ℕ) (a : Atom) → AtomIs some w a → AtomIs all w a
  atom_more w (Net x) h = net_more x w h
  atom_more w (Part x high low) h = (h.0, net_more x h.0 h.1, h.2, h.3, h.4, h.5)
  atom_more w (Literal v n) h = h

  op_more : (w : ℕ) (op : BinaryOp) (a b : Atom) → OpIs some w op a b → OpIs all w op a b
  op_more w Plus a b h = (atom_more w a h.0, atom_more w b h.1)
  op_more w Minus a b h = (atom_more w a h.0, atom_more w b h.1)
  op_more w Times a b h = (atom_more w a h.0, atom_more w b h.1)
  op_more w Divide a b h = (atom_more w a h.0, atom_more w b h.1, h.2)
  op_more w Remainder a b h = (atom_more w a h.0, atom_more w b h.1, h.2)
  op_more w And a b h = (atom_more w a h.0, atom_more w b h.1)
  op_more w Or a b h = (atom_more w a h.0, atom_more w b h.1)
  op_more w Xor a b h = (atom_more w a h.0, atom_more w b h.1)
  op_more w ShiftLeft a b h = (atom_more w a h.0, (h.1.0, h.1.1, atom_more h.1.0 b h.1.2))
  op_more w ShiftRight a b h = (atom_more w a h.0, (h.1.0, h.1.1, atom_more h.1.0 b h.1.2))
  op_more w Equals a b h = (h.0, (h.1.0, h.1.1, atom_more h.1.0 a h.1.2, atom_more h.1.0 b h.1.3))
  op_more w Differs a b h = (h.0, (h.1.0, h.1.1, atom_more h.1.0 a h.1.2, atom_more h.1.0 b h.1.3))
  op_more w Less a b h = (h.0, (h.1.0, h.1.1, atom_more h.1.0 a h.1.2, atom_more h.1.0 b h.1.3))

  parts_more : (atoms : List Atom) (w : ℕ) → PartsAre some atoms w → PartsAre all atoms w
  parts_more [] w h = h
  parts_more (a ∷ atoms) w h = (h.0, h.1, h.2, atom_more h.0 a h.3, parts_more atoms h.1 h.4, h.5)

  value_more : (w : ℕ) (v : Value) → ValueIs some w v → ValueIs all w v
  value_more w (Plain a) h = atom_more w a h
  value_more w (Invert a) h = atom_more w a h
  value_more w (Binary a op b) h = op_more w op a b h
  value_more w (Choose c a b) h = (atom_more 1 c h.0, atom_more w a h.1, atom_more w b h.2)
  value_more w (Concat atoms) h = (h.0, parts_more atoms w h.1)
  value_more w (Repeat n a) h = (h.0, h.1, atom_more h.0 a h.2, h.3)
  value_more w (Cell m x) h = (memory_more m w h.0, (h.1.0, net_more x h.1.0 h.1.1))

  step_more : (x : Name) (s : Step) → StepIs some x s → StepIs all x s
  step_more x (If c) h = net_more c 1 h
  step_more x Else h = h
  step_more x End h = h
  step_more x (NonblockingAssign y a) h = (h.0, (h.1.0, register_more y h.1.0 h.1.1, atom_more h.1.0 a h.1.2))
  step_more x (MemoryAssign m i a) h = (h.0, (h.1.0, memory_more m h.1.0 h.1.1, (h.1.2.0, net_more i h.1.2.0 h.1.2.1), atom_more h.1.0 a h.1.3))

  steps_more : (x : Name) (b : List Step) → AllByRecursion (StepIs some x) b → AllByRecursion (StepIs all x) b
  steps_more x [] h = h
  steps_more x (s ∷ b) h = (step_more x s h.0, steps_more x b h.1)

  block_more : (b : List Step) (xs : List Name) → IsBlockOf some b xs → IsBlockOf all b xs
  block_more b [] h = h
  block_more b (x ∷ xs) h = (h.0, steps_more x b h.1)

  pub fits_more : (e : Element) → FitsAfter some e → FitsAfter all e
  fits_more (Input w x) h = h
  fits_more (Output w x v) h = (h.0, value_more w v h.1)
  fits_more (Outlet w x) h = h
  fits_more (Wire w x v) h = (h.0, value_more w v h.1)
  fits_more (InstanceWire w x) h = h
  fits_more (Register w x) h = h
  fits_more (Memory w x n) h = h
  fits_more (Block b) h = block_more b (first_assigned b) h
  fits_more (Instance k i ls) h = h

pub more_behind : (some all : List Element) → IsAmong some all → (e : Element) → IsAmong (some ++ e ∷ []) (all ++ e ∷ [])
more_behind some all among e d h = elim (has_split some (e ∷ []) d h) [ inl l ↦ has_left all (e ∷ []) d (among d l) | inr r ↦ has_right all (e ∷ []) d r ]

pub in_order_more : (some all : List Element) → IsAmong some all → (elements : List Element) → FitInOrder some elements → FitInOrder all elements
in_order_more some all among [] h = h
in_order_more some all among (e ∷ elements) h =
    (fits_more some all among e h.0, in_order_more (some ++ e ∷ []) (all ++ e ∷ []) (more_behind some all among e) elements h.1)

pub parts_fit : (before xs ys : List Element) → FitInOrder before xs → FitInOrder (before ++ xs) ys → FitInOrder before (xs ++ ys)
parts_fit before [] ys h k = subst (λ (l : List Element). FitInOrder l ys) (append-nil before) k
parts_fit before (e ∷ xs) ys h k = (h.0, parts_fit (before ++ e ∷ []) xs ys h.1 (subst (λ (l : List Element). FitInOrder l ys) (sym (append_assoc before (e ∷ []) xs)) k))

pub each_fits : (before elements : List Element) → ((e : Element) → Has elements e → FitsAfter before e) → FitInOrder before elements
each_fits before [] h = tt
each_fits before (e ∷ elements) h = (
  h e (inl refl),
  each_fits (before ++ e ∷ []) elements (λ d k. fits_more before (before ++ e ∷ []) (λ c l. has_left before (e ∷ []) c l) d (h d (inr k))),
)

pub each_part_fits : (before : List Element) (f : ℕ → List Element) (n : ℕ) → ((k : ℕ) → k < n → FitInOrder before (f k)) → FitInOrder before (each f n)
each_part_fits before f zero h = tt
each_part_fits before f (suc n) h =
    parts_fit before (each f n) (f n) (each_part_fits before f n (λ k l. h k (omega arith)))
    (in_order_more before (before ++ each f n) (λ c l. has_left before (each f n) c l) (f n) (h n (omega arith)))

-- trees
node_is : (width : ℕ) (front : Name) (leaves c i : ℕ) → i < c → Has {N = Name × ℕ} (flat_map readable (tree_nodes width front leaves c)) (numbered front (leaves + i), width)
node_is width front leaves zero i h = absurd (omega arith)
node_is width front leaves (suc c) i h =
    has_flat readable (tree_nodes width front leaves (suc c)) (tree_node width front leaves i) (numbered front (leaves + i), width) (there (suc c) i h) (inl refl) where
      there : (c i : ℕ) → i < c → Has (tree_nodes width front leaves c) (tree_node width front leaves i)
      there zero i h = absurd (omega arith)
      there (suc c) i h =
          ⊎_elim
          (λ e. has_right (tree_nodes width front leaves c) (tree_node width front leaves c ∷ []) (tree_node width front leaves i) (inl (ap (tree_node width front leaves) (sym e))))
          (λ e. has_left (tree_nodes width front leaves c) (tree_node width front leaves c ∷ []) (tree_node width front leaves i) (there c i (omega (arith, h, e))))
          (cases_eq i c)

module _ (before : List Element) (width : ℕ) (front : Name) (leaves : ℕ) (wide : IsTrue (is_width width)) (has_leaves : (j : ℕ) → j < leaves → IsNet before (numbered front j) width) where
  at_front : (c j : ℕ) → j < leaves → IsNet (before ++ tree_nodes width front leaves c) (numbered front j) width
  at_front c j h = net_more before (before ++ tree_nodes width front leaves c) (λ e k. has_left before (tree_nodes width front leaves c) e k) (numbered front j) width (has_leaves j h)

  at_node : (c j : ℕ) → leaves ≤ j → j < leaves + c → IsNet (before ++ tree_nodes width front leaves c) (numbered front j) width
  at_node c j h k =
      let same : leaves + (j - leaves) ≡ j = omega arith in
      net_more (tree_nodes width front leaves c) (before ++ tree_nodes width front leaves c) (λ e l. has_right before (tree_nodes width front leaves c) e l) (numbered front j) width
      (inr (subst (λ i. Has {N = Name × ℕ} (flat_map readable (tree_nodes width front leaves c)) (numbered front i, width)) same (node_is width front leaves c (j - leaves) (omega arith))))

  net_at : (c j : ℕ) → j < leaves + c → (n : ℕ) → n ≡ suc j - leaves → IsNet (before ++ tree_nodes width front leaves c) (numbered front j) width
  net_at c j h zero e = at_front c j (omega arith)
  net_at c j h (suc n) e = at_node c j (omega arith) h

  pub tree_fits : (m : ℕ) → m < leaves → FitInOrder before (tree_nodes width front leaves m)
  tree_fits zero h = tt
  tree_fits (suc m) h =
      parts_fit before (tree_nodes width front leaves m) (tree_node width front leaves m ∷ []) (tree_fits m (omega arith))
      ((wide, (net_at m (2 * m) (omega arith) (suc (2 * m) - leaves) refl, net_at m (2 * m + 1) (omega arith) (suc (2 * m + 1) - leaves) refl)), tt)
