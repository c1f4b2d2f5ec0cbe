-- A driver's value depends on its nets, their widths and the cells that it reads alone.
use Rattle.std.proofs.Common.{◌≡◌, ℕ, ◌+◌, ◌*◌, ◌^◌, cond, eqb, List, [], ◌∷◌, ◌++◌, inl, refl, ap, ◌∙◌}
use Rattle.std.specs.List.{flat_map}
use Rattle.vlog_tree.specs.declared.tree.Atom.{Atom}
use Rattle.vlog_tree.specs.declared.tree.Atom.TheVariants.{Net, Part, Literal}
use Rattle.vlog_tree.specs.declared.tree.Value.{Value}
use Rattle.vlog_tree.specs.declared.tree.Value.TheVariants.{Plain, Invert, Binary, Choose, Concat, Repeat, Cell}
use Rattle.tapa_base.specs.Lists.{Has}
use Rattle.vlog_tree.specs.Table.{Name}
use Rattle.vlog_tree.specs.Cycle.{Cycle, Sizes, atom_value, atom_width, op_value, joined, copies, read_cell, driven}
use Rattle.vlog_tree.specs.Loops.{atom_nets, value_nets}
use Rattle.tapa_base.proofs.Lists.{has_left, has_right}

module _ (c d : Cycle) where
  pub atom_same : (a : Atom) → ((z : Name) → Has (atom_nets a) z → c.net z ≡ d.net z) → atom_value c a ≡ atom_value d a
  atom_same (Net x) f = f x (inl refl)
  atom_same (Part x high low) f = rw (f x (inl refl)) refl
  atom_same (Literal w n) f = refl

  -- a memory's cells are read alike
  abbrev pub ReadsAlike : Sizes → Sizes → Value → Type 0
  ReadsAlike s t (Cell m x) = (k : ℕ) → read_cell s c m k ≡ read_cell t d m k
  ReadsAlike s t (Plain a) = Unit {0}
  ReadsAlike s t (Invert a) = Unit {0}
  ReadsAlike s t (Binary a op b) = Unit {0}
  ReadsAlike s t (Choose x a b) = Unit {0}
  ReadsAlike s t (Concat atoms) = Unit {0}
  ReadsAlike s t (Repeat n a) = Unit {0}

  module _ (s t : Sizes) where
    width_same : (a : Atom) → ((z : Name) → Has (atom_nets a) z → s.width z ≡ t.width z) → atom_width s a ≡ atom_width t a
    width_same (Net x) f = f x (inl refl)
    width_same (Part x high low) f = refl
    width_same (Literal w n) f = refl

    joined_same : (atoms : List Atom) (n k : ℕ) → n ≡ k → ((z : Name) → Has (flat_map atom_nets atoms) z → c.net z ≡ d.net z) → ((z : Name) → Has (flat_map atom_nets atoms) z → s.width z ≡ t.width z) → joined s c n atoms ≡ joined t d k atoms
    joined_same [] n k e f g = e
    joined_same (a ∷ atoms) n k e f g =
        let v = atom_same a (λ z h. f z (has_left (atom_nets a) (flat_map atom_nets atoms) z h)) in
        let w = width_same a (λ z h. g z (has_left (atom_nets a) (flat_map atom_nets atoms) z h)) in
        joined_same atoms (n * 2 ^ atom_width s a + atom_value c a) (k * 2 ^ atom_width t a + atom_value d a) (rw (e, v, w) refl)
        (λ z h. f z (has_right (atom_nets a) (flat_map atom_nets atoms) z h)) (λ z h. g z (has_right (atom_nets a) (flat_map atom_nets atoms) z h))

    chosen_same : (u u' a a' b b' : ℕ) → u ≡ u' → a ≡ a' → b ≡ b' → cond (eqb u 1) a b ≡ cond (eqb u' 1) a' b'
    chosen_same u u' a a' b b' e f g = rw (e, f, g) refl

    pub driven_same : (w w' : ℕ) (e : Value) → w ≡ w' → ((z : Name) → Has (value_nets e) z → c.net z ≡ d.net z) → ((z : Name) → Has (value_nets e) z → s.width z ≡ t.width z) → ReadsAlike s t e → driven s w c e ≡ driven t w' d e
    driven_same w w' (Plain a) same f g r = atom_same a f
    driven_same w w' (Invert a) same f g r = rw (same, atom_same a f) refl
    driven_same w w' (Binary a op b) same f g r =
        let ea = atom_same a (λ z h. f z (has_left (atom_nets a) (atom_nets b) z h)) in
        let eb = atom_same b (λ z h. f z (has_right (atom_nets a) (atom_nets b) z h)) in
        ap (λ n. op_value n op (atom_value c a) (atom_value c b)) same ∙ ap (λ n. op_value w' op n (atom_value c b)) ea ∙ ap (λ n. op_value w' op (atom_value d a) n) eb
    driven_same w w' (Choose u a b) same f g r =
        chosen_same (atom_value c u) (atom_value d u) (atom_value c a) (atom_value d a) (atom_value c b) (atom_value d b)
        (atom_same u (λ z h. f z (has_left (atom_nets u) (atom_nets a ++ atom_nets b) z h)))
        (atom_same a (λ z h. f z (has_right (atom_nets u) (atom_nets a ++ atom_nets b) z (has_left (atom_nets a) (atom_nets b) z h))))
        (atom_same b (λ z h. f z (has_right (atom_nets u) (atom_nets a ++ atom_nets b) z (has_right (atom_nets a) (atom_nets b) z h))))
    driven_same w w' (Concat atoms) same f g r = joined_same atoms 0 0 refl f g
    driven_same w w' (Repeat n a) same f g r = ap (λ k. copies k (atom_value c a) n) (width_same a g) ∙ ap (λ v. copies (atom_width t a) v n) (atom_same a f)
    driven_same w w' (Cell m x) same f g r = r (c.net x) ∙ ap (λ k. read_cell t d m k) (f x (inl refl))
