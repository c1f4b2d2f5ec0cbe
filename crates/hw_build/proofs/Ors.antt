-- What trees of ors make of their leaves.
use Rattle.std.proofs.Common.{◌≡◌, ℕ, zero, suc, ◌+◌, ◌-◌, ◌*◌, ◌<◌, ◌≤◌, max, List, [], ◌∷◌, ◌++◌, inl, refl, sym, ap, ◌∙◌, arith, add-one, ⊎_elim}
use Rattle.std.specs.Prelude.{bit_or, ◌⊎◌}
use Rattle.std.specs.Int.Bits.{or_zero_l, or_zero_r}
use Rattle.std.proofs.lemmas.Nat.{or_comm}
use Rattle.std.proofs.lemmas.Nat.Bits.{bit_at_or, same_from_bits}
use Rattle.std.proofs.lemmas.Bool.{cases_eq}
use Rattle.std.specs.Int.{bit_at}
use Rattle.vlog_tree.specs.declared.tree.Atom.TheVariants.{Net}
use Rattle.vlog_tree.specs.declared.tree.BinaryOp.TheVariants.{Or}
use Rattle.vlog_tree.specs.declared.tree.Value.TheVariants.{Binary}
use Rattle.vlog_tree.specs.Form.{ModuleTree}
use Rattle.tapa_base.specs.Lists.{Has}
use Rattle.vlog_tree.specs.Table.{Name}
use Rattle.vlog_tree.specs.Cycle.{Cycle, Follows}
use Rattle.tapa_base.proofs.Lists.{has_left, has_right}
use Rattle.hw_build.specs.Elements.{Element, with, with_all, built}
use Rattle.hw_build.specs.Trees.{numbered, tree_node, tree_nodes, tree_root, or_range}
use Rattle.hw_build.proofs.Driven.{wire_driven}

or_assoc : (a b c : ℕ) → bit_or (bit_or a b) c ≡ bit_or a (bit_or b c)
or_assoc a b c = same_from_bits (bit_or (bit_or a b) c) (bit_or a (bit_or b c)) (λ i.
    let e1 : bit_at (bit_or (bit_or a b) c) i ≡ max (bit_at (bit_or a b) i) (bit_at c i) = bit_at_or (bit_or a b) c i in
    let e2 : bit_at (bit_or a b) i ≡ max (bit_at a i) (bit_at b i) = bit_at_or a b i in
    let e3 : bit_at (bit_or a (bit_or b c)) i ≡ max (bit_at a i) (bit_at (bit_or b c) i) = bit_at_or a (bit_or b c) i in
    let e4 : bit_at (bit_or b c) i ≡ max (bit_at b i) (bit_at c i) = bit_at_or b c i in
    omega (arith, e1, e2, e3, e4))

module _ (v : ℕ → ℕ) where
  -- one more at the end
  or_more : (n a : ℕ) → or_range v a (suc n) ≡ bit_or (or_range v a n) (v (a + n))
  or_more zero a =
      let same : a + 0 ≡ a = omega arith in
      or_zero_r (v a) ∙ ap v (sym same) ∙ sym (or_zero_l (v (a + 0)))
  or_more (suc n) a =
      let same : suc a + n ≡ a + suc n = omega arith in
      ap (bit_or (v a)) (or_more n (suc a)) ∙ sym (or_assoc (v a) (or_range v (suc a) n) (v (suc a + n))) ∙ ap (λ z. bit_or (bit_or (v a) (or_range v (suc a) n)) (v z)) same

  turned : (r p q : ℕ) → bit_or r (bit_or p q) ≡ bit_or p (bit_or q r)
  turned r p q = or_comm r (bit_or p q) ∙ or_assoc p q r

  -- two numbers at the front may be replaced by their or at the end
  one_node : (k m n : ℕ) → k ≡ m + 2 + n → v (k + m) ≡ bit_or (v (2 * m)) (v (2 * m + 1)) → or_range v (2 * m + 2) (suc n) ≡ or_range v (2 * m) (suc (suc n))
  one_node k m n e node =
      let last : 2 * m + 2 + n ≡ k + m = omega arith in
      let next : suc (2 * m) ≡ 2 * m + 1 = omega arith in
      let after : suc (suc (2 * m)) ≡ 2 * m + 2 = omega arith in
      or_more n (2 * m + 2) ∙ ap (λ z. bit_or (or_range v (2 * m + 2) n) (v z)) last ∙ ap (bit_or (or_range v (2 * m + 2) n)) node
      ∙ turned (or_range v (2 * m + 2) n) (v (2 * m)) (v (2 * m + 1)) ∙ ap (λ z. bit_or (v (2 * m)) (bit_or (v z) (or_range v (2 * m + 2) n))) (sym next)
      ∙ ap (λ z. bit_or (v (2 * m)) (bit_or (v (suc (2 * m))) (or_range v z n))) (sym after)

  window : (k : ℕ) → ((m : ℕ) → m + 1 < k → v (k + m) ≡ bit_or (v (2 * m)) (v (2 * m + 1))) → (m n : ℕ) → k ≡ m + 1 + n → or_range v (2 * m) (suc n) ≡ or_range v 0 k
  window k nodes zero n e = let all : suc n ≡ k = omega arith in ap (or_range v 0) all
  window k nodes (suc m) n e =
      let start : 2 * suc m ≡ 2 * m + 2 = omega arith in
      let before : k ≡ m + 1 + suc n = omega arith in
      ap (λ z. or_range v z (suc n)) start ∙ one_node k m n (omega arith) (nodes m (omega arith)) ∙ window k nodes m (suc n) before

  pub tree_is_or : (n : ℕ) → 0 < n → ((m : ℕ) → m + 1 < n → v (n + m) ≡ bit_or (v (2 * m)) (v (2 * m + 1))) → v (2 * n - 2) ≡ or_range v 0 n
  tree_is_or zero h nodes = absurd (omega arith)
  tree_is_or (suc k) h nodes =
      let root : 2 * suc k - 2 ≡ 2 * k = omega arith in
      ap v root ∙ sym (or_zero_r (v (2 * k))) ∙ window (suc k) nodes k 0 (omega arith)

  none_from : (n a : ℕ) → ((j : ℕ) → a ≤ j → j < a + n → v j ≡ 0) → or_range v a n ≡ 0
  none_from zero a h = refl
  none_from (suc n) a h =
      ap (λ z. bit_or z (or_range v (suc a) n)) (h a (omega arith) (omega arith)) ∙ or_zero_l (or_range v (suc a) n) ∙ none_from n (suc a) (λ j l m. h j (omega arith) (omega arith))

  pub none_is_zero : (n : ℕ) → ((j : ℕ) → j < n → v j ≡ 0) → or_range v 0 n ≡ 0
  none_is_zero n h = none_from n 0 (λ j l m. h j (omega arith))

  or_bits : (p q : ℕ) → p < 2 → q < 2 → bit_or p q < 2
  or_bits zero q h k = let e : bit_or 0 q ≡ q = or_zero_l q in omega arith
  or_bits (suc zero) zero h k = omega arith
  or_bits (suc zero) (suc zero) h k = omega arith
  or_bits (suc zero) (suc (suc q)) h k = absurd (omega arith)
  or_bits (suc (suc p)) q h k = absurd (omega arith)

  set_left : (q : ℕ) → q < 2 → bit_or 1 q ≡ 1
  set_left zero h = refl
  set_left (suc zero) h = refl
  set_left (suc (suc q)) h = absurd (omega arith)

  bits_from : (n a : ℕ) → ((j : ℕ) → a ≤ j → j < a + n → v j < 2) → or_range v a n < 2
  bits_from zero a h = omega arith
  bits_from (suc n) a h = or_bits (v a) (or_range v (suc a) n) (h a (omega arith) (omega arith)) (bits_from n (suc a) (λ j l m. h j (omega arith) (omega arith)))

  set_from : (n a i : ℕ) → a ≤ i → i < a + n → ((j : ℕ) → a ≤ j → j < a + n → v j < 2) → v i ≡ 1 → or_range v a n ≡ 1
  set_from zero a i l m h s = absurd (omega arith)
  set_from (suc n) a i l m h s =
      let rest : or_range v (suc a) n < 2 = bits_from n (suc a) (λ j p q. h j (omega (arith, p)) (omega (arith, q))) in
      ⊎_elim
      (λ e. ap (λ z. bit_or z (or_range v (suc a) n)) (ap v e ∙ s) ∙ set_left (or_range v (suc a) n) rest)
      (λ e.
      let later : or_range v (suc a) n ≡ 1 = set_from n (suc a) i (omega (arith, l, e)) (omega (arith, m)) (λ j p q. h j (omega (arith, p)) (omega (arith, q))) s in
      ap (bit_or (v a)) later ∙ or_comm (v a) 1 ∙ set_left (v a) (h a (omega arith) (omega arith)))
      (cases_eq a i)

  pub set_stays : (n i : ℕ) → i < n → ((j : ℕ) → j < n → v j < 2) → v i ≡ 1 → or_range v 0 n ≡ 1
  set_stays n i m h s = set_from n 0 i (omega arith) (omega arith) (λ j l k. h j (omega arith)) s

node_there : (width : ℕ) (front : Name) (leaves c m : ℕ) → m < c → Has (tree_nodes width front leaves c) (tree_node width front leaves m)
node_there width front leaves zero m h = absurd (omega arith)
node_there width front leaves (suc c) m h =
    ⊎_elim
    (λ e. has_right (tree_nodes width front leaves c) (tree_node width front leaves c ∷ []) (tree_node width front leaves m) (inl (ap (tree_node width front leaves) (sym e))))
    (λ e. has_left (tree_nodes width front leaves c) (tree_node width front leaves c ∷ []) (tree_node width front leaves m) (node_there width front leaves c m (omega (arith, h, e))))
    (cases_eq m c)

module _ (name : Name) (elements : List Element) (run : ℕ → Cycle) (f : Follows (built name elements) run) where
  pub root_driven : (width : ℕ) (front : Name) (leaves : ℕ) → 0 < leaves → ((e : Element) → Has (tree_nodes width front leaves (leaves - 1)) e → Has elements e) → (n : ℕ)
      → (run n).net (tree_root front leaves) ≡ or_range (λ j. (run n).net (numbered front j)) 0 leaves
  root_driven width front leaves some has n =
      tree_is_or (λ j. (run n).net (numbered front j)) leaves some
      (λ m h.
      wire_driven name elements run f width (numbered front (leaves + m)) (Binary (Net (numbered front (2 * m))) Or (Net (numbered front (2 * m + 1))))
      (has (tree_node width front leaves m) (node_there width front leaves (leaves - 1) m (omega (arith, h)))) n)

-- one more element
pub with_last : (xs : List Element) (m : ModuleTree) (e : Element) → with_all m (xs ++ e ∷ []) ≡ with (with_all m xs) e
with_last [] m e = refl
with_last (x ∷ xs) m e = with_last xs (with m x) e

-- one more node
pub nodes_more : (width : ℕ) (front : Name) (leaves m : ℕ) (d : ModuleTree) → with_all d (tree_nodes width front leaves (m + 1)) ≡ with (with_all d (tree_nodes width front leaves m)) (tree_node width front leaves m)
nodes_more width front leaves m d = ap (λ z. with_all d (tree_nodes width front leaves z)) (add-one m) ∙ with_last (tree_nodes width front leaves m) d (tree_node width front leaves m)
