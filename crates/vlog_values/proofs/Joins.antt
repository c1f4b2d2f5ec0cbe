-- Concatenations and copies as they grow.
use Rattle.std.proofs.Common.{◌≡◌, ℕ, zero, suc, ◌+◌, ◌-◌, ◌*◌, ◌^◌, ◌<◌, ◌≤◌, List, [], ◌∷◌, None, length, get_or, drop, refl, sym, ap, ◌∙◌, arith}
use Rattle.std.proofs.Math.Pow.{pow_pos}
use Rattle.vlog_tree.specs.declared.tree.Atom.{Atom}
use Rattle.vlog_tree.specs.Cycle.{Cycle, Sizes, atom_value, atom_width, joined, copies}
use Rattle.vlog_tree.proofs.Walks.{opened, over}
use Rattle.vlog_values.specs.Numbers.{fitting}
use Rattle.vlog_values.proofs.Fits.{grown}

times_least : (n p : ℕ) → 0 < p → n ≤ n * p
times_least n zero h = absurd (omega arith)
times_least n (suc p) h = grind arith

below_least : (n w v : ℕ) → n ≤ n * 2 ^ w + v
below_least n w v = let p : 0 < 2 ^ w = pow_pos w in let l : n ≤ n * 2 ^ w = times_least n (2 ^ w) p in omega arith

copies_grow : (w a i d : ℕ) → copies w a i ≤ copies w a (d + i)
copies_grow w a i zero = let e : copies w a (0 + i) ≡ copies w a i = ap (λ k. copies w a k) (let z : 0 + i ≡ i = omega arith in z) in omega arith
copies_grow w a i (suc d) =
    let ih : copies w a i ≤ copies w a (d + i) = copies_grow w a i d in
    let s : copies w a (suc d + i) ≡ copies w a (suc (d + i)) = ap (λ k. copies w a k) (let z : suc d + i ≡ suc (d + i) = omega arith in z) in
    let l : copies w a (d + i) ≤ copies w a (d + i) * 2 ^ w + a = below_least (copies w a (d + i)) w a in
    let t : copies w a (suc (d + i)) ≡ copies w a (d + i) * 2 ^ w + a = refl in
    omega arith

pub copy_more : (w a i n : ℕ) → n ≡ copies w a i → n * 2 ^ w + a ≡ copies w a (i + 1)
copy_more w a i n e = ap (λ k. k * 2 ^ w + a) e ∙ ap (λ k. copies w a k) (sym (let z : i + 1 ≡ suc i = omega arith in z))

-- where some copies do not fit, more do not
pub copies_past : (w a i k n : ℕ) → n ≡ copies w a i → i < k → None ≡ fitting (n * 2 ^ w + a) → None ≡ fitting (copies w a k)
copies_past w a i k n e low h =
    let d : (k - (i + 1)) + (i + 1) ≡ k = omega arith in
    let g : copies w a (i + 1) ≤ copies w a ((k - (i + 1)) + (i + 1)) = copies_grow w a (i + 1) (k - (i + 1)) in
    let s : copies w a ((k - (i + 1)) + (i + 1)) ≡ copies w a k = ap (λ j. copies w a j) d in
    let m : n * 2 ^ w + a ≡ copies w a (i + 1) = copy_more w a i n e in
    grown (n * 2 ^ w + a) (copies w a k) h (omega arith)

module _ (s : Sizes) (c : Cycle) where
  joined_least : (atoms : List Atom) (n : ℕ) → n ≤ joined s c n atoms
  joined_least [] n = omega arith
  joined_least (a ∷ atoms) n =
      let l : n ≤ n * 2 ^ atom_width s a + atom_value c a = below_least n (atom_width s a) (atom_value c a) in
      let r : n * 2 ^ atom_width s a + atom_value c a ≤ joined s c (n * 2 ^ atom_width s a + atom_value c a) atoms = joined_least atoms (n * 2 ^ atom_width s a + atom_value c a) in
      omega arith

  module _ (atoms : List Atom) (i n b v : ℕ) (x : Atom) (low : i < length atoms) (is : x ≡ get_or atoms i x) (width : b ≡ atom_width s x) (value : v ≡ atom_value c x) (so_far : joined s c n (drop i atoms) ≡ joined s c 0 atoms) where
    pub join_more : (r : ℕ) → r ≡ n * 2 ^ b + v → joined s c r (drop (i + 1) atoms) ≡ joined s c 0 atoms
    join_more r e =
        ap (λ k. joined s c k (drop (i + 1) atoms)) (e ∙ ap (λ k. n * 2 ^ k + v) width ∙ ap (λ k. n * 2 ^ atom_width s x + k) value)
        ∙ sym (ap (λ l. joined s c n l) (opened atoms i x low is)) ∙ so_far

    pub join_past : None ≡ fitting (n * 2 ^ b + v) → None ≡ fitting (joined s c 0 atoms)
    join_past h =
        let l : n * 2 ^ b + v ≤ joined s c (n * 2 ^ b + v) (drop (i + 1) atoms) = joined_least (drop (i + 1) atoms) (n * 2 ^ b + v) in
        let e : joined s c (n * 2 ^ b + v) (drop (i + 1) atoms) ≡ joined s c 0 atoms = join_more (n * 2 ^ b + v) refl in
        grown (n * 2 ^ b + v) (joined s c 0 atoms) h (omega arith)

  pub join_end : (atoms : List Atom) (i n : ℕ) → length atoms ≤ i → joined s c n (drop i atoms) ≡ joined s c 0 atoms → n ≡ joined s c 0 atoms
  join_end atoms i n h e = ap (λ l. joined s c n l) (sym (over atoms i h)) ∙ e
