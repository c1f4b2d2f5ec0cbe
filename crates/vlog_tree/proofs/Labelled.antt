-- A name with a label is the label between a front and an end.
use Rattle.std.proofs.Common.{◌≡◌, ℕ, ◌-◌, ◌<◌, ◌≤◌, Bool, true, false, cond, ◌&&◌, ◌++◌, Some, None, refl, sym, ap, ◌∙◌, arith, length, length-append, length-take, take, drop}
use Rattle.std.specs.Prelude.{bytes_eq, nat_le}
use Rattle.std.specs.Cmp.Lexicographic.{bytes_decides}
use Rattle.std.proofs.lemmas.Bool.{and_parts}
use Rattle.std.proofs.lemmas.Bool.Decides.{nat_tests}
use Rattle.std.proofs.lemmas.List.{take-append-drop}
use Rattle.std.proofs.Math.Seq.{take-append_seam, drop-append_seam}
use Rattle.vlog_tree.specs.Table.{Name}
use Rattle.vlog_tree.specs.Labels.{label_in}

pub record IsLabelled (front end x l : Name) : Type 0 where
  pub is : x ≡ front ++ (l ++ end)
  pub some : 0 < length l

pub lt_of : (a b : ℕ) → nat_le a b ≡ false → b < a
lt_of a b h = grind (arith, nat_tests)

pub of_le : (a b : ℕ) → a ≤ b → nat_le a b ≡ true
of_le a b h = grind (arith, nat_tests)

of_lt : (a b : ℕ) → b < a → nat_le a b ≡ false
of_lt a b h = grind (arith, nat_tests)

rest_of : (end rest l : Name) (b c : Bool) → (nat_le (length end) (length rest) && bytes_eq (drop (length rest - length end) rest) end) ≡ b → nat_le (length rest) (length end) ≡ c
    → cond b (cond c None (Some (take (length rest - length end) rest))) None ≡ Some l → (rest ≡ l ++ end) × (0 < length l)
rest_of end rest l true true e f h = cc
rest_of end rest l true false e f h =
    let p = and_parts _ (bytes_eq (drop (length rest - length end) rest) end) e in
    let same : take (length rest - length end) rest ≡ l = cc h in
    let last : drop (length rest - length end) rest ≡ end = (bytes_decides _ end).0 p.1 in
    let more : length end < length rest = lt_of (length rest) (length end) f in
    let long : length (take (length rest - length end) rest) ≡ length l = ap length same in (
      sym (take-append-drop (length rest - length end) rest) ∙ ap (λ z. z ++ drop (length rest - length end) rest) same ∙ ap (λ z. l ++ z) last,
      omega (arith, length-take (length rest - length end) rest),
    )
rest_of end rest l false c e f h = cc

front_of : (front end x l : Name) (b : Bool) → (nat_le (length front) (length x) && bytes_eq (take (length front) x) front) ≡ b
    → cond b (cond (nat_le (length end) (length (drop (length front) x)) && bytes_eq (drop (length (drop (length front) x) - length end) (drop (length front) x)) end)
    (cond (nat_le (length (drop (length front) x)) (length end)) None (Some (take (length (drop (length front) x) - length end) (drop (length front) x)))) None) None ≡ Some l
    → IsLabelled front end x l
front_of front end x l true e h =
    let p = and_parts _ (bytes_eq (take (length front) x) front) e in
    let r = rest_of end (drop (length front) x) l _ _ refl refl h in
    record {
      is = sym (take-append-drop (length front) x) ∙ ap (λ z. z ++ drop (length front) x) ((bytes_decides (take (length front) x) front).0 p.1) ∙ ap (λ z. front ++ z) r.0;
      some = r.1;
    }
front_of front end x l false e h = cc

pub labelled : (front end x l : Name) → label_in front end x ≡ Some l → IsLabelled front end x l
unfolding label_in
labelled front end x l h = front_of front end x l _ refl h

-- the label of a name that is made of one
pub label_of : (front end l : Name) → 0 < length l → label_in front end (front ++ (l ++ end)) ≡ Some l
unfolding label_in
label_of front end l some =
    let there : nat_le (length front) (length (front ++ (l ++ end))) ≡ true = of_le _ _ (simp length-append (omega arith)) in
    let same : bytes_eq (take (length front) (front ++ (l ++ end))) front ≡ true = (bytes_decides _ front).1 (take-append_seam front (l ++ end)) in
    let rest : drop (length front) (front ++ (l ++ end)) ≡ l ++ end = drop-append_seam front (l ++ end) in
    let size : length (l ++ end) - length end ≡ length l = simp length-append (omega arith) in
    let ends : nat_le (length end) (length (l ++ end)) ≡ true = of_le _ _ (simp length-append (omega arith)) in
    let more : nat_le (length (l ++ end)) (length end) ≡ false = of_lt _ _ (simp length-append (omega arith)) in
    let last : bytes_eq (drop (length (l ++ end) - length end) (l ++ end)) end ≡ true = (bytes_decides _ end).1 (ap (λ n. drop n (l ++ end)) size ∙ drop-append_seam l end) in
    rw (there, same, rest, ends, last, more) (ap (λ n. Some (take n (l ++ end))) size ∙ ap (λ z. Some z) (take-append_seam l end))
