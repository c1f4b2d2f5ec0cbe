-- Comments: what is cut stands, and what stands is cut.
use Rattle.std.proofs.Common.{◌≡◌, ℕ, zero, suc, ◌+◌, ◌≤◌, Bool, true, false, ◌&&◌, ◌||◌, [], ◌∷◌, ◌++◌, length, take, drop, get_or, Option, Some, None, refl, sym, ap, subst, arith, nat_eq, add-one, eqb-true}
use Rattle.std.specs.Prelude.{option_map}
use Rattle.std.specs.List.{list_all}
use Rattle.std.proofs.lemmas.Bool.{and_parts, false≢true, or_parts}
use Rattle.tapa_base.specs.Gaps.{Bytes, is_in_line, IsLineComment, has_close, IsBlockComment}
use Rattle.tapa_syntax.specs.Characters.{run}
use Rattle.tapa_syntax.specs.Comments.{closing}
use Rattle.tapa_syntax.proofs.Runs.{split, run_passes, run_stops, run_is}

-- ---- comments of a line

pub line_stands : (y : Bytes) → IsLineComment (take (run is_in_line (47 ∷ 47 ∷ y)) (47 ∷ 47 ∷ y)) (drop (run is_in_line (47 ∷ 47 ∷ y)) (47 ∷ 47 ∷ y))
line_stands y = (
  take (run is_in_line y) y,
  rw (add-one (run is_in_line y + 1), add-one (run is_in_line y)) refl,
  run_passes is_in_line y,
  rw (add-one (run is_in_line y + 1), add-one (run is_in_line y)) (run_stops is_in_line y),
)

pub line_run : (bytes rest : Bytes) → IsLineComment bytes rest → run is_in_line (bytes ++ rest) ≡ length bytes
line_run bytes rest h = let all : list_all is_in_line bytes ≡ true = rw h.1 h.2 in run_is is_in_line bytes rest all h.3

-- ---- comments of a block

first_kept : (m : ℕ) (z body : Bytes) → take m z ≡ body ++ 42 ∷ 47 ∷ [] → get_or z 0 0 ≡ get_or (body ++ 42 ∷ []) 0 0
first_kept zero z [] e = absurd cc
first_kept zero z (c ∷ body) e = absurd cc
first_kept (suc m) [] [] e = absurd cc
first_kept (suc m) [] (c ∷ body) e = absurd cc
first_kept (suc m) (b ∷ z) [] e = ap (λ (l : Bytes). get_or l 0 0) e
first_kept (suc m) (b ∷ z) (c ∷ body) e = ap (λ (l : Bytes). get_or l 0 0) e

-- the bytes through the first `*/`
pub record Closes (z : Bytes) (n : ℕ) : Type 0 where
  pub body : Bytes
  pub is : take n z ≡ body ++ 42 ∷ 47 ∷ []
  pub first : has_close (body ++ 42 ∷ []) ≡ false
  pub within : n ≤ length z

closes_here : (b : ℕ) (z : Bytes) → (nat_eq b 42 && nat_eq (get_or z 0 0) 47) ≡ true → Closes (b ∷ z) 2
unfolding has_close
closes_here b [] h = absurd (false≢true (and_parts (nat_eq b 42) false h).1)
closes_here b (c ∷ z) h =
    let both = and_parts (nat_eq b 42) (nat_eq c 47) h in
    let star : b ≡ 42 = eqb-true b 42 both.0 in
    let slash : c ≡ 47 = eqb-true c 47 both.1 in
    record { body = []; is = rw (star, slash) refl; first = refl; within = omega arith }

closes_later : (b m : ℕ) (z : Bytes) → (nat_eq b 42 && nat_eq (get_or z 0 0) 47) ≡ false → Closes z m → Closes (b ∷ z) (m + 1)
unfolding has_close
closes_later b m z h c =
    let same = first_kept m z c.body c.is in
    record {
      body = b ∷ c.body;
      is = rw (add-one m) (ap (λ (l : Bytes). b ∷ l) c.is);
      first = or_both (nat_eq b 42 && nat_eq (get_or (c.body ++ 42 ∷ []) 0 0) 47) (has_close (c.body ++ 42 ∷ [])) (subst (λ (x : ℕ). (nat_eq b 42 && nat_eq x 47) ≡ false) same h) c.first;
      within = omega (arith, c.within);
    }
  where
    or_both : (s t : Bool) → s ≡ false → t ≡ false → (s || t) ≡ false
    or_both s t p q = rw (p, q) refl

pub closing_stands : (z : Bytes) (n : ℕ) → closing z ≡ Some n → Closes z n
unfolding closing
closing_stands [] n e = absurd cc
closing_stands (b ∷ z) n e =
    split (nat_eq b 42 && nat_eq (get_or z 0 0) 47) (Some 2) (option_map (λ m. m + 1) (closing z)) (Some n) e
    (λ t is. let same : 2 ≡ n = cc in subst (Closes (b ∷ z)) same (closes_here b z t))
    (λ f is. later b z n f (closing z) is (closing_stands z))
  where
    later : (b : ℕ) (z : Bytes) (n : ℕ) → (nat_eq b 42 && nat_eq (get_or z 0 0) 47) ≡ false → (o : Option ℕ) → option_map (λ m. m + 1) o ≡ Some n → ((m : ℕ) → o ≡ Some m → Closes z m) → Closes (b ∷ z) n
    later b z n f None is more = absurd cc
    later b z n f (Some m) is more = let same : m + 1 ≡ n = cc in subst (Closes (b ∷ z)) same (closes_later b m z f (more m refl))

first_same : (body rest : Bytes) → get_or (body ++ 42 ∷ 47 ∷ rest) 0 0 ≡ get_or (body ++ 42 ∷ []) 0 0
first_same [] rest = refl
first_same (c ∷ body) rest = refl

pub closing_is : (body rest : Bytes) → has_close (body ++ 42 ∷ []) ≡ false → closing (body ++ 42 ∷ 47 ∷ rest) ≡ Some (length body + 2)
unfolding closing has_close
closing_is [] rest h = refl
closing_is (b ∷ body) rest h =
    let parts = or_parts (nat_eq b 42 && nat_eq (get_or (body ++ 42 ∷ []) 0 0) 47) (has_close (body ++ 42 ∷ [])) h in
    let same = first_same body rest in
    let none : (nat_eq b 42 && nat_eq (get_or (body ++ 42 ∷ 47 ∷ rest) 0 0) 47) ≡ false = subst (λ (x : ℕ). (nat_eq b 42 && nat_eq x 47) ≡ false) (sym same) parts.0 in
    rw (none, closing_is body rest parts.1) (ap (λ (n : ℕ). Some n) (omega arith))

pub block_stands : (y : Bytes) (n : ℕ) → Closes y n → IsBlockComment (take (n + 2) (47 ∷ 42 ∷ y))
block_stands y n c =
    let two : n + 2 ≡ suc (suc n) = omega arith in
    (c.body, rw two (ap (λ (l : Bytes). 47 ∷ 42 ∷ l) c.is), c.first)
