-- Chains of places, and the first place of a name.
use Rattle.std.proofs.Common.{◌≡◌, ℕ, zero, suc, ◌+◌, ◌-◌, ◌<◌, ◌≤◌, Bool, true, false, cond, List, [], ◌∷◌, length, get_or, drop, Option, Some, None, inl, inr, refl, sym, ap, subst, ◌∙◌, map, arith, replicate}
use Rattle.std.specs.Prelude.{◌⊎◌, bytes_eq, is_some, unwrap_or, slice_set}
use Rattle.std.specs.Cmp.Lexicographic.{bytes_decides}
use Rattle.std.proofs.Math.Seq.{drop-cons}
use Rattle.std.proofs.lemmas.Bool.{cases_eq, cases_lt}
use Rattle.std.proofs.lemmas.List.{get_or-set_same, get_or-set_other, get_or-replicate, length-replicate, length-set}
use Rattle.vlog_tree.specs.declared.table.Declaration.{Declaration}
use Rattle.vlog_tree.specs.Table.{Name, unknown, declaration_name}
use Rattle.vlog_tree.proofs.Walks.{over}
use Rattle.vlog_scope.specs.NameTable.{places_from}
use Rattle.vlog_scope.specs.Chains.{chain_of, name_at, IsChained}

-- the first place of a name from a place on
abbrev pub from_place : List Declaration → Name → ℕ → Option (ℕ × Bool)
from_place ds x p = places_from p (map declaration_name (drop p ds)) x

opened : (ds : List Declaration) (x : Name) (p : ℕ) → p < length ds → from_place ds x p ≡ cond (bytes_eq (name_at ds p) x) (Some (p, is_some (from_place ds (name_at ds p) (suc p)))) (from_place ds x (suc p))
opened ds x p low = ap (λ (l : List Declaration). places_from p (map declaration_name l) x) (drop-cons ds p unknown low)

ended : (ds : List Declaration) (x : Name) (p : ℕ) → length ds ≤ p → from_place ds x p ≡ None
ended ds x p high = ap (λ (l : List Declaration). places_from p (map declaration_name l) x) (over ds p high)

-- a place that has the name is the first from itself on
pub some_at : (ds : List Declaration) (x : Name) (p : ℕ) → p < length ds → name_at ds p ≡ x → from_place ds x p ≡ Some (p, is_some (from_place ds x (suc p)))
some_at ds x p low e =
    let same : bytes_eq (name_at ds p) x ≡ true = (bytes_decides (name_at ds p) x).1 e in
    opened ds x p low ∙ ap (λ b. cond b (Some (p, is_some (from_place ds (name_at ds p) (suc p)))) (from_place ds x (suc p))) same ∙ ap (λ (y : Name). Some (p, is_some (from_place ds y (suc p)))) e

passed_of : (ds : List Declaration) (x : Name) (p : ℕ) (b : Bool) → bytes_eq (name_at ds p) x ≡ b → (name_at ds p ≡ x → ⊥) → cond b (Some (p, is_some (from_place ds (name_at ds p) (suc p)))) (from_place ds x (suc p)) ≡ from_place ds x (suc p)
passed_of ds x p true e other = absurd (other ((bytes_decides (name_at ds p) x).0 e))
passed_of ds x p false e other = refl

passed_at : (ds : List Declaration) (x : Name) (p : ℕ) → (p < length ds) ⊎ (length ds ≤ p) → (p < length ds → name_at ds p ≡ x → ⊥) → from_place ds x p ≡ from_place ds x (suc p)
passed_at ds x p (inl low) other =
    opened ds x p low ∙ ap (λ b. cond b (Some (p, is_some (from_place ds (name_at ds p) (suc p)))) (from_place ds x (suc p))) refl ∙ passed_of ds x p (bytes_eq (name_at ds p) x) refl (other low)
passed_at ds x p (inr high) other = ended ds x p high ∙ sym (ended ds x (suc p) (omega arith))

-- places that have other names are passed
pub passed : (ds : List Declaration) (x : Name) (n low high : ℕ) → low + n ≡ high → ((q : ℕ) → low ≤ q → q < high → q < length ds → name_at ds q ≡ x → ⊥) → from_place ds x low ≡ from_place ds x high
passed ds x zero low high e other = let same : low ≡ high = omega arith in ap (from_place ds x) same
passed ds x (suc n) low high e other =
    passed_at ds x low (cases_lt low (length ds)) (λ l. other low (omega arith) (omega arith) l)
    ∙ passed ds x n (suc low) high (omega arith) (λ q a b c. other q (omega arith) b c)

module _ (ds : List Declaration) (heads nexts : List ℕ) (t : IsChained 0 ds heads nexts) where
  -- from a head, and from a place to the next on its chain
  pub from_head : (x : Name) (b : ℕ) → b ≡ chain_of (length heads) x → b < length heads → from_place ds x 0 ≡ from_place ds x (get_or heads b 0)
  from_head x b is low =
      let h = get_or heads b 0 in
      passed ds x h 0 h (omega arith) (λ q u v w e. t.before b q low (omega arith) v w (ap (λ (y : Name). chain_of (length heads) y) e ∙ sym is))

  pub from_next : (x : Name) (p : ℕ) → p < length ds → chain_of (length heads) (name_at ds p) ≡ chain_of (length heads) x → from_place ds x (suc p) ≡ from_place ds x (get_or nexts p 0)
  from_next x p low e =
      let n = get_or nexts p 0 in
      let up : p < n = t.later p (omega arith) low in
      passed ds x (n - suc p) (suc p) n (omega arith) (λ q a b c is. t.between p q (omega arith) (omega arith) b c (ap (λ (y : Name). chain_of (length heads) y) is ∙ sym e))

  pub to_next : (x : Name) (p : ℕ) → p < length ds → chain_of (length heads) (name_at ds p) ≡ chain_of (length heads) x → (name_at ds p ≡ x → ⊥) → from_place ds x p ≡ from_place ds x (get_or nexts p 0)
  to_next x p low e other = passed_at ds x p (inl low) (λ l. other) ∙ from_next x p low e

-- no place is on a chain yet
pub none_chained : (ds : List Declaration) (count : ℕ) → 0 < count → IsChained (length ds) ds (replicate count (length ds)) (replicate (length ds) (length ds))
none_chained ds count some =
    let n : ℕ = length ds in
    let len : length (replicate count n) ≡ count = length-replicate count n in
    let all : (b : ℕ) → b < length (replicate count n) → get_or (replicate count n) b 0 ≡ n = λ b low. get_or-replicate count b n 0 (omega arith) in
    record {
      some = omega arith;
      len = length-replicate n n;
      above = λ b low. let e = all b low in omega arith;
      head = λ b low h. let e = all b low in absurd (omega arith);
      before = λ b q low h u v. absurd (omega arith);
      later = λ p h low. absurd (omega arith);
      next = λ p h low v. absurd (omega arith);
      between = λ p q h u v w. absurd (omega arith);
    }

-- one more place is the head of its chain
module _ (ds : List Declaration) (heads nexts : List ℕ) (place chain : ℕ) (t : IsChained (suc place) ds heads nexts) (low : place < length ds) (within : chain < length heads)
    (on : chain_of (length heads) (name_at ds place) ≡ chain) where
  abbrev old_head : ℕ
  old_head = get_or heads chain 0

  abbrev new_heads : List ℕ
  new_heads = slice_set heads chain place

  abbrev new_nexts : List ℕ
  new_nexts = slice_set nexts place old_head

  abbrev c_of : ℕ → ℕ
  c_of p = chain_of (length heads) (name_at ds p)

  head_here : (b : ℕ) → b ≡ chain → get_or new_heads b 0 ≡ place
  head_here b e = ap (λ k. get_or new_heads k 0) e ∙ get_or-set_same heads chain place 0 within

  head_there : (b : ℕ) → (b ≡ chain → ⊥) → get_or new_heads b 0 ≡ get_or heads b 0
  head_there b ne = get_or-set_other heads chain b place 0 ne

  next_here : (p : ℕ) → p ≡ place → get_or new_nexts p 0 ≡ old_head
  next_here p e = ap (λ k. get_or new_nexts k 0) e ∙ get_or-set_same nexts place old_head 0 (let l = t.len in omega arith)

  next_there : (p : ℕ) → (p ≡ place → ⊥) → get_or new_nexts p 0 ≡ get_or nexts p 0
  next_there p ne = get_or-set_other nexts place p old_head 0 ne

  above_of : (b : ℕ) → (b ≡ chain) ⊎ (b ≡ chain → ⊥) → b < length heads → place ≤ get_or new_heads b 0
  above_of b (inl e) h = let s = head_here b e in omega arith
  above_of b (inr ne) h = let s = head_there b ne in let a = t.above b h in omega arith

  head_of : (b : ℕ) → (b ≡ chain) ⊎ (b ≡ chain → ⊥) → b < length heads → get_or new_heads b 0 < length ds → c_of (get_or new_heads b 0) ≡ b
  head_of b (inl e) h v = ap c_of (head_here b e) ∙ on ∙ sym e
  head_of b (inr ne) h v = let s = head_there b ne in ap c_of s ∙ t.head b h (subst (λ k. k < length ds) s v)

  before_of : (b q : ℕ) → (b ≡ chain) ⊎ (b ≡ chain → ⊥) → (q ≡ place) ⊎ (q ≡ place → ⊥) → b < length heads → place ≤ q → q < get_or new_heads b 0 → q < length ds → c_of q ≡ b → ⊥
  before_of b q (inl e) w h l u v is = let s = head_here b e in absurd (omega arith)
  before_of b q (inr ne) (inl e) h l u v is = ne (sym is ∙ ap c_of e ∙ on)
  before_of b q (inr ne) (inr nq) h l u v is = let s = head_there b ne in t.before b q h (omega arith) (omega arith) v is

  later_of : (p : ℕ) → (p ≡ place) ⊎ (p ≡ place → ⊥) → place ≤ p → p < length ds → p < get_or new_nexts p 0
  later_of p (inl e) l v = let s = next_here p e in let a = t.above chain within in omega arith
  later_of p (inr ne) l v = let s = next_there p ne in let a = t.later p (omega arith) v in omega arith

  next_of : (p : ℕ) → (p ≡ place) ⊎ (p ≡ place → ⊥) → place ≤ p → p < length ds → get_or new_nexts p 0 < length ds → c_of (get_or new_nexts p 0) ≡ c_of p
  next_of p (inl e) l v w = let s = next_here p e in ap c_of s ∙ t.head chain within (subst (λ k. k < length ds) s w) ∙ sym on ∙ ap c_of (sym e)
  next_of p (inr ne) l v w = let s = next_there p ne in ap c_of s ∙ t.next p (omega arith) v (subst (λ k. k < length ds) s w)

  between_of : (p q : ℕ) → (p ≡ place) ⊎ (p ≡ place → ⊥) → place ≤ p → p < q → q < get_or new_nexts p 0 → q < length ds → c_of q ≡ c_of p → ⊥
  between_of p q (inl e) l u v w is = let s = next_here p e in t.before chain q within (omega arith) (omega arith) w (is ∙ ap c_of e ∙ on)
  between_of p q (inr ne) l u v w is = let s = next_there p ne in t.between p q (omega arith) u (omega arith) w is

  same_len : length new_heads ≡ length heads
  same_len = length-set heads chain place

  pub linked : IsChained place ds new_heads new_nexts
  linked =
      let e = same_len in
      record {
        some = (let s = t.some in omega arith);
        len = length-set nexts place old_head ∙ t.len;
        above = λ b h. above_of b (cases_eq b chain) (omega arith);
        head = λ b h v. ap (λ n. chain_of n (name_at ds (get_or new_heads b 0))) e ∙ head_of b (cases_eq b chain) (omega arith) v;
        before = λ b q h l u v is. before_of b q (cases_eq b chain) (cases_eq q place) (omega arith) l u v (sym (ap (λ n. chain_of n (name_at ds q)) e) ∙ is);
        later = λ p l v. later_of p (cases_eq p place) l v;
        next = λ p l v w. ap (λ n. chain_of n (name_at ds (get_or new_nexts p 0))) e ∙ next_of p (cases_eq p place) l v w ∙ sym (ap (λ n. chain_of n (name_at ds p)) e);
        between = λ p q l u v w is. between_of p q (cases_eq p place) l u v w (sym (ap (λ n. chain_of n (name_at ds q)) e) ∙ is ∙ ap (λ n. chain_of n (name_at ds p)) e);
      }

place_here : (start : ℕ) (d : Declaration) (ds : List Declaration) (x : Name) (p : ℕ) (again b : Bool) → bytes_eq d.name x ≡ b
    → (places_from (suc start) (map declaration_name ds) x ≡ Some (p, again) → (suc start ≤ p) × (name_at ds (p - suc start) ≡ x))
    → cond b (Some (start, is_some (places_from (suc start) (map declaration_name ds) d.name))) (places_from (suc start) (map declaration_name ds) x) ≡ Some (p, again) → (start ≤ p) × (name_at (d ∷ ds) (p - start) ≡ x)
place_here start d ds x p again true e ih h =
    let at : start ≡ p = ap (λ (o : Option (ℕ × Bool)). (unwrap_or o (0, false)).0) h in
    let z : p - start ≡ 0 = omega arith in
    (omega arith, ap (λ k. name_at (d ∷ ds) k) z ∙ (bytes_decides d.name x).0 e)
place_here start d ds x p again false e ih h =
    let r = ih h in
    let up : suc start ≤ p = r.0 in
    let z : p - start ≡ suc (p - suc start) = omega arith in
    (omega arith, ap (λ k. name_at (d ∷ ds) k) z ∙ r.1)

pub place_of : (start : ℕ) (ds : List Declaration) (x : Name) (p : ℕ) (again : Bool) → places_from start (map declaration_name ds) x ≡ Some (p, again) → (start ≤ p) × (name_at ds (p - start) ≡ x)
place_of start [] x p again e = cc
place_of start (d ∷ ds) x p again e = place_here start d ds x p again (bytes_eq d.name x) refl (λ h. place_of (suc start) ds x p again h) e

-- the first place has the name
pub named_at : (ds : List Declaration) (x : Name) (p : ℕ) (again : Bool) → places_from 0 (map declaration_name ds) x ≡ Some (p, again) → name_at ds p ≡ x
named_at ds x p again e = let z : p ≡ p - 0 = omega arith in ap (λ k. name_at ds k) z ∙ (place_of 0 ds x p again e).1

rest_none : (b : Bool) (o : ℕ × Bool) (rest : Option (ℕ × Bool)) → cond b (Some o) rest ≡ None → rest ≡ None
rest_none true o rest e = cc
rest_none false o rest e = e

none_next : (ds : List Declaration) (x : Name) (p : ℕ) → (p < length ds) ⊎ (length ds ≤ p) → from_place ds x p ≡ None → from_place ds x (suc p) ≡ None
none_next ds x p (inl low) e = rest_none (bytes_eq (name_at ds p) x) (p, is_some (from_place ds (name_at ds p) (suc p))) (from_place ds x (suc p)) (sym (opened ds x p low) ∙ e)
none_next ds x p (inr high) e = ended ds x (suc p) (omega arith)

none_up : (ds : List Declaration) (x : Name) (p : ℕ) → from_place ds x 0 ≡ None → from_place ds x p ≡ None
none_up ds x zero e = e
none_up ds x (suc p) e = none_next ds x p (cases_lt p (length ds)) (none_up ds x p e)

-- what is declared has a first place
pub not_none : (ds : List Declaration) (x : Name) (i : ℕ) → i < length ds → name_at ds i ≡ x → places_from 0 (map declaration_name ds) x ≡ None → ⊥
not_none ds x i low e none = let a = none_up ds x i none in let b = some_at ds x i low e in cc
