-- What asks a memory for a cell is no answer of a memory.
use Rattle.std.proofs.Common.{◌≡◌, ℕ, zero, suc, ◌-◌, Bool, true, false, cond, ◌&&◌, [], ◌∷◌, ◌++◌, Option, Some, None, inl, inr, refl, ap, subst, arith, length, length-drop, length-append, drop, get_or}
use Rattle.std.specs.Prelude.{bytes_eq, codes}
use Rattle.std.specs.Cmp.Lexicographic.{bytes_decides}
use Rattle.tapa_base.specs.Lists.{Has}
use Rattle.vlog_tree.specs.Table.{Name}
use Rattle.vlog_tree.specs.Labels.{label_in, rdata_of, m_addr, read_of, address_of}

not_both : (a c b : Bool) (o : Option Name) → (b ≡ true → ⊥) → cond a (cond (c && b) o None) None ≡ None
not_both true true true o h = absurd (h refl)
not_both true true false o h = refl
not_both true false b o h = refl
not_both false c b o h = refl

-- a text without this end has no label before it
pub no_label : (front end x : Name) → ((n : ℕ) → drop n (drop (length front) x) ≡ end → ⊥) → label_in front end x ≡ None
unfolding label_in
no_label front end x h =
    not_both _ _ (bytes_eq (drop (length (drop (length front) x) - length end) (drop (length front) x)) end) _
    (λ e. h (length (drop (length front) x) - length end) ((bytes_decides _ end).0 e))

other_end : (x : Name) (n : ℕ) → drop n (x ++ codes "_addr") ≡ codes "_rdata" → ⊥
other_end [] n e = let few : length (drop n (codes "_addr")) ≡ 6 = ap length e in omega (arith, length-drop n (codes "_addr"))
other_end (c ∷ []) zero e = let clash : ◌≡◌ {A = ℕ} 95 114 = ap (λ (l : Name). get_or l 1 0) e in omega arith
other_end (c ∷ d ∷ x) zero e = let many : length (c ∷ d ∷ (x ++ codes "_addr")) ≡ 6 = ap length e in omega (arith, length-append x (codes "_addr"))
other_end (c ∷ x) (suc n) e = other_end x n e

pub address_is_no_answer : (x : Name) → address_of (m_addr x) ≡ []
unfolding rdata_of m_addr
address_is_no_answer x = ap read_of (no_label (codes "m_") (codes "_rdata") (codes "m_" ++ (x ++ codes "_addr")) (λ n e. other_end x n e))

asked_of : (o : Option Name) (a : Name) → Has (read_of o) a → address_of a ≡ []
asked_of None a h = absurd h
asked_of (Some x) a (inl e) = subst (λ z. address_of z ≡ []) e (address_is_no_answer x)
asked_of (Some x) a (inr h) = absurd h

pub address_asks_nothing : (x a : Name) → Has (address_of x) a → address_of a ≡ []
address_asks_nothing x a h = asked_of (rdata_of x) a h
