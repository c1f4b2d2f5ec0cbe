-- Names with the labels of ports.
use Rattle.std.proofs.Common.{◌≡◌, ℕ, zero, suc, ◌<◌, Bool, true, false, cond, ◌&&◌, [], ◌∷◌, ◌++◌, Option, Some, None, refl, sym, ap, ◌∙◌, arith, length, length-drop, length-append, take, drop, get_or}
use Rattle.std.specs.Prelude.{bytes_eq, codes}
use Rattle.std.proofs.lemmas.List.{append-nil}
use Rattle.vlog_tree.specs.Table.{Name}
use Rattle.vlog_tree.specs.Labels.{label_in, scalar, m_ack, m_rdata, rst, scalar_of, ack_of, rdata_of}
use Rattle.vlog_tree.proofs.Labelled.{labelled, label_of}
use Rattle.vlog_run_laws.proofs.runs.Addresses.{no_label}

not_front : (a b : Bool) (o : Option Name) → b ≡ false → cond (a && b) o None ≡ None
not_front true b o e = ap (λ b. cond b o None) e
not_front false b o e = refl

pub ack_is_no_scalar : (x : Name) → scalar_of (m_ack x) ≡ None
unfolding scalar_of m_ack label_in
ack_is_no_scalar x = not_front _ (bytes_eq (take 2 (m_ack x)) (codes "v_")) _ refl

pub rdata_is_no_scalar : (x : Name) → scalar_of (m_rdata x) ≡ None
unfolding scalar_of m_rdata label_in
rdata_is_no_scalar x = not_front _ (bytes_eq (take 2 (m_rdata x)) (codes "v_")) _ refl

data_end : (x : Name) (n : ℕ) → drop n (x ++ codes "_rdata") ≡ codes "_ack" → ⊥
data_end [] zero e = let few : length (codes "_rdata") ≡ 4 = ap length e in omega arith
data_end [] (suc zero) e = let few : length (codes "rdata") ≡ 4 = ap length e in omega arith
data_end [] (suc (suc zero)) e = let clash : ◌≡◌ {A = ℕ} 100 95 = ap (λ (l : Name). get_or l 0 0) e in omega arith
data_end [] (suc (suc (suc n))) e = let few : length (drop n (codes "ata")) ≡ 4 = ap length e in omega (arith, length-drop n (codes "ata"))
data_end (c ∷ x) zero e = let many : length (c ∷ (x ++ codes "_rdata")) ≡ 4 = ap length e in omega (arith, length-append x (codes "_rdata"))
data_end (c ∷ x) (suc n) e = data_end x n e

pub rdata_is_no_ack : (x : Name) → ack_of (m_rdata x) ≡ None
unfolding ack_of m_rdata
rdata_is_no_ack x = no_label (codes "m_") (codes "_ack") (codes "m_" ++ (x ++ codes "_rdata")) (λ n e. data_end x n e)

pub scalar_is_no_reset : (x : Name) → bytes_eq (scalar x) rst ≡ false
unfolding scalar rst
scalar_is_no_reset x = refl

pub ack_is_no_reset : (x : Name) → bytes_eq (m_ack x) rst ≡ false
unfolding m_ack rst
ack_is_no_reset x = refl

pub rdata_is_no_reset : (x : Name) → bytes_eq (m_rdata x) rst ≡ false
unfolding m_rdata rst
rdata_is_no_reset x = refl

pub scalar_label : (x l : Name) → scalar_of x ≡ Some l → (x ≡ scalar l) × (scalar_of (scalar l) ≡ Some l)
unfolding scalar_of scalar
scalar_label x l h =
    let r = labelled (codes "v_") [] x l h in
    let is : x ≡ codes "v_" ++ l = r.is ∙ ap (λ z. codes "v_" ++ z) (append-nil l) in
    (is, ap (label_in (codes "v_") []) (sym is) ∙ h)

pub ack_label : (x l : Name) → ack_of x ≡ Some l → (x ≡ m_ack l) × (0 < length l)
unfolding ack_of m_ack
ack_label x l h = let r = labelled (codes "m_") (codes "_ack") x l h in (r.is, r.some)

pub rdata_label : (x l : Name) → rdata_of x ≡ Some l → (x ≡ m_rdata l) × (0 < length l)
unfolding rdata_of m_rdata
rdata_label x l h = let r = labelled (codes "m_") (codes "_rdata") x l h in (r.is, r.some)

pub ack_of_label : (l : Name) → 0 < length l → ack_of (m_ack l) ≡ Some l
unfolding ack_of m_ack
ack_of_label l h = label_of (codes "m_") (codes "_ack") l h

pub rdata_of_label : (l : Name) → 0 < length l → rdata_of (m_rdata l) ≡ Some l
unfolding rdata_of m_rdata
rdata_of_label l h = label_of (codes "m_") (codes "_rdata") l h
