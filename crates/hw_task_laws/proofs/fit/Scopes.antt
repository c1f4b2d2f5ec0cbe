-- What stands among elements, and the widths of kinds.
use Rattle.std.proofs.Common.{◌≡◌, ℕ, suc, ◌+◌, ◌-◌, ◌<◌, ◌≤◌, true, List, [], ◌∷◌, ◌++◌, length, inl, inr, refl, ap, subst, arith, le-leb, ⊎_elim}
use Rattle.std.specs.Prelude.{nat_le, IsTrue}
use Rattle.tapa_base.specs.declared.kind.Kind.{Kind}
use Rattle.tapa_base.specs.declared.kind.Kind.TheVariants as kind
use Rattle.tapa_base.specs.Kinds.{bits_of, is_signed}
use Rattle.vlog_tree.specs.declared.tree.Atom.{Atom}
use Rattle.vlog_tree.specs.declared.tree.Atom.TheVariants.{Net, Part, Literal}
use Rattle.vlog_tree.specs.declared.tree.Value.{Value}
use Rattle.tapa_base.specs.Lists.{Has}
use Rattle.vlog_tree.specs.Table.{Name}
use Rattle.vlog_tree.specs.V3.{is_width}
use Rattle.tapa_base.proofs.Lists.{has_left, has_right, has_split, has_flat, of_flat}
use Rattle.hw_build.specs.Elements.{Element, Input, Wire, Register, Memory}
use Rattle.hw_build.specs.Trees.{numbered}
use Rattle.std.proofs.lemmas.Bool.{and_from as yes_and}
use Rattle.hw_build.specs.Scope.{readable, register_of, memory_of, IsNet, IsRegister, IsMemory, AtomIs, FitInOrder}
use Rattle.hw_build.specs.Fits.{IsAmong}
use Rattle.hw_build.specs.Choices.{Entry, row_of, any_driver, any_elements, pick_driver, pick_elements, choice}
use Rattle.hw_build.proofs.Parts.{in_order_more}

-- ---- among elements

pub left_among : (xs ys : List Element) → IsAmong xs (xs ++ ys)
left_among xs ys e h = has_left xs ys e h

pub right_among : (xs ys : List Element) → IsAmong ys (xs ++ ys)
right_among xs ys e h = has_right xs ys e h

pub both_among : (xs ys zs : List Element) → IsAmong xs zs → IsAmong ys zs → IsAmong (xs ++ ys) zs
both_among xs ys zs h k e i = ⊎_elim (λ l. h e l) (λ r. k e r) (has_split xs ys e i)

pub among_more : (xs ys zs : List Element) → IsAmong xs ys → IsAmong xs (ys ++ zs)
among_more xs ys zs h e i = has_left ys zs e (h e i)

pub net_of : (before : List Element) (e : Element) (x : Name) (w : ℕ) → Has before e → Has {N = Name × ℕ} (readable e) (x, w) → IsNet before x w
net_of before e x w h k = inr (has_flat readable before e (x, w) h k)

pub wire_net : (before : List Element) (w : ℕ) (x : Name) (v : Value) → Has before (Wire w x v) → IsNet before x w
wire_net before w x v h = net_of before (Wire w x v) x w h (inl refl)

pub input_net : (before : List Element) (w : ℕ) (x : Name) → Has before (Input w x) → IsNet before x w
input_net before w x h = net_of before (Input w x) x w h (inl refl)

pub register_net : (before : List Element) (w : ℕ) (x : Name) → Has before (Register w x) → IsNet before x w
register_net before w x h = net_of before (Register w x) x w h (inl refl)

pub register_there : (before : List Element) (w : ℕ) (x : Name) → Has before (Register w x) → IsRegister before x w
register_there before w x h = has_flat register_of before (Register w x) (x, w) h (inl refl)

pub memory_there : (before : List Element) (w : ℕ) (x : Name) (n : ℕ) → Has before (Memory w x n) → IsMemory before x w
memory_there before w x n h = has_flat memory_of before (Memory w x n) (x, w) h (inl refl)

pub net_in : (some all : List Element) → IsAmong some all → (x : Name) (w : ℕ) → IsNet some x w → IsNet all x w
net_in some all among x w (inl e) = inl e
net_in some all among x w (inr h) = let r = of_flat readable some (x, w) h in inr (has_flat readable all r.0 (x, w) (among r.0 r.1) r.2)

pub atom_in : (some all : List Element) → IsAmong some all → (w : ℕ) (a : Atom) → AtomIs some w a → AtomIs all w a
atom_in some all among w (Net x) h = net_in some all among x w h
atom_in some all among w (Part x high low) h = (h.0, net_in some all among x h.0 h.1, h.2, h.3, h.4, h.5)
atom_in some all among w (Literal v n) h = h

pub fit_behind : (before more es : List Element) → FitInOrder before es → FitInOrder (before ++ more) es
fit_behind before more es h = in_order_more before (before ++ more) (left_among before more) es h

-- ---- widths

pub wide : (n : ℕ) → 1 ≤ n → n ≤ 128 → IsTrue (is_width n)
wide n a b = yes_and (nat_le 1 n) (nat_le n 128) (le-leb 1 n a) (le-leb n 128 b)

pub kind_wide : (k : Kind) → IsTrue (is_width (bits_of k))
kind_wide kind.Bool = refl
kind_wide _ = refl

pub token_wide : (k : Kind) → IsTrue (is_width (bits_of k + 1))
token_wide kind.Bool = refl
token_wide _ = refl

pub signed_bits : (k : Kind) → is_signed k ≡ true → 2 ≤ bits_of k
signed_bits kind.Bool e = cc
signed_bits _ e = omega arith

-- ---- the net with a choice's result

row_has : (w : ℕ) (front : Name) (driver : ℕ → Entry → Value) (j : ℕ) (d : Entry) (entries : List Entry) → (v : Value) × Has (row_of w front driver j (d ∷ entries)) (Wire w (numbered front (j + length entries)) v)
row_has w front driver j d [] = let e : j ≡ j + 0 = omega arith in (driver j d, inl (ap (λ i. Wire w (numbered front i) (driver j d)) e))
row_has w front driver j d (c ∷ entries) =
    let r = row_has w front driver (suc j) c entries in
    let e : suc j + length entries ≡ j + suc (length entries) = omega arith in
    (r.0, inr (subst (λ i. Has (row_of w front driver (suc j) (c ∷ entries)) (Wire w (numbered front i) r.0)) e r.1))

row_root : (before : List Element) (w : ℕ) (front : Name) (driver : ℕ → Entry → Value) (entries : List Entry) → 0 < length entries → IsAmong (row_of w front driver 0 entries) before → IsNet before (choice front entries) w
row_root before w front driver [] h among = absurd (omega (arith, h))
row_root before w front driver (d ∷ entries) h among =
    let r = row_has w front driver 0 d entries in
    let e : 0 + length entries ≡ suc (length entries) - 1 = omega arith in
    subst (λ i. IsNet before (numbered front i) w) e (wire_net before w (numbered front (0 + length entries)) r.0 (among _ r.1))

pub any_root : (before : List Element) (front : Name) (entries : List Entry) → 0 < length entries → IsAmong (any_elements front entries) before → IsNet before (choice front entries) 1
any_root before front entries h among = row_root before 1 front (any_driver front) entries h among

pub pick_root : (before : List Element) (w : ℕ) (front : Name) (entries : List Entry) → 0 < length entries → IsAmong (pick_elements w front entries) before → IsNet before (choice front entries) w
pick_root before w front entries h among = row_root before w front (pick_driver front) entries h among
