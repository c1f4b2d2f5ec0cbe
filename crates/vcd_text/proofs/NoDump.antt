-- Where a text is no dump, once.
use Rattle.vcd_text.proofs.Sequences.{head_tail}
use Rattle.std.proofs.Common.{◌≡◌, ℕ, suc, ◌+◌, ◌-◌, ◌<◌, ◌≤◌, [], ◌∷◌, ◌++◌, length, map, take, drop, inl, inr, refl, sym, ap, subst, ◌∙◌, append_assoc, arith}
use Rattle.std.proofs.lemmas.List.{append-nil, length-append, take-append-drop, length-take-le, nil_from_length}
use Rattle.tapa_base.specs.declared.text.Place.{Place}
use Rattle.tapa_base.specs.Gaps.{Bytes}
use Rattle.tapa_syntax.specs.Characters.{place_of}
use Rattle.vcd_text.specs.Along.{common}
use Rattle.vcd_text.specs.Dump.{IsDump, BeginsDump, StopsAt, IsNoDumpAt}
use Rattle.vcd_text.specs.Read.{port_of, changes_to}
use Rattle.vcd_text.specs.Rest.{Answer, IsRead, Fails, FailsBefore}
use Rattle.vcd_text.proofs.Common.{common_same, common_behind, common_take, less}

dump_of : (a : Answer) (z : Bytes) → IsRead a z → IsDump z
dump_of a z r = record { top = r.top; nets = r.nets; values = r.values; last = a.last; dump = r.dump }

read_of : (z : Bytes) → IsDump z → (a : Answer) × IsRead a z
read_of z d = (
  record { ports = map port_of d.nets; last = d.last; changes = changes_to d.nets d.values d.last },
  record { top = d.top; nets = d.nets; values = d.values; dump = d.dump; are_ports = refl; are_changes = refl },
)

stops_there : (z : Bytes) (n : ℕ) → n ≤ length z → Fails IsRead z n → (behind : Bytes) → drop n z ≡ behind → StopsAt (take n z) behind
stops_there z n h f [] e = λ d.
    let whole : take n z ≡ z = sym (append-nil (take n z)) ∙ ap (λ (l : Bytes). take n z ++ l) (sym e) ∙ take-append-drop n z in
    let r : (a : Answer) × IsRead a z = read_of z (subst IsDump whole d) in
    f.none r.0 r.1
stops_there z n h f (b ∷ behind) e = λ s.
    let r : (a : Answer) × IsRead a ((take n z ++ b ∷ []) ++ s.0) = read_of ((take n z ++ b ∷ []) ++ s.0) s.1 in
    let all : z ≡ take n z ++ b ∷ behind = sym (take-append-drop n z) ∙ ap (λ (l : Bytes). take n z ++ l) e in
    let far : common ((take n z ++ b ∷ []) ++ s.0) z ≡ length (take n z) + suc (common s.0 behind) =
    ap (λ (l : Bytes). common ((take n z ++ b ∷ []) ++ s.0) l) all ∙ ap (λ (l : Bytes). common l (take n z ++ b ∷ behind)) (append_assoc (take n z) (b ∷ []) s.0) ∙ common_behind (take n z) (b ∷ s.0) (b ∷ behind)
    ∙ ap (λ (k : ℕ). length (take n z) + k) (common_same b s.0 behind) in
    absurd (omega (arith, far, f.most r.0 ((take n z ++ b ∷ []) ++ s.0) r.1, length-take-le n z h))

pub no_dump : (z : Bytes) (left : ℕ) → FailsBefore IsRead z left → IsNoDumpAt z (place_of (take (length z - left) z))
no_dump z left (n, is, f) =
    let here : length z - left ≡ n = omega (arith, is) in
    record {
      before = take n z;
      behind = drop n z;
      is = take-append-drop n z;
      begun = (drop n f.text, subst IsDump (common_take n f.text z f.along) (dump_of f.answer f.text f.is_text));
      stops = stops_there z n (omega (arith, is)) f (drop n z) refl;
      at = ap (λ (k : ℕ). place_of (take k z)) here;
    }

pub is_no_dump : (z : Bytes) (left : ℕ) → FailsBefore IsRead z left → IsDump z → ⊥
is_no_dump z left (n, is, f) d = let r : (a : Answer) × IsRead a z = read_of z d in f.none r.0 r.1

-- ---- laws

pub dump_or_none : (z : Bytes) (place : Place) → IsDump z → IsNoDumpAt z place → ⊥
dump_or_none z place d no_place = never no_place.before no_place.behind no_place.is no_place.stops
  where
    never : (before behind : Bytes) → before ++ behind ≡ z → StopsAt before behind → ⊥
    never before [] e s = s (subst IsDump (sym e ∙ append-nil before) d)
    never before (b ∷ behind) e s = s (behind, subst IsDump (sym e ∙ sym (append_assoc before (b ∷ []) behind)) d)

fronts : (a b c d : Bytes) → a ++ b ≡ c ++ d → length a ≤ length c → (x : Bytes) × (c ≡ a ++ x) × (b ≡ x ++ d)
fronts [] b c d e h = (c, refl, e)
fronts (x ∷ a) b [] d e h = absurd (omega arith)
fronts (x ∷ a) b (y ∷ c) d e h = let p : (z : Bytes) × (c ≡ a ++ z) × (b ≡ z ++ d) = fronts a b c d (head_tail x y (a ++ b) (c ++ d) e).1 (omega arith) in (p.0, ap (λ (k : ℕ). k ∷ c) (sym (head_tail x y (a ++ b) (c ++ d) e).0) ∙ ap (λ (l : Bytes). x ∷ l) p.1, p.2)

-- a text doesn't stop behind a front where some dump begins with a longer one
longer_begun : (a b c d x : Bytes) → length a < length c → BeginsDump c → StopsAt a b → c ≡ a ++ x → b ≡ x ++ d → ⊥
longer_begun a b c d [] h begun s e f = absurd (omega (arith, h, ap (λ (l : Bytes). length l) e, length-append a []))
longer_begun a b c d (k ∷ x) h (rest, dump) s e f =
    subst (λ (l : Bytes). StopsAt a l) f s (x ++ rest, subst IsDump (ap (λ (l : Bytes). l ++ rest) e ∙ append_assoc a (k ∷ x) rest ∙ sym (append_assoc a (k ∷ []) (x ++ rest))) dump)

no_longer : (z : Bytes) (place there : Place) (p : IsNoDumpAt z place) (q : IsNoDumpAt z there) → length p.before < length q.before → ⊥
no_longer z place there p q h =
    let f : (x : Bytes) × (q.before ≡ p.before ++ x) × (p.behind ≡ x ++ q.behind) = fronts p.before p.behind q.before q.behind (p.is ∙ sym q.is) (omega (arith, h)) in
    longer_begun p.before p.behind q.before q.behind f.0 h q.begun p.stops f.1 f.2

pub none_once : (z : Bytes) (place there : Place) → IsNoDumpAt z place → IsNoDumpAt z there → place ≡ there
none_once z place there p q = elim (less (length p.before) (length q.before)) [
  | inl t ↦ absurd (no_longer z place there p q t.1)
  | inr t ↦ elim (less (length q.before) (length p.before)) [
    | inl s ↦ absurd (no_longer z there place q p s.1)
    | inr s ↦
        let f : (x : Bytes) × (q.before ≡ p.before ++ x) × (p.behind ≡ x ++ q.behind) = fronts p.before p.behind q.before q.behind (p.is ∙ sym q.is) (omega (arith, s.1)) in
        let none : f.0 ≡ [] = nil_from_length f.0 (omega (arith, t.1, ap (λ (l : Bytes). length l) f.1, length-append p.before f.0)) in
        p.at ∙ ap place_of (sym (f.1 ∙ ap (λ (l : Bytes). p.before ++ l) none ∙ append-nil p.before)) ∙ sym q.at
  ]
]
