-- Lists that give a value for each label.
use Rattle.std.proofs.Common.{◌≡◌, ℕ, zero, suc, get_or, Some, ◌<◌, Bool, true, false, cond, List, [], ◌∷◌, ◌++◌, inl, inr, refl, sym, ap, subst, ◌∙◌, arith}
use Rattle.std.specs.Prelude.{◌⊎◌, bytes_eq, count_by, slice_get, if◌then◌else◌}
use Rattle.std.specs.List.{flat_map}
use Rattle.std.specs.Cmp.Lexicographic.{bytes_decides}
use Rattle.tapa_base.specs.declared.shape.Port.{Port}
use Rattle.vlog_tree.specs.declared.tree.PortDecl.{PortDecl}
use Rattle.tapa_base.specs.Lists.{Has}
use Rattle.vlog_tree.specs.Table.{Name}
use Rattle.tapa_base.proofs.Lists.{of_flat, has_got}
use Rattle.vlog_run_laws.proofs.runs.Alone.{same_name, count_cons, twice_counted}
use Rattle.tapa_base.proofs.Tests.{true_not_false}

-- the place of the first label of this name
abbrev pub place : List Port → Name → ℕ
place [] x = 0
place (l ∷ ls) x = if bytes_eq l.name x then 0 else suc (place ls x)

-- the value that stands there
abbrev pub lookup : {A : Type 0} → A → List Port → List A → Name → A
lookup d ls vs x = get_or vs (place ls x) d

abbrev pub AreDistinct : List Port → Type 0
AreDistinct [] = Unit {0}
AreDistinct (l ∷ ls) = ((k : Port) → Has ls k → l.name ≡ k.name → ⊥) × AreDistinct ls

other_name : (x y : Name) (b : Bool) → bytes_eq x y ≡ b → (x ≡ y → ⊥) → b ≡ false
other_name x y true e f = absurd (f ((bytes_decides x y).0 e))
other_name x y false e f = refl

-- distinct labels are found where they stand
pub place_got : (ls : List Port) → AreDistinct ls → (i : ℕ) (l : Port) → slice_get ls i ≡ Some l → place ls l.name ≡ i
place_got [] d i l e = cc
place_got (k ∷ ls) d zero l e = let same : k ≡ l = cc in ap (λ b. cond b 0 (suc (place ls l.name))) (ap (λ (z : Port). bytes_eq z.name l.name) same ∙ same_name l.name)
place_got (k ∷ ls) d (suc i) l e = ap (λ b. cond b 0 (suc (place ls l.name))) (other_name k.name l.name (bytes_eq k.name l.name) refl (d.0 l (has_got ls i l e))) ∙ ap suc (place_got ls d.1 i l e)

got_step : (l : Port) (ls : List Port) (x : Name) (b : Bool) → bytes_eq l.name x ≡ b → ((k : Port) → Has ls k → k.name ≡ x → (z : Port) × (slice_get ls (place ls x) ≡ Some z) × (z.name ≡ x))
    → (k : Port) → Has (l ∷ ls) k → k.name ≡ x → (z : Port) × (slice_get (l ∷ ls) (cond b 0 (suc (place ls x))) ≡ Some z) × (z.name ≡ x)
got_step l ls x true e f k h same = (l, refl, (bytes_decides l.name x).0 e)
got_step l ls x false e f k (inl p) same = absurd (true_not_false (sym ((bytes_decides l.name x).1 (ap (λ (q : Port). q.name) p ∙ same)) ∙ e))
got_step l ls x false e f k (inr h) same = f k h same

-- the label that stands where a name is found
pub got_place : (ls : List Port) (x : Name) (k : Port) → Has ls k → k.name ≡ x → (z : Port) × (slice_get ls (place ls x) ≡ Some z) × (z.name ≡ x)
got_place [] x k h same = absurd h
got_place (l ∷ ls) x k h same = got_step l ls x (bytes_eq l.name x) refl (got_place ls x) k h same

abbrev pub ArePortsDistinct : List PortDecl → Type 0
ArePortsDistinct [] = Unit {0}
ArePortsDistinct (p ∷ ps) = ((q : PortDecl) → Has ps q → p.name ≡ q.name → ⊥) × ArePortsDistinct ps

pub ports_distinct : (ps : List PortDecl) → ((p : PortDecl) → Has ps p → count_by (λ (q : PortDecl). bytes_eq q.name p.name) ps < 2) → ArePortsDistinct ps
ports_distinct [] f = tt
ports_distinct (p ∷ ps) f = (
  λ q h e. twice_counted (λ (q : PortDecl). bytes_eq q.name p.name) p ps q (same_name p.name) h ((bytes_decides q.name p.name).1 (sym e)) (f p (inl refl)),
  ports_distinct ps
      (λ q h.
      let c : count_by (λ (r : PortDecl). bytes_eq r.name q.name) (p ∷ ps) ≡ _ = count_cons (λ (r : PortDecl). bytes_eq r.name q.name) p ps in
      let low : count_by (λ (r : PortDecl). bytes_eq r.name q.name) (p ∷ ps) < 2 = f q (inr h) in
      omega arith),
)

module _ (g : PortDecl → List Port) (full : Name → Name) (single : (p : PortDecl) → (g p ≡ []) ⊎ ((l : Port) × (g p ≡ l ∷ []))) (named : (p : PortDecl) (l : Port) → Has (g p) l → full l.name ≡ p.name) where
  label_step : (p : PortDecl) (ps : List PortDecl) → ((q : PortDecl) → Has ps q → p.name ≡ q.name → ⊥) → AreDistinct (flat_map g ps) → (g p ≡ []) ⊎ ((l : Port) × (g p ≡ l ∷ [])) → AreDistinct (g p ++ flat_map g ps)
  label_step p ps f i (inl e) = subst (λ z. AreDistinct (z ++ flat_map g ps)) (sym e) i
  label_step p ps f i (inr t) =
      subst (λ z. AreDistinct (z ++ flat_map g ps)) (sym t.1) (
        λ k h same.
            let q = of_flat g ps k h in
            f q.0 q.1 (sym (named p t.0 (subst (λ z. Has z t.0) (sym t.1) (inl refl))) ∙ ap full same ∙ named q.0 k q.2),
        i,
      )

  -- labels of distinct ports are distinct
  pub labels_distinct : (ps : List PortDecl) → ArePortsDistinct ps → AreDistinct (flat_map g ps)
  labels_distinct [] i = tt
  labels_distinct (p ∷ ps) i = label_step p ps i.0 (labels_distinct ps i.1) (single p)
