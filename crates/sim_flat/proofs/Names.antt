-- The places of names that a module declares once.
use Rattle.std.proofs.Common.{◌≡◌, ℕ, suc, ◌+◌, Bool, true, false, cond, List, [], ◌∷◌, Option, Some, None, inl, inr, refl, sym, ap, subst, ◌∙◌, map, arith}
use Rattle.std.specs.Prelude.{◌⊎◌, bytes_eq, slice_get, is_some, unwrap_or, option_map, option_to_list}
use Rattle.std.specs.Cmp.Lexicographic.{bytes_decides}
use Rattle.vlog_tree.specs.declared.table.Declaration.{Declaration}
use Rattle.vlog_tree.specs.Form.{ModuleTree}
use Rattle.tapa_base.specs.Lists.{Has}
use Rattle.vlog_tree.specs.Table.{Name, declared, declaration_name, first_violation}
use Rattle.vlog_tree.specs.V2.{v2_uses}
use Rattle.tapa_base.proofs.Lists.{has_got, of_map}
use Rattle.vlog_scope.specs.NameTable.{places_from}
use Rattle.sim_flat.proofs.Once.{declared_at_once}
use Rattle.sim_flat.specs.Places.{place_in, number_in, both, DeclaredAt}
use Rattle.tapa_base.proofs.Tests.{true_not_false}

abbrev names : List Declaration → List Name
names ds = map declaration_name ds

-- what stands at a place that is found
record IsThere (start : ℕ) (ds : List Declaration) (x : Name) (p : ℕ) : Type 0 where
  place : ℕ
  declaration : Declaration
  is : p ≡ start + place
  got : slice_get ds place ≡ Some declaration
  name : declaration.name ≡ x

there_here : (start : ℕ) (d : Declaration) (ds : List Declaration) (x : Name) (p : ℕ) (b t : Bool) → bytes_eq d.name x ≡ t
    → (places_from (suc start) (names ds) x ≡ Some (p, b) → IsThere (suc start) ds x p)
    → cond t (Some (start, is_some (places_from (suc start) (names ds) d.name))) (places_from (suc start) (names ds) x) ≡ Some (p, b) → IsThere start (d ∷ ds) x p
there_here start d ds x p b true e ih h =
    let at : start ≡ p = ap (λ (o : Option (ℕ × Bool)). (unwrap_or o (0, false)).0) h in
    record { place = 0; declaration = d; is = (let z : p ≡ start + 0 = omega arith in z); got = refl; name = (bytes_decides d.name x).0 e }
there_here start d ds x p b false e ih h =
    let r : IsThere (suc start) ds x p = ih h in
    let is : p ≡ suc start + r.place = r.is in
    record { place = suc r.place; declaration = r.declaration; is = (let z : p ≡ start + suc r.place = omega arith in z); got = r.got; name = r.name }

is_there : (start : ℕ) (ds : List Declaration) (x : Name) (p : ℕ) (b : Bool) → places_from start (names ds) x ≡ Some (p, b) → IsThere start ds x p
is_there start [] x p b e = cc
is_there start (d ∷ ds) x p b e = there_here start d ds x p b (bytes_eq d.name x) refl (is_there (suc start) ds x p b) e

declared_of : (ds : List Declaration) (x : Name) (p : ℕ) (o : Option (ℕ × Bool)) → places_from 0 (names ds) x ≡ o → option_map (λ (q : ℕ × Bool). q.0) o ≡ Some p → (d : Declaration) × (slice_get ds p ≡ Some d) × (d.name ≡ x)
declared_of ds x p None e h = cc
declared_of ds x p (Some q) e h =
    let same : q.0 ≡ p = cc in
    let t : IsThere 0 ds x q.0 = is_there 0 ds x q.0 q.1 e in
    let is : q.0 ≡ 0 + t.place = t.is in
    let z : t.place ≡ p = omega arith in
    (t.declaration, subst (λ n. slice_get ds n ≡ Some t.declaration) z t.got, t.name)

-- a place that is found has the name
pub place_declared : (ds : List Declaration) (x : Name) (p : ℕ) → place_in ds x ≡ Some p → (d : Declaration) × (slice_get ds p ≡ Some d) × (d.name ≡ x)
place_declared ds x p e = declared_of ds x p (places_from 0 (names ds) x) refl e

found_here : (start : ℕ) (c : Declaration) (ds : List Declaration) (x : Name) (d : Declaration) (t : Bool) → bytes_eq c.name x ≡ t → (c ≡ d) ⊎ Has ds d → d.name ≡ x
    → (Has ds d → (p : ℕ) × (b : Bool) × (places_from (suc start) (names ds) x ≡ Some (p, b)))
    → (p : ℕ) × (b : Bool) × (cond t (Some (start, is_some (places_from (suc start) (names ds) c.name))) (places_from (suc start) (names ds) x) ≡ Some (p, b))
found_here start c ds x d true t h e ih = (start, is_some (places_from (suc start) (names ds) c.name), refl)
found_here start c ds x d false t (inl s) e ih = absurd (true_not_false (sym ((bytes_decides c.name x).1 (ap declaration_name s ∙ e)) ∙ t))
found_here start c ds x d false t (inr h) e ih = ih h

found : (start : ℕ) (ds : List Declaration) (x : Name) (d : Declaration) → Has ds d → d.name ≡ x → (p : ℕ) × (b : Bool) × (places_from start (names ds) x ≡ Some (p, b))
found start [] x d h e = absurd h
found start (c ∷ ds) x d h e = found_here start c ds x d (bytes_eq c.name x) refl h e (λ k. found (suc start) ds x d k e)

-- a declared name is found
pub place_found : (ds : List Declaration) (x : Name) → Has (map declaration_name ds) x → (p : ℕ) × (place_in ds x ≡ Some p)
place_found ds x h =
    let t = of_map declaration_name ds x h in
    let f = found 0 ds x t.0 t.1 t.2 in
    (f.0, ap (λ (o : Option (ℕ × Bool)). option_map (λ (q : ℕ × Bool). q.0) o) f.2)

module _ (ms : List ModuleTree) (v2 : first_violation (v2_uses ms) ≡ None) (m : ModuleTree) (in_ms : Has ms m) where
  -- two declarations of one name stand at one place
  pub place_once : (j k : ℕ) (x : Name) → DeclaredAt m j x → DeclaredAt m k x → j ≡ k
  place_once j k x a b = declared_at_once ms v2 m in_ms j k a.0 b.0 a.1 b.1 (a.2 ∙ sym b.2)

  -- the place of a name is where it is declared
  pub place_is : (j : ℕ) (x : Name) → DeclaredAt m j x → place_in (declared m) x ≡ Some j
  place_is j x a =
      let f = found 0 (declared m) x a.0 (has_got (declared m) j a.0 a.1) a.2 in
      let p : place_in (declared m) x ≡ Some f.0 = ap (λ (o : Option (ℕ × Bool)). option_map (λ (q : ℕ × Bool). q.0) o) f.2 in
      p ∙ ap (λ n. Some n) (place_once f.0 j x (place_declared (declared m) x f.0 p) a)

of_number_in : (base : ℕ) (o : Option ℕ) (number : ℕ) → option_map (λ p. base + p) o ≡ Some number → (j : ℕ) × (o ≡ Some j) × (number ≡ base + j)
of_number_in base None number e = cc
of_number_in base (Some j) number e = (j, refl, cc)

pub of_number : (base : ℕ) (ds : List Declaration) (x : Name) (number : ℕ) → number_in base ds x ≡ Some number → (j : ℕ) × (place_in ds x ≡ Some j) × (number ≡ base + j)
of_number base ds x number e = of_number_in base (place_in ds x) number e

pub number_of : (base : ℕ) (ds : List Declaration) (x : Name) (j number : ℕ) → place_in ds x ≡ Some j → number ≡ base + j → number_in base ds x ≡ Some number
number_of base ds x j number e f = ap (λ (o : Option ℕ). option_map (λ p. base + p) o) e ∙ ap (λ n. Some n) (sym f)

pub of_both : (a b : Option ℕ) (p q : ℕ) → both a b ≡ Some (p, q) → (a ≡ Some p) × (b ≡ Some q)
of_both None b p q e = cc
of_both (Some x) None p q e = cc
of_both (Some x) (Some y) p q e = let same : ◌≡◌ {A = ℕ × ℕ} (x, y) (p, q) = cc in (ap (λ (z : ℕ × ℕ). Some z.0) same, ap (λ (z : ℕ × ℕ). Some z.1) same)

pub is_both : (a b : Option ℕ) (p q : ℕ) → a ≡ Some p → b ≡ Some q → both a b ≡ Some (p, q)
is_both a b p q e f = ap (λ o. both o b) e ∙ ap (λ o. both (Some p) o) f

pub of_edge : (o : Option (ℕ × ℕ)) (p q : ℕ) → Has (option_to_list o) (p, q) → o ≡ Some (p, q)
of_edge None p q h = absurd h
of_edge (Some e) p q (inl s) = ap (λ (z : ℕ × ℕ). Some z) s
of_edge (Some e) p q (inr h) = absurd h

pub has_edge : (o : Option (ℕ × ℕ)) (p q : ℕ) → o ≡ Some (p, q) → Has (option_to_list o) (p, q)
has_edge o p q e = subst (λ (z : Option (ℕ × ℕ)). Has (option_to_list z) (p, q)) (sym e) (inl refl)
