-- A tree of names after one more name was put in, and what a name's first place says of the places behind it.
use Rattle.std.proofs.Common.{◌≡◌, ℕ, suc, ◌-◌, ◌≤◌, Bool, true, false, cond, List, [], ◌∷◌, map, drop, Option, Some, refl, sym, ap, ◌∙◌, arith, Vec}
use Rattle.std.specs.Prelude.{bytes_eq, is_some, unwrap_or}
use Rattle.std.specs.Ordering.{nat_cmp, eq_by_cmp}
use Rattle.std.specs.Cmp.{IsEquivalence, eq_by_cmp_equiv}
use Rattle.std.specs.Cmp.Lexicographic.{bytes_decides, slice_cmp, nat_list_cmp_total, texts_ties}
use Rattle.std.specs.BTreeMap.{BTreeMap, UpdatesBy}
use Rattle.vlog_tree.specs.declared.table.Declaration.{Declaration}
use Rattle.vlog_tree.specs.Table.{Name, declaration_name}
use Rattle.vlog_scope.specs.NameTable.{places_from}
use Rattle.vlog_scope.specs.NamePlaces.{place_by}
use Rattle.vlog_scope.proofs.NameTables.{others, by_bytes}
use Rattle.vlog_scope.proofs.Chaining.{place_of}

same : IsEquivalence (eq_by_cmp (slice_cmp nat_cmp))
same = eq_by_cmp_equiv nat_list_cmp_total

apart : (bs cs ks : List ℕ) → eq_by_cmp (slice_cmp nat_cmp) bs cs ≡ false → eq_by_cmp (slice_cmp nat_cmp) bs ks ≡ true → eq_by_cmp (slice_cmp nat_cmp) cs ks ≡ false
apart bs cs ks n y = same.symm cs ks ∙ sym (same.congr bs ks cs y) ∙ n

pub updated : {A : Type 0} (key : Vec ℕ A) (m n : BTreeMap (Vec ℕ A) (ℕ × Bool)) (w : Option (ℕ × Bool))
    → UpdatesBy (λ x y. slice_cmp nat_cmp x.items y.items) (λ k. slice_cmp nat_cmp key.items k.items) m n w
    → (cs : List ℕ) → place_by n cs ≡ cond (bytes_eq key.items cs) w (place_by m cs)
updated {A} key m n w h cs =
    by_bytes (place_by m) (place_by n) key.items w h.1
    (λ cs e. others _ _ m.entries n.entries h.3 (λ (k : Vec ℕ A). eq_by_cmp (slice_cmp nat_cmp) cs k.items) (λ x y. same.congr cs x.items y.items) (λ k. apart key.items cs k.items (sym (texts_ties key.items cs) ∙ e)))
    cs _ refl

again_here : (start : ℕ) (d : Declaration) (ds : List Declaration) (x : Name) (p : ℕ) (again b : Bool) → bytes_eq d.name x ≡ b
    → (places_from (suc start) (map declaration_name ds) x ≡ Some (p, again) → again ≡ is_some (places_from (suc p) (map declaration_name (drop (suc p - suc start) ds)) x))
    → cond b (Some (start, is_some (places_from (suc start) (map declaration_name ds) d.name))) (places_from (suc start) (map declaration_name ds) x) ≡ Some (p, again)
    → again ≡ is_some (places_from (suc p) (map declaration_name (drop (suc p - start) (d ∷ ds))) x)
again_here start d ds x p again true e ih h =
    let at : start ≡ p = ap (λ (o : Option (ℕ × Bool)). (unwrap_or o (0, false)).0) h in
    let twice : is_some (places_from (suc start) (map declaration_name ds) d.name) ≡ again = ap (λ (o : Option (ℕ × Bool)). (unwrap_or o (0, false)).1) h in
    let one : 1 ≡ suc p - start = omega arith in
    sym twice ∙ ap (λ (y : Name). is_some (places_from (suc start) (map declaration_name ds) y)) ((bytes_decides d.name x).0 e)
    ∙ ap (λ k. is_some (places_from (suc k) (map declaration_name ds) x)) at ∙ ap (λ k. is_some (places_from (suc p) (map declaration_name (drop k (d ∷ ds))) x)) one
again_here start d ds x p again false e ih h =
    let up : suc start ≤ p = (place_of (suc start) ds x p again h).0 in
    let one : suc (suc p - suc start) ≡ suc p - start = omega arith in
    ih h ∙ ap (λ k. is_some (places_from (suc p) (map declaration_name (drop k (d ∷ ds))) x)) one

-- a name stands again if it stands behind its first place
pub again_of : (start : ℕ) (ds : List Declaration) (x : Name) (p : ℕ) (again : Bool) → places_from start (map declaration_name ds) x ≡ Some (p, again)
    → again ≡ is_some (places_from (suc p) (map declaration_name (drop (suc p - start) ds)) x)
again_of start [] x p again e = cc
again_of start (d ∷ ds) x p again e = again_here start d ds x p again (bytes_eq d.name x) refl (again_of (suc start) ds x p again) e
