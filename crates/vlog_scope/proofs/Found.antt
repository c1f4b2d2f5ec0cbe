-- What a name's first place says of a list.
use Rattle.std.proofs.Common.{◌≡◌, ℕ, suc, ◌+◌, ◌-◌, ◌<◌, ◌≤◌, Bool, true, false, cond, List, [], ◌∷◌, length, get_or, Option, Some, None, refl, sym, ap, ◌∙◌, arith, map}
use Rattle.std.specs.Prelude.{bytes_eq, count_by, nat_le, is_some, unwrap_or}
use Rattle.std.specs.Cmp.Lexicographic.{bytes_decides}
use Rattle.std.proofs.lemmas.List.Sums.{sum_by-cons}
use Rattle.std.proofs.lemmas.Bool.Decides.{nat_tests}
use Rattle.std.proofs.lemmas.List.{get_or_default}
use Rattle.vlog_tree.specs.declared.table.Declaration.{Declaration}
use Rattle.vlog_tree.specs.Table.{Name, find_name, unknown, is_doubled_name, ports_of, is_module_name, module_declared, port_declared, all_ports, module_named, ports_in, declaration_name}
use Rattle.vlog_tree.specs.Form.{ModuleTree}
use Rattle.vlog_scope.specs.NameTable.{places_from}
use Rattle.tapa_base.proofs.Tests.{zero_left as none_more}

abbrev names : List Declaration → List Name
names ds = map declaration_name ds

one_more : (n : ℕ) → nat_le 1 n ≡ nat_le 2 (1 + n)
one_more n = grind (arith, nat_tests)

some_more : (n : ℕ) → true ≡ nat_le 1 (1 + n)
some_more n = grind (arith, nat_tests)

abbrev count : List Declaration → Name → ℕ
count ds x = count_by (λ (d : Declaration). bytes_eq d.name x) ds

pub count-cons : (d : Declaration) (ds : List Declaration) (x : Name) → count (d ∷ ds) x ≡ cond (bytes_eq d.name x) 1 0 + count ds x
count-cons d ds x = sum_by-cons (λ (d : Declaration). cond (bytes_eq d.name x) 1 0) d ds

-- the place is that of the first declaration of this name
pub record IsFound (start : ℕ) (ds : List Declaration) (x : Name) (place : ℕ) (again : Bool) : Type 0 where
  pub after : start ≤ place
  pub before : place - start < length ds
  pub here : find_name ds x ≡ get_or ds (place - start) unknown
  pub doubled : again ≡ is_doubled_name ds x

-- there is a place where the name is declared
some_here : (start : ℕ) (d : Declaration) (ds : List Declaration) (x : Name) (b : Bool) → bytes_eq d.name x ≡ b
    → is_some (places_from (suc start) (names ds) x) ≡ nat_le 1 (count ds x)
    → is_some (places_from start (names (d ∷ ds)) x) ≡ nat_le 1 (count (d ∷ ds) x)
some_here start d ds x true e ih =
    ap (λ b. is_some (cond b (Some (start, is_some (places_from (suc start) (names ds) d.name))) (places_from (suc start) (names ds) x))) e
    ∙ some_more (count ds x) ∙ sym (ap (λ n. nat_le 1 n) (count-cons d ds x) ∙ ap (λ b. nat_le 1 (cond b 1 0 + count ds x)) e)
some_here start d ds x false e ih =
    ap (λ b. is_some (cond b (Some (start, is_some (places_from (suc start) (names ds) d.name))) (places_from (suc start) (names ds) x))) e
    ∙ ih
    ∙ sym (ap (λ n. nat_le 1 n) (count-cons d ds x) ∙ ap (λ b. nat_le 1 (cond b 1 0 + count ds x)) e ∙ ap (λ n. nat_le 1 n) (none_more (count ds x)))

some_place : (start : ℕ) (ds : List Declaration) (x : Name) → is_some (places_from start (names ds) x) ≡ nat_le 1 (count ds x)
some_place start [] x = refl
some_place start (d ∷ ds) x = some_here start d ds x _ refl (some_place (suc start) ds x)

found_here : (start : ℕ) (d : Declaration) (ds : List Declaration) (x : Name) (place : ℕ) (again : Bool) (b : Bool) → bytes_eq d.name x ≡ b
    → (places_from (suc start) (names ds) x ≡ Some (place, again) → IsFound (suc start) ds x place again)
    → cond b (Some (start, is_some (places_from (suc start) (names ds) d.name))) (places_from (suc start) (names ds) x) ≡ Some (place, again) → IsFound start (d ∷ ds) x place again
found_here start d ds x place again true e ih h =
    let at : start ≡ place = ap (λ (o : Option (ℕ × Bool)). (unwrap_or o (0, false)).0) h in
    let same : d.name ≡ x = (bytes_decides d.name x).0 e in
    let twice : is_some (places_from (suc start) (names ds) d.name) ≡ again = ap (λ (o : Option (ℕ × Bool)). (unwrap_or o (0, false)).1) h in
    record {
      after = omega arith;
      before = omega arith;
      here = ap (λ b. cond b d (find_name ds x)) e ∙ ap (λ n. get_or (d ∷ ds) n unknown) (let z : 0 ≡ place - start = omega arith in z);
      doubled = sym twice ∙ ap (λ y. is_some (places_from (suc start) (names ds) y)) same ∙ some_place (suc start) ds x
          ∙ one_more (count ds x) ∙ sym (ap (λ n. nat_le 2 n) (count-cons d ds x) ∙ ap (λ b. nat_le 2 (cond b 1 0 + count ds x)) e);
    }
found_here start d ds x place again false e ih h =
    let r : IsFound (suc start) ds x place again = ih h in
    let next : place - start ≡ suc (place - suc start) = omega arith in
    record {
      after = omega arith;
      before = omega arith;
      here = ap (λ b. cond b d (find_name ds x)) e ∙ r.here ∙ ap (λ n. get_or (d ∷ ds) n unknown) (sym next);
      doubled = r.doubled ∙ sym (ap (λ n. nat_le 2 n) (count-cons d ds x) ∙ ap (λ b. nat_le 2 (cond b 1 0 + count ds x)) e ∙ ap (λ n. nat_le 2 n) (none_more (count ds x)));
    }

pub found : (start : ℕ) (ds : List Declaration) (x : Name) (place : ℕ) (again : Bool) → places_from start (names ds) x ≡ Some (place, again) → IsFound start ds x place again
found start [] x place again e = cc
found start (d ∷ ds) x place again e = found_here start d ds x place again _ refl (found (suc start) ds x place again) e

pub record IsMissing (ds : List Declaration) (x : Name) : Type 0 where
  pub here : find_name ds x ≡ unknown
  pub count : count ds x ≡ 0

missing_here : (start : ℕ) (d : Declaration) (ds : List Declaration) (x : Name) (b : Bool) → bytes_eq d.name x ≡ b → (places_from (suc start) (names ds) x ≡ None → IsMissing ds x)
    → cond b (Some (start, is_some (places_from (suc start) (names ds) d.name))) (places_from (suc start) (names ds) x) ≡ None → IsMissing (d ∷ ds) x
missing_here start d ds x true e ih h = cc
missing_here start d ds x false e ih h =
    let r : IsMissing ds x = ih h in
    record {
      here = ap (λ b. cond b d (find_name ds x)) e ∙ r.here;
      count = count-cons d ds x ∙ ap (λ b. cond b 1 0 + count ds x) e ∙ none_more (count ds x) ∙ r.count;
    }

pub missing : (start : ℕ) (ds : List Declaration) (x : Name) → places_from start (names ds) x ≡ None → IsMissing ds x
missing start [] x e = record { here = refl; count = refl }
missing start (d ∷ ds) x e = missing_here start d ds x _ refl (missing (suc start) ds x) e

-- the same for a list whose first place is 0
pub within : (ds : List Declaration) (x : Name) (place : ℕ) (again : Bool) → places_from 0 (names ds) x ≡ Some (place, again) → place < length ds
within ds x place again e = let b : place - 0 < length ds = (found 0 ds x place again e).before in omega arith

pub is_there : (ds : List Declaration) (x : Name) (place : ℕ) (again : Bool) (d : Declaration) → places_from 0 (names ds) x ≡ Some (place, again) → d ≡ get_or ds place d → d ≡ find_name ds x
is_there ds x place again d e is =
    let f : IsFound 0 ds x place again = found 0 ds x place again e in
    let z : place - 0 ≡ place = omega arith in
    is ∙ get_or_default ds place d unknown (within ds x place again e) ∙ ap (λ n. get_or ds n unknown) (sym z) ∙ sym f.here

-- the place is that of the first module of this name
pub record IsModuleAt (start : ℕ) (ms : List ModuleTree) (x : Name) (place : ℕ) : Type 0 where
  pub after : start ≤ place
  pub before : place - start < length (all_ports ms)
  pub here : map port_declared (ports_of ms x) ≡ get_or (all_ports ms) (place - start) []
  pub known : is_module_name ms x ≡ true

module_here : (start : ℕ) (m : ModuleTree) (ms : List ModuleTree) (x : Name) (place : ℕ) (again : Bool) (b : Bool) → bytes_eq m.name x ≡ b
    → (places_from (suc start) (names (map module_declared ms)) x ≡ Some (place, again) → IsModuleAt (suc start) ms x place)
    → cond b (Some (start, is_some (places_from (suc start) (names (map module_declared ms)) m.name))) (places_from (suc start) (names (map module_declared ms)) x) ≡ Some (place, again) → IsModuleAt start (m ∷ ms) x place
module_here start m ms x place again true e ih h =
    let at : start ≡ place = ap (λ (o : Option (ℕ × Bool)). (unwrap_or o (0, false)).0) h in
    record {
      after = omega arith;
      before = omega arith;
      here = ap (λ b. map port_declared (ports_in (cond b (Some m) (module_named ms x)))) e ∙ ap (λ n. get_or (all_ports (m ∷ ms)) n []) (let z : 0 ≡ place - start = omega arith in z);
      known = ap (λ b. is_some (cond b (Some m) (module_named ms x))) e;
    }
module_here start m ms x place again false e ih h =
    let r : IsModuleAt (suc start) ms x place = ih h in
    let next : place - start ≡ suc (place - suc start) = omega arith in
    record {
      after = omega arith;
      before = omega arith;
      here = ap (λ b. map port_declared (ports_in (cond b (Some m) (module_named ms x)))) e ∙ r.here ∙ ap (λ n. get_or (all_ports (m ∷ ms)) n []) (sym next);
      known = ap (λ b. is_some (cond b (Some m) (module_named ms x))) e ∙ r.known;
    }

pub module_found : (start : ℕ) (ms : List ModuleTree) (x : Name) (place : ℕ) (again : Bool) → places_from start (names (map module_declared ms)) x ≡ Some (place, again) → IsModuleAt start ms x place
module_found start [] x place again e = cc
module_found start (m ∷ ms) x place again e = module_here start m ms x place again _ refl (module_found (suc start) ms x place again) e

pub record IsNoModule (ms : List ModuleTree) (x : Name) : Type 0 where
  pub here : ports_of ms x ≡ []
  pub unknown : is_module_name ms x ≡ false

no_module_here : (start : ℕ) (m : ModuleTree) (ms : List ModuleTree) (x : Name) (b : Bool) → bytes_eq m.name x ≡ b → (places_from (suc start) (names (map module_declared ms)) x ≡ None → IsNoModule ms x)
    → cond b (Some (start, is_some (places_from (suc start) (names (map module_declared ms)) m.name))) (places_from (suc start) (names (map module_declared ms)) x) ≡ None → IsNoModule (m ∷ ms) x
no_module_here start m ms x true e ih h = cc
no_module_here start m ms x false e ih h =
    let r : IsNoModule ms x = ih h in
    record { here = ap (λ b. ports_in (cond b (Some m) (module_named ms x))) e ∙ r.here; unknown = ap (λ b. is_some (cond b (Some m) (module_named ms x))) e ∙ r.unknown }

pub no_module : (start : ℕ) (ms : List ModuleTree) (x : Name) → places_from start (names (map module_declared ms)) x ≡ None → IsNoModule ms x
no_module start [] x e = record { here = refl; unknown = refl }
no_module start (m ∷ ms) x e = no_module_here start m ms x _ refl (no_module (suc start) ms x) e

-- the same for a list whose first place is 0
pub module_within : (ms : List ModuleTree) (x : Name) (place : ℕ) (again : Bool) → places_from 0 (names (map module_declared ms)) x ≡ Some (place, again) → place < length (all_ports ms)
module_within ms x place again e = let b : place - 0 < length (all_ports ms) = (module_found 0 ms x place again e).before in omega arith

pub ports_there : (ms : List ModuleTree) (x : Name) (place : ℕ) (again : Bool) (ports : List Declaration) → places_from 0 (names (map module_declared ms)) x ≡ Some (place, again)
    → ports ≡ get_or (all_ports ms) place ports → ports ≡ map port_declared (ports_of ms x)
ports_there ms x place again ports e is =
    let f : IsModuleAt 0 ms x place = module_found 0 ms x place again e in
    let z : place - 0 ≡ place = omega arith in
    is ∙ get_or_default (all_ports ms) place ports [] (module_within ms x place again e) ∙ ap (λ n. get_or (all_ports ms) n []) (sym z) ∙ sym f.here

pub known_module : (ms : List ModuleTree) (x : Name) (o : Option (ℕ × Bool)) → places_from 0 (names (map module_declared ms)) x ≡ o → is_some (places_from 0 (names (map module_declared ms)) x) ≡ is_module_name ms x
known_module ms x None e = ap (λ o. is_some o) e ∙ sym (no_module 0 ms x e).unknown
known_module ms x (Some p) e = ap (λ o. is_some o) e ∙ sym (module_found 0 ms x p.0 p.1 e).known
