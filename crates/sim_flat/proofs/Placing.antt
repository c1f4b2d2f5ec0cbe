-- The places of modules, and of the modules of instances.
use Rattle.std.proofs.Common.{◌≡◌, ℕ, zero, suc, ◌+◌, ◌<◌, Bool, true, false, cond, List, [], ◌∷◌, ◌++◌, Option, Some, length, get_or, refl, ap, ◌∙◌, map, arith}
use Rattle.std.specs.Prelude.{bytes_eq, is_some, slice_get, Vec}
use Rattle.std.specs.List.{flat_map}
use Rattle.std.specs.Option.{option_map_or}
use Rattle.vlog_tree.specs.declared.tree.Item.{Item}
use Rattle.vlog_tree.specs.declared.tree.Item.TheVariants.{Wire, Reg, Memory, Assign, Always, Instance}
use Rattle.vlog_tree.specs.declared.table.Declaration.{Declaration}
use Rattle.vlog_tree.specs.Form.{ModuleTree}
use Rattle.vlog_tree.specs.Table.{Name, declaration_name, module_declared, module_named}
use Rattle.vlog_tree.specs.Loops.{item_instances, instances}
use Rattle.vlog_scope.specs.NameTable.{places_from}
use Rattle.number_graph.specs.Graphs.{rows_of}
use Rattle.sim_flat.specs.Kinds.{kind_place, item_kinds, module_kinds, all_kinds}

abbrev names_in : List ModuleTree → List Name
names_in ms = map declaration_name (map module_declared ms)

-- the place of a module that is found by its name
record IsPlaceOf (start : ℕ) (ms : List ModuleTree) (x : Name) (k : ModuleTree) : Type 0 where
  place : ℕ
  again : Bool
  found : places_from start (names_in ms) x ≡ Some (start + place, again)
  got : slice_get ms place ≡ Some k

place_here : (start : ℕ) (m : ModuleTree) (ms : List ModuleTree) (x : Name) (k : ModuleTree) (b : Bool) → bytes_eq m.name x ≡ b → (module_named ms x ≡ Some k → IsPlaceOf (suc start) ms x k)
    → cond b (Some m) (module_named ms x) ≡ Some k → IsPlaceOf start (m ∷ ms) x k
place_here start m ms x k true e ih h = record {
  place = 0;
  again = is_some (places_from (suc start) (names_in ms) m.name);
  found = ap (λ b. cond b (Some (start, is_some (places_from (suc start) (names_in ms) m.name))) (places_from (suc start) (names_in ms) x)) e
      ∙ ap (λ n. Some (n, is_some (places_from (suc start) (names_in ms) m.name))) (let z : start ≡ start + 0 = omega arith in z);
  got = h;
}
place_here start m ms x k false e ih h =
    let r : IsPlaceOf (suc start) ms x k = ih h in
    record {
      place = suc r.place;
      again = r.again;
      found = ap (λ b. cond b (Some (start, is_some (places_from (suc start) (names_in ms) m.name))) (places_from (suc start) (names_in ms) x)) e
          ∙ r.found ∙ ap (λ n. Some (n, r.again)) (let z : suc start + r.place ≡ start + suc r.place = omega arith in z);
      got = r.got;
    }

place_named : (start : ℕ) (ms : List ModuleTree) (x : Name) (k : ModuleTree) → module_named ms x ≡ Some k → IsPlaceOf start ms x k
place_named start [] x k e = cc
place_named start (m ∷ ms) x k e = place_here start m ms x k (bytes_eq m.name x) refl (place_named (suc start) ms x k) e

-- the module at the place of its name
pub kind_got : (ms : List ModuleTree) (x : Name) (k : ModuleTree) → module_named ms x ≡ Some k → slice_get ms (kind_place (map module_declared ms) x) ≡ Some k
kind_got ms x k e =
    let r : IsPlaceOf 0 ms x k = place_named 0 ms x k e in
    let is : kind_place (map module_declared ms) x ≡ 0 + r.place = ap (λ (o : Option (ℕ × Bool)). option_map_or (λ (p : ℕ × Bool). p.0) o 0) r.found in
    let z : kind_place (map module_declared ms) x ≡ r.place = omega arith in
    ap (λ n. slice_get ms n) z ∙ r.got

pub kinds_got : (names : List Declaration) (ms : List ModuleTree) (j : ℕ) (m : ModuleTree) → slice_get ms j ≡ Some m → get_or (all_kinds names ms) j [] ≡ module_kinds names m
kinds_got names [] j m e = cc
kinds_got names (k ∷ ms) zero m e = let same : k ≡ m = cc in ap (λ (q : ModuleTree). module_kinds names q) same
kinds_got names (k ∷ ms) (suc j) m e = kinds_got names ms j m e

abbrev kind_of : List Declaration → Name × Name → ℕ
kind_of names p = kind_place names p.0

kinds_are : (names : List Declaration) (items : List Item) → flat_map (item_kinds names) items ≡ map (kind_of names) (flat_map item_instances items)
kinds_are names [] = refl
kinds_are names (Instance k i connections ∷ items) = ap (λ (l : List ℕ). kind_place names k ∷ l) (kinds_are names items)
kinds_are names (Wire w x ∷ items) = kinds_are names items
kinds_are names (Reg w x ∷ items) = kinds_are names items
kinds_are names (Memory w x n ∷ items) = kinds_are names items
kinds_are names (Assign x v ∷ items) = kinds_are names items
kinds_are names (Always b ∷ items) = kinds_are names items

map_length : (f : Name × Name → ℕ) (xs : List (Name × Name)) → length (map f xs) ≡ length xs
map_length f [] = refl
map_length f (x ∷ xs) = ap suc (map_length f xs)

map_got : (f : Name × Name → ℕ) (xs : List (Name × Name)) (c : ℕ) (x : Name × Name) → slice_get xs c ≡ Some x → get_or (map f xs) c 0 ≡ f x
map_got f [] c x e = cc
map_got f (y ∷ xs) zero x e = let same : y ≡ x = cc in ap f same
map_got f (y ∷ xs) (suc c) x e = map_got f xs c x e

pub kinds_length : (names : List Declaration) (m : ModuleTree) → length (module_kinds names m) ≡ length (instances m)
kinds_length names m = ap length (kinds_are names m.items) ∙ map_length (kind_of names) (instances m)

pub kind_at : (names : List Declaration) (m : ModuleTree) (c : ℕ) (kn i : Name) → slice_get (instances m) c ≡ Some (kn, i) → get_or (module_kinds names m) c 0 ≡ kind_place names kn
kind_at names m c kn i e = ap (λ (l : List ℕ). get_or l c 0) (kinds_are names m.items) ∙ map_got (kind_of names) (instances m) c (kn, i) e

pub got_low : (xs : List (Name × Name)) (c : ℕ) → c < length xs → (x : Name × Name) × (slice_get xs c ≡ Some x)
got_low [] c h = absurd (omega arith)
got_low (x ∷ xs) zero h = (x, refl)
got_low (x ∷ xs) (suc c) h = got_low xs c (omega arith)

pub rows_push : {A : Type 0} (rows : List (Vec ℕ A)) (v : Vec ℕ A) → rows_of (rows ++ v ∷ []) ≡ rows_of rows ++ v.items ∷ []
rows_push [] v = refl
rows_push (r ∷ rows) v = ap (λ l. r.items ∷ l) (rows_push rows v)
