-- The first fault of a file, by the first of its parts.
use Rattle.std.proofs.Common.{◌≡◌, ℕ, List, [], ◌∷◌, ◌++◌, map, filter, true, false, not, nat_lt, Option, Some, None, option_map, codes, refl, ap, ◌∙◌}
use Rattle.std.specs.List.{list_any}
use Rattle.serde_json.specs.Data.{Data as Json}
use Rattle.serde_json.specs.Find.{get_member}
use Rattle.tapa_base.specs.declared.shape.Port.{Port}
use Rattle.tapa_base.specs.declared.shape.Shape.{Shape}
use Rattle.run_data.specs.Answer.{IsFirstFault}
use Rattle.run_data.specs.Data.{IsJson, is_object, is_absent_or, is_shaped, has_right_bits, group_in, group_key, group_keys, ports_of, members_at, keys_of, key_of, key_in, is_name_of, is_among, cells_in, most_cells_of_one, passing_from, misshapen_in, misshapen, misfits_in, misfits, oversized, Misshapen, Misfit, Oversized, faults}
use Rattle.run_data.specs.Seen.{first}
use Rattle.run_data.specs.declared.group.Group.{Group}
use Rattle.run_data.specs.declared.group.Group.TheVariants.{Scalars, Memories, Waits}
use Rattle.run_data.proofs.Lists.{or_else, first-append, first-map}

pub nothing_first : {A : Type 0} (xs : List A) → first xs ≡ None → xs ≡ []
nothing_first [] e = refl
nothing_first (x ∷ xs) e = cc

-- no list has a first element before the one that is first
pub first_of_two : {A B : Type 0} (f : A → B) (xs : List A) (ys : List B) → first (map f xs ++ ys) ≡ or_else (option_map f (first xs)) (first ys)
first_of_two f xs ys = first-append (map f xs) ys ∙ ap (λ o. or_else o (first ys)) (first-map f xs)

-- a group that is no object
pub misshapen_group : (group : Group) (shape : Shape) (file : Json) (found : Option Json) → found ≡ group_in group file → is_absent_or is_object found ≡ false → first (misshapen_in group shape file) ≡ Some (group_key group)
unfolding misshapen_in
misshapen_group group shape file found is bad = rw (← is, bad)

-- the first fault in a group
pub first-misshapen_in : (group : Group) (shape : Shape) (file : Json) (found : Option Json) (ports : List Port) → found ≡ group_in group file → ports ≡ ports_of group shape → is_absent_or is_object found ≡ true
    → first (misshapen_in group shape file) ≡ or_else (option_map (key_of group) (first (filter (λ port. not (is_shaped group (get_member port.name (members_at found)))) ports))) (option_map (key_in group) (first (filter (λ name. not (list_any (is_name_of name) ports)) (keys_of (members_at found)))))
unfolding misshapen_in
first-misshapen_in group shape file found ports is all good =
    rw (← is, ← all, good) (first_of_two (key_of group) (filter (λ port. not (is_shaped group (get_member port.name (members_at found)))) ports) (map (key_in group) (filter (λ name. not (list_any (is_name_of name) ports)) (keys_of (members_at found))))
    ∙ ap (or_else (option_map (key_of group) (first (filter (λ port. not (is_shaped group (get_member port.name (members_at found)))) ports)))) (first-map (key_in group) (filter (λ name. not (list_any (is_name_of name) ports)) (keys_of (members_at found)))))

-- the same, by what was found
pub misshapen_by : (group : Group) (shape : Shape) (file : Json) (found : Option Json) (ports : List Port) (port : Option Port) (name : Option (List ℕ)) → found ≡ group_in group file → ports ≡ ports_of group shape → is_absent_or is_object found ≡ true
    → port ≡ first (filter (λ p. not (is_shaped group (get_member p.name (members_at found)))) ports) → name ≡ first (filter (λ k. not (list_any (is_name_of k) ports)) (keys_of (members_at found)))
    → or_else (option_map (key_of group) port) (option_map (key_in group) name) ≡ first (misshapen_in group shape file)
misshapen_by group shape file found ports port name is all good is_port is_name = rw (first-misshapen_in group shape file found ports is all good, is_port, is_name)

pub misshapen_file : (shape : Shape) (file : Json) → is_object file ≡ false → first (misshapen shape file) ≡ Some (codes ".")
unfolding misshapen
misshapen_file shape file bad = rw bad

pub first-misshapen : (shape : Shape) (file : Json) → is_object file ≡ true
    → first (misshapen shape file) ≡ or_else (first (misshapen_in Scalars shape file)) (or_else (first (misshapen_in Memories shape file)) (or_else (first (misshapen_in Waits shape file)) (first (filter (λ key. not (is_among group_keys key)) (keys_of (members_at (Some file)))))))
unfolding misshapen
first-misshapen shape file good =
    rw good (first-append (misshapen_in Scalars shape file) _ ∙ ap (or_else (first (misshapen_in Scalars shape file)))
    (first-append (misshapen_in Memories shape file) _ ∙ ap (or_else (first (misshapen_in Memories shape file)))
    (first-append (misshapen_in Waits shape file) _)))

pub first-misfits_in : (group : Group) (shape : Shape) (file : Json) (found : Option Json) (ports : List Port) → found ≡ group_in group file → ports ≡ ports_of group shape
    → first (misfits_in group shape file) ≡ option_map (key_of group) (first (filter (λ port. not (has_right_bits group port (get_member port.name (members_at found)))) ports))
unfolding misfits_in
first-misfits_in group shape file found ports is all = rw (← is, ← all) (first-map (key_of group) (filter (λ port. not (has_right_bits group port (get_member port.name (members_at found)))) ports))

pub first-misfits : (shape : Shape) (file : Json) → first (misfits shape file) ≡ or_else (first (misfits_in Scalars shape file)) (or_else (first (misfits_in Memories shape file)) (first (misfits_in Waits shape file)))
unfolding misfits
first-misfits shape file = first-append (misfits_in Scalars shape file) _ ∙ ap (or_else (first (misfits_in Scalars shape file))) (first-append (misfits_in Memories shape file) _)

pub first-oversized : (shape : Shape) (file : Json)
    → first (oversized shape file) ≡ or_else (option_map (key_of Memories) (first (filter (λ port. nat_lt most_cells_of_one (cells_in file port)) shape.memories.items))) (option_map (key_of Memories) (first (passing_from 0 file shape.memories.items)))
unfolding oversized
first-oversized shape file =
    first_of_two (key_of Memories) (filter (λ port. nat_lt most_cells_of_one (cells_in file port)) shape.memories.items) (map (key_of Memories) (passing_from 0 file shape.memories.items))
    ∙ ap (or_else (option_map (key_of Memories) (first (filter (λ port. nat_lt most_cells_of_one (cells_in file port)) shape.memories.items)))) (first-map (key_of Memories) (passing_from 0 file shape.memories.items))

-- the same, by what was found
pub oversized_by : (shape : Shape) (file : Json) (ports : List Port) (long passing : Option Port) → ports ≡ shape.memories.items → long ≡ first (filter (λ port. nat_lt most_cells_of_one (cells_in file port)) ports) → passing ≡ first (passing_from 0 file ports)
    → or_else (option_map (key_of Memories) long) (option_map (key_of Memories) passing) ≡ first (oversized shape file)
oversized_by shape file ports long passing all is_long is_passing = rw (first-oversized shape file, is_long, is_passing, all)

pub first-faults : (shape : Shape) (file : Json)
    → first (faults shape file) ≡ or_else (option_map Misshapen (first (misshapen shape file))) (or_else (option_map Misfit (first (misfits shape file))) (option_map Oversized (first (oversized shape file))))
unfolding faults
first-faults shape file =
    first_of_two Misshapen (misshapen shape file) _
    ∙ ap (or_else (option_map Misshapen (first (misshapen shape file))))
    (first_of_two Misfit (misfits shape file) _ ∙ ap (or_else (option_map Misfit (first (misfits shape file)))) (first-map Oversized (oversized shape file)))

-- what is told of a file, by the first of each sort of fault
module _ (text : List ℕ) (shape : Shape) (file : Json) (is_json : IsJson text file) where
  pub tells_misshapen : (key : List ℕ) → Some key ≡ first (misshapen shape file) → IsFirstFault text shape (Misshapen key)
  tells_misshapen key is = record { file = file; is_json = is_json; first = rw (first-faults, ← is) }

  pub tells_misfit : (key : List ℕ) → None ≡ first (misshapen shape file) → Some key ≡ first (misfits shape file) → IsFirstFault text shape (Misfit key)
  tells_misfit key shaped is = record { file = file; is_json = is_json; first = rw (first-faults, ← shaped, ← is) }

  pub tells_oversized : (key : List ℕ) → None ≡ first (misshapen shape file) → None ≡ first (misfits shape file) → Some key ≡ first (oversized shape file) → IsFirstFault text shape (Oversized key)
  tells_oversized key shaped fit is = record { file = file; is_json = is_json; first = rw (first-faults, ← shaped, ← fit, ← is) }

pub without_faults : (shape : Shape) (file : Json) → None ≡ first (misshapen shape file) → None ≡ first (misfits shape file) → None ≡ first (oversized shape file) → faults shape file ≡ []
without_faults shape file shaped fit small = nothing_first (faults shape file) (rw (first-faults, ← shaped, ← fit, ← small))
