-- The first fault of a file, by the first of its parts.
use Rattle.std.proofs.Common.{◌≡◌, ℕ, List, [], ◌∷◌, filter, true, false, not, Option, Some, None, option_map, codes, sym, ap, ◌∙◌, inl, inr}
use Rattle.std.specs.List.{flat_map}
use Rattle.serde_json.specs.Data.{Data as Json}
use Rattle.serde_json.specs.Find.{get}
use Rattle.tapa_syntax.specs.declared.program.Program.{Program}
use Rattle.task_graph.specs.declared.Graph.{Graph}
use Rattle.run_data.specs.Data.{keys_of, members_at, is_object}
use Rattle.run_data.specs.Seen.{first}
use Rattle.run_data.proofs.Lists.{or_else, first-append, first-map}
use Rattle.run_data.proofs.Faults.{first_of_two}
use Rattle.plan_device.specs.Checked.{AreKeysRight}
use Rattle.plan_device.specs.Faults.{faulty_members, faulty_at, faulty, is_key_in, misshapen, Misshapen, Misfit, OutOfRange, Unknown, Elsewhere, OnForbidden, faults}
use Rattle.plan_device.specs.Keys.{Names, names_of, group_of, key_name, keys_in, format_of}
use Rattle.plan_device.specs.Pins.{elsewhere, on_forbidden}
use Rattle.plan_device.specs.Tests.{passes, grid_of}
use Rattle.plan_device.specs.declared.check.Check.{Check}
use Rattle.plan_device.specs.declared.check.Check.TheVariants.{Shape, Number, Range, Name}
use Rattle.plan_device.specs.declared.grid.Grid.{Grid}
use Rattle.plan_device.specs.declared.key.Format.{Format}
use Rattle.plan_device.specs.declared.key.Key.{Key}
use Rattle.plan_device.proofs.Lists.{nothing_first}
use Rattle.tapa_base.proofs.Tests.{bool_cases as true_or_false}

-- ---- a key

module _ (check : Check) (names : Names) (file : Json) (key : Key) where
  pub faulty_key : passes check key (get (key_name key) file) ≡ false → first (faulty_at check names file key) ≡ Some (key_name key)
  unfolding faulty_at
  faulty_key bad = rw bad

  pub right_key : passes check key (get (key_name key) file) ≡ true → faulty_at check names file key ≡ faulty_members check (group_of key) names file
  unfolding faulty_at
  right_key good = rw good

  pub passes_faultless : faulty_at check names file key ≡ [] → passes check key (get (key_name key) file) ≡ true
  unfolding faulty_at
  passes_faultless e = elim (true_or_false (passes check key (get (key_name key) file))) [ inl good ↦ good | inr bad ↦ let some : key_name key ∷ [] ≡ [] = rw bad at e in cc ]

-- ---- shapes

pub misshapen_file : (names : Names) (file : Json) → is_object file ≡ false → first (misshapen names file) ≡ Some (codes ".")
unfolding misshapen
misshapen_file names file bad = rw bad

pub first_misshapen : (names : Names) (file : Json) (format : Format) → format ≡ format_of file → is_object file ≡ true
    → first (misshapen names file) ≡ or_else (first (faulty Shape names file format)) (first (filter (λ name. not (is_key_in format name)) (keys_of (members_at (Some file)))))
unfolding misshapen
first_misshapen names file format is good = rw (good, ← is) (first-append (faulty Shape names file format) _)

-- ---- all of them

pub first_faults : (program : Program) (graph : Graph) (file : Json)
    → first (faults program graph file)
    ≡ or_else (option_map Misshapen (first (misshapen (names_of program) file)))
    (or_else (option_map Misfit (first (faulty Number (names_of program) file (format_of file))))
    (or_else (option_map OutOfRange (first (faulty (Range (grid_of file)) (names_of program) file (format_of file))))
    (or_else (option_map Unknown (first (faulty Name (names_of program) file (format_of file))))
    (or_else (option_map Elsewhere (first (elsewhere (grid_of file) program graph file)))
    (option_map OnForbidden (first (on_forbidden (grid_of file) program file)))))))
unfolding faults
first_faults program graph file =
    first_of_two Misshapen (misshapen (names_of program) file) _
    ∙ ap (or_else (option_map Misshapen (first (misshapen (names_of program) file)))) (first_of_two Misfit (faulty Number (names_of program) file (format_of file)) _
    ∙ ap (or_else (option_map Misfit (first (faulty Number (names_of program) file (format_of file))))) (first_of_two OutOfRange (faulty (Range (grid_of file)) (names_of program) file (format_of file)) _
    ∙ ap (or_else (option_map OutOfRange (first (faulty (Range (grid_of file)) (names_of program) file (format_of file))))) (first_of_two Unknown (faulty Name (names_of program) file (format_of file)) _
    ∙ ap (or_else (option_map Unknown (first (faulty Name (names_of program) file (format_of file))))) (first_of_two Elsewhere (elsewhere (grid_of file) program graph file) _
    ∙ ap (or_else (option_map Elsewhere (first (elsewhere (grid_of file) program graph file)))) (first-map OnForbidden (on_forbidden (grid_of file) program file))))))

module _ (program : Program) (graph : Graph) (file : Json) where
  pub tells_misshapen : (key : List ℕ) → Some key ≡ first (misshapen (names_of program) file) → first (faults program graph file) ≡ Some (Misshapen key)
  tells_misshapen key is = rw (first_faults program graph file, ← is)

  pub tells_misfit : (key : List ℕ) → None ≡ first (misshapen (names_of program) file) → Some key ≡ first (faulty Number (names_of program) file (format_of file)) → first (faults program graph file) ≡ Some (Misfit key)
  tells_misfit key shaped is = rw (first_faults program graph file, ← shaped, ← is)

  pub tells_range : (key : List ℕ) → None ≡ first (misshapen (names_of program) file) → None ≡ first (faulty Number (names_of program) file (format_of file))
      → Some key ≡ first (faulty (Range (grid_of file)) (names_of program) file (format_of file)) → first (faults program graph file) ≡ Some (OutOfRange key)
  tells_range key shaped fit is = rw (first_faults program graph file, ← shaped, ← fit, ← is)

  pub tells_unknown : (name : List ℕ) → None ≡ first (misshapen (names_of program) file) → None ≡ first (faulty Number (names_of program) file (format_of file)) → None ≡ first (faulty (Range (grid_of file)) (names_of program) file (format_of file))
      → Some name ≡ first (faulty Name (names_of program) file (format_of file)) → first (faults program graph file) ≡ Some (Unknown name)
  tells_unknown name shaped fit inside is = rw (first_faults program graph file, ← shaped, ← fit, ← inside, ← is)

  pub tells_elsewhere : (label : List ℕ) → AreKeysRight program file → Some label ≡ first (elsewhere (grid_of file) program graph file) → first (faults program graph file) ≡ Some (Elsewhere label)
  tells_elsewhere label right is = rw (first_faults program graph file, ← right.shaped, ← right.fit, ← right.inside, ← right.known, ← is)

  pub tells_forbidden : (label : List ℕ) → AreKeysRight program file → None ≡ first (elsewhere (grid_of file) program graph file) → Some label ≡ first (on_forbidden (grid_of file) program file) → first (faults program graph file) ≡ Some (OnForbidden label)
  tells_forbidden label right together is = rw (first_faults program graph file, ← right.shaped, ← right.fit, ← right.inside, ← right.known, ← together, ← is)

  pub without_faults : AreKeysRight program file → None ≡ first (elsewhere (grid_of file) program graph file) → None ≡ first (on_forbidden (grid_of file) program file) → faults program graph file ≡ []
  without_faults right together free = nothing_first (faults program graph file) (sym (rw (first_faults program graph file, ← right.shaped, ← right.fit, ← right.inside, ← right.known, ← together, ← free)))

-- ---- what is told, by other names for the same

pub shapes_by : {names others : Names} (file : Json) (told : Option (List ℕ)) → names ≡ others → told ≡ first (misshapen names file) → told ≡ first (misshapen others file)
shapes_by file told same is = is ∙ ap (λ (n : Names). first (misshapen n file)) same

pub found_by : {names others : Names} {format version : Format} (check : Check) (file : Json) (told : Option (List ℕ)) → names ≡ others → format ≡ version → told ≡ first (faulty check names file format) → told ≡ first (faulty check others file version)
found_by {names} {others} {format} check file told same is_format is = is ∙ ap (λ (n : Names). first (faulty check n file format)) same ∙ ap (λ (v : Format). first (faulty check others file v)) is_format

pub ranges_by : {names others : Names} {format version : Format} {grid size : Grid} (file : Json) (told : Option (List ℕ)) → names ≡ others → format ≡ version → grid ≡ size → told ≡ first (faulty (Range grid) names file format) → told ≡ first (faulty (Range size) others file version)
ranges_by {others = others} {version = version} {grid} file told same is_format is_grid is = found_by (Range grid) file told same is_format is ∙ ap (λ (g : Grid). first (faulty (Range g) others file version)) is_grid

pub faulty_by : (check : Check) (names : Names) (file : Json) (format : Format) (keys : List Key) (told : Option (List ℕ)) → keys ≡ keys_in format → first (flat_map (faulty_at check names file) keys) ≡ told → told ≡ first (faulty check names file format)
unfolding faulty
faulty_by check names file format keys told is found = sym found ∙ ap (λ (l : List Key). first (flat_map (faulty_at check names file) l)) is
