-- A device file gives alike programs and graphs one device, or has one first fault for them.
use Rattle.std.proofs.Common.{◌≡◌, ℕ, ◌<◌, ◌++◌, ◌↔◌, List, [], map, filter, length, codes, Bool, Option, Some, None, option_map, option_and_then, refl, sym, ap, subst, ◌∙◌}
use Rattle.std.proofs.lemmas.List.{length-map}
use Rattle.std.specs.Prelude.{slice_get, get_or}
use Rattle.std.specs.Option.{option_map_or}
use Rattle.std.proofs.lemmas.Option.{none-some, same_Some, slice_get-map}
use Rattle.serde_json.specs.Data.{Data as Json}
use Rattle.serde_json.specs.Find.{get, get_member}
use Rattle.tapa_syntax.specs.declared.program.Instance.{Instance}
use Rattle.tapa_syntax.specs.declared.program.Leaf.{Leaf}
use Rattle.tapa_syntax.specs.declared.program.Program.{Program}
use Rattle.tapa_syntax.specs.Flat.{FlatInstance, FlatLeaf, FlatProgram, flat_instance, flat_leaf, flat_program}
use Rattle.task_graph.specs.declared.Graph.{Graph}
use Rattle.task_graph.specs.declared.Use.{Use}
use Rattle.task_graph.specs.Uses.{use_of}
use Rattle.run_data.specs.Data.{IsJson, members_at}
use Rattle.run_data.specs.Seen.{first}
use Rattle.plan_device.specs.declared.check.Check.TheVariants.{Number, Range, Name}
use Rattle.plan_device.specs.declared.device.Device.{Device}
use Rattle.plan_device.specs.declared.grid.Grid.{Grid}
use Rattle.plan_device.specs.Amounts.{amounts_of}
use Rattle.plan_device.specs.Answer.{IsDeviceOf, IsFirstFault, IsMeaning}
use Rattle.plan_device.specs.Contents.{use_in, uses_of}
use Rattle.plan_device.specs.Faults.{Fault, Misshapen, Misfit, OutOfRange, Unknown, Elsewhere, OnForbidden, misshapen, faulty, faults}
use Rattle.plan_device.specs.Keys.{Names, names_of, format_of}
use Rattle.plan_device.specs.One.{AreAlike}
use Rattle.plan_device.specs.Pins.{IsPinned, numbers, pin_at, pin_of, pins_of, label_at, is_elsewhere, elsewhere, is_forbidden, is_pinned_at, on_forbidden}
use Rattle.plan_device.specs.Tests.{grid_of}
use Rattle.plan_device.proofs.One.{one_device}
use Rattle.command_source.proofs.Given.{one_json}
use Rattle.tapa_laws.specs.plans.OneGraph.{AreAlikeGraphs}
use Rattle.tapa_laws.proofs.plans.FlatUses.{flat_use, use_by_data}
use Rattle.tapa_laws.proofs.plans.Mapped.{map_alike, map_by_parts, or_by_parts}

-- ---- what a device file reads of a program

-- what a file says of a leaf by its plain data, or else its estimate
abbrev flat_use_in : Json → List FlatLeaf → FlatInstance → Use
flat_use_in file leaves instance =
    option_map_or amounts_of
    (option_and_then (λ (leaf : FlatLeaf). get_member leaf.name (members_at (get (codes "tasks") file))) (slice_get leaves instance.body))
    (flat_use leaves instance)

then_by_parts : {A B C : Type 0} (f : A → Option C) (part : A → B) (g : B → Option C) → ((x : A) → f x ≡ g (part x)) → (o : Option A) → option_and_then f o ≡ option_and_then g (option_map part o)
then_by_parts f part g h None = refl
then_by_parts f part g h (Some x) = h x

abbrev named : Json → FlatLeaf → Option Json
named file leaf = get_member leaf.name (members_at (get (codes "tasks") file))

use_in_by_data : (program : Program) (file : Json) (instance : Instance) → use_in program file instance ≡ flat_use_in file (map flat_leaf program.bodies.items) (flat_instance instance)
use_in_by_data program file instance =
    let leaves : List FlatLeaf = map flat_leaf program.bodies.items in
    let found : option_and_then (λ (leaf : Leaf). named file (flat_leaf leaf)) (slice_get program.bodies.items instance.body) ≡ option_and_then (named file) (slice_get leaves instance.body) =
    then_by_parts (λ (leaf : Leaf). named file (flat_leaf leaf)) flat_leaf (named file) (λ x. refl) (slice_get program.bodies.items instance.body)
    ∙ ap (option_and_then (named file)) (sym (slice_get-map flat_leaf program.bodies.items instance.body)) in
    ap (λ (o : Option Json). option_map_or amounts_of o (use_of program.bodies.items instance)) found
    ∙ ap (λ (u : Use). option_map_or amounts_of (option_and_then (named file) (slice_get leaves instance.body)) u) (use_by_data program.bodies.items instance)

module _ (p q : Program) (same : flat_program p ≡ flat_program q) where
  same_instances : map flat_instance p.instances.items ≡ map flat_instance q.instances.items
  same_instances = ap (λ (f : FlatProgram). f.instances) same

  same_leaves : map flat_leaf p.bodies.items ≡ map flat_leaf q.bodies.items
  same_leaves = ap (λ (f : FlatProgram). f.bodies) same

  pub same_labels : map (λ (i : Instance). i.label) p.instances.items ≡ map (λ (i : Instance). i.label) q.instances.items
  same_labels = map_by_parts (λ (i : Instance). i.label) flat_instance (λ (f : FlatInstance). f.label) (λ i. refl) p.instances.items q.instances.items same_instances

  same_tasks : map (λ (l : Leaf). l.name) p.bodies.items ≡ map (λ (l : Leaf). l.name) q.bodies.items
  same_tasks = map_by_parts (λ (l : Leaf). l.name) flat_leaf (λ (f : FlatLeaf). f.name) (λ l. refl) p.bodies.items q.bodies.items same_leaves

  same_names : names_of p ≡ names_of q
  same_names =
      ap (λ (l : List (List ℕ)). record { tasks = l; labels = map (λ (x : Instance). x.label) p.instances.items }) same_tasks
      ∙ ap (λ (l : List (List ℕ)). record { tasks = map (λ (l : Leaf). l.name) q.bodies.items; labels = l }) same_labels

  same_pins : (grid : Grid) (file : Json) → pins_of grid p file ≡ pins_of grid q file
  unfolding pins_of
  same_pins grid file = map_by_parts (λ (x : Instance). pin_of grid file x.label) (λ (x : Instance). x.label) (pin_of grid file) (λ x. refl) p.instances.items q.instances.items same_labels

  label_by_labels : (program : Program) (i : ℕ) → label_at program i ≡ option_map_or (λ (x : List ℕ). x) (slice_get (map (λ (x : Instance). x.label) program.instances.items) i) []
  unfolding label_at
  label_by_labels program i =
      or_by_parts (λ (x : Instance). x.label) (λ (x : Instance). x.label) (λ (x : List ℕ). x) [] (λ x. refl) (slice_get program.instances.items i)
      ∙ ap (λ (o : Option (List ℕ)). option_map_or (λ (x : List ℕ). x) o []) (sym (slice_get-map (λ (x : Instance). x.label) program.instances.items i))

  same_label : (i : ℕ) → label_at p i ≡ label_at q i
  same_label i =
      label_by_labels p i
      ∙ (ap (λ (labels : List (List ℕ)). option_map_or (λ (x : List ℕ). x) (slice_get labels i) []) same_labels ∙ sym (label_by_labels q i))

  same_count : length p.instances.items ≡ length q.instances.items
  same_count = sym (length-map p.instances.items flat_instance) ∙ (ap length same_instances ∙ length-map q.instances.items flat_instance)

  same_uses : (file : Json) → uses_of p file ≡ uses_of q file
  unfolding uses_of
  same_uses file =
      map_by_parts (use_in p file) flat_instance (flat_use_in file (map flat_leaf p.bodies.items)) (use_in_by_data p file) p.instances.items q.instances.items same_instances
      ∙ map_alike (use_in p file) (use_in q file)
      (λ x. use_in_by_data p file x
      ∙ (ap (λ (leaves : List FlatLeaf). flat_use_in file leaves (flat_instance x)) same_leaves ∙ sym (use_in_by_data q file x)))
      q.instances.items

  -- ---- faults and devices

  module _ (g h : Graph) (alike : AreAlikeGraphs g h) (file : Json) where
    same_elsewhere : elsewhere (grid_of file) p g file ≡ elsewhere (grid_of file) q h file
    unfolding elsewhere
    same_elsewhere =
        let tests : is_elsewhere (pins_of (grid_of file) p file) g.group.items ≡ is_elsewhere (pins_of (grid_of file) q file) h.group.items =
        ap (λ (pins : List (Option ℕ)). is_elsewhere pins g.group.items) (same_pins (grid_of file) file)
        ∙ ap (λ (group : List ℕ). is_elsewhere (pins_of (grid_of file) q file) group) alike.group in
        map_alike (label_at p) (label_at q) same_label (filter (is_elsewhere (pins_of (grid_of file) p file) g.group.items) (numbers (length p.instances.items)))
        ∙ (ap (λ (test : ℕ → Bool). map (label_at q) (filter test (numbers (length p.instances.items)))) tests
        ∙ ap (λ (n : ℕ). map (label_at q) (filter (is_elsewhere (pins_of (grid_of file) q file) h.group.items) (numbers n))) same_count)

    same_on_forbidden : on_forbidden (grid_of file) p file ≡ on_forbidden (grid_of file) q file
    unfolding on_forbidden
    same_on_forbidden =
        map_alike (label_at p) (label_at q) same_label
        (filter (λ i. is_pinned_at (is_forbidden (grid_of file) file) (pin_at (pins_of (grid_of file) p file) i)) (numbers (length p.instances.items)))
        ∙ (ap
        (λ (pins : List (Option ℕ)). map (label_at q) (filter (λ i. is_pinned_at (is_forbidden (grid_of file) file) (pin_at pins i)) (numbers (length p.instances.items))))
        (same_pins (grid_of file) file)
        ∙ ap
        (λ (n : ℕ). map (label_at q) (filter (λ i. is_pinned_at (is_forbidden (grid_of file) file) (pin_at (pins_of (grid_of file) q file) i)) (numbers n)))
        same_count)

    abbrev faults_by : Names → List (List ℕ) → List (List ℕ) → List Fault
    faults_by names apart closed =
        map Misshapen (misshapen names file)
        ++ (map Misfit (faulty Number names file (format_of file))
        ++ (map OutOfRange (faulty (Range (grid_of file)) names file (format_of file))
        ++ (map Unknown (faulty Name names file (format_of file)) ++ (map Elsewhere apart ++ map OnForbidden closed))))

    same_faults : faults p g file ≡ faults q h file
    unfolding faults
    same_faults =
        ap (λ (names : Names). faults_by names (elsewhere (grid_of file) p g file) (on_forbidden (grid_of file) p file)) same_names
        ∙ (ap (λ (apart : List (List ℕ)). faults_by (names_of q) apart (on_forbidden (grid_of file) p file)) same_elsewhere
        ∙ ap (λ (closed : List (List ℕ)). faults_by (names_of q) (elsewhere (grid_of file) q h file) closed) same_on_forbidden)

    meaning_over : (d : Device) → IsMeaning p g file d → IsMeaning q h file d
    meaning_over d m = record {
      rows = m.rows;
      cols = m.cols;
      levels_rows = m.levels_rows;
      levels_cols = m.levels_cols;
      percent = m.percent;
      slots = m.slots;
      uses = m.uses ∙ same_uses file;
      each_group = m.each_group ∙ alike.groups;
      pins = λ v s inside.
          subst (λ (pins : List (Option ℕ)). (get_or d.pins.items v None ≡ Some s) ↔ IsPinned pins h.group.items v s) (same_pins (grid_of file) file)
          (subst (λ (group : List ℕ). (get_or d.pins.items v None ≡ Some s) ↔ IsPinned (pins_of (grid_of file) p file) group v s) alike.group
          (m.pins v s (subst (λ (n : ℕ). v < n) (sym alike.groups) inside)));
      each_slot = m.each_slot;
      forbidden = m.forbidden;
    }

  module _ (g h : Graph) (alike : AreAlikeGraphs g h) (text : List ℕ) where
    pub device_over : (d : Device) → IsDeviceOf text p g d → IsDeviceOf text q h d
    device_over d is = record {
      file = is.file;
      is_json = is.is_json;
      faultless = sym (same_faults g h alike is.file) ∙ is.faultless;
      meaning = meaning_over g h alike is.file d is.meaning;
    }

    pub devices_alike : (d e : Device) → IsDeviceOf text p g d → IsDeviceOf text q h e → AreAlike d e
    devices_alike d e a b = one_device text q h d e (device_over d a) b

    pub fault_over : (fault : Fault) → IsFirstFault text p g fault → IsFirstFault text q h fault
    fault_over fault is = record { file = is.file; is_json = is.is_json; first = ap first (sym (same_faults g h alike is.file)) ∙ is.first }

    pub faults_alike : (fault other : Fault) → IsFirstFault text p g fault → IsFirstFault text q h other → fault ≡ other
    faults_alike fault other a b =
        let json : b.file ≡ a.file = one_json text b.file a.file b.is_json a.is_json in
        let here : first (faults q h a.file) ≡ Some other = subst (λ (file : Json). first (faults q h file) ≡ Some other) json b.first in
        let there : first (faults q h a.file) ≡ Some fault = ap first (sym (same_faults g h alike a.file)) ∙ a.first in
        same_Some fault other (sym there ∙ here)

    -- a file that gives a device has no fault
    pub never_faulty : (d : Device) (fault : Fault) → IsDeviceOf text p g d → IsFirstFault text q h fault → ⊥
    never_faulty d fault a b =
        let json : b.file ≡ a.file = one_json text b.file a.file b.is_json a.is_json in
        let here : first (faults q h a.file) ≡ Some fault = subst (λ (file : Json). first (faults q h file) ≡ Some fault) json b.first in
        let there : first (faults q h a.file) ≡ None = ap first (sym (same_faults g h alike a.file) ∙ a.faultless) in
        none-some fault (sym there ∙ here)

  -- a text that has a device's value is JSON
  pub always_json : (g : Graph) (text : List ℕ) (d : Device) → IsDeviceOf text p g d → ((file : Json) → IsJson text file → ⊥) → ⊥
  always_json g text d a none = none a.file a.is_json
