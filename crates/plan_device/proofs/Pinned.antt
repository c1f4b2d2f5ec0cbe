-- A table of the pins of groups, after the first instances.
use Rattle.std.proofs.Common.{◌≡◌, ℕ, zero, suc, ◌+◌, ◌<◌, ◌≤◌, ◌==◌, List, [], ◌∷◌, length, get_or, set, replicate, filter, map, All, IfSome, option_map, codes, Bool, true, false, ◌&&◌, Option, Some, None, slice_index, refl, sym, ap, subst, ◌∙◌, inl, inr, arith}
use Rattle.std.proofs.lemmas.Bool.Decides.{nat_tests}
use Rattle.std.proofs.lemmas.List.{get_or-set_same, get_or-set_other, length-map}
use Rattle.serde_json.specs.Data.{Data as Json}
use Rattle.tapa_syntax.specs.declared.program.Instance.{Instance}
use Rattle.tapa_syntax.specs.declared.program.Program.{Program}
use Rattle.task_graph.specs.declared.Graph.{Graph}
use Rattle.std.specs.List.{list_any}
use Rattle.serde_json.specs.Find.{get}
use Rattle.run_data.specs.Data.{items_at}
use Rattle.run_data.specs.Seen.{first}
use Rattle.run_data.proofs.Lists.{first-map}
use Rattle.plan_device.specs.declared.grid.Grid.{Grid}
use Rattle.plan_device.proofs.Lists.{filter_same}
use Rattle.plan_device.specs.GroupPins.{ArePins, first_elsewhere, IsFreeFor, IsTakenFrom}
use Rattle.plan_device.specs.Pins.{pin_at, differ, is_elsewhere, numbers, is_place_of, is_pinned_at, pin_of, pins_of, label_at, elsewhere, is_forbidden, on_forbidden}
use Rattle.plan_device.proofs.Numbers.{last_or_before, same_or_other, none_of_numbers, first_of_numbers, any_of_numbers, not_of_numbers}
use Rattle.plan_device.proofs.Asked.{no_and as and_false}

-- each group's pin is that of an instance before i, and each pin before i is its group's
pub record IsTable (group : List ℕ) (pins : List (Option ℕ)) (slots : List (Option ℕ)) (i : ℕ) : Type 0 where
  pub from : (g s : ℕ) → get_or slots g None ≡ Some s → (j : ℕ) × (j < i) × (slice_index group j ≡ g) × (pin_at pins j ≡ Some s)
  pub agree : (j s : ℕ) → j < i → pin_at pins j ≡ Some s → get_or slots (slice_index group j) None ≡ Some s

not_apart : (a b : ℕ) (x y : Option ℕ) → ((s t : ℕ) → a ≡ b → x ≡ Some s → y ≡ Some t → s ≡ t) → ((a == b) && differ x y) ≡ false
not_apart a b None y h = and_false (a == b)
not_apart a b (Some s) None h = and_false (a == b)
not_apart a b (Some s) (Some t) h = elim (same_or_other a b) [
  | inl e ↦ let is : s ≡ t = h s t e refl refl in grind (arith, nat_tests)
  | inr n ↦ grind (arith, nat_tests)
]

apart : (a b : ℕ) (x y : Option ℕ) (s t : ℕ) → a ≡ b → x ≡ Some s → y ≡ Some t → (s ≡ t → ⊥) → ((a == b) && differ x y) ≡ true
apart a b x y s t e is_s is_t other = rw (is_s, is_t) (grind (arith, nat_tests))

free_same : {slot s : ℕ} {was : Option ℕ} → IsFreeFor slot was → was ≡ Some s → Some slot ≡ Some s
free_same (inl none) is = absurd (let never : None ≡ Some _ = sym none ∙ is in cc)
free_same (inr same) is = sym same ∙ is

nowhere : (groups g s : ℕ) → get_or (replicate groups None) g None ≡ Some s → ⊥
nowhere zero g s e = cc
nowhere (suc groups) zero s e = cc
nowhere (suc groups) (suc g) s e = nowhere groups g s e

module _ (group : List ℕ) (pins : List (Option ℕ)) where
  pub no_pins : (groups : ℕ) → IsTable group pins (replicate groups None) 0
  no_pins groups = record {
    from = λ g s e. absurd (nowhere groups g s e);
    agree = λ j s less pin. absurd (omega arith);
  }

  pub table_same : (slots : List (Option ℕ)) (i : ℕ) → pin_at pins i ≡ None → IsTable group pins slots i → IsTable group pins slots (i + 1)
  table_same slots i free t = record {
    from = λ g s e. let (j, less, is, pin) = t.from g s e in (j, omega arith, is, pin);
    agree = λ j s less pin. elim (last_or_before j i (omega arith)) [ inl before ↦ t.agree j s before pin | inr is ↦ let never : None ≡ Some s = sym free ∙ ap (pin_at pins) (sym is) ∙ pin in absurd (cc) ];
  }

  pub table_set : (slots : List (Option ℕ)) (i slot : ℕ) → slice_index group i < length slots → pin_at pins i ≡ Some slot → IsFreeFor slot (get_or slots (slice_index group i) None) → IsTable group pins slots i
      → IsTable group pins (set slots (slice_index group i) (Some slot)) (i + 1)
  table_set slots i slot inside here free t = record {
    from = λ g s e. elim (same_or_other g (slice_index group i)) [
      | inl is ↦
          let here_slot : Some slot ≡ Some s = sym (get_or-set_same slots (slice_index group i) (Some slot) None inside) ∙ ap (λ h. get_or (set slots (slice_index group i) (Some slot)) h None) (sym is) ∙ e in
          (i, omega arith, sym is, here ∙ here_slot)
      | inr other ↦
          let (j, less, is, pin) = t.from g s (sym (get_or-set_other slots (slice_index group i) g (Some slot) None other) ∙ e) in (j, omega arith, is, pin)
    ];
    agree = λ j s less pin. elim (last_or_before j i (omega arith)) [
      | inl before ↦ elim (same_or_other (slice_index group j) (slice_index group i)) [
        | inl is ↦
            let was : get_or slots (slice_index group i) None ≡ Some s = ap (λ h. get_or slots h None) (sym is) ∙ t.agree j s before pin in
            ap (λ h. get_or (set slots (slice_index group i) (Some slot)) h None) is ∙ get_or-set_same slots (slice_index group i) (Some slot) None inside ∙ free_same free was
        | inr other ↦ get_or-set_other slots (slice_index group i) (slice_index group j) (Some slot) None other ∙ t.agree j s before pin
      ]
      | inr is ↦ ap (λ k. get_or (set slots (slice_index group i) (Some slot)) (slice_index group k) None) is ∙ get_or-set_same slots (slice_index group i) (Some slot) None inside ∙ sym here ∙ ap (pin_at pins) (sym is) ∙ pin
    ];
  }

  pub none_elsewhere : (slots : List (Option ℕ)) (i : ℕ) → IsTable group pins slots i → (j : ℕ) → j < i → is_elsewhere pins group j ≡ false
  unfolding is_elsewhere
  none_elsewhere slots i t j less = not_of_numbers _ j (λ k before. not_apart (slice_index group k) (slice_index group j) (pin_at pins k) (pin_at pins j) (λ s u same is_s is_u.
      let both : Some s ≡ Some u = sym (t.agree k s (omega arith) is_s) ∙ ap (λ h. get_or slots h None) same ∙ t.agree j u less is_u in cc))

  pub here_elsewhere : (slots : List (Option ℕ)) (i slot : ℕ) → IsTable group pins slots i → pin_at pins i ≡ Some slot → IsTakenFrom slot (get_or slots (slice_index group i) None) → is_elsewhere pins group i ≡ true
  unfolding is_elsewhere
  here_elsewhere slots i slot t here taken =
      let (s, is, other) = taken in
      let (j, less, same, pin) = t.from (slice_index group i) s is in
      any_of_numbers _ i j less (apart (slice_index group j) (slice_index group i) (pin_at pins j) (pin_at pins i) s slot same pin here other)

  pub first_is_elsewhere : (slots : List (Option ℕ)) (i slot : ℕ) → i < length group → IsTable group pins slots i → pin_at pins i ≡ Some slot → IsTakenFrom slot (get_or slots (slice_index group i) None) → first_elsewhere group pins ≡ Some i
  first_is_elsewhere slots i slot inside t here taken = first_of_numbers (is_elsewhere pins group) (length group) i inside (none_elsewhere slots i t) (here_elsewhere slots i slot t here taken)

  pub nowhere_elsewhere : (slots : List (Option ℕ)) (i : ℕ) → length group ≤ i → IsTable group pins slots i → first_elsewhere group pins ≡ None
  nowhere_elsewhere slots i over t = ap first (none_of_numbers (is_elsewhere pins group) (length group) (λ j less. none_elsewhere slots i t j (omega arith)))

  pub are_pins : (slots : List (Option ℕ)) (groups i : ℕ) → length slots ≡ groups → i ≡ length group → IsTable group pins slots i → ArePins groups group pins slots
  are_pins slots groups i as_many over t = record {
    as_many = as_many;
    pinned = λ g s inside. (
      λ e. (let (j, less, is, pin) = t.from g s e in (j, omega arith, is, pin)),
      λ where_pinned. (let (j, less, is, pin) = where_pinned in ap (λ h. get_or slots h None) (sym is) ∙ t.agree j s (omega arith) pin),
    );
  }

-- ---- the pins of instances, by what the code finds

first_label : (program : Program) (p : ℕ → Bool) (n : ℕ) → first (map (label_at program) (filter p (numbers n))) ≡ option_map (label_at program) (first (filter p (numbers n)))
first_label program p n = first-map (label_at program) (filter p (numbers n))

pub first_of_elsewhere : (grid : Grid) (program : Program) (graph : Graph) (file : Json) → length program.instances.items ≡ length graph.group.items
    → first (elsewhere grid program graph file) ≡ option_map (label_at program) (first_elsewhere graph.group.items (pins_of grid program file))
unfolding elsewhere
first_of_elsewhere grid program graph file as_many =
    first_label program (is_elsewhere (pins_of grid program file) graph.group.items) (length program.instances.items)
    ∙ ap (λ n. option_map (label_at program) (first (filter (is_elsewhere (pins_of grid program file) graph.group.items) (numbers n)))) as_many

pinned_alike : (marks : List Bool) (test : ℕ → Bool) (n : ℕ) (pin : Option ℕ) → IfSome pin (λ s. s < n) → ((s : ℕ) → s < n → get_or marks s false ≡ test s) → is_pinned_at (λ s. get_or marks s false) pin ≡ is_pinned_at test pin
pinned_alike marks test n None inside same = refl
pinned_alike marks test n (Some s) inside same = same s inside

pin_inside : (pins : List (Option ℕ)) (n i : ℕ) → All (λ pin. IfSome pin (λ s. s < n)) pins → IfSome (pin_at pins i) (λ s. s < n)
pin_inside [] n i inside = tt
pin_inside (pin ∷ pins) n zero inside = inside 0 None (omega arith)
pin_inside (pin ∷ pins) n (suc i) inside = pin_inside pins n i (λ k d less. inside (suc k) d (omega arith))

pub as_many_pins : (grid : Grid) (program : Program) (file : Json) → length (pins_of grid program file) ≡ length program.instances.items
unfolding pins_of
as_many_pins grid program file = length-map program.instances.items (λ (x : Instance). pin_of grid file x.label)

pub first_of_forbidden : (grid : Grid) (program : Program) (file : Json) (marks : List Bool) (n : ℕ) → All (λ pin. IfSome pin (λ s. s < n)) (pins_of grid program file) → ((s : ℕ) → s < n → get_or marks s false ≡ is_forbidden grid file s)
    → first (on_forbidden grid program file) ≡ option_map (label_at program) (first (filter (λ i. is_pinned_at (λ s. get_or marks s false) (pin_at (pins_of grid program file) i)) (numbers (length (pins_of grid program file)))))
unfolding on_forbidden
first_of_forbidden grid program file marks n inside same =
    first_label program (λ i. is_pinned_at (is_forbidden grid file) (pin_at (pins_of grid program file) i)) (length program.instances.items)
    ∙ ap (λ m. option_map (label_at program) (first (filter (λ i. is_pinned_at (is_forbidden grid file) (pin_at (pins_of grid program file) i)) (numbers m)))) (sym (as_many_pins grid program file))
    ∙ ap (λ l. option_map (label_at program) (first l)) (filter_same (λ i. is_pinned_at (is_forbidden grid file) (pin_at (pins_of grid program file) i)) (λ i. is_pinned_at (λ s. get_or marks s false) (pin_at (pins_of grid program file) i)) (λ i. sym (pinned_alike marks (is_forbidden grid file) n (pin_at (pins_of grid program file) i) (pin_inside (pins_of grid program file) n i inside) same)) (numbers (length (pins_of grid program file))))

pub are_pins_of : (grid : Grid) (program : Program) (file : Json) (pins : List (Option ℕ)) (instances : List Instance) → instances ≡ program.instances.items → pins ≡ map (λ (x : Instance). pin_of grid file x.label) instances → pins ≡ pins_of grid program file
unfolding pins_of
are_pins_of grid program file pins instances all is = rw (is, all)

within_of_get : (slots : List (Option ℕ)) (g s : ℕ) → get_or slots g None ≡ Some s → g < length slots
within_of_get [] g s e = cc
within_of_get (x ∷ slots) zero s e = omega arith
within_of_get (x ∷ slots) (suc g) s e = let h = within_of_get slots g s e in omega arith

-- the pin of a group is a slot, as those of instances are
pub pinned_inside : (groups n : ℕ) (group : List ℕ) (pins slots : List (Option ℕ)) → ArePins groups group pins slots → All (λ pin. IfSome pin (λ s. s < n)) pins → (g s : ℕ) → get_or slots g None ≡ Some s → s < n
pinned_inside groups n group pins slots are inside g s e =
    let within = within_of_get slots g s e in
    let (i, less, same, pin) = (are.pinned g s (subst (λ m. g < m) are.as_many within)).0 e in
    subst (λ p. IfSome p (λ t. t < n)) pin (pin_inside pins n i inside)

pub forbidden_by : (grid : Grid) (file : Json) (s : ℕ) (found : Option Json) (values : List Json) → found ≡ get (codes "forbidden") file → values ≡ items_at found → list_any (is_place_of grid s) values ≡ is_forbidden grid file s
unfolding is_forbidden
forbidden_by grid file s found values is all = rw (all, is)

pub label_of_forbidden : (grid : Grid) (program : Program) (file : Json) (marks : List Bool) (n : ℕ) (pins : List (Option ℕ)) (found : Option ℕ) → pins ≡ pins_of grid program file → All (λ pin. IfSome pin (λ s. s < n)) pins
    → ((s : ℕ) → s < n → get_or marks s false ≡ is_forbidden grid file s) → found ≡ first (filter (λ i. is_pinned_at (λ s. get_or marks s false) (pin_at pins i)) (numbers (length pins))) → option_map (label_at program) found ≡ first (on_forbidden grid program file)
label_of_forbidden grid program file marks n pins found is inside same found_is =
    ap (option_map (label_at program)) (found_is ∙ ap (λ (p : List (Option ℕ)). first (filter (λ i. is_pinned_at (λ s. get_or marks s false) (pin_at p i)) (numbers (length p)))) is)
    ∙ sym (first_of_forbidden grid program file marks n (subst (λ (p : List (Option ℕ)). All (λ pin. IfSome pin (λ s. s < n)) p) is inside) same)

pub label_of_elsewhere : (grid : Grid) (program : Program) (graph : Graph) (file : Json) (group : List ℕ) (pins : List (Option ℕ)) (found : Option ℕ) → length program.instances.items ≡ length graph.group.items → group ≡ graph.group.items → pins ≡ pins_of grid program file
    → first_elsewhere group pins ≡ found → option_map (label_at program) found ≡ first (elsewhere grid program graph file)
label_of_elsewhere grid program graph file group pins found as_many is_group is_pins is =
    ap (option_map (label_at program)) (sym is ∙ ap (λ (l : List ℕ). first_elsewhere l pins) is_group ∙ ap (first_elsewhere graph.group.items) is_pins)
    ∙ sym (first_of_elsewhere grid program graph file as_many)

pub pins_of_graph : (groups : ℕ) (group group' : List ℕ) (pins pins' slots : List (Option ℕ)) → group ≡ group' → pins ≡ pins' → ArePins groups group pins slots → ArePins groups group' pins' slots
pins_of_graph groups group group' pins pins' slots is_group is_pins are = subst (λ (l : List ℕ). ArePins groups l pins' slots) is_group (subst (λ (p : List (Option ℕ)). ArePins groups group p slots) is_pins are)

pub nothing_of : (pin : Option ℕ) → ((s : ℕ) → pin ≡ Some s → ⊥) → pin ≡ None
nothing_of None h = refl
nothing_of (Some s) h = absurd (h s refl)
