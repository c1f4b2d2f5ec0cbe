-- A circuit is a design.
use Rattle.std.proofs.Common.{◌≡◌, ℕ, Bool, true, false, cond, eqb, ◌&&◌, List, [], ◌∷◌, ◌++◌, length, map, Some, None, inl, inr, refl, sym, ap, subst, ◌∙◌, ⊎_elim}
use Rattle.std.specs.Prelude.{◌⊎◌, bytes_eq, not, slice_get}
use Rattle.std.specs.List.{flat_map}
use Rattle.std.specs.Option.{option_map_or}
use Rattle.std.specs.Cmp.Lexicographic.{bytes_decides}
use Rattle.std.proofs.lemmas.Bool.{false_from_ne_true}
use Rattle.tapa_syntax.specs.declared.program.Program.{Program}
use Rattle.task_fsm.specs.declared.machine.Fsm.{Fsm}
use Rattle.vlog_tree.specs.declared.table.Declaration.{Declaration}
use Rattle.vlog_tree.specs.Form.{ModuleTree, IsModule}
use Rattle.tapa_base.specs.Lists.{Has}
use Rattle.vlog_tree.specs.Table.{Name, NameUse, port_declared, first_violation}
use Rattle.vlog_tree.specs.V6.{roots, first_name, is_top, top_ports, clock_connections, is_whole_top, module_tops, v6_uses}
use Rattle.tapa_base.proofs.Lists.{has_split, of_flat}
use Rattle.vlog_module_laws.specs.Larger.{IsRightBeside}
use Rattle.vlog_module_laws.proofs.Larger.{front_within, stays_right, sound_of}
use Rattle.vlog_module_laws.proofs.Lists.{all_right}
use Rattle.hw_build.specs.Fits.{AreOnce}
use Rattle.hw_channel_laws.proofs.modules.Together.{single}
use Rattle.hw_top_laws.specs.joins.Joins.{port_names}
use Rattle.hw_top_lines.specs.Designs.{design_tree}
use Rattle.hw_top_lines.specs.Legal.{IsReady}
use Rattle.hw_top_lines.specs.Texts.{top_tree}
use Rattle.hw_top_laws.specs.modules.Lower.{lower_modules, KeepPromises}
use Rattle.hw_top_laws.proofs.modules.Lower.{lower_form, lower_right, no_top, ports_once}
use Rattle.hw_top_laws.proofs.form.Whole.{tops_are_right, tops_are_modules}
use Rattle.hw_top_laws.specs.design.Order.{AreBelow}
use Rattle.hw_top_laws.proofs.design.Chains.{top_title, top_there, all_apart}
use Rattle.hw_top_laws.proofs.design.OrderWhole.{designs_are_loopless}
use Rattle.hw_top_laws.proofs.design.Outside.{scalar_long, memory_long}
use Rattle.hw_top_laws.specs.design.Design.{DesignsAreSound, OutsidesAreRight, DesignsAreLegal}
use Rattle.hw_top_laws.proofs.design.Clocks.{IsKept, top_clocks, lower_clocks}
use Rattle.hw_top_laws.proofs.design.Fits.{has_clock, has_reset, has_done, top_ports_kept}
use Rattle.hw_top_laws.proofs.design.Roots.{one_root}
use Rattle.vlog_module_laws.proofs.Forms.{itself as same_name}
use Rattle.tapa_base.proofs.Got.{all_from}

pub last_there : (xs : List ModuleTree) (x : ModuleTree) → slice_get (xs ++ x ∷ []) (length xs) ≡ Some x
last_there [] x = refl
last_there (y ∷ xs) x = last_there xs x

module _ (program : Program) (machines : List Fsm) (added : List ℕ) (ready : IsReady program machines added) (kept : KeepPromises program machines) where
  abbrev lower : List ModuleTree
  lower = lower_modules program machines added

  abbrev tree : ModuleTree
  tree = top_tree program added

  abbrev all : List ModuleTree
  all = design_tree program machines added

  -- ---- names, widths and drivers

  right_in_all : (m : ModuleTree) → Has all m → IsRightBeside lower m → IsRightBeside all m
  right_in_all m h r = stays_right lower all m (front_within lower (tree ∷ [])) r (single all (all_apart program machines added ready kept) m h)

  right_by : (m : ModuleTree) → Has all m → Has lower m ⊎ Has (tree ∷ []) m → IsRightBeside all m
  right_by m h (inl l) = right_in_all m h (lower_right program machines added ready kept m l)
  right_by m h (inr (inl s)) = subst (IsRightBeside all) s (right_in_all tree (top_there program machines added ready kept) (tops_are_right program machines added ready kept))
  right_by m h (inr (inr z)) = absurd z

  form_by : (m : ModuleTree) → Has lower m ⊎ Has (tree ∷ []) m → IsModule m
  form_by m (inl l) = lower_form program machines added ready kept m l
  form_by m (inr (inl s)) = subst IsModule s (tops_are_modules program machines added ready kept)
  form_by m (inr (inr z)) = absurd z

  -- ---- which module is the top

  abbrev named_so : Name → List ModuleTree → Bool
  named_so x ms = option_map_or (λ y. bytes_eq y x) (first_name ms) false

  pub below : AreBelow (is_top all) lower
  below m h =
      ap (named_so m.name) (one_root program machines added ready kept)
      ∙ false_from_ne_true (bytes_eq tree.name m.name)
      (λ e. no_top program machines added ready kept m h (sym ((bytes_decides tree.name m.name).0 e) ∙ top_title program machines added ready kept))

  top_is_top : is_top all tree.name ≡ true
  top_is_top = ap (named_so tree.name) (one_root program machines added ready kept) ∙ same_name tree.name

  -- ---- the outside

  once : AreOnce (port_names tree.ports)
  once x = ports_once lower tree (tops_are_right program machines added ready kept) x

  abbrev table : List Declaration
  table = map port_declared tree.ports

  ports_kept : (u : NameUse) → Has (top_ports table [] tree.ports) u → IsKept u
  ports_kept u h = top_ports_kept program added once (scalar_long program machines added ready kept) (memory_long program machines added ready kept) u h

  whole_top : is_whole_top all table ≡ true
  unfolding is_whole_top
  whole_top =
      let c = has_clock program added once (scalar_long program machines added ready kept) (memory_long program machines added ready kept) in
      let r = has_reset program added once (scalar_long program machines added ready kept) (memory_long program machines added ready kept) in
      let d = has_done program added once (scalar_long program machines added ready kept) (memory_long program machines added ready kept) in
      let one : eqb (length (roots all)) 1 ≡ true = ap (λ (l : List ModuleTree). eqb (length l) 1) (one_root program machines added ready kept) in
      rw (one, c, r, d) refl

  lower_kept : (m : ModuleTree) → Has lower m → (u : NameUse) → Has (module_tops all m) u → IsKept u
  unfolding module_tops
  lower_kept m h u (inl e) = subst IsKept e (ap (λ b. b && not (is_whole_top all (map port_declared m.ports))) (below m h))
  lower_kept m h u (inr k) =
      ⊎_elim (λ l. absurd (subst (λ b. Has (cond b (top_ports (map port_declared m.ports) [] m.ports) []) u) (below m h) l)) (λ c. lower_clocks program machines added ready kept m h u c)
      (has_split (cond (is_top all m.name) (top_ports (map port_declared m.ports) [] m.ports) []) (flat_map clock_connections m.items) u k)

  top_kept : (u : NameUse) → Has (module_tops all tree) u → IsKept u
  unfolding module_tops
  top_kept u (inl e) = subst IsKept e (ap (λ b. b && not (is_whole_top all table)) top_is_top ∙ ap not whole_top)
  top_kept u (inr k) =
      ⊎_elim (λ l. ports_kept u (subst (λ b. Has (cond b (top_ports table [] tree.ports) []) u) top_is_top l)) (λ c. top_clocks program machines added ready kept u c)
      (has_split (cond (is_top all tree.name) (top_ports table [] tree.ports) []) (flat_map clock_connections tree.items) u k)

  kept_by : (m : ModuleTree) → Has lower m ⊎ Has (tree ∷ []) m → (u : NameUse) → Has (module_tops all m) u → IsKept u
  kept_by m (inl l) u h = lower_kept m l u h
  kept_by m (inr (inl s)) u h = top_kept u (subst (λ q. Has (module_tops all q) u) (sym s) h)
  kept_by m (inr (inr z)) u h = absurd z

  pub outside : first_violation (v6_uses all) ≡ None
  outside = all_right (v6_uses all) (λ u h. let t = of_flat (module_tops all) all u h in kept_by t.0 (has_split lower (tree ∷ []) t.0 t.1) u t.2)

pub designs_are_sound : DesignsAreSound
designs_are_sound program machines added ready kept =
    let lower = lower_modules program machines added in
    let tree = top_tree program added in
    sound_of (design_tree program machines added) (λ m h. right_by program machines added ready kept m h (has_split lower (tree ∷ []) m h))

pub outsides_are_right : OutsidesAreRight
outsides_are_right program machines added ready kept = outside program machines added ready kept

pub designs_are_legal : DesignsAreLegal
designs_are_legal program machines added ready kept =
    let lower = lower_modules program machines added in
    let tree = top_tree program added in
    let all = design_tree program machines added in
    record {
      form = all_from IsModule all (λ m h. form_by program machines added ready kept m (has_split lower (tree ∷ []) m h));
      sound = designs_are_sound program machines added ready kept;
      loopless = designs_are_loopless program machines added ready kept (is_top all) (below program machines added ready kept);
      outside = outside program machines added ready kept;
      one_top = (tree, last_there lower tree, one_root program machines added ready kept);
    }
