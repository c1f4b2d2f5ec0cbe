-- What a search through the lines of a module finds, and that it finds what is there.
use Rattle.std.proofs.Common.{◌≡◌, ℕ, ◌+◌, Bool, true, false, cond, ◌&&◌, List, [], ◌∷◌, Option, Some, None, inl, inr, refl, sym, ap, subst, ◌∙◌, map, arith}
use Rattle.std.specs.Prelude.{◌==◌, bytes_eq, is_some, count_by, not}
use Rattle.std.proofs.lemmas.Bool.Decides.{nat_tests}
use Rattle.std.specs.Option.{option_map}
use Rattle.std.specs.Cmp.Lexicographic.{bytes_decides}
use Rattle.vlog_tree.specs.declared.tree.Value.{Value}
use Rattle.vlog_tree.specs.declared.tree.Connection.{Connection}
use Rattle.vlog_tree.specs.declared.tree.Item.{Item}
use Rattle.vlog_tree.specs.declared.tree.Item.TheVariants.{Wire, Reg, Memory, Assign, Always, Instance}
use Rattle.vlog_tree.specs.declared.table.Declaration.{Declaration}
use Rattle.vlog_tree.specs.Form.{ModuleTree}
use Rattle.tapa_base.specs.Lists.{Has}
use Rattle.vlog_tree.specs.Table.{Name, port_declared, ports_of, net_kind_of, net_kind_is_input, one_if}
use Rattle.vlog_run_laws.proofs.runs.Alone.{same_name, count_cons}
use Rattle.vlog_run_laws.proofs.runs.Drivers.{IsDrivenBy}
use Rattle.vlog_values.specs.Scopes.{or_else}
use Rattle.vlog_ref_cycle.specs.Sources.{assigned_in, assigned, connection_out, output_in, output_of, connection_in, joined_in, joined_to}
use Rattle.vlog_ref_cycle.proofs.Options.{map_some, either_some}
use Rattle.tapa_base.proofs.Tests.{not_so as no_is, both_true, true_not_false}

pub some_not_none : {A : Type 0} (x : A) → Some x ≡ None → ⊥
some_not_none x h = cc

map_none : {A B : Type 0} (f : A → B) (o : Option A) → option_map f o ≡ None → o ≡ None
map_none f None h = refl
map_none f (Some x) h = cc

neither : {A : Type 0} (a b : Option A) → or_else a b ≡ None → (a ≡ None) × (b ≡ None)
neither None b h = (refl, h)
neither (Some x) b h = cc

passed_over : {A : Type 0} (b : Bool) (x : A) (o : Option A) → cond b (Some x) o ≡ None → (b ≡ false) × (o ≡ None)
passed_over true x o h = cc
passed_over false x o h = (refl, h)

-- a search that asks one line after the other
module _ {A B : Type 0} (search : List A → Option B) (one : A → Option B) (step : (a : A) (more : List A) → search (a ∷ more) ≡ or_else (one a) (search more)) where
  line_there : (xs : List A) (a : A) → Has xs a → (one a ≡ None → ⊥) → search xs ≡ None → ⊥
  line_there [] a h f e = absurd h
  line_there (x ∷ xs) a (inl s) f e = f (ap one (sym s) ∙ (neither (one x) (search xs) (sym (step x xs) ∙ e)).0)
  line_there (x ∷ xs) a (inr h) f e = line_there xs a h f (neither (one x) (search xs) (sym (step x xs) ∙ e)).1

  line_found : search [] ≡ None → (xs : List A) (y : B) → search xs ≡ Some y → (a : A) × Has xs a × (one a ≡ Some y)
  line_found none [] y e = absurd (some_not_none y (sym e ∙ none))
  line_found none (x ∷ xs) y e = elim (either_some (one x) (search xs) y (sym (step x xs) ∙ e)) [
    | inl f ↦ (x, inl refl, f)
    | inr f ↦ (let r = line_found none xs y f in (r.0, inr r.1, r.2))
  ]

-- a search for the first that passes a test
module _ {A B : Type 0} (search : List A → Option B) (test : A → Bool) (get : A → B) (step : (a : A) (more : List A) → search (a ∷ more) ≡ cond (test a) (Some (get a)) (search more)) where
  first_there : (xs : List A) (a : A) → Has xs a → test a ≡ true → search xs ≡ None → ⊥
  first_there [] a h t e = absurd h
  first_there (x ∷ xs) a (inl s) t e = true_not_false (sym (ap test s ∙ t) ∙ (passed_over (test x) (get x) (search xs) (sym (step x xs) ∙ e)).0)
  first_there (x ∷ xs) a (inr h) t e = first_there xs a h t (passed_over (test x) (get x) (search xs) (sym (step x xs) ∙ e)).1

  found_step : (x : A) (xs : List A) (y : B) (b : Bool) → test x ≡ b → (search xs ≡ Some y → (a : A) × Has xs a × (test a ≡ true) × (get a ≡ y)) → cond b (Some (get x)) (search xs) ≡ Some y → (a : A) × Has (x ∷ xs) a × (test a ≡ true) × (get a ≡ y)
  found_step x xs y true t f e = (x, inl refl, t, cc)
  found_step x xs y false t f e = let r = f e in (r.0, inr r.1, r.2, r.3)

  first_found : search [] ≡ None → (xs : List A) (y : B) → search xs ≡ Some y → (a : A) × Has xs a × (test a ≡ true) × (get a ≡ y)
  first_found none [] y e = absurd (some_not_none y (sym e ∙ none))
  first_found none (x ∷ xs) y e = found_step x xs y (test x) refl (first_found none xs y) (sym (step x xs) ∙ e)

pub assigned_there : (items : List Item) (x : Name) (e : Value) → Has items (Assign x e) → assigned items x ≡ None → ⊥
assigned_there items x e has =
    line_there (λ its. assigned its x) (λ it. assigned_in it x) (λ a more. refl) items (Assign x e) has
    (λ h. some_not_none e (sym (ap (λ b. cond b (Some e) None) (same_name x)) ∙ h))

abbrev drives_it : List Declaration → Name → Connection → Bool
drives_it ports x l = bytes_eq l.net x && not (net_kind_is_input (net_kind_of ports l.port))

drives : (ports : List Declaration) (l : Connection) → net_kind_is_input (net_kind_of ports l.port) ≡ false → drives_it ports l.net l ≡ true
drives ports l e = ap (λ b. b && not (net_kind_is_input (net_kind_of ports l.port))) (same_name l.net) ∙ ap (λ b. not b) e

pub output_there : (ms : List ModuleTree) (items : List Item) (x i p : Name) → IsDrivenBy ms items x i p → output_of ms items x ≡ None → ⊥
output_there ms items x i p d =
    let ports = map port_declared (ports_of ms d.kn) in
    line_there (λ its. output_of ms its x) (λ it. output_in ms it x) (λ a more. refl) items (Instance d.kn i d.connections) d.has
    (λ h.
    first_there (λ ls. connection_out ports ls x) (drives_it ports x) (λ (l : Connection). l.port) (λ a more. refl) d.connections d.connection d.connected
    (subst (λ z. drives_it ports z d.connection ≡ true) d.net (drives ports d.connection d.output)) (map_none (λ (q : Name). (i, q)) (connection_out ports d.connections x) h))

output_item : (ms : List ModuleTree) (items : List Item) (x : Name) (p : Name × Name) (it : Item) → Has items it → output_in ms it x ≡ Some p → IsDrivenBy ms items x p.0 p.1
output_item ms items x p (Instance kn i connections) has h =
    let ports = map port_declared (ports_of ms kn) in
    let t = map_some (λ (q : Name). (i, q)) (connection_out ports connections x) p h in
    let f = first_found (λ ls. connection_out ports ls x) (drives_it ports x) (λ (l : Connection). l.port) (λ a more. refl) refl connections t.0 t.1 in
    let b = both_true (bytes_eq f.0.net x) (not (net_kind_is_input (net_kind_of ports f.0.port))) f.2 in
    subst (λ z. IsDrivenBy ms items x z.0 z.1) t.2
    (record {
      kn = kn;
      connections = connections;
      has = has;
      connection = f.0;
      connected = f.1;
      net = (bytes_decides f.0.net x).0 b.0;
      port = f.3;
      output = no_is (net_kind_is_input (net_kind_of ports f.0.port)) b.1;
    })
output_item ms items x p (Wire w y) has h = cc
output_item ms items x p (Reg w y) has h = cc
output_item ms items x p (Memory w y n) has h = cc
output_item ms items x p (Assign y e) has h = cc
output_item ms items x p (Always b) has h = cc

pub output_found : (ms : List ModuleTree) (items : List Item) (x : Name) (p : Name × Name) → output_of ms items x ≡ Some p → IsDrivenBy ms items x p.0 p.1
output_found ms items x p h = let t = line_found (λ its. output_of ms its x) (λ it. output_in ms it x) (λ a more. refl) refl items p h in output_item ms items x p t.0 t.1 t.2

unconnected : (connections : List Connection) (x : Name) → connection_in connections x ≡ None → count_by (λ (l : Connection). bytes_eq l.port x) connections ≡ 0
unconnected [] x h = refl
unconnected (l ∷ connections) x h =
    let t = passed_over (bytes_eq l.port x) l.net (connection_in connections x) h in
    let c : count_by (λ (l : Connection). bytes_eq l.port x) (l ∷ connections) ≡ 0 + count_by (λ (l : Connection). bytes_eq l.port x) connections =
    count_cons (λ (l : Connection). bytes_eq l.port x) l connections ∙ ap (λ b. one_if b + count_by (λ (l : Connection). bytes_eq l.port x) connections) t.0 in
    let none : count_by (λ (l : Connection). bytes_eq l.port x) connections ≡ 0 = unconnected connections x t.1 in
    omega arith

not_one : (n : ℕ) → n ≡ 0 → (n == 1) ≡ true → ⊥
not_one n e h = grind (arith, nat_tests)

pub joined_there : (items : List Item) (kn i : Name) (connections : List Connection) → Has items (Instance kn i connections) → (x : Name) → (count_by (λ (l : Connection). bytes_eq l.port x) connections == 1) ≡ true → joined_to items i x ≡ None → ⊥
joined_there items kn i connections has x one =
    line_there (λ its. joined_to its i x) (λ it. joined_in it i x) (λ a more. refl) items (Instance kn i connections) has
    (λ h. not_one (count_by (λ (l : Connection). bytes_eq l.port x) connections) (unconnected connections x (sym (ap (λ b. cond b (connection_in connections x) None) (same_name i)) ∙ h)) one)
