-- The dump of a design in an environment that fits it is a value change dump, and shows the numbers of its nets in the run.
use Rattle.std.proofs.Common.{◌≡◌, ℕ, zero, suc, ◌+◌, ◌^◌, ◌<◌, ◌≤◌, Bool, true, false, ◌&&◌, cond, List, [], ◌∷◌, ◌++◌, length, map, Option, Some, inl, inr, refl, sym, ap, subst, ◌∙◌, arith, ⊎_elim}
use Rattle.std.specs.Prelude.{not, if◌then◌else◌, ◌==◌, bytes_eq, count_by, nat_le, slice_get}
use Rattle.std.specs.Cmp.Lexicographic.{bytes_decides}
use Rattle.std.specs.List.{filter, list_all}
use Rattle.std.proofs.lemmas.Bool.{and_parts}
use Rattle.std.proofs.lemmas.Option.{same_Some, slice_get_within}
use Rattle.tapa_base.specs.Lists.{Has}
use Rattle.tapa_base.proofs.Lists.{has_got, has_split, of_map}
use Rattle.vlog_tree.specs.declared.table.Declaration.{Declaration}
use Rattle.vlog_tree.specs.declared.tree.Item.{Item}
use Rattle.vlog_tree.specs.declared.tree.Item.TheVariants.{Wire, Reg, Memory, Assign, Always, Instance}
use Rattle.vlog_tree.specs.Cycle.{Cycle}
use Rattle.vlog_tree.specs.Environment.{Environment, RunsIn, shape_of}
use Rattle.vlog_tree.specs.Form.{ModuleTree, IsModule, is_item, is_port, is_connection, is_step, is_value, nested}
use Rattle.vlog_tree.specs.Names.{is_name, IsName}
use Rattle.vlog_tree.specs.Refused.{IsDesign}
use Rattle.vlog_tree.specs.Table.{Name, declared, items_declared, port_declared, bits_of}
use Rattle.vlog_run_laws.proofs.runs.Alone.{same_name, count_cons, below_two, declared_once}
use Rattle.vlog_run_laws.proofs.runs.Sizes.{declared_bits}
use Rattle.vlog_run_laws.proofs.widths.Fitting.{run_fits}
use Rattle.vlog_run_laws.proofs.widths.Ruled.{net_width}
use Rattle.vlog_design.specs.Designs.{DesignTree}
use Rattle.sim_flat.proofs.Once.{position_once}
use Rattle.cycle_sim.specs.ShownNets.{is_shown, shown_nets}
use Rattle.cycle_sim.specs.Sims.{last_cycle}
use Rattle.cycle_sim.proofs.Showing.{shown_read}
use Rattle.vcd_text.specs.Nets.{Net}
use Rattle.vcd_text.specs.Dump.{AreNets, AreValues, IsDumpOf, IsSameDump}
use Rattle.vcd_text.specs.NetLines.{value_line, value_lines, IsNetShown}
use Rattle.vcd_text.proofs.OneDump.{one_dump}
use Rattle.sim_output.specs.Dumped.{net_of, nets_of, values_in, IsDumped}
use Rattle.sim_output.specs.DumpLaws.{FitsDesign, DumpsAreDumps, DumpsShowTheRun}
use Rattle.sim_output.proofs.Turning.{net_here, name_here}
use Rattle.tapa_base.proofs.Got.{all_at}
use Rattle.vlog_run_laws.proofs.loops.Plain.{list_has as all_here}

-- ---- what a module declares has a name

items_named : (items : List Item) → list_all is_item items ≡ true → (d : Declaration) → Has (items_declared items) d → IsName d.name
items_named [] h d k = absurd k
items_named (Wire w x ∷ items) h d (inl e) = subst (λ (z : Declaration). IsName z.name) e (and_parts (nat_le 1 w) (is_name x) (and_parts (is_item (Wire w x)) (list_all is_item items) h).0).1
items_named (Wire w x ∷ items) h d (inr k) = items_named items (and_parts (is_item (Wire w x)) (list_all is_item items) h).1 d k
items_named (Reg w x ∷ items) h d (inl e) = subst (λ (z : Declaration). IsName z.name) e (and_parts (nat_le 1 w) (is_name x) (and_parts (is_item (Reg w x)) (list_all is_item items) h).0).1
items_named (Reg w x ∷ items) h d (inr k) = items_named items (and_parts (is_item (Reg w x)) (list_all is_item items) h).1 d k
items_named (Memory w x n ∷ items) h d (inl e) =
    let here = (and_parts (is_item (Memory w x n)) (list_all is_item items) h).0 in
    subst (λ (z : Declaration). IsName z.name) e (and_parts (nat_le 1 w) (is_name x) (and_parts (nat_le 1 w && is_name x) (nat_le 1 n) here).0).1
items_named (Memory w x n ∷ items) h d (inr k) = items_named items (and_parts (is_item (Memory w x n)) (list_all is_item items) h).1 d k
items_named (Instance m i connections ∷ items) h d (inl e) =
    let here = (and_parts (is_item (Instance m i connections)) (list_all is_item items) h).0 in
    let some = (and_parts (is_name m && is_name i && nat_le 1 (length connections)) (list_all is_connection connections) here).0 in
    subst (λ (z : Declaration). IsName z.name) e (and_parts (is_name m) (is_name i) (and_parts (is_name m && is_name i) (nat_le 1 (length connections)) some).0).1
items_named (Instance m i connections ∷ items) h d (inr k) = items_named items (and_parts (is_item (Instance m i connections)) (list_all is_item items) h).1 d k
items_named (Assign x e ∷ items) h d k = items_named items (and_parts (is_item (Assign x e)) (list_all is_item items) h).1 d k
items_named (Always b ∷ items) h d k = items_named items (and_parts (is_item (Always b)) (list_all is_item items) h).1 d k

-- a module's name, and those that it declares
named : (m : ModuleTree) → IsModule m → IsName m.name × ((d : Declaration) → Has (declared m) d → IsName d.name)
unfolding IsModule
named m h =
    let p = and_parts (is_name m.name && nat_le 1 (length m.ports) && list_all is_port m.ports) (list_all is_item m.items) h in
    let q = and_parts (is_name m.name && nat_le 1 (length m.ports)) (list_all is_port m.ports) p.0 in (
      (and_parts (is_name m.name) (nat_le 1 (length m.ports)) q.0).0,
      λ d k.
          ⊎_elim {C = IsName d.name}
          (λ l. let t = of_map port_declared m.ports d l in subst (λ (z : Declaration). IsName z.name) t.2 (and_parts (nat_le 1 t.0.width) (is_name t.0.name) (all_here is_port m.ports t.0 q.1 t.1)).1)
          (λ r. items_named m.items p.1 d r)
          (has_split (map port_declared m.ports) (items_declared m.items) d k),
    )

-- ---- what passes a test

module _ {A : Type 0} (test : A → Bool) where
  kept_by : (y : A) (ys : List A) (x : A) → (Has (filter test ys) x → Has ys x) → (b : Bool) → Has (cond b (y ∷ filter test ys) (filter test ys)) x → Has (y ∷ ys) x
  kept_by y ys x rest true (inl e) = inl e
  kept_by y ys x rest true (inr k) = inr (rest k)
  kept_by y ys x rest false k = inr (rest k)

  kept_has : (xs : List A) (x : A) → Has (filter test xs) x → Has xs x
  kept_has [] x h = absurd h
  kept_has (y ∷ ys) x h = kept_by y ys x (λ k. kept_has ys x k) (test y) h

  few_by : (p : A → Bool) (y : A) (ys : List A) → count_by p (filter test ys) ≤ count_by p ys → (b : Bool) → count_by p (cond b (y ∷ filter test ys) (filter test ys)) ≤ count_by p (y ∷ ys)
  few_by p y ys c true = let a = count_cons p y (filter test ys) in let b = count_cons p y ys in omega arith
  few_by p y ys c false = let b = count_cons p y ys in omega arith

  few_kept : (p : A → Bool) (xs : List A) → count_by p (filter test xs) ≤ count_by p xs
  few_kept p [] = omega arith
  few_kept p (y ∷ ys) = few_by p y ys (few_kept p ys) (test y)

-- ---- the dump

module _ (design : DesignTree) (is : IsDesign design.modules design.top) (env : Environment) (fits : FitsDesign design env) (limit : ℕ) (at : Option ℕ) (text : List ℕ) (h : IsDumped design env limit at text) where
  abbrev top : ModuleTree
  top = h.top

  abbrev nets : List Net
  nets = nets_of top

  abbrev run : ℕ → Cycle
  run n = h.nets n []

  in_design : Has design.modules top
  in_design = has_got design.modules design.top top h.is_top

  names : IsName top.name × ((d : Declaration) → Has (declared top) d → IsName d.name)
  names = named top (all_at IsModule design.modules top is.form in_design)

  -- what stands at a place among the nets
  record Here (k : ℕ) (net : Net) : Type 0 where
    d : Declaration
    shown : slice_get (shown_nets top) k ≡ Some d
    same : net_of d ≡ net
    has : Has (declared top) d

  here : (k : ℕ) (net : Net) → slice_get nets k ≡ Some net → Here k net
  here k net got =
      let n = net_here top k (slice_get_within nets k net got) in
      record { d = n.0; shown = n.1; same = same_Some (net_of n.0) net (sym n.2 ∙ got); has = kept_has is_shown (declared top) n.0 (has_got (shown_nets top) k n.0 n.1) }

  -- it has a width in range
  width_is : (k : ℕ) (net : Net) → slice_get nets k ≡ Some net → (1 ≤ net.bits) × (net.bits ≤ 128)
  width_is k net got =
      let e = here k net got in
      let r = shown_read design.modules design.top is top h.is_top k e.d e.shown in
      let w = net_width design.modules is.sound.widths top in_design e.d.name r.0 in
      let b : bits_of (declared top) e.d.name ≡ net.bits = declared_bits top design.modules is.sound.names in_design e.d e.has ∙ ap (λ (z : Net). z.bits) e.same in
      subst (λ n. (1 ≤ n) × (n ≤ 128)) b w

  -- no name stands twice
  own_name : (j k : ℕ) (m n : Net) → slice_get nets j ≡ Some m → slice_get nets k ≡ Some n → m.name ≡ n.name → j ≡ k
  own_name j k m n g q same =
      let a = here j m g in
      let b = here k n q in
      let names_same : a.d.name ≡ b.d.name = ap (λ (z : Net). z.name) a.same ∙ same ∙ sym (ap (λ (z : Net). z.name) b.same) in
      let p : Declaration → Bool = λ d. bytes_eq d.name a.d.name in
      let low : count_by p (declared top) < 2 = below_two _ (declared_once design.modules is.sound.names top in_design a.d a.has) in
      let few = few_kept is_shown p (declared top) in
      position_once p (shown_nets top) j k a.d b.d a.shown b.shown (same_name a.d.name) ((bytes_decides b.d.name a.d.name).1 (sym names_same)) (omega (arith, low, few))

  value_fits : (n k : ℕ) (net : Net) → slice_get nets k ≡ Some net → values_in nets run n k < 2 ^ net.bits
  value_fits n k net got =
      let e = here k net got in
      let r = shown_read design.modules design.top is top h.is_top k e.d e.shown in
      let low = ((run_fits design.modules design.top top is h.is_top env (fits top h.is_top) h.nets h.run.runs_in).modules n [] top refl).nets e.d.name r.0 r.1 in
      let b : bits_of (declared top) e.d.name ≡ net.bits = declared_bits top design.modules is.sound.names in_design e.d e.has ∙ ap (λ (z : Net). z.bits) e.same in
      let x : (run n).net e.d.name ≡ values_in nets run n k = ap (λ z. (run n).net z) (ap (λ (z : Net). z.name) e.same ∙ sym (name_here top k net got)) in
      subst (λ v. v < 2 ^ net.bits) x (subst (λ w. (run n).net e.d.name < 2 ^ w) b low)

  is_dump : IsDumpOf top.name nets (values_in nets run) (last_cycle limit at) text
  is_dump = record {
    top_name = names.0;
    are_nets = record {
      names = λ k net got. (let e = here k net got in subst (λ (z : Net). IsName z.name) e.same (names.1 e.d e.has));
      some_bits = λ k net got. (width_is k net got).0;
      few_bits = λ k net got. (width_is k net got).1;
      own = own_name;
    };
    are_values = λ n k net le got. value_fits n k net got;
    is = h.shown;
  }

pub dumps_are_dumps : DumpsAreDumps
dumps_are_dumps design is env fits limit at text h = is_dump design is env fits limit at text h

-- ---- what is shown of a net

-- the line of a later cycle, by the values in it and in the one before
abbrev later : ℕ → ℕ → ℕ → List ℕ
later n x y = if not (x == y) then value_line (suc n) x else []

pub value_lines_same : (f g : ℕ → ℕ) (last : ℕ) → ((n : ℕ) → n ≤ last → f n ≡ g n) → value_lines f last ≡ value_lines g last
value_lines_same f g zero h = ap (value_line 0) (h 0 (omega arith))
value_lines_same f g (suc n) h =
    ap (λ (l : List ℕ). l ++ later n (f (suc n)) (f n)) (value_lines_same f g n (λ k le. h k (omega arith)))
    ∙ ap (λ x. value_lines g n ++ later n x (f n)) (h (suc n) (omega arith))
    ∙ ap (λ y. value_lines g n ++ later n (g (suc n)) y) (h n (omega arith))

pub dumps_show_the_run : DumpsShowTheRun
dumps_show_the_run design is env fits limit at text name told h s =
    let top = h.top in
    let last = last_cycle limit at in
    let run : ℕ → Cycle = λ n. h.nets n [] in
    let mine = nets_of top in
    let same = one_dump top.name s.top mine s.nets (values_in mine run) s.values last s.last text (is_dump design is env fits limit at text h) s.dump in
    let got : slice_get mine s.place ≡ Some s.net = ap (λ (l : List Net). slice_get l s.place) same.same_nets ∙ s.at in
    let e = here design is env fits limit at text h s.place s.net got in
    let within : s.place < length mine = slice_get_within mine s.place s.net got in
    let own : e.d.name ≡ name = ap (λ (z : Net). z.name) e.same ∙ s.named in
    let number : (n : ℕ) → n ≤ last → s.values n s.place ≡ (run n).net name =
    λ n le. sym (same.same_values n s.place le within) ∙ ap (λ z. (run n).net z) (name_here top s.place s.net got ∙ s.named) in (
      e.d,
      has_got (shown_nets top) s.place e.d e.shown,
      own,
      s.is ∙ ap (λ z. value_lines (λ n. s.values n s.place) z) (sym same.same_last) ∙ value_lines_same (λ n. s.values n s.place) (λ n. (run n).net name) last number,
    )
