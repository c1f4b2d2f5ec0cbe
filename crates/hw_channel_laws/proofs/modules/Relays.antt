-- The lines of relays are the equations of relays.
use Rattle.std.proofs.Common.{◌≡◌, ℕ, suc, ◌+◌, ◌/◌, ◌%◌, ◌^◌, ◌<◌, Bool, true, false, cond, eqb, List, [], ◌∷◌, Some, inl, inr, refl, sym, ap, ◌∙◌, arith, ⊎_elim}
use Rattle.std.specs.Prelude.{codes, slice_get, count_by}
use Rattle.std.specs.List.{list_any}
use Rattle.std.specs.Cmp.Lexicographic.{bytes_decides}
use Rattle.std.proofs.lemmas.Bool.{eq-eqb, ne_eqb, cases_eq}
use Rattle.vlog_tree.specs.declared.tree.Atom.{Atom}
use Rattle.vlog_tree.specs.declared.tree.Atom.TheVariants.{Net, Literal}
use Rattle.vlog_tree.specs.declared.tree.Step.{Step}
use Rattle.vlog_tree.specs.declared.tree.Step.TheVariants.{End, NonblockingAssign}
use Rattle.vlog_tree.specs.declared.tree.Connection.{Connection}
use Rattle.vlog_tree.specs.declared.tree.Item.TheVariants.{Reg, Always, Instance}
use Rattle.vlog_tree.specs.Form.{ModuleTree}
use Rattle.tapa_base.specs.Lists.{Has}
use Rattle.vlog_tree.specs.Labels.{rst}
use Rattle.vlog_tree.specs.Table.{Name, module_named}
use Rattle.vlog_tree.specs.Cycle.{Cycle, Path, Sizes, Follows, Runs, module_at, child_of, and_then, atom_value, run_steps}
use Rattle.vlog_tree.specs.V4.{step_assigns, is_block_of}
use Rattle.vlog_module_laws.specs.Blocks.{IsOwnBlock}
use Rattle.vlog_module_laws.proofs.Lines.{line, connection_holds, register_takes}
use Rattle.hw_build.specs.Elements.{built, reset_or}
use Rattle.hw_build.proofs.Meaning.{driven_is, reset_is}
use Rattle.hw_channel_laws.specs.signals.Signals.{Signal}
use Rattle.hw_channel_laws.specs.signals.Relay.{RelayPorts, IsStep, IsRow, IsRelay, Step as OneStep, Row as TwoParts}
use Rattle.hw_channel_lines.specs.Names.{relay_name}
use Rattle.hw_channel_lines.specs.Texts.{set_where, step_elements, step_tree, even_tree, odd_tree, row_tree, of_net, first_part, second_of_two, second_of_three, third_part, AreRelays, One, More}
use Rattle.hw_channel_laws.specs.modules.Ports.{relay_ports, AreFoundIn}
use Rattle.tapa_base.proofs.Lists.{has_got}

-- a register that is set where a bit is 1 keeps its number in other cycles
set_net : (s : Sizes) (old : Cycle) (x : Name) (next : Atom) (b : Bool) → (run_steps s old (b ∷ []) (NonblockingAssign x next ∷ End ∷ []) old).net x ≡ cond b (atom_value old next) (old.net x)
set_net s old x next true = ap (λ b. cond b (atom_value old next) (old.net x)) ((bytes_decides x x).1 refl)
set_net s old x next false = refl

module _ (name : Name) (bits : ℕ) (run : ℕ → Cycle) (f : Follows (built name (step_elements bits)) run) where
  abbrev m : ModuleTree
  m = built name (step_elements bits)

  own : (i : ℕ) (x : Name) (b : List Step) → slice_get m.items i ≡ Some (Always b) → list_any (step_assigns x) b ≡ true → count_by (is_block_of x) m.items ≡ 1 → IsOwnBlock m.items x b
  own i x b e f g = record { has = has_got m.items i (Always b) e; assigns = f; alone = omega (arith, g) }

  abbrev token_steps : List Step
  token_steps = set_where (codes "token") (codes "put") (Net (codes "din"))

  pub is_step : (rst_of : Signal) → ((n : ℕ) → (run n).net rst ≡ rst_of n) → IsStep rst_of (relay_ports run)
  is_step rst_of same = record {
    put_goes = λ n.
        driven_is m run f 3 (codes "put_late") (of_net (codes "full")) refl (suc n)
        ∙ reset_is m run f 1 (codes "full") (Literal 1 0) (Net (codes "put")) (inl refl) (own 6 (codes "full") (reset_or (codes "full") (Literal 1 0) (Net (codes "put"))) refl refl refl) n
        ∙ ap (λ r. cond (eqb r 1) 0 ((run n).net (codes "put"))) (same n);
    din_goes = λ n.
        driven_is m run f 4 (codes "din_late") (of_net (codes "token")) refl (suc n)
        ∙ register_takes m run f bits (codes "token") token_steps (inr (inl refl)) (own 7 (codes "token") token_steps refl refl refl) n
        ∙ set_net f.sizes (run n) (codes "token") (Net (codes "din")) (eqb ((run n).net (codes "put")) 1)
        ∙ ap (cond (eqb ((run n).net (codes "put")) 1) ((run n).net (codes "din"))) (sym (driven_is m run f 4 (codes "din_late") (of_net (codes "token")) refl n));
    rdy_goes = λ n.
        driven_is m run f 5 (codes "rdy") (of_net (codes "room")) refl (suc n)
        ∙ reset_is m run f 1 (codes "room") (Literal 1 0) (Net (codes "rdy_early")) (inr (inr (inl refl))) (own 8 (codes "room") (reset_or (codes "room") (Literal 1 0) (Net (codes "rdy_early"))) refl refl refl) n
        ∙ ap (λ r. cond (eqb r 1) 0 ((run n).net (codes "rdy_early"))) (same n);
  }

row_name_by : (bits steps : ℕ) (b : Bool) → (cond b (even_tree bits steps (steps / 2)) (odd_tree bits steps (steps / 2))).name ≡ relay_name bits steps
row_name_by bits steps true = refl
row_name_by bits steps false = refl

pub row_name : (bits steps : ℕ) → (row_tree bits steps).name ≡ relay_name bits steps
row_name bits steps = row_name_by bits steps (eqb (steps % 2) 0)

module _ (all : List ModuleTree) (root : ModuleTree) (nets : ℕ → Path → Cycle) (runs : Runs all root nets) where
  -- by their places in the text, a port of an instance has the number of its net
  pub joined : (path : Path) (m : ModuleTree) → module_at all root path ≡ Some m → (i j : ℕ) (k x : Name) (connections : List Connection) → slice_get m.items i ≡ Some (Instance k x connections)
      → (port net : Name) → slice_get connections j ≡ Some (record { port = port; net = net }) → (n : ℕ) → (nets n (x ∷ path)).net port ≡ (nets n path).net net
  joined path m at i j k x connections e port net c n =
      connection_holds all root nets runs n path m at k x connections (has_got m.items i (Instance k x connections) e) (record { port = port; net = net }) (has_got connections j (record { port = port; net = net }) c)

  -- the module of an instance
  pub inside : (path : Path) (m : ModuleTree) → module_at all root path ≡ Some m → (x k : Name) → child_of m.items x ≡ Some k → module_at all root (x ∷ path) ≡ module_named all k
  inside path m at x k e = ap (λ o. and_then o (λ m. and_then (child_of m.items x) (module_named all))) at ∙ ap (λ o. and_then o (module_named all)) e

  -- two relays in a row, seen as one
  abbrev chained : RelayPorts → RelayPorts → RelayPorts
  chained first last = record { put = first.put; din = first.din; rdy = first.rdy; put_late = last.put_late; din_late = last.din_late; rdy_early = last.rdy_early }

  abbrev ports_at : Path → RelayPorts
  ports_at path = relay_ports (λ n. nets n path)

  abbrev Joins : Path → Name → List Connection → Type 0
  Joins path x connections = (j : ℕ) (port net : Name) → slice_get connections j ≡ Some (record { port = port; net = net }) → (n : ℕ) → (nets n (x ∷ path)).net port ≡ (nets n path).net net

  two_in_row : (path : Path) → Joins path (codes "part_0") first_part → Joins path (codes "part_1") second_of_two → IsRow (ports_at path) (ports_at (codes "part_0" ∷ path)) (ports_at (codes "part_1" ∷ path))
  two_in_row path near far = record {
    put_first = near 2 (codes "put") (codes "put") refl;
    put_second = λ n. far 2 (codes "put") (codes "put_1") refl n ∙ sym (near 5 (codes "put_late") (codes "put_1") refl n);
    put_last = λ n. sym (far 5 (codes "put_late") (codes "put_late") refl n);
    din_first = near 3 (codes "din") (codes "din") refl;
    din_second = λ n. far 3 (codes "din") (codes "din_1") refl n ∙ sym (near 6 (codes "din_late") (codes "din_1") refl n);
    din_last = λ n. sym (far 6 (codes "din_late") (codes "din_late") refl n);
    rdy_first = far 4 (codes "rdy_early") (codes "rdy_early") refl;
    rdy_second = λ n. near 4 (codes "rdy_early") (codes "rdy_1") refl n ∙ sym (far 7 (codes "rdy") (codes "rdy_1") refl n);
    rdy_last = λ n. sym (near 7 (codes "rdy") (codes "rdy") refl n);
  }

  last_in_row : (path : Path) → Joins path (codes "part_1") second_of_three → Joins path (codes "part_2") third_part
      → IsRow (chained (ports_at (codes "part_1" ∷ path)) (ports_at (codes "part_2" ∷ path))) (ports_at (codes "part_1" ∷ path)) (ports_at (codes "part_2" ∷ path))
  last_in_row path near far = record {
    put_first = λ n. refl;
    put_second = λ n. far 2 (codes "put") (codes "put_2") refl n ∙ sym (near 5 (codes "put_late") (codes "put_2") refl n);
    put_last = λ n. refl;
    din_first = λ n. refl;
    din_second = λ n. far 3 (codes "din") (codes "din_2") refl n ∙ sym (near 6 (codes "din_late") (codes "din_2") refl n);
    din_last = λ n. refl;
    rdy_first = λ n. refl;
    rdy_second = λ n. near 4 (codes "rdy_early") (codes "rdy_2") refl n ∙ sym (far 7 (codes "rdy") (codes "rdy_2") refl n);
    rdy_last = λ n. refl;
  }

  three_in_row : (path : Path) → Joins path (codes "part_0") first_part → Joins path (codes "part_1") second_of_three → Joins path (codes "part_2") third_part
      → IsRow (ports_at path) (ports_at (codes "part_0" ∷ path)) (chained (ports_at (codes "part_1" ∷ path)) (ports_at (codes "part_2" ∷ path)))
  three_in_row path near middle far = record {
    put_first = near 2 (codes "put") (codes "put") refl;
    put_second = λ n. middle 2 (codes "put") (codes "put_1") refl n ∙ sym (near 5 (codes "put_late") (codes "put_1") refl n);
    put_last = λ n. sym (far 5 (codes "put_late") (codes "put_late") refl n);
    din_first = near 3 (codes "din") (codes "din") refl;
    din_second = λ n. middle 3 (codes "din") (codes "din_1") refl n ∙ sym (near 6 (codes "din_late") (codes "din_1") refl n);
    din_last = λ n. sym (far 6 (codes "din_late") (codes "din_late") refl n);
    rdy_first = far 4 (codes "rdy_early") (codes "rdy_early") refl;
    rdy_second = λ n. near 4 (codes "rdy_early") (codes "rdy_1") refl n ∙ sym (middle 7 (codes "rdy") (codes "rdy_1") refl n);
    rdy_last = λ n. sym (near 7 (codes "rdy") (codes "rdy") refl n);
  }

  module _ (bits : ℕ) (rst_of : Signal) where
    -- what a relay is, and that its answer is a bit already at power-up
    abbrev pub Relays : (steps : ℕ) → Path → Type 0
    Relays steps path = IsRelay rst_of steps (relay_ports (λ n. nets n path)) × ((nets 0 path).net (codes "rdy") < 2)

    one_step : (path : Path) → module_at all root path ≡ Some (step_tree bits) → ((n : ℕ) → (nets n path).net rst ≡ rst_of n) → (steps : ℕ) → steps ≡ 1 → Relays steps path
    one_step path at same steps e =
        let f = runs.each path (step_tree bits) at in
        let out = driven_is (step_tree bits) (λ n. nets n path) f 5 (codes "rdy") (of_net (codes "room")) refl 0 in
        let up : (nets 0 path).net (codes "room") < 2 ^ 1 = (line (step_tree bits) (λ n. nets n path) f (Reg 1 (codes "room")) (has_got (step_tree bits).items 2 (Reg 1 (codes "room")) refl)).powers_up in
        (OneStep steps _ e (is_step (relay_name bits 1) bits (λ n. nets n path) f rst_of same), omega (arith, out, up))

    has_one : (steps : ℕ) (xs : List ModuleTree) → AreRelays bits steps xs → Has xs (step_tree bits)
    has_one steps xs (One k e) = inl refl
    has_one steps xs (More k rest l r) = inr (has_one (k / 2) rest r)

    -- the parts of a relay are relays
    abbrev Halves : ℕ → Type 0
    Halves half = (path : Path) → module_at all root path ≡ module_named all (relay_name bits half) → ((n : ℕ) → (nets n path).net rst ≡ rst_of n) → Relays half path

    of_two : (k half : ℕ) → k ≡ half + half → Halves half → (path : Path) → module_at all root path ≡ Some (even_tree bits k half) → ((n : ℕ) → (nets n path).net rst ≡ rst_of n) → Relays k path
    unfolding rst
    of_two k half e part path at same =
        let near : Joins path (codes "part_0") first_part = (λ j port net c n. joined path (even_tree bits k half) at 3 j (relay_name bits half) (codes "part_0") first_part refl port net c n) in
        let far : Joins path (codes "part_1") second_of_two = (λ j port net c n. joined path (even_tree bits k half) at 4 j (relay_name bits half) (codes "part_1") second_of_two refl port net c n) in
        let row = two_in_row path near far in
        let a : Relays half (codes "part_0" ∷ path) =
        part (codes "part_0" ∷ path) (inside path (even_tree bits k half) at (codes "part_0") (relay_name bits half) refl) (λ n. near 1 (codes "rst") (codes "rst") refl n ∙ same n) in
        let b : Relays half (codes "part_1" ∷ path) =
        part (codes "part_1" ∷ path) (inside path (even_tree bits k half) at (codes "part_1") (relay_name bits half) refl) (λ n. far 1 (codes "rst") (codes "rst") refl n ∙ same n) in
        let answers = row.rdy_last 0 in
        let low = a.1 in
        (TwoParts k _ half half _ _ e row a.0 b.0, omega (arith, answers, low))

    of_three : (k half : ℕ) → k ≡ half + half + 1 → Halves half → module_named all (relay_name bits 1) ≡ Some (step_tree bits) → (path : Path) → module_at all root path ≡ Some (odd_tree bits k half)
        → ((n : ℕ) → (nets n path).net rst ≡ rst_of n) → Relays k path
    unfolding rst
    of_three k half e part found path at same =
        let near : Joins path (codes "part_0") first_part = (λ j port net c n. joined path (odd_tree bits k half) at 6 j (relay_name bits half) (codes "part_0") first_part refl port net c n) in
        let middle : Joins path (codes "part_1") second_of_three = (λ j port net c n. joined path (odd_tree bits k half) at 7 j (relay_name bits half) (codes "part_1") second_of_three refl port net c n) in
        let far : Joins path (codes "part_2") third_part = (λ j port net c n. joined path (odd_tree bits k half) at 8 j (relay_name bits 1) (codes "part_2") third_part refl port net c n) in
        let row = three_in_row path near middle far in
        let a : Relays half (codes "part_0" ∷ path) =
        part (codes "part_0" ∷ path) (inside path (odd_tree bits k half) at (codes "part_0") (relay_name bits half) refl) (λ n. near 1 (codes "rst") (codes "rst") refl n ∙ same n) in
        let b : Relays half (codes "part_1" ∷ path) =
        part (codes "part_1" ∷ path) (inside path (odd_tree bits k half) at (codes "part_1") (relay_name bits half) refl) (λ n. middle 1 (codes "rst") (codes "rst") refl n ∙ same n) in
        let c : Relays 1 (codes "part_2" ∷ path) =
        one_step (codes "part_2" ∷ path) (inside path (odd_tree bits k half) at (codes "part_2") (relay_name bits 1) refl ∙ found) (λ n. far 1 (codes "rst") (codes "rst") refl n ∙ same n) 1 refl in
        let answers = row.rdy_last 0 in
        let low = a.1 in
        let sum : k ≡ half + (half + 1) = omega arith in
        (TwoParts k _ half (half + 1) _ _ sum row a.0 (TwoParts (half + 1) _ half 1 _ _ refl (last_in_row path middle far) b.0 c.0), omega (arith, answers, low))

    pub is_relay : (steps : ℕ) (xs : List ModuleTree) → AreRelays bits steps xs → AreFoundIn all xs → Halves steps
    is_relay steps xs (One k e) found path at same = one_step path (at ∙ ap (λ s. module_named all (relay_name bits s)) e ∙ found (step_tree bits) (inl refl)) same k e
    is_relay steps xs (More k rest l r) found path at same =
        let part : Halves (k / 2) = is_relay (k / 2) rest r (λ m h. found m (inr h)) in
        let here : module_at all root path ≡ Some (row_tree bits k) = at ∙ ap (module_named all) (sym (row_name bits k)) ∙ found (row_tree bits k) (inl refl) in
        ⊎_elim
        (λ e. of_two k (k / 2) (omega arith) part path (here ∙ ap (λ b. Some (cond b (even_tree bits k (k / 2)) (odd_tree bits k (k / 2)))) (eq-eqb (k % 2) 0 e)) same)
        (λ e.
        of_three k (k / 2) (omega arith) part (found (step_tree bits) (inr (has_one (k / 2) rest r))) path (here ∙ ap (λ b. Some (cond b (even_tree bits k (k / 2)) (odd_tree bits k (k / 2)))) (ne_eqb (k % 2) 0 e)) same)
        (cases_eq (k % 2) 0)
