-- Two runs from one power-up with the same inputs are the same.
use Rattle.std.proofs.Common.{◌≡◌, ℕ, true, false, List, [], ◌∷◌, Some, None, refl, sym, subst, ◌∙◌}
use Rattle.std.specs.List.{AllByRecursion}
use Rattle.vlog_tree.specs.declared.tree.Item.{Item}
use Rattle.vlog_tree.specs.declared.tree.Item.TheVariants.{Wire, Reg, Memory, Assign, Always, Instance}
use Rattle.vlog_tree.specs.declared.table.NetKind.TheVariants.{Input}
use Rattle.vlog_tree.specs.Form.{ModuleTree}
use Rattle.vlog_tree.specs.Grounded.{IsGrounded, grounded}
use Rattle.tapa_base.specs.Lists.{Has}
use Rattle.vlog_tree.specs.Cycle.{Cycle, Path, module_at}
use Rattle.vlog_tree.specs.Table.{Name, declared, net_kind_of, is_clk, first_violation}
use Rattle.vlog_tree.specs.V2.{v2_uses}
use Rattle.vlog_tree.specs.V4.{v4_uses}
use Rattle.vlog_tree.specs.V6.{v6_uses, is_top}
use Rattle.vlog_tree.specs.Flattened.{FlatNet, parts, line_parts}
use Rattle.tapa_base.proofs.Lists.{of_flat}
use Rattle.vlog_run_laws.specs.runs.OneRun.{SameHeld}
use Rattle.vlog_run_laws.specs.runs.Readable.{CanBeRead}
use Rattle.vlog_run_laws.proofs.runs.Parts.{part_line, part_outside, part_answer}
use Rattle.vlog_run_laws.proofs.runs.Equations.{module_same, input_value}
use Rattle.vlog_run_laws.proofs.runs.Run.{asked_at}
use Rattle.vlog_run_laws.proofs.runs.NetsRead.{line_net, outside_net, answer_net}
use Rattle.vlog_run_laws.proofs.runs.Solved.{numbers, Allowed, net_solves, inner_input}
use Rattle.tapa_base.proofs.Got.{all_from}

module _ (ms : List ModuleTree) (root : ModuleTree) (names : first_violation (v2_uses ms) ≡ None) (drivers : first_violation (v4_uses ms) ≡ None) (tops : first_violation (v6_uses ms) ≡ None)
    (in_root : Has ms root) (top_is : is_top ms root.name ≡ true) where
  -- two cycles with the same held numbers and the same inputs
  module _ (c d : Path → Cycle) (ac : Allowed ms root c) (ad : Allowed ms root d) (same_held : (path : Path) (m : ModuleTree) → module_at ms root path ≡ Some m → AllByRecursion (SameHeld (d path) (c path)) m.items)
      (give : Name → ℕ → ℕ) (inputs_c : (x : Name) → net_kind_of (declared root) x ≡ Input → is_clk x ≡ false → (c []).net x ≡ give x (asked_at root c x)) (inputs_d : (x : Name) → net_kind_of (declared root) x ≡ Input → is_clk x ≡ false → (d []).net x ≡ give x (asked_at root d x)) where
    held_itself : (path : Path) (it : Item) → SameHeld (c path) (c path) it
    held_itself path (Reg w x) = refl
    held_itself path (Memory w x n) = λ a low. refl
    held_itself path (Wire w x) = tt
    held_itself path (Assign x e) = tt
    held_itself path (Always b) = tt
    held_itself path (Instance k i connections) = tt

    input_of : (e : Path → Cycle) → Allowed ms root e → ((x : Name) → net_kind_of (declared root) x ≡ Input → is_clk x ≡ false → (e []).net x ≡ give x (asked_at root e x))
        → (path : Path) (m : ModuleTree) → module_at ms root path ≡ Some m → (x : Name) → is_clk x ≡ false → net_kind_of (declared m) x ≡ Input → (e path).net x ≡ input_value ms root c give (numbers e) (path, x)
    input_of e ae f [] m at x n s = let same : root ≡ m = cc at in f x (subst (λ k. net_kind_of (declared k) x ≡ Input) (sym same) s) n
    input_of e ae f (i ∷ path) m at x n s = inner_input ms root names drivers in_root e ae i path m at x s

    pub nets_agree : (n : FlatNet) → IsGrounded (parts ms root true) n → CanBeRead ms root n → numbers c n ≡ numbers d n
    nets_agree n (grounded f) g =
        net_solves ms root names drivers in_root c ac n.0 g.tree g.at c (all_from (SameHeld (c n.0) (c n.0)) g.tree.items (λ it h. held_itself n.0 it)) give n.1 g.read (input_of c ac inputs_c n.0 g.tree g.at n.1 g.clock)
        ∙ module_same ms root c give g.tree n.0 n.1 (numbers c) (numbers d)
        (record {
          lines = λ b h. nets_agree b (f b (part_line ms root n.0 n.1 g.tree g.at b h)) (let t = of_flat (line_parts ms n.0 n.1) g.tree.items b h in line_net ms root names tops in_root top_is n.0 g.tree g.at n.1 g.clock t.0 t.1 b t.2);
          around = λ e b h. nets_agree b (f b (part_outside ms root n.0 n.1 b h)) (outside_net ms root names tops in_root top_is n.0 g.tree g.at n.1 g.clock b h);
          asked = λ e b h. nets_agree b (f b (part_answer ms root n.0 n.1 b h)) (answer_net ms root names tops in_root top_is n.0 n.1 b h);
        })
        ∙ sym (net_solves ms root names drivers in_root d ad n.0 g.tree g.at c (same_held n.0 g.tree g.at) give n.1 g.read (input_of d ad inputs_d n.0 g.tree g.at n.1 g.clock))
