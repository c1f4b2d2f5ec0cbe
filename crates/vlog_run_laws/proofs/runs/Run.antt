-- From each power-up, and with inputs that may depend on earlier cycles, a design has a run.
use Rattle.std.proofs.Common.{◌≡◌, ℕ, zero, suc, ◌<◌, ◌^◌, true, List, [], Option, Some, None, inl, refl, sym, ap, subst, ◌∙◌}
use Rattle.std.specs.List.{AllByRecursion}
use Rattle.vlog_tree.specs.declared.tree.Item.{Item}
use Rattle.vlog_tree.specs.declared.tree.Item.TheVariants.{Wire, Reg, Memory, Assign, Always, Instance}
use Rattle.vlog_tree.specs.declared.table.NetKind.TheVariants.{Input, Register}
use Rattle.vlog_tree.specs.Form.{ModuleTree}
use Rattle.vlog_tree.specs.Grounded.{IsGrounded}
use Rattle.tapa_base.specs.Lists.{Has}
use Rattle.vlog_tree.specs.Cycle.{Cycle, Path, module_at, run_items, PowersUp, Takes, Follows, Runs}
use Rattle.vlog_tree.specs.Table.{Name, declared, net_kind_of, first_violation}
use Rattle.vlog_tree.specs.V2.{v2_uses}
use Rattle.vlog_tree.specs.V4.{v4_uses}
use Rattle.vlog_tree.specs.Flattened.{FlatNet, parts}
use Rattle.vlog_tree.proofs.Grounds.{values, values_solve}
use Rattle.vlog_run_laws.specs.runs.OneRun.{SameHeld, FitsPowerUp, BeginsWith}
use Rattle.vlog_run_laws.proofs.runs.Settled.{answers, module_in}
use Rattle.vlog_run_laws.proofs.runs.Sizes.{sizes_of, declared_net_kind, has_line, ports_hold}
use Rattle.vlog_run_laws.proofs.runs.Equations.{nets_at, first_number, equation, equation_reads}
use Rattle.vlog_run_laws.proofs.runs.Cycles.{held_number, input_number, lines_hold, lines_connected}
use Rattle.tapa_base.proofs.Got.{all_at, all_from}

-- what is around the top: how it begins, what it makes of the top's nets in a cycle, and what it gives an input
pub record World (W : Type 0) : Type 0 where
  pub first : W
  pub next : W → Cycle → W
  pub give : W → Name → ℕ → ℕ

abbrev pub worlds : (W : Type 0) → World W → (ℕ → Path → Cycle) → ℕ → W
worlds W around nets zero = around.first
worlds W around nets (suc n) = around.next (worlds W around nets n) (nets n [])

-- the number of the net at which a memory is asked for a cell
abbrev pub asked_at : ModuleTree → (Path → Cycle) → Name → ℕ
asked_at root nets x = first_number (λ k. (nets k.0).net k.1) (answers root ([], x))

pub record State (W : Type 0) : Type 0 where
  pub world : W
  pub held : Path → Cycle

abbrev pub next_held : Option ModuleTree → Cycle → Cycle
next_held None c = c
next_held (Some m) c = run_items (sizes_of m) c m.items c

module _ (ms : List ModuleTree) (root : ModuleTree) (names : first_violation (v2_uses ms) ≡ None) (drivers : first_violation (v4_uses ms) ≡ None) (in_root : Has ms root)
    (settled : (n : FlatNet) → IsGrounded (parts ms root true) n) (W : Type 0) (around : World W) (contents : Path → Cycle) where
  pub number : State W → FlatNet → ℕ
  number s = values (parts ms root true) settled (equation ms root s.held (around.give s.world)) (equation_reads ms root s.held (around.give s.world))

  number_solves : (s : State W) (n : FlatNet) → number s n ≡ equation ms root s.held (around.give s.world) n (number s)
  unfolding number
  number_solves s n = values_solve (parts ms root true) settled (equation ms root s.held (around.give s.world)) (equation_reads ms root s.held (around.give s.world)) n

  abbrev pub cycle : State W → Path → Cycle
  cycle s = nets_at s.held (number s)

  abbrev pub state : ℕ → State W
  state zero = record { world = around.first; held = contents }
  state (suc n) = record { world = around.next (state n).world (cycle (state n) []); held = λ path. next_held (module_at ms root path) (cycle (state n) path) }

  abbrev pub run : ℕ → Path → Cycle
  run n = cycle (state n)

  world_is : (n : ℕ) → (state n).world ≡ worlds W around run n
  world_is zero = refl
  world_is (suc n) = ap (λ w. around.next w (run n [])) (world_is n)

  module _ (path : Path) (m : ModuleTree) (at : module_at ms root path ≡ Some m) where
    here : Has ms m
    here = module_in ms root in_root path m at

    register_net_kind : (w : ℕ) (x : Name) → Has m.items (Reg w x) → net_kind_of (declared m) x ≡ Register
    register_net_kind w x has = declared_net_kind m ms names here _ (has_line m ms names here (Reg w x) has (record { name = x; net_kind = Register; bits = w; cells = 0 }) (inl refl))

    register_number : (n w : ℕ) (x : Name) → Has m.items (Reg w x) → (run n path).net x ≡ ((state n).held path).net x
    register_number n w x has = held_number ms root names drivers in_root (state n).held (around.give (state n).world) (number (state n)) (number_solves (state n)) path m at x (register_net_kind w x has)

    takes : (n : ℕ) (it : Item) → Has m.items it → Takes (sizes_of m) m.items (run n path) (run (suc n) path) it
    takes n (Reg w x) has = register_number (suc n) w x has ∙ ap (λ o. (next_held o (run n path)).net x) at
    takes n (Memory w x k) has = λ a low. ap (λ o. (next_held o (run n path)).cell x a) at
    takes n (Wire w x) has = tt
    takes n (Assign x e) has = tt
    takes n (Always b) has = tt
    takes n (Instance k i connections) has = tt

    powers_up : AllByRecursion (PowersUp (contents path)) m.items → (it : Item) → Has m.items it → PowersUp (run 0 path) it
    powers_up fits (Reg w x) has = let f : (contents path).net x < 2 ^ w = all_at (PowersUp (contents path)) m.items (Reg w x) fits has in subst (λ n. n < 2 ^ w) (sym (register_number 0 w x has)) f
    powers_up fits (Memory w x k) has = all_at (PowersUp (contents path)) m.items (Memory w x k) fits has
    powers_up fits (Wire w x) has = tt
    powers_up fits (Assign x e) has = tt
    powers_up fits (Always b) has = tt
    powers_up fits (Instance k i connections) has = tt

    begins_line : (it : Item) → Has m.items it → SameHeld (run 0 path) (contents path) it
    begins_line (Reg w x) has = register_number 0 w x has
    begins_line (Memory w x k) has = λ a low. refl
    begins_line (Wire w x) has = tt
    begins_line (Assign x e) has = tt
    begins_line (Always b) has = tt
    begins_line (Instance k i connections) has = tt

    follows : AllByRecursion (PowersUp (contents path)) m.items → Follows m (λ n. run n path)
    follows fits = record {
      sizes = sizes_of m;
      ports = ports_hold m ms names here;
      lines = λ n. lines_hold ms root names drivers in_root (state n).held (around.give (state n).world) (number (state n)) (number_solves (state n)) path m at;
      power_up = all_from (PowersUp (run 0 path)) m.items (powers_up fits);
      registers = λ n. all_from (Takes (sizes_of m) m.items (run n path) (run (suc n) path)) m.items (takes n);
    }

  pub runs : FitsPowerUp ms root contents → Runs ms root run
  runs fits = record {
    each = λ path m at. follows path m at (fits path m at);
    connections = λ n path m at. lines_connected ms root names drivers in_root (state n).held (around.give (state n).world) (number (state n)) (number_solves (state n)) path m at;
  }

  pub begins : BeginsWith ms root contents run
  begins path m at = all_from (SameHeld (run 0 path) (contents path)) m.items (begins_line path m at)

  pub inputs : (n : ℕ) (x : Name) → net_kind_of (declared root) x ≡ Input → (run n []).net x ≡ around.give (worlds W around run n) x (asked_at root (run n) x)
  inputs n x e =
      input_number ms root names drivers in_root (state n).held (around.give (state n).world) (number (state n)) (number_solves (state n)) [] root refl x e
      ∙ ap (λ w. around.give w x (asked_at root (run n) x)) (world_is n)
