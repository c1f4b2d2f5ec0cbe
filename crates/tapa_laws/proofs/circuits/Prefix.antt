-- Runs of one design from one power-up, whose inputs come by one rule in the cycles below some number, hold the same numbers there.
use Rattle.std.proofs.Common.{◌≡◌, ℕ, zero, suc, ◌<◌, ◌≤◌, true, false, List, [], Some, None, inl, refl, sym, ap, subst, ◌∙◌, arith}
use Rattle.std.specs.List.{AllByRecursion}
use Rattle.vlog_tree.specs.declared.tree.Item.{Item}
use Rattle.vlog_tree.specs.declared.tree.Item.TheVariants.{Wire, Reg, Memory, Assign, Always, Instance}
use Rattle.vlog_tree.specs.declared.table.NetKind.TheVariants.{Input, Register, MemoryArray}
use Rattle.vlog_tree.specs.Form.{ModuleTree}
use Rattle.vlog_tree.specs.Grounded.{IsGrounded}
use Rattle.tapa_base.specs.Lists.{Has}
use Rattle.vlog_tree.specs.Cycle.{Cycle, Path, Holds, Takes, run_items, Runs, module_at}
use Rattle.vlog_tree.specs.Table.{Name, declared, net_kind_of, net_kind_is_read, is_clk, first_violation}
use Rattle.vlog_tree.specs.V2.{v2_uses}
use Rattle.vlog_tree.specs.V4.{v4_uses}
use Rattle.vlog_tree.specs.V6.{v6_uses, is_top}
use Rattle.vlog_tree.specs.Flattened.{FlatNet, parts}
use Rattle.vlog_run_laws.specs.runs.OneRun.{SameHeld, BeginsWith}
use Rattle.vlog_run_laws.proofs.runs.Alone.{register_clock}
use Rattle.vlog_run_laws.proofs.runs.Settled.{module_in}
use Rattle.vlog_run_laws.proofs.runs.Sizes.{memory_item, declared_net_kind, has_line}
use Rattle.vlog_run_laws.proofs.runs.Run.{World, worlds, asked_at}
use Rattle.vlog_run_laws.proofs.runs.Alike.{Alike, items_alike}
use Rattle.vlog_run_laws.proofs.runs.Solved.{Allowed}
use Rattle.vlog_run_laws.proofs.runs.Only.{nets_agree}
use Rattle.vlog_run_laws.proofs.runs.Same.{IsDecided}
use Rattle.tapa_base.proofs.Got.{all_at, all_from}

-- a run whose inputs come from what is around the top in the cycles below k; the clock's number is left open
pub record IsRunBelow (ms : List ModuleTree) (root : ModuleTree) (W : Type 0) (around : World W) (k : ℕ) (nets : ℕ → Path → Cycle) : Type 0 where
  pub runs : Runs ms root nets
  pub inputs : (n : ℕ) → n < k → (x : Name) → net_kind_of (declared root) x ≡ Input → is_clk x ≡ false
      → (nets n []).net x ≡ around.give (worlds W around nets n) x (asked_at root (nets n) x)

-- the numbers of a run in a cycle are some that its lines allow
pub allowed : (ms : List ModuleTree) (root : ModuleTree) (nets : ℕ → Path → Cycle) → Runs ms root nets → (n : ℕ) → Allowed ms root (nets n)
allowed ms root nets r n = record {
  each = λ path m at. record { sizes = (r.each path m at).sizes; ports = (r.each path m at).ports; lines = (r.each path m at).lines n };
  connections = r.connections n;
}

module _ (ms : List ModuleTree) (root : ModuleTree) (names : first_violation (v2_uses ms) ≡ None) (drivers : first_violation (v4_uses ms) ≡ None) (tops : first_violation (v6_uses ms) ≡ None)
    (in_root : Has ms root) (top_is : is_top ms root.name ≡ true) (settled : (n : FlatNet) → IsGrounded (parts ms root true) n) (W : Type 0) (around : World W) (decided : IsDecided root W around)
    (k : ℕ) (a b : ℕ → Path → Cycle) (ra : IsRunBelow ms root W around k a) (rb : IsRunBelow ms root W around k b) where
  -- registers and memories hold the same in a cycle
  abbrev pub HeldSame : ℕ → Type 0
  HeldSame n = (path : Path) (m : ModuleTree) → module_at ms root path ≡ Some m → AllByRecursion (SameHeld (b n path) (a n path)) m.items

  module _ (n : ℕ) (low : n < k) (world : worlds W around a n ≡ worlds W around b n) (held : HeldSame n) where
    net_same : (path : Path) (m : ModuleTree) → module_at ms root path ≡ Some m → (x : Name) → net_kind_is_read (net_kind_of (declared m) x) ≡ true → is_clk x ≡ false
        → (a n path).net x ≡ (b n path).net x
    net_same path m at x r c =
        nets_agree ms root names drivers tops in_root top_is (a n) (b n) (allowed ms root a ra.runs n) (allowed ms root b rb.runs n) held (around.give (worlds W around a n)) (ra.inputs n low)
        (λ x s c. rb.inputs n low x s c ∙ ap (λ w. around.give w x (asked_at root (b n) x)) (sym world)) (path, x) (settled (path, x)) (record { tree = m; at = at; read = r; clock = c })

    world_next : worlds W around a (suc n) ≡ worlds W around b (suc n)
    world_next = decided (worlds W around a n) (a n []) (b n []) (net_same [] root refl) ∙ ap (λ w. around.next w (b n [])) world

    module _ (path : Path) (m : ModuleTree) (at : module_at ms root path ≡ Some m) where
      here : Has ms m
      here = module_in ms root in_root path m at

      cells_declared : (nets : ℕ → Path → Cycle) (r : Runs ms root nets) (w : ℕ) (x : Name) (c : ℕ) → Has m.items (Memory w x c) → (r.each path m at).sizes.cells x ≡ c
      cells_declared nets r w x c has = (all_at (Holds (r.each path m at).sizes (nets n path)) m.items (Memory w x c) ((r.each path m at).lines n) has).1

      alike : Alike m (ra.runs.each path m at).sizes (a n path) (b n path)
      alike = record {
        nets = net_same path m at;
        cells = λ x s i below.
            let t = memory_item m x s in
            sym (all_at (SameHeld (b n path) (a n path)) m.items (Memory t.0 x t.1) (held path m at) t.2 i (subst (λ c. i < c) (cells_declared a ra.runs t.0 x t.1 t.2) below));
      }

      left_alike : Alike m (ra.runs.each path m at).sizes
          (run_items (ra.runs.each path m at).sizes (a n path) m.items (a n path)) (run_items (rb.runs.each path m at).sizes (b n path) m.items (b n path))
      left_alike =
          items_alike m (ra.runs.each path m at).sizes (rb.runs.each path m at).sizes
          (λ x s. let t = memory_item m x s in cells_declared a ra.runs t.0 x t.1 t.2 ∙ sym (cells_declared b rb.runs t.0 x t.1 t.2))
          (a n path) (b n path) (net_same path m at) ms names here alike

      held_next : (it : Item) → Has m.items it → SameHeld (b (suc n) path) (a (suc n) path) it
      held_next (Reg w x) has =
          let net_kind : net_kind_of (declared m) x ≡ Register =
          declared_net_kind m ms names here _ (has_line m ms names here (Reg w x) has (record { name = x; net_kind = Register; bits = w; cells = 0 }) (inl refl)) in
          all_at (Takes (rb.runs.each path m at).sizes m.items (b n path) (b (suc n) path)) m.items (Reg w x) ((rb.runs.each path m at).registers n) has
          ∙ sym (left_alike.nets x (ap net_kind_is_read net_kind) (register_clock ms names m here w x has))
          ∙ sym (all_at (Takes (ra.runs.each path m at).sizes m.items (a n path) (a (suc n) path)) m.items (Reg w x) ((ra.runs.each path m at).registers n) has)
      held_next (Memory w x c) has = λ i below.
          let net_kind : net_kind_of (declared m) x ≡ MemoryArray =
          declared_net_kind m ms names here _ (has_line m ms names here (Memory w x c) has (record { name = x; net_kind = MemoryArray; bits = w; cells = c }) (inl refl)) in
          all_at (Takes (rb.runs.each path m at).sizes m.items (b n path) (b (suc n) path)) m.items (Memory w x c) ((rb.runs.each path m at).registers n) has i below
          ∙ sym (left_alike.cells x net_kind i (subst (λ z. i < z) (sym (cells_declared a ra.runs w x c has)) below))
          ∙ sym (all_at (Takes (ra.runs.each path m at).sizes m.items (a n path) (a (suc n) path)) m.items (Memory w x c) ((ra.runs.each path m at).registers n) has i below)
      held_next (Wire w x) has = tt
      held_next (Assign x e) has = tt
      held_next (Always s) has = tt
      held_next (Instance j i connections) has = tt

    all_held_next : HeldSame (suc n)
    all_held_next path m at = all_from (SameHeld (b (suc n) path) (a (suc n) path)) m.items (held_next path m at)

  same_start : (contents : Path → Cycle) → BeginsWith ms root contents a → BeginsWith ms root contents b → HeldSame 0
  same_start contents fa fb path m at =
      all_from (SameHeld (b 0 path) (a 0 path)) m.items (λ it has.
      by_line it (all_at (SameHeld (a 0 path) (contents path)) m.items it (fa path m at) has) (all_at (SameHeld (b 0 path) (contents path)) m.items it (fb path m at) has)) where
        by_line : (it : Item) → SameHeld (a 0 path) (contents path) it → SameHeld (b 0 path) (contents path) it → SameHeld (b 0 path) (a 0 path) it
        by_line (Reg w x) p q = q ∙ sym p
        by_line (Memory w x c) p q = λ i low. q i low ∙ sym (p i low)
        by_line (Wire w x) p q = tt
        by_line (Assign x e) p q = tt
        by_line (Always s) p q = tt
        by_line (Instance j i connections) p q = tt

  module _ (contents : Path → Cycle) (begins_a : BeginsWith ms root contents a) (begins_b : BeginsWith ms root contents b) where
    all_same : (n : ℕ) → n ≤ k → (worlds W around a n ≡ worlds W around b n) × HeldSame n
    all_same zero low = (refl, same_start contents begins_a begins_b)
    all_same (suc n) low = let below : n < k = omega arith in let r = all_same n (omega arith) in (world_next n below r.0 r.1, all_held_next n below r.0 r.1)

    -- and so they do in cycle k, before what its inputs are has been stored
    pub held_below : (n : ℕ) → n ≤ k → HeldSame n
    held_below n low = (all_same n low).1
