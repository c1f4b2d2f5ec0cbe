-- Nets that lines drive.
use Rattle.std.proofs.Common.{◌≡◌, ℕ, ◌+◌, ◌<◌, ◌≤◌, true, List, inl, inr, Option, Some, length, get_or, take, drop, refl, sym, ap, subst, ◌∙◌, arith}
use Rattle.std.specs.Prelude.{IsSome, IsTrue}
use Rattle.vlog_tree.specs.declared.tree.Value.{Value}
use Rattle.vlog_tree.specs.declared.tree.Value.TheVariants.{Plain, Invert, Binary, Choose, Concat, Repeat, Cell}
use Rattle.vlog_tree.specs.declared.table.NetKind.TheVariants.{Unknown, Input, Output, WireNet, Register, MemoryArray, ChildInstance}
use Rattle.vlog_tree.specs.Loops.{value_nets}
use Rattle.vlog_tree.specs.declared.tree.Item.TheVariants.{Assign}
use Rattle.vlog_tree.specs.declared.table.Declaration.{Declaration}
use Rattle.vlog_tree.specs.Form.{ModuleTree}
use Rattle.tapa_base.specs.Lists.{Has}
use Rattle.vlog_tree.specs.Table.{Name, declared, bits_of, net_kind_of, net_kind_is_driven, net_kind_is_read, net_kind_is_memory}
use Rattle.vlog_tree.specs.V3.{value_fits}
use Rattle.vlog_tree.specs.Cycle.{Cycle, Sizes, Path, Holds, driven, module_at}
use Rattle.tapa_base.proofs.Lists.{has_got}
use Rattle.vlog_run_laws.proofs.runs.Sizes.{width_held}
use Rattle.vlog_run_laws.proofs.runs.Sound.{assign_driven, assign_reads, assign_cell, driven_is_read as driven_read}
use Rattle.vlog_run_laws.proofs.runs.Settled.{module_in}
use Rattle.vlog_run_laws.proofs.widths.Ruled.{assign_width, net_width}
use Rattle.sim_tape.specs.declared.gates.Pair.{Pair}
use Rattle.sim_tape.specs.Tape.{TapeTree}
use Rattle.vlog_run_laws.proofs.runs.Alike.{memory_is}
use Rattle.vlog_run_laws.proofs.runs.Parts.{part_line, driver_part}
use Rattle.sim_gates.specs.Nets.{pair_in, HavePairs}
use Rattle.sim_gates.specs.Drivers.{HasParts, IsDriven, value_memories}
use Rattle.sim_flat.specs.Instances.{StandsAt, IsModuleOf}
use Rattle.sim_flat.specs.declared.flat.Flat.{Flat}
use Rattle.sim_flat.specs.Flat.{IsFlat}
use Rattle.sim_flat.proofs.Standing.{module_of}
use Rattle.sim_design.specs.Valuations.{IsLawful}
use Rattle.sim_design.specs.States.{AreRead, AreMemories, MemoriesPlaced, PartsPlaced, HasNumbersOf}
use Rattle.sim_design.proofs.Parts.{base, part, there, shows_nets, shows_memories}
use Rattle.tapa_base.proofs.Got.{all_at}

module _ (ms : List ModuleTree) (top : ModuleTree) (f : Flat) (flat : IsFlat ms top f) (k : ℕ) (low : k < length f.instances.items) (path : Path) (stands : StandsAt ms f.instances.items k path) (m : ModuleTree) (is : IsModuleOf ms f.instances.items k m)
    (x : Name) (e : Value) (has : Has m.items (Assign x e)) where
  at : module_at ms top path ≡ Some m
  at = module_of ms top f flat k path m low stands is

  in_ms : Has ms m
  in_ms = module_in ms top (has_got ms flat.top_place top flat.top_at) path m at

  -- the widths of a line are right
  pub line_fits : IsTrue (value_fits (declared m) (bits_of (declared m) x) e)
  line_fits = assign_width ms flat.design.sound.widths m in_ms x e has

  -- as many pairs as an instance's names are there
  pub room : (pairs : List (Option Pair)) → length pairs ≡ length f.owners.items → base ms f k low path stands m is + length (declared m) ≤ length pairs
  room pairs count = let w : get_or f.first_net.items k 0 + length (declared m) ≤ length f.owners.items = flat.numbers.within k m low is in omega arith

  line_value : (c : Path → Cycle) → (s : Sizes) → IsLawful m s (c path) → (c path).net x ≡ driven s (bits_of (declared m) x) (c path) e
  line_value c s lawful =
      all_at (Holds s (c path)) m.items (Assign x e) lawful.lines has
      ∙ ap (λ w. driven s w (c path) e) (width_held m s (c path) lawful.ports lawful.lines x net_kind_is_driven refl refl (assign_driven ms flat.design.sound.names m in_ms x e has))

  pub line_told : (pairs memories : List (Option Pair)) (t : TapeTree) (p : Pair) → AreRead ms top f pairs → AreMemories ms top f memories
      → IsDriven (declared m) (part ms f k low path stands m is pairs) (part ms f k low path stands m is memories) (bits_of (declared m) x) e t p → HasNumbersOf ms top f memories pairs t (path, x) p
  line_told pairs memories t p read only driven cells ns c solved v shows_cells shows =
      let l = v.lines path m at in
      line_value c l.0 l.1
      ∙ driven cells ns l.0 (c path) solved (shows_nets ms f k low path stands m is top at c v l.0 l.1 pairs ns read shows)
      (shows_memories ms f k low path stands m is top at c v l.0 l.1 flat.design.sound.names in_ms memories cells only shows_cells)

  parts_there : (pairs : List (Option Pair)) → PartsPlaced ms top f pairs (path, x) → HavePairs (declared m) (part ms f k low path stands m is pairs) (value_nets e)
  parts_there pairs placed z h =
      there ms f k low path stands m is pairs z net_kind_is_read refl (assign_reads ms flat.design.sound.names m in_ms x e has z h).0
      (λ number n. placed number (path, z) n (part_line ms top path x m at (path, z) (driver_part ms m path x e has z h)))

  memory_there : (memories : List (Option Pair)) → MemoriesPlaced ms top f memories → (v : Value) → e ≡ v → HavePairs (declared m) (part ms f k low path stands m is memories) (value_memories v)
  memory_there memories all (Cell y j) same z (inl h) =
      let memory : net_kind_of (declared m) y ≡ MemoryArray = memory_is _ (assign_cell ms flat.design.sound.names m in_ms x y j (subst (λ v. Has m.items (Assign x v)) same has)) in
      subst (λ z. IsSome (pair_in (declared m) (part ms f k low path stands m is memories) z)) h
      (there ms f k low path stands m is memories y net_kind_is_memory refl (ap net_kind_is_memory memory) (λ number n. all number (path, y) m n at memory))
  memory_there memories all (Cell y j) same z (inr h) = absurd h
  memory_there memories all (Plain a) same z h = absurd h
  memory_there memories all (Invert a) same z h = absurd h
  memory_there memories all (Binary a op b) same z h = absurd h
  memory_there memories all (Choose t a b) same z h = absurd h
  memory_there memories all (Concat atoms) same z h = absurd h
  memory_there memories all (Repeat n a) same z h = absurd h

  -- all that a line reads is there
  pub line_there : (pairs memories : List (Option Pair)) → PartsPlaced ms top f pairs (path, x) → MemoriesPlaced ms top f memories
      → HasParts (declared m) (part ms f k low path stands m is pairs) (part ms f k low path stands m is memories) e
  line_there pairs memories placed all = (parts_there pairs placed, memory_there memories all e refl)

  pub line_bits : bits_of (declared m) x ≤ 128
  line_bits = (net_width ms flat.design.sound.widths m in_ms x (driven_read (net_kind_of (declared m) x) (assign_driven ms flat.design.sound.names m in_ms x e has))).1

pub parts_same : (ds es : List Declaration) (ps qs ks ls : List (Option Pair)) (e : Value) → ds ≡ es → ps ≡ qs → ks ≡ ls → HasParts ds ps ks e → HasParts es qs ls e
parts_same ds es ps qs ks ls e i j l h = subst (λ z. HasParts es qs z e) l (subst (λ z. HasParts es z ks e) j (subst (λ z. HasParts z ps ks e) i h))

pub driven_same : (ds es : List Declaration) (ps qs ks ls : List (Option Pair)) (b d : ℕ) (e : Value) (t : TapeTree) (p : Pair) → ds ≡ es → ps ≡ qs → ks ≡ ls → b ≡ d → IsDriven ds ps ks b e t p → IsDriven es qs ls d e t p
driven_same ds es ps qs ks ls b d e t p i j l n h =
    subst (λ z. IsDriven es qs ls z e t p) n (subst (λ z. IsDriven es qs z b e t p) l (subst (λ z. IsDriven es z ks b e t p) j (subst (λ z. IsDriven z ps ks b e t p) i h)))

pub part_is : (pairs found : List (Option Pair)) (ds es : List Declaration) (b d : ℕ) → ds ≡ es → b ≡ d → d + length es ≤ length pairs → (b + length ds ≤ length pairs → found ≡ take (length ds) (drop b pairs)) → found ≡ take (length es) (drop d pairs)
part_is pairs found ds es b d i j room h =
    h (subst (λ z. z + length ds ≤ length pairs) (sym j) (subst (λ z. d + length z ≤ length pairs) (sym i) room))
    ∙ ap (λ z. take (length z) (drop b pairs)) i ∙ ap (λ z. take (length es) (drop z pairs)) j
