-- The equation of each net of a design in one cycle, and what it reads.
use Rattle.std.proofs.Common.{◌≡◌, ℕ, true, List, [], ◌∷◌, Option, Some, None, inl, inr, refl, sym, ap, subst}
use Rattle.std.specs.List.{flat_map}
use Rattle.vlog_tree.specs.declared.tree.Value.{Value}
use Rattle.vlog_tree.specs.declared.tree.Value.TheVariants.{Plain, Invert, Binary, Choose, Concat, Repeat, Cell}
use Rattle.vlog_tree.specs.declared.tree.Item.TheVariants.{Assign}
use Rattle.vlog_tree.specs.declared.table.NetKind.{NetKind}
use Rattle.vlog_tree.specs.declared.table.NetKind.TheVariants.{Unknown, Input, Output, WireNet, Register, MemoryArray, ChildInstance}
use Rattle.vlog_tree.specs.Form.{ModuleTree}
use Rattle.tapa_base.specs.Lists.{Has}
use Rattle.vlog_tree.specs.Cycle.{Cycle, Path, driven, module_at}
use Rattle.vlog_tree.specs.Table.{Name, declared, net_kind_of, bits_of}
use Rattle.vlog_tree.specs.Flattened.{FlatNet, parts, line_parts}
use Rattle.tapa_base.proofs.Lists.{of_flat}
use Rattle.vlog_run_laws.proofs.runs.Settled.{outside, answers}
use Rattle.vlog_run_laws.proofs.runs.Sizes.{sizes_of}
use Rattle.vlog_run_laws.proofs.runs.Values.{driven_same, ReadsAlike}
use Rattle.vlog_run_laws.proofs.runs.Parts.{part_line, part_outside, part_answer, driver_part, output_part}
use Rattle.vlog_run_laws.proofs.runs.Drivers.{Source, value, output, sources, line_sources, source_of, source_cases, value_line, output_line, IsDrivenBy}

-- the numbers of a module's nets at a path, with the cells of its memories
abbrev pub nets_at : (Path → Cycle) → (FlatNet → ℕ) → Path → Cycle
nets_at held v path = record { net = λ y. v (path, y); cell = (held path).cell }

abbrev pub first_number : (FlatNet → ℕ) → List FlatNet → ℕ
first_number v [] = 0
first_number v (n ∷ ns) = v n

-- held has what registers and memories hold, and give says what an input of the top has where a memory is asked for a cell
module _ (ms : List ModuleTree) (root : ModuleTree) (held : Path → Cycle) (give : Name → ℕ → ℕ) where
  abbrev pub input_value : (FlatNet → ℕ) → FlatNet → ℕ
  input_value v ([], x) = give x (first_number v (answers root ([], x)))
  input_value v (i ∷ path, x) = first_number v (outside ms root (i ∷ path, x))

  abbrev pub undriven_value : NetKind → (FlatNet → ℕ) → FlatNet → ℕ
  undriven_value Input v n = input_value v n
  undriven_value Register v n = (held n.0).net n.1
  undriven_value Output v n = 0
  undriven_value WireNet v n = 0
  undriven_value Unknown v n = 0
  undriven_value MemoryArray v n = 0
  undriven_value ChildInstance v n = 0

  abbrev pub source_value : ModuleTree → (FlatNet → ℕ) → FlatNet → Option Source → ℕ
  source_value m v n (Some (value e)) = driven (sizes_of m) (bits_of (declared m) n.1) (nets_at held v n.0) e
  source_value m v n (Some (output i p)) = v (i ∷ n.0, p)
  source_value m v n None = undriven_value (net_kind_of (declared m) n.1) v n

  abbrev pub module_equation : ModuleTree → FlatNet → (FlatNet → ℕ) → ℕ
  module_equation m n v = source_value m v n (source_of (sources ms m.items) n.1)

  abbrev pub equation_in : Option ModuleTree → FlatNet → (FlatNet → ℕ) → ℕ
  equation_in None n v = 0
  equation_in (Some m) n v = module_equation m n v

  abbrev pub equation : FlatNet → (FlatNet → ℕ) → ℕ
  equation n v = equation_in (module_at ms root n.0) n v

  -- two lists of numbers agree on what a net's equation reads
  pub record Agrees (m : ModuleTree) (path : Path) (x : Name) (v w : FlatNet → ℕ) : Type 0 where
    pub lines : (b : FlatNet) → Has (flat_map (line_parts ms path x) m.items) b → v b ≡ w b
    pub around : net_kind_of (declared m) x ≡ Input → (b : FlatNet) → Has (outside ms root (path, x)) b → v b ≡ w b
    pub asked : net_kind_of (declared m) x ≡ Input → (b : FlatNet) → Has (answers root (path, x)) b → v b ≡ w b

  first_same : (v w : FlatNet → ℕ) (ns : List FlatNet) → ((b : FlatNet) → Has ns b → v b ≡ w b) → first_number v ns ≡ first_number w ns
  first_same v w [] f = refl
  first_same v w (n ∷ ns) f = f n (inl refl)

  input_same : (path : Path) (x : Name) (v w : FlatNet → ℕ) → ((b : FlatNet) → Has (outside ms root (path, x)) b → v b ≡ w b) → ((b : FlatNet) → Has (answers root (path, x)) b → v b ≡ w b) → input_value v (path, x) ≡ input_value w (path, x)
  input_same [] x v w f g = ap (λ n. give x n) (first_same v w (answers root ([], x)) g)
  input_same (i ∷ path) x v w f g = first_same v w (outside ms root (i ∷ path, x)) f

  undriven_same : (s : NetKind) (n : FlatNet) (v w : FlatNet → ℕ) → (s ≡ Input → input_value v n ≡ input_value w n) → undriven_value s v n ≡ undriven_value s w n
  undriven_same Input n v w f = f refl
  undriven_same Register n v w f = refl
  undriven_same Output n v w f = refl
  undriven_same WireNet n v w f = refl
  undriven_same Unknown n v w f = refl
  undriven_same MemoryArray n v w f = refl
  undriven_same ChildInstance n v w f = refl

  module _ (m : ModuleTree) (path : Path) (x : Name) (v w : FlatNet → ℕ) (a : Agrees m path x v w) where
    reads_alike : (e : Value) → ReadsAlike (nets_at held v path) (nets_at held w path) (sizes_of m) (sizes_of m) e
    reads_alike (Cell k y) = λ n. refl
    reads_alike (Plain b) = tt
    reads_alike (Invert b) = tt
    reads_alike (Binary b op c) = tt
    reads_alike (Choose t b c) = tt
    reads_alike (Concat atoms) = tt
    reads_alike (Repeat n b) = tt

    source_same : (s : Source) → Has (sources ms m.items) (x, s) → source_value m v (path, x) (Some s) ≡ source_value m w (path, x) (Some s)
    source_same (value e) h =
        let t = of_flat (line_sources ms) m.items (x, value e) h in
        let has : Has m.items (Assign x e) = subst (λ z. Has m.items z) (value_line ms t.0 x e t.2) t.1 in
        driven_same (nets_at held v path) (nets_at held w path) (sizes_of m) (sizes_of m) (bits_of (declared m) x) (bits_of (declared m) x) e refl (λ z k. a.lines (path, z) (driver_part ms m path x e has z k)) (λ z k. refl) (reads_alike e)
    source_same (output i p) h =
        let t = of_flat (line_sources ms) m.items (x, output i p) h in
        let d : IsDrivenBy ms m.items x i p = output_line ms m.items t.0 t.1 x i p t.2 in
        a.lines (i ∷ path, p) (output_part ms m path x i p d)

    pub module_same : module_equation m (path, x) v ≡ module_equation m (path, x) w
    module_same = elim (source_cases (sources ms m.items) x) [
      | inl none ↦ subst (λ o. source_value m v (path, x) o ≡ source_value m w (path, x) o) (sym none) (undriven_same (net_kind_of (declared m) x) (path, x) v w (λ e. input_same path x v w (a.around e) (a.asked e)))
      | inr r ↦ subst (λ o. source_value m v (path, x) o ≡ source_value m w (path, x) o) (sym r.2) (source_same r.0 r.1)
    ]

  parts_agree : (path : Path) (x : Name) (m : ModuleTree) → module_at ms root path ≡ Some m → (v w : FlatNet → ℕ) → ((b : FlatNet) → Has (parts ms root true (path, x)) b → v b ≡ w b) → Agrees m path x v w
  parts_agree path x m at v w f = record {
    lines = λ b h. f b (part_line ms root path x m at b h);
    around = λ e b h. f b (part_outside ms root path x b h);
    asked = λ e b h. f b (part_answer ms root path x b h);
  }

  equation_at : (o : Option ModuleTree) (path : Path) (x : Name) → module_at ms root path ≡ o → (v w : FlatNet → ℕ) → ((b : FlatNet) → Has (parts ms root true (path, x)) b → v b ≡ w b) → equation_in o (path, x) v ≡ equation_in o (path, x) w
  equation_at None path x at v w f = refl
  equation_at (Some m) path x at v w f = module_same m path x v w (parts_agree path x m at v w f)

  -- a net's equation reads its parts alone
  pub equation_reads : (n : FlatNet) (v w : FlatNet → ℕ) → ((b : FlatNet) → Has (parts ms root true n) b → v b ≡ w b) → equation n v ≡ equation n w
  equation_reads (path, x) v w f = equation_at (module_at ms root path) path x refl v w f
