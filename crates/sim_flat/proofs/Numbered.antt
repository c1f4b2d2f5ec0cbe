-- Rows that have all instances in them number the instances of a design.
use Rattle.std.proofs.Common.{◌≡◌, ℕ, zero, suc, ◌+◌, ◌<◌, ◌≤◌, List, [], ◌∷◌, Some, length, get_or, inl, inr, refl, sym, ap, subst, ◌∙◌, map, arith}
use Rattle.std.specs.Prelude.{slice_get}
use Rattle.std.proofs.lemmas.Bool.{cases_lt, cases_eq}
use Rattle.vlog_tree.specs.declared.tree.Item.TheVariants.{Instance}
use Rattle.vlog_tree.specs.Form.{ModuleTree}
use Rattle.tapa_base.specs.Lists.{Has}
use Rattle.vlog_tree.specs.Cycle.{Path, module_at}
use Rattle.vlog_tree.specs.Table.{Name, module_declared, module_named}
use Rattle.vlog_tree.specs.Loops.{item_instances, instances}
use Rattle.vlog_tree.specs.V6.{is_top}
use Rattle.vlog_tree.specs.Refused.{IsDesign}
use Rattle.tapa_base.proofs.Lists.{has_flat, has_got, got_has}
use Rattle.vlog_run_laws.proofs.runs.Alone.{module_there, instance_item}
use Rattle.vlog_run_laws.proofs.runs.Sound.{is_known_module}
use Rattle.vlog_run_laws.proofs.runs.Settled.{module_in, child_at}
use Rattle.vlog_run_laws.proofs.runs.Solved.{child_item, Around, module_around}
use Rattle.vlog_run_laws.proofs.loops.Climbed.{named_is}
use Rattle.vlog_run_laws.proofs.runs.Short.{way_short}
use Rattle.sim_flat.specs.declared.instances.Instance as row
use Rattle.sim_flat.specs.Kinds.{kind_place, module_kinds, all_kinds}
use Rattle.sim_flat.specs.Rows.{row_at, IsInside, AreRows, HaveDepth}
use Rattle.sim_flat.specs.Instances.{IsNamed, StandsAt, IsModuleOf, AreInstances}
use Rattle.sim_flat.proofs.Once.{instance_once}
use Rattle.sim_flat.proofs.Placing.{kind_got, kinds_got, kinds_length, kind_at, got_low}

module _ (ms : List ModuleTree) (place : ℕ) (d : IsDesign ms place) (top : ModuleTree) (at : slice_get ms place ≡ Some top) (rows : List row.Instance) (first : List ℕ)
    (r : AreRows (all_kinds (map module_declared ms) ms) (kind_place (map module_declared ms) top.name) rows first) where
  abbrev kinds : List (List ℕ)
  kinds = all_kinds (map module_declared ms) ms

  in_top : Has ms top
  in_top = has_got ms place top at

  abbrev outer_of : ℕ → row.Instance
  outer_of k = row_at rows (row_at rows k).around

  -- what is said of a number and of a path that leads to it
  abbrev Leads : ℕ → Path → Type 0
  Leads k path = (m : ModuleTree) × (module_at ms top path ≡ Some m) × IsModuleOf ms rows k m

  top_leads : (k : ℕ) → k ≡ 0 → Leads k []
  top_leads k e =
      let z : IsModuleOf ms rows 0 top = ap (λ n. slice_get ms n) r.top_kind ∙ kind_got ms top.name top (named_is ms d.sound.names top in_top) in
      (top, refl, subst (λ n. IsModuleOf ms rows n top) (sym e) z)

  -- the module of an instance in another, where its name stands for one
  inner_kind : (k : ℕ) → 0 < k → k < length rows → (m : ModuleTree) → slice_get ms (outer_of k).kind ≡ Some m → (kn i : Name) → slice_get (instances m) (row_at rows k).child ≡ Some (kn, i) → (inner : ModuleTree) → module_named ms kn ≡ Some inner → IsModuleOf ms rows k inner
  inner_kind k pos low m got kn i named inner is =
      let p = r.placed k pos low in
      let e : (row_at rows k).kind ≡ kind_place (map module_declared ms) kn =
      p.kind ∙ ap (λ (l : List ℕ). get_or l (row_at rows k).child 0) (kinds_got (map module_declared ms) ms (outer_of k).kind m got) ∙ kind_at (map module_declared ms) m (row_at rows k).child kn i named in
      ap (λ n. slice_get ms n) e ∙ kind_got ms kn inner is

  inner_leads : (k : ℕ) (i : Name) (path : Path) → 0 < k → k < length rows → IsNamed ms rows k i → Leads (row_at rows k).around path → Leads k (i ∷ path)
  inner_leads k i path pos low n t =
      let m : ModuleTree = t.0 in
      let same : n.outer ≡ m = cc (n.got, t.2) in
      let named : slice_get (instances m) (row_at rows k).child ≡ Some (n.module_name, i) = subst (λ (q : ModuleTree). slice_get (instances q) (row_at rows k).child ≡ Some (n.module_name, i)) same n.named in
      let has : Has (instances m) (n.module_name, i) = has_got (instances m) (row_at rows k).child (n.module_name, i) named in
      let here : Has ms m = module_in ms top in_top path m t.1 in
      let item = instance_item m.items n.module_name i has in
      let known = module_there ms n.module_name (is_known_module ms d.sound.names m here n.module_name i item.0 item.1) in
      (known.0, child_at ms top d.sound.names m here path t.1 n.module_name i known.0 has known.1, inner_kind k pos low m t.2 n.module_name i named known.0 known.1)

  around_low : (k : ℕ) → 0 < k → k < length rows → (row_at rows k).around < length rows
  around_low k pos low = let p = r.placed k pos low in let b : (row_at rows k).around < k = p.before in omega arith

  leads : (path : Path) (k : ℕ) → k < length rows → StandsAt ms rows k path → Leads k path
  leads [] k low s = top_leads k s
  leads (i ∷ path) k low s = inner_leads k i path s.0 low s.1 (leads path (row_at rows k).around (around_low k s.0 low) s.2)

  -- a way to an instance that is placed
  way_inside : (k : ℕ) → 0 < k → k < length rows → (path : Path) → StandsAt ms rows (row_at rows k).around path → (way : Path) × StandsAt ms rows k way
  way_inside k pos low path s =
      let p = r.placed k pos low in
      let t = leads path (row_at rows k).around (around_low k pos low) s in
      let m : ModuleTree = t.0 in
      let inside : (row_at rows k).child < length (module_kinds (map module_declared ms) m) =
      subst (λ (l : List ℕ). (row_at rows k).child < length l) (kinds_got (map module_declared ms) ms (outer_of k).kind m t.2) p.inside in
      let l : length (module_kinds (map module_declared ms) m) ≡ length (instances m) = kinds_length (map module_declared ms) m in
      let g = got_low (instances m) (row_at rows k).child (omega arith) in
      (g.0.1 ∷ path, (pos, record { outer = m; module_name = g.0.0; got = t.2; named = g.1 }, s))

  way_by : (n k : ℕ) → k < n → k < length rows → (path : Path) × StandsAt ms rows k path
  way_by zero k h low = absurd (omega arith)
  way_by (suc n) k h low =
      elim (cases_eq k 0) [
        | inl e ↦ ([], e)
        | inr ne ↦ (
            let pos : 0 < k = omega arith in
            let b : (row_at rows k).around < k = (r.placed k pos low).before in
            let w = way_by n (row_at rows k).around (omega arith) (omega arith) in
            way_inside k pos low w.0 w.1)
      ]

  ways : (k : ℕ) → k < length rows → (path : Path) × StandsAt ms rows k path
  ways k low = way_by (suc k) k (omega arith) low

  depth_is : (path : Path) (k : ℕ) → k < length rows → StandsAt ms rows k path → (row_at rows k).depth ≡ length path
  depth_is [] k low s = ap (λ n. (row_at rows n).depth) s ∙ r.top_depth
  depth_is (i ∷ path) k low s =
      let e : (row_at rows (row_at rows k).around).depth ≡ length path = depth_is path (row_at rows k).around (around_low k s.0 low) s.2 in
      let p : (row_at rows k).depth ≡ (row_at rows (row_at rows k).around).depth + 1 = (r.placed k s.0 low).depth in
      let z : length path + 1 ≡ suc (length path) = omega arith in
      p ∙ ap (λ n. n + 1) e ∙ z

  -- the place of an instance in another, by its name there
  child_single : (k n : ℕ) (i : Name) → (row_at rows k).around ≡ (row_at rows n).around → IsNamed ms rows k i → IsNamed ms rows n i → (row_at rows k).child ≡ (row_at rows n).child
  child_single k n i same s t =
      let got : slice_get ms (outer_of k).kind ≡ Some t.outer = ap (λ a. slice_get ms (row_at rows a).kind) same ∙ t.got in
      let one : s.outer ≡ t.outer = cc (s.got, got) in
      instance_once ms d.sound.names s.outer (has_got ms (outer_of k).kind s.outer s.got) (row_at rows k).child (row_at rows n).child s.module_name t.module_name i s.named
      (subst (λ (q : ModuleTree). slice_get (instances q) (row_at rows n).child ≡ Some (t.module_name, i)) (sym one) t.named)

  number_single : (path : Path) (k n : ℕ) → k < length rows → n < length rows → StandsAt ms rows k path → StandsAt ms rows n path → k ≡ n
  number_single [] k n low high s t = s ∙ sym t
  number_single (i ∷ path) k n low high s t =
      let same : (row_at rows k).around ≡ (row_at rows n).around = number_single path (row_at rows k).around (row_at rows n).around (around_low k s.0 low) (around_low n t.0 high) s.2 t.2 in
      let child : (row_at rows k).child ≡ (row_at rows n).child = child_single k n i same s.1 t.1 in
      r.once k s.0 low ∙ ap (λ a. get_or first a 0 + (row_at rows k).child) same ∙ ap (λ c. get_or first (row_at rows n).around 0 + c) child ∙ sym (r.once n t.0 high)

  module _ (deepest : HaveDepth rows (length first) (length rows) (length ms)) where
    no_more : length first < length rows → ⊥
    no_more low =
        let w = ways (length first) low in
        let t = leads w.0 (length first) low w.1 in
        let short : length w.0 < length ms = way_short ms top (is_top ms) d.loopless in_top w.0 t.0 t.1 in
        let deep : (row_at rows (length first)).depth ≡ length w.0 = depth_is w.0 (length first) low w.1 in
        let most : (row_at rows (length first)).depth ≡ length ms = deepest (length first) (omega arith) low in
        omega arith

    pub all_done : length rows ≤ length first
    all_done = elim (cases_lt (length first) (length rows)) [ inl lt ↦ absurd (no_more lt) | inr ge ↦ ge ]

    inside_all : (k c : ℕ) (m : ModuleTree) → k < length rows → IsModuleOf ms rows k m → c < length (instances m) → IsInside rows (get_or first k 0 + c) k c
    inside_all k c m low is h =
        let all : length rows ≤ length first = all_done in
        let e = kinds_got (map module_declared ms) ms (row_at rows k).kind m is in
        let l : length (module_kinds (map module_declared ms) m) ≡ length (instances m) = kinds_length (map module_declared ms) m in
        r.inside k c (omega arith) (subst (λ (ks : List ℕ). c < length ks) (sym e) (omega arith))

    number_inside : (i : Name) (path : Path) (m : ModuleTree) (a : Around ms top i path m) → (k : ℕ) → k < length rows → StandsAt ms rows k path → (n : ℕ) × (n < length rows) × StandsAt ms rows n (i ∷ path)
    number_inside i path m a k low s =
        let t = leads path k low s in
        let same : t.0 ≡ a.tree = cc (t.1, a.at) in
        let is : IsModuleOf ms rows k a.tree = subst (λ (q : ModuleTree). IsModuleOf ms rows k q) same t.2 in
        let item = child_item a.tree.items i a.kn a.child in
        let has : Has (instances a.tree) (a.kn, i) = has_flat item_instances a.tree.items (Instance a.kn i item.0) (a.kn, i) item.1 (inl refl) in
        let g = got_has (instances a.tree) (a.kn, i) has in
        let j : IsInside rows (get_or first k 0 + g.0) k g.0 = inside_all k g.0 a.tree low is g.1 in
        let n : ℕ = get_or first k 0 + g.0 in
        let b : k < n = j.behind in (
          n,
          j.there,
          (
            (let z : 0 < n = omega arith in z),
            record {
              outer = a.tree;
              module_name = a.kn;
              got = ap (λ q. slice_get ms (row_at rows q).kind) j.around ∙ is;
              named = ap (λ q. slice_get (instances a.tree) q) j.child ∙ g.2;
            },
            subst (λ q. StandsAt ms rows q path) (sym j.around) s,
          ),
        )

    number_of : (path : Path) (m : ModuleTree) → module_at ms top path ≡ Some m → (k : ℕ) × (k < length rows) × StandsAt ms rows k path
    number_of [] m e = (0, r.some, refl)
    number_of (i ∷ path) m e =
        let a = module_around ms top i path m e in
        let k = number_of path a.tree a.at in
        number_inside i path m a k.0 k.1 k.2

    pub are_instances : AreInstances ms top rows first
    are_instances = record {
      paths = ways;
      modules = λ k path low s. leads path k low s;
      numbers = number_of;
      inside = inside_all;
      before = λ s pos low. (r.placed s pos low).before;
      once = λ s pos low. r.once s pos low;
      single = number_single;
    }
