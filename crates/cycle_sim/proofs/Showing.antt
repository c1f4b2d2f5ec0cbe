-- The pairs of the nets of a design's top, and the numbers that they show.
use Rattle.std.proofs.Common.{◌≡◌, ℕ, zero, suc, ◌^◌, ◌<◌, ◌≤◌, Bool, true, false, cond, List, [], ◌∷◌, ◌++◌, Option, Some, None, length, get_or, append-nil, inl, inr, refl, sym, ap, subst, ◌∙◌, arith}
use Rattle.std.specs.Prelude.{not, slice_get, option_and_then}
use Rattle.std.specs.Option.{option_to_list}
use Rattle.std.specs.List.{AllZip, filter}
use Rattle.std.proofs.lemmas.Option.{slice_get_within}
use Rattle.std.proofs.lemmas.Bool.{not-true}
use Rattle.tapa_base.specs.Lists.{Has}
use Rattle.tapa_base.proofs.Lists.{has_got}
use Rattle.vlog_tree.specs.declared.table.Declaration.{Declaration}
use Rattle.vlog_tree.specs.Form.{ModuleTree}
use Rattle.vlog_tree.specs.Table.{is_clk, declared, net_kind_of, net_kind_is_read, bits_of}
use Rattle.vlog_tree.specs.Refused.{IsDesign}
use Rattle.vlog_tree.specs.Cycle.{Cycle, Path}
use Rattle.vlog_tree.specs.Environment.{Environment, FitsShape, RunsIn, shape_of}
use Rattle.vlog_run_laws.proofs.runs.Sizes.{declared_bits, declared_net_kind}
use Rattle.vlog_run_laws.proofs.widths.Fitting.{run_fits}
use Rattle.vlog_design.specs.Designs.{TopOf}
use Rattle.sim_tape.specs.declared.gates.Pair.{Pair}
use Rattle.sim_tape.specs.Tape.{TapeTree, pair_value}
use Rattle.sim_flat.specs.declared.flat.Flat.{Flat}
use Rattle.cycle_sim.specs.declared.parts.Parts.{Parts}
use Rattle.cycle_sim.specs.declared.parts.State.{State}
use Rattle.cycle_sim.specs.Told.{TellTree, IsToldOf}
use Rattle.cycle_sim.specs.SlotsTold.{number_told}
use Rattle.cycle_sim.specs.Sims.{InRuns}
use Rattle.cycle_sim.specs.Machines.{IsTopPlaced, IsPairOf}
use Rattle.cycle_sim.specs.ShownNets.{is_shown, shown_nets, AreShown}
use Rattle.cycle_sim.specs.Wholes.{IsSim, sim_tree}
use Rattle.cycle_sim.proofs.Numbering.{number_is_found}
use Rattle.cycle_sim.proofs.Telling.{some_is}
use Rattle.cycle_sim.proofs.Naming.{declared_kind, top_number}
use Rattle.tapa_base.proofs.Tests.{both_true}
use Rattle.vlog_run_laws.proofs.loops.Climbed.{kept as has_kept}

-- ---- two lists, place by place

zip_push : {A B : Type 0} (R : A → B → Type 0) (xs : List A) (ys : List B) (x : A) (y : B) → AllZip R xs ys → R x y → AllZip R (xs ++ x ∷ []) (ys ++ y ∷ [])
zip_push R [] [] x y h r = (r, tt)
zip_push R [] (b ∷ ys) x y h r = absurd h
zip_push R (a ∷ xs) [] x y h r = absurd h
zip_push R (a ∷ xs) (b ∷ ys) x y h r = (h.0, zip_push R xs ys x y h.1 r)

pub zip_long : {A B : Type 0} (R : A → B → Type 0) (xs : List A) (ys : List B) → AllZip R xs ys → length ys ≡ length xs
zip_long R [] [] h = refl
zip_long R [] (b ∷ ys) h = absurd h
zip_long R (a ∷ xs) [] h = absurd h
zip_long R (a ∷ xs) (b ∷ ys) h = ap suc (zip_long R xs ys h.1)

pub zip_got : {A B : Type 0} (R : A → B → Type 0) (xs : List A) (ys : List B) → AllZip R xs ys → (i : ℕ) (x : A) → slice_get xs i ≡ Some x → (y : B) × (slice_get ys i ≡ Some y) × R x y
zip_got R [] [] h i x g = cc
zip_got R [] (b ∷ ys) h i x g = absurd h
zip_got R (a ∷ xs) [] h i x g = absurd h
zip_got R (a ∷ xs) (b ∷ ys) h zero x g = let e : a ≡ x = cc g in (b, refl, subst (λ z. R z b) e h.0)
zip_got R (a ∷ xs) (b ∷ ys) h (suc i) x g = zip_got R xs ys h.1 i x g

-- both go on by one, or neither does
pub zip_more : {A B : Type 0} (R : A → B → Type 0) (xs : List A) (ys : List B) (x : A) (b : Bool) (o : Option B) → AllZip R xs ys → (b ≡ true → (y : B) × (o ≡ Some y) × R x y) → (b ≡ false → o ≡ None)
    → AllZip R (xs ++ cond b (x ∷ []) []) (ys ++ option_to_list o)
zip_more R xs ys x true o h some none = let y = some refl in subst (λ z. AllZip R (xs ++ x ∷ []) (ys ++ option_to_list z)) (sym y.1) (zip_push R xs ys x y.0 h y.2)
zip_more R xs ys x false o h some none = subst (λ z. AllZip R (xs ++ []) (ys ++ option_to_list z)) (sym (none refl)) (rw (append-nil xs, append-nil ys) h)

kept_by : {A : Type 0} (p : A → Bool) (y : A) (ys : List A) (x : A) (b : Bool) → p y ≡ b → (Has (filter p ys) x → Has ys x × (p x ≡ true)) → Has (cond b (y ∷ filter p ys) (filter p ys)) x → Has (y ∷ ys) x × (p x ≡ true)
kept_by p y ys x true e rest (inl s) = (inl s, subst (λ z. p z ≡ true) s e)
kept_by p y ys x true e rest (inr i) = let r = rest i in (inr r.0, r.1)
kept_by p y ys x false e rest i = let r = rest i in (inr r.0, r.1)

-- ---- pairs of nets

-- what is shown can be read, and is not the clock
is_net : (d : Declaration) → is_shown d ≡ true → (net_kind_is_read d.net_kind ≡ true) × (is_clk d.name ≡ false)
is_net d h = let two = both_true (net_kind_is_read d.net_kind) (not (is_clk d.name)) h in (two.0, not-true (is_clk d.name) two.1)

module _ (ms : List ModuleTree) (top : ModuleTree) (f : Flat) (pairs : List (Option Pair)) (t : TapeTree) (names : List Declaration) (here : IsTopPlaced ms top f pairs t names) where
  -- a net that is shown has a pair at its place
  pub shown_pair : (j : ℕ) (d : Declaration) → slice_get names j ≡ Some d → is_shown d ≡ true → (p : Pair) × (get_or pairs j None ≡ Some p) × IsPairOf ms f pairs d.name p
  shown_pair j d got shown =
      let at : slice_get (declared top) j ≡ Some d = subst (λ l. slice_get l j ≡ Some d) here.are_names got in
      let net = is_net d shown in
      let read : net_kind_is_read (net_kind_of (declared top) d.name) ≡ true = ap net_kind_is_read (declared_kind ms top f pairs t names here j d at) ∙ net.0 in
      let number = top_number ms top f pairs t names here j d.name (d, at, refl) in
      let p = some_is (get_or pairs j None) (here.placed.all j ([], d.name) top number refl read net.1) in
      (p.0, p.1, (j, number, p.1))

  -- so all that are shown have
  pub shown_all : (shown : List Pair) → AllZip (λ (d : Declaration) p. IsPairOf ms f pairs d.name p) (shown_nets top) shown → AreShown ms top f pairs shown
  shown_all shown h = record {
    count = zip_long (λ (d : Declaration) p. IsPairOf ms f pairs d.name p) (shown_nets top) shown h;
    each = zip_got (λ (d : Declaration) p. IsPairOf ms f pairs d.name p) (shown_nets top) shown h;
  }

-- ---- what is told of nets

module _ (ms : List ModuleTree) (place : ℕ) (design : IsDesign ms place) (top : ModuleTree) (at : slice_get ms place ≡ Some top) (k : ℕ) (d : Declaration) (got : slice_get (shown_nets top) k ≡ Some d) where
  kept : Has (declared top) d × (is_shown d ≡ true)
  kept = has_kept is_shown (declared top) d (has_got (shown_nets top) k d got)

  read : net_kind_is_read (net_kind_of (declared top) d.name) ≡ true
  read = ap net_kind_is_read (declared_net_kind top ms design.sound.names (has_got ms place top at) d kept.0) ∙ (is_net d kept.1).0

  -- it can be read, and is not the clock
  pub shown_read : (net_kind_is_read (net_kind_of (declared top) d.name) ≡ true) × (is_clk d.name ≡ false)
  shown_read = (read, (is_net d kept.1).1)

  module _ (env : Environment) (nets : ℕ → Path → Cycle) (t : TellTree) (told : IsToldOf ms top env nets t) where
    -- it is what the run has
    pub told_value : t.number [] d.name ≡ (nets t.cycle []).net d.name
    told_value = told.numbers [] top d.name refl read (is_net d kept.1).1

    -- and fits the net's width
    pub told_fits : FitsShape env (shape_of top) → RunsIn ms top env nets → t.number [] d.name < 2 ^ d.bits
    told_fits env_fits r =
        let low : (nets t.cycle []).net d.name < 2 ^ bits_of (declared top) d.name = ((run_fits ms place top design at env env_fits nets r).modules t.cycle [] top refl).nets d.name read (is_net d kept.1).1 in
        subst (λ n. t.number [] d.name < 2 ^ n) (declared_bits top ms design.sound.names (has_got ms place top at) d kept.0) (subst (λ n. n < 2 ^ bits_of (declared top) d.name) (sym told_value) low)

-- ---- what a simulator shows

module _ (p : Parts) (s : State) (sim : IsSim p s) (place : ℕ) (q : Pair) (got : slice_get p.around.shown.items place ≡ Some q) where
  here : (d : Declaration) → slice_get (shown_nets sim.parts.top) place ≡ Some d → IsPairOf p.design.modules p.flat p.machine.pairs.items d.name q
  here d at =
      let u = sim.parts.around.shown.each place d at in
      let same : u.0 ≡ q = cc (u.1, got) in
      subst (IsPairOf p.design.modules p.flat p.machine.pairs.items d.name) same u.2

  pub shown_told : (m : ModuleTree) (d : Declaration) → TopOf p.design m → slice_get (shown_nets m) place ≡ Some d → pair_value s.numbers.items q ≡ (sim_tree p s).told.number [] d.name
  shown_told m d top at =
      let same : m ≡ sim.parts.top = cc (sim.parts.at, top) in
      let i = here d (subst (λ (k : ModuleTree). slice_get (shown_nets k) place ≡ Some d) same at) in
      let ns : List ℕ = s.numbers.items in
      sym (ap (λ o. number_told ns (option_and_then (λ number. get_or p.machine.pairs.items number None) o)) (number_is_found p.design.modules sim.parts.top p.flat sim.parts.machine.flat i.0 ([], d.name) i.1) ∙ ap (number_told ns) i.2)

  pub shown_fits : InRuns (sim_tree p s) (λ m env nets. (d : Declaration) → slice_get (shown_nets m) place ≡ Some d → pair_value s.numbers.items q < 2 ^ d.bits)
  shown_fits m env nets top f ready r told d at =
      let flat = sim.parts.machine.flat in
      let same : sim.parts.top ≡ m = cc (sim.parts.at, top) in
      let there : slice_get p.design.modules flat.top_place ≡ Some m = subst (λ (k : ModuleTree). slice_get p.design.modules flat.top_place ≡ Some k) same flat.top_at in
      subst (λ n. n < 2 ^ d.bits) (sym (shown_told m d top at)) (told_fits p.design.modules flat.top_place flat.design m there place d at env nets (sim_tree p s).told told f r)

-- past the last pair there is no net
pub none_shown : (p : Parts) (s : State) → IsSim p s → (place : ℕ) → length p.around.shown.items ≤ place → (m : ModuleTree) (d : Declaration) → TopOf p.design m → slice_get (shown_nets m) place ≡ Some d → ⊥
none_shown p s sim place far m d top at =
    let same : m ≡ sim.parts.top = cc (sim.parts.at, top) in
    let low : place < length (shown_nets sim.parts.top) = slice_get_within (shown_nets sim.parts.top) place d (subst (λ (k : ModuleTree). slice_get (shown_nets k) place ≡ Some d) same at) in
    let count : length p.around.shown.items ≡ length (shown_nets sim.parts.top) = sim.parts.around.shown.count in
    absurd (omega arith)
