-- The moment that is made is the first one of each run that begins so.
use Rattle.std.proofs.Common.{◌≡◌, ℕ, true, List, [], Some, length, sym, ap, subst, ◌∙◌, map, ◌+◌, arith}
use Rattle.std.specs.Prelude.{is_some, slice_get}
use Rattle.std.specs.List.{AllByRecursion}
use Rattle.vlog_tree.specs.Form.{ModuleTree}
use Rattle.tapa_base.specs.Lists.{Has}
use Rattle.vlog_tree.specs.Refused.{IsDesign}
use Rattle.vlog_tree.specs.V6.{is_top}
use Rattle.vlog_tree.specs.Cycle.{Cycle, Path, module_at}
use Rattle.vlog_tree.specs.Environment.{Environment, shape_of}
use Rattle.tapa_base.proofs.Lists.{has_map, of_map, has_got, some_of}
use Rattle.vlog_run_laws.specs.runs.OneRun.{IsRunFrom}
use Rattle.vlog_run_laws.specs.runs.Filled.{IsFilled}
use Rattle.vlog_run_laws.proofs.runs.Settled.{IsTopTree, top_tree}
use Rattle.vlog_values.specs.Numbers.{first_net}
use Rattle.vlog_values.specs.declared.moment.Held.{Held}
use Rattle.vlog_values.specs.declared.moment.OutsideMemory.{OutsideMemory}
use Rattle.vlog_values.specs.declared.moment.Moment.{Moment}
use Rattle.vlog_ref_cycle.specs.Sources.{held_at, memory_of}
use Rattle.vlog_ref_cycle.specs.Moments.{HeldIs, ScalarIs, OutsideIs, IsAt}
use Rattle.vlog_ref_cycle.proofs.Sound.{held_found}
use Rattle.vlog_ref_start.specs.Whole.{HoldsAll, IsWhole, HasNoMore}
use Rattle.vlog_ref_start.specs.Instances.{PlaceTree, places_below}
use Rattle.vlog_ref_start.specs.Contents.{HeldTree, held_tree, filled_held}
use Rattle.vlog_ref_start.specs.Outside.{OutsideTree, outside_tree, labelled_from, outside_from}
use Rattle.vlog_ref_start.specs.Runs.{IsStart}
use Rattle.vlog_ref_start.proofs.Levels.{below_leads, below_has}
use Rattle.vlog_run_laws.proofs.runs.Short.{way_short}
use Rattle.vlog_ref_start.proofs.Found.{net_there, outside_there, held_there}
use Rattle.vlog_ref_start.proofs.Held.{path_is, holds_all, held_is}
use Rattle.vlog_ref_start.proofs.Around.{StandsThere, scalars_are, stands_there, outside_is, scalar_has, memory_has}
use Rattle.tapa_base.proofs.Got.{all_from}

from_none : (i : ℕ) → i ≡ 0 + i
from_none i = omega arith

module _ (ms : List ModuleTree) (place : ℕ) (root : ModuleTree) (d : IsDesign ms place) (at_place : slice_get ms place ≡ Some root) (env : Environment) (fill : ℕ) (now : Moment) (first : now.cycle ≡ 0)
    (held : map held_tree now.held.items ≡ map (filled_held fill) (places_below ms root (length ms))) (scalars : now.scalars.items ≡ labelled_from 0 (shape_of root).scalars env.scalars)
    (outside : map outside_tree now.outside.items ≡ outside_from 0 (shape_of root).memories env) where
  tree : IsTopTree ms root
  tree = top_tree ms place d root at_place

  -- the instance of what is held
  abbrev IsPlaceOf : Held → PlaceTree → Type 0
  IsPlaceOf h p = (module_at ms root p.0 ≡ Some p.1) × (held_tree h ≡ filled_held fill p)

  place_of_held : (h : Held) → Has now.held.items h → (p : PlaceTree) × IsPlaceOf h p
  place_of_held h has =
      let t = of_map (filled_held fill) (places_below ms root (length ms)) (held_tree h) (subst (λ hs. Has hs (held_tree h)) held (has_map held_tree now.held.items h has)) in
      (t.0, (below_leads ms root d.sound.names tree.has (length ms) t.0 t.1, sym t.2))

  held_of_place : (path : Path) (m : ModuleTree) → module_at ms root path ≡ Some m → (h : Held) × Has now.held.items h × (h.path.items ≡ path)
  held_of_place path m at =
      let p : PlaceTree = (path, m) in
      let there = below_has ms root (length ms) path m at (way_short ms root (is_top ms) d.loopless tree.has path m at) in
      let t = of_map held_tree now.held.items (filled_held fill p) (subst (λ hs. Has hs (filled_held fill p)) (sym held) (has_map (filled_held fill) (places_below ms root (length ms)) p there)) in
      (t.0, t.1, ap (λ (z : HeldTree). z.path) t.2)

  held_whole : (path : Path) (m : ModuleTree) → module_at ms root path ≡ Some m → (h : Held) × (held_at now.held.items path ≡ Some h) × HoldsAll m h
  held_whole path m at =
      let t = held_of_place path m at in
      let s = some_of (held_at now.held.items path) (subst (λ z. is_some (held_at now.held.items z) ≡ true) t.2 (held_there now.held.items t.0 t.1)) in
      let f = held_found now.held.items path s.0 s.1 in
      let p = place_of_held s.0 f.0 in
      let way : p.0.0 ≡ path = sym (path_is fill p.0 s.0 p.1.1) ∙ f.1 in
      let e : Some p.0.1 ≡ Some m = sym p.1.0 ∙ ap (λ z. module_at ms root z) way ∙ at in
      let same : p.0.1 ≡ m = cc e in
      (s.0, s.1, subst (λ (k : ModuleTree). HoldsAll k s.0) same (holds_all fill p.0 s.0 p.1.1))

  held_leads : (h : Held) → Has now.held.items h → is_some (module_at ms root h.path.items) ≡ true
  held_leads h has =
      let p = place_of_held h has in
      ap (λ z. is_some (module_at ms root z)) (path_is fill p.0 h p.1.1) ∙ ap (λ o. is_some o) p.1.0

  memory_stands : (o : OutsideMemory) → Has now.outside.items o → StandsThere env (shape_of root).memories (outside_tree o)
  memory_stands o has = stands_there env (shape_of root).memories (shape_of root).memories 0 (λ i l e. subst (λ z. slice_get (shape_of root).memories z ≡ Some l) (from_none i) e) (outside_tree o)
      (subst (λ os. Has os (outside_tree o)) outside (has_map outside_tree now.outside.items o has))

  whole : IsWhole ms root now
  whole = record {
    held = held_whole;
    scalars = λ l has.
        let t = scalar_has (shape_of root).scalars 0 env.scalars l has in
        subst (λ z. is_some (first_net now.scalars.items z) ≡ true) t.2 (net_there now.scalars.items t.0 (subst (λ vs. Has vs t.0) (sym scalars) t.1));
    outside = λ l has.
        let t = memory_has (shape_of root).memories 0 env l has in
        let q = of_map outside_tree now.outside.items t.0 (subst (λ os. Has os t.0) (sym outside) t.1) in
        subst (λ z. is_some (memory_of now.outside.items z) ≡ true) (ap (λ (z : OutsideTree). z.name) q.2 ∙ t.2) (outside_there now.outside.items q.0 q.1);
  }

  no_more : HasNoMore ms root now
  no_more = record {
    held = held_leads;
    outside = λ o has.
        let s = memory_stands o has in
        (s.label, has_got (shape_of root).memories s.place s.label s.got, sym s.name);
  }

  at_start : (contents : Path → Cycle) (nets : ℕ → Path → Cycle) → IsFilled ms root fill contents → IsRunFrom ms root env contents nets → IsAt ms root env nets now
  at_start contents nets filled r = record {
    held = subst (λ n. AllByRecursion (HeldIs ms root (nets n)) now.held.items) (sym first)
        (all_from (HeldIs ms root (nets 0)) now.held.items (λ h has.
        let p = place_of_held h has in
        held_is fill p.0 h p.1.1 ms root p.1.0 (nets 0) contents (r.begins p.0.0 p.0.1 p.1.0) (filled p.0.0 p.0.1 p.1.0)));
    scalars = subst (λ vs. AllByRecursion (ScalarIs env (shape_of root).scalars) vs) (sym scalars) (scalars_are env (shape_of root).scalars (shape_of root).scalars 0 (λ i l e. subst (λ z. slice_get (shape_of root).scalars z ≡ Some l) (from_none i) e));
    outside = subst (λ n. AllByRecursion (OutsideIs env (λ n. nets n []) n (shape_of root).memories) now.outside.items) (sym first)
        (all_from (OutsideIs env (λ n. nets n []) 0 (shape_of root).memories) now.outside.items (λ o has. outside_is env (shape_of root).memories (λ n. nets n []) o (memory_stands o has)));
  }

  pub starts : IsStart ms root env fill now
  starts = record { cycle = first; runs = at_start; whole = whole; no_more = no_more }
