-- The pairs of the names of a design's top.
use Rattle.std.proofs.Common.{◌≡◌, ℕ, ◌+◌, Bool, true, false, List, [], Option, Some, None, get_or, map, refl, sym, ap, subst, ◌∙◌, arith}
use Rattle.std.specs.Prelude.{IsSome, slice_get}
use Rattle.std.proofs.lemmas.Option.{same_Some}
use Rattle.vlog_tree.specs.declared.table.Declaration.{Declaration}
use Rattle.vlog_tree.specs.declared.table.NetKind.TheVariants.{Unknown}
use Rattle.vlog_tree.specs.Form.{ModuleTree}
use Rattle.vlog_tree.specs.Table.{Name, is_clk, declared, declaration_name, net_kind_of, net_kind_is_read}
use Rattle.tapa_base.proofs.Lists.{has_got}
use Rattle.vlog_scope.specs.NameTable.{places_from}
use Rattle.vlog_scope.proofs.Found.{missing}
use Rattle.vlog_run_laws.proofs.runs.Sizes.{declared_net_kind}
use Rattle.vlog_run_laws.proofs.runs.Settled.{IsTopTree, top_tree}
use Rattle.sim_tape.specs.declared.gates.Pair.{Pair}
use Rattle.sim_tape.specs.Tape.{TapeTree}
use Rattle.sim_flat.specs.declared.flat.Flat.{Flat}
use Rattle.sim_flat.specs.Flat.{HasNumber}
use Rattle.sim_flat.specs.Places.{DeclaredAt}
use Rattle.sim_flat.proofs.Standing.{top_low, top_is}
use Rattle.sim_design.proofs.Parts.{numbered, declared_here}
use Rattle.cycle_sim.specs.Machines.{IsTopPlaced, IsPairOf}
use Rattle.cycle_sim.proofs.Numbering.{tree_at}
use Rattle.tapa_base.proofs.Tests.{true_not_false}

some_not_none : {A : Type 0} (o : Option A) → IsSome o → o ≡ None → ⊥
some_not_none None h e = cc
some_not_none (Some x) h e = cc

module _ (ms : List ModuleTree) (top : ModuleTree) (f : Flat) (pairs : List (Option Pair)) (t : TapeTree) (names : List Declaration) (here : IsTopPlaced ms top f pairs t names) where
  pub tree : IsTopTree ms top
  tree = top_tree ms here.flat.top_place here.flat.design top here.flat.top_at

  -- the place of a name of the top is its number
  pub top_number : (j : ℕ) (x : Name) → DeclaredAt top j x → HasNumber ms f j ([], x)
  top_number j x d =
      let from : get_or f.first_net.items 0 0 + j ≡ j = let z = here.flat.numbers.starts in omega arith in
      subst (λ k. HasNumber ms f k ([], x)) from (numbered ms f 0 (top_low ms top f here.flat) [] refl top (top_is ms top f here.flat) j x d)

  pub number_place : (number : ℕ) (x : Name) → HasNumber ms f number ([], x) → DeclaredAt top number x
  number_place number x h =
      let same : top ≡ h.at.tree = same_Some top h.at.tree (tree_at ms top f here.flat number ([], x) h) in
      let first : get_or f.first_net.items h.instance 0 ≡ 0 = ap (λ k. get_or f.first_net.items k 0) h.at.stands ∙ here.flat.numbers.starts in
      let place : h.place ≡ number = let is : number ≡ get_or f.first_net.items h.instance 0 + h.place = h.is in omega arith in
      subst (λ (m : ModuleTree). DeclaredAt m number x) (sym same) (subst (λ k. DeclaredAt h.at.tree k x) place h.at.declared_at)

  -- what stands at a place of the top is what its name stands for
  pub declared_kind : (j : ℕ) (d : Declaration) → slice_get (declared top) j ≡ Some d → net_kind_of (declared top) d.name ≡ d.net_kind
  declared_kind j d got = declared_net_kind top ms here.flat.design.sound.names tree.has d (has_got (declared top) j d got)

  named_place : (x : Name) (q : ℕ × Bool) → places_from 0 (map declaration_name names) x ≡ Some q → DeclaredAt top q.0 x
  named_place x q e = declared_here ms f 0 (top_low ms top f here.flat) [] refl top (top_is ms top f here.flat) x q (ap (λ ds. places_from 0 (map declaration_name ds) x) (sym here.are_names) ∙ e)

  -- a name that can be read has a place and a pair
  pub no_place : (x : Name) → net_kind_is_read (net_kind_of (declared top) x) ≡ true → places_from 0 (map declaration_name names) x ≡ None → ⊥
  no_place x read e =
      let none : places_from 0 (map declaration_name (declared top)) x ≡ None = ap (λ ds. places_from 0 (map declaration_name ds) x) (sym here.are_names) ∙ e in
      let unknown_kind : net_kind_of (declared top) x ≡ Unknown = ap (λ (d : Declaration). d.net_kind) (missing 0 (declared top) x none).here in
      true_not_false (sym read ∙ ap net_kind_is_read unknown_kind)

  pub no_pair : (x : Name) → net_kind_is_read (net_kind_of (declared top) x) ≡ true → is_clk x ≡ false → (q : ℕ × Bool) → places_from 0 (map declaration_name names) x ≡ Some q → get_or pairs q.0 None ≡ None → ⊥
  no_pair x read clock q e none = some_not_none (get_or pairs q.0 None) (here.placed.all q.0 ([], x) top (top_number q.0 x (named_place x q e)) refl read clock) none

  pub pair_here : (x : Name) (q : ℕ × Bool) → places_from 0 (map declaration_name names) x ≡ Some q → (p : Pair) → get_or pairs q.0 None ≡ Some p → IsPairOf ms f pairs x p
  pair_here x q e p got = (q.0, top_number q.0 x (named_place x q e), got)
