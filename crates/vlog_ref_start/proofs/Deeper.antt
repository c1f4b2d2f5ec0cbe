-- With more steps there is each number that fewer steps give, and so one depth serves several nets.
use Rattle.std.proofs.Common.{◌≡◌, ℕ, zero, suc, ◌+◌, List, [], ◌∷◌, Option, Some, inl, inr, refl, ap, subst, sym, ◌∙◌, arith}
use Rattle.std.specs.Prelude.{unwrap_or, slice_get}
use Rattle.vlog_tree.specs.Form.{ModuleTree}
use Rattle.tapa_base.specs.Lists.{Has}
use Rattle.vlog_tree.specs.Cycle.{Path, and_then}
use Rattle.vlog_tree.specs.Table.{Name}
use Rattle.vlog_tree.specs.Flattened.{FlatNet}
use Rattle.vlog_values.specs.declared.numbers.NetNumber.{NetNumber}
use Rattle.vlog_values.specs.declared.moment.Moment.{Moment}
use Rattle.vlog_ref_cycle.specs.Sources.{RuleTree, SourceTree, given_number, same_number, source_of}
use Rattle.vlog_ref_cycle.specs.Numbers.{by_rule, all_numbers, net_within}
use Rattle.vlog_ref_cycle.proofs.Gathered.{numbered}
use Rattle.vlog_ref_cycle.proofs.Options.{and_then_some}

numbers_kept : (f g : Name → Option ℕ) → ((x : Name) (v : ℕ) → f x ≡ Some v → g x ≡ Some v) → (reads ns : List NetNumber) → all_numbers f reads ≡ Some ns → all_numbers g reads ≡ Some ns
numbers_kept f g h [] ns e = e
numbers_kept f g h (r ∷ reads) ns e =
    let t = and_then_some (f r.name) (λ n. and_then (all_numbers f reads) (λ ks. Some (numbered r n ∷ ks))) ns e in
    let u = and_then_some (all_numbers f reads) (λ ks. Some (numbered r t.0 ∷ ks)) ns t.2 in
    ap (λ o. and_then o (λ n. and_then (all_numbers g reads) (λ ks. Some (numbered r n ∷ ks)))) (h r.name t.0 t.1)
    ∙ ap (λ o. and_then o (λ ks. Some (numbered r t.0 ∷ ks))) (numbers_kept f g h reads u.0 u.1) ∙ u.2

module _ (ms : List ModuleTree) (top : ModuleTree) (now : Moment) where
  abbrev from_source : ℕ → SourceTree → Option ℕ
  from_source d s = and_then (all_numbers (net_within ms top now d s.path) s.reads) (by_rule s.rule)

  one_deeper : (d : ℕ) (path : Path) (x : Name) (v : ℕ) → net_within ms top now d path x ≡ Some v → net_within ms top now (suc d) path x ≡ Some v
  one_deeper zero path x v h = cc
  one_deeper (suc d) path x v h =
      let t = and_then_some (source_of ms top now path x) (from_source d) v h in
      let u = and_then_some (all_numbers (net_within ms top now d t.0.path) t.0.reads) (by_rule t.0.rule) v t.2 in
      ap (λ o. and_then o (from_source (suc d))) t.1
      ∙ ap (λ o. and_then o (by_rule t.0.rule)) (numbers_kept (net_within ms top now d t.0.path) (net_within ms top now (suc d) t.0.path) (λ y w k. one_deeper d t.0.path y w k) t.0.reads u.0 u.1)
      ∙ u.2

  pub deeper : (j d e : ℕ) → e ≡ d + j → (path : Path) (x : Name) (v : ℕ) → net_within ms top now d path x ≡ Some v → net_within ms top now e path x ≡ Some v
  deeper zero d e is path x v h = let same : e ≡ d = omega arith in subst (λ k. net_within ms top now k path x ≡ Some v) (sym same) h
  deeper (suc j) d e is path x v h = deeper j (suc d) e (omega arith) path x v (one_deeper d path x v h)

  pub all_deeper : (j d e : ℕ) → e ≡ d + j → (path : Path) (reads ns : List NetNumber) → all_numbers (net_within ms top now d path) reads ≡ Some ns → all_numbers (net_within ms top now e path) reads ≡ Some ns
  all_deeper j d e is path reads ns h = numbers_kept (net_within ms top now d path) (net_within ms top now e path) (λ x v k. deeper j d e is path x v k) reads ns h

  -- enough steps give the net its number
  abbrev pub IsFound : FlatNet → Type 0
  IsFound n = (d : ℕ) × (v : ℕ) × (net_within ms top now d n.0 n.1 ≡ Some v)

  pub all_found : (path : Path) (reads : List NetNumber) → ((r : NetNumber) → Has reads r → IsFound (path, r.name)) → (d : ℕ) × (ns : List NetNumber) × (all_numbers (net_within ms top now d path) reads ≡ Some ns)
  all_found path [] f = (0, [], refl)
  all_found path (r ∷ reads) f =
      let a = f r (inl refl) in
      let b = all_found path reads (λ q h. f q (inr h)) in
      let d = a.0 + b.0 in (
        d,
        numbered r a.1 ∷ b.1,
        ap (λ o. and_then o (λ n. and_then (all_numbers (net_within ms top now d path) reads) (λ ns. Some (numbered r n ∷ ns)))) (deeper b.0 a.0 d refl path r.name a.1 a.2)
            ∙ ap (λ o. and_then o (λ ns. Some (numbered r a.1 ∷ ns))) (all_deeper a.0 b.0 d (omega arith) path reads b.1 b.2),
      )

  -- enough steps give what a source gives
  abbrev pub IsAnswered : SourceTree → Type 0
  IsAnswered s = (d : ℕ) × (v : ℕ) × (from_source d s ≡ Some v)

  -- there is a source, and what it gives
  abbrev pub IsGiven : Option SourceTree → Type 0
  IsGiven o = (s : SourceTree) × (o ≡ Some s) × IsAnswered s

  pub found_by : (path : Path) (x : Name) → IsGiven (source_of ms top now path x) → IsFound (path, x)
  found_by path x g = (suc g.2.0, g.2.1, ap (λ o. and_then o (from_source g.2.0)) g.1 ∙ g.2.2)

  pub number_answered : (n : ℕ) → IsAnswered (given_number n)
  number_answered n = (0, n, refl)

  abbrev read_alone : Path → Name → RuleTree → SourceTree
  read_alone path z rule = record { path = path; reads = record { name = z; bits = 0; number = 0 } ∷ []; rule = rule }

  alone_answered : (path : Path) (z : Name) (rule : RuleTree) (f : IsFound (path, z)) (v : ℕ) → by_rule rule (record { name = z; bits = 0; number = f.1 } ∷ []) ≡ Some v → IsAnswered (read_alone path z rule)
  alone_answered path z rule f v e = (f.0, v, ap (λ o. and_then (and_then o (λ n. Some (record { name = z; bits = 0; number = n } ∷ []))) (by_rule rule)) f.2 ∙ e)

  pub same_answered : (path : Path) (z : Name) → IsFound (path, z) → IsAnswered (same_number path z)
  same_answered path z f = alone_answered path z RuleTree.same f f.1 refl

  pub cells_answered : (z : Name) (cells : List ℕ) → IsFound ([], z) → IsAnswered (record { path = []; reads = record { name = z; bits = 0; number = 0 } ∷ []; rule = RuleTree.cells cells })
  cells_answered z cells f = alone_answered [] z (RuleTree.cells cells) f (unwrap_or (slice_get cells f.1) 0) refl
