-- Counts of names at their first places.
use Rattle.std.proofs.Common.{◌≡◌, ℕ, ◌+◌, ◌<◌, Bool, true, false, cond, List, [], ◌∷◌, ◌++◌, length, get_or, Option, Some, None, refl, sym, ap, subst, ◌∙◌, map, min, replicate}
use Rattle.std.specs.Prelude.{bytes_eq, unwrap_or, slice_set}
use Rattle.std.specs.Cmp.Lexicographic.{bytes_decides}
use Rattle.std.proofs.lemmas.List.{get_or-set_same, get_or-set_other, get_or-replicate, length-replicate, length-set}
use Rattle.vlog_tree.specs.declared.table.Declaration.{Declaration}
use Rattle.vlog_tree.specs.Table.{Name, declaration_name, times_in}
use Rattle.vlog_scope.specs.NameTable.{places_from}
use Rattle.vlog_scope.specs.Chains.{name_at}
use Rattle.vlog_scope.proofs.Found.{within}
use Rattle.vlog_scope.proofs.Chaining.{named_at}
use Rattle.vlog_rules.specs.Drives.{CountsPlaces}
use Rattle.vlog_rules.proofs.Counts.{capped, times-append}
use Rattle.tapa_base.proofs.Tests.{true_not_false}

pub none_counted : (ds : List Declaration) → CountsPlaces ds (replicate (length ds) 0) (times_in [])
none_counted ds = record {
  len = length-replicate (length ds) 0;
  counted = λ x p again e. get_or-replicate (length ds) p 0 0 (within ds x p again e);
}

kept_of : (ds : List Declaration) (name x : Name) (p : ℕ) (again b : Bool) (m n : ℕ) → places_from 0 (map declaration_name ds) name ≡ None → places_from 0 (map declaration_name ds) x ≡ Some (p, again) → bytes_eq name x ≡ b → n ≡ cond b m n
kept_of ds name x p again true m n none e is =
    let same : name ≡ x = (bytes_decides name x).0 is in
    let clash : places_from 0 (map declaration_name ds) x ≡ None = subst (λ (y : Name). places_from 0 (map declaration_name ds) y ≡ None) same none in
    cc
kept_of ds name x p again false m n none e is = refl

-- what is not declared is not counted
pub undeclared : (ds : List Declaration) (counts : List ℕ) (names : List Name) (name : Name) → places_from 0 (map declaration_name ds) name ≡ None → CountsPlaces ds counts (times_in names) → CountsPlaces ds counts (times_in (names ++ name ∷ []))
undeclared ds counts names name none t = record {
  len = t.len;
  counted = λ x p again e.
      kept_of ds name x p again (bytes_eq name x) (min (get_or counts p 0 + 1) 2) (get_or counts p 0) none e refl
      ∙ capped (get_or counts p 0) (times_in names x) (bytes_eq name x) (t.counted x p again e)
      ∙ ap (λ n. min n 2) (sym (times-append names name x));
}

module _ (ds : List Declaration) (counts : List ℕ) (name : Name) (place : ℕ) (first : Bool) (v : ℕ) (at : places_from 0 (map declaration_name ds) name ≡ Some (place, first)) (low : place < length counts)
    (is : v ≡ min (get_or counts place 0 + 1) 2) where
  written : (x : Name) (p : ℕ) (again b : Bool) → places_from 0 (map declaration_name ds) x ≡ Some (p, again) → bytes_eq name x ≡ b → get_or (slice_set counts place v) p 0 ≡ cond b (min (get_or counts p 0 + 1) 2) (get_or counts p 0)
  written x p again true e same_bytes =
      let same : name ≡ x = (bytes_decides name x).0 same_bytes in
      let there : places_from 0 (map declaration_name ds) x ≡ Some (place, first) = subst (λ (y : Name). places_from 0 (map declaration_name ds) y ≡ Some (place, first)) same at in
      let both : p ≡ place = ap (λ (o : Option (ℕ × Bool)). (unwrap_or o (0, false)).0) (sym e ∙ there) in
      ap (λ k. get_or (slice_set counts place v) k 0) both ∙ get_or-set_same counts place v 0 low ∙ is ∙ ap (λ k. min (get_or counts k 0 + 1) 2) (sym both)
  written x p again false e other =
      get_or-set_other counts place p v 0 (λ both.
      let same : name ≡ x = sym (named_at ds name place first at) ∙ ap (λ k. name_at ds k) (sym both) ∙ named_at ds x p again e in
      let yes : bytes_eq name x ≡ true = (bytes_decides name x).1 same in
      true_not_false (sym yes ∙ other))

  -- one more name is counted at its first place
  pub counted_more : (names : List Name) → CountsPlaces ds counts (times_in names) → CountsPlaces ds (slice_set counts place v) (times_in (names ++ name ∷ []))
  counted_more names t = record {
    len = length-set counts place v ∙ t.len;
    counted = λ x p again e.
        written x p again (bytes_eq name x) e refl
        ∙ capped (get_or counts p 0) (times_in names x) (bytes_eq name x) (t.counted x p again e)
        ∙ ap (λ n. min n 2) (sym (times-append names name x));
  }
