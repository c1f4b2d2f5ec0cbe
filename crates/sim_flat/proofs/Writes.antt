-- A list after writes has at each place what was written there last, or what it had.
use Rattle.std.proofs.Common.{◌≡◌, ℕ, ◌+◌, ◌<◌, ◌≤◌, List, [], ◌∷◌, ◌++◌, length, get_or, drop, Option, inl, inr, refl, sym, ap, subst, ◌∙◌, append_assoc, arith}
use Rattle.std.specs.Prelude.{◌⊎◌, ◌≢◌, slice_set}
use Rattle.std.specs.List.{flat_map}
use Rattle.std.proofs.lemmas.Bool.{cases_eq}
use Rattle.std.proofs.lemmas.List.{length-set, get_or-set_same, get_or-set_other, append-nil}
use Rattle.vlog_tree.specs.declared.tree.Item.{Item}
use Rattle.vlog_tree.specs.declared.table.Declaration.{Declaration}
use Rattle.vlog_tree.specs.Loops.{item_instances}
use Rattle.tapa_base.specs.Lists.{Has}
use Rattle.vlog_tree.proofs.Walks.{opened, over}
use Rattle.sim_flat.specs.declared.tables.Scopes.{Scopes}
use Rattle.sim_flat.specs.declared.tables.Source.{Source}
use Rattle.sim_flat.specs.Written.{written, line_writes, lines_writes, line_children, lines_children}

pub written_length : {A : Type 0} (ws : List (ℕ × A)) (xs : List A) → length (written ws xs) ≡ length xs
written_length [] xs = refl
written_length (w ∷ ws) xs = written_length ws (slice_set xs w.0 w.1) ∙ length-set xs w.0 w.1

pub written_both : {A : Type 0} (us ws : List (ℕ × A)) (xs : List A) → written (us ++ ws) xs ≡ written ws (written us xs)
written_both [] ws xs = refl
written_both (u ∷ us) ws xs = written_both us ws (slice_set xs u.0 u.1)

abbrev pub WrittenAt : {A : Type 0} → List (ℕ × A) → List A → ℕ → A → Type 0
WrittenAt {A} ws xs j d = Has ws (j, get_or (written ws xs) j d) ⊎ ((get_or (written ws xs) j d ≡ get_or xs j d) × ((a : A) → Has ws (j, a) → ⊥))

module _ {A : Type 0} (w : ℕ × A) (ws : List (ℕ × A)) (xs : List A) (j : ℕ) (d : A) (low : j < length xs) where
  abbrev value : A
  value = get_or (written ws (slice_set xs w.0 w.1)) j d

  none_more : (j ≢ w.0) → ((a : A) → Has ws (j, a) → ⊥) → (a : A) → (w ≡ (j, a)) ⊎ Has ws (j, a) → ⊥
  none_more ne none a (inl e) = ne (sym (ap (λ (q : ℕ × A). q.0) e))
  none_more ne none a (inr h) = none a h

  written_step : WrittenAt ws (slice_set xs w.0 w.1) j d → (j ≡ w.0) ⊎ (j ≢ w.0) → WrittenAt (w ∷ ws) xs j d
  written_step (inl h) c = inl (inr h)
  written_step (inr e) (inl same) =
      let here : get_or (slice_set xs w.0 w.1) j d ≡ w.1 = ap (λ n. get_or (slice_set xs w.0 w.1) n d) same ∙ get_or-set_same xs w.0 w.1 d (subst (λ n. n < length xs) same low) in
      inl (inl (ap (λ n. (n, w.1)) (sym same) ∙ ap (λ (y : A). (j, y)) (sym (e.0 ∙ here))))
  written_step (inr e) (inr ne) = inr (e.0 ∙ get_or-set_other xs w.0 j w.1 d ne, none_more ne e.1)

pub written_at : {A : Type 0} (ws : List (ℕ × A)) (xs : List A) (j : ℕ) (d : A) → j < length xs → WrittenAt ws xs j d
written_at [] xs j d low = inr (refl, λ a h. h)
written_at (w ∷ ws) xs j d low =
    written_step w ws xs j d low (written_at ws (slice_set xs w.0 w.1) j d (let e : length (slice_set xs w.0 w.1) ≡ length xs = length-set xs w.0 w.1 in omega arith)) (cases_eq j w.0)

-- one more element of a list, with what is written for it
pub write_more : {X A : Type 0} (f : X → List (ℕ × A)) (xs : List X) (i : ℕ) (x : X) (old new all : List A) → i < length xs → x ≡ get_or xs i x → new ≡ written (f x) old
    → written (flat_map f (drop i xs)) old ≡ all → written (flat_map f (drop (i + 1) xs)) new ≡ all
write_more f xs i x old new all low is step inv =
    ap (λ l. written (flat_map f (drop (i + 1) xs)) l) step ∙ sym (written_both (f x) (flat_map f (drop (i + 1) xs)) old)
    ∙ ap (λ l. written (flat_map f l) old) (sym (opened xs i x low is)) ∙ inv

pub write_end : {X A : Type 0} (f : X → List (ℕ × A)) (xs : List X) (i : ℕ) (old all : List A) → length xs ≤ i → written (flat_map f (drop i xs)) old ≡ all → old ≡ all
write_end f xs i old all high inv = ap (λ l. written (flat_map f l) old) (sym (over xs i high)) ∙ inv

module _ (s : Scopes) (ds : List Declaration) (items : List Item) where
  pub lines_step : (line c e : ℕ) (x : Item) (old new all : List Source) → line < length items → x ≡ get_or items line x → e ≡ c + length (item_instances x) → new ≡ written (line_writes s ds line c x) old
      → written (lines_writes s ds line c (drop line items)) old ≡ all → written (lines_writes s ds (line + 1) e (drop (line + 1) items)) new ≡ all
  lines_step line c e x old new all low is count step inv =
      ap (λ n. written (lines_writes s ds (line + 1) n (drop (line + 1) items)) new) count
      ∙ ap (λ l. written (lines_writes s ds (line + 1) (c + length (item_instances x)) (drop (line + 1) items)) l) step
      ∙ sym (written_both (line_writes s ds line c x) (lines_writes s ds (line + 1) (c + length (item_instances x)) (drop (line + 1) items)) old)
      ∙ ap (λ (l : List Item). written (lines_writes s ds line c l) old) (sym (opened items line x low is)) ∙ inv

  pub lines_end : (line c : ℕ) (old all : List Source) → length items ≤ line → written (lines_writes s ds line c (drop line items)) old ≡ all → old ≡ all
  lines_end line c old all high inv = ap (λ (l : List Item). written (lines_writes s ds line c l) old) (sym (over items line high)) ∙ inv

  pub rows_step : (line : ℕ) (x : Item) (old new all : List (ℕ × List (Option ℕ))) → line < length items → x ≡ get_or items line x → new ≡ old ++ line_children s ds line x
      → old ++ lines_children s ds line (drop line items) ≡ all → new ++ lines_children s ds (line + 1) (drop (line + 1) items) ≡ all
  rows_step line x old new all low is step inv =
      ap (λ l. l ++ lines_children s ds (line + 1) (drop (line + 1) items)) step
      ∙ append_assoc old (line_children s ds line x) (lines_children s ds (line + 1) (drop (line + 1) items))
      ∙ ap (λ (l : List Item). old ++ lines_children s ds line l) (sym (opened items line x low is)) ∙ inv

  pub rows_end : (line : ℕ) (old all : List (ℕ × List (Option ℕ))) → length items ≤ line → old ++ lines_children s ds line (drop line items) ≡ all → old ≡ all
  rows_end line old all high inv = sym (append-nil old) ∙ ap (λ (l : List Item). old ++ lines_children s ds line l) (sym (over items line high)) ∙ inv
