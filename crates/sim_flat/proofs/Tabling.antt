-- Tables of modules, one after another.
use Rattle.std.proofs.Common.{◌≡◌, ℕ, zero, suc, ◌+◌, ◌<◌, List, [], ◌∷◌, ◌++◌, length, get_or, take, Some, inl, inr, refl, sym, ap, subst, ◌∙◌, arith}
use Rattle.std.specs.Prelude.{slice_get, ◌⊎◌}
use Rattle.std.proofs.lemmas.List.{length_push, take_more}
use Rattle.std.proofs.lemmas.Option.{slice_get_within}
use Rattle.vlog_tree.specs.Form.{ModuleTree}
use Rattle.sim_flat.specs.declared.tables.Table.{Table}
use Rattle.sim_flat.specs.Tables.{IsTable, AreTablesOf}
use Rattle.sim_flat.proofs.Got.{got_left, got_split}

pub tables_start : (ms : List ModuleTree) → AreTablesOf ms [] []
tables_start ms = record { count = refl; each = λ n m e. cc }

last_got : {A : Type 0} (xs : List A) (x : A) (n : ℕ) → length xs ≡ n → slice_get (xs ++ x ∷ []) n ≡ Some x
last_got [] x n e = ap (λ k. slice_get (x ∷ []) k) (sym e)
last_got (y ∷ xs) x zero e = absurd (omega arith)
last_got (y ∷ xs) x (suc n) e = last_got xs x n (omega arith)

last_is : (m k : ModuleTree) (j : ℕ) → slice_get (m ∷ []) j ≡ Some k → (j ≡ 0) × (m ≡ k)
last_is m k zero e = (refl, cc)
last_is m k (suc j) e = cc

-- the table of each of some modules is among some tables
abbrev Finds : List ModuleTree → ModuleTree → List Table → ℕ → Type 0
Finds ms k tables n = (u : Table) × (slice_get tables n ≡ Some u) × IsTable ms k u

found_before : (ms : List ModuleTree) (k : ModuleTree) (tables : List Table) (t : Table) (n : ℕ) → Finds ms k tables n → Finds ms k (tables ++ t ∷ []) n
found_before ms k tables t n r = (r.0, got_left tables (t ∷ []) n (slice_get_within tables n r.0 r.1) ∙ r.1, r.2)

found_last : (ms : List ModuleTree) (m k : ModuleTree) (tables : List Table) (t : Table) (n : ℕ) → IsTable ms m t → length tables ≡ n → m ≡ k → Finds ms k (tables ++ t ∷ []) n
found_last ms m k tables t n is e same = (t, last_got tables t n e, subst (λ (q : ModuleTree). IsTable ms q t) same is)

module _ (ms some : List ModuleTree) (m : ModuleTree) (tables : List Table) (t : Table) (is : IsTable ms m t) (a : AreTablesOf ms some tables) where
  behind_all : (n j : ℕ) → n ≡ length some + j → j ≡ 0 → length tables ≡ n
  behind_all n j e z = let c : length tables ≡ length some = a.count in omega arith

  each_more : (n : ℕ) (k : ModuleTree) → (slice_get some n ≡ Some k) ⊎ ((j : ℕ) × (n ≡ length some + j) × (slice_get (m ∷ []) j ≡ Some k)) → Finds ms k (tables ++ t ∷ []) n
  each_more n k (inl h) = found_before ms k tables t n (a.each n k h)
  each_more n k (inr r) = let l = last_is m k r.0 r.2 in found_last ms m k tables t n is (behind_all n r.0 r.1 l.0) l.1

  tables_pushed : AreTablesOf ms (some ++ m ∷ []) (tables ++ t ∷ [])
  tables_pushed = record {
    count = (let c : length tables ≡ length some = a.count in let x : length (tables ++ t ∷ []) ≡ length tables + 1 = length_push tables t in let y : length (some ++ m ∷ []) ≡ length some + 1 = length_push some m in omega arith);
    each = λ n k h. each_more n k (got_split some (m ∷ []) n k h);
  }

pub tables_more : (ms : List ModuleTree) (i : ℕ) (m : ModuleTree) (old new : List Table) (t : Table) → i < length ms → m ≡ get_or ms i m → new ≡ old ++ t ∷ [] → IsTable ms m t → AreTablesOf ms (take i ms) old → AreTablesOf ms (take (i + 1) ms) new
tables_more ms i m old new t low is pushed table a =
    subst (λ (l : List Table). AreTablesOf ms (take (i + 1) ms) l) (sym pushed)
    (subst (λ (l : List ModuleTree). AreTablesOf ms l (old ++ t ∷ [])) (sym (take_more ms i m low ∙ ap (λ (q : ModuleTree). take i ms ++ q ∷ []) (sym is)))
    (tables_pushed ms (take i ms) m old t table a))
