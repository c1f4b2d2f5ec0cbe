-- The files of a list of entries, one entry after another.
use Rattle.std.specs.declared.alloc.Global.{Global}
use Rattle.std.proofs.lemmas.Bool.{false_from_ne_true}
use Rattle.std.proofs.lemmas.List.Sums.{sum_by-append}
use Rattle.std.proofs.lemmas.Slice.Eq.{bytes_eq-Decides}
use Rattle.std.proofs.Common.{◌≡◌, ℕ, suc, ◌+◌, ◌<◌, Bool, cond, List, [], ◌∷◌, ◌++◌, length, drop, get_or, Some, String, string_bytes, sym, ◌∙◌, ap, add-one, add-zero, zero-add, drop-cons}
use Rattle.std.proofs.lemmas.Cmp.{nat_list_cmp_total}
use Rattle.std.specs.Str.{bytes_eq}
use Rattle.std.specs.FinMap.{get, get-insert}
use Rattle.std.proofs.lemmas.Map.Text.{is_eq-slice_cmp}
use Rattle.tapa_files.specs.Memory.{Entry, files_of, times, CountsOnce}

pub get-files_of : (e : Entry) (es : List Entry) (name : List ℕ) → get (files_of (e ∷ es)) name ≡ cond (bytes_eq name (string_bytes e.0)) (Some e.1.items) (get (files_of es) name)
get-files_of e es name =
    get-insert nat_list_cmp_total (files_of es) (string_bytes e.0) e.1.items name
    ∙ ap (λ (b : Bool). cond b (Some e.1.items) (get (files_of es) name)) (is_eq-slice_cmp name (string_bytes e.0))

-- what the entries from one on give is given by that one or by those behind it
pub get-files_of-drop : (es : List Entry) (i : ℕ) (e : Entry) (name : List ℕ) → i < length es → e ≡ get_or es i e → get (files_of (drop i es)) name ≡ cond (bytes_eq name (string_bytes e.0)) (Some e.1.items) (get (files_of (drop (i + 1) es)) name)
get-files_of-drop es i e name within is =
    rw (drop-cons es i e, ← is, add-one i) (get-files_of e (drop (suc i) es) name)

times_push : (names : List (String Global)) (t : String Global) (other : List ℕ) → times (names ++ t ∷ []) other ≡ times names other + cond (bytes_eq other (string_bytes t)) 1 0
times_push names t other = sum_by-append (λ (n : String Global). cond (bytes_eq other (string_bytes n)) 1 0) names (t ∷ []) ∙ ap (λ k. times names other + k) (zero-add _)

pub counts_push : (names new : List (String Global)) (t : String Global) (name : List ℕ) → string_bytes t ≡ name → new ≡ names ++ t ∷ [] → CountsOnce names new name
counts_push names new t name is grown = record {
  once = ap (λ (l : List (String Global)). times l name) grown ∙ times_push names t name ∙ ap (λ b. times names name + cond b 1 0) ((bytes_eq-Decides name (string_bytes t)).1 (sym is));
  others = λ other apart.
      ap (λ (l : List (String Global)). times l other) grown ∙ times_push names t other
      ∙ ap (λ b. times names other + cond b 1 0) (false_from_ne_true (bytes_eq other (string_bytes t)) (λ same. apart ((bytes_eq-Decides other (string_bytes t)).0 same ∙ is))) ∙ add-zero _;
}
