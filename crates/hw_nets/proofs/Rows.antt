-- The rows of choices, one net after another.
use Rattle.std.proofs.Common.{◌≡◌, ℕ, zero, suc, ◌+◌, ◌-◌, ◌<◌, ◌≤◌, List, [], ◌∷◌, length, get_or, drop, refl, sym, ap, ◌∙◌, arith, add-one}
use Rattle.std.proofs.lemmas.List.{at_drop_more, at_drop_all}
use Rattle.vlog_tree.specs.declared.tree.Atom.TheVariants.{Net, Literal}
use Rattle.vlog_tree.specs.declared.tree.BinaryOp.TheVariants.{Or}
use Rattle.vlog_tree.specs.declared.tree.Value.{Value}
use Rattle.vlog_tree.specs.declared.tree.Value.TheVariants.{Plain, Binary, Choose}
use Rattle.vlog_tree.specs.Form.{ModuleTree}
use Rattle.vlog_tree.specs.Table.{Name}
use Rattle.hw_build.specs.Elements.{Wire, with, with_all}
use Rattle.hw_build.specs.Trees.{numbered}
use Rattle.hw_build.specs.Choices.{Entry as EntryForm, row_of, any_driver, pick_driver, choice}
use Rattle.hw_lines.specs.Texts.{result_of}
use Rattle.hw_nets.specs.declared.entries.Entry.{Entry}
use Rattle.hw_nets.specs.Entries.{entry_form, entry_forms}

pub forms_count : (xs : List Entry) → length (entry_forms xs) ≡ length xs
forms_count [] = refl
forms_count (x ∷ xs) = ap suc (forms_count xs)

-- the drivers of the first net and of a later one
pub first_any : (front : Name) (j : ℕ) (e : EntryForm) → j ≡ 0 → Plain (Net e.condition) ≡ any_driver front j e
first_any front j e h = sym (ap (λ i. any_driver front i e) h)

pub later_any : (front : Name) (j : ℕ) (e : EntryForm) → (j ≡ 0 → ⊥) → Binary (Net (numbered front (j - 1))) Or (Net e.condition) ≡ any_driver front j e
later_any front zero e h = absurd (h refl)
later_any front (suc j) e h = let same : suc j - 1 ≡ j = omega arith in ap (λ i. Binary (Net (numbered front i)) Or (Net e.condition)) same

pub first_pick : (front : Name) (j : ℕ) (e : EntryForm) → j ≡ 0 → Plain e.value ≡ pick_driver front j e
first_pick front j e h = sym (ap (λ i. pick_driver front i e) h)

pub later_pick : (front : Name) (j : ℕ) (e : EntryForm) → (j ≡ 0 → ⊥) → Choose (Net e.condition) e.value (Net (numbered front (j - 1))) ≡ pick_driver front j e
later_pick front zero e h = absurd (h refl)
later_pick front (suc j) e h = let same : suc j - 1 ≡ j = omega arith in ap (λ i. Choose (Net e.condition) e.value (Net (numbered front i))) same

-- one net more
pub row_next : (width : ℕ) (front : Name) (driver : ℕ → EntryForm → Value) (xs : List Entry) (j : ℕ) (x : Entry) (m : ModuleTree) → j < length xs → x ≡ get_or xs j x
    → with_all m (row_of width front driver j (entry_forms (drop j xs))) ≡ with_all (with m (Wire width (numbered front j) (driver j (entry_form x)))) (row_of width front driver (j + 1) (entry_forms (drop (j + 1) xs)))
row_next width front driver xs j x m h e =
    at_drop_more (λ ys. with_all m (row_of width front driver j (entry_forms ys))) xs j x h
    ∙ ap (λ (y : Entry). with_all (with m (Wire width (numbered front j) (driver j (entry_form y)))) (row_of width front driver (suc j) (entry_forms (drop (j + 1) xs)))) (sym e)
    ∙ ap (λ i. with_all (with m (Wire width (numbered front j) (driver j (entry_form x)))) (row_of width front driver i (entry_forms (drop (j + 1) xs)))) (sym (add-one j))

pub row_end : (width : ℕ) (front : Name) (driver : ℕ → EntryForm → Value) (xs : List Entry) (j : ℕ) (m : ModuleTree) → length xs ≤ j → with_all m (row_of width front driver j (entry_forms (drop j xs))) ≡ m
row_end width front driver xs j m h = at_drop_all (λ ys. with_all m (row_of width front driver j (entry_forms ys))) xs j h

-- the net that has the result
pub root_is : (front : Name) (xs : List Entry) (count : ℕ) → count ≡ length xs → numbered front (count - 1) ≡ choice front (entry_forms xs)
root_is front xs count n =
    let c : length (entry_forms xs) ≡ length xs = forms_count xs in
    let e : count - 1 ≡ length (entry_forms xs) - 1 = omega (arith, c, n) in
    ap (numbered front) e

pub no_result : (width : ℕ) (front : Name) (xs : List Entry) → length xs ≡ 0 → Plain (Literal width 0) ≡ result_of width front (entry_forms xs)
no_result width front [] h = refl
no_result width front (x ∷ xs) h = absurd (omega arith)

pub some_result : (width : ℕ) (front x : Name) (xs : List Entry) → (length xs ≡ 0 → ⊥) → x ≡ choice front (entry_forms xs) → Plain (Net x) ≡ result_of width front (entry_forms xs)
some_result width front x [] h e = absurd (h refl)
some_result width front x (y ∷ xs) h e = ap (λ z. Plain (Net z)) e
