-- Words laid out one after another.
use Rattle.std.proofs.Common.{◌≡◌, ℕ, zero, suc, ◌-◌, ◌<◌, List, [], ◌∷◌, ◌++◌, refl, ap, ◌∙◌, sym, append_assoc, arith}
use Rattle.std.specs.Prelude.{fold}
use Rattle.vlog_tree.specs.Spelling.{Page, Word, lay_word, indent}

pub fold_two : (page : Page) (xs ys : List Word) → fold lay_word page (xs ++ ys) ≡ fold lay_word (fold lay_word page xs) ys
fold_two page [] ys = refl
fold_two page (x ∷ xs) ys = fold_two (lay_word page x) xs ys

pub indent_more : (n : ℕ) → 0 < n → indent n ≡ 32 ∷ 32 ∷ indent (n - 1)
indent_more zero h = absurd (omega arith)
indent_more (suc n) h = let e : suc n - 1 ≡ n = omega arith in rw e refl

pub indent_step : (old new all : List ℕ) (n : ℕ) → 0 < n → new ≡ old ++ 32 ∷ 32 ∷ [] → old ++ indent n ≡ all → new ++ indent (n - 1) ≡ all
indent_step old new all n h e inv =
    ap (λ l. l ++ indent (n - 1)) e ∙ append_assoc old (32 ∷ 32 ∷ []) (indent (n - 1)) ∙ ap (λ l. old ++ l) (sym (indent_more n h)) ∙ inv
