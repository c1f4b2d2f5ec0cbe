-- Numbers as a loop gathers them.
use Rattle.std.proofs.Common.{◌≡◌, ℕ, ◌+◌, ◌<◌, ◌≤◌, List, [], ◌∷◌, ◌++◌, Option, Some, None, length, get_or, drop, refl, sym, ap, ◌∙◌, append_assoc, append-nil}
use Rattle.std.specs.Option.{option_map}
use Rattle.vlog_tree.specs.Cycle.{and_then}
use Rattle.vlog_tree.specs.Table.{Name}
use Rattle.vlog_tree.proofs.Walks.{opened, over}
use Rattle.vlog_values.specs.declared.numbers.NetNumber.{NetNumber}
use Rattle.vlog_ref_cycle.specs.Numbers.{all_numbers}

abbrev pub numbered : NetNumber → ℕ → NetNumber
numbered r n = record { name = r.name; bits = r.bits; number = n }

module _ (f : Name → Option ℕ) (reads out : List NetNumber) (i : ℕ) (all : Option (List NetNumber)) (so_far : all ≡ option_map (λ ys. out ++ ys) (all_numbers f (drop i reads))) where
  module _ (r : NetNumber) (low : i < length reads) (is : r ≡ get_or reads i r) where
    next_is : all ≡ option_map (λ ys. out ++ ys) (and_then (f r.name) (λ n. and_then (all_numbers f (drop (i + 1) reads)) (λ ns. Some (numbered r n ∷ ns))))
    next_is = so_far ∙ ap (λ l. option_map (λ ys. out ++ ys) (all_numbers f l)) (opened reads i r low is)

    pub numbers_none : None ≡ f r.name → None ≡ all
    numbers_none h = ap (λ o. option_map (λ ys. out ++ ys) (and_then o (λ n. and_then (all_numbers f (drop (i + 1) reads)) (λ ns. Some (numbered r n ∷ ns))))) h ∙ sym next_is

    with_one : (k : NetNumber) (o : Option (List NetNumber)) → option_map (λ ys. out ++ ys) (and_then o (λ ns. Some (k ∷ ns))) ≡ option_map (λ ys. (out ++ k ∷ []) ++ ys) o
    with_one k None = refl
    with_one k (Some ns) = ap (λ l. Some l) (sym (append_assoc out (k ∷ []) ns))

    pub numbers_more : (n : ℕ) (more : List NetNumber) → Some n ≡ f r.name → more ≡ out ++ numbered r n ∷ [] → all ≡ option_map (λ ys. more ++ ys) (all_numbers f (drop (i + 1) reads))
    numbers_more n more h e =
        let k : NetNumber = numbered r n in
        next_is
        ∙ ap (λ o. option_map (λ ys. out ++ ys) (and_then o (λ n. and_then (all_numbers f (drop (i + 1) reads)) (λ ns. Some (numbered r n ∷ ns))))) (sym h)
        ∙ with_one k (all_numbers f (drop (i + 1) reads))
        ∙ ap (λ l. option_map (λ ys. l ++ ys) (all_numbers f (drop (i + 1) reads))) (sym e)

  pub numbers_end : length reads ≤ i → Some out ≡ all
  numbers_end h = ap (λ l. Some l) (sym (append-nil out)) ∙ sym (so_far ∙ ap (λ l. option_map (λ ys. out ++ ys) (all_numbers f l)) (over reads i h))
