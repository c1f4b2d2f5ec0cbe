-- Numbers that are made digit by digit: cut at a largest, or as long as 128 bits hold them.
use Rattle.std.proofs.Common.{◌≡◌, ℕ, zero, suc, ◌+◌, ◌*◌, ◌<◌, ◌≤◌, ◌^◌, min, List, [], ◌∷◌, length, get_or, drop, sym, ap, subst, ◌∙◌, arith}
use Rattle.std.specs.Char.{digit_value}
use Rattle.std.specs.Str.Parse.{digits_value, digits_value_after}
use Rattle.std.proofs.lemmas.List.{at_drop_more, at_drop_all}

-- a number that is cut before more digits is cut behind them
cut_after : (most n m : ℕ) (ds : List ℕ) → min n most ≡ min m most → min (digits_value_after 10 n ds) most ≡ min (digits_value_after 10 m ds) most
cut_after most n m [] e = e
cut_after most n m (d ∷ ds) e = cut_after most (n * 10 + digit_value d) (m * 10 + digit_value d) ds (once most n m (digit_value d) e)
  where
    once : (most n m d : ℕ) → min n most ≡ min m most → min (n * 10 + d) most ≡ min (m * 10 + d) most
    once most n m d e = omega arith

-- one digit more, and the number is cut there
pub cut_more : (most n m d i : ℕ) (ds : List ℕ) → i < length ds → d ≡ digit_value (get_or ds i 0) → m ≡ min (n * 10 + d) most → min (digits_value_after 10 n (drop i ds)) most ≡ min (digits_value_after 10 m (drop (i + 1) ds)) most
cut_more most n m d i ds lt is cut =
    ap (λ x. min x most) (at_drop_more (digits_value_after 10 n) ds i 0 lt) ∙ cut_after most (n * 10 + digit_value (get_or ds i 0)) m (drop (i + 1) ds) (there most n m d (digit_value (get_or ds i 0)) is cut)
  where
    there : (most n m d e : ℕ) → d ≡ e → m ≡ min (n * 10 + d) most → min (n * 10 + e) most ≡ min m most
    there most n m d e is cut = omega arith

-- all digits are read
pub cut_all : (most n i total : ℕ) (ds : List ℕ) → length ds ≤ i → min total most ≡ min (digits_value_after 10 n (drop i ds)) most → n ≤ most → n ≡ min total most
cut_all most n i total ds end same least = sym (same ∙ ap (λ x. min x most) (at_drop_all (digits_value_after 10 n) ds i end) ∙ below n most least)
  where
    below : (n most : ℕ) → n ≤ most → min n most ≡ n
    below n most h = omega arith

-- a number grows with each digit
grown : (base n : ℕ) (ds : List ℕ) → 1 ≤ base → n ≤ digits_value_after base n ds
grown base n [] h = omega arith
grown base n (d ∷ ds) h = let more = grown base (n * base + digit_value d) ds h in let least = scaled n base h in omega arith
  where
    scaled : (n base : ℕ) → 1 ≤ base → n ≤ n * base
    scaled n base h = search arith

-- one digit more
pub one_more : (base n m d i : ℕ) (ds : List ℕ) → i < length ds → d ≡ digit_value (get_or ds i 0) → m ≡ n * base + d → digits_value_after base n (drop i ds) ≡ digits_value_after base m (drop (i + 1) ds)
one_more base n m d i ds lt is next =
    at_drop_more (digits_value_after base n) ds i 0 lt ∙ ap (λ k. digits_value_after base k (drop (i + 1) ds)) (sym (next ∙ ap (λ x. n * base + x) is))

-- where the number is too great with one digit more, it is with all of them
pub too_great : (base n d i : ℕ) (ds : List ℕ) → i < length ds → digits_value base ds ≡ digits_value_after base n (drop i ds) → d ≡ digit_value (get_or ds i 0) → d ≤ 36 → (n * base + d < 2 ^ 128 → ⊥) → digits_value base ds < 2 ^ 128 → ⊥
too_great zero n d i ds lt so_far is least over fits = over (omega arith)
too_great (suc b) n d i ds lt so_far is least over fits =
    over (below (n * suc b) d (digit_value (get_or ds i 0)) (digits_value (suc b) ds) is (subst (λ (x : ℕ). n * suc b + digit_value (get_or ds i 0) ≤ x) (sym next) (grown (suc b) (n * suc b + digit_value (get_or ds i 0)) (drop (i + 1) ds) (omega arith))) fits)
  where
    next : digits_value (suc b) ds ≡ digits_value_after (suc b) (n * suc b + digit_value (get_or ds i 0)) (drop (i + 1) ds)
    next = so_far ∙ at_drop_more (digits_value_after (suc b) n) ds i 0 lt

    below : (p d e x : ℕ) → d ≡ e → p + e ≤ x → x < 2 ^ 128 → p + d < 2 ^ 128
    below p d e x is least fits = omega arith
