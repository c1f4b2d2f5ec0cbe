-- Names of modules tell the numbers in them.
use Rattle.std.proofs.Common.{◌≡◌, ℕ, ◌+◌, ◌%◌, ◌^◌, ◌<◌, Bool, true, ltb, List, [], ◌∷◌, ◌++◌, get_or, drop, append_assoc, refl, sym, ap, ◌∙◌, arith}
use Rattle.std.specs.Prelude.{codes, decimal}
use Rattle.std.specs.List.{list_all}
use Rattle.std.proofs.lemmas.Bool.{lt-ltb, and_from as yes_and}
use Rattle.std.proofs.lemmas.Fmt.{decimal_by_steps, decimal_injective}
use Rattle.vlog_tree.specs.Table.{Name}
use Rattle.hw_build.proofs.Forms.{all_append}
use Rattle.hw_channel_lines.specs.Names.{channel_name, fifo_name, relay_name}
use Rattle.tapa_base.proofs.Tests.{both_true}

-- below `_`, as digits are
abbrev below : ℕ → Bool
below c = ltb c 95

digits_below : (n : ℕ) → n < 2 ^ 64 → list_all below (decimal n) ≡ true
digits_below n h =
    decimal_by_steps (λ k ds. list_all below ds ≡ true)
    (λ k l. yes_and (below (48 + k)) true (lt-ltb (48 + k) 95 (omega arith)) refl)
    (λ k ds l e. all_append below ds ((48 + k % 10) ∷ []) e (yes_and (below (48 + k % 10)) true (lt-ltb (48 + k % 10) 95 (omega arith)) refl))
    n h

not_below : (c : ℕ) → 95 ≡ c → below c ≡ true → ⊥
not_below c e h = let t : ltb 95 95 ≡ true = ap below e ∙ h in cc t

-- texts agree before their first `_` and behind it
at_mark : (xs ys us vs : List ℕ) → list_all below xs ≡ true → list_all below ys ≡ true → xs ++ 95 ∷ us ≡ ys ++ 95 ∷ vs → (xs ≡ ys) × (us ≡ vs)
at_mark [] [] us vs h k e = (refl, ap (drop 1) e)
at_mark [] (y ∷ ys) us vs h k e = absurd (not_below y (ap (λ l. get_or l 0 0) e) (both_true (below y) (list_all below ys) k).0)
at_mark (x ∷ xs) [] us vs h k e = absurd (not_below x (sym (ap (λ l. get_or l 0 0) e)) (both_true (below x) (list_all below xs) h).0)
at_mark (x ∷ xs) (y ∷ ys) us vs h k e =
    let first : x ≡ y = ap (λ l. get_or l 0 0) e in
    let rest : xs ++ 95 ∷ us ≡ ys ++ 95 ∷ vs = ap (drop 1) e in
    let r = at_mark xs ys us vs (both_true (below x) (list_all below xs) h).1 (both_true (below y) (list_all below ys) k).1 rest in
    (ap (λ z. z ∷ xs) first ∙ ap (λ zs. y ∷ zs) r.0, r.1)

-- two numbers, and three, with a mark between
pub two_numbers : (a b c d : ℕ) → a < 2 ^ 64 → b < 2 ^ 64 → c < 2 ^ 64 → d < 2 ^ 64 → decimal a ++ 95 ∷ decimal b ≡ decimal c ++ 95 ∷ decimal d → (a ≡ c) × (b ≡ d)
two_numbers a b c d ha hb hc hd e =
    let t = at_mark (decimal a) (decimal c) (decimal b) (decimal d) (digits_below a ha) (digits_below c hc) e in
    (decimal_injective a c ha hc t.0, decimal_injective b d hb hd t.1)

three_numbers : (a b c d e f : ℕ) → a < 2 ^ 64 → b < 2 ^ 64 → c < 2 ^ 64 → d < 2 ^ 64 → e < 2 ^ 64 → f < 2 ^ 64
    → (decimal a ++ 95 ∷ decimal b) ++ 95 ∷ decimal c ≡ (decimal d ++ 95 ∷ decimal e) ++ 95 ∷ decimal f → (a ≡ d) × (b ≡ e) × (c ≡ f)
three_numbers a b c d e f ha hb hc hd he hf same =
    let regrouped : decimal a ++ 95 ∷ (decimal b ++ 95 ∷ decimal c) ≡ decimal d ++ 95 ∷ (decimal e ++ 95 ∷ decimal f) =
    sym (append_assoc (decimal a) (95 ∷ decimal b) (95 ∷ decimal c)) ∙ same ∙ append_assoc (decimal d) (95 ∷ decimal e) (95 ∷ decimal f) in
    let t = at_mark (decimal a) (decimal d) (decimal b ++ 95 ∷ decimal c) (decimal e ++ 95 ∷ decimal f) (digits_below a ha) (digits_below d hd) regrouped in
    let u = two_numbers b c e f hb hc he hf t.1 in
    (decimal_injective a d ha hd t.0, u.0, u.1)

pub relay_numbers : (bits steps bits_too steps_too : ℕ) → bits < 2 ^ 64 → steps < 2 ^ 64 → bits_too < 2 ^ 64 → steps_too < 2 ^ 64 → relay_name bits steps ≡ relay_name bits_too steps_too → (bits ≡ bits_too) × (steps ≡ steps_too)
unfolding relay_name
relay_numbers a b c d ha hb hc hd e = two_numbers a b c d ha hb hc hd (ap (drop 6) e)

pub fifo_numbers : (bits depth places bits_too depth_too places_too : ℕ) → bits < 2 ^ 64 → depth < 2 ^ 64 → places < 2 ^ 64 → bits_too < 2 ^ 64 → depth_too < 2 ^ 64 → places_too < 2 ^ 64
    → fifo_name bits depth places ≡ fifo_name bits_too depth_too places_too → (bits ≡ bits_too) × (depth ≡ depth_too) × (places ≡ places_too)
unfolding fifo_name
fifo_numbers a b c d e f ha hb hc hd he hf same = three_numbers a b c d e f ha hb hc hd he hf (ap (drop 5) same)

pub channel_numbers : (bits depth late bits_too depth_too late_too : ℕ) → bits < 2 ^ 64 → depth < 2 ^ 64 → late < 2 ^ 64 → bits_too < 2 ^ 64 → depth_too < 2 ^ 64 → late_too < 2 ^ 64
    → channel_name bits depth late ≡ channel_name bits_too depth_too late_too → (bits ≡ bits_too) × (depth ≡ depth_too) × (late ≡ late_too)
unfolding channel_name
channel_numbers a b c d e f ha hb hc hd he hf same = three_numbers a b c d e f ha hb hc hd he hf (ap (drop 8) same)

-- the first letters
pub letter : Name → ℕ
letter x = get_or x 0 0

pub channel_letter : (bits depth late : ℕ) → letter (channel_name bits depth late) ≡ 99
unfolding channel_name letter
channel_letter bits depth late = refl

pub fifo_letter : (bits depth places : ℕ) → letter (fifo_name bits depth places) ≡ 102
unfolding fifo_name letter
fifo_letter bits depth places = refl

pub relay_letter : (bits steps : ℕ) → letter (relay_name bits steps) ≡ 114
unfolding relay_name letter
relay_letter bits steps = refl

pub task_letter : (x : Name) → letter (codes "t_" ++ x) ≡ 116
unfolding letter
task_letter x = refl
