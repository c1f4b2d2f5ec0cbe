-- Names are ASCII.
use Rattle.std.proofs.Common.{◌≡◌, ℕ, zero, suc, ◌<◌, true, List, [], ◌∷◌, refl, arith}
use Rattle.std.specs.List.{list_all}
use Rattle.std.specs.Str.{IsAscii}
use Rattle.std.proofs.lemmas.Bool.{and_parts}
use Rattle.vlog_tree.specs.Names.{starts_name, goes_on, has_name_form, is_name}

low : (b : ℕ) → goes_on b ≡ true → b < 128
unfolding goes_on starts_name
low b h = grind arith

pub starts_goes : (b : ℕ) → starts_name b ≡ true → goes_on b ≡ true
unfolding goes_on
starts_goes b h = rw h refl

all_low : (w : List ℕ) → list_all goes_on w ≡ true → IsAscii w
all_low [] h i = omega arith
all_low (b ∷ w) h zero = low b (and_parts (goes_on b) (list_all goes_on w) h).0
all_low (b ∷ w) h (suc i) = all_low w (and_parts (goes_on b) (list_all goes_on w) h).1 i

pub name_ascii : (w : List ℕ) → is_name w ≡ true → IsAscii w
name_ascii [] h = absurd cc
name_ascii (b ∷ w) h =
    let form = (and_parts (has_name_form (b ∷ w)) _ h).0 in
    let k = and_parts (starts_name b) (list_all goes_on w) form in
    all_low (b ∷ w) (rw (starts_goes b k.0) k.1)
