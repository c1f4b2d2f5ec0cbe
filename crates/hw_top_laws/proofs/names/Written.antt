-- A label of a program is written with what a name of Verilog goes on with.
use Rattle.std.proofs.Common.{◌≡◌, ℕ, true, ◌&&◌, ◌||◌, [], ◌∷◌, refl, ap, ◌∙◌}
use Rattle.std.specs.Prelude.{◌==◌}
use Rattle.std.specs.List.{list_all}
use Rattle.std.proofs.lemmas.Bool.{and_parts}
use Rattle.tapa_base.specs.Gaps.{Bytes}
use Rattle.tapa_syntax.specs.Characters.{is_word_byte}
use Rattle.vlog_tree.specs.Names.{starts_name, goes_on}

byte_goes_on : (b : ℕ) → (is_word_byte b || b == 36) ≡ true → goes_on b ≡ true
unfolding goes_on starts_name
byte_goes_on b h = h

pub label_goes_on : (x : Bytes) → list_all (λ b. is_word_byte b || b == 36) x ≡ true → list_all goes_on x ≡ true
label_goes_on [] h = refl
label_goes_on (b ∷ x) h =
    let p = and_parts (is_word_byte b || b == 36) (list_all (λ b. is_word_byte b || b == 36) x) h in
    ap (λ t. t && list_all goes_on x) (byte_goes_on b p.0) ∙ label_goes_on x p.1
