use Rattle.std.proofs.Common.{ℕ, List, ◌≤◌, ◌≡◌, length, true, sym, ◌∙◌, subst, arith}
use Rattle.std.specs.List.{list_all}
use Rattle.tapa_words.specs.Words.{is_digit}
use Rattle.tapa_words.proofs.Numbers.{no_number}
use Rattle.tapa_words.proofs.number.number.Goals as goal

pub returns-in-Err : goal.returns-in-Err
returns-in-Err c =
    let bytes = c.as_bytes-bytes.ensures.value in
    let few : length c.as_bytes-bytes.result.now ≤ 19 = omega (arith, c.if-bytes-gt-MOST_DIGITS.false) in
    no_number c.args.word.now (subst (λ (l : List ℕ). length l ≤ 19) bytes few) (subst (λ (l : List ℕ). list_all is_digit l ≡ true) bytes (sym c.are_digits.ensures ∙ c.if-not-are_digits.false)) c.in-Err.ensures.value.0
