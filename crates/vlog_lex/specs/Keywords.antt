-- What no keyword looks like.
use Rattle.std.specs.Prelude.{ℕ, Bool, true, not, ◌∷◌, ◌==◌, ◌&&◌, ◌||◌}
use Rattle.vlog_tree.specs.Spelling.{Word}

-- whether some keyword begins with two letters, by the first of them
unfoldable pub a_to_d : ℕ → ℕ → Bool
a_to_d b c =
    ((b == 97) && ((c == 108) || (c == 110) || (c == 115) || (c == 117))) || ((b == 98) && ((c == 101) || (c == 117))) ||
    ((b == 99) && ((c == 97) || (c == 101) || (c == 109) || (c == 111))) || ((b == 100) && ((c == 101) || (c == 105)))

unfoldable pub e_to_i : ℕ → ℕ → Bool
e_to_i b c =
    ((b == 101) && ((c == 100) || (c == 108) || (c == 110) || (c == 118))) || ((b == 102) && ((c == 111) || (c == 117))) || ((b == 103) && (c == 101)) ||
    ((b == 104) && (c == 105)) || ((b == 105) && ((c == 102) || (c == 110)))

unfoldable pub j_to_o : ℕ → ℕ → Bool
j_to_o b c =
    ((b == 106) && (c == 111)) || ((b == 108) && ((c == 97) || (c == 105) || (c == 111))) || ((b == 109) && ((c == 97) || (c == 101) || (c == 111))) ||
    ((b == 110) && ((c == 97) || (c == 101) || (c == 109) || (c == 111))) || ((b == 111) && ((c == 114) || (c == 117)))

unfoldable pub p_to_s : ℕ → ℕ → Bool
p_to_s b c =
    ((b == 112) && ((c == 97) || (c == 109) || (c == 111) || (c == 114) || (c == 117))) ||
    ((b == 114) && ((c == 99) || (c == 101) || (c == 110) || (c == 112) || (c == 116))) ||
    ((b == 115) && ((c == 99) || (c == 104) || (c == 105) || (c == 109) || (c == 112) || (c == 116) || (c == 117)))

unfoldable pub t_to_x : ℕ → ℕ → Bool
t_to_x b c =
    ((b == 116) && ((c == 97) || (c == 105) || (c == 114))) || ((b == 117) && ((c == 110) || (c == 115) || (c == 119))) || ((b == 118) && (c == 101)) ||
    ((b == 119) && ((c == 97) || (c == 101) || (c == 104) || (c == 105) || (c == 111))) || ((b == 120) && ((c == 110) || (c == 111)))

abbrev pub begins_keyword : ℕ → ℕ → Bool
begins_keyword b c = a_to_d b c || e_to_i b c || j_to_o b c || p_to_s b c || t_to_x b c

-- a word that begins with two letters as no keyword does
abbrev pub is_unlike_keywords : Word → Bool
is_unlike_keywords (b ∷ c ∷ rest) = not (begins_keyword b c)
is_unlike_keywords _ = true
