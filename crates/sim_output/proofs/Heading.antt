-- The nets of the first names of a module.
use Rattle.std.proofs.Common.{◌≡◌, ℕ, ◌+◌, ◌<◌, Bool, true, false, cond, List, [], ◌∷◌, ◌++◌, length, get_or, map, take, append_assoc, refl, sym, ap, ◌∙◌}
use Rattle.std.specs.List.{filter}
use Rattle.std.proofs.lemmas.List.{map-append, length-map}
use Rattle.std.proofs.lemmas.List.Elements.{filter_more}
use Rattle.tapa_base.specs.Gaps.{Bytes}
use Rattle.vlog_tree.specs.declared.table.Declaration.{Declaration}
use Rattle.cycle_sim.specs.ShownNets.{is_shown}
use Rattle.vcd_text.specs.Nets.{Net}
use Rattle.vcd_text.specs.Dump.{var_line, lines_from}
use Rattle.sim_output.specs.Dumped.{net_of, widths_of}
use Rattle.sim_output.proofs.Listing.{lines_if}

abbrev pub nets_among : List Declaration → List Net
nets_among ds = map net_of (filter is_shown ds)

map_if : {A B : Type 0} (f : A → B) (x : A) (b : Bool) → map f (cond b (x ∷ []) []) ≡ cond b (f x ∷ []) []
map_if f x true = refl
map_if f x false = refl

-- one name more
more_nets : (names : List Declaration) (i : ℕ) (d : Declaration) → i < length names → d ≡ get_or names i d → nets_among (take (i + 1) names) ≡ nets_among (take i names) ++ cond (is_shown d) (net_of d ∷ []) []
more_nets names i d low is =
    ap (λ (l : List Declaration). map net_of l) (filter_more is_shown names i d low)
    ∙ ap (λ (e : Declaration). map net_of (filter is_shown (take i names) ++ cond (is_shown e) (e ∷ []) [])) (sym is)
    ∙ map-append net_of (filter is_shown (take i names)) (cond (is_shown d) (d ∷ []) [])
    ∙ ap (λ (l : List Net). nets_among (take i names) ++ l) (map_if net_of d (is_shown d))

module _ (names : List Declaration) (i : ℕ) (d : Declaration) (low : i < length names) (is : d ≡ get_or names i d) where
  abbrev before : List Net
  before = nets_among (take i names)

  pub more_widths : (old new : List ℕ) → old ≡ widths_of before → new ≡ old ++ cond (is_shown d) (d.bits ∷ []) [] → new ≡ widths_of (nets_among (take (i + 1) names))
  more_widths old new was grown =
      grown ∙ ap (λ (l : List ℕ). l ++ cond (is_shown d) (d.bits ∷ []) []) was
      ∙ ap (λ (l : List ℕ). widths_of before ++ l) (sym (map_if (λ (n : Net). n.bits) (net_of d) (is_shown d)))
      ∙ sym (map-append (λ (n : Net). n.bits) before (cond (is_shown d) (net_of d ∷ []) []))
      ∙ ap widths_of (sym (more_nets names i d low is))

  pub more_lines : (text old new : Bytes) (widths : List ℕ) → widths ≡ widths_of before → old ≡ text ++ lines_from var_line 0 before → new ≡ old ++ cond (is_shown d) (var_line (length widths) (net_of d)) []
      → new ≡ text ++ lines_from var_line 0 (nets_among (take (i + 1) names))
  more_lines text old new widths was so_far grown =
      let count : length widths ≡ length before = ap length was ∙ length-map before (λ (n : Net). n.bits) in
      grown ∙ ap (λ (n : ℕ). old ++ cond (is_shown d) (var_line n (net_of d)) []) count
      ∙ ap (λ (l : Bytes). l ++ cond (is_shown d) (var_line (length before) (net_of d)) []) so_far
      ∙ append_assoc text (lines_from var_line 0 before) (cond (is_shown d) (var_line (length before) (net_of d)) [])
      ∙ ap (λ (l : Bytes). text ++ l) (sym (lines_if var_line before (net_of d) (is_shown d)))
      ∙ ap (λ (l : List Net). text ++ lines_from var_line 0 l) (sym (more_nets names i d low is))

-- parts one behind the other
both_behind : (t u v a b : Bytes) → u ≡ t ++ a → v ≡ u ++ b → v ≡ t ++ (a ++ b)
both_behind t u v a b e f = f ∙ ap (λ (l : Bytes). l ++ b) e ∙ append_assoc t a b

pub five_behind : (t t1 t2 t3 t4 t5 a b c d e : Bytes) → t1 ≡ t ++ a → t2 ≡ t1 ++ b → t3 ≡ t2 ++ c → t4 ≡ t3 ++ d → t5 ≡ t4 ++ e → t5 ≡ t ++ (a ++ (b ++ (c ++ (d ++ e))))
five_behind t t1 t2 t3 t4 t5 a b c d e p q r s u = both_behind t t1 t5 a (b ++ (c ++ (d ++ e))) p (both_behind t1 t2 t5 b (c ++ (d ++ e)) q (both_behind t2 t3 t5 c (d ++ e) r (both_behind t3 t4 t5 d e s u)))
