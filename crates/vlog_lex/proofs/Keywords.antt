-- By their first two letters words are seen to be no keywords.
use Rattle.std.proofs.Common.{◌≡◌, Bool, true, false, cond, ◌&&◌, ◌||◌, List, [], ◌∷◌, refl, ap, ◌∙◌}
use Rattle.std.specs.Prelude.{bytes_eq}
use Rattle.std.specs.List.{list_any}
use Rattle.std.specs.Cmp.Lexicographic.{bytes_decides}
use Rattle.vlog_tree.specs.Names.{is_name, has_name_form, is_among, is_keyword, always_to_default, defparam_to_event, for_to_input, instance_to_not, notif0_to_real, realtime_to_strong0, strong1_to_unsigned, use_to_xor}
use Rattle.vlog_tree.specs.Spelling.{Word}
use Rattle.vlog_lex.specs.Keywords.{is_unlike_keywords, a_to_d, e_to_i, j_to_o, p_to_s, t_to_x}
use Rattle.std.proofs.lemmas.Bool.{or_parts}

not_this : (x w : Word) (b : Bool) → bytes_eq x w ≡ b → is_unlike_keywords x ≡ true → is_unlike_keywords w ≡ false → b ≡ false
not_this x w true e h k =
    let same : x ≡ w = (bytes_decides x w).0 e in let both : is_unlike_keywords x ≡ is_unlike_keywords w = ap (λ v. is_unlike_keywords v) same in cc (both, h, k)
not_this x w false e h k = refl

none_among : (words : List Word) (x : Word) → is_unlike_keywords x ≡ true → list_any (λ w. is_unlike_keywords w) words ≡ false → list_any (bytes_eq x) words ≡ false
none_among [] x h k = refl
none_among (w ∷ words) x h k =
    let p = or_parts (is_unlike_keywords w) (list_any (λ w. is_unlike_keywords w) words) k in
    let here : bytes_eq x w ≡ false = not_this x w (bytes_eq x w) refl h p.0 in
    rw here (none_among words x h p.1)

eight : (a b c d e f g h : Bool) → a ≡ false → b ≡ false → c ≡ false → d ≡ false → e ≡ false → f ≡ false → g ≡ false → h ≡ false → (a || b || c || d || e || f || g || h) ≡ false
eight a b c d e f g h p q r s t u v w = rw (p, q, r, s, t, u, v, w) refl

no_keyword : (x : Word) → is_unlike_keywords x ≡ true → is_keyword x ≡ false
unfolding a_to_d e_to_i j_to_o p_to_s t_to_x is_keyword always_to_default defparam_to_event for_to_input instance_to_not notif0_to_real realtime_to_strong0 strong1_to_unsigned use_to_xor
no_keyword x h =
    eight (is_among always_to_default x) (is_among defparam_to_event x) (is_among for_to_input x) (is_among instance_to_not x)
    (is_among notif0_to_real x) (is_among realtime_to_strong0 x) (is_among strong1_to_unsigned x) (is_among use_to_xor x)
    (none_among always_to_default x h refl) (none_among defparam_to_event x h refl) (none_among for_to_input x h refl) (none_among instance_to_not x h refl)
    (none_among notif0_to_real x h refl) (none_among realtime_to_strong0 x h refl) (none_among strong1_to_unsigned x h refl) (none_among use_to_xor x h refl)

formed : (b : Bool) → (b && true) ≡ b
formed true = refl
formed false = refl

pub unlike_keywords : (x : Word) → is_unlike_keywords x ≡ true → is_name x ≡ has_name_form x
unlike_keywords x h = ap (λ b. has_name_form x && cond b false true) (no_keyword x h) ∙ formed (has_name_form x)
