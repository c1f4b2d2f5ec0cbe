-- Names by their form, and labels by the ends of their names.
use Rattle.std.proofs.Common.{◌≡◌, ℕ, zero, suc, ◌+◌, ◌-◌, ◌<◌, ◌≤◌, Bool, true, false, cond, eqb, ◌&&◌, ◌||◌, List, [], ◌∷◌, ◌++◌, Option, Some, None, refl, sym, ap, ◌∙◌, arith, length, take, get_or}
use Rattle.std.specs.Prelude.{bytes_eq, codes, reverse, is_some, count_by}
use Rattle.std.specs.List.{list_any}
use Rattle.std.specs.Cmp.Lexicographic.{bytes_decides}
use Rattle.std.proofs.lemmas.List.{append-nil, reverse-append}
use Rattle.vlog_tree.specs.Names.{IsName, has_name_form, is_among, is_keyword, always_to_default, defparam_to_event, for_to_input, instance_to_not, notif0_to_real, realtime_to_strong0, strong1_to_unsigned, use_to_xor}
use Rattle.vlog_tree.specs.Table.{Name, one_if}
use Rattle.vlog_tree.specs.Labels.{label_in, scalar, m_ack, m_rdata, m_addr, m_wdata, m_we, s_din, scalar_of, ack_of, rdata_of, addr_of, wdata_of, we_of, din_of}
use Rattle.vlog_module_laws.specs.Labelled.{IsLabelOf, AreLabels}
use Rattle.vlog_tree.proofs.Labelled.{IsLabelled, labelled, label_of}
use Rattle.vlog_module_laws.proofs.Lists.{count_cons}
use Rattle.std.proofs.lemmas.Bool.{or_parts, or_right as or_true}
use Rattle.tapa_base.proofs.Lists.{some_of}

abbrev has_early : Name → Bool
has_early w = list_any (λ c. eqb c 95) (take 10 w)

early : (front rest : Name) (n : ℕ) → length front < n → list_any (λ c. eqb c 95) (take n (front ++ 95 ∷ rest)) ≡ true
early front rest zero h = absurd (omega arith)
early [] rest (suc n) h = refl
early (c ∷ front) rest (suc n) h = or_true (eqb c 95) _ (early front rest n (omega arith))

not_this : (x w : Name) (b : Bool) → bytes_eq x w ≡ b → has_early x ≡ true → has_early w ≡ false → b ≡ false
not_this x w true e h k = let same : x ≡ w = (bytes_decides x w).0 e in let both : has_early x ≡ has_early w = ap (λ v. has_early v) same in cc (both, h, k)
not_this x w false e h k = refl

none_among : (words : List Name) (x : Name) → has_early x ≡ true → list_any (λ w. has_early w) words ≡ false → list_any (bytes_eq x) words ≡ false
none_among [] x h k = refl
none_among (w ∷ words) x h k =
    let p = or_parts (has_early w) (list_any (λ w. has_early w) words) k in
    let here : bytes_eq x w ≡ false = not_this x w (bytes_eq x w) refl h p.0 in
    rw here (none_among words x h p.1)

no_keyword : (x : Name) → has_early x ≡ true → is_keyword x ≡ false
unfolding is_keyword always_to_default defparam_to_event for_to_input instance_to_not notif0_to_real realtime_to_strong0 strong1_to_unsigned use_to_xor
no_keyword x h =
    let a : is_among always_to_default x ≡ false = none_among always_to_default x h refl in
    let b : is_among defparam_to_event x ≡ false = none_among defparam_to_event x h refl in
    let c : is_among for_to_input x ≡ false = none_among for_to_input x h refl in
    let d : is_among instance_to_not x ≡ false = none_among instance_to_not x h refl in
    let e : is_among notif0_to_real x ≡ false = none_among notif0_to_real x h refl in
    let f : is_among realtime_to_strong0 x ≡ false = none_among realtime_to_strong0 x h refl in
    let g : is_among strong1_to_unsigned x ≡ false = none_among strong1_to_unsigned x h refl in
    let i : is_among use_to_xor x ≡ false = none_among use_to_xor x h refl in
    eight (is_among always_to_default x) (is_among defparam_to_event x) (is_among for_to_input x) (is_among instance_to_not x)
    (is_among notif0_to_real x) (is_among realtime_to_strong0 x) (is_among strong1_to_unsigned x) (is_among use_to_xor x) a b c d e f g i where
      eight : (a b c d e f g h : Bool) → a ≡ false → b ≡ false → c ≡ false → d ≡ false → e ≡ false → f ≡ false → g ≡ false → h ≡ false → (a || b || c || d || e || f || g || h) ≡ false
      eight a b c d e f g h p q r s t u v w = rw (p, q, r, s, t, u, v, w) refl

pub early_name : (front rest : Name) → length front < 10 → has_name_form (front ++ 95 ∷ rest) ≡ true → IsName (front ++ 95 ∷ rest)
early_name front rest few form =
    let no_word : is_keyword (front ++ 95 ∷ rest) ≡ false = no_keyword (front ++ 95 ∷ rest) (early front rest 10 few) in
    ap (λ b. has_name_form (front ++ 95 ∷ rest) && cond b false true) no_word ∙ ap (λ b. b && true) form

made_by : (front end : Name) → IsLabelOf (λ x. front ++ (x ++ end)) (label_in front end)
made_by front end = record { there = λ x h. label_of front end x h; back = λ y x h. let r = labelled front end y x h in (r.is, r.some) }

scalars : IsLabelOf scalar scalar_of
unfolding scalar scalar_of
scalars = record {
  there = λ x h. ap (λ z. label_in (codes "v_") [] (codes "v_" ++ z)) (sym (append-nil x)) ∙ label_of (codes "v_") [] x h;
  back = λ y x h. let r = labelled (codes "v_") [] y x h in (r.is ∙ ap (λ z. codes "v_" ++ z) (append-nil x), r.some);
}

pub labels : AreLabels
unfolding m_ack ack_of m_rdata rdata_of m_addr addr_of m_wdata wdata_of m_we we_of s_din din_of
labels = record {
  scalars = scalars;
  acks = made_by (codes "m_") (codes "_ack");
  rdatas = made_by (codes "m_") (codes "_rdata");
  addrs = made_by (codes "m_") (codes "_addr");
  wdatas = made_by (codes "m_") (codes "_wdata");
  wes = made_by (codes "m_") (codes "_we");
  dins = made_by (codes "s_") (codes "_din");
}

abbrev from_end : Name → ℕ → ℕ
from_end y k = get_or (reverse y) k 0

end_of : (front end x l : Name) (k : ℕ) → IsLabelled front end x l → from_end x k ≡ get_or ((reverse end ++ reverse l) ++ reverse front) k 0
end_of front end x l k h = ap (λ z. get_or (reverse z) k 0) h.is ∙ ap (λ z. get_or z k 0) (reverse-append front (l ++ end)) ∙ ap (λ z. get_or (z ++ reverse front) k 0) (reverse-append l end)

-- which kind the first byte, the last one and the fifth from the end allow
abbrev kind : ℕ → ℕ → ℕ → ℕ
kind first last fifth = cond (eqb first 118) 0 (cond (eqb first 115) 6 (cond (eqb last 107) 1 (cond (eqb last 114) 3 (cond (eqb last 101) 5 (cond (eqb fifth 114) 2 4)))))

kind_is : (first last fifth a b c : ℕ) → first ≡ a → last ≡ b → fifth ≡ c → kind first last fifth ≡ kind a b c
kind_is first last fifth a b c p q r = ap (λ n. kind n last fifth) p ∙ ap (λ n. kind a n fifth) q ∙ ap (λ n. kind a b n) r

abbrev kind_of : Name → ℕ
kind_of y = kind (get_or y 0 0) (from_end y 0) (from_end y 4)

kind_by : (front end y l : Name) → label_in front end y ≡ Some l
    → kind_of y ≡ kind (get_or (front ++ (l ++ end)) 0 0) (get_or ((reverse end ++ reverse l) ++ reverse front) 0 0) (get_or ((reverse end ++ reverse l) ++ reverse front) 4 0)
kind_by front end y l h =
    let r = labelled front end y l h in
    kind_is (get_or y 0 0) (from_end y 0) (from_end y 4) _ _ _ (ap (λ z. get_or z 0 0) r.is) (end_of front end y l 0 r) (end_of front end y l 4 r)

-- where each that passes tells its own place, one passes at most
abbrev Tell : {A : Type 0} → (A → Bool) → ℕ → List A → ℕ → Type 0
Tell p told [] k = Unit {0}
Tell p told (x ∷ xs) k = (p x ≡ true → told ≡ k) × Tell p told xs (suc k)

not_here : (b : Bool) (told k : ℕ) → told < k → (b ≡ true → told ≡ k) → one_if b ≡ 0
not_here true told k h f = let e : told ≡ k = f refl in absurd (omega arith)
not_here false told k h f = refl

none_told : {A : Type 0} (p : A → Bool) (told : ℕ) (xs : List A) (k : ℕ) → told < k → Tell p told xs k → count_by p xs ≡ 0
none_told p told [] k h t = refl
none_told p told (x ∷ xs) k h t =
    let c : count_by p (x ∷ xs) ≡ one_if (p x) + count_by p xs = count_cons p x xs in
    let here : one_if (p x) ≡ 0 = not_here (p x) told k h t.0 in
    let rest : count_by p xs ≡ 0 = none_told p told xs (suc k) (omega arith) t.1 in
    omega arith

one_step : (b : Bool) (told k n : ℕ) → (b ≡ true → told ≡ k) → (told < suc k → n ≡ 0) → n ≤ 1 → one_if b + n ≤ 1
one_step true told k n f none low = let e : told ≡ k = f refl in let z : n ≡ 0 = none (omega arith) in omega arith
one_step false told k n f none low = omega arith

one_at_most : {A : Type 0} (p : A → Bool) (told : ℕ) (xs : List A) (k : ℕ) → Tell p told xs k → count_by p xs ≤ 1
one_at_most p told [] k t = omega arith
one_at_most p told (x ∷ xs) k t =
    let c : count_by p (x ∷ xs) ≡ one_if (p x) + count_by p xs = count_cons p x xs in
    let low : one_if (p x) + count_by p xs ≤ 1 = one_step (p x) told k (count_by p xs) t.0 (λ h. none_told p told xs (suc k) h t.1) (one_at_most p told xs (suc k) t.1) in
    omega arith

module _ (y : Name) where
  scalar_kind : is_some (scalar_of y) ≡ true → kind_of y ≡ 0
  unfolding scalar_of
  scalar_kind h = let l = some_of (label_in (codes "v_") [] y) h in kind_by (codes "v_") [] y l.0 l.1

  ack_kind : is_some (ack_of y) ≡ true → kind_of y ≡ 1
  unfolding ack_of
  ack_kind h = let l = some_of (label_in (codes "m_") (codes "_ack") y) h in kind_by (codes "m_") (codes "_ack") y l.0 l.1

  rdata_kind : is_some (rdata_of y) ≡ true → kind_of y ≡ 2
  unfolding rdata_of
  rdata_kind h = let l = some_of (label_in (codes "m_") (codes "_rdata") y) h in kind_by (codes "m_") (codes "_rdata") y l.0 l.1

  addr_kind : is_some (addr_of y) ≡ true → kind_of y ≡ 3
  unfolding addr_of
  addr_kind h = let l = some_of (label_in (codes "m_") (codes "_addr") y) h in kind_by (codes "m_") (codes "_addr") y l.0 l.1

  wdata_kind : is_some (wdata_of y) ≡ true → kind_of y ≡ 4
  unfolding wdata_of
  wdata_kind h = let l = some_of (label_in (codes "m_") (codes "_wdata") y) h in kind_by (codes "m_") (codes "_wdata") y l.0 l.1

  we_kind : is_some (we_of y) ≡ true → kind_of y ≡ 5
  unfolding we_of
  we_kind h = let l = some_of (label_in (codes "m_") (codes "_we") y) h in kind_by (codes "m_") (codes "_we") y l.0 l.1

  din_kind : is_some (din_of y) ≡ true → kind_of y ≡ 6
  unfolding din_of
  din_kind h = let l = some_of (label_in (codes "s_") (codes "_din") y) h in kind_by (codes "s_") (codes "_din") y l.0 l.1

  pub apart : count_by (λ (label : Name → Option Name). is_some (label y)) (scalar_of ∷ ack_of ∷ rdata_of ∷ addr_of ∷ wdata_of ∷ we_of ∷ din_of ∷ []) ≤ 1
  apart =
      one_at_most (λ (label : Name → Option Name). is_some (label y)) (kind_of y) (scalar_of ∷ ack_of ∷ rdata_of ∷ addr_of ∷ wdata_of ∷ we_of ∷ din_of ∷ []) 0
      (scalar_kind, (ack_kind, (rdata_kind, (addr_kind, (wdata_kind, (we_kind, (din_kind, tt)))))))
