-- Lists of streams that grow at their end, and first states.
use Rattle.std.proofs.Common.{◌≡◌, ℕ, zero, suc, ◌+◌, ◌<◌, ◌≤◌, List, [], ◌∷◌, ◌++◌, length, drop, get_or, refl, sym, ap, ◌∙◌, subst, ⊎_elim, arith}
use Rattle.std.specs.Prelude.{Vec, slice_get, flat_map, slice_set}
use Rattle.std.specs.declared.alloc.Global.{Global}
use Rattle.std.proofs.Math.Path.{fun_ext}
use Rattle.std.proofs.lemmas.Bool.{cases_lt, cases_eq}
use Rattle.std.proofs.lemmas.List.{drop_all, drop_more, get_or_default}
use Rattle.std.proofs.lemmas.Option.{slice_get_past}
use Rattle.tapa_base.specs.declared.token.Token.{Token}
use Rattle.tapa_syntax.specs.declared.program.Program.{Program}
use Rattle.tapa_syntax.specs.WellFormed.{IsWellFormed}
use Rattle.kahn_model.specs.Behavior.{ticks}
use Rattle.kahn_model.specs.declared.tick.Tick.{Tick}
use Rattle.kahn_model.specs.Network.{put_on, stream}
use Rattle.kahn_reference.specs.Slow.{row_at, whole}
use Rattle.kahn_model.specs.Start.{with_values, instance_state, network_of}
use Rattle.kahn_model.specs.ProgramNetwork.{instance_job}
use Rattle.kahn_model.proofs.Past.{stream_past}

pub push_none : (xs : List (Vec Token Global)) (v : Vec Token Global) → ((s : ℕ) → whole xs s ≡ []) → v.items ≡ [] → (s : ℕ) → whole (xs ++ v ∷ []) s ≡ []
push_none [] v h e zero = e
push_none [] v h e (suc s) = refl
push_none (x ∷ xs) v h e zero = h zero
push_none (x ∷ xs) v h e (suc s) = push_none xs v (λ t. h (suc t)) e s

whole_first : (xs ys : List (Vec Token Global)) (s : ℕ) → s < length xs → whole (xs ++ ys) s ≡ whole xs s
whole_first [] ys s h = absurd (omega arith)
whole_first (x ∷ xs) ys zero h = refl
whole_first (x ∷ xs) ys (suc s) h = whole_first xs ys s (omega arith)

whole_last : (xs : List (Vec Token Global)) (v : Vec Token Global) → whole (xs ++ v ∷ []) (length xs) ≡ v.items
whole_last [] v = refl
whole_last (x ∷ xs) v = whole_last xs v

pub push_each : (xs : List (Vec Token Global)) (v : Vec Token Global) (k : ℕ) (f : ℕ → List Token) → length xs ≡ k → ((s : ℕ) → s < k → whole xs s ≡ f s) → v.items ≡ f k → (s : ℕ) → s < k + 1 → whole (xs ++ v ∷ []) s ≡ f s
push_each xs v k f e h ev s l =
    ⊎_elim
    (λ (same : s ≡ k). subst (λ q. whole (xs ++ v ∷ []) q ≡ f q) (e ∙ sym same) (whole_last xs v ∙ ev ∙ ap f (sym e)))
    (λ (d : s ≡ k → ⊥). let m : s < k = omega arith in let n : s < length xs = omega arith in whole_first xs (v ∷ []) s n ∙ h s m)
    (cases_eq s k)

-- a round's streams, which are none past those of the program
pub round_is : (program : Program) → IsWellFormed program → (scalars : List ℕ) (memories : List (List ℕ)) (n m : ℕ) (lists next : List (Vec Token Global)) → m ≡ suc n → ((s : ℕ) → whole lists s ≡ stream (network_of program scalars memories) n s) → length next ≡ length program.streams.items → ((s : ℕ) → s < length program.streams.items → whole next s ≡ flat_map (put_on s) (ticks ((network_of program scalars memories).job ((network_of program scalars memories).producer s) m) (whole lists))) → (s : ℕ) → whole next s ≡ stream (network_of program scalars memories) m s
round_is program w scalars memories n m lists next em h e each s =
    let net = network_of program scalars memories in
    ⊎_elim
    (λ (l : s < length program.streams.items).
    each s l ∙ ap (λ ins. flat_map (put_on s) (ticks (net.job (net.producer s) m) ins)) (fun_ext h)
    ∙ ap (λ q. flat_map (put_on s) (ticks (net.job (net.producer s) q) (stream net n))) em
    ∙ ap (λ q. stream net q s) (sym em))
    (λ (l : length program.streams.items ≤ s).
    let past : length next ≤ s = omega arith in
    ap row_at (slice_get_past next s past) ∙ sym (stream_past program w scalars memories m s l))
    (cases_lt s (length program.streams.items))

-- one more variable
pub with_more : (xs vs : List ℕ) (p x v : ℕ) (vars : List ℕ) → p < length xs → p < length vs → x ≡ get_or xs p x → v ≡ get_or vs p v → with_values (drop p xs) (drop p vs) vars ≡ with_values (drop (p + 1) xs) (drop (p + 1) vs) (slice_set vars x v)
with_more xs vs p x v vars lx lv ex ev =
    ap (λ l. with_values l (drop p vs) vars) (drop_more xs p x lx ∙ ap (λ y. y ∷ drop (p + 1) xs) (sym ex))
    ∙ ap (λ l. with_values (x ∷ drop (p + 1) xs) l vars) (drop_more vs p v lv ∙ ap (λ y. y ∷ drop (p + 1) vs) (sym ev))

with_none : (xs vars : List ℕ) → with_values xs [] vars ≡ vars
with_none [] vars = refl
with_none (x ∷ xs) vars = refl

pub with_fewer : (xs vs : List ℕ) (p q : ℕ) (vars : List ℕ) → length vs ≤ p → p ≤ q → with_values (drop p xs) (drop p vs) vars ≡ with_values (drop q xs) (drop q vs) vars
with_fewer xs vs p q vars l m =
    ap (λ l. with_values (drop p xs) l vars) (drop_all p vs l) ∙ with_none (drop p xs) vars
    ∙ sym (ap (λ l. with_values (drop q xs) l vars) (drop_all q vs (omega arith)) ∙ with_none (drop q xs) vars)

-- the same of a list that is equal
pub with_next : (xs params vs : List ℕ) (p : ℕ) (vars : List ℕ) → params ≡ xs → p < length params → p < length vs → with_values (drop p xs) (drop p vs) vars ≡ with_values (drop (p + 1) xs) (drop (p + 1) vs) (slice_set vars (get_or params p 0) (get_or vs p 0))
with_next xs params vs p vars e lp lv =
    let lx : p < length xs = subst (λ l. p < length l) e lp in
    with_more xs vs p (get_or params p 0) (get_or vs p 0) vars lx lv (ap (λ l. get_or l p 0) e ∙ get_or_default xs p 0 (get_or params p 0) lx) (get_or_default vs p 0 (get_or vs p 0) lv)

-- what a stream gets in a round
pub next_is : (program : Program) (scalars : List ℕ) (memories : List (List ℕ)) (s n i : ℕ) (ins : ℕ → List Token) (v : List Token) (ts : List Tick) → v ≡ flat_map (put_on s) ts → ts ≡ ticks (instance_job program.bodies.items (slice_get program.instances.items i) (instance_state program scalars memories (slice_get program.instances.items i)) n) ins → i ≡ (network_of program scalars memories).producer s → v ≡ flat_map (put_on s) (ticks ((network_of program scalars memories).job ((network_of program scalars memories).producer s) n) ins)
unfolding network_of
next_is program scalars memories s n i ins v ts ev et ei =
    ev ∙ ap (flat_map (put_on s)) et
    ∙ ap (λ (j : ℕ). flat_map (put_on s) (ticks (instance_job program.bodies.items (slice_get program.instances.items j) (instance_state program scalars memories (slice_get program.instances.items j)) n) ins)) ei
