-- What lists have, and what is counted.
use Rattle.std.proofs.Common.{◌≡◌, ◌+◌, ◌≤◌, Bool, true, false, cond, ◌&&◌, ◌||◌, List, [], ◌∷◌, ◌++◌, None, Some, Option, inl, inr, refl, sym, ap, subst, ◌∙◌, arith}
use Rattle.std.specs.Prelude.{count_by}
use Rattle.std.specs.List.{flat_map, AllByRecursion}
use Rattle.std.proofs.lemmas.List.Sums.{sum_by-cons}
use Rattle.tapa_base.specs.Lists.{Has}
use Rattle.vlog_tree.specs.Table.{Name, NameUse, first_violation, one_if}

-- what gives the same at each element gives the same
pub flat_same : {A B : Type 0} (f g : A → List B) (xs : List A) → ((x : A) → Has xs x → f x ≡ g x) → flat_map f xs ≡ flat_map g xs
flat_same f g [] h = refl
flat_same f g (x ∷ xs) h = ap (λ l. l ++ flat_map f xs) (h x (inl refl)) ∙ ap (λ l. g x ++ l) (flat_same f g xs (λ y k. h y (inr k)))

pub count_cons : {A : Type 0} (p : A → Bool) (x : A) (xs : List A) → count_by p (x ∷ xs) ≡ one_if (p x) + count_by p xs
count_cons p x xs = sum_by-cons (λ y. one_if (p y)) x xs

pub one_if_true : (b : Bool) → b ≡ true → one_if b ≡ 1
one_if_true true e = refl
one_if_true false e = cc

pub none_counted : (b : Bool) → one_if b ≡ 0 → b ≡ false
none_counted true e = absurd (omega arith)
none_counted false e = refl

pub counted : {A : Type 0} (p : A → Bool) (xs : List A) (x : A) → Has xs x → p x ≡ true → 1 ≤ count_by p xs
counted p [] x h e = absurd h
counted p (y ∷ ys) x (inl s) e =
    let c : count_by p (y ∷ ys) ≡ one_if (p y) + count_by p ys = count_cons p y ys in
    let here : one_if (p y) ≡ 1 = one_if_true (p y) (ap p s ∙ e) in
    omega arith
counted p (y ∷ ys) x (inr h) e =
    let c : count_by p (y ∷ ys) ≡ one_if (p y) + count_by p ys = count_cons p y ys in
    let rest : 1 ≤ count_by p ys = counted p ys x h e in
    omega arith

pub right_here : (b : Bool) (x : Name) (o : Option Name) → cond b (Some x) o ≡ None → b ≡ false
right_here true x o h = cc
right_here false x o h = refl

pub right_behind : (b : Bool) (x : Name) (o : Option Name) → cond b (Some x) o ≡ None → o ≡ None
right_behind true x o h = cc
right_behind false x o h = h

-- where no name breaks a rule, each keeps it
pub right : (us : List NameUse) → first_violation us ≡ None → (u : NameUse) → Has us u → u.1 ≡ false
right [] h u has = absurd has
right (v ∷ us) h u (inl e) = ap (λ (w : NameUse). w.1) (sym e) ∙ right_here v.1 v.0 (first_violation us) h
right (v ∷ us) h u (inr has) = right us (right_behind v.1 v.0 (first_violation us) h) u has

-- and where each keeps it, none breaks it
pub all_right : (us : List NameUse) → ((u : NameUse) → Has us u → u.1 ≡ false) → first_violation us ≡ None
all_right [] h = refl
all_right (u ∷ us) h = ap (λ b. cond b (Some u.0) (first_violation us)) (h u (inl refl)) ∙ all_right us (λ v k. h v (inr k))
