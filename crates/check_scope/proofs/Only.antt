-- What is known of the one instance that something is bound to.
use Rattle.std.proofs.Common.{◌≡◌, ℕ, List, [], ◌∷◌, refl, sym, ap}
use Rattle.tapa_base.specs.declared.text.Place.{Place}
use Rattle.check_scope.specs.declared.fault.CheckCode.{CheckCode}
use Rattle.check_scope.specs.declared.users.Users.TheVariants.{One, Several}
use Rattle.check_scope.specs.Users.{with_users, users_of}
use Rattle.check_scope.specs.One.{the_one, one_faults}

several : (rest : List ℕ) → with_users Several rest ≡ Several
several [] = refl
several (i ∷ rest) = several rest

-- one instance alone
pub one_only : (i : ℕ) (bound : List ℕ) → One i ≡ users_of bound → bound ≡ i ∷ []
one_only i [] h = absurd (cc)
one_only i (j ∷ []) h = let e : i ≡ j = cc in ap (λ k. k ∷ []) (sym e)
one_only i (j ∷ k ∷ rest) h = let e = several rest in absurd (cc)

pub one_answers : (code : CheckCode) (place : Place) (i : ℕ) (bound : List ℕ) → One i ≡ users_of bound → (one_faults code place bound ≡ []) × (i ≡ the_one bound)
one_answers code place i bound h =
    let e = one_only i bound h in
    (ap (one_faults code place) e, ap the_one (sym e))
