-- The instances that something is bound to, as far as the rules ask: none, one, or more.
use Rattle.std.specs.Prelude.{ℕ, List, [], ◌∷◌}
use Rattle.check_scope.specs.declared.users.Users.{Users}
use Rattle.check_scope.specs.declared.users.Users.TheVariants.{Nobody, One, Several}

abbrev pub with_user : Users → ℕ → Users
with_user Nobody i = One i
with_user (One j) i = Several
with_user Several i = Several

abbrev pub with_users : Users → List ℕ → Users
with_users u [] = u
with_users u (i ∷ rest) = with_users (with_user u i) rest

-- what is known of a list of instances
abbrev pub users_of : List ℕ → Users
users_of bound = with_users Nobody bound
