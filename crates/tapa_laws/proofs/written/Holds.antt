-- What holds of all of a list, where a value is there, and where a reading succeeds.
use Rattle.std.proofs.Common.{◌≡◌, Bool, true, false, cond, List, [], ◌∷◌, ◌++◌, map, Option, Some, None, Ok, Err, refl}
use Rattle.std.specs.Prelude.{unwrap_or, option_map}
use Rattle.std.specs.List.{flat_map, AllByRecursion}
use Rattle.stream_arrays.specs.Written.{Step, Outcome, and_then}
use Rattle.stream_arrays.proofs.FormFeeds.{OnOk, all_both, all_flat, all_map}

abbrev pub Any : {A : Type 0} → A → Type 0
Any x = Unit {0}

pub any : {A : Type 0} (xs : List A) → AllByRecursion (Any {A = A}) xs
any [] = tt
any (x ∷ xs) = (tt, any xs)

abbrev pub OnSome : {A : Type 0} → (A → Type 0) → Option A → Type 0
OnSome P None = Unit {0}
OnSome P (Some a) = P a

pub some_if : {A : Type 0} (P : A → Type 0) (t : Bool) (o : Option A) → (t ≡ true → OnSome P o) → OnSome P (cond t o None)
some_if P true o h = h refl
some_if P false o h = tt

pub some_either : {A : Type 0} (P : A → Type 0) (t : Bool) (a b : Option A) → OnSome P a → OnSome P b → OnSome P (cond t a b)
some_either P true a b h k = h
some_either P false a b h k = k

pub some_map : {A B : Type 0} (Q : A → Type 0) (P : B → Type 0) (f : A → B) → ((a : A) → Q a → P (f a)) → (o : Option A) → OnSome Q o → OnSome P (option_map f o)
some_map Q P f each None h = tt
some_map Q P f each (Some a) h = each a h

pub ok_next : {A B : Type 0} (P : B → Type 0) (o : Outcome A) (f : A → Outcome B) → ((a : A) → OnOk P (f a)) → OnOk P (and_then o f)
ok_next P (Ok a) f each = each a
ok_next P (Err e) f each = tt

pub ok_where : {A : Type 0} (Q : A → Type 0) (P : Step → Type 0) (o : Option A) (f : A → Outcome Step) (d : Outcome Step) → OnSome Q o → ((a : A) → Q a → OnOk P (f a)) → OnOk P d
    → OnOk P (unwrap_or (option_map f o) d)
ok_where Q P None f d h each k = k
ok_where Q P (Some a) f d h each k = each a h
