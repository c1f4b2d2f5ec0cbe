-- Lists that are made element by element of others.
use Rattle.std.proofs.Common.{◌≡◌, List, [], ◌∷◌, map, Option, Some, None, option_map, refl, sym, ap, ◌∙◌}
use Rattle.std.specs.Option.{option_map_or}
use Rattle.std.proofs.lemmas.Simd.{map-map}

-- functions that agree make the same list
pub map_alike : {A B : Type 0} (f g : A → B) → ((x : A) → f x ≡ g x) → (xs : List A) → map f xs ≡ map g xs
map_alike f g h [] = refl
map_alike {B = B} f g h (x ∷ xs) = ap (λ (y : B). y ∷ map f xs) (h x) ∙ ap (λ (ys : List B). g x ∷ ys) (map_alike f g h xs)

-- what is made of parts of elements is the same for lists whose parts are the same
pub map_by_parts : {A B C : Type 0} (f : A → C) (part : A → B) (g : B → C) → ((x : A) → f x ≡ g (part x)) → (xs ys : List A) → map part xs ≡ map part ys → map f xs ≡ map f ys
map_by_parts {A = A} {B = B} f part g h xs ys same =
    map_alike f (λ x. g (part x)) h xs
    ∙ (sym (map-map g part xs) ∙ (ap (λ (zs : List B). map g zs) same ∙ (map-map g part ys ∙ sym (map_alike f (λ x. g (part x)) h ys))))

pub or_by_parts : {A B C : Type 0} (f : A → C) (part : A → B) (g : B → C) (c : C) → ((x : A) → f x ≡ g (part x)) → (o : Option A) → option_map_or f o c ≡ option_map_or g (option_map part o) c
or_by_parts f part g c h None = refl
or_by_parts f part g c h (Some x) = h x
