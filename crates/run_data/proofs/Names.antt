-- The names in a table after one more was put in.
use Rattle.std.proofs.Common.{◌≡◌, ℕ, ◌+◌, ◌<◌, List, [], ◌∷◌, length, take, get_or, filter, not, Bool, true, false, cond, Option, Some, None, refl, sym, ap, ◌∙◌}
use Rattle.std.specs.Prelude.{◌||◌, bytes_eq, is_some, String}
use Rattle.std.specs.Cmp.Lexicographic.{nat_list_eq_equiv}
use Rattle.std.specs.HashMap.{HashMap, get_by_text}
use Rattle.std.specs.List.{list_any}
use Rattle.std.proofs.lemmas.List.Folds.{list_any_more}
use Rattle.tapa_base.specs.declared.shape.Port.{Port}
use Rattle.run_data.specs.Data.{is_name_of}
use Rattle.run_data.specs.Seen.{has_name}

pub some_or : {X : Type 0} (b : Bool) (w : X) (o : Option X) → is_some (cond b (Some w) o) ≡ (is_some o || b)
some_or true w None = refl
some_or true w (Some x) = refl
some_or false w None = refl
some_or false w (Some x) = refl

-- a table that has the names of the first i ports has those of one more
pub one_more : {X A S : Type 0} (old new : HashMap (String A) X S) (bs : List ℕ) (w : X) (ports : List Port) (i : ℕ) (port : Port) → bs ≡ port.name → i < length ports → port ≡ get_or ports i port
    → (name : List ℕ) → get_by_text new name ≡ cond (bytes_eq bs name) (Some w) (get_by_text old name) → has_name old name ≡ list_any (is_name_of name) (take i ports) → has_name new name ≡ list_any (is_name_of name) (take (i + 1) ports)
one_more old new bs w ports i port same within is name step known =
    ap is_some step ∙ some_or (bytes_eq bs name) w (get_by_text old name)
    ∙ ap (λ b. b || bytes_eq bs name) known
    ∙ ap (λ b. list_any (is_name_of name) (take i ports) || b) (nat_list_eq_equiv.symm bs name ∙ ap (λ (l : List ℕ). bytes_eq name l) (same ∙ ap (λ (p : Port). p.name) is))
    ∙ sym (list_any_more (is_name_of name) ports i port within)

-- the keys that are in no table with the names of the ports are no port's
pub unknown_same : {X A S : Type 0} (names : HashMap (String A) X S) (ports : List Port) → ((name : List ℕ) → has_name names name ≡ list_any (is_name_of name) ports) → (keys : List (List ℕ)) → filter (λ name. not (has_name names name)) keys ≡ filter (λ name. not (list_any (is_name_of name) ports)) keys
unknown_same names ports h [] = refl
unknown_same names ports h (key ∷ keys) = ap (λ (l : List (List ℕ)). cond (not (has_name names key)) (key ∷ l) l) (unknown_same names ports h keys) ∙ ap (λ b. cond (not b) (key ∷ filter (λ name. not (list_any (is_name_of name) ports)) keys) (filter (λ name. not (list_any (is_name_of name) ports)) keys)) (h key)
