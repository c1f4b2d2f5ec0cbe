-- What a list has is found in it by its name.
use Rattle.std.proofs.Common.{◌≡◌, Bool, true, false, cond, ◌&&◌, List, [], ◌∷◌, Option, Some, None, inl, inr, refl, ap, ◌∙◌}
use Rattle.std.specs.Prelude.{bytes_eq, is_some}
use Rattle.tapa_base.specs.Lists.{Has}
use Rattle.vlog_tree.specs.Cycle.{Path}
use Rattle.vlog_tree.specs.Table.{Name}
use Rattle.vlog_run_laws.proofs.runs.Alone.{same_name}
use Rattle.vlog_values.specs.declared.numbers.NetNumber.{NetNumber}
use Rattle.vlog_values.specs.declared.numbers.MemoryCells.{MemoryCells}
use Rattle.vlog_values.specs.Numbers.{first_net, first_memory}
use Rattle.vlog_values.specs.declared.moment.Held.{Held}
use Rattle.vlog_values.specs.declared.moment.OutsideMemory.{OutsideMemory}
use Rattle.vlog_ref_cycle.specs.Sources.{same_path, held_at, memory_of}

here : {A : Type 0} (b : Bool) (x : A) (o : Option A) → b ≡ true → is_some (cond b (Some x) o) ≡ true
here true x o e = refl
here false x o e = cc

later : {A : Type 0} (b : Bool) (x : A) (o : Option A) → is_some o ≡ true → is_some (cond b (Some x) o) ≡ true
later true x o e = refl
later false x o e = e

-- a search for the first of a name
module _ {A : Type 0} (search : List A → Name → Option A) (name : A → Name) (step : (a : A) (more : List A) (x : Name) → search (a ∷ more) x ≡ cond (bytes_eq (name a) x) (Some a) (search more x)) where
  first_there : (xs : List A) (a : A) → Has xs a → is_some (search xs (name a)) ≡ true
  first_there [] a h = absurd h
  first_there (y ∷ xs) a (inl e) = ap (λ o. is_some o) (step y xs (name a)) ∙ here (bytes_eq (name y) (name a)) y (search xs (name a)) (ap (λ z. bytes_eq (name z) (name a)) e ∙ same_name (name a))
  first_there (y ∷ xs) a (inr h) = ap (λ o. is_some o) (step y xs (name a)) ∙ later (bytes_eq (name y) (name a)) y (search xs (name a)) (first_there xs a h)

pub net_there : (ns : List NetNumber) (n : NetNumber) → Has ns n → is_some (first_net ns n.name) ≡ true
net_there ns n h = first_there first_net (λ (k : NetNumber). k.name) (λ a more x. refl) ns n h

pub memory_there : (ns : List MemoryCells) (n : MemoryCells) → Has ns n → is_some (first_memory ns n.name) ≡ true
memory_there ns n h = first_there first_memory (λ (k : MemoryCells). k.name) (λ a more x. refl) ns n h

pub outside_there : (os : List OutsideMemory) (o : OutsideMemory) → Has os o → is_some (memory_of os o.name) ≡ true
outside_there os o h = first_there memory_of (λ (k : OutsideMemory). k.name) (λ a more x. refl) os o h

path_itself : (path : Path) → same_path path path ≡ true
path_itself [] = refl
path_itself (x ∷ path) = ap (λ b. b && same_path path path) (same_name x) ∙ path_itself path

pub held_there : (hs : List Held) (h : Held) → Has hs h → is_some (held_at hs h.path.items) ≡ true
held_there [] h k = absurd k
held_there (g ∷ hs) h (inl e) = here (same_path g.path.items h.path.items) g (held_at hs h.path.items) (ap (λ (z : Held). same_path z.path.items h.path.items) e ∙ path_itself h.path.items)
held_there (g ∷ hs) h (inr k) = later (same_path g.path.items h.path.items) g (held_at hs h.path.items) (held_there hs h k)
