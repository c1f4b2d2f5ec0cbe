-- Modules of which there is one of each name, and the table of their names.
use Rattle.std.proofs.Common.{◌≡◌, ℕ, ◌<◌, Bool, true, false, cond, List, [], ◌∷◌, ◌++◌, length, get_or, Option, Some, None, refl, sym, ap, ◌∙◌, arith}
use Rattle.std.specs.Prelude.{bytes_eq, is_some}
use Rattle.std.specs.List.{remove}
use Rattle.vlog_tree.specs.Form.{ModuleTree}
use Rattle.vlog_tree.specs.Table.{Name, module_named, is_module_name}
use Rattle.vlog_scope.specs.NameTable.{Places, with_name}
use Rattle.hw_top_lines.specs.Channels.{with_one, with_new}

-- ---- one module

pub known_stays : (ms : List ModuleTree) (m : ModuleTree) → is_module_name ms m.name ≡ true → ms ≡ with_one ms m
known_stays ms m e = sym (ap (λ b. cond b ms (ms ++ m ∷ [])) e)

pub unknown_grows : (ms new : List ModuleTree) (m : ModuleTree) → new ≡ ms ++ m ∷ [] → is_module_name ms m.name ≡ false → new ≡ with_one ms m
unknown_grows ms new m grown e = grown ∙ sym (ap (λ b. cond b ms (ms ++ m ∷ [])) e)

-- ---- names

behind_one : (m : ModuleTree) (a : Bool) → is_some (cond a (Some m) None) ≡ cond a true false
behind_one m true = refl
behind_one m false = refl

behind_more : (k : ModuleTree) (o p : Option ModuleTree) (a b : Bool) → is_some o ≡ cond a true (is_some p) → is_some (cond b (Some k) o) ≡ cond a true (is_some (cond b (Some k) p))
behind_more k o p true true h = refl
behind_more k o p false true h = refl
behind_more k o p true false h = h
behind_more k o p false false h = h

-- the names of modules and of one more
name_behind : (ms : List ModuleTree) (m : ModuleTree) (x : Name) → is_module_name (ms ++ m ∷ []) x ≡ cond (bytes_eq m.name x) true (is_module_name ms x)
name_behind [] m x = behind_one m (bytes_eq m.name x)
name_behind (k ∷ ms) m x = behind_more k (module_named (ms ++ m ∷ []) x) (module_named ms x) (bytes_eq m.name x) (bytes_eq k.name x) (name_behind ms m x)

some_of : (place : ℕ × Bool) (o : Option (ℕ × Bool)) (b : Bool) → is_some (cond b (Some place) o) ≡ cond b true (is_some o)
some_of place o true = refl
some_of place o false = refl

pub named_too : (old new : Places) (ms all : List ModuleTree) (m : ModuleTree) (name : Name) (place : ℕ) → name ≡ m.name → all ≡ ms ++ m ∷ [] → ((x : Name) → is_some (old x) ≡ is_module_name ms x)
    → ((x : Name) → new x ≡ with_name name place old x) → (x : Name) → is_some (new x) ≡ is_module_name all x
named_too old new ms all m name place is grown known put x =
    ap (λ o. is_some o) (put x) ∙ some_of (place, is_some (old name)) (old x) (bytes_eq name x) ∙ ap (λ n. cond (bytes_eq n x) true (is_some (old x))) is
    ∙ ap (λ b. cond (bytes_eq m.name x) true b) (known x) ∙ sym (name_behind ms m x) ∙ sym (ap (λ l. is_module_name l x) grown)

-- ---- more modules

-- the first of some, and then the rest
new_next : (ms new : List ModuleTree) (m : ModuleTree) → 0 < length new → m ≡ get_or new 0 m → with_new ms new ≡ with_new (with_one ms m) (remove new 0)
new_next ms [] m h e = absurd (omega arith)
new_next ms (n ∷ new) m h e = ap (λ k. with_new (with_one ms k) new) (sym e)

pub next_added : (ms more rest left all : List ModuleTree) (m : ModuleTree) → 0 < length rest → m ≡ get_or rest 0 m → left ≡ remove rest 0 → more ≡ with_one ms m → with_new ms rest ≡ all → with_new more left ≡ all
next_added ms more rest left all m some is taken grown goal =
    ap (λ l. with_new l left) grown ∙ ap (with_new (with_one ms m)) taken ∙ sym (new_next ms rest m some is) ∙ goal

pub none_left_over : (ms rest all : List ModuleTree) → length rest ≡ 0 → with_new ms rest ≡ all → ms ≡ all
none_left_over ms [] all h e = e
none_left_over ms (n ∷ rest) all h e = absurd (omega arith)
