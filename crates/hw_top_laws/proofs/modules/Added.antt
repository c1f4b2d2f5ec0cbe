-- Lists of modules that grow by those of new names, and lists whose names differ.
use Rattle.std.proofs.Common.{◌≡◌, ℕ, zero, suc, ◌<◌, Bool, true, false, cond, List, [], ◌∷◌, ◌++◌, map, Some, inl, inr, refl, sym, ap, subst, ◌∙◌, arith, ⊎_elim}
use Rattle.std.specs.Prelude.{◌⊎◌, bytes_eq, is_some}
use Rattle.std.specs.Cmp.Lexicographic.{bytes_decides}
use Rattle.vlog_tree.specs.Form.{ModuleTree}
use Rattle.tapa_base.specs.Lists.{Has}
use Rattle.vlog_tree.specs.Table.{Name, module_named, is_module_name}
use Rattle.tapa_base.proofs.Lists.{has_left, has_right, has_split, has_got, of_map}
use Rattle.vlog_run_laws.proofs.runs.Alone.{module_is, module_there}
use Rattle.hw_build.specs.Scope.{each}
use Rattle.hw_build.proofs.Parts.{of_each}
use Rattle.hw_channel_laws.proofs.modules.Together.{AreApart}
use Rattle.hw_top_lines.specs.Channels.{with_one, with_new}
use Rattle.tapa_syntax.specs.OwnNames.{AreApart as ArePlacedApart}

-- ---- names that differ

-- a module is known by its name
known_by : (m : ModuleTree) (ms : List ModuleTree) (x : Name) (b : Bool) → bytes_eq m.name x ≡ b → (b ≡ false → is_some (module_named ms x) ≡ true) → is_some (cond b (Some m) (module_named ms x)) ≡ true
known_by m ms x true e f = refl
known_by m ms x false e f = f refl

pub known_name : (ms : List ModuleTree) (m : ModuleTree) → Has ms m → is_module_name ms m.name ≡ true
known_name [] m h = absurd h
known_name (n ∷ ms) m (inl e) =
    let same : bytes_eq n.name m.name ≡ true = (bytes_decides n.name m.name).1 (ap (λ (z : ModuleTree). z.name) e) in
    known_by n ms m.name (bytes_eq n.name m.name) refl (λ f. let no : true ≡ false = sym same ∙ f in absurd cc)
known_name (n ∷ ms) m (inr h) = known_by n ms m.name (bytes_eq n.name m.name) refl (λ f. known_name ms m h)

pub apart_append : (xs ys : List ModuleTree) → AreApart xs → AreApart ys → ((m n : ModuleTree) → Has xs m → Has ys n → m.name ≡ n.name → ⊥) → AreApart (xs ++ ys)
apart_append [] ys a b h = b
apart_append (x ∷ xs) ys a b h = (
  λ n k s. ⊎_elim (λ l. a.0 n l s) (λ r. h x n (inl refl) r s) (has_split xs ys n k),
  apart_append xs ys a.1 b (λ m n i j. h m n (inr i) j),
)

pub apart_one : (m : ModuleTree) → AreApart (m ∷ [])
apart_one m = (λ n h s. absurd h, tt)

pub apart_each : (f : ℕ → List ModuleTree) (n : ℕ) → ((k : ℕ) → k < n → AreApart (f k)) → ((j k : ℕ) (a b : ModuleTree) → j < n → k < n → Has (f j) a → Has (f k) b → a.name ≡ b.name → j ≡ k) → AreApart (each f n)
apart_each f zero h d = tt
apart_each f (suc n) h d =
    apart_append (each f n) (f n) (apart_each f n (λ k l. h k (omega arith)) (λ j k a b l m. d j k a b (omega arith) (omega arith))) (h n (omega arith))
    (λ a b i j s. let r = of_each f n a i in let low : r.0 < n = r.1 in let e : r.0 ≡ n = d r.0 n a b (omega arith) (omega arith) r.2 j s in omega (arith, low, e))

-- so that no name stands at two places
pub placed_apart : (ms : List ModuleTree) → AreApart ms → ArePlacedApart (map (λ (m : ModuleTree). m.name) ms)
placed_apart [] a p q x h k = cc
placed_apart (m ∷ ms) a zero zero x h k = refl
placed_apart (m ∷ ms) a zero (suc q) x h k =
    let e : m.name ≡ x = cc in
    let r = of_map (λ (m : ModuleTree). m.name) ms x (has_got (map (λ (m : ModuleTree). m.name) ms) q x k) in
    absurd (a.0 r.0 r.1 (e ∙ sym r.2))
placed_apart (m ∷ ms) a (suc p) zero x h k =
    let e : m.name ≡ x = cc in
    let r = of_map (λ (m : ModuleTree). m.name) ms x (has_got (map (λ (m : ModuleTree). m.name) ms) p x h) in
    absurd (a.0 r.0 r.1 (e ∙ sym r.2))
placed_apart (m ∷ ms) a (suc p) (suc q) x h k = ap suc (placed_apart ms a.1 p q x h k)

-- ---- one module more, if its name is new

one_of : (ms : List ModuleTree) (m n : ModuleTree) (b : Bool) → Has (cond b ms (ms ++ m ∷ [])) n → Has ms n ⊎ (m ≡ n)
one_of ms m n true h = inl h
one_of ms m n false h = only (has_split ms (m ∷ []) n h) where
  only : Has ms n ⊎ Has (m ∷ []) n → Has ms n ⊎ (m ≡ n)
  only (inl l) = inl l
  only (inr (inl e)) = inr e
  only (inr (inr i)) = absurd i

one_keeps : (ms : List ModuleTree) (m n : ModuleTree) (b : Bool) → Has ms n → Has (cond b ms (ms ++ m ∷ [])) n
one_keeps ms m n true h = h
one_keeps ms m n false h = has_left ms (m ∷ []) n h

one_named : (ms : List ModuleTree) (m : ModuleTree) (b : Bool) → is_module_name ms m.name ≡ b → (k : ModuleTree) × Has (cond b ms (ms ++ m ∷ [])) k × (k.name ≡ m.name)
one_named ms m true e = let r = module_there ms m.name e in let i = module_is ms m.name r.0 r.1 in (r.0, i.has, i.name)
one_named ms m false e = (m, has_right ms (m ∷ []) m (inl refl), refl)

one_apart : (ms : List ModuleTree) (m : ModuleTree) (b : Bool) → is_module_name ms m.name ≡ b → AreApart ms → AreApart (cond b ms (ms ++ m ∷ []))
one_apart ms m true e a = a
one_apart ms m false e a =
    apart_append ms (m ∷ []) a (apart_one m) (λ k n h i s. new k n h i s) where
      new : (k n : ModuleTree) → Has ms k → Has (m ∷ []) n → k.name ≡ n.name → ⊥
      new k n h (inl i) s =
          let same : k.name ≡ m.name = s ∙ ap (λ (z : ModuleTree). z.name) (sym i) in
          let no : true ≡ false = sym (known_name ms k h) ∙ ap (is_module_name ms) same ∙ e in
          absurd cc
      new k n h (inr i) s = absurd i

-- ---- many more

pub new_of : (ms new : List ModuleTree) (n : ModuleTree) → Has (with_new ms new) n → Has ms n ⊎ Has new n
new_of ms [] n h = inl h
new_of ms (m ∷ new) n h =
    ⊎_elim (λ l. ⊎_elim (λ a. inl a) (λ e. inr (inl e)) (one_of ms m n (is_module_name ms m.name) l)) (λ r. inr (inr r)) (new_of (with_one ms m) new n h)

pub new_keeps : (ms new : List ModuleTree) (n : ModuleTree) → Has ms n → Has (with_new ms new) n
new_keeps ms [] n h = h
new_keeps ms (m ∷ new) n h = new_keeps (with_one ms m) new n (one_keeps ms m n (is_module_name ms m.name) h)

pub new_apart : (ms new : List ModuleTree) → AreApart ms → AreApart (with_new ms new)
new_apart ms [] a = a
new_apart ms (m ∷ new) a = new_apart (with_one ms m) new (one_apart ms m (is_module_name ms m.name) refl a)

-- where a name tells a module, all of them are there
pub new_has : (ms new : List ModuleTree) → ((k n : ModuleTree) → Has (with_new ms new) k → Has new n → k.name ≡ n.name → k ≡ n) → (n : ModuleTree) → Has new n → Has (with_new ms new) n
new_has ms [] tell n h = absurd h
new_has ms (m ∷ new) tell n (inl e) =
    let r = one_named ms m (is_module_name ms m.name) refl in
    let there : Has (with_new (with_one ms m) new) r.0 = new_keeps (with_one ms m) new r.0 r.1 in
    let same : r.0 ≡ m = tell r.0 m there (inl refl) r.2 in
    subst (λ z. Has (with_new (with_one ms m) new) z) (same ∙ e) there
new_has ms (m ∷ new) tell n (inr h) = new_has (with_one ms m) new (λ k l i j s. tell k l i (inr j) s) n h
