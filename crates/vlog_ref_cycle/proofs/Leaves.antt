-- What a write leaves is what the definition leaves.
use Rattle.std.proofs.lemmas.Bool.{ltb-true}
use Rattle.std.proofs.lemmas.Bool.Decides.{nat_tests}
use Rattle.std.proofs.Common.{◌≡◌, ℕ, ◌<◌, ◌≢◌, Bool, true, false, cond, ◌&&◌, List, [], ◌∷◌, ◌++◌, length, get_or, take, map, set, get_or-set_other, get_or-set_same, ◌+◌, add-one, refl, sym, ap, subst, ◌∙◌, arith}
use Rattle.std.proofs.Math.ListN.{length-set}
use Rattle.std.proofs.Math.Seq.{take-suc}
use Rattle.std.specs.Prelude.{◌==◌, bytes_eq, nat_lt}
use Rattle.std.specs.List.{AllByRecursion}
use Rattle.std.specs.Cmp.Lexicographic.{bytes_decides}
use Rattle.vlog_tree.specs.Cycle.{Cycle, Sizes, put, store}
use Rattle.vlog_tree.specs.Table.{Name}
use Rattle.vlog_tree.specs.Grounded.{AllTwo}
use Rattle.vlog_values.specs.declared.numbers.NetNumber.{NetNumber}
use Rattle.vlog_values.specs.declared.numbers.MemoryCells.{MemoryCells}
use Rattle.vlog_ref_cycle.specs.Next.{put_net, IsStored, ShowsNet, TellsCells, net_shape, memory_shape}

pub shows_put : (c : Cycle) (x : Name) (v : ℕ) (ns : List NetNumber) → AllByRecursion (ShowsNet c) ns → AllByRecursion (ShowsNet (put x v c)) (map (put_net x v) ns)
shows_put c x v [] h = tt
shows_put c x v (n ∷ ns) h = (ap (λ w. cond (bytes_eq n.name x) v w) h.0, shows_put c x v ns h.1)

pub shapes_put : (x : Name) (v : ℕ) (ns : List NetNumber) → map net_shape (map (put_net x v) ns) ≡ map net_shape ns
shapes_put x v [] = refl
shapes_put x v (n ∷ ns) = ap (λ l. net_shape n ∷ l) (shapes_put x v ns)

module _ (l : List ℕ) (f : ℕ → ℕ) (a v : ℕ) (shows : (b : ℕ) → b < length l → f b ≡ get_or l b 0) where
  same_place : (b : ℕ) → (b == a) ≡ true → b ≡ a
  same_place b e = grind (arith, nat_tests)

  other_place : (b : ℕ) → (b == a) ≡ false → b ≢ a
  other_place b e = grind (arith, nat_tests)

  set_case : (b : ℕ) (q : Bool) → (b == a) ≡ q → a < length l → b < length l → cond (q && true) v (f b) ≡ get_or (set l a v) b 0
  set_case b true e low h = let s : b ≡ a = same_place b e in sym (ap (λ k. get_or (set l a v) k 0) s ∙ get_or-set_same l a v 0 low)
  set_case b false e low h = let ne : b ≢ a = other_place b e in shows b h ∙ sym (get_or-set_other l a b v 0 ne)

  past_case : (b : ℕ) (q : Bool) → b < length l → cond (q && false) v (f b) ≡ get_or l b 0
  past_case b true h = shows b h
  past_case b false h = shows b h

  stored_case : (q t : Bool) → nat_lt a (length l) ≡ t → (b : ℕ) → b < length (cond (q && t) (set l a v) l) → cond (q && (b == a) && t) v (f b) ≡ get_or (cond (q && t) (set l a v) l) b 0
  stored_case false t e b h = shows b h
  stored_case true true e b h = set_case b (b == a) refl (ltb-true a (length l) e) (let s : length (set l a v) ≡ length l = length-set l a v in omega arith)
  stored_case true false e b h = past_case b (b == a) h

module _ (s : Sizes) (m : Name) (a v : ℕ) (c : Cycle) where
  size_at : (k : MemoryCells) → s.cells k.name ≡ length k.cells.items → (q : Bool) → bytes_eq k.name m ≡ q → (b : ℕ) → (q && (b == a) && nat_lt a (s.cells m)) ≡ (q && (b == a) && nat_lt a (length k.cells.items))
  size_at k e true n b = ap (λ w. true && (b == a) && nat_lt a w) (ap (λ z. s.cells z) (sym ((bytes_decides k.name m).0 n)) ∙ e)
  size_at k e false n b = refl

  one_stored : (k j : MemoryCells) → IsStored m a v k j → s.cells k.name ≡ length k.cells.items → TellsCells c k → TellsCells (store s m a v c) j
  one_stored k j i e h b low =
      let cells = cond (bytes_eq k.name m && nat_lt a (length k.cells.items)) (set k.cells.items a v) k.cells.items in
      let below : b < length cells = subst (λ z. b < length z) i.1 low in
      ap (λ z. cond (bytes_eq z m && (b == a) && nat_lt a (s.cells m)) v (c.cell z b)) i.0
      ∙ ap (λ q. cond q v (c.cell k.name b)) (size_at k e (bytes_eq k.name m) refl b)
      ∙ stored_case k.cells.items (c.cell k.name) a v h (bytes_eq k.name m) (nat_lt a (length k.cells.items)) refl b below
      ∙ ap (λ z. get_or z b 0) (sym i.1)

  pub shows_store : (ks js : List MemoryCells) → AllTwo (IsStored m a v) ks js → AllByRecursion (λ (k : MemoryCells). s.cells k.name ≡ length k.cells.items) ks → AllByRecursion (TellsCells c) ks → AllByRecursion (TellsCells (store s m a v c)) js
  shows_store [] [] i e h = tt
  shows_store [] (j ∷ js) i e h = absurd i
  shows_store (k ∷ ks) [] i e h = absurd i
  shows_store (k ∷ ks) (j ∷ js) i e h = (one_stored k j i.0 e.0 h.0, shows_store ks js i.1 e.1 h.1)

  same_length : (q : Bool) (l : List ℕ) → length (cond q (set l a v) l) ≡ length l
  same_length true l = length-set l a v
  same_length false l = refl

  pub shapes_store : (ks js : List MemoryCells) → AllTwo (IsStored m a v) ks js → map memory_shape js ≡ map memory_shape ks
  shapes_store [] [] i = refl
  shapes_store [] (j ∷ js) i = absurd i
  shapes_store (k ∷ ks) [] i = absurd i
  shapes_store (k ∷ ks) (j ∷ js) i =
      let e : memory_shape j ≡ memory_shape k =
      ap (λ z. (z, length j.cells.items)) i.0.0 ∙ ap (λ z. (k.name, length z)) i.0.1 ∙ ap (λ n. (k.name, n)) (same_length (bytes_eq k.name m && nat_lt a (length k.cells.items)) k.cells.items) in
      ap (λ z. z ∷ map memory_shape js) e ∙ ap (λ z. memory_shape k ∷ z) (shapes_store ks js i.1)

-- lists that fit each other, each with one more
pub two_more : {A B : Type 0} (R : A → B → Type 0) (xs : List A) (ys : List B) (x : A) (y : B) → AllTwo R xs ys → R x y → AllTwo R (xs ++ x ∷ []) (ys ++ y ∷ [])
two_more R [] [] x y a r = (r, tt)
two_more R [] (z ∷ ys) x y a r = absurd a
two_more R (z ∷ xs) [] x y a r = absurd a
two_more R (z ∷ xs) (w ∷ ys) x y a r = (a.0, two_more R xs ys x y a.1 r)

pub taken_more : {A B : Type 0} (R : A → B → Type 0) (xs : List A) (i : ℕ) (x : A) (ys zs : List B) (y : B) → i < length xs → x ≡ get_or xs i x → AllTwo R (take i xs) ys → R x y → zs ≡ ys ++ y ∷ [] → AllTwo R (take (i + 1) xs) zs
taken_more R xs i x ys zs y low is a r e =
    let t : take (i + 1) xs ≡ take i xs ++ x ∷ [] = ap (λ k. take k xs) (add-one i) ∙ take-suc xs i x low ∙ ap (λ z. take i xs ++ z ∷ []) (sym is) in
    subst (λ l. AllTwo R (take (i + 1) xs) l) (sym e) (subst (λ l. AllTwo R l (ys ++ y ∷ [])) (sym t) (two_more R (take i xs) ys x y a r))
