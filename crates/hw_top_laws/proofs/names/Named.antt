-- Elements whose names stand once, are names, and have sorts from one to before another.
use Rattle.std.proofs.Common.{◌≡◌, ℕ, suc, ◌^◌, ◌<◌, ◌≤◌, true, List, [], ◌∷◌, ◌++◌, length, inl, inr, refl, sym, ap, subst, arith, ⊎_elim}
use Rattle.std.specs.List.{list_all, flat_map}
use Rattle.std.proofs.lemmas.Bool.{and_from as yes_and}
use Rattle.std.proofs.lemmas.Grind.{flat_map-append}
use Rattle.tapa_base.specs.Lists.{Has}
use Rattle.vlog_tree.specs.Names.{is_name}
use Rattle.vlog_tree.specs.Table.{Name}
use Rattle.tapa_base.proofs.Lists.{has_split}
use Rattle.hw_build.specs.Elements.{Element}
use Rattle.hw_build.specs.Scope.{each}
use Rattle.hw_build.specs.Fits.{declared_names, AreOnce}
use Rattle.hw_build.proofs.Parts.{of_each}
use Rattle.hw_build.proofs.Once.{two_once, parts_once}
use Rattle.hw_task_laws.proofs.names.Bounds.{left_short, right_short}
use Rattle.hw_task_laws.proofs.names.Named.{single, flat_each, each_short}
use Rattle.hw_top_laws.proofs.names.Made.{sort}

-- a name of which Q holds, of a sort
pub record IsOf (Q : Name → Type 0) (low high : ℕ) (x : Name) : Type 0 where
  pub so : Q x
  pub from : low ≤ sort x
  pub below : sort x < high
  pub named : is_name x ≡ true

pub record Named (Q : Name → Type 0) (low high : ℕ) (es : List Element) : Type 0 where
  pub once : AreOnce (flat_map declared_names es)
  pub names : (x : Name) → Has (flat_map declared_names es) x → IsOf Q low high x

-- of elements that can be counted
abbrev pub Names : (Name → Type 0) → ℕ → ℕ → List Element → Type 0
Names Q low high es = length es ≤ 2 ^ 64 → Named Q low high es

abbrev pub Any : Name → Type 0
Any x = Unit {0}

wider : (P Q : Name → Type 0) (a b low high : ℕ) (x : Name) → (P x → Q x) → low ≤ a → b ≤ high → IsOf P a b x → IsOf Q low high x
wider P Q a b low high x f h k t =
    let g = t.from in
    let l = t.below in
    record { so = f t.so; from = omega (arith, g, h); below = omega (arith, l, k); named = t.named }

-- two parts without a name in common
joined : (P R Q : Name → Type 0) (a b c d low high : ℕ) (xs ys : List Element) → ((x : Name) → P x → Q x) → ((x : Name) → R x → Q x) → low ≤ a → b ≤ high → low ≤ c → d ≤ high
    → ((x : Name) → IsOf P a b x → IsOf R c d x → ⊥) → Named P a b xs → Named R c d ys → Named Q low high (xs ++ ys)
joined P R Q a b c d low high xs ys f g la bh lc dh apart h k =
    let e = flat_map-append declared_names xs ys in
    record {
      once = subst AreOnce (sym e) (two_once (flat_map declared_names xs) (flat_map declared_names ys) h.once k.once (λ x p q. apart x (h.names x p) (k.names x q)));
      names = λ x p.
          ⊎_elim (λ l. wider P Q a b low high x (f x) la bh (h.names x l)) (λ r. wider R Q c d low high x (g x) lc dh (k.names x r))
          (has_split (flat_map declared_names xs) (flat_map declared_names ys) x (subst (λ l. Has l x) e p));
    }

-- told apart by their sorts
pub names_both : (Q : Name → Type 0) (a b c : ℕ) (xs ys : List Element) → a ≤ b → b ≤ c → Names Q a b xs → Names Q b c ys → Names Q a c (xs ++ ys)
names_both Q a b c xs ys ab bc h k = λ s.
    joined Q Q Q a b b c a c xs ys (λ x q. q) (λ x q. q) (omega arith) bc ab (omega arith)
    (λ x p q. let l = p.below in let m = q.from in omega (arith, l, m)) (h (left_short xs ys s)) (k (right_short xs ys s))

-- or otherwise
pub names_apart : (P R Q : Name → Type 0) (low high : ℕ) (xs ys : List Element) → ((x : Name) → P x → Q x) → ((x : Name) → R x → Q x) → ((x : Name) → P x → R x → ⊥) → Names P low high xs → Names R low high ys
    → Names Q low high (xs ++ ys)
names_apart P R Q low high xs ys f g apart h k = λ s.
    joined P R Q low high low high low high xs ys f g (omega arith) (omega arith) (omega arith) (omega arith) (λ x p q. apart x p.so q.so) (h (left_short xs ys s)) (k (right_short xs ys s))

-- parts that their names tell
pub names_each : (Q : Name → Type 0) (P : ℕ → Name → Type 0) (low high : ℕ) (f : ℕ → List Element) (n : ℕ) → ((k : ℕ) (x : Name) → P k x → Q x) → ((j k : ℕ) (x : Name) → P j x → P k x → j ≡ k)
    → ((k : ℕ) → k < n → Names (P k) low high (f k)) → Names Q low high (each f n)
names_each Q P low high f n plain told h = λ s.
    let at = λ (k : ℕ) (l : k < n). h k l (each_short f n k l s) in
    let e = flat_each declared_names f n in
    record {
      once = subst AreOnce (sym e)
          (parts_once (λ k. flat_map declared_names (f k)) n (λ k l. (at k l).once) (λ j k x l m p q. told j k x ((at j l).names x p).so ((at k m).names x q).so));
      names = λ x p.
          let r = of_each (λ k. flat_map declared_names (f k)) n x (subst (λ l. Has l x) e p) in
          wider (P r.0) Q low high low high x (plain r.0 x) (omega arith) (omega arith) ((at r.0 r.1).names x r.2);
    }

pub names_none : (Q : Name → Type 0) (low high : ℕ) → Names Q low high []
names_none Q low high = λ s. record { once = λ x. omega arith; names = λ x h. absurd h }

-- one element with a name of sort k
pub names_one : (Q : Name → Type 0) (k : ℕ) (e : Element) (y : Name) → declared_names e ≡ y ∷ [] → Q y → sort y ≡ k → is_name y ≡ true → Names Q k (suc k) (e ∷ [])
names_one Q k e y is q s n = λ t. record { once = subst AreOnce (sym same) (single y); names = λ x h. only x (subst (λ l. Has l x) same h) } where
  same : flat_map declared_names (e ∷ []) ≡ y ∷ []
  same = ap (λ l. l ++ []) is

  here : IsOf Q k (suc k) y
  here = record { so = q; from = omega (arith, s); below = omega (arith, s); named = n }

  only : (x : Name) → Has (y ∷ []) x → IsOf Q k (suc k) x
  only x (inl i) = subst (λ z. IsOf Q k (suc k) z) i here
  only x (inr i) = absurd i

-- and one before others
pub names_more : (Q : Name → Type 0) (a b c : ℕ) (e : Element) (es : List Element) → a ≤ b → b ≤ c → Names Q a b (e ∷ []) → Names Q b c es → Names Q a c (e ∷ es)
names_more Q a b c e es ab bc h k = names_both Q a b c (e ∷ []) es ab bc h k

-- what holds of each name holds of all
pub all_named : (xs : List Name) → ((x : Name) → Has xs x → is_name x ≡ true) → list_all is_name xs ≡ true
all_named [] h = refl
all_named (x ∷ xs) h = yes_and (is_name x) (list_all is_name xs) (h x (inl refl)) (all_named xs (λ y k. h y (inr k)))
