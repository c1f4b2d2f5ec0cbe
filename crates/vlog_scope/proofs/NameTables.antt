-- A map from names after one more name was put in.
use Rattle.std.proofs.Common.{◌≡◌, ℕ, Bool, true, false, cond, List, Option, refl, sym, ap, subst, ◌∙◌, Vec}
use Rattle.std.specs.Prelude.{bytes_eq, Some, unwrap_or}
use Rattle.std.specs.HashMap.{HashMap, UpdatesBy}
use Rattle.std.specs.Map.{lookup, IsKeyTest, AreApart, KeepsOthers}
use Rattle.std.specs.Cmp.Lexicographic.{bytes_decides, nat_list_eq_equiv}
use Rattle.vlog_scope.specs.NameTable.{value_in, count_in}

apart : (bs cs ks : List ℕ) → bytes_eq bs cs ≡ false → bytes_eq bs ks ≡ true → bytes_eq cs ks ≡ false
apart bs cs ks n y = nat_list_eq_equiv.symm cs ks ∙ sym (nat_list_eq_equiv.congr bs ks cs y) ∙ n

unwrap_cond : (b : Bool) (w : ℕ) (o : Option ℕ) → unwrap_or (cond b (Some w) o) 0 ≡ cond b w (unwrap_or o 0)
unwrap_cond true w o = refl
unwrap_cond false w o = refl

pub others : {K X : Type 0} (eq : K → K → Bool) (test : K → Bool) (old new : List (K × X)) → KeepsOthers eq test old new
    → (other : K → Bool) → IsKeyTest eq other → AreApart test other → lookup other new ≡ lookup other old
unfolding KeepsOthers
others eq test old new h = h

pub by_bytes : {W : Type 0} (f g : List ℕ → W) (bs : List ℕ) (w : W) → g bs ≡ w → ((cs : List ℕ) → bytes_eq bs cs ≡ false → g cs ≡ f cs) → (cs : List ℕ) → (b : Bool) → bytes_eq bs cs ≡ b → g cs ≡ cond b w (f cs)
by_bytes f g bs w here other cs true y = subst (λ l. g l ≡ w) ((bytes_decides bs cs).0 y) here
by_bytes f g bs w here other cs false n = other cs n

pub updated : {X A S : Type 0} (key : Vec ℕ A) (m n : HashMap (Vec ℕ A) X S) (w : Option X)
    → UpdatesBy (λ x y. bytes_eq x.items y.items) (λ k. bytes_eq key.items k.items) m n w
    → (cs : List ℕ) → value_in n cs ≡ cond (bytes_eq key.items cs) w (value_in m cs)
updated {X} {A} key m n w h cs =
    by_bytes (value_in m) (value_in n) key.items w h.1 (λ cs e. others _ _ m.entries n.entries h.3 (λ (k : Vec ℕ A). bytes_eq cs k.items) (λ x y. nat_list_eq_equiv.congr cs x.items y.items) (λ k. apart key.items cs k.items e)) cs _ refl

-- one name counted once more
pub counted : {A S : Type 0} (key : Vec ℕ A) (m n : HashMap (Vec ℕ A) ℕ S) (w : ℕ)
    → UpdatesBy (λ x y. bytes_eq x.items y.items) (λ k. bytes_eq key.items k.items) m n (Some w)
    → (cs : List ℕ) → count_in n cs ≡ cond (bytes_eq key.items cs) w (count_in m cs)
counted key m n w h cs = ap (λ o. unwrap_or o 0) (updated key m n (Some w) h cs) ∙ unwrap_cond (bytes_eq key.items cs) w (value_in m cs)
