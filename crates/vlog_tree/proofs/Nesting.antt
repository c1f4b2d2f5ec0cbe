-- A nested list of steps runs as a whole, or not at all.
use Rattle.std.proofs.Common.{◌≡◌, ℕ, suc, Bool, true, false, cond, eqb, ◌&&◌, List, [], ◌∷◌, ◌++◌, length, refl, sym, ap, ◌∙◌, arith}
use Rattle.std.specs.List.{list_all}
use Rattle.std.specs.Prelude.{reverse, not}
use Rattle.std.proofs.lemmas.List.{reverse-append}
use Rattle.std.proofs.lemmas.List.Folds.{list_all-append}
use Rattle.vlog_tree.specs.declared.tree.Step.{Step}
use Rattle.vlog_tree.specs.declared.tree.Step.TheVariants.{If, Else, End, NonblockingAssign, MemoryAssign}
use Rattle.vlog_tree.specs.Form.{nested}
use Rattle.vlog_tree.specs.Cycle.{Cycle, Sizes, run_steps, put, store, atom_value}

abbrev all_on : List Bool → Bool
all_on on = list_all (λ b. b) on

pub same_both : {A : Type 0} (b : Bool) (x : A) → cond b x x ≡ x
same_both true x = refl
same_both false x = refl

writes : {A : Type 0} (f : A → A) (a o : Bool) (x next : A) → cond o (f (cond (a && o) x next)) (cond (a && o) x next) ≡ cond o (f (cond a x next)) next
writes f true true x next = refl
writes f true false x next = refl
writes f false true x next = refl
writes f false false x next = refl

module _ (s : Sizes) (old : Cycle) (on : List Bool) (rest : List Step) where
  abbrev Says : List Bool → List Step → Cycle → Type 0
  Says ups p next = run_steps s old (ups ++ on) (p ++ rest) next ≡ run_steps s old on rest (cond (all_on on) (run_steps s old ups p next) next)

  write_step : (ups : List Bool) (p : List Step) (x next : Cycle) → ((n : Cycle) → Says ups p n)
      → run_steps s old (ups ++ on) (p ++ rest) (cond (all_on (ups ++ on)) x next)
      ≡ run_steps s old on rest (cond (all_on on) (run_steps s old ups p (cond (all_on ups) x next)) next)
  write_step ups p x next ih =
      ih (cond (all_on (ups ++ on)) x next)
      ∙ ap (λ b. run_steps s old on rest (cond (all_on on) (run_steps s old ups p (cond b x next)) (cond b x next))) (list_all-append (λ b. b) ups on)
      ∙ ap (λ n. run_steps s old on rest n) (writes (run_steps s old ups p) (all_on ups) (all_on on) x next)

  pub inside : (p : List Step) (parts ups : List Bool) (next : Cycle) → length ups ≡ length parts → nested parts p ≡ true → Says ups p next
  inside [] [] [] next e h = ap (λ n. run_steps s old on rest n) (sym (same_both (all_on on) next))
  inside [] [] (u ∷ ups) next e h = cc
  inside [] (b ∷ parts) ups next e h = cc
  inside (If c ∷ p) parts ups next e h = inside p (false ∷ parts) ((eqb (old.net c) 1) ∷ ups) next (ap suc e) h
  inside (NonblockingAssign x a ∷ p) parts ups next e h = write_step ups p (put x (atom_value old a) next) next (λ n. inside p parts ups n e h)
  inside (MemoryAssign m x a ∷ p) parts ups next e h = write_step ups p (store s m (old.net x) (atom_value old a) next) next (λ n. inside p parts ups n e h)
  inside (Else ∷ p) [] ups next e h = cc
  inside (Else ∷ p) (true ∷ parts) ups next e h = cc
  inside (Else ∷ p) (false ∷ parts) [] next e h = cc
  inside (Else ∷ p) (false ∷ parts) (u ∷ ups) next e h = inside p (true ∷ parts) (not u ∷ ups) next e h
  inside (End ∷ p) [] ups next e h = cc
  inside (End ∷ p) (b ∷ parts) [] next e h = cc
  inside (End ∷ p) (b ∷ parts) (u ∷ ups) next e h = inside p parts ups next (omega arith) h

-- steps one list after another
pub run_two : (s : Sizes) (old : Cycle) (p q : List Step) (next : Cycle) → nested [] p ≡ true → run_steps s old [] (p ++ q) next ≡ run_steps s old [] q (run_steps s old [] p next)
run_two s old p q next h = inside s old [] q p [] [] next refl h

both_ways : {A : Type 0} (f g : A → A) (v : Bool) (next : A) → cond (not v && true) (g (cond (v && true) (f next) next)) (cond (v && true) (f next) next) ≡ cond v (f next) (g next)
both_ways f g true next = refl
both_ways f g false next = refl

-- an `if` runs its first part where its name is 1, and else its second
pub run_if : (s : Sizes) (old : Cycle) (c : List ℕ) (p q : List Step) (next : Cycle) → nested [] p ≡ true → nested [] q ≡ true
    → run_steps s old [] (If c ∷ (p ++ Else ∷ (q ++ End ∷ []))) next ≡ cond (eqb (old.net c) 1) (run_steps s old [] p next) (run_steps s old [] q next)
run_if s old c p q next hp hq =
    let v = eqb (old.net c) 1 in
    inside s old (v ∷ []) (Else ∷ (q ++ End ∷ [])) p [] [] next refl hp
    ∙ inside s old (not v ∷ []) (End ∷ []) q [] [] (cond (v && true) (run_steps s old [] p next) next) refl hq
    ∙ both_ways (run_steps s old [] p) (run_steps s old [] q) v next

one_way : {A : Type 0} (f : A → A) (v : Bool) (next : A) → cond (v && true) (f next) next ≡ cond v (f next) next
one_way f true next = refl
one_way f false next = refl

pub run_if_alone : (s : Sizes) (old : Cycle) (c : List ℕ) (p : List Step) (next : Cycle) → nested [] p ≡ true
    → run_steps s old [] (If c ∷ (p ++ End ∷ [])) next ≡ cond (eqb (old.net c) 1) (run_steps s old [] p next) next
run_if_alone s old c p next hp =
    inside s old (eqb (old.net c) 1 ∷ []) (End ∷ []) p [] [] next refl hp
    ∙ one_way (run_steps s old [] p) (eqb (old.net c) 1) next

pub reverse_push : (xs : List Bool) (b : Bool) → reverse (xs ++ b ∷ []) ≡ b ∷ reverse xs
reverse_push xs b = reverse-append xs (b ∷ [])
