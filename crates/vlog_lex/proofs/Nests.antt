-- Steps that are nested are the flat list of some steps that stand in each other.
use Rattle.std.proofs.Common.{◌≡◌, ◌⊎◌, inl, inr, ℕ, Bool, true, false, List, [], ◌∷◌, ◌++◌, refl, sym, ap, subst, ◌∙◌}
use Rattle.std.proofs.lemmas.List.{append_assoc}
use Rattle.vlog_tree.specs.declared.tree.Step.{Step}
use Rattle.vlog_tree.specs.declared.tree.Step.TheVariants.{If, Else, End, NonblockingAssign, MemoryAssign}
use Rattle.vlog_tree.specs.Form.{nested}
use Rattle.vlog_lex.specs.Grammar.{Steps, no_step, if_only, if_else, assign, store, flat}

-- what is behind the steps of a part that is open: its end, or for a first part its else
abbrev Closed : List Bool → List Step → Type 0
Closed [] b = (s : Steps) × (flat s ≡ b)
Closed (true ∷ parts) b = (s : Steps) × (rest : List Step) × (b ≡ flat s ++ End ∷ rest) × Closed parts rest
Closed (false ∷ parts) b =
    ((s : Steps) × (rest : List Step) × (b ≡ flat s ++ End ∷ rest) × Closed parts rest)
    ⊎ ((s : Steps) × (q : Steps) × (rest : List Step) × (b ≡ flat s ++ Else ∷ (flat q ++ End ∷ rest)) × Closed parts rest)

-- one step more in front of the innermost part, whatever stands there
module _ (f : Steps → Steps) (front : List Step) (is : (s : Steps) → flat (f s) ≡ front ++ flat s) where
  moved : (s : Steps) (rest b : List Step) → b ≡ flat s ++ rest → front ++ b ≡ flat (f s) ++ rest
  moved s rest b e = ap (λ l. front ++ l) e ∙ sym (append_assoc front (flat s) rest) ∙ ap (λ l. l ++ rest) (sym (is s))

  before : (parts : List Bool) (b : List Step) → Closed parts b → Closed parts (front ++ b)
  before [] b (s, e) = (f s, is s ∙ ap (λ l. front ++ l) e)
  before (true ∷ parts) b (s, rest, e, c) = (f s, rest, moved s (End ∷ rest) b e, c)
  before (false ∷ parts) b (inl (s, rest, e, c)) = inl (f s, rest, moved s (End ∷ rest) b e, c)
  before (false ∷ parts) b (inr (s, q, rest, e, c)) = inr (f s, q, rest, moved s (Else ∷ (flat q ++ End ∷ rest)) b e, c)

ended : (c : List ℕ) (p : Steps) (rest b : List Step) → b ≡ flat p ++ End ∷ rest → (If c ∷ (flat p ++ End ∷ [])) ++ rest ≡ If c ∷ b
ended c p rest b e = ap (λ l. If c ∷ l) (append_assoc (flat p) (End ∷ []) rest ∙ sym e)

ended_else : (c : List ℕ) (p q : Steps) (rest b : List Step) → b ≡ flat p ++ Else ∷ (flat q ++ End ∷ rest) → (If c ∷ (flat p ++ Else ∷ (flat q ++ End ∷ []))) ++ rest ≡ If c ∷ b
ended_else c p q rest b e =
    ap (λ l. If c ∷ l) (append_assoc (flat p) (Else ∷ (flat q ++ End ∷ [])) rest ∙ ap (λ l. flat p ++ Else ∷ l) (append_assoc (flat q) (End ∷ []) rest) ∙ sym e)

opened : (c : List ℕ) (parts : List Bool) (b : List Step) → Closed (false ∷ parts) b → Closed parts (If c ∷ b)
opened c parts b (inl (p, rest, e, k)) = subst (Closed parts) (ended c p rest b e) (before (if_only c p) (If c ∷ (flat p ++ End ∷ [])) (λ s. sym (ended c p (flat s) _ refl)) parts rest k)
opened c parts b (inr (p, q, rest, e, k)) = subst (Closed parts) (ended_else c p q rest b e) (before (if_else c p q) (If c ∷ (flat p ++ Else ∷ (flat q ++ End ∷ []))) (λ s. sym (ended_else c p q (flat s) _ refl)) parts rest k)

closed : (parts : List Bool) (b : List Step) → nested parts b ≡ true → Closed parts b
closed [] [] h = (no_step, refl)
closed (p ∷ parts) [] h = cc
closed parts (If c ∷ b) h = opened c parts b (closed (false ∷ parts) b h)
closed parts (NonblockingAssign x a ∷ b) h = before (assign x a) (NonblockingAssign x a ∷ []) (λ s. refl) parts b (closed parts b h)
closed parts (MemoryAssign m x a ∷ b) h = before (store m x a) (MemoryAssign m x a ∷ []) (λ s. refl) parts b (closed parts b h)
closed [] (Else ∷ b) h = cc
closed (true ∷ parts) (Else ∷ b) h = cc
closed (false ∷ parts) (Else ∷ b) h = let (s, rest, e, k) = closed (true ∷ parts) b h in inr (no_step, s, rest, ap (λ l. Else ∷ l) e, k)
closed [] (End ∷ b) h = cc
closed (true ∷ parts) (End ∷ b) h = (no_step, b, refl, closed parts b h)
closed (false ∷ parts) (End ∷ b) h = inl (no_step, b, refl, closed parts b h)

pub nests : (b : List Step) → nested [] b ≡ true → (s : Steps) × (flat s ≡ b)
nests b h = closed [] b h
