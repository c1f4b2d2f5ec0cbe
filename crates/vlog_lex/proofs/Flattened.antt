-- Blocks by the grammar and by their flat list are the same.
use Rattle.std.proofs.Common.{◌≡◌, Bool, true, false, List, [], ◌∷◌, ◌++◌, refl, sym, ap, subst, ◌∙◌}
use Rattle.std.proofs.lemmas.List.{append_assoc, append-nil}
use Rattle.vlog_tree.specs.declared.tree.Step.{Step}
use Rattle.vlog_tree.specs.declared.tree.Step.TheVariants.{Else, End}
use Rattle.vlog_tree.specs.Form.{nested}
use Rattle.vlog_tree.specs.Spelling.{Word}
use Rattle.tapa_base.specs.Spans.{Each}
use Rattle.vlog_lex.specs.Spans.{Part}
use Rattle.vlog_lex.specs.Grammar.{Steps, no_step, if_only, if_else, assign, store, flat, SpellsSteps, SpellsBlock}
use Rattle.vlog_lex.specs.Flat.{SpellsStep, SpellsFlatBlock}
use Rattle.vlog_lex.proofs.Nests.{nests}

each_join : {A : Type 0} (P : A → Part) (xs ys : List A) (i j k : List Word) → Each P xs i j → Each P ys j k → Each P (xs ++ ys) i k
each_join P [] ys i j k e h = subst (λ (l : List Word). Each P ys l k) (sym e) h
each_join P (x ∷ xs) ys i j k (l, first, more) h = (l, first, each_join P xs ys l j k more h)

each_split : {A : Type 0} (P : A → Part) (xs ys : List A) (i k : List Word) → Each P (xs ++ ys) i k → (j : List Word) × Each P xs i j × Each P ys j k
each_split P [] ys i k h = (i, refl, h)
each_split P (x ∷ xs) ys i k (l, first, more) = let s = each_split P xs ys l k more in (s.0, (l, first, s.1), s.2)

flattened : (s : Steps) (i j : List Word) → SpellsSteps s i j → Each SpellsStep (flat s) i j
flattened no_step i j e = e
flattened (if_only c p rest) i k (j0, cond, (j1, begin, (j2, first, (j3, end, more)))) =
    (j1, (j0, cond, begin), each_join SpellsStep (flat p) (End ∷ flat rest) j1 j2 k (flattened p j1 j2 first) (j3, end, flattened rest j3 k more))
flattened (if_else c p q rest) i k (j0, cond, (j1, begin, (j2, first, (j3, end, (j4, else, (j5, begins, (j6, second, (j7, ends, more)))))))) = (
  j1,
  (j0, cond, begin),
  each_join SpellsStep (flat p) (Else ∷ (flat q ++ End ∷ flat rest)) j1 j2 k (flattened p j1 j2 first)
      (j5, (j3, end, (j4, else, begins)), each_join SpellsStep (flat q) (End ∷ flat rest) j5 j6 k (flattened q j5 j6 second) (j7, ends, flattened rest j7 k more)),
)
flattened (assign x a rest) i k (j0, name, (j1, arrow, (j2, value, (j3, end, more)))) = (j3, (j0, name, (j1, arrow, (j2, value, end))), flattened rest j3 k more)
flattened (store m x a rest) i k (j0, name, (j1, bracket, (j2, at, (j3, close, (j4, arrow, (j5, value, (j6, end, more))))))) =
    (j6, (j0, name, (j1, bracket, (j2, at, (j3, close, (j4, arrow, (j5, value, end)))))), flattened rest j6 k more)

raised : (s : Steps) (i k : List Word) → Each SpellsStep (flat s) i k → SpellsSteps s i k
raised no_step i j e = e
raised (if_only c p rest) i k (j1, (j0, cond, begin), h) =
    let s = each_split SpellsStep (flat p) (End ∷ flat rest) j1 k h in
    (j0, cond, (j1, begin, (s.0, raised p j1 s.0 s.1, (s.2.0, s.2.1, raised rest s.2.0 k s.2.2))))
raised (if_else c p q rest) i k (j1, (j0, cond, begin), h) =
    let s = each_split SpellsStep (flat p) (Else ∷ (flat q ++ End ∷ flat rest)) j1 k h in
    let t = each_split SpellsStep (flat q) (End ∷ flat rest) s.2.0 k s.2.2 in
    (j0, cond, (j1, begin, (s.0, raised p j1 s.0 s.1, (s.2.1.0, s.2.1.1, (s.2.1.2.0, s.2.1.2.1, (s.2.0, s.2.1.2.2, (t.0, raised q s.2.0 t.0 t.1, (t.2.0, t.2.1, raised rest t.2.0 k t.2.2))))))))
raised (assign x a rest) i k (j3, (j0, name, (j1, arrow, (j2, value, end))), more) = (j0, name, (j1, arrow, (j2, value, (j3, end, raised rest j3 k more))))
raised (store m x a rest) i k (j6, (j0, name, (j1, bracket, (j2, at, (j3, close, (j4, arrow, (j5, value, end)))))), more) =
    (j0, name, (j1, bracket, (j2, at, (j3, close, (j4, arrow, (j5, value, (j6, end, raised rest j6 k more)))))))

-- steps by the grammar leave as many parts open as there were
level : (s : Steps) (parts : List Bool) (rest : List Step) → nested parts (flat s ++ rest) ≡ nested parts rest
level no_step parts rest = refl
level (if_only c p more) parts rest =
    ap (nested (false ∷ parts)) (append_assoc (flat p) (End ∷ flat more) rest) ∙ level p (false ∷ parts) (End ∷ (flat more ++ rest)) ∙ level more parts rest
level (if_else c p q more) parts rest =
    ap (nested (false ∷ parts)) (append_assoc (flat p) (Else ∷ (flat q ++ End ∷ flat more)) rest) ∙ level p (false ∷ parts) (Else ∷ ((flat q ++ End ∷ flat more) ++ rest))
    ∙ ap (nested (true ∷ parts)) (append_assoc (flat q) (End ∷ flat more) rest) ∙ level q (true ∷ parts) (End ∷ (flat more ++ rest)) ∙ level more parts rest
level (assign x a more) parts rest = level more parts rest
level (store m x a more) parts rest = level more parts rest

pub flat_block : (steps : List Step) (i j : List Word) → SpellsBlock steps i j → SpellsFlatBlock steps i j
flat_block steps i k (s, e, (j0, begin, (j1, inside, end))) =
    (ap (nested []) (sym e ∙ sym (append-nil (flat s))) ∙ level s [] [], (j0, begin, (j1, subst (λ (l : List Step). Each SpellsStep l j0 j1) e (flattened s j0 j1 inside), end)))

pub block_of_flat : (steps : List Step) (i j : List Word) → SpellsFlatBlock steps i j → SpellsBlock steps i j
block_of_flat steps i k (h, (j0, begin, (j1, inside, end))) =
    let s = nests steps h in (s.0, s.1, (j0, begin, (j1, raised s.0 j0 j1 (subst (λ (l : List Step). Each SpellsStep l j0 j1) (sym s.1) inside), end)))
