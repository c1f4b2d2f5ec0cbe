-- Words of blocks.
use Rattle.std.proofs.Common.{◌≡◌, ◌⊎◌, inl, inr, Bool, true, false, if◌then◌else◌, List, [], ◌∷◌, ◌++◌, codes, fold, Some, None, bytes_eq, refl, ◌∙◌}
use Rattle.vlog_tree.specs.declared.tree.Step.{Step}
use Rattle.vlog_tree.specs.declared.tree.Step.TheVariants.{If, Else, End, NonblockingAssign, MemoryAssign}
use Rattle.vlog_tree.specs.declared.tree.Item.TheVariants.{Always}
use Rattle.vlog_tree.specs.Form.{ModuleTree, nested}
use Rattle.vlog_tree.specs.Names.{is_name}
use Rattle.vlog_tree.specs.Spelling.{Word}
use Rattle.tapa_base.specs.Spans.{Each}
use Rattle.vlog_lex.specs.Flat.{SpellsStep}
use Rattle.vlog_lex.proofs.OneBlock.{keywords}
use Rattle.vlog_lex.specs.declared.coming.Coming.TheVariants.{LeftParen, ParenBegin, Begin, BracketArrow}
use Rattle.vlog_read.specs.declared.state.ModuleDraft.{ModuleDraft}
use Rattle.vlog_read.specs.declared.state.Steps.{Steps}
use Rattle.vlog_read.specs.declared.state.Purpose.TheVariants.{Assigned, Stored}
use Rattle.vlog_read.specs.declared.state.ValueState.TheVariants.{AtomStart}
use Rattle.vlog_read.specs.declared.state.BlockState.TheVariants.{StepStart, IfName, StepTarget, StepIndex}
use Rattle.vlog_read.specs.declared.state.State.TheVariants.{Value, Block}
use Rattle.vlog_read.specs.ValueReading.{Next, at, behind, with_step, opened}
use Rattle.vlog_read.specs.BlockReading.{ended_by, ended, step_start, after_end, if_name, step_target, step_index}
use Rattle.vlog_read.specs.Finishing.{Left, Words, Named, ItemBehind, Finishes, MoreSteps, ElseOrMore, Condition, Target, Place, put_step}
use Rattle.vlog_read.proofs.IsRead.{IsRead, as_read, fixed_read, word_or, name_or, name_read}
use Rattle.vlog_read.proofs.Items.{not_word}

module _ (cs : List ModuleTree) where
  pub step_target_read : (d : ModuleDraft) (s : Steps) (x : Word) → IsRead cs (step_target d s x) ⊥ (Target cs d s x)
  step_target_read d s x = word_or cs (codes "<=") (at (Value (AtomStart d (Assigned s x)))) (fixed_read cs (codes "[") (at (Block (StepIndex d s x)))) refl

  pub step_index_read : (d : ModuleDraft) (s : Steps) (m : Word) → IsRead cs (step_index d s m) ⊥ (Place cs d s m)
  step_index_read d s m = name_read cs (λ x. behind BracketArrow (Value (AtomStart d (Stored s m x))))

  pub if_name_read : (d : ModuleDraft) (s : Steps) → IsRead cs (if_name d s) ⊥ (Condition cs d s)
  if_name_read d s = name_read cs (λ x. behind ParenBegin (Block (StepStart d (opened s (If x) false))))

  -- ---- steps

  abbrev Ifs : ModuleDraft → Steps → Left
  Ifs d s = Words (codes "if" ∷ codes "(" ∷ []) (Condition cs d s)

  abbrev Ends : ModuleDraft → Steps → Left
  Ends d s = Words (codes "end" ∷ []) (Finishes cs (ended d s))

  abbrev Ways : ModuleDraft → Steps → Left
  Ways d s i = Named (Target cs d s) i ⊎ (Ifs d s i ⊎ Ends d s i)

  abbrev steps_of : List Step → List Bool → Steps
  steps_of steps parts = record { steps = steps; parts = parts }

  abbrev Behind : ModuleDraft → List Step → List Bool → Left
  Behind d steps parts = MoreSteps cs d (steps_of steps parts)

  block_end : (d : ModuleDraft) (steps : List Step) (parts : List Bool) (j : List Word) → nested parts [] ≡ true → ItemBehind cs [] d (Always steps) j → Finishes cs (ended_by d steps parts) j
  block_end d steps [] j nest h = h
  block_end d steps (b ∷ parts) j nest h = absurd cc

  else_end : (d : ModuleDraft) (steps more : List Step) (parts : List Bool) (t j : List Word) → nested parts (Else ∷ more) ≡ true → Words (codes "else" ∷ codes "begin" ∷ []) (λ k. Each SpellsStep more k j) t
      → ItemBehind cs (codes "end" ∷ []) d (Always (fold put_step (steps ++ Else ∷ []) more)) j → Finishes cs (ended_by d steps parts) t
  else_end d steps more [] t j nest h rest = absurd cc
  else_end d steps more (true ∷ parts) t j nest h rest = absurd cc
  else_end d steps more (false ∷ parts) t j nest (u, word, (v, begin, each)) rest = inl (u, word, (v, begin, (more, j, nest, each, rest)))

  part_end : (d : ModuleDraft) (steps more : List Step) (parts : List Bool) (t j : List Word) → nested parts (End ∷ more) ≡ true → Each SpellsStep more t j
      → ItemBehind cs (codes "end" ∷ []) d (Always (fold put_step (steps ++ End ∷ []) more)) j → Finishes cs (ended_by d steps parts) t
  part_end d steps more [] t j nest each rest = absurd cc
  part_end d steps more (true ∷ parts) t j nest each rest = (more, j, nest, each, rest)
  part_end d steps more (false ∷ parts) t j nest each rest = inr (more, j, nest, each, rest)

  step_in : (d : ModuleDraft) (steps more : List Step) (parts : List Bool) (i j : List Word) → nested parts more ≡ true → Each SpellsStep more i j → ItemBehind cs (codes "end" ∷ []) d (Always (fold put_step steps more)) j → Ways d (steps_of steps parts) i
  step_in d steps [] parts i j nest e (k, end, rest) = inr (inr (k, e ∙ end, block_end d steps parts k nest rest))
  step_in d steps (If c ∷ more) parts i j nest (t, (u, (v, word, (w, opening, (x, name, close))), begin), each) rest =
      inr (inl (v, word, (w, opening, (c, x, name, (u, close, (t, begin, (more, j, nest, each, rest)))))))
  step_in d steps (Else ∷ more) parts i j nest (t, (u, end, (v, word, begin)), each) rest = inr (inr (u, end, else_end d steps more parts u j nest (v, word, (t, begin, each)) rest))
  step_in d steps (End ∷ more) parts i j nest (t, end, each) rest = inr (inr (t, end, part_end d steps more parts t j nest each rest))
  step_in d steps (NonblockingAssign x a ∷ more) parts i j nest (t, (u, name, (v, arrow, (w, atom, semi))), each) rest =
      inl (x, u, name, inl (v, arrow, inl (a, w, atom, (t, semi, (more, j, nest, each, rest)))))
  step_in d steps (MemoryAssign m x a ∷ more) parts i j nest (t, (u, memory, (v, opening, (w, name, (y, close, (z, arrow, (k, atom, semi)))))), each) rest =
      inl (m, u, memory, inr (v, opening, (x, w, name, (y, close, (z, arrow, inl (a, k, atom, (t, semi, (more, j, nest, each, rest))))))))

  target_out : (d : ModuleDraft) (steps : List Step) (parts : List Bool) (i : List Word) → Named (Target cs d (steps_of steps parts)) i → Behind d steps parts i
  target_out d steps parts i (x, u, name, inl (v, arrow, inl (a, w, atom, (t, semi, (more, j, nest, each, rest))))) =
      (NonblockingAssign x a ∷ more, j, nest, (t, (u, name, (v, arrow, (w, atom, semi))), each), rest)
  target_out d steps parts i (x, u, name, inl (v, arrow, inr (m, w, other, (t, bracket, h)))) = absurd h
  target_out d steps parts i (m, u, memory, inr (v, opening, (x, w, name, (y, close, (z, arrow, inl (a, k, atom, (t, semi, (more, j, nest, each, rest)))))))) =
      (MemoryAssign m x a ∷ more, j, nest, (t, (u, memory, (v, opening, (w, name, (y, close, (z, arrow, (k, atom, semi)))))), each), rest)
  target_out d steps parts i (m, u, memory, inr (v, opening, (x, w, name, (y, close, (z, arrow, inr (n, k, other, (t, bracket, h))))))) = absurd h

  end_out : (d : ModuleDraft) (steps : List Step) (parts : List Bool) (i t : List Word) → i ≡ codes "end" ∷ t → Finishes cs (ended_by d steps parts) t → Behind d steps parts i
  end_out d steps [] i t end h = ([], i, refl, refl, (t, end, h))
  end_out d steps (true ∷ parts) i t end (more, j, nest, each, rest) = (End ∷ more, j, nest, (t, end, each), rest)
  end_out d steps (false ∷ parts) i t end (inl (u, word, (v, begin, (more, j, nest, each, rest)))) = (Else ∷ more, j, nest, (v, (t, end, (u, word, begin)), each), rest)
  end_out d steps (false ∷ parts) i t end (inr (more, j, nest, each, rest)) = (End ∷ more, j, nest, (t, end, each), rest)

  step_out : (d : ModuleDraft) (steps : List Step) (parts : List Bool) (i : List Word) → Ways d (steps_of steps parts) i → Behind d steps parts i
  step_out d steps parts i (inl h) = target_out d steps parts i h
  step_out d steps parts i (inr (inl (v, word, (w, opening, (c, x, name, (u, close, (t, begin, (more, j, nest, each, rest)))))))) =
      (If c ∷ more, j, nest, (t, (u, (v, word, (w, opening, (x, name, close))), begin), each), rest)
  step_out d steps parts i (inr (inr (t, end, h))) = end_out d steps parts i t end h

  abbrev by_word : ModuleDraft → Steps → Word → Next
  by_word d s w = if bytes_eq w (codes "if") then Some (behind LeftParen (Block (IfName d s))) else (if bytes_eq w (codes "end") then Some (ended d s) else None)

  name_no_step : (d : ModuleDraft) (s : Steps) (w : Word) → is_name w ≡ true → by_word d s w ≡ None
  name_no_step d s w h = rw (not_word w (codes "if") h keywords.no_if, not_word w (codes "end") h keywords.no_end) refl

  pub step_start_read : (d : ModuleDraft) (s : Steps) → IsRead cs (step_start d s) ⊥ (MoreSteps cs d s)
  step_start_read d s =
      as_read (name_or cs (λ x. at (Block (StepTarget d s x))) (word_or cs (codes "if") (behind LeftParen (Block (IfName d s))) (fixed_read cs (codes "end") (ended d s)) refl) (name_no_step d s))
      (λ i x. step_out d s.steps s.parts i x) (λ i x. step_in d s.steps x.0 s.parts i x.1 x.2 x.3 x.4)

  no_else : (d : ModuleDraft) (s : Steps) → step_start d s (codes "else") ≡ None
  no_else d s = rw keywords.no_else refl

  pub after_end_read : (d : ModuleDraft) (s : Steps) → IsRead cs (after_end d s) ⊥ (ElseOrMore cs d s)
  after_end_read d s = word_or cs (codes "else") (behind Begin (Block (StepStart d (opened s Else true)))) (step_start_read d (with_step s End)) (no_else d (with_step s End))
