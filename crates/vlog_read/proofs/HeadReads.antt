-- Words between modules, and up to the items of one.
use Rattle.std.proofs.Common.{◌≡◌, ◌⊎◌, inl, inr, ℕ, ◌≤◌, List, [], ◌∷◌, codes, length, fold, None, refl, sym, ap, subst, ◌∙◌}
use Rattle.vlog_tree.specs.declared.tree.Direction.{Direction}
use Rattle.vlog_tree.specs.declared.tree.Direction.TheVariants.{Input, Output}
use Rattle.vlog_tree.specs.declared.tree.PortDecl.{PortDecl}
use Rattle.vlog_tree.specs.Form.{ModuleTree}
use Rattle.vlog_tree.specs.Names.{starts_name}
use Rattle.vlog_tree.specs.Spelling.{Word}
use Rattle.vlog_tree.specs.Clamped.{clamped_width, clamped_port}
use Rattle.tapa_base.specs.Spans.{Separated}
use Rattle.vlog_lex.specs.Spans.{Takes}
use Rattle.vlog_lex.specs.Grammar.{SpellsPort}
use Rattle.vlog_lex.specs.declared.coming.Coming.TheVariants.{RangeEnd, Semicolon, LeftParen}
use Rattle.vlog_read.specs.declared.state.ModuleDraft.{ModuleDraft}
use Rattle.vlog_read.specs.declared.state.Declared.{Declared}
use Rattle.vlog_read.specs.declared.state.Declared.TheVariants as declared_form
use Rattle.vlog_read.specs.declared.state.HeadState.TheVariants.{ModuleName, PortStart, RangeOrName, RangeHigh, DeclaredName}
use Rattle.vlog_read.specs.declared.state.ItemState.TheVariants.{ItemStart}
use Rattle.vlog_read.specs.declared.state.State.TheVariants.{Head, Item}
use Rattle.vlog_read.specs.ValueReading.{at, behind, begun, finished, with_port}
use Rattle.vlog_read.specs.BlockReading.{port_of, between, module_name, port_start, port_next, range_high, named, declared_name, range_or_name}
use Rattle.vlog_read.specs.Finishing.{Words, Named, Modules, Items, MorePorts, Ports, Name, High, Declaration, put_module, put_port, put_item}
use Rattle.vlog_read.proofs.IsRead.{IsRead, as_read, none_read, fixed_read, word_or, name_read, count_read}
use Rattle.vlog_read.proofs.Folded.{whole_module}

-- where the words may end behind modules
abbrev pub EndsBetween : List ModuleTree → List ModuleTree → Type 0
EndsBetween cs ms = (ms ≡ cs) × (1 ≤ length cs)

module _ (cs : List ModuleTree) where
  ports_in : (d : ModuleDraft) (ps : List PortDecl) (i j : List Word) → Separated (Takes (codes ",")) SpellsPort ps i j → Words (codes ")" ∷ codes ";" ∷ []) (Items cs (fold put_port d ps)) j → Ports cs d i
  ports_in d [] i j none h = absurd none
  ports_in d (p ∷ ps) i j (t, first, more) h = (p, t, first, (ps, j, more, h))

  pub between_read : (ms : List ModuleTree) → IsRead cs (between ms) (EndsBetween cs ms) (Modules cs ms)
  between_read ms = as_read (word_or cs (codes "module") (at (Head (ModuleName ms))) (none_read cs (EndsBetween cs ms)) refl) (λ i. there i) (λ i. back i)
    where
      there : (i : List Word) → Words (codes "module" ∷ []) (Named (λ x. Words (codes "(" ∷ []) (Ports cs (begun ms x)))) i ⊎ ((i ≡ []) × EndsBetween cs ms) → Modules cs ms i
      there i (inr (e, (same, one))) = ([], e, sym same, one)
      there i (inl (t, word, (x, u, name, (v, paren, (p, w, first, (ps, a, more, (b, close, (c, semi, (its, d, items, (j, end, (mods, rest, is, one))))))))))) =
          let m : ModuleTree = record { name = x; ports = p ∷ ps; items = its } in (
            m ∷ mods,
            (j, (t, word, (u, name, (v, paren, (a, (w, first, more), (b, close, (c, semi, (d, items, end))))))), rest),
            is ∙ ap (λ (l : List ModuleTree). fold put_module l mods) (whole_module ms m),
            one,
          )

      back : (i : List Word) → Modules cs ms i → Words (codes "module" ∷ []) (Named (λ x. Words (codes "(" ∷ []) (Ports cs (begun ms x)))) i ⊎ ((i ≡ []) × EndsBetween cs ms)
      back i ([], e, is, one) = inr (e, (sym is, one))
      back i (m ∷ mods, (j, (t, word, (u, name, (v, paren, (a, ports, (b, close, (c, semi, (d, items, end))))))), rest), is, one) =
          let left : Modules cs (finished (fold put_item (fold put_port (begun ms m.name) m.ports) m.items)) j =
          (mods, rest, is ∙ ap (λ (l : List ModuleTree). fold put_module l mods) (sym (whole_module ms m)), one) in
          inl (t, word, (m.name, u, name, (v, paren, ports_in (begun ms m.name) m.ports v a ports (b, close, (c, semi, (m.items, d, items, (j, end, left)))))))

  pub module_name_read : (ms : List ModuleTree) → IsRead cs (module_name ms) ⊥ (Named (λ x. Words (codes "(" ∷ []) (Ports cs (begun ms x))))
  module_name_read ms = name_read cs (λ x. behind LeftParen (Head (PortStart (begun ms x))))

  pub port_start_read : (d : ModuleDraft) → IsRead cs (port_start d) ⊥ (Ports cs d)
  port_start_read d =
      as_read (word_or cs (codes "input") (at (Head (RangeOrName d declared_form.Input))) (fixed_read cs (codes "output") (at (Head (RangeOrName d declared_form.Output)))) refl) (λ i. there i) (λ i. back i)
    where
      there : (i : List Word) → Words (codes "input" ∷ []) (Declaration cs d declared_form.Input) i ⊎ Words (codes "output" ∷ []) (Declaration cs d declared_form.Output) i → Ports cs d i
      there i (inl (t, word, (bits, u, range, (x, j, name, more)))) = (port_of Input bits x, j, (t, word, (u, range, name)), more)
      there i (inr (t, word, (bits, u, range, (x, j, name, more)))) = (port_of Output bits x, j, (t, word, (u, range, name)), more)

      by_way : (way : Direction) (bits : ℕ) (x : Word) (i j : List Word) → SpellsPort (port_of way bits x) i j → MorePorts cs (with_port d (clamped_port (port_of way bits x))) j
          → Words (codes "input" ∷ []) (Declaration cs d declared_form.Input) i ⊎ Words (codes "output" ∷ []) (Declaration cs d declared_form.Output) i
      by_way Input bits x i j (t, word, (u, range, name)) more = inl (t, word, (bits, u, range, (x, j, name, more)))
      by_way Output bits x i j (t, word, (u, range, name)) more = inr (t, word, (bits, u, range, (x, j, name, more)))

      back : (i : List Word) → Ports cs d i → Words (codes "input" ∷ []) (Declaration cs d declared_form.Input) i ⊎ Words (codes "output" ∷ []) (Declaration cs d declared_form.Output) i
      back i (p, j, port, more) = by_way p.direction p.width p.name i j port more

  pub name_read_of : (d : ModuleDraft) (k : Declared) (bits : ℕ) → IsRead cs (declared_name d k bits) ⊥ (Name cs d k bits)
  name_read_of d declared_form.Input bits = name_read cs (λ x. named d declared_form.Input bits x)
  name_read_of d declared_form.Output bits = name_read cs (λ x. named d declared_form.Output bits x)
  name_read_of d declared_form.Wire bits = name_read cs (λ x. named d declared_form.Wire bits x)
  name_read_of d declared_form.Reg bits = name_read cs (λ x. named d declared_form.Reg bits x)

  no_bracket : (d : ModuleDraft) (k : Declared) → declared_name d k 1 (codes "[") ≡ None
  unfolding starts_name
  no_bracket d k = refl

  pub range_or_name_read : (d : ModuleDraft) (k : Declared) → IsRead cs (range_or_name d k) ⊥ (Declaration cs d k)
  range_or_name_read d k = as_read (word_or cs (codes "[") (at (Head (RangeHigh d k))) (name_read_of d k 1) (no_bracket d k)) (λ i. there i) (λ i. back i)
    where
      there : (i : List Word) → Words (codes "[" ∷ []) (High cs d k) i ⊎ Name cs d k 1 i → Declaration cs d k i
      there i (inl (t, opening, (n, u, last, (v, colon, (x, zero, (j, close, name)))))) = (n, j, inr (t, opening, (u, last, (v, colon, (x, zero, close)))), name)
      there i (inr name) = (1, i, inl (refl, refl), name)

      back : (i : List Word) → Declaration cs d k i → Words (codes "[" ∷ []) (High cs d k) i ⊎ Name cs d k 1 i
      back i (n, j, inl (one, e), name) = inr (subst (λ (m : ℕ). Name cs d k (clamped_width m) i) one (subst (Name cs d k (clamped_width n)) (sym e) name))
      back i (n, j, inr (t, opening, (u, last, (v, colon, (x, zero, close)))), name) = inl (t, opening, (n, u, last, (v, colon, (x, zero, (j, close, name)))))

  pub range_high_read : (d : ModuleDraft) (k : Declared) → IsRead cs (range_high d k) ⊥ (High cs d k)
  range_high_read d k = count_read cs (λ n. behind RangeEnd (Head (DeclaredName d k (clamped_width n))))

  pub port_next_read : (d : ModuleDraft) → IsRead cs (port_next d) ⊥ (MorePorts cs d)
  port_next_read d = as_read (word_or cs (codes ",") (at (Head (PortStart d))) (fixed_read cs (codes ")") (behind Semicolon (Item (ItemStart d)))) refl) (λ i. there i) (λ i. back i)
    where
      there : (i : List Word) → Words (codes "," ∷ []) (Ports cs d) i ⊎ Words (codes ")" ∷ codes ";" ∷ []) (Items cs d) i → MorePorts cs d i
      there i (inl (t, comma, (p, x, port, (ps, j, more, rest)))) = (p ∷ ps, j, (x, (t, comma, port), more), rest)
      there i (inr rest) = ([], i, refl, rest)

      back : (i : List Word) → MorePorts cs d i → Words (codes "," ∷ []) (Ports cs d) i ⊎ Words (codes ")" ∷ codes ";" ∷ []) (Items cs d) i
      back i ([], j, e, (b, close, rest)) = inr (b, e ∙ close, rest)
      back i (p ∷ ps, j, (x, (t, comma, port), more), rest) = inl (t, comma, (p, x, port, (ps, j, more, rest)))
