-- Words among items: declarations, instances, and what keywords begin.
use Rattle.std.proofs.Common.{◌⊎◌, inl, inr, ℕ, List, [], ◌∷◌, codes, fold, refl, sym, subst, ◌∙◌}
use Rattle.vlog_tree.specs.declared.tree.Step.{Step}
use Rattle.vlog_tree.specs.declared.tree.Connection.{Connection}
use Rattle.vlog_tree.specs.declared.tree.Item.{Item as ItemTree}
use Rattle.vlog_tree.specs.declared.tree.Item.TheVariants.{Wire, Reg, Memory, Assign, Always, Instance}
use Rattle.vlog_tree.specs.Form.{ModuleTree}
use Rattle.vlog_tree.specs.Spelling.{Word}
use Rattle.vlog_tree.specs.Clamped.{clamped_cells}
use Rattle.tapa_base.specs.Spans.{Separated}
use Rattle.vlog_lex.specs.Spans.{Takes}
use Rattle.vlog_lex.specs.Grammar.{SpellsConnection, SpellsItem}
use Rattle.vlog_lex.specs.Flat.{SpellsFlatBlock}
use Rattle.vlog_lex.proofs.Flattened.{flat_block, block_of_flat}
use Rattle.vlog_lex.specs.declared.coming.Coming.TheVariants.{Nothing, Semicolon, LeftParen, ParenDot, Dot, RightParen, ZeroColon, BracketSemicolon, Clocked}
use Rattle.vlog_read.specs.declared.state.ModuleDraft.{ModuleDraft}
use Rattle.vlog_read.specs.declared.state.Joining.{Joining}
use Rattle.vlog_read.specs.declared.state.Declared.TheVariants as declared_form
use Rattle.vlog_read.specs.declared.state.HeadState.TheVariants.{Between, RangeOrName}
use Rattle.vlog_read.specs.declared.state.ItemState.TheVariants.{CellsLast, InstanceName, ConnectionPort, ConnectionNet, ConnectionNext}
use Rattle.vlog_read.specs.declared.state.ValueState.TheVariants.{AssignName}
use Rattle.vlog_read.specs.declared.state.BlockState.TheVariants.{StepStart}
use Rattle.vlog_read.specs.declared.state.State.TheVariants.{Head, Item, Value, Block}
use Rattle.vlog_read.specs.ValueReading.{at, behind, with_item, finished, item_behind, no_steps, with_connection, joined}
use Rattle.vlog_read.specs.BlockReading.{no_connection, connection_of, item_word, item_start, reg_next, cells_last, instance_name, connection_port, connection_net, connection_next}
use Rattle.vlog_read.specs.Finishing.{Words, Named, Modules, Items, ItemBehind, Cells, RegEnd, Declaration, MoreSteps, Drives, MoreConnections, JoinedNet, JoinedPort, Instances, put_item}
use Rattle.vlog_read.proofs.IsRead.{IsRead, as_read, fixed_read, word_or, name_or, name_read, count_read}
use Rattle.vlog_read.proofs.Items.{name_no_item}
use Rattle.vlog_read.proofs.Folded.{all_steps, all_connections}

module _ (cs : List ModuleTree) where
  -- ---- items

  abbrev Assigns : ModuleDraft → List Word → Type 0
  Assigns d = Words (codes "assign" ∷ []) (Named (λ x. Words (codes "=" ∷ []) (Drives cs d x)))

  abbrev Blocks : ModuleDraft → List Word → Type 0
  Blocks d = Words (codes "always" ∷ codes "@" ∷ codes "(" ∷ codes "posedge" ∷ codes "clk" ∷ codes ")" ∷ codes "begin" ∷ []) (MoreSteps cs d no_steps)

  abbrev Wires : ModuleDraft → List Word → Type 0
  Wires d = Words (codes "wire" ∷ []) (Declaration cs d declared_form.Wire)

  abbrev Regs : ModuleDraft → List Word → Type 0
  Regs d = Words (codes "reg" ∷ []) (Declaration cs d declared_form.Reg)

  abbrev Last : ModuleDraft → List Word → Type 0
  Last d = Words (codes "endmodule" ∷ []) (Modules cs (finished d))

  abbrev Keyword : ModuleDraft → List Word → Type 0
  Keyword d i = Wires d i ⊎ (Regs d i ⊎ (Assigns d i ⊎ (Blocks d i ⊎ Last d i)))

  keyword_read : (d : ModuleDraft) → IsRead cs (item_word d) ⊥ (Keyword d)
  keyword_read d =
      word_or cs (codes "wire") (at (Head (RangeOrName d declared_form.Wire)))
      (word_or cs (codes "reg") (at (Head (RangeOrName d declared_form.Reg)))
      (word_or cs (codes "assign") (at (Value (AssignName d))) (word_or cs (codes "always") (behind Clocked (Block (StepStart d no_steps))) (fixed_read cs (codes "endmodule") (at (Head (Between (finished d))))) refl) refl) refl) refl

  connections_in : (d : ModuleDraft) (m x : Word) (ls : List Connection) (i j : List Word) → Separated (Takes (codes ",")) SpellsConnection ls i j → Words (codes ")" ∷ codes ";" ∷ []) (Items cs (put_item d (Instance m x ls))) j
      → Words (codes "." ∷ []) (JoinedPort cs d (no_connection m x)) i
  connections_in d m x [] i j none rest = absurd none
  connections_in d m x (l ∷ ls) i j (t, (a, dot, (b, port, (c, opening, (e, net, close)))), more) rest =
      (a, dot, (l.port, b, port, (c, opening, (l.net, e, net, (t, close, (ls, j, more, subst (λ (it : ItemTree). Words (codes ")" ∷ codes ";" ∷ []) (Items cs (with_item d it)) j) (sym (all_connections m x (l ∷ ls))) rest))))))

  block_in : (d : ModuleDraft) (steps : List Step) (i j : List Word) → SpellsFlatBlock steps i j → Items cs (put_item d (Always steps)) j → Words (codes "begin" ∷ []) (MoreSteps cs d no_steps) i
  block_in d steps i j (nest, (a, begin, (b, inside, end))) rest =
      (a, begin, (steps, b, nest, inside, (j, end, subst (λ (xs : List Step). Items cs (with_item d (Always xs)) j) (sym (all_steps steps)) rest)))

  item_in : (d : ModuleDraft) (x : ItemTree) (i j : List Word) → SpellsItem x i j → Items cs (put_item d x) j → Named (Instances cs d) i ⊎ Keyword d i
  item_in d (Wire bits x) i j (t, word, (u, range, (v, name, semi))) rest = inr (inl (t, word, (bits, u, range, (x, v, name, (j, semi, rest)))))
  item_in d (Reg bits x) i j (t, word, (u, range, (v, name, semi))) rest = inr (inr (inl (t, word, (bits, u, range, (x, v, name, inl (j, semi, rest))))))
  item_in d (Memory bits x cells) i j (t, word, (u, range, (v, name, (a, opening, (b, zero, (c, colon, (e, last, (g, close, semi)))))))) rest =
      inr (inr (inl (t, word, (bits, u, range, (x, v, name, inr (a, opening, (b, zero, (c, colon, (cells, e, last, (g, close, (j, semi, rest)))))))))))
  item_in d (Assign x value) i j (t, word, (u, name, (v, equals, (a, drives, semi)))) rest = inr (inr (inr (inl (t, word, (x, u, name, (v, equals, (value, a, drives, (j, semi, rest))))))))
  item_in d (Always steps) i j (t, word, (u, clocked, (v, opening, (a, edge, (b, clk, (c, close, block)))))) rest =
      inr (inr (inr (inr (inl (t, word, (u, clocked, (v, opening, (a, edge, (b, clk, (c, close, block_in d steps c j (flat_block steps c j block) rest))))))))))
  item_in d (Instance m x ls) i j (t, child, (u, name, (v, opening, (a, joins, (b, close, semi))))) rest =
      inl (m, t, child, (x, u, name, (v, opening, connections_in d m x ls v a joins (b, close, (j, semi, rest)))))

  named_out : (d : ModuleDraft) (i : List Word) → Named (Instances cs d) i → Items cs d i
  named_out d i (m, t, child, (x, u, name, (v, opening, (a, dot, (p, b, port, (c, paren, (n, e, net, (g, close, (ls, k, more, (h, end, (j, semi, (its, r, items, rest)))))))))))) =
      let l : Connection = connection_of p n in (
        Instance m x (l ∷ ls) ∷ its,
        r,
        (j, (t, child, (u, name, (v, opening, (k, (g, (a, dot, (b, port, (c, paren, (e, net, close)))), more), (h, end, semi))))), items),
        subst (λ (it : ItemTree). Words (codes "endmodule" ∷ []) (Modules cs (finished (fold put_item (with_item d it) its))) r) (all_connections m x (l ∷ ls)) rest,
      )

  declared_out : (d : ModuleDraft) (i : List Word) → Regs d i → Items cs d i
  declared_out d i (t, word, (bits, u, range, (x, v, name, inl (j, semi, (its, r, items, rest))))) = (Reg bits x ∷ its, r, (j, (t, word, (u, range, (v, name, semi))), items), rest)
  declared_out d i (t, word, (bits, u, range, (x, v, name, inr (a, opening, (b, zero, (c, colon, (cells, e, last, (g, close, (j, semi, (its, r, items, rest)))))))))) =
      (Memory bits x cells ∷ its, r, (j, (t, word, (u, range, (v, name, (a, opening, (b, zero, (c, colon, (e, last, (g, close, semi)))))))), items), rest)

  block_out : (d : ModuleDraft) (i : List Word) → Blocks d i → Items cs d i
  block_out d i (t, word, (u, clocked, (v, opening, (a, edge, (b, clk, (c, close, (e, begin, (steps, g, nest, inside, (j, end, (its, r, items, rest)))))))))) = (
    Always steps ∷ its,
    r,
    (j, (t, word, (u, clocked, (v, opening, (a, edge, (b, clk, (c, close, block_of_flat steps c j (nest, (e, begin, (g, inside, end))))))))), items),
    subst (λ (xs : List Step). Words (codes "endmodule" ∷ []) (Modules cs (finished (fold put_item (with_item d (Always xs)) its))) r) (all_steps steps) rest,
  )

  keyword_out : (d : ModuleDraft) (i : List Word) → Keyword d i → Items cs d i
  keyword_out d i (inl (t, word, (bits, u, range, (x, v, name, (j, semi, (its, r, items, rest)))))) = (Wire bits x ∷ its, r, (j, (t, word, (u, range, (v, name, semi))), items), rest)
  keyword_out d i (inr (inl h)) = declared_out d i h
  keyword_out d i (inr (inr (inl (t, word, (x, u, name, (v, equals, (value, a, drives, (j, semi, (its, r, items, rest))))))))) =
      (Assign x value ∷ its, r, (j, (t, word, (u, name, (v, equals, (a, drives, semi)))), items), rest)
  keyword_out d i (inr (inr (inr (inl h)))) = block_out d i h
  keyword_out d i (inr (inr (inr (inr rest)))) = ([], i, refl, rest)

  pub item_start_read : (d : ModuleDraft) → IsRead cs (item_start d) ⊥ (Items cs d)
  item_start_read d = as_read (name_or cs (λ w. at (Item (InstanceName d w))) (keyword_read d) (name_no_item d)) (λ i. there i) (λ i. back i)
    where
      there : (i : List Word) → Named (Instances cs d) i ⊎ Keyword d i → Items cs d i
      there i (inl h) = named_out d i h
      there i (inr h) = keyword_out d i h

      back : (i : List Word) → Items cs d i → Named (Instances cs d) i ⊎ Keyword d i
      back i ([], j, e, (k, end, rest)) = inr (inr (inr (inr (inr (k, e ∙ end, rest)))))
      back i (x ∷ its, r, (j, first, items), rest) = item_in d x i j first (its, r, items, rest)

  -- ---- declarations

  pub reg_next_read : (d : ModuleDraft) (bits : ℕ) (x : Word) → IsRead cs (reg_next d bits x) ⊥ (RegEnd cs d bits x)
  reg_next_read d bits x = word_or cs (codes ";") (item_behind Nothing d (Reg bits x)) (fixed_read cs (codes "[") (behind ZeroColon (Item (CellsLast d bits x)))) refl

  pub cells_last_read : (d : ModuleDraft) (bits : ℕ) (x : Word) → IsRead cs (cells_last d bits x) ⊥ (Cells cs d bits x)
  cells_last_read d bits x = count_read cs (λ n. item_behind BracketSemicolon d (Memory bits x (clamped_cells n)))

  -- ---- instances

  pub instance_name_read : (d : ModuleDraft) (m : Word) → IsRead cs (instance_name d m) ⊥ (Instances cs d m)
  instance_name_read d m = name_read cs (λ x. behind ParenDot (Item (ConnectionPort d (no_connection m x))))

  pub connection_port_read : (d : ModuleDraft) (q : Joining) → IsRead cs (connection_port d q) ⊥ (JoinedPort cs d q)
  connection_port_read d q = name_read cs (λ p. behind LeftParen (Item (ConnectionNet d q p)))

  pub connection_net_read : (d : ModuleDraft) (q : Joining) (p : Word) → IsRead cs (connection_net d q p) ⊥ (JoinedNet cs d q p)
  connection_net_read d q p = name_read cs (λ n. behind RightParen (Item (ConnectionNext d (with_connection q (connection_of p n)))))

  pub connection_next_read : (d : ModuleDraft) (q : Joining) → IsRead cs (connection_next d q) ⊥ (MoreConnections cs d q)
  connection_next_read d q =
      as_read (word_or cs (codes ",") (behind Dot (Item (ConnectionPort d q))) (fixed_read cs (codes ")") (item_behind Semicolon d (joined q))) refl) (λ i. there i) (λ i. back i)
    where
      there : (i : List Word) → Words (codes "," ∷ codes "." ∷ []) (JoinedPort cs d q) i ⊎ ItemBehind cs (codes ")" ∷ codes ";" ∷ []) d (joined q) i → MoreConnections cs d q i
      there i (inl (t, comma, (a, dot, (p, b, port, (c, opening, (n, e, net, (k, close, (ls, j, more, rest)))))))) =
          (connection_of p n ∷ ls, j, (k, (t, comma, (a, dot, (b, port, (c, opening, (e, net, close))))), more), rest)
      there i (inr rest) = ([], i, refl, rest)

      back : (i : List Word) → MoreConnections cs d q i → Words (codes "," ∷ codes "." ∷ []) (JoinedPort cs d q) i ⊎ ItemBehind cs (codes ")" ∷ codes ";" ∷ []) d (joined q) i
      back i ([], j, e, (b, close, rest)) = inr (b, e ∙ close, rest)
      back i (l ∷ ls, j, (k, (t, comma, (a, dot, (b, port, (c, opening, (e, net, close))))), more), rest) = inl (t, comma, (a, dot, (l.port, b, port, (c, opening, (l.net, e, net, (k, close, (ls, j, more, rest)))))))
