-- The lines of a FIFO are the equations of one.
use Rattle.std.proofs.Common.{◌≡◌, ℕ, zero, suc, ◌+◌, ◌-◌, ◌%◌, ◌^◌, ◌<◌, Bool, true, false, cond, eqb, ltb, ◌&&◌, List, Some, inl, inr, refl, sym, ap, ◌∙◌, arith}
use Rattle.std.specs.Prelude.{codes, slice_get, not, bit_and, bit_xor, count_by}
use Rattle.std.specs.List.{list_any}
use Rattle.tapa_base.specs.Operators.{bit}
use Rattle.vlog_tree.specs.declared.tree.Atom.TheVariants.{Net, Literal}
use Rattle.vlog_tree.specs.declared.tree.BinaryOp.TheVariants.{Plus, Minus, And, Xor, Equals, Differs, Less}
use Rattle.vlog_tree.specs.declared.tree.Value.TheVariants.{Choose, Cell}
use Rattle.vlog_tree.specs.declared.tree.Step.{Step}
use Rattle.vlog_tree.specs.declared.tree.Item.TheVariants.{Wire, Assign, Always}
use Rattle.vlog_tree.specs.Form.{ModuleTree}
use Rattle.vlog_tree.specs.Labels.{rst}
use Rattle.vlog_tree.specs.Table.{Name}
use Rattle.vlog_tree.specs.Cycle.{Cycle, Follows}
use Rattle.vlog_tree.specs.V4.{step_assigns, is_block_of}
use Rattle.vlog_module_laws.specs.Blocks.{IsOwnBlock}
use Rattle.hw_build.specs.Elements.{built, reset_or_set, stored}
use Rattle.hw_build.proofs.Meaning.{driven_is, wire_width, memory_cells, reset_set_is, stored_is}
use Rattle.hw_channel_laws.specs.signals.Signals.{Resets, Signal}
use Rattle.hw_channel_laws.specs.signals.Fifo.{FifoSizes, IsFifo, next_place, next_count}
use Rattle.hw_channel_laws.proofs.signals.Pointers.{bit_is}
use Rattle.hw_channel_laws.proofs.signals.Lines.{bits, stores}
use Rattle.hw_channel_lines.specs.Texts.{fifo_elements, of_net, two, with_number}
use Rattle.hw_channel_laws.specs.modules.Ports.{fifo_ports}
use Rattle.tapa_base.proofs.Lists.{has_got}

pub small_bit : (t : Bool) → bit t < 2
small_bit true = omega arith
small_bit false = omega arith

not_is : (t : Bool) → bit (not t) ≡ bit (cond t false true)
not_is true = refl
not_is false = refl

pub both_bits : (a b : ℕ) → a < 2 → b < 2 → eqb (bit_and a b) 1 ≡ (eqb a 1 && eqb b 1)
both_bits a b h k = ap (λ x. eqb x 1) (bits a b h k).both_are ∙ bit_is (eqb a 1 && eqb b 1)

counted : (p q more fewer count : ℕ) → p < 2 → q < 2
    → cond (eqb (bit_xor p q) 1) (cond (eqb p 1) more fewer) count ≡ cond (eqb q 1 && not (eqb p 1)) fewer (cond (eqb p 1 && not (eqb q 1)) more count)
counted zero zero more fewer count h k = refl
counted zero (suc zero) more fewer count h k = refl
counted (suc zero) zero more fewer count h k = refl
counted (suc zero) (suc zero) more fewer count h k = refl
counted (suc (suc p)) q more fewer count h k = absurd (omega arith)
counted p (suc (suc q)) more fewer count h k = absurd (omega arith)

together : (a b c : Bool) → (a && b && c) ≡ (a && (b && c))
together true b c = refl
together false b c = refl

-- what is no reset is no matter in reset
in_reset : (b : Bool) (x y : ℕ) → (b ≡ false → x ≡ y) → cond b 0 x ≡ cond b 0 y
in_reset true x y h = refl
in_reset false x y h = h refl

pub live : (rst_of : Signal) → Resets rst_of → (n : ℕ) → eqb (rst_of n) 1 ≡ false → 0 < n
live r h zero e = let t : eqb 1 1 ≡ false = ap (λ x. eqb x 1) (sym h.first) ∙ e in cc t
live r h (suc n) e = omega arith

module _ (name : Name) (width depth places pb cb : ℕ) (run : ℕ → Cycle) (f : Follows (built name (fifo_elements width depth places pb cb)) run) (reset : Resets (λ n. (run n).net rst)) where
  abbrev m : ModuleTree
  m = built name (fifo_elements width depth places pb cb)

  abbrev at : ℕ → (x : Name) → ℕ
  at n x = (run n).net x

  abbrev sizes : FifoSizes
  sizes = record { places = places; place_bits = pb; count_bits = cb; depth = depth }

  own : (i j w : ℕ) (x : Name) (b : List Step) → slice_get m.items i ≡ Some (Always b) → list_any (step_assigns x) b ≡ true → count_by (is_block_of x) m.items ≡ 1 → IsOwnBlock m.items x b
  own i j w x b e f g = record { has = has_got m.items i (Always b) e; assigns = f; alone = omega (arith, g) }

  pub some_is : (n : ℕ) → at n (codes "some") ≡ bit (not (eqb (at n (codes "count")) 0))
  some_is n = driven_is m run f 6 (codes "some") (with_number (codes "count") Differs cb 0) refl n

  has_some : (n : ℕ) → at n (codes "has") ≡ at n (codes "some")
  has_some n = driven_is m run f 7 (codes "has") (of_net (codes "some")) refl n

  pub rdy_is : (n : ℕ) → at n (codes "rdy") ≡ bit (ltb (at n (codes "count")) depth)
  rdy_is n = driven_is m run f 4 (codes "rdy") (with_number (codes "count") Less cb depth) refl n

  pub has_is : (n : ℕ) → at n (codes "has") ≡ bit (cond (eqb (at n (codes "count")) 0) false true)
  has_is n = has_some n ∙ some_is n ∙ not_is (eqb (at n (codes "count")) 0)

  dout_is : (n : ℕ) → at n (codes "dout") ≡ cond (ltb (at n (codes "head")) places) ((run n).cell (codes "tokens") (at n (codes "head"))) 0
  dout_is n =
      driven_is m run f 8 (codes "dout") (Cell (codes "tokens") (codes "head")) refl n
      ∙ ap (λ k. cond (ltb (at n (codes "head")) k) ((run n).cell (codes "tokens") (at n (codes "head"))) 0) (memory_cells m run f 3 width (codes "tokens") places refl)

  pop_is : (n : ℕ) → at n (codes "pop") ≡ bit_and (at n (codes "take")) (at n (codes "some"))
  pop_is n = driven_is m run f 10 (codes "pop") (two (codes "take") And (codes "some")) refl n

  module _ (take_small : (n : ℕ) → 0 < n → at n (codes "take") < 2) (put_small : (n : ℕ) → 0 < n → at n (codes "put") < 2) where
    some_small : (n : ℕ) → at n (codes "some") < 2
    some_small n = let e = some_is n in let s = small_bit (not (eqb (at n (codes "count")) 0)) in omega (arith, e, s)

    popped : (n : ℕ) → 0 < n → eqb (at n (codes "pop")) 1 ≡ (eqb (at n (codes "take")) 1 && eqb (at n (codes "has")) 1)
    popped n l =
        ap (λ x. eqb x 1) (pop_is n) ∙ both_bits (at n (codes "take")) (at n (codes "some")) (take_small n l) (some_small n)
        ∙ ap (λ x. eqb (at n (codes "take")) 1 && eqb x 1) (sym (has_some n))

    pop_small : (n : ℕ) → 0 < n → at n (codes "pop") < 2
    pop_small n l =
        let e : at n (codes "pop") ≡ bit (eqb (at n (codes "take")) 1 && eqb (at n (codes "some")) 1) = pop_is n ∙ (bits (at n (codes "take")) (at n (codes "some")) (take_small n l) (some_small n)).both_are in
        let s = small_bit (eqb (at n (codes "take")) 1 && eqb (at n (codes "some")) 1) in
        omega (arith, e, s)

    next_is : (i j k : ℕ) (place up last next : Name) → slice_get m.items i ≡ Some (Wire pb up) → slice_get m.items (i + 1) ≡ Some (Assign up (with_number place Plus pb 1))
        → slice_get m.items (i + 3) ≡ Some (Assign last (with_number place Equals pb (places - 1))) → slice_get m.items (i + 5) ≡ Some (Assign next (Choose (Net last) (Literal pb 0) (Net up)))
        → (n : ℕ) → at n next ≡ next_place sizes (at n place)
    next_is i j k place up last next e1 e2 e3 e4 n =
        let choice = driven_is m run f (i + 5) next (Choose (Net last) (Literal pb 0) (Net up)) e4 n in
        let test : eqb (at n last) 1 ≡ eqb (at n place) (places - 1) = ap (λ x. eqb x 1) (driven_is m run f (i + 3) last (with_number place Equals pb (places - 1)) e3 n) ∙ bit_is (eqb (at n place) (places - 1)) in
        let sum : at n up ≡ (at n place + 1) % 2 ^ pb = driven_is m run f (i + 1) up (with_number place Plus pb 1) e2 n ∙ ap (λ w. (at n place + 1) % 2 ^ w) (wire_width m run f i pb up e1) in
        choice ∙ ap (λ t. cond t 0 (at n up)) test ∙ ap (λ x. cond (eqb (at n place) (places - 1)) 0 x) sum

    head_goes : (n : ℕ) → at (suc n) (codes "head") ≡ cond (eqb (at n rst) 1) 0 (cond (eqb (at n (codes "take")) 1 && eqb (at n (codes "has")) 1) (next_place sizes (at n (codes "head"))) (at n (codes "head")))
    head_goes n =
        reset_set_is m run f pb (codes "head") (Literal pb 0) (codes "pop") (Net (codes "head_next")) (inl refl) (own 31 0 0 (codes "head") (reset_or_set (codes "head") (Literal pb 0) (codes "pop") (Net (codes "head_next"))) refl refl refl) n
        ∙ in_reset (eqb (at n rst) 1) _ _ (λ off.
        ap (λ t. cond t (at n (codes "head_next")) (at n (codes "head"))) (popped n (live (λ k. at k rst) reset n off))
        ∙ ap (λ x. cond (eqb (at n (codes "take")) 1 && eqb (at n (codes "has")) 1) x (at n (codes "head"))) (next_is 11 0 0 (codes "head") (codes "head_up") (codes "head_last") (codes "head_next") refl refl refl refl n))

    tail_goes : (n : ℕ) → at (suc n) (codes "tail") ≡ cond (eqb (at n rst) 1) 0 (cond (eqb (at n (codes "put")) 1) (next_place sizes (at n (codes "tail"))) (at n (codes "tail")))
    tail_goes n =
        reset_set_is m run f pb (codes "tail") (Literal pb 0) (codes "put") (Net (codes "tail_next")) (inr (inl refl)) (own 32 0 0 (codes "tail") (reset_or_set (codes "tail") (Literal pb 0) (codes "put") (Net (codes "tail_next"))) refl refl refl) n
        ∙ ap (λ x. cond (eqb (at n rst) 1) 0 (cond (eqb (at n (codes "put")) 1) x (at n (codes "tail")))) (next_is 17 0 0 (codes "tail") (codes "tail_up") (codes "tail_last") (codes "tail_next") refl refl refl refl n)

    count_goes : (n : ℕ) → at (suc n) (codes "count") ≡ cond (eqb (at n rst) 1) 0 (next_count sizes (eqb (at n (codes "put")) 1) (eqb (at n (codes "take")) 1 && eqb (at n (codes "has")) 1) (at n (codes "count")))
    count_goes n =
        let moves = driven_is m run f 24 (codes "moves") (two (codes "put") Xor (codes "pop")) refl n in
        let more : at n (codes "more") ≡ (at n (codes "count") + 1) % 2 ^ cb =
        driven_is m run f 26 (codes "more") (with_number (codes "count") Plus cb 1) refl n ∙ ap (λ w. (at n (codes "count") + 1) % 2 ^ w) (wire_width m run f 25 cb (codes "more") refl) in
        let fewer : at n (codes "fewer") ≡ (at n (codes "count") + 2 ^ cb - 1) % 2 ^ cb =
        driven_is m run f 28 (codes "fewer") (with_number (codes "count") Minus cb 1) refl n ∙ ap (λ w. (at n (codes "count") + 2 ^ w - 1) % 2 ^ w) (wire_width m run f 27 cb (codes "fewer") refl) in
        let next = driven_is m run f 30 (codes "count_next") (Choose (Net (codes "put")) (Net (codes "more")) (Net (codes "fewer"))) refl n in
        reset_set_is m run f cb (codes "count") (Literal cb 0) (codes "moves") (Net (codes "count_next")) (inr (inr (inl refl))) (own 33 0 0 (codes "count") (reset_or_set (codes "count") (Literal cb 0) (codes "moves") (Net (codes "count_next"))) refl refl refl) n
        ∙ in_reset (eqb (at n rst) 1) _ _ (λ off.
        ap (λ x. cond (eqb x 1) (at n (codes "count_next")) (at n (codes "count"))) moves
        ∙ ap (λ x. cond (eqb (bit_xor (at n (codes "put")) (at n (codes "pop"))) 1) x (at n (codes "count"))) next
        ∙ counted (at n (codes "put")) (at n (codes "pop")) (at n (codes "more")) (at n (codes "fewer")) (at n (codes "count")) (put_small n (live (λ k. at k rst) reset n off)) (pop_small n (live (λ k. at k rst) reset n off))
        ∙ ap (λ t. cond (t && not (eqb (at n (codes "put")) 1)) (at n (codes "fewer")) (cond (eqb (at n (codes "put")) 1 && not t) (at n (codes "more")) (at n (codes "count")))) (popped n (live (λ k. at k rst) reset n off))
        ∙ ap (λ x. cond ((eqb (at n (codes "take")) 1 && eqb (at n (codes "has")) 1) && not (eqb (at n (codes "put")) 1)) x (cond (eqb (at n (codes "put")) 1 && not (eqb (at n (codes "take")) 1 && eqb (at n (codes "has")) 1)) (at n (codes "more")) (at n (codes "count")))) fewer
        ∙ ap (λ x. cond ((eqb (at n (codes "take")) 1 && eqb (at n (codes "has")) 1) && not (eqb (at n (codes "put")) 1)) ((at n (codes "count") + 2 ^ cb - 1) % 2 ^ cb) (cond (eqb (at n (codes "put")) 1 && not (eqb (at n (codes "take")) 1 && eqb (at n (codes "has")) 1)) x (at n (codes "count")))) more)

    cells_go : (n a : ℕ) → a < places → (run (suc n)).cell (codes "tokens") a ≡ cond (eqb (at n (codes "put")) 1 && eqb a (at n (codes "tail"))) (at n (codes "din")) ((run n).cell (codes "tokens") a)
    cells_go n a h =
        stored_is m run f width (codes "tokens") places (codes "put") (codes "tail") (Net (codes "din")) (inr (inr (inr (inl refl)))) (own 34 0 0 (codes "tokens") (stored (codes "tokens") (codes "put") (codes "tail") (Net (codes "din"))) refl refl refl) n a h
        ∙ ap (λ t. cond t (at n (codes "din")) ((run n).cell (codes "tokens") a)) (together (eqb (at n (codes "put")) 1) (eqb a (at n (codes "tail"))) (ltb (at n (codes "tail")) (f.sizes.cells (codes "tokens"))))
        ∙ ap (λ k. cond (eqb (at n (codes "put")) 1 && (eqb a (at n (codes "tail")) && ltb (at n (codes "tail")) k)) (at n (codes "din")) ((run n).cell (codes "tokens") a)) (memory_cells m run f 3 width (codes "tokens") places refl)
        ∙ ap (λ t. cond (eqb (at n (codes "put")) 1 && t) (at n (codes "din")) ((run n).cell (codes "tokens") a)) (stores places a (at n (codes "tail")) h)

    pub is_fifo : IsFifo sizes (λ n. at n rst) (fifo_ports (λ n. run n))
    is_fifo = record {
      head = λ n. at n (codes "head");
      tail = λ n. at n (codes "tail");
      count = λ n. at n (codes "count");
      cells = λ n a. (run n).cell (codes "tokens") a;
      rdy_is = rdy_is;
      has_is = has_is;
      dout_is = dout_is;
      head_goes = head_goes;
      tail_goes = tail_goes;
      count_goes = count_goes;
      cells_go = cells_go;
    }
