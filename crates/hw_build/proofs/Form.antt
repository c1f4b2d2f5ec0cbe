-- Elements that fit in order, with names for what they declare, have the form of parts of a module.
use Rattle.std.proofs.Common.{◌≡◌, ℕ, true, ◌&&◌, List, [], ◌∷◌, ◌++◌, length, inl, inr, refl, sym, ap, ◌∙◌, append_assoc}
use Rattle.std.specs.Prelude.{nat_le, IsTrue}
use Rattle.std.specs.List.{list_all, AllByRecursion}
use Rattle.std.proofs.lemmas.Bool.{le-leb, and_from as yes_and}
use Rattle.vlog_tree.specs.declared.tree.Atom.{Atom}
use Rattle.vlog_tree.specs.declared.tree.Atom.TheVariants.{Net, Part, Literal}
use Rattle.vlog_tree.specs.declared.tree.BinaryOp.{BinaryOp}
use Rattle.vlog_tree.specs.declared.tree.BinaryOp.TheVariants.{Plus, Minus, Times, Divide, Remainder, And, Or, Xor, ShiftLeft, ShiftRight, Equals, Differs, Less}
use Rattle.vlog_tree.specs.declared.tree.Value.{Value}
use Rattle.vlog_tree.specs.declared.tree.Value.TheVariants.{Plain, Invert, Binary, Choose, Concat, Repeat, Cell}
use Rattle.vlog_tree.specs.declared.tree.Step.{Step}
use Rattle.vlog_tree.specs.declared.tree.Step.TheVariants.{If, Else, End, NonblockingAssign, MemoryAssign}
use Rattle.vlog_tree.specs.Form.{is_atom, is_value, is_step, nested}
use Rattle.tapa_base.specs.Lists.{Has}
use Rattle.vlog_tree.specs.Labels.{rst}
use Rattle.vlog_tree.specs.Names.{is_name, starts_name, goes_on, is_keyword, always_to_default, defparam_to_event, for_to_input, instance_to_not, notif0_to_real, realtime_to_strong0, strong1_to_unsigned, use_to_xor}
use Rattle.vlog_tree.specs.Table.{Name}
use Rattle.vlog_tree.specs.V3.{is_width}
use Rattle.hw_build.specs.Elements.{Element, Input, Output, Outlet, Wire, InstanceWire, Register, Memory, Block, Instance}
use Rattle.hw_build.specs.Forms.{is_element}
use Rattle.hw_build.proofs.Uses.{all_has, all_of_both}
use Rattle.hw_build.specs.Scope.{IsNet, AtomIs, OpIs, PartsAre, ValueIs, StepIs, first_assigned, IsBlockOf, FitsAfter, FitInOrder}
use Rattle.hw_build.specs.Fits.{declared_names, AloneHasForm}
use Rattle.hw_build.proofs.ListTables.{named, net_name, register_name, memory_name}
use Rattle.tapa_base.proofs.Tests.{both_true}
use Rattle.hw_build.proofs.Forms.{all_append as both_together}

rst_is_name : is_name rst ≡ true
unfolding rst starts_name goes_on is_keyword always_to_default defparam_to_event for_to_input instance_to_not notif0_to_real realtime_to_strong0 strong1_to_unsigned use_to_xor
rst_is_name = refl

module _ (before : List Element) (names : list_all is_name (named before) ≡ true) where
  of_net : (x : Name) (w : ℕ) → IsNet before x w → is_name x ≡ true
  of_net x w h = here (net_name before x w h) where
    here : Has (rst ∷ named before) x → is_name x ≡ true
    here (inl e) = ap is_name (sym e) ∙ rst_is_name
    here (inr k) = all_has is_name (named before) names x k

  of_atom : (w : ℕ) (a : Atom) → AtomIs before w a → is_atom a ≡ true
  of_atom w (Net x) h = of_net x w h
  of_atom w (Part x high low) h = of_net x h.0 h.1
  of_atom w (Literal v n) h = refl

  of_two : (v w : ℕ) (a b : Atom) → AtomIs before v a → AtomIs before w b → (is_atom a && is_atom b) ≡ true
  of_two v w a b h k = yes_and (is_atom a) (is_atom b) (of_atom v a h) (of_atom w b k)

  of_op : (w : ℕ) (op : BinaryOp) (a b : Atom) → OpIs before w op a b → (is_atom a && is_atom b) ≡ true
  of_op w Plus a b h = of_two w w a b h.0 h.1
  of_op w Minus a b h = of_two w w a b h.0 h.1
  of_op w Times a b h = of_two w w a b h.0 h.1
  of_op w Divide a b h = of_two w w a b h.0 h.1
  of_op w Remainder a b h = of_two w w a b h.0 h.1
  of_op w And a b h = of_two w w a b h.0 h.1
  of_op w Or a b h = of_two w w a b h.0 h.1
  of_op w Xor a b h = of_two w w a b h.0 h.1
  of_op w ShiftLeft a b h = of_two w h.1.0 a b h.0 h.1.2
  of_op w ShiftRight a b h = of_two w h.1.0 a b h.0 h.1.2
  of_op w Equals a b h = of_two h.1.0 h.1.0 a b h.1.2 h.1.3
  of_op w Differs a b h = of_two h.1.0 h.1.0 a b h.1.2 h.1.3
  of_op w Less a b h = of_two h.1.0 h.1.0 a b h.1.2 h.1.3

  of_parts : (atoms : List Atom) (w : ℕ) → PartsAre before atoms w → list_all is_atom atoms ≡ true
  of_parts [] w h = refl
  of_parts (a ∷ atoms) w h = yes_and (is_atom a) (list_all is_atom atoms) (of_atom h.0 a h.3) (of_parts atoms h.1 h.4)

  of_value : (w : ℕ) (v : Value) → ValueIs before w v → is_value v ≡ true
  of_value w (Plain a) h = of_atom w a h
  of_value w (Invert a) h = of_atom w a h
  of_value w (Binary a op b) h = of_op w op a b h
  of_value w (Choose c a b) h = yes_and (is_atom c && is_atom a) (is_atom b) (yes_and (is_atom c) (is_atom a) (of_atom 1 c h.0) (of_atom w a h.1)) (of_atom w b h.2)
  of_value w (Concat atoms) h = yes_and (nat_le 2 (length atoms)) (list_all is_atom atoms) (le-leb 2 (length atoms) h.0) (of_parts atoms w h.1)
  of_value w (Repeat n a) h = of_atom h.0 a h.2
  of_value w (Cell m x) h = yes_and (is_name m) (is_name x) (all_has is_name (named before) names m (memory_name before m w h.0)) (of_net x h.1.0 h.1.1)

  of_step : (x : Name) (s : Step) → StepIs before x s → is_step s ≡ true
  of_step x (If c) h = of_net c 1 h
  of_step x Else h = refl
  of_step x End h = refl
  of_step x (NonblockingAssign y a) h = yes_and (is_name y) (is_atom a) (all_has is_name (named before) names y (register_name before y h.1.0 h.1.1)) (of_atom h.1.0 a h.1.2)
  of_step x (MemoryAssign m i a) h =
      yes_and (is_name m && is_name i) (is_atom a) (yes_and (is_name m) (is_name i) (all_has is_name (named before) names m (memory_name before m h.1.0 h.1.1)) (of_net i h.1.2.0 h.1.2.1)) (of_atom h.1.0 a h.1.3)

  of_steps : (x : Name) (b : List Step) → AllByRecursion (StepIs before x) b → list_all is_step b ≡ true
  of_steps x [] h = refl
  of_steps x (s ∷ b) h = yes_and (is_step s) (list_all is_step b) (of_step x s h.0) (of_steps x b h.1)

  of_block : (b : List Step) (xs : List Name) → IsBlockOf before b xs → (nested [] b && list_all is_step b) ≡ true
  of_block b [] h = absurd h
  of_block b (x ∷ xs) h = yes_and (nested [] b) (list_all is_step b) h.0 (of_steps x b h.1)

  some_width : (w : ℕ) → IsTrue (is_width w) → nat_le 1 w ≡ true
  some_width w h = (both_true (nat_le 1 w) (nat_le w 128) h).0

  of_element : (e : Element) → list_all is_name (declared_names e) ≡ true → FitsAfter before e → is_element e ≡ true
  of_element (Input w x) n h = yes_and (nat_le 1 w) (is_name x) (some_width w h) (both_true (is_name x) true n).0
  of_element (Output w x v) n h = yes_and (nat_le 1 w && is_name x) (is_value v) (yes_and (nat_le 1 w) (is_name x) (some_width w h.0) (both_true (is_name x) true n).0) (of_value w v h.1)
  of_element (Outlet w x) n h = absurd h
  of_element (Wire w x v) n h = yes_and (nat_le 1 w && is_name x) (is_value v) (yes_and (nat_le 1 w) (is_name x) (some_width w h.0) (both_true (is_name x) true n).0) (of_value w v h.1)
  of_element (InstanceWire w x) n h = absurd h
  of_element (Register w x) n h = yes_and (nat_le 1 w) (is_name x) (some_width w h) (both_true (is_name x) true n).0
  of_element (Memory w x c) n h =
      yes_and (nat_le 1 w && is_name x) (nat_le 1 c) (yes_and (nat_le 1 w) (is_name x) (some_width w h.0) (both_true (is_name x) true n).0) (both_true (nat_le 1 c) (nat_le c 1048576) h.1).0
  of_element (Block b) n h = of_block b (first_assigned b) h
  of_element (Instance k i ls) n h = absurd h

flat_front : (before rest : List Element) → list_all is_name (named (before ++ rest)) ≡ true → (list_all is_name (named before) ≡ true) × (list_all is_name (named rest) ≡ true)
flat_front [] rest h = (refl, h)
flat_front (e ∷ before) rest h =
    let p = all_of_both is_name (declared_names e) (named (before ++ rest)) h in
    let r = flat_front before rest p.1 in
    (both_together is_name (declared_names e) (named before) p.0 r.0, r.1)

form_from : (before elements : List Element) → list_all is_name (named (before ++ elements)) ≡ true → FitInOrder before elements → list_all is_element elements ≡ true
form_from before [] n h = refl
form_from before (e ∷ elements) n h =
    let p = flat_front before (e ∷ elements) n in
    let q = all_of_both is_name (declared_names e) (named elements) p.1 in
    yes_and (is_element e) (list_all is_element elements) (of_element before p.0 e q.0 h.0)
    (form_from (before ++ e ∷ []) elements (ap (λ l. list_all is_name (named l)) (append_assoc before (e ∷ []) elements) ∙ n) h.1)

pub alone_has_form : AloneHasForm
alone_has_form elements h names = form_from [] elements names h.order
