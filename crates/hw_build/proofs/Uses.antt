-- Names that are used rightly beside what is declared so far are used rightly beside all that is declared.
use Rattle.std.proofs.Common.{◌≡◌, Bool, true, false, cond, ◌&&◌, ◌||◌, List, [], ◌∷◌, ◌++◌, None, Some, inl, inr, refl, ap, subst, ◌∙◌}
use Rattle.std.specs.Prelude.{not}
use Rattle.std.specs.List.{list_all, flat_map}
use Rattle.vlog_tree.specs.declared.tree.Atom.{Atom}
use Rattle.vlog_tree.specs.declared.tree.Atom.TheVariants.{Net, Part, Literal}
use Rattle.vlog_tree.specs.declared.tree.Value.{Value}
use Rattle.vlog_tree.specs.declared.tree.Value.TheVariants.{Plain, Invert, Binary, Choose, Concat, Repeat, Cell}
use Rattle.vlog_tree.specs.declared.tree.Step.{Step}
use Rattle.vlog_tree.specs.declared.tree.Step.TheVariants.{If, Else, End, NonblockingAssign, MemoryAssign}
use Rattle.vlog_tree.specs.declared.tree.Connection.{Connection}
use Rattle.vlog_tree.specs.declared.table.Declaration.{Declaration}
use Rattle.vlog_tree.specs.declared.table.NetKind.{NetKind}
use Rattle.vlog_tree.specs.declared.table.NetKind.TheVariants.{Unknown, Input as InputNet, Output as OutputNet, WireNet, Register as RegisterNet, MemoryArray, ChildInstance}
use Rattle.tapa_base.specs.Lists.{Has}
use Rattle.vlog_tree.specs.Table.{Name, NameUse, clk, is_clk, find_name, net_kind_of, net_kind_is_read, net_kind_is_driven, net_kind_is_register, net_kind_is_memory, net_kind_is_input, first_violation}
use Rattle.vlog_tree.specs.V2.{read_use, driven_use, register_use, memory_use, clock_use, atom_uses, value_uses, step_uses, connection_uses}
use Rattle.vlog_module_laws.proofs.Lists.{flat_same}
use Rattle.hw_build.specs.Fitting.{are_kept}
use Rattle.hw_build.proofs.Tables.{is_known}
use Rattle.tapa_base.proofs.Tests.{both_true}
use Rattle.hw_build.proofs.Forms.{all_append as both_together}

-- what holds of each of two lists, and of each part of a flattened one
pub all_of_both : {A : Type 0} (p : A → Bool) (xs ys : List A) → list_all p (xs ++ ys) ≡ true → (list_all p xs ≡ true) × (list_all p ys ≡ true)
all_of_both p [] ys h = (refl, h)
all_of_both p (x ∷ xs) ys h =
    let t = both_true (p x) (list_all p (xs ++ ys)) h in
    let r = all_of_both p xs ys t.1 in
    (ap (λ b. b && list_all p xs) t.0 ∙ r.0, r.1)

pub all_of_flat : {A B : Type 0} (p : B → Bool) (f : A → List B) (xs : List A) → list_all p (flat_map f xs) ≡ true → (x : A) → Has xs x → list_all p (f x) ≡ true
all_of_flat p f [] h x k = absurd k
all_of_flat p f (z ∷ zs) h x (inl e) = subst (λ y. list_all p (f y) ≡ true) e (all_of_both p (f z) (flat_map f zs) h).0
all_of_flat p f (z ∷ zs) h x (inr k) = all_of_flat p f zs (all_of_both p (f z) (flat_map f zs) h).1 x k

pub flat_together : {A B : Type 0} (p : B → Bool) (f : A → List B) (xs : List A) → ((x : A) → Has xs x → list_all p (f x) ≡ true) → list_all p (flat_map f xs) ≡ true
flat_together p f [] h = refl
flat_together p f (z ∷ zs) h = both_together p (f z) (flat_map f zs) (h z (inl refl)) (flat_together p f zs (λ x k. h x (inr k)))

pub all_has : {A : Type 0} (p : A → Bool) (xs : List A) → list_all p xs ≡ true → (x : A) → Has xs x → p x ≡ true
all_has p [] h x k = absurd k
all_has p (z ∷ zs) h x (inl e) = subst (λ y. p y ≡ true) e (both_true (p z) (list_all p zs) h).0
all_has p (z ∷ zs) h x (inr k) = all_has p zs (both_true (p z) (list_all p zs) h).1 x k

-- where all uses are kept, none is told
pub kept_is_none : (us : List NameUse) → are_kept us ≡ true → first_violation us ≡ None
kept_is_none [] h = refl
kept_is_none (u ∷ us) h =
    let t = both_true (not u.1) (are_kept us) h in
    here u.1 t.0 ∙ kept_is_none us t.1 where
      here : (b : Bool) → not b ≡ true → cond b (Some u.0) (first_violation us) ≡ first_violation us
      here true e = cc
      here false e = refl

pub read_known : (k : NetKind) → net_kind_is_read k ≡ true → is_known k ≡ true
read_known Unknown h = cc
read_known InputNet h = refl
read_known OutputNet h = refl
read_known WireNet h = refl
read_known RegisterNet h = refl
read_known MemoryArray h = cc
read_known ChildInstance h = cc

pub driven_known : (k : NetKind) → net_kind_is_driven k ≡ true → is_known k ≡ true
driven_known Unknown h = cc
driven_known InputNet h = refl
driven_known OutputNet h = refl
driven_known WireNet h = refl
driven_known RegisterNet h = cc
driven_known MemoryArray h = cc
driven_known ChildInstance h = cc

pub register_known : (k : NetKind) → net_kind_is_register k ≡ true → is_known k ≡ true
register_known Unknown h = cc
register_known InputNet h = cc
register_known OutputNet h = cc
register_known WireNet h = cc
register_known RegisterNet h = refl
register_known MemoryArray h = cc
register_known ChildInstance h = cc

pub memory_known : (k : NetKind) → net_kind_is_memory k ≡ true → is_known k ≡ true
memory_known Unknown h = cc
memory_known InputNet h = cc
memory_known OutputNet h = cc
memory_known WireNet h = cc
memory_known RegisterNet h = cc
memory_known MemoryArray h = refl
memory_known ChildInstance h = cc

pub input_known : (k : NetKind) → net_kind_is_input k ≡ true → is_known k ≡ true
input_known Unknown h = cc
input_known InputNet h = refl
input_known OutputNet h = cc
input_known WireNet h = cc
input_known RegisterNet h = cc
input_known MemoryArray h = cc
input_known ChildInstance h = cc

pub not_not : (b : Bool) → not (not b) ≡ true → b ≡ true
not_not true h = refl
not_not false h = cc

pub and_true : (a : Bool) → (a && true) ≡ true → a ≡ true
and_true true h = refl
and_true false h = h

module _ (t all : List Declaration) (same : (x : Name) → is_known (net_kind_of t x) ≡ true → find_name all x ≡ find_name t x) where
  pub read_is : (x : Name) → not (not (net_kind_is_read (net_kind_of t x)) || is_clk x) ≡ true → net_kind_is_read (net_kind_of t x) ≡ true
  read_is x h = read_of (net_kind_is_read (net_kind_of t x)) (is_clk x) h where
    read_of : (a b : Bool) → not (not a || b) ≡ true → a ≡ true
    read_of true b h = refl
    read_of false b h = cc

  pub read_found : (x : Name) → not (not (net_kind_is_read (net_kind_of t x)) || is_clk x) ≡ true → find_name all x ≡ find_name t x
  read_found x h = same x (read_known (net_kind_of t x) (read_is x h))

  read_same : (x : Name) → not (not (net_kind_is_read (net_kind_of t x)) || is_clk x) ≡ true → read_use all x ≡ read_use t x
  read_same x h = ap (λ (d : Declaration). (x, not (net_kind_is_read d.net_kind) || is_clk x)) (read_found x h)

  driven_same : (x : Name) → not (not (net_kind_is_driven (net_kind_of t x)) || is_clk x) ≡ true → driven_use all x ≡ driven_use t x
  driven_same x h = ap (λ (d : Declaration). (x, not (net_kind_is_driven d.net_kind) || is_clk x)) (same x (driven_known (net_kind_of t x) (driven_of (net_kind_is_driven (net_kind_of t x)) (is_clk x) h))) where
    driven_of : (a b : Bool) → not (not a || b) ≡ true → a ≡ true
    driven_of true b h = refl
    driven_of false b h = cc

  pub register_found : (x : Name) → not (not (net_kind_is_register (net_kind_of t x))) ≡ true → find_name all x ≡ find_name t x
  register_found x h = same x (register_known (net_kind_of t x) (not_not (net_kind_is_register (net_kind_of t x)) h))

  pub memory_found : (x : Name) → not (not (net_kind_is_memory (net_kind_of t x))) ≡ true → find_name all x ≡ find_name t x
  memory_found x h = same x (memory_known (net_kind_of t x) (not_not (net_kind_is_memory (net_kind_of t x)) h))

  memory_same : (x : Name) → not (not (net_kind_is_memory (net_kind_of t x))) ≡ true → memory_use all x ≡ memory_use t x
  memory_same x h = ap (λ (d : Declaration). (x, not (net_kind_is_memory d.net_kind))) (memory_found x h)

  register_same : (x : Name) → not (not (net_kind_is_register (net_kind_of t x))) ≡ true → register_use all x ≡ register_use t x
  register_same x h = ap (λ (d : Declaration). (x, not (net_kind_is_register d.net_kind))) (register_found x h)

  clock_same : not (not (net_kind_is_input (net_kind_of t clk))) ≡ true → clock_use all ≡ clock_use t
  clock_same h = ap (λ (d : Declaration). (clk, not (net_kind_is_input d.net_kind))) (same clk (input_known (net_kind_of t clk) (not_not (net_kind_is_input (net_kind_of t clk)) h)))

  pub atom_same : (a : Atom) → are_kept (atom_uses t a) ≡ true → atom_uses all a ≡ atom_uses t a
  atom_same (Net x) h = ap (λ u. u ∷ []) (read_same x (and_true _ h))
  atom_same (Part x high low) h = ap (λ u. u ∷ []) (read_same x (and_true _ h))
  atom_same (Literal w n) h = refl

  pub value_same : (v : Value) → are_kept (value_uses t v) ≡ true → value_uses all v ≡ value_uses t v
  value_same (Plain a) h = atom_same a h
  value_same (Invert a) h = atom_same a h
  value_same (Binary a op b) h =
      let k = all_of_both (λ (u : NameUse). not u.1) (atom_uses t a) (atom_uses t b) h in
      ap (λ l. l ++ atom_uses all b) (atom_same a k.0) ∙ ap (λ l. atom_uses t a ++ l) (atom_same b k.1)
  value_same (Choose c a b) h =
      let k = all_of_both (λ (u : NameUse). not u.1) (atom_uses t c) (atom_uses t a ++ atom_uses t b) h in
      let l = all_of_both (λ (u : NameUse). not u.1) (atom_uses t a) (atom_uses t b) k.1 in
      ap (λ z. z ++ (atom_uses all a ++ atom_uses all b)) (atom_same c k.0)
      ∙ ap (λ z. atom_uses t c ++ (z ++ atom_uses all b)) (atom_same a l.0) ∙ ap (λ z. atom_uses t c ++ (atom_uses t a ++ z)) (atom_same b l.1)
  value_same (Concat atoms) h = flat_same (atom_uses all) (atom_uses t) atoms (λ a k. atom_same a (all_of_flat (λ (u : NameUse). not u.1) (atom_uses t) atoms h a k))
  value_same (Repeat n a) h = atom_same a h
  value_same (Cell m x) h =
      let k = both_true (not (memory_use t m).1) _ h in
      ap (λ u. u ∷ read_use all x ∷ []) (memory_same m k.0) ∙ ap (λ u. memory_use t m ∷ u ∷ []) (read_same x (and_true _ k.1))

  step_same : (s : Step) → are_kept (step_uses t s) ≡ true → step_uses all s ≡ step_uses t s
  step_same (If c) h = ap (λ u. u ∷ []) (read_same c (and_true _ h))
  step_same Else h = refl
  step_same End h = refl
  step_same (NonblockingAssign x a) h =
      let k = both_true (not (register_use t x).1) _ h in
      ap (λ u. u ∷ atom_uses all a) (register_same x k.0) ∙ ap (λ l. register_use t x ∷ l) (atom_same a k.1)
  step_same (MemoryAssign m x a) h =
      let k = both_true (not (memory_use t m).1) _ h in
      let l = both_true (not (read_use t x).1) _ k.1 in
      ap (λ u. u ∷ read_use all x ∷ atom_uses all a) (memory_same m k.0)
      ∙ ap (λ u. memory_use t m ∷ u ∷ atom_uses all a) (read_same x l.0) ∙ ap (λ z. memory_use t m ∷ read_use t x ∷ z) (atom_same a l.1)

  pub steps_same : (b : List Step) → are_kept (flat_map (step_uses t) b) ≡ true → flat_map (step_uses all) b ≡ flat_map (step_uses t) b
  steps_same b h = flat_same (step_uses all) (step_uses t) b (λ s k. step_same s (all_of_flat (λ (u : NameUse). not u.1) (step_uses t) b h s k))

  chosen : (l : Connection) (to_clock to_input : Bool)
      → not (cond to_clock (clock_use t) (cond to_input (read_use t l.net) (driven_use t l.net))).1 ≡ true
      → cond to_clock (clock_use all) (cond to_input (read_use all l.net) (driven_use all l.net)) ≡ cond to_clock (clock_use t) (cond to_input (read_use t l.net) (driven_use t l.net))
  chosen l true b h = clock_same h
  chosen l false true h = read_same l.net h
  chosen l false false h = driven_same l.net h

  connection_same : (ports : List Declaration) (l : Connection) → are_kept (connection_uses ports t l) ≡ true → connection_uses ports all l ≡ connection_uses ports t l
  unfolding connection_uses
  connection_same ports l h =
      let k = both_true (not (not (net_kind_is_read (net_kind_of ports l.port)))) _ h in
      ap (λ u. (l.port, not (net_kind_is_read (net_kind_of ports l.port))) ∷ u ∷ []) (chosen l (is_clk l.port && is_clk l.net) (net_kind_is_input (net_kind_of ports l.port)) (and_true _ k.1))

  pub connections_same : (ports : List Declaration) (ls : List Connection) → are_kept (flat_map (connection_uses ports t) ls) ≡ true → flat_map (connection_uses ports all) ls ≡ flat_map (connection_uses ports t) ls
  connections_same ports ls h =
      flat_same (connection_uses ports all) (connection_uses ports t) ls (λ l k. connection_same ports l (all_of_flat (λ (u : NameUse). not u.1) (connection_uses ports t) ls h l k))
