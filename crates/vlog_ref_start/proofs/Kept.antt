-- A later moment that has all that this one has leaves out nothing either, and has nothing else.
use Rattle.std.proofs.Common.{◌≡◌, ℕ, Bool, true, false, cond, List, [], ◌∷◌, Option, Some, inl, inr, refl, sym, ap, subst, ◌∙◌, map}
use Rattle.std.specs.Prelude.{bytes_eq, is_some}
use Rattle.vlog_tree.specs.Form.{ModuleTree}
use Rattle.vlog_tree.specs.Grounded.{AllTwo}
use Rattle.tapa_base.specs.Lists.{Has}
use Rattle.vlog_tree.specs.Cycle.{Path, module_at}
use Rattle.vlog_tree.specs.Table.{Name}
use Rattle.vlog_values.specs.declared.numbers.NetNumber.{NetNumber}
use Rattle.vlog_values.specs.declared.numbers.MemoryCells.{MemoryCells}
use Rattle.vlog_values.specs.Numbers.{first_net, first_memory}
use Rattle.vlog_values.specs.declared.moment.Held.{Held}
use Rattle.vlog_values.specs.declared.moment.OutsideMemory.{OutsideMemory}
use Rattle.vlog_values.specs.declared.moment.Moment.{Moment}
use Rattle.vlog_ref_cycle.specs.Sources.{same_path, held_at, memory_of}
use Rattle.vlog_ref_cycle.specs.Next.{net_shape, memory_shape, IsAlike, IsSameMemory, IsKept}
use Rattle.vlog_ref_cycle.proofs.Options.{cons_same}
use Rattle.vlog_ref_start.specs.Whole.{HoldsAll, IsWhole, HasNoMore}

-- two searches that ask the same of lists that fit each other
either_there : {A : Type 0} (b : Bool) (x y : A) (o p : Option A) → is_some o ≡ is_some p → is_some (cond b (Some x) o) ≡ is_some (cond b (Some y) p)
either_there true x y o p e = refl
either_there false x y o p e = e

nets_there : (ks ns : List NetNumber) → map net_shape ks ≡ map net_shape ns → (x : Name) → is_some (first_net ks x) ≡ is_some (first_net ns x)
nets_there [] [] e x = refl
nets_there [] (n ∷ ns) e x = cc
nets_there (k ∷ ks) [] e x = cc
nets_there (k ∷ ks) (n ∷ ns) e x =
    let q = cons_same (net_shape k) (net_shape n) (map net_shape ks) (map net_shape ns) e in
    let name : k.name ≡ n.name = ap (λ (p : Name × ℕ). p.0) q.0 in
    ap (λ z. is_some (cond (bytes_eq z x) (Some k) (first_net ks x))) name ∙ either_there (bytes_eq n.name x) k n (first_net ks x) (first_net ns x) (nets_there ks ns q.1 x)

memories_there : (ks ns : List MemoryCells) → map memory_shape ks ≡ map memory_shape ns → (x : Name) → is_some (first_memory ks x) ≡ is_some (first_memory ns x)
memories_there [] [] e x = refl
memories_there [] (n ∷ ns) e x = cc
memories_there (k ∷ ks) [] e x = cc
memories_there (k ∷ ks) (n ∷ ns) e x =
    let q = cons_same (memory_shape k) (memory_shape n) (map memory_shape ks) (map memory_shape ns) e in
    let name : k.name ≡ n.name = ap (λ (p : Name × ℕ). p.0) q.0 in
    ap (λ z. is_some (cond (bytes_eq z x) (Some k) (first_memory ks x))) name ∙ either_there (bytes_eq n.name x) k n (first_memory ks x) (first_memory ns x) (memories_there ks ns q.1 x)

outside_there : (os js : List OutsideMemory) → AllTwo IsSameMemory os js → (x : Name) → is_some (memory_of js x) ≡ is_some (memory_of os x)
outside_there [] [] a x = refl
outside_there [] (j ∷ js) a x = absurd a
outside_there (o ∷ os) [] a x = absurd a
outside_there (o ∷ os) (j ∷ js) a x =
    ap (λ z. is_some (cond (bytes_eq z x) (Some j) (memory_of js x))) a.0.name ∙ either_there (bytes_eq o.name x) j o (memory_of js x) (memory_of os x) (outside_there os js a.1 x)

holds_all : (m : ModuleTree) (h k : Held) → IsAlike h k → HoldsAll m h → HoldsAll m k
holds_all m h k a all = record {
  registers = λ w x has. nets_there k.nets.items h.nets.items a.nets x ∙ all.registers w x has;
  memories = λ w x n has. memories_there k.memories.items h.memories.items a.memories x ∙ all.memories w x n has;
}

-- what an instance holds has its like in the later moment
abbrev IsHeldLike : Held → Option Held → Type 0
IsHeldLike g o = (j : Held) × (o ≡ Some j) × IsAlike g j

held_step : (h k g : Held) (o p : Option Held) (b : Bool) → IsAlike h k → (o ≡ Some g → IsHeldLike g p) → cond b (Some h) o ≡ Some g → IsHeldLike g (cond b (Some k) p)
held_step h k g o p true a f e = let same : h ≡ g = cc in (k, refl, subst (λ z. IsAlike z k) same a)
held_step h k g o p false a f e = f e

held_kept : (hs ks : List Held) → AllTwo IsAlike hs ks → (path : Path) (g : Held) → held_at hs path ≡ Some g → IsHeldLike g (held_at ks path)
held_kept [] ks a path g e = cc
held_kept (h ∷ hs) [] a path g e = absurd a
held_kept (h ∷ hs) (k ∷ ks) a path g e =
    subst (λ (p : Path). IsHeldLike g (cond (same_path p path) (Some k) (held_at ks path))) (sym a.0.path)
    (held_step h k g (held_at hs path) (held_at ks path) (same_path h.path.items path) a.0 (held_kept hs ks a.1 path g) e)

-- what a list has comes from one that fits it
two_back : {A B : Type 0} (R : A → B → Type 0) (xs : List A) (ys : List B) → AllTwo R xs ys → (y : B) → Has ys y → (x : A) × Has xs x × R x y
two_back R [] [] a y h = absurd h
two_back R [] (z ∷ ys) a y h = absurd a
two_back R (x ∷ xs) [] a y h = absurd a
two_back R (x ∷ xs) (z ∷ ys) a y (inl e) = (x, inl refl, subst (λ w. R x w) e a.0)
two_back R (x ∷ xs) (z ∷ ys) a y (inr h) = let r = two_back R xs ys a.1 y h in (r.0, inr r.1, r.2)

module _ (ms : List ModuleTree) (top : ModuleTree) (now after : Moment) (kept : IsKept now after) where
  pub whole_kept : IsWhole ms top now → IsWhole ms top after
  whole_kept whole = record {
    held = λ path m at.
        let w = whole.held path m at in
        let k = held_kept now.held.items after.held.items kept.held path w.0 w.1 in
        (k.0, k.1, holds_all m w.0 k.0 k.2 w.2);
    scalars = λ l has. subst (λ vs. is_some (first_net vs l.name) ≡ true) (sym kept.scalars) (whole.scalars l has);
    outside = λ l has. outside_there now.outside.items after.outside.items kept.outside l.name ∙ whole.outside l has;
  }

  pub no_more_kept : HasNoMore ms top now → HasNoMore ms top after
  no_more_kept none = record {
    held = λ k has.
        let r = two_back IsAlike now.held.items after.held.items kept.held k has in
        ap (λ p. is_some (module_at ms top p)) r.2.path ∙ none.held r.0 r.1;
    outside = λ j has.
        let r = two_back IsSameMemory now.outside.items after.outside.items kept.outside j has in
        let l = none.outside r.0 r.1 in
        (l.0, l.1, l.2 ∙ sym r.2.name);
  }
