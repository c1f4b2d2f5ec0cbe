-- What stands around a design at first has the labels of its shape, and what the environment gives there.
use Rattle.std.proofs.Common.{◌≡◌, ℕ, suc, ◌+◌, List, [], ◌∷◌, Some, inl, inr, refl, ap, subst, arith}
use Rattle.std.specs.Prelude.{slice_get, slice_index, slice_index_or}
use Rattle.std.specs.List.{AllByRecursion}
use Rattle.tapa_base.specs.declared.shape.Port.{Port}
use Rattle.vlog_tree.specs.Environment.{Environment}
use Rattle.tapa_base.specs.Lists.{Has}
use Rattle.vlog_tree.specs.Cycle.{Cycle}
use Rattle.vlog_values.specs.declared.numbers.NetNumber.{NetNumber}
use Rattle.vlog_values.specs.declared.moment.OutsideMemory.{OutsideMemory}
use Rattle.vlog_ref_cycle.specs.Moments.{ScalarIs, OutsideIs}
use Rattle.vlog_ref_start.specs.Outside.{OutsideTree, outside_tree, labelled_from, outside_from}

-- labels from a place on
abbrev pub From : List Port → ℕ → List Port → Type 0
From labels k ls = (i : ℕ) (l : Port) → slice_get ls i ≡ Some l → slice_get labels (k + i) ≡ Some l

from_here : (labels ls : List Port) (k : ℕ) (l : Port) → From labels k (l ∷ ls) → slice_get labels k ≡ Some l
from_here labels ls k l f = let e : k + 0 ≡ k = omega arith in subst (λ z. slice_get labels z ≡ Some l) e (f 0 l refl)

from_next : (labels ls : List Port) (k : ℕ) (l : Port) → From labels k (l ∷ ls) → From labels (k + 1) ls
from_next labels ls k l f = λ i m e. let same : k + suc i ≡ k + 1 + i = omega arith in subst (λ z. slice_get labels z ≡ Some m) same (f (suc i) m e)

-- a memory around a design by the place of its label
pub record StandsThere (env : Environment) (labels : List Port) (t : OutsideTree) : Type 0 where
  pub place : ℕ
  pub label : Port
  pub got : slice_get labels place ≡ Some label
  pub name : t.name ≡ label.name
  pub cells : t.cells ≡ slice_index_or env.memories place []
  pub bits : t.ready ≡ slice_index_or env.ready place []

module _ (env : Environment) (labels : List Port) where
  pub scalars_are : (ls : List Port) (k : ℕ) → From labels k ls → AllByRecursion (ScalarIs env labels) (labelled_from k ls env.scalars)
  scalars_are [] k f = tt
  scalars_are (l ∷ ls) k f = (record { place = k; label = l; got = from_here labels ls k l f; name = refl; number = refl }, scalars_are ls (k + 1) (from_next labels ls k l f))

  pub stands_there : (ls : List Port) (k : ℕ) → From labels k ls → (t : OutsideTree) → Has (outside_from k ls env) t → StandsThere env labels t
  stands_there [] k f t h = absurd h
  stands_there (l ∷ ls) k f t (inl e) = subst (λ (q : OutsideTree). StandsThere env labels q) e (record { place = k; label = l; got = from_here labels ls k l f; name = refl; cells = refl; bits = refl })
  stands_there (l ∷ ls) k f t (inr h) = stands_there ls (k + 1) (from_next labels ls k l f) t h

  pub outside_is : (run : ℕ → Cycle) (o : OutsideMemory) → StandsThere env labels (outside_tree o) → OutsideIs env run 0 labels o
  outside_is run o s = record { place = s.place; label = s.label; got = s.got; name = s.name; cells = s.cells; bits = s.bits }

-- each label is there
pub scalar_has : (ls : List Port) (k : ℕ) (numbers : List ℕ) (l : Port) → Has ls l → (v : NetNumber) × Has (labelled_from k ls numbers) v × (v.name ≡ l.name)
scalar_has [] k numbers l h = absurd h
scalar_has (m ∷ ls) k numbers l (inl e) = (record { name = m.name; bits = m.bits; number = slice_index numbers k }, inl refl, ap (λ (z : Port). z.name) e)
scalar_has (m ∷ ls) k numbers l (inr h) = let t = scalar_has ls (k + 1) numbers l h in (t.0, inr t.1, t.2)

pub memory_has : (ls : List Port) (k : ℕ) (env : Environment) (l : Port) → Has ls l → (t : OutsideTree) × Has (outside_from k ls env) t × (t.name ≡ l.name)
memory_has [] k env l h = absurd h
memory_has (m ∷ ls) k env l (inl e) = (record { name = m.name; cells = slice_index_or env.memories k []; ready = slice_index_or env.ready k [] }, inl refl, ap (λ (z : Port). z.name) e)
memory_has (m ∷ ls) k env l (inr h) = let t = memory_has ls (k + 1) env l h in (t.0, inr t.1, t.2)
