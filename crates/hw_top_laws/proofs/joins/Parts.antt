-- Standing part by part.
use Rattle.std.proofs.Common.{ℕ, zero, suc, List, [], ◌∷◌, ◌++◌, inl, inr, sym, subst, arith, append_assoc}
use Rattle.std.specs.List.{flat_map, AllByRecursion}
use Rattle.std.proofs.lemmas.List.{append-nil}
use Rattle.vlog_tree.specs.declared.tree.Connection.{Connection}
use Rattle.vlog_tree.specs.declared.tree.PortDecl.{PortDecl}
use Rattle.vlog_tree.specs.Form.{ModuleTree}
use Rattle.tapa_base.specs.Lists.{Has}
use Rattle.vlog_tree.specs.Table.{Name}
use Rattle.tapa_base.proofs.Lists.{has_left, has_flat, of_flat}
use Rattle.hw_build.specs.Elements.{Element, Outlet, InstanceWire, Instance}
use Rattle.hw_build.specs.Scope.{each, readable, IsNet, FitsAfter}
use Rattle.hw_build.specs.Fits.{IsAmong}
use Rattle.hw_build.proofs.Parts.{fits_more, more_behind}
use Rattle.hw_top_laws.specs.joins.Joins.{open_nets, IsJoin, ToClock, ToInput, FromOutput, StandsAfter, StandInOrder, AloneStands, StandsBehindMore, PartsStand, EachPartStands}

alone_after : (ms : List ModuleTree) (before : List Element) (e : Element) → FitsAfter before e → StandsAfter ms before e
alone_after ms before (Outlet w x) h = absurd h
alone_after ms before (InstanceWire w x) h = absurd h
alone_after ms before (Instance k i ls) h = absurd h
alone_after ms before _ h = h

pub alone_stands : AloneStands
alone_stands ms before [] h = tt
alone_stands ms before (e ∷ elements) h = (alone_after ms before e h.0, alone_stands ms (before ++ e ∷ []) elements h.1)

module _ (ms : List ModuleTree) (some all : List Element) (among : IsAmong some all) where
  more_of : {A : Type 0} (f : Element → List A) (y : A) → Has (flat_map f some) y → Has (flat_map f all) y
  more_of f y h = let r = of_flat f some y h in has_flat f all r.0 y (among r.0 r.1) r.2

  net_more : (x : Name) (w : ℕ) → IsNet some x w → IsNet all x w
  net_more x w (inl e) = inl e
  net_more x w (inr h) = inr (more_of readable (x, w) h)

  join_more : (ports : List PortDecl) (l : Connection) → IsJoin some ports l → IsJoin all ports l
  join_more ports l (ToClock e f h) = ToClock e f h
  join_more ports l (ToInput w h n) = ToInput w h (net_more l.net w n)
  join_more ports l (FromOutput w h o) = FromOutput w h (more_of open_nets (l.net, w) o)

  joins_more : (ports : List PortDecl) (ls : List Connection) → AllByRecursion (IsJoin some ports) ls → AllByRecursion (IsJoin all ports) ls
  joins_more ports [] h = tt
  joins_more ports (l ∷ ls) h = (join_more ports l h.0, joins_more ports ls h.1)

  pub after_more : (e : Element) → StandsAfter ms some e → StandsAfter ms all e
  after_more (Outlet w x) h = h
  after_more (InstanceWire w x) h = h
  after_more (Instance k i ls) h = record { child = h.child; named = h.named; same = h.same; joins = joins_more h.child.ports ls h.joins }
  after_more e h = fits_more some all among e h

pub stands_more : StandsBehindMore
stands_more ms some all among [] h = tt
stands_more ms some all among (e ∷ elements) h =
    (after_more ms some all among e h.0, stands_more ms (some ++ e ∷ []) (all ++ e ∷ []) (more_behind some all among e) elements h.1)

pub parts_stand : PartsStand
parts_stand ms before [] ys h k = subst (λ (l : List Element). StandInOrder ms l ys) (append-nil before) k
parts_stand ms before (e ∷ xs) ys h k =
    (h.0, parts_stand ms (before ++ e ∷ []) xs ys h.1 (subst (λ (l : List Element). StandInOrder ms l ys) (sym (append_assoc before (e ∷ []) xs)) k))

pub each_part_stands : EachPartStands
each_part_stands ms before f zero h = tt
each_part_stands ms before f (suc n) h =
    parts_stand ms before (each f n) (f n) (each_part_stands ms before f n (λ k l. h k (omega arith)))
    (stands_more ms before (before ++ each f n) (λ c l. has_left before (each f n) c l) (f n) (h n (omega arith)))
