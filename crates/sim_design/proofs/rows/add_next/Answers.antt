use Rattle.std.proofs.Common.{◌≡◌, ℕ, ◌+◌, ◌<◌, List, Option, length, refl, sym, subst, ◌∙◌, arith}
use Rattle.std.proofs.lemmas.Bool.{OnTrue_at, both_ways}
use Rattle.vlog_tree.specs.Form.{ModuleTree}
use Rattle.sim_tape.specs.declared.gates.Pair.{Pair}
use Rattle.sim_tape.specs.Tape.{TapeTree}
use Rattle.sim_tape.specs.Trees.{tree_of}
use Rattle.sim_tape.proofs.Growing.{extends_refl, extends_twice}
use Rattle.sim_gates.specs.Nets.{SlotsBefore}
use Rattle.sim_gates.proofs.AtomSlots.{slots_on}
use Rattle.sim_gates.specs.declared.writes.Store.{Store}
use Rattle.sim_flat.specs.declared.flat.Flat.{Flat}
use Rattle.sim_design.specs.declared.drafts.Commit.{Commit}
use Rattle.sim_design.specs.declared.drafts.Width.{Width}
use Rattle.sim_design.specs.Below.{HasPlaces, AreNextBelow}
use Rattle.sim_design.proofs.Following.{none_below, are_next}
use Rattle.sim_design.proofs.rows.add_next.Goals as goal

places_same : (ms : List ModuleTree) (top : ModuleTree) (f : Flat) (ps qs ks ls : List (Option Pair)) (ws vs : List Width) (t : TapeTree) → ps ≡ qs → ks ≡ ls → ws ≡ vs → HasPlaces ms top f ps ks ws t → HasPlaces ms top f qs ls vs t
places_same ms top f ps qs ks ls ws vs t i j k h = subst (λ z. HasPlaces ms top f z ls vs t) i (subst (λ z. HasPlaces ms top f ps z vs t) j (subst (λ z. HasPlaces ms top f ps ks z t) k h))

below_same : (ms : List ModuleTree) (top : ModuleTree) (f : Flat) (ps qs ks ls : List (Option Pair)) (t : TapeTree) (commits : List Commit) (stores : List Store) (n : ℕ) → ps ≡ qs → ks ≡ ls → AreNextBelow ms top f ps ks t commits stores n → AreNextBelow ms top f qs ls t commits stores n
below_same ms top f ps qs ks ls t commits stores n i j h = subst (λ z. AreNextBelow ms top f z ls t commits stores n) i (subst (λ z. AreNextBelow ms top f ps z t commits stores n) j h)

pub loop-instance-init : goal.loop-instance-init
loop-instance-init c =
    let d = c.args.draft.now in
    record {
      extends = extends_refl (tree_of d.tape) c.requires.tape;
      pairs = refl;
      memories = refl;
      cells = refl;
      next = λ top t places. none_below c.args.modules.now top c.args.flat.now d.pairs.items d.memories.items (tree_of d.tape) d.commits.items d.stores.items c.requires.commits c.requires.stores;
    }

pub add_row-requires : goal.add_row-requires
add_row-requires c =
    let i = c.loop-instance.invariant in
    record {
      tape = i.extends.new_tape;
      slots = subst (λ l. SlotsBefore l (length (tree_of c.loop-instance.draft.tape).gates)) (sym i.pairs) (slots_on _ _ _ i.extends c.requires.slots);
    }

pub loop-instance-preserved : goal.loop-instance-preserved
loop-instance-preserved c =
    let i = c.loop-instance.invariant in
    let e = c.in_ok-add_row.ensures in
    let d = c.args.draft.now in
    let l = c.loop-instance.draft in
    let n = c.add_row.new.draft in
    let ms = c.args.modules.now in
    let f = c.args.flat.now in
    record {
      extends = extends_twice _ _ _ i.extends e.extends;
      pairs = e.pairs ∙ i.pairs;
      memories = e.memories ∙ i.memories;
      cells = e.cells ∙ i.cells;
      next = λ top t places.
          let here = places_same ms top f d.pairs.items l.pairs.items d.memories.items l.memories.items d.cells.items l.cells.items t (sym i.pairs) (sym i.memories) (sym i.cells) places in
          let was = below_same ms top f d.pairs.items l.pairs.items d.memories.items l.memories.items (tree_of l.tape) l.commits.items l.stores.items c.loop-instance.instance (sym i.pairs) (sym i.memories) (i.next top t places) in
          let low : c.loop-instance.instance < length f.instances.items = omega arith in
          below_same ms top f l.pairs.items d.pairs.items l.memories.items d.memories.items (tree_of n.tape) n.commits.items n.stores.items (c.loop-instance.instance + 1) i.pairs i.memories (OnTrue_at c.if-not-branch.false (e.more top t here low was));
    }

pub returns-clause-next : goal.returns-clause-next
returns-clause-next c = λ top t places.
    let d = c.args.draft.now in
    let l = c.loop-instance.draft in
    let ms = c.args.modules.now in
    let f = c.args.flat.now in
    let stop : c.loop-instance.instance ≡ length f.instances.items = omega arith in
    are_next ms top f d.pairs.items d.memories.items d.cells.items t places (tree_of l.tape) l.commits.items l.stores.items
    (subst (λ n. AreNextBelow ms top f d.pairs.items d.memories.items (tree_of l.tape) l.commits.items l.stores.items n) stop (c.loop-instance.invariant.next top t places))

pub returns-then-not-branch-clause-some : goal.returns-then-not-branch-clause-some
returns-then-not-branch-clause-some c = λ top t places.
    let i = c.loop-instance.invariant in
    let d = c.args.draft.now in
    let l = c.loop-instance.draft in
    let here = places_same c.args.modules.now top c.args.flat.now d.pairs.items l.pairs.items d.memories.items l.memories.items d.cells.items l.cells.items t (sym i.pairs) (sym i.memories) (sym i.cells) places in
    let low : c.loop-instance.instance < length c.args.flat.now.instances.items = omega arith in
    absurd (both_ways c.in_ok-add_row.field-0 c.if-not-branch.true (c.in_ok-add_row.ensures.some top t here low))

pub returns-clause-some : goal.returns-clause-some
returns-clause-some c = λ top t places. refl
