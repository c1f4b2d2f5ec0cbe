use Rattle.std.proofs.Common.{◌≡◌, List, Option, Some, None, refl, sym, subst}
use Rattle.std.specs.Prelude.{IfSome, IsTrue}
use Rattle.std.specs.List.{list_all, AllByRecursion}
use Rattle.vlog_tree.specs.declared.tree.Item.{Item}
use Rattle.vlog_tree.specs.declared.table.Declaration.{Declaration}
use Rattle.vlog_tree.specs.Cycle.{run_items}
use Rattle.sim_tape.specs.declared.gates.Pair.{Pair}
use Rattle.sim_tape.specs.Tape.{TapeTree}
use Rattle.sim_tape.specs.Trees.{tree_of}
use Rattle.sim_gates.specs.Nets.{Told}
use Rattle.sim_gates.specs.declared.writes.Writes.{Writes}
use Rattle.sim_gates.specs.Parts.{has_conditions}
use Rattle.sim_gates.specs.Next.{ShowsNext, AreApart, AreKnown, SamePlaces}
use Rattle.sim_gates.specs.Ready.{IsReady}
use Rattle.sim_design.proofs.Driving.{part_is}
use Rattle.sim_design.specs.Left.{own_pairs, AreLeft}
use Rattle.sim_design.proofs.rows.blocks_at.Goals as goal

left_by : (o : Option Writes) (ds : List Declaration) (ps qs ks ls : List (Option Pair)) (items lines : List Item) (t : TapeTree) → ps ≡ qs → ks ≡ ls → items ≡ lines
    → IfSome o (λ (b : Writes). SamePlaces ps b.next.items) → IfSome o (λ (b : Writes). AreKnown ds ks b.stores.items)
    → IfSome o (λ (b : Writes). AreApart ds ks → Told ds ps t (λ s c ns. IsTrue (list_all (has_conditions ds) items) → ShowsNext ds ks b.next.items b.stores.items s c (run_items s c items c) ns))
    → IfSome o (λ (b : Writes). AreLeft ds qs ls lines t b.next.items b.stores.items)
left_by None ds ps qs ks ls items lines t i j l same known value = tt
left_by (Some b) ds ps qs ks ls items lines t i j l same known value =
    subst (λ z. AreLeft ds z ls lines t b.next.items b.stores.items) i
    (subst (λ z. AreLeft ds ps z lines t b.next.items b.stores.items) j
    (subst (λ z. AreLeft ds ps ks z t b.next.items b.stores.items) l (record { same = same; known = known; value = value })))

ready_by : (ds : List Declaration) (ps qs ks ls : List (Option Pair)) (items lines : List Item) → ps ≡ qs → ks ≡ ls → items ≡ lines → AllByRecursion (IsReady ds qs ls) lines → AllByRecursion (IsReady ds ps ks) items
ready_by ds ps qs ks ls items lines i j l h =
    subst (λ z. AllByRecursion (IsReady ds z ks) items) (sym i) (subst (λ z. AllByRecursion (IsReady ds qs z) items) (sym j) (subst (λ z. AllByRecursion (IsReady ds qs ls) z) (sym l) h))

pub blocks_of-requires-clause-nets : goal.blocks_of-requires-clause-nets
blocks_of-requires-clause-nets c = c.part_of.ensures.slots _ c.requires.slots

pub returns-clause-left : goal.returns-clause-left
returns-clause-left c = λ room rooms.
    let ds = c.args.table.now.scope in
    let base = c.args.base in
    let found = c.declarations-count.result.now in
    let own = part_is c.args.pairs.now c.part_of.result.now found ds base base c.declarations-count.ensures refl room c.part_of.ensures.value in
    let kept = part_is c.args.memories.now c.part_of-2.result.now found ds base base c.declarations-count.ensures refl rooms c.part_of-2.ensures.value in
    left_by c.in_ok-blocks.blocks ds c.part_of.result.now (own_pairs base ds c.args.pairs.now) c.part_of-2.result.now (own_pairs base ds c.args.memories.now) c.items.result.now c.args.m.now.items (tree_of c.blocks_of.new.tape) own kept c.items.ensures.value
    c.in_ok-blocks.ensures.same c.in_ok-blocks.ensures.known c.in_ok-blocks.ensures.value

pub returns-clause-some : goal.returns-clause-some
returns-clause-some c = λ room rooms ready.
    let ds = c.args.table.now.scope in
    let base = c.args.base in
    let found = c.declarations-count.result.now in
    let own = part_is c.args.pairs.now c.part_of.result.now found ds base base c.declarations-count.ensures refl room c.part_of.ensures.value in
    let kept = part_is c.args.memories.now c.part_of-2.result.now found ds base base c.declarations-count.ensures refl rooms c.part_of-2.ensures.value in
    c.in_ok-blocks.ensures.some (ready_by ds c.part_of.result.now (own_pairs base ds c.args.pairs.now) c.part_of-2.result.now (own_pairs base ds c.args.memories.now) c.items.result.now c.args.m.now.items own kept c.items.ensures.value ready)
