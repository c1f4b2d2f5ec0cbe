use Rattle.std.proofs.Common.{◌≡◌, [], ◌∷◌, ◌++◌, sym, subst, rules}
use Rattle.sim_tape.specs.Trees.{tree_of}
use Rattle.sim_gates.specs.Nets.{IsAtom, Told}
use Rattle.sim_gates.proofs.AtomSlots.{some_is, not_missing}
use Rattle.vlog_tree.specs.declared.tree.Step.TheVariants.{MemoryAssign}
use Rattle.vlog_tree.specs.Cycle.{step_next}
use Rattle.sim_gates.specs.declared.writes.Store.{Store}
use Rattle.sim_gates.specs.Next.{CellsNext, AreKnown}
use Rattle.sim_gates.proofs.Storing.{cells_stored, known_pushed}
use Rattle.sim_gates.proofs.writes.add_store.Goals as goal

pub returns-clause-known : goal.returns-clause-known
returns-clause-known c =
    let t : Store = record { on = c.args.on; memory = c.in-Some.numbers; at = c.in-Some-pair.at; value = c.in-Some-2.pair } in
    let e : c.push.new.self.items ≡ c.args.stores.now.items ++ t ∷ [] = search rules in
    λ h. subst (λ l. AreKnown c.args.nets.now.scope.now c.args.nets.now.memories.now l) (sym e) (known_pushed c.args.nets.now.scope.now c.args.nets.now.memories.now c.args.stores.now.items t c.args.memory.now (sym c.in-Some.ensures) h)

pub returns-clause-value : goal.returns-clause-value
returns-clause-value c = λ apart cells ns s k h shows bs first now runs before.
    let ds = c.args.nets.now.scope.now in
    let memories = c.args.nets.now.memories.now in
    let t : Store = record { on = c.args.on; memory = c.in-Some.numbers; at = c.in-Some-pair.at; value = c.in-Some-2.pair } in
    let e : c.push.new.self.items ≡ c.args.stores.now.items ++ t ∷ [] = search rules in
    let atom = some_is (λ p. Told ds c.args.nets.now.pairs.now (tree_of c.pair_of_atom.new.tape) (λ s k ns. IsAtom ds c.args.value.now s k ns p)) c.in_ok-pair.field-0 c.in-Some-2.pair c.in-Some-2.is c.in_ok-pair.ensures.says cells ns s k h shows in
    subst (λ l. CellsNext ds memories l s first (step_next s k bs (MemoryAssign c.args.memory.now c.args.index.now c.args.value.now) now) ns) (sym e)
    (cells_stored ds memories apart s k first now ns c.args.memory.now c.args.index.now c.args.value.now bs c.args.stores.now.items t (sym c.in-Some.ensures) (shows.value c.args.index.now c.in-Some-pair.at (sym c.in-Some-pair.ensures)) atom.value runs before)

pub returns-in_default-clause-some : goal.returns-in_default-clause-some
returns-in_default-clause-some c = λ ready. absurd (not_missing _ c.in_default.ensures ready.0)
