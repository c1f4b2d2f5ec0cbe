-- A design whose nets have their places, on a tape that grows.
use Rattle.std.proofs.Common.{◌≡◌, ℕ, List, Option, length, inl, inr, sym, ap, subst, ◌∙◌}
use Rattle.std.specs.Prelude.{is_some}
use Rattle.vlog_tree.specs.Form.{ModuleTree}
use Rattle.vlog_tree.specs.Environment.{shape_of}
use Rattle.vlog_tree.specs.Table.{declared, bits_of}
use Rattle.vlog_run_laws.proofs.runs.Sizes.{memory_item}
use Rattle.sim_tape.specs.declared.gates.Pair.{Pair}
use Rattle.sim_tape.specs.Tape.{TapeTree, Extends}
use Rattle.sim_tape.specs.Trees.{tree_of}
use Rattle.sim_tape.proofs.Growing.{solved_on}
use Rattle.sim_flat.specs.declared.flat.Flat.{Flat}
use Rattle.sim_flat.specs.Flat.{IsFlat}
use Rattle.sim_design.specs.declared.plan.Plan.{Plan}
use Rattle.sim_design.specs.Plans.{IsPlan}
use Rattle.sim_design.specs.States.{AreMemories as OnlyMemories, MemoriesPlaced, TellsNumbers}
use Rattle.sim_design.specs.Given.{IsGivenPair, ArePlaced, AreGiven}
use Rattle.sim_design.proofs.Giving.{slot_given_on}
use Rattle.sim_design.specs.declared.drafts.Width.{Width}
use Rattle.sim_design.specs.declared.drafts.TapeDraft.{TapeDraft}
use Rattle.sim_design.specs.Drafts.{AreMemories, AreNext, IsDraft}
use Rattle.sim_design.specs.Below.{HasPlaces}

pair_given_on : (s t : TapeTree) → Extends s t → (bits : ℕ) (p : Pair) → IsGivenPair s bits p → IsGivenPair t bits p
pair_given_on s t g bits p h = (slot_given_on s t g p.low h.0, elim h.1 [ inl e ↦ inl e | inr e ↦ inr (e.0, slot_given_on s t g p.high e.1, e.2) ])

-- given slots stay so
pub given_on : (ms : List ModuleTree) (top : ModuleTree) (f : Flat) (pairs : List (Option Pair)) (s t : TapeTree) → Extends s t → AreGiven ms top f pairs s → AreGiven ms top f pairs t
given_on ms top f pairs s t g h = record {
  given = λ number n m p has at free got. pair_given_on s t g (bits_of (declared m) n.1) p (h.given number n m p has at free got);
  own = h.own;
}

-- what a tape tells is told by all that it grows to
pub tells_on : (ms : List ModuleTree) (top : ModuleTree) (f : Flat) (pairs memories : List (Option Pair)) (s t : TapeTree) → Extends s t → TellsNumbers ms top f pairs memories s → TellsNumbers ms top f pairs memories t
tells_on ms top f pairs memories s t g h cells ns c solved v shows free = h cells ns c (solved_on s t g cells ns solved) v shows free

-- all memories have numbers
pub memories_placed : (ms : List ModuleTree) (top : ModuleTree) (f : Flat) (memories : List (Option Pair)) (widths : List Width) → AreMemories ms top f memories widths → MemoriesPlaced ms top f memories
memories_placed ms top f memories widths h number n m has at is =
    let i = memory_item m n.1 is in
    ap is_some (h.all number n m i.0 i.1 has at i.2).2

-- what a design is placed by
pub is_plan : (ms : List ModuleTree) (top : ModuleTree) (p : Plan) (numbers : List (Option Pair)) (widths : List Width) → IsFlat ms top p.flat.now → p.modules.now ≡ ms → p.outside.now ≡ (shape_of top).memories → p.memories.now ≡ numbers
    → AreMemories ms top p.flat.now numbers widths → IsPlan ms top p
is_plan ms top p numbers widths flat modules outside same own = record {
  flat = flat;
  modules = modules;
  outside = outside;
  memories = subst (λ l. OnlyMemories ms top p.flat.now l) (sym same) own.only;
  all = subst (λ l. MemoriesPlaced ms top p.flat.now l) (sym same) (memories_placed ms top p.flat.now numbers widths own);
  many = ap length same ∙ own.count;
}

-- a draft over the places that its nets have had before
pub draft_from : (ms : List ModuleTree) (top : ModuleTree) (f : Flat) (old new : TapeDraft) → HasPlaces ms top f old.pairs.items old.memories.items old.cells.items (tree_of old.tape) → TellsNumbers ms top f old.pairs.items old.memories.items (tree_of old.tape)
    → Extends (tree_of old.tape) (tree_of new.tape) → new.pairs.items ≡ old.pairs.items → new.memories.items ≡ old.memories.items → new.cells.items ≡ old.cells.items
    → AreNext ms top f old.pairs.items old.memories.items (tree_of new.tape) new.commits.items new.stores.items → IsDraft ms top f new
draft_from ms top f old new places tells g i j k next =
    let t = tree_of new.tape in
    record {
      flat = places.flat;
      tape = g.new_tape;
      placed = subst (λ l. ArePlaced ms top f l) (sym i) places.placed;
      given = subst (λ l. AreGiven ms top f l t) (sym i) (given_on ms top f old.pairs.items (tree_of old.tape) t g places.given);
      numbered = subst (λ l. AreMemories ms top f l new.cells.items) (sym j) (subst (λ l. AreMemories ms top f old.memories.items l) (sym k) places.numbered);
      tells = subst (λ l. TellsNumbers ms top f l new.memories.items t) (sym i) (subst (λ l. TellsNumbers ms top f old.pairs.items l t) (sym j) (tells_on ms top f old.pairs.items old.memories.items (tree_of old.tape) t g tells));
      next = subst (λ l. AreNext ms top f l new.memories.items t new.commits.items new.stores.items) (sym i) (subst (λ l. AreNext ms top f old.pairs.items l t new.commits.items new.stores.items) (sym j) next);
    }
