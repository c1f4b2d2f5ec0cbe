use Rattle.std.proofs.Common.{◌≡◌, ◌<◌, get_or, sym, subst, ◌∙◌}
use Rattle.stream_check.proofs.Bound.{same_memories, owners_next}
use Rattle.stream_check.proofs.bindings.memory_owners.Goals as goal

pub loop-number-preserved : goal.loop-number-preserved
loop-number-preserved c =
    let n = c.loop-number.number in
    let x = c.index-instances-number.result in
    let number : c.in_ok-number_of.field-0 ≡ n = c.in_ok-number_of.ensures.1 in
    let owners = c.loop-number.owners.rows.items in
    record {
      count = c.add_memories.ensures.count ∙ c.loop-number.invariant.count;
      owned = λ m d h.
          owners_next m n c.args.instances.now x (get_or owners m d) (get_or c.add_memories.new.owners.rows.items m d) c.loop-number-test.true c.index-instances-number.is
          (c.add_memories.ensures.owned m d (subst (λ k. m < k) (sym c.loop-number.invariant.count) h) ∙ same_memories (get_or owners m d) _ n m _ x.memories.items number c.deref.ensures.value)
          ∙ c.loop-number.invariant.owned m d h;
    }
