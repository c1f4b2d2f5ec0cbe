use Rattle.std.proofs.Common.{◌≡◌, Some, map, sym, ap, subst, ◌∙◌}
use Rattle.std.specs.Prelude.{Vec}
use Rattle.std.specs.List.{flat_map}
use Rattle.std.specs.Option.{option_map}
use Rattle.std.specs.declared.alloc.Global.{Global}
use Rattle.vlog_tree.specs.Cycle.{module_at, run_items}
use Rattle.vlog_values.specs.declared.numbers.NetNumber.{NetNumber}
use Rattle.vlog_ref_cycle.specs.Sources.{net_read}
use Rattle.vlog_ref_cycle.specs.Numbers.{all_numbers, number_at}
use Rattle.vlog_ref_cycle.specs.Next.{item_nets, reads_of, ReadsAre, Shows}
use Rattle.vlog_ref_cycle.proofs.Copied.{copy_alike, copy_next}
use Rattle.vlog_ref_cycle.proofs.following.held_after.Goals as goal

pub returns-in-Some-2-clause-alike : goal.returns-in-Some-2-clause-alike
returns-in-Some-2-clause-alike c =
    copy_alike c.args.h.now c.in_ok-after-in-Some-2.after c.run_items.new.after c.in_ok-after-in-Some-2.ensures.path c.in_ok-after-in-Some-2.ensures.nets c.in_ok-after-in-Some-2.ensures.memories c.in_ok-run_items-in-Some-2.ensures.alike

pub returns-in-Some-2-clause-value : goal.returns-in-Some-2-clause-value
returns-in-Some-2-clause-value c =
    let design = c.args.design.now in
    let now = c.args.now.now in
    let h = c.args.h.now in
    let m = c.in-Some.m.now in
    let ns = c.in-Some-2.nets.items in
    let at_m : module_at design.modules.now design.top.now h.path.items ≡ Some m = sym (c.in-Some.ensures ∙ ap (λ p. module_at design.modules.now design.top.now p) c.deref.ensures.value) in
    let reads : c.in_ok-reads.reads.items ≡ reads_of m =
    c.in_ok-reads.ensures
    ∙ ap (λ l. map (net_read c.of_module-scope.result) (flat_map item_nets l)) c.items.ensures.value
    ∙ ap (λ d. map (net_read d) (flat_map item_nets m.items)) c.of_module-scope.ensures in
    let all : all_numbers (number_at design now c.args.depth h.path.items) (reads_of m) ≡ Some ns =
    sym
    (ap (λ o. option_map (λ (v : Vec NetNumber Global). v.items) o) (sym c.in-Some-2.is)
    ∙ c.in_ok-nets.ensures
    ∙ ap (λ p. all_numbers (number_at design now c.args.depth p) c.deref-3.result.now) c.deref-2.ensures.value
    ∙ ap (λ r. all_numbers (number_at design now c.args.depth h.path.items) r) (c.deref-3.ensures.value ∙ reads)) in
    copy_next h c.in_ok-after-in-Some-2.after c.run_items.new.after c.in_ok-after-in-Some-2.ensures.path c.in_ok-after-in-Some-2.ensures.nets c.in_ok-after-in-Some-2.ensures.memories c.in_ok-run_items-in-Some-2.ensures.alike design now m at_m c.args.depth ns all
    (λ s old next read fits shows.
    subst (λ l. Shows c.run_items.new.after (run_items s old l next)) c.items-in-Some-2.ensures.value
    (c.in_ok-run_items-in-Some-2.ensures.value s old next
    (subst (λ r. ReadsAre r old (flat_map item_nets c.items-in-Some-2.result.now)) (sym c.deref-in-Some-2.ensures.value) (subst (λ l. ReadsAre ns old (flat_map item_nets l)) (sym c.items-in-Some-2.ensures.value) read))
    fits shows))
