use Rattle.std.proofs.Common.{ℕ, ◌+◌, ◌<◌, ◌≤◌, length, Some, refl, sym, ap, ◌∙◌, arith}
use Rattle.std.specs.Prelude.{Vec, vec_capacity}
use Rattle.std.specs.declared.alloc.Global.{Global}
use Rattle.std.proofs.lemmas.List.{length-set}
use Rattle.std.proofs.lemmas.Option.{slice_get_read}
use Rattle.net_core.specs.declared.ports.Ports.{Ports}
use Rattle.net_core.proofs.Moves.{get_set_other}
use Rattle.net_case.proofs.Loops.{parted_more}
use Rattle.net_case.proofs.together.part.Goals.{in-Some, in_default}
use Rattle.net_case.proofs.together.part.Goals as goal

pub loop-i-preserved : goal.loop-i-preserved
loop-i-preserved g c =
    let inv = c.loop-i.invariant in
    let i = c.loop-i.i in
    let homes = c.loop-i.homes.items in
    let first = c.args.homes.now.items in
    let len = inv.len in
    let inside = c.loop-i-test.true in
    let end = c.len-i-end.ensures in
    let ok = c.args.homes.now.ok in
    let rb = inv.body_room in
    let rp = inv.port_room in
    let l : i < length homes = omega arith in
    let at = slice_get_read homes _ i c.index_mut.result.now refl l c.index_mut.ensures.value in
    let was = sym (inv.rest i (omega arith)) ∙ at in
    let many = length-set homes i c.take.new.self ∙ inv.len in
    let others = λ (j : ℕ) (past : i + 1 ≤ j). get_set_other homes i j c.take.new.self (λ e. absurd (omega arith)) ∙ inv.rest j (omega arith) in
    elim c.match-take.branch [
      | in-Some w ↦
          let eb = ap (λ (v : Vec g.row.B.Denot Global). v.items) w.bodies-is ∙ w.push_reserved.ensures.items in
          let ep = ap (λ (v : Vec Ports Global). v.items) w.ports-is ∙ w.push_reserved-in-Some.ensures.items in
          let cb = ap vec_capacity w.bodies-is ∙ w.push_reserved.ensures.capacity in
          let cp = ap vec_capacity w.ports-is ∙ w.push_reserved-in-Some.ensures.capacity in
          record {
            len = many;
            rest = others;
            parted = parted_more i first c.loop-i.bodies.items c.match-take.bodies.items c.loop-i.ports.items c.match-take.ports.items w.in-Some.process (was ∙ ap Some (sym c.take.ensures.value ∙ w.in-Some.is)) eb ep inv.parted;
            body_room = omega arith;
            port_room = omega arith;
          }
      | in_default w ↦
          let h = c.requires.home i (omega arith) in
          let e = sym was ∙ h.1 in
          let none = sym w.in_default.is ∙ c.take.ensures.value in
          absurd (cc)
    ]
