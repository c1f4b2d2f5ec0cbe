use Rattle.std.proofs.Common.{◌≡◌, ◌<◌, length, arith}
use Rattle.hw_expressions.proofs.Grown.{some_left, none_left}
use Rattle.hw_top.proofs.Named.{next_added, none_left_over}
use Rattle.hw_top.proofs.channels.add_new.Goals as goal

pub loop-alloc-preserved : goal.loop-alloc-preserved
loop-alloc-preserved c =
    let rest = c.loop-alloc.rest.items in
    let left = some_left _ _ c.is_empty.ensures c.loop-alloc-test.true in
    let some : 0 < length rest = omega (arith, left, c.loop-alloc.rest.ok.0) in
    record {
      modules =
          next_added c.loop-alloc.modules.items c.add_one.new.modules.items rest c.remove-one.new.self.items _ c.remove-one.result some c.remove-one.ensures.value c.remove-one.ensures.items c.in_ok-add_one.ensures.modules
          c.loop-alloc.invariant.modules;
      places = c.in_ok-add_one.ensures.places;
    }

pub returns : goal.returns
returns c =
    let left = none_left _ _ c.is_empty.ensures c.loop-alloc-test.false in
    let none : length c.loop-alloc.rest.items ≡ 0 = omega (arith, left, c.loop-alloc.rest.ok.0) in
    record { modules = none_left_over c.loop-alloc.modules.items c.loop-alloc.rest.items _ none c.loop-alloc.invariant.modules; places = c.loop-alloc.invariant.places }
