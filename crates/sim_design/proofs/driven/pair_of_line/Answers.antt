use Rattle.std.proofs.Common.{◌≤◌, get_or, sym, subst, ◌∙◌}
use Rattle.std.specs.Prelude.{IsTrue}
use Rattle.std.proofs.lemmas.Option.{IfSome_then}
use Rattle.vlog_tree.specs.Table.{declared, bits_of}
use Rattle.vlog_tree.specs.V3.{value_fits}
use Rattle.sim_tape.specs.Trees.{tree_of}
use Rattle.sim_design.proofs.Parts.{part}
use Rattle.sim_design.proofs.Driving.{line_fits, room, line_told, line_there, line_bits, parts_same, driven_same, part_is}
use Rattle.sim_design.proofs.driven.pair_of_line.Goals as goal

pub pair_of_driver-requires-clause-nets : goal.pair_of_driver-requires-clause-nets
pair_of_driver-requires-clause-nets c = c.part_of.ensures.slots _ c.requires.slots

pub returns-clause-told : goal.returns-clause-told
returns-clause-told c = λ ms top path m x flat l count many read only.
    let f = c.args.flat.now in
    let k = c.args.spot.instance in
    let e = c.args.value.now in
    let pairs = c.args.pairs.now in
    let memories = c.args.memories.now in
    let names = c.declarations-count.ensures ∙ l.declares in
    let all = part_is pairs c.part_of.result.now c.declarations-count.result.now (declared m) c.args.spot.base (get_or f.first_net.items k 0) names l.first (room ms top f flat k l.there path l.stands m l.of_module x e l.line pairs count) c.part_of.ensures.value in
    let kept = part_is memories c.part_of-2.result.now c.declarations-count.result.now (declared m) c.args.spot.base (get_or f.first_net.items k 0) names l.first (room ms top f flat k l.there path l.stands m l.of_module x e l.line memories many) c.part_of-2.ensures.value in
    let fits = subst (λ b. IsTrue (value_fits c.args.scope.now b e)) (sym l.wide) (subst (λ d. IsTrue (value_fits d (bits_of (declared m) x) e)) (sym l.declares) (line_fits ms top f flat k l.there path l.stands m l.of_module x e l.line)) in
    IfSome_then c.in_ok-pair.pair (c.in_ok-pair.ensures.says fits) (λ p d.
    line_told ms top f flat k l.there path l.stands m l.of_module x e l.line pairs memories (tree_of c.pair_of_driver.new.tape) p read only
    (driven_same c.args.scope.now (declared m) c.part_of.result.now _ c.part_of-2.result.now _ c.args.bits (bits_of (declared m) x) e (tree_of c.pair_of_driver.new.tape) p l.declares all kept l.wide d))

pub returns-clause-some : goal.returns-clause-some
returns-clause-some c = λ ms top path m x flat l count many placed there.
    let f = c.args.flat.now in
    let k = c.args.spot.instance in
    let e = c.args.value.now in
    let pairs = c.args.pairs.now in
    let memories = c.args.memories.now in
    let names = c.declarations-count.ensures ∙ l.declares in
    let all = part_is pairs c.part_of.result.now c.declarations-count.result.now (declared m) c.args.spot.base (get_or f.first_net.items k 0) names l.first (room ms top f flat k l.there path l.stands m l.of_module x e l.line pairs count) c.part_of.ensures.value in
    let kept = part_is memories c.part_of-2.result.now c.declarations-count.result.now (declared m) c.args.spot.base (get_or f.first_net.items k 0) names l.first (room ms top f flat k l.there path l.stands m l.of_module x e l.line memories many) c.part_of-2.ensures.value in
    let fits = subst (λ b. IsTrue (value_fits c.args.scope.now b e)) (sym l.wide) (subst (λ d. IsTrue (value_fits d (bits_of (declared m) x) e)) (sym l.declares) (line_fits ms top f flat k l.there path l.stands m l.of_module x e l.line)) in
    let low : c.args.bits ≤ 128 = subst (λ b. b ≤ 128) (sym l.wide) (line_bits ms top f flat k l.there path l.stands m l.of_module x e l.line) in
    c.in_ok-pair.ensures.some low fits
    (parts_same (declared m) c.args.scope.now (part ms f k l.there path l.stands m l.of_module pairs) c.part_of.result.now (part ms f k l.there path l.stands m l.of_module memories) c.part_of-2.result.now e (sym l.declares) (sym all) (sym kept)
    (line_there ms top f flat k l.there path l.stands m l.of_module x e l.line pairs memories placed there))
