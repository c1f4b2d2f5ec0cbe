use Rattle.std.proofs.Common.{◌∙◌, ap, rules, List}
use Rattle.std.proofs.lemmas.List.{drop_all}
use Rattle.std.specs.FinMap.{get, get-empty}
use Rattle.tapa_files.proofs.Files.{get-files_of-drop}
use Rattle.tapa_files.specs.Memory.{Entry, files_of}
use Rattle.std.specs.Ordering.{nat_cmp}
use Rattle.std.specs.Cmp.Lexicographic.{slice_cmp}
use Rattle.tapa_files.proofs.memory.find.Goals as goal

pub loop-key-preserved : goal.loop-key-preserved
loop-key-preserved c =
    let here = get-files_of-drop c.args.files.now c.loop-key.key-index c.loop-key-item.result c.args.name.now c.loop-key-test.true c.loop-key-item.is in
    grind (rules, here, c.loop-key.invariant)

pub returns-then-eq : goal.returns-then-eq
returns-then-eq c =
    let here = get-files_of-drop c.args.files.now c.loop-key.key-index c.loop-key-item.result c.args.name.now c.loop-key-test.true c.loop-key-item.is in
    grind (rules, here, c.loop-key.invariant)

pub returns : goal.returns
returns c =
    let end = drop_all c.loop-key.key-index c.args.files.now c.loop-key-test.false in
    c.loop-key.invariant ∙ ap (λ (es : List Entry). get (files_of es) c.args.name.now) end ∙ get-empty (slice_cmp nat_cmp) c.args.name.now
