use Rattle.std.proofs.Common.{◌≡◌, sym, ap, subst, Option, Bool}
use Rattle.std.specs.Option.{option_copied}
use Rattle.vlog_tree.specs.Table.{Name}
use Rattle.vlog_tree.specs.V6.{is_top}
use Rattle.vlog_tree.specs.Loops.{LiesOnLoop, text_places, TellsLoop}
use Rattle.vlog_comb_loops.specs.Search.{IsSearched}
use Rattle.vlog_comb_loops.specs.Summaries.{is_named}
use Rattle.vlog_design.proofs.checked.check_loops.Goals as goal

pub returns-in-Some-clause-refused : goal.returns-in-Some-clause-refused
returns-in-Some-clause-refused c =
    let ms = c.args.library.now in
    let same : is_named (option_copied c.args.root) ≡ is_top ms = ap (λ (n : Option Name). is_named n) c.requires.root in
    let searched = subst (λ (t : Name → Bool). IsSearched (LiesOnLoop ms t) (text_places ms) (option_copied c.in_ok-x.field-0)) same c.in_ok-x.ensures in
    let told = subst (λ (o : Option Name). IsSearched (LiesOnLoop ms (is_top ms)) (text_places ms) o) (ap option_copied c.in-Some.is) searched in
    (c.requires.sound, subst (λ (x : Name). TellsLoop ms (is_top ms) x) (sym c.in_ok-name.ensures) told)

pub returns-clause-loopless : goal.returns-clause-loopless
returns-clause-loopless c =
    let ms = c.args.library.now in
    let same : is_named (option_copied c.args.root) ≡ is_top ms = ap (λ (n : Option Name). is_named n) c.requires.root in
    let searched = subst (λ (t : Name → Bool). IsSearched (LiesOnLoop ms t) (text_places ms) (option_copied c.in_ok-x.field-0)) same c.in_ok-x.ensures in
    subst (λ (o : Option Name). IsSearched (LiesOnLoop ms (is_top ms)) (text_places ms) o) (ap option_copied c.in_default.is) searched
