use Rattle.std.proofs.Common.{◌≤◌, List, length, sym, subst, arith}
use Rattle.vlog_tree.specs.Form.{ModuleTree}
use Rattle.vlog_lex.specs.Scanned.{words_at}
use Rattle.vlog_read.specs.Texts.{HasNoTree}
use Rattle.vlog_read.proofs.Stopped.{no_tree, left_refused}
use Rattle.vlog_read.proofs.Judged.{scan_tree, some_modules}
use Rattle.vlog_read.proofs.Told.{told_fault, told_design, told_checked}
use Rattle.vlog_read.proofs.reading.checked.Goals as goal

pub returns-then-words-text-clause-refused : goal.returns-then-words-text-clause-refused
returns-then-words-text-clause-refused c =
    let text = c.args.text.now in
    let t = c.requires.tree in
    subst (HasNoTree text) (sym c.place_at.ensures) (no_tree text _ (left_refused text c.args.words.now.lexemes.items c.args.words.now.end t.0 c.requires.scan (omega arith) t.1))

pub of-requires : goal.of-requires
of-requires c = subst (λ (l : List ModuleTree). 1 ≤ length l) (sym c.requires.tree.2) (some_modules (words_at c.args.text.now c.args.words.now.lexemes.items) c.requires.tree.0 c.requires.tree.1)

pub returns : goal.returns
returns c =
    let text = c.args.text.now in
    let t = c.requires.tree in
    let tree = scan_tree text c.args.words.now.lexemes.items c.args.words.now.end t.0 c.requires.scan (omega arith) t.1 in
    record {
      refused = told_fault text t.0 c.args.modules.items c.of.result tree t.2 c.of.ensures.refused;
      tree = told_design text t.0 c.args.modules.items c.of.result tree t.2 c.of.ensures.value c.of.ensures.design;
      design = told_checked c.args.modules.items c.of.result c.of.ensures.value c.of.ensures.design;
    }
