use Rattle.std.proofs.Common.{◌≡◌, List, None, sym, ap, subst, ◌∙◌, refl, arith}
use Rattle.std.proofs.lemmas.Result.{IfOk-weaker, IfErr-weaker}
use Rattle.vlog_tree.specs.Form.{ModuleTree}
use Rattle.vlog_lex.specs.declared.lexer.Lexeme.{Lexeme}
use Rattle.vlog_lex.specs.Scanned.{words_at}
use Rattle.vlog_lex.specs.declared.coming.Coming.TheVariants.{Nothing}
use Rattle.vlog_read.specs.declared.state.HeadState.TheVariants.{Between}
use Rattle.vlog_read.specs.declared.state.State.TheVariants.{Head}
use Rattle.vlog_read.specs.ValueReading.{behind}
use Rattle.vlog_read.specs.BlockReading as spec
use Rattle.vlog_read.specs.Refused.{IsFirstRefused, Refuses}
use Rattle.vlog_read.proofs.Behind.{behind_begun, behind_next, refused_next, refused_last, found_last}
use Rattle.vlog_read.proofs.Formed.{behind_formed}
use Rattle.vlog_read.proofs.design.parse.Goals as goal

-- what stands past the end of lexemes
abbrev past : Lexeme
past = record { from = 0; to = 0 }

pub loop-lexeme-init : goal.loop-lexeme-init
loop-lexeme-init c = record {
  behind = behind_begun (words_at c.args.text.now c.args.lexemes.now) c.head-reader.result (c.head-reader.ensures ∙ ap (λ (ms : List ModuleTree). behind Nothing (Head (Between ms))) c.new.ensures);
  passed = refl;
}

pub next-requires : goal.next-requires
next-requires c = behind_formed _ c.loop-lexeme.reader c.loop-lexeme.invariant.behind

pub loop-lexeme-preserved : goal.loop-lexeme-preserved
loop-lexeme-preserved c = record {
  behind = behind_next c.args.text.now c.args.lexemes.now c.loop-lexeme.lexeme-index past c.loop-lexeme.reader c.in-Some.more c.loop-lexeme-test.true c.loop-lexeme.invariant.behind
      (ap (spec.next c.loop-lexeme.reader) (sym c.word_at-word.ensures) ∙ sym (c.in_ok-found.ensures {u = tt}) ∙ c.in-Some.is);
  passed = omega (arith, c.loop-lexeme.invariant.passed);
}

pub returns-in-None-clause-refused : goal.returns-in-None-clause-refused
returns-in-None-clause-refused c =
    subst (IsFirstRefused (words_at c.args.text.now c.args.lexemes.now)) (sym c.loop-lexeme.invariant.passed)
    (refused_next c.args.text.now c.args.lexemes.now c.loop-lexeme.lexeme-index past c.loop-lexeme.reader c.loop-lexeme-test.true c.loop-lexeme.invariant.behind
    (ap (spec.next c.loop-lexeme.reader) (sym c.word_at-word.ensures) ∙ sym (c.in_ok-found.ensures {u = tt}) ∙ c.in-None.is))

pub returns-clause-tree : goal.returns-clause-tree
returns-clause-tree c =
    IfOk-weaker c.told.result _ _ (λ modules h. found_last c.args.text.now c.args.lexemes.now c.loop-lexeme.lexeme-index c.loop-lexeme.reader modules.items (omega arith) c.loop-lexeme.invariant.behind h) c.told.ensures.tree

pub returns-clause-refused : goal.returns-clause-refused
returns-clause-refused c =
    let there = λ (none : spec.whole c.loop-lexeme.reader ≡ None).
    subst (IsFirstRefused (words_at c.args.text.now c.args.lexemes.now)) (sym c.loop-lexeme.invariant.passed)
    (refused_last c.args.text.now c.args.lexemes.now c.loop-lexeme.lexeme-index c.loop-lexeme.reader (omega arith) (omega arith) c.loop-lexeme.invariant.behind none) in
    IfErr-weaker c.told.result _ _ (λ e h. subst (Refuses (words_at c.args.text.now c.args.lexemes.now)) (sym h.1) (there h.0)) c.told.ensures.refused
