use Rattle.std.proofs.Common.{◌≡◌, ℕ, ◌+◌, ◌<◌, true, false, length, take, get_or, sym, ap, ◌∙◌, nat_eq, eq-eqb, ne_eqb, arith}
use Rattle.std.proofs.lemmas.List.{take_more}
use Rattle.tapa_base.specs.declared.text.Place.{Place}
use Rattle.tapa_syntax.specs.Characters.{place_of}
use Rattle.tapa_syntax.proofs.Places.{place_after_feed, place_after_byte}
use Rattle.tapa_base.specs.Gaps.{Bytes}
use Rattle.vlog_lex.proofs.lexer.place_at.Goals as goal
use Rattle.vlog_lex.proofs.lexer.place_at.Goals.{then-before-turn-eq10, else-before-turn-eq10}

abbrev At : ℕ → ℕ → Bytes → Type 0
At line col before = let p : Place = record { line = line; col = col } in p ≡ place_of before

after_feed : (text : Bytes) (i line col : ℕ) → i < length text → nat_eq (get_or text i 0) 10 ≡ true → At line col (take i text) → At (line + 1) 1 (take (i + 1) text)
after_feed text i line col lt e h = place_after_feed (take i text) (get_or text i 0) line col e h ∙ ap place_of (sym (take_more text i 0 lt))

after_byte : (text : Bytes) (i line col : ℕ) → i < length text → nat_eq (get_or text i 0) 10 ≡ false → At line col (take i text) → At line (col + 1) (take (i + 1) text)
after_byte text i line col lt e h = place_after_byte (take i text) (get_or text i 0) line col e h ∙ ap place_of (sym (take_more text i 0 lt))

pub loop-turn-preserved : goal.loop-turn-preserved
loop-turn-preserved c =
    elim c.if-before-turn-eq10.branch [
      | then-before-turn-eq10 w ↦ (rw (w.line-is, w.col-is) (after_feed (take c.args.at c.args.text.now) c.loop-turn.turn c.loop-turn.line c.loop-turn.col c.loop-turn-test.true (eq-eqb _ _ w.if-before-turn-eq10.true) c.loop-turn.invariant.0), omega (arith, w.line-is, c.loop-turn.invariant.1), omega (arith, w.col-is))
      | else-before-turn-eq10 w ↦ (rw (w.line-is, w.col-is) (after_byte (take c.args.at c.args.text.now) c.loop-turn.turn c.loop-turn.line c.loop-turn.col c.loop-turn-test.true (ne_eqb _ _ w.if-before-turn-eq10.false) c.loop-turn.invariant.0), omega (arith, w.line-is, c.loop-turn.invariant.1), omega (arith, w.col-is, c.loop-turn.invariant.2))
    ]
