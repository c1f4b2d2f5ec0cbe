use Rattle.std.proofs.Common.{ℕ, take, sym, subst, arith}
use Rattle.tapa_syntax.specs.Characters.{place_of}
use Rattle.vlog_read.specs.Texts.{HasNoTree}
use Rattle.vlog_read.proofs.Stopped.{no_tree, refused_place, refused_within}
use Rattle.vlog_read.proofs.reading.refused.Goals as goal

pub place_at-requires-clause-within : goal.place_at-requires-clause-within
place_at-requires-clause-within c = omega (arith, c.bytes_before-at.ensures, refused_within c.args.text.now c.args.words.now.lexemes.items c.args.words.now.end c.args.passed c.requires.scan)

pub returns : goal.returns
returns c =
    let text = c.args.text.now in
    let there = no_tree text _ (refused_place text c.args.words.now.lexemes.items c.args.words.now.end c.args.passed c.requires.scan c.requires.first) in
    subst (HasNoTree text) (sym c.place_at.ensures) (subst (λ (n : ℕ). HasNoTree text (place_of (take n text))) (sym c.bytes_before-at.ensures) there)
