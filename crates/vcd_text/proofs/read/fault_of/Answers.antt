use Rattle.std.proofs.Common.{◌-◌, length, sym, ap, subst, ◌∙◌, arith}
use Rattle.std.proofs.lemmas.List.{length-take-le}
use Rattle.tapa_base.specs.declared.text.Place.{Place}
use Rattle.tapa_base.specs.Gaps.{Bytes}
use Rattle.tapa_syntax.specs.Characters.{place_of}
use Rattle.vcd_text.specs.Dump.{IsNoDumpAt}
use Rattle.vcd_text.specs.Rest.{IsRead, FailsBefore}
use Rattle.vcd_text.proofs.NoDump.{no_dump, is_no_dump}
use Rattle.vcd_text.proofs.Tops.{left_within}
use Rattle.vcd_text.proofs.read.fault_of.Goals as goal

pub overflow_sub-text : goal.overflow_sub-text
overflow_sub-text c = let f : FailsBefore IsRead c.args.text.now c.in-Stopped.left = rw c.in-Stopped.is at c.requires.stop in omega (arith, left_within IsRead c.args.text.now c.in-Stopped.left f)

pub end_place-requires : goal.end_place-requires
end_place-requires c = omega (arith, c.requires.length, ap (λ (l : Bytes). length l) c.split_at.ensures.front, length-take-le (length c.args.text.now - c.in-Stopped.left) c.args.text.now (omega arith))

pub returns-in-Stopped-clause-fault : goal.returns-in-Stopped-clause-fault
returns-in-Stopped-clause-fault c =
    let f : FailsBefore IsRead c.args.text.now c.in-Stopped.left = rw c.in-Stopped.is at c.requires.stop in
    subst (λ (p : Place). IsNoDumpAt c.args.text.now p) (sym (c.end_place.ensures ∙ ap place_of c.split_at.ensures.front)) (no_dump c.args.text.now c.in-Stopped.left f)

pub returns-in-Stopped-clause-dump : goal.returns-in-Stopped-clause-dump
returns-in-Stopped-clause-dump c = λ d.
    let f : FailsBefore IsRead c.args.text.now c.in-Stopped.left = rw c.in-Stopped.is at c.requires.stop in
    absurd (is_no_dump c.args.text.now c.in-Stopped.left f d)
