use Rattle.std.proofs.Common.{refl, ◌∙◌, sym, ap, subst}
use Rattle.tapa_base.specs.declared.text.Place.{Place}
use Rattle.vcd_text.specs.Answers.{IsFaultOf}
use Rattle.vcd_text.specs.declared.dump.VcdFault.{VcdFault}
use Rattle.command_answers.specs.Refusal.{Dump, NoDump, NoNet}
use Rattle.command_vcd.proofs.NetFound.{no_net, net_shown}
use Rattle.command_vcd.proofs.vcd.lines_in.Goals as goal

pub returns-in-Err-X1-clause-refused : goal.returns-in-Err-X1-clause-refused
returns-in-Err-X1-clause-refused c =
    let wrong = subst (λ (fault : VcdFault). IsFaultOf c.args.text.now fault) c.in-Err-X1.field-0-is c.in-Err-X1.ensures.fault in
    (NoDump c.in-Err-X1.place, wrong, ap (λ (place : Place). Dump (NoDump place)) c.in-Err-X1.place-is)

pub returns-in-None-clause-refused : goal.returns-in-None-clause-refused
returns-in-None-clause-refused c =
    let d = c.in-Ok.dump in
    let found = sym (rw (c.as_bytes.ensures.value, c.deref.ensures.value) at c.place_of.ensures) ∙ c.in-None.is in
    let name = c.in_ok-name-in-None.ensures.items ∙ c.as_bytes-in-None.ensures.value in
    (NoNet c.in_ok-name-in-None.name.items, (name, no_net c.args.text.now c.args.net.now d.nets.items d.last d.changes.items c.in-Ok.ensures.read found), refl)

pub returns-clause-shown : goal.returns-clause-shown
returns-clause-shown c =
    let d = c.in-Ok.dump in
    let found = sym (rw (c.as_bytes.ensures.value, c.deref.ensures.value) at c.place_of.ensures) ∙ c.in-Some.is in
    net_shown c.args.text.now c.args.net.now d.nets.items d.last d.changes.items c.in-Ok.ensures.read c.in-Some.place found c.in_ok-told.told.items (rw c.deref-2.ensures.value at c.in_ok-told.ensures.values)
