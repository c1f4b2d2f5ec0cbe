use Rattle.std.proofs.Common.{◌≡◌, ◌<◌, length, subst, sym, arith}
use Rattle.std.proofs.lemmas.List.{get_or_read}
use Rattle.task_graph.specs.Reach.{MarkEachOther}
use Rattle.task_graph.proofs.Numbering.{group_again, group_new}
use Rattle.task_graph.proofs.groups.Groups.add.Goals as goal

pub returns-in_ok-push-in-Some-clause-groups : goal.returns-in_ok-push-in-Some-clause-groups
returns-in_ok-push-in-Some-clause-groups c =
    let rows = c.args.rows.now in
    let xs = c.args.self.now.numbers.items in
    let n : c.len.result ≡ length xs = (let k = c.args.self.now.numbers.ok.0 in let e = c.len.ensures in omega arith) in
    let low : c.in-Some.j < length xs = subst (λ k. c.in-Some.j < k) n c.in-Some.ensures.0 in
    let both = subst (λ k. MarkEachOther rows c.in-Some.j k) n c.in-Some.ensures.1 in
    let p = group_again rows xs c.push.new.self.items c.args.self.now.count c.in-Some.j c.index-number.result.now c.requires.more c.requires.transitive c.requires.groups.numbered c.requires.groups.same low
    both (get_or_read xs c.in-Some.j c.index-number.result.now low c.index-number.ensures 0) c.in_ok-push-in-Some.ensures.items in
    record { numbered = p.0; same = p.1 }

pub returns-in_ok-push-in-None-clause-groups : goal.returns-in_ok-push-in-None-clause-groups
returns-in_ok-push-in-None-clause-groups c =
    let rows = c.args.rows.now in
    let xs = c.args.self.now.numbers.items in
    let n : c.len.result ≡ length xs = (let k = c.args.self.now.numbers.ok.0 in let e = c.len.ensures in omega arith) in
    let p = group_new rows xs c.push-in-None.new.self.items c.args.self.now.count c.requires.more c.requires.groups.numbered c.requires.groups.same
    (λ j l m. c.in-None.ensures j (subst (λ k. j < k) (sym n) l) (subst (λ k. MarkEachOther rows j k) (sym n) m)) c.in_ok-push-in-None.ensures.items in
    record { numbered = p.0; same = p.1 }
