use Rattle.std.proofs.Common.{◌≡◌, subst, List, Some, None}
use Rattle.std.specs.Prelude.{slice_get}
use Rattle.std.proofs.lemmas.Option.{slice_get_past}
use Rattle.vlog_comb_loops.specs.declared.suspects.Suspect.{Suspect}
use Rattle.vlog_comb_loops.specs.Search.{LoopsAt, IsSuspect}
use Rattle.tapa_base.proofs.Lists.{got_index, has_got}
use Rattle.vlog_comb_loops.proofs.Searching.{loops_lie}
use Rattle.vlog_comb_loops.proofs.Asking.{at_in}
use Rattle.vlog_comb_loops.proofs.suspects.question_loops.Goals as goal

pub suspect_loops-requires : goal.suspect_loops-requires
suspect_loops-requires c =
    let s = c.in-Some.s.now in
    let found = c.in-Some.ensures.lookup in
    let got = subst (λ (l : List Suspect). slice_get l c.args.question.0 ≡ Some s) c.deref.ensures.value (got_index c.deref.result.now c.args.question.0 s found.3.0 found.1) in
    (c.requires.0, c.requires.1.found.right s (has_got c.args.loops.now.suspects.items c.args.question.0 s got))

pub returns-in_ok-found-in-Some-clause-right : goal.returns-in_ok-found-in-Some-clause-right
returns-in_ok-found-in-Some-clause-right c = λ is_top ev yes.
    let s = c.in-Some.s.now in
    let m = c.args.owner.now in
    let x = c.args.name.now in
    let found = c.in-Some.ensures.lookup in
    let got = subst (λ (l : List Suspect). slice_get l c.args.question.0 ≡ Some s) c.deref.ensures.value (got_index c.deref.result.now c.args.question.0 s found.3.0 found.1) in
    let v : IsSuspect c.args.library.now is_top s = ev.found.right s (has_got c.args.loops.now.suspects.items c.args.question.0 s got) in
    loops_lie c.args.library.now is_top m x s v (at_in v.edges v.tree c.args.question.1 m x ((c.in_ok-found-in-Some.ensures is_top v).0 yes))

pub returns-in_ok-found-in-Some-clause-found : goal.returns-in_ok-found-in-Some-clause-found
returns-in_ok-found-in-Some-clause-found c = λ is_top ev by.
    let s = c.in-Some.s.now in
    let found = c.in-Some.ensures.lookup in
    let got = subst (λ (l : List Suspect). slice_get l c.args.question.0 ≡ Some s) c.deref.ensures.value (got_index c.deref.result.now c.args.question.0 s found.3.0 found.1) in
    let same : by.0 ≡ s = cc (by.1, got) in
    let loops = subst (λ (t : Suspect). (v : IsSuspect c.args.library.now is_top t) × LoopsAt v.edges v.tree c.args.question.1 c.args.owner.now c.args.name.now) same by.2 in
    (c.in_ok-found-in-Some.ensures is_top loops.0).1 loops.1

pub returns-in-None-clause-found : goal.returns-in-None-clause-found
returns-in-None-clause-found c = λ is_top ev by.
    let none = subst (λ (l : List Suspect). slice_get l c.args.question.0 ≡ None) c.deref.ensures.value (slice_get_past c.deref.result.now c.args.question.0 c.in-None.ensures.lookup.3) in
    absurd (cc (by.1, none))
