use Rattle.std.proofs.Common.{refl, sym, subst, List}
use Rattle.vlog_comb_loops.specs.declared.suspects.Suspect.{Suspect}
use Rattle.vlog_comb_loops.specs.Search.{IsJudged}
use Rattle.vlog_comb_loops.proofs.Searching.{judged_pushed}
use Rattle.vlog_comb_loops.proofs.search.judge.Goals as goal

pub returns-in_ok-push : goal.returns-in_ok-push
returns-in_ok-push c = λ edges g.
    let s : Suspect = record { place = c.args.place; graph = c.args.graph } in
    subst (λ (l : List Suspect). IsJudged edges c.args.place c.args.suspects.now.items l) (sym c.in_ok-push.ensures.items) (judged_pushed edges c.args.place c.args.suspects.now.items s refl g c.requires)
