use Rattle.std.proofs.Common.{◌∙◌, Some, sym, subst, refl, ap}
use Rattle.std.proofs.lemmas.Option.{slice_get_read}
use Rattle.net_core.specs.Load.{IsIn, AreBelow}
use Rattle.net_core.proofs.Loaded.{in_more, in_last, below_push, listed_push}
use Rattle.net_core.proofs.load.enlist.Goals as goal

pub returns-in_ok-push-clause-listed : goal.returns-in_ok-push-clause-listed
returns-in_ok-push-clause-listed c = listed_push c.args.listed.now.items _ c.args.later.now.items _ c.args.j c.requires.listed refl c.in_ok-push.ensures.items

pub returns-in_ok-push-clause-kept : goal.returns-in_ok-push-clause-kept
returns-in_ok-push-clause-kept c = λ x h. subst (IsIn x) (sym c.in_ok-push.ensures.items) (in_more _ _ x h)

pub returns-in_ok-push-clause-below : goal.returns-in_ok-push-clause-below
returns-in_ok-push-clause-below c = λ m h l. subst (AreBelow m) (sym c.in_ok-push.ensures.items) (below_push m c.args.later.now.items c.args.j h l)

pub returns-in_ok-push-clause-there : goal.returns-in_ok-push-clause-there
returns-in_ok-push-clause-there c = subst (IsIn c.args.j) (sym c.in_ok-push.ensures.items) (in_last c.args.later.now.items c.args.j)

pub returns-else-not-index-clause-there : goal.returns-else-not-index-clause-there
returns-else-not-index-clause-there c =
    c.requires.listed c.args.j (slice_get_read c.args.listed.now.items _ c.args.j c.index.result.now refl c.requires.inside c.index.ensures ∙ ap Some c.if-not-index.false)
