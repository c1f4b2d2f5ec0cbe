use Rattle.std.proofs.Common.{ℕ, refl, sym, ◌∙◌, subst, arith}
use Rattle.std.proofs.lemmas.Option.{slice_get_read}
use Rattle.tapa_syntax.specs.declared.program.Program.{Program}
use Rattle.net_core.specs.declared.input.Input.{Input}
use Rattle.net_core.specs.Load.{AreBelow, AreWoken}
use Rattle.net_core.specs.Ties.{AreTiesOf}
use Rattle.net_core.proofs.Loaded.{woken_by}
use Rattle.net_core.proofs.Quiet.{visited_limit, visited_none, visited_woken, listed_again}
use Rattle.net_core.proofs.drive.visit.Given.{Over}
use Rattle.net_core.proofs.drive.visit.Goals.{After-index-tied}
use Rattle.net_core.proofs.drive.visit.Goals as goal

tied : (g : Over) (c : After-index-tied g) → AreTiesOf c.args.net.now.program c.args.i c.index-tied.result.now
tied g c =
    let l = c.requires.instance in
    let n = c.requires.ties_len in
    c.requires.ties c.args.i c.index-tied.result.now (slice_get_read c.args.ties.now.items _ c.args.i c.index-tied.result.now refl (omega arith) c.index-tied.ensures)

pub resume_within-requires-clause-as_many : goal.resume_within-requires-clause-as_many
resume_within-requires-clause-as_many g c = (tied g (goal.at.resume_within-requires-clause-as_many g c).After-index-tied).as_many

pub resume_within-requires-clause-ties : goal.resume_within-requires-clause-ties
resume_within-requires-clause-ties g c = (tied g (goal.at.resume_within-requires-clause-ties g c).After-index-tied).each

pub returns-then-goes_past-clause-visited : goal.returns-then-goes_past-clause-visited
returns-then-goes_past-clause-visited g c =
    let h = c.if-goes_past.ensures in
    visited_limit c.args.net.now c.resume_within.new.net c.args.i c.args.budget c.args.left.now c.resume_within.new.left c.in_ok-pause.pause c.in_ok-pause.made c.in_ok-pause.ensures.resumed c.valid.ensures c.requires.instance c.requires.within h.0 h.1 h.2 c.args.later.now.items

pub wake-requires-clause-inside : goal.wake-requires-clause-inside
wake-requires-clause-inside g c =
    subst (λ m. AreBelow m c.index-tied.result.now.near.items) (sym (c.in_ok-enlist_if.ensures.listed_len ∙ c.requires.listed_len)) (tied g (goal.at.wake-requires-clause-inside g c).After-index-tied).near.0

pub returns-then-made-eq0 : goal.returns-then-made-eq0
returns-then-made-eq0 g c = record {
  given = c.in_ok-pause.ensures.given;
  below = c.requires.below;
  listed_len = refl;
  listed = c.requires.listed;
  visited = visited_none c.args.net.now c.resume_within.new.net c.args.i c.args.budget c.args.left.now c.resume_within.new.left c.in_ok-pause.pause c.in_ok-pause.made c.in_ok-pause.ensures.resumed c.valid.ensures c.requires.instance c.requires.within c.if-goes_past.ensures c.if-made-eq0.true c.args.later.now.items;
}

pub returns-in_err-enlist_if-clause-below : goal.returns-in_err-enlist_if-clause-below
returns-in_err-enlist_if-clause-below g c = c.enlist_if.ensures.below _ c.requires.below c.requires.instance

pub returns-in_err-wake-clause-below : goal.returns-in_err-wake-clause-below
returns-in_err-wake-clause-below g c =
    c.wake.ensures.below _ (tied g (goal.at.returns-in_err-wake-clause-below g c).After-index-tied).near.0 (c.in_ok-enlist_if.ensures.below _ c.requires.below c.requires.instance)

pub returns : goal.returns
returns g c =
    let given = c.in_ok-pause.ensures.given in
    let f = c.in_ok-enlist_if.ensures in
    let e = c.in_ok-wake.ensures in
    let near = (tied g (goal.at.returns g c).After-index-tied).near in
    let woken : (p : ℕ) → AreWoken c.resume_within.new.net.program c.args.i p c.wake.new.later.items = subst (λ (z : Program × Input). (p : ℕ) → AreWoken z.0 c.args.i p c.wake.new.later.items) (sym given) (λ p. woken_by c.args.net.now.program c.args.i p c.index-tied.result.now.near.items c.wake.new.later.items e.woken (near.1 p)) in
    let again =
    listed_again c.resume_within.new.net c.args.i c.in_ok-pause.pause c.args.budget c.goes_again-again.result c.wake.new.later.items c.goes_again-again.ensures
    (λ w. e.kept c.args.i (f.there w))
    in
    record {
      given = given;
      below = e.below _ near.0 (f.below _ c.requires.below c.requires.instance);
      listed_len = e.listed_len ∙ f.listed_len;
      listed = e.listed;
      visited = visited_woken c.args.net.now c.resume_within.new.net c.args.i c.args.budget c.args.left.now c.resume_within.new.left c.in_ok-pause.pause c.in_ok-pause.made c.in_ok-pause.ensures.resumed c.valid.ensures c.requires.instance c.requires.within c.if-goes_past.ensures (let z = c.if-made-eq0.false in omega arith) c.args.later.now.items c.wake.new.later.items again (λ x h. e.kept x (f.kept x h)) woken;
    }
