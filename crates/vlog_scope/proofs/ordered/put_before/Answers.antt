use Rattle.std.proofs.Common.{◌≡◌, ◌∙◌, ap, rules, cond, Some}
use Rattle.std.specs.Prelude.{bytes_eq}
use Rattle.vlog_scope.specs.NamePlaces.{place_by}
use Rattle.vlog_scope.proofs.OrderedNames.{updated}
use Rattle.vlog_scope.proofs.ordered.put_before.Goals as goal

pub returns : goal.returns
returns c = λ x.
    let same : c.in_ok-key.key.items ≡ c.args.name.now = search rules in
    updated c.in_ok-key.key c.args.names.now c.insert.new.self _ c.in_ok-insert.ensures.updates x
    ∙ ap (λ k. cond (bytes_eq k x) (Some (c.args.place, c.contains_key-again.result)) (place_by c.args.names.now x)) same
    ∙ ap (λ again. cond (bytes_eq c.args.name.now x) (Some (c.args.place, again)) (place_by c.args.names.now x)) c.contains_key-again.ensures
