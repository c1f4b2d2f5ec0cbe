use Rattle.std.proofs.Common.{◌∙◌, ℕ, List, subst}
use Rattle.std.proofs.lemmas.Result.{err_from_is_err_and}
use Rattle.command_answers.specs.Meaning.{end_at}
use Rattle.command_answers.specs.Steps.{Fails}
use Rattle.command_source.specs.Codes.{source_refusal}
use Rattle.command_source.specs.Means.{IsSourceFault}
use Rattle.command_source.specs.Source.{IsProgramOf}
use Rattle.command_source.proofs.OwnNames.{own_names}
use Rattle.command_source.proofs.Refused.{refused_source}
use Rattle.command_gen.specs.Layers.{network_top}
use Rattle.command_gen.proofs.program.network_program.Goals as goal

pub returns-clause-means : goal.returns-clause-means
returns-clause-means c = subst (λ (t : List ℕ). IsProgramOf t network_top c.in_ok-program.program) (c.deref.ensures.value ∙ c.in_ok-text.ensures.text) c.in_ok-program.ensures.found

pub returns-clause-names : goal.returns-clause-names
returns-clause-names c = own_names c.deref.result.now network_top c.in_ok-program.program c.in_ok-program.ensures.found

pub returns-in_err-program-clause-refused : goal.returns-in_err-program-clause-refused
returns-in_err-program-clause-refused c =
    let p = err_from_is_err_and c.from_residual-in_err-program.result c.from_residual-in_err-program.ensures.1 in
    rw (p.1, p.2) (subst (λ (t : List ℕ). Fails (IsSourceFault network_top t) (end_at (source_refusal c.in_err-program.field-0.0))) (c.deref.ensures.value ∙ c.in_ok-text.ensures.text)
    (refused_source c.deref.result.now network_top c.in_err-program.field-0.0 c.in_err-program.ensures.refused))
