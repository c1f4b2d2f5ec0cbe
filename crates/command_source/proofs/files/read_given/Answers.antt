use Rattle.std.proofs.Common.{◌≡◌, ℕ, List, None, refl, sym, subst}
use Rattle.std.specs.Prelude.{option_map}
use Rattle.std.proofs.lemmas.Result.{err_from_is_err_and}
use Rattle.tapa_base.specs.declared.shape.Shape.{Shape}
use Rattle.run_data.specs.Answer.{IsDataOf}
use Rattle.run_data.specs.declared.data.Data.{Data}
use Rattle.command_answers.specs.Files.{Named, data_held, no_data}
use Rattle.command_answers.specs.Outside.{store}
use Rattle.command_answers.specs.Steps.{Took}
use Rattle.command_answers.specs.declared.file.File.TheVariants as role
use Rattle.command_answers.proofs.Taking.{took_nothing, took_of, took_from}
use Rattle.command_source.specs.Means.{IsDataFault}
use Rattle.command_source.proofs.files.read_given.Goals as goal

pub returns-in-None-clause-took : goal.returns-in-None-clause-took
returns-in-None-clause-took g c =
    let here = store g.S.Shelf c.args.shelf.now in
    subst (λ n. Took here here role.Data (data_held (option_map (λ file. file.now) n)) (IsDataFault (λ (s : Shape). s ≡ c.args.shape.now)) (λ (bytes : List ℕ) (given : Data). IsDataOf bytes c.args.shape.now given) c.given_by.result) (sym c.in-None.is)
    (took_of here here role.Data (data_held None) (IsDataFault (λ (s : Shape). s ≡ c.args.shape.now)) (λ (bytes : List ℕ) (given : Data). IsDataOf bytes c.args.shape.now given) no_data refl c.given_by.result
    (rw c.as_bytes.ensures.value at c.given_by.ensures.gives) (rw c.as_bytes.ensures.value at c.given_by.ensures.refused))

pub returns-in_err-text-in-Some-clause-took : goal.returns-in_err-text-in-Some-clause-took
returns-in_err-text-in-Some-clause-took g c =
    let before = store g.S.Shelf c.args.shelf.now in
    let after = store g.S.Shelf c.read_file.new.shelf in
    let p = err_from_is_err_and c.from_residual.result c.from_residual.ensures.1 in
    rw (p.1, p.2, c.in-Some.is) (took_nothing before after role.Data (Named c.in-Some.file.now) (IsDataFault (λ (s : Shape). s ≡ c.args.shape.now)) (λ (bytes : List ℕ) (given : Data). IsDataOf bytes c.args.shape.now given) c.in_err-text-in-Some.field-0.0 c.in_err-text-in-Some.ensures.took)

pub returns-in_ok-text-in-Some-clause-took : goal.returns-in_ok-text-in-Some-clause-took
returns-in_ok-text-in-Some-clause-took g c =
    let before = store g.S.Shelf c.args.shelf.now in
    let after = store g.S.Shelf c.read_file.new.shelf in
    rw c.in-Some.is (took_from before after role.Data (Named c.in-Some.file.now) (IsDataFault (λ (s : Shape). s ≡ c.args.shape.now)) (λ (bytes : List ℕ) (given : Data). IsDataOf bytes c.args.shape.now given)
    c.in_ok-text-in-Some.text c.in_ok-text-in-Some.ensures.took c.given_by-in-Some.result (rw c.deref.ensures.value at c.given_by-in-Some.ensures.gives) (rw c.deref.ensures.value at c.given_by-in-Some.ensures.refused))
