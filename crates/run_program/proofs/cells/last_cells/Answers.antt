use Rattle.std.proofs.Common.{◌≡◌, ℕ, List, length, Option, Some, None, refl, sym, ap, subst, ◌∙◌}
use Rattle.std.specs.Prelude.{MatchOption, slice_get}
use Rattle.std.proofs.lemmas.Option.{slice_get_read}
use Rattle.tapa_syntax.specs.declared.program.Program.{Program}
use Rattle.kahn_model.specs.Cells.{cells_at}
use Rattle.net_core.specs.Bounded.{scalars_of, memories_of}
use Rattle.net_core.specs.declared.input.Input.{Input}
use Rattle.net_core.specs.State.{count}
use Rattle.run_program.specs.Run.{IsNotBound}
use Rattle.run_program.proofs.LastCells.{absent, instance_is, unlisted, listed}
use Rattle.run_program.proofs.cells.last_cells.Goals as goal

matched_none : {A : Type 0} (N : Type 0) (P : A → Type 0) (o : Option A) → o ≡ None → MatchOption o N P → N
matched_none N P None e h = h
matched_none N P (Some x) e h = absurd cc

matched_some : {A : Type 0} (N : Type 0) (P : A → Type 0) (o : Option A) (x : A) → o ≡ Some x → MatchOption o N P → P x
matched_some N P None x e h = absurd cc
matched_some {A} N P (Some y) x e h = let same : y ≡ x = cc in subst P same h

pub returns-in_default : goal.returns-in_default
returns-in_default c =
    let items = c.args.program.now.memories.items in
    let at = slice_get_read items (length items) c.args.m c.index.result.now refl c.requires.memory c.index.ensures in
    absent c.args.program.now (scalars_of c.args.input.now) (memories_of c.args.input.now) (count c.args.net.now) c.args.m c.index.result.now at c.deref.result.now c.deref.ensures.value c.in_default.ensures.lookup.3 c.first_cells.result.now c.first_cells.ensures

pub returns-in-None : goal.returns-in-None
returns-in-None c =
    let items = c.args.program.now.memories.items in
    let at = slice_get_read items (length items) c.args.m c.index.result.now refl c.requires.memory c.index.ensures in
    let there = instance_is c.args.program.now (scalars_of c.args.input.now) (memories_of c.args.input.now) (count c.args.net.now) c.args.m c.index.result.now at c.deref.result.now c.in-Some.instance.now c.deref.ensures.value c.in-Some.ensures.lookup.3.0 c.in-Some.ensures.lookup.1 in
    let none = matched_none (IsNotBound c.deref-2.result.now c.args.m) (λ p. slice_get c.deref-2.result.now p ≡ Some c.args.m) c.in_ok-bound_position.field-0 c.in-None.is c.in_ok-bound_position.ensures in
    unlisted c.args.program.now (scalars_of c.args.input.now) (memories_of c.args.input.now) (count c.args.net.now) c.args.m c.index.result.now at c.in-Some.instance.now there (subst (λ (l : List ℕ). IsNotBound l c.args.m) c.deref-2.ensures.value none) c.first_cells-in-None.result.now c.first_cells-in-None.ensures

pub returns-in-Some-2 : goal.returns-in-Some-2
returns-in-Some-2 c =
    let items = c.args.program.now.memories.items in
    let net = c.args.net.now in
    let at = slice_get_read items (length items) c.args.m c.index.result.now refl c.requires.memory c.index.ensures in
    let there = instance_is c.args.program.now (scalars_of c.args.input.now) (memories_of c.args.input.now) (count net) c.args.m c.index.result.now at c.deref.result.now c.in-Some.instance.now c.deref.ensures.value c.in-Some.ensures.lookup.3.0 c.in-Some.ensures.lookup.1 in
    let bound = matched_some (IsNotBound c.deref-2.result.now c.args.m) (λ p. slice_get c.deref-2.result.now p ≡ Some c.args.m) c.in_ok-bound_position.field-0 c.in-Some-2.position c.in-Some-2.is c.in_ok-bound_position.ensures in
    let found =
    listed net c.valid.ensures c.args.m c.in-Some-2.position c.index.result.now c.in-Some.instance.now c.body.result.now c.memory.result.now (ap (λ (q : Program). slice_get q.memories.items c.args.m) (sym c.requires.program) ∙ at) (ap (λ (q : Program). slice_get q.instances.items c.index.result.now.owner) (sym c.requires.program) ∙ there)
    (ap (λ (l : List ℕ). slice_get l c.in-Some-2.position) (sym c.deref-2.ensures.value) ∙ bound) c.body.ensures c.memory.ensures in
    found
    ∙ ap (λ (q : Program). cells_at q (scalars_of net.input) (memories_of net.input) (count net) c.args.m) (sym c.requires.program)
    ∙ ap (λ (i : Input). cells_at c.args.program.now (scalars_of i) (memories_of i) (count net) c.args.m) (sym c.requires.input)
