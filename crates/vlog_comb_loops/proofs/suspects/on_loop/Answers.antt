use Rattle.std.proofs.Common.{◌≡◌, ◌∙◌, ℕ, arith, rules, sym, ap, subst, refl, inl, inr, true, List, [], ◌∷◌, length, None, get_or}
use Rattle.std.specs.Prelude.{◌==◌}
use Rattle.std.proofs.lemmas.Bool.Decides.{nat_tests}
use Rattle.std.proofs.lemmas.List.{take_all, get_or_default}
use Rattle.tapa_base.specs.Lists.{Has}
use Rattle.vlog_tree.specs.Loops.{port_of}
use Rattle.vlog_comb_loops.specs.declared.suspects.Suspect.{Suspect}
use Rattle.vlog_comb_loops.specs.Questions.{Question, asked_of}
use Rattle.vlog_comb_loops.specs.Search.{LoopsBy}
use Rattle.tapa_base.proofs.Lists.{taken_split}
use Rattle.vlog_comb_loops.proofs.Searching.{lies_not}
use Rattle.vlog_comb_loops.proofs.Asking.{no_suspect}
use Rattle.vlog_comb_loops.proofs.suspects.on_loop.Goals as goal

zero_of : (n : ℕ) → (n == 0) ≡ true → n ≡ 0
zero_of n h = grind (arith, nat_tests)

none_there : (xs : List Suspect) → (length xs == 0) ≡ true → (s : Suspect) → Has xs s → ⊥
none_there [] e s h = h
none_there (x ∷ xs) e s h = let none : length (x ∷ xs) ≡ 0 = zero_of (length (x ∷ xs)) e in absurd (omega (arith, none))

pub returns-then-is_empty : goal.returns-then-is_empty
returns-then-is_empty c = λ is_top ev.
    let loops = c.args.loops.now in
    let empty : (length loops.suspects.items == 0) ≡ true = search rules in (
      λ e. cc,
      λ lies. absurd (lies_not c.args.library.now is_top c.args.owner.now c.args.name.now loops ev (λ s has v l. none_there loops.suspects.items empty s has) lies),
    )

pub returns-then-found : goal.returns-then-found
returns-then-found c = λ is_top ev. (λ _. c.in_ok-found.ensures.right is_top ev c.if-found.true, λ _. refl)

pub loop-question-preserved : goal.loop-question-preserved
loop-question-preserved c = λ is_top ev e has by.
    let items = c.of_name-question-items.result.now in
    let i = c.loop-question.question-index in
    let low = c.loop-question-test.true in
    let question : Question = get_or items i (0, None) in
    elim (taken_split items i question e low (get_or_default items i (0, None) question low) has) [
      | inl l ↦ c.loop-question.invariant is_top ev e l by
      | inr same ↦ (let yes : c.in_ok-found.found ≡ true = c.in_ok-found.ensures.found is_top ev
          (subst (λ (z : Question). LoopsBy c.args.library.now is_top c.args.loops.now.suspects.items c.args.owner.now c.args.name.now z) (sym same) by) in cc (yes, c.if-found.false))
    ]

pub returns : goal.returns
returns c = λ is_top ev.
    let ms = c.args.library.now in
    let m = c.args.owner.now in
    let x = c.args.name.now in
    let loops = c.args.loops.now in
    let all = take_all c.loop-question.question-index c.of_name-question-items.result.now c.loop-question-test.false in
    let key : c.deref.result.now ≡ port_of m x = search rules in
    let none = λ (e : Question) (has : Has (asked_of loops.questions (port_of m x)) e) (by : LoopsBy ms is_top loops.suspects.items m x e).
    c.loop-question.invariant is_top ev e (subst (λ (l : List Question). Has l e) (ap (asked_of loops.questions) (sym key) ∙ sym c.of_name-question-items.ensures ∙ sym all) has) by in
    (λ e. cc, λ lies. absurd (lies_not ms is_top m x loops ev (no_suspect ms is_top m x loops ev none) lies))
