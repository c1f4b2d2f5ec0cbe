-- The states of a machine by their forms.
use Rattle.std.proofs.Common.{◌≡◌, ℕ, suc, ◌<◌, List, [], ◌∷◌, length, get_or, refl, sym, ap, ◌∙◌}
use Rattle.std.proofs.lemmas.List.{get_or-map}
use Rattle.task_fsm.specs.declared.machine.State.{State}
use Rattle.task_fsm.specs.Machine.{TrapAt, form_of, forms_of}

pub count_is : (states : List State) → length (forms_of states) ≡ length states
count_is [] = refl
count_is (s ∷ states) = ap suc (count_is states)

pub form_is : (states : List State) (k : ℕ) (s : State) → k < length states → s ≡ get_or states k s → form_of s ≡ get_or (forms_of states) k TrapAt
form_is states k s h e = ap form_of e ∙ sym (get_or-map form_of states k s TrapAt h)
