-- What `vcd` shows of a net of a dump is one text, or one refusal.
use Rattle.std.proofs.Common.{◌≡◌, ◌≤◌, ◌<◌, ℕ, zero, suc, List, [], ◌++◌, length, Some, refl, sym, ap, subst, ◌∙◌, arith}
use Rattle.std.specs.Prelude.{not, ◌==◌, if◌then◌else◌, slice_get}
use Rattle.std.proofs.lemmas.Option.{slice_get_within}
use Rattle.vcd_text.specs.Dump.{IsDump}
use Rattle.vcd_text.specs.NetLines.{IsNetShown, HasNoNet, value_line, value_lines}
use Rattle.vcd_text.specs.Nets.{Net}
use Rattle.vcd_text.proofs.NoDump.{dump_or_none, none_once}
use Rattle.vcd_text.proofs.OneDump.{one_dump}
use Rattle.command_answers.specs.Answer.{Answer, Puts}
use Rattle.command_answers.specs.Files.{Given}
use Rattle.command_answers.specs.Refusal as refusal
use Rattle.command_answers.specs.Refusal.{Refusal, DumpFault, NoDump, NoNet}
use Rattle.command_answers.specs.declared.file.File.{File}
use Rattle.command_answers.specs.declared.file.File.TheVariants as role
use Rattle.command_vcd.specs.Means.{IsWrongDump, IsDumpFault, MeansVcd}
use Rattle.tapa_laws.proofs.commands.OneStep.{one_step}
use Rattle.sim_output.proofs.AreDumps.{value_lines_same as same_lines}

is_dump : (text name told : List ℕ) → IsNetShown text name told → IsDump text
is_dump text name told h = record { top = h.top; nets = h.nets; values = h.values; last = h.last; dump = h.dump }

dump_of_none : (text name : List ℕ) → HasNoNet text name → IsDump text
dump_of_none text name h = record { top = h.top; nets = h.nets; values = h.values; last = h.last; dump = h.dump }

module _ (text net : List ℕ) where
  one_fault : (fault other : DumpFault) → IsWrongDump text net fault → IsWrongDump text net other → fault ≡ other
  one_fault (NoDump place) (NoDump there) h k = ap NoDump (none_once text place there h k)
  one_fault (NoDump place) (NoNet name) h k = absurd (dump_or_none text place (dump_of_none text net k.1) h)
  one_fault (NoNet name) (NoDump there) h k = absurd (dump_or_none text there (dump_of_none text net h.1) k)
  one_fault (NoNet name) (NoNet other) h k = ap NoNet (h.0 ∙ sym k.0)

  fault_once : (why other : Refusal) → IsDumpFault net text why → IsDumpFault net text other → why ≡ other
  fault_once why other (fault, h, e) (again, k, f) = e ∙ ap refusal.Dump (one_fault fault again h k) ∙ sym f

  not_shown : (fault : DumpFault) (told : List ℕ) → IsWrongDump text net fault → IsNetShown text net told → ⊥
  not_shown (NoDump place) told h k = dump_or_none text place (is_dump text net told k) h
  not_shown (NoNet name) told h k =
      let same = one_dump h.1.top k.top h.1.nets k.nets h.1.values k.values h.1.last k.last text h.1.dump k.dump in
      h.1.none k.place k.net (subst (λ (nets : List Net). slice_get nets k.place ≡ Some k.net) (sym same.same_nets) k.at) k.named

  never_shown : (why : Refusal) (told : List ℕ) → IsDumpFault net text why → IsNetShown text net told → ⊥
  never_shown why told (fault, h, e) k = not_shown fault told h k

  lines_once : (told more : List ℕ) → IsNetShown text net told → IsNetShown text net more → told ≡ more
  lines_once told more h k =
      let same = one_dump h.top k.top h.nets k.nets h.values k.values h.last k.last text h.dump k.dump in
      let at : slice_get h.nets k.place ≡ Some k.net = subst (λ (nets : List Net). slice_get nets k.place ≡ Some k.net) (sym same.same_nets) k.at in
      let place : h.place ≡ k.place = h.dump.are_nets.own h.place k.place h.net k.net h.at at (h.named ∙ sym k.named) in
      let inside : k.place < length h.nets = slice_get_within h.nets k.place k.net at in
      h.is
      ∙ (ap (λ (p : ℕ). value_lines (λ n. h.values n p) h.last) place
      ∙ (same_lines (λ n. h.values n k.place) (λ n. k.values n k.place) h.last (λ n few. same.same_values n k.place few inside)
      ∙ (ap (value_lines (λ n. k.values n k.place)) same.same_last ∙ sym k.is)))

pub net_once : (net : List ℕ) (gives : File → Given) (a b : Answer) → MeansVcd net gives a → MeansVcd net gives b → a ≡ b
net_once net gives a b =
    one_step role.Dump (IsDumpFault net) (IsDumpFault net) (λ text told. IsNetShown text net told) (λ text told. IsNetShown text net told) (λ x y. x ≡ y) (λ why. refl)
    (λ text. fault_once text net) (λ text. never_shown text net) (λ text. never_shown text net) (gives role.Dump) (λ told answer. answer ≡ Puts told) (λ told answer. answer ≡ Puts told)
    (λ text told more x y h k e f. e ∙ ap Puts (lines_once text net told more h k) ∙ sym f) a b
