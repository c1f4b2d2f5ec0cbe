-- Known files of which no read fails give one thing, so that each answer of a command that means one thing is told.
use Rattle.std.proofs.Common.{◌≡◌, ◌≤◌, ◌<◌, ℕ, List, length, Option, Some, refl, sym, ap, ◌∙◌, subst, inl, inr, arith}
use Rattle.std.proofs.Math.Path.{fun_ext}
use Rattle.tapa_files.specs.Outside.{Files, file_bytes, Rose}
use Rattle.tapa_files.specs.Take.{IsFileOf, IsLongerThan}
use Rattle.command_answers.specs.Answer.{Answer}
use Rattle.command_answers.specs.Files.{Held, Named, Made, Absent, Given, Bytes, TooMany, Unread, IsGiven, AreGiven, most_of}
use Rattle.command_answers.specs.Outside.{Store}
use Rattle.command_answers.specs.declared.file.File.{File}
use Rattle.tapa_drive.specs.Answer.{IsWhole}
use Rattle.tapa_drive.specs.Means.{held_of, Means}
use Rattle.tapa_laws.specs.commands.KnownFiles.{KnownFilesDecideTheAnswer}

over : (n most : ℕ) → n ≤ most → most < n → ⊥
over n most few many = omega arith

module _ (before after : Store) (files : Files) (known : before.files ≡ Some files) (most : ℕ) where
  is_file : (name bytes : List ℕ) → IsFileOf before.files name bytes → bytes ≡ file_bytes files name
  is_file name bytes h = subst (λ (f : Option Files). IsFileOf f name bytes) known h

  is_long : (name : List ℕ) → IsLongerThan before.files name most → most < length (file_bytes files name)
  is_long name h = subst (λ (f : Option Files). IsLongerThan f name most) known h

  not_both : (name bytes : List ℕ) → IsFileOf before.files name bytes → length bytes ≤ most → IsLongerThan before.files name most → ⊥
  not_both name bytes is few many = over (length (file_bytes files name)) most (subst (λ (l : List ℕ). length l ≤ most) (is_file name bytes is) few) (is_long name many)

  -- a file that is held so gives one thing
  one_given : (h : Held) → ((name : List ℕ) → h ≡ Named name → Rose (before.failed name) (after.failed name) → ⊥) → (g k : Given) → IsGiven before after h most g → IsGiven before after h most k → g ≡ k
  one_given (Made name text) still g k p q = p ∙ sym q
  one_given Absent still g k p q = p ∙ sym q
  one_given (Named name) still Unread k p q = absurd (still name refl p)
  one_given (Named name) still (Bytes bytes) Unread p q = absurd (still name refl q)
  one_given (Named name) still TooMany Unread p q = absurd (still name refl q)
  one_given (Named name) still (Bytes bytes) (Bytes other) p q = ap Bytes (is_file name bytes p.0 ∙ sym (is_file name other q.0))
  one_given (Named name) still (Bytes bytes) TooMany p q = absurd (not_both name bytes p.0 p.1 q)
  one_given (Named name) still TooMany (Bytes bytes) p q = absurd (not_both name bytes q.0 q.1 p)
  one_given (Named name) still TooMany TooMany p q = refl

pub known_files_decide : KnownFilesDecideTheAnswer
known_files_decide = λ words before after errors told status files decided known c asked one still gives are answer means.
    elim (decided.command c asked still) [
      | inl w ↦ (
          let same : w.1.0 ≡ gives = fun_ext (λ file. one_given before.store after.store files known (most_of file) (held_of c file) (λ name e. still.reads file name e) (w.1.0 file) (gives file) (w.1.1 file) (are file)) in
          let is : w.0 ≡ answer = one gives w.0 answer (subst (λ (f : File → Given). Means c f w.0) same w.1.2) means in
          inl (subst (λ (a : Answer). IsWhole (held_of c) a status before.out after.out errors told) is w.2))
      | inr m ↦ inr m
    ]
