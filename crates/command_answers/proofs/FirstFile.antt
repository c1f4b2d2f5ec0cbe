-- Commands whose first file is refused or taken.
use Rattle.std.proofs.Common.{◌≡◌, ◌≢◌, ◌⊎◌, ◌≤◌, ◌<◌, ℕ, List, [], length, true, false, Option, Some, None, refl, sym, ap, subst, inl, inr, ⊎_elim, arith}
use Rattle.std.specs.Prelude.{nat_le}
use Rattle.std.proofs.lemmas.Bool.Decides.{nat_tests}
use Rattle.tapa_files.specs.Outside.{Files, file_bytes}
use Rattle.tapa_files.specs.Take.{IsFileOf, IsLongerThan}
use Rattle.command_answers.proofs.Counts.{one_name}
use Rattle.command_answers.proofs.Texts.{fails}
use Rattle.command_answers.specs.Answer.{Answer, Refuses, IsRefusedFile, IsTaken}
use Rattle.command_answers.specs.Ends.{End, Meaning, ComesTo, Ends, IsReached, ReadsAsked, IsCarriedOut}
use Rattle.command_answers.specs.Files.{Held, Named, Made, Absent, Given, Bytes, TooMany, Unread, IsGiven, AreGiven, Asks, most_of}
use Rattle.command_answers.specs.Outside.{Store, Written, Outside}
use Rattle.command_answers.specs.Put.{put}
use Rattle.command_answers.specs.Refusal.{Refusal, Read}
use Rattle.command_answers.specs.Steps.{Fails}
use Rattle.command_answers.specs.declared.file.File.{File}
use Rattle.command_answers.specs.declared.file.File.TheVariants.{Source, Text, Dump, Data, Device}
use Rattle.tapa_base.proofs.Tests.{bool_cases, below}
use Rattle.vlog_tree.proofs.Labelled.{lt_of as above}

-- ---- what files give

given_in : (files : Option Files) (name : List ℕ) (most : ℕ) → ((bytes : List ℕ) × IsFileOf files name bytes × (length bytes ≤ most)) ⊎ IsLongerThan files name most
given_in None name most = inr tt
given_in (Some files) name most =
    ⊎_elim {C = ((bytes : List ℕ) × IsFileOf (Some files) name bytes × (length bytes ≤ most)) ⊎ IsLongerThan (Some files) name most}
    (λ (e : nat_le (length (file_bytes files name)) most ≡ true). inl (file_bytes files name, refl, below (length (file_bytes files name)) most e))
    (λ (e : nat_le (length (file_bytes files name)) most ≡ false). inr (above (length (file_bytes files name)) most e))
    (bool_cases (nat_le (length (file_bytes files name)) most))

-- each file gives something
pub some_given : (before after : Store) (held : Held) (most : ℕ) → (g : Given) × IsGiven before after held most g
some_given before after Absent most = (Bytes [], refl)
some_given before after (Made name text) most = (Bytes text, refl)
some_given before after (Named name) most = elim (given_in before.files name most) [ inl w ↦ (Bytes w.0, (w.1, w.2)) | inr w ↦ (TooMany, w) ]

pub put_at : (file : File) (g : Given) (gives : File → Given) → put file g gives file ≡ g
put_at Source g gives = refl
put_at Text g gives = refl
put_at Dump g gives = refl
put_at Data g gives = refl
put_at Device g gives = refl

-- what holds of a file with what it gives, and of each with what it gave, holds of each
pub put_given : (file : File) (g : Given) (gives : File → Given) (P : File → Given → Type 0) → P file g → ((o : File) → P o (gives o)) → (o : File) → P o (put file g gives o)
put_given Source g gives P h k Source = h
put_given Source g gives P h k Text = k Text
put_given Source g gives P h k Dump = k Dump
put_given Source g gives P h k Data = k Data
put_given Source g gives P h k Device = k Device
put_given Text g gives P h k Text = h
put_given Text g gives P h k Source = k Source
put_given Text g gives P h k Dump = k Dump
put_given Text g gives P h k Data = k Data
put_given Text g gives P h k Device = k Device
put_given Dump g gives P h k Dump = h
put_given Dump g gives P h k Source = k Source
put_given Dump g gives P h k Text = k Text
put_given Dump g gives P h k Data = k Data
put_given Dump g gives P h k Device = k Device
put_given Data g gives P h k Data = h
put_given Data g gives P h k Source = k Source
put_given Data g gives P h k Text = k Text
put_given Data g gives P h k Dump = k Dump
put_given Data g gives P h k Device = k Device
put_given Device g gives P h k Device = h
put_given Device g gives P h k Source = k Source
put_given Device g gives P h k Text = k Text
put_given Device g gives P h k Dump = k Dump
put_given Device g gives P h k Data = k Data

unnamed : (m n : List ℕ) → m ≢ n → Named m ≢ Named n
unnamed m n apart e = apart cc

-- a file is held under a name or not
pub one_held : (h : Held) (name : List ℕ) → (h ≡ Named name) ⊎ (h ≢ Named name)
one_held Absent name = inr (λ e. absurd cc)
one_held (Made own text) name = inr (λ e. absurd cc)
one_held (Named own) name =
    ⊎_elim {C = (Named own ≡ Named name) ⊎ (Named own ≢ Named name)} (λ (e : own ≡ name). inl (ap Named e)) (λ (apart : own ≢ name). inr (unnamed own name apart)) (one_name own name)

-- ---- the outside

-- the outside whose files and output are these
abbrev pub at : Store → Written → Outside
at store out = record { store = store; out = out }

module _ (held : File → Held) (before after : Store) where
  abbrev pub some : File → Given
  some o = (some_given before after (held o) (most_of o)).0

  pub some_are : AreGiven before after held some
  some_are o = (some_given before after (held o) (most_of o)).1

  -- a file gives this, and the others what they give
  pub are_with : (file : File) (g : Given) (gives : File → Given) → IsGiven before after (held file) (most_of file) g → AreGiven before after held gives → AreGiven before after held (put file g gives)
  are_with file g gives h k = put_given file g gives (λ o x. IsGiven before after (held o) (most_of o) x) h k

-- ---- the first file

module _ (held : File → Held) (Means : Meaning) (file : File) (before after : Store) where
  abbrev IsHere : Given → Type 0
  IsHere g = IsGiven before after (held file) (most_of file) g

  abbrev by : Given → File → Given
  by g = put file g (some held before after)

  are : (g : Given) → IsHere g → AreGiven before after held (by g)
  are g h = are_with held before after file g (some held before after) h (some_are held before after)

  -- what the command comes to by what was taken from the file
  pub first_comes : {A : Type 0} (Gives : List ℕ → A → Type 0) (x : A) (answer : Answer) → ((given : Given) × IsHere given × IsTaken given Gives x)
      → ((gives : File → Given) → IsTaken (gives file) Gives x → Means gives answer) → ComesTo held Means before after answer
  first_comes {A = A} Gives x answer (g, h, taken) means =
      (by g, are g h, means (by g) (subst (λ (k : Given). IsTaken {A = A} k Gives x) (sym (put_at file g (some held before after))) taken))

  module _ (Faulty : List ℕ → Refusal → Type 0) (first : (gives : File → Given) (why : Refusal) → IsRefusedFile file (gives file) Faulty why → Means gives (Refuses why)) where
    refused : (gives : File → Given) (why : Refusal) (g : Given) → gives file ≡ g → IsRefusedFile file g Faulty why → Means gives (Refuses why)
    refused gives why g e w = first gives why (subst (λ (k : Given). IsRefusedFile file k Faulty why) (sym e) w)

    pub first_ends : (end : End) → Fails (λ why. (given : Given) × IsHere given × IsRefusedFile file given Faulty why) end → (out : Written) → Ends (ComesTo held Means before after) out out end
    first_ends end h out =
        fails (ComesTo held Means before after) (λ why. (given : Given) × IsHere given × IsRefusedFile file given Faulty why)
        (λ why w. (by w.0, are w.0 w.1, refused (by w.0) why w.0 (put_at file w.0 (some held before after)) w.2)) end h out

    pub first_reached : (name : List ℕ) → held file ≡ Named name → IsReached held Means before after name
    first_reached name is = record {
      file = file;
      is = is;
      gives = by Unread;
      unread = put_at file Unread (some held before after);
      others =
          put_given file Unread (some held before after) (λ o x. o ≢ file → IsGiven before after (held o) (most_of o) x) (λ n. absurd (n refl)) (λ o n. some_are held before after o);
      means = refused (by Unread) (Read file) Unread (put_at file Unread (some held before after)) refl;
    }

    -- a command that read this file alone
    pub first_asked : Asks before after (held file) → ReadsAsked held Means before after
    first_asked asks = record {
      same_files = asks.same_files;
      asked = λ n.
          ⊎_elim {C = (after.failed n ≡ before.failed n) ⊎ IsReached held Means before after n}
          (λ (e : held file ≡ Named n). inr (first_reached n e))
          (λ (k : held file ≢ Named n). inl (asks.others n k))
          (one_held (held file) n);
    }

    -- a command whose first file was refused
    pub first_refused : (end : End) → Fails (λ why. (given : Given) × IsHere given × IsRefusedFile file given Faulty why) end → Asks before after (held file) → (out : Written) → IsCarriedOut held Means (at before out) (at after out) end
    first_refused end h asks out = record { ends = first_ends end h out; reads = first_asked asks }
