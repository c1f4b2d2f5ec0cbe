-- Commands that have read a first file and ask for a second one.
use Rattle.std.proofs.Common.{◌≡◌, ◌≢◌, ◌⊎◌, ◌≤◌, ℕ, List, Option, refl, sym, ◌∙◌, subst, inl, inr, ⊎_elim}
use Rattle.tapa_files.specs.Outside.{Files}
use Rattle.tapa_files.specs.Take.{IsFileOf, IsLongerThan}
use Rattle.command_answers.proofs.Counts.{rose_since}
use Rattle.command_answers.proofs.Texts.{fails}
use Rattle.command_answers.proofs.FirstFile.{put_at, put_given, one_held, some, some_are, are_with, at, first_reached}
use Rattle.command_answers.specs.Answer.{Answer, Refuses, IsRefusedFile, IsTaken}
use Rattle.command_answers.specs.Ends.{End, Meaning, ComesTo, Ends, IsReached, ReadsAsked, IsCarriedOut}
use Rattle.command_answers.specs.Files.{Held, Named, Made, Absent, Given, Bytes, TooMany, Unread, IsGiven, AreGiven, Asks, most_of}
use Rattle.command_answers.specs.Outside.{Store, Written}
use Rattle.command_answers.specs.Put.{put}
use Rattle.command_answers.specs.Refusal.{Refusal, Read}
use Rattle.command_answers.specs.Steps.{Fails}
use Rattle.command_answers.specs.declared.file.File.{File}

put_other : (file other : File) (g : Given) (gives : File → Given) → other ≢ file → put file g gives other ≡ gives other
put_other file other g gives apart = put_given file g gives (λ o x. o ≢ file → x ≡ gives o) (λ n. absurd (n refl)) (λ o n. refl) other apart

-- what was taken of a file before others were asked for
kept : {A : Type 0} (before mid after : Store) (Gives : List ℕ → A → Type 0) (x : A) (h : Held) (most : ℕ) (g : Given) → IsGiven before mid h most g → IsTaken g Gives x → IsGiven before after h most g
kept before mid after Gives x (Named name) most (Bytes bytes) given taken = given
kept before mid after Gives x (Made name text) most g given taken = given
kept before mid after Gives x Absent most g given taken = given
kept before mid after Gives x (Named name) most TooMany given taken = absurd taken
kept before mid after Gives x (Named name) most Unread given taken = absurd taken

-- what a file gave after others were asked for
brought : (before mid after : Store) → mid.files ≡ before.files → ((name : List ℕ) → before.failed name ≤ mid.failed name) → (h : Held) (most : ℕ) (g : Given) → IsGiven mid after h most g → IsGiven before after h most g
brought before mid after same later (Named name) most (Bytes bytes) given = (subst (λ (f : Option Files). IsFileOf f name bytes) same given.0, given.1)
brought before mid after same later (Named name) most TooMany given = subst (λ (f : Option Files). IsLongerThan f name most) same given
brought before mid after same later (Named name) most Unread given = rose_since (before.failed name) (mid.failed name) (after.failed name) (later name) given
brought before mid after same later (Made name text) most g given = given
brought before mid after same later Absent most g given = given

module _ (held : File → Held) (Means : Meaning) (file other : File) (apart : file ≢ other) (before mid after : Store) (asks : Asks before mid (held file)) (asks_also : Asks mid after (held other)) {A : Type 0} (Gives : List ℕ → A → Type 0) (x : A) (taken : (given : Given) × IsGiven before mid (held file) (most_of file) given × IsTaken given Gives x) where
  abbrev base : File → Given
  base = put file taken.0 (some held before after)

  base_are : AreGiven before after held base
  base_are =
      are_with held before after file taken.0 (some held before after) (kept {A = A} before mid after Gives x (held file) (most_of file) taken.0 taken.1 taken.2) (some_are held before after)

  abbrev by : Given → File → Given
  by g = put other g base

  abbrev IsThere : Given → Type 0
  IsThere g = IsGiven mid after (held other) (most_of other) g

  are : (g : Given) → IsThere g → AreGiven before after held (by g)
  are g h = are_with held before after other g base (brought before mid after asks.same_files asks.later (held other) (most_of other) g h) base_are

  taken_by : (g : Given) → IsTaken (by g file) Gives x
  taken_by g = subst (λ (k : Given). IsTaken {A = A} k Gives x) (sym (put_other other file g base apart ∙ put_at file taken.0 (some held before after))) taken.2

  -- what the command comes to by what was taken from both
  pub further_comes : {B : Type 0} (Gives' : List ℕ → B → Type 0) (y : B) (answer : Answer) → ((given : Given) × IsThere given × IsTaken given Gives' y)
      → ((gives : File → Given) → IsTaken (gives file) Gives x → IsTaken (gives other) Gives' y → Means gives answer) → ComesTo held Means before after answer
  further_comes {B = B} Gives' y answer (g, h, also) means =
      (by g, are g h, means (by g) (taken_by g) (subst (λ (k : Given). IsTaken {A = B} k Gives' y) (sym (put_at other g base)) also))

  module _ (Faulty' : List ℕ → Refusal → Type 0) (first : (gives : File → Given) (why : Refusal) → IsRefusedFile file (gives file) Faulty' why → Means gives (Refuses why))
      (Faulty : List ℕ → Refusal → Type 0) (further : (gives : File → Given) (why : Refusal) → IsTaken (gives file) Gives x → IsRefusedFile other (gives other) Faulty why → Means gives (Refuses why)) where
    refused : (why : Refusal) (g : Given) → IsRefusedFile other g Faulty why → Means (by g) (Refuses why)
    refused why g w = further (by g) why (taken_by g) (subst (λ (k : Given). IsRefusedFile other k Faulty why) (sym (put_at other g base)) w)

    pub further_ends : (end : End) → Fails (λ why. (given : Given) × IsThere given × IsRefusedFile other given Faulty why) end → (out : Written) → Ends (ComesTo held Means before after) out out end
    further_ends end h out =
        fails (ComesTo held Means before after) (λ why. (given : Given) × IsThere given × IsRefusedFile other given Faulty why)
        (λ why w. (by w.0, are w.0 w.1, refused why w.0 w.2)) end h out

    reached : (name : List ℕ) → held other ≡ Named name → IsReached held Means before after name
    reached name is = record {
      file = other;
      is = is;
      gives = by Unread;
      unread = put_at other Unread base;
      others = put_given other Unread base (λ o g. o ≢ other → IsGiven before after (held o) (most_of o) g) (λ n. absurd (n refl)) (λ o n. base_are o);
      means = refused (Read other) Unread refl;
    }

    one_of : (name : List ℕ) → (after.failed name ≡ before.failed name) ⊎ IsReached held Means before after name
    one_of name =
        ⊎_elim {C = (after.failed name ≡ before.failed name) ⊎ IsReached held Means before after name}
        (λ (e : held other ≡ Named name). inr (reached name e))
        (λ (k : held other ≢ Named name).
        ⊎_elim {C = (after.failed name ≡ before.failed name) ⊎ IsReached held Means before after name}
        (λ (e : held file ≡ Named name). inr (first_reached held Means file before after Faulty' first name e))
        (λ (n : held file ≢ Named name). inl (asks_also.others name k ∙ asks.others name n))
        (one_held (held file) name))
        (one_held (held other) name)

    -- a command that read both files
    pub further_asked : ReadsAsked held Means before after
    further_asked = record { same_files = asks_also.same_files ∙ asks.same_files; asked = one_of }

    -- a command whose second file was refused
    pub further_refused : (end : End) → Fails (λ why. (given : Given) × IsThere given × IsRefusedFile other given Faulty why) end → (out : Written) → IsCarriedOut held Means (at before out) (at after out) end
    further_refused end h out = record { ends = further_ends end h out; reads = further_asked }
