-- Steps that take something from the bytes of a file.
use Rattle.std.proofs.Common.{◌≡◌, ℕ, List, Vec, Result, Ok, Err, IfOk, IfErr, subst, sym}
use Rattle.std.specs.declared.alloc.Global.{Global}
use Rattle.command_answers.specs.Answer.{IsRefusedFile, IsTaken}
use Rattle.command_answers.specs.Ends.{End, Done, Refused, Unwritten, NoMemory, Usage}
use Rattle.command_answers.specs.Files.{Held, Given, Bytes, TooMany, Unread, IsGiven, most_of}
use Rattle.command_answers.specs.Meaning.{end_at}
use Rattle.command_answers.specs.Outside.{Store}
use Rattle.command_answers.specs.Refusal.{Refusal}
use Rattle.command_answers.specs.Steps.{Fails, Took}
use Rattle.command_answers.specs.declared.file.File.{File}
use Rattle.command_answers.specs.declared.refusal.Refusal.{Refusal as CodeRefusal}

-- a step is refused for one reason, so for a wider one
pub fails_also : (P Q : Refusal → Type 0) → ((why : Refusal) → P why → Q why) → (end : End) → Fails P end → Fails Q end
fails_also P Q f (Refused why) h = f why h
fails_also P Q f NoMemory h = tt
fails_also P Q f Done h = absurd h
fails_also P Q f Unwritten h = absurd h
fails_also P Q f Usage h = absurd h

-- what is taken of a file gives more
pub taken_also : {A B : Type 0} (Gives : List ℕ → A → Type 0) (Gives' : List ℕ → B → Type 0) (x : A) (y : B) → ((bytes : List ℕ) → Gives bytes x → Gives' bytes y) → (given : Given) → IsTaken given Gives x → IsTaken given Gives' y
taken_also Gives Gives' x y f (Bytes bytes) h = f bytes h
taken_also Gives Gives' x y f TooMany h = absurd h
taken_also Gives Gives' x y f Unread h = absurd h

module _ (before after : Store) (file : File) (held : Held) where
  -- why nothing is taken of the file
  abbrev Why : (List ℕ → Refusal → Type 0) → Refusal → Type 0
  Why Faulty why = (given : Given) × IsGiven before after held (most_of file) given × IsRefusedFile file given Faulty why

  why_also : (Faulty Also : List ℕ → Refusal → Type 0) → ((bytes : List ℕ) (why : Refusal) → Faulty bytes why → Also bytes why) → (why : Refusal) → Why Faulty why → Why Also why
  why_also Faulty Also f why (Bytes bytes, h, w) = (Bytes bytes, h, f bytes why w)
  why_also Faulty Also f why (TooMany, h, w) = (TooMany, h, w)
  why_also Faulty Also f why (Unread, h, w) = (Unread, h, w)

  -- a file that is refused is so in other words
  pub took_refused : {A B : Type 0} (Faulty Also : List ℕ → Refusal → Type 0) (Gives : List ℕ → A → Type 0) (Gives' : List ℕ → B → Type 0)
      → ((bytes : List ℕ) (why : Refusal) → Faulty bytes why → Also bytes why) → (r : CodeRefusal) → Took before after file held Faulty Gives (Err r) → Took before after file held Also Gives' (Err r)
  took_refused Faulty Also Gives Gives' f r h = fails_also (Why Faulty) (Why Also) (why_also Faulty Also f) (end_at r) h

  -- what is taken of a file gives more
  pub took_also : {A B : Type 0} (Faulty Also : List ℕ → Refusal → Type 0) (Gives : List ℕ → A → Type 0) (Gives' : List ℕ → B → Type 0) (x : A) (y : B)
      → ((bytes : List ℕ) → Gives bytes x → Gives' bytes y) → Took before after file held Faulty Gives (Ok x) → Took before after file held Also Gives' (Ok y)
  took_also {A = A} {B = B} Faulty Also Gives Gives' x y f (given, is, taken) = (given, is, taken_also {A = A} {B = B} Gives Gives' x y f given taken)

  -- its bytes were read
  abbrev pub ReadSo : Result (Vec ℕ Global) CodeRefusal → Type 0
  ReadSo result = Took before after file held (λ bytes why. ⊥) (λ bytes text. text.items ≡ bytes) result

  -- a file that was not read gives nothing
  pub took_nothing : {A : Type 0} (Faulty : List ℕ → Refusal → Type 0) (Gives : List ℕ → A → Type 0) (r : CodeRefusal) → ReadSo (Err r) → Took before after file held Faulty Gives (Err r)
  took_nothing Faulty Gives r h =
      fails_also (Why (λ bytes why. ⊥)) (Why Faulty) (why_also (λ bytes why. ⊥) Faulty (λ bytes why never. absurd never)) (end_at r) h

  -- bytes give something, or are refused
  pub took_of : {A : Type 0} (Faulty : List ℕ → Refusal → Type 0) (Gives : List ℕ → A → Type 0) (bytes : List ℕ) → IsGiven before after held (most_of file) (Bytes bytes)
      → (result : Result A CodeRefusal) → IfOk result (λ x. Gives bytes x) → IfErr result (λ r. Fails (Faulty bytes) (end_at r)) → Took before after file held Faulty Gives result
  took_of Faulty Gives bytes is (Ok x) gives refused = (Bytes bytes, is, gives)
  took_of Faulty Gives bytes is (Err r) gives refused =
      fails_also (Faulty bytes) (λ why. (given : Given) × IsGiven before after held (most_of file) given × IsRefusedFile file given Faulty why) (λ why w. (Bytes bytes, is, w)) (end_at r) refused

  bytes_given : (text : Vec ℕ Global) (given : Given) → IsGiven before after held (most_of file) given → IsTaken given (λ bytes (t : Vec ℕ Global). t.items ≡ bytes) text → IsGiven before after held (most_of file) (Bytes text.items)
  bytes_given text (Bytes bytes) is taken = subst (λ (b : List ℕ). IsGiven before after held (most_of file) (Bytes b)) (sym taken) is
  bytes_given text TooMany is taken = absurd taken
  bytes_given text Unread is taken = absurd taken

  -- the bytes of a file that was read give something, or are refused
  pub took_from : {A : Type 0} (Faulty : List ℕ → Refusal → Type 0) (Gives : List ℕ → A → Type 0) (text : Vec ℕ Global) → ReadSo (Ok text)
      → (result : Result A CodeRefusal) → IfOk result (λ x. Gives text.items x) → IfErr result (λ r. Fails (Faulty text.items) (end_at r)) → Took before after file held Faulty Gives result
  took_from Faulty Gives text h result gives refused = took_of Faulty Gives text.items (bytes_given text h.0 h.1 h.2) result gives refused
