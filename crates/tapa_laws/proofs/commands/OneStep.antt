-- A step that reads a file comes to one answer.
use Rattle.std.proofs.Common.{◌≡◌, ℕ, List, inl, inr, sym, ◌∙◌, subst, subst₂}
use Rattle.command_answers.specs.Answer.{Answer, Refuses, IsRefusedFile, IsTaken, Reads}
use Rattle.command_answers.specs.Files.{Given, Bytes, TooMany, Unread}
use Rattle.command_answers.specs.Refusal.{Refusal}
use Rattle.command_answers.specs.declared.file.File.{File}

-- two steps that read the same file: where each text is refused for one reason, or gives something in both, and what comes after is
-- the same, they come to the same
module _ {A B : Type 0} (file : File) (Faulty Faulty' : List ℕ → Refusal → Type 0) (Gives : List ℕ → A → Type 0) (Gives' : List ℕ → B → Type 0) (Same : Answer → Answer → Type 0)
    (alike : (why : Refusal) → Same (Refuses why) (Refuses why)) (once : (bytes : List ℕ) (why other : Refusal) → Faulty bytes why → Faulty' bytes other → why ≡ other)
    (never : (bytes : List ℕ) (why : Refusal) (y : B) → Faulty bytes why → Gives' bytes y → ⊥) (nor : (bytes : List ℕ) (why : Refusal) (x : A) → Faulty' bytes why → Gives bytes x → ⊥) where
  refused_once : (given : Given) (why other : Refusal) → IsRefusedFile file given Faulty why → IsRefusedFile file given Faulty' other → why ≡ other
  refused_once (Bytes bytes) why other h k = once bytes why other h k
  refused_once TooMany why other h k = h ∙ sym k
  refused_once Unread why other h k = h ∙ sym k

  not_taken : (given : Given) (why : Refusal) (y : B) → IsRefusedFile file given Faulty why → IsTaken given Gives' y → ⊥
  not_taken (Bytes bytes) why y h k = never bytes why y h k
  not_taken TooMany why y h k = k
  not_taken Unread why y h k = k

  nor_taken : (given : Given) (why : Refusal) (x : A) → IsRefusedFile file given Faulty' why → IsTaken given Gives x → ⊥
  nor_taken (Bytes bytes) why x h k = nor bytes why x h k
  nor_taken TooMany why x h k = k
  nor_taken Unread why x h k = k

  both_taken : (given : Given) (x : A) (y : B) → IsTaken given Gives x → IsTaken given Gives' y → (bytes : List ℕ) × Gives bytes x × Gives' bytes y
  both_taken (Bytes bytes) x y h k = (bytes, h, k)
  both_taken TooMany x y h k = absurd h
  both_taken Unread x y h k = absurd h

  same_refusal : (why other : Refusal) → why ≡ other → Same (Refuses why) (Refuses other)
  same_refusal why other e = subst (λ (w : Refusal). Same (Refuses why) (Refuses w)) e (alike why)

  pub one_step : (given : Given) (Then : A → Answer → Type 0) (Then' : B → Answer → Type 0)
      → ((bytes : List ℕ) (x : A) (y : B) (a b : Answer) → Gives bytes x → Gives' bytes y → Then x a → Then' y b → Same a b) → (a b : Answer)
      → Reads file given Faulty Gives Then a → Reads file given Faulty' Gives' Then' b → Same a b
  one_step given Then Then' rest a b (inl (why, h, e)) (inl (other, k, f)) = subst₂ Same (sym e) (sym f) (same_refusal why other (refused_once given why other h k))
  one_step given Then Then' rest a b (inl (why, h, e)) (inr (y, k, f)) = absurd (not_taken given why y h k)
  one_step given Then Then' rest a b (inr (x, h, e)) (inl (why, k, f)) = absurd (nor_taken given why x k h)
  one_step given Then Then' rest a b (inr (x, h, e)) (inr (y, k, f)) = let t = both_taken given x y h k in rest t.0 x y a b t.1 t.2 e f
