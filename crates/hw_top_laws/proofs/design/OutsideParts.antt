-- What the elements of a list give, part by part, and which labels names have.
use Rattle.std.proofs.Common.{◌≡◌, ℕ, zero, suc, ◌<◌, List, [], ◌∷◌, ◌++◌, length, Option, Some, None, inl, inr, refl, sym, ap, ◌∙◌, arith, append_assoc}
use Rattle.std.specs.Prelude.{map, slice_get}
use Rattle.std.specs.List.{flat_map}
use Rattle.std.proofs.lemmas.Grind.{flat_map-append}
use Rattle.std.proofs.lemmas.List.{append-nil}
use Rattle.tapa_base.specs.Lists.{Has}
use Rattle.vlog_tree.specs.Labels.{scalar_of, ack_of, rdata_of, addr_of, wdata_of, we_of, din_of}
use Rattle.vlog_tree.specs.Table.{Name}
use Rattle.vlog_module_laws.specs.Labelled.{IsLabelOf}
use Rattle.vlog_module_laws.proofs.Labelled.{labels}
use Rattle.hw_build.specs.Scope.{each}
use Rattle.hw_top_laws.proofs.names.Made.{sort, scalar_sort, addr_names, wdata_names, we_names, ack_names, rdata_names, din_names}

-- ---- lists of lists

pub flat_flat : {A B C : Type 0} (f : B → List C) (g : A → List B) (xs : List A) → flat_map f (flat_map g xs) ≡ flat_map (λ x. flat_map f (g x)) xs
flat_flat f g [] = refl
flat_flat f g (x ∷ xs) = flat_map-append f (g x) (flat_map g xs) ∙ ap (λ l. flat_map f (g x) ++ l) (flat_flat f g xs)

pub flat_none : {A B : Type 0} (f : A → List B) (xs : List A) → ((x : A) → Has xs x → f x ≡ []) → flat_map f xs ≡ []
flat_none f [] h = refl
flat_none f (x ∷ xs) h = ap (λ l. l ++ flat_map f xs) (h x (inl refl)) ∙ flat_none f xs (λ y k. h y (inr k))

pub flat_both : {A B : Type 0} (f : A → List B) (xs ys : List A) (us vs : List B) → flat_map f xs ≡ us → flat_map f ys ≡ vs → flat_map f (xs ++ ys) ≡ us ++ vs
flat_both f xs ys us vs e k = flat_map-append f xs ys ∙ ap (λ l. l ++ flat_map f ys) e ∙ ap (λ l. us ++ l) k

pub flat_each : {A B : Type 0} (f : A → List B) (g : ℕ → List A) (h : ℕ → List B) (n : ℕ) → ((k : ℕ) → k < n → flat_map f (g k) ≡ h k) → flat_map f (each g n) ≡ each h n
flat_each f g h zero e = refl
flat_each f g h (suc n) e = flat_both f (each g n) (g n) (each h n) (h n) (flat_each f g h n (λ k l. e k (omega arith))) (e n (omega arith))

each_next : {A : Type 0} (f : ℕ → List A) (n : ℕ) → each f (suc n) ≡ f 0 ++ each (λ k. f (suc k)) n
each_next f zero = sym (append-nil (f 0))
each_next f (suc n) = ap (λ l. l ++ f (suc n)) (each_next f n) ∙ append_assoc (f 0) (each (λ k. f (suc k)) n) (f (suc n))

-- what each of a list gives, by the elements' positions
abbrev pub gives : {A B : Type 0} → (A → B) → Option A → List B
gives h None = []
gives h (Some x) = h x ∷ []

pub each_given : {A B : Type 0} (h : A → B) (xs : List A) → each (λ k. gives h (slice_get xs k)) (length xs) ≡ map h xs
each_given h [] = refl
each_given h (x ∷ xs) = each_next (λ k. gives h (slice_get (x ∷ xs) k)) (length xs) ∙ ap (λ l. h x ∷ l) (each_given h xs)

pub each_nothing : {A : Type 0} (n : ℕ) → each {A = A} (λ k. []) n ≡ []
each_nothing zero = refl
each_nothing {A} (suc n) = append-nil (each {A = A} (λ k. []) n) ∙ each_nothing n

-- ---- labels

-- a name of another sort has no label of a kind
no_label : (name : Name → Name) (label : Name → Option Name) (k : ℕ) → IsLabelOf name label → ((l : Name) → sort (name l) ≡ k) → (y : Name) → (sort y ≡ k → ⊥) → label y ≡ None
no_label name label k is sorts y other = by (label y) refl where
  by : (o : Option Name) → label y ≡ o → label y ≡ None
  by None e = e
  by (Some l) e = absurd (other (ap sort (is.back y l e).0 ∙ sorts l))

module _ (y : Name) where
  pub no_scalar : (sort y ≡ 2 → ⊥) → scalar_of y ≡ None
  no_scalar h = no_label _ scalar_of 2 labels.scalars scalar_sort y h

  pub no_addr : (sort y ≡ 3 → ⊥) → addr_of y ≡ None
  no_addr h = no_label _ addr_of 3 labels.addrs addr_names.sorts y h

  pub no_wdata : (sort y ≡ 4 → ⊥) → wdata_of y ≡ None
  no_wdata h = no_label _ wdata_of 4 labels.wdatas wdata_names.sorts y h

  pub no_we : (sort y ≡ 5 → ⊥) → we_of y ≡ None
  no_we h = no_label _ we_of 5 labels.wes we_names.sorts y h

  pub no_ack : (sort y ≡ 6 → ⊥) → ack_of y ≡ None
  no_ack h = no_label _ ack_of 6 labels.acks ack_names.sorts y h

  pub no_rdata : (sort y ≡ 7 → ⊥) → rdata_of y ≡ None
  no_rdata h = no_label _ rdata_of 7 labels.rdatas rdata_names.sorts y h

  pub no_din : (sort y ≡ 8 → ⊥) → din_of y ≡ None
  no_din h = no_label _ din_of 8 labels.dins din_names.sorts y h
