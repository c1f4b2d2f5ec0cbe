-- Lists of connections, and other lists that grow by one part after another.
use Rattle.std.proofs.Common.{◌≡◌, ℕ, ◌+◌, true, false, cond, List, [], ◌∷◌, ◌++◌, sym, ap, ◌∙◌, append_assoc}
use Rattle.std.specs.Prelude.{slice_get, slice_index}
use Rattle.tapa_syntax.specs.declared.program.Instance.{Instance}
use Rattle.tapa_syntax.specs.declared.program.Leaf.{Leaf}
use Rattle.tapa_syntax.specs.declared.program.Program.{Program}
use Rattle.vlog_tree.specs.declared.tree.Connection.{Connection}
use Rattle.vlog_tree.specs.Table.{Name}
use Rattle.hw_build.specs.Scope.{each}
use Rattle.hw_channel_lines.specs.Texts.{connected_to}
use Rattle.hw_lines.specs.Texts.{is_written}
use Rattle.hw_nets.proofs.Grows.{each_next}
use Rattle.hw_top_lines.specs.Texts.{stream_label, written_connections, read_connections, stream_connections}

-- one part more
pub part_more : {A : Type 0} (xs ys zs : List A) (f : ℕ → List A) (n : ℕ) → ys ≡ xs ++ each f n → zs ≡ ys ++ f n → zs ≡ xs ++ each f (n + 1)
part_more xs ys zs f n p q = q ∙ ap (λ l. l ++ f n) p ∙ append_assoc xs (each f n) (f n) ∙ sym (ap (λ l. xs ++ l) (each_next f n))

-- and of so many the last
pub part_last : {A : Type 0} (xs ys : List A) (f : ℕ → List A) (n k : ℕ) → n ≡ k → ys ≡ xs ++ each f n → ys ≡ xs ++ each f k
part_last xs ys f n k h p = p ∙ ap (λ i. xs ++ each f i) h

-- three more, one after another
pub three_more : {A : Type 0} (xs ys zs all : List A) (a b c : A) → ys ≡ xs ++ a ∷ [] → zs ≡ ys ++ b ∷ [] → all ≡ zs ++ c ∷ [] → all ≡ xs ++ a ∷ b ∷ c ∷ []
three_more xs ys zs all a b c p q r =
    r ∙ ap (λ l. l ++ c ∷ []) (q ∙ ap (λ l. l ++ b ∷ []) p)
    ∙ append_assoc (xs ++ a ∷ []) (b ∷ []) (c ∷ []) ∙ append_assoc xs (a ∷ []) (b ∷ c ∷ [])

-- and two behind these
pub five_more : {A : Type 0} (xs three four all : List A) (a b c d e : A) → three ≡ xs ++ a ∷ b ∷ c ∷ [] → four ≡ three ++ d ∷ [] → all ≡ four ++ e ∷ [] → all ≡ xs ++ a ∷ b ∷ c ∷ d ∷ e ∷ []
five_more xs three four all a b c d e p q r =
    r ∙ ap (λ l. l ++ e ∷ []) (q ∙ ap (λ l. l ++ d ∷ []) p)
    ∙ append_assoc (xs ++ a ∷ b ∷ c ∷ []) (d ∷ []) (e ∷ []) ∙ append_assoc xs (a ∷ b ∷ c ∷ []) (d ∷ e ∷ [])

-- a connection whose net is known by another name
pub joined_as : (xs ys : List Connection) (port x y : Name) → ys ≡ xs ++ connected_to port x ∷ [] → x ≡ y → ys ≡ xs ++ connected_to port y ∷ []
joined_as xs ys port x y p q = p ∙ ap (λ z. xs ++ connected_to port z ∷ []) q

-- the ends of a stream, by the way that it goes
pub written_grows : (program : Program) (x : Instance) (leaf : Leaf) (p s : ℕ) (xs ys : List Connection) (l : Name) → s ≡ slice_index x.streams.items p → l ≡ stream_label program s
    → is_written (slice_get leaf.streams.items p) ≡ true → ys ≡ xs ++ written_connections p l → ys ≡ xs ++ stream_connections program x leaf p
written_grows program x leaf p s xs ys l at named writes grown =
    let label = stream_label program (slice_index x.streams.items p) in
    grown ∙ ap (λ z. xs ++ written_connections p z) (named ∙ ap (stream_label program) at) ∙ sym (ap (λ b. xs ++ cond b (written_connections p label) (read_connections p label)) writes)

pub read_grows : (program : Program) (x : Instance) (leaf : Leaf) (p s : ℕ) (xs ys : List Connection) (l : Name) → s ≡ slice_index x.streams.items p → l ≡ stream_label program s
    → is_written (slice_get leaf.streams.items p) ≡ false → ys ≡ xs ++ read_connections p l → ys ≡ xs ++ stream_connections program x leaf p
read_grows program x leaf p s xs ys l at named reads grown =
    let label = stream_label program (slice_index x.streams.items p) in
    grown ∙ ap (λ z. xs ++ read_connections p z) (named ∙ ap (stream_label program) at) ∙ sym (ap (λ b. xs ++ cond b (written_connections p label) (read_connections p label)) reads)

-- the ends of a task, one sort after another
pub all_joined : (first two three all a b c : List Connection) (start : List Connection) → first ≡ start → two ≡ first ++ a → three ≡ two ++ b → all ≡ three ++ c → all ≡ start ++ a ++ b ++ c
all_joined first two three all a b c start p q r s = s ∙ ap (λ l. l ++ c) (r ∙ ap (λ l. l ++ b) (q ∙ ap (λ l. l ++ a) p))
