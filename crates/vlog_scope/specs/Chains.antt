-- Places of names by a hash of the name.
use Rattle.std.specs.Prelude.{◌≡◌, ◌≢◌, ℕ, zero, suc, ◌+◌, ◌*◌, ◌-◌, ◌%◌, ◌<◌, ◌≤◌, List, [], ◌∷◌, length, get_or, bit_and, All}
use Rattle.vlog_tree.specs.declared.table.Declaration.{Declaration}
use Rattle.vlog_tree.specs.Table.{Name, unknown}

-- the hash of a text that continues another, given the other's hash
abbrev pub hash_from : ℕ → Name → ℕ
hash_from h [] = h
hash_from h (b ∷ bs) = hash_from ((h * 131 + b) % 4294967296) bs

-- the chain of a name, among the given number of chains
unfoldable pub chain_of : ℕ → Name → ℕ
chain_of count name = bit_and (hash_from 0 name) (count - 1)

abbrev pub name_at : List Declaration → ℕ → Name
name_at ds p = (get_or ds p unknown).name

-- All declarations from a least index on are on the chains of their names: each head is the first index of its chain, and each index leads
-- to the next on its chain. A number past the last index is none.
pub record IsChained (least : ℕ) (ds : List Declaration) (heads nexts : List ℕ) : Type 0 where
  pub some : 0 < length heads
  pub len : length nexts ≡ length ds
  pub above : (b : ℕ) → b < length heads → least ≤ get_or heads b 0
  pub head : (b : ℕ) → b < length heads → get_or heads b 0 < length ds → chain_of (length heads) (name_at ds (get_or heads b 0)) ≡ b
  pub before : (b q : ℕ) → b < length heads → least ≤ q → q < get_or heads b 0 → q < length ds → chain_of (length heads) (name_at ds q) ≢ b
  pub later : (p : ℕ) → least ≤ p → p < length ds → p < get_or nexts p 0
  pub next : (p : ℕ) → least ≤ p → p < length ds → get_or nexts p 0 < length ds → chain_of (length heads) (name_at ds (get_or nexts p 0)) ≡ chain_of (length heads) (name_at ds p)
  pub between : (p q : ℕ) → least ≤ p → p < q → q < get_or nexts p 0 → q < length ds → chain_of (length heads) (name_at ds q) ≢ chain_of (length heads) (name_at ds p)

-- the index n steps further on a chain; from a number past the last index no step leads on
unfoldable pub further : List ℕ → ℕ → ℕ → ℕ
further nexts zero p = p
further nexts (suc n) p = further nexts n (get_or nexts p p)

-- the most indices of a chain that is walked
abbrev pub longest : ℕ
longest = 32

-- a chain with this head has at most these
unfoldable pub IsShort : List ℕ → ℕ → Type 0
IsShort nexts head = length nexts ≤ further nexts longest head

abbrev pub AreShort : List ℕ → List ℕ → Type 0
AreShort heads nexts = All (IsShort nexts) heads
