-- What is counted by modules is no more than the instances that are laid out.
use Rattle.std.proofs.Common.{◌≡◌, ℕ, zero, suc, ◌+◌, ◌<◌, ◌≤◌, List, [], ◌∷◌, ◌++◌, length, map, take, drop, get_or, inl, inr, refl, sym, ap, subst, ◌∙◌, arith}
use Rattle.std.specs.Prelude.{◌⊎◌, slice_set, replicate}
use Rattle.std.proofs.lemmas.Bool.{cases_eq}
use Rattle.std.proofs.lemmas.List.{get_or-set_same, get_or-set_other}
use Rattle.sim_flat.specs.declared.instances.Instance.{Instance}
use Rattle.sim_flat.specs.Rows.{row_at, rows_inside, kinds_at}
use Rattle.sim_flat.specs.Sizes.{sum_at, AreCounts, own_sum, sum_from, KeepSums, CountsWithin, IsCounted, AreBelow, names_in}
use Rattle.tapa_base.specs.Lists.{Has}
use Rattle.tapa_base.proofs.Lists.{has_split}
use Rattle.vlog_tree.specs.Form.{ModuleTree}
use Rattle.vlog_tree.specs.declared.table.Declaration.{Declaration}
use Rattle.vlog_tree.specs.Table.{module_declared}
use Rattle.sim_flat.specs.Kinds.{kind_place, all_kinds}
use Rattle.sim_flat.specs.declared.tables.Table.{Table}
use Rattle.sim_flat.specs.Numbering.{names_at}

pub sum_next : (f : ℕ → ℕ) (rows : List Instance) (k : ℕ) → k < length rows → own_sum f (take (suc k) rows) ≡ own_sum f (take k rows) + f (row_at rows k).kind
sum_next f [] k low = absurd (omega arith)
sum_next f (r ∷ rows) zero low = let e : f r.kind + 0 ≡ 0 + f r.kind = omega arith in e
sum_next f (r ∷ rows) (suc k) low =
    let e : own_sum f (take (suc k) rows) ≡ own_sum f (take k rows) + f (row_at rows k).kind = sum_next f rows k (omega arith) in
    let z : f r.kind + own_sum f (take (suc k) rows) ≡ f r.kind + own_sum f (take k rows) + f (row_at rows k).kind = omega arith in
    z

next_of_more : (f : ℕ → ℕ) (rows more : List Instance) (k : ℕ) → k < length rows → own_sum f (take (suc k) (rows ++ more)) ≡ own_sum f (take k rows) + f (row_at rows k).kind
next_of_more f [] more k low = absurd (omega arith)
next_of_more f (r ∷ rows) more zero low = let e : f r.kind + 0 ≡ 0 + f r.kind = omega arith in e
next_of_more f (r ∷ rows) more (suc k) low =
    let e : own_sum f (take (suc k) (rows ++ more)) ≡ own_sum f (take k rows) + f (row_at rows k).kind = next_of_more f rows more k (omega arith) in
    let z : f r.kind + own_sum f (take (suc k) (rows ++ more)) ≡ f r.kind + own_sum f (take k rows) + f (row_at rows k).kind = omega arith in
    z

sum_append : (f : ℕ → ℕ) (rows more : List Instance) → own_sum f (rows ++ more) ≡ own_sum f rows + own_sum f more
sum_append f [] more = let e : own_sum f more ≡ 0 + own_sum f more = omega arith in e
sum_append f (r ∷ rows) more =
    let e : own_sum f (rows ++ more) ≡ own_sum f rows + own_sum f more = sum_append f rows more in
    let z : f r.kind + own_sum f (rows ++ more) ≡ f r.kind + own_sum f rows + own_sum f more = omega arith in
    z

rest_of_more : (f : ℕ → ℕ) (rows more : List Instance) (k : ℕ) → k < length rows → own_sum f (drop (suc k) (rows ++ more)) + f (row_at rows k).kind ≡ own_sum f (drop k rows) + own_sum f more
rest_of_more f [] more k low = absurd (omega arith)
rest_of_more f (r ∷ rows) more zero low =
    let e : own_sum f (rows ++ more) ≡ own_sum f rows + own_sum f more = sum_append f rows more in
    let z : own_sum f (rows ++ more) + f r.kind ≡ f r.kind + own_sum f rows + own_sum f more = omega arith in
    z
rest_of_more f (r ∷ rows) more (suc k) low = rest_of_more f rows more k (omega arith)

sum_inside : (counts : List ℕ) (a d c : ℕ) (ks : List ℕ) → own_sum (λ k. get_or counts k 0) (rows_inside a d c ks) ≡ sum_at counts ks
sum_inside counts a d c [] = refl
sum_inside counts a d c (k ∷ ks) = ap (λ n. get_or counts k 0 + n) (sum_inside counts a d (c + 1) ks)

-- the instances in one take the place of what is counted in its module
pub sums_grow : (rows : List Instance) (k depth : ℕ) (ks : List ℕ) (kinds : List (List ℕ)) → k < length rows → ks ≡ kinds_at kinds (row_at rows k).kind
    → (own : ℕ → ℕ) (counts : List ℕ) → AreCounts kinds own counts → sum_from own counts rows k ≤ sum_from own counts (rows ++ rows_inside k depth 0 ks) (suc k)
sums_grow rows k depth ks kinds low are own counts c =
    let kind : ℕ = (row_at rows k).kind in
    let inside : List Instance = rows_inside k depth 0 ks in
    let g : ℕ → ℕ = λ n. get_or counts n 0 in
    let a : own_sum own (take (suc k) (rows ++ inside)) ≡ own_sum own (take k rows) + own kind = next_of_more own rows inside k low in
    let b : own_sum g (drop (suc k) (rows ++ inside)) + g kind ≡ own_sum g (drop k rows) + own_sum g inside = rest_of_more g rows inside k low in
    let s : own_sum g inside ≡ sum_at counts (kinds_at kinds kind) = sum_inside counts k depth 0 ks ∙ ap (λ (l : List ℕ). sum_at counts l) are in
    let most : g kind ≤ own kind + sum_at counts (kinds_at kinds kind) = c kind in
    let z : own_sum own (take k rows) + own_sum g (drop k rows) ≤ own_sum own (take (suc k) (rows ++ inside)) + own_sum g (drop (suc k) (rows ++ inside)) = omega arith in
    z

take_sum : (f : ℕ → ℕ) (rows : List Instance) (n : ℕ) → n ≡ length rows → own_sum f (take n rows) ≡ own_sum f rows
take_sum f [] zero e = refl
take_sum f [] (suc n) e = absurd (omega arith)
take_sum f (r ∷ rows) zero e = absurd (omega arith)
take_sum f (r ∷ rows) (suc n) e = ap (λ m. f r.kind + m) (take_sum f rows n (omega arith))

drop_sum : (f : ℕ → ℕ) (rows : List Instance) (n : ℕ) → n ≡ length rows → own_sum f (drop n rows) ≡ 0
drop_sum f [] zero e = refl
drop_sum f [] (suc n) e = absurd (omega arith)
drop_sum f (r ∷ rows) zero e = absurd (omega arith)
drop_sum f (r ∷ rows) (suc n) e = drop_sum f rows n (omega arith)

pub sum_all : (f : ℕ → ℕ) (rows : List Instance) (n : ℕ) → n ≡ length rows → own_sum f (take n rows) ≡ own_sum f rows
sum_all f rows n e = take_sum f rows n e

-- where all instances are done, nothing is counted for others
pub sums_end : (own : ℕ → ℕ) (counts : List ℕ) (rows : List Instance) (n : ℕ) → n ≡ length rows → sum_from own counts rows n ≡ own_sum own rows
sums_end own counts rows n e =
    let a : own_sum own (take n rows) ≡ own_sum own rows = take_sum own rows n e in
    let b : own_sum (λ k. get_or counts k 0) (drop n rows) ≡ 0 = drop_sum (λ k. get_or counts k 0) rows n e in
    let z : own_sum own (take n rows) + own_sum (λ k. get_or counts k 0) (drop n rows) ≡ own_sum own rows = omega arith in
    z

-- one instance alone, with none done
pub sums_start : (own : ℕ → ℕ) (counts : List ℕ) (rows : List Instance) → length rows ≡ 1 → sum_from own counts rows 0 ≡ get_or counts (row_at rows 0).kind 0
sums_start own counts [] e = absurd (omega arith)
sums_start own counts (r ∷ []) e = let z : 0 + (get_or counts r.kind 0 + 0) ≡ get_or counts r.kind 0 = omega arith in z
sums_start own counts (r ∷ q ∷ rows) e = absurd (omega arith)

pub sum_ones : (rows : List Instance) → own_sum (λ k. 1) rows ≡ length rows
sum_ones [] = refl
sum_ones (r ∷ rows) =
    let e : own_sum (λ k. 1) rows ≡ length rows = sum_ones rows in
    let z : 1 + own_sum (λ k. 1) rows ≡ suc (length rows) = omega arith in
    z

sums_rise : (old new : List ℕ) → ((k : ℕ) → get_or old k 0 ≤ get_or new k 0) → (ks : List ℕ) → sum_at old ks ≤ sum_at new ks
sums_rise old new up [] = omega arith
sums_rise old new up (k ∷ ks) =
    let a : get_or old k 0 ≤ get_or new k 0 = up k in
    let b : sum_at old ks ≤ sum_at new ks = sums_rise old new up ks in
    let z : get_or old k 0 + sum_at old ks ≤ get_or new k 0 + sum_at new ks = omega arith in
    z

-- a count may rise to what is counted below it
module _ (kinds : List (List ℕ)) (own : ℕ → ℕ) (counts : List ℕ) (kind v : ℕ) (within : kind < length counts) (are : AreCounts kinds own counts)
    (up : get_or counts kind 0 ≤ v) (most : v ≤ own kind + sum_at counts (kinds_at kinds kind)) where
  abbrev raised : List ℕ
  raised = slice_set counts kind v

  here : (k : ℕ) → k ≡ kind → get_or raised k 0 ≡ v
  here k e = ap (λ n. get_or raised n 0) e ∙ get_or-set_same counts kind v 0 within

  there : (k : ℕ) → (k ≡ kind → ⊥) → get_or raised k 0 ≡ get_or counts k 0
  there k ne = get_or-set_other counts kind k v 0 ne

  rises_at : (k : ℕ) → (k ≡ kind) ⊎ (k ≡ kind → ⊥) → get_or counts k 0 ≤ get_or raised k 0
  rises_at k (inl e) =
      let h : get_or raised k 0 ≡ v = here k e in
      let o : get_or counts k 0 ≡ get_or counts kind 0 = ap (λ n. get_or counts n 0) e in
      omega arith
  rises_at k (inr ne) = let h : get_or raised k 0 ≡ get_or counts k 0 = there k ne in omega arith

  rises : (k : ℕ) → get_or counts k 0 ≤ get_or raised k 0
  rises k = rises_at k (cases_eq k kind)

  raised_at : (k : ℕ) → (k ≡ kind) ⊎ (k ≡ kind → ⊥) → get_or raised k 0 ≤ own k + sum_at raised (kinds_at kinds k)
  raised_at k (inl e) =
      let h : get_or raised k 0 ≡ v = here k e in
      let o : own k ≡ own kind = ap own e in
      let s : sum_at counts (kinds_at kinds kind) ≤ sum_at raised (kinds_at kinds kind) = sums_rise counts raised rises (kinds_at kinds kind) in
      let t : sum_at raised (kinds_at kinds k) ≡ sum_at raised (kinds_at kinds kind) = ap (λ n. sum_at raised (kinds_at kinds n)) e in
      omega arith
  raised_at k (inr ne) =
      let h : get_or raised k 0 ≡ get_or counts k 0 = there k ne in
      let m : get_or counts k 0 ≤ own k + sum_at counts (kinds_at kinds k) = are k in
      let s : sum_at counts (kinds_at kinds k) ≤ sum_at raised (kinds_at kinds k) = sums_rise counts raised rises (kinds_at kinds k) in
      omega arith

  pub raise : AreCounts kinds own raised
  raise k = raised_at k (cases_eq k kind)

abbrev zeros : ℕ → List ℕ
zeros count = replicate count 0

none_at : (count k : ℕ) → get_or (zeros count) k 0 ≤ 0
none_at zero k = omega arith
none_at (suc count) zero = omega arith
none_at (suc count) (suc k) = none_at count k

-- nothing is counted yet
pub no_counts : (kinds : List (List ℕ)) (own : ℕ → ℕ) (count : ℕ) → AreCounts kinds own (replicate count 0)
no_counts kinds own count k = let z : get_or (zeros count) k 0 ≤ 0 = none_at count k in omega arith

-- with as much of their own or more
pub counts_of_more : (kinds : List (List ℕ)) (own more : ℕ → ℕ) (counts : List ℕ) → ((k : ℕ) → own k ≤ more k) → AreCounts kinds own counts → AreCounts kinds more counts
counts_of_more kinds own more counts up are k =
    let a : get_or counts k 0 ≤ own k + sum_at counts (kinds_at kinds k) = are k in
    let b : own k ≤ more k = up k in
    omega arith

pub one_each : (count k : ℕ) → get_or (replicate count 1) k 0 ≤ 1
one_each zero k = omega arith
one_each (suc count) zero = omega arith
one_each (suc count) (suc k) = one_each count k

pub keep_same : (kinds : List (List ℕ)) (rows : List Instance) (n : ℕ) → KeepSums kinds rows n rows n
keep_same kinds rows n own counts a = omega arith

pub keep_more : (kinds : List (List ℕ)) (a b d : List Instance) (k m n : ℕ) → KeepSums kinds a k b m → KeepSums kinds b m d n → KeepSums kinds a k d n
keep_more kinds a b d k m n f g own counts are =
    let p : sum_from own counts a k ≤ sum_from own counts b m = f own counts are in
    let q : sum_from own counts b m ≤ sum_from own counts d n = g own counts are in
    omega arith

pub within_more : (kinds : List (List ℕ)) (top : ℕ) (a b : List Instance) (k m : ℕ) → CountsWithin kinds top a k → KeepSums kinds a k b m → CountsWithin kinds top b m
within_more kinds top a b k m f g own counts are =
    let p : get_or counts top 0 ≤ sum_from own counts a k = f own counts are in
    let q : sum_from own counts a k ≤ sum_from own counts b m = g own counts are in
    omega arith

pub within_start : (kinds : List (List ℕ)) (top : ℕ) (rows : List Instance) (n : ℕ) → n ≡ 0 → length rows ≡ 1 → (row_at rows 0).kind ≡ top → CountsWithin kinds top rows n
within_start kinds top rows n none one is own counts are =
    let s : sum_from own counts rows n ≡ get_or counts top 0 = ap (λ k. sum_from own counts rows k) none ∙ sums_start own counts rows one ∙ ap (λ k. get_or counts k 0) is in
    omega arith

pub names_got : (tables : List Table) (k : ℕ) → get_or (map names_in tables) k 0 ≡ names_at tables k
names_got [] k = refl
names_got (t ∷ tables) zero = refl
names_got (t ∷ tables) (suc k) = names_got tables k

pub reached : (n counted sum size : ℕ) → n ≡ counted → counted ≤ sum → sum ≡ size → n ≤ size
reached n counted sum size is most all = omega arith

-- what is counted in a module of the design is counted in the top
pub is_counted : (ms given : List ModuleTree) (m top : ModuleTree) (names : List Declaration) (kinds rows : List (List ℕ)) (place n : ℕ) (own more : ℕ → ℕ) (counts : List ℕ)
    → given ≡ ms → names ≡ map module_declared given → rows ≡ all_kinds names given → kinds ≡ rows → AreCounts kinds own counts → ((k : ℕ) → own k ≤ more k)
    → place ≡ kind_place names top.name → top ≡ m → n ≡ get_or counts place 0 → IsCounted ms m more n
is_counted ms given m top names kinds rows place n own more counts here named listed same are up at is counted =
    let k : kinds ≡ all_kinds (map module_declared ms) ms =
    same ∙ listed ∙ ap (λ (ds : List Declaration). all_kinds ds given) named ∙ ap (λ (l : List ModuleTree). all_kinds (map module_declared l) l) here in
    let p : place ≡ kind_place (map module_declared ms) m.name =
    at ∙ ap (λ (ds : List Declaration). kind_place ds top.name) named ∙ ap (λ (l : List ModuleTree). kind_place (map module_declared l) top.name) here ∙ ap (λ (t : ModuleTree). kind_place (map module_declared ms) t.name) is in
    record {
      counts = counts;
      are = counts_of_more (all_kinds (map module_declared ms) ms) own more counts up (subst (λ (ks : List (List ℕ)). AreCounts ks own counts) k are);
      is = counted ∙ ap (λ q. get_or counts q 0) p;
    }

abbrev pub pair : ℕ → ℕ → ℕ × ℕ
pair j k = (j, k)

below_pair : (count kind other j k : ℕ) → pair kind other ≡ pair j k → kind < count → other < count → (j < count) × (k < count)
below_pair count kind other j k e low high = (subst (λ n. n < count) (ap (λ (p : ℕ × ℕ). p.0) e) low, subst (λ n. n < count) (ap (λ (p : ℕ × ℕ). p.1) e) high)

pub below_push : (count : ℕ) (pairs : List (ℕ × ℕ)) (kind other : ℕ) → AreBelow count pairs → kind < count → other < count → AreBelow count (pairs ++ (kind, other) ∷ [])
below_push count pairs kind other below low high j k h = by (has_split pairs (pair kind other ∷ []) (pair j k) h) where
  by : Has pairs (pair j k) ⊎ Has (pair kind other ∷ []) (pair j k) → (j < count) × (k < count)
  by (inl a) = below j k a
  by (inr (inl e)) = below_pair count kind other j k e low high
  by (inr (inr x)) = absurd x
