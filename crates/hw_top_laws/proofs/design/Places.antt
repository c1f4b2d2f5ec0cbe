-- The places of elements in two parts of a list: what the first part declares stands before what the second does.
use Rattle.std.proofs.Common.{◌≡◌, ℕ, zero, suc, ◌+◌, ◌<◌, ◌≤◌, true, cond, List, [], ◌∷◌, ◌++◌, length, inl, inr, refl, sym, ap, subst, ◌∙◌, arith, append_assoc, ⊎_elim}
use Rattle.std.specs.Prelude.{bytes_eq}
use Rattle.std.specs.Cmp.Lexicographic.{bytes_decides}
use Rattle.std.proofs.lemmas.Bool.{cases_eq, and_from as yes_and}
use Rattle.vlog_tree.specs.declared.tree.Connection.{Connection}
use Rattle.vlog_tree.specs.declared.table.Declaration.{Declaration}
use Rattle.vlog_tree.specs.Form.{ModuleTree}
use Rattle.tapa_base.specs.Lists.{Has}
use Rattle.vlog_tree.specs.Table.{Name, clk, times_in, one_if}
use Rattle.tapa_base.proofs.Lists.{has_left, has_right, has_map}
use Rattle.vlog_module_laws.proofs.Lists.{count_cons, counted}
use Rattle.hw_build.specs.Elements.{Element}
use Rattle.hw_build.specs.Fitting.{declarations, first_table, table_after, has_fitting_names, have_fitting_names}
use Rattle.hw_build.specs.Order.{place_in, place, StandsBefore}
use Rattle.hw_build.proofs.Appended.{table_append}
use Rattle.hw_build.proofs.Places.{has_times, place_low, place_some, place_after}
use Rattle.hw_build.proofs.Tables.{times, clock_declared, stays, stays_new}
use Rattle.hw_build.specs.Scope.{each, IsNet}
use Rattle.hw_build.proofs.ListTables.{table, net_declared}
use Rattle.hw_top_laws.specs.joins.Joins.{joined_ports}
use Rattle.vlog_module_laws.proofs.Forms.{itself as same_name}
use Rattle.tapa_base.proofs.Tests.{both_true}

longer : (xs ys : List Declaration) → length ys ≤ length (xs ++ ys)
longer [] ys = omega arith
longer (x ∷ xs) ys = let r = longer xs ys in omega (arith, r)

names_split : (ms : List ModuleTree) (xs ys : List Element) (t : List Declaration) → have_fitting_names ms t (xs ++ ys) ≡ true
    → (have_fitting_names ms t xs ≡ true) × (have_fitting_names ms (table_after t xs) ys ≡ true)
names_split ms [] ys t h = (refl, h)
names_split ms (e ∷ xs) ys t h =
    let p = both_true (has_fitting_names ms t e) (have_fitting_names ms (declarations e ++ t) (xs ++ ys)) h in
    let r = names_split ms xs ys (declarations e ++ t) p.1 in
    (yes_and (has_fitting_names ms t e) (have_fitting_names ms (declarations e ++ t) xs) p.0 r.0, r.1)

-- what is declared behind a table has a place behind it
back_place : (ms : List ModuleTree) (elements : List Element) (t : List Declaration) → have_fitting_names ms t elements ≡ true → (e : Element) (d : Declaration) → Has elements e
    → declarations e ≡ d ∷ [] → length t < place_in (table_after t elements) d.name
back_place ms [] t n e d h q = absurd h
back_place ms (c ∷ elements) t n e d (inl s) q =
    let both = both_true (has_fitting_names ms t c) (have_fitting_names ms (declarations c ++ t) elements) n in
    let new : declarations c ++ t ≡ d ∷ t = ap (λ l. l ++ t) (ap declarations s ∙ q) in
    let fit : have_fitting_names ms (d ∷ t) elements ≡ true = subst (λ (l : List Declaration). have_fitting_names ms l elements ≡ true) new both.1 in
    let at : place_in (table_after (d ∷ t) elements) d.name ≡ place_in (d ∷ t) d.name = place_after ms elements (d ∷ t) d.name fit (has_times (d ∷ t) d (inl refl)) in
    let top : place_in (d ∷ t) d.name ≡ suc (length t) = ap (λ b. cond b (suc (length t)) (place_in t d.name)) (same_name d.name) in
    let all : place_in (table_after (declarations c ++ t) elements) d.name ≡ suc (length t) = ap (λ (l : List Declaration). place_in (table_after l elements) d.name) new ∙ at ∙ top in
    omega (arith, all)
back_place ms (c ∷ elements) t n e d (inr h) q =
    let both = both_true (has_fitting_names ms t c) (have_fitting_names ms (declarations c ++ t) elements) n in
    let r = back_place ms elements (declarations c ++ t) both.1 e d h q in
    let l = longer (declarations c) t in
    omega (arith, r, l)

-- what stands in the first part stands before what the second declares
pub split_order : (ms : List ModuleTree) (front back : List Element) → have_fitting_names ms first_table (front ++ back) ≡ true → (x : Name) → 1 ≤ times (table front) x → (e : Element) (d : Declaration)
    → Has back e → declarations e ≡ d ∷ [] → StandsBefore (front ++ back) x d.name
split_order ms front back h x some e d k q =
    let fits : have_fitting_names ms (table front) back ≡ true = (names_split ms front back first_table h).1 in
    let whole : table_after first_table (front ++ back) ≡ table_after (table front) back = table_append front back first_table in
    let here : place (front ++ back) x ≡ place_in (table front) x = ap (λ (l : List Declaration). place_in l x) whole ∙ place_after ms back (table front) x fits some in
    let there : place (front ++ back) d.name ≡ place_in (table_after (table front) back) d.name = ap (λ (l : List Declaration). place_in l d.name) whole in
    let low = place_low (table front) x in
    let high = place_some (table front) x some in
    let far = back_place ms back (table front) fits e d k q in
    (omega (arith, here, high), omega (arith, here, low, there, far))

-- ---- what the first part has

pub net_known : (front : List Element) (x : Name) (w : ℕ) → IsNet front x w → 1 ≤ times (table front) x
net_known front x w h = let r = net_declared front x w h in subst (λ y. 1 ≤ times (table front) y) r.name (has_times (table front) r.is r.has)

pub clock_known : (front : List Element) → 1 ≤ times (table front) clk
clock_known front = has_times (table front) clock_declared (stays front first_table clock_declared (inl refl))

pub element_known : (front : List Element) (e : Element) (d : Declaration) → Has front e → Has (declarations e) d → 1 ≤ times (table front) d.name
element_known front e d h k = has_times (table front) d (stays_new front first_table e d h k)

-- ---- an element before another

pub record IsBefore (elements : List Element) (p q : Element) : Type 0 where
  pub front : List Element
  pub back : List Element
  pub is : elements ≡ front ++ back
  pub first : Has front p
  pub second : Has back q

pub in_left : (xs ys : List Element) (p q : Element) → IsBefore xs p q → IsBefore (xs ++ ys) p q
in_left xs ys p q b = record {
  front = b.front;
  back = b.back ++ ys;
  is = ap (λ (l : List Element). l ++ ys) b.is ∙ append_assoc b.front b.back ys;
  first = b.first;
  second = has_left b.back ys q b.second;
}

pub in_right : (xs ys : List Element) (p q : Element) → IsBefore ys p q → IsBefore (xs ++ ys) p q
in_right xs ys p q b = record {
  front = xs ++ b.front;
  back = b.back;
  is = ap (λ (l : List Element). xs ++ l) b.is ∙ sym (append_assoc xs b.front b.back);
  first = has_right xs b.front p b.first;
  second = b.second;
}

pub in_each : (f : ℕ → List Element) (n k : ℕ) (p q : Element) → k < n → IsBefore (f k) p q → IsBefore (each f n) p q
in_each f zero k p q l b = absurd (omega arith)
in_each f (suc n) k p q l b =
    ⊎_elim (λ e. in_right (each f n) (f n) p q (subst (λ j. IsBefore (f j) p q) e b)) (λ e. in_left (each f n) (f n) p q (in_each f n k p q (omega (arith, l, e)) b)) (cases_eq k n)

pub before_order : (ms : List ModuleTree) (elements : List Element) → have_fitting_names ms first_table elements ≡ true → (p q : Element) (c d : Declaration) → IsBefore elements p q
    → declarations p ≡ c ∷ [] → declarations q ≡ d ∷ [] → StandsBefore elements c.name d.name
before_order ms elements h p q c d b dp dq =
    subst (λ (l : List Element). StandsBefore l c.name d.name) (sym b.is)
    (split_order ms b.front b.back (subst (λ (l : List Element). have_fitting_names ms first_table l ≡ true) b.is h) c.name
    (element_known b.front p c b.first (subst (λ (l : List Declaration). Has l c) (sym dp) (inl refl))) q d b.second dq)

-- ---- connections of which no two are of one port

pub same_connection : (ls : List Connection) (a b : Connection) → Has ls a → Has ls b → a.port ≡ b.port → times_in (joined_ports ls) a.port ≤ 1 → a ≡ b
same_connection [] a b h k e low = absurd h
same_connection (l ∷ ls) a b (inl s) (inl t) e low = sym s ∙ t
same_connection (l ∷ ls) a b (inl s) (inr k) e low =
    let c : times_in (joined_ports (l ∷ ls)) a.port ≡ one_if (bytes_eq l.port a.port) + times_in (joined_ports ls) a.port = count_cons (λ y. bytes_eq y a.port) l.port (joined_ports ls) in
    let o : one_if (bytes_eq l.port a.port) ≡ 1 = ap one_if ((bytes_decides l.port a.port).1 (ap (λ (z : Connection). z.port) s)) in
    let more : 1 ≤ times_in (joined_ports ls) a.port = counted (λ y. bytes_eq y a.port) (joined_ports ls) b.port (has_map (λ (z : Connection). z.port) ls b k) ((bytes_decides b.port a.port).1 (sym e)) in
    absurd (omega (arith, c, o, more, low))
same_connection (l ∷ ls) a b (inr h) (inl t) e low =
    let c : times_in (joined_ports (l ∷ ls)) a.port ≡ one_if (bytes_eq l.port a.port) + times_in (joined_ports ls) a.port = count_cons (λ y. bytes_eq y a.port) l.port (joined_ports ls) in
    let o : one_if (bytes_eq l.port a.port) ≡ 1 = ap one_if ((bytes_decides l.port a.port).1 (ap (λ (z : Connection). z.port) t ∙ sym e)) in
    let more : 1 ≤ times_in (joined_ports ls) a.port = counted (λ y. bytes_eq y a.port) (joined_ports ls) a.port (has_map (λ (z : Connection). z.port) ls a h) (same_name a.port) in
    absurd (omega (arith, c, o, more, low))
same_connection (l ∷ ls) a b (inr h) (inr k) e low =
    let c : times_in (joined_ports (l ∷ ls)) a.port ≡ one_if (bytes_eq l.port a.port) + times_in (joined_ports ls) a.port = count_cons (λ y. bytes_eq y a.port) l.port (joined_ports ls) in
    same_connection ls a b h k e (omega (arith, c, low))
