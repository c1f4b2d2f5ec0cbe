-- What is shown of a net of a dump that was read, by where its name stands among the nets.
use Rattle.std.proofs.Common.{◌≡◌, ℕ, ◌<◌, ◌≤◌, Bool, true, false, cond, List, length, get_or, [], Some, None, ⊎_elim, refl, ap, subst, ◌∙◌, arith}
use Rattle.std.specs.Prelude.{bytes_eq, nat_lt, slice_get, option_map}
use Rattle.std.specs.List.{position, position_or_len}
use Rattle.std.proofs.lemmas.Bool.Decides.{nat_tests}
use Rattle.std.proofs.lemmas.List.Quantifiers.{position-Some}
use Rattle.std.proofs.lemmas.List.Sums.{fails_before_first}
use Rattle.std.proofs.lemmas.Option.{slice_get-map, slice_get_within, slice_get_cases, get_or_from_slice_get}
use Rattle.std.proofs.lemmas.List.{length-map}
use Rattle.std.proofs.lemmas.Slice.Eq.{bytes_eq-Decides}
use Rattle.tapa_base.specs.declared.shape.Port.{Port}
use Rattle.vcd_text.specs.Nets.{Net}
use Rattle.vcd_text.specs.Dump.{Values}
use Rattle.vcd_text.specs.Read.{port_of, changes_to, IsReadAs}
use Rattle.vcd_text.specs.declared.dump.Change.{Change}
use Rattle.vcd_text.specs.NetLines.{value_lines, IsNetShown, HasNoNet}
use Rattle.vcd_text.proofs.Common.{not_both}
use Rattle.tapa_base.proofs.Tests.{ge_of}
use Rattle.tapa_base.proofs.Got.{some_at}

past_end : (n m : ℕ) (b : Bool) → nat_lt n m ≡ b → cond b (Some n) None ≡ None → m ≤ n
past_end n m true e h = absurd cc
past_end n m false e h = ge_of n m e

-- where no element passes a test
none_passes : {A : Type 0} (p : A → Bool) (xs : List A) → position p xs ≡ None → (k : ℕ) (x : A) → slice_get xs k ≡ Some x → p x ≡ false
none_passes p xs none k x got =
    let past : length xs ≤ position_or_len p xs = past_end (position_or_len p xs) (length xs) (nat_lt (position_or_len p xs) (length xs)) refl none in
    let low : k < length xs = slice_get_within xs k x got in
    subst (λ y. p y ≡ false) (get_or_from_slice_get xs k x x got) (fails_before_first p xs k x (omega arith))

module _ (text name : List ℕ) (ports : List Port) (last : ℕ) (changes : List Change) (h : IsReadAs text ports last changes) where
  abbrev is_named : Port → Bool
  is_named p = bytes_eq p.name name

  port_at : (k : ℕ) (n : Net) → slice_get h.nets k ≡ Some n → slice_get ports k ≡ Some (port_of n)
  port_at k n got = ap (λ (l : List Port). slice_get l k) h.are_ports ∙ slice_get-map port_of h.nets k ∙ ap (option_map port_of) got

  pub no_net : position is_named ports ≡ None → HasNoNet text name
  no_net none = record {
    top = h.top;
    nets = h.nets;
    values = h.values;
    last = last;
    dump = h.dump;
    none = λ k n got same. not_both (bytes_eq n.name name) ((bytes_eq-Decides n.name name).1 same) (none_passes is_named ports none k (port_of n) (port_at k n got));
  }

  as_many : length ports ≡ length h.nets
  as_many = ap (λ (l : List Port). length l) h.are_ports ∙ length-map h.nets port_of

  pub net_shown : (place : ℕ) → position is_named ports ≡ Some place → (told : List ℕ)
      → ((nets : List Net) (values : Values) (end : ℕ) → changes ≡ changes_to nets values end → place < length nets → told ≡ value_lines (λ n. values n place) end) → IsNetShown text name told
  net_shown place found told lines =
      let none : Port = record { name = []; bits = 0 } in
      let s = position-Some is_named ports place none found in
      let low : place < length h.nets = (let l = s.0 in omega (arith, as_many)) in
      let n = some_at h.nets place low in
      let at : get_or ports place none ≡ port_of n.0 = get_or_from_slice_get ports place (port_of n.0) none (port_at place n.0 n.1) in
      record {
        top = h.top;
        nets = h.nets;
        values = h.values;
        last = last;
        dump = h.dump;
        place = place;
        net = n.0;
        at = n.1;
        named = (bytes_eq-Decides n.0.name name).0 (subst (λ (p : Port). is_named p ≡ true) at s.1);
        is = lines h.nets h.values last h.are_changes low;
      }
