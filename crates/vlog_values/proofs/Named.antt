-- The first declaration of a name.
use Rattle.std.proofs.Common.{◌≡◌, ℕ, Bool, true, false, cond, List, [], ◌∷◌, ◌++◌, Option, Some, None, refl, sym, ap, ◌∙◌}
use Rattle.std.specs.Prelude.{bytes_eq}
use Rattle.vlog_tree.specs.declared.tree.Item.{Item}
use Rattle.vlog_tree.specs.declared.table.Declaration.{Declaration}
use Rattle.vlog_tree.specs.declared.table.NetKind.{NetKind}
use Rattle.vlog_tree.specs.declared.table.NetKind.TheVariants.{Unknown}
use Rattle.vlog_tree.specs.Table.{Name, items_declared, find_name, net_kind_of, bits_of}
use Rattle.vlog_tree.proofs.Walks.{items_declared-cons}
use Rattle.vlog_values.specs.Scopes.{found, or_else}

either : (b : Bool) (p : NetKind × ℕ) (o q : Option (NetKind × ℕ)) → cond b (Some p) (or_else o q) ≡ or_else (cond b (Some p) o) q
either true p o q = refl
either false p o q = refl

pub found_append : (ds es : List Declaration) (x : Name) → found (ds ++ es) x ≡ or_else (found ds x) (found es x)
found_append [] es x = refl
found_append (d ∷ ds) es x = ap (λ o. cond (bytes_eq d.name x) (Some (d.net_kind, d.bits)) o) (found_append ds es x) ∙ either (bytes_eq d.name x) (d.net_kind, d.bits) (found ds x) (found es x)

pub found_first : (it : Item) (items : List Item) (x : Name) → found (items_declared (it ∷ items)) x ≡ or_else (found (items_declared (it ∷ [])) x) (found (items_declared items) x)
found_first it items x = ap (λ ds. found ds x) (items_declared-cons it items) ∙ found_append (items_declared (it ∷ [])) (items_declared items) x

kind_of : (b : Bool) (d : Declaration) (rest : Declaration) (o : Option (NetKind × ℕ)) (k : NetKind) (n : ℕ) → (o ≡ Some (k, n) → (k ≡ rest.net_kind) × (n ≡ rest.bits)) → cond b (Some (d.net_kind, d.bits)) o ≡ Some (k, n) → (k ≡ (cond b d rest).net_kind) × (n ≡ (cond b d rest).bits)
kind_of true d rest o k n f h = let e : ◌≡◌ {A = NetKind × ℕ} (d.net_kind, d.bits) (k, n) = cc h in (ap (λ (p : NetKind × ℕ). p.0) (sym e), ap (λ (p : NetKind × ℕ). p.1) (sym e))
kind_of false d rest o k n f h = f h

found_both : (ds : List Declaration) (x : Name) (k : NetKind) (n : ℕ) → found ds x ≡ Some (k, n) → (k ≡ net_kind_of ds x) × (n ≡ bits_of ds x)
found_both [] x k n h = cc
found_both (d ∷ ds) x k n h = kind_of (bytes_eq d.name x) d (find_name ds x) (found ds x) k n (found_both ds x k n) h

pub found_kind : (ds : List Declaration) (x : Name) (k : NetKind) (n : ℕ) → Some (k, n) ≡ found ds x → k ≡ net_kind_of ds x
found_kind ds x k n h = (found_both ds x k n (sym h)).0

pub found_bits : (ds : List Declaration) (x : Name) (k : NetKind) (n : ℕ) → Some (k, n) ≡ found ds x → n ≡ bits_of ds x
found_bits ds x k n h = (found_both ds x k n (sym h)).1

none_of : (b : Bool) (d : Declaration) (rest : Declaration) (o : Option (NetKind × ℕ)) → (o ≡ None → (Unknown ≡ rest.net_kind) × (0 ≡ rest.bits)) → cond b (Some (d.net_kind, d.bits)) o ≡ None → (Unknown ≡ (cond b d rest).net_kind) × (0 ≡ (cond b d rest).bits)
none_of true d rest o f h = cc
none_of false d rest o f h = f h

none_both : (ds : List Declaration) (x : Name) → found ds x ≡ None → (Unknown ≡ net_kind_of ds x) × (0 ≡ bits_of ds x)
none_both [] x h = (refl, refl)
none_both (d ∷ ds) x h = none_of (bytes_eq d.name x) d (find_name ds x) (found ds x) (none_both ds x) h

pub no_kind : (ds : List Declaration) (x : Name) → None ≡ found ds x → Unknown ≡ net_kind_of ds x
no_kind ds x h = (none_both ds x (sym h)).0

pub no_bits : (ds : List Declaration) (x : Name) → None ≡ found ds x → 0 ≡ bits_of ds x
no_bits ds x h = (none_both ds x (sym h)).1
