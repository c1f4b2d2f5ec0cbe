-- A name that stands for something is declared.
use Rattle.std.proofs.Common.{◌≡◌, Bool, true, false, cond, List, [], ◌∷◌, inl, inr, map, refl}
use Rattle.std.specs.Prelude.{bytes_eq}
use Rattle.std.specs.Cmp.Lexicographic.{bytes_decides}
use Rattle.tapa_base.specs.Lists.{Has}
use Rattle.vlog_tree.specs.declared.table.Declaration.{Declaration}
use Rattle.vlog_tree.specs.declared.table.NetKind.{NetKind}
use Rattle.vlog_tree.specs.declared.table.NetKind.TheVariants.{Unknown}
use Rattle.vlog_tree.specs.Table.{Name, net_kind_of, find_name, declaration_name}

-- a name that stands for something is declared
known_of : (d : Declaration) (ds : List Declaration) (x : Name) (s : NetKind) (b : Bool) → bytes_eq d.name x ≡ b → (net_kind_of ds x ≡ s → Has (map declaration_name ds) x)
    → (cond b d (find_name ds x)).net_kind ≡ s → Has (map declaration_name (d ∷ ds)) x
known_of d ds x s true e ih h = inl ((bytes_decides d.name x).0 e)
known_of d ds x s false e ih h = inr (ih h)

pub known : (ds : List Declaration) (x : Name) (s : NetKind) → (Unknown ≡ s → ⊥) → net_kind_of ds x ≡ s → Has (map declaration_name ds) x
known [] x s n h = absurd (n h)
known (d ∷ ds) x s n h = known_of d ds x s _ refl (known ds x s n) h
