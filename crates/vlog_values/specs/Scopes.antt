-- What a name denotes.
use Rattle.std.specs.Prelude.{ℕ, List, [], ◌∷◌, Option, Some, None, bytes_eq, if◌then◌else◌}
use Rattle.vlog_tree.specs.declared.table.Declaration.{Declaration}
use Rattle.vlog_tree.specs.declared.table.NetKind.{NetKind}
use Rattle.vlog_tree.specs.Table.{Name}

-- what the first declaration of a name says: its kind and its bits
abbrev pub found : List Declaration → Name → Option (NetKind × ℕ)
found [] x = None
found (d ∷ ds) x = if bytes_eq d.name x then Some (d.net_kind, d.bits) else found ds x

abbrev pub or_else : {A : Type 0} → Option A → Option A → Option A
or_else None others = others
or_else (Some x) others = Some x
