-- Which texts are names, and what the labels in names say.
use Rattle.std.specs.Prelude.{◌≡◌, ◌<◌, ◌≤◌, true, [], ◌∷◌, ◌++◌, Option, Some, length, is_some, count_by}
use Rattle.vlog_tree.specs.Names.{IsName, has_name_form}
use Rattle.vlog_tree.specs.Table.{Name}
use Rattle.vlog_tree.specs.Labels.{scalar, m_ack, m_rdata, m_addr, m_wdata, m_we, s_din, scalar_of, ack_of, rdata_of, addr_of, wdata_of, we_of, din_of}

-- no keyword has a `_` among its first ten bytes, so that each text of that form with such a `_` is a name
abbrev pub UnderscoreMakesNames : Type 0
UnderscoreMakesNames = (front rest : Name) → length front < 10 → has_name_form (front ++ 95 ∷ rest) ≡ true → IsName (front ++ 95 ∷ rest)

-- a way to give a label a name, and the way back
pub record IsLabelOf (name : Name → Name) (label : Name → Option Name) : Type 0 where
  pub there : (x : Name) → 0 < length x → label (name x) ≡ Some x
  pub back : (y x : Name) → label y ≡ Some x → (y ≡ name x) × (0 < length x)

pub record AreLabels : Type 0 where
  pub scalars : IsLabelOf scalar scalar_of
  pub acks : IsLabelOf m_ack ack_of
  pub rdatas : IsLabelOf m_rdata rdata_of
  pub addrs : IsLabelOf m_addr addr_of
  pub wdatas : IsLabelOf m_wdata wdata_of
  pub wes : IsLabelOf m_we we_of
  pub dins : IsLabelOf s_din din_of

-- a name has a label of one kind at most
abbrev pub LabelsAreApart : Type 0
LabelsAreApart = (y : Name) → count_by (λ (label : Name → Option Name). is_some (label y)) (scalar_of ∷ ack_of ∷ rdata_of ∷ addr_of ∷ wdata_of ∷ we_of ∷ din_of ∷ []) ≤ 1
