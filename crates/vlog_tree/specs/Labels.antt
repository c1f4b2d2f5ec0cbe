-- The names that the top's ports and wires have by their meaning.
use Rattle.std.specs.Prelude.{◌-◌, ◌&&◌, List, [], ◌∷◌, ◌++◌, Option, Some, None, codes, length, take, drop, nat_le, if◌then◌else◌, bytes_eq}
use Rattle.vlog_tree.specs.Table.{Name}

unfoldable pub scalar : Name → Name
scalar x = codes "v_" ++ x

unfoldable pub m_ack : Name → Name
m_ack x = codes "m_" ++ x ++ codes "_ack"

unfoldable pub m_rdata : Name → Name
m_rdata x = codes "m_" ++ x ++ codes "_rdata"

unfoldable pub m_addr : Name → Name
m_addr x = codes "m_" ++ x ++ codes "_addr"

unfoldable pub m_wdata : Name → Name
m_wdata x = codes "m_" ++ x ++ codes "_wdata"

unfoldable pub m_we : Name → Name
m_we x = codes "m_" ++ x ++ codes "_we"

unfoldable pub s_din : Name → Name
s_din x = codes "s_" ++ x ++ codes "_din"

unfoldable pub s_wr : Name → Name
s_wr x = codes "s_" ++ x ++ codes "_wr"

unfoldable pub s_rdy : Name → Name
s_rdy x = codes "s_" ++ x ++ codes "_rdy"

unfoldable pub rst : Name
rst = codes "rst"

unfoldable pub done : Name
done = codes "done"

-- the label in a name, between a prefix and a suffix; it isn't empty
unfoldable pub label_in : Name → Name → Name → Option Name
label_in front end x =
    if nat_le (length front) (length x) && bytes_eq (take (length front) x) front
    then (let rest = drop (length front) x in
    if nat_le (length end) (length rest) && bytes_eq (drop (length rest - length end) rest) end
    then (if nat_le (length rest) (length end) then None else Some (take (length rest - length end) rest))
    else None)
    else None

unfoldable pub scalar_of : Name → Option Name
scalar_of x = label_in (codes "v_") [] x

unfoldable pub ack_of : Name → Option Name
ack_of x = label_in (codes "m_") (codes "_ack") x

unfoldable pub rdata_of : Name → Option Name
rdata_of x = label_in (codes "m_") (codes "_rdata") x

unfoldable pub addr_of : Name → Option Name
addr_of x = label_in (codes "m_") (codes "_addr") x

unfoldable pub wdata_of : Name → Option Name
wdata_of x = label_in (codes "m_") (codes "_wdata") x

unfoldable pub we_of : Name → Option Name
we_of x = label_in (codes "m_") (codes "_we") x

unfoldable pub din_of : Name → Option Name
din_of x = label_in (codes "s_") (codes "_din") x

abbrev pub read_of : Option Name → List Name
read_of None = []
read_of (Some x) = m_addr x ∷ []

-- the net that asks for what this net reads
abbrev pub address_of : Name → List Name
address_of x = read_of (rdata_of x)
