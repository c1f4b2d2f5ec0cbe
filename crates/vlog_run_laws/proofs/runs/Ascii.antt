-- The names of labels are ASCII.
use Rattle.std.proofs.Common.{◌≡◌, ℕ, zero, suc, ◌<◌, true, List, [], ◌∷◌, ◌++◌, refl, sym, subst}
use Rattle.std.specs.Prelude.{codes, nat_lt}
use Rattle.std.specs.List.{list_all}
use Rattle.std.specs.Str.{IsAscii}
use Rattle.std.proofs.lemmas.Bool.{ltb-true}
use Rattle.std.proofs.lemmas.Str.{IsAscii-append}
use Rattle.std.proofs.lemmas.Str.Ascii.{IsAscii-nil}
use Rattle.vlog_tree.specs.Table.{Name}
use Rattle.vlog_tree.specs.Labels.{m_ack, m_addr, m_wdata, m_we, s_din, s_wr, s_rdy, done}
use Rattle.tapa_base.proofs.Tests.{both_true}

ascii_cons : (b : ℕ) (bs : List ℕ) → b < 128 → IsAscii bs → IsAscii (b ∷ bs)
ascii_cons b bs h k zero = h
ascii_cons b bs h k (suc i) = k i

ascii_by : (bs : List ℕ) → list_all (λ b. nat_lt b 128) bs ≡ true → IsAscii bs
ascii_by [] h = IsAscii-nil
ascii_by (b ∷ bs) h = let t = both_true (nat_lt b 128) (list_all (λ b. nat_lt b 128) bs) h in ascii_cons b bs (ltb-true b 128 t.0) (ascii_by bs t.1)

around : (front end l : Name) → list_all (λ b. nat_lt b 128) front ≡ true → list_all (λ b. nat_lt b 128) end ≡ true → IsAscii l → IsAscii (front ++ l ++ end)
around front end l f e k = IsAscii-append (front ++ l) end (IsAscii-append front l (ascii_by front f) k) (ascii_by end e)

pub ack_ascii : (v l : Name) → v ≡ m_ack l → IsAscii l → IsAscii v
unfolding m_ack
ack_ascii v l e k = subst IsAscii (sym e) (around (codes "m_") (codes "_ack") l refl refl k)

pub we_ascii : (v l : Name) → v ≡ m_we l → IsAscii l → IsAscii v
unfolding m_we
we_ascii v l e k = subst IsAscii (sym e) (around (codes "m_") (codes "_we") l refl refl k)

pub addr_ascii : (v l : Name) → v ≡ m_addr l → IsAscii l → IsAscii v
unfolding m_addr
addr_ascii v l e k = subst IsAscii (sym e) (around (codes "m_") (codes "_addr") l refl refl k)

pub wdata_ascii : (v l : Name) → v ≡ m_wdata l → IsAscii l → IsAscii v
unfolding m_wdata
wdata_ascii v l e k = subst IsAscii (sym e) (around (codes "m_") (codes "_wdata") l refl refl k)

pub din_ascii : (v l : Name) → v ≡ s_din l → IsAscii l → IsAscii v
unfolding s_din
din_ascii v l e k = subst IsAscii (sym e) (around (codes "s_") (codes "_din") l refl refl k)

pub wr_ascii : (v l : Name) → v ≡ s_wr l → IsAscii l → IsAscii v
unfolding s_wr
wr_ascii v l e k = subst IsAscii (sym e) (around (codes "s_") (codes "_wr") l refl refl k)

pub rdy_ascii : (v l : Name) → v ≡ s_rdy l → IsAscii l → IsAscii v
unfolding s_rdy
rdy_ascii v l e k = subst IsAscii (sym e) (around (codes "s_") (codes "_rdy") l refl refl k)

pub done_ascii : (v : Name) → v ≡ done → IsAscii v
unfolding done
done_ascii v e = subst IsAscii (sym e) (ascii_by (codes "done") refl)
