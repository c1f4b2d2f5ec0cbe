-- Names that are made of a label, and what tells their sorts: their first two bytes, their last one and their fifth from the end.
use Rattle.std.proofs.Common.{◌≡◌, ℕ, true, cond, eqb, ◌&&◌, [], ◌∷◌, ◌++◌, length, get_or, take, drop, refl, sym, ap, ◌∙◌, arith, length-append}
use Rattle.std.specs.Prelude.{codes, reverse}
use Rattle.std.specs.List.{list_all}
use Rattle.std.proofs.lemmas.List.{reverse-append}
use Rattle.std.proofs.Math.Seq.{take-append_seam, drop-append_seam}
use Rattle.vlog_tree.specs.Labels.{rst, done, scalar, m_ack, m_rdata, m_addr, m_wdata, m_we, s_din, s_wr, s_rdy}
use Rattle.vlog_tree.specs.Names.{is_name, starts_name, goes_on, is_keyword, always_to_default, defparam_to_event, for_to_input, instance_to_not, notif0_to_real, realtime_to_strong0, strong1_to_unsigned, use_to_xor}
use Rattle.vlog_tree.specs.Table.{Name, clk}
use Rattle.vlog_module_laws.proofs.Labelled.{early_name}
use Rattle.hw_build.proofs.Forms.{all_append}
use Rattle.hw_top_lines.specs.Names.{s_has, s_dout, s_take, task_instance, channel_instance}
use Rattle.std.proofs.lemmas.Bool.{and_from as yes_and}

-- ---- sorts, in the order of the top's elements

abbrev pub by_bytes : (first second last fifth : ℕ) → ℕ
by_bytes first second last fifth =
    cond (eqb first 99) (cond (eqb second 95) 19 0)
    (cond (eqb first 114) 1
    (cond (eqb first 118) 2
    (cond (eqb first 109) (cond (eqb last 114) 3 (cond (eqb last 101) 5 (cond (eqb last 107) 6 (cond (eqb fifth 119) 4 7))))
    (cond (eqb first 115) (cond (eqb last 110) 8 (cond (eqb last 114) 9 (cond (eqb last 121) 10 (cond (eqb last 115) 11 (cond (eqb last 116) 12 15)))))
    (cond (eqb first 98) 13 (cond (eqb first 101) 14 (cond (eqb first 119) 16 (cond (eqb first 100) 17 18))))))))

abbrev pub from_end : Name → ℕ → ℕ
from_end x k = get_or (reverse x) k 0

abbrev pub sort : Name → ℕ
sort x = by_bytes (get_or x 0 0) (get_or x 1 0) (from_end x 0) (from_end x 4)

end_byte : (front end l : Name) (k : ℕ) → from_end (front ++ (l ++ end)) k ≡ get_or ((reverse end ++ reverse l) ++ reverse front) k 0
end_byte front end l k = ap (λ z. get_or z k 0) (reverse-append front (l ++ end)) ∙ ap (λ z. get_or (z ++ reverse front) k 0) (reverse-append l end)

sort_between : (front end l : Name)
    → sort (front ++ (l ++ end)) ≡ by_bytes (get_or (front ++ (l ++ end)) 0 0) (get_or (front ++ (l ++ end)) 1 0) (get_or ((reverse end ++ reverse l) ++ reverse front) 0 0) (get_or ((reverse end ++ reverse l) ++ reverse front) 4 0)
sort_between front end l =
    ap (λ n. by_bytes (get_or (front ++ (l ++ end)) 0 0) (get_or (front ++ (l ++ end)) 1 0) n (from_end (front ++ (l ++ end)) 4)) (end_byte front end l 0)
    ∙ ap (λ n. by_bytes (get_or (front ++ (l ++ end)) 0 0) (get_or (front ++ (l ++ end)) 1 0) (get_or ((reverse end ++ reverse l) ++ reverse front) 0 0) n) (end_byte front end l 4)

-- the ends of the names of a memory's ports and of a stream's wires, by their sorts
abbrev pub end_of : ℕ → Name
end_of k =
    cond (eqb k 3) (codes "_addr") (cond (eqb k 4) (codes "_wdata") (cond (eqb k 5) (codes "_we") (cond (eqb k 6) (codes "_ack") (cond (eqb k 7) (codes "_rdata")
    (cond (eqb k 8) (codes "_din") (cond (eqb k 9) (codes "_wr") (cond (eqb k 10) (codes "_rdy") (cond (eqb k 11) (codes "_has") (cond (eqb k 12) (codes "_dout") (codes "_take"))))))))))

-- ---- names

mark_goes_on : goes_on 95 ≡ true
unfolding goes_on starts_name
mark_goes_on = refl

-- a letter, `_` and more
pub letter_name : (c : ℕ) (rest : Name) → starts_name c ≡ true → list_all goes_on rest ≡ true → is_name (c ∷ 95 ∷ rest) ≡ true
letter_name c rest s h = early_name (c ∷ []) rest (omega arith) (yes_and (starts_name c) (goes_on 95 && list_all goes_on rest) s (yes_and (goes_on 95) (list_all goes_on rest) mark_goes_on h))

between_name : (c : ℕ) (l end : Name) → starts_name c ≡ true → list_all goes_on l ≡ true → list_all goes_on end ≡ true → is_name (c ∷ 95 ∷ (l ++ end)) ≡ true
between_name c l end s h k = letter_name c (l ++ end) s (all_append goes_on l end h k)

-- ---- a label between a front and an end

same_lengths : (l m end : Name) → l ++ end ≡ m ++ end → length l ≡ length m
same_lengths l m end e =
    let a = ap length e in
    let b = length-append l end in
    let c = length-append m end in
    omega (arith, a, b, c)

pub same_between : (front end l m : Name) → front ++ (l ++ end) ≡ front ++ (m ++ end) → l ≡ m
same_between front end l m e =
    let rest : l ++ end ≡ m ++ end = sym (drop-append_seam front (l ++ end)) ∙ ap (drop (length front)) e ∙ drop-append_seam front (m ++ end) in
    sym (take-append_seam l end) ∙ ap (take (length l)) rest ∙ ap (λ n. take n (m ++ end)) (same_lengths l m end rest) ∙ take-append_seam m end

-- a name of sort k that is made of label l
pub record IsMade (front : Name) (k : ℕ) (l x : Name) : Type 0 where
  pub is : x ≡ front ++ (l ++ end_of (sort x))
  pub sorted : sort x ≡ k
  pub named : is_name x ≡ true

pub same_label : (front : Name) (j k : ℕ) (l m x : Name) → IsMade front j l x → IsMade front k m x → l ≡ m
same_label front j k l m x a b = same_between front (end_of (sort x)) l m (sym a.is ∙ b.is)

-- names of sort k, one of each label
pub record AreNames (front : Name) (k : ℕ) (name : Name → Name) : Type 0 where
  pub sorts : (l : Name) → sort (name l) ≡ k
  pub made : (l : Name) → list_all goes_on l ≡ true → IsMade front k l (name l)

names_of : (c : ℕ) (end : Name) (k : ℕ) → ((l : Name) → sort (c ∷ 95 ∷ (l ++ end)) ≡ k) → end_of k ≡ end → starts_name c ≡ true → list_all goes_on end ≡ true → AreNames (c ∷ 95 ∷ []) k (λ l. c ∷ 95 ∷ (l ++ end))
names_of c end k s e first rest = record {
  sorts = s;
  made = λ l h. record { is = ap (λ z. c ∷ 95 ∷ (l ++ z)) (sym (ap end_of (s l) ∙ e)); sorted = s l; named = between_name c l end first h rest };
}

pub addr_names : AreNames (codes "m_") 3 m_addr
unfolding m_addr starts_name goes_on
addr_names = names_of 109 (codes "_addr") 3 (sort_between (codes "m_") (codes "_addr")) refl refl refl

pub wdata_names : AreNames (codes "m_") 4 m_wdata
unfolding m_wdata starts_name goes_on
wdata_names = names_of 109 (codes "_wdata") 4 (sort_between (codes "m_") (codes "_wdata")) refl refl refl

pub we_names : AreNames (codes "m_") 5 m_we
unfolding m_we starts_name goes_on
we_names = names_of 109 (codes "_we") 5 (sort_between (codes "m_") (codes "_we")) refl refl refl

pub ack_names : AreNames (codes "m_") 6 m_ack
unfolding m_ack starts_name goes_on
ack_names = names_of 109 (codes "_ack") 6 (sort_between (codes "m_") (codes "_ack")) refl refl refl

pub rdata_names : AreNames (codes "m_") 7 m_rdata
unfolding m_rdata starts_name goes_on
rdata_names = names_of 109 (codes "_rdata") 7 (sort_between (codes "m_") (codes "_rdata")) refl refl refl

pub din_names : AreNames (codes "s_") 8 s_din
unfolding s_din starts_name goes_on
din_names = names_of 115 (codes "_din") 8 (sort_between (codes "s_") (codes "_din")) refl refl refl

pub wr_names : AreNames (codes "s_") 9 s_wr
unfolding s_wr starts_name goes_on
wr_names = names_of 115 (codes "_wr") 9 (sort_between (codes "s_") (codes "_wr")) refl refl refl

pub rdy_names : AreNames (codes "s_") 10 s_rdy
unfolding s_rdy starts_name goes_on
rdy_names = names_of 115 (codes "_rdy") 10 (sort_between (codes "s_") (codes "_rdy")) refl refl refl

pub has_names : AreNames (codes "s_") 11 s_has
unfolding s_has starts_name goes_on
has_names = names_of 115 (codes "_has") 11 (sort_between (codes "s_") (codes "_has")) refl refl refl

pub dout_names : AreNames (codes "s_") 12 s_dout
unfolding s_dout starts_name goes_on
dout_names = names_of 115 (codes "_dout") 12 (sort_between (codes "s_") (codes "_dout")) refl refl refl

pub take_names : AreNames (codes "s_") 15 s_take
unfolding s_take starts_name goes_on
take_names = names_of 115 (codes "_take") 15 (sort_between (codes "s_") (codes "_take")) refl refl refl

pub scalar_sort : (l : Name) → sort (scalar l) ≡ 2
unfolding scalar
scalar_sort l = refl

-- ---- a label behind a front

-- of two bytes
pub record IsFronted (front : Name) (k : ℕ) (l x : Name) : Type 0 where
  pub is : x ≡ front ++ l
  pub sorted : sort x ≡ k
  pub named : is_name x ≡ true

pub same_fronted : (front : Name) (j k : ℕ) (l m x : Name) → IsFronted front j l x → IsFronted front k m x → l ≡ m
same_fronted front j k l m x a b = sym (drop-append_seam front l) ∙ ap (drop (length front)) (sym a.is ∙ b.is) ∙ drop-append_seam front m

pub fronted_scalar : (l : Name) → list_all goes_on l ≡ true → IsFronted (codes "v_") 2 l (scalar l)
unfolding scalar starts_name goes_on
fronted_scalar l h = record { is = refl; sorted = scalar_sort l; named = letter_name 118 l refl h }

pub fronted_task : (l : Name) → list_all goes_on l ≡ true → IsFronted (codes "t_") 18 l (task_instance l)
unfolding task_instance starts_name goes_on
fronted_task l h = record { is = refl; sorted = refl; named = letter_name 116 l refl h }

pub fronted_channel : (l : Name) → list_all goes_on l ≡ true → IsFronted (codes "c_") 19 l (channel_instance l)
unfolding channel_instance starts_name goes_on
fronted_channel l h = record { is = refl; sorted = refl; named = letter_name 99 l refl h }

-- ---- single names

pub clk_sort : sort clk ≡ 0
unfolding clk
clk_sort = refl

pub rst_sort : sort rst ≡ 1
unfolding rst
rst_sort = refl

pub done_sort : sort done ≡ 17
unfolding done
done_sort = refl

pub done_is_name : is_name done ≡ true
unfolding done starts_name goes_on is_keyword always_to_default defparam_to_event for_to_input instance_to_not notif0_to_real realtime_to_strong0 strong1_to_unsigned use_to_xor
done_is_name = refl
