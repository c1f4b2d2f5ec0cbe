-- Reading on behind a part of a text, and failing there.
use Rattle.vcd_text.proofs.Sequences.{common_longer}
use Rattle.std.proofs.Common.{◌≡◌, ◌≢◌, ◌⊎◌, ℕ, ◌+◌, [], ◌++◌, length, drop, inl, inr, sym, ap, subst, arith}
use Rattle.std.proofs.lemmas.List.{length-append}
use Rattle.tapa_base.specs.Gaps.{Bytes}
use Rattle.vcd_text.specs.Along.{common, StopsBefore}
use Rattle.vcd_text.specs.Rest.{Answer, Texts, Fails, FailsBefore, Serves}
use Rattle.vcd_text.proofs.Common.{common_behind, common_front, common_whole, common_within, common_swap, common_all, less}

-- a part of texts, behind which others are left
abbrev pub Steps : Texts → Bytes → Texts → Type 0
Steps L w M = (a : Answer) (z : Bytes) → (L a (w ++ z) → M a z) × (M a z → L a (w ++ z))

pub fails_behind : (L M : Texts) (w z all : Bytes) (left : ℕ) → all ≡ w ++ z → Steps L w M → FailsBefore M z left → FailsBefore L all left
fails_behind L M w z all left e steps (n, is, f) = (
  length w + n,
  omega (arith, is, length-append w z, ap (λ (l : Bytes). length l) e),
  subst (λ (l : Bytes). Fails L l (length w + n)) (sym e) (record {
    answer = f.answer;
    text = w ++ f.text;
    is_text = (steps f.answer f.text).1 f.is_text;
    along = omega (arith, f.along, common_behind w f.text z);
    most = λ a y h. elim (less (common w y) (length w)) [
      | inr whole ↦
          let same : y ≡ w ++ drop (length w) y = common_whole w y (omega (arith, whole.1, common_within w y)) in
          let rest : M a (drop (length w) y) = (steps a (drop (length w) y)).0 (subst (λ (l : Bytes). L a l) same h) in
          omega (arith, ap (λ (l : Bytes). common l (w ++ z)) same, common_behind w (drop (length w) y) z, f.most a (drop (length w) y) rest)
      | inl short ↦ omega (arith, short.1, common_swap y (w ++ z), common_front w z y short.1)
    ];
    none = λ a h. f.none a ((steps a z).0 h);
  }),
)

-- none of the lines that texts begin with
pub fails_lines : (L : Texts) (W : Bytes → Type 0) (z : Bytes) (left : ℕ) → ((w : Bytes) → W w → (a : Answer) × (y : Bytes) × L a (w ++ y)) → ((a : Answer) (y : Bytes) → L a y → ((y ≡ []) × (z ≢ [])) ⊎ ((w : Bytes) × (x : Bytes) × W w × (y ≡ w ++ x)))
    → StopsBefore W z left → FailsBefore L z left
fails_lines L W z left into out (n, is, s) =
    let some : (a : Answer) × (y : Bytes) × L a (s.word ++ y) = into s.word s.is_word in (
      n,
      is,
      record {
        answer = some.0;
        text = s.word ++ some.1;
        is_text = some.2;
        along = omega (arith, s.along, common_longer s.word some.1 z);
        most = λ a y h. elim (out a y h) [
          | inl (e, ne) ↦ omega (arith, ap (λ (l : Bytes). common l z) e)
          | inr (w, x, v, e) ↦ omega (arith, ap (λ (l : Bytes). common l z) e, common_front w x z (s.none w v), s.most w v)
        ];
        none = λ a h. elim (out a z h) [
          | inl (e, ne) ↦ ne e
          | inr (w, x, v, e) ↦ absurd (omega (arith, s.none w v, ap (λ (l : Bytes). common w l) e, common_all w x))
        ];
      },
    )

pub serves_self : (L : Texts) (z : Bytes) → Serves L z L z
serves_self L z = record { found = λ a h. h; fails = λ left h. h }

pub serves_more : (L M N : Texts) (z y w x : Bytes) → Serves L z M y → y ≡ w ++ x → Steps M w N → Serves L z N x
serves_more L M N z y w x s e steps = record {
  found = λ a h. s.found a (subst (λ (l : Bytes). M a l) (sym e) ((steps a x).1 h));
  fails = λ left h. s.fails left (fails_behind M N w x y left e steps h);
}
