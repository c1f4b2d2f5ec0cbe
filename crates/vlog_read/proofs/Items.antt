-- Keywords that begin items, and names.
use Rattle.std.proofs.Common.{◌≡◌, Bool, true, false, bytes_eq, codes, None, refl, sym, ap, ◌∙◌}
use Rattle.std.proofs.lemmas.Bool.{or_parts}
use Rattle.vlog_tree.specs.Names.{is_name}
use Rattle.vlog_tree.specs.Spelling.{Word}
use Rattle.vlog_lex.proofs.OneBlock.{NoName, keywords}
use Rattle.vlog_read.specs.declared.state.ModuleDraft.{ModuleDraft}
use Rattle.vlog_read.specs.BlockReading.{begins_item, item_word, item_start}
use Rattle.vlog_read.proofs.IsRead.{same_word}

-- a name is no keyword
pub not_word : (w v : Word) → is_name w ≡ true → NoName v → bytes_eq w v ≡ false
not_word w v named none = by_test (bytes_eq w v) refl
  where
    by_test : (t : Bool) → bytes_eq w v ≡ t → bytes_eq w v ≡ false
    by_test true e = absurd (let f : true ≡ false = sym named ∙ ap is_name (same_word w v e) ∙ none in cc)
    by_test false e = e

pub name_no_item : (d : ModuleDraft) (w : Word) → is_name w ≡ true → item_word d w ≡ None
name_no_item d w h =
    rw (not_word w (codes "wire") h keywords.no_wire, not_word w (codes "reg") h keywords.no_reg, not_word w (codes "assign") h keywords.no_assign, not_word w (codes "always") h keywords.no_always, not_word w (codes "endmodule") h keywords.no_endmodule)
    refl

name_begins_none : (w : Word) → is_name w ≡ true → begins_item w ≡ false
name_begins_none w h =
    rw (not_word w (codes "wire") h keywords.no_wire, not_word w (codes "reg") h keywords.no_reg, not_word w (codes "assign") h keywords.no_assign, not_word w (codes "always") h keywords.no_always, not_word w (codes "endmodule") h keywords.no_endmodule)
    refl

begins_no_name : (w : Word) → begins_item w ≡ true → is_name w ≡ false
begins_no_name w begins = by_test (is_name w) refl
  where
    by_test : (t : Bool) → is_name w ≡ t → is_name w ≡ false
    by_test true e = absurd (let f : true ≡ false = sym begins ∙ name_begins_none w e in cc)
    by_test false e = e

pub no_item : (d : ModuleDraft) (w : Word) → begins_item w ≡ false → item_word d w ≡ None
no_item d w h =
    let e = or_parts _ (bytes_eq w (codes "endmodule")) h in
    let c = or_parts _ (bytes_eq w (codes "always")) e.0 in
    let b = or_parts _ (bytes_eq w (codes "assign")) c.0 in
    let a = or_parts (bytes_eq w (codes "wire")) (bytes_eq w (codes "reg")) b.0 in
    rw (a.0, a.1, b.1, c.1, e.1) refl

pub keyword_starts : (d : ModuleDraft) (w : Word) → begins_item w ≡ true → item_word d w ≡ item_start d w
keyword_starts d w h = rw (begins_no_name w h) refl
