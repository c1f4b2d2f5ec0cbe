use Rattle.std.proofs.Common.{◌≡◌, true, sym, ◌∙◌}
use Rattle.std.proofs.lemmas.Result.{IfOk-weaker}
use Rattle.vlog_read.specs.BlockReading.{begins_item}
use Rattle.vlog_read.proofs.Items.{keyword_starts}
use Rattle.vlog_read.proofs.item.item_start.Goals as goal

pub returns-then-begins_item : goal.returns-then-begins_item
returns-then-begins_item c =
    let begins : begins_item c.args.word.now ≡ true = sym c.begins_item.ensures ∙ c.if-begins_item.true in
    IfOk-weaker c.item_word.result _ _ (λ o h. h ∙ keyword_starts c.args.draft c.args.word.now begins) c.item_word.ensures
