-- The words of the modules of channels are names.
use Rattle.std.proofs.Common.{◌≡◌, Bool, true, false, ◌||◌, List, [], ◌∷◌, refl, ap, ◌∙◌}
use Rattle.std.specs.Prelude.{codes, bytes_eq}
use Rattle.std.specs.List.{list_all}
use Rattle.std.specs.Cmp.Lexicographic.{bytes_decides}
use Rattle.vlog_tree.specs.Names.{is_name, is_among, starts_name, goes_on, is_keyword, always_to_default, defparam_to_event, for_to_input, instance_to_not, notif0_to_real, realtime_to_strong0, strong1_to_unsigned, use_to_xor}
use Rattle.vlog_tree.specs.Table.{Name}
use Rattle.vlog_tree.specs.Labels.{rst}
use Rattle.tapa_base.proofs.Tests.{both_true}

abbrev pub relay_words : List Name
relay_words = codes "clk" ∷ codes "rst" ∷ codes "put" ∷ codes "din" ∷ codes "rdy_early" ∷ codes "put_late" ∷ codes "din_late" ∷ codes "rdy" ∷ codes "full" ∷ codes "token" ∷ codes "room" ∷ codes "put_1" ∷ codes "din_1" ∷ codes "rdy_1" ∷ codes "put_2" ∷ codes "din_2" ∷ codes "rdy_2" ∷ codes "part_0" ∷ codes "part_1" ∷ codes "part_2" ∷ []

abbrev pub fifo_words : List Name
fifo_words = codes "take" ∷ codes "head" ∷ codes "tail" ∷ codes "count" ∷ codes "tokens" ∷ codes "some" ∷ codes "has" ∷ codes "dout" ∷ codes "pop" ∷ codes "head_up" ∷ codes "head_last" ∷ codes "head_next" ∷ codes "tail_up" ∷ codes "tail_last" ∷ codes "tail_next" ∷ codes "moves" ∷ codes "more" ∷ codes "fewer" ∷ codes "count_next" ∷ []

abbrev pub channel_words : List Name
channel_words = codes "wr" ∷ codes "ready" ∷ codes "relay" ∷ codes "fifo" ∷ []

relay_words_are : list_all is_name relay_words ≡ true
unfolding starts_name goes_on is_keyword always_to_default defparam_to_event for_to_input instance_to_not notif0_to_real realtime_to_strong0 strong1_to_unsigned use_to_xor
relay_words_are = refl

fifo_words_are : list_all is_name fifo_words ≡ true
unfolding starts_name goes_on is_keyword always_to_default defparam_to_event for_to_input instance_to_not notif0_to_real realtime_to_strong0 strong1_to_unsigned use_to_xor
fifo_words_are = refl

channel_words_are : list_all is_name channel_words ≡ true
unfolding starts_name goes_on is_keyword always_to_default defparam_to_event for_to_input instance_to_not notif0_to_real realtime_to_strong0 strong1_to_unsigned use_to_xor
channel_words_are = refl

this_or_later : (x w : Name) (b c : Bool) → bytes_eq x w ≡ b → (b || c) ≡ true → is_name w ≡ true → (c ≡ true → is_name x ≡ true) → is_name x ≡ true
this_or_later x w true c e h k later = ap is_name ((bytes_decides x w).0 e) ∙ k
this_or_later x w false c e h k later = later h

among : (ws : List Name) (x : Name) → is_among ws x ≡ true → list_all is_name ws ≡ true → is_name x ≡ true
among [] x h k = cc
among (w ∷ ws) x h k = let t = both_true (is_name w) (list_all is_name ws) k in this_or_later x w (bytes_eq x w) (is_among ws x) refl h t.0 (λ g. among ws x g t.1)

-- words of relays, of FIFOs and of channels
pub relay_word : (x : Name) → is_among relay_words x ≡ true → is_name x ≡ true
relay_word x h = among relay_words x h relay_words_are

pub fifo_word : (x : Name) → is_among fifo_words x ≡ true → is_name x ≡ true
fifo_word x h = among fifo_words x h fifo_words_are

pub channel_word : (x : Name) → is_among channel_words x ≡ true → is_name x ≡ true
channel_word x h = among channel_words x h channel_words_are

pub rst_is_name : is_name rst ≡ true
unfolding rst
rst_is_name = relay_word (codes "rst") refl
