use Rattle.std.proofs.Common.{◌≡◌, ◌++◌, drop, string_bytes}
use Rattle.replies.specs.Replies.{hex_text}
use Rattle.replies.proofs.row.digits.Given as goal

-- what is written so far, and the digits of the pixels to come
abbrev pub invariant-loop-p : goal.invariant-loop-p
invariant-loop-p l = string_bytes l.text ++ hex_text (drop l.p-index l.pixels) ≡ hex_text l.pixels
