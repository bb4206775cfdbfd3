-- A number is printed as its digits, and a log line as its text and 0A.
use Rattle.std.proofs.Common.{◌≡◌, ℕ, ◌*◌, ◌≤◌, List, [], ◌++◌, length, take, drop, refl, ap, ◌∙◌, take_at, arith}
use Rattle.basis.specs.Laws.Lists.{copy-overlay}
use Rattle.basis.specs.Lists.{copy_of}
use Rattle.basis.specs.Refusals.{Answer, refused, given}
use Rattle.image.specs.Laws.Writer.{length-spelt}
use Rattle.image.specs.Writer.{spelt}
use Rattle.listing.specs.Laws.Numbers.{decimal-is}
use Rattle.listing.specs.Lines.{line_end, refusal_line, record_line, log_text, log_line}
use Rattle.service_log.specs.declared.read.Record.{Record}

pub ruleset decimals = (decimal-is)

-- a log line is its text and 0A
pub log-text : (a : Answer Record) → log_text a ++ line_end ≡ log_line a
unfolding refusal_line record_line
log-text (refused k) = refl
log-text (given x) = refl

pub log-said : (a b : Answer Record) → a ≡ b → log_text a ++ line_end ≡ log_line b
log-said a b e = log-text a ∙ ap log_line e

pub ruleset logged = (log-said)

-- bytes spelled into a buffer from its start on are its first characters
pub spelt_taken : (old p : List ℕ) → 2 * length p ≤ length old
    → take (2 * length p) (copy_of old 0 (spelt p)) ≡ spelt p
spelt_taken old p h =
    let e : length (spelt p) ≡ 2 * length p = omega (arith, length-spelt p) in
    rw (copy-overlay [] old (spelt p) 0 refl (omega arith))
    (take_at (spelt p) (drop (length (spelt p)) old) (2 * length p) e)
