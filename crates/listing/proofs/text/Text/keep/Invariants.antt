-- What each turn of `keep` keeps.
use Rattle.std.proofs.Common.{◌≡◌, ℕ, List, take}
use Rattle.listing.specs.Text.{going}
use Rattle.listing.specs.Feed.{feed_in, state, with_open}
use Rattle.listing.specs.declared.text.Text.{Text}
use Rattle.listing.proofs.text.Text.keep.Given as goal

-- some bytes are gone through: the open line has n, b the last
abbrev pub Gone : Text → List ℕ → List ℕ → ℕ → ℕ → List ℕ → Type 0
Gone t line bytes n b kept =
    (size : ℕ) (image map : List ℕ) → state (going (with_open t n b)) kept image map
    ≡ feed_in size (state (going t) line image map) bytes

abbrev pub invariant-loop-b : goal.invariant-loop-b
invariant-loop-b l = Gone l.self l.initial.line (take l.b-index l.bytes) l.len l.last l.line
