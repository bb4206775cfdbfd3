-- Laws of a text as it comes: how it is cut does not matter, and a byte ends the line or is kept.
use Rattle.std.specs.Prelude.{◌≡◌, ℕ, ◌+◌, ◌^◌, ◌<◌, ◌≤◌, List, [], ◌∷◌, ◌++◌, ◌≢◌, slice_set}
use Rattle.std.proofs.Math.Path.{refl}
use Rattle.std.proofs.Common.{eq-eqb, ne_eqb, lt-ltb, le-ltb}
use Rattle.listing.specs.Text.{going}
use Rattle.listing.specs.Feed.{Fed, state, one_more, with_open, ended_length, fed_line, fed_byte, byte_in, feed_in}
use Rattle.listing.specs.declared.text.Text.{Text}

module _ (size : ℕ) where
  -- a text may be cut anywhere
  pub feed-append : (s : Fed) (a b : List ℕ) → feed_in size s (a ++ b) ≡ feed_in size (feed_in size s a) b
  unfolding feed_in
  feed-append s [] b = refl
  feed-append s (x ∷ a) b = feed-append (byte_in size s x) a b

  -- one byte ends the line or is kept
  module _ (t : Text) (b : ℕ) (line image map : List ℕ) where
    pub byte-ends : b ≡ 0x0A
        → fed_byte size t b line image map ≡ fed_line size t (ended_length t) line image map
    unfolding fed_byte
    byte-ends e = rw (eq-eqb b 0x0A e)

    pub byte-kept : (b ≢ 0x0A)
        → fed_byte size t b line image map
        ≡ state (going (with_open t (one_more t.len) b)) (slice_set line t.len b) image map
    unfolding fed_byte
    byte-kept n = rw (ne_eqb b 0x0A n)

-- a length is counted on, or stays at the most that 64 bits count
module _ (n : ℕ) where
  pub more-counted : n + 1 < 2 ^ 64 → one_more n ≡ n + 1
  unfolding one_more
  more-counted h = rw (lt-ltb (n + 1) (2 ^ 64) h)

  pub most-stays : 2 ^ 64 ≤ n + 1 → one_more n ≡ n
  unfolding one_more
  most-stays h = rw (le-ltb (n + 1) (2 ^ 64) h)
