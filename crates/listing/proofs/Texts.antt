-- What the hex reader answers to a line, and a line's bytes with its 0A.
use Rattle.std.proofs.Common.{◌≡◌, ℕ, List, ◌∷◌, ◌++◌, sym, refl, ap, ◌∙◌}
use Rattle.image.specs.Record.{Pointed, wrong, right}
use Rattle.image.specs.declared.hex.Hex.{Hex}
use Rattle.listing.specs.Feed.{Fed, state, ended_length, fed_line, byte_in, feed_in}
use Rattle.listing.specs.Laws.Determined.{lined-apart}
use Rattle.listing.specs.Laws.Feed.{feed-append, byte-ends}
use Rattle.listing.specs.Laws.Reading.{feed-stopped}
use Rattle.listing.specs.Text.{Blame, Lined, stopped, going, at_line}
use Rattle.listing.specs.declared.text.Text.{Text}

-- a refusal, and a line that was taken, whatever it gives
module _ (n : ℕ) (a : Pointed Hex) (t : Text) where
  pub line-refused : (b : Blame) → ◌≡◌ {A = Lined Hex} (stopped b) (at_line n (λ h. h) a)
      → ◌≡◌ {A = Lined Text} (stopped b) (at_line n (λ h. t) a)
  line-refused b e = go a e
    where
      go : (a : Pointed Hex) → ◌≡◌ {A = Lined Hex} (stopped b) (at_line n (λ h. h) a)
          → ◌≡◌ {A = Lined Text} (stopped b) (at_line n (λ h. t) a)
      go (wrong k c) e = let f : b ≡ record { line = n; number = k; column = c } = cc in ap stopped f
      go (right h) e = absurd (lined-apart e)

  pub line_taken : (h : Hex) → ◌≡◌ {A = Lined Hex} (going h) (at_line n (λ h. h) a)
      → ◌≡◌ {A = Lined Text} (going t) (at_line n (λ h. t) a)
  line_taken h e = go a e
    where
      go : (a : Pointed Hex) → ◌≡◌ {A = Lined Hex} (going h) (at_line n (λ h. h) a)
          → ◌≡◌ {A = Lined Text} (going t) (at_line n (λ h. t) a)
      go (wrong k c) e = absurd (lined-apart (sym e))
      go (right h) e = refl

pub ruleset shuts = (line-refused, line_taken)

-- a line's bytes and its 0A, and then what follows
module _ (size : ℕ) where
  pub line-fed : (s r : Fed) (rest front others : List ℕ) (n : ℕ) (u : Text) (kept image map : List ℕ)
      → rest ≡ front ++ (0x0A ∷ others) → state (going u) kept image map ≡ feed_in size s front
      → n ≡ ended_length u → r ≡ fed_line size u n kept image map
      → feed_in size r others ≡ feed_in size s rest
  unfolding feed_in
  line-fed s r rest front others n u kept image map e f g h =
      ap (λ (x : Fed). feed_in size x others)
      (h ∙ ap (λ k. fed_line size u k kept image map) g ∙ sym (byte-ends size u 0x0A kept image map refl)
      ∙ ap (λ (x : Fed). byte_in size x 0x0A) f)
      ∙ sym (feed-append size s front (0x0A ∷ others))
      ∙ ap (feed_in size s) (sym e)

pub ruleset feeds = (feed-stopped)
