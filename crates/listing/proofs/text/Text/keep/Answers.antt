-- `keep` meets its contract: each byte is kept, as one by one.
use Rattle.std.proofs.Common.{◌≡◌, ℕ, ◌+◌, ◌<◌, ◌≤◌, List, [], ◌∷◌, ◌++◌, length, get_or, take, set, sym, refl, ap, ◌∙◌, add-one, take-suc, take_all}
use Rattle.listing.specs.Text.{going}
use Rattle.listing.specs.Feed.{Fed, byte_in, feed_in, state, with_open, one_more}
use Rattle.listing.specs.Laws.Feed.{feed-append, byte-kept}
use Rattle.listing.specs.declared.text.Text.{Text}
use Rattle.listing.proofs.text.Text.keep.Goals as goal
use Rattle.listing.proofs.text.Text.keep.Invariants.{Gone}

module _ (size : ℕ) where
  -- one byte more
  feed-more : (s q r : Fed) (t : List ℕ) (i : ℕ) → i < length t → q ≡ feed_in size s (take i t)
      → r ≡ byte_in size q (get_or t i 0) → r ≡ feed_in size s (take (i + 1) t)
  unfolding feed_in
  feed-more s q r t i h e f =
      f ∙ ap (λ (x : Fed). byte_in size x (get_or t i 0)) e
      ∙ sym (feed-append size s (take i t) (get_or t i 0 ∷ []))
      ∙ ap (λ (x : List ℕ). feed_in size s x) grown
    where
      grown : take i t ++ (get_or t i 0 ∷ []) ≡ take (i + 1) t
      grown = rw (add-one, take-suc t i 0 h)

module _ (t : Text) (line bytes : List ℕ) where
  gone-more : (n m b i : ℕ) (k l : List ℕ) → i < length bytes → (get_or bytes i 0 ≡ 0x0A → ⊥)
      → m ≡ one_more n → l ≡ set k n (get_or bytes i 0) → Gone t line (take i bytes) n b k
      → Gone t line (take (i + 1) bytes) m (get_or bytes i 0) l
  gone-more n m b i k l h other e f g size image map =
      let u = with_open t n b in
      feed-more size (state (going t) line image map) (state (going u) k image map)
      (state (going (with_open t m (get_or bytes i 0))) l image map) bytes i h (g size image map)
      (rw (e, f) (sym (byte-kept size u (get_or bytes i 0) k image map other)))

  gone-all : (n b i : ℕ) (k : List ℕ) → length bytes ≤ i → Gone t line (take i bytes) n b k
      → Gone t line bytes n b k
  gone-all n b i k e g size image map =
      g size image map ∙ ap (feed_in size (state (going t) line image map)) (take_all i bytes e)

pub loop-b-init : goal.loop-b-init
unfolding feed_in
loop-b-init c = λ size image map. refl

pub loop-b-preserved : goal.loop-b-preserved
loop-b-preserved c =
    gone-more _ _ _ _ _ _ _ _ _ c.loop-b-test.true (c.requires.open c.loop-b.b-index 0 c.loop-b-test.true)
    c.keep_one-len.ensures.len c.keep_one-len.ensures.line c.loop-b.invariant

pub returns : goal.returns
returns c = gone-all _ _ _ _ _ _ _ c.loop-b-test.false c.loop-b.invariant
