-- Laws of the log: each row of its tables, and what is given where no row holds.
use Rattle.std.specs.Prelude.{ℕ, ◌+◌, ◌*◌, ◌≤◌, ◌<◌, true, false, List, ◌≡◌, refl, ltb, length, get_or, take, Option, Some, None}
use Rattle.std.proofs.Math.Bool.{not}
use Rattle.std.proofs.Common.{sym, ap, ◌∙◌, arith, eq-eqb, ne_eqb, lt-ltb, le-ltb, ltb-true, ltb-false, length-append, length-take, take_all}
use Rattle.basis.specs.Board.{pages_of, version_of, count_bytes, board_logged}
use Rattle.basis.specs.Laws.Boards.{counts-fit}
use Rattle.basis.specs.Laws.Choice.{decide}
use Rattle.basis.specs.Laws.Refusals.{skip, stop, done}
use Rattle.basis.specs.Lists.{pair_at}
use Rattle.basis.specs.Refusals.{refused, given}
use Rattle.basis.specs.declared.board.Board.{Board}
use Rattle.session.specs.Phases.{ended}
use Rattle.session.specs.Session.{Session}
use Rattle.service_log.specs.Big.{big_of, big_at}
use Rattle.service_log.specs.Laws.Big.{big-length}
use Rattle.service_log.specs.Log.{record_size, record_least, record_most, is_false_of, outcome_of, counts_fit, record_bytes, counts_on, write_on, read_on, read_by, read_of}

-- ---- writing

pub record-length : (b : Board) (o k t n : ℕ) → length (record_bytes b o k t n) ≡ record_size b
unfolding record_bytes big_of
record-length b o k t n =
    let w = count_bytes b in
    simp length-append (omega (arith, big-length w k, big-length w t, big-length w n))

module _ (b : Board) (room o k t n : ℕ) where
  pub counts-wide : counts_fit (count_bytes b) k t n ≡ false → counts_on b room o k t n ≡ refused 45
  unfolding counts_on
  counts-wide e = stop 45 _ _ _ (ap not e)

  module _ (e₁ : counts_fit (count_bytes b) k t n ≡ true) where
    pub counts-false : is_false_of (pages_of b) o k t n ≡ true → counts_on b room o k t n ≡ refused 45
    unfolding counts_on
    counts-false e = skip 45 _ _ _ (ap not e₁) ∙ stop 45 _ _ _ e

    module _ (e₂ : is_false_of (pages_of b) o k t n ≡ false) where
      pub counts-small : room < record_size b → counts_on b room o k t n ≡ refused 20
      unfolding counts_on
      counts-small l = skip 45 _ _ _ (ap not e₁) ∙ skip 45 _ _ _ e₂ ∙ stop 20 _ _ _ (lt-ltb _ _ l)

      pub counts-given : record_size b ≤ room → counts_on b room o k t n ≡ given (record_bytes b o k t n)
      unfolding counts_on
      counts-given l =
          skip 45 _ _ _ (ap not e₁) ∙ skip 45 _ _ _ e₂ ∙ skip 20 _ _ _ (le-ltb _ _ l) ∙ done _

module _ (b : Board) (room : ℕ) (s : Session) where
  pub write-unfinished : ended s.phase ≡ false → write_on b room s ≡ refused 45
  unfolding write_on
  write-unfinished e = stop 45 _ _ _ (ap not e)

  pub write-counts : ended s.phase ≡ true
      → write_on b room s
      ≡ counts_on b room (outcome_of s.kind s.phase) s.acknowledged s.total s.named
  unfolding write_on
  write-counts e = skip 45 _ _ _ (ap not e) ∙ done _

-- ---- reading

module _ (s : List ℕ) where
  pub read_short : length s < record_least → read_of s ≡ refused 50
  unfolding read_of
  read_short l = stop 50 _ _ _ (lt-ltb _ _ l)

  pub read-by : record_least ≤ length s → read_of s ≡ read_by (board_logged (pair_at s 0)) s
  unfolding read_of
  read-by l = skip 50 _ _ _ (le-ltb _ _ l) ∙ done _

module _ (b : Board) (s : List ℕ) where
  pub read_length : (length s ≡ record_size b → ⊥) → read_on b s ≡ refused 51
  unfolding read_on
  read_length n = stop 51 _ _ _ (ap not (ne_eqb _ _ n))

  module _ (e₁ : length s ≡ record_size b) where
    pub read-version : (get_or s 2 0 ≡ version_of b → ⊥) → read_on b s ≡ refused 52
    unfolding read_on
    read-version n = skip 51 _ _ _ (ap not (eq-eqb _ _ e₁)) ∙ stop 52 _ _ _ (ap not (ne_eqb _ _ n))

    -- the counts as they were joined, of w bytes each
    module _ (e₂ : get_or s 2 0 ≡ version_of b) {w k t n : ℕ} (ew : w ≡ count_bytes b) (ek : k ≡ big_at w s 4)
        (et : t ≡ big_at w s (4 + w)) (en : n ≡ big_at w s (4 + 2 * w)) where
      pub read-false : is_false_of (pages_of b) (get_or s 3 0) k t n ≡ true → read_on b s ≡ refused 53
      unfolding read_on
      read-false e =
          skip 51 _ _ _ (ap not (eq-eqb _ _ e₁)) ∙ skip 52 _ _ _ (ap not (eq-eqb _ _ e₂))
          ∙ stop 53 _ _ _ (rw (ek, et, en, ew) at e)

      pub read-given : is_false_of (pages_of b) (get_or s 3 0) k t n ≡ false
          → read_on b s
          ≡ given (record {
            version = get_or s 2 0;
            outcome = get_or s 3 0;
            acknowledged = k;
            total = t;
            bytes = n;
          })
      unfolding read_on
      read-given e =
          skip 51 _ _ _ (ap not (eq-eqb _ _ e₁)) ∙ skip 52 _ _ _ (ap not (eq-eqb _ _ e₂))
          ∙ skip 53 _ _ _ (rw (ek, et, en, ew) at e) ∙ done _ ∙ rw (ek, et, en, ew)

-- an input that is longer than any record
pub read-long : (s : List ℕ) → record_most < length s → read_of s ≡ refused 51
read-long s l = read-by s (omega arith) ∙ go (board_logged (pair_at s 0))
  where
    go : (x : Option Board) → read_by x s ≡ refused 51
    go None = refl
    go (Some b) = let fit = counts-fit b in read_length b s (λ e. omega arith)

-- so a reader need take no more than one byte behind it
pub read_first : (s : List ℕ) → read_of (take (record_most + 1) s) ≡ read_of s
read_first s =
    decide (ltb record_most (length s))
    (λ t. let l = ltb-true record_most (length s) t in
    read-long (take (record_most + 1) s) (simp length-take (omega arith)) ∙ sym (read-long s l))
    (λ t. let l = ltb-false record_most (length s) t in
    ap read_of (take_all (record_most + 1) s (omega arith)))
