-- A series of records with no type 02 reads alike under both rule sets.
use Rattle.std.proofs.lemmas.Bool.{not-true}
use Rattle.std.specs.Prelude.{◌≡◌, ℕ, Bool, true, false, not, List, [], ◌∷◌, ◌++◌, map, length, drop, ◌==◌, nat_eq, nat_le}
use Rattle.std.proofs.Math.Path.{refl, ap}
use Rattle.std.proofs.Common.{sym, subst, ◌∙◌, add-zero, eq-eqb}
use Rattle.basis.specs.Choice.{pick, any}
use Rattle.basis.specs.Units.{right_sizes_in}
use Rattle.runs.specs.Map.{named}
use Rattle.basis.specs.Laws.Choice.{decide, both_true}
use Rattle.basis.specs.Laws.Refusals.{first_then}
use Rattle.basis.specs.Refusals.{Answer, refused, given, Rule, ◌when◌, first, and_then, bare}
use Rattle.image.specs.Digits.{decoded}
use Rattle.image.specs.Hex.{File, is_rule_set, started, place, other_of, effect, record_in, close_of}
use Rattle.image.specs.Laws.Hex.{record-did}
use Rattle.image.specs.Record.{count, kind, is_data, character_rows, byte_rows, shape_rows, Pointed, wrong, right, pointed}
use Rattle.image.specs.Series.{file_after, answers, last_file, ruled, under, answer_under, no_segments}
use Rattle.image.specs.declared.hex.Hex.{Hex}

-- what a table guards, under rule set 2
passed_on : (line : List ℕ) (l : List Rule) (f : File)
    → pointed line (first l (given (under 2 f))) ≡ answer_under 2 (pointed line (first l (given f)))
passed_on line l f =
    ap (pointed line) (first_then l (given (under 2 f)))
    ∙ go (first l (given tt))
    ∙ ap (λ (a : Answer File). answer_under 2 (pointed line a)) (sym (first_then l (given f)))
  where
    go : (a : Answer Unit)
        → pointed line (and_then a (given (under 2 f))) ≡ answer_under 2 (pointed line (and_then a (given f)))
    go (refused n) = refl
    go (given x) = refl

-- rule set 1, and no 02 has come: its base is 0, and it does not govern
record Unsegmented (h : Hex) : Type 0 where
  pub rules : h.rules ≡ 1
  pub segment : h.segment ≡ 0
  pub segmented : h.segmented ≡ false

module _ (h : Hex) (u : Unsegmented h) where
  -- then every byte has the same place in set 2
  same_place : (b : List ℕ) → place (ruled 2 h) b ≡ place h b
  same_place b = λ k i. at i k
    where
      at : (i : ℕ) → place (ruled 2 h) b i ≡ place h b i
      at i = rw (eq-eqb h.rules 1 u.rules, u.segmented, u.segment, add-zero h.linear)

  -- so a record does the same
  other-same : (b : List ℕ) → other_of (ruled 2 h) b ≡ ruled 2 (other_of h b)
  other-same b =
      decide (kind b == 1) (λ e. rw e)
      (λ e. decide (kind b == 2) (λ t. rw (e, t))
      (λ t. decide (kind b == 4) (λ f. rw (e, t, f)) (λ f. rw (e, t, f))))

  effect-same : (b image map : List ℕ) → effect (ruled 2 h) b image map ≡ under 2 (effect h b image map)
  effect-same b image map = decide (is_data b) (λ e. rw (e, same_place b)) (λ e. rw (e, other-same b))

  -- and where it is no 02, none has come after it either
  other-kept : (b : List ℕ) → (kind b == 2) ≡ false → Unsegmented (other_of h b)
  other-kept b n =
      decide (kind b == 1)
      (λ e. rw e (record { rules = u.rules; segment = u.segment; segmented = u.segmented }))
      (λ e. rw (e, n)
      (decide (kind b == 4)
      (λ t. rw t (record { rules = u.rules; segment = u.segment; segmented = refl }))
      (λ t. rw t u)))

  effect-kept : (b image map : List ℕ) → (kind b == 2) ≡ false → Unsegmented (effect h b image map).reader
  effect-kept b image map n =
      decide (is_data b)
      (λ e. rw e (record { rules = u.rules; segment = u.segment; segmented = u.segmented }))
      (λ e. rw e (other-kept b n))

  module _ (size : ℕ) (line image map : List ℕ) where
    record_same : pointed line (record_in size (ruled 2 h) line image map)
        ≡ answer_under 2 (pointed line (record_in size h line image map))
    unfolding record_in
    record_same =
        let b = decoded (drop 1 line) in
        let known : ◌≡◌ {A = Bool} false (not (is_rule_set h.rules)) =
        rw (eq-eqb h.rules 1 u.rules) refl in
        (λ k.
        pointed line
        (first
        (20 when not (right_sizes_in size (length image) (length map))
        ∷ 34 when known k
        ∷ 21 when h.ended
        ∷ character_rows line ++ byte_rows (length line) b ++ shape_rows b
        ++ pick (is_data b)
        (29 when any (λ (i : ℕ). nat_le size (same_place b k i)) 0 (count b)
        ∷ 30 when any (λ (i : ℕ). named map (same_place b k i)) 0 (count b)
        ∷ []) [])
        (given (effect-same b image map k))))
        ∙ passed_on line _ (effect h b image map)

    record-kept : nat_eq (kind (decoded (drop 1 line))) 2 ≡ false
        → (g : File)
        → record_in size h line image map ≡ given g
        → Unsegmented g.reader
    record-kept n g e =
        subst (λ (f : File). Unsegmented f.reader) (sym (record-did size h line image map g e))
        (effect-kept (decoded (drop 1 line)) image map n)

  close-same : bare (close_of (ruled 2 h)) ≡ bare (close_of h)
  unfolding first close_of
  close-same =
      let one = eq-eqb h.rules 1 u.rules in
      decide h.ended
      (λ e. decide h.taken (λ t. simp (one, e, t)) (λ t. simp (one, e, t)))
      (λ e. simp (one, e))

-- the files that two answers leave, one the other's under rule set 2
after_same : (f : File) (a : Pointed File)
    → file_after (under 2 f) (answer_under 2 a) ≡ under 2 (file_after f a)
after_same f (wrong n c) = refl
after_same f (right g) = refl

module _ (size : ℕ) where
  after_kept : (l : List ℕ) (f : File) → Unsegmented f.reader → (kind (decoded (drop 1 l)) == 2) ≡ false
      → (a : Answer File)
      → record_in size f.reader l f.image f.map ≡ a
      → Unsegmented (file_after f (pointed l a)).reader
  after_kept l f u n (refused k) e = u
  after_kept l f u n (given g) e = record-kept f.reader u size l f.image f.map n g e

  -- the answers, the file after them, and that no 02 has come then either
  from-here : (s : List (List ℕ)) (f : File) → Unsegmented f.reader → no_segments s ≡ true
      → (answers size s (under 2 f) ≡ map (answer_under 2) (answers size s f))
      × (last_file size s (under 2 f) ≡ under 2 (last_file size s f))
      × Unsegmented (last_file size s f).reader
  unfolding answers last_file
  from-here [] f u n = (refl, refl, u)
  from-here (l ∷ s) f u n =
      let a = record_in size f.reader l f.image f.map in
      let t = both_true (not (kind (decoded (drop 1 l)) == 2)) (no_segments s) n in
      let on = from-here s (file_after f (pointed l a)) (after_kept l f u (not-true _ t.0) a refl) t.1 in
      rw (record_same f.reader u size l f.image f.map, after_same f (pointed l a)) (
        ap (λ (x : List (Pointed File)). answer_under 2 (pointed l a) ∷ x) on.0,
        on.1,
        on.2,
      )

unsegmented-start : (size : ℕ) → Unsegmented (started size 1).reader
unsegmented-start size = record { rules = refl; segment = refl; segmented = refl }

-- From a start, a series of records with no type 02 gives the same answers under both rule sets, record by
-- record, with the same columns, the same image and the same map; the readers differ in the set that they
-- carry and in nothing else. Nothing is asked of offsets: before any 02, nothing wraps in either set.
pub sets-alike : (size : ℕ) (s : List (List ℕ)) → no_segments s ≡ true
    → answers size s (started size 2) ≡ map (answer_under 2) (answers size s (started size 1))
sets-alike size s n = (from-here size s (started size 1) (unsegmented-start size) n).0

-- And it closes alike.
pub closes-alike : (size : ℕ) (s : List (List ℕ)) → no_segments s ≡ true
    → bare (close_of (last_file size s (started size 2)).reader)
    ≡ bare (close_of (last_file size s (started size 1)).reader)
closes-alike size s n =
    let e = from-here size s (started size 1) (unsegmented-start size) n in
    ap (λ (f : File). bare (close_of f.reader)) e.1
    ∙ close-same (last_file size s (started size 1)).reader e.2
