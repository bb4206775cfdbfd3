-- With nothing lost and no protection in the way every packet is let through, and makes room for the next.
use Rattle.std.specs.Prelude.{ℕ, suc, ◌+◌, ◌≤◌, ◌<◌, true, false, List, map, ◌≡◌, refl, eqb, length, get_or, take, drop}
use Rattle.std.proofs.Common.{sym, ap, subst, ◌∙◌, arith, eqb-true, get_or-take, get_or-drop}
use Rattle.std.proofs.lemmas.Bool.{eqb-false}
use Rattle.std.proofs.lemmas.List.{length-map}
use Rattle.basis.specs.Bits.{bit}
use Rattle.basis.specs.Laws.Choice.{decide}
use Rattle.basis.specs.Laws.Lists.{bytes_take, bytes_drop}
use Rattle.basis.specs.Lists.{Bytes}
use Rattle.basis.specs.Refusals.{given}
use Rattle.basis.specs.Units.{page_of, start_of}
use Rattle.basis.specs.declared.kind.RunKind.{RunKind}
use Rattle.image.specs.Flash.{store_of, Blank}
use Rattle.image.specs.Laws.Flash.{length-erase, erase-at, length-store, store-blank-at}
use Rattle.line.specs.Demand.{Free}
use Rattle.line.specs.Laws.Places.{page-start, store-or, erase-or, parts-equal}
use Rattle.line.specs.Laws.Safety.{Serves, erased_run, takes-erase, takes_write, takes-verify, takes_run}
use Rattle.line.specs.Line.{loader_takes}
use Rattle.loader.specs.Commands.{Effect, keeping, protected_pages, protected_bytes}
use Rattle.loader.specs.Laws.Commands.{erase-passes, write-passes, verify-passes, run-passes}
use Rattle.loader.specs.Laws.Protection.{free-pages, free_bytes}
use Rattle.loader.specs.Laws.Verify.{stands-equals}
use Rattle.loader.specs.State.{with_condition}
use Rattle.loader.specs.Verify.{equals_of}
use Rattle.loader.specs.declared.state.Condition.TheVariants.{Left}
use Rattle.loader.specs.declared.state.Loader.{Loader}
use Rattle.order.specs.Laws.Out.{Ranked, Out, erases, writes, verifies, runs}
use Rattle.order.specs.Laws.Starts.{run-below, piece-carried}
use Rattle.order.specs.Plan.{erase_packet, write_packet, piece_bytes, before_verify, before_r}
use Rattle.order.specs.Steps.{packet_of, packet_at}
use Rattle.packet.specs.Laws.Turn.{restored-turned, undone}
use Rattle.packet.specs.Turn.{turned_of, restored_of}
use Rattle.runs.specs.Laws.Files.{bytes_past, file-piece, file-run}
use Rattle.runs.specs.Laws.Pages.{named-touched, piece-touched}
use Rattle.runs.specs.Laws.Pieces.{piece-passes, piece-some, passes-below, rank-in, rank-some, rank-home}
use Rattle.runs.specs.Laws.Runs.{count-mono}
use Rattle.runs.specs.Map.{named}
use Rattle.runs.specs.Pages.{touched}
use Rattle.runs.specs.Pieces.{piece_most, piece_starts, piece_len, run_starts, run_len, run_count, piece_count}
use Rattle.runs.specs.Runs.{count}
use Rattle.session.specs.Session.{Loadable}
use Rattle.order.specs.declared.step.Step.{Step}

-- the pieces that start at a byte or below it, and the runs of pages that start at its page or below
abbrev piece_rank : List ℕ → ℕ → ℕ
piece_rank m a = count (piece_starts m) (a + 1)

abbrev run_rank : ℕ → List ℕ → ℕ → ℕ
run_rank board m a = count (run_starts board m) (page_of a + 1)

-- flash after k acknowledgements: the bytes whose W is among them stand, those whose E is and whose W is not
-- are blank
pub record Grows (board : ℕ) (image m : List ℕ) (k : ℕ) (f : List ℕ) : Type 0 where
  pub size : length f ≡ start_of board
  pub written : (a : ℕ) → named m a ≡ true → run_count board m + piece_rank m a ≤ k
      → get_or f a 0 ≡ get_or image a 0
  pub blank : (a : ℕ) → named m a ≡ true → run_rank board m a ≤ k → k < run_count board m + piece_rank m a
      → get_or f a 0 ≡ 0xFF

-- the packet is let through, and leaves this
pub record Lets (board : ℕ) (image m : List ℕ) (l : Loader) (s f : List ℕ) (k : ℕ) (e : Effect) : Type 0 where
  pub let-is : loader_takes board l s f ≡ given e
  pub grows : Grows board image m (k + 1) e.flash
  pub loader-is : k < before_r board m → e.loader ≡ l

module _ (board : ℕ) (few : board ≤ 255) (image m : List ℕ) (file : Loadable board image m)
    (bytes : Bytes image) (kind : RunKind) (l : Loader) (serves : Serves l) (free : Free m l)
    (f : List ℕ) (k : ℕ) (h : Grows board image m k f) where
  -- the ranks of a named byte
  ranks : (a : ℕ) → named m a ≡ true
      → (0 < piece_rank m a) × (piece_rank m a ≤ piece_count board m)
      × (run_rank board m a ≤ run_count board m)
  ranks a t =
      let b = passes-below (named m) (start_of board) (bytes_past board m file.long) a t in (
        rank-some (named m) piece_most (omega arith) a t,
        count-mono (piece_starts m) (start_of board) (a + 1) (omega arith),
        count-mono (run_starts board m) board (page_of a + 1) (omega arith),
      )

  -- ---- E

  module _ (q : ℕ) (r : Ranked (run_starts board m) q k) (b : k < run_count board m) where
    some-page : 0 < board
    some-page = omega (arith, run-below board m file.long q r.begins)

    inside : q + run_len board m q ≤ board
    inside = file-run board m file.long q r.begins

    -- a byte of a run with this rank lies in the run
    run_home : (a : ℕ) → named m a ≡ true → run_rank board m a ≡ k + 1
        → (q ≤ page_of a) × (page_of a < q + run_len board m q)
    run_home a t e =
        rank-home (touched m) board some-page q (page_of a) r.begins (named-touched m a t)
        (omega (arith, e, r.rank_is))

    erase-grows : Grows board image m (k + 1) (erased_run board f m q)
    erase-grows =
        record {
          size = length-erase f (start_of q) (start_of (run_len board m q)) ∙ h.size;
          written = λ a t c. absurd (omega (arith, (ranks a t).0));
          blank = λ a t c d. erase-or f (start_of q) (start_of (run_len board m q)) a
              (λ i u e. subst (λ (x : ℕ). get_or (erased_run board f m q) x 0 ≡ 0xFF) e
              (erase-at f (start_of q) (start_of (run_len board m q)) i u (omega (arith, inside, h.size))))
              (λ out same. decide (eqb (run_rank board m a) (k + 1))
              (λ e. let n = run_home a t (eqb-true (run_rank board m a) (k + 1) e) in
              absurd (out (omega (arith, n.0)) (omega (arith, n.1))))
              (λ e. same ∙ h.blank a t (omega (arith, eqb-false (run_rank board m a) (k + 1) e))
              (omega arith)));
        }

    run-free : protected_pages l.protection q (q + run_len board m q) ≡ false
    run-free =
        let n = piece-some (touched m) board some-page q r.begins in
        free-pages l.protection q (q + run_len board m q) (omega arith)
        (λ p u v. free.unprotected p (piece-passes (touched m) board q p u v))

    erase-lets : packet_at board image m kind k ≡ erase_packet board m q
        → Lets board image m l (packet_at board image m kind k) f k
        (record { loader = l; flash = erased_run board f m q })
    erase-lets e =
        let n = piece-some (touched m) board some-page q r.begins in
        let i = inside in
        record {
          let-is = ap (λ (s : List ℕ). loader_takes board l s f) e
              ∙ takes-erase board few image m file l serves f h.size q r.begins
              ∙ erase-passes board l (start_of q) (run_len board m q)
              (given (record { loader = l; flash = erased_run board f m q }))
              (λ z. omega arith) (omega arith) (omega arith)
              (ap (λ (p : ℕ). protected_pages l.protection p (p + run_len board m q)) (page-start q)
              ∙ run-free);
          grows = erase-grows;
          loader-is = λ z. refl;
        }

  -- ---- W

  module _ (s j : ℕ) (r : Ranked (piece_starts m) s j) where
    abbrev piece : List ℕ
    piece = piece_bytes image m s

    long-is : length piece ≡ piece_len m s
    long-is = (piece-carried board m file.long image s file.right r.begins).0

    fits : s + piece_len m s ≤ start_of board
    fits = file-piece board m file.long s r.begins

    -- its bytes are named, and their rank is the piece's
    held : (i : ℕ) → i < piece_len m s → (named m (s + i) ≡ true) × (piece_rank m (s + i) ≡ suc j)
    held i b = (
      piece-passes (named m) piece_most s (s + i) (omega arith) (omega arith),
      rank-in (named m) piece_most s (s + i) r.begins (omega arith) (omega arith) ∙ ap suc r.rank_is,
    )

    -- and a named byte with this rank is one of them
    piece-home : (a : ℕ) → named m a ≡ true → piece_rank m a ≡ suc j → (s ≤ a) × (a < s + piece_len m s)
    piece-home a t e =
        rank-home (named m) piece_most (omega arith) s a r.begins t (e ∙ sym (ap suc r.rank_is))

    piece-bytes : Bytes piece
    piece-bytes = bytes_take (piece_len m s) (drop s image) (bytes_drop s image bytes)

    module _ (t : k ≡ run_count board m + j) where
      abbrev stored : List ℕ
      stored = store_of f s piece

      piece-blank : Blank f s (length piece)
      piece-blank i b =
          let c : i < piece_len m s = omega (arith, long-is) in
          let n = held i c in
          h.blank (s + i) n.0 (omega (arith, (ranks (s + i) n.0).2)) (omega (arith, n.1))

      -- a byte of the piece stands now
      stored-stands : (i : ℕ) → i < length piece → get_or stored (s + i) 0 ≡ get_or image (s + i) 0
      stored-stands i b =
          store-blank-at f s piece (omega (arith, long-is, fits, h.size)) piece-blank piece-bytes i b
          ∙ get_or-take (piece_len m s) (drop s image) i 0 (omega (arith, long-is))
          ∙ get_or-drop s image i 0

      write-grows : Grows board image m (k + 1) stored
      write-grows =
          record {
            size = length-store f s piece ∙ h.size;
            written = λ a n c. store-or f s piece a
                (λ i b e. subst (λ (x : ℕ). get_or stored x 0 ≡ get_or image x 0) e (stored-stands i b))
                (λ out same. decide (eqb (piece_rank m a) (suc j))
                (λ e. let i = piece-home a n (eqb-true (piece_rank m a) (suc j) e) in
                absurd (out i.0 (omega (arith, long-is, i.1))))
                (λ e. same ∙ h.written a n (omega (arith, eqb-false (piece_rank m a) (suc j) e))));
            blank = λ a n c d. store-or f s piece a
                (λ i b e. let r = (held i (omega (arith, long-is))).1 in
                absurd (omega (arith, sym (ap (piece_rank m) e) ∙ r)))
                (λ out same. same ∙ h.blank a n (omega (arith, (ranks a n).2)) (omega arith));
          }

      piece-free : protected_bytes l.protection s (s + length piece) ≡ false
      piece-free =
          let n = piece-some (named m) piece_most (omega arith) s r.begins in
          free_bytes l.protection s (s + length piece) (omega (arith, long-is))
          (λ b u v. subst (λ (g : ℕ). bit l.protection.groups g ≡ false) (omega arith)
          (free.unprotected (page_of b) (piece-touched m piece_most s b u (omega (arith, long-is)))))

      write-lets : packet_at board image m kind k ≡ write_packet image m s
          → Lets board image m l (packet_at board image m kind k) f k (record { loader = l; flash = stored })
      write-lets e =
          record {
            let-is = ap (λ (x : List ℕ). loader_takes board l x f) e
                ∙ takes_write board few image m file l serves f h.size s r.begins
                ∙ write-passes board l s (length piece) (given (record { loader = l; flash = stored }))
                serves.sequence-is (omega (arith, long-is, fits)) piece-free;
            grows = write-grows;
            loader-is = λ z. refl;
          }

    -- ---- V

    verify-same : before_verify board m ≤ k → equals_of f s (map turned_of piece) ≡ true
    verify-same c =
        stands-equals f s (map turned_of piece)
        (omega (arith, length-map piece turned_of, long-is, fits, h.size))
        (ap (λ (n : ℕ). take n (drop s f)) (length-map piece turned_of ∙ long-is)
        ∙ parts-equal f image s (piece_len m s) (omega (arith, fits, h.size)) (omega (arith, fits))
        (λ i b. let n = (held i b).0 in h.written (s + i) n (omega (arith, (ranks (s + i) n).1)))
        ∙ sym (undone restored_of turned_of restored-turned piece piece-bytes))

  -- past the last W nothing more is to be written
  late-grows : before_verify board m ≤ k → Grows board image m (k + 1) f
  late-grows c =
      record {
        size = h.size;
        written = λ a n d. h.written a n (omega (arith, (ranks a n).1));
        blank = λ a n d e. absurd (omega (arith, (ranks a n).1));
      }

  pub lets : Out board m kind k → (e : Effect) × Lets board image m l (packet_at board image m kind k) f k e
  lets (erases q e r b) = (
    record { loader = l; flash = erased_run board f m q },
    erase-lets q r b (ap (packet_of board image m kind) e),
  )
  lets (writes s j e r t b) = (
    record { loader = l; flash = stored s j r t },
    write-lets s j r t (ap (packet_of board image m kind) e),
  )
  lets (verifies s j e r t b) = (
    record { loader = l; flash = f },
    record {
      let-is = ap (λ (x : Step). loader_takes board l (packet_of board image m kind x) f) e
          ∙ takes-verify board few image m file l serves f h.size s r.begins
          ∙ ap (keeping f)
          (verify-passes board l s (map turned_of (piece_bytes image m s)) f (given l) serves.sequence-is
          (omega (arith, length-map (piece s j r) turned_of, long-is s j r, fits s j r)) free.readable
          (verify-same s j r (omega arith)));
      grows = late-grows (omega arith);
      loader-is = λ z. refl;
    },
  )
  lets (runs e t s) = let r = takes_run board few image m file l serves f h.size kind s in (
    record { loader = with_condition l Left; flash = f },
    record {
      let-is = ap (λ (x : Step). loader_takes board l (packet_of board image m kind x) f) e ∙ r.2
          ∙ ap (keeping f) (run-passes l r.0 serves.sequence-is r.1);
      grows = late-grows (omega arith);
      loader-is = λ z. absurd (omega arith);
    },
  )
