-- What no loss, no protection and no flash can break: bytes marked proved stand, and untouched pages stay.
use Rattle.std.specs.Prelude.{ℕ, ◌+◌, ◌≤◌, ◌<◌, true, false, List, [], ◌∷◌, map, ◌≡◌, refl, eqb, length, get_or, take, drop}
use Rattle.std.proofs.Common.{sym, ap, ◌∙◌, arith, ne_eqb}
use Rattle.std.proofs.lemmas.List.{length-map}
use Rattle.basis.specs.Board.{answer_most, opening_byte}
use Rattle.basis.specs.Laws.Choice.{true-false, both_false}
use Rattle.basis.specs.Laws.Lists.{bytes_take, bytes_drop}
use Rattle.basis.specs.Laws.Refusals.{apart}
use Rattle.basis.specs.Lists.{Bytes}
use Rattle.basis.specs.Refusals.{Answer, refused, given, first}
use Rattle.basis.specs.Units.{page_of, start_of}
use Rattle.basis.specs.declared.kind.RunKind.{RunKind}
use Rattle.image.specs.Flash.{erase_of, store_of}
use Rattle.line.specs.Demand.{Untouched}
use Rattle.line.specs.Laws.Places.{page-start, store-or, erase-or, equal-at}
use Rattle.line.specs.Line.{loader_takes, delivered}
use Rattle.line.specs.declared.exchange.Loss.{Loss}
use Rattle.loader.specs.Commands.{Effect, effect_after, keeping, erase_rows, write_rows, verify_rows, writing, running}
use Rattle.loader.specs.Laws.Commands.{erasing-pages, verify-let}
use Rattle.loader.specs.Laws.Host.{sent-opening, sent-erase, sent-write, sent-verify, sent-run}
use Rattle.loader.specs.Laws.Verify.{equals-stands}
use Rattle.loader.specs.State.{reset_of, with_condition}
use Rattle.loader.specs.declared.state.Condition.TheVariants.{Serving}
use Rattle.loader.specs.declared.state.Loader.{Loader}
use Rattle.order.specs.Laws.Starts.{run-below, piece-below, piece-carried}
use Rattle.order.specs.Plan.{piece_bytes, erase_packet, write_packet, verify_packet, run_packet, sends_r}
use Rattle.packet.specs.Laws.Turn.{restored-turned, undone}
use Rattle.packet.specs.Turn.{turned_of, restored_of}
use Rattle.runs.specs.Laws.Pages.{piece-touched}
use Rattle.runs.specs.Laws.Pieces.{piece-passes, piece-some}
use Rattle.runs.specs.Pages.{touched}
use Rattle.runs.specs.Pieces.{piece_most, piece_starts, piece_len, run_starts, run_len}
use Rattle.session.specs.Session.{Loadable}

-- a loader that serves, with no protect sequence open
pub record Serves (l : Loader) : Type 0 where
  pub condition-is : l.condition ≡ Serving
  pub sequence-is : l.sequence.opened ≡ false

-- as the opening byte leaves it
abbrev pub serving : Loader → Loader
serving l = with_condition (reset_of l) Serving

pub serving-serves : (l : Loader) → Serves (serving l)
serving-serves l = record { condition-is = refl; sequence-is = refl }

-- flash with the run of pages at q erased
abbrev pub erased_run : ℕ → List ℕ → List ℕ → ℕ → List ℕ
erased_run board f m q = erase_of f (start_of q) (start_of (run_len board m q))

module _ (board : ℕ) (m before : List ℕ) where
  -- a run of pages erased
  pub erase-untouched : (f : List ℕ) (q : ℕ) → Untouched m before f
      → Untouched m before (erased_run board f m q)
  erase-untouched f q h a t =
      erase-or f (start_of q) (start_of (run_len board m q)) a
      (λ k b e. let p = piece-passes (touched m) board q (page_of a) (omega arith) (omega arith) in
      absurd (true-false (sym p ∙ t)))
      (λ out same. same ∙ h a t)

  -- a piece stored
  pub store-untouched : (f d : List ℕ) (s : ℕ) → length d ≡ piece_len m s → Untouched m before f
      → Untouched m before (store_of f s d)
  store-untouched f d s n h a t =
      store-or f s d a
      (λ k b e. let p = piece-touched m piece_most s a (omega arith) (omega (arith, n)) in
      absurd (true-false (sym p ∙ t)))
      (λ out same. same ∙ h a t)

-- by what befalls the exchange: what holds as it was and after the loader has taken the packet
pub served-by : (board : ℕ) (P : Effect → Type 0) (o : Loss) (l : Loader) (s f : List ℕ)
    → P (record { loader = l; flash = f }) → P (effect_after l f (loader_takes board l s f))
    → P (delivered board o l s f)
served-by board P Loss.Whole l s f p q = q
served-by board P Loss.Lost l s f p q = p
served-by board P Loss.Unanswered l s f p q = q

-- the opening byte makes the loader serve, and its answer is the greeting
pub board-greets : (board : ℕ) (l : Loader) (f : List ℕ) → length f ≡ start_of board
    → loader_takes board (reset_of l) (opening_byte ∷ []) f ≡ given (record { loader = serving l; flash = f })
board-greets board l f size = sent-opening board (reset_of l) f answer_most size (omega arith) refl

-- ---- the packets of the plan, as a serving loader takes them

module _ (board : ℕ) (few : board ≤ 255) (image m : List ℕ) (file : Loadable board image m)
    (l : Loader) (serves : Serves l) (f : List ℕ) (size : length f ≡ start_of board) where
  pub takes-erase : (q : ℕ) → run_starts board m q ≡ true
      → loader_takes board l (erase_packet board m q) f
      ≡ first (erase_rows board l (start_of q) (run_len board m q))
      (given (record { loader = l; flash = erased_run board f m q }))
  takes-erase q h =
      let b = run-below board m file.long q h in
      let n = piece-some (touched m) board (omega arith) q h in
      sent-erase board l f answer_most size (omega arith) serves.condition-is (start_of q) (omega arith)
      (run_len board m q)
      ∙ erasing-pages board l (start_of q) (run_len board m q) f serves.sequence-is
      (both_false (eqb (run_len board m q) 0) _ (ne_eqb (run_len board m q) 0 (λ e. omega arith)))
      ∙ ap (λ (p : ℕ). first (erase_rows board l (start_of q) (run_len board m q))
      (given (record { loader = l; flash = erase_of f (start_of p) (start_of (run_len board m q)) })))
      (page-start q)

  module _ (s : ℕ) (h : piece_starts m s ≡ true) where
    abbrev piece : List ℕ
    piece = piece_bytes image m s

    piece-fits : (s < start_of board) × (0 < length piece) × (length piece ≤ piece_most)
    piece-fits =
        let c = piece-carried board m file.long image s file.right h in
        (piece-below board m file.long s h, omega (arith, c.0), omega (arith, c.0))

    pub takes_write : loader_takes board l (write_packet image m s) f
        ≡ first (write_rows board l s (length piece))
        (given (record { loader = l; flash = store_of f s piece }))
    unfolding writing
    takes_write =
        let p = piece-fits in
        sent-write board l f answer_most size (omega arith) serves.condition-is s (omega (arith, p.0))
        piece p.1 p.2

    pub takes-verify : loader_takes board l (verify_packet image m s) f
        ≡ keeping f (first (verify_rows board l s (map turned_of piece) f) (given l))
    takes-verify =
        let p = piece-fits in
        sent-verify board l f answer_most size (omega arith) serves.condition-is s (omega (arith, p.0))
        piece p.1 p.2

  pub takes_run : (kind : RunKind) → sends_r kind ≡ true
      → (a : ℕ) × (a ≤ 1) × (loader_takes board l (run_packet kind) f ≡ keeping f (running l a))
  takes_run RunKind.Reset t = (
    1,
    omega arith,
    sent-run board l f answer_most size (omega arith) serves.condition-is 1 (omega arith),
  )
  takes_run RunKind.Jump t = (
    0,
    omega arith,
    sent-run board l f answer_most size (omega arith) serves.condition-is 0 (omega arith),
  )
  takes_run RunKind.Hold t = absurd (true-false (sym t))

  -- an accepted V says that flash has its piece as the file has it
  pub verified : Bytes image → (s : ℕ) → piece_starts m s ≡ true → (e : Effect)
      → loader_takes board l (verify_packet image m s) f ≡ given e → (a : ℕ) → s ≤ a → a < s + piece_len m s
      → get_or f a 0 ≡ get_or image a 0
  verified bytes s h e q a = equal-at f image s (piece_len m s) a same
    where
      told : (x : Answer Loader) → keeping f x ≡ given e → (y : Loader) × (x ≡ given y)
      told (refused n) t = absurd (apart t)
      told (given y) t = (y, refl)

      d : List ℕ
      d = piece_bytes image m s

      n : length (map turned_of d) ≡ piece_len m s
      n = length-map d turned_of ∙ (piece-carried board m file.long image s file.right h).0

      same : take (piece_len m s) (drop s f) ≡ take (piece_len m s) (drop s image)
      same =
          let v = told _ (sym (takes-verify s h) ∙ q) in
          let w = verify-let board l s (map turned_of d) f (given l) v.1 in
          ap (λ (i : ℕ). take i (drop s f)) (sym n)
          ∙ equals-stands f s (map turned_of d) (omega (arith, w.1, size)) w.3
          ∙ undone restored_of turned_of restored-turned d
          (bytes_take (piece_len m s) (drop s image) (bytes_drop s image bytes))
