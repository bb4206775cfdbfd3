-- What a session's start shows of a listing, and what a listing shows of its file.
use Rattle.std.proofs.Common.{◌≡◌, ◌<◌, ◌≤◌, ℕ, List, length, sym, arith}
use Rattle.basis.specs.Refusals.{given}
use Rattle.basis.specs.Units.{start_of, map_bytes}
use Rattle.basis.specs.declared.kind.RunKind.{RunKind}
use Rattle.order.specs.Plan.{total}
use Rattle.runs.specs.Pieces.{named_count}
use Rattle.session.specs.Session.{Next, started, measured}
use Rattle.listing.specs.Laws.Plan.{begins, print-refused, printed-begins, printed-refused, listed-total, listed-stands, listed-steps, steps-listing}
use Rattle.listing.specs.Plan.{printout_by, Listed}
use Rattle.listing.specs.declared.plan.Listing.{Listing}

module _ (board : ℕ) (image m : List ℕ) (room : ℕ) (x : Next)
    (e : given x ≡ measured (started board image m room RunKind.Reset)) where
  pub begun-right : length image ≡ start_of board
  begun-right = (begins board image m room x e).0.right

  pub begun-long : length m ≡ map_bytes board
  begun-long = (begins board image m room x e).0.long

  pub begun-some : 0 < named_count board m
  begun-some = (begins board image m room x e).0.some

  pub begun-total : x.session.total ≡ total board m RunKind.Reset
  begun-total = (begins board image m room x e).1

  pub begun-printed : given (total board m RunKind.Reset)
      ≡ printout_by board m (started board image m room RunKind.Reset)
  begun-printed = sym (begins board image m room x e).4

pub ruleset begun = (begun-right, begun-long, begun-some, begun-total, begun-printed, print-refused)

pub ruleset printed = (printed-begins, printed-refused)

-- a listing of a file can go on over it
module _ (board : ℕ) (image m : List ℕ) (l : Listing) (h : Listed board image m l) where
  pub listed-right : length image ≡ start_of board
  listed-right = h.file.right

  pub listed-long : length m ≡ map_bytes board
  listed-long = h.file.long

  pub listed-some : 0 < named_count board m
  listed-some = h.file.some

  pub listed-within : l.listed ≤ l.total
  listed-within = omega (arith, h.within, listed-total board image m l h)

pub ruleset listed = (
  listed-right,
  listed-long,
  listed-some,
  listed-total,
  listed-stands,
  listed-steps,
  listed-within,
)

pub ruleset told = (steps-listing)
