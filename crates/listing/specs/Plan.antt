-- A plan as text, and its listing sheet by sheet.
use Rattle.std.specs.Prelude.{◌≡◌, ℕ, zero, suc, ◌+◌, ◌-◌, ◌≤◌, List, [], ◌∷◌, ◌++◌, length, drop, nat_lt}
use Rattle.basis.specs.Choice.{pick}
use Rattle.basis.specs.Refusals.{Answer, refused, given}
use Rattle.basis.specs.declared.kind.RunKind.{RunKind}
use Rattle.order.specs.Plan.{plan, total}
use Rattle.order.specs.Steps.{packet_at, following_at}
use Rattle.session.specs.Session.{Sent, Loadable}
use Rattle.listing.specs.Lines.{head_line, step_line, total_line}
use Rattle.listing.specs.declared.plan.Listing.{Listing}

-- the lines of packets, n listed before them
unfoldable pub step_lines : ℕ → List (List ℕ) → List ℕ
step_lines n [] = []
step_lines n (p ∷ ps) = step_line (n + 1) p ++ step_lines (n + 1) ps

-- what the plan program prints of a file: it asks for a reset, so the plan has R
unfoldable pub plan_text : ℕ → List ℕ → List ℕ → List ℕ
plan_text board image m =
    head_line ++ (step_lines 0 (plan board image m RunKind.Reset) ++ total_line (total board m RunKind.Reset))

-- refused as the session's start is, else so many packets are printed
abbrev pub printout_by : ℕ → List ℕ → Answer Sent → Answer ℕ
printout_by board m (refused n) = refused n
printout_by board m (given x) = given (total board m RunKind.Reset)

-- ---- a listing

-- the packet after n listed ones
abbrev pub reset_packet_at : ℕ → List ℕ → List ℕ → ℕ → List ℕ
reset_packet_at board image m n = packet_at board image m RunKind.Reset n

-- so many packets are listed
abbrev pub listing_at : ℕ → List ℕ → ℕ → Listing
listing_at board m n =
    record { next = following_at board m RunKind.Reset n; listed = n; total = total board m RunKind.Reset }

-- a listing of this file
pub record Listed (board : ℕ) (image m : List ℕ) (l : Listing) : Type 0 where
  pub file : Loadable board image m
  pub stands : l ≡ listing_at board m l.listed
  pub within : l.listed ≤ total board m RunKind.Reset

-- refused as the session's start is, else nothing is listed
abbrev pub listing_by : ℕ → List ℕ → Answer Sent → Answer Listing
listing_by board m (refused n) = refused n
listing_by board m (given x) = given (listing_at board m 0)

-- ---- a sheet

-- 20 digits, a letter, 259 bytes, two spaces and 0A
abbrev pub longest_line : ℕ
longest_line = 542

-- what is written, and how many packets are listed after it
pub record Sheet : Type 0 where
  pub text : List ℕ
  pub listed : ℕ

abbrev pub sheet : List ℕ → ℕ → Sheet
sheet s n = record { text = s; listed = n }

abbrev pub followed_by : List ℕ → Sheet → Sheet
followed_by s g = sheet (s ++ g.text) g.listed

-- whole lines, as long as the longest one has room
unfoldable pub sheet_of : ℕ → ℕ → List (List ℕ) → Sheet
sheet_of room n [] = sheet [] n
sheet_of room n (p ∷ ps) =
    pick (nat_lt room longest_line) (sheet [] n)
    (followed_by (step_line (n + 1) p) (sheet_of (room - length (step_line (n + 1) p)) (n + 1) ps))

-- k sheets one after another, each in a buffer of so many bytes
unfoldable pub sheets : ℕ → ℕ → ℕ → List (List ℕ) → List ℕ
sheets zero room n ps = []
sheets (suc k) room n ps =
    (sheet_of room n ps).text ++ sheets k room (sheet_of room n ps).listed
    (drop ((sheet_of room n ps).listed - n) ps)
