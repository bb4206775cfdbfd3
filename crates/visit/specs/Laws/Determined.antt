-- Two outcomes that a contract permits are equal: the numbers and values tell all cases apart.
use Rattle.std.specs.Prelude.{ℕ, ◌<◌, ◌≢◌, List, ◌≡◌, refl, Result, Ok, Err}
use Rattle.std.proofs.Common.{sym, ap, ◌∙◌, arith, lit<}
use Rattle.basis.specs.Laws.Refusals.{answer-one, determined}
use Rattle.basis.specs.Lists.{overlay}
use Rattle.basis.specs.Refusals.{Answer}
use Rattle.events.specs.Laws.Determined.{refusal-one}
use Rattle.events.specs.Paper as events
use Rattle.events.specs.declared.refusal.Refusal as session
use Rattle.image.specs.Hex.{Settled, settled_as}
use Rattle.image.specs.Laws.Determined.{close-determined}
use Rattle.image.specs.Laws.Pointed.{pointed-apart, wrong-one}
use Rattle.image.specs.Paper as image
use Rattle.image.specs.declared.hex.Hex.{Hex}
use Rattle.image.specs.declared.record.Blame.{Blame}
use Rattle.image.specs.declared.record.Refusal as hex
use Rattle.session.specs.Session.{Next, Sent, measured, sent_bytes}
use Rattle.visit.specs.Paper.{paper_opened, paper_unstarted, paper_started}
use Rattle.visit.specs.declared.open.Unopened as opening
use Rattle.visit.specs.declared.open.Unopened.TheVariants as unopened
use Rattle.visit.specs.declared.start.Unstarted.{Unstarted}
use Rattle.visit.specs.declared.start.Unstarted.TheVariants.{Unknown, Outside, Session}

-- ---- starting: no session's refusal is 60 or 64

session-other : (x : session.Refusal) → (events.paper_refusal x ≢ 60) × (events.paper_refusal x ≢ 64)
session-other session.Refusal.Board = (λ e. omega arith, λ e. omega arith)
session-other session.Refusal.Size = (λ e. omega arith, λ e. omega arith)
session-other session.Refusal.Empty = (λ e. omega arith, λ e. omega arith)
session-other session.Refusal.Ended = (λ e. omega arith, λ e. omega arith)
session-other session.Refusal.Foreign = (λ e. omega arith, λ e. omega arith)

unstarted-one : (x y : Unstarted) → paper_unstarted x ≡ paper_unstarted y → x ≡ y
unstarted-one Unknown Unknown e = refl
unstarted-one Unknown Outside e = absurd (let z : ◌≡◌ {A = ℕ} 60 64 = e in omega arith)
unstarted-one Unknown (Session y) e = absurd ((session-other y).0 (sym e))
unstarted-one Outside Unknown e = absurd (let z : ◌≡◌ {A = ℕ} 64 60 = e in omega arith)
unstarted-one Outside Outside e = refl
unstarted-one Outside (Session y) e = absurd ((session-other y).1 (sym e))
unstarted-one (Session x) Unknown e = absurd ((session-other x).0 e)
unstarted-one (Session x) Outside e = absurd ((session-other x).1 e)
unstarted-one (Session x) (Session y) e = ap Session (refusal-one x y e)

started-one : (r s : Result Next Unstarted) → paper_started r ≡ paper_started s → r ≡ s
started-one = answer-one paper_unstarted (λ (x : Next). x) unstarted-one (λ x y e. e)

pub start-determined : (a : Answer Sent) (r s : Result Next Unstarted) (x y old : List ℕ)
    → (paper_started r ≡ measured a) × (x ≡ overlay (sent_bytes a) old)
    → (paper_started s ≡ measured a) × (y ≡ overlay (sent_bytes a) old) → (r ≡ s) × (x ≡ y)
start-determined a r s x y old p q =
    (determined paper_started started-one r s p.0 q.0, p.1 ∙ sym q.1)

-- ---- opening: no hex refusal is 60

hex-below : (x : hex.Refusal) → image.paper_refusal x < 60
hex-below hex.Refusal.Size = lit< tt
hex-below hex.Refusal.Ended = lit< tt
hex-below hex.Refusal.Colon = lit< tt
hex-below hex.Refusal.Length = lit< tt
hex-below hex.Refusal.Digit = lit< tt
hex-below hex.Refusal.Count = lit< tt
hex-below hex.Refusal.Checksum = lit< tt
hex-below hex.Refusal.Kind = lit< tt
hex-below hex.Refusal.Shape = lit< tt
hex-below hex.Refusal.Place = lit< tt
hex-below hex.Refusal.Twice = lit< tt
hex-below hex.Refusal.NoEnd = lit< tt
hex-below hex.Refusal.NoData = lit< tt
hex-below hex.Refusal.Short = lit< tt
hex-below hex.Refusal.Rules = lit< tt

-- what the reader answers is told on
abbrev told : Result Hex Blame → Result Hex opening.Unopened
told (Ok h) = Ok h
told (Err why) = Err (unopened.Hex why)

opened_one : (r s : Result Hex opening.Unopened) → paper_opened r ≡ paper_opened s → r ≡ s
opened_one (Ok h) (Ok k) e = ap told (close-determined (Ok h) (Ok k) e refl)
opened_one (Ok h) (Err unopened.Unknown) e = absurd (pointed-apart (sym e))
opened_one (Ok h) (Err (unopened.Hex y)) e = absurd (pointed-apart (sym e))
opened_one (Err unopened.Unknown) (Ok k) e = absurd (pointed-apart e)
opened_one (Err unopened.Unknown) (Err unopened.Unknown) e = refl
opened_one (Err unopened.Unknown) (Err (unopened.Hex y)) e =
    absurd (let w = wrong-one e in omega (arith, w.0, hex-below y.refusal))
opened_one (Err (unopened.Hex x)) (Ok k) e = absurd (pointed-apart e)
opened_one (Err (unopened.Hex x)) (Err unopened.Unknown) e =
    absurd (let w = wrong-one e in omega (arith, w.0, hex-below x.refusal))
opened_one (Err (unopened.Hex x)) (Err (unopened.Hex y)) e =
    ap told (close-determined (Err x) (Err y) e refl)

pub open-determined : {o : Settled} (r s : Result Hex opening.Unopened) (i j m n : List ℕ)
    → settled_as (paper_opened r) i m ≡ o
    → settled_as (paper_opened s) j n ≡ o
    → (r ≡ s) × (i ≡ j) × (m ≡ n)
open-determined r s i j m n p q =
    let e = p ∙ sym q in (
      opened_one r s (ap (λ (x : Settled). x.answer) e),
      ap (λ (x : Settled). x.image) e,
      ap (λ (x : Settled). x.map) e,
    )
