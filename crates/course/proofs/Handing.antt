-- What a start and a step hand back: a refusal leaves the buffer.
use Rattle.std.proofs.Common.{ℕ, List, ◌≡◌, refl}
use Rattle.basis.specs.Lists.{overlay}
use Rattle.basis.specs.Refusals.{Answer, refused}
use Rattle.course.specs.Course.{Sent, measured, sent_bytes}

pub left_alone : {P : Type 0} {a : Answer (Sent P)} {n : ℕ} (old : List ℕ) → a ≡ refused n
    → (refused n ≡ measured a) × (old ≡ overlay (sent_bytes a) old)
left_alone old e = rw e (refl, refl)
