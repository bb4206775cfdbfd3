-- One turn of a load: which rubbish is left behind it; and turns are not too many.
use Rattle.std.proofs.Common.{ℕ, ◌+◌, ◌-◌, ◌*◌, ◌≤◌, false, List, ◌≡◌, sym, ap, ◌∙◌, add-mul, one-mul, arith, ltb-true, ltb-false, ltb, length, take, drop, length-take, length-drop, length-take-le, drop_of_length-le, take_all, drop-drop}
use Rattle.basis.specs.Laws.Choice.{decide}
use Rattle.basis.specs.declared.kind.RunKind.{RunKind}
use Rattle.line.specs.declared.exchange.Loss.{Loss}
use Rattle.loader.specs.declared.state.Loader.{Loader}
use Rattle.noisy.specs.Laws.Ending.{noisy-going}
use Rattle.noisy.specs.Noisy.{NoisyMoment, begun_noisy, noisy_at, noisy_load_at}
use Rattle.order.specs.Plan.{total}
use Rattle.session.specs.Phases.{ended}
use Rattle.session.specs.Session.{Loadable}

-- ---- the rubbish of a turn, and what is left then

-- behind the first bytes of a list
behind : (each : ℕ) (s : List ℕ) → drop (length (take each s)) s ≡ drop each s
behind each s =
    decide (ltb (length s) each)
    (λ t. let h = ltb-true (length s) each t in
    let k : length s ≤ length (take each s) = omega (arith, length-take each s) in
    let n : length s ≤ each = omega arith in
    drop_of_length-le s k ∙ sym (drop_of_length-le s n))
    (λ t. let h = ltb-false (length s) each t in
    ap (λ (n : ℕ). drop n s) (length-take-le each s h))

pub rest-next : (s rest now : List ℕ) (each i : ℕ) → rest ≡ drop (i * each) s → now ≡ take each rest
    → take (length rest - length now) (drop (length now) rest) ≡ drop ((i + 1) * each) s
rest-next s rest now each i e q =
    let n : (i + 1) * each ≡ i * each + each = rw (add-mul, one-mul) in
    take_all (length rest - length now) (drop (length now) rest)
    (omega (arith, length-drop (length now) rest))
    ∙ ap (λ (t : List ℕ). drop (length t) rest) q
    ∙ behind each rest
    ∙ ap (drop each) e ∙ drop-drop each (i * each) s
    ∙ ap (λ (k : ℕ). drop k s) (sym n)

-- ---- a session that goes on has not had its last turn

module _ (board : ℕ) (image m : List ℕ) (losses : ℕ → Loss) (z : ℕ → List ℕ) (start : NoisyMoment) where
  pub not-past : Loadable board image m → (kind : RunKind) (l : Loader) (before : List ℕ)
      → start ≡ begun_noisy board m kind l before → (i : ℕ) (x : NoisyMoment)
      → x ≡ noisy_at board image m losses z start i → ended x.session.phase ≡ false
      → i ≤ total board m kind
  not-past file kind l before fresh i x e t =
      noisy-going board image m file kind l losses z before i
      (sym (ap (λ (y : NoisyMoment). ended y.session.phase) (e ∙ since)) ∙ t)
    where
      since : noisy_at board image m losses z start i ≡ noisy_load_at board image m kind l losses z before i
      since = ap (λ (y : NoisyMoment). noisy_at board image m losses z y i) fresh
