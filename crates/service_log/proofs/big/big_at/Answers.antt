-- `big_at` meets its contract: the bytes read so far say a number that as many bytes hold.
use Rattle.std.proofs.Common.{ℕ, ◌<◌, ◌+◌, ◌*◌, ◌^◌, refl, pow-suc, zero-lt-suc, add-one, arith, rules}
use Rattle.std.proofs.Math.Nat.{pow-le-pow_right}
use Rattle.service_log.specs.Big.{big_at}
use Rattle.service_log.proofs.big.big_at.Goals as goal

-- one byte more, and three at most before it
more : (n i b : ℕ) → n < 256 ^ i → b < 256 → n * 256 + b < 256 ^ (i + 1)
more n i b l h = rw (add-one i, pow-suc 256 i) (omega arith)

three : (n i : ℕ) → i < 4 → n < 256 ^ i → n < 2 ^ 24
three n i h l = omega (arith, pow-le-pow_right {n = 256} (zero-lt-suc 255) {i = i} {j = 3} (omega arith))

pub loop-i-init : goal.loop-i-init
unfolding big_at
loop-i-init c = (search rules, omega arith, refl)

pub overflow_mul-n : goal.overflow_mul-n
overflow_mul-n c =
    let l = three c.loop-i.n c.loop-i.i (omega arith) c.loop-i.invariant.1 in
    omega arith

pub overflow_add-n : goal.overflow_add-n
overflow_add-n c =
    let l = three c.loop-i.n c.loop-i.i (omega arith) c.loop-i.invariant.1 in
    omega (arith, c.from.ensures, c.type_inv.bytes (c.args.at + c.loop-i.i))

pub loop-i-preserved : goal.loop-i-preserved
unfolding big_at
loop-i-preserved c = (
  omega arith,
  more _ _ c.from.result c.loop-i.invariant.1
      (omega (arith, c.from.ensures, c.type_inv.bytes (c.args.at + c.loop-i.i))),
  rw (add-one, c.from.ensures, c.loop-i.invariant.2),
)
