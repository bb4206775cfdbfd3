-- `name` meets its contract: a one shifted to the address's bit is joined to its byte.
use Rattle.std.proofs.Common.{ℕ, ◌*◌, ◌/◌, ◌%◌, ◌^◌, ◌≡◌, ap, ◌∙◌, one-mul, arith, bit_or, get_or, set, shl_exact}
use Rattle.runs.specs.Map.{name_of}
use Rattle.runs.proofs.map.name.Goals as goal

pub returns : goal.returns
unfolding name_of
returns c =
    let m = c.args.map.now in
    let a = c.args.address.0 in
    let e : 1 * 2 ^ (a % 8) % 2 ^ 8 ≡ 2 ^ (a % 8) = shl_exact 1 (a % 8) 8 (omega arith) (omega arith)
    ∙ one-mul (2 ^ (a % 8)) in
    ap (λ (x : ℕ). set m (a / 8) (bit_or (get_or m (a / 8) 0) x)) e
