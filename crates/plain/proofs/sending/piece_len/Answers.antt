-- `piece_len` meets its contract: where the board ends, so does the piece.
use Rattle.std.proofs.Common.{arith}
use Rattle.plain.proofs.Sends.{row-past}
use Rattle.plain.proofs.sending.piece_len.Goals as goal

pub returns-then-end-at-clause-piece : goal.returns-then-end-at-clause-piece
returns-then-end-at-clause-piece c =
    let l = c.loop-n in
    row-past _ _ _ _ c.args.map.fits (omega arith) (omega (arith, c.if-end-at.true)) l.invariant
