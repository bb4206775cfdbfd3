-- What falls at each call of `decimal`.
use Rattle.listing.proofs.numbers.+decimal.Given as goal

abbrev pub decreases-decimal : goal.decreases-decimal
decreases-decimal l = l.n
