-- `erase` meets its contract: past the sequence and the mass erase it is the table of 7 and 8.
use Rattle.std.proofs.Common.{◌∙◌, sym}
use Rattle.basis.specs.Board.{pages_of}
use Rattle.loader.specs.Laws.Commands.{erasing-pages}
use Rattle.loader.proofs.erase.erase.Goals as goal

pub returns : goal.returns
returns c =
    let a = c.args in
    λ s f. rw (erasing-pages (pages_of a.board) a.loader a.address.0 a.count f
    c.if-loader.false (sym c.is_mass.ensures ∙ c.if-is_mass.false))
    (c.erase_pages.ensures s f)
