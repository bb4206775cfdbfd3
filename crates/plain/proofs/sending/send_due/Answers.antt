-- `send_due` meets its contract: the list's step is the one that is due.
use Rattle.plain.proofs.Sends.{due-start}
use Rattle.plain.proofs.sending.send_due.Goals as goal

pub send-requires-clause-start : goal.send-requires-clause-start
send-requires-clause-start c =
    due-start _ _ _ _ c.args.file.map.fits c.requires.due c.list-listed.ensures.step
