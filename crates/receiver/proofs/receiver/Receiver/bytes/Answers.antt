-- `bytes` meets its contract: what is left from here gives what was to be given.
use Rattle.std.proofs.Common.{ℕ, ◌+◌, ◌≡◌, sym, ap, ◌∙◌, arith, drop, length}
use Rattle.receiver.specs.Laws.Bytes.{ending, bytes_on, bytes-found, bytes-ended}
use Rattle.receiver.specs.Receiver.{further, bytes_of}
use Rattle.receiver.specs.declared.receiver.Received.{Received}
use Rattle.receiver.proofs.receiver.Receiver.bytes.Goals as goal

abbrev packet : Received → ℕ
packet x = x.packet

pub returns-then-next-ne0-clause-state : goal.returns-then-next-ne0-clause-state
returns-then-next-ne0-clause-state c =
    let l = c.loop-i in
    let e = c.byte-next.ensures.state in
    sym (l.invariant
    ∙ bytes-found l.receiver c.args.bytes.now l.i c.loop-i-test.true
    (λ z. c.if-next-ne0.true (ap packet e ∙ z))
    ∙ ap (λ (x : Received). ending x.receiver x.packet (l.i + 1)) (sym e))

pub loop-i-preserved : goal.loop-i-preserved
loop-i-preserved c =
    let l = c.loop-i in
    let e = c.byte-next.ensures.state in
    let s = c.args.bytes.now in
    l.invariant
    ∙ bytes_on l.receiver s l.i c.loop-i-test.true (sym (ap packet e) ∙ c.if-next-ne0.false)
    ∙ ap (λ (x : Received). further (l.i + 1) (bytes_of x.receiver (drop (l.i + 1) s))) (sym e)

pub returns-clause-state : goal.returns-clause-state
returns-clause-state c =
    let l = c.loop-i in
    let n : l.i ≡ length c.args.bytes.now = omega arith in
    sym (l.invariant ∙ bytes-ended l.receiver c.args.bytes.now l.i c.loop-i-test.false
    ∙ ap (ending l.receiver 0) n)
