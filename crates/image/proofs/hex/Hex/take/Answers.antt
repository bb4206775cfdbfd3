-- `take` meets its contract: what the characters spell is handed on.
use Rattle.std.proofs.Common.{◌≡◌, ◌/◌, ◌≤◌, length, take, drop, sym, refl, ap, ◌∙◌, arith, length-take-le}
use Rattle.basis.specs.Laws.Units.{right-sizes}
use Rattle.basis.specs.Refusals.{given, and_then}
use Rattle.image.specs.Digits.{decoded}
use Rattle.image.specs.Record.{characters_of}
use Rattle.image.specs.Hex.{record_in, apply_in}
use Rattle.image.specs.Laws.Hex.{record-cut, characters-length, characters-bytes}
use Rattle.image.specs.Laws.Pointed.{pointed-given}
use Rattle.image.proofs.Handed.{handed-on}
use Rattle.image.proofs.hex.Hex.take.Goals as goal
use Rattle.image.proofs.hex.Hex.take.Goals.{In_ok-characters, Start}

-- the table, cut behind the characters
cut : (c : Start) → let a = c.args in
    let size = length a.image.now in
    record_in size a.self a.line.now a.image.now a.map.now
    ≡ and_then (characters_of a.line.now)
    (apply_in size a.self (length a.line.now) (decoded (drop 1 a.line.now)) a.image.now a.map.now)
cut c =
    let pre = c.requires in
    record-cut _ c.args.self c.args.image.now c.args.map.now c.args.line.now
    (right-sizes (length c.args.image.now) _ (length c.args.map.now) refl (omega (arith, pre.map)))
    pre.known pre.going

passed : (c : In_ok-characters) → characters_of c.args.line.now ≡ given tt
passed c = pointed-given c.args.line.now _ c.in_ok-characters.ensures.answer

fits : (c : In_ok-characters) → length c.args.line.now / 2 ≤ length c.characters.new.bytes
fits c =
    let long = characters-length c.args.line.now (passed c) in
    omega (arith, long.most, c.characters.auto.bytes, c.requires.room)

bytes-long : (c : In_ok-characters) → let n = length c.args.line.now / 2 in
    length (take n c.characters.new.bytes) ≡ n
bytes-long c = length-take-le _ _ (fits c)

-- what is handed on are the line's bytes
spelt : (c : In_ok-characters) → let l = c.args.line.now in
    take (length l / 2) c.characters.new.bytes ≡ decoded (drop 1 l)
spelt c =
    ap (take (length c.args.line.now / 2)) c.characters.ensures.bytes
    ∙ characters-bytes c.args.line.now c.args.bytes.now (passed c)
    (omega (arith, (characters-length c.args.line.now (passed c)).most, c.requires.room))

pub returns-in_err-characters : goal.returns-in_err-characters
returns-in_err-characters c =
    let a = c.args in
    rw (cut (goal.at.returns-in_err-characters c).Start)
    (handed-on a.line.now a.image.now a.map.now _ _ _ _ c.from_residual.ensures.1
    c.in_err-characters.ensures.answer)

pub slice_bounds-apply-end : goal.slice_bounds-apply-end
slice_bounds-apply-end c = fits (goal.at.slice_bounds-apply-end c).In_ok-characters

pub slice_bounds-apply-end-2 : goal.slice_bounds-apply-end-2
slice_bounds-apply-end-2 c = sym (bytes-long (goal.at.slice_bounds-apply-end-2 c).In_ok-characters)

pub apply-requires-clause-spelt : goal.apply-requires-clause-spelt
apply-requires-clause-spelt c = spelt (goal.at.apply-requires-clause-spelt c).In_ok-characters

pub apply-requires-clause-whole : goal.apply-requires-clause-whole
apply-requires-clause-whole c =
    let k = (goal.at.apply-requires-clause-whole c).In_ok-characters in
    omega (arith, bytes-long k, (characters-length _ (passed k)).odd)

pub apply-requires-clause-least : goal.apply-requires-clause-least
apply-requires-clause-least c =
    let k = (goal.at.apply-requires-clause-least c).In_ok-characters in
    omega (arith, bytes-long k, (characters-length _ (passed k)).least)

pub returns : goal.returns
returns c =
    let k = (goal.at.returns c).In_ok-characters in
    let s = (goal.at.returns c).Start in
    rw (cut s, passed k, sym (spelt k)) c.apply.ensures
