-- `put_record` meets its contract: four bytes and the three counts follow one another.
use Rattle.std.proofs.Common.{ℕ, ◌+◌, ◌*◌, ◌/◌, ◌%◌, ◌≤◌, List, [], ◌∷◌, ◌++◌, ◌≡◌, refl, arith, rules, length, length-append}
use Rattle.basis.specs.Board.{version_of, count_bytes, log_length}
use Rattle.basis.specs.Laws.Lists.{copy-overlay}
use Rattle.basis.specs.Lists.{overlay, copy_of}
use Rattle.basis.specs.declared.board.Board.{Board}
use Rattle.service_log.specs.Big.{big_of}
use Rattle.service_log.specs.Log.{record_size, record_bytes}
use Rattle.service_log.specs.Laws.Big.{big-length}
use Rattle.service_log.proofs.write.put_record.Goals as goal

-- a buffer after the four bytes, and after each count
put : (b : Board) (o k t n l v w : ℕ) (old F K T N : List ℕ) → record_size b ≤ length old
    → l ≡ log_length b
    → v ≡ version_of b
    → w ≡ count_bytes b
    → F ≡ overlay (l / 256 % 256 ∷ l % 256 ∷ v ∷ o ∷ []) old
    → K ≡ copy_of F 4 (big_of w k)
    → T ≡ copy_of K (4 + w) (big_of w t)
    → N ≡ copy_of T (4 + 2 * w) (big_of w n)
    → N ≡ overlay (record_bytes b o k t n) old
unfolding record_bytes big_of
put b o k t n l v w old F K T N room el ev ew e_f e_k e_t e_n =
    let f = big_of 2 (log_length b) ++ (version_of b ∷ o ∷ []) in
    let s = count_bytes b in
    let lk = big-length s k in
    let lt = big-length s t in
    let ln = big-length s n in
    let p : length (f ++ big_of s k) ≡ 4 + s = simp length-append (omega arith) in
    let q : length (f ++ big_of s k ++ big_of s t) ≡ 4 + 2 * s = simp length-append (omega arith) in
    rw (
      e_n,
      e_t,
      e_k,
      e_f,
      el,
      ev,
      ew,
      copy-overlay f old (big_of s k) 4 refl (omega arith),
      copy-overlay (f ++ big_of s k) old (big_of s t) (4 + s) p (omega arith),
    )
    (copy-overlay (f ++ big_of s k ++ big_of s t) old (big_of s n) (4 + 2 * s) q (omega arith))

pub returns : goal.returns
returns c =
    let a = c.args in
    let l = c.log_length.result in
    let e : c.to_be_bytes.result ≡ l / 256 % 256 ∷ l % 256 ∷ [] = c.to_be_bytes.ensures in
    put a.board a.counts.outcome a.counts.acknowledged a.counts.total a.counts.bytes
    l c.log_version-version.result c.count_bytes-width.result a.buffer.now _ _ _ _
    c.requires (search rules) (search rules) (search rules) (rw e at c.write.ensures) c.put_big.ensures
    c.put_big-2.ensures c.put_big-3.ensures
