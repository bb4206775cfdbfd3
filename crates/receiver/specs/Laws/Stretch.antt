-- A stretch is its bytes, one after another: what it hands on is handed on at its last byte.
use Rattle.std.specs.Prelude.{ℕ, zero, suc, ◌+◌, List, [], ◌∷◌, ◌≡◌, refl, eqb, length, take}
use Rattle.std.proofs.Common.{sym, ap, subst, ◌∙◌, arith, eqb-true}
use Rattle.std.proofs.lemmas.Bool.{eqb-false}
use Rattle.basis.specs.Laws.Choice.{decide}
use Rattle.receiver.specs.Hearing.{hear, Fed, feed}
use Rattle.receiver.specs.Laws.Bytes.{ending, first_on, first_found}
use Rattle.receiver.specs.Laws.Feeding.{before, feed-cons}
use Rattle.receiver.specs.Laws.Record.{no_bytes, byte-gathered, byte-packet}
use Rattle.receiver.specs.Receiver.{gathered, byte_of, packet_in, further, bytes_of}
use Rattle.receiver.specs.declared.receiver.Receiver.{Receiver}
use Rattle.receiver.specs.declared.receiver.Stretch.{Stretch}

-- at each of so many bytes nothing, and at the last of them s, which may be nothing too
abbrev pub at_last : ℕ → List ℕ → List (List ℕ)
at_last zero s = []
at_last (suc zero) s = s ∷ []
at_last (suc (suc n)) s = [] ∷ at_last (suc n) s

-- what a stretch comes to, as bytes that were fed
abbrev pub fed_by : Stretch → Fed
fed_by x =
    record {
      gathered = gathered x.receiver;
      handed = at_last x.taken (packet_in x.receiver x.packet);
    }

-- the taken bytes were fed; and they are all, where nothing is handed on
pub record Took (r : Receiver) (s : List ℕ) (x : Stretch) : Type 0 where
  pub fed : feed (gathered r) (take x.taken s) ≡ fed_by x
  pub all : x.packet ≡ 0 → x.taken ≡ length s
  pub some : x.taken ≡ 0 → x.packet ≡ 0

-- one byte more at which nothing is handed on
last_more : (r : Receiver) (n t : ℕ) → (t ≡ 0 → n ≡ 0)
    → [] ∷ at_last t (packet_in r n) ≡ at_last (suc t) (packet_in r n)
last_more r n zero h = rw (h refl)
last_more r n (suc t) h = refl

module _ (r : Receiver) (b : ℕ) (s : List ℕ) where
  abbrev next : Receiver
  next = (byte_of r b).receiver

  abbrev rest : Stretch
  rest = bytes_of next s

  -- the byte completes a packet
  found : ((byte_of r b).packet ≡ 0 → ⊥)
      → Took r (b ∷ s) (ending next (byte_of r b).packet 1)
  unfolding feed
  found h =
      record {
        fed = rw (byte-gathered r b, byte-packet r b);
        all = λ e. absurd (h e);
        some = λ e. absurd (omega arith);
      }

  -- it does not
  first-fed : (byte_of r b).packet ≡ 0 → Took next s rest
      → feed (gathered r) (b ∷ take rest.taken s)
      ≡ before [] (fed_by rest)
  first-fed h t =
      feed-cons (gathered r) b (take rest.taken s)
      ∙ ap (λ (p : List ℕ). before p (feed (hear (gathered r) b).gathered (take rest.taken s)))
      (no_bytes (hear (gathered r) b).packet h)
      ∙ ap (λ (g : List ℕ). before [] (feed g (take rest.taken s))) (sym (byte-gathered r b))
      ∙ ap (before []) t.fed

  quiet : (byte_of r b).packet ≡ 0 → Took next s rest → Took r (b ∷ s) (further 1 rest)
  quiet h t =
      let e : 1 + rest.taken ≡ suc rest.taken = omega arith in
      record {
        fed = rw e (first-fed h t
            ∙ ap (λ (l : List (List ℕ)). record { gathered = (fed_by rest).gathered; handed = l })
            (last_more rest.receiver rest.packet rest.taken t.some));
        all = λ q. rw e (ap suc (t.all q));
        some = λ q. absurd (omega arith);
      }

nothing-taken : (r : Receiver) → Took r [] (bytes_of r [])
unfolding bytes_of feed
nothing-taken r = record { fed = refl; all = λ e. refl; some = λ e. refl }

-- whatever the record and the bytes
pub took : (r : Receiver) (s : List ℕ) → Took r s (bytes_of r s)
took r [] = nothing-taken r
took r (b ∷ s) =
    decide (eqb (byte_of r b).packet 0)
    (λ t. subst (Took r (b ∷ s)) (sym (first_on r b s (eqb-true _ 0 t)))
    (quiet r b s (eqb-true _ 0 t) (took (byte_of r b).receiver s)))
    (λ t. subst (Took r (b ∷ s)) (sym (first_found r b s (eqb-false _ 0 t))) (found r b s (eqb-false _ 0 t)))
