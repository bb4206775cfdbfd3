-- The receiver's record: what it holds, and what bytes make of it, every byte of it.
use Rattle.std.specs.Prelude.{ℕ, ◌+◌, List, [], ◌∷◌, ◌++◌, eqb, length, take, replicate}
use Rattle.basis.specs.Choice.{pick}
use Rattle.basis.specs.Lists.{overlay}
use Rattle.packet.specs.Packet.{packet_most}
use Rattle.receiver.specs.Hearing.{Heard, hear}
use Rattle.receiver.specs.declared.receiver.Received.{Received}
use Rattle.receiver.specs.declared.receiver.Receiver.{Receiver}
use Rattle.receiver.specs.declared.receiver.Stretch.{Stretch}

-- nothing is gathered
abbrev pub fresh : Receiver
fresh = record { bytes = replicate packet_most 0; len = 0 }

-- what was gathered is dropped, every byte stays
abbrev pub emptied : Receiver → Receiver
emptied r = record { bytes = r.bytes; len = 0 }

-- what is gathered: the first `len` bytes, all where there are not so many
abbrev pub gathered : Receiver → List ℕ
gathered r = take r.len r.bytes

-- the packet or what is gathered, one of which has no bytes, stands at the start; all behind it stays
abbrev pub stored : Receiver → Heard → Receiver
stored r h = record { bytes = overlay (h.packet ++ h.gathered) r.bytes; len = length h.gathered }

-- the record with the length of the packet that stands in it
abbrev pub received_of : Receiver → Heard → Received
received_of r h = record { receiver = stored r h; packet = length h.packet }

-- nothing is handed on, or all that is gathered
abbrev pub keeping : Receiver → Received
keeping r = record { receiver = r; packet = 0 }

abbrev pub giving : Receiver → Received
giving r = record { receiver = emptied r; packet = r.len }

-- after one byte
abbrev pub byte_of : Receiver → ℕ → Received
byte_of r b = received_of r (hear (gathered r) b)

-- the packet that stands in what was received
abbrev pub packet_in : Receiver → ℕ → List ℕ
packet_in r n = take n r.bytes

-- so many bytes were taken before
abbrev pub further : ℕ → Stretch → Stretch
further n x = record { receiver = x.receiver; packet = x.packet; taken = n + x.taken }

-- after bytes in their order, up to and with the one that completes a packet
unfoldable pub bytes_of : Receiver → List ℕ → Stretch
bytes_of r [] = record { receiver = r; packet = 0; taken = 0 }
bytes_of r (b ∷ s) =
    let x = byte_of r b in
    pick (eqb x.packet 0) (further 1 (bytes_of x.receiver s))
    (record { receiver = x.receiver; packet = x.packet; taken = 1 })
