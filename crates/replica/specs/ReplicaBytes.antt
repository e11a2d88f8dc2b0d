-- The bytes of a record and of a replica, as images and the flat form have them: "per replica hw, epoch, leader, ISR, end, then
-- (id, epoch) per record. One byte each". Assumes nothing.
use Rattle.std.specs.Prelude.{ℕ, List, [], ◌∷◌}
use Rattle.parts.specs.Epoch.{epoch_byte, epoch_of_byte}
use Rattle.parts.specs.Mark.{byte_at}
use Rattle.replica.specs.declared.Record.{Record}
use Rattle.replica.specs.declared.Replica.{Replica}
use Rattle.replica.specs.Replica.{record_at}

-- ---- how many bytes a replica without its log, and a record have
abbrev pub head_width : ℕ
head_width = 5

abbrev pub log_record_width : ℕ
log_record_width = 2

-- where a replica's end stands
abbrev pub end_place : ℕ
end_place = 4

-- ---- written
-- "(id, epoch) per record"
abbrev pub record_bytes : Record → List ℕ
record_bytes r = r.id ∷ epoch_byte r.epoch ∷ []

-- the bytes of the record at offset x
abbrev pub record_bytes_at : Replica → ℕ → List ℕ
record_bytes_at p x = record_bytes (record_at p x)

-- "hw, epoch, leader, ISR, end", with this byte for the leader
abbrev pub replica_head_by : Replica → ℕ → List ℕ
replica_head_by p leader = p.hw ∷ epoch_byte p.epoch ∷ leader ∷ p.isr ∷ p.end ∷ []

-- ---- read
-- "(id, epoch) per record"
abbrev pub record_of : List ℕ → Record
record_of bs = record { id = byte_at bs 0; epoch = epoch_of_byte (byte_at bs 1) }
