-- S6 and S7 are kept where every record of the next state stands in the state at the same offset, or is the one record that
-- is written, whose id is the next id. Assumes nothing.
use Rattle.std.specs.Prelude.{ℕ, ◌≤◌, ◌<◌, ◌≡◌, refl}
use Rattle.std.proofs.Common.{sym, ◌∙◌, ap, arith}
use Rattle.replica.specs.declared.Record.{Record}
use Rattle.replica.specs.Replica.{record_at}
use Rattle.replica.specs.LogLaws.{InUse, Agree}
use Rattle.cluster.specs.declared.State.{State}
use Rattle.cluster.specs.State.{replica_count_of, next_leader_epoch_of, next_record_id_of, replica_at}
use Rattle.cluster.specs.Predicates.{Has, S6, S7}
use Rattle.cluster.specs.Actions.{next_record}

-- where the record r at offset x comes from: a replica of s has it there, or a writes it at its end, and its id and epoch are
-- in use next
pub data From (s : State) (a next_id next_epoch : ℕ) (r : Record) (x : ℕ) : Type 0 where
  old : (i : ℕ) → Has s i x → r ≡ record_at (replica_at s i) x → From s a next_id next_epoch r x
  written : InUse next_id next_epoch (next_record s a) → r ≡ next_record s a → x ≡ (replica_at s a).end → From s a next_id next_epoch r x

-- a record of s comes from itself, whoever writes
pub from_itself : (s : State) (a next_id next_epoch i : ℕ) → i < replica_count_of s.limits → (x : ℕ) → x < (replica_at s i).end
    → From s a next_id next_epoch (record_at (replica_at s i) x) x
from_itself s a next_id next_epoch i l x h = old i (record { replica = l; offset = h }) refl

-- where none is written, 0 may stand for the writer
pub unwritten : (s : State) (next_id next_epoch i : ℕ) → i < replica_count_of s.limits → (x : ℕ) → x < (replica_at s i).end
    → From s 0 next_id next_epoch (record_at (replica_at s i) x) x
unwritten s next_id next_epoch = from_itself s 0 next_id next_epoch

module _ (s t : State) (a : ℕ) (six : S6 s) where
  abbrev ComesFrom : Record → ℕ → Type 0
  ComesFrom r x = From s a (next_record_id_of t) (next_leader_epoch_of t) r x

  -- no record of s has the id of the one that is written
  not_written : (i x : ℕ) → Has s i x → (record_at (replica_at s i) x).id ≡ next_record_id_of s → ⊥
  not_written i x h e = omega (arith, (six i x h).id)

  agree : S7 s → (r q : Record) (x y : ℕ) → ComesFrom r x → ComesFrom q y → r.id ≡ q.id → Agree r x q y
  agree seven r q x y (old i h e) (old j k f) g = rw (e, f) (seven i x j y h k (rw (e, f) at g))
  agree seven r q x y (old i h e) (written u f k) g =
      absurd (not_written i x h (ap (λ (v : Record). v.id) (sym e) ∙ g ∙ ap (λ (v : Record). v.id) f))
  agree seven r q x y (written u e h) (old j k f) g =
      absurd (not_written j y k (ap (λ (v : Record). v.id) (sym f) ∙ sym g ∙ ap (λ (v : Record). v.id) e))
  agree seven r q x y (written u e h) (written v f k) g = record { offset = h ∙ sym k; epoch = ap (λ (w : Record). w.epoch) (e ∙ sym f) }

  module _ (from : (i : ℕ) → i < replica_count_of t.limits → (x : ℕ) → x < (replica_at t i).end → ComesFrom (record_at (replica_at t i) x) x) where
    pub s7_kept : S7 s → S7 t
    s7_kept seven i x j y h k =
        agree seven (record_at (replica_at t i) x) (record_at (replica_at t j) y) x y
        (from i h.replica x h.offset) (from j k.replica y k.offset)

    pub s6_kept : next_record_id_of s ≤ next_record_id_of t → next_leader_epoch_of s ≤ next_leader_epoch_of t → S6 t
    s6_kept ids epochs i x h = go (record_at (replica_at t i) x) (from i h.replica x h.offset)
      where
        more : (r : Record) → InUse (next_record_id_of s) (next_leader_epoch_of s) r → InUse (next_record_id_of t) (next_leader_epoch_of t) r
        more r u = record { id = omega (arith, u.id); epoch = λ e q. omega (arith, u.epoch e q); signed = u.signed }

        go : (r : Record) → ComesFrom r x → InUse (next_record_id_of t) (next_leader_epoch_of t) r
        go r (old j k e) = rw e (more (record_at (replica_at s j) x) (six j x k))
        go r (written u e k) = rw e u
