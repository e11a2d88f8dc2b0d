-- S7 by entries: of states that meet S6, one pass over the records of all logs decides it. Assumes nothing.
use Rattle.std.specs.Prelude.{ℕ, ◌<◌, ◌≡◌, true, List, ◌↔◌, replicate}
use Rattle.std.proofs.Common.{sym, ◌∙◌, ap, arith}
use Rattle.logic.specs.Tests.{bool_ext}
use Rattle.logic.specs.Concat.{concat_below}
use Rattle.logic.specs.Entries.{Entry, agree_all, In, Storable, Alike}
use Rattle.logic.proofs.EntriesLaws.{agree_alike, in_concat, in_some}
use Rattle.replica.specs.declared.Replica.{Replica}
use Rattle.replica.specs.Replica.{record_at}
use Rattle.replica.specs.LogLaws.{Agree}
use Rattle.replica.specs.Entries.{offset_and_epoch, entry_of, log_entries}
use Rattle.replica.specs.EntryLaws.{value_some, values_agree, entry_of_record, record_entered}
use Rattle.cluster.specs.declared.State.{State}
use Rattle.cluster.specs.State.{replica_count_of, next_leader_epoch_of, next_record_id_of, replica_in, replica_at}
use Rattle.cluster.specs.Rules.{rule6, rule7, Bounded}
use Rattle.cluster.specs.Predicates.{Has, S7, rule6_iff, rule7_iff}

-- the entries of the log of the replica named i
abbrev pub entries_at : List Replica → ℕ → List Entry
entries_at replicas i = log_entries (replica_in replicas i)

module _ (s : State) (ids : next_record_id_of s < 256) (bounded : Bounded s)
    (six : rule6 (replica_count_of s.limits) (next_record_id_of s) (next_leader_epoch_of s) s.replicas ≡ true) where
  -- the entries of all logs
  entries : List Entry
  entries = concat_below (replica_count_of s.limits) (entries_at s.replicas)

  -- they are those of the records that the logs have
  record OfLog (e : Entry) : Type 0 where
    replica : ℕ
    offset : ℕ
    has : Has s replica offset
    is : e ≡ entry_of (record_at (replica_at s replica) offset) offset

  of_log : (e : Entry) → In e entries → OfLog e
  unfolding entries
  of_log e i =
      let w = in_concat (entries_at s.replicas) (replica_count_of s.limits) e i in
      let r = entry_of_record (replica_at s w.place) e w.there in
      record { replica = w.place; offset = r.offset; has = record { replica = w.below; offset = r.below }; is = r.is }

  entered : (i x : ℕ) → Has s i x → In (entry_of (record_at (replica_at s i) x) x) entries
  unfolding entries
  entered i x h =
      in_some (entries_at s.replicas) (replica_count_of s.limits) i (entry_of (record_at (replica_at s i) x) x) h.replica
      (record_entered (replica_at s i) x h.offset)

  storable : (e : Entry) → In e entries → Storable 256 e
  storable e i =
      let o = of_log e i in
      let id : e.id ≡ (record_at (replica_at s o.replica) o.offset).id = ap (λ (v : Entry). v.id) o.is in
      record {
        place = omega (arith, id, ((rule6_iff s).0 six o.replica o.offset o.has).id);
        some = λ z. value_some (record_at (replica_at s o.replica) o.offset) o.offset (sym (ap (λ (v : Entry). v.value) o.is) ∙ z);
      }

  -- the records that the logs have agree exactly where the values of their entries do
  agree_of : (i x j y : ℕ) → Has s i x → Has s j y
      → offset_and_epoch (record_at (replica_at s i) x) x ≡ offset_and_epoch (record_at (replica_at s j) y) y
      ↔ Agree (record_at (replica_at s i) x) x (record_at (replica_at s j) y) y
  agree_of i x j y m k =
      values_agree (next_record_id_of s) (next_leader_epoch_of s) (record_at (replica_at s i) x) (record_at (replica_at s j) y) x y
      (omega (arith, bounded.requests)) ((rule6_iff s).0 six i x m) ((rule6_iff s).0 six j y k)

  -- so entries of one id have one value exactly where S7 holds
  s7_of : ((d e : Entry) → In d entries → In e entries → Alike d e) → S7 s
  s7_of f i x j y m k z = (agree_of i x j y m k).0 (f _ _ (entered i x m) (entered j y k) z)

  alike_of : S7 s → (d e : Entry) → In d entries → In e entries → Alike d e
  alike_of f d e i j z =
      let a = of_log d i in
      let b = of_log e j in
      let id : (record_at (replica_at s a.replica) a.offset).id ≡ (record_at (replica_at s b.replica) b.offset).id =
      sym (ap (λ (v : Entry). v.id) a.is) ∙ z ∙ ap (λ (v : Entry). v.id) b.is in
      ap (λ (v : Entry). v.value) a.is
      ∙ (agree_of a.replica a.offset b.replica b.offset a.has b.has).1
      (f a.replica a.offset b.replica b.offset a.has b.has id)
      ∙ sym (ap (λ (v : Entry). v.value) b.is)

  -- so the pass decides S7
  pub entries_decide : agree_all (replicate 256 0) (concat_below (replica_count_of s.limits) (entries_at s.replicas))
      ≡ rule7 (replica_count_of s.limits) s.replicas
  unfolding entries
  entries_decide =
      let w = agree_alike 256 entries storable in
      bool_ext _ _ (λ h. (rule7_iff s).1 (s7_of (w.0 h))) (λ h. w.1 (alike_of ((rule7_iff s).0 h)))
