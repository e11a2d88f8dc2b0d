use Rattle.std.proofs.Common.{rules, arith, ℕ, length, take, get_or, ◌≡◌, ◌≤◌, ◌<◌, ◌∙◌}
use Rattle.std.proofs.lemmas.List.{get_or-take, get_or_default, length-take}
use Rattle.replica.specs.declared.Replica.{Replica}
use Rattle.replica.specs.Replica.{no_replica}
use Rattle.cluster.specs.declared.valid.ValidState.{ValidState}
use Rattle.cluster.specs.State.{replica_count_of, replica_at}
use Rattle.cluster.specs.RuleLaws.{rules_logs_bounded}
use Rattle.images.specs.Image.{replica_bytes_at, replicas_bytes}
use Rattle.images.proofs.write.put_replicas.Goals as goal

-- the item i is the replica named i, whose log is within its array
item : (v : ValidState) (i : ℕ) (x : Replica) → let l = take (replica_count_of v.state.limits) v.state.replicas in
    i < length l → x ≡ get_or l i x → (x ≡ replica_at v.state i) × ((replica_at v.state i).end ≤ 16)
item v i x h is = let s = v.state in
    let n = replica_count_of s.limits in
    let e = length-take n s.replicas in
    (is ∙ get_or-take n s.replicas i x (omega (arith, e)) ∙ get_or_default s.replicas i x no_replica (omega (arith, e)), rules_logs_bounded s v.meets_rules i (omega (arith, e)))

pub put_each-requires : goal.put_each-requires
unfolding replicas_bytes
put_each-requires c = let v = c.args.valid in (
  replica_bytes_at v.state,
  record {
    may = λ i x h is o at room. let f = item v i x h is in search rules;
    does = λ i x h is o at r o' room p. let f = item v i x h is in search rules;
  },
  search rules,
)

pub returns : goal.returns
unfolding replicas_bytes
returns c = let v = c.args.valid in
    let s = v.state in
    let n = replica_count_of s.limits in
    let all : length (take n s.replicas) ≡ n = search rules in
    rw all at (c.put_each.ensures (replica_bytes_at s) (record {
      may = λ i x h is o at room. let f = item v i x h is in search rules;
      does = λ i x h is o at r o' room p. let f = item v i x h is in search rules;
    }) (search rules))
