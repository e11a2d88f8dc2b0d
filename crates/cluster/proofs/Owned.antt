-- A state that a function owns has arrays of the lengths that its type says.
-- Assumes nothing.
use Prim.Native.Nat.{ℕ, zero, suc, ◌<◌}
use mathlib.Core.Path.{◌≡◌}
use mathlib.Core.List.{List, [], ◌∷◌}
use native.Mathlib.Omega.{arith}
use lib.ListN.{length, get_or}
use base.Fml.{Fml}
use mir.Val.{Val}
use denote.Shadow.{shadow}
use denote.Array.{each}
use denote.Laws.{Is}
use denote.Struct.Declared.{row}
use Rattle.replica.specs.contracts.Replica as Replica
use Rattle.replica.specs.declared.Replica.{Replica as ReplicaType}
use Rattle.replica.specs.Replica.{no_replica}
use Rattle.cluster.specs.contracts.State as State
use Rattle.cluster.specs.declared.State.{State as StateType}
use Rattle.cluster.specs.State.{replica_at}
use Rattle.cluster.specs.Shape.{Shaped}

-- what owning an array says of each of its elements
each_says : (X : Type 0) (f : X → List Val → Fml) (P : X → Type 0) → ((x : X) (vs : List Val) → shadow (f x vs) → P x)
    → (xs : List X) (us : List Val) → shadow (each X f xs us) → (i : ℕ) (d : X) → i < length xs → P (get_or xs i d)
each_says X f P g [] us h i d l = absurd (omega arith)
each_says X f P g (x ∷ xs) [] h i d l = absurd h
each_says X f P g (x ∷ xs) (u ∷ us) h zero d l = g x (u ∷ []) h.0
each_says X f P g (x ∷ xs) (u ∷ us) h (suc i) d l = each_says X f P g xs us h.1 i d (omega arith)

-- owning a struct says one thing after another; two `.1` and one more for each field before it lead to a field, and
-- from there `.0 .1 .0 .1` to the length of its array, `.0 .1 .1` to its elements
pub shaped_of : (s : StateType) (vs : List Val) → Is (row State.the_type) s vs → Shaped s
shaped_of s vs h = record { requests = requests; replicas = replicas; logs = logs }
  where
    requests : length s.requests ≡ 16
    requests = h.1.1.1.1.1.1.0.1.0.1

    replicas : length s.replicas ≡ 5
    replicas = h.1.1.1.1.1.1.1.0.1.0.1

    logs : (i : ℕ) → i < 5 → length (replica_at s i).log ≡ 16
    logs i l =
        let k : i < length s.replicas = (let f = replicas in omega arith) in
        each_says ReplicaType (row Replica.the_type).own_val (λ p. length p.log ≡ 16) (λ p vs w. w.1.1.1.1.1.1.1.0.1.0.1)
        s.replicas _ h.1.1.1.1.1.1.1.0.1.1 i no_replica k
