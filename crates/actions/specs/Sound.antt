-- The states that actions start from and lead to: of one configuration, meeting S1 to S7, tidy. Assumes nothing.
use Rattle.std.specs.Prelude.{◌≡◌, refl, true}
use Rattle.cluster.specs.declared.Limits.{Limits}
use Rattle.cluster.specs.declared.State.{State}
use Rattle.cluster.specs.State.{tidy}
use Rattle.cluster.specs.Rules.{rules}
use Rattle.cluster.specs.Predicates.{Rules, rules_iff}
use Rattle.actions.specs.Tidy.{Tidy, tidy_iff}

pub record Sound (c : Limits) (s : State) : Type 0 where
  pub limits : s.limits ≡ c
  pub rules : Rules s
  pub tidy : Tidy s

pub sound_of : (s : State) → rules s ≡ true → tidy s ≡ s → Sound s.limits s
sound_of s h t = record { limits = refl; rules = (rules_iff s).0 h; tidy = (tidy_iff s).0 t }
