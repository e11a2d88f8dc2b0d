-- The representative of a state: "the state under the renaming with the least image, bytes compared from the front". Assumes
-- nothing.
use Rattle.std.specs.Prelude.{ℕ, List}
use Rattle.logic.specs.Refuse.{by_refusal}
use Rattle.logic.specs.Least.{least_from}
use Rattle.parts.specs.Refusal.{accepted}
use Rattle.cluster.specs.declared.State.{State}
use Rattle.cluster.specs.Answer.{Outcome}
use Rattle.cluster.specs.State.{replica_count_of}
use Rattle.cluster.specs.Outcome.{answer, as_given}
use Rattle.cluster.specs.Rules.{state_refusal}
use Rattle.images.specs.Image.{image}
use Rattle.renamings.specs.Names.{is_renaming, rows, row}
use Rattle.renamings.specs.Rename.{renamed}

-- the image of the state under p
abbrev pub image_under : State → List ℕ → List ℕ
image_under s p = image (renamed p s)

-- the row of the table that is a renaming of the state's replicas and gives the least image; of several the first
unfoldable pub least_renaming : State → List ℕ
least_renaming s = least_from (is_renaming (replica_count_of s.limits)) (image_under s) (row 0) rows

-- the state under it
unfoldable pub representative : State → State
representative s = renamed (least_renaming s) s

-- what asking for the representative answers: 41 to 47 and the state as given where it breaks a rule, else the representative
unfoldable pub represent : State → Outcome
represent s = by_refusal (state_refusal s) (as_given s) (answer accepted (representative s))
