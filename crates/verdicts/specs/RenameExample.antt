-- A run with its two replicas exchanged, computed on the definitions. The theorem on renamed runs speaks of verdicts, and bytes
-- behind a refused run record change no verdict: which of them are renamed is shown here. Assumes nothing.
use Rattle.std.specs.Prelude.{ℕ, ◌≡◌, refl}
use mathlib.Core.List.{List, [], ◌∷◌, flatten}
use Rattle.logic.specs.Tests.{every}
use Rattle.logic.specs.Table.{table, table_from}
use Rattle.logic.specs.Refuse.{refuse, by_refusal}
use Rattle.logic.specs.Pieces.{pieces_up_to, pieces}
use Rattle.parts.specs.Mark.{marked}
use Rattle.cluster.specs.Rules.{between, in_range}
use Rattle.cluster.specs.Fresh.{fresh_state, limits_refusal, fresh}
use Rattle.cluster.specs.Act.{kind_of, uses}
use Rattle.runs.specs.Run.{mark_refusal, run_record_refusal, configure, length_refusal, opening}
use Rattle.renamings.specs.Names.{new_name}
use Rattle.renamings.specs.Rename.{rename_operand, rename_action}
use Rattle.verdicts.specs.RenameRun.{rename_run_record, rename_run}
use Rattle.verdicts.specs.Examples.{configuration, action, elect, leader, follower, replicate_from}

-- the renaming that exchanges 0 and 1
abbrev exchange : List ℕ
exchange = 1 ∷ 0 ∷ 2 ∷ 3 ∷ 4 ∷ []

-- six bytes with another mark, and the first five bytes of a run record
abbrev unmarked : List ℕ
unmarked = 0 ∷ 1 ∷ 0 ∷ 1 ∷ 0 ∷ 1 ∷ []

abbrev torn : List ℕ
torn = 75 ∷ 65 ∷ 1 ∷ 0 ∷ 1 ∷ []

-- The second election is refused. It and each whole action behind it are renamed; an operand that is not below R, one that its
-- kind does not use, the operands of a kind above 8, a configuration, six bytes with another mark and the last five bytes stay.
pub exchanged_run : rename_run exchange
    (flatten
    (configuration 2 4 4 3 ∷ elect 0 ∷ elect 0 ∷ elect 1 ∷ elect 2 ∷ replicate_from 0 1 ∷ follower 1 0 ∷ action 3 1 1 0 ∷ leader 1 ∷ action 9 0 1 0
    ∷ configuration 0 1 1 1 ∷ unmarked ∷ torn ∷ []))
    ≡ flatten
    (configuration 2 4 4 3 ∷ elect 1 ∷ elect 1 ∷ elect 0 ∷ elect 2 ∷ replicate_from 1 0 ∷ follower 0 0 ∷ action 3 0 1 0 ∷ leader 1 ∷ action 9 0 1 0
    ∷ configuration 0 1 1 1 ∷ unmarked ∷ torn ∷ [])
unfolding rename_run rename_run_record rename_action rename_operand new_name opening length_refusal configure run_record_refusal mark_refusal
    fresh limits_refusal fresh_state in_range between flatten pieces pieces_up_to marked refuse by_refusal uses kind_of every table
    table_from
exchanged_run = refl

-- a run whose configuration is refused stays
pub refused_run_stays : rename_run exchange (flatten (configuration 6 4 4 3 ∷ elect 0 ∷ [])) ≡ flatten (configuration 6 4 4 3 ∷ elect 0 ∷ [])
unfolding rename_run opening length_refusal configure run_record_refusal mark_refusal fresh limits_refusal in_range between flatten marked
    refuse by_refusal every
refused_run_stays = refl
