use Rattle.std.specs.Prelude.{◌≡◌, ◌+◌, ◌-◌, ◌*◌, take, drop, List, ℕ, get_or}
use Rattle.std.proofs.Common.{ap, ◌∙◌, arith}
use Rattle.std.proofs.lemmas.List.{get_or-take, get_or-drop}
use Rattle.logic.specs.Concat.{concat_below}
use Rattle.logic.specs.Table.{ext_table}
use Rattle.renamings.specs.Names.{table_numbers, rows, orders, without_place}
use Rattle.renamings.specs.Fitting.{part_number, part_numbers}
use Rattle.renamings.proofs.table.part.Goals as goal

pub returns : goal.returns
unfolding part_numbers table_numbers rows orders without_place concat_below
returns c = let start = 5 * c.args.first in
    let taken = c.copy_from_slice.new.self in
    let copied : taken ≡ take (start + 120 - start) (drop start table_numbers) = c.copy_from_slice.ensures.after in
    ext_table 0 120 (part_number c.args.first) taken c.copy_from_slice.ensures.len
    (λ k b.
    ap (λ (l : List ℕ). get_or l k 0) copied
    ∙ get_or-take (start + 120 - start) (drop start table_numbers) k 0 (omega arith)
    ∙ get_or-drop start table_numbers k 0)
