use Rattle.std.proofs.Common.{◌∙◌}
use Rattle.replay.specs.InterfaceLaws.{rename_five, rename_uncounted}
use Rattle.replay.proofs.take.rename_by.Goals as goal

pub returns-in-Ok : goal.returns-in-Ok
returns-in-Ok c = let whole = c.in-Ok.ensures.1 in
    rw whole.same at c.rename.ensures ∙ rename_five _ _ whole.long

pub returns-in-Err : goal.returns-in-Err
returns-in-Err c = rw (c.unwrap_or-refusal.ensures, c.err.ensures.value) (rename_uncounted _ _ c.in-Err.ensures.1 _ c.validate.ensures.number)
