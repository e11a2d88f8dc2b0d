use Rattle.logic.specs.Entries.{entry}
use Rattle.logic.proofs.EntriesLaws.{passed_new, passed_known}
use Rattle.replica.proofs.meet.Goals as goal

pub returns-then-found-eq0 : goal.returns-then-found-eq0
returns-then-found-eq0 c = let a = c.args in passed_new a.seen.now (entry a.id a.value) c.if-found-eq0.true

pub returns : goal.returns
returns c = let a = c.args in passed_known a.seen.now (entry a.id a.value) c.if-found-eq0.false
