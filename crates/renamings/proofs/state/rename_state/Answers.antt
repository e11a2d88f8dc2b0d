use Rattle.cluster.proofs.Owned.{shaped_of}
use Rattle.renamings.specs.CodeLaws.{state_by}
use Rattle.renamings.proofs.state.rename_state.Goals as goal

pub returns : goal.returns
returns c = let s = c.args.s in
    rw (c.quorum.ensures, c.requests.ensures, c.replicas.ensures, c.new-names.ensures) (state_by c.args.p.names s (shaped_of s _ c.well_formed.0).requests)
