use Rattle.std.proofs.Common.{ap, ◌∙◌}
use Rattle.racks.proofs.Picks.{bins-empty}
use Rattle.racks.proofs.store.Store.over.Goals as goal

pub returns-clause-empty : goal.returns-clause-empty
returns-clause-empty g c =
    let q = g.S.Slots in
    let r = c.lent.result in
    λ bins e. bins-empty (q.room r.slots.now) r.places.now (q.lay r.slots.now) bins (ap (λ t. q.lay t) c.lent.ensures.slots ∙ e)
