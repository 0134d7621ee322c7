use Rattle.std.proofs.Common.{sym, ◌∙◌}
use Rattle.racks.proofs.Picks.{length-bins}
use Rattle.racks.proofs.store.StoreRack.bin_count.Goals as goal

pub returns : goal.returns
returns g c =
    let s = c.args.self.now in
    let q = g.S.Slots in
    let ps = s.places.now in
    let lay = q.lay s.slots.now in
    let room = q.room s.slots.now in
    c.sizes.ensures.bins ∙ sym (length-bins room ps lay)
