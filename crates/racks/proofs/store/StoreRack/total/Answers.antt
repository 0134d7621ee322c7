use Rattle.std.proofs.Common.{◌<◌, ◌≤◌, length, sym, ◌∙◌}
use Rattle.std.proofs.lemmas.Bool.{ltb-true, ltb-false}
use Rattle.racks.proofs.Picks.{total-short, total-long}
use Rattle.racks.proofs.store.StoreRack.total.Goals as goal

pub returns-then-is_short : goal.returns-then-is_short
returns-then-is_short g c =
    let s = c.args.self.now in
    let q = g.S.Slots in
    let ps = s.places.now in
    let lay = q.lay s.slots.now in
    let room = q.room s.slots.now in
    let short : length ps < room = ltb-true (length ps) room (sym c.if-is_short.ensures.answer) in
    sym (total-short room ps (q.total s.slots.now) short)

pub returns : goal.returns
returns g c =
    let s = c.args.self.now in
    let q = g.S.Slots in
    let ps = s.places.now in
    let lay = q.lay s.slots.now in
    let room = q.room s.slots.now in
    let long : room ≤ length ps = ltb-false (length ps) room (sym c.if-is_short.ensures.answer) in
    let within = c.if-is_short.ensures.within in
    c.sizes.ensures.total ∙ sym (total-long room ps (q.total s.slots.now) long)
