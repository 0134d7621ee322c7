use Rattle.std.proofs.Common.{ℕ, ◌<◌, ◌≤◌, eqb, length, sym, ap, ◌∙◌}
use Rattle.std.proofs.lemmas.Bool.{ltb-true, ltb-false}
use Rattle.racks.proofs.Picks.{empty-short, same-held}
use Rattle.racks.proofs.store.StoreRack.is_empty.Goals as goal

pub returns-then-is_short : goal.returns-then-is_short
returns-then-is_short g c =
    let s = c.args.self.now in
    let q = g.S.Slots in
    let ps = s.places.now in
    let lay = q.lay s.slots.now in
    let room = q.room s.slots.now in
    let short : length ps < room = ltb-true (length ps) room (sym c.if-is_short.ensures.answer) in
    c.if-is_short.true ∙ sym (empty-short ps lay room 0 short)

pub returns-else-is_short : goal.returns-else-is_short
returns-else-is_short g c =
    let s = c.args.self.now in
    let q = g.S.Slots in
    let ps = s.places.now in
    let lay = q.lay s.slots.now in
    let room = q.room s.slots.now in
    let long : room ≤ length ps = ltb-false (length ps) room (sym c.if-is_short.ensures.answer) in
    let within = c.if-is_short.ensures.within in
    ap (λ (n : ℕ). eqb n 0) (c.held.ensures ∙ sym (same-held ps lay room 0 long within))
