use Rattle.std.proofs.Common.{ℕ, ◌<◌, ◌≤◌, length, Ok, Err, sym, ap, ◌∙◌}
use Rattle.std.proofs.lemmas.Result.{err_from_is_err_and}
use Rattle.std.proofs.lemmas.Bool.{ltb-true, ltb-false}
use Rattle.racks.specs.declared.faults.RackFault.{RackFault}
use Rattle.racks.proofs.Picks.{count_none, count-there, bin-none, count-short, same_count}
use Rattle.racks.proofs.store.StoreRack.count.Goals as goal

pub returns-in_err-held : goal.returns-in_err-held
returns-in_err-held g c =
    let s = c.args.self.now in
    let q = g.S.Slots in
    let ps = s.places.now in
    let lay = q.lay s.slots.now in
    let room = q.room s.slots.now in
    let b = c.args.bin in
    let p = err_from_is_err_and c.from_residual.result c.from_residual.ensures.1 in
    let n = count_none lay b _ c.in_err-held.ensures in
    rw (p.1, p.2) (ap (λ (f : RackFault). Err f) n.1 ∙ sym (bin-none ps lay room b n.0))

pub returns-then-is_short : goal.returns-then-is_short
returns-then-is_short g c =
    let s = c.args.self.now in
    let q = g.S.Slots in
    let ps = s.places.now in
    let lay = q.lay s.slots.now in
    let room = q.room s.slots.now in
    let b = c.args.bin in
    let short : length ps < room = ltb-true (length ps) room (sym c.if-is_short.ensures.answer) in
    let n = count-there lay b _ c.in_ok-held.ensures in
    sym (count-short ps lay room b short n.0)

pub returns : goal.returns
returns g c =
    let s = c.args.self.now in
    let q = g.S.Slots in
    let ps = s.places.now in
    let lay = q.lay s.slots.now in
    let room = q.room s.slots.now in
    let b = c.args.bin in
    let long : room ≤ length ps = ltb-false (length ps) room (sym c.if-is_short.ensures.answer) in
    let within = c.if-is_short.ensures.within in
    let n = count-there lay b _ c.in_ok-held.ensures in
    ap (λ (u : ℕ). Ok u) n.1 ∙ sym (same_count ps lay room b long within n.0)
