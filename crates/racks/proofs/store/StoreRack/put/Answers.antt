use Rattle.std.proofs.Common.{◌≡◌, ◌<◌, ◌≤◌, List, length, set, Ok, Err, sym, refl, ap, ◌∙◌}
use Rattle.std.proofs.lemmas.List.{length-set}
use Rattle.std.proofs.lemmas.Result.{err_from_is_err_and}
use Rattle.std.proofs.lemmas.Bool.{ltb-true, ltb-false}
use Rattle.racks.specs.declared.faults.RackFault.{RackFault}
use Rattle.racks.specs.Places.{bins_over, total_over}
use Rattle.racks.proofs.Rules.{put_count}
use Rattle.racks.proofs.Picks.{count_none, count-there, put-none, put-short, put_refused, put-long, total_kept}
use Rattle.racks.proofs.store.StoreRack.put.Goals as goal

pub returns-in_err-holds : goal.returns-in_err-holds
returns-in_err-holds g c =
    let s = c.args.self.now in
    let q = g.S.Slots in
    let ps = s.places.now in
    let lay = q.lay s.slots.now in
    let room = q.room s.slots.now in
    let b = c.args.bin in
    let p = err_from_is_err_and c.from_residual.result c.from_residual.ensures.1 in
    let n = count_none lay b _ c.in_err-holds.ensures in
    let e = put-none ps lay room b (q.depth s.slots.now) (total_over room ps (q.total s.slots.now)) c.args.load n.0 in
    rw (p.1, p.2) (record {
      answer = ap (λ (f : RackFault). Err f) n.1 ∙ sym (ap (λ w. w.0) e);
      next = sym (ap (λ w. w.1) e);
      count = refl;
      depth = refl;
      total = refl;
    })

pub returns-then-is_short : goal.returns-then-is_short
returns-then-is_short g c =
    let s = c.args.self.now in
    let q = g.S.Slots in
    let ps = s.places.now in
    let lay = q.lay s.slots.now in
    let room = q.room s.slots.now in
    let b = c.args.bin in
    let short : length ps < room = ltb-true (length ps) room (sym c.if-is_short.ensures.answer) in
    let n = count-there lay b _ c.in_ok-holds.ensures in
    let e = put-short ps lay room b short (q.depth s.slots.now) (q.total s.slots.now) c.args.load n.0 in
    record {
      answer = sym (ap (λ w. w.0) e);
      next = sym (ap (λ w. w.1) e);
      count = refl;
      depth = refl;
      total = refl;
    }

pub returns-in_err-place : goal.returns-in_err-place
returns-in_err-place g c =
    let s = c.args.self.now in
    let q = g.S.Slots in
    let ps = s.places.now in
    let lay = q.lay s.slots.now in
    let room = q.room s.slots.now in
    let b = c.args.bin in
    let long : room ≤ length ps = ltb-false (length ps) room (sym c.if-is_short.ensures.answer) in
    let within = c.if-is_short.ensures.within in
    let p = err_from_is_err_and c.from_residual-in_err-place.result c.from_residual-in_err-place.ensures.1 in
    let t = c.give.new.self in
    let h = c.in_err-place.ensures in
    let e = put_refused ps lay room b long within (q.depth s.slots.now) (q.total s.slots.now) c.args.load _ (q.lay t) (q.room t) h.room h.given in
    rw (p.1, p.2) (record {
      answer = sym (ap (λ w. w.0) e);
      next = sym (ap (λ w. w.1) e);
      count = put_count _ _ (q.depth s.slots.now) (total_over room ps (q.total s.slots.now)) b c.args.load _ e;
      depth = h.depth;
      total = total_kept ps ps room (q.room t) (q.total s.slots.now) (q.total t) h.room h.total refl;
    })

pub returns : goal.returns
returns g c =
    let s = c.args.self.now in
    let q = g.S.Slots in
    let ps = s.places.now in
    let lay = q.lay s.slots.now in
    let room = q.room s.slots.now in
    let b = c.args.bin in
    let long : room ≤ length ps = ltb-false (length ps) room (sym c.if-is_short.ensures.answer) in
    let within = c.if-is_short.ensures.within in
    let t = c.give.new.self in
    let h = c.in_ok-place.ensures in
    let j = c.in_ok-place.place in
    let x = c.args.load in
    let written : c.write.new.places ≡ set ps j x = c.write.ensures in
    let e = put-long ps lay room b long within (q.depth s.slots.now) (q.total s.slots.now) j x (q.lay t) (q.room t) h.room h.given
    ∙ ap (λ (z : List _). (Ok tt, bins_over (q.room t) z (q.lay t))) (sym written) in
    record {
      answer = sym (ap (λ w. w.0) e);
      next = sym (ap (λ w. w.1) e);
      count = put_count _ _ (q.depth s.slots.now) (total_over room ps (q.total s.slots.now)) b x _ e;
      depth = h.depth;
      total = total_kept ps c.write.new.places room (q.room t) (q.total s.slots.now) (q.total t) h.room h.total (ap length written ∙ length-set ps j x);
    }
