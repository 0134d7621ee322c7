use Rattle.std.proofs.Common.{◌<◌, ◌≤◌, length, get_or, Ok, Err, sym, refl, ap, ◌∙◌, arith, rules}
use Rattle.std.proofs.lemmas.List.{get_or_default}
use Rattle.std.proofs.lemmas.Result.{err_from_is_err_and}
use Rattle.std.proofs.lemmas.Bool.{ltb-true, ltb-false}
use Rattle.racks.specs.declared.faults.RackFault.{RackFault}
use Rattle.racks.proofs.Rules.{take_count}
use Rattle.racks.proofs.Picks.{at_read, count_none, count-there, take_none, take_short, take-refused, take-nothing, take-oldest, oldest-within, total_kept}
use Rattle.racks.proofs.store.StoreRack.take.Goals as goal

pub returns-in_err-holds : goal.returns-in_err-holds
returns-in_err-holds g c =
    let s = c.args.self.now in
    let q = g.S.Slots in
    let ps = s.places.now in
    let lay = q.lay s.slots.now in
    let room = q.room s.slots.now in
    let b = c.args.bin in
    let p = err_from_is_err_and c.from_residual.result c.from_residual.ensures.1 in
    let n = count_none lay b _ c.in_err-holds.ensures in
    let e = take_none ps lay room b n.0 in
    rw (p.1, p.2) (record {
      answer = ap (λ (f : RackFault). Err f) n.1 ∙ sym (ap (λ w. w.0) e);
      next = sym (ap (λ w. w.1) e);
      count = refl;
      depth = refl;
      total = refl;
    })

pub returns-then-is_short : goal.returns-then-is_short
returns-then-is_short g c =
    let s = c.args.self.now in
    let q = g.S.Slots in
    let ps = s.places.now in
    let lay = q.lay s.slots.now in
    let room = q.room s.slots.now in
    let b = c.args.bin in
    let short : length ps < room = ltb-true (length ps) room (sym c.if-is_short.ensures.answer) in
    let n = count-there lay b _ c.in_ok-holds.ensures in
    let e = take_short ps lay room b short n.0 in
    record {
      answer = sym (ap (λ w. w.0) e);
      next = sym (ap (λ w. w.1) e);
      count = refl;
      depth = refl;
      total = refl;
    }

pub returns-in_err-place : goal.returns-in_err-place
returns-in_err-place g c =
    let s = c.args.self.now in
    let q = g.S.Slots in
    let ps = s.places.now in
    let lay = q.lay s.slots.now in
    let room = q.room s.slots.now in
    let b = c.args.bin in
    let long : room ≤ length ps = ltb-false (length ps) room (sym c.if-is_short.ensures.answer) in
    let within = c.if-is_short.ensures.within in
    let p = err_from_is_err_and c.from_residual-in_err-place.result c.from_residual-in_err-place.ensures.1 in
    let t = c.free.new.self in
    let h = c.in_err-place.ensures in
    let e = take-refused ps lay room b long within (q.lay t) (q.room t) h.room h.next _ h.answer in
    rw (p.1, p.2) (record {
      answer = sym (ap (λ w. w.0) e);
      next = sym (ap (λ w. w.1) e);
      count = take_count _ _ b _ e;
      depth = h.depth;
      total = total_kept ps ps room (q.room t) (q.total s.slots.now) (q.total t) h.room h.total refl;
    })

pub returns-in_default : goal.returns-in_default
returns-in_default g c =
    let s = c.args.self.now in
    let q = g.S.Slots in
    let ps = s.places.now in
    let lay = q.lay s.slots.now in
    let room = q.room s.slots.now in
    let b = c.args.bin in
    let long : room ≤ length ps = ltb-false (length ps) room (sym c.if-is_short.ensures.answer) in
    let within = c.if-is_short.ensures.within in
    let t = c.free.new.self in
    let h = c.in_ok-place.ensures in
    let e = take-nothing ps lay room b long within (q.lay t) (q.room t) h.room h.next (ap Ok (sym c.in_default.is) ∙ h.answer) in
    record {
      answer = sym (ap (λ w. w.0) e);
      next = sym (ap (λ w. w.1) e);
      count = take_count _ _ b _ e;
      depth = h.depth;
      total = total_kept ps ps room (q.room t) (q.total s.slots.now) (q.total t) h.room h.total refl;
    }

pub bounds-self-place : goal.bounds-self-place
bounds-self-place g c =
    let s = c.args.self.now in
    let q = g.S.Slots in
    let ps = s.places.now in
    let lay = q.lay s.slots.now in
    let room = q.room s.slots.now in
    let b = c.args.bin in
    let long : room ≤ length ps = ltb-false (length ps) room (sym c.if-is_short.ensures.answer) in
    let within = c.if-is_short.ensures.within in
    let h = c.in_ok-place.ensures in
    oldest-within ps lay room b long within c.in-Some.place (ap Ok (sym c.in-Some.is) ∙ h.answer)

pub offset_bounds-self-place : goal.offset_bounds-self-place
offset_bounds-self-place g c =
    let s = c.args.self.now in
    let q = g.S.Slots in
    let ps = s.places.now in
    let lay = q.lay s.slots.now in
    let room = q.room s.slots.now in
    let b = c.args.bin in
    let long : room ≤ length ps = ltb-false (length ps) room (sym c.if-is_short.ensures.answer) in
    let within = c.if-is_short.ensures.within in
    let h = c.in_ok-place.ensures in
    let inside = oldest-within ps lay room b long within c.in-Some.place (ap Ok (sym c.in-Some.is) ∙ h.answer) in
    search (arith, rules, inside, c.well_formed)

pub returns : goal.returns
returns g c =
    let s = c.args.self.now in
    let q = g.S.Slots in
    let ps = s.places.now in
    let lay = q.lay s.slots.now in
    let room = q.room s.slots.now in
    let b = c.args.bin in
    let long : room ≤ length ps = ltb-false (length ps) room (sym c.if-is_short.ensures.answer) in
    let within = c.if-is_short.ensures.within in
    let t = c.free.new.self in
    let h = c.in_ok-place.ensures in
    let j = c.in-Some.place in
    let some = ap Ok (sym c.in-Some.is) ∙ h.answer in
    let x = get_or ps j c.index-self-place.result in
    let load = at_read ps j x (oldest-within ps lay room b long within j some) (get_or_default ps j c.index-self-place.result x (oldest-within ps lay room b long within j some)) in
    let e = take-oldest ps lay room b long within (q.lay t) (q.room t) h.room h.next j x some load in
    record {
      answer = sym (ap (λ w. w.0) e);
      next = sym (ap (λ w. w.1) e);
      count = take_count _ _ b _ e;
      depth = h.depth;
      total = total_kept ps ps room (q.room t) (q.total s.slots.now) (q.total t) h.room h.total refl;
    }
