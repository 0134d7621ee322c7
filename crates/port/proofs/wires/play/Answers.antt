use Rattle.std.proofs.Common.{◌≡◌, ℕ, ◌+◌, ◌<◌, ◌≤◌, List, length, take, sym, ap, ◌∙◌, subst, arith, rules}
use native.Mathlib.Nat.{min-le_left, min-le_right, le-min}
use Rattle.std.proofs.lemmas.List.{length-set, length-take-le, take_more_set}
use Rattle.book.specs.Sets.{numbers_of}
use Rattle.book.proofs.Legality.{settings-legal}
use Rattle.racks.specs.Bins.{bin_of}
use Rattle.schedule.specs.declared.departures.Departure.{Departure}
use Rattle.schedule.specs.Wires.{none, next_out}
use Rattle.port.specs.Standing.{loads_by}
use Rattle.port.proofs.Runs.{same-room, Goes, goes-wait, goes-quiet, goes-send, goes_end, goes-full, one_written}
use Rattle.port.proofs.wires.play.Goals as goal

pub loop-wire-preserved-then-wire : goal.loop-wire-preserved-then-wire
loop-wire-preserved-then-wire g c =
    let inv = c.loop-wire.invariant in
    let to = c.min.ensures in
    let on : c.loop-wire.wire.clock ≤ c.min.result = omega (arith, le-min {k = c.loop-wire.wire.clock} {a = c.loop-wire.wire.free} {b = c.args.until} (omega arith) (omega arith)) in
    let end : c.min.result ≤ c.args.until = omega (arith, min-le_right c.loop-wire.wire.free c.args.until) in
    let taken : c.min.result ≤ c.loop-wire.wire.free = omega (arith, min-le_left c.loop-wire.wire.free c.args.until) in
    (λ long. goes-wait _ _ (settings-legal c.args.settings.now) _ _ _ _ _ _ _ _ (inv.0 long) _ on end taken, inv.1, inv.2, omega arith, end, inv.5)

pub loop-wire-preserved-in-None : goal.loop-wire-preserved-in-None
loop-wire-preserved-in-None g c =
    let inv = c.loop-wire.invariant in
    let h = c.in-None.ensures in
    let loads = loads_by g.R.Item.Load in
    let s = numbers_of c.args.settings.now in
    let same = h.departs.1 in
    let quiet : next_out loads s c.loop-wire.wire.clock (bin_of (g.R.Rack.bins c.depart.new.rack)) ≡ none =
    ap (λ (bs : List (List _)). next_out loads s c.loop-wire.wire.clock (bin_of bs)) same ∙ h.departs.0 in
    let idle = c.quiet_until.ensures in
    let on : c.args.from.clock ≤ c.quiet_until.result = omega (arith, idle.onward, inv.3) in (
      λ long.
          let so = subst (λ (bs : List (List _)). Goes loads s c.args.until c.args.from.clock c.args.from.free (g.R.Rack.bins c.args.rack.now) c.loop-wire.wire.clock c.loop-wire.wire.free bs (take c.loop-wire.count c.loop-wire.list)) (sym same) (inv.0 long) in
          goes-quiet loads s (settings-legal c.args.settings.now) _ _ _ _ _ _ _ _ so _ c.if-wire.false quiet idle,
      inv.1,
      inv.2,
      on,
      idle.within,
      same-room inv.5 h.room,
    )

pub offset_bounds-list-count : goal.offset_bounds-list-count
offset_bounds-list-count g c =
    let k : c.loop-wire.count < length c.args.list.now = omega (arith, c.if-count-list.true, c.loop-wire.auto.list) in
    search rules

pub loop-wire-preserved : goal.loop-wire-preserved
loop-wire-preserved g c =
    let inv = c.loop-wire.invariant in
    let h = c.in-Some.ensures in
    let loads = loads_by g.R.Item.Load in
    let s = numbers_of c.args.settings.now in
    let d = c.in-Some.departure in
    let room = c.if-count-list.true in
    let start : d.start ≡ c.loop-wire.wire.clock = ap (λ (e : Departure _). e.start) h.departs.is in
    let wire = c.wire_after.ensures ∙ ap (λ (t : ℕ). t + (g.R.Item.Load.length_of d.load + 20)) start in
    let written = take_more_set c.loop-wire.list c.loop-wire.count d room in
    let longer = length-set c.loop-wire.list c.loop-wire.count d in (
      λ long.
          subst (λ (ds : List (Departure _)). Goes loads s c.args.until c.args.from.clock c.args.from.free (g.R.Rack.bins c.args.rack.now) c.loop-wire.wire.clock c.wire_after.result (g.R.Rack.bins c.depart.new.rack) ds) (sym written)
          (goes-send loads s (settings-legal c.args.settings.now) _ _ _ _ _ _ _ _ (inv.0 long) d _ h.departs inv.3 c.loop-wire-test.true c.if-wire.false _ wire),
      one_written c.loop-wire.list c.args.list.now c.loop-wire.count d room inv.1,
      omega arith,
      inv.3,
      inv.4,
      same-room inv.5 h.room,
    )

pub returns-else-count-list : goal.returns-else-count-list
returns-else-count-list g c =
    let inv = c.loop-wire.invariant in
    let full : length c.args.list.now ≤ length (take c.loop-wire.count c.loop-wire.list) =
    omega (arith, length-take-le c.loop-wire.count c.loop-wire.list inv.2, c.if-count-list.false, c.loop-wire.auto.list) in
    record {
      played = λ long places. goes-full _ _ (settings-legal c.args.settings.now) _ _ _ _ _ _ _ _ (inv.0 long) (length c.args.list.now) places full inv.4;
      written = inv.2;
      later = inv.1;
      room = inv.5;
    }

pub returns-after-loop-wire : goal.returns-after-loop-wire
returns-after-loop-wire g c =
    let inv = c.loop-wire.invariant in
    record {
      played = λ long places. goes_end _ _ (settings-legal c.args.settings.now) _ _ _ _ _ _ _ _ (inv.0 long) c.loop-wire-test.false inv.4;
      written = inv.2;
      later = inv.1;
      room = inv.5;
    }
