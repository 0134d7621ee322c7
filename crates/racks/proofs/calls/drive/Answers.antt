use Rattle.std.proofs.Common.{List, ◌++◌, sym, ap, ◌∙◌}
use Rattle.racks.specs.Bins.{bin_of}
use Rattle.racks.specs.Sequences.{taken_from}
use Rattle.racks.proofs.Order.{one_on, all_made, first-in-first-out}
use Rattle.racks.proofs.calls.drive.Goals as goal

pub loop-call-preserved : goal.loop-call-preserved
loop-call-preserved g c =
    let q = g.R.Rack in
    let inv = c.loop-call.invariant in
    let from = c.loop-call.rack in
    let to = c.step.new.rack in
    let d = q.depth c.args.rack.now in
    let t = q.total c.args.rack.now in (
      one_on d t (q.depth from) (q.total from) (q.bins from) (q.bins to) _ c.args.calls.now c.loop-call.call-index c.call-item.result
          c.loop-call-test.true c.call-item.is inv.1 inv.2 c.step.ensures.next inv.0,
      c.step.ensures.depth ∙ inv.1,
      c.step.ensures.total ∙ inv.2,
    )

pub returns : goal.returns
returns g c =
    let q = g.R.Rack in
    let d = q.depth c.args.rack.now in
    let t = q.total c.args.rack.now in
    let first = q.bins c.args.rack.now in
    let last = q.bins c.loop-call.rack in
    let cs = c.args.calls.now in
    let next = sym (all_made d t last cs c.loop-call.call-index c.loop-call-test.false) ∙ c.loop-call.invariant.0 in
    record {
      next = next;
      order = λ empty bin.
          ap (λ (z : List (List _)). taken_from d t first bin cs ++ bin_of z bin) next ∙ first-in-first-out d t first bin cs empty;
    }
