use Rattle.std.proofs.Common.{◌≡◌, ℕ, ◌<◌, length, ap, subst, arith}
use Rattle.book.specs.Told.{class_count}
use Rattle.book.specs.Sets.{numbers_of}
use Rattle.racks.specs.Bins.{bin_of}
use Rattle.port.specs.declared.wires.Turn.{Turn}
use Rattle.port.proofs.Turning.{lowest_start, lowest-more}
use Rattle.port.proofs.wires.Moment.first_waiting.Goals as goal

pub loop-class-init : goal.loop-class-init
loop-class-init g c = lowest_start _

pub loop-class-preserved : goal.loop-class-preserved
loop-class-preserved g c =
    let bs = g.R.Rack.bins c.args.rack.now in
    let there : c.loop-class.class < class_count (numbers_of c.args.self.now.settings.now) = omega (arith, c.class_count-class-end.ensures) in
    let bin = ap (λ (t : Turn). t.bin) (c.turn-turn.ensures there) in
    let empty : length (bin_of bs c.turn-turn.result.bin) ≡ 0 = omega (arith, c.loads_in.ensures) in
    lowest-more _ c.loop-class.class c.loop-class.invariant (subst (λ (b : ℕ). length (bin_of bs b) ≡ 0) bin empty)
