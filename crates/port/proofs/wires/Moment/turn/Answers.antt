use Rattle.std.proofs.Common.{ℕ, ◌<◌, ap, ◌∙◌, arith}
use Rattle.book.specs.declared.setup.Class.{Class}
use Rattle.book.specs.Ticks.{cycle_at}
use Rattle.book.specs.Told.{bins_of}
use Rattle.book.specs.Sets.{numbers_of}
use Rattle.book.proofs.Legality.{settings-legal}
use Rattle.schedule.specs.Bins.{bin_of, current_of}
use Rattle.port.proofs.wires.Moment.turn.Goals as goal

pub returns : goal.returns
returns c there =
    let s = numbers_of c.args.self.now.settings.now in
    let k = c.args.class in
    let cycle = c.cycle_at-cycle.ensures ∙ ap (λ (w : Class). cycle_at w.cycle c.args.self.now.tick) c.class.ensures in
    let some : 0 < bins_of s k = omega (arith, (settings-legal c.args.self.now.settings.now).two_bins k there) in
    let bin = c.bin_of-bin.ensures some ∙ ap (bin_of s k) cycle in
    ap (λ (q : ℕ). record { class = k; cycle = q; bin = c.bin_of-bin.result }) cycle
    ∙ ap (λ (b : ℕ). record { class = k; cycle = current_of s c.args.self.now.tick k; bin = b }) bin
