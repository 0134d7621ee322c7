use Rattle.std.proofs.Common.{rules, ◌<◌, length, get_or, set, ap, ◌∙◌, arith}
use Rattle.std.proofs.lemmas.Grind.{common_steps}
use Rattle.std.proofs.lemmas.List.{get_or_default}
use Rattle.std.proofs.lemmas.List.Edits.{map_over_more}
use Rattle.book.specs.Sets.{numbers_of}
use Rattle.book.specs.Rows.{settled}
use Rattle.book.specs.declared.rows.Row.{Row}
use Rattle.book.specs.declared.rows.Row.TheVariants.{Free}
use Rattle.book.proofs.rows.start_cycles.Goals as goal

pub loop-row-preserved : goal.loop-row-preserved
loop-row-preserved c =
    let i = c.loop-row.row-index in
    let within : i < length c.loop-row.rows = rw c.loop-row.invariant (search (rules, common_steps)) in
    let row : Row = get_or c.loop-row.rows i Free in
    ap (set c.loop-row.rows i) c.start_cycle.ensures
    ∙ map_over_more (settled (numbers_of c.args.settings.now) c.args.clock) c.args.rows.now c.loop-row.rows i row (omega arith) c.loop-row.invariant (get_or_default c.loop-row.rows i Free row within)
