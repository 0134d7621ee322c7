use Rattle.std.proofs.Common.{List, ℕ, replicate, set, sym, ap, ◌∙◌}
use Rattle.std.proofs.lemmas.List.{map-set, set-get_or}
use Rattle.racks.specs.declared.chains.Chain.{Chain}
use Rattle.racks.proofs.Ringed.{get_or-zeros}
use Rattle.racks.proofs.cells.all_free.Goals as goal

abbrev none : List Chain
none = replicate 33 (record { first = 0; last = 0; count = 0 })

abbrev zeros : List ℕ
zeros = replicate 33 0

pub returns-clause-firsts : goal.returns-clause-firsts
returns-clause-firsts c =
    let b = c.args.bins in
    map-set (λ (z : Chain). z.first) none b _ ∙ ap (λ (z : ℕ). set zeros b z) (sym (get_or-zeros 33 b)) ∙ set-get_or zeros b 0

pub returns-clause-lasts : goal.returns-clause-lasts
returns-clause-lasts c = map-set (λ (z : Chain). z.last) none c.args.bins _ ∙ ap (λ (z : ℕ). set zeros c.args.bins z) c.saturating_sub.ensures

pub returns-clause-counts : goal.returns-clause-counts
returns-clause-counts c = map-set (λ (z : Chain). z.count) none c.args.bins _
