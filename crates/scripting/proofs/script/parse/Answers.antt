use Rattle.std.proofs.Common.{sym, ◌∙◌}
use Rattle.scripting.proofs.Reading.{silent, spoken}
use Rattle.scripting.proofs.script.parse.Goals as goal

pub returns-then-says_nothing : goal.returns-then-says_nothing
returns-then-says_nothing g c = silent _ _ _ _ c.of-words.ensures c.next-first.ensures.word c.if-says_nothing.ensures

pub returns-in_default : goal.returns-in_default
returns-in_default g c =
    spoken _ _ _ _ _ _ c.of-words.ensures c.next-first.ensures.word c.next-first.ensures.rest c.if-says_nothing.ensures
    (sym c.in_default.is ∙ c.from_line.ensures)

pub returns : goal.returns
returns g c =
    spoken _ _ _ _ _ _ c.of-words.ensures c.next-first.ensures.word c.next-first.ensures.rest c.if-says_nothing.ensures
    (sym c.in-Some.is ∙ c.from_line.ensures)
