use Rattle.book.specs.Sets.{numbers_of}
use Rattle.book.proofs.Legality.{settings-legal}
use Rattle.schedule.proofs.Lawful.{laws}
use Rattle.schedule.proofs.Apart.{apart}
use Rattle.schedule.proofs.rooms.room_needed.Goals as goal

pub returns-clause-laws : goal.returns-clause-laws
returns-clause-laws g c =
    let s = c.args.settings.now in
    laws _ g.P.Placer.rules g.P.Placer.duties (numbers_of s) (settings-legal s)

pub returns-clause-apart : goal.returns-clause-apart
returns-clause-apart g c = apart _ g.P.Placer.rules (numbers_of c.args.settings.now)
