use Rattle.std.proofs.Common.{sym, ap}
use Rattle.line.proofs.Absent.{absent-stream, absent-release, stays-release}
use Rattle.line.proofs.banks.UnitBank.release.Goals as goal

pub returns-then-stream-gt-LAST_STREAM : goal.returns-then-stream-gt-LAST_STREAM
returns-then-stream-gt-LAST_STREAM c =
    let e = absent-stream c.args.stream c.if-stream-gt-LAST_STREAM.true in
    record { answer = sym (ap (λ r. r.0) e); next = stays-release c.args.stream _ c.args._number e }

pub returns-else-stream-gt-LAST_STREAM : goal.returns-else-stream-gt-LAST_STREAM
returns-else-stream-gt-LAST_STREAM c =
    let e = absent-release c.args.stream c.if-stream-gt-LAST_STREAM.false in
    record { answer = sym (ap (λ r. r.0) e); next = stays-release c.args.stream _ c.args._number e }
