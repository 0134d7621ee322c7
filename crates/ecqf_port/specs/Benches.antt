-- What each command of a script answers, and what stands after it.
use Rattle.std.specs.Prelude.{ℕ, Some, None, Ok, Err, Option, Result}
use Rattle.book.specs.Told.{SetNumbers}
use Rattle.book.specs.Books.{BookState}
use Rattle.racks.specs.declared.faults.RackFault.{RackFault}
use Rattle.scripting.specs.declared.answers.Done.TheVariants.{Noted}
use Rattle.scripting.specs.declared.answers.Refusal.TheVariants.{NothingSet}
use Rattle.scripting.specs.declared.script.Command as script
use Rattle.scripting.specs.declared.script.Command.TheVariants as on
use Rattle.scripting.specs.Calls as calls
use Rattle.scripting.specs.Benches as book
use Rattle.ecqf_port.specs.declared.answers.Done.{Done}
use Rattle.ecqf_port.specs.declared.answers.Done.TheVariants as done
use Rattle.ecqf_port.specs.declared.answers.Refusal.{Refusal}
use Rattle.ecqf_port.specs.declared.answers.Refusal.TheVariants as refusal
use Rattle.ecqf_port.specs.declared.bench.Bench.{Bench}
use Rattle.ecqf_port.specs.declared.script.Command.{Command}
use Rattle.ecqf_port.specs.declared.script.Command.TheVariants as command
use Rattle.ecqf_port.specs.declared.kinds.RackChoice.{RackChoice}
use Rattle.ecqf_port.specs.declared.kinds.PlacerKind.{PlacerKind}
use Rattle.ecqf_port.specs.Kinds.{rack_fault}

abbrev pub Answer : Type 0
Answer = Result Done Refusal

-- The book that is set with what is named for the next set, and the rack and the placer named.
pub record BenchState : Type 0 where
  pub alone : book.BenchState
  pub rack : Option RackChoice
  pub placer : Option PlacerKind

abbrev pub bench_of : Bench → BenchState
bench_of b = record { alone = book.bench_of b.alone; rack = b.rack; placer = b.placer }

-- No book, and nothing named.
abbrev pub empty_bench : BenchState
empty_bench = record { alone = book.empty_bench; rack = None; placer = None }

abbrev pub book_in : BenchState → Option BookState
book_in s = s.alone.book

abbrev pub with_book : BenchState → Option BookState → BenchState
with_book s o = record { alone = book.with_book s.alone o; rack = s.rack; placer = s.placer }

-- What was named is used up.
abbrev pub used_up : BenchState → BenchState
used_up s = with_book empty_bench (book_in s)

-- A rack that cannot be made leaves the one named before.
abbrev pub rack_by : Option RackFault → BenchState → RackChoice → Answer × BenchState
rack_by (Some f) s c = (Err (refusal.Rack f), s)
rack_by None s c = (Ok (done.Book Noted), record { alone = s.alone; rack = Some c; placer = s.placer })

abbrev pub rack_noted : BenchState → RackChoice → Answer × BenchState
rack_noted s c = rack_by (rack_fault c) s c

abbrev pub placer_noted : BenchState → PlacerKind → Answer × BenchState
placer_noted s k = (Ok (done.Book Noted), record { alone = s.alone; rack = s.rack; placer = Some k })

abbrev pub told_in : BenchState → (delay dead : ℕ) → SetNumbers
told_in s delay dead = book.told_in s.alone delay dead

-- What a book alone answers.
abbrev pub said : calls.Answer → Answer
said (Ok d) = Ok (done.Book d)
said (Err f) = Err (refusal.Book f)

abbrev pub alone_done : BenchState → script.Command → Answer × BenchState
alone_done s c = (
  said (book.carried_out s.alone c).0,
  record { alone = (book.carried_out s.alone c).1; rack = s.rack; placer = s.placer },
)

-- A book alone where neither is named; a port takes both a rack and a placer.
abbrev pub set_for : Option RackChoice → Option PlacerKind → BenchState → (delay dead : ℕ) → Answer × BenchState
set_for None None s delay dead = alone_done s (on.Set delay dead)
set_for (Some r) (Some p) s delay dead = (Ok (done.SetPort (record { rack = r; placer = p; delay = delay; dead_time = dead })), s)
set_for (Some r) None s delay dead = (Err refusal.NotUnderstood, s)
set_for None (Some p) s delay dead = (Err refusal.NotUnderstood, s)

abbrev pub set_of : BenchState → (delay dead : ℕ) → Answer × BenchState
set_of s delay dead = set_for s.rack s.placer s delay dead

-- A call that a port alone has.
abbrev pub lacks_port : Option BookState → Answer
lacks_port None = Err (refusal.Book NothingSet)
lacks_port (Some b) = Err refusal.NoPort

-- The answer to a command on a book, and the state after it.
abbrev pub book_done : BenchState → script.Command → Answer × BenchState
book_done s (on.Set delay dead) = set_of s delay dead
book_done s (on.Bins delay cycle phase) = alone_done s (on.Bins delay cycle phase)
book_done s (on.AddClass class) = alone_done s (on.AddClass class)
book_done s (on.AddInput phase) = alone_done s (on.AddInput phase)
book_done s (on.Call call) = alone_done s (on.Call call)
book_done s (on.Advance until) = alone_done s (on.Advance until)
book_done s on.Show = alone_done s on.Show

-- The answer to a command, and the state after it.
abbrev pub carried_out : BenchState → Command → Answer × BenchState
carried_out s (command.Book c) = book_done s c
carried_out s (command.Rack rack) = rack_noted s rack
carried_out s (command.Placer kind) = placer_noted s kind
carried_out s (command.Frame input stamp mark) = (lacks_port (book_in s), s)
carried_out s (command.Filler length) = (lacks_port (book_in s), s)
carried_out s (command.Run until places) = (lacks_port (book_in s), s)
