-- What each command of a script answers, and what stands after it.
use Rattle.std.specs.Prelude.{ℕ, cond, List, [], ◌∷◌, ◌++◌, length, Some, None, Ok, Err, vec_items, Option, nat_lt}
use Rattle.std.specs.Option.{option_map}
use Rattle.book.specs.declared.faults.BookFault.{BookFault}
use Rattle.book.specs.declared.setup.Class.{Class}
use Rattle.book.specs.Ticks.{bins_answer}
use Rattle.book.specs.Told.{SetNumbers, told, set_fault}
use Rattle.book.specs.Books.{BookState, state_of, new_book}
use Rattle.scripting.specs.declared.answers.Done.TheVariants as done
use Rattle.scripting.specs.declared.answers.Refusal.TheVariants as refusal
use Rattle.scripting.specs.declared.bench.Bench.{Bench}
use Rattle.scripting.specs.declared.script.Command.{Command}
use Rattle.scripting.specs.declared.script.Command.TheVariants as command
use Rattle.scripting.specs.Calls.{Answer, said, call_done, advance_done}
use Rattle.scripting.specs.Notes.{in_hand}

-- The book that is set, and the classes and inputs named for the next.
pub record BenchState : Type 0 where
  pub book : Option BookState
  pub classes : List Class
  pub inputs : List ℕ

abbrev pub bench_of : Bench → BenchState
bench_of b = record { book = option_map state_of b.desk.module; classes = vec_items b.classes; inputs = vec_items b.inputs }

-- No book, and nothing named.
abbrev pub empty_bench : BenchState
empty_bench = record { book = None; classes = []; inputs = [] }

abbrev pub with_book : BenchState → Option BookState → BenchState
with_book s o = record { book = o; classes = s.classes; inputs = s.inputs }

-- What was named is used up.
abbrev pub used_up : BenchState → BenchState
used_up s = with_book empty_bench s.book

-- What is done to the book that is set.
abbrev pub on_book : BenchState → (Option BookState → Answer × Option BookState) → Answer × BenchState
on_book s call = ((call s.book).0, with_book s (call s.book).1)

-- One more, unless so many are named already.
abbrev pub noted : {X : Type 0} → (most : ℕ) → List X → X → List X
noted most xs x = cond (nat_lt (length xs) most) (xs ++ x ∷ []) xs

abbrev pub class_noted : BenchState → Class → Answer × BenchState
class_noted s c = (Ok done.Noted, record { book = s.book; classes = noted 5 s.classes c; inputs = s.inputs })

abbrev pub input_noted : BenchState → (phase : ℕ) → Answer × BenchState
input_noted s p = (Ok done.Noted, record { book = s.book; classes = s.classes; inputs = noted 9 s.inputs p })

-- A set uses up what was named. A refused one leaves the book; another replaces it, and the notes in hand are dropped.
abbrev pub set_by : Option BookFault → SetNumbers → BenchState → Answer × BenchState
set_by (Some f) t s = (Err (refusal.Book f), used_up s)
set_by None t s = (Ok (done.Set (in_hand s.book)), with_book empty_bench (Some (new_book t)))

abbrev pub told_in : BenchState → (delay dead : ℕ) → SetNumbers
told_in s delay dead = told 0 delay dead s.classes s.inputs

unfoldable pub set_of : BenchState → (delay dead : ℕ) → Answer × BenchState
set_of s delay dead = set_by (set_fault (told_in s delay dead)) (told_in s delay dead) s

abbrev pub shown : Option BookState → Answer
shown None = Err refusal.NothingSet
shown (Some b) = Ok done.Shown

-- The answer to a command, and the state after it.
abbrev pub carried_out : BenchState → Command → Answer × BenchState
carried_out s (command.Bins delay cycle phase) = (said done.Bins (bins_answer delay cycle phase), s)
carried_out s (command.AddClass class) = class_noted s class
carried_out s (command.AddInput phase) = input_noted s phase
carried_out s (command.Set delay dead) = set_of s delay dead
carried_out s (command.Call call) = on_book s (λ o. call_done o call)
carried_out s (command.Advance until) = on_book s (λ o. advance_done o until)
carried_out s command.Show = (shown s.book, s)
