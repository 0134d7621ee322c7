-- The worked examples of the book and the placers, with those of a module: what the rules give, beside what is due. The rules are
-- the definitions that the contracts of the crates use.
use Rattle.std.specs.Prelude.{◌≡◌, ℕ, List, [], ◌∷◌, ◌++◌, map, Ok, Err}
use Rattle.book.specs.declared.ledger.Note.{Note}
use Rattle.book.specs.Faults.{number_of, values_of}
use Rattle.book.specs.Told.{SetNumbers, told}
use Rattle.placers.specs.Counted.{count_rules}
use Rattle.placers.specs.Latest.{unused}
use Rattle.loads.specs.declared.marks.Mark.{Mark}
use Rattle.schedule.specs.declared.departures.Departure.{Departure}
use Rattle.schedule.specs.Faults as port
use Rattle.schedule.specs.Wires.{Loads}
use Rattle.schedule.specs.Histories as histories
use Rattle.schedule.specs.Histories.{Call, Hold, Confirm, Frame, Filler, Run, Answer, spent, released, placed, filled, ran, answer}
use Rattle.examples.specs.Worked as alone

-- The class, the cycle and the start of a departure.
pub record Left : Type 0 where
  pub class : ℕ
  pub cycle : ℕ
  pub start : ℕ

abbrev pub leaving : (class cycle start : ℕ) → Left
leaving c q t = record { class = c; cycle = q; start = t }

-- What a call came to: what a book or a placer alone may answer, a wire taken, or departures.
pub data Outcome : Type 0 where
  plain : alone.Outcome → Outcome
  taken : Outcome
  sent : List Left → Outcome

abbrev pub held : Outcome
held = plain alone.held

abbrev pub cycle : ℕ → Outcome
cycle q = plain (alone.cycle q)

abbrev pub refused : ℕ → List ℕ → Outcome
refused n vs = plain (alone.refused n vs)

pub record Example : Type 0 where
  pub came : Outcome
  pub due : Outcome

-- An example of the book or a placer.
abbrev pub plainly : alone.Example → Example
plainly e = record { came = plain e.came; due = plain e.due }

-- Modules. Streams 5 and 6 are live in classes of 2,000 and 4,000 ticks with a dead time of 100, on inputs 0 and 1; frames are
-- placed by count. The newest call comes first.
abbrev pub module_told : SetNumbers
module_told = told 7 0 100 (record { cycle = 2000; bins = 2 } ∷ record { cycle = 4000; bins = 2 } ∷ []) (0 ∷ 0 ∷ [])

abbrev pub mark_loads : Loads Mark
mark_loads = record { stream_of = λ x. x.stream; length_of = λ x. x.length }

abbrev pub mark : (stream length : ℕ) → Mark
mark s n = record { stream = s; length = n; buffer = 0 }

abbrev pub note_for : (stream : ℕ) → Note
note_for s = record { number = 7; stream = s }

abbrev pub bookings : List (Call Mark)
bookings = Confirm (note_for 6) ∷ Confirm (note_for 5) ∷ Hold 6 (record { input = 1; class = 1; longest = 200; quota = 220 })
    ∷ Hold 5 (record { input = 0; class = 0; longest = 100; quota = 120 }) ∷ []

abbrev pub left_by : Departure Mark → Left
left_by d = leaving d.class d.cycle d.start

abbrev pub answer_came : Answer Mark → Outcome
answer_came (histories.held r) = plain (alone.hold_came r)
answer_came (spent (Ok u)) = held
answer_came (spent (Err (f, n))) = refused (number_of f) (values_of f)
answer_came (released (Ok q)) = cycle q
answer_came (released (Err f)) = refused (number_of f) (values_of f)
answer_came (placed (Ok q)) = cycle q
answer_came (placed (Err f)) = refused (port.number_of f) []
answer_came (filled (Ok u)) = taken
answer_came (filled (Err f)) = refused (port.number_of f) []
answer_came (ran (Ok ds)) = sent (map left_by ds)
answer_came (ran (Err f)) = refused (port.number_of f) []

-- What the last call of a history came to, after the bookings.
abbrev pub module_came : List (Call Mark) → Call Mark → Outcome
module_came h c = answer_came (answer mark_loads count_rules module_told (λ s. unused) (h ++ bookings) c)

abbrev pub frame_of_5 : (stamp : ℕ) → Call Mark
frame_of_5 stamp = Frame 0 stamp (mark 5 100)

abbrev pub frame_of_6 : (stamp : ℕ) → Call Mark
frame_of_6 stamp = Frame 1 stamp (mark 6 200)

-- A cycle's last tick, and the first of the next.
abbrev pub the_last_tick_is_of_its_cycle : Example
the_last_tick_is_of_its_cycle = record { came = module_came (Run 1999 99 ∷ []) (frame_of_5 1999); due = cycle 1 }

abbrev pub the_first_tick_is_of_the_next : Example
the_first_tick_is_of_the_next = record { came = module_came (Run 2000 99 ∷ []) (frame_of_5 2000); due = cycle 2 }

-- The wire becomes free as a cycle starts, and a tick after it.
abbrev pub a_free_wire_sends_at_the_start : Example
a_free_wire_sends_at_the_start = record { came = module_came (Filler 64 ∷ Run 1916 99 ∷ frame_of_5 0 ∷ []) (Run 2001 99); due = sent (leaving 0 1 2000 ∷ []) }

abbrev pub a_taken_wire_waits_aTick : Example
a_taken_wire_waits_aTick = record { came = module_came (Filler 64 ∷ Run 1917 99 ∷ frame_of_5 0 ∷ []) (Run 2002 99); due = sent (leaving 0 1 2001 ∷ []) }

abbrev pub the_tick_until_is_not_played : Example
the_tick_until_is_not_played = record { came = module_came (frame_of_5 0 ∷ []) (Run 2000 99); due = sent [] }

-- The longest filler one tick before a cycle.
abbrev pub a_filler_holds_the_cycle_up : Example
a_filler_holds_the_cycle_up = record { came = module_came (Filler 1522 ∷ Run 1999 99 ∷ frame_of_5 0 ∷ []) (Run 3542 99); due = sent (leaving 0 1 3541 ∷ []) }

-- In the cycle itself it is refused as long as the load waits.
abbrev pub a_filler_yields_to_aLoad : Example
a_filler_yields_to_aLoad = record { came = module_came (Run 2000 99 ∷ frame_of_5 0 ∷ []) (Filler 64); due = refused 15 [] }

-- The faster class goes first, whichever was handed over first.
abbrev pub the_faster_class_goes_first : Example
the_faster_class_goes_first = record {
  came = module_came (frame_of_5 2000 ∷ Run 2000 99 ∷ frame_of_6 0 ∷ []) (Run 4121 99);
  due = sent (leaving 0 2 4000 ∷ leaving 1 1 4120 ∷ []);
}

-- The first rule broken is named where two are.
abbrev pub absent_before_not_live : Example
absent_before_not_live = record { came = module_came [] (Frame 2 0 (mark 9 100)); due = refused 5 [] }

abbrev pub not_live_before_input : Example
not_live_before_input = record { came = module_came [] (Frame 1 0 (mark 9 10)); due = refused 7 [] }

abbrev pub input_before_length : Example
input_before_length = record { came = module_came [] (Frame 1 0 (mark 5 101)); due = refused 9 [] }

abbrev pub length_before_stamp : Example
length_before_stamp = record { came = module_came [] (Frame 0 1 (mark 5 101)); due = refused 10 [] }

abbrev pub stamp_before_order : Example
stamp_before_order = record { came = module_came (Run 20 9 ∷ frame_of_5 0 ∷ []) (frame_of_5 19); due = refused 11 [] }

abbrev pub filler_length_before_wire : Example
filler_length_before_wire = record { came = module_came (Filler 64 ∷ []) (Filler 63); due = refused 10 [] }

abbrev pub until_before_places : Example
until_before_places = record { came = module_came (Run 20 9 ∷ []) (Run 19 0); due = refused 16 [] }

-- 84 ticks may bring two departures.
abbrev pub two_may_come : Example
two_may_come = record { came = module_came [] (Run 84 1); due = refused 17 [] }

abbrev pub two_places_do : Example
two_places_do = record { came = module_came [] (Run 84 2); due = sent [] }

abbrev pub table : List Example
table = map plainly alone.table ++ (the_last_tick_is_of_its_cycle ∷ the_first_tick_is_of_the_next ∷ a_free_wire_sends_at_the_start ∷ a_taken_wire_waits_aTick
    ∷ the_tick_until_is_not_played ∷ a_filler_holds_the_cycle_up ∷ a_filler_yields_to_aLoad ∷ the_faster_class_goes_first ∷ absent_before_not_live ∷ not_live_before_input
    ∷ input_before_length ∷ length_before_stamp ∷ stamp_before_order ∷ filler_length_before_wire ∷ until_before_places ∷ two_may_come ∷ two_places_do ∷ [])

-- Every example came to what is due.
abbrev pub Worked : Type 0
Worked = map (λ (e : Example). e.came) table ≡ map (λ (e : Example). e.due) table
