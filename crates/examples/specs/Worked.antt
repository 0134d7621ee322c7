-- The worked examples: what the rules give, beside what is due. The rules are the definitions that the contracts of the crates use.
use Rattle.std.specs.Prelude.{◌≡◌, ℕ, List, [], ◌∷◌, map, Ok, Err, Result}
use Rattle.book.specs.declared.faults.BookFault.{BookFault}
use Rattle.book.specs.declared.setup.Class.{Class}
use Rattle.book.specs.declared.rows.Booking.{Booking}
use Rattle.book.specs.declared.ledger.Note.{Note}
use Rattle.book.specs.Faults.{number_of, values_of}
use Rattle.placers.specs.declared.faults.PlacerFault.{PlacerFault}
use Rattle.placers.specs.declared.terms.Terms.{Terms}
use Rattle.placers.specs.declared.terms.Ask.{Ask}
use Rattle.placers.specs.Faults as placer
use Rattle.placers.specs.Placers.{answer_of, Rules}
use Rattle.placers.specs.Timed.{time_rules}
use Rattle.placers.specs.Counted.{count_rules}
use Rattle.placers.specs.Sequences.{record_after}
use Rattle.book.specs.Ticks.{bins_answer}
use Rattle.book.specs.Told.{told}
use Rattle.book.specs.Books.{BookState, new_book, hold_of}

-- What a call came to: bins, a hold, a cycle, or a refusal with its number and values.
pub data Outcome : Type 0 where
  bins : ℕ → Outcome
  held : Outcome
  cycle : ℕ → Outcome
  refused : ℕ → List ℕ → Outcome

abbrev pub bins_came : Result ℕ BookFault → Outcome
bins_came (Ok n) = bins n
bins_came (Err f) = refused (number_of f) (values_of f)

abbrev pub hold_came : Result Note BookFault → Outcome
hold_came (Ok n) = held
hold_came (Err f) = refused (number_of f) (values_of f)

abbrev pub cycle_came : Result ℕ PlacerFault → Outcome
cycle_came (Ok q) = cycle q
cycle_came (Err f) = refused (placer.number_of f) (placer.values_of f)

pub record Example : Type 0 where
  pub came : Outcome
  pub due : Outcome

-- Bins for a cycle of 4,000 ticks.
abbrev pub no_delay_needs_two_bins : Example
no_delay_needs_two_bins = record { came = bins_came (bins_answer 0 4000 0); due = bins 2 }

abbrev pub a_delay_of_one_cycle_needs_three : Example
a_delay_of_one_cycle_needs_three = record { came = bins_came (bins_answer 4000 4000 0); due = bins 3 }

abbrev pub one_tick_more_needs_four : Example
one_tick_more_needs_four = record { came = bins_came (bins_answer 4001 4000 0); due = bins 4 }

abbrev pub phase_and_delay_of_one_cycle_need_three : Example
phase_and_delay_of_one_cycle_need_three = record { came = bins_came (bins_answer 1 4000 3999); due = bins 3 }

-- Admission to an empty book with classes of 4,000 and 16,000 ticks and a dead time of 100.
abbrev pub class_of : ℕ → Class
class_of ticks = record { cycle = ticks; bins = 2 }

abbrev pub two_classes : BookState
two_classes = new_book (told 0 0 100 (class_of 4000 ∷ class_of 16000 ∷ []) (0 ∷ []))

abbrev pub booking : (class quota : ℕ) → Booking
booking class quota = record { input = 0; class = class; longest = 64; quota = quota }

abbrev pub a_quota_fills_the_fast_cycle : Example
a_quota_fills_the_fast_cycle = record { came = hold_came (hold_of two_classes 0 (booking 0 2358)).0; due = held }

abbrev pub one_octet_more_passes_it : Example
one_octet_more_passes_it = record { came = hold_came (hold_of two_classes 0 (booking 0 2359)).0; due = refused 8 (0 ∷ 1 ∷ []) }

abbrev pub fast_full : BookState
fast_full = (hold_of two_classes 0 (booking 0 2358)).1

abbrev pub the_slow_class_has_the_rest : Example
the_slow_class_has_the_rest = record { came = hold_came (hold_of fast_full 1 (booking 1 4926)).0; due = held }

abbrev pub the_slow_class_counts_the_fast : Example
the_slow_class_counts_the_fast = record { came = hold_came (hold_of fast_full 1 (booking 1 4927)).0; due = refused 8 (1 ∷ 1 ∷ []) }

-- What a frame gets after others of its stream, newest first, from a new record.
abbrev pub placed_came : {Record : Type 0} → Rules Record → Terms → List Ask → Ask → Outcome
placed_came m t before a = cycle_came (answer_of (m.rule t (record_after m t before) a))

-- A cycle of 4,000 ticks with no phase and no delay.
abbrev pub plain_terms : (bins : ℕ) → Terms
plain_terms n = record { cycle = 4000; phase = 0; delay = 0; bins = n }

abbrev pub frame_at : (tick octets : ℕ) → Ask
frame_at tick octets = record { clock = tick; stamp = tick; octets = octets; quota = 1000 }

-- By time, 120 octets.
abbrev pub time_came : (stamp : ℕ) → Outcome
time_came stamp = placed_came time_rules (plain_terms 2) [] (frame_at stamp 120)

abbrev pub a_frame_ends_with_its_input_cycle : Example
a_frame_ends_with_its_input_cycle = record { came = time_came 3880; due = cycle 1 }

abbrev pub one_tick_later_it_is_inside_none : Example
one_tick_later_it_is_inside_none = record { came = time_came 3881; due = refused 13 [] }

-- By count, three bins, a quota of 1,000, all at clock 100: after frames of so many octets, newest first, one more.
abbrev pub count_came : List ℕ → (octets : ℕ) → Outcome
count_came before octets = placed_came count_rules (plain_terms 3) (map (frame_at 100) before) (frame_at 100 octets)

abbrev pub a_frame_gets_the_next_cycle : Example
a_frame_gets_the_next_cycle = record { came = count_came [] 600; due = cycle 1 }

abbrev pub with_no_room_there_the_one_after : Example
with_no_room_there_the_one_after = record { came = count_came (600 ∷ []) 600; due = cycle 2 }

abbrev pub the_quota_is_met : Example
the_quota_is_met = record { came = count_came (600 ∷ 600 ∷ []) 400; due = cycle 2 }

abbrev pub the_cycle_with_room_is_out_of_reach : Example
the_cycle_with_room_is_out_of_reach = record { came = count_came (600 ∷ 600 ∷ []) 600; due = refused 14 [] }

abbrev pub table : List Example
table = no_delay_needs_two_bins ∷ a_delay_of_one_cycle_needs_three ∷ one_tick_more_needs_four ∷ phase_and_delay_of_one_cycle_need_three
    ∷ a_quota_fills_the_fast_cycle ∷ one_octet_more_passes_it ∷ the_slow_class_has_the_rest ∷ the_slow_class_counts_the_fast
    ∷ a_frame_ends_with_its_input_cycle ∷ one_tick_later_it_is_inside_none ∷ a_frame_gets_the_next_cycle ∷ with_no_room_there_the_one_after ∷ the_quota_is_met
    ∷ the_cycle_with_room_is_out_of_reach ∷ []

-- Every example came to what is due.
abbrev pub Worked : Type 0
Worked = map (λ (e : Example). e.came) table ≡ map (λ (e : Example). e.due) table
