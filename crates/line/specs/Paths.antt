-- Paths over the modules of a bank: which a line has, and what booking one answers and leaves.
use Rattle.std.specs.Prelude.{◌≡◌, ℕ, ◌<◌, ◌≤◌, Bool, false, not, List, length, Some, None, Ok, Err, Option, Result, ◌==◌, ◌≢◌, slice_index_or}
use Rattle.book.specs.declared.faults.BookFault.{BookFault}
use Rattle.book.specs.declared.rows.Booking.{Booking}
use Rattle.book.specs.declared.rows.Row.TheVariants.{Live}
use Rattle.book.specs.declared.setup.Class.{Class}
use Rattle.book.specs.Sets.{class_at}
use Rattle.book.specs.Books.{row_of, note_of, hold_of}
use Rattle.schedule.specs.Modules.{State}
use Rattle.schedule.specs.Histories.{Hold, Confirm, DropHold}
use Rattle.line.specs.declared.legs.Leg.{Leg}
use Rattle.line.specs.declared.legs.Request.{Request}
use Rattle.line.specs.declared.faults.LineFault.{LineFault}
use Rattle.line.specs.declared.faults.LineFault.TheVariants.{NoPath, AtLeg}
use Rattle.line.specs.declared.banks.Bank.{Ghosts}
use Rattle.line.specs.Banks.{Meaning, History, and_then, called}

abbrev pub leg_at : List Leg → ℕ → Leg
leg_at legs i = slice_index_or legs i (record { number = 0; input = 0; class = 0 })

-- What a path books at a leg: the same longest frame and quota at each.
abbrev pub booking_at : Request → Leg → Booking
booking_at r l = record { input = l.input; class = l.class; longest = r.longest; quota = r.quota }

-- Two cycle times that are there and differ.
abbrev pub differ : Option Class → Option Class → Bool
differ None o = false
differ (Some a) None = false
differ (Some a) (Some b) = not (a.cycle == b.cycle)

-- Each module is there, of so many, and none comes twice.
pub record Sound (size : ℕ) (legs : List Leg) : Type 0 where
  pub there : (i : ℕ) → i < length legs → (leg_at legs i).number < size
  pub apart : (i j : ℕ) → i < j → j < length legs → (leg_at legs i).number ≢ (leg_at legs j).number

-- No leg names the module.
abbrev pub Unnamed : List Leg → ℕ → Type 0
Unnamed legs k = (i : ℕ) → i < length legs → (leg_at legs i).number ≢ k

module _ (f : ℕ → Meaning) where
  -- The state of a module.
  abbrev pub At : ℕ → Type 0
  At k = State (f k).Load (f k).Record

  -- A module after the path was booked there: a hold, and the confirm of its note.
  abbrev pub booked : (k stream : ℕ) → Booking → At k → At k
  booked k stream b a = called f k (called f k a (Hold stream b)) (Confirm (note_of a.book stream))

  -- What a path adds to the history of a leg's module: a hold and the confirm of its note, or a hold and its drop, or a hold alone.
  abbrev pub confirmed_in : (k stream : ℕ) → Booking → At k → History (f k) → History (f k)
  confirmed_in k stream b a h = and_then (f k) (and_then (f k) h (Hold stream b)) (Confirm (note_of a.book stream))

  abbrev pub dropped_in : (k stream : ℕ) → Booking → At k → History (f k) → History (f k)
  dropped_in k stream b a h = and_then (f k) (and_then (f k) h (Hold stream b)) (DropHold (note_of a.book stream))

  abbrev pub refused_in : (k stream : ℕ) → Booking → History (f k) → History (f k)
  refused_in k stream b h = and_then (f k) h (Hold stream b)

module _ {B : Type 0} (g : Ghosts B) where
  -- The class that a leg names, if its module has it.
  abbrev pub class_on : B → Leg → Option Class
  class_on bank l = class_at (g.states bank l.number).book.settings l.class

  -- A leg may come after these: its module is there and none of theirs, and its cycle time differs from none of theirs.
  pub record Follows (bank : B) (before : List Leg) (l : Leg) : Type 0 where
    pub there : l.number < g.size
    pub apart : (i : ℕ) → i < length before → (leg_at before i).number ≢ l.number
    pub alike : (i : ℕ) → i < length before → differ (class_on bank (leg_at before i)) (class_on bank l) ≡ false

  -- A path that the line has: 1 to 16 legs, each module there and none twice, and one cycle time wherever the class exists.
  pub record Travels (bank : B) (legs : List Leg) : Type 0 where
    pub some : 1 ≤ length legs
    pub few : length legs ≤ 16
    pub sound : Sound g.size legs
    pub alike : (i j : ℕ) → i < j → j < length legs → differ (class_on bank (leg_at legs i)) (class_on bank (leg_at legs j)) ≡ false

  -- The bank before and after.
  module _ (old new : B) where
    -- Wherever the module stood, it stands after so much more.
    abbrev pub Onward : (k : ℕ) → (History (g.meanings k) → History (g.meanings k)) → Type 0
    Onward k more = (h : History (g.meanings k)) → g.stands old k h → g.stands new k (more h)

    -- No call was made on the module.
    pub record Untouched (k : ℕ) : Type 0 where
      pub same : g.states new k ≡ g.states old k
      pub stay : Onward k (λ h. h)

    module _ (r : Request) where
      -- A leg is booked. Its book took the hold; wherever its module stood, it is as after the hold and the confirm, the row live
      -- with that booking, and stands after these two calls more.
      pub record LegBooked (l : Leg) : Type 0 where
        pub took : (hold_of (g.states old l.number).book r.stream (booking_at r l)).0 ≡ Ok (note_of (g.states old l.number).book r.stream)
        pub on : (h : History (g.meanings l.number)) → g.stands old l.number h
            → g.states new l.number ≡ booked g.meanings l.number r.stream (booking_at r l) (g.states old l.number)
        pub live : (h : History (g.meanings l.number)) → g.stands old l.number h → row_of (g.states new l.number).book r.stream ≡ Live (booking_at r l)
        pub onward : Onward l.number (confirmed_in g.meanings l.number r.stream (booking_at r l) (g.states old l.number))

      module _ (legs : List Leg) where
        -- The legs are booked, and every module that no leg names is as before.
        pub record Booked : Type 0 where
          pub legs_booked : (i : ℕ) → i < length legs → LegBooked (leg_at legs i)
          pub off : (k : ℕ) → Unnamed legs k → Untouched k

        -- Refused by leg `p`: every module, wherever it stood, is as before, and that leg's book, as before the call, refuses that hold
        -- with that fault. The legs before it stand after their hold and its drop more, it stands after its hold, and the others as before.
        pub record RefusedAt (p : ℕ) (fault : BookFault) : Type 0 where
          pub same : (k : ℕ) (h : History (g.meanings k)) → g.stands old k h → g.states new k ≡ g.states old k
          pub below : p < length legs
          pub says : (hold_of (g.states old (leg_at legs p).number).book r.stream (booking_at r (leg_at legs p))).0 ≡ Err fault
          pub undone : (i : ℕ) → i < p
              → Onward (leg_at legs i).number (dropped_in g.meanings (leg_at legs i).number r.stream (booking_at r (leg_at legs i)) (g.states old (leg_at legs i).number))
          pub tried : Onward (leg_at legs p).number (refused_in g.meanings (leg_at legs p).number r.stream (booking_at r (leg_at legs p)))
          pub untried : (i : ℕ) → p < i → i < length legs → Onward (leg_at legs i).number (λ h. h)
          pub off : (k : ℕ) → Unnamed legs k → Untouched k

  -- What booking a path answers, and what the modules are then.
  abbrev pub PathAnswer : (old new : B) (r : Request) (legs : List Leg) → Result (Unit {0}) LineFault → Type 0
  PathAnswer old new r legs (Ok u) = Travels old legs × Booked old new r legs
  PathAnswer old new r legs (Err NoPath) = (Travels old legs → ⊥) × ((k : ℕ) → Untouched old new k)
  PathAnswer old new r legs (Err (AtLeg e)) = Travels old legs × RefusedAt old new r legs e.place e.fault
