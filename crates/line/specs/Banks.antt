-- Modules of any kind, told by their number: what each means, and its state.
use Rattle.std.specs.Prelude.{◌≡◌, ℕ, zero, suc, List, [], ◌∷◌, ◌≢◌}
use Rattle.book.specs.Told.{SetNumbers, told}
use Rattle.book.specs.Books.{BookState}
use Rattle.placers.specs.declared.table.Latest.{Latest}
use Rattle.placers.specs.Placers.{Rules, Duties}
use Rattle.placers.specs.Latest.{unused}
use Rattle.placers.specs.Timed.{time_rules}
use Rattle.placers.specs.Keeping.Times.{time-duties}
use Rattle.schedule.specs.Wires.{Loads}
use Rattle.schedule.specs.Modules.{State}
use Rattle.schedule.specs.Histories.{Call, next_of}

-- What a kind of module means: its loads, and its placer with the duties that it keeps.
pub record Meaning : Type 1 where
  pub Load : Type 0
  pub Record : Type 0
  pub loads : Loads Load
  pub rules : Rules Record
  pub duties : Duties rules

-- The state of each module of a bank.
abbrev pub States : (ℕ → Meaning) → Type 0
States f = (k : ℕ) → State (f k).Load (f k).Record

-- The module of number 0 ahead of others, whose numbers are one more then.
abbrev pub ahead : Meaning → (ℕ → Meaning) → ℕ → Meaning
ahead m f zero = m
ahead m f (suc k) = f k

abbrev pub state_ahead : (m : Meaning) (f : ℕ → Meaning) → State m.Load m.Record → States f → States (ahead m f)
state_ahead m f a rest zero = a
state_ahead m f a rest (suc k) = rest k

-- A number that no module has stands for one without classes, inputs and rows.
abbrev pub nothing : Meaning
nothing = record {
  Load = Unit {0};
  Record = Latest;
  loads = record { stream_of = λ x. 0; length_of = λ x. 0 };
  rules = time_rules;
  duties = time-duties;
}

abbrev pub no_book : BookState
no_book = record { settings = told 0 0 0 [] []; clock = 0; rows = [] }

abbrev pub no_module : State (Unit {0}) Latest
no_module = record { book = no_book; records = λ s. unused; stamps = λ s. 0; wire = 0; bins = λ b. [] }

-- A module after a call.
abbrev pub called : (f : ℕ → Meaning) (k : ℕ) → State (f k).Load (f k).Record → Call (f k).Load → State (f k).Load (f k).Record
called f k a c = next_of (f k).loads (f k).rules a c

-- What a module was set to, and every call on it since: the settings, the records that its placer came with, and the calls, newest first.
pub record History (m : Meaning) : Type 0 where
  pub told : SetNumbers
  pub begun : ℕ → m.Record
  pub calls : List (Call m.Load)

-- One call more.
abbrev pub and_then : (m : Meaning) → History m → Call m.Load → History m
and_then m h c = record { told = h.told; begun = h.begun; calls = c ∷ h.calls }

-- For each module of a bank, whether it stands after a history.
abbrev pub Standing : (ℕ → Meaning) → Type 1
Standing f = (k : ℕ) → History (f k) → Type 0

abbrev pub stand_ahead : (m : Meaning) (f : ℕ → Meaning) → (History m → Type 0) → Standing f → Standing (ahead m f)
stand_ahead m f first rest zero = first
stand_ahead m f first rest (suc k) = rest k

-- A call on a module: wherever it stood, it is as the rules say after the call, and stands after one call more.
pub record Takes (m : Meaning) (call : Call m.Load) (was is : History m → Type 0) (old new : State m.Load m.Record) : Type 0 where
  pub next : (h : History m) → was h → new ≡ next_of m.loads m.rules old call
  pub onward : (h : History m) → was h → is (and_then m h call)

-- A call on module k of a bank; no other module changes.
pub record Changed (f : ℕ → Meaning) (k : ℕ) (call : Call (f k).Load) (was is : Standing f) (old new : States f) : Type 0 where
  pub here : Takes (f k) call (was k) (is k) (old k) (new k)
  pub others : (j : ℕ) → (j ≢ k) → new j ≡ old j
  pub stay : (j : ℕ) → (j ≢ k) → (h : History (f j)) → was j h → is j h
