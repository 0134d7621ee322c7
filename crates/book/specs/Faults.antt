-- Refusals: their numbers and values, and the order in which checks answer.
use Rattle.std.specs.Prelude.{ℕ, Bool, cond, List, [], ◌∷◌, Some, None, Ok, Err, Option, Result}
use Rattle.book.specs.declared.faults.BookFault.{BookFault}
use Rattle.book.specs.declared.faults.BookFault.TheVariants.{NotInNumber, OutOfLimits, TooFewBins, NotThere, BadLengths, WrongState, Over, BadUntil}

-- The number by which a refusal is known.
abbrev pub number_of : BookFault → ℕ
number_of NotInNumber = 1
number_of OutOfLimits = 2
number_of TooFewBins = 3
number_of NotThere = 5
number_of BadLengths = 6
number_of WrongState = 7
number_of (Over class ticks) = 8
number_of BadUntil = 16

-- The values that come with it: the class and the ticks over.
abbrev pub values_of : BookFault → List ℕ
values_of NotInNumber = []
values_of OutOfLimits = []
values_of TooFewBins = []
values_of NotThere = []
values_of BadLengths = []
values_of WrongState = []
values_of (Over class ticks) = class ∷ ticks ∷ []
values_of BadUntil = []

-- One check of a call: whether it is hit, and the fault that it then answers.
pub record Check : Type 0 where
  pub hit : Bool
  pub fault : BookFault

-- Checks run in their order, and the first hit is answered.
abbrev pub first_hit : List Check → Option BookFault
first_hit [] = None
first_hit (c ∷ cs) = cond c.hit (Some c.fault) (first_hit cs)

abbrev pub check : Bool → BookFault → Check
check h f = record { hit = h; fault = f }

-- The first answer, or else the second.
abbrev pub or_else : Option BookFault → Option BookFault → Option BookFault
or_else (Some f) o = Some f
or_else None o = o

-- The fault that was found, or nothing; and a value, or the fault for want of one.
abbrev pub unless : Option BookFault → Result (Unit {0}) BookFault
unless (Some f) = Err f
unless None = Ok tt

abbrev pub or_fault : {X : Type 0} → Option X → BookFault → Result X BookFault
or_fault (Some x) f = Ok x
or_fault None f = Err f
