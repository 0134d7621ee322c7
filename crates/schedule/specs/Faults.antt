-- Refusals of a port: their numbers, values and layers, and the order in which checks answer.
use Rattle.std.specs.Prelude.{ℕ, Bool, cond, List, [], ◌∷◌, Some, None, Option}
use Rattle.book.specs.Faults as book
use Rattle.placers.specs.Faults as placer
use Rattle.schedule.specs.declared.faults.Layer.{Layer}
use Rattle.schedule.specs.declared.faults.Layer.TheVariants.{Port, Placer}
use Rattle.schedule.specs.declared.faults.PortFault.{PortFault}
use Rattle.schedule.specs.declared.faults.PortFault.TheVariants.{Settings, BadRack, NotThere, NotLive, WrongInput, BadLength, BadStamp, StampBack, Placing, WireTaken, BadUntil, ShortList}

-- The number by which a refusal is known; a fault that was passed on keeps its own.
abbrev pub number_of : PortFault → ℕ
number_of (Settings f) = book.number_of f
number_of BadRack = 4
number_of NotThere = 5
number_of NotLive = 7
number_of WrongInput = 9
number_of BadLength = 10
number_of BadStamp = 11
number_of StampBack = 12
number_of (Placing f) = placer.number_of f
number_of WireTaken = 15
number_of BadUntil = 16
number_of ShortList = 17

-- The placer's refusals are its own, all others are the port's.
abbrev pub layer_of : PortFault → Layer
layer_of (Settings f) = Port
layer_of BadRack = Port
layer_of NotThere = Port
layer_of NotLive = Port
layer_of WrongInput = Port
layer_of BadLength = Port
layer_of BadStamp = Port
layer_of StampBack = Port
layer_of (Placing f) = Placer
layer_of WireTaken = Port
layer_of BadUntil = Port
layer_of ShortList = Port

-- One check of a call: whether it is hit, and the fault that it then answers.
pub record Check : Type 0 where
  pub hit : Bool
  pub fault : PortFault

abbrev pub check : Bool → PortFault → Check
check h f = record { hit = h; fault = f }

-- Checks run in their order, and the first hit is answered.
abbrev pub first_hit : List Check → Option PortFault
first_hit [] = None
first_hit (c ∷ cs) = cond c.hit (Some c.fault) (first_hit cs)
