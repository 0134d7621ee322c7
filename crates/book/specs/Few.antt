-- A few items in an array that is longer.
use Rattle.std.specs.Prelude.{ℕ, List, take}
use Rattle.book.specs.declared.setup.few.Few.{Few}

abbrev pub items_of : {X : Type 0} {n : ℕ} → Few X n → List X
items_of f = take f.count f.items
