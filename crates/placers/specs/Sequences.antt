-- A sequence of frames of one stream that keeps its contract, and what any placer makes of it. Lists are newest first.
use Rattle.std.specs.Prelude.{◌≡◌, ℕ, ◌+◌, ◌<◌, ◌≤◌, cond, List, [], ◌∷◌, map, Ok, Result, ◌==◌}
use Rattle.std.specs.List.{AllByRecursion}
use Rattle.book.specs.Ticks.{last_tick}
use Rattle.placers.specs.declared.faults.PlacerFault.{PlacerFault}
use Rattle.placers.specs.declared.terms.Terms.{Terms}
use Rattle.placers.specs.declared.terms.Ask.{Ask}
use Rattle.placers.specs.Terms.{Inside}
use Rattle.placers.specs.Placers.{answer_of, next_of, Rules}

-- R ties the lists place by place, and they are as long.
unfoldable pub Each : {X Y : Type 0} → (X → Y → Type 0) → List X → List Y → Type 0
Each R [] [] = Unit {0}
Each R [] (y ∷ ys) = ⊥
Each R (x ∷ xs) [] = ⊥
Each R (x ∷ xs) (y ∷ ys) = R x y × Each R xs ys

-- The octets of the frames that have that cycle in the list beside them.
unfoldable pub octets_of : List Ask → List ℕ → (cycle : ℕ) → ℕ
octets_of [] qs q = 0
octets_of (a ∷ rest) [] q = 0
octets_of (a ∷ rest) (p ∷ qs) q = cond (p == q) a.octets 0 + octets_of rest qs q

-- A frame of the contract: its lengths, its input cycle i, and its hand-over from its stamp to the longest delay after it.
pub record Kept (t : Terms) (quota : ℕ) (a : Ask) (i : ℕ) : Type 0 where
  pub booked : a.quota ≡ quota
  pub shortest : 84 ≤ a.octets
  pub longest : a.octets ≤ 1542
  pub inside : Inside t i a.stamp a.octets
  pub handed : a.stamp ≤ a.clock
  pub soon : a.clock ≤ a.stamp + t.delay
  pub timely : a.clock ≤ last_tick

-- Neither stamps nor hand-overs go back.
abbrev pub NotBefore : Ask → List Ask → Type 0
NotBefore a [] = Unit {0}
NotBefore a (b ∷ rest) = (b.stamp ≤ a.stamp) × (b.clock ≤ a.clock)

unfoldable pub Onward : List Ask → Type 0
Onward [] = Unit {0}
Onward (a ∷ rest) = NotBefore a rest × Onward rest

-- The contract of a stream: the frames, with the input cycle of each, and no input cycle brings more than the quota.
pub record Contract (t : Terms) (quota : ℕ) (frames : List Ask) (inputs : List ℕ) : Type 0 where
  pub each : Each (Kept t quota) frames inputs
  pub onward : Onward frames
  pub most : (i : ℕ) → octets_of frames inputs i ≤ quota

module _ {Record : Type 0} (m : Rules Record) (t : Terms) where
  -- The record after the frames, from a new one, and what each frame was answered.
  unfoldable pub record_after : List Ask → Record
  record_after [] = m.fresh t
  record_after (a ∷ rest) = next_of (record_after rest) (m.rule t (record_after rest) a)

  unfoldable pub answers : List Ask → List (Result ℕ PlacerFault)
  answers [] = []
  answers (a ∷ rest) = answer_of (m.rule t (record_after rest) a) ∷ answers rest

-- Cycles never go down.
unfoldable pub Rising : List ℕ → Type 0
Rising [] = Unit {0}
Rising (q ∷ qs) = AllByRecursion (λ p. p ≤ q) qs × Rising qs

-- A frame of input cycle i goes from the cycle after i on, at most h after it.
pub record Near (h q i : ℕ) : Type 0 where
  pub later : i < q
  pub early : q ≤ i + h

-- Every frame is accepted, into a cycle near its input cycle; cycles never go down, and none gets more than the quota.
pub record Passed {Record : Type 0} (m : Rules Record) (t : Terms) (quota h : ℕ) (frames : List Ask) (inputs : List ℕ) : Type 0 where
  pub cycles : List ℕ
  pub accepted : answers m t frames ≡ map (λ (q : ℕ). Ok q) cycles
  pub near : Each (Near h) cycles inputs
  pub rising : Rising cycles
  pub most : (q : ℕ) → octets_of frames cycles q ≤ quota

-- So it is for every stream that keeps its contract.
abbrev pub Passes : {Record : Type 0} → Rules Record → Terms → (h : ℕ) → Type 0
Passes m t h = (quota : ℕ) (frames : List Ask) (inputs : List ℕ) → Contract t quota frames inputs → Passed m t quota h frames inputs
