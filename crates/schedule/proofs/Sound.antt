-- What holds of a module at every tick: what was given, what left and what waits agree, and the wire has been busy enough.
-- It is kept when the clock moves on, when a load is sent, when one is put, and by a filler.
use Rattle.std.proofs.Common.{◌≡◌, ℕ, suc, ◌+◌, ◌*◌, ◌<◌, ◌≤◌, ◌≢◌, ◌⊎◌, List, [], ◌∷◌, ◌++◌, sym, ap, ◌∙◌, subst, subst₂, inl, inr, arith}
use mathlib.Core.Path.{fun_ext}
use native.Mathlib.Decide.{ℕ_discrete}
use Rattle.std.specs.List.{AllByRecursion as All}
use Rattle.std.proofs.lemmas.List.{append_assoc}
use Rattle.std.proofs.ByRecursion.{All-push}
use Rattle.book.specs.Told.{SetNumbers, Legal, class_count, cycle_of, bins_of}
use Rattle.schedule.specs.Bins.{current_of}
use Rattle.schedule.specs.Wires.{Loads, wire_octets}
use Rattle.schedule.specs.Histories.{octets_of}
use Rattle.schedule.proofs.Cycles.{times_in, nested, Same, New, rolls}
use Rattle.schedule.proofs.Busy.{Admitted, Busy, upto-has, within, send-keeps, step_keeps, ends-empty}
use Rattle.schedule.proofs.Octets.{Sized, octets-none}
use Rattle.schedule.proofs.Rings.{Else}

-- A place is that one, or not.
pub here? : (c q d r : ℕ) → ((d ≡ c) × (r ≡ q)) ⊎ ((d ≡ c) × (r ≡ q) → ⊥)
here? c q d r = go (ℕ_discrete d c) (ℕ_discrete r q)
  where
    go : Dec (d ≡ c) → Dec (r ≡ q) → ((d ≡ c) × (r ≡ q)) ⊎ ((d ≡ c) × (r ≡ q) → ⊥)
    go (yes a) (yes b) = inl (a, b)
    go (no a) b = inr (λ p. a p.0)
    go (yes a) (no b) = inr (λ p. b p.1)

-- What holds at one place and at all others holds at each.
pub at_each : (P : ℕ → ℕ → Type 0) (c q : ℕ) → P c q → ((d r : ℕ) → ((d ≡ c) × (r ≡ q) → ⊥) → P d r) → (d r : ℕ) → P d r
at_each P c q h k d r = elim (here? c q d r) [ inl a ↦ subst₂ P (sym a.0) (sym a.1) h | inr a ↦ k d r a ]

module _ {L : Type 0} (loads : Loads L) (s : SetNumbers) where
  -- G was given, O has left and W waits, for each class and cycle; t is the clock, and the wire is free from wire on.
  pub record Sound (t wire : ℕ) (G O W : ℕ → ℕ → List L) : Type 0 where
    pub kept : (c q : ℕ) → G c q ≡ O c q ++ W c q
    pub future : (c q : ℕ) → c < class_count s → current_of s t c < q → O c q ≡ []
    pub emptied : (c q : ℕ) → c < class_count s → q < current_of s t c → W c q ≡ []
    pub far : (c q : ℕ) → c < class_count s → current_of s t c + bins_of s c ≤ q → G c q ≡ []
    pub sized : (c q : ℕ) → All (Sized loads) (W c q)
    pub busy : Busy (cycle_of s) (times_in s) (class_count s) s.dead_time (λ c. octets_of loads (G c (current_of s t c))) (λ c. octets_of loads (W c (current_of s t c))) wire t
    pub short : wire ≤ t + 1542

  module _ (legal : Legal s) (t wire : ℕ) (G O W : ℕ → ℕ → List L) (sound : Sound t wire G O W) (A : ℕ → ℕ)
      (admitted : Admitted (cycle_of s) (times_in s) (class_count s) s.dead_time A)
      (booked : (f : ℕ) → f < class_count s → octets_of loads (G f (current_of s t f)) ≤ A f) where
    T : ℕ → ℕ
    T = cycle_of s

    B : ℕ → ℕ
    B c = octets_of loads (G c (current_of s t c))

    p : ℕ → ℕ
    p c = octets_of loads (W c (current_of s t c))

    -- Nothing is sent, since the wire is taken or nothing waits, and the clock moves on.
    pub advanced : ((f : ℕ) → f < class_count s → W f (current_of s t f) ≡ []) ⊎ (t < wire) → Sound (suc t) wire G O W
    unfolding B p T octets_of
    advanced works = record {
      kept = sound.kept;
      future = λ c q l h. sound.future c q l (omega (arith, rolled c l));
      emptied = λ c q l h. old c q l h (rolled c l) (ℕ_discrete q (current_of s t c));
      far = λ c q l h. sound.far c q l (omega (arith, rolled c l));
      sized = sound.sized;
      busy = step_keeps T (times_in s) (class_count s) (nested s legal) s.dead_time t A B booked admitted B' p p' wire same fresh work sound.busy sound.short;
      short = omega (arith, sound.short);
    }
      where
        rolled : (c : ℕ) → c < class_count s → Same T t c ⊎ New T t c
        rolled c l = rolls T (times_in s) (class_count s) (nested s legal) t c l

        B' : ℕ → ℕ
        B' c = octets_of loads (G c (current_of s (suc t) c))

        p' : ℕ → ℕ
        p' c = octets_of loads (W c (current_of s (suc t) c))

        same : (f : ℕ) → f < class_count s → Same T t f → (B' f ≡ B f) × (p' f ≡ p f)
        same f l e = (ap (λ k. octets_of loads (G f k)) e, ap (λ k. octets_of loads (W f k)) e)

        fresh : (f : ℕ) → f < class_count s → New T t f → p' f ≡ B' f
        fresh f l v =
            let q : ℕ = current_of s (suc t) f in
            let e : O f q ≡ [] = sound.future f q l (omega (arith, v.0)) in
            ap (octets_of loads) (sym (sound.kept f q ∙ ap (λ z. z ++ W f q) e))

        work : ((f : ℕ) → f < class_count s → p f ≡ 0) ⊎ (t < wire)
        work = elim works [ inl q ↦ inl (λ f l. ap (octets_of loads) (q f l)) | inr q ↦ inr q ]

        old : (c q : ℕ) → c < class_count s → q < current_of s (suc t) c → Same T t c ⊎ New T t c → Dec (q ≡ current_of s t c) → W c q ≡ []
        old c q l h (inl e) d = sound.emptied c q l (omega arith)
        old c q l h (inr v) (no d) = sound.emptied c q l (omega arith)
        old c q l h (inr v) (yes d) = ap (W c) d ∙ octets-none loads (W c (current_of s t c)) (sound.sized c (current_of s t c))
            (ends-empty T (times_in s) (class_count s) (nested s legal) s.dead_time t A B booked admitted B' p p' wire same fresh work sound.busy c l v)

    -- Class c, the lowest with a load in its current bin, sends the oldest.
    module _ (c : ℕ) (x : L) (rest : List L) (l : c < class_count s) (first : W c (current_of s t c) ≡ x ∷ rest) where
      fits : All (Sized loads) (x ∷ rest)
      fits = subst (All (Sized loads)) first (sound.sized c (current_of s t c))

      pub fit : Sized loads x
      fit = fits.0

      -- It ends before the dead time of the cycle.
      pub ends : t + wire_octets loads x + s.dead_time ≤ suc (current_of s t c) * cycle_of s c
      unfolding B p T octets_of
      ends =
          let pc : p c ≡ wire_octets loads x + octets_of loads rest = ap (octets_of loads) first in
          let b = sound.busy c l (omega (arith, pc, fit)) in
          omega (arith, b.clocks, pc, within T (times_in s) (class_count s) (nested s legal) s.dead_time t A B booked admitted c l, upto-has p c)

      pub sent : (O' W' : ℕ → ℕ → List L) → ((f : ℕ) → f < c → W f (current_of s t f) ≡ [])
          → O' c (current_of s t c) ≡ O c (current_of s t c) ++ (x ∷ []) → Else c (current_of s t c) O O'
          → W' c (current_of s t c) ≡ rest → Else c (current_of s t c) W W' → Sound t (t + wire_octets loads x) G O' W'
      unfolding B p T octets_of
      sent O' W' before gone others e o = record {
        kept = at_each (λ d q. G d q ≡ O' d q ++ W' d q) c k
            (cc (sound.kept c k, first, e, gone, append_assoc (O c k) (x ∷ []) rest))
            (λ d q a. cc (sound.kept d q, o d q a, others d q a));
        future = λ d q i h. sym (others d q (λ a. omega (arith, ap (current_of s t) a.0))) ∙ sound.future d q i h;
        emptied = λ d q i h. sym (o d q (λ a. omega (arith, ap (current_of s t) a.0))) ∙ sound.emptied d q i h;
        far = sound.far;
        sized = at_each (λ d q. All (Sized loads) (W' d q)) c k (subst (All (Sized loads)) (sym e) fits.1)
            (λ d q a. subst (All (Sized loads)) (o d q a) (sound.sized d q));
        busy = send-keeps T (times_in s) (class_count s) (nested s legal) s.dead_time t A B booked admitted p p' c (wire_octets loads x) wire less elsewhere (λ f i. ap (octets_of loads) (before f i)) sound.busy;
        short = omega (arith, fit);
      }
        where
          k : ℕ
          k = current_of s t c

          p' : ℕ → ℕ
          p' f = octets_of loads (W' f (current_of s t f))

          less : p c ≡ wire_octets loads x + p' c
          less = ap (octets_of loads) first ∙ ap (λ z. wire_octets loads x + octets_of loads z) (sym e)

          elsewhere : (f : ℕ) → f ≢ c → p f ≡ p' f
          elsewhere f h = ap (octets_of loads) (o f (current_of s t f) (λ a. h a.0))

    -- A load is given a later cycle.
    pub put : (c q : ℕ) (x : L) (G' W' : ℕ → ℕ → List L) → c < class_count s → current_of s t c < q → q < current_of s t c + bins_of s c → Sized loads x
        → G' c q ≡ G c q ++ (x ∷ []) → Else c q G G' → W' c q ≡ W c q ++ (x ∷ []) → Else c q W W' → Sound t wire G' O W'
    put c q x G' W' l late soon sizes given others e o = record {
      kept = at_each (λ d r. G' d r ≡ O d r ++ W' d r) c q
          (cc (sound.kept c q, e, given, append_assoc (O c q) (W c q) (x ∷ [])))
          (λ d r a. cc (sound.kept d r, o d r a, others d r a));
      future = sound.future;
      emptied = λ d r i h. sym (o d r (λ a. omega (arith, ap (current_of s t) a.0))) ∙ sound.emptied d r i h;
      far = λ d r i h. sym (others d r (λ a. omega (arith, ap (λ z. current_of s t z + bins_of s z) a.0))) ∙ sound.far d r i h;
      sized = at_each (λ d r. All (Sized loads) (W' d r)) c q
          (subst (All (Sized loads)) (sym e) (All-push (Sized loads) (W c q) x (sound.sized c q) sizes))
          (λ d r a. subst (All (Sized loads)) (o d r a) (sound.sized d r));
      busy = subst₂ (λ b w. Busy (cycle_of s) (times_in s) (class_count s) s.dead_time b w wire t)
          (fun_ext (λ f. ap (octets_of loads) (others f (current_of s t f) (now f))))
          (fun_ext (λ f. ap (octets_of loads) (o f (current_of s t f) (now f)))) sound.busy;
      short = sound.short;
    }
      where
        now : (f : ℕ) → (f ≡ c) × (current_of s t f ≡ q) → ⊥
        now f a = omega (arith, ap (current_of s t) a.0)

    -- A filler takes the wire while nothing waits.
    pub filled : (v : ℕ) → v ≤ 1542 → ((f : ℕ) → f < class_count s → W f (current_of s t f) ≡ []) → Sound t (t + v) G O W
    unfolding octets_of
    filled v h quiet = record {
      kept = sound.kept;
      future = sound.future;
      emptied = sound.emptied;
      far = sound.far;
      sized = sound.sized;
      busy = λ c l k. absurd (omega (arith, ap (octets_of loads) (quiet c l)));
      short = omega arith;
    }
