-- A port that stands after a history takes a call by the rules as a module does.
use Rattle.std.proofs.Common.{sym, ap, ◌∙◌}
use Rattle.schedule.specs.Modules.{State}
use Rattle.schedule.specs.Histories.{Call, Answer, next_of, after}
use Rattle.placers.specs.Placers.{Duties}
use Rattle.port.specs.declared.ports.Port.{Port}
use Rattle.port.specs.Standing as standing
use Rattle.port.specs.Standing.{module_of, parts_of, Stands, ByRules}
use Rattle.line.specs.Banks.{Meaning, Takes}

module _ {R P L Record : Type 0} (m : standing.Meaning R P L Record) (duties : Duties m.rules) where
  abbrev kind : Meaning
  kind = record { Load = L; Record = Record; loads = m.loads; rules = m.rules; duties = duties }

  pub takes : (call : Call L) (was is : Port R P) (r : Answer L) → ByRules m call was is r
      → Takes kind call (λ h. Stands m.loads m.rules h.told h.begun h.calls (parts_of m was)) (λ h. Stands m.loads m.rules h.told h.begun h.calls (parts_of m is)) (module_of m was) (module_of m is)
  unfolding after
  takes call was is r went = record {
    next = λ h s. (went h.told h.begun h.calls s).stands.state ∙ ap (λ (a : State L Record). next_of m.loads m.rules a call) (sym s.state);
    onward = λ h s. (went h.told h.begun h.calls s).stands;
  }
