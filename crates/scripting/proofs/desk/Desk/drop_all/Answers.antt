use Rattle.std.proofs.Common.{◌∙◌, rules}
use Rattle.scripting.proofs.Dropping.{dropping-more, dropping-all}
use Rattle.scripting.proofs.desk.Desk.drop_all.Goals as goal

pub loop-stream-preserved : goal.loop-stream-preserved
loop-stream-preserved g c =
    dropping-more _ _ _ _ _ _ _ (search rules) c.loop-stream.self.full c.drop_note.ensures.answer c.drop_note.ensures.next
    c.is_ok.ensures.value c.loop-stream.invariant

pub returns : goal.returns
returns g c =
    let i = c.loop-stream.invariant in
    record {
      dropped = dropping-all _ _ _ _ (search rules) i;
      none = λ s h. c.loop-stream.self.paired s h ∙ i.gone s (search rules);
    }
