use Rattle.std.proofs.Common.{◌≡◌, take, drop, not, ap, ◌∙◌, arith}
use Rattle.std.proofs.lemmas.List.Sums.{prefix_len-le-length}
use Rattle.scripting.specs.Words.{is_gap, past_gaps, until_gap, from_gap}
use Rattle.scripting.proofs.Reading.{gap-drop, word-take, word-drop}
use Rattle.scripting.proofs.words.Words.next.Goals as goal

pub split_at-requires : goal.split_at-requires
split_at-requires c = let h = prefix_len-le-length is_gap c.args.self.now.rest.now in omega (arith, c.gap.ensures)

pub split_at-requires-2 : goal.split_at-requires-2
split_at-requires-2 c = let h = prefix_len-le-length (λ b. not (is_gap b)) c.split_at.result.1.now in omega (arith, c.run.ensures)

pub returns : goal.returns
returns c =
    let line = c.args.self.now.rest.now in
    let from = c.split_at.result.1.now in
    let e : from ≡ past_gaps line = c.split_at.ensures.back ∙ ap (λ n. drop n line) c.gap.ensures ∙ gap-drop line in
    let g = prefix_len-le-length is_gap line in
    let r = prefix_len-le-length (λ b. not (is_gap b)) from in
    record {
      word = c.split_at-2.ensures.front ∙ ap (λ n. take n from) c.run.ensures ∙ word-take from ∙ ap until_gap e;
      rest = c.split_at-2.ensures.back ∙ ap (λ n. drop n from) c.run.ensures ∙ word-drop from ∙ ap from_gap e;
      bound = omega (arith, c.split_at.ensures.back_len, c.split_at-2.ensures.front_len, c.split_at-2.ensures.back_len, c.gap.ensures, c.run.ensures);
    }
