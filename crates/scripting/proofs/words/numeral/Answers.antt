use Rattle.std.proofs.Common.{◌≡◌, ◌+◌, ◌-◌, ◌*◌, ◌<◌, get_or, drop, ap, ◌∙◌, arith, rules}
use Rattle.scripting.specs.Numerals.{digits_after}
use Rattle.scripting.proofs.Reading.{digit-more, digit-stop, digit-end, digits-over, worded}
use Rattle.scripting.proofs.words.numeral.Goals as goal

pub returns-then-not-is_ascii_digit : goal.returns-then-not-is_ascii_digit
returns-then-not-is_ascii_digit c =
    record {
      value = digit-stop c.args.most c.loop-byte.value c.args.word.now c.loop-byte.byte-index (search rules) (search rules)
          ∙ c.loop-byte.invariant.0 ∙ worded c.args.most c.args.word.now (search rules);
      bound = search rules;
    }

pub returns-then-next-from : goal.returns-then-next-from
returns-then-next-from c =
    let b = get_or c.args.word.now c.loop-byte.byte-index 0 in
    let l : c.args.most < c.loop-byte.value * 10 + (b - 48) = omega arith in
    record {
      value = digits-over c.args.most _ (drop (c.loop-byte.byte-index + 1) c.args.word.now) l
          ∙ digit-more c.args.most c.loop-byte.value c.args.word.now c.loop-byte.byte-index (search rules) (search rules)
          ∙ c.loop-byte.invariant.0 ∙ worded c.args.most c.args.word.now (search rules);
      bound = search rules;
    }

pub loop-byte-preserved : goal.loop-byte-preserved
loop-byte-preserved c =
    let b = get_or c.args.word.now c.loop-byte.byte-index 0 in
    let e : c.from.result * 10 + c.from-in-loop-byte.result ≡ c.loop-byte.value * 10 + (b - 48) = omega arith in (
      ap (λ n. digits_after c.args.most n (drop (c.loop-byte.byte-index + 1) c.args.word.now)) e
          ∙ digit-more c.args.most c.loop-byte.value c.args.word.now c.loop-byte.byte-index (search rules) (search rules)
          ∙ c.loop-byte.invariant.0,
      search rules,
    )

pub returns : goal.returns
returns c =
    record {
      value = digit-end c.args.most c.loop-byte.value c.args.word.now c.loop-byte.byte-index c.loop-byte-test.false (search rules)
          ∙ c.loop-byte.invariant.0 ∙ worded c.args.most c.args.word.now (search rules);
      bound = search rules;
    }
