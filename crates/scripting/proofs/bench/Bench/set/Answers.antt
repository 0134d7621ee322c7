use Rattle.std.proofs.Common.{Some, Ok, ap, ◌∙◌}
use Rattle.book.specs.Sets.{numbers_of}
use Rattle.book.specs.Books.{new_book}
use Rattle.scripting.specs.declared.answers.Done.TheVariants.{Set}
use Rattle.scripting.specs.Notes.{in_hand}
use Rattle.scripting.specs.Benches.{bench_of, empty_bench, with_book}
use Rattle.scripting.proofs.Calling.{errs}
use Rattle.scripting.proofs.Carrying.{set-accepted, set-refused}
use Rattle.scripting.proofs.bench.Bench.set.Goals as goal

pub returns-in_err-checked : goal.returns-in_err-checked
returns-in_err-checked c =
    let r = set-refused (bench_of c.args.self.now) c.args.delay c.args.dead_time _ _ c.setup.ensures c.in_err-checked.ensures.0 in
    record { answer = errs _ _ c.from_residual.ensures.1 ∙ r.0; next = c.use_up.ensures ∙ r.1 }

pub returns : goal.returns
returns c =
    let r = set-accepted (bench_of c.args.self.now) c.args.delay c.args.dead_time _ c.setup.ensures c.in_ok-checked.ensures.0 in
    record {
      answer = ap (λ d. Ok (Set d)) (c.set-dropped.ensures.dropped ∙ ap (λ x. in_hand x.book) c.use_up.ensures) ∙ r.0;
      next = ap (with_book (bench_of c.use_up.new.self)) c.set-dropped.ensures.next
          ∙ ap (λ x. with_book x (Some (new_book (numbers_of c.in_ok-checked.field-0)))) c.use_up.ensures
          ∙ ap (λ x. with_book empty_bench (Some (new_book x))) c.in_ok-checked.ensures.1 ∙ r.1;
    }
