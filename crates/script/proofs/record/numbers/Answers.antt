use Rattle.std.proofs.Common.{◌<◌, length, take, ◌∙◌, arith, length-set, w32, SFits, rules}
use Rattle.std.proofs.lemmas.Result.{err_from_is_err_and}
use Rattle.std.proofs.lemmas.Int.{ints}
use Rattle.script.proofs.Numbering.{number_more, number_refused}
use Rattle.script.proofs.record.numbers.Goals as goal

pub returns-in_err-number : goal.returns-in_err-number
returns-in_err-number g c =
    let p = err_from_is_err_and c.from_residual.result c.from_residual.ensures.1 in
    let e = number_refused g.row.N c.loop-number.number-index c.loop-number.fields (take c.loop-number.number-index c.loop-number.number-items) c.in_err-number.field-0.0 c.next_number.result _
    (omega arith) c.loop-number.invariant.1 c.next_number.ensures.value c.in_err-number.was in
    rw (p.1, p.2) e

pub loop-number-preserved : goal.loop-number-preserved
loop-number-preserved g c =
    let z = c.in_ok-number.field-0 in
    let fits : SFits w32 z = search rules in
    let inside : c.loop-number.number-index < length c.loop-number.number-items = omega arith in (
      length-set c.loop-number.number-items c.loop-number.number-index _ ∙ c.loop-number.invariant.0,
      number_more g.row.N c.loop-number.number-index c.loop-number.fields c.next_number.new.fields c.loop-number.number-items _ z c.next_number.result _
          (omega arith) inside (omega (arith, ints)) c.loop-number.invariant.1 c.next_number.ensures.value c.in_ok-number.was c.next_number.ensures.after,
    )
