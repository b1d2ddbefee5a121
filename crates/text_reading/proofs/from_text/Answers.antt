-- What `from_text` leaves to show: each return hands what the callees ensure to one law of TextAnswers.
use Rattle.std.proofs.Common.{sym, arith}
use Rattle.text_networks.proofs.TextVerdicts.{number_none}
use Rattle.text_reading.proofs.TextAnswers.{refused_answer, long_answer, short_answer, records_answer}
use Rattle.text_reading.proofs.from_text.Goals as goal

pub returns-in-Err : goal.returns-in-Err
returns-in-Err c =
    refused_answer c.args.text.now c.args.problem.now c.at.result c.at.ensures.place
    (rw c.at.ensures.reason c.in-Err.ensures.number)

pub returns-then-bytes-gt60000 : goal.returns-then-bytes-gt60000
returns-then-bytes-gt60000 c =
    let told = c.in-Ok.ensures in
    let r = c.at-then-bytes-gt60000 in
    long_answer c.args.text.now c.args.problem.now (number_none _ (sym told.number)) r.result r.ensures.reason
    r.ensures.place (omega (arith, told.bytes, c.if-bytes-gt60000.true))

pub returns-then-problem-bytes : goal.returns-then-problem-bytes
returns-then-problem-bytes c =
    let told = c.in-Ok.ensures in
    let r = c.at-then-problem-bytes in
    short_answer c.args.text.now c.args.problem.now (number_none _ (sym told.number))
    (omega (arith, told.bytes, c.if-bytes-gt60000.false)) r.result r.ensures.reason r.ensures.place
    (omega (arith, told.bytes, c.if-problem-bytes.true))

pub put_records-requires : goal.put_records-requires
put_records-requires c =
    let told = c.in-Ok.ensures in (
      number_none _ (sym told.number),
      omega (arith, told.bytes, c.if-problem-bytes.false),
      omega (arith, told.bytes, c.if-bytes-gt60000.false),
    )

pub returns : goal.returns
returns c =
    let told = c.in-Ok.ensures in
    records_answer c.args.text.now c.args.problem.now (number_none _ (sym told.number))
    (omega (arith, told.bytes, c.if-bytes-gt60000.false)) (omega (arith, told.bytes, c.if-problem-bytes.false))
    told.bytes c.put_records.ensures
