use Rattle.std.proofs.Common.{◌++◌, replicate, pos, string_bytes, ap, ap₂, ◌∙◌, arith}
use Rattle.std.proofs.lemmas.Result.{IfOk-weaker}
use Rattle.reader.specs.Formula.{number, offset}
use Rattle.text.specs.Text.{fault_text}
use Rattle.preview.specs.Preview.{faulty, read, fault_line, permits, told, permitted, rows, list_of}
use Rattle.preview.proofs.Answering.{stands_there, standing_there, cells_there, fault_there}
use Rattle.preview.proofs.push_answer.Goals as goal

pub push_permits-requires : goal.push_permits-requires
push_permits-requires c = standing_there c.in-Ok.ensures.read c.requires.short (c.read.auto.nodes ∙ c.requires.store)

pub returns-in-Err : goal.returns-in-Err
returns-in-Err c =
    let e = fault_there (record { few = omega (arith, c.requires.store); room = omega (arith, c.requires.short, c.requires.store) }) c.in-Err.ensures.read in
    IfOk-weaker c.push_fault.result _ _
    (λ _ t. (
      fault_line e.0.flaw e.0.offset,
      t ∙ ap₂ (λ n k. string_bytes c.args.out.now ++ fault_text n k) (c.number.ensures ∙ ap number e.1) (c.offset.ensures ∙ ap offset e.1),
      faulty c.args.lists.fit c.requires.short e.0.flaw e.0.offset e.2,
    )) c.push_fault.ensures

pub returns-in-Ok : goal.returns-in-Ok
returns-in-Ok c =
    IfOk-weaker c.push_permits.result _ _
    (λ _ g.
    let r = c.in-Ok.ensures.read in
    let lists = list_of c.args.lists.lengths.now c.args.lists.numbers.now in (
      permits c.args.lists.lengths.now c.args.lists.numbers.now r.is,
      g r.is (stands_there r) ∙ ap (λ l. string_bytes c.args.out.now ++ told l (permitted r.is (rows lists l (replicate 64 (pos 0))))) (cells_there r c.from-width.result c.from-width.ensures),
      read c.args.lists.fit c.requires.short r.is r.accepted,
    )) c.push_permits.ensures
