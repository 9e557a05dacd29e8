use Rattle.sheets.specs.Stored.{held}
use Rattle.std.proofs.lemmas.Result.{IfOk-weaker}
use Rattle.sheet_books.specs.Books.{lent, book_of}
use Rattle.answers.proofs.Stating.{sheet_text}
use Rattle.answers.proofs.answer.push_sheet.Goals as goal

pub returns : goal.returns
returns c = IfOk-weaker c.push_fit.result _ _
    (λ _ p. λ s holds. (p.0, p.1, sheet_text (held c.args.stores.now) c.args.extent s holds (book_of (lent c.books.result)) (c.books.ensures.means s holds) c.lengths.result.now p.0 (c.lengths.ensures.means s holds) p.2))
    c.push_fit.ensures
