use Rattle.std.proofs.Common.{◌≡◌, ℕ, List, [], ◌∙◌, subst, ap₂, subst₂}
use Rattle.clash.specs.Running.{Lasting, lasting}
use Rattle.calls.specs.Sheet.{Sheet, sheet}
use Rattle.calls.specs.Plays.{Plays}
use Rattle.calls.specs.Runs.{StepDone, fresh}
use Rattle.calls.proofs.Promising.{plays_promise, plays_runs}
use Rattle.calls.proofs.Following.{plays_follow}
use Rattle.session.specs.Calls.{sheet_of, lasting_of}
use Rattle.play.specs.Held.{Holds, latest}
use Rattle.play.proofs.Playing.{holds_none}
use Rattle.play.proofs.play.Goals as goal

pub make_all-requires : goal.make_all-requires
make_all-requires g c = let o = c.new-session.ensures in holds_none c.new-session.result.lengths.now c.new-session.result.table o.pins o.switches

pub returns : goal.returns
returns g c =
    let meaning = g.B.RuleBook.meaning in
    let k = g.C.Chooser.meaning in
    let o = c.new-session.ensures in
    let made = c.new-session.result in
    let s = sheet c.args.lengths.now (meaning c.args.book) in
    let is : sheet_of meaning made ≡ s = ap₂ (λ (l : List ℕ) (b : g.row.B.Denot). sheet l (meaning b)) o.lists o.book_is in
    let last : lasting_of made ≡ fresh c.args.chooser = ap₂ lasting o.chooser_is o.weights in
    let p = subst₂ (λ (z : Sheet) (x : Lasting g.row.C.Denot). Plays z (StepDone k z) [] x c.args.steps.now c.make_all.new.steps (lasting_of c.make_all.new.session)) is last c.make_all.ensures.plays in
    let runs = plays_runs k s p in
    record {
      fillings_and_cores = plays_promise k g.C.Chooser.laws s (g.B.RuleBook.laws c.args.book) p;
      runs = runs;
      follows = plays_follow k s runs;
      sheet = c.make_all.ensures.sheet ∙ is;
      book = c.make_all.ensures.book ∙ o.book_is;
      table = subst (λ (z : Sheet). Holds z.lengths (latest [] c.make_all.new.steps) c.make_all.new.session.table) is c.make_all.ensures.table;
    }
