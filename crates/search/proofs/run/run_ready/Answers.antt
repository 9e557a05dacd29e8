use Rattle.std.proofs.Common.{ℕ, List, length, sym, ap, ◌∙◌, rules, subst, subst₂}
use Rattle.network.specs.Fillings.{Meetable}
use Rattle.runs.specs.declared.line.Line.{Line}
use Rattle.runs.specs.Run.{Searches, Run, Run.ran}
use Rattle.runs.specs.Settle.{state}
use Rattle.runs.specs.Law.{Right, Fills, OnlyRun}
use Rattle.runs.proofs.Running.{run_right, run_fills}
use Rattle.runs.proofs.OneRun.{only_run}
use Rattle.settling.specs.Kept.{state_of}
use Rattle.search.specs.Room.{Able}
use Rattle.search.proofs.Rooms.{first_room}
use Rattle.search.proofs.run.run_ready.Goals as goal

pub search-found-requires : goal.search-found-requires
search-found-requires g c =
    subst (λ (x : List ℕ). Able x (length c.args.work.now)) (sym c.copy_from_slice.ensures.after)
    (record {
      few = c.requires.ready.few;
      full = c.requires.ready.full;
      room = first_room c.args.start.now (length c.args.work.now) c.requires.ready.few c.requires.room.free;
    })

-- the sets and the weights that were lent are those of the progress
pub returns : goal.returns
returns g c =
    let k = g.C.Chooser.meaning in
    let m = g.B.RuleBook.meaning c.args.book.now in
    let t = state_of c.search-found.new.progress in
    let is = sym c.line_of.ensures in
    let a = ran (subst₂ (λ (x : g.row.C.Denot) (s : List ℕ). Searches k m c.args.listed x (state s 0 c.args.weights.now) c.search-found.result c.search-found.new.chooser t)
    c.tell.ensures c.copy_from_slice.ensures.after c.search-found.ensures.steps) in
    let law = g.B.RuleBook.laws c.args.book.now in
    let Ran : Line → List ℕ → List ℕ → Type 0 = λ l w s. Run k m c.args.start.now c.args.listed c.args.chooser.now c.args.weights.now l c.search-found.new.chooser w s in
    let Only : Line → List ℕ → List ℕ → Type 0 = λ l w s. OnlyRun k m c.args.start.now c.args.listed c.args.chooser.now c.args.weights.now l c.search-found.new.chooser w s in
    record {
      steps = subst₂ (Ran c.line_of.result) (search rules) (search rules) (subst (λ (l : Line). Ran l t.weights t.sets) is a);
      only = subst₂ (Only c.line_of.result) (search rules) (search rules) (subst (λ (l : Line). Only l t.weights t.sets) is (only_run a));
      lists = ap (λ (l : Line). l.listed) c.line_of.ensures;
      right = subst (Right (Meetable m c.args.start.now)) is (run_right k g.C.Chooser.laws m law c.args.start.now c.args.listed c.requires.ready a);
      fills = λ e. subst (Fills m c.args.start.now c.args.listed) (search rules)
          (run_fills k g.C.Chooser.laws m law c.args.start.now c.args.listed c.requires.ready a (ap (λ (l : Line). l.verdict) is ∙ e));
    }
