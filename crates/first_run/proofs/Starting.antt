-- What a first run starts from. Assumes nothing.
use Rattle.std.proofs.Common.{◌≡◌, ℕ, ◌-◌, ◌^◌, ◌<◌, ◌≤◌, List, replicate, true, None, sym, ap, ◌∙◌, subst, subst₂, ⊎_elim, arith}
use Rattle.std.proofs.lemmas.Bool.{cases_lt}
use Rattle.std.proofs.lemmas.Option.{none-some}
use Rattle.network.specs.Book.{Lawful}
use Rattle.network.specs.Fillings.{Meetable}
use Rattle.choosers.specs.declared.weighted.Weighted.{Weighted}
use Rattle.choosers.specs.declared.last_conflict.LastConflict.{LastConflict}
use Rattle.runs.specs.declared.line.Line.{Line}
use Rattle.runs.specs.declared.line.Verdict.TheVariants.{Met}
use Rattle.runs.specs.Run.{Run}
use Rattle.runs.specs.Law.{Ready, Right, Fills}
use Rattle.calls.specs.Sheet.{Sheet, Opens}
use Rattle.calls.specs.History.{set_where}
use Rattle.calls.specs.Runs.{starts}
use Rattle.calls.proofs.Fillings.{ready, where_small}
use Rattle.answers.specs.Answers.{usual, usual_start}
use Rattle.first_run.specs.FirstRun.{OneRun}

-- the first places of a list that is not too long
pub first_whole : (n s : ℕ) → n ≤ 64 → (n < 64 → s ≡ 2 ^ n - 1) → (64 ≤ n → s ≡ 2 ^ 64 - 1) → s ≡ 2 ^ n - 1
first_whole n s le some all =
    ⊎_elim some (λ l. all l ∙ ap (λ k. 2 ^ k - 1) (let e : 64 ≡ n = omega (arith, l, le) in e)) (cases_lt n 64)

module _ (s : Sheet) (law : Lawful s.book) (opens : Opens s) {start : List ℕ} {on : ℕ} (e : start ≡ starts s.lengths (λ c. None)) (f : on ≡ set_where (λ r. true) s.book.count) where
  pub first_ready : Ready s.book start on
  first_ready = subst₂ (Ready s.book) (sym e) (sym f)
      (ready s opens law (λ c. None) (record { listed = λ c v lt i. absurd (none-some v i) }) (set_where (λ r. true) s.book.count) (where_small (λ r. true) s.book.count))

  pub first_made : (x : LastConflict Weighted) {line : Line} {y : LastConflict Weighted} {weights sets left : List ℕ} → x ≡ usual_start
      → Run usual s.book start on x (replicate 64 1) line y weights sets → Right (Meetable s.book start) line → (line.verdict ≡ Met → Fills s.book start on sets) → left ≡ sets
      → OneRun s line weights left
  first_made x {line} {y} {weights} {sets} {left} i run right fills same = record {
    chooser = y;
    run = subst (λ l. Run usual s.book (starts s.lengths (λ c. None)) (set_where (λ r. true) s.book.count) usual_start (replicate 64 1) line y weights l) (sym same)
        (subst (λ z. Run usual s.book (starts s.lengths (λ c. None)) (set_where (λ r. true) s.book.count) z (replicate 64 1) line y weights sets) i
        (subst₂ (λ a b. Run usual s.book a b x (replicate 64 1) line y weights sets) e f run));
    right = subst (λ a. Right (Meetable s.book a) line) e right;
    fills = λ m. subst (Fills s.book (starts s.lengths (λ c. None)) (set_where (λ r. true) s.book.count)) (sym same) (subst₂ (λ a b. Fills s.book a b sets) e f (fills m));
  }
