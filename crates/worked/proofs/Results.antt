-- What comes of the worked sheets, by evaluation. Assumes nothing.
use Rattle.std.proofs.Common.{◌≡◌, ℕ, ◌+◌, true, List, [], length, map, take, Some, None, Option, refl, ap, ◌∙◌, subst}
use Rattle.bits.specs.Sets.{below, members, set_of}
use Rattle.network.specs.Book.{BookMeaning}
use Rattle.choosers.specs.declared.weighted.Weighted.{Weighted}
use Rattle.choosers.specs.declared.last_conflict.LastConflict.{LastConflict}
use Rattle.clash.specs.Running.{Lasting}
use Rattle.calls.specs.declared.step.Step.{Step}
use Rattle.calls.specs.Sheet.{sheet}
use Rattle.calls.specs.Runs.{fresh, PlaysByRuns}
use Rattle.sheets.specs.Sheet.{Sheet}
use Rattle.sheets.specs.Meaning.{Means, rule_at}
use Rattle.answers.specs.Answers.{usual, usual_start}
use Rattle.worked.specs.declared.example.Example.{Example}
use Rattle.worked.specs.declared.example.Example.TheVariants.{Opposed, LoneRule, NothingPermitted, NothingForbidden, Freed}
use Rattle.worked.specs.Shows.{Show}
use Rattle.worked.specs.Examples.{lists, sheet_of, calls_of, shown_of, weights_of, Comes, Worked, Holds}
use Rattle.worked.proofs.Sound.{All, Agree}
use Rattle.worked.proofs.Evaluating.{Played, plays, opens?}
use Rattle.worked.proofs.Showing.{opens_sound, plays_sound}

-- the book that has the sheet's rules as they are stated
abbrev pub book_of : Sheet → BookMeaning
book_of s = record { count = length s.rows + length s.formulas; rule = rule_at s }

pub agrees : (s : Sheet) (m : BookMeaning) → Means s m → Agree (book_of s) m
agrees s m h = record { count = h.count; rules = λ r l. record { cells = h.cells r l; permits = λ row. h.permits r row l } }

abbrev pub Usual : Type 0
Usual = LastConflict Weighted

abbrev evaluated : Example → Option (Played Usual)
evaluated x = plays usual (book_of (sheet_of x)) (map length lists) 10 (calls_of x) [] (fresh usual_start)

-- the evaluation gives what is to come
abbrev Gives : Example → Option (Played Usual) → Type 0
Gives x None = ⊥
Gives x (Some p) = (p.shown ≡ shown_of x) × (take (length (weights_of x)) p.after.weights ≡ weights_of x)

gives : (x : Example) → Gives x (evaluated x)
unfolding members below set_of
gives Opposed = (refl, refl)
gives LoneRule = (refl, refl)
gives NothingPermitted = (refl, refl)
gives NothingForbidden = (refl, refl)
gives Freed = (refl, refl)

pub opens : (x : Example) → opens? (map length lists) (book_of (sheet_of x)) ≡ true
opens Opposed = refl
opens LoneRule = refl
opens NothingPermitted = refl
opens NothingForbidden = refl
opens Freed = refl

come : (x : Example) (after : List Step) (y : Lasting Usual) (o : Option (Played Usual)) → Gives x o → All (λ p. Show 3 p.shown after × (y ≡ p.after)) o → Comes x after y.weights
come x after y None g p = absurd g
come x after y (Some r) g p =
    (subst (λ s. Show 3 s after) g.0 p.0, ap (λ (l : Lasting Usual). take (length (weights_of x)) l.weights) p.1 ∙ g.1)

-- every play of the calls of an example
pub holds : (x : Example) → Holds x (calls_of x)
holds x m before after y means make p =
    let agree = agrees (sheet_of x) m means in
    come x after y (evaluated x) (gives x)
    (plays_sound usual (book_of (sheet_of x)) m agree (map length lists) 10 (opens_sound (map length lists) (book_of (sheet_of x)) m agree (opens x)) (calls_of x) [] (fresh usual_start) y before after make p)

pub worked : (x : Example) (lengths : List ℕ) (m : BookMeaning) (before after : List Step) (y : Lasting Usual)
    → PlaysByRuns usual (sheet lengths m) [] (fresh usual_start) before after y → Worked x lengths m before after y.weights
worked x lengths m before after y p means long make = holds x m before after y means make (subst (λ l. PlaysByRuns usual (sheet l m) [] (fresh usual_start) before after y) long p)
