-- What fit prints for the worked sheets. Assumes nothing.
use Rattle.std.proofs.Common.{◌≡◌, ℕ, zero, suc, ◌+◌, ◌<◌, ◌≤◌, ◌≢◌, true, List, [], ◌∷◌, length, get_or, map, Some, None, Option, pos, sym, refl, ap, ◌∙◌, subst, arith}
use Rattle.std.proofs.lemmas.Option.{none-some, same_Some}
use Rattle.std.specs.Prelude.{unsigned_abs}
use Rattle.bits.specs.Sets.{below, members, set_of}
use Rattle.network.specs.Book.{BookMeaning}
use Rattle.rows.specs.declared.rule.Kind.{Kind}
use Rattle.rows.specs.declared.rule.Kind.TheVariants.{Permitted, Forbidden}
use Rattle.clash.specs.declared.fitted.Fitted.{Fitted as Values}
use Rattle.calls.specs.declared.answer.Answer.TheVariants.{Fitted}
use Rattle.calls.specs.declared.step.Step.{Step}
use Rattle.calls.specs.Sheet.{Sheet, sheet, Checked, passes, lists as no_lists, rules as many_rules, missing, Opens}
use Rattle.calls.specs.Promise.{filling_of}
use Rattle.calls.specs.Runs.{fresh}
use Rattle.calls.proofs.Fillings.{listed, few_rules, named}
use Rattle.formulas.specs.declared.node.Relation.{Relation}
use Rattle.formulas.specs.declared.node.Relation.TheVariants.{Equal, NotEqual, Less}
use Rattle.formulas.specs.Tree.{compares, cells_of, numeral}
use Rattle.sheets.specs.Sheet.{Sheet as Stated, GoodList, GoodRows, GoodFormula, Good, file_of}
use Rattle.sheets.specs.Meaning.{number_at}
use Rattle.sheets.proofs.Exact.{read_unique, read_not_refused}
use Rattle.report.specs.Report.{fits_text, clash_text}
use Rattle.storage.specs.Outcome.{too_long, faulty, read}
use Rattle.answers.specs.Answers.{usual, usual_start, FitText, unopened, fits, clashes, SheetText, Answers, refused, read as read_as}
use Rattle.worked.specs.declared.example.Example.{Example}
use Rattle.worked.specs.declared.example.Example.TheVariants.{Opposed, LoneRule, NothingPermitted, NothingForbidden, Freed}
use Rattle.worked.specs.Shows.{Shown, done, filled, clashed}
use Rattle.worked.specs.Examples.{lists, cell, number, opposed, with_no_row, sheet_of, text_of}
use Rattle.worked.proofs.Sound.{All, all_map, Agree}
use Rattle.worked.proofs.Evaluating.{Doing, do_fit, opens?}
use Rattle.worked.proofs.Showing.{opens_sound, FitShows, FitDone, fit_done}
use Rattle.worked.proofs.Results.{Usual, book_of, agrees, opens}

-- ---- the text of what a Fit shows
abbrev told : Stated → Shown → List ℕ
told s done = []
told s (filled lines f) = fits_text (length lines) (length (map length s.lists)) (λ c. number_at s.lists c (get_or f c 0))
told s (clashed lines core) = clash_text (length lines) core

same_values : {f g : Values} → Fitted f ≡ Fitted g → f ≡ g
same_values e = cc

told_fits : (s : Stated) (m : BookMeaning) (a : Step) (f : Values) (x : Shown) → FitShows (length (map length s.lists)) a f x → f.core ≡ None
    → fits_text f.lines (length (map length s.lists)) (λ c. number_at s.lists c (get_or (filling_of (sheet (map length s.lists) m) a) c 0)) ≡ told s x
told_fits s m a f done p e = absurd (let z : ◌≡◌ {A = ℕ} 0 1 = let q = p.values in cc in omega arith)
told_fits s m a f (filled lines g) p e =
    ap (λ (v : Values). fits_text v.lines (length (map length s.lists)) (λ c. number_at s.lists c (get_or (filling_of (sheet (map length s.lists) m) a) c 0))) (same_values p.values)
    ∙ ap (λ h. fits_text (length lines) (length (map length s.lists)) (λ c. number_at s.lists c (get_or h c 0))) p.written.1
told_fits s m a f (clashed lines core) p e = absurd (none-some core (sym e ∙ ap (λ (v : Values). v.core) (same_values p.values)))

told_clashes : (s : Stated) (a : Step) (f : Values) (core : ℕ) (x : Shown) → FitShows (length (map length s.lists)) a f x → f.core ≡ Some core → clash_text f.lines core ≡ told s x
told_clashes s a f core done p e = absurd (let z : ◌≡◌ {A = ℕ} 0 1 = let q = p.values in cc in omega arith)
told_clashes s a f core (filled lines g) p e = absurd (none-some core (sym (ap (λ (v : Values). v.core) (same_values p.values)) ∙ e))
told_clashes s a f core (clashed lines c) p e =
    let v = same_values p.values in
    ap (λ (w : Values). clash_text w.lines core) v ∙ ap (clash_text (length lines)) (same_Some core c (sym e ∙ ap (λ (w : Values). w.core) v))

-- an open session is not refused
not_refused : (s : Sheet) (n : ℕ) → Opens s → n ≢ 0 → Checked s n → ⊥
not_refused s n o ne (passes l r m) = ne refl
not_refused s n o ne (no_lists x) = x (listed s o)
not_refused s n o ne (many_rules l x) = let f = few_rules s o in omega arith
not_refused s n o ne (missing l r x) = x (named s o)

module _ (s : Stated) where
  abbrev evaluated : Option (Doing Usual)
  evaluated = do_fit usual (book_of s) (map length s.lists) 10 [] (fresh usual_start)

  fit_told : (m : BookMeaning) → Agree (book_of s) m → Opens (sheet (map length s.lists) m) → (t : List ℕ) → FitText usual usual_start (sheet (map length s.lists) m) (number_at s.lists) t
      → All (λ d. t ≡ told s d.shown) evaluated
  fit_told m agree o t (unopened {n = n} c ne) = absurd (not_refused (sheet (map length s.lists) m) n o ne c)
  fit_told m agree o t (fits {a = a} {f = f} {y = y} o' p r e) =
      all_map (FitDone usual (book_of s) m agree (map length s.lists) 10 a f y) (λ d. t ≡ told s d.shown) evaluated (λ d q. told_fits s m a f d.shown q.0 e)
      (fit_done usual (book_of s) m agree (map length s.lists) 10 [] (fresh usual_start) y a f r)
  fit_told m agree o t (clashes {a = a} {f = f} {core = core} {y = y} o' p r e) =
      all_map (FitDone usual (book_of s) m agree (map length s.lists) 10 a f y) (λ d. t ≡ told s d.shown) evaluated (λ d q. told_clashes s a f core d.shown q.0 e)
      (fit_done usual (book_of s) m agree (map length s.lists) 10 [] (fresh usual_start) y a f r)

  sheet_told : opens? (map length s.lists) (book_of s) ≡ true → (t : List ℕ) → SheetText s t → All (λ d. t ≡ told s d.shown) evaluated
  sheet_told e t p = fit_told p.book (agrees s p.book p.means) (opens_sound (map length s.lists) (book_of s) p.book (agrees s p.book p.means) e) t p.fit

-- the text of what the evaluation gives is the text that is to be printed
abbrev Tells : Example → Option (Doing Usual) → Type 0
Tells x None = ⊥
Tells x (Some d) = told (sheet_of x) d.shown ≡ text_of x

tells : (x : Example) → Tells x (evaluated (sheet_of x))
unfolding members below set_of numeral
tells Opposed = refl
tells LoneRule = refl
tells NothingPermitted = refl
tells NothingForbidden = refl
tells Freed = refl

told_text : (x : Example) (t : List ℕ) (o : Option (Doing Usual)) → Tells x o → All (λ d. t ≡ told (sheet_of x) d.shown) o → t ≡ text_of x
told_text x t None e p = absurd e
told_text x t (Some d) e p = p ∙ e

-- ---- the files are read
same_pos : {a b : ℕ} → pos a ≡ pos b → a ≡ b
same_pos e = cc

number_in : (k : ℕ) → k < 3 → get_or (pos 1 ∷ pos 2 ∷ pos 3 ∷ []) k (pos 0) ≡ pos (k + 1)
number_in zero h = refl
number_in (suc zero) h = refl
number_in (suc (suc zero)) h = refl
number_in (suc (suc (suc k))) h = absurd (omega arith)

good_list : GoodList (pos 1 ∷ pos 2 ∷ pos 3 ∷ [])
good_list = record {
  some = omega arith;
  few = omega arith;
  small = λ k h. subst (λ z. unsigned_abs z ≤ 1000000) (sym (number_in k h)) (omega arith);
  apart = λ j k l h e. let q = same_pos (sym (number_in j (omega arith)) ∙ e ∙ number_in k h) in omega arith;
}

good_rule : (kind : Kind) → GoodRows lists (record { kind = kind; cells = 0 ∷ []; rows = [] })
good_rule kind = record {
  some = omega arith;
  few = omega arith;
  known = only;
  apart = λ j k l h e. absurd (omega arith);
  rows = λ i h. absurd (omega arith);
}
  where
    only : (k : ℕ) → k < 1 → get_or (0 ∷ []) k 0 < 3
    only zero h = omega arith
    only (suc k) h = absurd (omega arith)

-- a formula on two different cells of three, and one on a cell and a number
good_pair : (a b : ℕ) (r : Relation) → a < 3 → b < 3 → length (cells_of (compares (cell a) r (cell b))) ≡ 2 → GoodFormula lists (compares (cell a) r (cell b))
good_pair a b r la lb e = record { said = refl; known = ((la, tt), (lb, tt)); shallow = omega arith; some = omega (arith, e); few = omega (arith, e) }

good_number : (a n : ℕ) (r : Relation) → a < 3 → n ≤ 1000000 → GoodFormula lists (compares (cell a) r (number n))
good_number a n r la ln = record { said = refl; known = ((la, tt), ln); shallow = omega arith; some = omega arith; few = omega arith }

good_no_row : (kind : Kind) → Good (with_no_row kind)
good_no_row kind = record { few_cells = omega arith; few_rules = omega arith; lists = (good_list, (good_list, (good_list, tt))); rows = (good_rule kind, tt); formulas = tt }

good_opposed : Good opposed
good_opposed = record {
  few_cells = omega arith;
  few_rules = omega arith;
  lists = (good_list, (good_list, (good_list, tt)));
  rows = tt;
  formulas = (good_pair 0 1 Less (omega arith) (omega arith) refl, (good_pair 1 0 Less (omega arith) (omega arith) refl, (good_number 2 2 Equal (omega arith) (omega arith), tt)));
}

pub good : (x : Example) → Good (sheet_of x)
good Opposed = good_opposed
good LoneRule = record {
  few_cells = omega arith;
  few_rules = omega arith;
  lists = (good_list, (good_list, (good_list, tt)));
  rows = tt;
  formulas = (good_pair 0 1 Less (omega arith) (omega arith) refl, (good_number 0 1 NotEqual (omega arith) (omega arith), (good_number 2 1 Less (omega arith) (omega arith), tt)));
}
good NothingPermitted = good_no_row Permitted
good NothingForbidden = good_no_row Forbidden
good Freed = good_opposed

pub short : (x : Example) → length (file_of (sheet_of x)) < 32768
unfolding numeral
short Opposed = omega arith
short LoneRule = omega arith
short NothingPermitted = omega arith
short NothingForbidden = omega arith
short Freed = omega arith

pub answers_worked : (x : Example) (t : List ℕ) → Answers (file_of (sheet_of x)) t → t ≡ text_of x
answers_worked x t (refused (too_long l)) = absurd (let h = short x in omega arith)
answers_worked x t (refused (faulty {e = e} l r)) = absurd (read_not_refused (file_of (sheet_of x)) (sheet_of x) e (record { good = good x; said = refl }) r)
answers_worked x t (read_as {s = s} (read l r) p) =
    let same : s ≡ sheet_of x = read_unique (file_of (sheet_of x)) s (sheet_of x) r (record { good = good x; said = refl }) in
    told_text x t (evaluated (sheet_of x)) (tells x) (sheet_told (sheet_of x) (opened x) t (subst (λ z. SheetText z t) same p))
  where
    opened : (x : Example) → opens? (map length (sheet_of x).lists) (book_of (sheet_of x)) ≡ true
    opened Opposed = opens Opposed
    opened LoneRule = opens LoneRule
    opened NothingPermitted = opens NothingPermitted
    opened NothingForbidden = opens NothingForbidden
    opened Freed = opens Freed
