-- One Fit that was played, and its text. Assumes nothing.
use Rattle.std.proofs.Common.{◌≡◌, ℕ, suc, ◌+◌, ◌<◌, ◌≤◌, List, [], ◌∷◌, ◌++◌, length, get_or, ℤ, vec_items, codes, sym, refl, ap, ◌∙◌, subst, arith}
use Rattle.std.specs.List.{range_with_len, flat_map}
use Rattle.std.proofs.lemmas.List.{get_or-take}
use Rattle.choosers.specs.Choice.{Machine}
use Rattle.clash.specs.declared.fitted.Fitted.{Fitted as Values}
use Rattle.clash.specs.Running.{Lasting}
use Rattle.calls.specs.declared.call.Call.{Call}
use Rattle.calls.specs.declared.call.Call.TheVariants.{Fit}
use Rattle.calls.specs.declared.answer.Answer.TheVariants.{Fitted}
use Rattle.calls.specs.declared.step.Step.{Step}
use Rattle.calls.specs.Answers.{said, returned}
use Rattle.calls.specs.Sheet.{Sheet, cells, Sizes, Checked, passes, lists, rules, missing, Opens, Enough, Judged, Judged.fits}
use Rattle.calls.specs.History.{Did}
use Rattle.calls.specs.Plays.{sizes, Plays, refused, changed, fitted}
use Rattle.calls.specs.Promise.{filling_of, Ended, filled, clashed, FillingOrCore, FillingsAndCores}
use Rattle.calls.specs.Runs.{StepRuns, PlaysByRuns, fresh}
use Rattle.calls.proofs.Following.{judged_same, said_same, returned_same}
use Rattle.formulas.specs.Tree.{numeral}
use Rattle.report.specs.Report.{cell_line, fits_text}
use Rattle.answers.specs.Answers.{fitted_text, answer_text, FitText, fits, clashes}

-- an open session has few cells
few : (s : Sheet) (n : ℕ) → n ≡ 0 → Checked s n → length s.lengths ≤ 64
few s n e (passes l r m) = l.few
few s n e (lists x) = absurd (omega (arith, e))
few s n e (rules l x) = absurd (omega (arith, e))
few s n e (missing l r x) = absurd (omega (arith, e))

pub opens_few : (s : Sheet) → Opens s → length s.lengths ≤ 64
opens_few s o = few s 0 refl o

judged_done : {s : Sheet} {z : Sizes} {call : Call} {n : ℕ} → call ≡ Fit → Opens s → Enough z → Judged s z call n → n ≡ 0
judged_done {s} {z} {n = n} e o enough j = judged_same (subst (λ c. Judged s z c n) e j) (Judged.fits o enough)

-- one Fit that was made, by what a Fit is to do
record Made {S : Type 0} (s : Sheet) (F : List Did → S → Step → Step → Values → S → Type 0) (x : S) (b : Step) (after : List Step) : Type 0 where
  one : Step
  alone : after ≡ one ∷ []
  values : Values
  says : said one.answer ≡ returned values
  left : S
  does : F [] x b one values left

made : {S : Type 0} {s : Sheet} {F : List Did → S → Step → Step → Values → S → Type 0} {x u : S} (b : Step) {after : List Step} → b.call ≡ Fit → Opens s → Enough (sizes b.buffers)
    → Plays s F [] x (b ∷ []) after u → Made s F x b after
made b call o enough (Plays.more {a = a} (refused j ne q w) Plays.none) = absurd (ne (judged_done call o enough j))
made b call o enough (Plays.more {a = a} (changed j ne q w) Plays.none) = absurd (ne call)
made b call o enough (Plays.more {t = t} {a = a} (fitted {f = f} j e q i d) Plays.none) = record { one = a; alone = refl; values = f; says = q; left = t; does = d }

joined_same : {X : Type 0} (f g : ℕ → List X) (a n : ℕ) → ((c : ℕ) → a ≤ c → c < a + n → f c ≡ g c) → flat_map f (range_with_len a n) ≡ flat_map g (range_with_len a n)
joined_same f g a Prim.Native.Nat.zero h = refl
joined_same f g a (suc n) h =
    λ i. h a (omega arith) (omega arith) i ++ joined_same f g (a + 1) n (λ c p q. h c (omega arith) (omega arith)) i

-- the same text for the same numbers
pub fits_same : (lines n : ℕ) (f g : ℕ → ℤ) → ((c : ℕ) → c < n → f c ≡ g c) → fits_text lines n f ≡ fits_text lines n g
fits_same lines n f g h =
    ap (λ l. codes "FITS " ++ (numeral lines ++ (10 ∷ l))) (joined_same (λ c. cell_line c (f c)) (λ c. cell_line c (g c)) 0 n (λ c p q. ap (cell_line c) (h c (omega arith))))

ends : {C : Type 0} (k : Machine C) (c : C) (s : Sheet) (number : ℕ → ℕ → ℤ) {b a : Step} {f : Values} {y : Lasting C} → Opens s → FillingOrCore s [] b a f → StepRuns k s [] (fresh c) a f y → Ended s [] a f
    → FitText k c s number (answer_text (cells s) (λ x. number x (get_or (vec_items a.buffers.filling) x 0)) (Fitted f))
ends k c s number {a = a} {f = f} o p r (filled z) =
    let whole : ℕ → ℤ = λ x. number x (get_or (vec_items a.buffers.filling) x 0) in
    let part : ℕ → ℤ = λ x. number x (get_or (filling_of s a) x 0) in
    let same : fits_text f.lines (cells s) whole ≡ fits_text f.lines (cells s) part =
    fits_same f.lines (cells s) whole part (λ x h. ap (number x) (sym (get_or-take (cells s) (vec_items a.buffers.filling) x 0 h))) in
    subst (FitText k c s number) (sym (ap (fitted_text f.lines (cells s) whole) z.no_core ∙ same)) (fits o p r z.no_core)
ends k c s number {a = a} {f = f} o p r (clashed z) =
    let whole : ℕ → ℤ = λ x. number x (get_or (vec_items a.buffers.filling) x 0) in
    subst (FitText k c s number) (sym (ap (fitted_text f.lines (cells s) whole) z.is)) (clashes o p r z.is)

-- what is told of it
pub told : {C : Type 0} (k : Machine C) (c : C) (s : Sheet) (number : ℕ → ℕ → ℤ) (b : Step) (after : List Step) (y : Lasting C) → b.call ≡ Fit → Opens s → Enough (sizes b.buffers)
    → FillingsAndCores s (b ∷ []) after → PlaysByRuns k s [] (fresh c) (b ∷ []) after y
    → (a : Step) → a ≡ get_or after 0 a → FitText k c s number (answer_text (cells s) (λ x. number x (get_or (vec_items a.buffers.filling) x 0)) a.answer)
told {C} k c s number b after y call o enough promise runs a is =
    let p = made b call o enough promise in
    let r = made b call o enough runs in
    let e : p.one ≡ a = sym (is ∙ ap (λ l. get_or l 0 a) p.alone) in
    let i : r.one ≡ a = sym (is ∙ ap (λ l. get_or l 0 a) r.alone) in
    let f = p.values in
    let says : said a.answer ≡ returned f = ap (λ (x : Step). said x.answer) (sym e) ∙ p.says in
    let v = returned_same r.values f (sym r.says ∙ ap (λ (x : Step). said x.answer) i ∙ says) in
    let promised : FillingOrCore s [] b a f = subst (λ x. FillingOrCore s [] b x f) e p.does in
    let ran : StepRuns k s [] (fresh c) a f r.left = subst (λ x. StepRuns k s [] (fresh c) a x r.left) v (subst (λ x. StepRuns k s [] (fresh c) x r.values r.left) i r.does) in
    subst (λ x. FitText k c s number (answer_text (cells s) (λ n. number n (get_or (vec_items a.buffers.filling) n 0)) x)) (sym (said_same a.answer (Fitted f) says))
    (ends k c s number o promised ran promised.ended)
