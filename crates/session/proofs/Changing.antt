-- What a Pin, a Free or a Switch comes to. Assumes nothing.
use Rattle.std.proofs.Common.{◌≡◌, ℕ, ◌<◌, ◌≤◌, List, length, get_or, Option, Some, None, Bor, Err, Result, ok_or, sym, refl, ap, ◌∙◌, subst, arith}
use Rattle.std.specs.Slice.{IsItemAt}
use Rattle.network.specs.Book.{BookMeaning}
use Rattle.choosers.specs.Choice.{Machine}
use Rattle.runs.specs.declared.line.Line.{Line}
use Rattle.clash.specs.declared.fitted.Fitted.{Fitted as Values}
use Rattle.calls.specs.declared.call.Call.{Call}
use Rattle.calls.specs.declared.refusal.Refusal.{Refusal}
use Rattle.calls.specs.declared.refusal.Refusal.TheVariants.{Shut}
use Rattle.calls.specs.Answers.{to_change, to_fit}
use Rattle.calls.specs.Sheet.{Opens, Judged.shut}
use Rattle.session.specs.declared.session.Session.{Session}
use Rattle.session.specs.Calls.{sheet_of, Changed, FitCalled}

pub changed_shut : {B C : Type 0} (meaning : B → BookMeaning) (s : Session B C) (call : Call) (r : Result (Unit {0}) Refusal) → r ≡ Err Shut → (Opens (sheet_of meaning s) → ⊥)
    → Changed meaning call s (to_change r) s
changed_shut meaning s call r e never = subst (λ (x : Result (Unit {0}) Refusal). Changed meaning call s (to_change x) s) (sym e)
    (record { judged = λ z. shut never; refused = λ _. refl; done = λ z. absurd (omega arith) })

pub fit_shut : {B C : Type 0} (meaning : B → BookMeaning) (k : Machine C) (s : Session B C) (work : List ℕ) (log : List Line) (filling : List ℕ) (r : Result Values Refusal) → r ≡ Err Shut
    → (Opens (sheet_of meaning s) → ⊥) → FitCalled meaning k s work log filling (to_fit r) s work log filling
fit_shut meaning k s work log filling r e never = subst (λ (x : Result Values Refusal). FitCalled meaning k s work log filling (to_fit x) s work log filling) (sym e)
    (record { judged = shut never; refused = λ _. (refl, refl, refl, refl); done = λ z. absurd (omega arith) })

-- what is found at a place of a list, and what is answered where nothing is
pub item_found : (xs : List ℕ) {i : ℕ} {r : Option (Bor ℕ)} {x : Bor ℕ} → IsItemAt xs i r → r ≡ Some x → (i < length xs) × (get_or xs i 0 ≡ x.now)
item_found xs {i} {r} {x} h e = let k = subst (λ o. IsItemAt xs i o) e h in (k.3.0, sym (k.4 (omega arith) 0))

pub item_missing : (xs : List ℕ) {i : ℕ} {r : Option (Bor ℕ)} → IsItemAt xs i r → r ≡ None → length xs ≤ i
item_missing xs {i} h e = (subst (λ o. IsItemAt xs i o) e h).3

pub missing_says : {X : Type 0} {r : Option X} {d e : Refusal} → ◌≡◌ {A = Result X Refusal} (Err d) (ok_or r e) → r ≡ None → d ≡ e
missing_says {X} {r} {d} {e} v n = let z : ◌≡◌ {A = Result X Refusal} (Err d) (Err e) = v ∙ ap (λ o. ok_or o e) n in cc
