-- From the runs of a Fit to what it returns. Assumes nothing.
use Rattle.std.proofs.Common.{◌≡◌, ℕ, ◌<◌, ◌≤◌, ◌≢◌, Bool, true, false, cond, ltb, List, length, get_or, take, drop, Some, None, Option, is_some, sym, refl, ◌∙◌, subst, subst₂, arith}
use Rattle.std.proofs.lemmas.List.{ext_get_or, get_or-take, length-take-le}
use Rattle.std.proofs.lemmas.Bool.{ltb-true}
use Rattle.bits.specs.Sets.{In}
use Rattle.bits.proofs.Bits.{has_zero}
use Rattle.network.specs.Book.{BookMeaning, Lawful}
use Rattle.network.specs.Fillings.{Meetable}
use Rattle.choosers.specs.Choice.{Machine, Naming}
use Rattle.runs.specs.declared.line.Line.{Line}
use Rattle.runs.specs.Law.{Ready, Fills, Alone}
use Rattle.cores.specs.Core.{Outcome, Outcome.left, Outcome.core}
use Rattle.cores.specs.Fit.{Fit}
use Rattle.clash.specs.declared.fitted.Fitted.{Fitted as Values}
use Rattle.clash.specs.Running.{lasting}
use Rattle.clash.specs.Logged.{Answers, Logged}
use Rattle.calls.specs.Sheet.{cells, Opens}
use Rattle.calls.specs.History.{Valid}
use Rattle.calls.specs.Runs.{Ran, Comes, FitRuns, FitLaw}
use Rattle.calls.proofs.Fillings.{ready, few_rules, starts_long, where_small, where_low}
use Rattle.calls.proofs.Following.{only_fit}
use Rattle.calls.proofs.Promising.{first_run, runs_law}
use Rattle.session.specs.Pins.{held, LowestByte}
use Rattle.session.specs.declared.session.Session.{Session}
use Rattle.session.specs.Calls.{sheet_of, lasting_of, with_lasting, table_start, table_on, Solved}

-- what a test of a core says of it
pub none_from_test : (o : Option ℕ) → is_some o ≡ false → o ≡ None
none_from_test None e = refl
none_from_test (Some x) e = cc

pub some_from_test : (o : Option ℕ) → is_some o ≡ true → o ≢ None
some_from_test None e z = let q : false ≡ true = e in cc
some_from_test (Some x) e z = cc

-- a pin that is held is a place of its list
held_place : (places : ℕ) (o : Option ℕ) (v : ℕ) → held places o ≡ Some v → v < places
held_place places None v e = absurd (let z : ◌≡◌ {A = ℕ} 0 1 = cc in omega arith)
held_place places (Some w) v e = go (ltb w places) refl e
  where
    go : (b : Bool) → ltb w places ≡ b → cond b (Some w) None ≡ Some v → v < places
    go true t q = let z : w ≡ v = cc in let l = ltb-true w places t in omega arith
    go false t q = absurd (let z : ◌≡◌ {A = ℕ} 0 1 = cc in omega arith)

held_valid : (lengths : List ℕ) (pins : List (Option ℕ)) → Valid lengths (λ c. held (get_or lengths c 0) (get_or pins c None))
held_valid lengths pins = record { listed = λ c v lt e. held_place (get_or lengths c 0) (get_or pins c None) v e }

-- the lowest places of the sets that a run left are its filling
lowest_filling : {m : BookMeaning} {start sets : List ℕ} {on : ℕ} (bytes : List ℕ) → Fills m start on sets → length sets ≤ length bytes
    → ((c : ℕ) → c < length sets → LowestByte (get_or sets c 0) (get_or bytes c 0)) → Alone sets (take (length sets) bytes)
lowest_filling {sets = sets} bytes p room low =
    let wide : length (take (length sets) bytes) ≡ length sets = length-take-le (length sets) bytes room in
    let e : p.filling ≡ take (length sets) bytes = ext_get_or 0 p.filling (take (length sets) bytes) (p.left.there.long ∙ sym wide) (λ c lt.
    let l : c < length sets = let a = p.left.there.long in omega arith in
    let r = p.left.there.each c l in
    let q = (low c l).some (λ z. has_zero (get_or p.filling c 0) (subst (λ (x : ℕ). In x (get_or p.filling c 0)) z r.1)) in
    sym (get_or-take (length sets) bytes c 0 l ∙ p.left.only c (get_or bytes c 0) (q.1, q.0.there))) in
    subst (Alone sets) e p.left

module _ {B C : Type 0} (meaning : B → BookMeaning) (k : Machine C) (naming : Naming k) (s : Session B C) (law : Lawful (meaning s.book)) (opens : Opens (sheet_of meaning s)) where
  abbrev the_start : List ℕ
  the_start = table_start s.lengths.now s.table

  abbrev the_on : ℕ
  the_on = table_on (meaning s.book) s.table

  pub table_ready : {start : List ℕ} {on : ℕ} → start ≡ the_start → on ≡ the_on → Ready (meaning s.book) start on
  table_ready {start} {on} e f = subst₂ (Ready (meaning s.book)) (sym e) (sym f)
      (ready (sheet_of meaning s) opens law (λ c. held (get_or s.lengths.now c 0) (get_or s.table.pins c None)) (held_valid s.lengths.now s.table.pins) the_on
      (where_small (λ r. get_or s.table.switches r false) (meaning s.book).count))

  the_long : length the_start ≡ cells (sheet_of meaning s)
  the_long = starts_long s.lengths.now (λ c. held (get_or s.lengths.now c 0) (get_or s.table.pins c None))

  module _ {start sets : List ℕ} {on : ℕ} {log log' : List Line} {f : Values} {c : C} {w : List ℕ} (e : start ≡ the_start) (i : on ≡ the_on)
      (p : Logged (Ran k (meaning s.book) start) (Meetable (meaning s.book) start) on (lasting_of s) log f (lasting c w) sets log') (same : length sets ≡ cells (sheet_of meaning s)) where
    runs_are : Fit (Ran k (meaning s.book) the_start) the_on (lasting_of s) (take f.lines log') p.out (lasting c w)
    runs_are = subst₂ (λ (x : List ℕ) (y : ℕ). Fit (Ran k (meaning s.book) x) y (lasting_of s) (take f.lines log') p.out (lasting c w)) e i p.runs

    comes_filled : (bytes : List ℕ) → length sets ≤ length bytes → ((c : ℕ) → c < length sets → LowestByte (get_or sets c 0) (get_or bytes c 0))
        → (out : Outcome (List ℕ)) → Fit (Ran k (meaning s.book) the_start) the_on (lasting_of s) (take f.lines log') out (lasting c w) → Answers out f sets
        → Comes out f (take (length the_start) bytes)
    comes_filled bytes room low (left o) r a =
        let q : Fills (meaning s.book) the_start the_on sets = subst (Fills (meaning s.book) the_start the_on) a.1 (first_run k naming (sheet_of meaning s) law r) in
        (a.0, subst₂ (λ (x : List ℕ) (y : ℕ). Alone x (take y bytes)) (sym a.1) (same ∙ sym the_long) (lowest_filling bytes q room low))
    comes_filled bytes room low (core d) r a = a

    -- its runs, and with them what these come to
    done : (bytes : List ℕ) → Comes p.out f (take (length the_start) bytes) → FitRuns k (meaning s.book) the_start the_on (lasting_of s) log' bytes f (lasting c w)
    done bytes comes = record { out = p.out; runs = runs_are; comes = comes; counted = p.inside }

    law_of : (bytes : List ℕ) → Comes p.out f (take (length the_start) bytes) → FitLaw (meaning s.book) the_start the_on log' bytes f
    law_of bytes comes = runs_law k naming (sheet_of meaning s) law (where_low (λ r. get_or s.table.switches r false) (meaning s.book).count (few_rules (sheet_of meaning s) opens)) (done bytes comes)

    pub solved_filled : (filling bytes : List ℕ) → f.core ≡ None → length sets ≤ length bytes
        → ((c : ℕ) → c < length sets → LowestByte (get_or sets c 0) (get_or bytes c 0)) → drop (length sets) bytes ≡ drop (length sets) filling
        → Solved meaning k s log filling f (with_lasting s (lasting c w)) log' bytes
    solved_filled filling bytes v room low later = record {
      kept = refl;
      runs = done bytes (comes_filled bytes room low p.out runs_are p.answers);
      only = only_fit k (sheet_of meaning s) (done bytes (comes_filled bytes room low p.out runs_are p.answers));
      law = law_of bytes (comes_filled bytes room low p.out runs_are p.answers);
      keeps = record { rest = p.keeps; later = λ _. subst (λ (n : ℕ). drop n bytes ≡ drop n filling) same later; bytes = λ some. absurd (some v) };
    }

    comes_clashed : f.core ≢ None → (bytes : List ℕ) (out : Outcome (List ℕ)) → Answers out f sets → Comes out f bytes
    comes_clashed ne bytes (left o) a = absurd (ne a.0)
    comes_clashed ne bytes (core d) a = a

    pub solved_clashed : (filling : List ℕ) → f.core ≢ None → Solved meaning k s log filling f (with_lasting s (lasting c w)) log' filling
    solved_clashed filling ne = record {
      kept = refl;
      runs = done filling (comes_clashed ne (take (length the_start) filling) p.out p.answers);
      only = only_fit k (sheet_of meaning s) (done filling (comes_clashed ne (take (length the_start) filling) p.out p.answers));
      law = law_of filling (comes_clashed ne (take (length the_start) filling) p.out p.answers);
      keeps = record { rest = p.keeps; later = λ z. absurd (ne z); bytes = λ _. refl };
    }
